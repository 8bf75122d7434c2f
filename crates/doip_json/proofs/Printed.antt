-- The tokens of a value print as its canonical text.
use Rattle.std.proofs.Common.{◌≡◌, ℕ, List, [], ◌∷◌, ◌++◌, Bool, true, false, refl, sym, ap, ◌∙◌, append_assoc, append-nil}
use Rattle.std.specs.List.{join_with_byte}
use Rattle.json.specs.Token as json
use Rattle.json.specs.Print.{print, print_from, quoted, escape_byte}
use Rattle.doip_json.specs.Value.{Value, null, truth, whole, text, list, table, Values, no_values, value, Entries, no_entries, entry, values_from, entries_from}
use Rattle.doip_json.specs.Text.{text_of, item_texts, entry_texts, string_of}
use Rattle.doip_json.specs.Tokens.{tokens_of, item_tokens, entry_tokens}

pub item_tokens-append : (vs : List Value) (v : Value) → item_tokens (values_from (vs ++ v ∷ [])) ≡ item_tokens (values_from vs) ++ tokens_of v
item_tokens-append [] v = append-nil (tokens_of v)
item_tokens-append (w ∷ vs) v = ap (λ ts. tokens_of w ++ ts) (item_tokens-append vs v) ∙ sym (append_assoc (tokens_of w) _ _)

pub entry_tokens-append : (es : List (List ℕ × Value)) (k : List ℕ) (v : Value) → entry_tokens (entries_from (es ++ (k, v) ∷ [])) ≡ entry_tokens (entries_from es) ++ json.key k ∷ tokens_of v
entry_tokens-append [] k v = ap (λ ts. json.key k ∷ ts) (append-nil (tokens_of v))
entry_tokens-append (e ∷ es) k v = ap (λ ts. json.key e.0 ∷ (tokens_of e.1 ++ ts)) (entry_tokens-append es k v) ∙ ap (λ ts. json.key e.0 ∷ ts) (sym (append_assoc (tokens_of e.1) _ _))

pub quoted_same : (s : List ℕ) → quoted s ≡ string_of s
unfolding escape_byte
quoted_same s = refl

-- each text after a comma
abbrev more : List (List ℕ) → List ℕ
more [] = []
more (x ∷ xs) = 44 ∷ (x ++ more xs)

joined : (x : List ℕ) (xs : List (List ℕ)) → join_with_byte 44 (x ∷ xs) ≡ x ++ more xs
joined x [] = sym (append-nil x)
joined x (y ∷ ys) = ap (λ s. x ++ 44 ∷ s) (joined y ys)

abbrev comma_if : Bool → List ℕ
comma_if true = 44 ∷ []
comma_if false = []

shift : (a b c : List ℕ) → a ++ (b ++ c) ≡ (a ++ b) ++ c
shift a b c = sym (append_assoc a b c)

shift_last : (a b : List ℕ) (x : ℕ) (c : List ℕ) → a ++ (b ++ x ∷ c) ≡ ((a ++ b) ++ x ∷ []) ++ c
shift_last a b x c = simp append_assoc

named_last : (q a b : List ℕ) (x : ℕ) (c : List ℕ) → (q ++ 58 ∷ []) ++ (a ++ (b ++ x ∷ c)) ≡ (((q ++ 58 ∷ a) ++ b) ++ x ∷ []) ++ c
named_last q a b x c = simp append_assoc

named : (q a b c : List ℕ) → (q ++ 58 ∷ []) ++ (a ++ (b ++ c)) ≡ ((q ++ 58 ∷ a) ++ b) ++ c
named q a b c = simp append_assoc

mutual
  unfolding print_from

  -- a value, where something may stand before it
  pub print_value : (later : Bool) (v : Value) (ts : List json.Token) → print_from later (tokens_of v ++ ts) ≡ comma_if later ++ (text_of v ++ print_from true ts)
  print_value true null ts = refl
  print_value false null ts = refl
  print_value true (truth true) ts = refl
  print_value false (truth true) ts = refl
  print_value true (truth false) ts = refl
  print_value false (truth false) ts = refl
  print_value true (whole z) ts = refl
  print_value false (whole z) ts = refl
  print_value true (text s) ts = ap (λ q. 44 ∷ (q ++ print_from true ts)) (quoted_same s)
  print_value false (text s) ts = ap (λ q. q ++ print_from true ts) (quoted_same s)
  print_value true (list vs) ts = ap (λ s. 44 ∷ 91 ∷ s) (print_list vs ts)
  print_value false (list vs) ts = ap (λ s. 91 ∷ s) (print_list vs ts)
  print_value true (table es) ts = ap (λ s. 44 ∷ 123 ∷ s) (print_table es ts)
  print_value false (table es) ts = ap (λ s. 123 ∷ s) (print_table es ts)

  -- items after the bracket, up to the closing one
  print_list : (vs : Values) (ts : List json.Token) → print_from false ((item_tokens vs ++ json.end_array ∷ []) ++ ts) ≡ (join_with_byte 44 (item_texts vs) ++ 93 ∷ []) ++ print_from true ts
  print_list no_values ts = refl
  print_list (value v vs) ts =
      let rest = item_tokens vs ++ (json.end_array ∷ ts) in
      let shape : ((tokens_of v ++ item_tokens vs) ++ json.end_array ∷ []) ++ ts ≡ tokens_of v ++ rest = simp append_assoc in
      let end = print_items vs (json.end_array ∷ ts) in
      ap (print_from false) shape ∙ (print_value false v rest ∙ (ap (λ s. text_of v ++ s) end
      ∙ (shift_last (text_of v) (more (item_texts vs)) 93 (print_from true ts) ∙ ap (λ s. (s ++ 93 ∷ []) ++ print_from true ts) (sym (joined (text_of v) (item_texts vs))))))

  -- items after an item
  print_items : (vs : Values) (ts : List json.Token) → print_from true (item_tokens vs ++ ts) ≡ more (item_texts vs) ++ print_from true ts
  print_items no_values ts = refl
  print_items (value v vs) ts =
      ap (print_from true) (append_assoc (tokens_of v) (item_tokens vs) ts) ∙ (print_value true v (item_tokens vs ++ ts) ∙ ap (λ s. 44 ∷ s) (ap (λ s. text_of v ++ s) (print_items vs ts) ∙ shift (text_of v) _ _))

  print_table : (es : Entries) (ts : List json.Token) → print_from false ((entry_tokens es ++ json.end_object ∷ []) ++ ts) ≡ (join_with_byte 44 (entry_texts es) ++ 125 ∷ []) ++ print_from true ts
  print_table no_entries ts = refl
  print_table (entry k v es) ts =
      let rest = entry_tokens es ++ (json.end_object ∷ ts) in
      let shape : ((tokens_of v ++ entry_tokens es) ++ json.end_object ∷ []) ++ ts ≡ tokens_of v ++ rest = simp append_assoc in
      let end = print_entries es (json.end_object ∷ ts) in
      let body = text_of v ++ (more (entry_texts es) ++ 125 ∷ print_from true ts) in
      let inner = ap (print_from false) shape ∙ (print_value false v rest ∙ ap (λ s. text_of v ++ s) end) in
      ap (λ s. (quoted k ++ 58 ∷ []) ++ s) inner
      ∙ (ap (λ q. (q ++ 58 ∷ []) ++ body) (quoted_same k)
      ∙ (named_last (string_of k) (text_of v) (more (entry_texts es)) 125 (print_from true ts)
      ∙ ap (λ s. (s ++ 125 ∷ []) ++ print_from true ts) (sym (joined (string_of k ++ 58 ∷ text_of v) (entry_texts es)))))

  print_entries : (es : Entries) (ts : List json.Token) → print_from true (entry_tokens es ++ ts) ≡ more (entry_texts es) ++ print_from true ts
  print_entries no_entries ts = refl
  print_entries (entry k v es) ts =
      let body = text_of v ++ (more (entry_texts es) ++ print_from true ts) in
      let inner = ap (print_from false) (append_assoc (tokens_of v) (entry_tokens es) ts) ∙ (print_value false v (entry_tokens es ++ ts) ∙ ap (λ s. text_of v ++ s) (print_entries es ts)) in
      ap (λ s. 44 ∷ ((quoted k ++ 58 ∷ []) ++ s)) inner
      ∙ (ap (λ q. 44 ∷ ((q ++ 58 ∷ []) ++ body)) (quoted_same k)
      ∙ ap (λ s. 44 ∷ s) (named (string_of k) (text_of v) (more (entry_texts es)) (print_from true ts)))

pub print-tokens_of : (v : Value) → print (tokens_of v) ≡ text_of v
unfolding print_from
print-tokens_of v = ap print (sym (append-nil (tokens_of v))) ∙ (print_value false v [] ∙ append-nil (text_of v))
