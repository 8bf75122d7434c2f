-- The tokens of a tree are those of the text, and their print is no longer than it.
use Rattle.std.proofs.Common.{◌≡◌, ℕ, ◌+◌, max, List, [], ◌∷◌, ◌++◌, length, zero, suc, Bool, true, false, Option, Some, None, option_and_then, refl, sym, ap, ◌∙◌, subst, arith, append_assoc}
use Rattle.std.specs.Prelude.{⊤}
use Rattle.std.proofs.lemmas.List.{length-append}
use Rattle.json.specs.Token.{Token, begin_object, end_object, begin_array, end_array, key, string, number, boolean, null, bad}
use Rattle.json.specs.Json.{Json, array, object, Items, no_items, item, Members, no_members, member, Parse, parse_map, after_end_array, read_key, items_step, members_step, items, members, value_with, value}
use Rattle.json.specs.Json as tree
use Rattle.json.specs.Tree.{json_tokens, items_tokens, members_tokens}
use Rattle.json.specs.Print.{print_from, quoted}
use Rattle.json.proofs.Grammar.{closed_array, read_key_is}
use Rattle.doip_json.proofs.Sizes.{tree_size, tree_items, tree_members}
use Rattle.doip_json.specs.Text.{string_of}
use Rattle.doip_json.proofs.Printed.{quoted_same}

-- what was read, and the rest, are the tokens
abbrev pub Splits : {A : Type 0} → (A → List Token) → List Token → Option (A × List Token) → Type 0
Splits f ts None = ⊤
Splits f ts (Some p) = ts ≡ f p.0 ++ p.1

mapped : {A B : Type 0} (f : A → List Token) (g : B → List Token) (h : A → B) (t : Token) (ts : List Token) (o : Option (A × List Token))
    → ((a : A) → g (h a) ≡ t ∷ f a) → Splits f ts o → Splits g (t ∷ ts) (parse_map h o)
mapped f g h t ts None is s = tt
mapped f g h t ts (Some p) is s = ap (λ (us : List Token). t ∷ us) s ∙ ap (λ (us : List Token). us ++ p.1) (sym (is p.0))

module _ (p : Parse Json) (splits : (ts : List Token) → Splits json_tokens ts (p ts)) where
  item_then : (ts : List Token) (more : Parse Items) → ((us : List Token) → Splits items_tokens us (more us)) → (o : Option (Json × List Token)) → Splits json_tokens ts o
      → Splits items_tokens ts (option_and_then (λ q. parse_map (item q.0) (more q.1)) o)
  item_then ts more again None s = tt
  item_then ts more again (Some q) s = rest (more q.1) (again q.1)
    where
      rest : (o : Option (Items × List Token)) → Splits items_tokens q.1 o → Splits items_tokens ts (parse_map (item q.0) o)
      rest None h = tt
      rest (Some r) h = s ∙ ap (λ (us : List Token). json_tokens q.0 ++ us) h ∙ sym (append_assoc (json_tokens q.0) (items_tokens r.0) r.1)

  items_turn : (ts : List Token) (more : Parse Items) → ((us : List Token) → Splits items_tokens us (more us)) → (o : Option (List Token)) → after_end_array ts ≡ o
      → Splits items_tokens ts (items_step p more ts o)
  items_turn ts more again None e = item_then ts more again (p ts) (splits ts)
  items_turn ts more again (Some r) e = closed_array ts r e

  items_split : (n : ℕ) (ts : List Token) → Splits items_tokens ts (items p n ts)
  unfolding items
  items_split zero ts = tt
  items_split (suc n) ts = items_turn ts (items p n) (items_split n) (after_end_array ts) refl

  member_then : (k : List ℕ) (ts : List Token) (more : Parse Members) → ((us : List Token) → Splits members_tokens us (more us)) → (o : Option (Json × List Token)) → Splits json_tokens ts o
      → Splits members_tokens (key k ∷ ts) (option_and_then (λ q. parse_map (member k q.0) (more q.1)) o)
  member_then k ts more again None s = tt
  member_then k ts more again (Some q) s = rest (more q.1) (again q.1)
    where
      rest : (o : Option (Members × List Token)) → Splits members_tokens q.1 o → Splits members_tokens (key k ∷ ts) (parse_map (member k q.0) o)
      rest None h = tt
      rest (Some r) h = ap (λ (us : List Token). key k ∷ us) (s ∙ ap (λ (us : List Token). json_tokens q.0 ++ us) h ∙ sym (append_assoc (json_tokens q.0) (members_tokens r.0) r.1))

  members_turn : (ts : List Token) (more : Parse Members) → ((us : List Token) → Splits members_tokens us (more us)) → (o : Option (Option (List ℕ) × List Token)) → read_key ts ≡ o
      → Splits members_tokens ts (option_and_then (λ q. members_step p more q.0 q.1) o)
  members_turn ts more again None e = tt
  members_turn ts more again (Some (None, us)) e = read_key_is ts None us e
  members_turn ts more again (Some (Some k, us)) e =
      subst (λ (all : List Token). Splits members_tokens all (members_step p more (Some k) us)) (sym (read_key_is ts (Some k) us e)) (member_then k us more again (p us) (splits us))

  members_split : (n : ℕ) (ts : List Token) → Splits members_tokens ts (members p n ts)
  unfolding members
  members_split zero ts = tt
  members_split (suc n) ts = members_turn ts (members p n) (members_split n) (read_key ts) refl

with_split : (a : Parse Items) (o : Parse Members) → ((ts : List Token) → Splits items_tokens ts (a ts)) → ((ts : List Token) → Splits members_tokens ts (o ts))
    → (ts : List Token) → Splits json_tokens ts (value_with a o ts)
with_split a o f g [] = tt
with_split a o f g (begin_object ∷ ts) = mapped members_tokens json_tokens object begin_object ts (o ts) (λ m. refl) (g ts)
with_split a o f g (end_object ∷ ts) = tt
with_split a o f g (begin_array ∷ ts) = mapped items_tokens json_tokens array begin_array ts (a ts) (λ m. refl) (f ts)
with_split a o f g (end_array ∷ ts) = tt
with_split a o f g (key s ∷ ts) = tt
with_split a o f g (string s ∷ ts) = refl
with_split a o f g (number s ∷ ts) = refl
with_split a o f g (boolean b ∷ ts) = refl
with_split a o f g (null ∷ ts) = refl
with_split a o f g (bad ∷ ts) = tt

-- the tokens that a value is read from are its own
pub value_splits : (depth : ℕ) (ts : List Token) → Splits json_tokens ts (value depth ts)
unfolding value
value_splits zero = with_split (λ ts. None) (λ ts. None) (λ ts. tt) (λ ts. tt)
value_splits (suc d) =
    with_split (λ ts. items (value d) (length ts) ts) (λ ts. members (value d) (length ts) ts)
    (λ ts. items_split (value d) (value_splits d) (length ts) ts) (λ ts. members_split (value d) (value_splits d) (length ts) ts)

-- ---- their print

abbrev comma_size : Bool → ℕ
comma_size true = 1
comma_size false = 0

abbrev items_first : Bool → Items → ℕ
items_first true js = tree_items js + 1
items_first false js = max 1 (tree_items js)

abbrev members_first : Bool → Members → ℕ
members_first true ms = tree_members ms + 1
members_first false ms = max 1 (tree_members ms)

key_first : (k rest : List ℕ) → length ((quoted k ++ 58 ∷ []) ++ rest) ≡ length (string_of k) + 1 + length rest
key_first k rest = omega (arith, length-append (quoted k ++ 58 ∷ []) rest, length-append (quoted k) (58 ∷ []), ap length (quoted_same k))

mutual
  unfolding print_from

  pub print_size : (b : Bool) (j : Json) (ts : List Token) → length (print_from b (json_tokens j ++ ts)) ≡ comma_size b + tree_size j + length (print_from true ts)
  print_size true tree.null ts = omega arith
  print_size false tree.null ts = omega arith
  print_size true (tree.boolean true) ts = omega arith
  print_size true (tree.boolean false) ts = omega arith
  print_size false (tree.boolean true) ts = omega arith
  print_size false (tree.boolean false) ts = omega arith
  print_size true (tree.number s) ts = omega (arith, length-append s (print_from true ts))
  print_size false (tree.number s) ts = omega (arith, length-append s (print_from true ts))
  print_size true (tree.string s) ts = omega (arith, length-append (quoted s) (print_from true ts), ap length (quoted_same s))
  print_size false (tree.string s) ts = omega (arith, length-append (quoted s) (print_from true ts), ap length (quoted_same s))
  print_size true (array js) ts = omega (arith, print_items_size false js ts)
  print_size false (array js) ts = omega (arith, print_items_size false js ts)
  print_size true (object ms) ts = omega (arith, print_members_size false ms ts)
  print_size false (object ms) ts = omega (arith, print_members_size false ms ts)

  print_items_size : (b : Bool) (js : Items) (ts : List Token) → length (print_from b (items_tokens js ++ ts)) ≡ items_first b js + length (print_from true ts)
  print_items_size true no_items ts = omega arith
  print_items_size false no_items ts = omega arith
  print_items_size true (item j js) ts =
      omega (arith, ap (λ us. length (print_from true us)) (append_assoc (json_tokens j) (items_tokens js) ts), print_size true j (items_tokens js ++ ts), print_items_size true js ts)
  print_items_size false (item j js) ts =
      omega (arith, ap (λ us. length (print_from false us)) (append_assoc (json_tokens j) (items_tokens js) ts), print_size false j (items_tokens js ++ ts), print_items_size true js ts)

  print_members_size : (b : Bool) (ms : Members) (ts : List Token) → length (print_from b (members_tokens ms ++ ts)) ≡ members_first b ms + length (print_from true ts)
  print_members_size true no_members ts = omega arith
  print_members_size false no_members ts = omega arith
  print_members_size true (member k j ms) ts =
      let us : List Token = (json_tokens j ++ members_tokens ms) ++ ts in
      omega (
        arith,
        key_first k (print_from false us),
        ap (λ all. length (print_from false all)) (append_assoc (json_tokens j) (members_tokens ms) ts),
        print_size false j (members_tokens ms ++ ts),
        print_members_size true ms ts,
      )
  print_members_size false (member k j ms) ts =
      let us : List Token = (json_tokens j ++ members_tokens ms) ++ ts in
      omega (
        arith,
        key_first k (print_from false us),
        ap (λ all. length (print_from false all)) (append_assoc (json_tokens j) (members_tokens ms) ts),
        print_size false j (members_tokens ms ++ ts),
        print_members_size true ms ts,
      )
