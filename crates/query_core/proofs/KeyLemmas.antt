-- A text names at most one list of keys.
use Rattle.std.proofs.Common.{◌≡◌, ℕ, List, [], ◌∷◌, ◌++◌, length, take, Bool, Some, sym, ap, ◌∙◌, subst, arith, length-append}
use Rattle.dobj_field.specs.declared.field.Field.{Field}
use Rattle.query_text.proofs.OneValues.{tails, one_field, same_cut}
use Rattle.query_core.specs.declared.order.SortKey.{SortKey}
use Rattle.query_text.specs.declared.parts.Stop.TheVariants.{Comma, White}
use Rattle.query_text.specs.Parts.{untaken, past_white}
use Rattle.query_core.specs.Sorting.{IsSortPart, AreSortParts, NamesKeys}
use Rattle.query_core.proofs.SortingLemmas.{part_known}

some_flag : (a b : Bool) → Some a ≡ Some b → a ≡ b
some_flag a b same = cc

same_key : (f g : Field) (a b : Bool) → f ≡ g → a ≡ b
    → (let one : SortKey = record { field = f; descending = a } in let other : SortKey =
    record { field = g; descending = b } in one ≡ other)
same_key f g a b fields flags = cc

one_part : (part : List ℕ) (one other : SortKey) → IsSortPart part one → IsSortPart part other → one ≡ other
one_part part one other a b =
    let n = untaken White (past_white part) in
    let first = part_known part one a in
    let second = part_known part other b in
    same_key one.field other.field one.descending other.descending
    (one_field (take n (past_white part)) one.field other.field first.0 second.0)
    (some_flag one.descending other.descending (sym first.1 ∙ second.1))

too_short : (text part rest : List ℕ) → text ≡ part ++ 44 ∷ rest → untaken Comma text ≡ length text
    → untaken Comma text ≡ length part → ⊥
too_short text part rest are one other =
    omega (arith, one, other, ap (length {A = ℕ}) are, length-append part (44 ∷ rest))

same_parts : (text part rest other after : List ℕ) → text ≡ part ++ 44 ∷ rest → text ≡ other ++ 44 ∷ after
    → untaken Comma text ≡ length part → untaken Comma text ≡ length other
    → (part ≡ other) × (rest ≡ after)
same_parts text part rest other after one two far also =
    let long : length part ≡ length other = sym far ∙ also in
    let parts = same_cut part (44 ∷ rest) other (44 ∷ after) long (sym one ∙ two) in
    (parts.0, tails 44 44 rest after parts.1)

one_list_of : (keys others : List SortKey) (text : List ℕ) → AreSortParts text keys → AreSortParts text others
    → keys ≡ others
one_list_of [] others text a b = absurd a
one_list_of (key ∷ []) [] text a b = absurd b
one_list_of (key ∷ []) (other ∷ []) text a b = ap (λ k. k ∷ []) (one_part text key other a.1 b.1)
one_list_of (key ∷ []) (other ∷ next ∷ others) text a (part, rest, are, far, first, more) =
    absurd (too_short text part rest are a.0 far)
one_list_of (key ∷ next ∷ keys) [] text a b = absurd b
one_list_of (key ∷ next ∷ keys) (other ∷ []) text (part, rest, are, far, first, more) b =
    absurd (too_short text part rest are b.0 far)
one_list_of (key ∷ next ∷ keys) (other ∷ then ∷ others) text (part, rest, are, far, first, more)
    (part2, rest2, are2, far2, first2, more2) =
    let same = same_parts text part rest part2 rest2 are are2 far far2 in
    let heads_are : key ≡ other = one_part part key other first (subst (λ p. IsSortPart p other) (sym same.0) first2) in
    let tails_are : next ∷ keys ≡ then ∷ others =
    one_list_of (next ∷ keys) (then ∷ others) rest more
    (subst (λ r. AreSortParts r (then ∷ others)) (sym same.1) more2) in
    ap (λ k. k ∷ next ∷ keys) heads_are ∙ ap (λ l. other ∷ l) tails_are

pub one_list : (text : List ℕ) (keys others : List SortKey) → NamesKeys text keys → NamesKeys text others
    → keys ≡ others
one_list [] keys others a b = a ∙ sym b
one_list (x ∷ text) keys others a b = one_list_of keys others (x ∷ text) a b
