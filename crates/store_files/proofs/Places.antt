-- The length of a list of format 1.
use Rattle.std.proofs.Common.{◌≡◌, ◌∙◌, ℕ, ◌+◌, List, [], ◌∷◌, ◌++◌, length, take, slice_get, Some, ap, arith}
use Rattle.std.proofs.lemmas.List.{take_more, length-append}
use Rattle.std.proofs.lemmas.Option.{slice_get_within, get_or_from_slice_get}
use Rattle.journal_core.specs.File.{listed, opened}
use Rattle.journal_core.specs.declared.layout.Format.TheVariants.{First}
use Rattle.journal_core.specs.declared.records.Record.{Record}
use Rattle.journal_core.proofs.Written.{listed_push, length-content_of}

length-opened : (r : Record) → length (opened First r) ≡ 9 + length r.body
length-opened r = omega (arith, length-content_of First r)

-- one record more
pub list_next : (rs : List Record) (i : ℕ) (r : Record) → slice_get rs i ≡ Some r → length (listed First (take (i + 1) rs)) ≡ length (listed First (take i rs)) + (9 + length r.body)
list_next rs i r is =
    ap (λ (l : List Record). length (listed First l)) (take_more rs i r (slice_get_within rs i r is) ∙ ap (λ (x : Record). take i rs ++ x ∷ []) (get_or_from_slice_get rs i r r is))
    ∙ ap length (listed_push First (take i rs) r)
    ∙ length-append (listed First (take i rs)) (opened First r)
    ∙ ap (λ (n : ℕ). length (listed First (take i rs)) + n) (length-opened r)
