use Rattle.std.proofs.Common.{◌≡◌, ◌++◌, List, ℕ, length, take, drop, sym, ◌∙◌, ap, arith, length-drop, take-append-drop}
use Rattle.std.proofs.lemmas.List.{take_all, drop-drop}
use Rattle.journal_core.proofs.area.parts_of.Goals as goal

pub returns-clause-bytes : goal.returns-clause-bytes
returns-clause-bytes c = three_parts c.args.fields.now _ _ _ c.told-fields
    (sym c.copy_from_slice.ensures.after ∙ c.length_of-3.ensures.bytes) (sym c.copy_from_slice-2.ensures.after ∙ c.length_of.ensures.bytes) (sym c.copy_from_slice-3.ensures.after ∙ c.length_of-2.ensures.bytes)
  where
    three_parts : (l a b c : List ℕ) → length l ≡ 24 → take 8 l ≡ a → take 8 (drop 8 l) ≡ b → take 8 (drop 16 l) ≡ c → l ≡ a ++ (b ++ c)
    three_parts l a b c size first second third =
        let last : drop 16 l ≡ c = sym (take_all 8 (drop 16 l) (omega (arith, length-drop 16 l, size))) ∙ third in
        let rest : drop 8 l ≡ b ++ c =
        sym (take-append-drop 8 (drop 8 l)) ∙ ap (λ (x : List ℕ). x ++ drop 8 (drop 8 l)) second ∙ ap (λ (x : List ℕ). b ++ x) (drop-drop 8 8 l ∙ last) in
        sym (take-append-drop 8 l) ∙ ap (λ (x : List ℕ). x ++ drop 8 l) first ∙ ap (λ (x : List ℕ). a ++ x) rest
