-- A header and its parts.
use Rattle.std.proofs.Common.{◌≡◌, ℕ, ◌+◌, ◌%◌, ◌≤◌, ◌<◌, List, ◌∷◌, ◌++◌, length, get_or, take, drop, replicate, refl, sym, ◌∙◌, ap, subst, arith, length-append, length-take, length-drop, take-append-drop}
use Rattle.std.proofs.lemmas.List.{take_at, drop_at, take_all, take-take, get_or-drop}
use Rattle.std.specs.Int.{w64, from_be_bytes}
use Rattle.journal_core.specs.Layout.{magic}
use Rattle.journal_core.specs.File.{big_endian, header, HasHeader}
use Rattle.journal_core.proofs.Fields.{length-big_endian, field_read, from_field, take_bytes}

-- 32 bytes, cut where a header's parts end
pub record Cut (prefix text field zeros : List ℕ) (side_byte : ℕ) : Type 0 where
  pub size : length prefix ≡ 32
  pub text_is : text ≡ take 8 prefix
  pub field_is : field ≡ take 8 (drop 8 prefix)
  pub rest_is : drop 8 (drop 8 prefix) ≡ side_byte ∷ zeros

module _ (prefix text field zeros : List ℕ) (side_byte : ℕ) (cut : Cut prefix text field zeros side_byte) where
  whole : (area side : ℕ) → (has : HasHeader prefix area side) → prefix ≡ header area has.side_byte
  whole area side has = sym (take_all 32 prefix (omega (arith, cut.size))) ∙ has.prefix

  pub has_text : (area side : ℕ) → HasHeader prefix area side → text ≡ magic
  has_text area side has = cut.text_is ∙ ap (λ (l : List ℕ). take 8 l) (whole area side has)

  suffix : (area side : ℕ) → (has : HasHeader prefix area side) → drop 8 prefix ≡ big_endian area ++ has.side_byte ∷ replicate 15 0
  suffix area side has = ap (λ (l : List ℕ). drop 8 l) (whole area side has)

  pub has_area : (area side : ℕ) → HasHeader prefix area side → from_be_bytes w64 field ≡ area
  has_area area side has =
      ap (from_be_bytes w64) (cut.field_is ∙ ap (λ (l : List ℕ). take 8 l) (suffix area side has) ∙ take_at (big_endian area) (has.side_byte ∷ replicate 15 0) 8 (length-big_endian area))
      ∙ from_field area (omega (arith, has.most))

  pub has_zeros : (area side : ℕ) → HasHeader prefix area side → zeros ≡ replicate 15 0
  has_zeros area side has =
      let rest : side_byte ∷ zeros ≡ has.side_byte ∷ replicate 15 0 =
      sym cut.rest_is ∙ ap (λ (l : List ℕ). drop 8 l) (suffix area side has) ∙ drop_at (big_endian area) (has.side_byte ∷ replicate 15 0) 8 (length-big_endian area) in
      ap (λ (l : List ℕ). drop 1 l) rest

  pub is_header : (area : ℕ) → ((i : ℕ) → get_or prefix i 0 < 256) → area ≡ from_be_bytes w64 field → text ≡ magic → zeros ≡ replicate 15 0 → 64 ≤ area → area ≤ 268435456 → HasHeader prefix area (side_byte % 2)
  is_header area bytes read text_is zeros_is low high =
      let inner : (i : ℕ) → get_or (drop 8 prefix) i 0 < 256 = λ i. subst (λ (b : ℕ). b < 256) (sym (get_or-drop 8 prefix i 0)) (bytes (8 + i)) in
      let field_bytes : (i : ℕ) → get_or field i 0 < 256 = λ i. subst (λ (l : List ℕ). get_or l i 0 < 256) (sym cut.field_is) (take_bytes 8 (drop 8 prefix) inner i) in
      let field_size : length field ≡ 8 = ap length cut.field_is ∙ omega (arith, length-take 8 (drop 8 prefix), length-drop 8 prefix, cut.size) in
      let field_is : take 8 (drop 8 prefix) ≡ big_endian area = sym cut.field_is ∙ sym (field_read field area field_size field_bytes read) in
      record {
        least = low;
        most = high;
        side_byte = side_byte;
        side_is = refl;
        prefix =
            take_all 32 prefix (omega (arith, cut.size))
            ∙ sym (take-append-drop 8 prefix)
            ∙ ap (λ (l : List ℕ). l ++ drop 8 prefix) (sym cut.text_is ∙ text_is)
            ∙ ap (λ (l : List ℕ). magic ++ l) (sym (take-append-drop 8 (drop 8 prefix)) ∙ ap (λ (l : List ℕ). l ++ drop 8 (drop 8 prefix)) field_is
            ∙ ap (λ (l : List ℕ). big_endian area ++ l) (cut.rest_is ∙ ap (λ (l : List ℕ). side_byte ∷ l) zeros_is));
      }

pub length-header : (area side_byte : ℕ) → length (header area side_byte) ≡ 32
length-header area side_byte = omega (arith, length-append (big_endian area) (side_byte ∷ replicate 15 0), length-big_endian area)

-- a file of fewer than 32 bytes has none
pub too_short : (file : List ℕ) (area side : ℕ) → length file < 32 → HasHeader file area side → ⊥
too_short file area side short has = absurd (omega (arith, ap length has.prefix, length-header area has.side_byte, length-take 32 file, short))

-- the header of a file is that of its prefix
pub header_of_prefix : (file prefix : List ℕ) (area side : ℕ) → prefix ≡ take 32 file → HasHeader prefix area side → HasHeader file area side
header_of_prefix file prefix area side is has = record {
  least = has.least;
  most = has.most;
  side_byte = has.side_byte;
  side_is = has.side_is;
  prefix = sym (prefix_same file prefix is) ∙ has.prefix;
}
  where
    prefix_same : (file prefix : List ℕ) → prefix ≡ take 32 file → take 32 prefix ≡ take 32 file
    prefix_same file prefix is = ap (λ (l : List ℕ). take 32 l) is ∙ take-take 32 32 file (omega arith)

pub prefix_of_header : (file prefix : List ℕ) (area side : ℕ) → prefix ≡ take 32 file → HasHeader file area side → HasHeader prefix area side
prefix_of_header file prefix area side is has = record {
  least = has.least;
  most = has.most;
  side_byte = has.side_byte;
  side_is = has.side_is;
  prefix = ap (λ (l : List ℕ). take 32 l) is ∙ take-take 32 32 file (omega arith) ∙ has.prefix;
}
