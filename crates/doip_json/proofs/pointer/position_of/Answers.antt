use Rattle.std.proofs.Common.{◌≡◌, ℕ, ◌<◌, ◌≤◌, ◌^◌, ◌==◌, ◌&&◌, ◌||◌, List, true, not, nat_lt, nat_le, slice_index, length, sym, ap, ◌∙◌, arith}
use Rattle.std.proofs.lemmas.Bool.{and_parts}
use Rattle.std.proofs.lemmas.Bool.Decides.{nat_tests}
use Rattle.std.proofs.lemmas.Str.Parse.{numerals_by_value, tells_all_ascii_digits, parse_gives, digits_value_short}
use Rattle.std.specs.Str.{all_ascii_digits}
use Rattle.std.specs.Str.Parse.{digits_value}
use Rattle.doip_json.specs.Pointer.{is_position}
use Rattle.doip_json.proofs.pointer.position_of.Goals as goal

lt_from : (n : ℕ) → nat_lt 0 n ≡ true → 0 < n
lt_from n h = grind (arith, nat_tests)

le_from : (n : ℕ) → nat_le n 9 ≡ true → n ≤ 9
le_from n h = grind (arith, nat_tests)

record IsShortNumeral (s : List ℕ) : Type 0 where
  some : 0 < length s
  short : length s ≤ 9
  digits : all_ascii_digits s ≡ true

short_numeral : (s : List ℕ) → is_position s ≡ true → IsShortNumeral s
short_numeral s is =
    let some = nat_lt 0 (length s) in
    let short = nat_le (length s) 9 in
    let plain = (length s == 1) || not (slice_index s 0 == 48) in
    let all = and_parts (some && short && plain) (all_ascii_digits s) is in
    let before = and_parts (some && short) plain all.0 in
    let lengths = and_parts some short before.0 in
    record { some = lt_from (length s) lengths.0; short = le_from (length s) lengths.1; digits = all.1 }

-- at most 9 digits are read as a number of 32 bits
pub returns-in-Err : goal.returns-in-Err
returns-in-Err c =
    let s = c.args.token.now in
    let numeral = short_numeral s (sym (c.if-not-is_digits.ensures ∙ ap is_position c.as_bytes.ensures.value)) in
    let own = numerals_by_value (λ ds. all_ascii_digits ds ≡ true) tells_all_ascii_digits in
    let small : digits_value 10 s < 10 ^ 9 = digits_value_short own s 9 numeral.digits numeral.short in
    let gives = parse_gives own 32 s c.parse.result c.parse.ensures.value.0 numeral.digits numeral.some (omega arith) in
    absurd (cc)
