-- Texts without the white bytes at their ends.
use Rattle.std.proofs.Common.{◌≡◌, ℕ, ◌+◌, ◌-◌, ◌<◌, ◌≤◌, List, length, get_or, take, drop, reverse, Bool, true, false, refl, sym, ap, ◌∙◌, arith, IsUtf8, length-take, length-drop}
use Rattle.std.specs.List.{prefix_len, suffix_len}
use Rattle.std.specs.Str.{IsCharBoundary}
use Rattle.std.proofs.lemmas.List.{get_or-take, get_or-drop, get_or-reverse, length-reverse, take_all}
use Rattle.std.proofs.lemmas.List.Sums.{prefix_len_is, prefix_len-drop_yes, prefix_len-drop_no, prefix_len-drop_all, prefix_len_stops, suffix_len_is, suffix_len-take_yes, suffix_len-take_no}
use Rattle.std.proofs.lemmas.Str.{IsCharBoundary-start, IsCharBoundary-end, IsCharBoundary-before_ascii, IsCharBoundary-after_ascii}
use Rattle.std.proofs.lemmas.Bool.{eqb-true}
use Rattle.std.specs.Prelude.{◌||◌, ◌==◌}
use Rattle.ext_ops.specs.Hook.{is_white, without_leading, without_trailing, trimmed}

-- a white byte is ASCII
pub white_is_ascii : (x : ℕ) → is_white x ≡ true → x < 128
white_is_ascii x white = by (x == 32) refl (x == 9) refl (x == 13) refl (x == 10) refl white
  where
    by : (a : Bool) → x == 32 ≡ a → (b : Bool) → x == 9 ≡ b → (c : Bool) → x == 13 ≡ c → (d : Bool) → x == 10 ≡ d → a || (b || (c || d)) ≡ true → x < 128
    by true e b f c g d h w = omega (arith, eqb-true x 32 e)
    by false e true f c g d h w = omega (arith, eqb-true x 9 f)
    by false e false f true g d h w = omega (arith, eqb-true x 13 g)
    by false e false f false g true h w = omega (arith, eqb-true x 10 h)
    by false e false f false g false h w = absurd (cc)

-- the first bytes up to here are white, and the text may be cut here
pub record Leads (text : List ℕ) (at : ℕ) : Type 0 where
  pub within : at ≤ length text
  pub cut : IsCharBoundary text at
  pub white : at + prefix_len is_white (drop at text) ≡ prefix_len is_white text

pub leads_start : (text : List ℕ) → IsUtf8 text → Leads text 0
leads_start text utf8 = record { within = omega arith; cut = IsCharBoundary-start text utf8; white = omega arith }

pub leads_on : (text : List ℕ) (at : ℕ) → IsUtf8 text → at < length text → is_white (get_or text at 0) ≡ true → Leads text at → Leads text (at + 1)
leads_on text at utf8 more white l = record {
  within = omega arith;
  cut = IsCharBoundary-after_ascii text at utf8 more (white_is_ascii (get_or text at 0) white);
  white = omega (arith, l.white, prefix_len-drop_yes is_white text at 0 more white);
}

pub leads_stop : (text : List ℕ) (at : ℕ) → at < length text → is_white (get_or text at 0) ≡ false → Leads text at → at ≡ prefix_len is_white text
leads_stop text at more other l = omega (arith, l.white, prefix_len-drop_no is_white text at 0 more other)

pub leads_all : (text : List ℕ) (at : ℕ) → length text ≤ at → Leads text at → at ≡ prefix_len is_white text
leads_all text at none l = omega (arith, l.white, prefix_len-drop_all is_white text at none)

-- the last bytes from here on are white, and the text may be cut here
pub record Trails (text : List ℕ) (at : ℕ) : Type 0 where
  pub within : at ≤ length text
  pub cut : IsCharBoundary text at
  pub white : length text - at + suffix_len is_white (take at text) ≡ suffix_len is_white text

pub trails_end : (text : List ℕ) → Trails text (length text)
trails_end text = record {
  within = omega arith;
  cut = IsCharBoundary-end text;
  white = let whole = ap (suffix_len is_white) (take_all (length text) text (omega arith)) in omega (arith, whole);
}

pub trails_on : (text : List ℕ) (at : ℕ) → 0 < at → is_white (get_or text (at - 1) 0) ≡ true → Trails text at → Trails text (at - 1)
trails_on text at some white t = record {
  within = omega (arith, t.within);
  cut = IsCharBoundary-before_ascii text (at - 1) (omega (arith, t.within)) (white_is_ascii (get_or text (at - 1) 0) white);
  white = omega (arith, t.within, t.white, suffix_len-take_yes is_white text at 0 some t.within white);
}

pub trails_stop : (text : List ℕ) (at : ℕ) → 0 < at → is_white (get_or text (at - 1) 0) ≡ false → Trails text at → at ≡ length text - suffix_len is_white text
trails_stop text at some other t = omega (arith, t.within, t.white, suffix_len-take_no is_white text at 0 some t.within other)

pub trails_all : (text : List ℕ) → Trails text 0 → 0 ≡ length text - suffix_len is_white text
trails_all text t = omega (arith, t.white)

-- ---- trimming again

-- the byte before the white ones at the end is not white
last_stays : (s : List ℕ) → 0 < length s - suffix_len is_white s → is_white (get_or s (length s - suffix_len is_white s - 1) 0) ≡ false
last_stays s some =
    let k : ℕ = suffix_len is_white s in
    let long : length (reverse s) ≡ length s = length-reverse s in
    let stop : is_white (get_or (reverse s) k 0) ≡ false = prefix_len_stops is_white (reverse s) 0 (omega arith) in
    let same : length s - 1 - k ≡ length s - k - 1 = omega arith in
    ap is_white (ap (λ i. get_or s i 0) (sym same) ∙ sym (get_or-reverse s k 0 (omega arith))) ∙ stop

-- the byte after the white ones at the start is not white
first_stays : (s : List ℕ) → 0 < length (without_leading s) → is_white (get_or (without_leading s) 0 0) ≡ false
first_stays s some =
    let m : ℕ = prefix_len is_white s in
    let zero_more : m + 0 ≡ m = omega arith in
    ap is_white (get_or-drop m s 0 0 ∙ ap (λ i. get_or s i 0) zero_more)
    ∙ prefix_len_stops is_white s 0 (omega (arith, length-drop m s))

-- a text whose first byte is not white
pub leading_settled : (s : List ℕ) → (0 < length s → is_white (get_or s 0 0) ≡ false) → without_leading s ≡ s
leading_settled s stays = ap (λ n. drop n s) (prefix_len_is is_white s 0 0 (omega arith) (λ k l. absurd (omega arith)) stays)

-- a text whose last byte is not white
pub trailing_settled : (s : List ℕ) → (0 < length s → is_white (get_or s (length s - 1) 0) ≡ false) → without_trailing s ≡ s
trailing_settled s stays =
    let none : suffix_len is_white s ≡ length s - length s = suffix_len_is is_white s (length s) 0 (omega arith) (λ k l h. absurd (omega arith)) stays in
    take_all (length s - suffix_len is_white s) s (omega arith)

pub trimmed_again : (s : List ℕ) → trimmed (trimmed s) ≡ trimmed s
trimmed_again s =
    let t : List ℕ = without_leading s in
    let n : ℕ = length t - suffix_len is_white t in
    let r : List ℕ = take n t in
    let long : length r ≡ n = length-take n t ∙ omega arith in
    let first : 0 < length r → is_white (get_or r 0 0) ≡ false =
    λ some. ap is_white (get_or-take n t 0 0 (omega arith)) ∙ first_stays s (omega arith) in
    let last : 0 < length r → is_white (get_or r (length r - 1) 0) ≡ false =
    λ some. ap is_white (ap (λ i. get_or r i 0) (ap (λ i. i - 1) long) ∙ get_or-take n t (n - 1) 0 (omega arith)) ∙ last_stays t (omega arith) in
    ap without_trailing (leading_settled r first) ∙ trailing_settled r last
