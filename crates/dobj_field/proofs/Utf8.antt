-- UTF-8 around an ASCII byte.
use Rattle.std.proofs.Common.{◌≡◌, ℕ, zero, suc, ◌+◌, ◌<◌, List, [], ◌∷◌, ◌++◌, length, get_or, take, drop, sym, subst}
use Rattle.std.proofs.Common.{arith, IsUtf8, append_assoc, length-append}
use Rattle.std.specs.Str.{IsAscii}
use Rattle.std.proofs.Math.Seq.{take-append_seam, drop-append_seam, get_or-append_seam}
use Rattle.std.proofs.lemmas.Str.{IsUtf8-take, IsUtf8-drop, IsUtf8-append, IsUtf8-from_ascii}
use Rattle.std.proofs.lemmas.Str.{IsCharBoundary-before_ascii, IsCharBoundary-after_ascii}

-- what follows a byte
after_seam : (prefix rest : List ℕ) (x : ℕ) → drop (length prefix + 1) (prefix ++ x ∷ rest) ≡ rest
after_seam prefix rest x =
    let whole : prefix ++ x ∷ rest ≡ (prefix ++ x ∷ []) ++ rest = sym (append_assoc prefix (x ∷ []) rest) in
    let long : length prefix + 1 ≡ length (prefix ++ x ∷ []) = sym (length-append prefix (x ∷ [])) in
    rw (whole, long) (drop-append_seam (prefix ++ x ∷ []) rest)

-- a text may be cut before an ASCII byte, and after it
pub cut_at_ascii : (prefix rest : List ℕ) (x : ℕ) → x < 128 → IsUtf8 (prefix ++ x ∷ rest) → IsUtf8 prefix × IsUtf8 rest
cut_at_ascii prefix rest x small text =
    let bytes = prefix ++ x ∷ rest in
    let place : ℕ = length prefix in
    let there : place < length bytes = simp length-append (omega arith) in
    let byte : get_or bytes place 0 ≡ x = get_or-append_seam prefix x rest 0 in
    let low : get_or bytes place 0 < 128 = omega arith in
    let prefix_text : IsUtf8 (take place bytes) =
    IsUtf8-take bytes place text (IsCharBoundary-before_ascii bytes place there low) in
    let rest_text : IsUtf8 (drop (place + 1) bytes) =
    IsUtf8-drop bytes (place + 1) text (IsCharBoundary-after_ascii bytes place text there low) in
    (subst IsUtf8 (take-append_seam prefix (x ∷ rest)) prefix_text, subst IsUtf8 (after_seam prefix rest x) rest_text)

each : (x : ℕ) → x < 128 → IsAscii (x ∷ [])
each x small zero = small
each x small (suc i) = omega arith

-- one ASCII byte
pub one_ascii : (x : ℕ) → x < 128 → IsUtf8 (x ∷ [])
one_ascii x small = IsUtf8-from_ascii (x ∷ []) (each x small)

-- another ASCII byte in the place of one
pub put_ascii : (prefix rest : List ℕ) (x y : ℕ) → x < 128 → y < 128 → IsUtf8 (prefix ++ x ∷ rest)
    → IsUtf8 (prefix ++ y ∷ rest)
put_ascii prefix rest x y small low text =
    let parts = cut_at_ascii prefix rest x small text in
    IsUtf8-append prefix (y ∷ rest) parts.0 (IsUtf8-append (y ∷ []) rest (one_ascii y low) parts.1)

-- the text without one ASCII byte
pub drop_ascii : (prefix rest : List ℕ) (x : ℕ) → x < 128 → IsUtf8 (prefix ++ x ∷ rest) → IsUtf8 (prefix ++ rest)
drop_ascii prefix rest x small text =
    let parts = cut_at_ascii prefix rest x small text in IsUtf8-append prefix rest parts.0 parts.1
