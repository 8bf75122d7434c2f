-- Parts of a text, a byte at a time.
use Rattle.std.proofs.Common.{◌≡◌, ◌≢◌, ℕ, ◌+◌, ◌<◌, ◌≤◌, true, false, List, [], ◌∷◌, length, get_or, drop, refl, ap, ◌∙◌, arith, ne_eqb}
use Rattle.std.proofs.lemmas.List.{drop_more, drop_all}
use Rattle.query_text.specs.declared.parts.Stop.{Stop}
use Rattle.query_text.specs.declared.parts.Stop.TheVariants.{Comma, White, Colon}
use Rattle.query_text.specs.Parts.{stops, untaken}

pub nothing : (stop : Stop) → untaken stop [] ≡ 0
unfolding untaken
nothing stop = refl

pub stop_here : (stop : Stop) (x : ℕ) (more : List ℕ) → x ≢ 92 → stops stop x ≡ true → untaken stop (x ∷ more) ≡ 0
unfolding untaken
stop_here stop x [] plain here = rw here refl
stop_here stop x (y ∷ more) plain here = rw (ne_eqb x 92 plain, here) refl

pub step_one : (stop : Stop) (x : ℕ) (more : List ℕ) → x ≢ 92 → stops stop x ≡ false
    → untaken stop (x ∷ more) ≡ 1 + untaken stop more
unfolding untaken
step_one stop x [] plain on = rw on refl
step_one stop x (y ∷ more) plain on = rw (ne_eqb x 92 plain, on) refl

pub step_two : (stop : Stop) (y : ℕ) (more : List ℕ) → untaken stop (92 ∷ y ∷ more) ≡ 2 + untaken stop more
unfolding untaken
step_two stop y more = refl

pub lone : (stop : Stop) → untaken stop (92 ∷ []) ≡ 1
unfolding untaken
lone Comma = refl
lone White = refl
lone Colon = refl

-- the rest of a text, by its first byte
pub rest_of : (bytes : List ℕ) (at x : ℕ) → at < length bytes → get_or bytes at 0 ≡ x
    → drop at bytes ≡ x ∷ drop (at + 1) bytes
rest_of bytes at x within is = drop_more bytes at 0 within ∙ ap (λ y. y ∷ drop (at + 1) bytes) is

pub at_lone : (stop : Stop) (bytes : List ℕ) (at : ℕ) → at + 1 ≡ length bytes → get_or bytes at 0 ≡ 92
    → untaken stop (drop at bytes) ≡ 1
at_lone stop bytes at last is =
    ap (untaken stop) (rest_of bytes at 92 (omega arith) is
    ∙ ap (λ l. 92 ∷ l) (drop_all (at + 1) bytes (omega arith))) ∙ lone stop

pub at_taken : (stop : Stop) (bytes : List ℕ) (at : ℕ) → at + 1 < length bytes → get_or bytes at 0 ≡ 92
    → untaken stop (drop at bytes) ≡ 2 + untaken stop (drop (at + 2) bytes)
at_taken stop bytes at within is =
    let two : at + 1 + 1 ≡ at + 2 = omega arith in
    ap (untaken stop) (rest_of bytes at 92 (omega arith) is ∙ ap (λ l. 92 ∷ l) (drop_more bytes (at + 1) 0 within))
    ∙ (step_two stop (get_or bytes (at + 1) 0) (drop (at + 1 + 1) bytes)
    ∙ ap (λ n. 2 + untaken stop (drop n bytes)) two)

pub at_stop : (stop : Stop) (bytes : List ℕ) (at : ℕ) → at < length bytes → get_or bytes at 0 ≢ 92
    → stops stop (get_or bytes at 0) ≡ true
    → untaken stop (drop at bytes) ≡ 0
at_stop stop bytes at within plain here = ap (untaken stop) (drop_more bytes at 0 within)
    ∙ stop_here stop (get_or bytes at 0) (drop (at + 1) bytes) plain here

pub at_byte : (stop : Stop) (bytes : List ℕ) (at : ℕ) → at < length bytes → get_or bytes at 0 ≢ 92
    → stops stop (get_or bytes at 0) ≡ false
    → untaken stop (drop at bytes) ≡ 1 + untaken stop (drop (at + 1) bytes)
at_byte stop bytes at within plain on = ap (untaken stop) (drop_more bytes at 0 within)
    ∙ step_one stop (get_or bytes at 0) (drop (at + 1) bytes) plain on

pub at_end : (stop : Stop) (bytes : List ℕ) (at : ℕ) → length bytes ≤ at → untaken stop (drop at bytes) ≡ 0
at_end stop bytes at over = ap (untaken stop) (drop_all at bytes over) ∙ nothing stop
