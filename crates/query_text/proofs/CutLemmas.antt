-- White bytes, and bytes up to a stop.
use Rattle.std.proofs.Common.{◌⊎◌, inl, inr, eqb-true, append-nil, ◌≡◌, ◌≢◌, ℕ, suc, ◌<◌, Bool, true, false, List, [], ◌∷◌, ◌++◌, take, drop, IsUtf8, refl, sym, ap, ◌∙◌, subst, arith}
use Rattle.std.specs.Prelude.{◌&&◌, ◌||◌, ◌==◌}
use Rattle.std.proofs.lemmas.Bool.Decides.{eqb_tells}
use Rattle.std.proofs.lemmas.List.{take-append-drop}
use Rattle.dobj_field.specs.Field.{is_white}
use Rattle.dobj_field.proofs.Utf8.{cut_at_ascii}
use Rattle.query_text.specs.declared.parts.Stop.{Stop}
use Rattle.query_text.specs.declared.parts.Stop.TheVariants.{Comma, White, Colon}
use Rattle.query_text.specs.Parts.{stops, untaken, all_white, past_white, BeginsWith}
use Rattle.query_text.proofs.PartLemmas.{nothing, stop_here, step_one, step_two}

pub both : (a b : Bool) → (a && b) ≡ true → (a ≡ true) × (b ≡ true)
both true b holds = (refl, holds)
both false b holds = cc

pub either : (a b : Bool) → (a || b) ≡ true → (a ≡ true) ⊎ (b ≡ true)
either true b holds = inl refl
either false b holds = inr holds

pub small_by : (x c : ℕ) → c < 128 → (x == c) ≡ true → x < 128
small_by x c small same = let is : x ≡ c = eqb-true x c same in omega arith

pub small_either : (x : ℕ) (a b : Bool) → (a ≡ true → x < 128) → (b ≡ true → x < 128) → (a || b) ≡ true → x < 128
small_either x true b one two holds = one refl
small_either x false b one two holds = two holds

pub white_small : (x : ℕ) → is_white x ≡ true → x < 128
white_small x =
    small_either x _ _ (small_either x _ _
    (small_either x _ _ (small_by x 32 (omega arith)) (small_by x 9 (omega arith))) (small_by x 13 (omega arith)))
    (small_by x 10 (omega arith))

stop_small : (stop : Stop) (x : ℕ) → stops stop x ≡ true → x < 128
stop_small Comma x holds = small_by x 44 (omega arith) holds
stop_small White x holds = white_small x holds
stop_small Colon x holds = small_by x 58 (omega arith) holds

-- white bytes, and the rest
pub split_white : (bytes : List ℕ) → (before : List ℕ) × (bytes ≡ before ++ past_white bytes)
    × (all_white before ≡ true)
split_white [] = ([], refl, refl)
split_white (x ∷ rest) = by_white x rest (is_white x) refl (split_white rest)
  where
    by_white : (x : ℕ) (rest : List ℕ) (b : Bool) → is_white x ≡ b
        → ((before : List ℕ) × (rest ≡ before ++ past_white rest) × (all_white before ≡ true))
        → (before : List ℕ) × (x ∷ rest ≡ before ++ past_white (x ∷ rest)) × (all_white before ≡ true)
    by_white x rest true is more = (x ∷ more.0, rw is (ap (λ l. x ∷ l) more.1), rw is more.2)
    by_white x rest false is more = ([], rw is refl, refl)

pub skip_white : (before rest : List ℕ) → all_white before ≡ true → past_white (before ++ rest) ≡ past_white rest
skip_white [] rest white = refl
skip_white (x ∷ before) rest white = let parts = both (is_white x) (all_white before) white in
    rw parts.0 (skip_white before rest parts.1)

after_last : (stop : Stop) (x : ℕ) (b : Bool) → stops stop x ≡ b
    → BeginsWith stop (drop (untaken stop (x ∷ [])) (x ∷ []))
unfolding untaken
after_last stop x true is = rw is is
after_last stop x false is = rw is tt

after_next : (stop : Stop) (x y : ℕ) (rest : List ℕ) → ((x == 92) ≡ true) × (x ≡ 92) ⊎ ((x == 92) ≡ false) × (x ≢ 92)
    → (b : Bool) → stops stop x ≡ b → BeginsWith stop (drop (untaken stop rest) rest)
    → BeginsWith stop (drop (untaken stop (y ∷ rest)) (y ∷ rest))
    → BeginsWith stop (drop (untaken stop (x ∷ y ∷ rest)) (x ∷ y ∷ rest))
after_next stop x y rest (inl back) b is one two =
    let two_more : untaken stop (x ∷ y ∷ rest) ≡ suc (suc (untaken stop rest)) =
    rw back.1 (step_two stop y rest ∙ omega arith) in
    subst (λ n. BeginsWith stop (drop n (x ∷ y ∷ rest))) (sym two_more) one
after_next stop x y rest (inr byte) true is one two =
    subst (λ n. BeginsWith stop (drop n (x ∷ y ∷ rest))) (sym (stop_here stop x (y ∷ rest) byte.1 is)) is
after_next stop x y rest (inr byte) false is one two =
    let one_more : untaken stop (x ∷ y ∷ rest) ≡ suc (untaken stop (y ∷ rest)) = step_one stop x (y ∷ rest) byte.1 is
    ∙ omega arith in
    subst (λ n. BeginsWith stop (drop n (x ∷ y ∷ rest))) (sym one_more) two

-- a stop stands after the bytes before the first one
pub stop_after : (stop : Stop) (bytes : List ℕ) → BeginsWith stop (drop (untaken stop bytes) bytes)
stop_after stop [] = rw (nothing stop) tt
stop_after stop (x ∷ []) = after_last stop x (stops stop x) refl
stop_after stop (x ∷ y ∷ rest) =
    after_next stop x y rest (eqb_tells x 92) (stops stop x) refl (stop_after stop rest) (stop_after stop (y ∷ rest))

pub utf8_past_white : (bytes : List ℕ) → IsUtf8 bytes → IsUtf8 (past_white bytes)
utf8_past_white [] text = text
utf8_past_white (x ∷ rest) text = by_white (is_white x) refl (utf8_past_white rest)
  where
    by_white : (b : Bool) → is_white x ≡ b → (IsUtf8 rest → IsUtf8 (past_white rest)) → IsUtf8 (past_white (x ∷ rest))
    by_white true is more = rw is (more (cut_at_ascii [] rest x (white_small x is) text).1)
    by_white false is more = rw is text

pub utf8_front : (stop : Stop) (bytes : List ℕ) (n : ℕ) (rest : List ℕ) → drop n bytes ≡ rest → BeginsWith stop rest
    → IsUtf8 bytes → IsUtf8 (take n bytes)
utf8_front stop bytes n [] is stands text =
    let whole : take n bytes ≡ bytes = sym (append-nil (take n bytes))
    ∙ (ap (λ r. take n bytes ++ r) (sym is) ∙ take-append-drop n bytes) in rw whole text
utf8_front stop bytes n (x ∷ rest) is stands text =
    let whole : bytes ≡ take n bytes ++ x ∷ rest = sym (take-append-drop n bytes) ∙ ap (λ r. take n bytes ++ r) is in
    (cut_at_ascii (take n bytes) rest x (stop_small stop x stands) (subst IsUtf8 whole text)).0

pub utf8_before_stop : (stop : Stop) (bytes : List ℕ) → IsUtf8 bytes → IsUtf8 (take (untaken stop bytes) bytes)
utf8_before_stop stop bytes text =
    utf8_front stop bytes (untaken stop bytes) (drop (untaken stop bytes) bytes) refl (stop_after stop bytes) text
