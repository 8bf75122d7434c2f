-- Sessions over the same bytes whose turns had the same outcomes.
use Rattle.std.proofs.Common.{◌≡◌, ℕ, List, [], ◌∷◌, Bool, if◌then◌else◌, map, refl, ap, ◌∙◌}
use Rattle.doip_message.specs.Pairs.{messages_of}
use Rattle.doip_segment.specs.Segments.{Segment}
use Rattle.repo_step.specs.declared.brought.Brought.{Brought}
use Rattle.repo_step.specs.declared.outcome.Outcome.{Outcome}
use Rattle.repo_step.specs.Setting.{Setting, State}
use Rattle.repo_step.specs.History.{Entry, Exchange, after, exchange_of, exchanges_of, is_of, pair_of, session_pairs}
use Rattle.repo_step.specs.Laws.{Cause, IsAllOf, cause_of}

-- the messages of exchanges
messages : List Exchange → List (List Segment)
messages xs = messages_of (map pair_of xs)

-- the pairs of a history that is all of the session have its messages
pub own_messages : (setting : Setting) (state : State) (lane session : ℕ) (es : List Entry) → IsAllOf lane session es
    → messages_of (session_pairs setting state lane session es) ≡ map (λ e. e.message) es
unfolding messages
own_messages setting state lane session [] all = refl
own_messages setting state lane session (e ∷ es) all =
    let x : Exchange = exchange_of setting state e in
    let later : List Exchange = exchanges_of setting (is_of lane session) (after setting state e) es in
    ap (λ (b : Bool). messages (if b then x ∷ later else later)) all.0
    ∙ ap (λ (w : List (List Segment)). e.message ∷ w)
    (own_messages setting (after setting state e) lane session es all.1)

head_of : {X : Type 0} → X → List X → X
head_of x [] = x
head_of x (y ∷ ys) = y

rest_of : {X : Type 0} → List X → List X
rest_of [] = []
rest_of (x ∷ xs) = xs

cause : List Segment → Outcome → Brought → Cause
cause m o b = record { message = m; outcome = o; brought = b }

-- entries with the same messages, outcomes and what was brought have the same causes
pub same_causes : (xs ys : List Entry) → map (λ e. e.message) xs ≡ map (λ e. e.message) ys
    → map (λ e. e.outcome) xs ≡ map (λ e. e.outcome) ys
    → map (λ e. e.brought) xs ≡ map (λ e. e.brought) ys → map cause_of xs ≡ map cause_of ys
unfolding head_of rest_of cause
same_causes [] [] m o b = refl
same_causes [] (y ∷ ys) m o b = absurd (cc m)
same_causes (x ∷ xs) [] m o b = absurd (cc m)
same_causes (x ∷ xs) (y ∷ ys) m o b =
    let first : cause_of x ≡ cause_of y =
    λ i. cause (ap (head_of x.message) m i) (ap (head_of x.outcome) o i) (ap (head_of x.brought) b i) in
    let others : map cause_of xs ≡ map cause_of ys = same_causes xs ys (ap rest_of m) (ap rest_of o) (ap rest_of b) in
    λ i. first i ∷ others i
