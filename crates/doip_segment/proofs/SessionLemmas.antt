-- However a session is cut into pieces, its messages are those of its bytes.
use Rattle.std.proofs.Common.{◌≡◌, ℕ, ◌+◌, ◌≤◌, List, [], ◌∷◌, ◌++◌, length, take, drop, refl, sym, ap, ◌∙◌, subst, arith, append_assoc, length-append}
use Rattle.std.proofs.lemmas.List.{append-nil, take-append-drop, take_all, length-take-le}
use Rattle.doip_segment.specs.declared.outcome.Limits.{Limits}
use Rattle.doip_segment.specs.declared.outcome.Reason.{Reason}
use Rattle.doip_segment.specs.declared.outcome.Step.{Step}
use Rattle.doip_segment.specs.declared.outcome.Step.TheVariants.{More, Message, Fault}
use Rattle.doip_segment.specs.Framing.{NothingSpelt, Framed, Broken, IsUnfinished, saturated}
use Rattle.doip_segment.specs.Decoding.{Decoding, Frames}
use Rattle.doip_segment.specs.Session.{Call, came_after, IsSession, bytes_of, messages_read, rest_of, EndsAt, Ends}
use Rattle.doip_segment.proofs.LawLemmas.{spelling_some, one_framing}

-- a prefix of bytes that begin with no message begins with none
unspelt_prefix : (limits : Limits) (prefix after : List ℕ) → NothingSpelt limits (prefix ++ after) → NothingSpelt limits prefix
unspelt_prefix limits prefix after none f b message e spelt = none f (b ++ after) message (ap (λ x. x ++ after) e ∙ append_assoc f b after) spelt

-- no bytes are no message
pub empty_unspelt : (limits : Limits) → NothingSpelt limits []
empty_unspelt limits prefix after message e spelt =
    let some = spelling_some prefix message spelt.spelling in
    let size = ap length e ∙ length-append prefix after in
    omega (arith, some, size)

empty_unbroken : (limits : Limits) (place : ℕ) (reason : Reason) → Broken limits [] place reason → ⊥
empty_unbroken limits place reason broken =
    let size = ap length broken.is ∙ length-append broken.prefix (broken.byte ∷ broken.after) in
    omega (arith, size)

-- what stands before a session's calls: these bytes were framed, these came after them, and so many are counted
pub record Before (limits : Limits) (past came : List ℕ) (count : ℕ) (last : Step) : Type 0 where
  pub unspelt : NothingSpelt limits came
  pub taken : count ≡ saturated (length past + length came)
  pub ends : EndsAt limits (past ++ came) came last

pub before_start : (limits : Limits) → Before limits [] [] 0 More
before_start limits = record { unspelt = empty_unspelt limits; taken = omega arith; ends = empty_unbroken limits }

taken_all : (came piece : List ℕ) (used : ℕ) → used ≡ length piece → came ++ take used piece ≡ came ++ piece
taken_all came piece used e = ap (λ x. came ++ x) (take_all used piece (omega (arith, e)))

same_prefix : (xs ys us vs : List ℕ) → xs ++ ys ≡ us ++ vs → length xs ≡ length us → xs ≡ us
same_prefix [] ys [] vs e size = refl
same_prefix [] ys (u ∷ us) vs e size = absurd (omega (arith, size))
same_prefix (x ∷ xs) ys [] vs e size = absurd (omega (arith, size))
same_prefix (x ∷ xs) ys (u ∷ us) vs e size =
    let tails : xs ++ ys ≡ us ++ vs = cc in
    let heads : x ≡ u = cc in
    ap (λ z. z ∷ xs) heads ∙ ap (λ t. u ∷ t) (same_prefix xs ys us vs tails (omega (arith, size)))

-- what breaks at its last byte breaks there without the bytes after it too
broken_prefix : (limits : Limits) (bytes after : List ℕ) (reason : Reason) → Broken limits (bytes ++ after) (length bytes) reason → Broken limits bytes (length bytes) reason
broken_prefix limits bytes after reason broken =
    let size : length bytes ≡ length (broken.prefix ++ broken.byte ∷ []) = broken.at ∙ sym (length-append broken.prefix (broken.byte ∷ [])) in
    let cut = same_prefix bytes after (broken.prefix ++ broken.byte ∷ []) broken.after (broken.is ∙ sym (append_assoc broken.prefix (broken.byte ∷ []) broken.after)) size in
    record {
      prefix = broken.prefix;
      byte = broken.byte;
      after = [];
      is = cut;
      at = broken.at;
      fault = broken.fault;
      first = λ before b rest other e low. broken.first before b (rest ++ after) other (ap (λ x. x ++ after) e ∙ append_assoc before (b ∷ rest) after) low;
    }

-- the count of bytes after a call
counted : (past came fed : List ℕ) (before now : ℕ) → before ≡ saturated (length past + length came) → now ≡ saturated (before + length fed) → now ≡ saturated (length past + length (came ++ fed))
counted past came fed before now old new = omega (arith, old, new, length-append came fed)

-- after a call
before_more : (limits : Limits) (past came piece : List ℕ) (used before : ℕ) (d : Decoding) → before ≡ saturated (length past + length came) → d.taken ≡ saturated (before + length (take used piece)) → Frames limits came piece used More d → Before limits past (came ++ take used piece) d.taken More
before_more limits past came piece used before d old new frames =
    let unfinished = subst (IsUnfinished limits) (sym (taken_all came piece used frames.0)) frames.1 in
    record { unspelt = unfinished.unspelt; taken = counted past came (take used piece) before d.taken old new; ends = unfinished.unbroken }

-- how much of the piece a fault took
before_fault : (limits : Limits) (past came piece : List ℕ) (used before place : ℕ) (reason : Reason) (d : Decoding) → before ≡ saturated (length past + length came) → d.taken ≡ saturated (before + length (take used piece)) → Frames limits came piece used (Fault place reason) d → Before limits past (came ++ take used piece) d.taken (Fault place reason)
before_fault limits past came piece used before place reason d old new frames =
    let joined : came ++ piece ≡ (came ++ take used piece) ++ drop used piece = ap (λ x. came ++ x) (sym (take-append-drop used piece)) ∙ sym (append_assoc came (take used piece) (drop used piece)) in
    let broken = frames.0 in
    let whole = ap length broken.is ∙ length-append broken.prefix (broken.byte ∷ broken.after) in
    let parts = length-append came piece in
    let within : used ≤ length piece = omega (arith, whole, parts, broken.at) in
    let size : length came + used ≡ length (came ++ take used piece) = omega (arith, length-append came (take used piece), length-take-le used piece within) in
    let here = subst (λ (n : ℕ). Broken limits ((came ++ take used piece) ++ drop used piece) n reason) size (subst (λ (x : List ℕ). Broken limits x (length came + used) reason) joined broken) in
    let count = counted past came (take used piece) before d.taken old new in
    record {
      unspelt = unspelt_prefix limits (came ++ take used piece) (drop used piece) (subst (NothingSpelt limits) joined frames.1);
      taken = count;
      ends = record {
        before = length past;
        at = length (came ++ take used piece);
        all = sym (length-append past (came ++ take used piece));
        breaks = broken_prefix limits (came ++ take used piece) (drop used piece) reason here;
        is = frames.2 ∙ count;
      };
    }

-- after a message nothing came yet
before_next : (limits : Limits) (past came fed : List ℕ) (before now : ℕ) → before ≡ saturated (length past + length came) → now ≡ saturated (before + length fed) → Before limits (past ++ (came ++ fed)) [] now Message
before_next limits past came fed before now old new =
    record {
      unspelt = empty_unspelt limits;
      taken = omega (arith, counted past came fed before now old new, length-append past (came ++ fed));
      ends = empty_unbroken limits;
    }

pub record Reached (limits : Limits) (past came : List ℕ) (calls : List Call) (last : Step) : Type 0 where
  pub framed : Framed limits (came ++ bytes_of calls) (messages_read calls) (rest_of came calls)
  pub ends : Ends limits (past ++ (came ++ bytes_of calls)) (rest_of came calls) last calls

-- bytes that were taken by a call join those that came before it
on : (limits : Limits) (past came fed : List ℕ) (calls : List Call) (last : Step) → Reached limits past (came ++ fed) calls last → (Framed limits (came ++ (fed ++ bytes_of calls)) (messages_read calls) (rest_of (came ++ fed) calls)) × (Ends limits (past ++ (came ++ (fed ++ bytes_of calls))) (rest_of (came ++ fed) calls) last calls)
on limits past came fed calls last r =
    let same = append_assoc came fed (bytes_of calls) in
    (subst (λ (x : List ℕ). Framed limits x (messages_read calls) (rest_of (came ++ fed) calls)) same r.framed, subst (λ (x : List ℕ). Ends limits (past ++ x) (rest_of (came ++ fed) calls) last calls) same r.ends)

-- bytes that a message ends join those that were framed before it
past_on : (past came fed bytes : List ℕ) → (past ++ (came ++ fed)) ++ ([] ++ bytes) ≡ past ++ (came ++ (fed ++ bytes))
past_on past came fed bytes = append_assoc past (came ++ fed) bytes ∙ ap (λ x. past ++ x) (append_assoc came fed bytes)

-- what the later calls reach from what stands after a call
abbrev pub Later : Limits → List ℕ → Call → List Call → Type 0
Later limits came call calls = (past : List ℕ) (last : Step) → Before limits past (came_after came call call.step) call.decoder.taken last → Reached limits past (came_after came call call.step) calls last

reached_by : (limits : Limits) (past came piece : List ℕ) (used before : ℕ) (step : Step) (d : Decoding) (calls : List Call) → before ≡ saturated (length past + length came) → d.taken ≡ saturated (before + length (take used piece)) → Frames limits came piece used step d → Later limits came (record { piece = piece; used = used; step = step; decoder = d }) calls → (last : Step) → Reached limits past came (record { piece = piece; used = used; step = step; decoder = d } ∷ calls) last
reached_by limits past came piece used before More d calls old new frames later last =
    let r = on limits past came (take used piece) calls More (later past More (before_more limits past came piece used before d old new frames)) in
    record { framed = r.0; ends = r.1 }
reached_by limits past came piece used before (Fault place reason) d calls old new frames later last =
    let r = on limits past came (take used piece) calls (Fault place reason) (later past (Fault place reason) (before_fault limits past came piece used before place reason d old new frames)) in
    record { framed = r.0; ends = r.1 }
reached_by limits past came piece used before Message d calls old new frames later last =
    let r = later (past ++ (came ++ take used piece)) Message (before_next limits past came (take used piece) before d.taken old new) in
    record {
      framed = (came ++ take used piece, bytes_of calls, frames, sym (append_assoc came (take used piece) (bytes_of calls)), r.framed);
      ends = subst (λ (x : List ℕ). Ends limits x (rest_of [] calls) Message calls) (past_on past came (take used piece) (bytes_of calls)) r.ends;
    }

pub reached : (limits : Limits) (past came : List ℕ) (count : ℕ) (calls : List Call) (last : Step) → Before limits past came count last → IsSession limits came count calls → Reached limits past came calls last
reached limits past came count [] last before is = record { framed = (append-nil came, before.unspelt); ends = subst (λ (x : List ℕ). EndsAt limits (past ++ x) came last) (sym (append-nil came)) before.ends }
reached limits past came count (call ∷ calls) last before is = reached_by limits past came call.piece call.used count call.step call.decoder calls before.taken is.1 is.0 (λ earlier next then. reached limits earlier (came_after came call call.step) call.decoder.taken calls next then is.3) last

-- The messages of a session, and its rest, are those of its bytes.
pub session_framed : (limits : Limits) (calls : List Call) → IsSession limits [] 0 calls → Framed limits (bytes_of calls) (messages_read calls) (rest_of [] calls)
session_framed limits calls is = (reached limits [] [] 0 calls More (before_start limits) is).framed

pub session_ends : (limits : Limits) (calls : List Call) → IsSession limits [] 0 calls → Ends limits (bytes_of calls) (rest_of [] calls) More calls
session_ends limits calls is = (reached limits [] [] 0 calls More (before_start limits) is).ends

pub sessions_same : (limits : Limits) (calls others : List Call) → IsSession limits [] 0 calls → IsSession limits [] 0 others → bytes_of calls ≡ bytes_of others → (messages_read calls ≡ messages_read others) × (rest_of [] calls ≡ rest_of [] others)
sessions_same limits calls others is as_ e =
    let second = subst (λ (x : List ℕ). Framed limits x (messages_read others) (rest_of [] others)) (sym e) (session_framed limits others as_) in
    one_framing limits (bytes_of calls) (messages_read calls) (messages_read others) (rest_of [] calls) (rest_of [] others) (session_framed limits calls is) second
