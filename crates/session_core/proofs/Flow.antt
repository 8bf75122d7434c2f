-- Bytes on their way from a link through a reader into a decoder.
use Rattle.std.proofs.Common.{◌≡◌, ◌≤◌, ◌+◌, ◌-◌, ◌^◌, ℕ, ◌<◌, ◌⊎◌, inl, inr, List, [], ◌++◌, length, take, drop, refl, sym, ap, ◌∙◌, subst, arith, append_assoc, append-nil, length-append}
use Rattle.std.proofs.lemmas.List.{take-append-drop, drop-take, drop-drop, length-take, length-take-le}
use Rattle.std.proofs.Math.Seq.{take-append_seam}
use Rattle.std.proofs.KnownBytes.{Appends-nil, Appends-trans, Consumes-nil, Consumes-trans}
use Rattle.std.specs.Io.KnownBytes.{Appends, Consumes}
use Rattle.doip_segment.specs.declared.outcome.Limits.{Limits}
use Rattle.doip_segment.specs.declared.outcome.Step.{Step}
use Rattle.doip_segment.specs.declared.outcome.Step.TheVariants as steps
use Rattle.doip_segment.specs.Framing.{Spelt, IsUnfinished, Broken, NothingSpelt}
use Rattle.doip_segment.specs.Decoding.{Decoding, Took, Uses, Feeds, Frames, Reports}
use Rattle.session_core.specs.declared.reader.Next.{Next}
use Rattle.session_core.specs.declared.reader.Next.TheVariants as nexts
use Rattle.link_core.specs.Link.{LinkState}
use Rattle.session_core.specs.Reading.{FeedsHeld, FramesHeld, Flows, Stage, stage, MatchesEnd, decoder_step}

-- what a buffer holds after n more bytes
held_after : (s e n : ℕ) (bs : List ℕ) → s + n ≤ e
    → take (e - (s + n)) (drop (s + n) bs) ≡ drop n (take (e - s) (drop s bs))
held_after s e n bs within =
    let m : ℕ = e - (s + n) in
    let width : n + m ≡ e - s = omega arith in
    ap (λ (w : List ℕ). take m w) (sym (drop-drop n s bs)) ∙ sym (drop-take n m (drop s bs))
    ∙ ap (λ (k : ℕ). drop n (take k (drop s bs))) width

-- A decoder that took the first n bytes of what the buffer holds.
pub held_framed : (step : Step) (s e n : ℕ) (bs lent held : List ℕ) (old new : Decoding) → lent ≡ bs
    → take (e - s) (drop s bs) ≡ held → s ≤ e
    → Uses (take (e - s) (drop s lent)) n step new → Feeds (take n (take (e - s) (drop s lent))) old new
    → ((came : List ℕ) → Took old came → Reports old.limits came (take (e - s) (drop s lent)) n step new)
    → FramesHeld step held (take (e - (s + n)) (drop (s + n) bs)) old new
held_framed step s e n bs lent held old new same view order used feeds reports =
    let slice : take (e - s) (drop s lent) ≡ held = ap (λ (w : List ℕ). take (e - s) (drop s w)) same ∙ view in
    let short : n ≤ e - s = omega (arith, used.within, length-take (e - s) (drop s lent)) in
    let fits : n ≤ length held = omega (arith, used.within, ap length slice) in
    let size : length (take n held) ≡ n = length-take-le n held fits in
    let rest : take (e - (s + n)) (drop (s + n) bs) ≡ drop n held =
    held_after s e n bs (omega arith) ∙ ap (λ (w : List ℕ). drop n w) view in
    let split : held ≡ take n held ++ take (e - (s + n)) (drop (s + n) bs) =
    sym (take-append-drop n held) ∙ ap (λ (w : List ℕ). take n held ++ w) (sym rest) in
    record {
      fed = take n held;
      split = split;
      feeds = subst (λ (w : List ℕ). Feeds (take n w) old new) slice feeds;
      frames = λ came h. subst
          (λ (k : ℕ). Frames old.limits came (take n held ++ take (e - (s + n)) (drop (s + n) bs)) k step new)
          (sym size)
          (subst (λ (w : List ℕ). Frames old.limits came w n step new) (slice ∙ split) (reports came h).frames);
    }

-- what was fed first, and then what was fed after it
fed_after : (xs ys : List ℕ) (a b c : Decoding) → Feeds xs a b → Feeds ys b c → Feeds (xs ++ ys) a c
fed_after xs ys a b c first then =
    record {
      limits = then.limits ∙ first.limits;
      took = λ came h. subst (λ (w : List ℕ). Took c w) (append_assoc came xs ys)
          (then.took (came ++ xs) (first.took came h));
      taken = omega (arith, first.taken, then.taken, length-append xs ys);
    }

regroup : (came xs ys rest : List ℕ) → (came ++ xs) ++ (ys ++ rest) ≡ came ++ ((xs ++ ys) ++ rest)
regroup came xs ys rest =
    append_assoc came xs (ys ++ rest) ∙ ap (λ (w : List ℕ). came ++ w) (sym (append_assoc xs ys rest))

-- what the bytes say doesn't depend on when they came
framed_after : (limits : Limits) (came xs ys rest : List ℕ) (step : Step) (new : Decoding)
    → Frames limits (came ++ xs) (ys ++ rest) (length ys) step new
    → Frames limits came ((xs ++ ys) ++ rest) (length (xs ++ ys)) step new
framed_after limits came xs ys rest steps.More new h = (
  omega (arith, h.0, length-append xs ys, length-append ys rest, length-append (xs ++ ys) rest),
  subst (λ (w : List ℕ). IsUnfinished limits w) (regroup came xs ys rest) h.1,
)
framed_after limits came xs ys rest steps.Message new h =
    let from : (came ++ xs) ++ take (length ys) (ys ++ rest) ≡ came ++ (xs ++ ys) =
    ap (λ (w : List ℕ). (came ++ xs) ++ w) (take-append_seam ys rest) ∙ append_assoc came xs ys in
    let to : came ++ (xs ++ ys) ≡ came ++ take (length (xs ++ ys)) ((xs ++ ys) ++ rest) =
    ap (λ (w : List ℕ). came ++ w) (sym (take-append_seam (xs ++ ys) rest)) in
    subst (λ (w : List ℕ). Spelt limits w new.segments) (from ∙ to) h
framed_after limits came xs ys rest (steps.Fault place reason) new h =
    let at : length (came ++ xs) + length ys ≡ length came + length (xs ++ ys) =
    omega (arith, length-append came xs, length-append xs ys) in (
      subst (λ (k : ℕ). Broken limits (came ++ ((xs ++ ys) ++ rest)) k reason) at
          (subst (λ (w : List ℕ). Broken limits w (length (came ++ xs) + length ys) reason)
          (regroup came xs ys rest) h.0),
      subst (λ (w : List ℕ). NothingSpelt limits w) (regroup came xs ys rest) h.1,
      h.2,
    )

-- What a reader has passed on so far: the link gave bytes, and of what it held and these the decoder took all but what
-- it holds.
pub record Passes (old new : Stage) : Type 0 where
  pub gave : List ℕ
  pub fed : List ℕ
  pub taken : Appends old.link.taken new.link.taken gave
  pub left : Consumes old.link.left new.link.left gave
  pub split : old.held ++ gave ≡ fed ++ new.held
  pub feeds : Feeds fed old.decoder new.decoder

-- before a call nothing flows
pub nothing_passes : (s : Stage) → s.decoder.taken ≤ 2 ^ 64 - 1 → Passes s s
nothing_passes s within =
    record {
      gave = [];
      fed = [];
      taken = Appends-nil s.link.taken;
      left = Consumes-nil s.link.left;
      split = append-nil s.held;
      feeds = record {
        limits = refl;
        took = λ came h. subst (λ (w : List ℕ). Took s.decoder w) (sym (append-nil came)) h;
        taken = omega arith;
      };
    }

-- what the reader holds goes into the decoder, up to a message, a fault or its end
pub flows_on : (step : Step) (s0 s1 : Stage) (h2 : List ℕ) (c : Decoding) → Passes s0 s1
    → FramesHeld step s1.held h2 s1.decoder c → Flows step s0 (stage h2 s1.link c)
flows_on step s0 s1 h2 c pass more =
    record {
      gave = pass.gave;
      fed = pass.fed ++ more.fed;
      taken = pass.taken;
      left = pass.left;
      split = pass.split ∙ ap (λ (w : List ℕ). pass.fed ++ w) more.split ∙ sym (append_assoc pass.fed more.fed h2);
      feeds = fed_after pass.fed more.fed s0.decoder s1.decoder c pass.feeds more.feeds;
      frames = λ came h. framed_after s0.decoder.limits came pass.fed more.fed h2 step c
          (subst (λ (l : Limits). Frames l (came ++ pass.fed) (more.fed ++ h2) (length more.fed) step c)
          pass.feeds.limits
          (more.frames (came ++ pass.fed) (pass.feeds.took came h)));
    }

-- the link gives bytes after what flowed
pub flows_in : (step : Step) (s0 s1 : Stage) (h2 : List ℕ) (r2 : LinkState) → Flows step s0 s1 → s1.held ≡ []
    → Appends s1.link.taken r2.taken h2 → Consumes s1.link.left r2.left h2
    → Passes s0 (stage h2 r2 s1.decoder)
flows_in step s0 s1 h2 r2 flow empty taken left =
    record {
      gave = flow.gave ++ h2;
      fed = flow.fed;
      taken = Appends-trans s0.link.taken s1.link.taken r2.taken flow.gave h2 flow.taken taken;
      left = Consumes-trans s0.link.left s1.link.left r2.left flow.gave h2 flow.left left;
      split = sym (append_assoc s0.held flow.gave h2)
          ∙ ap (λ (w : List ℕ). w ++ h2) (flow.split ∙ ap (λ (w : List ℕ). flow.fed ++ w) empty ∙ append-nil flow.fed);
      feeds = flow.feeds;
    }

-- nothing more came
pub flows_still : (step : Step) (s0 s1 : Stage) (h2 : List ℕ) (r2 : LinkState) → Flows step s0 s1 → s1.held ≡ []
    → h2 ≡ [] → Appends s1.link.taken r2.taken h2 → Consumes s1.link.left r2.left h2
    → Flows step s0 (stage h2 r2 s1.decoder)
unfolding flows_in
flows_still step s0 s1 h2 r2 flow empty none taken left =
    let all : Passes s0 (stage h2 r2 s1.decoder) = flows_in step s0 s1 h2 r2 flow empty taken left in
    record {
      gave = all.gave;
      fed = all.fed;
      taken = all.taken;
      left = all.left;
      split = all.split;
      feeds = all.feeds;
      frames = λ came h. subst
          (λ (w : List ℕ). Frames s0.decoder.limits came (flow.fed ++ w) (length flow.fed) step s1.decoder)
          (empty ∙ sym none) (flow.frames came h);
    }

-- nothing was fed yet
pub nothing_fed : (held : List ℕ) (d : Decoding) → d.taken ≤ 2 ^ 64 - 1 → FeedsHeld held held d d
nothing_fed held d within =
    record {
      fed = [];
      split = refl;
      feeds = record {
        limits = refl;
        took = λ came h. subst (λ (w : List ℕ). Took d w) (sym (append-nil came)) h;
        taken = omega arith;
      };
    }

-- what the reader held goes on into the decoder
held_on : (step : Step) (h0 h1 h2 : List ℕ) (a b c : Decoding) → FeedsHeld h0 h1 a b → FramesHeld step h1 h2 b c
    → FeedsHeld h0 h2 a c
held_on step h0 h1 h2 a b c first more =
    record {
      fed = first.fed ++ more.fed;
      split = first.split ∙ ap (λ (w : List ℕ). first.fed ++ w) more.split ∙ sym (append_assoc first.fed more.fed h2);
      feeds = fed_after first.fed more.fed a b c first.feeds more.feeds;
    }

-- the same where a read may have given bytes before
pub spends_on : (step : Step) (r0 r1 : ℕ) (h0 h1 h2 : List ℕ) (a b c : Decoding) → (r1 < r0) ⊎ FeedsHeld h0 h1 a b
    → FramesHeld step h1 h2 b c → (r1 < r0) ⊎ FeedsHeld h0 h2 a c
spends_on step r0 r1 h0 h1 h2 a b c (inl fell) more = inl fell
spends_on step r0 r1 h0 h1 h2 a b c (inr first) more = inr (held_on step h0 h1 h2 a b c first more)

-- at the link's end the decoder has neither a message nor a fault
pub ends_more : (next : Next) (d : Decoding) → MatchesEnd next d → steps.More ≡ decoder_step next
ends_more nexts.Ended d h = refl
ends_more (nexts.Cut place) d h = refl
ends_more nexts.Message d h = absurd h
ends_more (nexts.Framing place reason) d h = absurd h
ends_more nexts.ReadFault d h = absurd h
