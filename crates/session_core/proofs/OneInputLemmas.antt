-- A session that read its whole input, in place of one that stopped at a framing fault.
use Rattle.std.proofs.Common.{◌≡◌, ℕ, List, [], ◌++◌, length, refl, sym, ap, ◌∙◌, subst, arith, append-nil, length-append}
use Rattle.doip_segment.specs.declared.outcome.Limits.{Limits}
use Rattle.doip_segment.specs.Framing.{Framed, BreaksSession, saturated}
use Rattle.doip_segment.proofs.StayLemmas.{IsBroken, stays, rest_unspelt, framed_on}
use Rattle.base_core.specs.Causes.{Rose}
use Rattle.session_core.specs.declared.end.SessionEnd.{SessionEnd}
use Rattle.session_core.specs.declared.end.SessionEnd.TheVariants.{Ended, Cut, Framing, ReadFault, WriteFault}
use Rattle.session_core.specs.Session.{EndsSo, Session, Transcript}
use Rattle.session_core.specs.Cuts.{IsFaultless, ReadTheSame}
use Rattle.session_core.specs.OneInput.{ReadOneInput}

-- the same session, with all of its input read
abbrev pub whole : Transcript → Transcript
whole t = record t { read = t.read ++ t.unread; unread = [] }

module _ (limits : Limits) (t : Transcript) (s : Session limits t) where
  -- what was read, where nothing is unread
  all_read : t.unread ≡ [] → t.read ≡ t.read ++ t.unread
  all_read none = sym (ap (λ (w : List ℕ). t.read ++ w) none ∙ append-nil t.read)

  whole_by : (end : SessionEnd) → t.end ≡ end → IsFaultless end
      → EndsSo limits (record { read = t.read; messages = s.messages; rest = s.rest; pairs = t.pairs; written = t.written }) (t.unread ≡ []) (Rose t.before t.after) end
      → Session limits (whole t)
  whole_by Ended is safe h = record {
    messages = s.messages;
    rest = s.rest;
    framed = subst (λ (w : List ℕ). Framed limits w s.messages s.rest) (all_read h.1) s.framed;
    ends = subst (λ (e : SessionEnd). EndsSo limits (record { read = t.read ++ t.unread; messages = s.messages; rest = s.rest; pairs = t.pairs; written = t.written }) ((whole t).unread ≡ []) (Rose t.before t.after) e) (sym is)
        (record { each = h.0.each; wrote = h.0.wrote }, refl, h.2, h.3);
  }
  whole_by (Cut place) is safe h = record {
    messages = s.messages;
    rest = s.rest;
    framed = subst (λ (w : List ℕ). Framed limits w s.messages s.rest) (all_read h.1) s.framed;
    ends = subst (λ (e : SessionEnd). EndsSo limits (record { read = t.read ++ t.unread; messages = s.messages; rest = s.rest; pairs = t.pairs; written = t.written }) ((whole t).unread ≡ []) (Rose t.before t.after) e) (sym is)
        (record { each = h.0.each; wrote = h.0.wrote }, refl, h.2, h.3, h.4 ∙ ap (λ (w : List ℕ). saturated (length w)) (all_read h.1));
  }
  whole_by (Framing place reason) is safe h =
      let b : BreaksSession limits t.read s.rest place reason = h.1 in
      let on : IsBroken limits (s.rest ++ t.unread) b.at reason = stays limits s.rest t.unread b.at reason (rest_unspelt limits t.read s.messages s.rest s.framed) b.breaks in
      record {
        messages = s.messages;
        rest = s.rest ++ t.unread;
        framed = framed_on limits t.read t.unread s.messages s.rest s.framed on.unspelt;
        ends = subst (λ (e : SessionEnd). EndsSo limits (record { read = t.read ++ t.unread; messages = s.messages; rest = s.rest ++ t.unread; pairs = t.pairs; written = t.written }) ((whole t).unread ≡ []) (Rose t.before t.after) e) (sym is) (
          record { each = h.0.each; wrote = h.0.wrote },
          record { before = b.before; at = b.at; all = omega (arith, b.all, length-append s.rest t.unread, length-append t.read t.unread); breaks = on.broken; is = b.is },
        );
      }
  whole_by ReadFault is safe h = absurd (safe.0 refl)
  whole_by WriteFault is safe h = absurd (safe.1 refl)

  pub whole_session : IsFaultless t.end → Session limits (whole t)
  whole_session safe = whole_by t.end refl safe s.ends

pub read_the_same : (limits : Limits) (one other : Transcript) → ReadOneInput limits one other → ReadTheSame limits (whole one) (whole other)
read_the_same limits one other h = record {
  first = whole_session limits one h.first h.first_faultless;
  second = whole_session limits other h.second h.second_faultless;
  bytes = h.input;
}
