-- Each reply of the step differs from the fixed texts in one of its first letters.
use Rattle.std.proofs.Common.{◌≡◌, ◌≢◌, ℕ, List, get_or, Option, None, Some, Ok, Err, refl, ap, ◌∙◌, sym, arith}
use Rattle.doip_json.specs.declared.fault.TextFault.TheVariants as json
use Rattle.doip_message.specs.declared.request.FieldName.TheVariants as names
use Rattle.doip_message.specs.declared.request.Why.TheVariants.{NoSegment, FirstIsBytes, Json, NotTable, Field, TwoInputs, Memory}
use Rattle.doip_message.specs.Asked.{Content, no_content, one_value, parts}
use Rattle.doip_message.specs.Reply.{Replied, reply_text, done}
use Rattle.doip_message.specs.Fixed.{memory_reply, disk_reply, closed_reply, framing_reply}
use Rattle.repo_step.specs.declared.refusal.Refusal.{Refusal}
use Rattle.repo_step.specs.declared.refusal.Refusal.TheVariants.{Invalid, AuthenticationRefused, OperationUnknown, TargetUnknown, NotOffered, AuthenticationNeeded, NotPermitted, ArgumentElement, BadInput, TypeMissing, TypeUnknown, NoBytes, OtherId, OtherType, InUse, CounterSpent, ByExtension, TooManyObjects, LastRevision, TooManyChanges, AreaFull}
use Rattle.repo_step.specs.Refusals.{refused}
use Rattle.repo_step.specs.Effect.{Attempt}
use Rattle.repo_step.specs.Step.{plan_with}
use Rattle.repo_step.specs.Laws.{IsNoFixedText}

-- one letter of a reply's text
abbrev letter : Replied → ℕ → ℕ
letter p k = get_or (reply_text p) k 0

other : (p q : Replied) (k : ℕ) → letter p k ≢ letter q k → reply_text p ≢ reply_text q
other p q k differ = λ same. differ (ap (λ (w : List ℕ). get_or w k 0) same)

-- a letter of a reply that doesn't depend on the request id
at_any : (f : Option (List ℕ) → Replied) (k a : ℕ) → letter (f None) k ≡ a → ((m : List ℕ) → letter (f (Some m)) k ≡ a)
    → (id : Option (List ℕ)) → letter (f id) k ≡ a
at_any f k a none some None = none
at_any f k a none some (Some m) = some m

-- a refusal whose message begins with none of the letters w, d, s and f
by_first : (why : Refusal) (a : ℕ) → letter (refused None why) 26 ≡ a
    → ((m : List ℕ) → letter (refused (Some m) why) 26 ≡ a)
    → a ≢ 119 → a ≢ 100 → a ≢ 115 → a ≢ 102 → (id : Option (List ℕ)) → IsNoFixedText (refused id why)
by_first why a none some w d s g id =
    let is = at_any (λ m. refused m why) 26 a none some id in
    record {
      memory = other (refused id why) memory_reply 26 (λ e. w (sym is ∙ e));
      disk = other (refused id why) disk_reply 26 (λ e. d (sym is ∙ e));
      closed = other (refused id why) closed_reply 26 (λ e. s (sym is ∙ e));
      framing = other (refused id why) framing_reply 26 (λ e. g (sym is ∙ e));
    }

-- a refusal whose message begins with "fi"
by_second : (why : Refusal) → letter (refused None why) 26 ≡ 102
    → ((m : List ℕ) → letter (refused (Some m) why) 26 ≡ 102)
    → letter (refused None why) 27 ≡ 105 → ((m : List ℕ) → letter (refused (Some m) why) 27 ≡ 105)
    → (id : Option (List ℕ)) → IsNoFixedText (refused id why)
by_second why none some none' some' id =
    let first = at_any (λ m. refused m why) 26 102 none some id in
    let second = at_any (λ m. refused m why) 27 105 none' some' id in
    record {
      memory = other (refused id why) memory_reply 26 (λ e. absurd (omega (arith, sym first ∙ e)));
      disk = other (refused id why) disk_reply 26 (λ e. absurd (omega (arith, sym first ∙ e)));
      closed = other (refused id why) closed_reply 26 (λ e. absurd (omega (arith, sym first ∙ e)));
      framing = other (refused id why) framing_reply 27 (λ e. absurd (omega (arith, sym second ∙ e)));
    }

-- A refusal's message begins with none of the letters w, d and s, and with f only as "fi".
refusal_is_none : (id : Option (List ℕ)) (why : Refusal) → IsNoFixedText (refused id why)
refusal_is_none id (Invalid NoSegment) =
    by_first (Invalid NoSegment) 110 refl (λ m. refl) (omega arith) (omega arith) (omega arith) (omega arith) id
refusal_is_none id (Invalid FirstIsBytes) =
    by_second (Invalid FirstIsBytes) refl (λ m. refl) refl (λ m. refl) id
refusal_is_none id (Invalid (Json json.NotJson)) =
    by_second (Invalid (Json json.NotJson)) refl (λ m. refl) refl (λ m. refl) id
refusal_is_none id (Invalid (Json json.TooDeep)) =
    by_second (Invalid (Json json.TooDeep)) refl (λ m. refl) refl (λ m. refl) id
refusal_is_none id (Invalid (Json json.NotWhole)) =
    by_second (Invalid (Json json.NotWhole)) refl (λ m. refl) refl (λ m. refl) id
refusal_is_none id (Invalid NotTable) =
    by_second (Invalid NotTable) refl (λ m. refl) refl (λ m. refl) id
refusal_is_none id (Invalid (Field names.RequestId)) =
    by_second (Invalid (Field names.RequestId)) refl (λ m. refl) refl (λ m. refl) id
refusal_is_none id (Invalid (Field names.TargetId)) =
    by_second (Invalid (Field names.TargetId)) refl (λ m. refl) refl (λ m. refl) id
refusal_is_none id (Invalid (Field names.OperationId)) =
    by_second (Invalid (Field names.OperationId)) refl (λ m. refl) refl (λ m. refl) id
refusal_is_none id (Invalid (Field names.Attributes)) =
    by_second (Invalid (Field names.Attributes)) refl (λ m. refl) refl (λ m. refl) id
refusal_is_none id (Invalid (Field names.Status)) =
    by_second (Invalid (Field names.Status)) refl (λ m. refl) refl (λ m. refl) id
refusal_is_none id (Invalid TwoInputs) =
    by_first (Invalid TwoInputs) 105 refl (λ m. refl) (omega arith) (omega arith) (omega arith) (omega arith) id
refusal_is_none id (Invalid Memory) =
    by_first (Invalid Memory) 34 refl (λ m. refl) (omega arith) (omega arith) (omega arith) (omega arith) id
refusal_is_none id AuthenticationRefused =
    by_first AuthenticationRefused 97 refl (λ m. refl) (omega arith) (omega arith) (omega arith) (omega arith) id
refusal_is_none id OperationUnknown =
    by_first OperationUnknown 111 refl (λ m. refl) (omega arith) (omega arith) (omega arith) (omega arith) id
refusal_is_none id TargetUnknown =
    by_first TargetUnknown 116 refl (λ m. refl) (omega arith) (omega arith) (omega arith) (omega arith) id
refusal_is_none id NotOffered =
    by_first NotOffered 111 refl (λ m. refl) (omega arith) (omega arith) (omega arith) (omega arith) id
refusal_is_none id AuthenticationNeeded =
    by_first AuthenticationNeeded 97 refl (λ m. refl) (omega arith) (omega arith) (omega arith) (omega arith) id
refusal_is_none id NotPermitted =
    by_first NotPermitted 110 refl (λ m. refl) (omega arith) (omega arith) (omega arith) (omega arith) id
refusal_is_none id ArgumentElement =
    by_first ArgumentElement 97 refl (λ m. refl) (omega arith) (omega arith) (omega arith) (omega arith) id
refusal_is_none id (BadInput fault) =
    by_first (BadInput fault) 105 refl (λ m. refl) (omega arith) (omega arith) (omega arith) (omega arith) id
refusal_is_none id TypeMissing =
    by_first TypeMissing 105 refl (λ m. refl) (omega arith) (omega arith) (omega arith) (omega arith) id
refusal_is_none id (TypeUnknown name) =
    by_first (TypeUnknown name) 116 refl (λ m. refl) (omega arith) (omega arith) (omega arith) (omega arith) id
refusal_is_none id (NoBytes e) =
    by_first (NoBytes e) 105 refl (λ m. refl) (omega arith) (omega arith) (omega arith) (omega arith) id
refusal_is_none id OtherId =
    by_first OtherId 105 refl (λ m. refl) (omega arith) (omega arith) (omega arith) (omega arith) id
refusal_is_none id OtherType =
    by_first OtherType 116 refl (λ m. refl) (omega arith) (omega arith) (omega arith) (omega arith) id
refusal_is_none id InUse =
    by_first InUse 105 refl (λ m. refl) (omega arith) (omega arith) (omega arith) (omega arith) id
refusal_is_none id CounterSpent =
    by_first CounterSpent 108 refl (λ m. refl) (omega arith) (omega arith) (omega arith) (omega arith) id
refusal_is_none id (ByExtension reason) =
    by_first (ByExtension reason) 101 refl (λ m. refl) (omega arith) (omega arith) (omega arith) (omega arith) id
refusal_is_none id TooManyObjects =
    by_first TooManyObjects 108 refl (λ m. refl) (omega arith) (omega arith) (omega arith) (omega arith) id
refusal_is_none id LastRevision =
    by_first LastRevision 108 refl (λ m. refl) (omega arith) (omega arith) (omega arith) (omega arith) id
refusal_is_none id TooManyChanges =
    by_first TooManyChanges 108 refl (λ m. refl) (omega arith) (omega arith) (omega arith) (omega arith) id
refusal_is_none id (AreaFull used asked) =
    by_first (AreaFull used asked) 108 refl (λ m. refl) (omega arith) (omega arith) (omega arith) (omega arith) id

-- A reply that is done begins with its output, its request id or its status, and never with attributes.
begins_otherwise : (reply : Option (List ℕ) → Replied) (a b : ℕ) → letter (reply None) 2 ≡ a
    → ((m : List ℕ) → letter (reply (Some m)) 2 ≡ b) → a ≢ 97 → b ≢ 97 → (id : Option (List ℕ)) → IsNoFixedText (reply id)
begins_otherwise reply a b none some not not' None = record {
  memory = other (reply None) memory_reply 2 (λ e. not (sym none ∙ e));
  disk = other (reply None) disk_reply 2 (λ e. not (sym none ∙ e));
  closed = other (reply None) closed_reply 2 (λ e. not (sym none ∙ e));
  framing = other (reply None) framing_reply 2 (λ e. not (sym none ∙ e));
}
begins_otherwise reply a b none some not not' (Some m) = record {
  memory = other (reply (Some m)) memory_reply 2 (λ e. not' (sym (some m) ∙ e));
  disk = other (reply (Some m)) disk_reply 2 (λ e. not' (sym (some m) ∙ e));
  closed = other (reply (Some m)) closed_reply 2 (λ e. not' (sym (some m) ∙ e));
  framing = other (reply (Some m)) framing_reply 2 (λ e. not' (sym (some m) ∙ e));
}

done_is_none : (output : Content) (id : Option (List ℕ)) → IsNoFixedText (done id output)
done_is_none no_content id = begins_otherwise (λ m. done m no_content) 115 114 refl (λ m. refl) (omega arith) (omega arith) id
done_is_none (one_value v) id = begins_otherwise (λ m. done m (one_value v)) 111 111 refl (λ m. refl) (omega arith) (omega arith) id
done_is_none (parts ss) id = begins_otherwise (λ m. done m (parts ss)) 115 114 refl (λ m. refl) (omega arith) (omega arith) id

-- the same of each plan
pub plan_is_none : (id : Option (List ℕ)) (a : Attempt) → IsNoFixedText (plan_with id a).reply
plan_is_none id (Ok effect) = done_is_none effect.output id
plan_is_none id (Err refusal) = refusal_is_none id refusal
