-- What a message brings as the input of its request.
use Rattle.std.proofs.Common.{◌≡◌, ◌≤◌, ℕ, suc, List, [], ◌∷◌, length, codes, Bool, true, false, Option, Some, None, is_some, Result, Ok, Err, refl, ap, sym, ◌∙◌, true≢false, subst, arith}
use Rattle.doip_json.specs.declared.fault.TextFault.{TextFault}
use Rattle.doip_json.specs.Value.{Value, null, truth, whole, text, list, table, Entries}
use Rattle.doip_json.specs.Look.{field_of}
use Rattle.doip_json.specs.Read.{reading}
use Rattle.doip_segment.specs.declared.kind.Kind.{Kind}
use Rattle.doip_segment.specs.declared.kind.Kind.TheVariants as kinds
use Rattle.doip_segment.specs.Framing.{most_total}
use Rattle.doip_segment.specs.Segments.{Segment}
use Rattle.doip_message.specs.declared.request.Why.{Why}
use Rattle.doip_message.specs.Asked.{Content, no_content, Asked, Properties}
use Rattle.doip_message.specs.Reading.{◌>>=◌, request, request_with, request_depth, object_in, object_of_kind, properties_in, property_values, input_in, property, unless_null, optional_text, required_text, attributes_in, authentication_in, with_request_id}
use Rattle.doip_message.specs.declared.request.FieldName.TheVariants as names
use Rattle.dobj_draft.specs.Made.{IsBrought}
use Rattle.repo_step.specs.Drafts.{IsBroughtContent, AreShort}

abbrev is_ok : {A E : Type 0} → Result A E → Bool
is_ok (Ok a) = true
is_ok (Err e) = false

abbrev value_in : {A E : Type 0} → A → Result A E → A
value_in other (Ok a) = a
value_in other (Err e) = other

-- a fault is no value
no_value : {A E : Type 0} {B : Type 0} (e : E) (a : A) → Err e ≡ Ok a → B
no_value e a same = absurd (true≢false (ap is_ok (sym same)))

module _
    (texts : (bytes : List ℕ) (depth : ℕ) (v : Value) → reading bytes depth ≡ Ok v → depth ≤ 64 → length bytes ≤ most_total → IsBrought v)
    (properties : (key : List ℕ) (v w : Value) → IsBrought v → field_of key v ≡ Some w → IsBrought w) where
  some_there : (o : Option Value) (w : Value) → unless_null o ≡ Some w → o ≡ Some w
  some_there None w e = e
  some_there (Some null) w e = absurd (true≢false (ap is_some (sym e)))
  some_there (Some (truth b)) w e = e
  some_there (Some (whole z)) w e = e
  some_there (Some (text s)) w e = e
  some_there (Some (list vs)) w e = e
  some_there (Some (table es)) w e = e

  -- an input that is read
  input_brought : (v : Value) → IsBrought v → (o : Option Value) → property (codes "input") v ≡ o → (ss : List Segment) → AreShort ss
      → (input : Content) → input_in o ss ≡ Ok input → IsBroughtContent input
  input_brought v brought None is [] short input same = subst IsBroughtContent (ap (value_in no_content) same) tt
  input_brought v brought None is (s ∷ ss) short input same = subst IsBroughtContent (ap (value_in no_content) same) short
  input_brought v brought (Some w) is [] short input same =
      subst IsBroughtContent (ap (value_in no_content) same)
      (properties (codes "input") v w brought (some_there (field_of (codes "input") v) w is))
  input_brought v brought (Some w) is (s ∷ ss) short input same = no_value _ _ same

  properties_brought : (v : Value) → IsBrought v → (ss : List Segment) → AreShort ss → (asked : Properties)
      → properties_in (property_values v) ss ≡ Ok asked → IsBroughtContent asked.input
  unfolding properties_in
  properties_brought v brought ss short asked same =
      by (required_text names.TargetId (property_values v).target_id)
      (required_text names.OperationId (property_values v).operation_id) (attributes_in (property_values v).attributes)
      (input_in (property_values v).input ss) (input_brought v brought (property_values v).input refl ss short) same
    where
      by : (t o : Result (List ℕ) Why) (a : Result Entries Why) (i : Result Content Why)
          → ((input : Content) → i ≡ Ok input → IsBroughtContent input)
          → t >>= (λ target. o >>= (λ operation. a >>= (λ attributes. i >>= (λ input. Ok (record {
            target_id = target;
            operation_id = operation;
            attributes = attributes;
            authentication = authentication_in (property_values v).authentication;
            input = input;
          }))))) ≡ Ok asked → IsBroughtContent asked.input
      by (Err e) o a i is same = no_value e asked same
      by (Ok t) (Err e) a i is same = no_value e asked same
      by (Ok t) (Ok o) (Err e) i is same = no_value e asked same
      by (Ok t) (Ok o) (Ok a) (Err e) is same = no_value e asked same
      by (Ok t) (Ok o) (Ok a) (Ok i) is same =
          subst IsBroughtContent (ap (λ r. (value_in asked r).input) same) (is i refl)

  with_object : (r : Result Value Why) → ((v : Value) → r ≡ Ok v → IsBrought v) → (ss : List Segment) → AreShort ss → (asked : Asked)
      → request_with r ss ≡ Ok asked → IsBroughtContent asked.properties.input
  with_object (Err why) brought ss short asked same = no_value _ _ same
  with_object (Ok v) brought ss short asked same =
      by (optional_text names.RequestId (property (codes "requestId") v)) (properties_in (property_values v) ss) refl same
    where
      by : (id : Result (Option (List ℕ)) Why) (r : Result Properties Why) → properties_in (property_values v) ss ≡ r
          → with_request_id id r ≡ Ok asked → IsBroughtContent asked.properties.input
      by (Err why) r is e = no_value _ _ e
      by (Ok id) (Err why) is e = no_value _ _ e
      by (Ok id) (Ok p) is e =
          subst (λ (a : Asked). IsBroughtContent a.properties.input) (ap (value_in asked) e)
          (properties_brought v (brought v refl) ss short p is)

  object_brought : (kind : Kind) (bytes : List ℕ) → length bytes ≤ most_total → (v : Value) → object_of_kind kind bytes ≡ Ok v → IsBrought v
  object_brought kinds.Bytes bytes few v same = no_value _ _ same
  object_brought kinds.Json bytes few v same = by (reading bytes request_depth) refl same
    where
      by : (r : Result Value TextFault) → reading bytes request_depth ≡ r → object_in r ≡ Ok v → IsBrought v
      by (Err fault) is e = no_value _ _ e
      by (Ok (table es)) is e = texts bytes request_depth v (is ∙ ap (λ x. Ok (value_in v x)) e) (omega arith) few
      by (Ok null) is e = no_value _ _ e
      by (Ok (truth b)) is e = no_value _ _ e
      by (Ok (whole z)) is e = no_value _ _ e
      by (Ok (text s)) is e = no_value _ _ e
      by (Ok (list vs)) is e = no_value _ _ e

  -- the input of the request that a message is, of which no segment is longer than a message may be
  pub request_brought : (segments : List Segment) → AreShort segments → (asked : Asked)
      → request segments ≡ Ok asked → IsBroughtContent asked.properties.input
  request_brought [] short asked same = no_value _ _ same
  request_brought (s ∷ ss) short asked same =
      with_object (object_of_kind s.kind s.bytes)
      (object_brought s.kind s.bytes (short 0 s (omega arith))) ss
      (λ k d below. short (suc k) d (omega (arith, below))) asked same
