-- Each change of the step can be made in the state before it.
use Prim.Native.Nat.{zero}
use Rattle.std.proofs.Common.{◌≡◌, ℕ, suc, ◌+◌, ◌-◌, ◌<◌, ◌≤◌, List, Bool, true, false, nat_lt, cond, if◌then◌else◌, Option, Some, None, is_some, option_map, Result, Ok, Err, refl, ap, sym, ◌∙◌, subst, true≢false, arith, ltb-true}
use Rattle.std.specs.FinMap as map
use Rattle.doip_segment.specs.Segments.{Segment}
use Rattle.doip_json.specs.Value.{Value, null, truth, whole, text, list, table, Entries}
use Rattle.doip_message.specs.Asked.{Content, Properties}
use Rattle.doip_message.specs.Reading.{request}
use Rattle.dobj_model.specs.declared.object.ObjectValue.{ObjectValue}
use Rattle.acl_core.specs.declared.caller.Caller.{Caller}
use Rattle.acl_core.specs.declared.rights.TypeLists.{TypeLists}
use Rattle.ext_ops.specs.declared.code.ExtCode.{ExtCode}
use Rattle.journal_core.specs.declared.records.Stamp.{Stamp}
use Rattle.record_core.specs.declared.change.Change.{Change}
use Rattle.record_core.specs.declared.change.Change.TheVariants as changes
use Rattle.record_core.specs.Storable.{IsCounterIfThere}
use Rattle.repo_state.specs.Contents.{Contents, Objects, apply}
use Rattle.repo_state.specs.Groups.{is_text}
use Rattle.repo_state.specs.Sound.{IsConsistent, is_sound_in, last_counter, plain_type}
use Rattle.repo_state.specs.Types.{known_lists, plain_lists}
use Rattle.repo_step.specs.declared.brought.Brought.{Brought}
use Rattle.repo_step.specs.declared.operation.Operation.{Operation}
use Rattle.repo_step.specs.declared.operation.Operation.TheVariants as operations
use Rattle.repo_step.specs.declared.refusal.Refusal.{Refusal}
use Rattle.repo_step.specs.declared.refusal.Refusal.TheVariants.{InUse, CounterSpent}
use Rattle.repo_step.specs.Setting.{Setting, State}
use Rattle.repo_step.specs.Chain.{unless, clear, found, read}
use Rattle.repo_step.specs.Effect.{Effect, Attempt, outputs, shows, puts, removes}
use Rattle.repo_step.specs.Laws.{CanFollow}
use Rattle.repo_step.specs.operations.Limits.{last_number, lacking, within_limits}
use Rattle.repo_step.specs.operations.Mint.{NewId, first_from, is_free, minted, named, named_as, numbered}
use Rattle.repo_step.specs.operations.Create.{create}
use Rattle.repo_step.specs.operations.Update.{update}
use Rattle.repo_step.specs.operations.Delete.{delete}
use Rattle.repo_step.specs.operations.Extended.{extended, answered}
use Rattle.repo_step.specs.operations.Retrieve.{retrieve, retrieved, element_called}
use Rattle.repo_step.specs.Step.{Target, at_service, at_object, target_in, Offer, to_say_hello, to_list_service, to_create, to_list, to_retrieve, to_update, to_delete, to_extend, offer_on, offered, perform, accepted, attempt, valid, step, plan_with, next_stamp}

abbrev is_ok : {A E : Type 0} → Result A E → Bool
is_ok (Ok a) = true
is_ok (Err e) = false

abbrev effect_in : Effect → Attempt → Effect
effect_in other (Ok e) = e
effect_in other (Err r) = other

abbrev change_in : Change → Option Change → Change
change_in other (Some c) = c
change_in other None = other

below : (m n : ℕ) → nat_lt m n ≡ true → m < n
below m n e = ltb-true m n e

-- a change that an attempt makes has the property
abbrev Keeps : (Change → Type 0) → Attempt → Type 0
Keeps P made = (effect : Effect) (change : Change) → made ≡ Ok effect → effect.change ≡ Some change → P change

module _ (P : Change → Type 0) where
  refuses : (r : Refusal) → Keeps P (Err r)
  refuses r effect change e is = absurd (true≢false (ap is_ok (sym e)))

  makes : (x : Effect) → ((change : Change) → x.change ≡ Some change → P change) → Keeps P (Ok x)
  makes x k effect change e is = k change (ap (λ a. (effect_in x a).change) e ∙ is)

  -- a word of the chain keeps what the rest keeps
  by_unless : (b : Bool) (r : Refusal) (rest : Attempt) → (b ≡ true → Keeps P rest) → Keeps P (unless b r rest)
  unfolding unless
  by_unless true r rest k = k refl
  by_unless false r rest k = refuses r

  by_clear : {A : Type 0} (o : Option A) (r : A → Refusal) (rest : Attempt) → (o ≡ None → Keeps P rest) → Keeps P (clear o r rest)
  unfolding clear
  by_clear None r rest k = k refl
  by_clear (Some a) r rest k = refuses (r a)

  by_found : {A : Type 0} (o : Option A) (r : Refusal) (rest : A → Attempt) → ((a : A) → o ≡ Some a → Keeps P (rest a)) → Keeps P (found o r rest)
  unfolding found
  by_found None r rest k = refuses r
  by_found (Some a) r rest k = k a refl

  by_read : {A : Type 0} (o : Result A Refusal) (rest : A → Attempt) → ((a : A) → o ≡ Ok a → Keeps P (rest a)) → Keeps P (read o rest)
  unfolding read
  by_read (Err r) rest k = refuses r
  by_read (Ok a) rest k = k a refl

  by_outputs : (output : Content) → Keeps P (outputs output)
  by_outputs output = makes (record { output = output; change = None }) (λ change is. absurd (true≢false (ap is_some (sym is))))

  by_shows : (v : Value) → Keeps P (shows v)
  by_shows v = by_outputs _

  by_puts : (o : ObjectValue) (counter : Option ℕ) → P (changes.Put o counter) → Keeps P (puts o counter)
  by_puts o counter p = makes _ (λ change is. subst P (ap (change_in (changes.Put o counter)) is) p)

  by_removes : (id : List ℕ) → P (changes.Remove id) → Keeps P (removes id)
  by_removes id p = makes _ (λ change is. subst P (ap (change_in (changes.Remove id)) is) p)

  by_limits : (s : State) (change : Change) (rest : Attempt)
      → (s.contents.number < last_number → lacking s.room change ≡ None → Keeps P rest) → Keeps P (within_limits s change rest)
  by_limits s change rest k =
      by_unless _ _ _ (λ numbered.
      by_clear _ _ _ (λ room. k (below _ _ numbered) room))

abbrev number_in : ℕ → Option ℕ → ℕ
number_in other (Some n) = n
number_in other None = other

-- a number that is found is one of those that were looked at
first_within : (passes : ℕ → Bool) (count n m : ℕ) → first_from passes count n ≡ Some m → (n ≤ m) × (m < n + count)
first_within passes zero n m e = absurd (true≢false (ap is_some (sym e)))
first_within passes (suc count) n m e =
    by (passes n) (λ e. let p = first_within passes count (n + 1) m e in (omega (arith, p), omega (arith, p))) e
  where
    by : (b : Bool) → (first_from passes count (n + 1) ≡ Some m → (n ≤ m) × (m < n + suc count))
        → cond b (Some n) (first_from passes count (n + 1)) ≡ Some m → (n ≤ m) × (m < n + suc count)
    by true later e = let same : n ≡ m = ap (λ o. number_in n o) e in (omega (arith, same), omega (arith, same))
    by false later e = later e

-- a type that is known is the built-in one
known_is : (objects : Objects) (name : List ℕ) (lists : TypeLists) → known_lists objects name ≡ Some lists
    → is_text name plain_type ≡ true
known_is objects name lists e = by (is_text name plain_type) e
  where
    by : (b : Bool) → (if b then Some plain_lists else None) ≡ Some lists → b ≡ true
    by true e = refl
    by false e = absurd (true≢false (ap is_some (sym e)))

abbrev name_in : NewId → Result NewId Refusal → NewId
name_in other (Ok name) = name
name_in other (Err r) = other

-- the counter of a new identifier is in range
named_counter : (setting : Setting) (c : Contents) → IsConsistent c → (asked : Option (List ℕ)) (name : NewId)
    → named setting c asked ≡ Ok name → IsCounterIfThere name.counter
unfolding unless found
named_counter setting c is (Some id) name e = by (is_free setting c id) e
  where
    by : (b : Bool) → unless b InUse (Ok (named_as id None)) ≡ Ok name → IsCounterIfThere name.counter
    by true e = subst IsCounterIfThere (ap (λ r. (name_in name r).counter) e) tt
    by false e = absurd (true≢false (ap is_ok (sym e)))
named_counter setting c is None name e = by (minted setting c) refl e
  where
    by : (o : Option ℕ) → minted setting c ≡ o
        → found o CounterSpent (λ n. Ok (named_as (numbered setting.prefix n) (Some (n + 1)))) ≡ Ok name → IsCounterIfThere name.counter
    by None there e = absurd (true≢false (ap is_ok (sym e)))
    by (Some n) there e =
        let p = first_within (λ n. is_free setting c (numbered setting.prefix n)) (last_counter - c.counter) c.counter n there in
        let last = is.last in
        subst IsCounterIfThere (ap (λ r. (name_in name r).counter) e) (omega arith, omega (arith, p, last))

module _
    (put : (c : Contents) (stamp : Stamp) (o : ObjectValue) (counter : Option ℕ) → IsConsistent c
    → is_sound_in c.objects o ≡ true → IsCounterIfThere counter
    → IsConsistent (apply (record { stamp = stamp; change = changes.Put o counter }) c))
    (removed : (c : Contents) (stamp : Stamp) (id : List ℕ) → IsConsistent c
    → IsConsistent (apply (record { stamp = stamp; change = changes.Remove id }) c))
    (setting : Setting) (brought : Brought) (s : State) (consistent : IsConsistent s.contents) where
  abbrev P : Change → Type 0
  P change = CanFollow brought s change

  can_put : (o : ObjectValue) (counter : Option ℕ) → is_sound_in s.contents.objects o ≡ true → IsCounterIfThere counter
      → s.contents.number < last_number → lacking s.room (changes.Put o counter) ≡ None → P (changes.Put o counter)
  can_put o counter sound there numbered room = record {
    storable = there;
    numbered = numbered;
    room = room;
    consistent = put s.contents (next_stamp brought s) o counter consistent sound there;
  }

  create_keeps : (caller : Caller) (input : Content) → Keeps P (create setting brought s caller input)
  create_keeps caller input =
      by_read P _ _ (λ d _.
      by_found P _ _ _ (λ type_name _.
      by_found P _ _ _ (λ lists known.
      by_unless P _ _ _ (λ _.
      by_clear P _ _ _ (λ _.
      by_read P _ _ (λ name is.
      by_unless P _ _ _ (λ _.
      by_limits P s _ _ (λ numbered room.
      by_puts P _ _ (can_put _ _ (known_is s.contents.objects type_name lists known)
      (named_counter setting s.contents consistent d.id name is) numbered room)))))))))

  update_keeps : (caller : Caller) (input : Content) (o : ObjectValue) → is_sound_in s.contents.objects o ≡ true
      → Keeps P (update brought s caller input o)
  update_keeps caller input o sound =
      by_unless P _ _ _ (λ _.
      by_read P _ _ (λ d _.
      by_unless P _ _ _ (λ _.
      by_unless P _ _ _ (λ _.
      by_clear P _ _ _ (λ _.
      by_unless P _ _ _ (λ _.
      by_limits P s _ _ (λ numbered room.
      by_puts P _ _ (can_put _ _ sound tt numbered room))))))))

  delete_keeps : (caller : Caller) (o : ObjectValue) → Keeps P (delete s caller o)
  delete_keeps caller o =
      by_unless P _ _ _ (λ _.
      by_limits P s _ _ (λ numbered room.
      by_removes P _ (record {
        storable = tt;
        numbered = numbered;
        room = room;
        consistent = removed s.contents (next_stamp brought s) o.id consistent;
      })))

  extended_keeps : (code : ExtCode) (caller : Caller) (arguments : Entries) (o : ObjectValue) → Keeps P (extended code s caller arguments o)
  extended_keeps code caller arguments o = by_unless P _ _ _ (λ _. by _)
    where
      by : (r : Result Value (List ℕ)) → Keeps P (answered r)
      by (Ok v) = by_shows P v
      by (Err reason) = refuses P _

  retrieve_keeps : (caller : Caller) (arguments : Entries) (o : ObjectValue) → Keeps P (retrieve s caller arguments o)
  retrieve_keeps caller arguments o = by_unless P _ _ _ (λ _. by _)
    where
      by : (element : Option Value) → Keeps P (retrieved o arguments element)
      by None = by_outputs P _
      by (Some (text id)) = by_found P (element_called id o) _ _ (λ e _. by_outputs P _)
      by (Some null) = refuses P _
      by (Some (truth b)) = refuses P _
      by (Some (whole z)) = refuses P _
      by (Some (list vs)) = refuses P _
      by (Some (table es)) = refuses P _

  abbrev IsSoundTarget : Target → Type 0
  IsSoundTarget at_service = Unit {0}
  IsSoundTarget (at_object o) = is_sound_in s.contents.objects o ≡ true

  abbrev target_or : Target → Option Target → Target
  target_or other (Some t) = t
  target_or other None = other

  target_sound : (id : List ℕ) (target : Target) → target_in setting s id ≡ Some target → IsSoundTarget target
  target_sound id target e = by (is_text id setting.service) (map.get s.contents.objects id) refl e
    where
      by : (b : Bool) (o : Option ObjectValue) → map.get s.contents.objects id ≡ o
          → (if b then Some at_service else option_map at_object o) ≡ Some target → IsSoundTarget target
      by true o get e = subst IsSoundTarget (ap (target_or target) e) tt
      by false (Some o) get e = subst IsSoundTarget (ap (target_or target) e) (consistent.sound id o get)
      by false None get e = absurd (true≢false (ap is_some (sym e)))

  module _ (caller : Caller) (asked : Properties) where
    abbrev IsSoundOffer : Offer → Type 0
    IsSoundOffer (to_update o) = is_sound_in s.contents.objects o ≡ true
    IsSoundOffer offer = Unit {0}

    performs : (offer : Offer) → IsSoundOffer offer → Keeps P (perform setting brought s caller asked offer)
    performs to_say_hello sound = by_shows P _
    performs to_list_service sound = by_shows P _
    performs to_create sound = create_keeps caller asked.input
    performs (to_list o) sound = by_unless P _ _ _ (λ _. by_shows P _)
    performs (to_retrieve o) sound = retrieve_keeps caller asked.attributes o
    performs (to_update o) sound = update_keeps caller asked.input o sound
    performs (to_delete o) sound = delete_keeps caller o
    performs (to_extend code o) sound = extended_keeps code caller asked.attributes o

    some_keeps : (offer : Offer) → IsSoundOffer offer → Keeps P (offered setting brought s caller asked (Some offer))
    unfolding found
    some_keeps offer sound = performs offer sound

    none_keeps : Keeps P (offered setting brought s caller asked None)
    unfolding found
    none_keeps = refuses P _

    offered_keeps : (operation : Operation) (target : Target) → IsSoundTarget target
        → Keeps P (offered setting brought s caller asked (offer_on operation target))
    offered_keeps operations.Hello at_service sound = some_keeps to_say_hello tt
    offered_keeps operations.ListOperations at_service sound = some_keeps to_list_service tt
    offered_keeps operations.Create at_service sound = some_keeps to_create tt
    offered_keeps operations.Retrieve at_service sound = none_keeps
    offered_keeps operations.Update at_service sound = none_keeps
    offered_keeps operations.Delete at_service sound = none_keeps
    offered_keeps (operations.Extended code) at_service sound = none_keeps
    offered_keeps operations.Hello (at_object o) sound = none_keeps
    offered_keeps operations.Create (at_object o) sound = none_keeps
    offered_keeps operations.ListOperations (at_object o) sound = some_keeps (to_list o) tt
    offered_keeps operations.Retrieve (at_object o) sound = some_keeps (to_retrieve o) tt
    offered_keeps operations.Update (at_object o) sound = some_keeps (to_update o) sound
    offered_keeps operations.Delete (at_object o) sound = some_keeps (to_delete o) tt
    offered_keeps (operations.Extended code) (at_object o) sound = some_keeps (to_extend code o) tt

  accepted_keeps : (asked : Properties) → Keeps P (accepted setting brought s asked)
  accepted_keeps asked =
      by_found P _ _ _ (λ caller _.
      by_found P _ _ _ (λ operation _.
      by_found P _ _ _ (λ target is.
      offered_keeps caller asked operation target (target_sound asked.target_id target is))))

  planned_keeps : (request_id : Option (List ℕ)) (made : Attempt) → Keeps P made → (change : Change)
      → (plan_with request_id made).change ≡ Some change → P change
  planned_keeps request_id (Ok effect) keeps change is = keeps effect change refl is
  planned_keeps request_id (Err r) keeps change is = absurd (true≢false (ap is_some (sym is)))

  -- each change of the step can be made
  pub step_keeps : (message : List Segment) (change : Change) → (step setting brought s message).change ≡ Some change
      → CanFollow brought s change
  step_keeps message change is =
      planned_keeps _ (attempt setting brought s (request message))
      (by_read P (valid (request message)) _ (λ asked _. accepted_keeps asked.properties)) change is
