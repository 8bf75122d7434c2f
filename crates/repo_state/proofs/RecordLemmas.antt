-- Records of changes, one more at a time.
use Rattle.std.proofs.Common.{◌≡◌, refl, ap, sym, ◌∙◌, subst, ℕ, zero, suc, ◌+◌, ◌<◌, ◌≤◌, Bor, arith}
use Rattle.std.proofs.Common.{List, [], ◌∷◌, ◌++◌, length, get_or, take, map}
use Rattle.std.proofs.Common.{option_map, None, Some, Result, Ok, Err, OnOk, IfOk, IfErr}
use Rattle.std.proofs.lemmas.List.{map-append, length-map}
use Rattle.std.proofs.lemmas.List.Sums.{fold-append}
use Rattle.std.proofs.lemmas.Option.{slice_get-map, slice_get_read}
use Rattle.std.specs.FinMap as finite
use Rattle.std.specs.List.{All, slice_get}
use Rattle.std.proofs.lemmas.List.Elements.{All-nil, All-cons}
use Rattle.std.specs.declared.alloc.AllocError.{AllocError}
use Rattle.doip_json.proofs.Lists.{take_next}
use Rattle.dobj_model.specs.declared.object.ObjectValue.{ObjectValue}
use Rattle.journal_core.specs.Journal.{IsNumbered}
use Rattle.journal_core.specs.Layout.{most_number}
use Rattle.journal_core.specs.declared.records.Record.{Record}
use Rattle.journal_core.specs.declared.records.Stamp.{Stamp}
use Rattle.record_core.specs.declared.change.Change.{Change}
use Rattle.record_core.specs.declared.format.Format.{Format}
use Rattle.record_core.specs.declared.format.Format.TheVariants.{Second}
use Rattle.record_core.specs.Reading.{IsBodyOf}
use Rattle.repo_state.specs.Compacted.{object_at, listed, compacted, IsRecordAt}
use Rattle.repo_state.specs.Contents.{Contents, Stamped, no_contents, apply, replay}
use Rattle.repo_state.specs.Held.{Held}
use Rattle.repo_state.specs.Recorded.{IsRecordOf, AreRecordsOf}
use Rattle.repo_state.specs.Replayed.{AreReplayed, IsFirstOther, Opens, IsFaultOf}
use Rattle.repo_state.specs.Rows.{Row}
use Rattle.repo_state.specs.Sound.{least_unsound}
use Rattle.repo_state.specs.declared.replay.ReplayFault.{ReplayFault}
use Rattle.repo_state.specs.declared.replay.ReplayFault.TheVariants.{NotARecord, Unsound, Memory}
use Rattle.repo_state.proofs.LeastLemmas.{some_same, no_some}

-- one record more
pub one_more : (format : Format) (rs : List Record) (ss : List Stamped) (r : Record) (s : Stamped)
    → AreRecordsOf format rs ss → IsRecordOf format r s → AreRecordsOf format (rs ++ r ∷ []) (ss ++ s ∷ [])
one_more format [] [] r s are is = (is, tt)
one_more format [] (t ∷ ss) r s are is = absurd are
one_more format (q ∷ rs) [] r s are is = absurd are
one_more format (q ∷ rs) (t ∷ ss) r s are is = (are.0, one_more format rs ss r s are.1 is)

-- the record of the next change
pub next_record : (format : Format) (rs : List Record) (ss : List Stamped) (i : ℕ) (r : Record) (s : Stamped)
    → AreRecordsOf format rs (take i ss) → slice_get ss i ≡ Some s → IsRecordOf format r s
    → AreRecordsOf format (rs ++ r ∷ []) (take (i + 1) ss)
next_record format rs ss i r s are there is =
    subst (AreRecordsOf format (rs ++ r ∷ [])) (sym (take_next ss i s there))
    (one_more format rs (take i ss) r s are is)

-- one change more
pub replay_more : (ss : List Stamped) (s : Stamped) → replay (ss ++ s ∷ []) ≡ apply s (replay ss)
replay_more ss s = fold-append (λ before x. apply x before) no_contents ss (s ∷ [])

-- the change of the next record
pub next_change : (format : Format) (rs : List Record) (i : ℕ) (r : Record) (c d : Contents) (change : Change)
    → AreReplayed format (take i rs) c → Some r ≡ slice_get rs i → IsBodyOf format r.body change
    → d ≡ apply (record { stamp = r.stamp; change = change }) c → AreReplayed format (take (i + 1) rs) d
next_change format rs i r c d change was there body made =
    let s : Stamped = record { stamp = r.stamp; change = change } in
    record {
      changes = was.changes ++ s ∷ [];
      are = subst (λ l. AreRecordsOf format l (was.changes ++ s ∷ [])) (sym (take_next rs i r (sym there)))
          (one_more format (take i rs) was.changes r s was.are (record { stamp = refl; body = body }));
      gives = made ∙ ap (apply s) was.gives ∙ sym (replay_more was.changes s);
    }

-- records are those of one list of changes
pub one_list : ((format : Format) (bytes : List ℕ) (c d : Change) → IsBodyOf format bytes c → IsBodyOf format bytes d
    → c ≡ d)
    → (format : Format) (rs : List Record) (ss ts : List Stamped) → AreRecordsOf format rs ss
    → AreRecordsOf format rs ts → ss ≡ ts
one_list decide format [] [] [] p q = refl
one_list decide format [] [] (t ∷ ts) p q = absurd q
one_list decide format [] (s ∷ ss) ts p q = absurd p
one_list decide format (r ∷ rs) [] ts p q = absurd p
one_list decide format (r ∷ rs) (s ∷ ss) [] p q = absurd q
one_list decide format (r ∷ rs) (s ∷ ss) (t ∷ ts) p q =
    let stamps : s.stamp ≡ t.stamp = sym p.0.stamp ∙ q.0.stamp in
    let changes : s.change ≡ t.change = decide format r.body s.change t.change p.0.body q.0.body in
    let rest : ss ≡ ts = one_list decide format rs ss ts p.1 q.1 in
    λ i. record { stamp = stamps i; change = changes i } ∷ rest i

-- each record is that of a change
body_at : (format : Format) (rs : List Record) (ss : List Stamped) (i : ℕ) (r : Record) → AreRecordsOf format rs ss
    → slice_get rs i ≡ Some r → (change : Change) × IsBodyOf format r.body change
body_at format [] ss i r are there = absurd (no_some r (sym there))
body_at format (q ∷ rs) [] i r are there = absurd are
body_at format (q ∷ rs) (s ∷ ss) zero r are there =
    (s.change, subst (λ (x : Record). IsBodyOf format x.body s.change) (some_same q r there) are.0.body)
body_at format (q ∷ rs) (s ∷ ss) (suc i) r are there = body_at format rs ss i r are.1 there

-- records of changes are read
pub all_read : (format : Format) (rs : List Record) (ss : List Stamped) (place : ℕ) → AreRecordsOf format rs ss
    → IsFirstOther format rs place → ⊥
all_read format rs ss place are other =
    let body = body_at format rs ss place other.other are other.there in other.is body.0 body.1

-- records with one number
one_number : (number : ℕ) (rs : List Record) (os : List ObjectValue)
    → AreRecordsOf Second rs (map (object_at number) os) → number ≤ most_number → All IsNumbered rs
one_number number [] [] are most = All-nil IsNumbered
one_number number [] (o ∷ os) are most = absurd are
one_number number (r ∷ rs) [] are most = absurd are
one_number number (r ∷ rs) (o ∷ os) are most =
    All-cons IsNumbered r rs (subst (λ n. n ≤ most_number) (sym (ap (λ (s : Stamp). s.number) are.0.stamp)) most)
    (one_number number rs os are.1 most)

-- numbers of a compacted journal can stand in a file
pub numbered : (rs : List Record) (c : Contents) → AreRecordsOf Second rs (compacted c) → c.number ≤ most_number
    → All IsNumbered rs
numbered [] c are most = absurd are
numbered (r ∷ rs) c are most =
    All-cons IsNumbered r rs (subst (λ n. n ≤ most_number) (sym (ap (λ (s : Stamp). s.number) are.0.stamp)) most)
    (one_number c.number rs (finite.values c.objects) are.1 most)

-- what a replay returns, from what its changes made and how it ended
pub opens : (format : Format) (made : Contents → Contents) (rs : List Record) (c d : Contents)
    (result : Result Held ReplayFault)
    → AreReplayed format rs c → d ≡ made c → d.objects ≡ c.objects → IfOk result (λ table. table.contents ≡ d)
    → OnOk result (least_unsound d.objects ≡ None) → IfErr result (IsFaultOf d) → Opens format made rs result
opens format made rs c d (Ok table) are made_is same is sound fault =
    (c, are, ap least_unsound (sym same) ∙ sound, is ∙ made_is)
opens format made rs c d (Err (NotARecord index)) are made_is same is sound fault = absurd fault
opens format made rs c d (Err (Unsound id)) are made_is same is sound fault =
    (c, are, ap least_unsound (sym same) ∙ fault)
opens format made rs c d (Err Memory) are made_is same is sound fault = tt

-- the record of an object is at its place
pub object_there : (number counter : ℕ) (xs : List (Bor ObjectValue)) (list : List Stamped) (j : ℕ)
    (x : Bor ObjectValue) (result : Result Record AllocError)
    → listed number counter (map (λ o. o.now) xs) ≡ list → j + 1 < length list → x ≡ get_or xs j x
    → IfOk result (λ r. IsRecordOf Second r (object_at number x.now)) → IfOk result (IsRecordAt list (j + 1))
object_there number counter xs list j x (Err fault) view within at is = tt
object_there number counter xs list j x (Ok r) view within at is = record {
  change = object_at number x.now;
  there = there;
  is = is;
}
  where
    inside : j < length xs
    inside =
        let objects = length-map xs (λ (o : Bor ObjectValue). o.now) in
        let changes = length-map (map (λ (o : Bor ObjectValue). o.now) xs) (object_at number) in
        omega (arith, within, ap length view, changes, objects)

    there : slice_get list (j + 1) ≡ Some (object_at number x.now)
    there =
        ap (λ l. slice_get l (j + 1)) (sym view)
        ∙ ap (slice_get (listed number counter (map (λ o. o.now) xs))) one
        ∙ slice_get-map (object_at number) (map (λ (o : Bor ObjectValue). o.now) xs) j
        ∙ ap (option_map (object_at number)) (slice_get-map (λ (o : Bor ObjectValue). o.now) xs j
        ∙ ap (option_map (λ (o : Bor ObjectValue). o.now)) (slice_get_read xs (length xs) j x refl inside at))
      where
        one : j + 1 ≡ suc j
        one = omega arith

-- the objects of one more row
pub next_row : (xs : List (Bor ObjectValue)) (rows : List Row) (i : ℕ) (x : Bor ObjectValue)
    → map (λ (o : Bor ObjectValue). (o.now.id, o.now)) xs ≡ take i rows → slice_get rows i ≡ Some (x.now.id, x.now)
    → map (λ (o : Bor ObjectValue). (o.now.id, o.now)) (xs ++ x ∷ []) ≡ take (i + 1) rows
next_row xs rows i x so there =
    map-append (λ (o : Bor ObjectValue). (o.now.id, o.now)) xs (x ∷ [])
    ∙ ap (λ l. l ++ (x.now.id, x.now) ∷ []) so ∙ sym (take_next rows i (x.now.id, x.now) there)
