-- What making a file leaves.
use Rattle.std.proofs.Common.{◌≡◌, ◌≢◌, ◌⊎◌, inl, inr, ℕ, ◌≤◌, ◌<◌, List, [], ◌∷◌, ◌++◌, length, take, drop, Result, Ok, Err, OnOk, IsOk, refl, sym, ◌∙◌, ap, subst, arith, length-append, length-drop}
use Rattle.std.proofs.lemmas.Bool.{cases_eq, cases_lt}
use Rattle.std.proofs.lemmas.List.{append-nil, take_all, take_at, drop_at, drop_all}
use Rattle.disk_core.specs.Disk.{DiskState, IsImageNow, written, Torn, Same, Syncs, Never}
use Rattle.disk_core.specs.Runs.{Spans}
use Rattle.disk_core.proofs.RunLaws.{past_then, syncs_same_then}
use Rattle.journal_core.specs.declared.layout.Format.TheVariants.{Second}
use Rattle.std.proofs.lemmas.List.Elements.{All-nil}
use Rattle.journal_core.specs.File.{Fits, header, base_of, inside_of, HoldsAt, Holds, IsNotAStore}
use Rattle.journal_core.specs.Init.{new_file, new_length, Founds, HasSynced}
use Rattle.journal_core.proofs.Headers.{length-header}
use Rattle.journal_core.proofs.Lists.{written_after, torn_byte}

pub written_first : (piece : List ℕ) → written 0 piece [] ≡ piece
written_first piece = written_after [] [] piece 0 refl ∙ ap (λ (l : List ℕ). piece ++ l) (drop_all (length piece) [] (omega arith)) ∙ append-nil piece

pub written_text : (area : ℕ) → written 0 (68 ∷ []) (new_file 0 area) ≡ new_file 68 area
written_text area = written_after [] (new_file 0 area) (68 ∷ []) 0 refl

pub length-new_file : (first area : ℕ) → length (new_file first area) ≡ 34
length-new_file first area = omega (arith, length-append (drop 1 (header area 0)) (2 ∷ 0 ∷ []), length-drop 1 (header area 0), length-header area 0)

-- a new file whose text is whole
pub holds_new : (area : ℕ) → 64 ≤ area → area ≤ 268435456 → HoldsAt Second (new_file 68 area) area 0 []
holds_new area low high =
    let base : base_of area 0 ≡ 32 = omega arith in
    let inside : inside_of (new_file 68 area) area 0 ≡ 2 ∷ 0 ∷ [] =
    ap (λ (n : ℕ). take area (drop n (new_file 68 area))) base
    ∙ ap (λ (l : List ℕ). take area l) (drop_at (header area 0) (2 ∷ 0 ∷ []) 32 (length-header area 0))
    ∙ take_all area (2 ∷ 0 ∷ []) (omega (arith, low)) in
    record {
      has = record { least = low; most = high; side_byte = 0; side_is = refl; prefix = take_at (header area 0) (2 ∷ 0 ∷ []) 32 (length-header area 0) };
      fits = All-nil (Fits Second);
      gate = 0;
      rest = [];
      is = inside;
      shut = λ is. absurd (omega (arith, is));
    }

-- another first byte
pub other_text : (first : ℕ) (rest : List ℕ) → first ≢ 68 → IsNotAStore (first ∷ rest)
other_text first rest other area side has = absurd (other (head first _ _ has.prefix))
  where
    head : (a : ℕ) (s t : List ℕ) → a ∷ s ≡ 68 ∷ t → a ≡ 68
    head a s t e = cc

-- whatever a crash makes of the first byte
pub torn_text : (area : ℕ) (image : List ℕ) → 64 ≤ area → area ≤ 268435456 → Torn 0 1 (new_file 0 area) image → IsNotAStore image ⊎ Holds Second image []
torn_text area image low high torn =
    let rest : List ℕ = drop 1 (header area 0) ++ 2 ∷ 0 ∷ [] in
    let one = torn_byte [] rest image 0 0 refl torn in
    elim (cases_eq one.0 68) [
      | inl whole ↦ inr (area, 0, subst (λ (f : List ℕ). HoldsAt Second f area 0 []) (sym (one.1 ∙ ap (λ (b : ℕ). b ∷ rest) whole)) (holds_new area low high))
      | inr other ↦ inl (subst IsNotAStore (sym one.1) (other_text one.0 rest other))
    ]

-- the first write or its sync failed
pub founds_first : (old new : DiskState) (n : ℕ) (Ends : ℕ → Type 0) → n ≤ new_length → ((moment : ℕ) → Ends moment → ⊥)
    → Syncs old new Ends → Spans old new (Torn 0 n) → Founds old new
founds_first old new n Ends small none syncs span = record {
  later = span.later;
  same = span.same;
  same_syncs = syncs.same;
  small = λ alone moment image from to left.
      let at = span.inside moment image from to left in
      omega (arith, at.2.no_longer, ap length (alone at.0 at.1), small);
  from = λ since after is moment image from to left. absurd (none since ((syncs.since since after).0 is));
}

-- nothing was written
pub founds_none : (old new : DiskState) → Spans old new Same → Syncs old new Never → Founds old new
founds_none old new span syncs = record {
  later = span.later;
  same = span.same;
  same_syncs = syncs.same;
  small = λ alone moment image from to left.
      let at = span.inside moment image from to left in
      omega (arith, ap length at.2, ap length (alone at.0 at.1));
  from = λ since after is moment image from to left. absurd ((syncs.since since after).0 is);
}

-- both writes were made, and the first one's sync succeeded
pub founds_second : (old mid new : DiskState) (area : ℕ) (Once Again : ℕ → Type 0) → 64 ≤ area → area ≤ 268435456
    → ((moment : ℕ) → Once moment → moment ≡ mid.moment) → Syncs old mid Once → Syncs mid new Again
    → Spans old mid (Torn 0 34) → ((image : List ℕ) → IsImageNow mid image → image ≡ new_file 0 area)
    → Spans mid new (Torn 0 1) → Founds old new
founds_second old mid new area Once Again low high ends syncs more first settled second =
    let whole : length (new_file 0 area) ≡ 34 = length-new_file 0 area in
    let torn_at : (moment : ℕ) (image : List ℕ) → mid.moment ≤ moment → moment ≤ new.moment → new.image_at moment image
    → Torn 0 1 (new_file 0 area) image =
    λ moment image since to left.
    let at = second.inside moment image since to left in
    subst (λ (f : List ℕ). Torn 0 1 f image) (settled at.0 at.1) at.2 in
    record {
      later = omega (arith, first.later, second.later);
      same = past_then old mid new first.later first.same second.same;
      same_syncs = syncs_same_then old mid new first.later syncs.same more.same;
      small = λ alone moment image from to left. elim (cases_lt mid.moment moment) [
        | inl after ↦ omega (arith, whole, (torn_at moment image (omega arith) to left).no_longer)
        | inr upto ↦
            let at = first.inside moment image from upto ((second.same moment image upto).1 left) in
            omega (arith, at.2.no_longer, ap length (alone at.0 at.1))
      ];
      from = λ since after is moment image from to left.
          let here : mid.moment ≤ moment = elim (cases_lt mid.moment since) [
            | inl late ↦ omega arith
            | inr early ↦
                let first_is : since ≡ mid.moment = ends since ((syncs.since since after).0 ((more.same since early).1 is)) in
                omega (arith, first_is)
          ] in
          torn_text area image low high (torn_at moment image here to left);
    }

-- after a call that only read
pub founds_after : (old mid new : DiskState) → Spans old mid Same → Syncs old mid Never → Founds mid new → Founds old new
founds_after old mid new read quiet founds = record {
  later = omega (arith, read.later, founds.later);
  same = past_then old mid new read.later read.same founds.same;
  same_syncs = syncs_same_then old mid new read.later quiet.same founds.same_syncs;
  small = λ alone moment image from to left. elim (cases_lt mid.moment moment) [
    | inl after ↦
        founds.small (λ other there.
        let at = read.inside mid.moment other read.later (omega arith) there in
        at.2 ∙ alone at.0 at.1)
        moment image (omega arith) to left
    | inr upto ↦
        let at = read.inside moment image from upto ((founds.same moment image upto).1 left) in
        omega (arith, ap length at.2, ap length (alone at.0 at.1))
  ];
  from = λ since after is moment image from to left. elim (cases_lt mid.moment since) [
    | inl late ↦ founds.from since late is moment image from to left
    | inr early ↦ absurd ((quiet.since since after).0 ((founds.same_syncs since early).1 is))
  ];
}

-- a run that ends in a sync has one
pub ends_synced : {T E : Type 0} (old mid new : DiskState) (r : Result T E) → mid.moment < new.moment → old.moment < mid.moment
    → Syncs mid new (λ moment. IsOk r × (moment ≡ new.moment)) → OnOk r (HasSynced old new)
ends_synced old mid new (Ok x) later first syncs =
    (new.moment, omega arith, omega arith, (syncs.since new.moment later).1 (refl, refl))
ends_synced old mid new (Err e) later first syncs = tt
