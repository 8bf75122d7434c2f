-- What one turn at a door adds to the pass of a lane.
use Rattle.std.proofs.Common.{◌≡◌, inl, inr, ◌+◌, ℕ, List, [], ◌∷◌, ◌++◌, None, Some, Ok, Err, refl, sym, ap, ◌∙◌, subst, map, append-nil, arith}
use Rattle.std.proofs.lemmas.List.{map-append}
use Rattle.base_core.specs.declared.failed.Failed.{Failed}
use Rattle.history_lock.specs.declared.board.Share.{Share}
use Rattle.history_lock.specs.History.{grown, own_of, share_of}
use Rattle.lane_server.specs.Admitting.{Admission, HasEnd, accepted, failures}

-- a pass with one number, and one entry more
pub lone_grown : {E : Type 0} (lane : ℕ) (ss now : List (Share E)) (e : E) → ss ≡ share_of lane (own_of ss) ∷ []
    → now ≡ grown e ss → (now ≡ share_of lane (own_of now) ∷ []) × (own_of now ≡ own_of ss ++ e ∷ [])
lone_grown {E} lane ss now e lone is =
    let one : now ≡ share_of lane (own_of ss ++ e ∷ []) ∷ [] = is ∙ ap (grown e) lone in
    (one ∙ ap (λ (o : List E). share_of lane o ∷ []) (sym (ap own_of one)), ap own_of one)

module _ {L : Type 0} where
  pub accepted-append : (es fs : List (Admission L)) → accepted (es ++ fs) ≡ accepted es ++ accepted fs
  accepted-append [] fs = refl
  accepted-append (Ok (Some link) ∷ es) fs = ap (λ xs. link ∷ xs) (accepted-append es fs)
  accepted-append (Ok None ∷ es) fs = accepted-append es fs
  accepted-append (Err fault ∷ es) fs = accepted-append es fs

  pub failures-append : (es fs : List (Admission L)) → failures (es ++ fs) ≡ failures es + failures fs
  failures-append [] fs = omega arith
  failures-append (Ok found ∷ es) fs = failures-append es fs
  failures-append (Err fault ∷ es) fs = omega (arith, failures-append es fs)

  pub end_last : (es : List (Admission L)) → HasEnd (es ++ Ok None ∷ [])
  end_last [] = inl refl
  end_last (e ∷ es) = inr (end_last es)

  -- a pass that took one turn more, which accepted this link
  pub link_more : {S : Type 0} (lane : ℕ) (ss now : List (Share (Admission L))) (e : Admission L) (link : L) (f : S → L)
      (xs ys : List S) (x : S) → ss ≡ share_of lane (own_of ss) ∷ [] → now ≡ grown e ss → e ≡ Ok (Some link)
      → accepted (own_of ss) ≡ map f xs → failures (own_of ss) ≡ 0 → f x ≡ link → ys ≡ xs ++ x ∷ []
      → (now ≡ share_of lane (own_of now) ∷ []) × (accepted (own_of now) ≡ map f ys) × (failures (own_of now) ≡ 0)
  link_more lane ss now e link f xs ys x lone is link_is links none from longer =
      let l = lone_grown lane ss now e lone is in
      let own : own_of now ≡ own_of ss ++ Ok (Some link) ∷ [] =
      l.1 ∙ ap (λ (r : Admission L). own_of ss ++ r ∷ []) link_is in (
        l.0,
        ap accepted own
            ∙ (accepted-append (own_of ss) (Ok (Some link) ∷ [])
            ∙ ((λ i. links i ++ sym from i ∷ []) ∙ (sym (map-append f xs (x ∷ [])) ∙ ap (map f) (sym longer)))),
        ap failures own ∙ omega (arith, failures-append (own_of ss) (Ok (Some link) ∷ []), none),
      )

  -- one turn more, which found no link left
  pub none_more : (lane : ℕ) (ss now : List (Share (Admission L))) (e : Admission L)
      → ss ≡ share_of lane (own_of ss) ∷ [] → now ≡ grown e ss → e ≡ Ok None → failures (own_of ss) ≡ 0
      → (now ≡ share_of lane (own_of now) ∷ []) × (accepted (own_of now) ≡ accepted (own_of ss))
      × HasEnd (own_of now) × (failures (own_of now) ≡ 0)
  none_more lane ss now e lone is end_is none =
      let l = lone_grown lane ss now e lone is in
      let own : own_of now ≡ own_of ss ++ Ok None ∷ [] =
      l.1 ∙ ap (λ (r : Admission L). own_of ss ++ r ∷ []) end_is in (
        l.0,
        ap accepted own ∙ (accepted-append (own_of ss) (Ok None ∷ []) ∙ append-nil (accepted (own_of ss))),
        subst HasEnd (sym own) (end_last (own_of ss)),
        ap failures own ∙ omega (arith, failures-append (own_of ss) (Ok None ∷ []), none),
      )

  -- one turn more, in which accepting failed
  pub fault_more : (lane : ℕ) (ss now : List (Share (Admission L))) (e : Admission L) (fault : Failed)
      → ss ≡ share_of lane (own_of ss) ∷ [] → now ≡ grown e ss → e ≡ Err fault → failures (own_of ss) ≡ 0
      → (now ≡ share_of lane (own_of now) ∷ []) × (accepted (own_of now) ≡ accepted (own_of ss))
      × (failures (own_of now) ≡ 1)
  fault_more lane ss now e fault lone is fault_is none =
      let l = lone_grown lane ss now e lone is in
      let own : own_of now ≡ own_of ss ++ Err fault ∷ [] =
      l.1 ∙ ap (λ (r : Admission L). own_of ss ++ r ∷ []) fault_is in (
        l.0,
        ap accepted own ∙ (accepted-append (own_of ss) (Err fault ∷ []) ∙ append-nil (accepted (own_of ss))),
        ap failures own ∙ omega (arith, failures-append (own_of ss) (Err fault ∷ []), none),
      )
