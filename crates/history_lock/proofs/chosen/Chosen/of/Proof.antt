-- `of` makes a value of no bytes, whose entry is one that its caller knows of.
use Rattle.std.proofs.Common.{[], ◌∷◌, refl}
use Rattle.std.proofs.raw_atomic.Walks.{proved}
use mir.Syntax.{a_type, dcons, dnil, named}
use mir.MapTy.{inst_fn}
use mir.Val.{Val, vptr, vstruct, vcons, vnil}
use base.Logic.{SProp}
use base.Fml.{Fml}
use types.Kit.{‵, raw, ◌⊛◌, ◌$◌, ◌∵◌, !, qed, move, keep, split, suffices, use0, fjoin, join, done}
use types.Part.{agg}
use types.Run.{enter, returns, no_more, and_then}
use types.ByLocal.{alloc_all, pass_all, free_all, look_at, sets, get}
use contract.BorrowLft.{◌⊑◌}
use contract.Monad.{fact}
use contract.Running.{tables}
use denote.Builtin.{RefOf}
use denote.Exit.{yes}
use denote.Param.{param, bounded}
use denote.RattleType.{RattleType, owns}
use denote.Ref.{shr_vals, shr_Tells}
use denote.Shadow.{makes_shadow}
use denote.Signature.{plain, types_at, type_at}
use denote.Steps.{nothing, heard}
use denote.Triple.Entry.{alive}
use denote.Triple.Walked.{says, Stays, stay_dropped, walk_of, ends_at, Goes-dropped}
use Rattle.history_lock.specs.contracts.chosen.Chosen as chosen
use Rattle.history_lock.specs.contracts.chosen.Taken as taken
use Rattle.history_lock.specs.contracts.chosen.Chosen.of.{ended, clauses}
use Rattle.history_lock.specs.contracts.chosen.Chosen.of.Key.{name as #self}
use Rattle.history_lock.proofs.chosen.Chosen.of.Statement.{statement}
use Rattle.history_lock.proofs.chosen.Chosen.of.Code as code

pub of_spec : {M : Type 1} → statement M
of_spec 𝓤 𝓛 𝓜 𝓡 wired E T C R LE LT LC LR g d _ =
    let H = 𝓛.H in let 𝓣 = tables 𝓤 H 𝓜 𝓡 𝓡.env in let En = ended E T C R g d in
    let X : RattleType = taken.the_row (param 1 T) (param 2 C) (param 3 R) (param 0 E) in
    let inst = bounded (a_type ∷ a_type ∷ a_type ∷ a_type ∷ []) (E, (T, (C, (R, tt)))) (dcons d dnil) in let fn = inst_fn inst code.function in let c = clauses E T C R g d 𝓛 𝓜.mem 𝓡.returns in
    let arg = RefOf (0 ∷ []) tt (plain (λ _. X)) (λ _. tt) in let hs : Stays En.signature.params En.kept = (stay_dropped arg yes, tt) in
    proved 𝓛 En hs c 𝓜 𝓡 (Goes-dropped 𝓛 5 arg yes (λ κs x f. refl), tt) (#self inst) fn (code.unfolded 𝓤 H 𝓜 𝓡 wired (E, (T, (C, (R, tt)))) d)
    (λ κs. (shr_vals, tt)) (λ κs. (shr_Tells (named 0) κs.0 X, tt)) (λ κs qs bounds a gh are.
    let p : Val = vptr a.0.ref_ptr.0 a.0.ref_ptr.1 in let v : Val = vstruct (vcons (vstruct vnil) vnil) in let x = a.0.now in
    let Has : Type 0 = (e : E.Denot) × g.step x.old.value x.call.value e x.reply.value x.new.value in
    let y : (walk_of 𝓛 En hs c).Ghost = ((κs, qs, bounds, a, (p ∷ [], tt)), gh) in let Post : Val → SProp 𝓤 = (walk_of 𝓛 En hs c).post y in
    qed 𝓛 ((raw (alive 𝓛 En.signature κs qs) ⊛ ‵ (owns (types_at En.signature.params κs) a y.0.4)) ∷ raw (fact 𝓤 (κs.1.0 ⊑ E.lives)) ∷ raw (fact 𝓤 (κs.1.1.0 ⊑ T.lives)) ∷ raw (fact 𝓤 (κs.1.1.1.0 ⊑ C.lives)) ∷ raw (fact 𝓤 (κs.1.1.1.1.0 ⊑ R.lives)) ∷ raw (fact 𝓤 Has) ∷ []) ∵
    move ! (5 ∷ 0 ∷ []) $ heard ! Has (λ has. let r : (chosen.the_row (param 0 E)).Denot = record { marker = record {}; entry = has.0 } in let O : Fml = (type_at En.signature.result κs).own_val r (v ∷ []) in
    split ! $ keep ! (0 ∷ []) $ enter ! 𝓣.C 𝓣.Λ fn (p ∷ []) Post $ alloc_all ! (λ l. pass_all ! refl ((tt, tt), tt) $
    sets ! (agg ! (no_more !)) refl (tt, tt) $ sets ! (agg ! (and_then ! (get ! refl) (no_more !))) refl (tt, (tt, tt)) $
    returns ! (look_at ! 0 refl) $ free_all ! refl $
    use0 𝓛 (‵ O) (makes_shadow 𝓛 O ((λ vss. (tt, ((λ uss. (tt, tt)), tt))), tt) (((vstruct vnil ∷ [], tt), (refl, ((tt, (refl, tt)), tt))), tt)) $
    suffices ! _ (ends_at 𝓛 En hs c y v r (tt, tt) (tt, tt)) $ says ! has.1 $
    nothing ! $ nothing ! $ fjoin ! $ join ! $ move ! (1 ∷ 0 ∷ []) $ join ! $ done !)))
