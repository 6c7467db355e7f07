-- The snapshot that is passed on is given the code of the branch's tree.
use Rattle.std.proofs.Common.{List, [], ◌∷◌, ◌++◌, refl, ap, ◌∙◌}
use Rattle.std.proofs.raw_atomic.Walks.{proved}
use mir.Syntax.{a_type, dcons, dnil, named}
use mir.Val.{Val, vptr, vstruct, vcons, vnil, of_list}
use mir.MapTy.{inst_fn}
use base.Logic.{SProp}
use base.Fml.{Fml}
use contract.Monad.{fact}
use contract.Running.{tables}
use types.Kit.{‵, raw, ◌⊛◌, ◌$◌, ◌∵◌, !, qed, move, keep, split, join, fjoin, use0, suffices, done}
use types.Run.{of_opd, returns, enter}
use types.ByLocal.{alloc_all, pass_all, free_all, look_at, get, sets}
use denote.RattleType.{RattleType, owns}
use denote.Param.{param, bounded}
use denote.Exit.{yes}
use denote.Builtin.{RefOf}
use denote.Ref.{shr_vals, shr_Tells}
use denote.Shadow.{makes_shadow}
use denote.Signature.{types_at, type_at, plain}
use denote.Steps.{nothing, heard}
use denote.Triple.Entry.{alive}
use denote.Triple.Walked.{Stays, walk_of, says, stay_dropped, Goes-dropped, ends_at}
use Rattle.and_model.specs.Trees.{code}
use Rattle.and_laws.proofs.Placing.{makes_same}
use Rattle.and_branch.specs.Branches.{IsBranch}
use Rattle.std.specs.contracts.snapshot.Snapshot as snap
use Rattle.and_model.specs.contracts.code.Code as number
use Rattle.and_branch.specs.contracts.branch.Branch as branch
use Rattle.and_visit.specs.contracts.seeing.seen_code.{ended, clauses}
use Rattle.and_visit.specs.contracts.seeing.seen_code.Key.{name as #self}
use Rattle.and_visit.proofs.seeing.seen_code.Statement.{statement}
use Rattle.and_visit.proofs.seeing.seen_code.Code as text

abbrev token : Val
token = vstruct (vcons (vstruct vnil) vnil)

pub seen_code_spec : {M : Type 1} → statement M
seen_code_spec 𝓤 𝓛 𝓜 𝓡 wired N _ g d _ =
    let H = 𝓛.H in let 𝓣 = tables 𝓤 H 𝓜 𝓡 𝓡.env in
    let En = ended N g d in let c = clauses N g d 𝓛 𝓜.mem 𝓡.returns in
    let inst = bounded (a_type ∷ []) (N, tt) (dcons d dnil) in let fn = inst_fn inst text.function in
    let Br : RattleType = branch.the_row (param 0 N) g in
    let Sn : RattleType = snap.the_row number.the_row in
    let hs : Stays En.signature.params En.kept =
    (stay_dropped (RefOf (0 ∷ []) tt (plain (λ _. Br)) (λ _. tt)) yes, (stay_dropped (plain (λ _. Sn)) yes, tt)) in
    proved 𝓛 En hs c 𝓜 𝓡
    (Goes-dropped 𝓛 2 (RefOf (0 ∷ []) tt (plain (λ _. Br)) (λ _. tt)) yes (λ κs x f. refl), (Goes-dropped 𝓛 2 (plain (λ _. Sn)) yes (λ κs x f. refl), tt))
    (#self inst) fn (text.unfolded 𝓤 H 𝓜 𝓡 wired (N, tt) d)
    (λ κs. (shr_vals, ((λ _. token ∷ []), tt)))
    (λ κs. (
      shr_Tells (named 0) κs.0 Br,
      ((λ x vs so. so.0.1.0 ∙ ap (λ (ws : List Val). vstruct (of_list (ws ++ [])) ∷ []) so.0.1.1.0.1.0), tt),
    ))
    (λ κs qs bounds a gh are.
    let args : List Val = vptr a.0.ref_ptr.0 a.0.ref_ptr.1 ∷ token ∷ [] in
    let y : (walk_of 𝓛 En hs c).Ghost = ((κs, qs, bounds, a, (vptr a.0.ref_ptr.0 a.0.ref_ptr.1 ∷ [], (token ∷ [], tt))), gh) in
    let Post : Val → SProp 𝓤 = (walk_of 𝓛 En hs c).post y in
    qed 𝓛 ((raw (alive 𝓛 En.signature κs qs) ⊛ ‵ (owns (types_at En.signature.params κs) a y.0.4)) ∷ raw (fact 𝓤 _)
    ∷ raw (fact 𝓤 (IsBranch g.program a.0.now)) ∷ []) ∵
    move ! (2 ∷ []) $ heard ! _ (λ asked.
    let r : denote.Triple.Entry.Res En.signature κs = record { marker = record {}; value = code asked.0 } in
    let O : Fml = (type_at En.signature.result κs).own_val r (token ∷ []) in
    keep ! (0 ∷ []) $ split ! $ keep ! (0 ∷ []) $
    enter ! 𝓣.C 𝓣.Λ fn args Post $ alloc_all ! (λ l. pass_all ! refl ((tt, tt), ((tt, (tt, tt)), tt)) $
    sets ! (of_opd ! (get ! refl)) refl (tt, (tt, tt)) $
    returns ! (look_at ! 0 refl) $ free_all ! refl $
    use0 𝓛 (‵ O) (makes_shadow 𝓛 O ((λ vss. (tt, ((λ uss. (tt, tt)), tt))), tt) (((vstruct vnil ∷ [], tt), (refl, ((tt, (refl, tt)), tt))), tt)) $
    suffices ! _ (ends_at 𝓛 En hs c y token r (tt, (tt, tt)) (tt, (tt, tt))) $
    says ! (λ t b. ap code (makes_same g.program.program a.0.now.reductions a.0.now.reductions asked.0 t asked.1.made b.made (λ x. ((λ i. i), (λ i. i))))) $
    nothing ! $ nothing ! $ fjoin ! $ nothing ! $ fjoin ! $ join ! $ move ! (1 ∷ 0 ∷ []) $ join ! $ done !)))
