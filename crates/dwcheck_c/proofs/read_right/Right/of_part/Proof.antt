-- `Right::of_part` forgets the pointer of a part, and then owns what the part owned.
use Rattle.std.proofs.Common.{[], ◌∷◌, refl}
use Rattle.std.specs.Prelude.{Some}
use mir.Val.{Val}
use base.Logic.{SProp, emp, id⊢, guard_i}
use base.Fml.{ftrue}
use types.Logic.{sem}
use types.Kit.{‵, raw, ◌⊛◌, given, ◌$◌, ◌∵◌, !, qed, move, keep, split, join, fsplit, fjoin, learn, use0, use1, suffices, done}
use types.Run.{no_more, returns, enter}
use types.ByLocal.{alloc_all, pass_all, free_all, look_at, sets}
use types.Part.{agg}
use contract.Running.{tables}
use contract.Monad.{fact_use}
use denote.Exit.{yes}
use denote.RattleType.{owns}
use denote.Signature.{types_at, plain}
use denote.RawPtr.{Ptr, InBlock}
use denote.Steps.{nothing}
use denote.Triple.Walked.{says, Stays, stay_dropped, walk_of, ends_at, Goes-dropped}
use Rattle.atomic_table.proofs.Walks.{proved}
use Rattle.atomic_table.proofs.Fields.{strip_good}
use Rattle.left_right.specs.Parted.{part_owns}
use Rattle.left_right.proofs.PartSteps.{part_lies}
use Rattle.dw_process.specs.Processes.{ProcessState}
use Rattle.dwcheck_c.specs.Held.{the_process}
use Rattle.dwcheck_c.specs.contracts.right_part.Part as part
use Rattle.dwcheck_c.specs.contracts.read_right.Right as right
use Rattle.dwcheck_c.proofs.PartFields as of_a_part
use Rattle.dwcheck_c.proofs.RightFields as of_a_right
use Rattle.dwcheck_c.specs.contracts.read_right.Right.of_part.{ended, clauses}
use Rattle.dwcheck_c.specs.contracts.read_right.Right.of_part.Key.{name as #self}
use Rattle.dwcheck_c.proofs.read_right.Right.of_part.Statement.{statement}
use Rattle.dwcheck_c.proofs.read_right.Right.of_part.Code as code

pub of_part_spec : {M : Type 1} → statement M
of_part_spec 𝓤 𝓛 𝓜 𝓡 wired =
    let H = 𝓛.H in let 𝓣 = tables 𝓤 H 𝓜 𝓡 𝓡.env in let fn = code.function in let c = clauses 𝓛 𝓜.mem 𝓡.returns in
    let From = part.the_row the_process in let To = right.the_row in
    let self = plain (λ _. From) in let hs : Stays ended.signature.params ended.kept = (stay_dropped self yes, tt) in
    proved 𝓛 ended hs c 𝓜 𝓡 (Goes-dropped 𝓛 0 self yes (λ κs x f. refl), tt) #self fn (code.unfolded 𝓤 H 𝓜 𝓡 wired)
    (λ κs. ((λ e. of_a_part.word e.ptr ∷ []), tt)) (λ κs. ((λ e vs so. of_a_part.told the_process e.ptr vs so.0), tt)) (λ κs qs bounds a gh are.
    let d : From.Denot = a.0 in let p : Ptr = d.ptr in let x : ProcessState = d.value in let w : Val = of_a_part.word p in let v : Val = of_a_right.mark in
    let y : (walk_of 𝓛 ended hs c).Ghost = ((κs, qs, bounds, a, (w ∷ [], tt)), gh) in let Post : Val → SProp 𝓤 = (walk_of 𝓛 ended hs c).post y in
    let new : To.Denot = record { at = p; process = Some x; round = d.round; count = d.count } in
    qed 𝓛 ((‵ ftrue ⊛ ‵ (owns (types_at ended.signature.params κs) a y.0.4)) ∷ raw (emp 𝓤) ∷ []) ∵ split ! $ move ! (1 ∷ []) $ fsplit ! $ fsplit ! $ keep ! (1 ∷ []) $
    use1 𝓛 (given (InBlock p) (‵ (part_owns the_process p x d.round d.count)))
    (fact_use 𝓤 _ (part_lies 𝓛 the_process p x d.round d.count) (guard_i 𝓤 (InBlock p) (sem 𝓛 (part_owns the_process p x d.round d.count)))) $ learn ! (λ inb.
    use0 𝓛 (‵ (of_a_right.Data.own_val tt (v ∷ []))) (of_a_right.made 𝓛) $ fjoin ! $ use1 𝓛 (‵ (To.own_val new (v ∷ []))) (id⊢ 𝓤 _) $
    enter ! 𝓣.C 𝓣.Λ fn (w ∷ []) Post $ alloc_all ! (λ l. pass_all ! refl (strip_good p inb, tt) $
    sets ! (agg ! (no_more !)) refl (tt, tt) $ returns ! (look_at ! 0 refl) $ free_all ! refl $
    suffices ! _ (ends_at 𝓛 ended hs c y v new (tt, tt) (tt, tt)) $ says ! (refl, refl, refl, refl) $
    nothing ! $ nothing ! $ fjoin ! $ join ! $ nothing ! $ join ! $ done !)))
