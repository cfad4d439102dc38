-- `Right::none` is a right to read nothing, and owns nothing.
use Rattle.std.proofs.Common.{[], ◌∷◌, refl}
use Rattle.std.specs.Prelude.{None}
use mir.Val.{Val}
use base.Logic.{SProp, emp, id⊢}
use base.Fml.{ftrue}
use types.Kit.{‵, raw, ◌⊛◌, ◌$◌, ◌∵◌, !, qed, keep, join, fjoin, use0, use1, suffices, done}
use types.Run.{no_more, returns, enter}
use types.ByLocal.{alloc_all, pass_all, free_all, look_at, sets}
use types.Part.{agg}
use contract.Running.{tables}
use denote.RawPtr.{null_ptr}
use denote.Steps.{nothing}
use denote.Triple.Walked.{says, walk_of, ends_at}
use Rattle.atomic_table.proofs.Walks.{proved}
use Rattle.dwcheck_c.specs.contracts.read_right.Right as right
use Rattle.dwcheck_c.proofs.RightFields as of_a_right
use Rattle.dwcheck_c.specs.contracts.read_right.Right.none.{ended, clauses}
use Rattle.dwcheck_c.specs.contracts.read_right.Right.none.Key.{name as #self}
use Rattle.dwcheck_c.proofs.read_right.Right.none.Statement.{statement}
use Rattle.dwcheck_c.proofs.read_right.Right.none.Code as code

pub none_spec : {M : Type 1} → statement M
none_spec 𝓤 𝓛 𝓜 𝓡 wired =
    let H = 𝓛.H in let 𝓣 = tables 𝓤 H 𝓜 𝓡 𝓡.env in let fn = code.function in let c = clauses 𝓛 𝓜.mem 𝓡.returns in
    let To = right.the_row in
    proved 𝓛 ended tt c 𝓜 𝓡 tt #self fn (code.unfolded 𝓤 H 𝓜 𝓡 wired) (λ κs. tt) (λ κs. tt) (λ κs qs bounds a gh are.
    let y : (walk_of 𝓛 ended tt c).Ghost = ((κs, qs, bounds, a, tt), gh) in let Post : Val → SProp 𝓤 = (walk_of 𝓛 ended tt c).post y in
    let v : Val = of_a_right.mark in
    let new : To.Denot = record { at = null_ptr; process = None; round = 0; count = 0 } in
    qed 𝓛 ((‵ ftrue ⊛ ‵ ftrue) ∷ raw (emp 𝓤) ∷ []) ∵ keep ! [] $ nothing ! $
    use0 𝓛 (‵ (of_a_right.Data.own_val tt (v ∷ []))) (of_a_right.made 𝓛) $ fjoin ! $ use1 𝓛 (‵ (To.own_val new (v ∷ []))) (id⊢ 𝓤 _) $
    enter ! 𝓣.C 𝓣.Λ fn [] Post $ alloc_all ! (λ l. pass_all ! refl tt $
    sets ! (agg ! (no_more !)) refl (tt, tt) $ returns ! (look_at ! 0 refl) $ free_all ! refl $
    suffices ! _ (ends_at 𝓛 ended tt c y v new tt tt) $ says ! refl $ nothing ! $ join ! $ nothing ! $ join ! $ done !))
