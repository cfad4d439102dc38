-- `Right::into_part` makes a part of the pointer, which then owns what the right owned.
use Rattle.std.proofs.Common.{◌≡◌, [], ◌∷◌, refl, subst}
use Rattle.std.specs.Prelude.{Option, None, Some, IsSome}
use mathlib.Core.Bool.{Bool, not}
use lib.Dec.{T}
use mir.Val.{Val}
use base.Logic.{SProp, id⊢, guard_i}
use base.Fml.{ftrue}
use types.Logic.{sem}
use types.Kit.{‵, raw, ◌⊛◌, given, ◌$◌, ◌∵◌, !, qed, move, keep, split, join, fsplit, fjoin, learn, use0, use1, rewrite, suffices, done}
use types.Run.{of_opd, no_more, and_then, returns, enter}
use types.ByLocal.{alloc_all, pass_all, free_all, look_at, get, sets}
use types.Part.{agg}
use contract.Running.{tables}
use contract.Monad.{fact, fact_use}
use denote.Exit.{yes}
use denote.RattleType.{owns}
use denote.Signature.{types_at, plain}
use denote.RawPtr.{Ptr, RawPtr, InBlock, ptr_val, rawptr_vals, rawptr_Tells}
use denote.Steps.{nothing, heard}
use denote.Triple.Walked.{says, Stays, stay_dropped, walk_of, ends_at, Goes-dropped}
use Rattle.atomic_table.proofs.Walks.{proved}
use Rattle.atomic_table.proofs.Fields.{Ptr-Good, strip_good}
use Rattle.left_right.specs.Parted.{part_owns}
use Rattle.left_right.proofs.PartSteps.{part_lies}
use Rattle.dw_process.specs.Processes.{ProcessState}
use Rattle.dwcheck_c.specs.Held.{the_process, lent_if}
use Rattle.dwcheck_c.specs.contracts.right_part.Part as part
use Rattle.dwcheck_c.specs.contracts.read_right.Right as right
use Rattle.dwcheck_c.proofs.PartFields as of_a_part
use Rattle.dwcheck_c.proofs.RightFields as of_a_right
use Rattle.dwcheck_c.specs.contracts.read_right.Right.into_part.{ended, clauses}
use Rattle.dwcheck_c.specs.contracts.read_right.Right.into_part.Key.{name as #self}
use Rattle.dwcheck_c.proofs.read_right.Right.into_part.Statement.{statement}
use Rattle.dwcheck_c.proofs.read_right.Right.into_part.Code as code

some_of : (f : Option ProcessState) → IsSome f → (g : ProcessState) × (f ≡ Some g)
some_of None is = absurd (subst (λ (b : Bool). T (not b)) is tt)
some_of (Some g) is = (g, refl)

pub into_part_spec : {M : Type 1} → statement M
into_part_spec 𝓤 𝓛 𝓜 𝓡 wired =
    let H = 𝓛.H in let 𝓣 = tables 𝓤 H 𝓜 𝓡 𝓡.env in let fn = code.function in let c = clauses 𝓛 𝓜.mem 𝓡.returns in
    let From = right.the_row in let To = part.the_row the_process in
    let self = plain (λ _. From) in let pointer = plain (λ _. RawPtr) in let hs : Stays ended.signature.params ended.kept = (stay_dropped self yes, (stay_dropped pointer yes, tt)) in
    proved 𝓛 ended hs c 𝓜 𝓡 (Goes-dropped 𝓛 0 self yes (λ κs x f. refl), (Goes-dropped 𝓛 0 pointer yes (λ κs x f. refl), tt)) #self fn (code.unfolded 𝓤 H 𝓜 𝓡 wired)
    (λ κs. ((λ e. of_a_right.mark ∷ []), (rawptr_vals, tt))) (λ κs. ((λ e vs so. of_a_right.told vs so.0), (rawptr_Tells, tt))) (λ κs qs bounds a gh are.
    let d : From.Denot = a.0 in let p : Ptr = a.1.0 in let v : Val = of_a_part.word p in let mark : Val = of_a_right.mark in
    let y : (walk_of 𝓛 ended hs c).Ghost = ((κs, qs, bounds, a, (mark ∷ [], (rawptr_vals p, tt))), gh) in let Post : Val → SProp 𝓤 = (walk_of 𝓛 ended hs c).post y in
    qed 𝓛 ((‵ ftrue ⊛ ‵ (owns (types_at ended.signature.params κs) a y.0.4)) ∷ raw (fact 𝓤 (IsSome d.process)) ∷ raw (fact 𝓤 (d.at ≡ p)) ∷ []) ∵ move ! (1 ∷ 2 ∷ []) $
    heard ! (IsSome d.process) (λ some. heard ! (d.at ≡ p) (λ same.
    let got = some_of d.process some in let x : ProcessState = got.0 in let there : d.process ≡ Some x = got.1 in
    let new : To.Denot = record { ptr = p; value = x; round = d.round; count = d.count } in
    split ! $ move ! (1 ∷ []) $ fsplit ! $ fsplit ! $ keep ! (1 ∷ []) $ rewrite ! 0 (λ (f : Option ProcessState). ‵ (lent_if d.at d.round d.count f)) there refl $
    rewrite ! 0 (λ (r : Ptr). ‵ (part_owns the_process r x d.round d.count)) same refl $
    use1 𝓛 (given (InBlock p) (‵ (part_owns the_process p x d.round d.count)))
    (fact_use 𝓤 _ (part_lies 𝓛 the_process p x d.round d.count) (guard_i 𝓤 (InBlock p) (sem 𝓛 (part_owns the_process p x d.round d.count)))) $ learn ! (λ inb.
    use0 𝓛 (‵ ((of_a_part.Data the_process).own_val (p, tt) (v ∷ []))) (of_a_part.made the_process 𝓛 p) $ fjoin ! $ use1 𝓛 (‵ (To.own_val new (v ∷ []))) (id⊢ 𝓤 _) $
    enter ! 𝓣.C 𝓣.Λ fn (mark ∷ ptr_val p ∷ []) Post $ alloc_all ! (λ l. pass_all ! refl ((tt, tt), (Ptr-Good p inb, tt)) $
    sets ! (of_opd ! (get ! refl)) refl (Ptr-Good p inb) $ sets ! (agg ! (and_then ! (get ! refl) (no_more !))) refl (strip_good p inb) $ returns ! (look_at ! 0 refl) $ free_all ! refl $
    suffices ! _ (ends_at 𝓛 ended hs c y v new (tt, (tt, tt)) (tt, (tt, tt))) $ says ! (same, there, refl, refl) $
    nothing ! $ nothing ! $ fjoin ! $ nothing ! $ fjoin ! $ join ! $ nothing ! $ join ! $ done !)))))
