use Rattle.std.proofs.Common.{◌≡◌, ◌∷◌, [], ◌++◌, ◌+◌, ◌∙◌, ap, subst, length, List, sym, arith, length-append}
use Rattle.std.proofs.lemmas.List.{map-append}
use Rattle.std.specs.Prelude.{All}
use Rattle.dw_rules.specs.AbiViews.{roles_of}
use Rattle.dw_unwind.specs.declared.frames.Frame as declared
use Rattle.dw_unwind.specs.CallerFits.{FrameFits}
use Rattle.dw_unwind.specs.Walks.{Place, CallerRelation, WalkedFrame, first_place}
use Rattle.dw_unwind.specs.WalkSteps.{Progress, WalkState, frame_at, has_given}
use Rattle.dw_unwind.specs.WalkViews.{frame_in, frames_in}
use Rattle.dw_unwind.proofs.Walking.{UnderWay, goes_on, one_more_holds}
use Rattle.dw_unwind.proofs.backtraces.backtrace.Goals as goal

pub loop-walk-preserved : goal.loop-walk-preserved
loop-walk-preserved g c =
    let u : CallerRelation = g.U.Unwinder.unwinds c.args.unwinder (roles_of c.args.abi.now) (g.M.Memory.bytes c.args.memory.now) in
    let first : Place = first_place c.args.address (g.R.Registers.contents c.args.registers.now) in
    let kept = c.loop-walk.invariant in
    let before = c.loop-walk.walk in
    let frames = c.loop-walk.frames.items in
    let gives = rw (kept.over, kept.abi, kept.memory) at c.in_default.ensures.gives in
    let here : frame_in c.frame.result ≡ gives.0 = c.frame.ensures ∙ ap (λ (w : WalkState _ _). frame_at w.progress) gives.2 in
    let all : c.push.new.self.items ≡ frames ++ c.frame.result ∷ [] = c.in_ok-push.ensures.items in
    let shown : frames_in c.push.new.self.items ≡ frames_in frames ++ gives.0 ∷ [] =
    ap frames_in all ∙ map-append frame_in frames (c.frame.result ∷ []) ∙ ap (λ (f : WalkedFrame). frames_in frames ++ f ∷ []) here in
    let many : length c.push.new.self.items ≡ length frames + 1 = ap length all ∙ length-append frames (c.frame.result ∷ []) in
    let goes : UnderWay u first (frames_in frames ++ gives.0 ∷ []) (has_given gives.0) =
    goes_on u first (frames_in frames) before.progress gives.0 kept.under_way gives.1 in
    record {
      over = ap (λ (w : WalkState _ _). w.unwinder) gives.2;
      abi = ap (λ (w : WalkState _ _). w.abi) gives.2;
      memory = ap (λ (w : WalkState _ _). w.memory) gives.2;
      under_way = subst (λ (fs : List WalkedFrame). UnderWay u first fs c.advance.new.self.progress) (sym shown)
          (subst (λ (p : Progress). UnderWay u first (frames_in frames ++ gives.0 ∷ []) p)
          (sym (ap (λ (w : WalkState _ _). w.progress) gives.2)) goes);
      few = omega (arith, many);
      fits = λ bound is_bound lt.
          let fitted = kept.fits bound is_bound lt in
          let now = c.in_default.ensures.fits bound (subst (λ x. g.U.Unwinder.is_bound x bound) (sym kept.over) is_bound) fitted.0 in (
            now,
            subst (λ (l : List declared.Frame). All (FrameFits bound) (frames_in l)) (sym all)
                (one_more_holds (FrameFits bound) frame_in frames c.frame.result fitted.1
                (subst (FrameFits bound) (sym c.frame.ensures) now)),
          );
    }
