-- The steps of a cursor give the frames of a walk.
use Rattle.std.proofs.Common.{◌≡◌, ℕ, zero, suc, ◌+◌, ◌<◌, ◌≤◌, ◌∙◌, List, [], ◌∷◌, length, map, refl, sym, ap, subst, arith}
use Rattle.std.specs.Prelude.{IfSome, None, Option, Some, option_map}
use Rattle.std.proofs.lemmas.List.{length-map}
use Rattle.dw_rules.specs.Abi.{Abi}
use Rattle.dw_unwind.specs.Caller.{Answer, Caller, value, undefined, unreadable, division_by_zero}
use Rattle.dw_unwind.specs.Walks.{Place, WalkedFrame, content_of, first_place, stop_after, stop_of_caller, stop_of_return}
use Rattle.dw_unwind.specs.declared.frames.Stop.{Stop}
use Rattle.dw_unwind.specs.declared.frames.Stop.TheVariants.{Limit, NotCovered, ReturnUndefined, ReturnUnreadable, ReturnDivisionByZero}
use Rattle.dw_process.specs.Processes.{ProcessState}
use Rattle.dw_c_types.specs.declared.answer.CFrame.{CFrame}
use Rattle.dw_c_types.specs.Frames.{IsBacktrace, cframe_of, stop_number}
use Rattle.dw_c_types.specs.ProcessWalks.{AreFramesBy, Unwinding, place_after, through_held}
use Rattle.dw_c_types.specs.Slots.{put_into}
use Rattle.dwcheck_c.specs.declared.cursor.CCursor.{CCursor}
use Rattle.dwcheck_c.specs.WalkCursors.{AreFramesOfSteps, AreSteps, WalkHasEnded, IsStepBy, looked_up_by, place_of, registers_in}
use Rattle.dwcheck_c.proofs.CursorSteps.{next-place}
use Rattle.dwcheck_c.proofs.WrittenFrames.{no-frames, walks-to-end, walks-to-limit}

number-stop : ℕ → Stop
number-stop zero = Limit
number-stop (suc zero) = NotCovered
number-stop (suc (suc zero)) = ReturnUndefined
number-stop (suc (suc (suc zero))) = ReturnUnreadable
number-stop (suc (suc (suc (suc n)))) = ReturnDivisionByZero

numbered : (s : Stop) → number-stop (stop_number s) ≡ s
unfolding number-stop
numbered Limit = refl
numbered NotCovered = refl
numbered ReturnUndefined = refl
numbered ReturnUnreadable = refl
numbered ReturnDivisionByZero = refl

same-stop : (a b : Stop) → stop_number a ≡ stop_number b → a ≡ b
same-stop a b is = sym (numbered a) ∙ ap number-stop is ∙ numbered b

-- a cursor whose walk hasn't ended is at a place
turned : (u : Unwinding) (looked_up : Option ℕ) (caller : Option Caller) (stage : ℕ)
    → IfSome (stop_of_caller caller) (λ s. stage ≡ stop_number s + 1) → stage ≤ 1 → (p : Place) × (place_after u looked_up caller ≡ Some p)
turned u looked_up None stage ends le = absurd (omega (arith, ends, le))
turned u looked_up (Some c) stage ends le = go c.return_address ends
  where
    go : (a : Answer) → IfSome (stop_of_return a) (λ s. stage ≡ stop_number s + 1)
        → (p : Place) × (option_map (next-place u looked_up c) (content_of a) ≡ Some p)
    go (value n) h = (next-place u looked_up c n, refl)
    go undefined h = absurd (omega (arith, h, le))
    go unreadable h = absurd (omega (arith, h, le))
    go division_by_zero h = absurd (omega (arith, h, le))

-- why a walk has ended
ended : (u : Unwinding) (looked_up : Option ℕ) (caller : Option Caller) (stage : ℕ) (why : Stop)
    → IfSome (place_after u looked_up caller) (λ _. stage ≤ 1) → IfSome (stop_of_caller caller) (λ s. stage ≡ stop_number s + 1)
    → stage ≡ stop_number why + 1 → 2 ≤ stage → stop_of_caller caller ≡ Some why
ended u looked_up None stage why goes ends is more = ap Some (same-stop NotCovered why (omega (arith, ends, is)))
ended u looked_up (Some c) stage why goes ends is more = go c.return_address goes ends
  where
    go : (a : Answer) → IfSome (option_map (next-place u looked_up c) (content_of a)) (λ _. stage ≤ 1)
        → IfSome (stop_of_return a) (λ s. stage ≡ stop_number s + 1) → stop_of_return a ≡ Some why
    go (value n) g e = absurd (omega (arith, g, more))
    go undefined g e = ap Some (same-stop ReturnUndefined why (omega (arith, e, is)))
    go unreadable g e = ap Some (same-stop ReturnUnreadable why (omega (arith, e, is)))
    go division_by_zero g e = ap Some (same-stop ReturnDivisionByZero why (omega (arith, e, is)))

stage-goes : (o : Option Place) (c : CCursor) → IfSome o (λ p. (c.stage ≤ 1) × (place_of c ≡ p)) → IfSome o (λ _. c.stage ≤ 1)
stage-goes None c h = tt
stage-goes (Some p) c h = h.0

stage-ends : (o : Option Stop) (old new : CCursor)
    → IfSome o (λ s. (new.stage ≡ stop_number s + 1) × (new.address ≡ old.address) × (registers_in new ≡ registers_in old))
    → IfSome o (λ s. new.stage ≡ stop_number s + 1)
stage-ends None old new h = tt
stage-ends (Some s) old new h = h.0

-- after a step the walk is at the cursor's place
pub step-place : (u : Unwinding) (old new : CCursor) (f : CFrame) (h : IsStepBy u old new f) → new.stage ≤ 1
    → place_after u (looked_up_by old.stage old.address) h.walked.caller ≡ Some (place_of new)
step-place u old new f h le =
    let at = turned u (looked_up_by old.stage old.address) h.walked.caller new.stage
    (stage-ends (stop_of_caller h.walked.caller) old new h.ends) le in
    let here : IfSome (Some at.0) (λ p. (new.stage ≤ 1) × (place_of new ≡ p)) =
    subst (λ (o : Option Place). IfSome o (λ p. (new.stage ≤ 1) × (place_of new ≡ p))) at.1 h.goes in
    at.1 ∙ ap (λ (p : Place). Some p) (sym here.1)

-- the walk ends with a step
pub step-stop : (u : Unwinding) (old new : CCursor) (f : CFrame) (h : IsStepBy u old new f) (why : Stop) → WalkHasEnded new why
    → stop_of_caller h.walked.caller ≡ Some why
step-stop u old new f h why over =
    ended u (looked_up_by old.stage old.address) h.walked.caller new.stage why
    (stage-goes (place_after u (looked_up_by old.stage old.address) h.walked.caller) new h.goes)
    (stage-ends (stop_of_caller h.walked.caller) old new h.ends) over.0 over.1

-- a cursor whose walk has ended says why
pub step-why : (u : Unwinding) (old new : CCursor) (f : CFrame) (h : IsStepBy u old new f) → 2 ≤ new.stage
    → (why : Stop) × (new.stage ≡ stop_number why + 1)
step-why u old new f h more = go h.walked.caller (stage-goes _ new h.goes) (stage-ends (stop_of_caller h.walked.caller) old new h.ends)
  where
    go : (caller : Option Caller) → IfSome (place_after u (looked_up_by old.stage old.address) caller) (λ _. new.stage ≤ 1)
        → IfSome (stop_of_caller caller) (λ s. new.stage ≡ stop_number s + 1) → (why : Stop) × (new.stage ≡ stop_number why + 1)
    go None g e = (NotCovered, e)
    go (Some c) g e = by-answer c.return_address g e
      where
        by-answer : (a : Answer)
            → IfSome (option_map (next-place u (looked_up_by old.stage old.address) c) (content_of a)) (λ _. new.stage ≤ 1)
            → IfSome (stop_of_return a) (λ s. new.stage ≡ stop_number s + 1) → (why : Stop) × (new.stage ≡ stop_number why + 1)
        by-answer (value n) g e = absurd (omega (arith, g, more))
        by-answer undefined g e = (ReturnUndefined, e)
        by-answer unreadable g e = (ReturnUnreadable, e)
        by-answer division_by_zero g e = (ReturnDivisionByZero, e)

last : (u : Unwinding) (from to : CCursor) (f : CFrame) → IsStepBy u from to f → AreFramesOfSteps u (place_of from) (f ∷ []) to
last u from to f step = record {
  walked = step.walked ∷ [];
  are = (step.is, no-frames u (place_after u (looked_up_by from.stage from.address) step.walked.caller));
  shown = ap (λ (x : CFrame). x ∷ []) step.shown;
  ends = λ why h le. step-stop u from to f step why h;
}

join : (u : Unwinding) (from next to : CCursor) (f g : CFrame) (frames : List CFrame) → IsStepBy u from next f → next.stage ≤ 1
    → (ws : List WalkedFrame) → AreFramesBy u (Some (place_of next)) ws → g ∷ frames ≡ map cframe_of ws
    → ((why : Stop) → WalkHasEnded to why → 1 ≤ length (g ∷ frames) → stop_after ws ≡ Some why)
    → AreFramesOfSteps u (place_of from) (f ∷ g ∷ frames) to
join u from next to f g frames step le [] are shown ends = absurd (none shown)
  where
    none : ◌≡◌ {A = List CFrame} (g ∷ frames) [] → ⊥
    none h = cc
join u from next to f g frames step le (w ∷ ws) are shown ends = record {
  walked = step.walked ∷ w ∷ ws;
  are = (step.is, subst (λ (o : Option Place). AreFramesBy u o (w ∷ ws)) (sym (step-place u from next f step le)) are);
  shown = ap (λ (x : CFrame). x ∷ g ∷ frames) step.shown ∙ ap (λ (l : List CFrame). cframe_of step.walked ∷ l) shown;
  ends = λ why h some. ends why h (omega arith);
}

pub steps : (u : Unwinding) (from to : CCursor) (frames : List CFrame) → AreSteps u from frames to → 1 ≤ length frames
    → AreFramesOfSteps u (place_of from) frames to
steps u from to [] h le = absurd (omega (arith, le))
steps u from to (f ∷ []) h le = last u from to f (subst (λ (c : CCursor). IsStepBy u from c f) h.1.2 h.1.1)
steps u from to (f ∷ g ∷ frames) h le =
    let rest = steps u h.1.0 to (g ∷ frames) h.1.2 (omega arith) in
    join u from h.1.0 to f g frames h.1.1 h.1.2.0 rest.walked rest.are rest.shown rest.ends

counted : (frames : List CFrame) (walked : List WalkedFrame) → frames ≡ map cframe_of walked → length frames ≡ length walked
counted frames walked shown = ap length shown ∙ length-map walked cframe_of

pub fills : (held : Option ProcessState) (abi : Abi) (memory registers : ℕ → Option ℕ) (bits address : ℕ) (from to : CCursor) (frames old : List CFrame)
    → place_of from ≡ first_place address registers → AreSteps (through_held abi memory bits held) from frames to → 1 ≤ length frames
    → length frames ≡ length old → IsBacktrace held abi memory bits registers address old (put_into frames old) (length frames) 0
fills held abi memory registers bits address from to frames old at are le long =
    let u : Unwinding = through_held abi memory bits held in
    let h = steps u from to frames are le in
    let same = counted frames h.walked h.shown in
    record {
      frames = record {
        frames = h.walked;
        why = Limit;
        walks = walks-to-limit u (first_place address registers) (length old) h.walked
            (subst (λ (p : Place). AreFramesBy u (Some p) h.walked) at h.are) (sym same ∙ long);
        written = ap (λ (l : List CFrame). put_into l old) h.shown;
        count_is = same;
        stop_is = refl;
      };
    }

pub ends : (held : Option ProcessState) (abi : Abi) (memory registers : ℕ → Option ℕ) (bits address : ℕ) (from to : CCursor) (frames old : List CFrame)
    (why : Stop) → place_of from ≡ first_place address registers → AreSteps (through_held abi memory bits held) from frames to
    → 1 ≤ length frames → length frames < length old → WalkHasEnded to why
    → IsBacktrace held abi memory bits registers address old (put_into frames old) (length frames) (stop_number why)
ends held abi memory registers bits address from to frames old why at are le long over =
    let u : Unwinding = through_held abi memory bits held in
    let h = steps u from to frames are le in
    let same = counted frames h.walked h.shown in
    record {
      frames = record {
        frames = h.walked;
        why = why;
        walks = walks-to-end u (first_place address registers) (length old) h.walked why
            (subst (λ (p : Place). AreFramesBy u (Some p) h.walked) at h.are) (omega (arith, same, long)) (h.ends why over le);
        written = ap (λ (l : List CFrame). put_into l old) h.shown;
        count_is = same;
        stop_is = refl;
      };
    }
