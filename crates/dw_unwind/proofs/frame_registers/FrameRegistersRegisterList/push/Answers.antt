use Rattle.std.proofs.Common.{◌≡◌, ℕ, suc, ◌+◌, ◌<◌, ◌∙◌, List, [], ◌∷◌, ◌++◌, length, take, sym, ap, subst, arith}
use Rattle.std.proofs.lemmas.List.{take_more_set, length-map, length-set, length-take-le}
use Rattle.dw_unwind.specs.declared.unwinding.Answer as declared
use Rattle.dw_unwind.specs.CallerViews.{found_in}
use Rattle.dw_unwind.specs.FrameRegisters.{Ascends}
use Rattle.dw_unwind.proofs.Ascending.{ascends-push}
use Rattle.dw_unwind.proofs.frame_registers.FrameRegistersRegisterList.push.Goals as goal

pub invariant_of-self : goal.invariant_of-self
invariant_of-self c =
    let found : List (ℕ × declared.Answer) = c.self.inside.found in
    let count = c.self.inside.count in
    let x : ℕ × declared.Answer = (c.args.number, c.args.answer) in
    let few = c.self.invariant.few in
    let long = c.self.invariant.room in
    let used : length (take count found) ≡ count = length-take-le count found (omega (arith, few, long)) in
    let seen : length c.args.self.now ≡ count = ap length (sym c.self.view_is) ∙ length-map (take count found) found_in ∙ used in
    let room : count < length found = omega (arith, long, seen, c.requires) in
    record {
      few = omega (arith, seen, c.requires);
      room = length-set found count x ∙ long;
      guessed = length-set c.self.inside.places _ _ ∙ c.self.invariant.guessed;
      ascends = λ stays.
          let known = c.stays_ascending-self-inside.ensures stays in
          let bound : suc c.args.number ≡ c.from.result + 1 = omega (arith, c.from.ensures) in
          subst (λ (l : List (ℕ × declared.Answer)). Ascends 0 l (c.from.result + 1)) (sym (take_more_set found count x room))
          (subst (λ (b : ℕ). Ascends 0 (take count found ++ x ∷ []) b) bound
          (ascends-push 0 (take count found) c.self.inside.bound x (c.self.invariant.ascends known.0) known.1));
    }
