use Rattle.std.proofs.Common.{◌≡◌, ◌+◌, ◌∙◌, ℕ, Option, Some, ap, arith, refl, sym}
use Rattle.std.specs.Prelude.{option_map, slice_set}
use Rattle.std.proofs.lemmas.List.{length-set}
use Rattle.dw_rules.specs.AbiViews.{roles_of}
use Rattle.dw_unwind.specs.UnwoundViews.{caller_with}
use Rattle.dw_unwind.specs.Walks.{Place, WalkedFrame, contents_of}
use Rattle.dw_c_types.specs.Frames.{cframe_by, cframe_of}
use Rattle.dw_c_types.specs.ProcessWalks.{Unwinding, signal_at, through_process, without_bits}
use Rattle.dwcheck_c.proofs.CursorSteps.{caller-place, ends-with, next-is, place-by, same-contents}
use Rattle.dwcheck_c.proofs.WrittenFrames.{ends, fills, full, gives, left-at}
use Rattle.dwcheck_c.proofs.backtrace.write_rest.Goals as goal

pub returns-then-count-slots : goal.returns-then-count-slots
returns-then-count-slots g c =
    let u : Unwinding =
    through_process (roles_of c.args.abi.now) (g.M.Memory.bytes c.args.memory.now) c.args.bits c.args.process.now in
    let slots = c.loop-count.slots in let count = c.loop-count.count in let out = c.c_frame_of.result in
    let f : WalkedFrame = record { address = c.loop-count.at; caller = option_map (caller_with c.loop-count.found) c.loop-count.unwound } in
    let shown : out ≡ cframe_of f = c.c_frame_of.ensures ∙ ap cframe_by (c.brief.ensures c.loop-count.found) in
    λ first old h.
    let k = c.loop-count.invariant.left first old h in
    let p : Place = record { address = c.loop-count.at; looked_up = c.loop-count.place; registers = k.0 } in
    fills u first p f old (slice_set slots count out) (count + 1) (gives u first p f old slots count out k.1 (refl, k.2) shown)
    (omega (arith, c.if-count-slots.true, length-set slots count out))

pub returns-in-Err : goal.returns-in-Err
returns-in-Err g c =
    let u : Unwinding =
    through_process (roles_of c.args.abi.now) (g.M.Memory.bytes c.args.memory.now) c.args.bits c.args.process.now in
    let slots = c.loop-count.slots in let count = c.loop-count.count in let out = c.c_frame_of.result in
    let f : WalkedFrame = record { address = c.loop-count.at; caller = option_map (caller_with c.loop-count.found) c.loop-count.unwound } in
    let shown : out ≡ cframe_of f = c.c_frame_of.ensures ∙ ap cframe_by (c.brief.ensures c.loop-count.found) in
    λ first old h.
    let k = c.loop-count.invariant.left first old h in
    let p : Place = record { address = c.loop-count.at; looked_up = c.loop-count.place; registers = k.0 } in
    ends u first p f old (slice_set slots count out) (count + 1) c.in-Err.stop (gives u first p f old slots count out k.1 (refl, k.2) shown)
    (omega (arith, c.loop-count-test.true, c.if-count-slots.false, length-set slots count out))
    (ends-with c.loop-count.unwound c.loop-count.found c.in-Err.stop c.in-Err.ensures)

pub loop-count-preserved : goal.loop-count-preserved
loop-count-preserved g c =
    let u : Unwinding =
    through_process (roles_of c.args.abi.now) (g.M.Memory.bytes c.args.memory.now) c.args.bits c.args.process.now in
    let slots = c.loop-count.slots in let count = c.loop-count.count in let out = c.c_frame_of.result in
    let found = c.loop-count.found in let unwound = c.loop-count.unwound in
    let f : WalkedFrame = record { address = c.loop-count.at; caller = option_map (caller_with found) unwound } in
    let shown : out ≡ cframe_of f = c.c_frame_of.ensures ∙ ap cframe_by (c.brief.ensures found) in
    let at = c.without_bits-at.result in
    let is_signal = signal_at u.is_signal c.loop-count.place in
    let q : Place = record { address = at; looked_up = c.looked_up_after-place.result; registers = contents_of found } in
    record {
      left = λ first old h.
          let k = c.loop-count.invariant.left first old h in
          let p : Place = record { address = c.loop-count.at; looked_up = c.loop-count.place; registers = k.0 } in (
            contents_of found,
            left-at u first p q f old (slice_set slots count out) (count + 1) (gives u first p f old slots count out k.1 (refl, k.2) shown)
                (next-is u c.loop-count.place unwound found (contents_of found) c.in-Ok.next c.in-Ok.ensures (same-contents unwound found)
                ∙ ap (λ (a : ℕ). Some (caller-place is_signal a (contents_of found)))
                (sym (c.without_bits-at.ensures ∙ ap (λ (bits : ℕ). without_bits bits c.in-Ok.next) c.signed_bits_at.ensures))
                ∙ ap (λ (o : Option ℕ). Some (place-by o at (contents_of found))) (sym c.looked_up_after-place.ensures)),
            c.advance-unwound.ensures,
          );
      long = length-set slots count out ∙ c.loop-count.invariant.long;
      few = omega (arith, c.loop-count-test.true, length-set slots count out);
    }

pub returns : goal.returns
returns g c =
    let u : Unwinding =
    through_process (roles_of c.args.abi.now) (g.M.Memory.bytes c.args.memory.now) c.args.bits c.args.process.now in
    λ first old h.
    let k = c.loop-count.invariant.left first old h in
    let p : Place = record { address = c.loop-count.at; looked_up = c.loop-count.place; registers = k.0 } in
    full u first p old c.loop-count.slots c.loop-count.count k.1 (omega (arith, c.loop-count-test.false, c.loop-count.invariant.few))
