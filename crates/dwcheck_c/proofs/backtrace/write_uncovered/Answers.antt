use Rattle.std.proofs.Common.{◌≡◌, ◌∙◌, [], ap, subst, sym}
use Rattle.std.specs.Prelude.{None, slice_set}
use Rattle.dw_unwind.specs.declared.frames.Stop.TheVariants.{Limit, NotCovered}
use Rattle.dw_c_types.specs.declared.answer.CFrame.{CFrame}
use Rattle.dw_c_types.specs.Frames.{IsBacktrace, cframe_by, stop_number}
use Rattle.dwcheck_c.proofs.Uncovered.{no-slot, one-slot, more-slots}
use Rattle.dwcheck_c.proofs.backtrace.write_uncovered.Goals as goal

pub returns-in-0 : goal.returns-in-0
returns-in-0 c = λ abi memory registers bits. no-slot abi memory registers bits c.args.address c.args.slots.now c.in-0.is

pub returns-in-1 : goal.returns-in-1
returns-in-1 c =
    let shown : c.c_frame_of-only.result ≡ cframe_by (c.args.address, None) = c.c_frame_of-only.ensures ∙ ap cframe_by (c.brief.ensures []) in
    λ abi memory registers bits.
    subst (λ (x : CFrame). IsBacktrace None abi memory bits registers c.args.address c.args.slots.now (slice_set c.args.slots.now 0 x) 1 (stop_number Limit))
    (sym shown) (one-slot abi memory registers bits c.args.address c.args.slots.now c.in-1.is)

pub returns-in_default : goal.returns-in_default
returns-in_default c =
    let shown : c.c_frame_of-only.result ≡ cframe_by (c.args.address, None) = c.c_frame_of-only.ensures ∙ ap cframe_by (c.brief.ensures []) in
    λ abi memory registers bits.
    subst (λ (x : CFrame). IsBacktrace None abi memory bits registers c.args.address c.args.slots.now (slice_set c.args.slots.now 0 x) 1
    (stop_number NotCovered)) (sym shown)
    (more-slots abi memory registers bits c.args.address c.args.slots.now (search) (search))
