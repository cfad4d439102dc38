use Rattle.std.proofs.Common.{length, refl}
use Rattle.dw_stack.specs.Expressions.{operations_in}
use Rattle.dw_stack.proofs.paths.Heights.{depth_within}
use Rattle.dw_stack.proofs.Stable.{checked_stable}
use Rattle.dw_stack.proofs.Whole.{runs_for}
use Rattle.dw_stack.specs.Certificates.{checked_of}
use Rattle.dw_stack.proofs.checked.CheckedExpression.depth.Goals as goal

pub returns-clause-depth : goal.returns-clause-depth
returns-clause-depth c = (checked_stable (checked_of c.args.self.now) c.args.self.now.checked).depth

pub returns-clause-limit : goal.returns-clause-limit
returns-clause-limit c =
    let it = checked_of c.args.self.now in
    let checked = checked_stable it c.args.self.now.checked in
    depth_within it.kind (operations_in it.target it.bytes) (length it.bytes) checked.good.good it.depth checked.depth

pub returns-clause-runs : goal.returns-clause-runs
returns-clause-runs c =
    let it = checked_of c.args.self.now in
    runs_for it.kind it.target it.bytes it (checked_stable it c.args.self.now.checked)
    (record { kind_is = refl; target_is = refl; bytes_are = refl })
