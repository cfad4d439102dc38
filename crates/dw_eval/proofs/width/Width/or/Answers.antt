use Rattle.std.proofs.Common.{sym}
use Rattle.std.proofs.Math.Nat.{mod-eq_of_lt}
use Rattle.std.proofs.lemmas.Nat.{or_lt}
use Rattle.dw_eval.specs.Numbers.{width_of}
use Rattle.dw_eval.proofs.width.Width.or.Goals as goal

pub returns : goal.returns
returns c = sym (mod-eq_of_lt (or_lt (width_of c.args.self.size) c.args.a c.args.b c.requires.a c.requires.b))
