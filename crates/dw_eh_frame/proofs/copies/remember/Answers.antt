use Rattle.std.proofs.Common.{length, map, sym, arith}
use Rattle.std.proofs.lemmas.List.{length-map}
use Rattle.std.proofs.lemmas.Result.{on_ok_weaker}
use Rattle.dw_frame.specs.Views.{fde_of}
use Rattle.dw_eh_frame.proofs.FdeSearch.{firsts-more}
use Rattle.dw_eh_frame.proofs.copies.remember.Goals as goal

pub returns : goal.returns
returns c =
    on_ok_weaker c.add.result (firsts-more c.args.firsts.now c.add.new.self (map fde_of c.args.before.now) (fde_of c.args.fde.now)
    (length c.args.before.now) c.requires.firsts (sym (length-map c.args.before.now fde_of)) (omega (arith, c.if-fde-eq0.false)))
    c.add.ensures
