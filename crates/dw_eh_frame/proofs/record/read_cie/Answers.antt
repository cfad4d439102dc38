use Rattle.std.proofs.Common.{rules, w64, SFits}
use Rattle.std.proofs.lemmas.Int.{to_z-of_z}
use Rattle.dw_frame.specs.Views.{program_of}
use Rattle.dw_eh_frame.specs.Views.{head_of}
use Rattle.dw_eh_frame.proofs.Windows.{cie-read}
use Rattle.dw_eh_frame.proofs.record.read_cie.Goals as goal

pub returns-clause-exact : goal.returns-clause-exact
returns-clause-exact c =
    let z = c.in_ok-head.head.factors.data_alignment_factor in
    let fits : SFits w64 z = search rules in
    cie-read c.args.is_aarch64 c.args.at c.args.format c.args.section.now c.args.end c.args.cursor.now c.read_head.new.cursor
    (head_of c.in_ok-head.head) _ (program_of c.new.result) c.target-target.result c.position.result c.dialect_by-dialect.result
    c.requires.ordered c.requires.inside c.requires.reads c.in_ok-head.ensures.exact (to_z-of_z w64 z fits) c.new.ensures.is c.target-target.ensures c.position.ensures
    c.dialect_by-dialect.ensures
