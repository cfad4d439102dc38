use Rattle.dw_frame.specs.Views.{program_of}
use Rattle.dw_eh_frame.specs.Views.{eh_cie_of}
use Rattle.dw_eh_frame.proofs.Windows.{fde-read}
use Rattle.dw_eh_frame.proofs.record.read_fde.Goals as goal

pub returns-clause-exact : goal.returns-clause-exact
returns-clause-exact c =
    let initial = rw c.requires.encoding at c.in_ok-initial_location.ensures.exact in
    let range = rw c.requires.encoding at c.in_ok-address_range.ensures.exact in
    fde-read c.args.bases c.args.at c.args.format c.args.place (eh_cie_of c.args.cie.now) c.args.section.now c.args.end c.args.cursor.now
    c.read_pointer.new.cursor c.read_range.new.cursor c.skip_area.new.cursor c.in_ok-initial_location.initial_location
    c.in_ok-address_range.address_range c.from.result (program_of c.new.result) c.target-target.result c.position.result
    c.dialect-dialect.result c.requires.ordered c.requires.inside c.requires.reads initial range
    c.in_ok-skip_area.ensures.exact c.new.ensures.is c.target-target.ensures c.position.ensures c.dialect-dialect.ensures c.from.ensures
