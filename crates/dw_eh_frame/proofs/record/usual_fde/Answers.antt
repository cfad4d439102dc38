use Rattle.dw_eh_frame.proofs.Windows.{id-left}
use Rattle.dw_eh_frame.proofs.record.usual_fde.Goals as goal

pub read_fde-requires-clause-reads : goal.read_fde-requires-clause-reads
read_fde-requires-clause-reads c =
    id-left c.args.target c.args.section.now c.in-Ok.body.start c.in-Ok.body.end c.in-Ok-u32.back c.at-cursor.result c.u32.new.self
    c.at-cursor.ensures c.in-Ok.ensures.ordered.1 c.in-Ok.ensures.ordered.2 c.in-Ok-u32.ensures.exact
