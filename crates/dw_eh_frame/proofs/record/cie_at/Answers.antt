use Rattle.dw_eh_frame.proofs.Windows.{id-left}
use Rattle.dw_eh_frame.proofs.record.cie_at.Goals as goal

pub read_cie-requires-clause-reads : goal.read_cie-requires-clause-reads
read_cie-requires-clause-reads c =
    id-left c.args.target c.args.section.now c.in_ok-body.body.start c.in_ok-body.body.end c.in_ok-id.id c.at-cursor.result c.u32.new.self
    c.at-cursor.ensures c.in_ok-body.ensures.ordered.1 c.in_ok-body.ensures.ordered.2 c.in_ok-id.ensures.exact
