use Rattle.std.proofs.Common.{ap, arith, length, take}
use Rattle.std.proofs.lemmas.List.{length-drop, length-take}
use Rattle.std.proofs.lemmas.Result.{err_from_is_err_and}
use Rattle.dw_bytes.specs.Reading.{ReadPosition}
use Rattle.dw_eh_frame.proofs.Windows.{id-left}
use Rattle.dw_eh_frame.proofs.record.read_body.Goals as goal

pub read_cie-requires-clause-reads : goal.read_cie-requires-clause-reads
read_cie-requires-clause-reads c =
    id-left c.args.target c.args.section.now c.args.body.start c.args.body.end c.in_ok-id.id c.at-cursor.result c.u32.new.self
    c.at-cursor.ensures c.requires.ordered c.requires.inside c.in_ok-id.ensures.exact

pub read_fde-requires-clause-reads : goal.read_fde-requires-clause-reads
read_fde-requires-clause-reads c =
    id-left c.args.target c.args.section.now c.args.body.start c.args.body.end c.in_ok-id.id c.at-cursor.result c.u32.new.self
    c.at-cursor.ensures c.requires.ordered c.requires.inside c.in_ok-id.ensures.exact

pub returns-in_err-fde-clause-within : goal.returns-in_err-fde-clause-within
returns-in_err-fde-clause-within c =
    let p = err_from_is_err_and c.from_residual-in_err-fde.result c.from_residual-in_err-fde.ensures.1 in
    rw (p.1, p.2)
    (omega (
      arith,
      c.in_err-fde.ensures.within,
      c.u32.ensures.goes_on.same_end,
      ap (λ (r : ReadPosition). r.position) c.at-cursor.ensures,
      ap (λ (r : ReadPosition). length r.rest) c.at-cursor.ensures,
      length-drop c.args.body.start (take c.args.body.end c.args.section.now),
      length-take c.args.body.end c.args.section.now,
      c.requires.inside,
      c.requires.ordered,
    ))
