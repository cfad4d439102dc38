use Rattle.std.proofs.Common.{◌≡◌, rules, subst, codes}
use Rattle.std.specs.String.{string_bytes}
use Rattle.dw_check.specs.WriteResults.{Writes}
use Rattle.dw_check.proofs.Within.{below_top}
use Rattle.dw_check.proofs.Writing.{row_written, none_text, writes_whole}
use Rattle.dw_check.proofs.output.write_row_lookup.Goals as goal

pub write_row-requires-clause-fits : goal.write_row-requires-clause-fits
write_row-requires-clause-fits g c = record {
  start = below_top c.args.frame.now.target _ _ c.requires.size c.in-Some.ensures.fit.0;
  end = below_top c.args.frame.now.target _ _ c.requires.size c.in-Some.ensures.fit.1;
}

pub returns-in-Some-clause-written : goal.returns-in-Some-clause-written
returns-in-Some-clause-written g c =
    row_written c.args.frame.now c.args.address _ _ _ _ _ c.requires.size
    c.in-Some.ensures.row c.write_row.ensures.written

pub returns-in_ok-push_str-in-None-clause-written : goal.returns-in_ok-push_str-in-None-clause-written
returns-in_ok-push_str-in-None-clause-written g c =
    let line : string_bytes c.push_str.new.self ≡ codes "none\n" = search rules in
    subst (Writes (g.S.Sink.taken c.args.out.now.sink.now) (g.S.Sink.taken c.send_line.new.out.sink.now) c.send_line.result)
    (none_text c.args.frame.now c.args.address _ c.in-None.ensures.row line)
    (writes_whole _ _ _ _ c.send_line.ensures.written)
