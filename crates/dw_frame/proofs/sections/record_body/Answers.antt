use Rattle.std.proofs.Common.{◌≡◌, length, ap, arith}
use Rattle.std.proofs.lemmas.List.{length-take}
use Rattle.dw_frame.proofs.Framed.{framed-program}
use Rattle.dw_frame.proofs.sections.record_body.Goals as goal

pub returns-clause-exact : goal.returns-clause-exact
returns-clause-exact c =
    let section = c.args.section.now in
    let body = c.in_ok-body.body in
    let end_is : length c.new.result.section.now ≡ body.end =
    omega (arith, ap length c.new.ensures.section, length-take body.end section, c.in_ok-body.ensures.ordered.2) in
    framed-program c.args.target section c.args.at body.start body.end body.format c.new.result c.in_ok-body.ensures.exact
    c.new.ensures.section c.new.ensures.start c.new.ensures.target end_is
