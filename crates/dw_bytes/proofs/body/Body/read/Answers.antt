use Rattle.std.proofs.Common.{◌≡◌, ◌+◌, ◌≤◌, length, Ok, sym, ap, ◌∙◌, arith}
use Rattle.std.proofs.lemmas.List.{length-drop}
use Rattle.dw_bytes.specs.Reading.{ReadPosition, section_from, initial_length_at}
use Rattle.dw_bytes.proofs.Bodies.{framed-window}
use Rattle.dw_bytes.proofs.body.Body.read.Goals as goal

pub returns-clause-exact : goal.returns-clause-exact
returns-clause-exact c =
    let section = c.args.section.now in
    let start = c.at-cursor.result in
    let mid = c.initial_length.new.self in
    let first : initial_length_at (section_from c.args.target section c.args.at) ≡ Ok
    ((c.in_ok-format.format, c.in_ok-format.length), mid) =
    ap initial_length_at (sym c.at-cursor.ensures) ∙ c.in_ok-format.ensures.exact in
    let whole : start.position + length start.rest ≡ length section =
    omega (
      arith,
      ap (λ (r : ReadPosition). r.position) c.at-cursor.ensures,
      ap (λ (r : ReadPosition). length r.rest) c.at-cursor.ensures,
      length-drop c.args.at section,
      c.requires.inside,
    ) in
    let mid_inside : mid.position ≤ length section = omega (arith, whole, c.in_ok-format.ensures.goes_on.same_end) in
    rw (c.position-start.ensures, c.position-end.ensures)
    (framed-window c.args.target section c.args.at c.in_ok-format.format c.in_ok-format.length mid c.in_ok-take.field-0.now c.take.new.self
    (omega arith) first c.in_ok-take.ensures.exact mid_inside)
