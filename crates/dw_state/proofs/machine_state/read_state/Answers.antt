use Rattle.std.proofs.Common.{rules, refl, arith, ap, ◌≡◌, ◌∷◌, ◌++◌, [], length, subst, sym, ◌∙◌, true, false}
use Rattle.std.proofs.lemmas.List.Elements.{filter_map-append}
use Rattle.dw_state.specs.Parts.{parts_of}
use Rattle.dw_state.specs.StateFile.{fact_of_line, facts_of_lines}
use Rattle.dw_state.proofs.StateLines.{Reading, few_parts, reads_line, reads_bad, goes_past}
use Rattle.dw_state.proofs.machine_state.read_state.Goals as goal

pub loop-line-init : goal.loop-line-init
loop-line-init c =
    let target = c.args.target in
    let text = c.args.text.now in
    let lines : c.into_iter-line-iterator.result ≡ parts_of 10 text = search rules in
    rw lines (record {
      count = omega (arith, few_parts 10 text);
      given = ([], c.new-state.ensures, record { is = refl; count = refl; each = refl; first = refl });
    })

pub loop-line-preserved : goal.loop-line-preserved
loop-line-preserved c =
    let target = c.args.target in
    let text = c.args.text.now in
    let n = c.loop-line.number in
    let was = c.loop-line.invariant.given in
    let before = was.0 in
    let line = c.in-Some.line.now in
    let steps : c.loop-line.line-iterator ≡ line ∷ c.next.new.self = c.in-Some.ensures.steps in
    let long = ap length steps in
    let reads : Reading target text before n (line ∷ c.next.new.self) = subst (λ l. Reading target text before n l) steps was.2 in
    let gs = facts_of_lines target before in
    let goes : goes_past target before line ≡ true = sym (c.in_ok-add_line.ensures.taken gs was.1) ∙ c.if-not-branch.false in
    let more : facts_of_lines target (before ++ line ∷ []) ≡ gs ++ facts_of_lines target (line ∷ []) =
    filter_map-append (fact_of_line target) before (line ∷ []) in
    let given = rw c.if-not-branch.false at c.in_ok-add_line.ensures.given in
    record {
      count = omega (arith, long, c.loop-line.invariant.count);
      given = (before ++ line ∷ [], rw more (given gs was.1), reads_line target text before n line c.next.new.self reads goes);
    }

pub returns-then-not-branch-clause-stop : goal.returns-then-not-branch-clause-stop
returns-then-not-branch-clause-stop c =
    let target = c.args.target in
    let text = c.args.text.now in
    let n = c.loop-line.number in
    let was = c.loop-line.invariant.given in
    let before = was.0 in
    let line = c.in-Some.line.now in
    let steps : c.loop-line.line-iterator ≡ line ∷ c.next.new.self = c.in-Some.ensures.steps in
    let reads : Reading target text before n (line ∷ c.next.new.self) = subst (λ l. Reading target text before n l) steps was.2 in
    let stays : goes_past target before line ≡ false =
    sym (c.in_ok-add_line.ensures.taken (facts_of_lines target before) was.1) ∙ c.if-not-branch.true in
    reads_bad target text before n line c.next.new.self reads stays
