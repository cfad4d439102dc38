use Rattle.std.proofs.Common.{◌≡◌, ◌+◌, List, [], ◌∷◌, ◌++◌, map, take, get_or, length, Some, sym, subst, ap, ◌∙◌, arith}
use Rattle.std.proofs.lemmas.List.{get_or-map, length-map, take_all, take_more}
use Rattle.dw_frame.specs.Records.{Fde}
use Rattle.dw_frame.specs.Views.{fde_of}
use Rattle.dw_process.proofs.Spans.{Spans, span_fits, spans_more, spans_same}
use Rattle.dw_process.proofs.ranges.linked_range.Goals as goal
use Rattle.dw_process.proofs.ranges.linked_range.Goals.{then-fde-gt0, else-fde-gt0}

pub loop-fde-preserved : goal.loop-fde-preserved
loop-fde-preserved c =
    let fdes = c.args.frame.now.fdes in
    let index = c.loop-fde.fde-index in
    let f = fde_of c.fde-item.result in
    let given = c.fdes-fde-items.result.now in
    let long = length-map given fde_of in
    let same : map fde_of given ≡ fdes = c.fdes-fde-items.ensures.fdes in
    let at : get_or fdes index f ≡ f = subst (λ (l : List Fde). get_or l index f ≡ f) same
    (get_or-map fde_of given index c.fde-item.result f (omega (arith, c.loop-fde-test.true)) ∙ ap fde_of (sym c.fde-item.is)) in
    let within = ap (λ (l : List Fde). length l) same in
    let more : take (index + 1) fdes ≡ take index fdes ++ f ∷ [] = take_more fdes index f (omega (arith, c.loop-fde-test.true, within, long))
    ∙ ap (λ (x : Fde). take index fdes ++ x ∷ []) at in
    elim c.if-fde-gt0.branch [
      | then-fde-gt0 w ↦ rw w.range-is (subst (λ (l : List Fde). Spans l (Some w.wider.result)) (sym more)
          (spans_more (take index fdes) f _ (omega arith) (omega arith) (omega arith) c.loop-fde.range w.wider.result c.loop-fde.invariant
          w.wider.ensures.none w.wider.ensures.low w.wider.ensures.high w.wider.ensures.low_other w.wider.ensures.high_other))
      | else-fde-gt0 w ↦ rw w.range-is (subst (λ (l : List Fde). Spans l c.loop-fde.range) (sym more)
          (spans_same (take index fdes) f (omega (arith, w.if-fde-gt0.false)) c.loop-fde.range c.loop-fde.invariant))
    ]

pub returns-clause-span : goal.returns-clause-span
returns-clause-span c =
    let fdes = c.args.frame.now.fdes in
    let given = c.fdes-fde-items.result.now in
    let long = length-map given fde_of in
    let within = ap (λ (l : List Fde). length l) c.fdes-fde-items.ensures.fdes in
    let all : take c.loop-fde.fde-index fdes ≡ fdes = take_all c.loop-fde.fde-index fdes (omega (arith, c.loop-fde-test.false, within, long)) in
    subst (λ (l : List Fde). Spans l c.loop-fde.range) all c.loop-fde.invariant

pub returns-clause-fits : goal.returns-clause-fits
returns-clause-fits c = span_fits c.args.frame.now.target c.args.frame.now.fdes c.loop-fde.range c.fdes-fde-items.ensures.fit (returns-clause-span c)
