use Rattle.std.proofs.Common.{◌≡◌, map, take, filter, arith, refl, sym, ap, ◌∙◌, List}
use Rattle.std.proofs.lemmas.List.{length-map, take_all}
use Rattle.dw_frame.specs.Records.{Fde}
use Rattle.dw_frame.specs.Views.{fde_of}
use Rattle.dw_rows.proofs.sections.Indexes.{is_some_fde, entries-more, entries-same}
use Rattle.dw_rows.proofs.index.covering_some.Goals as goal
use Rattle.dw_rows.proofs.index.covering_some.Goals.{then-fde-gt0+in_ok-push, else-fde-gt0}

pub loop-place-init : goal.loop-place-init
loop-place-init c = rw c.in_ok-index.ensures.items (record { entries = λ k d lt. absurd (omega arith); fdes = refl })

pub loop-place-preserved : goal.loop-place-preserved
loop-place-preserved c =
    let fdes = c.args.fdes.now in
    let place = c.loop-place.place in
    let i = c.loop-place.invariant in
    let x = c.index-fdes-place.result in
    elim c.if-fde-gt0.branch [
      | then-fde-gt0+in_ok-push w ↦
          let k = entries-more fdes place x c.loop-place.index.items c.loop-place-test.true
          (sym c.index-fdes-place.is) w.if-fde-gt0.true i.entries i.fdes in
          rw (w.index-is, w.in_ok-push.ensures.items) (record { entries = k.0; fdes = k.1 })
      | else-fde-gt0 w ↦ rw w.index-is (record {
        entries = i.entries;
        fdes = i.fdes ∙ entries-same fdes place x c.loop-place-test.true
            (sym c.index-fdes-place.is) w.if-fde-gt0.false;
      })
    ]

pub returns : goal.returns
returns c =
    let fs = map fde_of c.args.fdes.now in
    let long = length-map c.args.fdes.now fde_of in
    let all : take c.loop-place.place fs ≡ fs = take_all c.loop-place.place fs (omega (arith, c.loop-place-test.false)) in
    record {
      entries = c.loop-place.invariant.entries;
      fdes = c.loop-place.invariant.fdes
          ∙ ap (λ (l : List Fde). filter is_some_fde l) all;
    }
