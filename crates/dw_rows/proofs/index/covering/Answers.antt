use Rattle.std.proofs.Common.{arith, ◌≤◌, ◌<◌, ◌-◌, length, map, Contains, Some, None}
use Rattle.std.proofs.lemmas.List.{length-map}
use Rattle.dw_frame.specs.Views.{fde_of}
use Rattle.dw_rows.specs.Section.{CoversOnce}
use Rattle.dw_rows.specs.AddressIndex.{fde_at}
use Rattle.dw_rows.proofs.sections.Indexes.{none-covered, not-covered, starts-sorted, starts-above, entry-within, entry-placed, entry-start}
use Rattle.dw_rows.proofs.sections.Indexes.{once-indexed, cover-indexed}
use Rattle.dw_rows.proofs.index.covering.Goals as goal

pub count_up_to-after-requires : goal.count_up_to-after-requires
count_up_to-after-requires c = starts-sorted (map fde_of c.args.fdes.now) c.args.index.now c.requires.index

pub returns-then-after-eq0 : goal.returns-then-after-eq0
returns-then-after-eq0 c =
    let fdes = map fde_of c.args.fdes.now in
    let index = c.args.index.now in
    let is = c.requires.index in
    let above = starts-above fdes index c.count_up_to-after.result c.args.address is.each c.count_up_to-after.ensures.above in
    cover-indexed fdes (map (fde_at fdes) index) is.index_of c.args.address None
    (none-covered (map (fde_at fdes) index) c.args.address (λ k d lt. above k d (omega arith) lt))

pub bounds-fdes-index : goal.bounds-fdes-index
bounds-fdes-index c = entry-within c.args.fdes.now c.args.index.now (c.count_up_to-after.result - 1) _ c.requires.index.each
    (omega (arith, c.count_up_to-after.ensures.bound))

pub overflow_sub-address : goal.overflow_sub-address
overflow_sub-address c =
    let index = c.args.index.now in
    let place = c.count_up_to-after.result - 1 in
    let place_in : place < length index = omega (arith, c.count_up_to-after.ensures.bound) in
    let low = c.count_up_to-after.ensures.below place (record { start = 0; place = 0 }) (omega arith) in
    omega (
      arith,
      low,
      entry-start c.args.fdes.now index place _ c.index-fdes-index.result c.requires.index.each place_in c.index-fdes-index.is,
    )

pub returns-then-address-fde : goal.returns-then-address-fde
returns-then-address-fde c =
    let fdes = map fde_of c.args.fdes.now in
    let index = c.args.index.now in
    let is = c.requires.index in
    let place = c.count_up_to-after.result - 1 in
    let place_in : place < length index = omega (arith, c.count_up_to-after.ensures.bound) in
    let x = c.index-fdes-index.result in
    let low : x.initial_location ≤ c.args.address = overflow_sub-address c.before in
    let long = length-map index (fde_at fdes) in
    let placed = entry-placed c.args.fdes.now index place _ x is.each place_in c.index-fdes-index.is in
    let x_in : Contains (map (fde_at fdes) index) (fde_of x) = (place, omega arith, placed) in
    let once : CoversOnce (map (fde_at fdes) index) = once-indexed fdes (map (fde_at fdes) index) is.index_of c.requires.once in
    cover-indexed fdes (map (fde_at fdes) index) is.index_of c.args.address (Some (fde_of x))
    (x_in, (low, omega arith), λ g g_in covered. once c.args.address g (fde_of x) g_in x_in covered (low, omega arith))

pub returns : goal.returns
returns c =
    let fdes = map fde_of c.args.fdes.now in
    let index = c.args.index.now in
    let is = c.requires.index in
    let after = c.count_up_to-after.result in
    let place_in : after - 1 < length index = omega (arith, c.count_up_to-after.ensures.bound) in
    let x = c.index-fdes-index.result in
    let low : x.initial_location ≤ c.args.address = overflow_sub-address c.before in
    let long = length-map index (fde_at fdes) in
    let above = starts-above fdes index after c.args.address is.each c.count_up_to-after.ensures.above in
    let placed = entry-placed c.args.fdes.now index (after - 1) _ x is.each place_in c.index-fdes-index.is in
    let once : CoversOnce (map (fde_at fdes) index) = once-indexed fdes (map (fde_at fdes) index) is.index_of c.requires.once in
    cover-indexed fdes (map (fde_at fdes) index) is.index_of c.args.address None
    (not-covered (map (fde_at fdes) index) is.index_of.ordered after c.args.address (fde_of x) once (omega arith)
    (omega (arith, c.count_up_to-after.ensures.bound)) placed low above (omega arith))
