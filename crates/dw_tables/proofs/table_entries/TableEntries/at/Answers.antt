use Rattle.std.proofs.Common.{◌≡◌, List, length, Some, subst, sym, arith, ap}
use Rattle.std.specs.Prelude.{slice_get}
use Rattle.dw_tables.specs.declared.table_entries.TableEntry.{TableEntry}
use Rattle.dw_tables.proofs.TableEntries.{paired-length, paired-at}
use Rattle.dw_tables.proofs.table_entries.TableEntries.at.Goals as goal

pub at-requires : goal.at-requires
at-requires c =
    omega (
      arith,
      paired-length c.self.inside.starts c.self.inside.sets c.self.invariant.even,
      ap (λ (l : List TableEntry). length l) c.self.view_is,
    )

pub at-requires-2 : goal.at-requires-2
at-requires-2 c =
    omega (
      arith,
      c.self.invariant.even,
      paired-length c.self.inside.starts c.self.inside.sets c.self.invariant.even,
      ap (λ (l : List TableEntry). length l) c.self.view_is,
    )

pub returns : goal.returns
returns c =
    let starts = c.self.inside.starts in
    let sets = c.self.inside.sets in
    let long = paired-length starts sets c.self.invariant.even in
    subst (λ (l : List TableEntry). slice_get l c.args.place ≡ Some (record { start = c.at.result; set = c.at-2.result }))
    c.self.view_is
    (paired-at starts sets c.args.place c.at.result c.at-2.result c.self.invariant.even
    (omega (arith, ap (λ (l : List TableEntry). length l) c.self.view_is)) (sym (c.at.ensures c.at.result)) (sym (c.at-2.ensures c.at-2.result)))
