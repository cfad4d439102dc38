use Rattle.std.proofs.Common.{◌≡◌, ◌<◌, List, length, Some, subst, arith, ap, ◌∙◌}
use Rattle.std.specs.Prelude.{slice_get, Option}
use Rattle.std.specs.Option.{option_map}
use Rattle.std.proofs.lemmas.Option.{slice_get-get_or}
use Rattle.dw_tables.specs.declared.table_entries.TableEntry.{TableEntry}
use Rattle.dw_tables.specs.CompiledTable.{entry_start, paired}
use Rattle.dw_tables.proofs.TableEntries.{paired-length, paired-start}
use Rattle.dw_tables.proofs.table_entries.TableEntries.start_at.Goals as goal

pub at-requires : goal.at-requires
at-requires c =
    omega (
      arith,
      paired-length c.self.inside.starts c.self.inside.sets c.self.invariant.even,
      ap (λ (l : List TableEntry). length l) c.self.view_is,
    )

pub returns : goal.returns
returns c =
    let starts = c.self.inside.starts in
    let sets = c.self.inside.sets in
    let d : TableEntry = record { start = 0; set = 0 } in
    let x = c.at.result in
    let long = paired-length starts sets c.self.invariant.even in
    let lt : c.args.place < length starts = omega (arith, ap (λ (l : List TableEntry). length l) c.self.view_is) in
    subst (λ (l : List TableEntry). option_map entry_start (slice_get l c.args.place) ≡ Some x) c.self.view_is
    (ap (λ (o : Option TableEntry). option_map entry_start o) (slice_get-get_or (paired starts sets) c.args.place d (omega arith))
    ∙ ap Some (paired-start starts sets c.args.place x d c.self.invariant.even lt ∙ c.at.ensures x))
