use Rattle.std.proofs.Common.{◌≡◌, List, ◌++◌, ◌≤◌, ◌-◌, length}
use Rattle.dw_bytes.proofs.Sequences.{all-read}
use Rattle.dw_loclists.specs.Lists.{Table, lists_of}
use Rattle.dw_loclists.specs.Locations.{expressions_in}
use Rattle.dw_loclists.specs.Reading.{tables_of, tables_from}
use Rattle.dw_loclists.specs.Stored.{stored_of, stored_from, AreStoredOf}
use Rattle.dw_loclists.proofs.lists.check_lists.Given as goal

abbrev pub invariant-tables : goal.invariant-tables
invariant-tables l = record {
  so_far : (tables : List Table) × (tables_of l.fn.target l.section ≡ all-read tables ++ tables_from l.fn.target l.section l.at) ×
      (stored_of l.contents ≡ stored_from tables) × AreStoredOf (expressions_in (lists_of tables)) l.contents.expressions.items;
  inside : l.at ≤ length l.section;
}

abbrev pub decreases-tables : goal.decreases-tables
decreases-tables l = l.end - l.at
