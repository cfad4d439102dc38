use Rattle.std.proofs.Common.{◌≡◌, ◌++◌, map, length}
use Rattle.dw_rules.specs.SavedRules.{Saved, as_saved}
use Rattle.dw_c_types.specs.Rows.{crule_of}
use Rattle.dw_c_types.specs.Slots.{put_into}
use Rattle.dw_c_types.proofs.row.write_fitting.Given as goal

abbrev pub invariant-loop-register : goal.invariant-loop-register
invariant-loop-register l = record {
  whole : map (λ (saved : Saved). saved) l.yielded ++ l.register-iterator ≡ l.fn.rules;
  written : l.slots ≡ put_into (map crule_of (map as_saved (map (λ (saved : Saved). saved) l.yielded))) l.initial.slots;
  counted : l.count ≡ length (map (λ (saved : Saved). saved) l.yielded);
}
