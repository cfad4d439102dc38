use Rattle.std.proofs.Common.{◌≡◌, ◌++◌, ◌≤◌, map, length}
use Rattle.dw_stack.specs.Located.{located_of}
use Rattle.dw_c_types.specs.Locations.{clocation_of}
use Rattle.dw_c_types.specs.Slots.{put_into}
use Rattle.dw_c_types.proofs.location.write_locations.Given as goal

abbrev pub invariant-loop-offset : goal.invariant-loop-offset
invariant-loop-offset l = record {
  whole : map located_of l.yielded ++ l.offset-iterator ≡ l.fn.found;
  written : l.slots ≡ put_into (map clocation_of (map located_of l.yielded)) l.initial.slots;
  counted : l.count ≡ length (map located_of l.yielded);
  few : l.count ≤ length l.initial.slots;
}
