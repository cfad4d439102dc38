use Rattle.std.proofs.Common.{◌≡◌, length}
use Rattle.dw_loclists.specs.Walks.{IsReadable, held_ahead, default_ahead}
use Rattle.dw_loclists.proofs.walk.ListWalk.next_held.Given as goal

abbrev pub invariant-entries : goal.invariant-entries
invariant-entries l = record {
  readable : IsReadable l.self;
  held : held_ahead l.address l.self ≡ held_ahead l.address l.fn.self;
  default : default_ahead l.self ≡ default_ahead l.fn.self;
}

abbrev pub decreases-entries : goal.decreases-entries
decreases-entries l = length l.self.cursor.rest
