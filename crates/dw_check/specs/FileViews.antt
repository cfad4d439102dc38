-- The modules that the code has read from files, with their sections as lists of bytes.
use Rattle.std.specs.Prelude.{ℕ, List, map}
use Rattle.std.specs.declared.borrow.CowSlice.{CowSlice}
use Rattle.std.specs.Cow.{cow_slice_items}
use Rattle.dw_check.specs.Files.{loaded_at}
use Rattle.dw_unwind.specs.declared.modules.Module.{Module}

-- the same modules, each with the list of its section's bytes
abbrev pub with_bytes : {Z : Type 0} → List (Module (CowSlice ℕ Z)) → List (Module (List ℕ))
with_bytes modules = map (λ m. loaded_at m.load_address (cow_slice_items m.rows)) modules
