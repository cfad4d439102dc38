-- How copies of FDEs are found: by the index of the first FDE that covers addresses from an address
-- on.
use Rattle.std.specs.Prelude.{◌≡◌, ℕ, List, position}
use Rattle.dw_frame.specs.Records.{Fde}
use Rattle.dw_eh_frame.specs.Copies.{covers_from}
use Rattle.dw_eh_frame.specs.FirstFdes.{Firsts, first_in}

-- `firsts` has, for each address, the index of the first of these FDEs that covers addresses from
-- there on
abbrev pub AreFirsts : Firsts → List Fde → Type 0
AreFirsts firsts fdes = (a : ℕ) → first_in firsts a ≡ position (covers_from a) fdes
