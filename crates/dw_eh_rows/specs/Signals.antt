-- Signal frames: the FDEs of CIEs with the letter S. The caller of such a frame was interrupted and
-- made no call, so its row is that of its own address, and not that of the address before.
use Rattle.std.specs.Prelude.{◌≡◌, ℕ, ◌+◌, ◌&&◌, nat_le, nat_lt, Bool, false, List, map, filter, Option, Some, None, Ok}
use Rattle.std.specs.List.{filter_map, list_any}
use Rattle.dw_bytes.specs.declared.target.Target.{Target}
use Rattle.dw_frame.specs.Records.{Cie}
use Rattle.dw_eh_frame.specs.Records.{EhCie, EhFde, EhRecord, eh_cie, eh_cie_at, eh_fde, eh_nothing}
use Rattle.dw_eh_rows.specs.declared.signals.SignalRange.{SignalRange}

abbrev pub fde_in : EhRecord → Option EhFde
fde_in (eh_fde e) = Some e
fde_in (eh_cie e) = None
fde_in (eh_nothing at) = None

-- the FDEs among records
abbrev pub eh_fdes : List EhRecord → List EhFde
eh_fdes records = filter_map fde_in records

abbrev pub is_signal_frame : EhFde → Bool
is_signal_frame e = e.cie.augmentation.is_signal

-- the addresses of an FDE
abbrev pub addresses_of : EhFde → SignalRange
addresses_of e = record { start = e.fde.initial_location; count = e.fde.address_range }

-- the addresses of the signal frames among records
abbrev pub signal_frames : List EhRecord → List SignalRange
signal_frames records = map addresses_of (filter is_signal_frame (eh_fdes records))

abbrev pub has_address : ℕ → SignalRange → Bool
has_address a range = nat_le range.start a && nat_lt a (range.start + range.count)

-- whether the address is one of a signal frame
abbrev pub is_signal_at : List SignalRange → ℕ → Bool
is_signal_at ranges a = list_any (has_address a) ranges

-- the CIE at an offset, if there is one, isn't that of signal frames
abbrev pub HasNoSignalsAt : Bool → Target → List ℕ → ℕ → Type 0
HasNoSignalsAt is_aarch64 target section at = (c : EhCie) → eh_cie_at is_aarch64 target section at ≡ Ok c → c.augmentation.is_signal ≡ false

abbrev pub HasNoSignals : Bool → Target → List ℕ → Cie → Type 0
HasNoSignals is_aarch64 target section cie = HasNoSignalsAt is_aarch64 target section cie.offset
