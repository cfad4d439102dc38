use Rattle.std.proofs.Common.{map}
use Rattle.std.specs.List.{AllWithin}
use Rattle.dw_frame.specs.Views.{cie_of}
use Rattle.dw_eh_rows.specs.Signals.{HasNoSignals}
use Rattle.dw_eh_rows.proofs.signals.may_one_have_signals.Given as goal

abbrev pub invariant-loop-cie : goal.invariant-loop-cie
invariant-loop-cie l = AllWithin (HasNoSignals l.is_aarch64 l.target l.section) (map cie_of l.cies) 0 l.cie-index
