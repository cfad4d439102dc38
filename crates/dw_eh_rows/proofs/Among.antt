-- Which records are among others, by their kinds.
use Rattle.std.proofs.Common.{zero, suc, List, [], ◌∷◌, Contains, ap, arith}
use Rattle.dw_frame.specs.Records.{Fde, Record, cie_record, fde_record, fdes_among}
use Rattle.dw_eh_frame.specs.Records.{EhFde, EhRecord, eh_cie, eh_fde, eh_nothing, all_in_dwarf}
use Rattle.dw_eh_rows.specs.Signals.{eh_fdes}

pub later : {X : Type 0} (x y : X) (xs : List X) → Contains xs y → Contains (x ∷ xs) y
later x y xs (k, less, is) = (suc k, omega arith, is)

-- ---- the FDEs among records

pub fde-record : (records : List Record) (f : Fde) → Contains (fdes_among records) f → Contains records (fde_record f)
fde-record [] f (k, less, is) = absurd (omega arith)
fde-record (cie_record c ∷ records) f among = later (cie_record c) (fde_record f) records (fde-record records f among)
fde-record (fde_record g ∷ records) f (zero, less, is) = (zero, omega arith, ap fde_record is)
fde-record (fde_record g ∷ records) f (suc k, less, is) =
    later (fde_record g) (fde_record f) records (fde-record records f (k, omega arith, is))

abbrev fde-of : Fde → Record → Fde
fde-of f (cie_record c) = f
fde-of f (fde_record g) = g

pub record-fde : (records : List Record) (f : Fde) → Contains records (fde_record f) → Contains (fdes_among records) f
record-fde [] f (k, less, is) = absurd (omega arith)
record-fde (cie_record c ∷ records) f (zero, less, is) = absurd cc
record-fde (cie_record c ∷ records) f (suc k, less, is) = record-fde records f (k, omega arith, is)
record-fde (fde_record g ∷ records) f (zero, less, is) = (zero, omega arith, ap (fde-of f) is)
record-fde (fde_record g ∷ records) f (suc k, less, is) = later g f (fdes_among records) (record-fde records f (k, omega arith, is))

-- ---- the FDEs among the records of `.eh_frame`

pub eh-record : (records : List EhRecord) (e : EhFde) → Contains (eh_fdes records) e → Contains records (eh_fde e)
eh-record [] e (k, less, is) = absurd (omega arith)
eh-record (eh_cie c ∷ records) e among = later (eh_cie c) (eh_fde e) records (eh-record records e among)
eh-record (eh_nothing n ∷ records) e among = later (eh_nothing n) (eh_fde e) records (eh-record records e among)
eh-record (eh_fde g ∷ records) e (zero, less, is) = (zero, omega arith, ap eh_fde is)
eh-record (eh_fde g ∷ records) e (suc k, less, is) = later (eh_fde g) (eh_fde e) records (eh-record records e (k, omega arith, is))

pub dwarf-record : (records : List EhRecord) (e : EhFde) → Contains (eh_fdes records) e → Contains (all_in_dwarf records) (fde_record e.fde)
dwarf-record [] e (k, less, is) = absurd (omega arith)
dwarf-record (eh_cie c ∷ records) e among = later (cie_record c.cie) (fde_record e.fde) (all_in_dwarf records) (dwarf-record records e among)
dwarf-record (eh_nothing n ∷ records) e among = dwarf-record records e among
dwarf-record (eh_fde g ∷ records) e (zero, less, is) = (zero, omega arith, ap (λ (h : EhFde). fde_record h.fde) is)
dwarf-record (eh_fde g ∷ records) e (suc k, less, is) =
    later (fde_record g.fde) (fde_record e.fde) (all_in_dwarf records) (dwarf-record records e (k, omega arith, is))
