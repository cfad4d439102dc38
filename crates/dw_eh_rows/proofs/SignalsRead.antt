-- The signal frames of a section, one record after another.
use Rattle.std.proofs.Common.{◌≡◌, ℕ, ◌≤◌, Bool, true, false, cond, List, [], ◌∷◌, ◌++◌, length, map, Some, None, Result, Ok, Err, refl, sym, ap, ◌∙◌, arith, append_assoc}
use Rattle.std.specs.Prelude.{filter}
use Rattle.std.proofs.lemmas.List.{map-append, append-nil}
use Rattle.dw_bytes.specs.declared.target.Target.{Target}
use Rattle.dw_bytes.specs.declared.fault.Fault.{Fault}
use Rattle.dw_bytes.specs.Answers.{fault_in, values_in}
use Rattle.dw_eh_frame.specs.declared.pointer.Bases.{Bases}
use Rattle.dw_eh_frame.specs.Records.{EhRecord, eh_cie, eh_fde, eh_nothing, eh_records_from, eh_records_of}
use Rattle.dw_eh_rows.specs.declared.signals.SignalRange.{SignalRange}
use Rattle.dw_eh_rows.specs.Signals.{eh_fdes, is_signal_frame, addresses_of, signal_frames}
use Rattle.dw_eh_rows.proofs.WholeSections.{values-read}

-- the records before the offset `at` were read, and `ranges` are the addresses of their signal
-- frames
pub record AreSignals (is_aarch64 : Bool) (bases : Bases) (target : Target) (section : List ℕ) (at : ℕ) (ranges : List SignalRange) : Type 0 where
  pub inside : at ≤ length section
  pub records : List EhRecord
  pub read : eh_records_of is_aarch64 bases target section ≡ map Ok records ++ eh_records_from is_aarch64 bases target section at
  pub are : ranges ≡ signal_frames records

pub frames-append : (xs ys : List EhRecord) → signal_frames (xs ++ ys) ≡ signal_frames xs ++ signal_frames ys
frames-append [] ys = refl
frames-append (eh_cie c ∷ xs) ys = frames-append xs ys
frames-append (eh_nothing n ∷ xs) ys = frames-append xs ys
frames-append (eh_fde e ∷ xs) ys = go (is_signal_frame e) (frames-append xs ys)
  where
    go : (b : Bool) → signal_frames (xs ++ ys) ≡ signal_frames xs ++ signal_frames ys
        → map addresses_of (cond b (e ∷ filter is_signal_frame (eh_fdes (xs ++ ys))) (filter is_signal_frame (eh_fdes (xs ++ ys))))
        ≡ map addresses_of (cond b (e ∷ filter is_signal_frame (eh_fdes xs)) (filter is_signal_frame (eh_fdes xs))) ++ signal_frames ys
    go true more = ap (λ (l : List SignalRange). addresses_of e ∷ l) more
    go false more = more

pub signals-begin : (is_aarch64 : Bool) (bases : Bases) (target : Target) (section : List ℕ) (ranges : List SignalRange) → ranges ≡ []
    → AreSignals is_aarch64 bases target section 0 ranges
signals-begin is_aarch64 bases target section ranges none = record { inside = omega arith; records = []; read = refl; are = none }

pub signals-more : (is_aarch64 : Bool) (bases : Bases) (target : Target) (section : List ℕ) (at next : ℕ) (x : EhRecord) (ranges more : List SignalRange)
    → AreSignals is_aarch64 bases target section at ranges
    → eh_records_from is_aarch64 bases target section at ≡ Ok x ∷ eh_records_from is_aarch64 bases target section next → next ≤ length section
    → more ≡ ranges ++ signal_frames (x ∷ []) → AreSignals is_aarch64 bases target section next more
signals-more is_aarch64 bases target section at next x ranges more so_far is inside added = record {
  inside = inside;
  records = so_far.records ++ x ∷ [];
  read = so_far.read
      ∙ (ap (λ (items : List (Result EhRecord Fault)). map Ok so_far.records ++ items) is
      ∙ (sym (append_assoc (map Ok so_far.records) (Ok x ∷ []) (eh_records_from is_aarch64 bases target section next))
      ∙ ap (λ (items : List (Result EhRecord Fault)). items ++ eh_records_from is_aarch64 bases target section next)
      (sym (map-append Ok so_far.records (x ∷ [])))));
  are = added ∙ (ap (λ (l : List SignalRange). l ++ signal_frames (x ∷ [])) so_far.are ∙ sym (frames-append so_far.records (x ∷ [])));
}

pub signals-end : (is_aarch64 : Bool) (bases : Bases) (target : Target) (section : List ℕ) (at : ℕ) (ranges : List SignalRange)
    → AreSignals is_aarch64 bases target section at ranges → eh_records_from is_aarch64 bases target section at ≡ []
    → ranges ≡ signal_frames (values_in (eh_records_of is_aarch64 bases target section))
signals-end is_aarch64 bases target section at ranges so_far end =
    let all : eh_records_of is_aarch64 bases target section ≡ map Ok so_far.records =
    so_far.read ∙ (ap (λ (items : List (Result EhRecord Fault)). map Ok so_far.records ++ items) end
    ∙ append-nil (map Ok so_far.records)) in
    let values : values_in (eh_records_of is_aarch64 bases target section) ≡ so_far.records =
    ap (λ items. values_in {X = EhRecord} items) all ∙ values-read so_far.records in
    so_far.are ∙ ap signal_frames (sym values)

past-good : (records : List EhRecord) (fault : Fault) → fault_in {X = EhRecord} (map Ok records ++ Err fault ∷ []) ≡ Some fault
past-good [] fault = refl
past-good (x ∷ records) fault = past-good records fault

pub signals-refused : (is_aarch64 : Bool) (bases : Bases) (target : Target) (section : List ℕ) (at : ℕ) (ranges : List SignalRange) (fault : Fault)
    → AreSignals is_aarch64 bases target section at ranges
    → eh_records_from is_aarch64 bases target section at ≡ Err fault ∷ []
    → fault_in (eh_records_of is_aarch64 bases target section) ≡ Some fault
signals-refused is_aarch64 bases target section at ranges fault so_far is =
    ap (λ items. fault_in {X = EhRecord} items) (so_far.read ∙ ap (λ (xs : List (Result EhRecord Fault)). map Ok so_far.records ++ xs) is) ∙ past-good so_far.records fault

all-good : (records : List EhRecord) → fault_in {X = EhRecord} (map Ok records) ≡ None
all-good [] = refl
all-good (x ∷ records) = all-good records

pub signals-whole : (is_aarch64 : Bool) (bases : Bases) (target : Target) (section : List ℕ) (at : ℕ) (ranges : List SignalRange)
    → AreSignals is_aarch64 bases target section at ranges → eh_records_from is_aarch64 bases target section at ≡ []
    → fault_in (eh_records_of is_aarch64 bases target section) ≡ None
signals-whole is_aarch64 bases target section at ranges so_far end =
    let all : eh_records_of is_aarch64 bases target section ≡ map Ok so_far.records =
    so_far.read ∙ (ap (λ (items : List (Result EhRecord Fault)). map Ok so_far.records ++ items) end ∙ append-nil (map Ok so_far.records)) in
    ap (λ items. fault_in {X = EhRecord} items) all ∙ all-good so_far.records
