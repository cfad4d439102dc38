-- A section none of whose CIEs is that of signal frames has no signal frames.
use Rattle.std.proofs.Common.{◌≡◌, ◌+◌, ℕ, zero, suc, Bool, true, false, cond, List, [], ◌∷◌, ◌++◌, length, map, All, Contains, Ok, refl, sym, ap, subst, ◌∙◌, arith, append_assoc, inl, inr}
use Rattle.std.specs.Prelude.{filter}
use Rattle.dw_bytes.specs.declared.target.Target.{Target}
use Rattle.dw_frame.specs.Records.{Cie, cies_among}
use Rattle.dw_eh_frame.specs.declared.pointer.Bases.{Bases}
use Rattle.dw_eh_frame.specs.Copies.{distinct}
use Rattle.dw_eh_frame.specs.Encoding.{AreEhRecords, IsEhBody, IsEhRecord}
use Rattle.dw_eh_frame.specs.Records.{EhCie, EhFde, EhRecord, eh_cie, eh_fde, eh_nothing, all_in_dwarf, eh_cie_at}
use Rattle.dw_eh_rows.specs.Signals.{HasNoSignals, addresses_of, eh_fdes, is_signal_frame, signal_frames}
use Rattle.dw_eh_rows.proofs.Among.{later}

-- an FDE points to its CIE, which is one of these records
record PointsTo (records : List EhRecord) (e : EhFde) : Type 0 where
  cie : Contains records (eh_cie e.cie)
  pointer : e.fde.cie_pointer ≡ e.cie.cie.offset

in-front : (xs ys : List EhRecord) (x : EhRecord) → Contains xs x → Contains (xs ++ ys) x
in-front [] ys x (k, less, is) = absurd (omega arith)
in-front (y ∷ xs) ys x (zero, less, is) = (zero, omega arith, is)
in-front (y ∷ xs) ys x (suc k, less, is) = later y x (xs ++ ys) (in-front xs ys x (k, omega arith, is))

same-fde : (e f : EhFde) → eh_fde e ≡ eh_fde f → e ≡ f
same-fde e f is = cc

own-cie : (is_aarch64 : Bool) (bases : Bases) (target : Target) (before : List EhRecord) (at : ℕ) (bytes : List ℕ) (e : EhFde)
    → IsEhRecord is_aarch64 bases target before at bytes (eh_fde e) → PointsTo before e
own-cie is_aarch64 bases target before at bytes e read = go read.body_is
  where
    go : IsEhBody is_aarch64 bases target before at read.format (at + length read.front) read.body (eh_fde e) → PointsTo before e
    go (inl nothing) = absurd cc
    go (inr (inl cie)) = absurd cc
    go (inr (inr fde)) = record {
      cie = subst (λ (c : EhCie). Contains before (eh_cie c)) (sym (ap (λ (f : EhFde). f.cie) (same-fde e _ fde.record_is))) fde.cie_is_before;
      pointer = ap (λ (f : EhFde). f.fde.cie_pointer) (same-fde e _ fde.record_is)
          ∙ sym (ap (λ (f : EhFde). f.cie.cie.offset) (same-fde e _ fde.record_is));
    }

points : (is_aarch64 : Bool) (bases : Bases) (target : Target) (before records : List EhRecord) (at : ℕ) (bytes : List ℕ) (e : EhFde)
    → AreEhRecords is_aarch64 bases target before at bytes records → Contains records (eh_fde e) → PointsTo (before ++ records) e
points is_aarch64 bases target before [] at bytes e read (k, less, is) = absurd (omega arith)
points is_aarch64 bases target before (x ∷ records) at bytes e (first, rest, parts, read, more) (zero, less, is) =
    let own = own-cie is_aarch64 bases target before at first e
    (subst (λ (y : EhRecord). IsEhRecord is_aarch64 bases target before at first y) is read) in
    record { cie = in-front before (x ∷ records) (eh_cie e.cie) own.cie; pointer = own.pointer }
points is_aarch64 bases target before (x ∷ records) at bytes e (first, rest, parts, read, more) (suc k, less, is) =
    let all = points is_aarch64 bases target (before ++ x ∷ []) records (at + length first) rest e more (k, omega arith, is) in
    record {
      cie = subst (λ (l : List EhRecord). Contains l (eh_cie e.cie)) (append_assoc before (x ∷ []) records) all.cie;
      pointer = all.pointer;
    }

cie-among : (records : List EhRecord) (c : EhCie) → Contains records (eh_cie c) → Contains (cies_among (all_in_dwarf records)) c.cie
cie-among [] c (k, less, is) = absurd (omega arith)
cie-among (eh_cie d ∷ records) c (zero, less, is) = (zero, omega arith, let same : d ≡ c = cc in ap (λ (e : EhCie). e.cie) same)
cie-among (eh_cie d ∷ records) c (suc k, less, is) =
    let (n, low, at) = cie-among records c (k, omega arith, is) in (suc n, omega (arith, low), at)
cie-among (eh_fde e ∷ records) c (zero, less, is) = absurd cc
cie-among (eh_fde e ∷ records) c (suc k, less, is) = cie-among records c (k, omega arith, is)
cie-among (eh_nothing n ∷ records) c (zero, less, is) = absurd cc
cie-among (eh_nothing n ∷ records) c (suc k, less, is) = cie-among records c (k, omega arith, is)

holds-of : (P : Cie → Type 0) (cies : List Cie) (c : Cie) → All P cies → Contains cies c → P c
holds-of P cies c all (k, less, is) = subst P is (all k c less)

none-among : (records : List EhRecord) → ((e : EhFde) → Contains records (eh_fde e) → is_signal_frame e ≡ false) → signal_frames records ≡ []
none-among [] none = refl
none-among (eh_cie c ∷ records) none = none-among records (λ e among. none e (later (eh_cie c) (eh_fde e) records among))
none-among (eh_nothing n ∷ records) none = none-among records (λ e among. none e (later (eh_nothing n) (eh_fde e) records among))
none-among (eh_fde f ∷ records) none =
    go (is_signal_frame f) (none f (zero, omega arith, refl))
    (none-among records (λ e among. none e (later (eh_fde f) (eh_fde e) records among)))
  where
    go : (b : Bool) → b ≡ false → signal_frames records ≡ []
        → map addresses_of (cond b (f ∷ filter is_signal_frame (eh_fdes records)) (filter is_signal_frame (eh_fdes records))) ≡ []
    go true is more = absurd cc
    go false is more = more

-- what the laws of dw_eh_frame say of one section
pub record CieLaws (is_aarch64 : Bool) (target : Target) (section : List ℕ) (records : List EhRecord) : Type 0 where
  pub cie : (e : EhFde) → Contains records (eh_fde e) → eh_cie_at is_aarch64 target section e.fde.cie_pointer ≡ Ok e.cie
  pub kept : cies_among (distinct (all_in_dwarf records)) ≡ cies_among (all_in_dwarf records)

pub no-signals : (is_aarch64 : Bool) (bases : Bases) (target : Target) (section : List ℕ) (records : List EhRecord)
    → CieLaws is_aarch64 target section records → AreEhRecords is_aarch64 bases target [] 0 section records
    → All (HasNoSignals is_aarch64 target section) (cies_among (distinct (all_in_dwarf records))) → signal_frames records ≡ []
no-signals is_aarch64 bases target section records laws read none =
    none-among records (λ e among.
    let own = points is_aarch64 bases target [] records 0 section e read among in
    let silent = holds-of (HasNoSignals is_aarch64 target section) (cies_among (all_in_dwarf records)) e.cie.cie
    (subst (All (HasNoSignals is_aarch64 target section)) laws.kept none) (cie-among records e.cie own.cie) in
    silent e.cie (ap (λ n. eh_cie_at is_aarch64 target section n) (sym own.pointer) ∙ laws.cie e among))
