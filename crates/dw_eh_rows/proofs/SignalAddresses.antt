-- An address of an FDE is one of a signal frame exactly if that FDE is one.
use Rattle.std.proofs.Common.{◌≡◌, ℕ, zero, suc, Bool, true, false, cond, List, [], ◌∷◌, map, Contains, Result, Ok, refl, sym, ap, subst, ◌∙◌, arith}
use Rattle.std.specs.Prelude.{◌||◌, filter}
use Rattle.std.proofs.lemmas.Bool.Decides.{nat_tests}
use Rattle.dw_bytes.specs.declared.fault.Fault.{Fault}
use Rattle.dw_bytes.specs.declared.target.Target.{Target}
use Rattle.dw_frame.specs.Records.{Fde, fde_record}
use Rattle.dw_rows.specs.Section.{Covers}
use Rattle.dw_eh_frame.specs.declared.pointer.Bases.{Bases}
use Rattle.dw_eh_frame.specs.Copies.{SaysTheSame, eh_frame_records}
use Rattle.dw_eh_frame.specs.Records.{EhCie, EhFde, eh_fde, all_in_dwarf, eh_cie_at}
use Rattle.dw_eh_rows.specs.Signals.{eh_fdes, is_signal_frame, addresses_of, signal_frames, has_address, is_signal_at}
use Rattle.dw_eh_rows.specs.declared.signals.SignalRange.{SignalRange}
use Rattle.dw_eh_rows.proofs.Among.{record-fde, eh-record, dwarf-record}
use Rattle.dw_eh_rows.proofs.WholeSections.{IsFaultless, read-of}

-- ---- the ranges of a list of FDEs

abbrev ranges-of : List EhFde → List SignalRange
ranges-of fdes = map addresses_of (filter is_signal_frame fdes)

-- an FDE of a signal frame that covers the address
record HasSignal (a : ℕ) (fdes : List EhFde) : Type 0 where
  fde : EhFde
  among : Contains fdes fde
  covers : Covers fde.fde a
  is : is_signal_frame fde ≡ true

wider : (a : ℕ) (e : EhFde) (fdes : List EhFde) → HasSignal a fdes → HasSignal a (e ∷ fdes)
wider a e fdes some = record {
  fde = some.fde;
  among = (suc some.among.0, omega (arith, some.among.1), some.among.2);
  covers = some.covers;
  is = some.is;
}

covers-as : (a : ℕ) (e : EhFde) → has_address a (addresses_of e) ≡ true → Covers e.fde a
covers-as a e has = (grind (arith, nat_tests), grind (arith, nat_tests))

has-as : (a : ℕ) (e : EhFde) → Covers e.fde a → has_address a (addresses_of e) ≡ true
has-as a e covers = let low = covers.0 in let high = covers.1 in grind (arith, nat_tests)

found : (a : ℕ) (fdes : List EhFde) → is_signal_at (ranges-of fdes) a ≡ true → HasSignal a fdes
found a [] has = absurd cc
found a (e ∷ fdes) has = go (λ others. wider a e fdes (found a fdes others)) (is_signal_frame e) refl has
  where
    here : (is_signal_at (ranges-of fdes) a ≡ true → HasSignal a (e ∷ fdes)) → is_signal_frame e ≡ true → (b : Bool)
        → has_address a (addresses_of e) ≡ b → (b || is_signal_at (ranges-of fdes) a) ≡ true → HasSignal a (e ∷ fdes)
    here more is true covers has = record { fde = e; among = (zero, omega arith, refl); covers = covers-as a e covers; is = is }
    here more is false covers has = more has

    go : (is_signal_at (ranges-of fdes) a ≡ true → HasSignal a (e ∷ fdes)) → (b : Bool) → is_signal_frame e ≡ b
        → is_signal_at (map addresses_of (cond b (e ∷ filter is_signal_frame fdes) (filter is_signal_frame fdes))) a ≡ true
        → HasSignal a (e ∷ fdes)
    go more true is has = here more is (has_address a (addresses_of e)) refl has
    go more false is has = more has

or-true : (b : Bool) → (b || true) ≡ true
or-true true = refl
or-true false = refl

kept-true : (a : ℕ) (e : EhFde) (fdes : List EhFde) → is_signal_at (ranges-of fdes) a ≡ true → is_signal_at (ranges-of (e ∷ fdes)) a ≡ true
kept-true a e fdes has = go (is_signal_frame e)
  where
    go : (b : Bool) → is_signal_at (map addresses_of (cond b (e ∷ filter is_signal_frame fdes) (filter is_signal_frame fdes))) a ≡ true
    go true = ap (λ b. has_address a (addresses_of e) || b) has ∙ or-true (has_address a (addresses_of e))
    go false = has

holds : (a : ℕ) (fdes : List EhFde) (e : EhFde) → Contains fdes e → is_signal_frame e ≡ true → Covers e.fde a → is_signal_at (ranges-of fdes) a ≡ true
holds a [] e (k, less, at) is covers = absurd (omega arith)
holds a (g ∷ fdes) e (zero, less, at) is covers =
    go (is_signal_frame g) (ap is_signal_frame at ∙ is) (subst (λ (h : EhFde). Covers h.fde a) (sym at) covers)
  where
    go : (b : Bool) → b ≡ true → Covers g.fde a
        → is_signal_at (map addresses_of (cond b (g ∷ filter is_signal_frame fdes) (filter is_signal_frame fdes))) a ≡ true
    go true same own = ap (λ b. b || is_signal_at (ranges-of fdes) a) (has-as a g own)
    go false same own = absurd cc
holds a (g ∷ fdes) e (suc k, less, at) is covers = kept-true a g fdes (holds a fdes e (k, omega arith, at) is covers)

-- ---- the FDEs of a section without fault

-- the laws of dw_eh_frame that are used here, for one section
pub record CopyLaws (is_aarch64 : Bool) (bases : Bases) (target : Target) (section : List ℕ) : Type 0 where
  pub kept : (f : Fde) → Contains (all_in_dwarf (read-of is_aarch64 bases target section)) (fde_record f)
      → (g : Fde) × Contains (eh_frame_records is_aarch64 bases target section) (fde_record g) × SaysTheSame g f
  pub cie : (e : EhFde) → Contains (read-of is_aarch64 bases target section) (eh_fde e)
      → eh_cie_at is_aarch64 target section e.fde.cie_pointer ≡ Ok e.cie

-- an FDE that says the same covers the same addresses
pub covers-too : (g f : Fde) (a : ℕ) → SaysTheSame g f → Covers f a → Covers g a
covers-too g f a same covers =
    let low = covers.0 in
    let high = covers.1 in
    (omega (arith, same.initial_location), omega (arith, same.initial_location, same.address_range))

same-cie : (c d : EhCie) → ◌≡◌ {A = Result EhCie Fault} (Ok c) (Ok d) → c ≡ d
same-cie c d is = cc

-- two FDEs that cover one address have the same CIE
one-cie : (is_aarch64 : Bool) (bases : Bases) (target : Target) (section : List ℕ) → CopyLaws is_aarch64 bases target section
    → IsFaultless is_aarch64 bases target section → (e o : EhFde) → Contains (eh_fdes (read-of is_aarch64 bases target section)) e
    → Contains (eh_fdes (read-of is_aarch64 bases target section)) o → (a : ℕ) → Covers e.fde a → Covers o.fde a → e.cie ≡ o.cie
one-cie is_aarch64 bases target section laws good e o e_in o_in a e_covers o_covers =
    let records = read-of is_aarch64 bases target section in
    let kept = eh_frame_records is_aarch64 bases target section in
    let (g, g_in, g_same) = laws.kept e.fde (dwarf-record records e e_in) in
    let (h, h_in, h_same) = laws.kept o.fde (dwarf-record records o o_in) in
    let one : g ≡ h = good.good.once a g h (record-fde kept g g_in) (record-fde kept h h_in) (covers-too g e.fde a g_same e_covers)
    (covers-too h o.fde a h_same o_covers) in
    let pointer : e.fde.cie_pointer ≡ o.fde.cie_pointer =
    sym g_same.cie_pointer ∙ (ap (λ (f : Fde). f.cie_pointer) one ∙ h_same.cie_pointer) in
    same-cie e.cie o.cie (sym (laws.cie e (eh-record records e e_in))
    ∙ (ap (λ n. eh_cie_at is_aarch64 target section n) pointer ∙ laws.cie o (eh-record records o o_in)))

decide : (b c : Bool) → (b ≡ true → c ≡ true) → (c ≡ true → b ≡ true) → c ≡ b
decide true c onward back = onward refl
decide false true onward back = absurd (let no = back refl in cc)
decide false false onward back = refl

pub signal-addresses : (is_aarch64 : Bool) (bases : Bases) (target : Target) (section : List ℕ) → CopyLaws is_aarch64 bases target section
    → IsFaultless is_aarch64 bases target section → (e : EhFde) → Contains (eh_fdes (read-of is_aarch64 bases target section)) e
    → (a : ℕ) → Covers e.fde a → is_signal_at (signal_frames (read-of is_aarch64 bases target section)) a ≡ is_signal_frame e
signal-addresses is_aarch64 bases target section laws good e among a covers =
    let fdes = eh_fdes (read-of is_aarch64 bases target section) in
    decide (is_signal_frame e) (is_signal_at (ranges-of fdes) a)
    (λ is. holds a fdes e among is covers)
    (λ has.
    let other = found a fdes has in
    ap (λ (c : EhCie). c.augmentation.is_signal)
    (one-cie is_aarch64 bases target section laws good e other.fde among other.among a covers other.covers)
    ∙ other.is)

pub no-signal : (fdes : List EhFde) (a : ℕ) → ((e : EhFde) → Contains fdes e → ¬ Covers e.fde a) → is_signal_at (ranges-of fdes) a ≡ false
no-signal fdes a none =
    decide false (is_signal_at (ranges-of fdes) a) (λ never. absurd cc)
    (λ has. let some = found a fdes has in absurd (none some.fde some.among some.covers))
