-- Going through a list that can be read to its end (`ListWalk`).
use Rattle.std.proofs.Common.{◌≡◌, ℕ, ◌<◌, Bool, true, false, cond, List, [], ◌∷◌, ◌++◌, length, Option, Some, None, Result, Ok, Err, refl}
use Rattle.std.proofs.Common.{ap, subst, ◌∙◌, arith, inl, inr}
use Rattle.std.specs.Prelude.{◌&&◌, ◌||◌, IsOk, is_some}
use Rattle.std.proofs.lemmas.Bool.{cases_lt}
use Rattle.dw_bytes.specs.declared.block.Block as declared
use Rattle.dw_bytes.specs.declared.fault.Fault.{Fault}
use Rattle.dw_bytes.specs.Operands.{Block, block_of}
use Rattle.dw_bytes.specs.Reading.{ReadPosition}
use Rattle.dw_loclists.specs.Entries.{Entry, end_of_list, offset_pair, default_location, base_address, start_end, start_length, is_end}
use Rattle.dw_loclists.specs.Entries.{is_default, expression_in}
use Rattle.dw_loclists.specs.Locations.{location_of, expressions_of, base_after, holds, held_by, bounded_at, default_of}
use Rattle.dw_loclists.specs.Locations.{defaults_in}
use Rattle.dw_loclists.specs.Reading.{entry_at, entry_fault, entries_at, no_end}
use Rattle.dw_loclists.specs.Walks.{default_located, entries_in}
use Rattle.dw_loclists.proofs.EachEntry.{fine-if-none, checked-none, checked-fault, checked-refused}
use Rattle.dw_loclists.proofs.EachList.{put_before, entries-end, entries-last, entries-more, entries-refused}

abbrev Found : Type 0
Found = Result (List Entry × ReadPosition) Fault

abbrev bad : Fault → Found
bad f = Err f

not-ok : (x : Found) (f : Fault) → x ≡ bad f → IsOk x → ⊥
not-ok x f is ok = let h : IsOk (bad f) = subst (λ (y : Found). IsOk y) is ok in cc

some-bytes : (d : Bool) (r : ReadPosition) → IsOk (entries_at d r) → 0 < length r.rest
some-bytes d r ok = elim (cases_lt 0 (length r.rest))
    [ inl lt ↦ lt | inr le ↦ absurd (not-ok (entries_at d r) (no_end r) (entries-end d r (omega arith)) ok) ]

-- if the rest of a list can be read, its next entry can be read
pub always-read : (d : Bool) (r : ReadPosition) (f : Fault) → IsOk (entries_at d r) → entry_at r ≡ Err f → ⊥
always-read d r f ok is = not-ok (entries_at d r) f (entries-refused d r f (some-bytes d r ok) (checked-refused d r f is)) ok

-- if the rest of a list can be read, its next entry has no fault
no-fault : (d : Bool) (r : ReadPosition) (e : Entry) (mid : ReadPosition) → IsOk (entries_at d r) → entry_at r ≡ Ok (e, mid)
    → (x : Option Fault) → entry_fault d r.position e ≡ x → entry_fault d r.position e ≡ None
no-fault d r e mid ok is None fault = fault
no-fault d r e mid ok is (Some f) fault =
    absurd (not-ok (entries_at d r) f (entries-refused d r f (some-bytes d r ok) (checked-fault d r e mid f is fault)) ok)

pub none-before : (d : Bool) (r : ReadPosition) (e : Entry) (mid : ReadPosition) → IsOk (entries_at d r) → entry_at r ≡ Ok (e, mid)
    → (d && is_default e) ≡ false
none-before d r e mid ok is = (fine-if-none d r.position e (no-fault d r e mid ok is (entry_fault d r.position e) refl)).only

pub step-ends : (d : Bool) (r : ReadPosition) (e : Entry) (mid : ReadPosition) → IsOk (entries_at d r) → entry_at r ≡ Ok (e, mid)
    → is_end e ≡ true → entries_in (entries_at d r) ≡ []
step-ends d r e mid ok is end =
    ap entries_in (entries-last d r e mid (checked-none d r e mid is (no-fault d r e mid ok is (entry_fault d r.position e) refl)) end)

put-ok : (e : Entry) (x : Found) → IsOk (put_before e x) → IsOk x
put-ok e (Ok es) ok = refl
put-ok e (Err f) ok = ok

put-in : (e : Entry) (x : Found) → IsOk x → entries_in (put_before e x) ≡ e ∷ entries_in x
put-in e (Ok es) ok = refl
put-in e (Err f) ok = absurd (not-ok (Err f) f refl ok)

pub record IsStep (d next : Bool) (r : ReadPosition) (e : Entry) (mid : ReadPosition) : Type 0 where
  pub readable : IsOk (entries_at next mid)
  pub entries : entries_in (entries_at d r) ≡ e ∷ entries_in (entries_at next mid)

pub step-goes : (d next : Bool) (r : ReadPosition) (e : Entry) (mid : ReadPosition) → IsOk (entries_at d r) → entry_at r ≡ Ok (e, mid)
    → is_end e ≡ false → (d || is_default e) ≡ next → IsStep d next r e mid
step-goes d next r e mid ok is going or =
    let more =
    entries-more d r e mid (checked-none d r e mid is (no-fault d r e mid ok is (entry_fault d r.position e) refl)) going
    ∙ ap (λ b. put_before e (entries_at b mid)) or in
    let ahead : IsOk (entries_at next mid) = put-ok e (entries_at next mid) (subst (λ (y : Found). IsOk y) more ok) in
    record { readable = ahead; entries = ap entries_in more ∙ put-in e (entries_at next mid) ahead }

pub or-false : (b : Bool) → (b || false) ≡ b
or-false true = refl
or-false false = refl

pub or-true : (b : Bool) → (b || true) ≡ true
or-true true = refl
or-true false = refl

-- ---- how a step of a walk changes the entries that are still ahead

pub held-step : (base address : ℕ) (xs : List Entry) (e : Entry) (es : List Entry) → xs ≡ e ∷ es
    → bounded_at base address xs ≡ held_by base address e ++ bounded_at (base_after base (e ∷ [])) address es
held-step base address xs e es is = ap (bounded_at base address) is

pub defaults-step : (xs : List Entry) (e : Entry) (es : List Entry) → xs ≡ e ∷ es → defaults_in xs ≡ default_of e ++ defaults_in es
defaults-step xs e es is = ap defaults_in is

-- if no default has been read yet and the next entry is the default b: the default that has been
-- read (if any), followed by the defaults that are still ahead, is the same list before b is read
-- and after it
pub first-default : (old : Option declared.Block) (b : declared.Block) (es : List Entry) → (is_some old && true) ≡ false
    → default_located old ++ (location_of (block_of b) ∷ defaults_in es) ≡ default_located (Some b) ++ defaults_in es
first-default None b es first = refl
first-default (Some c) b es first = absurd cc

-- ---- entries that hold at an address, and entries that don't

pub record IsBounded (base : ℕ) (e : Entry) : Type 0 where
  pub going : is_end e ≡ false
  pub other : is_default e ≡ false
  pub same_base : base_after base (e ∷ []) ≡ base

pub holds-bounded : (base address : ℕ) (e : Entry) → holds base address e ≡ true → IsBounded base e
holds-bounded base address end_of_list h = absurd cc
holds-bounded base address (offset_pair begin end x) h = record { going = refl; other = refl; same_base = refl }
holds-bounded base address (default_location x) h = absurd cc
holds-bounded base address (base_address other) h = absurd cc
holds-bounded base address (start_end begin end x) h = record { going = refl; other = refl; same_base = refl }
holds-bounded base address (start_length begin count x) h = record { going = refl; other = refl; same_base = refl }

pub holds-some : (base address : ℕ) (e : Entry) → holds base address e ≡ true
    → (b : Block) × (expression_in e ≡ Some b) × (held_by base address e ≡ location_of b ∷ [])
holds-some base address end_of_list h = absurd cc
holds-some base address (offset_pair begin end x) h = (x, refl, ap (λ b. cond b (location_of x ∷ []) []) h)
holds-some base address (default_location x) h = absurd cc
holds-some base address (base_address other) h = absurd cc
holds-some base address (start_end begin end x) h = (x, refl, ap (λ b. cond b (location_of x ∷ []) []) h)
holds-some base address (start_length begin count x) h = (x, refl, ap (λ b. cond b (location_of x ∷ []) []) h)

pub holds-none : (base address : ℕ) (e : Entry) → holds base address e ≡ false → held_by base address e ≡ []
holds-none base address e h = ap (λ b. cond b (expressions_of (e ∷ [])) []) h

pub not-default : (e : Entry) → is_default e ≡ false → default_of e ≡ []
not-default e h = ap (λ b. cond b (expressions_of (e ∷ [])) []) h
