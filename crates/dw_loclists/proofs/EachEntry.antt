-- Entries are read exactly from the bytes that encode them, and then checked.
use Rattle.std.proofs.Common.{◌≡◌, ℕ, ◌+◌, ◌<◌, ◌≤◌, Bool, true, false, cond, List, [], ◌∷◌, length, Option, Some, None, Result, Ok, Err}
use Rattle.std.proofs.Common.{refl, sym, ap, subst, ◌∙◌, arith, inl, inr}
use Rattle.std.specs.Prelude.{◌==◌, ◌&&◌}
use Rattle.std.proofs.lemmas.Bool.{le-ltb, ltb-false}
use Rattle.std.proofs.lemmas.List.{length-append}
use Rattle.dw_bytes.specs.declared.target.Target.{Target}
use Rattle.dw_bytes.specs.declared.fault.Fault.{Fault}
use Rattle.dw_bytes.specs.declared.fault.FaultKind.TheVariants.{UnknownEntry, SecondDefault, BackRange}
use Rattle.dw_bytes.specs.Reading.{ReadPosition, Next, ◌>>=◌}
use Rattle.dw_bytes.specs.Operands.{OperandKind, address, unsigned, block, Block, IsBlock, Operands, Line, line, none, one, AreOperands}
use Rattle.dw_bytes.proofs.Readers.{ExactAt, bind-ok}
use Rattle.dw_bytes.proofs.Codes.{coded-exact, coded-some}
use Rattle.dw_stack.specs.declared.state.Kind.TheVariants.{Location}
use Rattle.dw_stack.specs.FirstFault.{expression_fault}
use Rattle.dw_stack.proofs.Named.{none_if_good, good_if_none}
use Rattle.dw_loclists.specs.Entries.{Entry, end_of_list, offset_pair, default_location, base_address, start_end, start_length, entry_line}
use Rattle.dw_loclists.specs.Entries.{IsEntry, is_default, expression_in, IsRange, IsGoodLocation}
use Rattle.dw_loclists.specs.Bounds.{IsUpTo, IsBefore, StandsWithin, AllWithin}
use Rattle.dw_loclists.specs.Reading.{entry_at, is_back_range, location_fault, entry_fault, unless_fault, checked_entry_at}
use Rattle.dw_stack.specs.Located.{moved_by}

pub entry-exact : (target : Target) → ExactAt target entry_at (IsEntry target)
unfolding entry_at
entry-exact target r same = let here = coded-exact target entry_line UnknownEntry r same in record { found = here.found; only = here.only }

-- an entry has at least one byte
pub entry-some : (target : Target) (at : ℕ) (bytes : List ℕ) (e : Entry) → IsEntry target at bytes e → 0 < length bytes
entry-some target at bytes e h = coded-some target entry_line at bytes e h

-- ---- where the expression of an entry is

block-within : (target : Target) (start at : ℕ) (bytes : List ℕ) (b : Block) → start < at → IsBlock target at bytes b
    → StandsWithin target start (at + length bytes) b
block-within target start at bytes b lt h = record {
  past = omega (arith, h.offset_is);
  ends = omega (arith, h.offset_is, ap length h.parts, length-append h.count b.bytes);
  of_target = h.target_is;
}

-- for a line of `entry_line`: if the operands include an expression, it is within the entry's bytes
Holds : ℕ → Target → Option (Line Entry) → Type 0
Holds start target of = (at : ℕ) (bytes : List ℕ) (e : Entry) → start < at → AreOperands target of at bytes e
    → AllWithin target start (at + length bytes) (expression_in e)

which : (b : Bool) (P : Option (Line Entry) → Type 0) (x y : Option (Line Entry)) → P x → P y → P (cond b x y)
which true P x y h k = h
which false P x y h k = k

no-block : (start : ℕ) (target : Target) → Holds start target (Some (none end_of_list))
unfolding Holds
no-block start target at bytes e lt (vs, encoded, fit, is) =
    subst (λ x. AllWithin target start (at + length bytes) (expression_in x)) (sym is) tt

base-block : (start : ℕ) (target : Target) → Holds start target (Some (one address base_address))
unfolding Holds
base-block start target at bytes e lt (vs, encoded, fit, is) =
    subst (λ x. AllWithin target start (at + length bytes) (expression_in x)) (sym is) tt

default-block : (start : ℕ) (target : Target) → Holds start target (Some (one block default_location))
unfolding Holds
default-block start target at bytes e lt (vs, (first, rest, parts, is_block, ended), fit, is) =
    let within = block-within target start at first vs.0 lt is_block in
    subst (λ x. AllWithin target start (at + length bytes) (expression_in x)) (sym is)
    (record {
      past = within.past;
      ends = omega (arith, within.ends, ap length parts, length-append first rest, ap length ended);
      of_target = within.of_target;
    })

third-block : (start : ℕ) (target : Target) (first second : OperandKind) (make : Operands (first ∷ second ∷ block ∷ []) → Entry)
    → ((vs : Operands (first ∷ second ∷ block ∷ [])) → expression_in (make vs) ≡ Some vs.1.1.0)
    → Holds start target (Some (line (first ∷ second ∷ block ∷ []) make))
unfolding Holds
third-block start target first second make has at bytes e lt (vs, (a, ra, pa, ia, (b, rb, pb, ib, (c, rc, pc, ic, ended))), fit, is) =
    let within = block-within target start (at + length a + length b) c vs.1.1.0 (omega arith) ic in
    subst (λ x. AllWithin target start (at + length bytes) (expression_in x)) (sym is)
    (subst (AllWithin target start (at + length bytes)) (sym (has vs))
    (record {
      past = within.past;
      ends =
          omega (
            arith,
            within.ends,
            ap length pa,
            ap length pb,
            ap length pc,
            ap length ended,
            length-append a ra,
            length-append b rb,
            length-append c rc,
          );
      of_target = within.of_target;
    }))

unknown-block : (start : ℕ) (target : Target) → Holds start target None
unfolding Holds
unknown-block start target at bytes e lt h = absurd h

all-lines : (start : ℕ) (target : Target) (code : ℕ) → Holds start target (entry_line code)
all-lines start target code =
    which (code == 0x00) (Holds start target) _ _ (no-block start target)
    (which (code == 0x04) (Holds start target) _ _
    (third-block start target unsigned unsigned (λ vs. offset_pair vs.0 vs.1.0 vs.1.1.0) (λ vs. refl))
    (which (code == 0x05) (Holds start target) _ _ (default-block start target)
    (which (code == 0x06) (Holds start target) _ _ (base-block start target)
    (which (code == 0x07) (Holds start target) _ _
    (third-block start target address address (λ vs. start_end vs.0 vs.1.0 vs.1.1.0) (λ vs. refl))
    (which (code == 0x08) (Holds start target) _ _
    (third-block start target address unsigned (λ vs. start_length vs.0 vs.1.0 vs.1.1.0) (λ vs. refl))
    (unknown-block start target))))))

pub entry-within : (target : Target) (at : ℕ) (bytes : List ℕ) (e : Entry) → IsEntry target at bytes e
    → AllWithin target at (at + length bytes) (expression_in e)
unfolding Holds
entry-within target at bytes e (code, front, operands, parts, first, second) =
    let inside = all-lines at target code (at + length front) operands e (omega (arith, first.count)) second in
    subst (λ n. AllWithin target at n (expression_in e)) (omega (arith, ap length parts, length-append front operands)) inside

-- ---- the check of an entry

abbrev fine : {A : Type 0} → A → Result A Fault
fine a = Ok a

abbrev some-fault : Fault → Option Fault
some-fault f = Some f

moved-none : (offset : ℕ) (f : Option Fault) → moved_by offset f ≡ None → f ≡ None
moved-none offset None is = refl
moved-none offset (Some f) is = absurd (let never : some-fault (record { kind = f.kind; at = offset + f.at }) ≡ None = is in cc)

pub location-good : (b : Option Block) → location_fault b ≡ None → IsGoodLocation b
location-good None is = tt
location-good (Some b) is = good_if_none Location b.target b.bytes (moved-none b.offset (expression_fault Location b.target b.bytes) is)

pub good-location : (b : Option Block) → IsGoodLocation b → location_fault b ≡ None
good-location None good = refl
good-location (Some b) good = ap (moved_by b.offset) (none_if_good Location b.target b.bytes good)

pub is-range : (e : Entry) → is_back_range e ≡ false → IsRange e
is-range end_of_list is = tt
is-range (offset_pair begin end e) is = ltb-false end begin is
is-range (default_location e) is = tt
is-range (base_address base) is = tt
is-range (start_end begin end e) is = ltb-false end begin is
is-range (start_length begin count e) is = tt

pub range-is : (e : Entry) → IsRange e → is_back_range e ≡ false
range-is end_of_list h = refl
range-is (offset_pair begin end e) h = le-ltb end begin h
range-is (default_location e) h = refl
range-is (base_address base) h = refl
range-is (start_end begin end e) h = le-ltb end begin h
range-is (start_length begin count e) h = refl

-- an entry that has no fault; `has_default` tells whether its list already had a default_location
pub record IsFine (has_default : Bool) (e : Entry) : Type 0 where
  pub only : (has_default && is_default e) ≡ false
  pub range : IsRange e
  pub good : IsGoodLocation (expression_in e)

two-tests : (b c : Bool) (x y : Fault) (z : Option Fault) → cond b (Some x) (cond c (Some y) z) ≡ None
    → (b ≡ false) × (c ≡ false) × (z ≡ None)
two-tests true c x y z is = absurd (let never : some-fault x ≡ None = is in cc)
two-tests false true x y z is = absurd (let never : some-fault y ≡ None = is in cc)
two-tests false false x y z is = (refl, refl, is)

pub fine-if-none : (has_default : Bool) (at : ℕ) (e : Entry) → entry_fault has_default at e ≡ None → IsFine has_default e
fine-if-none has_default at e is =
    let t =
    two-tests (has_default && is_default e) (is_back_range e) (record { kind = SecondDefault; at = at })
    (record { kind = BackRange; at = at }) (location_fault (expression_in e)) is in
    record { only = t.0; range = is-range e t.1; good = location-good (expression_in e) t.2 }

pub none-if-fine : (has_default : Bool) (at : ℕ) (e : Entry) → IsFine has_default e → entry_fault has_default at e ≡ None
none-if-fine has_default at e h = rw (h.only, range-is e h.range) (good-location (expression_in e) h.good)

unless-ok : {X : Type 0} (f : Option Fault) (x y : X) → unless_fault f x ≡ fine y → (f ≡ None) × (x ≡ y)
unless-ok None x y is = (refl, cc)
unless-ok (Some f) x y is = absurd (let never : Err f ≡ fine y = is in cc)

-- an entry that was read and checked is encoded in the bytes, and has no fault
pub checked-found : (has_default : Bool) (r : ReadPosition) (e : Entry) (after : ReadPosition)
    → checked_entry_at has_default r ≡ Ok (e, after) → Next (IsEntry r.target r.position) r e after × IsFine has_default e
unfolding checked_entry_at
checked-found has_default r e after is =
    let a = bind-ok (entry_at r) (λ x. unless_fault (entry_fault has_default r.position x.0) x) (e, after) is in
    let ok = unless-ok (entry_fault has_default r.position a.0.0) a.0 (e, after) a.2 in
    let next = (entry-exact r.target r refl).found a.0.0 a.0.1 a.1 in
    subst (λ (p : Entry × ReadPosition). Next (IsEntry r.target r.position) r p.0 p.1 × IsFine has_default p.0) ok.1
    (next, fine-if-none has_default r.position a.0.0 ok.0)

pub checked-only : (has_default : Bool) (r : ReadPosition) (e : Entry) (after : ReadPosition) → Next (IsEntry r.target r.position) r e after
    → IsFine has_default e → checked_entry_at has_default r ≡ Ok (e, after)
unfolding checked_entry_at
checked-only has_default r e after next fine_is =
    let read = (entry-exact r.target r refl).only e after next in
    let passed : unless_fault (entry_fault has_default r.position e) (e, after) ≡ fine (e, after) =
    ap (λ (f : Option Fault). unless_fault f (e, after)) (none-if-fine has_default r.position e fine_is) in
    ap (λ (x : Result (Entry × ReadPosition) Fault). x >>= λ y. unless_fault (entry_fault has_default r.position y.0) y) read ∙ passed

-- reading and checking an entry that can be read and has no fault returns the entry
pub checked-none : (has_default : Bool) (r : ReadPosition) (e : Entry) (after : ReadPosition) → entry_at r ≡ Ok (e, after)
    → entry_fault has_default r.position e ≡ None → checked_entry_at has_default r ≡ Ok (e, after)
unfolding checked_entry_at
checked-none has_default r e after read is =
    ap (λ (x : Result (Entry × ReadPosition) Fault). x >>= λ y. unless_fault (entry_fault has_default r.position y.0) y) read
    ∙ ap (λ (f : Option Fault). unless_fault f (e, after)) is

-- reading and checking an entry that can be read and has a fault returns that fault
pub checked-fault : (has_default : Bool) (r : ReadPosition) (e : Entry) (after : ReadPosition) (f : Fault) → entry_at r ≡ Ok (e, after)
    → entry_fault has_default r.position e ≡ Some f → checked_entry_at has_default r ≡ Err f
unfolding checked_entry_at
checked-fault has_default r e after f read is =
    ap (λ (x : Result (Entry × ReadPosition) Fault). x >>= λ y. unless_fault (entry_fault has_default r.position y.0) y) read
    ∙ ap (λ (g : Option Fault). unless_fault g (e, after)) is

-- reading and checking an entry that can't be read returns the fault of reading it
pub checked-refused : (has_default : Bool) (r : ReadPosition) (f : Fault) → entry_at r ≡ Err f → checked_entry_at has_default r ≡ Err f
unfolding checked_entry_at
checked-refused has_default r f read =
    ap (λ (x : Result (Entry × ReadPosition) Fault). x >>= λ y. unless_fault (entry_fault has_default r.position y.0) y) read

-- an offset that is at most the offset of an entry's first byte, or of its expression's end, isn't
-- past the end of the bytes from which the entry was read
pub before-inside : (r : ReadPosition) (e : Entry) (after : ReadPosition) (n : ℕ) → entry_at r ≡ Ok (e, after) → IsBefore r.position e n
    → n ≤ r.position + length r.rest
before-inside r e after n is before =
    let next = (entry-exact r.target r refl).found e after is in
    let within = entry-within r.target r.position next.bytes e next.encoded in
    elim before [
      | inl le ↦ omega arith
      | inr up ↦ let last = up-to r.target r.position (r.position + length next.bytes) n (expression_in e) within up in omega
          (arith, last, ap length next.parts, length-append next.bytes after.rest)
    ]
  where
    up-to : (target : Target) (at end n : ℕ) (b : Option Block) → AllWithin target at end b → IsUpTo n b → n ≤ end
    up-to target at end n None within up = absurd up
    up-to target at end n (Some b) within up = omega (arith, within.ends, up)
