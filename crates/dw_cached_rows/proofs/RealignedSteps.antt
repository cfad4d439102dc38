-- Steps of walks by a row of a realigned stack are those of the definition.
use Rattle.std.proofs.Common.{◌≡◌, ℕ, zero, suc, ◌<◌, ◌^◌, ℤ, pos, negsuc, ◌+ℤ◌, refl, sym, ap, subst, ◌∙◌}
use Rattle.std.specs.Prelude.{Option, Some, None, option_map}
use Rattle.dw_eval.specs.Numbers.{wrap}
use Rattle.dw_rules.specs.Abi.{kept}
use Rattle.dw_rules.specs.Rules.{Row}
use Rattle.dw_unwind.specs.Caller.{Caller, value}
use Rattle.dw_unwind.specs.Walks.{Place, address_before, content_of, place_of_caller, stop_of_return}
use Rattle.dw_unwind.specs.declared.frames.Stop.TheVariants.{ReturnUnreadable}
use Rattle.dw_cached_rows.specs.declared.packed_row.PackedRow.{PackedRow}
use Rattle.dw_cached_rows.specs.declared.stack_place.StackPlace.{StackPlace}
use Rattle.dw_cached_rows.specs.declared.stack_place.Step.TheVariants as steps
use Rattle.dw_cached_rows.specs.declared.register_place.RegisterPlace.{RegisterPlace}
use Rattle.dw_cached_rows.specs.declared.register_place.RegisterStep.TheVariants as register_steps
use Rattle.dw_cached_rows.specs.PackedRows.{IsRealignedRowOf}
use Rattle.dw_cached_rows.specs.CachedWalks.{EndsHere, IsAt, IsStep, address_by, content_by_rbp, frame_pointer_by_rbp, frame_pointer_in, word_at}
use Rattle.dw_cached_rows.specs.RegisterWalks.{EndsWith, IsAfterBy, IsRegisterStep, IsWith}
use Rattle.dw_cached_rows.proofs.RealignedCallers.{AllUnder, EachUnder, answer, realigned-caller, saved_answer}
use Rattle.dw_cached_rows.proofs.Steps.{Fits, kept-content, pointer-fits, same-number, word-fits, word-unreadable, world}

-- the CFA, which memory holds, fits in 64 bits
fits-of : (o : Option ℕ) (n : ℕ) → Fits o → o ≡ Some n → n < 2 ^ 64
fits-of o n fits is = subst Fits is fits

cfa-fits : (memory : ℕ → Option ℕ) (a cfa : ℕ) → word_at memory a ≡ Some cfa → cfa < 2 ^ 64
cfa-fits memory a cfa read = fits-of (word_at memory a) cfa (word-fits memory a) read

-- ---- addresses alone

rbp-after : (memory : ℕ → Option ℕ) (p : Place) (base cfa : ℕ) (k : ℤ) (here : StackPlace) → p.registers 6 ≡ frame_pointer_in memory here
    → Fits (frame_pointer_in memory here)
    → content_of (saved_answer (world memory p) base cfa kept 6 k) ≡ frame_pointer_by_rbp memory base k here
rbp-after memory p base cfa (pos zero) here is fits = kept-content memory p (p.registers 6) (subst Fits (sym is) fits) ∙ is
rbp-after memory p base cfa (pos (suc n)) here is fits = refl
rbp-after memory p base cfa (negsuc n) here is fits = refl

pub goes-on : EachUnder → AllUnder → (memory : ℕ → Option ℕ) (packed : PackedRow) (full : Row) (here next : StackPlace) (p : Place)
    (base cfa ra : ℕ) → here.frame_pointer < 2 ^ 64 → frame_pointer_in memory here ≡ Some base
    → word_at memory (address_by base packed.cfa_offset) ≡ Some cfa → word_at memory (wrap 64 (pos cfa +ℤ negsuc 7)) ≡ Some ra
    → next.address ≡ ra → next.key ≡ ra → next.stack_pointer ≡ cfa
    → frame_pointer_in memory next ≡ frame_pointer_by_rbp memory base packed.rbp here
    → IsAt memory here p → IsRealignedRowOf packed full → IsStep memory full p (steps.To next)
goes-on each all memory packed full here next p base cfa ra below known read ra-is address-is key-is pointer-is after-is at is =
    let c = realigned-caller each all p.registers memory base cfa packed full is (at.frame_pointer ∙ known) read in
    let caller : Caller = record { cfa = value cfa; registers = c.list; return_address = answer p.registers memory base cfa packed 16 } in
    let returns : content_of caller.return_address ≡ Some ra = ra-is in
    let place = place_of_caller caller ra in (
      caller,
      c.is,
      place,
      ap (option_map (place_of_caller caller)) returns,
      record {
        address = sym address-is;
        looked_up = ap address_before (sym key-is);
        pointer = c.contents 7 ∙ ap (λ (n : ℕ). Some n) (same-number cfa (cfa-fits memory (address_by base packed.cfa_offset) cfa read))
            ∙ ap (λ (n : ℕ). Some n) (sym pointer-is);
        frame_pointer = c.contents 6
            ∙ rbp-after memory p base cfa packed.rbp here at.frame_pointer (pointer-fits memory here below) ∙ sym after-is;
      },
    )

pub unreadable-return : EachUnder → AllUnder → (memory : ℕ → Option ℕ) (packed : PackedRow) (full : Row) (here : StackPlace) (p : Place)
    (base cfa : ℕ) → frame_pointer_in memory here ≡ Some base → word_at memory (address_by base packed.cfa_offset) ≡ Some cfa
    → word_at memory (wrap 64 (pos cfa +ℤ negsuc 7)) ≡ None → IsAt memory here p → IsRealignedRowOf packed full
    → EndsHere memory full p ReturnUnreadable
unreadable-return each all memory packed full here p base cfa known read none at is =
    let c = realigned-caller each all p.registers memory base cfa packed full is (at.frame_pointer ∙ known) read in (
      record { cfa = value cfa; registers = c.list; return_address = answer p.registers memory base cfa packed 16 },
      c.is,
      ap stop_of_return (word-unreadable (world memory p) (wrap 64 (pos cfa +ℤ negsuc 7)) none),
    )

-- ---- registers

saved-after : (memory : ℕ → Option ℕ) (p : Place) (base cfa : ℕ) (k : ℤ) (r n m : ℕ) → p.registers r ≡ Some n → n < 2 ^ 64
    → content_by_rbp memory base k n ≡ Some m → content_of (saved_answer (world memory p) base cfa kept r k) ≡ Some m
saved-after memory p base cfa (pos zero) r n m is fits after = kept-content memory p (p.registers r) (subst Fits (sym is) fits) ∙ is ∙ after
saved-after memory p base cfa (pos (suc i)) r n m is fits after = after
saved-after memory p base cfa (negsuc i) r n m is fits after = after

pub goes-on-with : EachUnder → AllUnder → (memory : ℕ → Option ℕ) (packed : PackedRow) (full : Row) (here next : RegisterPlace) (p : Place)
    (cfa ra : ℕ) → here.rbx < 2 ^ 64 → here.rbp < 2 ^ 64 → here.r12 < 2 ^ 64 → here.r13 < 2 ^ 64 → here.r14 < 2 ^ 64 → here.r15 < 2 ^ 64
    → word_at memory (address_by here.rbp packed.cfa_offset) ≡ Some cfa → word_at memory (wrap 64 (pos cfa +ℤ negsuc 7)) ≡ Some ra
    → IsAfterBy (content_by_rbp memory here.rbp) cfa ra packed here next
    → IsWith here p → IsRealignedRowOf packed full → IsRegisterStep memory full p (register_steps.To next)
goes-on-with each all memory packed full here next p cfa ra rbx rbp r12 r13 r14 r15 read ra-is after at is =
    let base = here.rbp in
    let c = realigned-caller each all p.registers memory base cfa packed full is at.rbp read in
    let caller : Caller = record { cfa = value cfa; registers = c.list; return_address = answer p.registers memory base cfa packed 16 } in
    let returns : content_of caller.return_address ≡ Some ra = ra-is in
    let place = place_of_caller caller ra in (
      caller,
      c.is,
      ap value (sym after.pointer),
      place,
      ap (option_map (place_of_caller caller)) returns,
      record {
        address = sym after.address;
        looked_up = ap address_before (sym after.key);
        pointer = c.contents 7 ∙ ap (λ (n : ℕ). Some n) (same-number cfa (cfa-fits memory (address_by base packed.cfa_offset) cfa read))
            ∙ ap (λ (n : ℕ). Some n) (sym after.pointer);
        rbx = c.contents 3 ∙ saved-after memory p base cfa packed.rbx 3 here.rbx next.rbx at.rbx rbx after.rbx;
        rbp = c.contents 6 ∙ saved-after memory p base cfa packed.rbp 6 here.rbp next.rbp at.rbp rbp after.rbp;
        r12 = c.contents 12 ∙ saved-after memory p base cfa packed.r12 12 here.r12 next.r12 at.r12 r12 after.r12;
        r13 = c.contents 13 ∙ saved-after memory p base cfa packed.r13 13 here.r13 next.r13 at.r13 r13 after.r13;
        r14 = c.contents 14 ∙ saved-after memory p base cfa packed.r14 14 here.r14 next.r14 at.r14 r14 after.r14;
        r15 = c.contents 15 ∙ saved-after memory p base cfa packed.r15 15 here.r15 next.r15 at.r15 r15 after.r15;
      },
    )

pub unreadable-with : EachUnder → AllUnder → (memory : ℕ → Option ℕ) (packed : PackedRow) (full : Row) (here : RegisterPlace) (p : Place)
    (cfa : ℕ) → word_at memory (address_by here.rbp packed.cfa_offset) ≡ Some cfa
    → word_at memory (wrap 64 (pos cfa +ℤ negsuc 7)) ≡ None → IsWith here p → IsRealignedRowOf packed full
    → EndsWith memory full p cfa ReturnUnreadable
unreadable-with each all memory packed full here p cfa read none at is =
    let c = realigned-caller each all p.registers memory here.rbp cfa packed full is at.rbp read in (
      record { cfa = value cfa; registers = c.list; return_address = answer p.registers memory here.rbp cfa packed 16 },
      c.is,
      refl,
      ap stop_of_return (word-unreadable (world memory p) (wrap 64 (pos cfa +ℤ negsuc 7)) none),
    )
