-- The steps of a cursor.
use Rattle.std.proofs.Common.{◌≡◌, ℕ, ◌+◌, ◌≤◌, ◌∙◌, Bool, true, false, if◌then◌else◌, List, refl, sym, ap, subst, arith}
use Rattle.std.specs.Prelude.{IfSome, None, Option, Some, option_map}
use Rattle.std.specs.Option.{IsSomeAnd}
use Rattle.dw_unwind.specs.Caller.{Answer, Caller, value, undefined, unreadable, division_by_zero}
use Rattle.dw_unwind.specs.CallerViews.{answer_in}
use Rattle.dw_unwind.specs.Contents.{UnwindsTo}
use Rattle.dw_unwind.specs.UnwoundViews.{caller_with, stop_of_unwound}
use Rattle.dw_unwind.specs.Walks.{Place, UnwindsAt, content_of, contents_of, stop_of_caller, stop_of_return}
use Rattle.dw_unwind.specs.declared.frames.Stop.{Stop}
use Rattle.dw_unwind.specs.declared.frames.Stop.TheVariants.{NotCovered}
use Rattle.dw_unwind.specs.declared.unwinding.Unwound.{Unwound}
use Rattle.dw_c_types.specs.declared.answer.CFrame.{CFrame}
use Rattle.dw_c_types.specs.Frames.{cframe_of, stop_number}
use Rattle.dw_c_types.specs.ProcessWalks.{Unwinding, bits_at, looked_up_after, place_after, place_at, signal_at, without_bits}
use Rattle.dwcheck_c.specs.declared.cursor.CCursor.{CCursor}
use Rattle.dwcheck_c.specs.WalkCursors.{IsStepBy, looked_up_by, place_of, registers_in}

abbrev pub place-by : Option ℕ → ℕ → (ℕ → Option ℕ) → Place
place-by looked_up address registers = record { address = address; looked_up = looked_up; registers = registers }

-- the place of a caller that was interrupted or made a call
abbrev pub caller-place : Bool → ℕ → (ℕ → Option ℕ) → Place
caller-place is_signal address registers =
    record { address = address; looked_up = looked_up_after is_signal address; registers = registers }

by-stage : (is_signal : Bool) (address : ℕ) → looked_up_by (if is_signal then 0 else 1) address ≡ looked_up_after is_signal address
by-stage true address = refl
by-stage false address = refl

stage-fits : (is_signal : Bool) → (if is_signal then 0 else 1) ≤ 1
stage-fits true = omega arith
stage-fits false = omega arith

-- a cursor at a caller
at-caller : (is_signal : Bool) (c : CCursor) (next : ℕ) (contents : ℕ → Option ℕ) → c.stage ≡ (if is_signal then 0 else 1)
    → c.address ≡ next → registers_in c ≡ contents → place_of c ≡ caller-place is_signal next contents
at-caller is_signal c next contents stage address registers =
    ap (λ (s : ℕ). place-by (looked_up_by s c.address) c.address (registers_in c)) stage
    ∙ ap (λ (a : ℕ). place-by (looked_up_by (if is_signal then 0 else 1) a) a (registers_in c)) address
    ∙ ap (λ (o : Option ℕ). place-by o next (registers_in c)) (by-stage is_signal next)
    ∙ ap (λ (f : ℕ → Option ℕ). place-by (looked_up_after is_signal next) next f) registers

-- the place of a caller with this return address
abbrev pub next-place : Unwinding → Option ℕ → Caller → ℕ → Place
next-place u looked_up caller n = place_at (signal_at u.is_signal looked_up) caller (without_bits (bits_at u.is_signed u.signed_bits looked_up) n)

-- the place of the next frame, if unwinding gave a return address
pub next-is : (u : Unwinding) (looked_up : Option ℕ) (unwound : Option Unwound) (found : List (ℕ × Answer)) (contents : ℕ → Option ℕ) (next : ℕ)
    → IsSomeAnd unwound (λ w. answer_in w.return_address ≡ value next) → IfSome unwound (λ _. contents_of found ≡ contents)
    → place_after u looked_up (option_map (caller_with found) unwound)
    ≡ Some (caller-place (signal_at u.is_signal looked_up) (without_bits (bits_at u.is_signed u.signed_bits looked_up) next) contents)
next-is u looked_up None found contents next is are = absurd is
next-is u looked_up (Some w) found contents next is are =
    ap (λ (a : Answer). option_map (next-place u looked_up (caller_with found w)) (content_of a)) is
    ∙ ap (λ (f : ℕ → Option ℕ). Some (caller-place (signal_at u.is_signal looked_up)
    (without_bits (bits_at u.is_signed u.signed_bits looked_up) next) f)) are

pub same-contents : (unwound : Option Unwound) (found : List (ℕ × Answer)) → IfSome unwound (λ _. contents_of found ≡ contents_of found)
same-contents None found = tt
same-contents (Some w) found = refl

-- why the walk ends with that frame
pub ends-with : (unwound : Option Unwound) (found : List (ℕ × Answer)) (stop : Stop) → stop_of_unwound unwound ≡ Some stop
    → stop_of_caller (option_map (caller_with found) unwound) ≡ Some stop
ends-with None found stop is = is
ends-with (Some w) found stop is = is

no-stop : (unwound : Option Unwound) (found : List (ℕ × Answer)) (next : ℕ)
    → IsSomeAnd unwound (λ w. answer_in w.return_address ≡ value next)
    → stop_of_caller (option_map (caller_with found) unwound) ≡ None
no-stop None found next back = absurd back
no-stop (Some w) found next back = ap stop_of_return back

no-place : (a : Answer) (stop : Stop) (f : ℕ → Place) → stop_of_return a ≡ Some stop → option_map f (content_of a) ≡ None
no-place (value n) stop f is = absurd (none is)
  where
    none : ◌≡◌ {A = Option Stop} None (Some stop) → ⊥
    none h = cc
no-place undefined stop f is = refl
no-place unreadable stop f is = refl
no-place division_by_zero stop f is = refl

no-next : (u : Unwinding) (looked_up : Option ℕ) (unwound : Option Unwound) (found : List (ℕ × Answer)) (stop : Stop)
    → stop_of_unwound unwound ≡ Some stop → place_after u looked_up (option_map (caller_with found) unwound) ≡ None
no-next u looked_up None found stop is = refl
no-next u looked_up (Some w) found stop is =
    no-place (answer_in w.return_address) stop (next-place u looked_up (caller_with found w)) is

-- the frame's caller is at a known address
pub step-goes : (u : Unwinding) (old new : CCursor) (frame : CFrame) (unwound : Option Unwound) (contents : ℕ → Option ℕ) (a next : ℕ)
    (h : UnwindsTo u.callers (registers_in old) (looked_up_by old.stage old.address) unwound contents)
    → looked_up_by old.stage old.address ≡ Some a
    → frame ≡ cframe_of (record { address = old.address; caller = option_map (caller_with h.found) unwound })
    → IsSomeAnd unwound (λ w. answer_in w.return_address ≡ value next) → new.stage ≡ (if u.is_signal a then 0 else 1)
    → new.address ≡ without_bits (bits_at u.is_signed u.signed_bits (Some a)) next → registers_in new ≡ contents → IsStepBy u old new frame
step-goes u old new frame unwound contents a next h at shown back stage address registers =
    let looked_up : Option ℕ = looked_up_by old.stage old.address in
    let is_signal : Bool = signal_at u.is_signal looked_up in
    let bits : ℕ = bits_at u.is_signed u.signed_bits looked_up in
    let unsigned : new.address ≡ without_bits bits next =
    address ∙ ap (λ (o : Option ℕ). without_bits (bits_at u.is_signed u.signed_bits o) next) (sym at) in
    let here : new.stage ≡ (if is_signal then 0 else 1) =
    stage ∙ ap (λ (o : Option ℕ). if signal_at u.is_signal o then 0 else 1) (sym at) in
    record {
      walked = record { address = old.address; caller = option_map (caller_with h.found) unwound };
      is = (refl, h.unwinds);
      shown = shown;
      goes = subst (λ (o : Option Place). IfSome o (λ p. (new.stage ≤ 1) × (place_of new ≡ p)))
          (sym (next-is u looked_up unwound h.found contents next back h.contents_are))
          (subst (λ (n : ℕ). n ≤ 1) (sym here) (stage-fits is_signal), at-caller is_signal new (without_bits bits next) contents here unsigned registers);
      ends = subst (λ (o : Option Stop). IfSome o (λ why. (new.stage ≡ stop_number why + 1) × (new.address ≡ old.address)
          × (registers_in new ≡ registers_in old))) (sym (no-stop unwound h.found next back)) tt;
    }

-- the walk ends with the frame
pub step-ends : (u : Unwinding) (old new : CCursor) (frame : CFrame) (unwound : Option Unwound) (contents : ℕ → Option ℕ) (stop : Stop)
    (h : UnwindsTo u.callers (registers_in old) (looked_up_by old.stage old.address) unwound contents)
    → frame ≡ cframe_of (record { address = old.address; caller = option_map (caller_with h.found) unwound })
    → stop_of_unwound unwound ≡ Some stop → new.stage ≡ stop_number stop + 1 → new.address ≡ old.address
    → registers_in new ≡ registers_in old → IsStepBy u old new frame
step-ends u old new frame unwound contents stop h shown why stage address registers = record {
  walked = record { address = old.address; caller = option_map (caller_with h.found) unwound };
  is = (refl, h.unwinds);
  shown = shown;
  goes = subst (λ (o : Option Place). IfSome o (λ p. (new.stage ≤ 1) × (place_of new ≡ p)))
      (sym (no-next u (looked_up_by old.stage old.address) unwound h.found stop why)) tt;
  ends = subst (λ (o : Option Stop). IfSome o (λ why. (new.stage ≡ stop_number why + 1) × (new.address ≡ old.address)
      × (registers_in new ≡ registers_in old))) (sym (ends-with unwound h.found stop why)) (stage, address, registers);
}

-- a closed process has no modules, so no frame has a caller
pub none-held : (registers : ℕ → Option ℕ) (at : Option ℕ) → UnwindsAt (λ registers address caller. caller ≡ None) registers at None
none-held registers None = refl
none-held registers (Some a) = refl

-- the frame has no caller
pub step-uncovered : (u : Unwinding) (old new : CCursor) (frame : CFrame)
    → UnwindsAt u.callers (registers_in old) (looked_up_by old.stage old.address) None
    → new ≡ record { registers = old.registers; address = old.address; stage = stop_number NotCovered + 1; reserved = old.reserved }
    → frame ≡ cframe_of (record { address = old.address; caller = None }) → IsStepBy u old new frame
step-uncovered u old new frame none ended shown = record {
  walked = record { address = old.address; caller = None };
  is = (refl, none);
  shown = shown;
  goes = tt;
  ends = (ap (λ (c : CCursor). c.stage) ended, ap (λ (c : CCursor). c.address) ended, ap registers_in ended);
}
