-- Walks without signal frames and signed bits are the walks of dw_unwind.
use Rattle.std.proofs.Common.{◌≡◌, ◌↔◌, ℕ, ◌-◌, ◌∙◌, Bool, true, false, cond, List, [], ◌∷◌, refl, sym, ap, subst}
use Rattle.std.specs.Prelude.{None, Option, Some, option_map}
use Rattle.std.specs.Int.Bits.{and_zero_r}
use Rattle.std.proofs.Math.Nat.{sub-zero}
use Rattle.dw_rules.specs.Abi.{Abi}
use Rattle.dw_unwind.specs.Caller.{Caller}
use Rattle.dw_unwind.specs.Walks.{AreFrames, Place, WalkedFrame, Walks, content_of, next_place, place_of_caller}
use Rattle.dw_unwind.specs.declared.frames.Stop.{Stop}
use Rattle.dw_process.specs.Processes.{ProcessState, is_signal_in}
use Rattle.dw_c_types.specs.ProcessWalks.{AreFramesBy, Unwinding, bits_at, WalksBy, over_process, place_after, place_at, signal_at, through_process, without_bits}

no-bits : (n : ℕ) → without_bits 0 n ≡ n
no-bits n = ap (λ (m : ℕ). n - m) (and_zero_r n) ∙ sub-zero n

module _ (u : Unwinding) (no_signals : (a : ℕ) → u.is_signal a ≡ false) (unsigned : u.signed_bits ≡ 0) where
  no-signal : (o : Option ℕ) → signal_at u.is_signal o ≡ false
  no-signal None = refl
  no-signal (Some a) = no_signals a

  none-set : (o : Option ℕ) → bits_at u.is_signed u.signed_bits o ≡ 0
  none-set None = refl
  none-set (Some a) = go (u.is_signed a)
    where
      go : (b : Bool) → cond b u.signed_bits 0 ≡ 0
      go true = unsigned
      go false = refl

  same-address : (o : Option ℕ) (n : ℕ) → without_bits (bits_at u.is_signed u.signed_bits o) n ≡ n
  same-address o n = ap (λ (bits : ℕ). without_bits bits n) (none-set o) ∙ no-bits n

  same-place : (looked_up : Option ℕ) (caller : Option Caller) → place_after u looked_up caller ≡ next_place caller
  same-place looked_up None = refl
  same-place looked_up (Some c) = go (content_of c.return_address)
    where
      go : (o : Option ℕ)
          → option_map (λ n. place_at (signal_at u.is_signal looked_up) c (without_bits (bits_at u.is_signed u.signed_bits looked_up) n)) o
          ≡ option_map (place_of_caller c) o
      go None = refl
      go (Some n) =
          ap (λ (b : Bool). Some (place_at b c (without_bits (bits_at u.is_signed u.signed_bits looked_up) n))) (no-signal looked_up)
          ∙ ap (λ (a : ℕ). Some (place_at false c a)) (same-address looked_up n)

  to-frames : (o : Option Place) (frames : List WalkedFrame) → AreFramesBy u o frames → AreFrames u.callers o frames
  to-frames None [] h = tt
  to-frames (Some p) [] h = tt
  to-frames None (f ∷ frames) h = absurd h
  to-frames (Some p) (f ∷ frames) h = (
    h.0,
    subst (λ (o : Option Place). AreFrames u.callers o frames) (same-place p.looked_up f.caller)
        (to-frames (place_after u p.looked_up f.caller) frames h.1),
  )

  from-frames : (o : Option Place) (frames : List WalkedFrame) → AreFrames u.callers o frames → AreFramesBy u o frames
  from-frames None [] h = tt
  from-frames (Some p) [] h = tt
  from-frames None (f ∷ frames) h = absurd h
  from-frames (Some p) (f ∷ frames) h = (
    h.0,
    from-frames (place_after u p.looked_up f.caller) frames
        (subst (λ (o : Option Place). AreFrames u.callers o frames) (sym (same-place p.looked_up f.caller)) h.1),
  )

pub usual-walks : (abi : Abi) (memory : ℕ → Option ℕ) (p : ProcessState) → ((a : ℕ) → is_signal_in p a ≡ false) → (first : Place) (limit : ℕ)
    (frames : List WalkedFrame) (stop : Stop) → WalksBy (through_process abi memory 0 p) first limit frames stop
    ↔ Walks (over_process abi memory p) first limit frames stop
usual-walks abi memory p none first limit frames stop =
    let u : Unwinding = through_process abi memory 0 p in (
      λ h. record { are = to-frames u none refl (Some first) frames h.are; few = h.few; ends = h.ends },
      λ h. record { are = from-frames u none refl (Some first) frames h.are; few = h.few; ends = h.ends },
    )
