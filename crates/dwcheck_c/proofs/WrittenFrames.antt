-- The frames of a walk, each written to a slot as soon as the walk gives it.
use Rattle.std.proofs.Common.{◌≡◌, ℕ, ◌+◌, ◌<◌, ◌==◌, ◌∙◌, Bool, true, false, if◌then◌else◌, List, [], ◌∷◌, ◌++◌, length, map, refl, sym, ap, subst, length-append, arith}
use Rattle.std.specs.Prelude.{None, Option, Some, slice_set}
use Rattle.std.proofs.lemmas.Bool.Decides.{nat_tests}
use Rattle.std.proofs.lemmas.List.{length-map, length-set}
use Rattle.dw_unwind.specs.Walks.{IsFrameAt, Place, WalkedFrame, stop_after, stop_of_caller}
use Rattle.dw_unwind.specs.declared.frames.Stop.{Stop}
use Rattle.dw_unwind.specs.declared.frames.Stop.TheVariants.{Limit}
use Rattle.dw_c_types.specs.declared.answer.CFrame.{CFrame}
use Rattle.dw_c_types.proofs.Putting.{puts_shown}
use Rattle.dw_c_types.specs.Frames.{AreWritten, IsLeftAt, cframe_of, stop_number}
use Rattle.dw_c_types.specs.ProcessWalks.{AreFramesBy, Unwinding, WalksBy, place_after, place_after_frames}
use Rattle.dw_c_types.specs.Slots.{put_into}

-- ---- walks that go on

pub no-frames : (u : Unwinding) (o : Option Place) → AreFramesBy u o []
no-frames u None = tt
no-frames u (Some p) = tt

after-none : (u : Unwinding) (o : Option Place) → place_after_frames u o [] ≡ o
after-none u None = refl
after-none u (Some p) = refl

-- a walk goes on with the frame at its place
goes-on : (u : Unwinding) (o : Option Place) (frames : List WalkedFrame) (p : Place) (f : WalkedFrame) → AreFramesBy u o frames
    → place_after_frames u o frames ≡ Some p → IsFrameAt u.callers p f
    → AreFramesBy u o (frames ++ f ∷ []) × (place_after_frames u o (frames ++ f ∷ []) ≡ place_after u p.looked_up f.caller)
goes-on u None [] p f are at is = absurd (none at)
  where
    none : ◌≡◌ {A = Option Place} None (Some p) → ⊥
    none h = cc
goes-on u (Some q) [] p f are at is =
    let same : q ≡ p = cc in (
      (subst (λ (x : Place). IsFrameAt u.callers x f) (sym same) is, no-frames u (place_after u q.looked_up f.caller)),
      after-none u (place_after u q.looked_up f.caller) ∙ ap (λ (x : Place). place_after u x.looked_up f.caller) same,
    )
goes-on u None (g ∷ frames) p f are at is = absurd are
goes-on u (Some q) (g ∷ frames) p f are at is =
    let rest = goes-on u (place_after u q.looked_up g.caller) frames p f are.1 at is in
    ((are.0, rest.0), rest.1)

stop-last : (frames : List WalkedFrame) (f : WalkedFrame) → stop_after (frames ++ f ∷ []) ≡ stop_of_caller f.caller
stop-last [] f = refl
stop-last (g ∷ []) f = refl
stop-last (g ∷ h ∷ frames) f = stop-last (h ∷ frames) f

-- ---- why a walk ends

chosen : (b : Bool) (x y : Option Stop) → b ≡ true → (if b then x else y) ≡ x
chosen true x y is = refl
chosen false x y is = absurd (cc)

other : (b : Bool) (x y : Option Stop) → b ≡ false → (if b then x else y) ≡ y
other true x y is = absurd (cc)
other false x y is = refl

is-limit : (m n : ℕ) → m ≡ n → (m == n) ≡ true
is-limit m n is = grind (arith, nat_tests)

is-below : (m n : ℕ) → m < n → (m == n) ≡ false
is-below m n is = grind (arith, nat_tests)

pub walks-to-limit : (u : Unwinding) (first : Place) (limit : ℕ) (frames : List WalkedFrame) → AreFramesBy u (Some first) frames
    → length frames ≡ limit → WalksBy u first limit frames Limit
walks-to-limit u first limit frames are many = record {
  are = are;
  few = omega (arith, many);
  ends = chosen (length frames == limit) (Some Limit) (stop_after frames) (is-limit (length frames) limit many);
}

pub walks-to-end : (u : Unwinding) (first : Place) (limit : ℕ) (frames : List WalkedFrame) (stop : Stop) → AreFramesBy u (Some first) frames
    → length frames < limit → stop_after frames ≡ Some stop → WalksBy u first limit frames stop
walks-to-end u first limit frames stop are few why = record {
  are = are;
  few = omega (arith, few);
  ends = other (length frames == limit) (Some Limit) (stop_after frames) (is-below (length frames) limit few) ∙ why;
}

-- ---- frames that are written

pub begins : (u : Unwinding) (first : Place) (old : List CFrame) → IsLeftAt u first first old old 0
begins u first old = record { frames = []; are = tt; next = refl; written = refl; counted = refl; long = refl }

-- A walk has given `count` frames, which are written, and `last` is the last of them. It was at the
-- place `p`.
pub record HasGiven (u : Unwinding) (first p : Place) (last : WalkedFrame) (old new : List CFrame) (count : ℕ) : Type 0 where
  pub frames : List WalkedFrame
  pub are : AreFramesBy u (Some first) frames
  pub next : place_after_frames u (Some first) frames ≡ place_after u p.looked_up last.caller
  pub ends : stop_after frames ≡ stop_of_caller last.caller
  pub written : new ≡ put_into (map cframe_of frames) old
  pub counted : length frames ≡ count
  pub long : length new ≡ length old

pub gives : (u : Unwinding) (first p : Place) (f : WalkedFrame) (old new : List CFrame) (count : ℕ) (slot : CFrame)
    → IsLeftAt u first p old new count → IsFrameAt u.callers p f → slot ≡ cframe_of f
    → HasGiven u first p f old (slice_set new count slot) (count + 1)
gives u first p f old new count slot h is shown =
    let more = goes-on u (Some first) h.frames p f h.are h.next is in
    record {
      frames = h.frames ++ f ∷ [];
      are = more.0;
      next = more.1;
      ends = stop-last h.frames f;
      written = ap (λ (x : CFrame). slice_set new count x) shown ∙ ap (λ (l : List CFrame). slice_set l count (cframe_of f)) h.written
          ∙ puts_shown cframe_of h.frames old count f (sym h.counted ∙ sym (length-map h.frames cframe_of));
      counted = length-append h.frames (f ∷ []) ∙ ap (λ (n : ℕ). n + 1) h.counted;
      long = length-set new count slot ∙ h.long;
    }

-- the walk goes on
pub left-at : (u : Unwinding) (first p q : Place) (last : WalkedFrame) (old new : List CFrame) (count : ℕ)
    → HasGiven u first p last old new count → place_after u p.looked_up last.caller ≡ Some q → IsLeftAt u first q old new count
left-at u first p q last old new count h at = record {
  frames = h.frames;
  are = h.are;
  next = h.next ∙ at;
  written = h.written;
  counted = h.counted;
  long = h.long;
}

-- the slots are full
pub fills : (u : Unwinding) (first p : Place) (last : WalkedFrame) (old new : List CFrame) (count : ℕ)
    → HasGiven u first p last old new count → count ≡ length new → AreWritten u first old new count (stop_number Limit)
fills u first p last old new count h many = record {
  frames = h.frames;
  why = Limit;
  walks = walks-to-limit u first (length old) h.frames h.are (h.counted ∙ many ∙ h.long);
  written = h.written;
  count_is = sym h.counted;
  stop_is = refl;
}

pub full : (u : Unwinding) (first p : Place) (old new : List CFrame) (count : ℕ) → IsLeftAt u first p old new count → count ≡ length new
    → AreWritten u first old new count (stop_number Limit)
full u first p old new count h many = record {
  frames = h.frames;
  why = Limit;
  walks = walks-to-limit u first (length old) h.frames h.are (h.counted ∙ many ∙ h.long);
  written = h.written;
  count_is = sym h.counted;
  stop_is = refl;
}

-- the walk ends with the last frame
pub ends : (u : Unwinding) (first p : Place) (last : WalkedFrame) (old new : List CFrame) (count : ℕ) (stop : Stop)
    → HasGiven u first p last old new count → count < length new → stop_of_caller last.caller ≡ Some stop
    → AreWritten u first old new count (stop_number stop)
ends u first p last old new count stop h few why = record {
  frames = h.frames;
  why = stop;
  walks = walks-to-end u first (length old) h.frames stop h.are (omega (arith, h.counted, h.long, few)) (h.ends ∙ why);
  written = h.written;
  count_is = sym h.counted;
  stop_is = refl;
}
