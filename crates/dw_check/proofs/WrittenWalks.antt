-- A walk that is written frame by frame: what is written is a beginning of the whole walk's text.
use Rattle.std.proofs.Common.{◌≡◌, ℕ, ◌+◌, ◌<◌, ◌≤◌, List, [], ◌∷◌, ◌++◌, length, Option, Some}
use Rattle.std.proofs.Common.{refl, sym, ap, subst, ◌∙◌, arith, append-nil, append_assoc, length-append}
use Rattle.std.specs.Prelude.{Result}
use Rattle.std.specs.Result.{IsErr}
use Rattle.std.specs.Io.KnownBytes.{Appends}
use Rattle.dw_bytes.specs.declared.target.AddressSize.{AddressSize}
use Rattle.dw_unwind.specs.declared.frames.Stop.{Stop}
use Rattle.dw_unwind.specs.declared.frames.Stop.TheVariants.{Limit}
use Rattle.dw_check.specs.declared.stop.ReportFault.{ReportFault}
use Rattle.dw_check.specs.SinkBytes.{AppendsFront}
use Rattle.dw_unwind.specs.Walks.{CallerRelation, Place, WalkedFrame, Walks}
use Rattle.dw_unwind.specs.WalkSteps.{Progress, about_to_give, has_given, GivesFrame, GivesFrames, after, stop_of}
use Rattle.dw_check.specs.WalkText.{brief_line, frames_text, last_line, walk_text}
use Rattle.dw_unwind.specs.WalkViews.{brief_of}
use Rattle.dw_check.specs.WriteResults.{Writes}
use Rattle.dw_check.proofs.Growth.{appends_more, appends_nothing, front_more, front_wider}
use Rattle.dw_check.proofs.Writing.{writes_front, writes_then}

-- ---- the lines of frames

pub text_of_more : (size : AddressSize) (n : ℕ) (xs ys : List WalkedFrame)
    → frames_text size n (xs ++ ys) ≡ frames_text size n xs ++ frames_text size (n + length xs) ys
text_of_more size n [] ys = ap (λ m. frames_text size m ys) (omega arith)
text_of_more size n (x ∷ xs) ys =
    let same : n + 1 + length xs ≡ n + length (x ∷ xs) = omega arith in
    ap (λ l. brief_line size n (brief_of x) ++ l)
    (text_of_more size (n + 1) xs ys ∙ ap (λ m. frames_text size (n + 1) xs ++ frames_text size m ys) same)
    ∙ sym (append_assoc (brief_line size n (brief_of x)) (frames_text size (n + 1) xs) (frames_text size (n + length (x ∷ xs)) ys))

pub one_more_line : (size : AddressSize) (frames : List WalkedFrame) (n : ℕ) (f : WalkedFrame) → length frames ≡ n
    → frames_text size 0 (frames ++ f ∷ []) ≡ frames_text size 0 frames ++ brief_line size n (brief_of f)
one_more_line size frames n f count =
    let here : 0 + length frames ≡ n = omega (arith, count) in
    text_of_more size 0 frames (f ∷ [])
    ∙ ap (λ m. frames_text size 0 frames ++ frames_text size m (f ∷ [])) here
    ∙ ap (λ l. frames_text size 0 frames ++ l) (append-nil (brief_line size n (brief_of f)))

-- ---- what is written

-- A walk that starts with the frame `begin` has given n frames, and their lines are written. `now`
-- is how far the walk has come.
pub record Shown (u : CallerRelation) (size : AddressSize) (begin : WalkedFrame) (now : Progress) (n : ℕ) (old new : Option (List ℕ)) : Type 0 where
  pub frames : List WalkedFrame
  pub given : GivesFrames u (about_to_give begin) frames
  pub comes : after (about_to_give begin) frames ≡ now
  pub count : length frames ≡ n
  pub text : Appends old new (frames_text size 0 frames)

module _ (u : CallerRelation) (size : AddressSize) (begin : WalkedFrame) where
  pub shown_none : (p : Progress) (old : Option (List ℕ)) → p ≡ about_to_give begin → Shown u size begin p 0 old old
  shown_none p old is = record { frames = []; given = tt; comes = sym is; count = refl; text = appends_nothing old }

  -- there is a walk, and a call with result r wrote its text, or a beginning if the call failed
  abbrev pub WritesWalk : Place → ℕ → Option (List ℕ) → Option (List ℕ) → Result (Unit {0}) ReportFault → Type 0
  WritesWalk first limit old new r = (frames : List WalkedFrame) × (stop : Stop) × Walks u first limit frames stop
      × Writes old new r (walk_text size frames stop)

  -- Assumed: if a walk gives the frames xs and then the frame f, it gives xs followed by f. Some
  -- lemmas below also assume that the frames which a walk gives are a walk in the sense of `Walks`,
  -- or the beginning of such a walk.
  module _
      (more : (p : Progress) (xs : List WalkedFrame) (f : WalkedFrame) → GivesFrames u p xs → GivesFrame u (after p xs) f
      → GivesFrames u p (xs ++ f ∷ []) × (after p (xs ++ f ∷ []) ≡ has_given f)) where
    longer_given : (p : Progress) (n : ℕ) (f : WalkedFrame) (old mid : Option (List ℕ)) (s : Shown u size begin p n old mid) → GivesFrame u p f
        → GivesFrames u (about_to_give begin) (s.frames ++ f ∷ []) × (after (about_to_give begin) (s.frames ++ f ∷ []) ≡ has_given f)
    longer_given p n f old mid s gives =
        more (about_to_give begin) s.frames f s.given (subst (λ (q : Progress). GivesFrame u q f) (sym s.comes) gives)

    pub shown_next : (p : Progress) (n : ℕ) (f : WalkedFrame) (old mid new : Option (List ℕ)) → Shown u size begin p n old mid
        → GivesFrame u p f → Appends mid new (brief_line size n (brief_of f)) → Shown u size begin (has_given f) (n + 1) old new
    shown_next p n f old mid new s gives line =
        let longer = longer_given p n f old mid s gives in
        record {
          frames = s.frames ++ f ∷ [];
          given = longer.0;
          comes = longer.1;
          count = length-append s.frames (f ∷ []) ∙ ap (λ m. m + 1) s.count;
          text = subst (Appends old new) (sym (one_more_line size s.frames n f s.count))
              (appends_more old mid new (frames_text size 0 s.frames) (brief_line size n (brief_of f)) s.text line);
        }

    module _ (first : Place) (limit : ℕ) where
      -- a call that failed after a beginning of a frame's line has written a beginning of the text
      -- of a walk
      pub front_written : ((xs : List WalkedFrame) → GivesFrames u (about_to_give begin) xs → length xs ≤ limit
          → (others : List WalkedFrame) × (stop : Stop) × Walks u first limit (xs ++ others) stop)
          → (p : Progress) (n : ℕ) (f : WalkedFrame) (old mid new : Option (List ℕ))
          (r : Result (Unit {0}) ReportFault) → IsErr r → Shown u size begin p n old mid → n < limit → GivesFrame u p f
          → AppendsFront mid new (brief_line size n (brief_of f)) → WritesWalk first limit old new r
      unfolding walk_text
      front_written whole_of p n f old mid new r failed s few gives line =
          let longer = s.frames ++ f ∷ [] in
          let count : length longer ≡ n + 1 = length-append s.frames (f ∷ []) ∙ ap (λ m. m + 1) s.count in
          let whole = whole_of longer (longer_given p n f old mid s gives).0 (omega (arith, few, count)) in
          let begun : AppendsFront old new (frames_text size 0 longer) =
          subst (AppendsFront old new) (sym (one_more_line size s.frames n f s.count))
          (front_more old mid new (frames_text size 0 s.frames) (brief_line size n (brief_of f)) s.text line) in
          let all : AppendsFront old new (frames_text size 0 (longer ++ whole.0)) =
          subst (AppendsFront old new) (sym (text_of_more size 0 longer whole.0))
          (front_wider old new (frames_text size 0 longer) (frames_text size (0 + length longer) whole.0) begun) in
          let front = front_wider old new (frames_text size 0 (longer ++ whole.0)) (last_line whole.1) all in (
            longer ++ whole.0,
            whole.1,
            whole.2,
            writes_front old new r (frames_text size 0 (longer ++ whole.0) ++ last_line whole.1) failed front,
          )

  module _ (first : Place) (limit : ℕ) where
    last_written : (p : Progress) (n : ℕ) (stop : Stop) (old mid new : Option (List ℕ)) (r : Result (Unit {0}) ReportFault)
        (s : Shown u size begin p n old mid) → Walks u first limit s.frames stop → Writes mid new r (last_line stop)
        → WritesWalk first limit old new r
    unfolding walk_text
    last_written p n stop old mid new r s walks line =
        (s.frames, stop, walks, writes_then old mid new r (frames_text size 0 s.frames) (last_line stop) s.text line)

    -- If the walk gives no more frames, and a call then writes the line with the reason
    -- (`last_line`), a walk's whole text is written, or a beginning of it if the call failed.
    pub ended_written : ((xs : List WalkedFrame) (stop : Stop) → GivesFrames u (about_to_give begin) xs
        → stop_of (after (about_to_give begin) xs) ≡ Some stop → length xs < limit → Walks u first limit xs stop)
        → (p : Progress) (n : ℕ) (stop : Stop) (old mid new : Option (List ℕ)) (r : Result (Unit {0}) ReportFault)
        → Shown u size begin p n old mid → n < limit → stop_of p ≡ Some stop → Writes mid new r (last_line stop)
        → WritesWalk first limit old new r
    ended_written ends p n stop old mid new r s few ended line =
        last_written p n stop old mid new r s
        (ends s.frames stop s.given (ap stop_of s.comes ∙ ended) (omega (arith, few, s.count))) line

    -- If the limit is reached, and a call then writes the line with that reason
    -- (`last_line Limit`), a walk's whole text is written, or a beginning of it if the call failed.
    pub filled_written : ((xs : List WalkedFrame) → GivesFrames u (about_to_give begin) xs → length xs ≡ limit → Walks u first limit xs Limit)
        → (p : Progress) (n : ℕ) (old mid new : Option (List ℕ)) (r : Result (Unit {0}) ReportFault)
        → Shown u size begin p n old mid → n ≡ limit → Writes mid new r (last_line Limit) → WritesWalk first limit old new r
    filled_written fills p n old mid new r s many line =
        last_written p n Limit old mid new r s (fills s.frames s.given (s.count ∙ many)) line
