-- From each place there is exactly one walk with each limit, if each frame has exactly one answer:
-- a caller, or none. The walk with a smaller limit is a prefix of the walk with a greater one.
use Rattle.std.proofs.Common.{◌≡◌, ℕ, zero, suc, ◌≤◌, ◌==◌, List, [], ◌∷◌, length, Option, None, Some, true, false, inl, inr}
use Rattle.std.proofs.Common.{refl, sym, ap, subst, ◌∙◌, arith, take}
use Rattle.std.proofs.lemmas.Bool.{cases_lt}
use Rattle.std.proofs.lemmas.Bool.Decides.{nat_tests}
use Rattle.std.proofs.lemmas.List.{take_all, length-take-le}
use Rattle.std.specs.Prelude.{◌⊎◌, if◌then◌else◌, option_map}
use Rattle.dw_unwind.specs.Caller.{Answer, value, undefined, unreadable, division_by_zero, Caller}
use Rattle.dw_unwind.specs.declared.frames.Stop.{Stop}
use Rattle.dw_unwind.specs.declared.frames.Stop.TheVariants.{Limit, NotCovered, ReturnUndefined, ReturnUnreadable, ReturnDivisionByZero}
use Rattle.dw_unwind.specs.Walks.{CallerRelation, Place, WalkedFrame, AreFrames, IsFrameAt, UnwindsAt, Walks, next_place, place_of_caller}
use Rattle.dw_unwind.specs.Walks.{content_of, stop_of_return, stop_of_caller, stop_after}

-- ---- when frames end a walk

-- why a walk with this limit ends with these frames; none if it goes further
ends : ℕ → List WalkedFrame → Option Stop
ends limit frames = if length frames == limit then Some Limit else stop_after frames

-- `frames` come after a frame with this caller. Either no frame follows them, or their number is
-- `n`.
Ended : ℕ → Option Caller → List WalkedFrame → Type 0
Ended n caller [] = (n ≡ 0) ⊎ ((stop : Stop) × (stop_of_caller caller ≡ Some stop))
Ended zero caller (f ∷ frames) = ⊥
Ended (suc n) caller (f ∷ frames) = Ended n f.caller frames

ended_after : (n : ℕ) (f : WalkedFrame) (frames : List WalkedFrame) (stop : Stop) → length frames ≤ n
    → (if length (f ∷ frames) == suc n then Some Limit else stop_after (f ∷ frames)) ≡ Some stop → Ended n f.caller frames
unfolding Ended
ended_after zero f [] stop few is = inl refl
ended_after (suc n) f [] stop few is =
    let other : (length (f ∷ []) == suc (suc n)) ≡ false = grind (arith, nat_tests) in inr (stop, rw other at is)
ended_after zero f (g ∷ frames) stop few is = absurd (omega (arith, few))
ended_after (suc n) f (g ∷ frames) stop few is = ended_after n g frames stop (omega (arith, few)) (same (length (g ∷ frames)) (suc n) is)
  where
    same : (k m : ℕ) → (if suc k == suc m then Some Limit else stop_after (g ∷ frames)) ≡ Some stop
        → (if k == m then Some Limit else stop_after (g ∷ frames)) ≡ Some stop
    same k m h = let one : (suc k == suc m) ≡ (k == m) = grind (arith, nat_tests) in rw one at h

-- an empty list of frames doesn't end a walk, unless the limit is 0
none_ends : (n : ℕ) (stop : Stop) → (if 0 == suc n then Some Limit else None) ≡ Some stop → ⊥
none_ends n stop is =
    let other : (0 == suc n) ≡ false = grind (arith, nat_tests) in
    let no : ◌≡◌ {A = Option Stop} None (Some stop) = rw other at is in cc

-- if a walk ends with a frame that has this caller, there is no place after the frame
no_place : (c : Option Caller) (stop : Stop) → stop_of_caller c ≡ Some stop → next_place c ≡ None
no_place None stop is = refl
no_place (Some caller) stop is = go caller.return_address is
  where
    go : (a : Answer) → stop_of_return a ≡ Some stop → option_map (place_of_caller caller) (content_of a) ≡ None
    go (value n) h = absurd (cc)
    go undefined h = refl
    go unreadable h = refl
    go division_by_zero h = refl

-- if there is no place after a frame, a walk ends with that frame
some_end : (c : Option Caller) → next_place c ≡ None → (stop : Stop) × (stop_of_caller c ≡ Some stop)
some_end None is = (NotCovered, refl)
some_end (Some caller) is = go caller.return_address is
  where
    go : (a : Answer) → option_map (place_of_caller caller) (content_of a) ≡ None → (stop : Stop) × (stop_of_return a ≡ Some stop)
    go (value n) h = absurd (cc)
    go undefined h = (ReturnUndefined, refl)
    go unreadable h = (ReturnUnreadable, refl)
    go division_by_zero h = (ReturnDivisionByZero, refl)

-- ---- there is at most one walk

module _ (u : CallerRelation)
    (one : (registers : ℕ → Option ℕ) (a : ℕ) (c d : Option Caller) → u registers a c
    → u registers a d → c ≡ d) where
  one_caller_at : (registers : ℕ → Option ℕ) (o : Option ℕ) (c d : Option Caller) → UnwindsAt u registers o c → UnwindsAt u registers o d
      → c ≡ d
  one_caller_at registers None c d g h = g ∙ sym h
  one_caller_at registers (Some a) c d g h = one registers a c d g h

  made : (a b : ℕ) (c d : Option Caller) → a ≡ b → c ≡ d
      → ◌≡◌ {A = WalkedFrame} (record { address = a; caller = c }) (record { address = b; caller = d })
  made a b c d x y = rw (x, y) refl

  one_frame_at : (p : Place) (f g : WalkedFrame) → IsFrameAt u p f → IsFrameAt u p g → f ≡ g
  one_frame_at p f g h k =
      made f.address g.address f.caller g.caller (h.0 ∙ sym k.0) (one_caller_at p.registers p.looked_up f.caller g.caller h.1 k.1)

  one_after : (n : ℕ) (c : Option Caller) (xs ys : List WalkedFrame) → AreFrames u (next_place c) xs → AreFrames u (next_place c) ys
      → Ended n c xs → Ended n c ys → xs ≡ ys
  unfolding Ended
  one_after n c [] [] g h e k = refl
  one_after zero c [] (y ∷ ys) g h e k = absurd k
  one_after (suc n) c [] (y ∷ ys) g h (inl none) k = absurd (omega (arith, none))
  one_after (suc n) c [] (y ∷ ys) g h (inr (stop, is)) k = absurd (subst (λ p. AreFrames u p (y ∷ ys)) (no_place c stop is) h)
  one_after zero c (x ∷ xs) ys g h e k = absurd e
  one_after (suc n) c (x ∷ xs) [] g h e (inl none) = absurd (omega (arith, none))
  one_after (suc n) c (x ∷ xs) [] g h e (inr (stop, is)) = absurd (subst (λ p. AreFrames u p (x ∷ xs)) (no_place c stop is) g)
  one_after (suc n) c (x ∷ xs) (y ∷ ys) g h e k = go (one_after n y.caller xs ys) (next_place c) g h
    where
      go : (AreFrames u (next_place y.caller) xs → AreFrames u (next_place y.caller) ys
          → Ended n y.caller xs → Ended n y.caller ys → xs ≡ ys)
          → (p : Option Place) → AreFrames u p (x ∷ xs) → AreFrames u p (y ∷ ys) → ◌≡◌ {A = List WalkedFrame} (x ∷ xs) (y ∷ ys)
      go later None g h = absurd g
      go later (Some p) g h =
          let same : x ≡ y = one_frame_at p x y g.0 h.0 in
          let past = subst (λ (f : WalkedFrame). AreFrames u (next_place f.caller) xs) same g.1 in
          let ended = subst (λ (f : WalkedFrame). Ended n f.caller xs) same e in
          let rest : xs ≡ ys = later past h.1 ended k in
          rw (same, rest) refl

  one_list : (first : Place) (limit : ℕ) (xs ys : List WalkedFrame) (a b : Stop) → Walks u first limit xs a → Walks u first limit ys b
      → xs ≡ ys
  one_list first limit [] [] a b g h = refl
  one_list first zero [] (y ∷ ys) a b g h = absurd (omega (arith, h.few))
  one_list first (suc n) [] (y ∷ ys) a b g h = absurd (none_ends n a g.ends)
  one_list first zero (x ∷ xs) ys a b g h = absurd (omega (arith, g.few))
  one_list first (suc n) (x ∷ xs) [] a b g h = absurd (none_ends n b h.ends)
  one_list first (suc n) (x ∷ xs) (y ∷ ys) a b g h =
      let same : x ≡ y = one_frame_at first x y g.are.0 h.are.0 in
      let past = subst (λ (f : WalkedFrame). AreFrames u (next_place f.caller) xs) same g.are.1 in
      let mine = ended_after n x xs a (omega (arith, g.few)) g.ends in
      let ended = subst (λ (f : WalkedFrame). Ended n f.caller xs) same mine in
      let rest : xs ≡ ys = one_after n y.caller xs ys past h.are.1 ended (ended_after n y ys b (omega (arith, h.few)) h.ends) in
      rw (same, rest) refl

  pub one_walk : (first : Place) (limit : ℕ) (xs ys : List WalkedFrame) (a b : Stop) → Walks u first limit xs a → Walks u first limit ys b
      → (xs ≡ ys) × (a ≡ b)
  one_walk first limit xs ys a b g h =
      let same : xs ≡ ys = one_list first limit xs ys a b g h in
      let both : Some a ≡ Some b = sym g.ends ∙ ap (λ l. if length l == limit then Some Limit else stop_after l) same ∙ h.ends in
      let stop : a ≡ b = cc in
      (same, stop)

-- ---- there is a walk

module _ (u : CallerRelation)
    (some : (registers : ℕ → Option ℕ) (a : ℕ)
    → (c : Option Caller) × u registers a c) where
  some_caller_at : (registers : ℕ → Option ℕ) (o : Option ℕ) → (c : Option Caller) × UnwindsAt u registers o c
  some_caller_at registers None = (None, refl)
  some_caller_at registers (Some a) = some registers a

  pub some_frame_at : (p : Place) → (f : WalkedFrame) × IsFrameAt u p f
  some_frame_at p =
      let caller = some_caller_at p.registers p.looked_up in (record { address = p.address; caller = caller.0 }, (refl, caller.1))

  some_after : (n : ℕ) (c : Option Caller) → (xs : List WalkedFrame) × AreFrames u (next_place c) xs × (length xs ≤ n) × Ended n c xs
  unfolding Ended
  some_after zero c = ([], tt, omega arith, inl refl)
  some_after (suc n) c = go (some_after n) (next_place c) refl
    where
      go : ((d : Option Caller) → (xs : List WalkedFrame) × AreFrames u (next_place d) xs × (length xs ≤ n) × Ended n d xs)
          → (p : Option Place) → next_place c ≡ p
          → (xs : List WalkedFrame) × AreFrames u (next_place c) xs × (length xs ≤ suc n) × Ended (suc n) c xs
      go later None is = ([], tt, omega arith, inr (some_end c is))
      go later (Some p) is =
          let f = some_frame_at p in
          let rest = later f.0.caller in
          (f.0 ∷ rest.0, subst (λ (q : Option Place). AreFrames u q (f.0 ∷ rest.0)) (sym is) (f.1, rest.1), omega (arith, rest.2), rest.3)

  ends_after : (n : ℕ) (f : WalkedFrame) (frames : List WalkedFrame) → length frames ≤ n → Ended n f.caller frames
      → (stop : Stop) × ((if length (f ∷ frames) == suc n then Some Limit else stop_after (f ∷ frames)) ≡ Some stop)
  unfolding Ended
  ends_after zero f [] few e = (Limit, refl)
  ends_after (suc n) f [] few (inl none) = absurd (omega (arith, none))
  ends_after (suc n) f [] few (inr (stop, is)) =
      let other : (1 == suc (suc n)) ≡ false = grind (arith, nat_tests) in (stop, rw other is)
  ends_after zero f (g ∷ frames) few e = absurd e
  ends_after (suc n) f (g ∷ frames) few e =
      let later = ends_after n g frames (omega (arith, few)) e in (later.0, same (length (g ∷ frames)) (suc n) later.0 later.1)
    where
      same : (k m : ℕ) (stop : Stop) → (if k == m then Some Limit else stop_after (g ∷ frames)) ≡ Some stop
          → (if suc k == suc m then Some Limit else stop_after (g ∷ frames)) ≡ Some stop
      same k m stop h = let one : (suc k == suc m) ≡ (k == m) = grind (arith, nat_tests) in rw one h

  pub some_walk : (first : Place) (limit : ℕ) → (xs : List WalkedFrame) × (stop : Stop) × Walks u first limit xs stop
  some_walk first zero = ([], Limit, record { are = tt; few = omega arith; ends = refl })
  some_walk first (suc n) =
      let f = some_frame_at first in
      let rest = some_after n f.0.caller in
      let stop = ends_after n f.0 rest.0 rest.2 rest.3 in
      (f.0 ∷ rest.0, stop.0, record { are = (f.1, rest.1); few = omega (arith, rest.2); ends = stop.1 })

-- ---- the first `n` frames of a walk

cut_frames : (u : CallerRelation) (p : Option Place) (n : ℕ) (frames : List WalkedFrame) → AreFrames u p frames
    → AreFrames u p (take n frames)
cut_frames u p zero frames h = tt
cut_frames u p (suc n) [] h = tt
cut_frames u None (suc n) (f ∷ frames) h = absurd h
cut_frames u (Some p) (suc n) (f ∷ frames) h = (h.0, cut_frames u (next_place f.caller) n frames h.1)

pub cut_walk : (u : CallerRelation) (first : Place) (m n : ℕ) (frames : List WalkedFrame) (stop : Stop) → Walks u first n frames stop → m ≤ n
    → (cut : Stop) × Walks u first m (take m frames) cut
cut_walk u first m n frames stop walks le = elim (cases_lt (length frames) m) [
  | inl short ↦
      let all : take m frames ≡ frames = take_all m frames (omega (arith, short)) in
      let other : (length frames == n) ≡ false = grind (arith, nat_tests, short, le) in
      let ends : stop_after frames ≡ Some stop = rw other at walks.ends in
      let below : (length frames == m) ≡ false = grind (arith, nat_tests, short) in (
        stop,
        record {
          are = cut_frames u (Some first) m frames walks.are;
          few = omega (arith, ap length all, short);
          ends = ap (λ l. if length l == m then Some Limit else stop_after l) all ∙ rw below ends;
        },
      )
  | inr long ↦
      let count : length (take m frames) ≡ m = length-take-le m frames long in
      let same : (length (take m frames) == m) ≡ true = grind (arith, nat_tests, count) in (
        Limit,
        record {
          are = cut_frames u (Some first) m frames walks.are;
          few = omega (arith, count);
          ends = rw same refl;
        },
      )
]
