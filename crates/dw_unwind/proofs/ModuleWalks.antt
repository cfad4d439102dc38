-- Unwinding through modules: lemmas that take what holds for each module to all modules together.
use Rattle.std.proofs.Common.{◌≡◌, ℕ, zero, suc, ◌<◌, ◌^◌, ◌+◌, ◌*◌, List, [], ◌∷◌, Option, None, Some, pos, refl, sym, subst, ap, ◌∙◌, arith}
use Rattle.std.specs.Prelude.{◌↔◌, unsigned_abs, ◌-ℤ◌, IfSome}
use Rattle.std.specs.Borrow.{Bor}
use Rattle.std.specs.List.{AllByRecursion}
use Rattle.std.proofs.Math.Nat.{mod-eq_of_lt}
use Rattle.std.proofs.lemmas.Nat.{pow_pos}
use Rattle.std.proofs.lemmas.Int.{int_rem_euclid_is}
use Rattle.dw_bytes.specs.declared.target.Target.{Target}
use Rattle.dw_eval.specs.Numbers.{width_of}
use Rattle.dw_rules.specs.Abi.{Abi}
use Rattle.dw_rows.specs.Section.{FrameSection}
use Rattle.dw_unwind.specs.Caller.{Answer, value, undefined, unreadable, division_by_zero, Caller}
use Rattle.dw_unwind.specs.CallerFits.{AnswerFits, CallerFits}
use Rattle.dw_unwind.specs.declared.modules.Module.{Module}
use Rattle.dw_unwind.specs.Modules.{AreLike, OrElse, as_linked, over_modules, over_sections, unborrowed, where_linked}
use Rattle.dw_unwind.specs.Walks.{CallerRelation, Place, WalkedFrame, Walks, address_before, content_of, over_section}
use Rattle.dw_unwind.specs.declared.frames.Stop.{Stop}
use Rattle.dw_unwind.proofs.WalksOver.{walk_where}

-- ---- if each module has at most one answer, or some answer, so have all modules together

-- there is at most one answer: a caller, or none
abbrev pub HasOne : CallerRelation → Type 0
HasOne u = (registers : ℕ → Option ℕ) (a : ℕ) (c d : Option Caller) → u registers a c → u registers a d → c ≡ d

-- there is some answer: a caller, or none
abbrev pub HasSome : CallerRelation → Type 0
HasSome u = (registers : ℕ → Option ℕ) (a : ℕ) → (c : Option Caller) × u registers a c

module _ {T : Type 0} (target_of : T → Target) (over : T → CallerRelation) where
  one_else : (own : Option Caller) (Others : Option Caller → Type 0) (c d : Option Caller)
      → ((x y : Option Caller) → Others x → Others y → x ≡ y) → OrElse own Others c → OrElse own Others d → c ≡ d
  one_else None Others c d one h k = one c d h k
  one_else (Some found) Others c d one h k = h ∙ sym k

  pub one_through : (modules : List (Module T)) → AllByRecursion (λ (m : Module T). HasOne (over m.rows)) modules
      → HasOne (over_modules target_of over modules)
  one_through [] each registers a c d h k = h ∙ sym k
  one_through (m ∷ modules) each registers a c d h k =
      let same : k.0 ≡ h.0 = each.0 registers (as_linked (target_of m.rows) m.load_address a) k.0 h.0 k.1 h.1 in
      one_else h.0 (over_modules target_of over modules registers a) c d (one_through modules each.1 registers a) h.2
      (subst (λ (own : Option Caller). OrElse own (over_modules target_of over modules registers a) d) same k.2)

  some_else : (own : Option Caller) (Others : Option Caller → Type 0) → (x : Option Caller) × Others x
      → (c : Option Caller) × OrElse own Others c
  some_else None Others some = some
  some_else (Some found) Others some = (Some found, refl)

  pub some_through : (modules : List (Module T)) → AllByRecursion (λ (m : Module T). HasSome (over m.rows)) modules
      → HasSome (over_modules target_of over modules)
  some_through [] each registers a = (None, refl)
  some_through (m ∷ modules) each registers a =
      let own = each.0 registers (as_linked (target_of m.rows) m.load_address a) in
      let found = some_else own.0 (over_modules target_of over modules registers a) (some_through modules each.1 registers a) in
      (found.0, (own.0, own.1, found.1))

-- `OrElse` still holds if `A`, which says what the other modules give, is replaced by a weaker `B`
else_goes : (own : Option Caller) (A B : Option Caller → Type 0) (c : Option Caller) → ((x : Option Caller) → A x → B x)
    → OrElse own A c → OrElse own B c
else_goes None A B c goes h = goes c h
else_goes (Some found) A B c goes h = h

-- ---- through two lists of modules that are alike (`AreLike`)

module _ {S T : Type 0} (target_of : S → Target) (over : S → CallerRelation) (target_of_other : T → Target) (over_other : T → CallerRelation) where
  likes_go : (Is : S → T → Type 0) → ((s : S) (t : T) → Is s t → target_of s ≡ target_of_other t)
      → ((s : S) (t : T) → Is s t → (registers : ℕ → Option ℕ) (a : ℕ) (c : Option Caller) → over s registers a c → over_other t registers a c)
      → (modules : List (Module S)) (others : List (Module T)) → AreLike Is modules others → (registers : ℕ → Option ℕ) (a : ℕ)
      (c : Option Caller) → over_modules target_of over modules registers a c → over_modules target_of_other over_other others registers a c
  likes_go Is same goes [] [] are registers a c h = h
  likes_go Is same goes [] (t ∷ others) are registers a c h = absurd are
  likes_go Is same goes (s ∷ modules) [] are registers a c h = absurd are
  likes_go Is same goes (s ∷ modules) (t ∷ others) are registers a c h =
      let linked : as_linked (target_of s.rows) s.load_address a ≡ as_linked (target_of_other t.rows) t.load_address a =
      ap (λ (target : Target). as_linked target s.load_address a) (same s.rows t.rows are.1)
      ∙ ap (λ (n : ℕ). as_linked (target_of_other t.rows) n a) (sym are.0) in (
        h.0,
        subst (λ (n : ℕ). over_other t.rows registers n h.0) linked
            (goes s.rows t.rows are.1 registers (as_linked (target_of s.rows) s.load_address a) h.0 h.1),
        else_goes h.0 (over_modules target_of over modules registers a) (over_modules target_of_other over_other others registers a) c
            (likes_go Is same goes modules others are.2 registers a) h.2,
      )

pub others_like : {S T : Type 0} (Is : S → T → Type 0) (modules : List (Module S)) (others : List (Module T)) → AreLike Is modules others
    → AreLike (λ t s. Is s t) others modules
others_like Is [] [] are = tt
others_like Is [] (t ∷ others) are = absurd are
others_like Is (s ∷ modules) [] are = absurd are
others_like Is (s ∷ modules) (t ∷ others) are = (sym are.0, are.1, others_like Is modules others are.2)

module _ {S T : Type 0} (target_of : S → Target) (over : S → CallerRelation) (target_of_other : T → Target) (over_other : T → CallerRelation)
    (Is : S → T → Type 0) (same : (s : S) (t : T) → Is s t → target_of s ≡ target_of_other t)
    (each : (s : S) (t : T) → Is s t → (registers : ℕ → Option ℕ) (a : ℕ) (c : Option Caller) → over s registers a c ↔ over_other t registers a c) where
  pub likes_same : (modules : List (Module S)) (others : List (Module T)) → AreLike Is modules others → (registers : ℕ → Option ℕ) (a : ℕ)
      (c : Option Caller) → over_modules target_of over modules registers a c ↔ over_modules target_of_other over_other others registers a c
  likes_same modules others are registers a c = (
    likes_go target_of over target_of_other over_other Is same (λ s t is r n x. (each s t is r n x).0) modules others are registers a c,
    likes_go target_of_other over_other target_of over (λ t s. Is s t) (λ t s is. sym (same s t is))
        (λ t s is r n x. (each s t is r n x).1) others modules (others_like Is modules others are) registers a c,
  )

-- each list of modules is like itself
themselves : {T : Type 0} (modules : List (Module T)) → AreLike (λ s t. s ≡ t) modules modules
themselves [] = tt
themselves (m ∷ modules) = (refl, refl, themselves modules)

-- a list of modules with borrowed rows is like the list with the rows themselves
borrowed : {T : Type 0} (modules : List (Module (Bor T))) → AreLike (λ b t. b.now ≡ t) modules (unborrowed modules)
borrowed [] = tt
borrowed (m ∷ modules) = (refl, refl, borrowed modules)

module _ {T : Type 0} (target_of : T → Target) (by over : T → CallerRelation)
    (each : (t : T) (registers : ℕ → Option ℕ) (a : ℕ) (c : Option Caller) → by t registers a c ↔ over t registers a c) where
  pub through_modules : (modules : List (Module T)) (registers : ℕ → Option ℕ) (a : ℕ) (c : Option Caller)
      → over_modules target_of by modules registers a c ↔ over_modules target_of over modules registers a c
  through_modules modules =
      likes_same target_of by target_of over (λ s t. s ≡ t) (λ s t is. ap target_of is)
      (λ s t is registers a c. subst (λ (x : T). by s registers a c ↔ over x registers a c) is (each s registers a c))
      modules modules (themselves modules)

  pub through_borrowed : (modules : List (Module (Bor T))) (registers : ℕ → Option ℕ) (a : ℕ) (c : Option Caller)
      → over_modules (λ (b : Bor T). target_of b.now) (λ (b : Bor T). by b.now) modules registers a c
      ↔ over_modules target_of over (unborrowed modules) registers a c
  through_borrowed modules =
      likes_same (λ (b : Bor T). target_of b.now) (λ (b : Bor T). by b.now) target_of over (λ b t. b.now ≡ t) (λ b t is. ap target_of is)
      (λ b t is registers a c. subst (λ (x : T). by b.now registers a c ↔ over x registers a c) is (each b.now registers a c))
      modules (unborrowed modules) (borrowed modules)

-- ---- one module that is loaded where it is linked

pub as_loaded : (target : Target) (a : ℕ) → a < 2 ^ width_of target.address_size → as_linked target 0 a ≡ a
as_loaded target a fits =
    let w = width_of target.address_size in
    let none : a + 0 + 0 * 2 ^ w ≡ a = omega arith in
    ap unsigned_abs (int_rem_euclid_is (pos a -ℤ pos 0) (pos (2 ^ w)) (2 ^ w) 0 a (pow_pos w) refl (ap pos none)) ∙ mod-eq_of_lt fits

or_none : (own c : Option Caller) → OrElse own (λ (x : Option Caller). x ≡ None) c → c ≡ own
or_none None c h = h
or_none (Some found) c h = h

none_or : (own : Option Caller) → OrElse own (λ (x : Option Caller). x ≡ None) own
none_or None = refl
none_or (Some found) = refl

module _ {T : Type 0} (target_of : T → Target) (over : T → CallerRelation) (rows : T) where
  pub by_its_rows : (registers : ℕ → Option ℕ) (a : ℕ) (c : Option Caller) → a < 2 ^ width_of (target_of rows).address_size
      → over_modules target_of over (where_linked rows) registers a c → over rows registers a c
  by_its_rows registers a c fits h =
      subst (λ (x : Option Caller). over rows registers a x) (sym (or_none h.0 c h.2))
      (subst (λ (n : ℕ). over rows registers n h.0) (as_loaded (target_of rows) a fits) h.1)

  pub by_one_module : (registers : ℕ → Option ℕ) (a : ℕ) (c : Option Caller) → a < 2 ^ width_of (target_of rows).address_size
      → over rows registers a c → over_modules target_of over (where_linked rows) registers a c
  by_one_module registers a c fits h =
      (c, subst (λ (n : ℕ). over rows registers n c) (sym (as_loaded (target_of rows) a fits)) h, none_or c)

-- if all numbers of a caller are below a bound, so is the address before its return address
pub leads_below : (bound : ℕ) (c : Caller) → CallerFits bound c
    → IfSome (content_of c.return_address) (λ n. IfSome (address_before n) (λ (a : ℕ). a < bound))
leads_below bound c fits = of_answer c.return_address fits.return_address
  where
    before : (n : ℕ) → n < bound → IfSome (address_before n) (λ (a : ℕ). a < bound)
    before zero lt = tt
    before (suc n) lt = omega (arith, lt)

    of_answer : (x : Answer) → AnswerFits bound x → IfSome (content_of x) (λ n. IfSome (address_before n) (λ (a : ℕ). a < bound))
    of_answer (value n) lt = before n lt
    of_answer undefined lt = tt
    of_answer unreadable lt = tt
    of_answer division_by_zero lt = tt

module _ (frame : FrameSection) (abi : Abi) (memory : ℕ → Option ℕ)
    (fits : (registers : ℕ → Option ℕ) (a : ℕ) (c : Caller) → over_section frame abi memory registers a (Some c)
    → CallerFits (2 ^ width_of frame.target.address_size) c) where
  abbrev Below : ℕ → Type 0
  Below a = a < 2 ^ width_of frame.target.address_size

  go : (registers : ℕ → Option ℕ) (a : ℕ) (c : Option Caller) → Below a → over_sections abi memory (where_linked frame) registers a c
      → over_section frame abi memory registers a c
  go = by_its_rows (λ (s : FrameSection). s.target) (λ s. over_section s abi memory) frame

  come : (registers : ℕ → Option ℕ) (a : ℕ) (c : Option Caller) → Below a → over_section frame abi memory registers a c
      → over_sections abi memory (where_linked frame) registers a c
  come = by_one_module (λ (s : FrameSection). s.target) (λ s. over_section s abi memory) frame

  next : (registers : ℕ → Option ℕ) (a : ℕ) (c : Caller) → over_section frame abi memory registers a (Some c)
      → IfSome (content_of c.return_address) (λ n. IfSome (address_before n) Below)
  next registers a c h = leads_below (2 ^ width_of frame.target.address_size) c (fits registers a c h)

  pub walk_over_its_section : (first : Place) (limit : ℕ) (xs : List WalkedFrame) (stop : Stop) → IfSome first.looked_up Below
      → Walks (over_sections abi memory (where_linked frame)) first limit xs stop → Walks (over_section frame abi memory) first limit xs stop
  walk_over_its_section =
      walk_where (over_sections abi memory (where_linked frame)) (over_section frame abi memory) Below go
      (λ registers a c lt h. next registers a c (go registers a (Some c) lt h))

  pub walk_over_one_module : (first : Place) (limit : ℕ) (xs : List WalkedFrame) (stop : Stop) → IfSome first.looked_up Below
      → Walks (over_section frame abi memory) first limit xs stop → Walks (over_sections abi memory (where_linked frame)) first limit xs stop
  walk_over_one_module =
      walk_where (over_section frame abi memory) (over_sections abi memory (where_linked frame)) Below come
      (λ registers a c lt h. next registers a c h)
