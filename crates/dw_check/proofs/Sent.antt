-- What a loop that writes a text for each element has written so far.
use Rattle.std.proofs.Common.{◌≡◌, ℕ, suc, ◌+◌, ◌<◌, ◌≤◌, List, [], ◌∷◌, ◌++◌, length, map, drop, get_or, ap, sym, ◌∙◌, subst, arith}
use Rattle.std.proofs.Common.{length-append, drop-cons, add-one}
use Rattle.std.specs.Prelude.{Option}
use Rattle.std.specs.List.{All, Contains, enumerate_from, flat_map}
use Rattle.std.proofs.Math.Seq.{get_or-append_seam}
use Rattle.std.proofs.lemmas.List.{append_assoc, append-nil, drop_all}
use Rattle.std.proofs.lemmas.Grind.{flat_map-append}
use Rattle.std.specs.Io.KnownBytes.{Appends}
use Rattle.dw_check.specs.SinkBytes.{AppendsFront}
use Rattle.dw_check.proofs.Growth.{appends_nothing, appends_more, front_wider, front_more}

-- The texts of the elements visited are written; the elements of `rest` are still to come.
pub record Sent {X : Type 0} (f : X → List ℕ) (all rest : List X) (old new : Option (List ℕ)) : Type 0 where
  pub came : List X
  pub whole : came ++ rest ≡ all
  pub text : Appends old new (flat_map f came)

pub sent_none : {X : Type 0} (f : X → List ℕ) (all rest : List X) (a : Option (List ℕ)) → rest ≡ all → Sent f all rest a a
sent_none f all rest a e = record { came = []; whole = e; text = appends_nothing a }

-- after the next element's text is written too, that element counts as visited
pub sent_next : {X : Type 0} (f : X → List ℕ) (all left rest : List X) (x : X) (a b c : Option (List ℕ)) → left ≡ x ∷ rest
    → Sent f all left a b → Appends b c (f x) → Sent f all rest a c
sent_next f all left rest x a b c e s more = record {
  came = s.came ++ x ∷ [];
  whole = append_assoc s.came (x ∷ []) rest ∙ ap (λ l. s.came ++ l) (sym e) ∙ s.whole;
  text = rw (flat_map-append f s.came (x ∷ [])) (rw (append-nil (f x)) (appends_more a b c (flat_map f s.came) (f x) s.text more));
}

-- if only a beginning of the next element's text is written, then what is written is a beginning of
-- the texts of all elements
pub sent_front : {X : Type 0} (f : X → List ℕ) (all left rest : List X) (x : X) (a b c : Option (List ℕ)) → left ≡ x ∷ rest
    → Sent f all left a b → AppendsFront b c (f x) → AppendsFront a c (flat_map f all)
sent_front f all left rest x a b c e s part =
    let cut : s.came ++ x ∷ rest ≡ all = ap (λ l. s.came ++ l) (sym e) ∙ s.whole in
    let whole : flat_map f all ≡ (flat_map f s.came ++ f x) ++ flat_map f rest =
    ap (flat_map f) (sym cut) ∙ flat_map-append f s.came (x ∷ rest)
    ∙ sym (append_assoc (flat_map f s.came) (f x) (flat_map f rest)) in
    subst (AppendsFront a c) (sym whole)
    (front_wider a c (flat_map f s.came ++ f x) (flat_map f rest) (front_more a b c (flat_map f s.came) (f x) s.text part))

-- when no element is left, the texts of all elements are written
pub sent_all : {X : Type 0} (f : X → List ℕ) (all left : List X) (a b : Option (List ℕ)) → left ≡ [] → Sent f all left a b
    → Appends a b (flat_map f all)
sent_all f all left a b e s =
    let whole : s.came ≡ all = sym (append-nil s.came) ∙ ap (λ l. s.came ++ l) (sym e) ∙ s.whole in
    subst (λ l. Appends a b (flat_map f l)) whole s.text

-- the next element is among all elements
pub sent_place : {X : Type 0} (f : X → List ℕ) (all left rest : List X) (x : X) (a b : Option (List ℕ)) → left ≡ x ∷ rest
    → Sent f all left a b → Contains all x
sent_place f all left rest x a b e s =
    let cut : s.came ++ x ∷ rest ≡ all = ap (λ l. s.came ++ l) (sym e) ∙ s.whole in
    let here : Contains (s.came ++ x ∷ rest) x =
    (length s.came, omega (arith, length-append s.came (x ∷ rest)), get_or-append_seam s.came x rest x) in
    subst (λ l. Contains l x) cut here

-- what holds for all elements of a list holds for each element in it
pub all_here : {X : Type 0} (P : X → Type 0) (all : List X) (x : X) → All P all → Contains all x → P x
all_here P all x each at = subst P at.2 (each at.0 x at.1)

-- ---- lists to whose elements a function is applied

-- the elements from index i on are the element at i, followed by the elements from i + 1 on
pub next_seen : {X Y : Type 0} (view : X → Y) (xs : List X) (i : ℕ) (x : X) → i < length xs → x ≡ get_or xs i x
    → map view (drop i xs) ≡ view x ∷ map view (drop (i + 1) xs)
next_seen view xs i x h e =
    let cut : drop i xs ≡ get_or xs i x ∷ drop (suc i) xs = drop-cons xs i x h in
    ap (map view) cut ∙ ap (λ y. view y ∷ map view (drop (suc i) xs)) (sym e) ∙ ap (λ n. view x ∷ map view (drop n xs)) (sym (add-one i))

-- no element is left once the index is at least the length
pub none_seen : {X Y : Type 0} (view : X → Y) (xs : List X) (i : ℕ) → length xs ≤ i → map view (drop i xs) ≡ []
none_seen view xs i h = ap (map view) (drop_all i xs h)

-- the elements from index i on, each with its index, are the element at i, followed by the elements
-- from i + 1 on
pub next_numbered : {X Y : Type 0} (view : X → Y) (xs : List X) (i : ℕ) (x : X) → i < length xs → x ≡ get_or xs i x
    → enumerate_from i (map view (drop i xs)) ≡ (i, view x) ∷ enumerate_from (i + 1) (map view (drop (i + 1) xs))
next_numbered view xs i x h e = ap (enumerate_from i) (next_seen view xs i x h e)
