-- What a sink has accepted after several texts, written one after another.
use Rattle.std.proofs.Common.{◌≡◌, ℕ, ◌+◌, List, [], ◌++◌, Option, None, Some, ap, sym, ◌∙◌, append_assoc, take, drop, length}
use Rattle.std.proofs.Common.{◌-◌, arith, length-drop}
use Rattle.std.proofs.lemmas.List.{append-nil, take-append-drop, take_all}
use Rattle.std.proofs.Math.Seq.{take-add}
use Rattle.std.specs.Io.KnownBytes.{Appends, Keeps}
use Rattle.dw_check.specs.SinkBytes.{AppendsFront}

pub appends_nothing : (a : Option (List ℕ)) → Appends a a []
appends_nothing None = tt
appends_nothing (Some xs) = sym (append-nil xs)

pub appends_more : (a b c : Option (List ℕ)) (x y : List ℕ) → Appends a b x → Appends b c y → Appends a c (x ++ y)
appends_more None b c x y h k = tt
appends_more (Some xs) None c x y h k = absurd h
appends_more (Some xs) (Some ys) None x y h k = absurd k
appends_more (Some xs) (Some ys) (Some zs) x y h k = k ∙ ap (λ (l : List ℕ). l ++ y) h ∙ append_assoc xs x y

pub keeps_more : (a b c : Option (List ℕ)) (x : List ℕ) → Appends a b x → Keeps b c → Appends a c x
keeps_more None b c x h k = tt
keeps_more (Some xs) None c x h k = absurd h
keeps_more (Some xs) (Some ys) None x h k = absurd k
keeps_more (Some xs) (Some ys) (Some zs) x h k = k ∙ h

-- all of x and then a beginning of y make a beginning of x followed by y
pub front_more : (a b c : Option (List ℕ)) (x y : List ℕ) → Appends a b x → AppendsFront b c y → AppendsFront a c (x ++ y)
front_more a b c x y h k = (x ++ k.0, k.1, append_assoc x k.0 k.1 ∙ ap (λ (l : List ℕ). x ++ l) k.2, appends_more a b c x k.0 h k.3)

-- a beginning of x is a beginning of x followed by y
pub front_wider : (a b : Option (List ℕ)) (x y : List ℕ) → AppendsFront a b x → AppendsFront a b (x ++ y)
front_wider a b x y k = (k.0, k.1 ++ y, sym (append_assoc k.0 k.1 y) ∙ ap (λ (l : List ℕ). l ++ y) k.2, k.3)

-- the slice of a list from index i to its end is what is left after i elements
pub rest_of_slice : (xs : List ℕ) (i : ℕ) → take (length xs - i) (drop i xs) ≡ drop i xs
rest_of_slice xs i = take_all (length xs - i) (drop i xs) (omega (arith, length-drop i xs))

-- writing the first i bytes of a text, and then n more, writes its first i + n bytes
pub piece_more : (a b c : Option (List ℕ)) (xs : List ℕ) (i n : ℕ) → Appends a b (take i xs)
    → Appends b c (take n (take (length xs - i) (drop i xs))) → Appends a c (take (i + n) xs)
piece_more a b c xs i n h k =
    rw take-add (appends_more a b c (take i xs) (take n (drop i xs)) h (rw (rest_of_slice xs i) at k))

-- writing the first i bytes of a text writes a beginning of it
pub front_of_take : (a b : Option (List ℕ)) (xs : List ℕ) (i : ℕ) → Appends a b (take i xs) → AppendsFront a b xs
front_of_take a b xs i h = (take i xs, drop i xs, take-append-drop i xs, h)
