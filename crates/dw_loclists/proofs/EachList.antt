-- Lists are read exactly from the bytes that encode them.
use Rattle.std.proofs.Common.{◌≡◌, ℕ, zero, suc, ◌+◌, ◌-◌, ◌<◌, ◌≤◌, Bool, true, false, cond, ltb, List, [], ◌∷◌, ◌++◌, length, Result, Ok}
use Rattle.std.proofs.Common.{Err, refl, sym, ap, subst, ◌∙◌, append_assoc, arith, inl, inr}
use Rattle.std.specs.Prelude.{map, filter_map, ◌&&◌, ◌||◌, ◌⊎◌, count_by}
use Rattle.std.specs.List.{AllByRecursion}
use Rattle.std.proofs.lemmas.Bool.{lt-ltb, le-ltb, cases_lt}
use Rattle.std.proofs.lemmas.List.{length-append, map-append}
use Rattle.std.proofs.lemmas.List.Elements.{filter_map-append}
use Rattle.std.proofs.lemmas.List.Sums.{sum_by-append}
use Rattle.dw_bytes.specs.declared.target.Target.{Target}
use Rattle.dw_bytes.specs.declared.fault.Fault.{Fault}
use Rattle.dw_bytes.specs.Reading.{ReadPosition, Next, ◌>>=◌}
use Rattle.dw_bytes.specs.Sequence.{Sequence}
use Rattle.dw_bytes.proofs.Readers.{bind-ok, ok-is}
use Rattle.dw_loclists.specs.Entries.{Entry, end_of_list, offset_pair, default_location, base_address, start_end, start_length, IsEntry}
use Rattle.dw_loclists.specs.Entries.{is_end, is_default, expression_in, IsRange, IsGoodLocation}
use Rattle.dw_loclists.specs.Lists.{Loclist, IsList}
use Rattle.dw_loclists.specs.Locations.{location_of, expressions_of}
use Rattle.dw_stack.specs.Located.{LocatedExpression}
use Rattle.dw_loclists.specs.Reading.{checked_entry_at, no_end, at_most_entries, entries_at, list_at}
use Rattle.dw_loclists.proofs.EachEntry.{IsFine, entry-some, checked-found, checked-only}
use Rattle.dw_loclists.specs.declared.stored_lists.StoredExpression.{StoredExpression}
use Rattle.dw_loclists.specs.Stored.{KeepsMore}
use Rattle.dw_loclists.proofs.StoredLists.{nothing, keeps-then}

-- the bytes encode entries without faults and then an end_of_list; `has_default` tells whether a
-- default_location came before these entries
abbrev pub AreEntries : Target → Bool → ℕ → List ℕ → List Entry → Type 0
AreEntries target has_default at bytes [] = IsEntry target at bytes end_of_list
AreEntries target has_default at bytes (e ∷ es) =
    (first : List ℕ) × (rest : List ℕ) × (bytes ≡ first ++ rest) × IsEntry target at first e × IsFine has_default e × (is_end e ≡ false) ×
    AreEntries target (has_default || is_default e) (at + length first) rest es

abbrev Found : Type 0
Found = Result (List Entry × ReadPosition) Fault

abbrev finish : List Entry → ReadPosition → Found
finish es r = Ok (es, r)

-- a result of reading entries, with one more entry in front
abbrev pub put_before : Entry → Found → Found
put_before e others = others >>= λ es. finish (e ∷ es.0) es.1

-- what reading a list returns from an entry on: the entry and the entries after it, or no entries
-- if the entry is an end_of_list
abbrev followed : ℕ → Bool → Entry × ReadPosition → Found
followed n has_default e = cond (is_end e.0) (finish [] e.1) (put_before e.0 (at_most_entries n (has_default || is_default e.0) e.1))

ends-only : (e : Entry) → is_end e ≡ true → e ≡ end_of_list
ends-only end_of_list is = refl
ends-only (offset_pair begin end e) is = absurd cc
ends-only (default_location e) is = absurd cc
ends-only (base_address base) is = absurd cc
ends-only (start_end begin end e) is = absurd cc
ends-only (start_length begin count e) is = absurd cc

turn : (n : ℕ) (has_default : Bool) (r : ReadPosition) → 0 < length r.rest
    → at_most_entries (suc n) has_default r ≡ (checked_entry_at has_default r >>= followed n has_default)
turn n has_default r some = ap (λ b. cond b (checked_entry_at has_default r >>= followed n has_default) (Err (no_end r)))
    (lt-ltb 0 (length r.rest) some)

none : (n : ℕ) (has_default : Bool) (r : ReadPosition) → length r.rest ≡ 0 → at_most_entries n has_default r ≡ Err (no_end r)
none zero has_default r h = refl
none (suc n) has_default r h = ap (λ b. cond b (checked_entry_at has_default r >>= followed n has_default) (Err (no_end r)))
    (le-ltb 0 (length r.rest) (omega arith))

chosen : (b : Bool) (x y z : Found) → cond b x y ≡ z → ((b ≡ true) × (x ≡ z)) ⊎ ((b ≡ false) × (y ≡ z))
chosen true x y z is = inl (refl, is)
chosen false x y z is = inr (refl, is)

given : (target : Target) (has_default : Bool) (r : ReadPosition) (es fs : List Entry) (a b : ReadPosition) → finish es a ≡ finish fs b
    → Next (AreEntries target has_default r.position) r es a → Next (AreEntries target has_default r.position) r fs b
given target has_default r es fs a b is h =
    subst (λ (p : List Entry × ReadPosition). Next (AreEntries target has_default r.position) r p.0 p.1)
    (ok-is {A = List Entry} (es, a) (fs, b) is) h

-- ---- reading entries gives exactly what the bytes encode

entries-found : (target : Target) (n : ℕ) (has_default : Bool) (r : ReadPosition) (es : List Entry) (after : ReadPosition)
    → r.target ≡ target → at_most_entries n has_default r ≡ Ok (es, after) → Next (AreEntries target has_default r.position) r es after
entries-found target zero has_default r es after same is = absurd (let never : Err (no_end r) ≡ finish es after = is in cc)
entries-found target (suc n) has_default r es after same is = elim (cases_lt 0 (length r.rest)) [
  | inr out ↦ absurd (let never : Err (no_end r) ≡ finish es after = sym (none (suc n) has_default r (omega arith)) ∙ is in cc)
  | inl some ↦
      let e = bind-ok (checked_entry_at has_default r) (followed n has_default) (es, after) (sym (turn n has_default r some) ∙ is) in
      let found = checked-found has_default r e.0.0 e.0.1 e.1 in
      let next = found.0 in
      let here : IsEntry target r.position next.bytes e.0.0 =
      subst (λ (t : Target). IsEntry t r.position next.bytes e.0.0) same next.encoded in
      elim (chosen (is_end e.0.0) (finish [] e.0.1) (put_before e.0.0 (at_most_entries n (has_default || is_default e.0.0) e.0.1))
      (finish es after) e.2) [
        | inl w ↦
            given target has_default r [] es e.0.1 after w.1
            (record {
              bytes = next.bytes;
              encoded = subst (IsEntry target r.position next.bytes) (ends-only e.0.0 w.0) here;
              parts =
                  next.parts;
              position = next.position;
              target = next.target;
            })
        | inr w ↦
            let x =
            bind-ok (at_most_entries n (has_default || is_default e.0.0) e.0.1) (λ xs. finish (e.0.0 ∷ xs.0) xs.1) (es, after) w.1 in
            let k = entries-found target n (has_default || is_default e.0.0) e.0.1 x.0.0 x.0.1 (next.target ∙ same) x.1 in
            given target has_default r (e.0.0 ∷ x.0.0) es x.0.1 after x.2 (record {
              bytes = next.bytes ++ k.bytes;
              encoded = (
                next.bytes,
                k.bytes,
                refl,
                here,
                found.1,
                w.0,
                subst
                    (λ at. AreEntries target (has_default || is_default e.0.0) at k.bytes x.0.0) next.position k.encoded,
              );
              parts = next.parts ∙ ap (λ (t : List ℕ). next.bytes ++ t) k.parts ∙ sym (append_assoc next.bytes k.bytes x.0.1.rest);
              position = omega (arith, next.position, k.position, length-append next.bytes k.bytes);
              target = k.target ∙ next.target;
            })
      ]
]

fine-end : (has_default : Bool) → IsFine has_default end_of_list
fine-end true = record { only = refl; range = tt; good = tt }
fine-end false = record { only = refl; range = tt; good = tt }

entries-only : (target : Target) (n : ℕ) (has_default : Bool) (r : ReadPosition) (es : List Entry) (after : ReadPosition)
    → r.target ≡ target → length r.rest ≤ n → Next (AreEntries target has_default r.position) r es after
    → at_most_entries n has_default r ≡ Ok (es, after)
entries-only target zero has_default r [] after same enough h =
    absurd (let some = entry-some target r.position h.bytes end_of_list h.encoded in omega
    (arith, some, ap length h.parts, length-append h.bytes after.rest))
entries-only target zero has_default r (e ∷ es) after same enough h =
    absurd (let some = entry-some target r.position h.encoded.0 e h.encoded.3 in omega
    (arith, some, ap length h.parts, ap length h.encoded.2, length-append h.encoded.0 h.encoded.1, length-append h.bytes after.rest))
entries-only target (suc n) has_default r [] after same enough h =
    let some = entry-some target r.position h.bytes end_of_list h.encoded in
    let here : IsEntry r.target r.position h.bytes end_of_list =
    subst (λ (t : Target). IsEntry t r.position h.bytes end_of_list) (sym same) h.encoded in
    let one =
    checked-only has_default r end_of_list after
    (record { bytes = h.bytes; encoded = here; parts = h.parts; position = h.position; target = h.target }) (fine-end has_default) in
    turn n has_default r (omega (arith, some, ap length h.parts, length-append h.bytes after.rest))
    ∙ ap (λ x. x >>= followed n has_default) one
entries-only target (suc n) has_default r (e ∷ es) after same enough h =
    let s = h.encoded in
    let some = entry-some target r.position s.0 e s.3 in
    let here : IsEntry r.target r.position s.0 e = subst (λ (t : Target). IsEntry t r.position s.0 e) (sym same) s.3 in
    let mid : ReadPosition = record { target = r.target; position = r.position + length s.0; rest = s.1 ++ after.rest } in
    let parts : r.rest ≡ s.0 ++ (s.1 ++ after.rest) =
    h.parts ∙ ap (λ (t : List ℕ). t ++ after.rest) s.2 ∙ append_assoc s.0 s.1 after.rest in
    let one =
    checked-only has_default r e mid (record { bytes = s.0; encoded = here; parts = parts; position = refl; target = refl }) s.4 in
    let others =
    entries-only target n (has_default || is_default e) mid es after same
    (omega (arith, some, enough, ap length parts, length-append s.0 (s.1 ++ after.rest)))
    (record {
      bytes = s.1;
      encoded = s.6;
      parts = refl;
      position = omega (arith, h.position, ap length s.2, length-append s.0 s.1);
      target = h.target;
    }) in
    turn n has_default r (omega (arith, some, ap length parts, length-append s.0 (s.1 ++ after.rest)))
    ∙ (ap (λ x. x >>= followed n has_default) one
    ∙ (ap (λ b. cond b (finish [] mid) (put_before e (at_most_entries n (has_default || is_default e) mid))) s.5
    ∙ ap (put_before e) others))

-- ---- entries without faults make a list

abbrev most : Bool → ℕ
most true = 0
most false = 1

all-encoded : (target : Target) (has_default : Bool) (at : ℕ) (bytes : List ℕ) (es : List Entry) → AreEntries target has_default at bytes es
    → Sequence (IsEntry target) at bytes (es ++ end_of_list ∷ [])
all-encoded target has_default at bytes [] h = (bytes, [], sym (nothing bytes), h, refl)
  where
    nothing : (xs : List ℕ) → xs ++ [] ≡ xs
    nothing [] = refl
    nothing (x ∷ xs) = ap (λ (t : List ℕ). x ∷ t) (nothing xs)
all-encoded target has_default at bytes (e ∷ es) (first, rest, parts, here, fine, going, others) =
    (first, rest, parts, here, all-encoded target (has_default || is_default e) (at + length first) rest es others)

all-going : (target : Target) (has_default : Bool) (at : ℕ) (bytes : List ℕ) (es : List Entry) → AreEntries target has_default at bytes es
    → AllByRecursion (λ e. is_end e ≡ false) es
all-going target has_default at bytes [] h = tt
all-going target has_default at bytes (e ∷ es) (first, rest, parts, here, fine, going, others) =
    (going, all-going target (has_default || is_default e) (at + length first) rest es others)

all-ranges : (target : Target) (has_default : Bool) (at : ℕ) (bytes : List ℕ) (es : List Entry) → AreEntries target has_default at bytes es
    → AllByRecursion IsRange es
all-ranges target has_default at bytes [] h = tt
all-ranges target has_default at bytes (e ∷ es) (first, rest, parts, here, fine, going, others) =
    (fine.range, all-ranges target (has_default || is_default e) (at + length first) rest es others)

all-good : (target : Target) (has_default : Bool) (at : ℕ) (bytes : List ℕ) (es : List Entry) → AreEntries target has_default at bytes es
    → AllByRecursion (λ e. IsGoodLocation (expression_in e)) es
all-good target has_default at bytes [] h = tt
all-good target has_default at bytes (e ∷ es) (first, rest, parts, here, fine, going, others) =
    (fine.good, all-good target (has_default || is_default e) (at + length first) rest es others)

pub count-cons : (e : Entry) (es : List Entry) → count_by is_default (e ∷ es) ≡ cond (is_default e) 1 0 + count_by is_default es
count-cons e es = omega (arith, sum_by-append (λ x. cond (is_default x) 1 0) (e ∷ []) es)

few-more : (has_default is : Bool) (rest : ℕ) → (has_default && is) ≡ false → rest ≤ most (has_default || is)
    → cond is 1 0 + rest ≤ most has_default
few-more true true rest h le = absurd cc
few-more true false rest h le = omega arith
few-more false true rest h le = omega arith
few-more false false rest h le = omega arith

all-few : (target : Target) (has_default : Bool) (at : ℕ) (bytes : List ℕ) (es : List Entry) → AreEntries target has_default at bytes es
    → count_by is_default es ≤ most has_default
all-few target has_default at bytes [] h = omega arith
all-few target has_default at bytes (e ∷ es) (first, rest, parts, here, fine, going, others) =
    subst (λ n. n ≤ most has_default) (sym (count-cons e es))
    (few-more has_default (is_default e) (count_by is_default es) fine.only
    (all-few target (has_default || is_default e) (at + length first) rest es others))

only-few : (has_default is : Bool) (rest : ℕ) → cond is 1 0 + rest ≤ most has_default
    → ((has_default && is) ≡ false) × (rest ≤ most (has_default || is))
only-few true true rest le = absurd (omega arith)
only-few true false rest le = (refl, omega arith)
only-few false true rest le = (refl, omega arith)
only-few false false rest le = (refl, omega arith)

all-entries : (target : Target) (has_default : Bool) (at : ℕ) (bytes : List ℕ) (es : List Entry)
    → Sequence (IsEntry target) at bytes (es ++ end_of_list ∷ []) → AllByRecursion (λ e. is_end e ≡ false) es → AllByRecursion IsRange es
    → count_by is_default es ≤ most has_default → AllByRecursion (λ e. IsGoodLocation (expression_in e)) es
    → AreEntries target has_default at bytes es
all-entries target has_default at bytes [] (first, rest, parts, here, ended) going ranges few good =
    subst (λ (t : List ℕ). IsEntry target at t end_of_list) (sym (parts ∙ (ap (λ (t : List ℕ). first ++ t) ended ∙ nothing first))) here
  where
    nothing : (xs : List ℕ) → xs ++ [] ≡ xs
    nothing [] = refl
    nothing (x ∷ xs) = ap (λ (t : List ℕ). x ∷ t) (nothing xs)
all-entries target has_default at bytes (e ∷ es) (first, rest, parts, here, others) going ranges few good =
    let t = only-few has_default (is_default e) (count_by is_default es) (subst (λ n. n ≤ most has_default) (count-cons e es) few) in (
      first,
      rest,
      parts,
      here,
      record { only = t.0; range = ranges.0; good = good.0 },
      going.0,
      all-entries target
          (has_default || is_default e) (at + length first) rest es others going.1 ranges.1 t.1 good.1,
    )

-- ---- lists

abbrev pub listed : ℕ → List Entry → Loclist
listed at es = record { offset = at; entries = es }

abbrev done : Loclist → ReadPosition → Result (Loclist × ReadPosition) Fault
done l r = Ok (l, r)

list-from : (target : Target) (at : ℕ) (bytes : List ℕ) (es : List Entry) → AreEntries target false at bytes es
    → IsList target at bytes (listed at es)
list-from target at bytes es h = record {
  offset_is = refl;
  encoded = all-encoded target false at bytes es h;
  no_end = all-going target false at bytes es h;
  ranges = all-ranges target false at bytes es h;
  one_default = all-few target false at bytes es h;
  expressions = all-good target false at bytes es h;
}

pub entries-in : (target : Target) (at : ℕ) (bytes : List ℕ) (l : Loclist) → IsList target at bytes l
    → AreEntries target false at bytes l.entries
entries-in target at bytes l h = all-entries target false at bytes l.entries h.encoded h.no_end h.ranges h.one_default h.expressions

pub list-found : (target : Target) (r : ReadPosition) (l : Loclist) (after : ReadPosition) → r.target ≡ target → list_at r ≡ Ok (l, after)
    → Next (IsList target r.position) r l after
unfolding list_at entries_at
list-found target r l after same is =
    let es = bind-ok (entries_at false r) (λ es. done (listed r.position es.0) es.1) (l, after) is in
    let h = entries-found target (length r.rest) false r es.0.0 es.0.1 same es.1 in
    let is_l : (listed r.position es.0.0, es.0.1) ≡ (l, after) = ok-is {A = Loclist} (listed r.position es.0.0, es.0.1) (l, after) es.2 in
    subst (λ (p : Loclist × ReadPosition). Next (IsList target r.position) r p.0 p.1) is_l
    (record {
      bytes = h.bytes;
      encoded = list-from target r.position h.bytes es.0.0 h.encoded;
      parts = h.parts;
      position = h.position;
      target = h.target;
    })

pub list-only : (target : Target) (r : ReadPosition) (l : Loclist) (after : ReadPosition) → r.target ≡ target
    → Next (IsList target r.position) r l after → list_at r ≡ Ok (l, after)
unfolding list_at entries_at
list-only target r l after same h =
    let read =
    entries-only target (length r.rest) false r l.entries after same (omega arith)
    (record {
      bytes = h.bytes;
      encoded = entries-in target r.position h.bytes l h.encoded;
      parts = h.parts;
      position = h.position;
      target = h.target;
    }) in
    ap (λ x. x >>= λ (es : List Entry × ReadPosition). done (listed r.position es.0) es.1) read
    ∙ ap (λ at. done (listed at l.entries) after) (sym h.encoded.offset_is)

pub list-entries : (r : ReadPosition) (l : Loclist) (after : ReadPosition) → list_at r ≡ Ok (l, after)
    → entries_at false r ≡ Ok (l.entries, after)
unfolding list_at
list-entries r l after is =
    let es = bind-ok (entries_at false r) (λ es. done (listed r.position es.0) es.1) (l, after) is in
    let same : (listed r.position es.0.0, es.0.1) ≡ (l, after) = ok-is {A = Loclist} (listed r.position es.0.0, es.0.1) (l, after) es.2 in
    es.1 ∙ ap (λ (p : Loclist × ReadPosition). Ok (p.0.entries, p.1)) same

-- ---- reading a list one entry at a time

pub checked-forward : (has_default : Bool) (r : ReadPosition) (e : Entry) (after : ReadPosition)
    → checked_entry_at has_default r ≡ Ok (e, after) → length after.rest < length r.rest
checked-forward has_default r e after is =
    let next = (checked-found has_default r e after is).0 in
    let some = entry-some r.target r.position next.bytes e next.encoded in
    omega (arith, some, ap length next.parts, length-append next.bytes after.rest)

same-followed : (n m : ℕ) (has_default : Bool) (r : ReadPosition) (x : Result (Entry × ReadPosition) Fault)
    → checked_entry_at has_default r ≡ x
    → ((is_default_one : Bool) (after : ReadPosition) → length after.rest < length r.rest
    → at_most_entries n is_default_one after ≡ at_most_entries m is_default_one after)
    → (x >>= followed n has_default) ≡ (x >>= followed m has_default)
same-followed n m has_default r (Ok e) is same =
    ap (λ (z : Found). cond (is_end e.0) (finish [] e.1) (put_before e.0 z))
    (same (has_default || is_default e.0) e.1 (checked-forward has_default r e.0 e.1 is))
same-followed n m has_default r (Err f) is same = refl

-- the limit on the number of entries makes no difference if it is at least the number of bytes
enough-same : (n m : ℕ) (has_default : Bool) (r : ReadPosition) → length r.rest ≤ n → length r.rest ≤ m
    → at_most_entries n has_default r ≡ at_most_entries m has_default r
enough-same zero m has_default r h k = sym (none m has_default r (omega arith))
enough-same (suc n) zero has_default r h k = none (suc n) has_default r (omega arith)
enough-same (suc n) (suc m) has_default r h k =
    ap (λ (x : Found). cond (ltb 0 (length r.rest)) x (Err (no_end r)))
    (same-followed n m has_default r (checked_entry_at has_default r) refl
    (λ d after lt. enough-same n m d after (omega arith) (omega arith)))

entries-turn : (n : ℕ) (has_default : Bool) (r : ReadPosition) → length r.rest ≡ suc n
    → entries_at has_default r ≡ (checked_entry_at has_default r >>= followed n has_default)
unfolding entries_at
entries-turn n has_default r long = ap (λ k. at_most_entries k has_default r) long ∙ turn n has_default r (omega arith)

pub entries-end : (has_default : Bool) (r : ReadPosition) → length r.rest ≡ 0 → entries_at has_default r ≡ Err (no_end r)
unfolding entries_at
entries-end has_default r h = none (length r.rest) has_default r h

last-of : (n : ℕ) (has_default : Bool) (r : ReadPosition) (e : Entry) (after : ReadPosition) → length r.rest ≡ suc n
    → checked_entry_at has_default r ≡ Ok (e, after) → is_end e ≡ true → entries_at has_default r ≡ Ok ([], after)
last-of n has_default r e after long is end = entries-turn n has_default r long
    ∙ (ap (λ x. x >>= followed n has_default) is
    ∙ ap (λ b. cond b (finish [] after) (put_before e (at_most_entries n (has_default || is_default e) after))) end)

pub entries-last : (has_default : Bool) (r : ReadPosition) (e : Entry) (after : ReadPosition)
    → checked_entry_at has_default r ≡ Ok (e, after) → is_end e ≡ true → entries_at has_default r ≡ Ok ([], after)
entries-last has_default r e after is end = let less =
    checked-forward has_default r e after is in last-of (length r.rest - 1) has_default r e after (omega (arith, less)) is end

more-of : (n : ℕ) (has_default : Bool) (r : ReadPosition) (e : Entry) (after : ReadPosition) → length r.rest ≡ suc n
    → checked_entry_at has_default r ≡ Ok (e, after) → is_end e ≡ false
    → entries_at has_default r ≡ put_before e (entries_at (has_default || is_default e) after)
unfolding entries_at
more-of n has_default r e after long is going =
    let less = checked-forward has_default r e after is in
    (ap (λ k. at_most_entries k has_default r) long ∙ turn n has_default r (omega arith))
    ∙ (ap (λ x. x >>= followed n has_default) is
    ∙ (ap (λ b. cond b (finish [] after) (put_before e (at_most_entries n (has_default || is_default e) after))) going
    ∙ ap (put_before e) (enough-same n (length after.rest) (has_default || is_default e) after (omega (arith, less)) (omega arith))))

pub entries-more : (has_default : Bool) (r : ReadPosition) (e : Entry) (after : ReadPosition)
    → checked_entry_at has_default r ≡ Ok (e, after) → is_end e ≡ false
    → entries_at has_default r ≡ put_before e (entries_at (has_default || is_default e) after)
entries-more has_default r e after is going = let less =
    checked-forward has_default r e after is in more-of (length r.rest - 1) has_default r e after (omega (arith, less)) is going

refused-of : (n : ℕ) (has_default : Bool) (r : ReadPosition) (f : Fault) → length r.rest ≡ suc n → checked_entry_at has_default r ≡ Err f
    → entries_at has_default r ≡ Err f
refused-of n has_default r f long is = entries-turn n has_default r long ∙ ap (λ x. x >>= followed n has_default) is

pub entries-refused : (has_default : Bool) (r : ReadPosition) (f : Fault) → 0 < length r.rest → checked_entry_at has_default r ≡ Err f
    → entries_at has_default r ≡ Err f
entries-refused has_default r f some is = refused-of (length r.rest - 1) has_default r f (omega arith) is

-- ---- the entries read so far, in front of the rest

abbrev pub put_all : List Entry → Found → Found
put_all es others = others >>= λ xs. finish (es ++ xs.0) xs.1

pub put-one-more : (es : List Entry) (e : Entry) (others : Found) → put_all es (put_before e others) ≡ put_all (es ++ e ∷ []) others
put-one-more es e (Ok xs) = ap (λ (t : List Entry). finish t xs.1) (sym (append_assoc es (e ∷ []) xs.0))
put-one-more es e (Err f) = refl

nothing-more : (es : List Entry) → es ++ [] ≡ es
nothing-more [] = refl
nothing-more (e ∷ es) = ap (λ (t : List Entry). e ∷ t) (nothing-more es)

-- if reading a list gave the entries `es` and then comes to the end_of_list, the whole list has the
-- entries `es`
pub list-ends : (r s after : ReadPosition) (has_default : Bool) (es : List Entry)
    → entries_at false r ≡ put_all es (entries_at has_default s) → entries_at has_default s ≡ Ok ([], after)
    → list_at r ≡ Ok (listed r.position es, after)
unfolding list_at
list-ends r s after has_default es so_far is =
    ap (λ x. x >>= λ (xs : List Entry × ReadPosition). done (listed r.position xs.0) xs.1)
    (so_far ∙ (ap (put_all es) is ∙ ap (λ (t : List Entry). finish t after) (nothing-more es)))

-- if reading a list gave the entries `es` and then meets a fault, reading the whole list gives that
-- fault
pub list-stops : (r s : ReadPosition) (has_default : Bool) (es : List Entry) (f : Fault)
    → entries_at false r ≡ put_all es (entries_at has_default s) → entries_at has_default s ≡ Err f → list_at r ≡ Err f
unfolding list_at
list-stops r s has_default es f so_far is =
    ap (λ x. x >>= λ (xs : List Entry × ReadPosition). done (listed r.position xs.0) xs.1) (so_far ∙ ap (put_all es) is)

pub expressions-more : (es : List Entry) (e : Entry) → expressions_of (es ++ e ∷ []) ≡ expressions_of es ++ expressions_of (e ∷ [])
expressions-more es e = ap (map location_of) (filter_map-append expression_in es (e ∷ []))
    ∙ map-append location_of (filter_map expression_in es) (filter_map expression_in (e ∷ []))

-- if e, which isn't an end_of_list, is read after the entries `es` of a list, the entries read so
-- far are `es` with e at the end
pub next-entry : (r s after : ReadPosition) (d next : Bool) (es : List Entry) (e : Entry) → entries_at false r ≡ put_all es (entries_at d s)
    → checked_entry_at d s ≡ Ok (e, after) → is_end e ≡ false → (d || is_default e) ≡ next
    → entries_at false r ≡ put_all (es ++ e ∷ []) (entries_at next after)
next-entry r s after d next es e so_far is going or =
    so_far ∙ (ap (put_all es) (entries-more d s e after is going)
    ∙ (put-one-more es e (entries_at (d || is_default e) after) ∙ ap (λ b. put_all (es ++ e ∷ []) (entries_at b after)) or))

-- if the expressions of the entries `es` and then the expression of e were stored, the expressions
-- of `es` with e at the end were stored
pub keeps-entry : (es : List Entry) (e : Entry) (old mid new : List StoredExpression) → KeepsMore (expressions_of es) old mid
    → KeepsMore (expressions_of (e ∷ [])) mid new → KeepsMore (expressions_of (es ++ e ∷ [])) old new
keeps-entry es e old mid new h k =
    subst (λ (ys : List LocatedExpression). KeepsMore ys old new) (sym (expressions-more es e))
    (keeps-then (expressions_of es) (expressions_of (e ∷ [])) old mid new h k)

-- if the expressions of the entries `es` were stored and then e was read, an end_of_list, which has
-- no expression, just the expressions of `es` were stored
pub keeps-end : (es : List Entry) (e : Entry) (old mid new : List StoredExpression) → is_end e ≡ true → KeepsMore (expressions_of es) old mid
    → KeepsMore (expressions_of (e ∷ [])) mid new → KeepsMore (expressions_of es) old new
keeps-end es e old mid new is h k =
    subst (λ (ys : List LocatedExpression). KeepsMore ys old new)
    (ap (λ (x : Entry). expressions_of es ++ expressions_of (x ∷ [])) (ends-only e is) ∙ nothing (expressions_of es))
    (keeps-then (expressions_of es) (expressions_of (e ∷ [])) old mid new h k)

-- reading from a list's first byte returns the list's entries
pub entries-read : (target : Target) (r : ReadPosition) (l : Loclist) (after : ReadPosition) → r.target ≡ target
    → Next (IsList target r.position) r l after → entries_at false r ≡ Ok (l.entries, after)
unfolding entries_at
entries-read target r l after same h =
    entries-only target (length r.rest) false r l.entries after same (omega arith)
    (record {
      bytes = h.bytes;
      encoded = entries-in target r.position h.bytes l h.encoded;
      parts = h.parts;
      position = h.position;
      target =
          h.target;
    })
