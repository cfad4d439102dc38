-- Tables are read exactly from the bytes that encode them.
use Rattle.std.proofs.Common.{◌≡◌, ℕ, zero, suc, ◌+◌, ◌<◌, ◌≤◌, ◌↔◌, Bool, true, false, List, [], ◌∷◌, ◌++◌, ◌-◌, length, map, take, drop}
use Rattle.std.proofs.Common.{Result, Ok, Err, refl, sym, ap, subst, ◌∙◌, append_assoc, arith, inl, inr}
use Rattle.std.specs.Prelude.{◌==◌, ◌||◌, ◌⊎◌, Contains}
use Rattle.std.proofs.lemmas.Bool.{eqb-true, eq-eqb}
use Rattle.std.proofs.lemmas.List.{length-append, length-drop, take_all}
use Rattle.dw_bytes.specs.declared.target.Target.{Target}
use Rattle.dw_bytes.specs.declared.target.Order.{Order}
use Rattle.dw_bytes.specs.declared.target.Format.{Format}
use Rattle.dw_bytes.specs.declared.target.Format.TheVariants.{Dwarf32, Dwarf64}
use Rattle.dw_bytes.specs.declared.fault.Fault.{Fault}
use Rattle.dw_bytes.specs.declared.fault.FaultKind.TheVariants.{BadOffsetEntry}
use Rattle.dw_bytes.specs.Encoding.{InitialLength, InitialLengthPair, Offset}
use Rattle.dw_bytes.specs.Reading.{ReadPosition, Next, IsExact, ◌>>=◌, section_from, offset_at}
use Rattle.dw_bytes.specs.Fields.{Encodes, unless, ok_unless, fields_at}
use Rattle.dw_bytes.specs.Bodies.{framed_at, IsFramed}
use Rattle.dw_bytes.specs.Sequence.{Sequence, sequence_of, Exactly, exactly_of}
use Rattle.dw_bytes.proofs.Readers.{ExactAt, bind-ok, ok-is, offset-exact, leaves-suffix}
use Rattle.dw_bytes.proofs.FieldsOf.{fields-exact}
use Rattle.dw_bytes.proofs.Bodies.{framed-found, framed-only}
use Rattle.dw_bytes.proofs.Sequences.{ReadsEach, Forward, forward, goes-on, stops, ends, all-read, sequence-exact, exactly-exact}
use Rattle.dw_loclists.specs.Entries.{Entry, end_of_list}
use Rattle.dw_loclists.specs.Lists.{Loclist, IsList, Table, table_header, starts_of, IsListOffset, IsTable, AreTables}
use Rattle.dw_loclists.specs.Reading.{list_at, all_of, lists_at, is_among, list_offset_at, table_at, tables_from, tables_of}
use Rattle.dw_loclists.proofs.EachEntry.{entry-some}
use Rattle.dw_loclists.proofs.EachList.{AreEntries, list-found, list-only, entries-in}

-- ---- lists without gaps

entries-some : (target : Target) (d : Bool) (at : ℕ) (bytes : List ℕ) (es : List Entry) → AreEntries target d at bytes es → 0 < length bytes
entries-some target d at bytes [] h = entry-some target at bytes end_of_list h
entries-some target d at bytes (e ∷ es) (first, rest, parts, here, fine, going, others) = let some =
    entry-some target at first e here in omega (arith, some, ap length parts, length-append first rest)

pub list-some : (target : Target) (at : ℕ) (bytes : List ℕ) (l : Loclist) → IsList target at bytes l → 0 < length bytes
list-some target at bytes l h = entries-some target false at bytes l.entries (entries-in target at bytes l h)

pub each-list : (target : Target) → ReadsEach target list_at (IsList target)
each-list target = record {
  exact = λ r same. record {
    found = λ l after is. list-found target r l after same is;
    only =
        λ l after h. list-only target r l after same h;
  };
  some = list-some target;
}

pub lists-forward : Forward list_at
lists-forward = forward list_at IsList each-list

abbrev Items : Type 0
Items = List (Result Loclist Fault)

abbrev whole : List Loclist → Result (List Loclist) Fault
whole ls = Ok ls

abbrev pub put_list : Loclist → Result (List Loclist) Fault → Result (List Loclist) Fault
put_list l others = others >>= λ ls. whole (l ∷ ls)

same-whole : (a b : List Loclist) → whole a ≡ whole b → a ≡ b
same-whole a b e = cc

all-found : (items : Items) (ls : List Loclist) → all_of items ≡ Ok ls → items ≡ all-read ls
all-found [] ls is = ap (λ (xs : List Loclist). all-read xs) (same-whole [] ls is)
all-found (Ok l ∷ items) ls is =
    let rest = bind-ok (all_of items) (λ xs. whole (l ∷ xs)) ls is in
    ap (λ (xs : Items). Ok l ∷ xs) (all-found items rest.0 rest.1)
    ∙ ap (λ (xs : List Loclist). all-read xs) (same-whole (l ∷ rest.0) ls rest.2)
all-found (Err f ∷ items) ls is = absurd (let never : Err f ≡ whole ls = is in cc)

all-only : (ls : List Loclist) → all_of (all-read ls) ≡ Ok ls
all-only [] = refl
all-only (l ∷ ls) = ap (put_list l) (all-only ls)

pub lists-found : (target : Target) (r : ReadPosition) (ls : List Loclist) → r.target ≡ target → lists_at r ≡ Ok ls
    → Sequence (IsList target) r.position r.rest ls
unfolding lists_at
lists-found target r ls same is =
    (sequence-exact target list_at (IsList target) (each-list target) r ls same).0 (all-found (sequence_of list_at r) ls is)

pub lists-only : (target : Target) (r : ReadPosition) (ls : List Loclist) → r.target ≡ target
    → Sequence (IsList target) r.position r.rest ls → lists_at r ≡ Ok ls
unfolding lists_at
lists-only target r ls same are =
    ap (λ (items : Items). all_of items) ((sequence-exact target list_at (IsList target) (each-list target) r ls same).1 are) ∙ all-only ls

-- where no bytes are left, reading lists gives none
pub lists-end : (r : ReadPosition) → length r.rest ≡ 0 → lists_at r ≡ Ok []
unfolding lists_at
lists-end r h = ap (λ (items : Items). all_of items) (ends list_at r h)

-- reading lists gives the first list and then what reading the lists after it gives
pub lists-more : (r : ReadPosition) (l : Loclist) (after : ReadPosition) → list_at r ≡ Ok (l, after)
    → lists_at r ≡ put_list l (lists_at after)
unfolding lists_at
lists-more r l after is = ap (λ (items : Items). all_of items) (goes-on list_at lists-forward r l after is)

-- if the first list has a fault, reading lists gives that fault
pub lists-stop : (r : ReadPosition) (f : Fault) → 0 < length r.rest → list_at r ≡ Err f → lists_at r ≡ Err f
unfolding lists_at
lists-stop r f some is = ap (λ (items : Items). all_of items) (stops list_at r f some is)

-- a result of reading lists, with more lists in front
abbrev pub put_lists : List Loclist → Result (List Loclist) Fault → Result (List Loclist) Fault
put_lists ls others = others >>= λ xs. whole (ls ++ xs)

pub put-one-list : (ls : List Loclist) (l : Loclist) (others : Result (List Loclist) Fault)
    → put_lists ls (put_list l others) ≡ put_lists (ls ++ l ∷ []) others
put-one-list ls l (Ok xs) = ap whole (sym (append_assoc ls (l ∷ []) xs))
put-one-list ls l (Err f) = refl

pub nothing-more : (ls : List Loclist) → ls ++ [] ≡ ls
nothing-more [] = refl
nothing-more (l ∷ ls) = ap (λ (t : List Loclist). l ∷ t) (nothing-more ls)

-- ---- the offsets in a table's array

start-found : (starts : List ℕ) (at : ℕ) → is_among at starts ≡ true → Contains starts at
start-found [] at is = absurd cc
start-found (n ∷ starts) at is = elim (either (n == at) (is_among at starts) is) [
  | inl e ↦ (0, omega arith, eqb-true n at e)
  | inr e ↦ let (k, lt, same) = start-found starts at e in (suc k, omega arith, same)
]
  where
    either : (b c : Bool) → (b || c) ≡ true → (b ≡ true) ⊎ (c ≡ true)
    either true c h = inl refl
    either false c h = inr h

start-only : (starts : List ℕ) (at : ℕ) → Contains starts at → is_among at starts ≡ true
start-only [] at (k, lt, is) = absurd (omega arith)
start-only (n ∷ starts) at (zero, lt, is) = ap (λ b. b || is_among at starts) (eq-eqb n at is)
start-only (n ∷ starts) at (suc k, lt, is) = ap (λ b. (n == at) || b) (start-only starts at (k, omega arith, is)) ∙ or-true (n == at)
  where
    or-true : (b : Bool) → (b || true) ≡ true
    or-true true = refl
    or-true false = refl

pub among-if : (starts : List ℕ) (at : ℕ) → Contains starts at → is_among at starts ≡ true
among-if = start-only

pub not-among : (starts : List ℕ) (at : ℕ) → (Contains starts at → ⊥) → is_among at starts ≡ false
not-among starts at never = which (is_among at starts) refl
  where
    which : (b : Bool) → is_among at starts ≡ b → is_among at starts ≡ false
    which true e = absurd (never (start-found starts at e))
    which false e = e

abbrev number : ℕ → ReadPosition → Result (ℕ × ReadPosition) Fault
number n r = Ok (n, r)

unchecked : (b : Bool) (at : ℕ) (x y : ℕ × ReadPosition) → ok_unless (unless b BadOffsetEntry) at x ≡ number y.0 y.1 → (b ≡ true) × (x ≡ y)
unchecked true at x y is = (refl, ok-is x y is)
unchecked false at x y is = absurd cc

pub list-offset-exact : (target : Target) (format : Format) (array : ℕ) (lists : List ℕ)
    → ExactAt target (list_offset_at format array lists) (IsListOffset target format array lists)
list-offset-exact target format array lists r same = record {
  found = λ v after is.
      let o =
      bind-ok (offset_at format r) (λ o. ok_unless (unless (is_among (array + o.0) lists) BadOffsetEntry) r.position o) (v, after) is in
      let ok = unchecked (is_among (array + o.0.0) lists) r.position o.0 (v, after) o.2 in
      let next = (offset-exact target format r same).found o.0.0 o.0.1 o.1 in
      subst (λ (p : ℕ × ReadPosition). Next (IsListOffset target format array lists r.position) r p.0 p.1) ok.1
      (record {
        bytes = next.bytes;
        encoded = (next.encoded, start-found lists (array + o.0.0) ok.0);
        parts = next.parts;
        position =
            next.position;
        target = next.target;
      });
  only = λ v after h.
      let read =
      (offset-exact target format r same).only v after
      (record { bytes = h.bytes; encoded = h.encoded.0; parts = h.parts; position = h.position; target = h.target }) in
      let start = start-only lists (array + v) h.encoded.1 in
      ap (λ (x : Result (ℕ × ReadPosition) Fault). x >>= λ o. ok_unless (unless (is_among (array + o.0) lists) BadOffsetEntry) r.position o)
      read
      ∙ ap (λ b. ok_unless (unless b BadOffsetEntry) r.position (v, after)) start;
}

-- bytes that encode offsets at which lists begin also encode these offsets without that condition
plain : (target : Target) (format : Format) (array : ℕ) (lists : List ℕ) (at : ℕ) (bytes os : List ℕ)
    → Sequence (IsListOffset target format array lists) at bytes os → Sequence (λ n. Offset target.order format) at bytes os
plain target format array lists at bytes [] h = h
plain target format array lists at bytes (o ∷ os) (first, rest, parts, here, others) =
    (first, rest, parts, here.0, plain target format array lists (at + length first) rest os others)

-- ---- a table

abbrev Frame : Type 0
Frame = (Format × ReadPosition) × ReadPosition

abbrev pub table-of : ℕ → Format → ℕ → List ℕ → List Loclist → Table
table-of at format array offsets lists = record { offset = at; format = format; array = array; offsets = offsets; lists = lists }

abbrev done : Table → ReadPosition → Result (Table × ReadPosition) Fault
done t r = Ok (t, r)

abbrev after-lists : ReadPosition → Frame → ℕ × ReadPosition → List Loclist → Result (Table × ReadPosition) Fault
after-lists r f h ls = exactly_of (list_offset_at f.0.0 h.1.position (starts_of ls)) h.0 h.1 >>= λ named. done
    (table-of r.position f.0.0 h.1.position named.0 ls) f.1

abbrev after-array : ReadPosition → Frame → ℕ × ReadPosition → List ℕ × ReadPosition → Result (Table × ReadPosition) Fault
after-array r f h os = lists_at os.1 >>= after-lists r f h

abbrev after-header : ReadPosition → Frame → ℕ × ReadPosition → Result (Table × ReadPosition) Fault
after-header r f h = exactly_of (offset_at f.0.0) h.0 h.1 >>= after-array r f h

abbrev after-frame : ReadPosition → Frame → Result (Table × ReadPosition) Fault
after-frame r f = fields_at (table_header r.target) f.0.1 >>= after-header r f

array-exact : (target : Target) (format : Format) (count : ℕ)
    → ExactAt target (exactly_of (offset_at format) count) (Exactly (λ at. Offset target.order format) count)
array-exact target format count =
    exactly-exact target (offset_at format) (λ at. Offset target.order format) (offset-exact target format) count

named-exact : (target : Target) (format : Format) (array : ℕ) (lists : List ℕ) (count : ℕ)
    → ExactAt target (exactly_of (list_offset_at format array lists) count) (Exactly (IsListOffset target format array lists) count)
named-exact target format array lists count =
    exactly-exact target (list_offset_at format array lists) (IsListOffset target format array lists)
    (list-offset-exact target format array lists) count

-- both readings of the array, without and with the check of its offsets, end at the same position
same-array : (target : Target) (format : Format) (array : ℕ) (lists : List ℕ) (count : ℕ) (r a b : ReadPosition) (os ns : List ℕ)
    → r.target ≡ target → exactly_of (offset_at format) count r ≡ Ok (os, a)
    → exactly_of (list_offset_at format array lists) count r ≡ Ok (ns, b) → a ≡ b
same-array target format array lists count r a b os ns same plain_is named_is =
    let h = (named-exact target format array lists count r same).found ns b named_is in
    let again =
    (array-exact target format count r same).only ns b
    (record {
      bytes = h.bytes;
      encoded = (plain target format array lists r.position h.bytes ns h.encoded.0, h.encoded.1);
      parts =
          h.parts;
      position = h.position;
      target = h.target;
    }) in
    ap (λ (p : List ℕ × ReadPosition). p.1) (ok-is {A = List ℕ} (os, a) (ns, b) (sym plain_is ∙ again))

table-parts : (r after mid end : ReadPosition) (format : Format) (body : ReadPosition) (count : ℕ) (os : List ℕ) (ls : List Loclist)
    → IsFramed r format body after → fields_at (table_header r.target) body ≡ Ok (count, mid)
    → exactly_of (list_offset_at format mid.position (starts_of ls)) count mid ≡ Ok (os, end) → lists_at end ≡ Ok ls
    → Next (IsTable r.target r.position) r (table-of r.position format mid.position os ls) after
table-parts r after mid end format body count os ls frame header_is named_is lists_are =
    let header = (fields-exact r.target (table_header r.target) body frame.body_target).found count mid header_is in
    let mid_target : mid.target ≡ r.target = header.target ∙ frame.body_target in
    let named = (named-exact r.target format mid.position (starts_of ls) count mid mid_target).found os end named_is in
    let lists = lists-found r.target end ls (named.target ∙ mid_target) lists_are in
    let body_is : body.rest ≡ header.bytes ++ (named.bytes ++ end.rest) =
    header.parts ∙ ap (λ (t : List ℕ). header.bytes ++ t) named.parts in
    record {
      bytes = frame.front ++ body.rest;
      encoded = record {
        front = frame.front;
        header = header.bytes;
        offsets = named.bytes;
        lists = end.rest;
        parts = ap (λ (t : List ℕ). frame.front ++ t) body_is;
        offset_is = refl;
        length_is = subst (λ (t : List ℕ). InitialLengthPair r.target.order frame.front (format, length t)) body_is frame.length_is;
        header_is = subst (λ n. Encodes r.target (table_header r.target) (r.position + length frame.front) header.bytes n)
            (sym named.encoded.1) (subst (λ p. Encodes r.target (table_header r.target) p header.bytes count) frame.body_position
            header.encoded);
        array_is = omega (arith, header.position, frame.body_position);
        offsets_are = named.encoded.0;
        lists_are = subst (λ p. Sequence (IsList r.target) p end.rest ls) named.position lists;
      };
      parts = frame.parts ∙ sym (append_assoc frame.front body.rest after.rest);
      position = omega (arith, frame.position, frame.body_position, length-append frame.front body.rest);
      target = frame.target;
    }

pub table-found : (r : ReadPosition) (t : Table) (after : ReadPosition) → table_at r ≡ Ok (t, after)
    → Next (IsTable r.target r.position) r t after
unfolding table_at
table-found r t after is =
    let f = bind-ok (framed_at r) (after-frame r) (t, after) is in
    let h = bind-ok (fields_at (table_header r.target) f.0.0.1) (after-header r f.0) (t, after) f.2 in
    let os = bind-ok (exactly_of (offset_at f.0.0.0) h.0.0 h.0.1) (after-array r f.0 h.0) (t, after) h.2 in
    let ls = bind-ok (lists_at os.0.1) (after-lists r f.0 h.0) (t, after) os.2 in
    let ns =
    bind-ok (exactly_of (list_offset_at f.0.0.0 h.0.1.position (starts_of ls.0)) h.0.0 h.0.1)
    (λ named. done (table-of r.position f.0.0.0 h.0.1.position named.0 ls.0) f.0.1) (t, after) ls.2 in
    let frame = framed-found r f.0.0.0 f.0.0.1 f.0.1 f.1 in
    let header = (fields-exact r.target (table_header r.target) f.0.0.1 frame.body_target).found h.0.0 h.0.1 h.1 in
    let end_is =
    same-array r.target f.0.0.0 h.0.1.position (starts_of ls.0) h.0.0 h.0.1 os.0.1 ns.0.1 os.0.0 ns.0.0 (header.target ∙ frame.body_target)
    os.1 ns.1 in
    let lists : lists_at ns.0.1 ≡ whole ls.0 = subst (λ (p : ReadPosition). lists_at p ≡ whole ls.0) end_is ls.1 in
    let made = table-parts r f.0.1 h.0.1 ns.0.1 f.0.0.0 f.0.0.1 h.0.0 ns.0.0 ls.0 frame h.1 ns.1 lists in
    subst (λ (p : Table × ReadPosition). Next (IsTable r.target r.position) r p.0 p.1)
    (ok-is {A = Table} (table-of r.position f.0.0.0 h.0.1.position ns.0.0 ls.0, f.0.1) (t, after) ns.2) made

pub table-only : (r : ReadPosition) (t : Table) (after : ReadPosition) → Next (IsTable r.target r.position) r t after
    → table_at r ≡ Ok (t, after)
unfolding table_at
table-only r t after next =
    let s = next.encoded in
    let body : ReadPosition =
    record { target = r.target; position = r.position + length s.front; rest = s.header ++ (s.offsets ++ s.lists) } in
    let mid : ReadPosition =
    record { target = r.target; position = r.position + length s.front + length s.header; rest = s.offsets ++ s.lists } in
    let end : ReadPosition =
    record { target = r.target; position = r.position + length s.front + length s.header + length s.offsets; rest = s.lists } in
    let count = length t.offsets in
    let array : t.array ≡ mid.position = s.array_is in
    let one = framed-only r t.format body after (record {
      front = s.front;
      length_is = s.length_is;
      parts = next.parts ∙ ap (λ (u : List ℕ). u ++ after.rest) s.parts
          ∙ append_assoc s.front (s.header ++ (s.offsets ++ s.lists)) after.rest;
      body_position = refl;
      body_target = refl;
      position = omega (arith, next.position, ap length s.parts, length-append s.front (s.header ++ (s.offsets ++ s.lists)));
      target = next.target;
    }) in
    let two =
    (fields-exact r.target (table_header r.target) body refl).only count mid
    (record { bytes = s.header; encoded = s.header_is; parts = refl; position = refl; target = refl }) in
    let offsets : Sequence (IsListOffset r.target t.format mid.position (starts_of t.lists)) mid.position s.offsets t.offsets =
    subst (λ n. Sequence (IsListOffset r.target t.format n (starts_of t.lists)) n s.offsets t.offsets) array s.offsets_are in
    let three =
    (array-exact r.target t.format count mid refl).only t.offsets end
    (record {
      bytes = s.offsets;
      encoded =
          (plain r.target t.format mid.position (starts_of t.lists) mid.position s.offsets t.offsets offsets, refl);
      parts = refl;
      position =
          refl;
      target = refl;
    }) in
    let four =
    lists-only r.target end t.lists refl (subst (λ n. Sequence (IsList r.target) (n + length s.offsets) s.lists t.lists) array s.lists_are)
    in
    let five =
    (named-exact r.target t.format mid.position (starts_of t.lists) count mid refl).only t.offsets end
    (record { bytes = s.offsets; encoded = (offsets, refl); parts = refl; position = refl; target = refl }) in
    ap (λ x. x >>= after-frame r) one
    ∙ (ap (λ x. x >>= after-header r ((t.format, body), after)) two
    ∙ (ap (λ x. x >>= after-array r ((t.format, body), after) (count, mid)) three
    ∙ (ap (λ x. x >>= after-lists r ((t.format, body), after) (count, mid)) four
    ∙ (ap (λ (x : Result (List ℕ × ReadPosition) Fault). x >>= λ named. done (table-of r.position t.format mid.position named.0 t.lists)
    after) five
    ∙ (ap (λ n. done (table-of n t.format mid.position t.offsets t.lists) after) (sym s.offset_is)
    ∙ ap (λ n. done (table-of t.offset t.format n t.offsets t.lists) after) (sym array))))))

-- an encoded initial length has at least one byte
pub some-length : (order : Order) (bytes : List ℕ) (format : Format) (v : ℕ) → InitialLength order bytes format v → 0 < length bytes
some-length order bytes Dwarf32 v h = omega (arith, h.0.count)
some-length order bytes Dwarf64 v (mark, rest, parts, first, second) = omega (arith, first.count, ap length parts, length-append mark rest)

pub table-some : (target : Target) (at : ℕ) (bytes : List ℕ) (t : Table) → IsTable target at bytes t → 0 < length bytes
table-some target at bytes t s =
    let some = some-length target.order s.front t.format (length (s.header ++ (s.offsets ++ s.lists))) s.length_is in
    omega (arith, some, ap length s.parts, length-append s.front (s.header ++ (s.offsets ++ s.lists)))

pub each-table : (target : Target) → ReadsEach target table_at (IsTable target)
each-table target = record {
  exact = λ r same.
      let own : IsExact table_at (IsTable r.target r.position) r = record { found = table-found r; only = table-only r } in
      subst (λ (t : Target). IsExact table_at (IsTable t r.position) r) same own;
  some = table-some target;
}

pub tables-forward : Forward table_at
tables-forward = forward table_at IsTable each-table

pub sections-are-tables : (target : Target) (section : List ℕ) (tables : List Table)
    → (tables_of target section ≡ all-read tables) ↔ AreTables target 0 section tables
unfolding tables_from
sections-are-tables target section tables =
    sequence-exact target table_at (IsTable target) (each-table target) (section_from target section 0) tables refl

-- ---- reading a section from an offset on

pub at-end : (target : Target) (section : List ℕ) (at : ℕ) → length section ≤ at → tables_from target section at ≡ []
unfolding tables_from
at-end target section at h = ends table_at (section_from target section at) (omega (arith, length-drop at section))

pub at-fault : (target : Target) (section : List ℕ) (at : ℕ) (fault : Fault) → at < length section
    → table_at (section_from target section at) ≡ Err fault → tables_from target section at ≡ Err fault ∷ []
unfolding tables_from
at-fault target section at fault h is = stops table_at (section_from target section at) fault (omega (arith, length-drop at section)) is

pub at-table : (target : Target) (section : List ℕ) (at next : ℕ) (t : Table)
    → table_at (section_from target section at) ≡ Ok (t, section_from target section next)
    → tables_from target section at ≡ Ok t ∷ tables_from target section next
unfolding tables_from
at-table target section at next t is =
    goes-on table_at tables-forward (section_from target section at) t (section_from target section next) is

-- ---- reading a table's lists one at a time

pub next-list : (r s after : ReadPosition) (ls : List Loclist) (l : Loclist) → lists_at r ≡ put_lists ls (lists_at s)
    → list_at s ≡ Ok (l, after) → lists_at r ≡ put_lists (ls ++ l ∷ []) (lists_at after)
next-list r s after ls l so_far is = so_far ∙ (ap (put_lists ls) (lists-more s l after is) ∙ put-one-list ls l (lists_at after))

pub last-list : (r s : ReadPosition) (ls : List Loclist) → lists_at r ≡ put_lists ls (lists_at s) → length s.rest ≡ 0 → lists_at r ≡ Ok ls
last-list r s ls so_far h = so_far ∙ (ap (put_lists ls) (lists-end s h) ∙ ap whole (nothing-more ls))

pub bad-list : (r s : ReadPosition) (ls : List Loclist) (f : Fault) → lists_at r ≡ put_lists ls (lists_at s) → 0 < length s.rest
    → list_at s ≡ Err f → lists_at r ≡ Err f
bad-list r s ls f so_far some is = so_far ∙ ap (put_lists ls) (lists-stop s f some is)

pub list-begins : (r : ReadPosition) (l : Loclist) (after : ReadPosition) → list_at r ≡ Ok (l, after) → l.offset ≡ r.position
list-begins r l after is = (list-found r.target r l after refl is).encoded.offset_is

-- ---- an offset of the array when it is read the second time

pub offset-refused : (format : Format) (array : ℕ) (starts : List ℕ) (r : ReadPosition) (f : Fault) → offset_at format r ≡ Err f
    → list_offset_at format array starts r ≡ Err f
offset-refused format array starts r f is =
    ap (λ (x : Result (ℕ × ReadPosition) Fault). x >>= λ o.
    ok_unless (unless (is_among (array + o.0) starts) BadOffsetEntry) r.position o) is

pub offset-good : (format : Format) (array : ℕ) (starts : List ℕ) (r after : ReadPosition) (v : ℕ) → offset_at format r ≡ Ok (v, after)
    → Contains starts (array + v) → list_offset_at format array starts r ≡ Ok (v, after)
offset-good format array starts r after v is among =
    ap (λ (x : Result (ℕ × ReadPosition) Fault). x >>= λ o.
    ok_unless (unless (is_among (array + o.0) starts) BadOffsetEntry) r.position o) is
    ∙ ap (λ b. ok_unless (unless b BadOffsetEntry) r.position (v, after)) (among-if starts (array + v) among)

pub offset-bad : (format : Format) (array : ℕ) (starts : List ℕ) (r after : ReadPosition) (v at : ℕ) → r.position ≡ at
    → offset_at format r ≡ Ok (v, after) → (Contains starts (array + v) → ⊥)
    → list_offset_at format array starts r ≡ Err (record { kind = BadOffsetEntry; at = at })
offset-bad format array starts r after v at here is never =
    ap (λ (x : Result (ℕ × ReadPosition) Fault). x >>= λ o.
    ok_unless (unless (is_among (array + o.0) starts) BadOffsetEntry) r.position o) is
    ∙ (ap (λ b. ok_unless (unless b BadOffsetEntry) r.position (v, after)) (not-among starts (array + v) never)
    ∙ ap (λ n. ok_unless (unless false BadOffsetEntry) n (v, after)) here)

-- ---- reading a table field by field

pub table-made : (r after mid end last : ReadPosition) (format : Format) (body : ReadPosition) (count : ℕ) (os ns : List ℕ)
    (ls : List Loclist)
    → framed_at r ≡ Ok ((format, body), after) → fields_at (table_header r.target) body ≡ Ok (count, mid)
    → exactly_of (offset_at format) count mid ≡ Ok (os, end) → lists_at end ≡ Ok ls
    → exactly_of (list_offset_at format mid.position (starts_of ls)) count mid ≡ Ok (ns, last)
    → table_at r ≡ Ok (table-of r.position format mid.position ns ls, after)
unfolding table_at
table-made r after mid end last format body count os ns ls one two three four five =
    ap (λ x. x >>= after-frame r) one
    ∙ (ap (λ x. x >>= after-header r ((format, body), after)) two
    ∙ (ap (λ x. x >>= after-array r ((format, body), after) (count, mid)) three
    ∙ (ap (λ x. x >>= after-lists r ((format, body), after) (count, mid)) four
    ∙ ap (λ (x : Result (List ℕ × ReadPosition) Fault). x >>= λ named. done (table-of r.position format mid.position named.0 ls) after)
    five)))

pub table-unnamed : (r after mid end : ReadPosition) (format : Format) (body : ReadPosition) (count : ℕ) (os : List ℕ) (ls : List Loclist)
    (f : Fault)
    → framed_at r ≡ Ok ((format, body), after) → fields_at (table_header r.target) body ≡ Ok (count, mid)
    → exactly_of (offset_at format) count mid ≡ Ok (os, end) → lists_at end ≡ Ok ls
    → exactly_of (list_offset_at format mid.position (starts_of ls)) count mid ≡ Err f → table_at r ≡ Err f
unfolding table_at
table-unnamed r after mid end format body count os ls f one two three four five =
    ap (λ x. x >>= after-frame r) one
    ∙ (ap (λ x. x >>= after-header r ((format, body), after)) two
    ∙ (ap (λ x. x >>= after-array r ((format, body), after) (count, mid)) three
    ∙ (ap (λ x. x >>= after-lists r ((format, body), after) (count, mid)) four
    ∙ ap (λ (x : Result (List ℕ × ReadPosition) Fault). x >>= λ named. done (table-of r.position format mid.position named.0 ls) after)
    five)))

-- after the header is read, what is left to read is the section from the new position on
pub header-leaves : (target : Target) (section : List ℕ) (start count : ℕ) (mid : ReadPosition) → start ≤ length section
    → fields_at (table_header target) (section_from target section start) ≡ Ok (count, mid) → mid ≡ section_from target section mid.position
header-leaves target section start count mid inside is =
    leaves-suffix target (fields_at (table_header target)) (Encodes target (table_header target))
    (fields-exact target (table_header target)) section start count mid inside is

-- ---- the lists of a table among all lists that are stored

take-whole : {X : Type 0} (xs : List X) (n : ℕ) → n ≡ length xs → take n xs ≡ xs
take-whole xs n is = ap (λ k. take k xs) is ∙ take_all (length xs) xs (omega arith)

pub new-starts : {X : Type 0} (f : X → ℕ) (old new : List X) (starts : List ℕ) → map f new ≡ map f old ++ starts
    → map f (take (length new - length old) (drop (length old) new)) ≡ starts
new-starts {X} f [] new starts is = ap (λ (xs : List X). map f xs) (take-whole new (length new - 0) (omega arith)) ∙ is
new-starts f (o ∷ old) [] starts is = absurd (let never : [] ≡ f o ∷ (map f old ++ starts) = is in cc)
new-starts {X} f (o ∷ old) (n ∷ new) starts is =
    let rest : map f new ≡ map f old ++ starts = ap (λ (xs : List ℕ). drop 1 xs) is in
    let fewer : suc (length new) - suc (length old) ≡ length new - length old = omega arith in
    ap (λ k. map f (take k (drop (length old) new))) fewer ∙ new-starts f old new starts rest
