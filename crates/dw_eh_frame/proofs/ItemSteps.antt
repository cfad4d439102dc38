-- Reading on after records that can't be read.
use Rattle.std.proofs.Common.{◌≡◌, ℕ, zero, suc, ◌+◌, ◌-◌, ◌<◌, ◌≤◌, Bool, List, [], ◌∷◌, ◌++◌, length, Contains, Result, Ok, Err, refl, sym, ap, subst, ◌∙◌, append_assoc, arith, inl, inr}
use Rattle.std.proofs.lemmas.Bool.{cases_lt}
use Rattle.std.proofs.lemmas.List.{length-append, length-drop}
use Rattle.dw_bytes.specs.declared.target.Target.{Target}
use Rattle.dw_bytes.specs.declared.target.Format.{Format}
use Rattle.dw_bytes.specs.declared.fault.Fault.{Fault}
use Rattle.dw_bytes.specs.Answers.{values_in}
use Rattle.dw_bytes.specs.Reading.{ReadPosition, ◌>>=◌, section_from}
use Rattle.dw_bytes.specs.Bodies.{framed_at}
use Rattle.dw_bytes.proofs.Bodies.{framed-found}
use Rattle.dw_bytes.proofs.Readers.{same-reading}
use Rattle.dw_bytes.proofs.Sequences.{Forward, goes-on, stops, ends}
use Rattle.dw_frame.proofs.EachRecord.{some-length}
use Rattle.dw_eh_frame.specs.declared.pointer.Bases.{Bases}
use Rattle.dw_eh_frame.specs.Records.{EhCie, EhFde, EhRecord, eh_cie, eh_body_at, eh_cie_at}
use Rattle.dw_eh_frame.specs.Items.{Item, item_at, items_from, items_of}
use Rattle.dw_eh_frame.specs.Views.{HasCieAtItsPlace}
use Rattle.dw_eh_frame.proofs.ExactCases.{body-parts, cie-at-is, cie-before-parts, cie-offset, fde-from-parts, record-is}
use Rattle.dw_eh_frame.proofs.ExactRecords.{left}

-- each record takes at least one byte
framed-forward : (r : ReadPosition) (format : Format) (body after : ReadPosition) → framed_at r ≡ Ok ((format, body), after)
    → length after.rest < length r.rest
framed-forward r format body after is =
    let found = framed-found r format body after is in
    let some = some-length r.target.order found.front format (length body.rest) found.length_is in
    omega (arith, some, ap length found.parts, length-append found.front (body.rest ++ after.rest), length-append body.rest after.rest)

abbrev Framed : Type 0
Framed = (Format × ReadPosition) × ReadPosition

items-forward : (is_aarch64 : Bool) (bases : Bases) (section : List ℕ) → Forward (item_at is_aarch64 bases section)
unfolding item_at
items-forward is_aarch64 bases section r x after is = go (framed_at r) refl is
  where
    go : (f : Result Framed Fault) → framed_at r ≡ f
        → ◌>>=◌ {Y = Item × ReadPosition} f (λ framed. Ok ((r.position, eh_body_at is_aarch64 bases section r.position framed.0.0 framed.0.1), framed.1))
        ≡ Ok (x, after)
        → length after.rest < length r.rest
    go (Ok ((format, body), next)) framed same =
        let pair : ◌≡◌ {A = Item × ReadPosition} ((r.position, eh_body_at is_aarch64 bases section r.position format body), next) (x, after) = cc in
        let there : next ≡ after = ap (λ (p : Item × ReadPosition). p.1) pair in
        framed-forward r format body after (framed ∙ ap (λ (n : ReadPosition). Ok ((format, body), n)) there)
    go (Err fault) framed same = absurd cc

-- ---- laws

pub next-item : (is_aarch64 : Bool) (bases : Bases) (target : Target) (section : List ℕ) (at next : ℕ) (x : Item)
    → item_at is_aarch64 bases section (section_from target section at) ≡ Ok (x, section_from target section next)
    → items_from is_aarch64 bases target section at ≡ Ok x ∷ items_from is_aarch64 bases target section next
unfolding items_from
next-item is_aarch64 bases target section at next x is = goes-on (item_at is_aarch64 bases section)
    (items-forward is_aarch64 bases section)
    (section_from target section at) x (section_from target section next) is

pub no-item : (is_aarch64 : Bool) (bases : Bases) (target : Target) (section : List ℕ) (at : ℕ) → length section ≤ at
    → items_from is_aarch64 bases target section at ≡ []
unfolding items_from
no-item is_aarch64 bases target section at past = ends (item_at is_aarch64 bases section) (section_from target section at)
    (omega (arith, length-drop at section))

pub bad-length : (is_aarch64 : Bool) (bases : Bases) (target : Target) (section : List ℕ) (at : ℕ) (fault : Fault)
    → at < length section
    → item_at is_aarch64 bases section (section_from target section at) ≡ Err fault
    → items_from is_aarch64 bases target section at ≡ Err fault ∷ []
unfolding items_from
bad-length is_aarch64 bases target section at fault inside is = stops (item_at is_aarch64 bases section)
    (section_from target section at) fault (omega (arith, length-drop at section)) is

-- ---- CIEs at their places

abbrev fine-cie : EhCie → Result EhCie Fault
fine-cie c = Ok c

-- a record that is read has its CIE
has-place : (is_aarch64 : Bool) (bases : Bases) (target : Target) (section : List ℕ) (at : ℕ) (format : Format) (body after : ReadPosition) (x : EhRecord)
    → framed_at (section_from target section at) ≡ Ok ((format, body), after)
    → eh_body_at is_aarch64 bases section at format body ≡ Ok x → HasCieAtItsPlace is_aarch64 target section x
has-place is_aarch64 bases target section at format body after x framed read = elim (body-parts is_aarch64 bases section at format body x read) [
  | inl nothing ↦ subst (HasCieAtItsPlace is_aarch64 target section) (sym nothing.record_is) tt
  | inr (inl cie) ↦
      let here = subst (λ (y : EhRecord). eh_body_at is_aarch64 bases section at format body ≡ Ok y) cie.record_is read in
      let found = cie-at-is is_aarch64 bases target section at cie.cie after
      (record-is is_aarch64 bases section (section_from target section at) (eh_cie cie.cie) format body after framed here) in
      subst (HasCieAtItsPlace is_aarch64 target section) (sym cie.record_is)
      (ap (λ n. eh_cie_at is_aarch64 target section n) (cie-offset is_aarch64 target section at cie.cie found) ∙ found)
  | inr (inr fde) ↦
      let frame = framed-found (section_from target section at) format body after framed in
      let before = cie-before-parts is_aarch64 body.target section body.position fde.back fde.cie fde.cie_is in
      let found = subst (λ (t : Target). eh_cie_at is_aarch64 t section (body.position - fde.back) ≡ Ok fde.cie) frame.body_target before.1 in
      let parts = fde-from-parts bases at format body.position fde.cie fde.mid fde.fde fde.fde_is in
      let pointer = ap (λ (e : EhFde). e.fde.cie_pointer) parts.3 in
      let own = ap (λ (e : EhFde). e.cie) parts.3 in
      subst (HasCieAtItsPlace is_aarch64 target section) (sym fde.record_is)
      (ap (λ n. eh_cie_at is_aarch64 target section n)
      (pointer ∙ cie-offset is_aarch64 target section (body.position - fde.back) fde.cie found)
      ∙ (found ∙ ap (λ (c : EhCie). fine-cie c) (sym own)))
]

-- the record, if it could be read, has its CIE
abbrev HasPlace : Bool → Target → List ℕ → Item → Type 0
HasPlace is_aarch64 target section (at, Ok x) = HasCieAtItsPlace is_aarch64 target section x
HasPlace is_aarch64 target section (at, Err fault) = Unit {0}

item-has : (is_aarch64 : Bool) (bases : Bases) (target : Target) (section : List ℕ) (at : ℕ) (format : Format) (body after : ReadPosition)
    → framed_at (section_from target section at) ≡ Ok ((format, body), after) → (read : Result EhRecord Fault)
    → eh_body_at is_aarch64 bases section at format body ≡ read → HasPlace is_aarch64 target section (at, read)
item-has is_aarch64 bases target section at format body after framed (Ok x) read =
    has-place is_aarch64 bases target section at format body after x framed read
item-has is_aarch64 bases target section at format body after framed (Err fault) read = tt

-- A step of reading: the item has its CIE, and what is left is the section from a later offset on.
record Step (is_aarch64 : Bool) (target : Target) (section : List ℕ) (at : ℕ) (item : Item) (after : ReadPosition) : Type 0 where
  next : ℕ
  later : at < next
  left : after ≡ section_from target section next
  has : HasPlace is_aarch64 target section item

step : (is_aarch64 : Bool) (bases : Bases) (target : Target) (section : List ℕ) (at : ℕ) (item : Item) (after : ReadPosition)
    → item_at is_aarch64 bases section (section_from target section at) ≡ Ok (item, after) → Step is_aarch64 target section at item after
unfolding item_at
step is_aarch64 bases target section at item after is = go (framed_at (section_from target section at)) refl is
  where
    go : (f : Result Framed Fault) → framed_at (section_from target section at) ≡ f
        → ◌>>=◌ {Y = Item × ReadPosition} f (λ framed. Ok ((at, eh_body_at is_aarch64 bases section at framed.0.0 framed.0.1), framed.1))
        ≡ Ok (item, after)
        → Step is_aarch64 target section at item after
    go (Ok ((format, body), next)) framed same =
        let pair : ◌≡◌ {A = Item × ReadPosition} ((at, eh_body_at is_aarch64 bases section at format body), next) (item, after) = cc in
        let there : next ≡ after = ap (λ (p : Item × ReadPosition). p.1) pair in
        let is_item : (at, eh_body_at is_aarch64 bases section at format body) ≡ item = ap (λ (p : Item × ReadPosition). p.0) pair in
        let whole = framed ∙ ap (λ (n : ReadPosition). Ok ((format, body), n)) there in
        let found = framed-found (section_from target section at) format body after whole in
        let some = some-length target.order found.front format (length body.rest) found.length_is in
        record {
          next = at + length (found.front ++ body.rest);
          later = omega (arith, some, length-append found.front body.rest);
          left = same-reading after (section_from target section (at + length (found.front ++ body.rest))) found.target
              (omega (arith, found.position, found.body_position, length-append found.front body.rest))
              (left section (found.front ++ body.rest) after.rest at
              (found.parts ∙ sym (append_assoc found.front body.rest after.rest)));
          has = subst (HasPlace is_aarch64 target section) is_item (item-has is_aarch64 bases target section at format body after whole
              (eh_body_at is_aarch64 bases section at format body) refl);
        }
    go (Err fault) framed same = absurd cc

-- all items from an offset on have their CIEs
abbrev AllHave : Bool → Bases → Target → List ℕ → ℕ → Type 0
AllHave is_aarch64 bases target section at = (item : Item) → Contains (values_in (items_from is_aarch64 bases target section at)) item
    → HasPlace is_aarch64 target section item

none-have : (is_aarch64 : Bool) (bases : Bases) (target : Target) (section : List ℕ) (at : ℕ) (items : List (Result Item Fault))
    → items_from is_aarch64 bases target section at ≡ items → length (values_in {X = Item} items) ≡ 0 → AllHave is_aarch64 bases target section at
none-have is_aarch64 bases target section at items are none item among =
    let (k, less, is) = subst (λ (l : List (Result Item Fault)). Contains (values_in l) item) are among in absurd (omega (arith, none, less))

more-have : (is_aarch64 : Bool) (bases : Bases) (target : Target) (section : List ℕ) (at next : ℕ) (first : Item)
    → items_from is_aarch64 bases target section at ≡ Ok first ∷ items_from is_aarch64 bases target section next
    → HasPlace is_aarch64 target section first → AllHave is_aarch64 bases target section next → AllHave is_aarch64 bases target section at
more-have is_aarch64 bases target section at next first are has others item among =
    go (subst (λ (l : List (Result Item Fault)). Contains (values_in l) item) are among)
  where
    go : Contains (first ∷ values_in (items_from is_aarch64 bases target section next)) item → HasPlace is_aarch64 target section item
    go (zero, less, same) = subst (HasPlace is_aarch64 target section) same has
    go (suc k, less, same) = others item (k, omega arith, same)

at-some : (is_aarch64 : Bool) (bases : Bases) (target : Target) (section : List ℕ) (at : ℕ) → at < length section
    → ((next : ℕ) → at < next → AllHave is_aarch64 bases target section next) → (x : Result (Item × ReadPosition) Fault)
    → item_at is_aarch64 bases section (section_from target section at) ≡ x → AllHave is_aarch64 bases target section at
at-some is_aarch64 bases target section at some later (Err fault) is =
    none-have is_aarch64 bases target section at (Err fault ∷ []) (bad-length is_aarch64 bases target section at fault some is) refl
at-some is_aarch64 bases target section at some later (Ok (first, after)) is =
    let s = step is_aarch64 bases target section at first after is in
    more-have is_aarch64 bases target section at s.next first
    (next-item is_aarch64 bases target section at s.next first (is ∙ ap (λ (r : ReadPosition). Ok (first, r)) s.left)) s.has (later s.next s.later)

items-have : (n : ℕ) (is_aarch64 : Bool) (bases : Bases) (target : Target) (section : List ℕ) (at : ℕ) → length section ≤ at + n
    → AllHave is_aarch64 bases target section at
items-have zero is_aarch64 bases target section at few =
    none-have is_aarch64 bases target section at [] (no-item is_aarch64 bases target section at (omega (arith, few))) refl
items-have (suc n) is_aarch64 bases target section at few = elim (cases_lt at (length section)) [
  | inl some ↦ at-some is_aarch64 bases target section at some
      (λ next less. items-have n is_aarch64 bases target section next (omega (arith, few, less)))
      (item_at is_aarch64 bases section (section_from target section at)) refl
  | inr none ↦ none-have is_aarch64 bases target section at [] (no-item is_aarch64 bases target section at (omega (arith, none))) refl
]

pub items-have-their-cies : (is_aarch64 : Bool) (bases : Bases) (target : Target) (section : List ℕ) (at : ℕ) (x : EhRecord)
    → Contains (values_in (items_of is_aarch64 bases target section)) (at, Ok x) → HasCieAtItsPlace is_aarch64 target section x
items-have-their-cies is_aarch64 bases target section at x among =
    items-have (length section) is_aarch64 bases target section 0 (omega arith) (at, Ok x) among
