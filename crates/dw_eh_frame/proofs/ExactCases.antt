-- What reading the body of a record gives, by cases: nothing, a CIE or an FDE.
use Rattle.std.proofs.Common.{◌≡◌, ℕ, ◌-◌, ◌≤◌, Bool, true, false, cond, eqb, leb, List, length, Result, Ok, Err, refl, sym, ap, ◌∙◌, inl}
use Rattle.std.proofs.Common.{inr}
use Rattle.std.specs.Prelude.{◌⊎◌}
use Rattle.std.proofs.lemmas.Bool.{eqb-true, eq-eqb, leb-true, le-leb}
use Rattle.dw_bytes.specs.declared.target.Target.{Target}
use Rattle.dw_bytes.specs.declared.target.Format.{Format}
use Rattle.dw_bytes.specs.declared.fault.Fault.{Fault}
use Rattle.dw_bytes.specs.declared.fault.FaultKind.TheVariants.{NoSuchCie}
use Rattle.dw_bytes.specs.Reading.{ReadPosition, ◌>>=◌, section_from, fixed_at}
use Rattle.dw_bytes.specs.Bodies.{framed_at}
use Rattle.dw_bytes.proofs.Readers.{bind-ok, ok-is}
use Rattle.dw_eh_frame.specs.declared.augmentation.Augmentation.{Augmentation}
use Rattle.dw_eh_frame.specs.declared.pointer.Bases.{Bases}
use Rattle.dw_eh_frame.specs.Pointers.{pointer_at, range_at}
use Rattle.dw_eh_frame.specs.Records.{EhCieHead, EhCie, EhFde, EhRecord, eh_cie, eh_fde, eh_nothing, eh_cie_head_at, eh_cie_with}
use Rattle.dw_eh_frame.specs.Records.{eh_cie_from, eh_cie_at}
use Rattle.dw_eh_frame.specs.Records.{no_such_cie, eh_cie_before, eh_area_at, eh_fde_with, eh_fde_from, eh_full_at, eh_body_at}
use Rattle.dw_eh_frame.specs.Records.{eh_record_at}
use Rattle.dw_eh_frame.proofs.ExactPointers.{fde_head_at}

abbrev fine : {A : Type 0} → A → Result A Fault
fine a = Ok a

chosen : {A : Type 0} (b : Bool) (x y z : A) → cond b x y ≡ z → ((b ≡ true) × (x ≡ z)) ⊎ ((b ≡ false) × (y ≡ z))
chosen true x y z e = inl (refl, e)
chosen false x y z e = inr (refl, e)

-- ---- a CIE

pub cie-from-parts : (is_aarch64 : Bool) (at : ℕ) (format : Format) (r : ReadPosition) (c : EhCie)
    → eh_cie_from is_aarch64 at format r ≡ Ok c
    → (head : EhCieHead) × (after : ReadPosition) × (eh_cie_head_at r ≡ Ok (head, after)) ×
    (c ≡ eh_cie_with is_aarch64 at format head after)
unfolding eh_cie_from
cie-from-parts is_aarch64 at format r c is =
    let h = bind-ok (eh_cie_head_at r) (λ head. fine (eh_cie_with is_aarch64 at format head.0 head.1)) c is in
    (h.0.0, h.0.1, h.1, cc (h.2))

pub cie-from-is : (is_aarch64 : Bool) (at : ℕ) (format : Format) (r : ReadPosition) (head : EhCieHead) (after : ReadPosition)
    → eh_cie_head_at r ≡ Ok (head, after) → eh_cie_from is_aarch64 at format r ≡ Ok (eh_cie_with is_aarch64 at format head after)
unfolding eh_cie_from
cie-from-is is_aarch64 at format r head after is =
    ap (λ (x : Result (EhCieHead × ReadPosition) Fault). x >>= λ h. fine (eh_cie_with is_aarch64 at format h.0 h.1)) is

cie-from-offset : (is_aarch64 : Bool) (at : ℕ) (format : Format) (r : ReadPosition) (c : EhCie) → eh_cie_from is_aarch64 at format r ≡ Ok c
    → c.cie.offset ≡ at
cie-from-offset is_aarch64 at format r c is = let h = cie-from-parts is_aarch64 at format r c is in ap (λ (x : EhCie). x.cie.offset) h.3

-- the record that a CIE is begins where the CIE was looked for
pub cie-offset : (is_aarch64 : Bool) (target : Target) (section : List ℕ) (at : ℕ) (c : EhCie)
    → eh_cie_at is_aarch64 target section at ≡ Ok c → c.cie.offset ≡ at
unfolding eh_cie_at
cie-offset is_aarch64 target section at c is =
    let nowhere : Fault = record { kind = NoSuchCie; at = at } in
    let f = bind-ok (framed_at (section_from target section at)) (λ framed. fixed_at 4 framed.0.1 >>= λ id.
    cond (eqb id.0 0) (eh_cie_from is_aarch64 at framed.0.0 id.1) (Err nowhere)) c is in
    let id = bind-ok (fixed_at 4 f.0.0.1) (λ id. cond (eqb id.0 0) (eh_cie_from is_aarch64 at f.0.0.0 id.1) (Err nowhere)) c f.2 in
    elim (chosen (eqb id.0.0 0) (eh_cie_from is_aarch64 at f.0.0.0 id.0.1) (Err nowhere) (fine c) id.2) [
      | inl w ↦ cie-from-offset is_aarch64 at f.0.0.0 id.0.1 c w.1
      | inr w ↦ let no : Err nowhere ≡ fine c = w.1 in absurd cc
    ]

-- ---- the CIE of an FDE

same-cie : (place : ℕ) (x : Result EhCie Fault) (c : EhCie) → no_such_cie place x ≡ fine c → x ≡ fine c
same-cie place (Ok y) c is = is
same-cie place (Err fault) c is = absurd cc

pub cie-before-parts : (is_aarch64 : Bool) (target : Target) (section : List ℕ) (place back : ℕ) (c : EhCie)
    → eh_cie_before is_aarch64 target section place back ≡ Ok c
    → (back ≤ place) × (eh_cie_at is_aarch64 target section (place - back) ≡ Ok c)
cie-before-parts is_aarch64 target section place back c is =
    let nowhere : Fault = record { kind = NoSuchCie; at = place } in
    elim (chosen (leb back place) (no_such_cie place (eh_cie_at is_aarch64 target section (place - back))) (Err nowhere) (fine c) is) [
      | inl w ↦ (leb-true back place w.0, same-cie place (eh_cie_at is_aarch64 target section (place - back)) c w.1)
      | inr w ↦ let no : Err nowhere ≡ fine c = w.1 in absurd cc
    ]

pub cie-before-is : (is_aarch64 : Bool) (target : Target) (section : List ℕ) (place back : ℕ) (c : EhCie) → back ≤ place
    → eh_cie_at is_aarch64 target section (place - back) ≡ Ok c → eh_cie_before is_aarch64 target section place back ≡ Ok c
cie-before-is is_aarch64 target section place back c le is =
    let nowhere : Fault = record { kind = NoSuchCie; at = place } in
    ap (λ b. cond b (no_such_cie place (eh_cie_at is_aarch64 target section (place - back))) (Err nowhere)) (le-leb back place le)
    ∙ ap (λ (x : Result EhCie Fault). no_such_cie place x) is

-- ---- an FDE

bind-assoc : {A B C : Type 0} (x : Result A Fault) (f : A → Result B Fault) (g : B → Result C Fault)
    → ((x >>= f) >>= g) ≡ (x >>= λ a. f a >>= g)
bind-assoc (Ok a) f g = refl
bind-assoc (Err fault) f g = refl

bind-same : {A B : Type 0} (x : Result A Fault) (f g : A → Result B Fault) → ((a : A) → f a ≡ g a) → (x >>= f) ≡ (x >>= g)
bind-same (Ok a) f g same = same a
bind-same (Err fault) f g same = refl

abbrev with-addresses : ℕ → ℕ → ReadPosition → Result ((ℕ × ℕ) × ReadPosition) Fault
with-addresses initial range r = Ok ((initial, range), r)

abbrev whole-fde : ℕ → Format → ℕ → EhCie → (ℕ × ℕ) × ReadPosition → Result EhFde Fault
whole-fde at format place cie h = Ok (eh_fde_with at format place cie h.0.0 h.0.1 h.1)

fde-from-head : (bases : Bases) (at : ℕ) (format : Format) (place : ℕ) (cie : EhCie) (r : ReadPosition)
    → eh_fde_from bases at format place cie r ≡ (fde_head_at bases cie.augmentation r >>= whole-fde at format place cie)
unfolding eh_fde_from
fde-from-head bases at format place cie r =
    let a : Augmentation = cie.augmentation in
    let whole = whole-fde at format place cie in
    let past-range = λ (initial : ℕ) (range : ℕ × ReadPosition). eh_area_at a.has_data range.1 >>= with-addresses initial range.0 in
    let past-pointer = λ (initial : ℕ × ReadPosition). range_at a.addresses.format initial.0 initial.1 >>= past-range initial.0 in
    sym (bind-assoc (pointer_at bases a.addresses r) past-pointer whole
    ∙ bind-same (pointer_at bases a.addresses r) (λ initial. past-pointer initial >>= whole)
    (λ initial. range_at a.addresses.format initial.0 initial.1 >>= λ range. eh_area_at a.has_data range.1 >>= λ after. whole
    ((initial.0, range.0), after))
    (λ initial. bind-assoc (range_at a.addresses.format initial.0 initial.1) (past-range initial.0) whole
    ∙ bind-same (range_at a.addresses.format initial.0 initial.1) (λ range. past-range initial.0 range >>= whole)
    (λ range. eh_area_at a.has_data range.1 >>= λ after. whole ((initial.0, range.0), after))
    (λ range. bind-assoc (eh_area_at a.has_data range.1) (with-addresses initial.0 range.0) whole)))

pub fde-from-parts : (bases : Bases) (at : ℕ) (format : Format) (place : ℕ) (cie : EhCie) (r : ReadPosition) (e : EhFde)
    → eh_fde_from bases at format place cie r ≡ Ok e
    → (addresses : ℕ × ℕ) × (after : ReadPosition) × (fde_head_at bases cie.augmentation r ≡ Ok (addresses, after))
    × (e ≡ eh_fde_with at format place cie addresses.0 addresses.1 after)
fde-from-parts bases at format place cie r e is =
    let h = bind-ok (fde_head_at bases cie.augmentation r) (whole-fde at format place cie) e
    (sym (fde-from-head bases at format place cie r) ∙ is) in
    (h.0.0, h.0.1, h.1, cc (h.2))

pub fde-from-is : (bases : Bases) (at : ℕ) (format : Format) (place : ℕ) (cie : EhCie) (r : ReadPosition) (addresses : ℕ × ℕ)
    (after : ReadPosition)
    → fde_head_at bases cie.augmentation r ≡ Ok (addresses, after)
    → eh_fde_from bases at format place cie r ≡ Ok (eh_fde_with at format place cie addresses.0 addresses.1 after)
fde-from-is bases at format place cie r addresses after is =
    fde-from-head bases at format place cie r
    ∙ ap (λ (x : Result ((ℕ × ℕ) × ReadPosition) Fault). x >>= whole-fde at format place cie) is

-- ---- a body

pub record ReadNothing (at : ℕ) (body : ReadPosition) (x : EhRecord) : Type 0 where
  pub nothing : length body.rest ≡ 0
  pub record_is : x ≡ eh_nothing at

pub record ReadCie (is_aarch64 : Bool) (at : ℕ) (format : Format) (body : ReadPosition) (x : EhRecord) : Type 0 where
  pub mid : ReadPosition
  pub cie : EhCie
  pub some : eqb (length body.rest) 0 ≡ false
  pub id_is : fixed_at 4 body ≡ Ok (0, mid)
  pub cie_is : eh_cie_from is_aarch64 at format mid ≡ Ok cie
  pub record_is : x ≡ eh_cie cie

pub record ReadFde (is_aarch64 : Bool) (bases : Bases) (section : List ℕ) (at : ℕ) (format : Format) (body : ReadPosition) (x : EhRecord)
    : Type 0 where
  pub back : ℕ
  pub mid : ReadPosition
  pub cie : EhCie
  pub fde : EhFde
  pub some : eqb (length body.rest) 0 ≡ false
  pub pointer_is : fixed_at 4 body ≡ Ok (back, mid)
  pub no_id : eqb back 0 ≡ false
  pub cie_is : eh_cie_before is_aarch64 body.target section body.position back ≡ Ok cie
  pub fde_is : eh_fde_from bases at format body.position cie mid ≡ Ok fde
  pub record_is : x ≡ eh_fde fde

abbrev pub ReadBody : Bool → Bases → List ℕ → ℕ → Format → ReadPosition → EhRecord → Type 0
ReadBody is_aarch64 bases section at format body x = ReadNothing at body x
    ⊎ (ReadCie is_aarch64 at format body x ⊎ ReadFde is_aarch64 bases section at format body x)

abbrev cie-or : EhCie → Result EhRecord Fault
cie-or cie = Ok (eh_cie cie)

abbrev fde-or : EhFde → Result EhRecord Fault
fde-or fde = Ok (eh_fde fde)

full-parts : (is_aarch64 : Bool) (bases : Bases) (section : List ℕ) (at : ℕ) (format : Format) (body : ReadPosition) (id : ℕ × ReadPosition)
    (x : EhRecord) → eqb (length body.rest) 0 ≡ false → fixed_at 4 body ≡ Ok id
    → eh_full_at is_aarch64 bases section at format body id ≡ Ok x
    → ReadCie is_aarch64 at format body x ⊎ ReadFde is_aarch64 bases section at format body x
unfolding eh_full_at
full-parts is_aarch64 bases section at format body id x some id_is is =
    let read-fde = λ (cie : EhCie). eh_fde_from bases at format body.position cie id.1 >>= fde-or in
    elim (chosen (eqb id.0 0) (eh_cie_from is_aarch64 at format id.1 >>= cie-or)
    (eh_cie_before is_aarch64 body.target section body.position id.0 >>= read-fde) (fine x) is) [
      | inl w ↦
          let c = bind-ok (eh_cie_from is_aarch64 at format id.1) cie-or x w.1 in
          inl (record {
            mid = id.1;
            cie = c.0;
            some = some;
            id_is = id_is ∙ ap (λ (n : ℕ). fine {A = ℕ × ReadPosition} (n, id.1)) (eqb-true id.0 0 w.0);
            cie_is = c.1;
            record_is = cc (c.2);
          })
      | inr w ↦
          let c = bind-ok (eh_cie_before is_aarch64 body.target section body.position id.0) read-fde x w.1 in
          let e = bind-ok (eh_fde_from bases at format body.position c.0 id.1) fde-or x c.2 in
          inr (record {
            back = id.0;
            mid = id.1;
            cie = c.0;
            fde = e.0;
            some = some;
            pointer_is = id_is;
            no_id = w.0;
            cie_is = c.1;
            fde_is = e.1;
            record_is = cc (e.2);
          })
    ]

pub body-parts : (is_aarch64 : Bool) (bases : Bases) (section : List ℕ) (at : ℕ) (format : Format) (body : ReadPosition) (x : EhRecord)
    → eh_body_at is_aarch64 bases section at format body ≡ Ok x → ReadBody is_aarch64 bases section at format body x
unfolding eh_body_at
body-parts is_aarch64 bases section at format body x is =
    elim (chosen (eqb (length body.rest) 0) (fine (eh_nothing at)) (fixed_at 4 body >>= eh_full_at is_aarch64 bases section at format body)
    (fine x) is) [
      | inl w ↦ inl (record { nothing = eqb-true (length body.rest) 0 w.0; record_is = cc (w.1) })
      | inr w ↦
          let id = bind-ok (fixed_at 4 body) (eh_full_at is_aarch64 bases section at format body) x w.1 in
          inr (full-parts is_aarch64 bases section at format body id.0 x w.0 id.1 id.2)
    ]

pub nothing-is : (is_aarch64 : Bool) (bases : Bases) (section : List ℕ) (at : ℕ) (format : Format) (body : ReadPosition)
    → length body.rest ≡ 0
    → eh_body_at is_aarch64 bases section at format body ≡ Ok (eh_nothing at)
unfolding eh_body_at
nothing-is is_aarch64 bases section at format body none =
    ap (λ b. cond b (fine (eh_nothing at)) (fixed_at 4 body >>= eh_full_at is_aarch64 bases section at format body))
    (eq-eqb (length body.rest) 0 none)

pub cie-is : (is_aarch64 : Bool) (bases : Bases) (section : List ℕ) (at : ℕ) (format : Format) (body mid : ReadPosition) (c : EhCie)
    → eqb (length body.rest) 0 ≡ false → fixed_at 4 body ≡ Ok (0, mid) → eh_cie_from is_aarch64 at format mid ≡ Ok c
    → eh_body_at is_aarch64 bases section at format body ≡ Ok (eh_cie c)
unfolding eh_body_at eh_full_at
cie-is is_aarch64 bases section at format body mid c some id is =
    ap (λ b. cond b (fine (eh_nothing at)) (fixed_at 4 body >>= eh_full_at is_aarch64 bases section at format body)) some
    ∙ (ap (λ (x : Result (ℕ × ReadPosition) Fault). x >>= eh_full_at is_aarch64 bases section at format body) id
    ∙ ap (λ (x : Result EhCie Fault). x >>= cie-or) is)

pub fde-is : (is_aarch64 : Bool) (bases : Bases) (section : List ℕ) (at : ℕ) (format : Format) (body : ReadPosition) (back : ℕ)
    (mid : ReadPosition)
    (c : EhCie) (e : EhFde)
    → eqb (length body.rest) 0 ≡ false → fixed_at 4 body ≡ Ok (back, mid) → eqb back 0 ≡ false
    → eh_cie_before is_aarch64 body.target section body.position back ≡ Ok c → eh_fde_from bases at format body.position c mid ≡ Ok e
    → eh_body_at is_aarch64 bases section at format body ≡ Ok (eh_fde e)
unfolding eh_body_at eh_full_at
fde-is is_aarch64 bases section at format body back mid c e some id no_id cie is =
    let read-fde = λ (cie : EhCie). eh_fde_from bases at format body.position cie mid >>= fde-or in
    ap (λ b. cond b (fine (eh_nothing at)) (fixed_at 4 body >>= eh_full_at is_aarch64 bases section at format body)) some
    ∙ (ap (λ (x : Result (ℕ × ReadPosition) Fault). x >>= eh_full_at is_aarch64 bases section at format body) id
    ∙ (ap (λ b. cond b (eh_cie_from is_aarch64 at format mid >>= cie-or)
    (eh_cie_before is_aarch64 body.target section body.position back >>= read-fde)) no_id
    ∙ (ap (λ (x : Result EhCie Fault). x >>= read-fde) cie ∙ ap (λ (x : Result EhFde Fault). x >>= fde-or) is)))

-- ---- a record

pub record-parts : (is_aarch64 : Bool) (bases : Bases) (section : List ℕ) (r : ReadPosition) (x : EhRecord) (after : ReadPosition)
    → eh_record_at is_aarch64 bases section r ≡ Ok (x, after)
    → (format : Format) × (body : ReadPosition) × (framed_at r ≡ Ok ((format, body), after))
    × (eh_body_at is_aarch64 bases section r.position format body ≡ Ok x)
unfolding eh_record_at
record-parts is_aarch64 bases section r x after is =
    let finish = λ (found : EhRecord) (next : ReadPosition). fine {A = EhRecord × ReadPosition} (found, next) in
    let f = bind-ok (framed_at r) (λ framed. eh_body_at is_aarch64 bases section r.position framed.0.0 framed.0.1 >>= λ found. finish found framed.1)
    (x, after) is in
    let b = bind-ok (eh_body_at is_aarch64 bases section r.position f.0.0.0 f.0.0.1) (λ found. finish found f.0.1) (x, after) f.2 in
    let both : (b.0, f.0.1) ≡ (x, after) = ok-is {A = EhRecord} (b.0, f.0.1) (x, after) b.2 in
    let next : f.0.1 ≡ after = ap (λ (p : EhRecord × ReadPosition). p.1) both in
    let found : b.0 ≡ x = ap (λ (p : EhRecord × ReadPosition). p.0) both in (
      f.0.0.0,
      f.0.0.1,
      f.1 ∙ ap (λ (p : ReadPosition). fine {A = (Format × ReadPosition) × ReadPosition} ((f.0.0.0, f.0.0.1), p)) next,
      b.1 ∙ ap (λ (y : EhRecord). fine y) found,
    )

pub record-is : (is_aarch64 : Bool) (bases : Bases) (section : List ℕ) (r : ReadPosition) (x : EhRecord) (format : Format)
    (body after : ReadPosition)
    → framed_at r ≡ Ok ((format, body), after) → eh_body_at is_aarch64 bases section r.position format body ≡ Ok x
    → eh_record_at is_aarch64 bases section r ≡ Ok (x, after)
unfolding eh_record_at
record-is is_aarch64 bases section r x format body after frame is =
    let finish = λ (found : EhRecord) (next : ReadPosition). fine {A = EhRecord × ReadPosition} (found, next) in
    ap (λ (y : Result ((Format × ReadPosition) × ReadPosition) Fault). y >>= λ framed.
    eh_body_at is_aarch64 bases section r.position framed.0.0 framed.0.1 >>= λ found. finish found framed.1) frame
    ∙ ap (λ (y : Result EhRecord Fault). y >>= λ found. finish found after) is

-- the CIE that is read as a record is the one that an FDE after it finds
pub cie-at-is : (is_aarch64 : Bool) (bases : Bases) (target : Target) (section : List ℕ) (at : ℕ) (c : EhCie) (after : ReadPosition)
    → eh_record_at is_aarch64 bases section (section_from target section at) ≡ Ok (eh_cie c, after)
    → eh_cie_at is_aarch64 target section at ≡ Ok c
unfolding eh_cie_at
cie-at-is is_aarch64 bases target section at c after is =
    let (format, body, frame, read) = record-parts is_aarch64 bases section (section_from target section at) (eh_cie c) after is in
    let nowhere : Fault = record { kind = NoSuchCie; at = at } in
    elim (body-parts is_aarch64 bases section at format body (eh_cie c) read) [
      | inl w ↦ let no = w.record_is in absurd cc
      | inr (inl w) ↦
          let same : w.cie ≡ c = let e = w.record_is in cc in
          ap (λ (y : Result ((Format × ReadPosition) × ReadPosition) Fault). y >>= λ framed. fixed_at 4 framed.0.1 >>= λ id.
          cond (eqb id.0 0) (eh_cie_from is_aarch64 at framed.0.0 id.1) (Err nowhere)) frame
          ∙ (ap (λ (y : Result (ℕ × ReadPosition) Fault). y >>= λ id. cond (eqb id.0 0) (eh_cie_from is_aarch64 at format id.1)
          (Err nowhere)) w.id_is
          ∙ (w.cie_is ∙ ap (λ (y : EhCie). fine y) same))
      | inr (inr w) ↦ let no = w.record_is in absurd cc
    ]
