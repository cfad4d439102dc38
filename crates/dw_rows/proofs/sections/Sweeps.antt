-- The search for overlaps: a pass over the FDEs in order of address.
use Rattle.std.proofs.Common.{◌≡◌, ◌≢◌, ℕ, ◌+◌, ◌<◌, ◌≤◌, List, length, get_or, Contains, refl, sym, ap, subst, ◌∙◌, arith, inl, inr, ◌⊎◌}
use Rattle.std.proofs.lemmas.List.{get_or_default}
use Rattle.dw_rows.specs.Section.{Covers, SharesAddress, CoversOnce}
use Rattle.dw_rows.specs.AddressIndex.{fde_offset, Overlaps, AreApart, IsFirstOverlap, ClashWithin, ApartWithin, IsOrdered, IsIndexOf}
use Rattle.dw_frame.specs.Bounds.{Ascends}
use Rattle.dw_frame.specs.Records.{Fde}
use Rattle.dw_rules.proofs.Search.{ascending-at, ascending-same, three_ways}
use Rattle.dw_rows.proofs.Search.{ascending-place, before_or_at}

-- What holds after a pass over the first i FDEs of `xs`, which is in order of address. Among those
-- of them whose offset is at most `last`, no two share an address, and the greatest end of a range
-- is `end` (0 if there are no such FDEs).
pub record IsSwept (xs : List Fde) (last i end : ℕ) : Type 0 where
  pub below : (k : ℕ) (d : Fde) → k < i → (get_or xs k d).offset ≤ last
      → (get_or xs k d).initial_location + (get_or xs k d).address_range ≤ end
  pub source : (end ≡ 0) ⊎ ((k : ℕ) × (f : Fde) × (k < i) × (get_or xs k f ≡ f) × (f.offset ≤ last)
      × (end ≡ f.initial_location + f.address_range))
  pub apart : (j k : ℕ) (d : Fde) → j < k → k < i → (get_or xs j d).offset ≤ last → (get_or xs k d).offset ≤ last
      → (get_or xs j d).initial_location + (get_or xs j d).address_range ≤ (get_or xs k d).initial_location

pub swept-none : (xs : List Fde) (last : ℕ) → IsSwept xs last 0 0
swept-none xs last = record {
  below = λ k d lt le. absurd (omega arith);
  source = inl refl;
  apart = λ j k d jk lt le1 le2. absurd (omega arith);
}

symmetric : (f g : Fde) → SharesAddress f g → SharesAddress g f
symmetric f g (a, cf, cg) = (a, cg, cf)

pub clash-at : (xs : List Fde) (last i end : ℕ) (x : Fde) → IsOrdered xs → IsSwept xs last i end → i < length xs → get_or xs i x ≡ x
    → x.offset ≤ last → x.initial_location < end → ClashWithin xs last
clash-at xs last i end x ordered swept i_in i_is le lt = elim swept.source [
  | inl none ↦ absurd (omega arith)
  | inr (k, f, k_lt, k_is, f_le, f_end) ↦
      let f_is : get_or xs k x ≡ f = get_or_default xs k x f (omega arith) ∙ k_is in
      let before : f.initial_location ≤ x.initial_location = subst (λ v. v.initial_location ≤ x.initial_location) f_is
      (subst (λ v. (get_or xs k x).initial_location ≤ v.initial_location) i_is (ordered.sorted k i x (omega arith) i_in)) in
      let f_in : Contains xs f = (k, omega arith, k_is) in
      let x_in : Contains xs x = (i, i_in, i_is) in
      let some : 0 < x.address_range = ordered.some x x_in in
      let shared : SharesAddress f x = (x.initial_location, (before, omega arith), (omega arith, omega arith)) in
      let apart : f.offset ≢ x.offset = λ same.
      let at_both : (get_or xs k x).offset ≡ (get_or xs i x).offset = ap fde_offset f_is ∙ (same ∙ sym (ap fde_offset i_is)) in
      let place : k ≡ i = ordered.distinct k i x (omega arith) i_in at_both in
      omega arith in
      elim (three_ways f.offset x.offset) [
        | inl low ↦ record { f = f; g = x; f_in = f_in; g_in = x_in; order = low; within = le; shared = shared }
        | inr rest ↦ elim rest [
          | inl same ↦ absurd (apart same)
          | inr high ↦ record { f = x; g = f; f_in = x_in; g_in = f_in; order = high; within = f_le; shared = symmetric f x shared }
        ]
      ]
]

pub swept-skip : (xs : List Fde) (last i end : ℕ) (x : Fde) → IsSwept xs last i end → i < length xs → get_or xs i x ≡ x → last < x.offset
    → IsSwept xs last (i + 1) end
swept-skip xs last i end x swept i_in i_is lt =
    let out : (d : Fde) → last < (get_or xs i d).offset =
    λ d. subst (λ v. last < v.offset) (sym (get_or_default xs i d x i_in ∙ i_is)) lt in
    record {
      below = λ k d k_lt le.
          elim (before_or_at k i k_lt) [
            | inl earlier ↦ swept.below k d earlier le
            | inr here ↦ let no : last <
                (get_or xs k d).offset = subst (λ n. last < (get_or xs n d).offset) (sym here) (out d) in absurd (omega arith)
          ];
      source = elim swept.source [
        | inl none ↦ inl none
        | inr (k, f, k_lt, rest0, rest1, rest2) ↦ inr
            (k, f, omega arith, rest0, rest1, rest2)
      ];
      apart = λ j k d jk k_lt j_le k_le.
          elim (before_or_at k i k_lt) [
            | inl earlier ↦ swept.apart j k d jk earlier j_le k_le
            | inr here ↦ let no : last <
                (get_or xs k d).offset = subst (λ n. last < (get_or xs n d).offset) (sym here) (out d) in absurd (omega arith)
          ];
    }

pub swept-more : (xs : List Fde) (last i end : ℕ) (x : Fde) → IsSwept xs last i end → i < length xs → get_or xs i x ≡ x → x.offset ≤ last
    → end ≤ x.initial_location → IsSwept xs last (i + 1) (x.initial_location + x.address_range)
swept-more xs last i end x swept i_in i_is x_le le =
    let is : (d : Fde) → get_or xs i d ≡ x = λ d. get_or_default xs i d x i_in ∙ i_is in
    record {
      below = λ k d k_lt k_le.
          elim (before_or_at k i k_lt) [
            | inl earlier ↦ let h = swept.below k d earlier k_le in omega (arith, h)
            | inr here ↦ subst (λ v. v.initial_location + v.address_range ≤ x.initial_location + x.address_range)
                (sym (ap (λ n. get_or xs n d) here ∙ is d)) (omega arith)
          ];
      source = inr (i, x, omega arith, i_is, x_le, refl);
      apart = λ j k d jk k_lt j_le k_le.
          elim (before_or_at k i k_lt) [
            | inl earlier ↦ swept.apart j k d jk earlier j_le k_le
            | inr here ↦
                let h = swept.below j d (omega arith) j_le in
                subst (λ v. (get_or xs j d).initial_location + (get_or xs j d).address_range ≤ v.initial_location)
                (sym (ap (λ n. get_or xs n d) here ∙ is d))
                (omega (arith, h))
          ];
    }

pub swept-all : (xs : List Fde) (last i end : ℕ) → IsSwept xs last i end → length xs ≤ i → ApartWithin xs last
swept-all xs last i end swept all f g (j, j_in, j_is) (k, k_in, k_is) lt le (a, cf, cg) =
    let g_is : get_or xs k f ≡ g = get_or_default xs k f g k_in ∙ k_is in
    let f_le : (get_or xs j f).offset ≤ last = subst (λ v. v.offset ≤ last) (sym j_is) (omega arith) in
    let g_le : (get_or xs k f).offset ≤ last = subst (λ v. v.offset ≤ last) (sym g_is) le in
    let low : j < k → f.initial_location + f.address_range ≤ g.initial_location =
    λ jk. subst (λ v. f.initial_location + f.address_range ≤ v.initial_location) g_is
    (subst (λ v. v.initial_location + v.address_range ≤ (get_or xs k f).initial_location) j_is
    (swept.apart j k f jk (omega arith) f_le g_le)) in
    let high : k < j → g.initial_location + g.address_range ≤ f.initial_location =
    λ kj. subst (λ v. v.initial_location + v.address_range ≤ f.initial_location) g_is
    (subst (λ v. (get_or xs k f).initial_location + (get_or xs k f).address_range ≤ v.initial_location) j_is
    (swept.apart k j f kj (omega arith) g_le f_le)) in
    let same : j ≡ k → f.offset ≡ g.offset = λ e. ap fde_offset (sym j_is ∙ (ap (λ n. get_or xs n f) e ∙ g_is)) in
    elim (three_ways j k) [
      | inl jk ↦ let h = low jk in
          omega (arith, h, cf.1, cg.0)
      | inr rest ↦ elim rest [
        | inl e ↦ let h = same e in omega (arith, h, lt)
        | inr kj ↦ let h = high kj in
            omega (arith, h, cf.0, cg.1)
      ]
    ]

-- an FDE that covers an address has an address range above 0
some-of : (f : Fde) (a : ℕ) → Covers f a → 0 < f.address_range
some-of f a c = omega (arith, c.0, c.1)

pub first-clash : (fdes index : List Fde) (i : ℕ) (x : Fde) → Ascends fde_offset fdes → IsIndexOf fdes index → i < length fdes
    → get_or fdes i x ≡ x → ClashWithin index x.offset → ((k : ℕ) (d : Fde) → k < i → ApartWithin index (get_or fdes k d).offset)
    → IsFirstOverlap fdes x
first-clash fdes index i x up is i_in i_is clash apart =
    let g_in : Contains fdes clash.g = is.from clash.g clash.g_in in
    let x_in : Contains fdes x = (i, i_in, i_is) in
    let placed : (y : Fde) → Contains fdes y → y.offset < x.offset → ApartWithin index y.offset = λ y (m, m_in, m_is) lt.
    let x_is : get_or fdes i y ≡ x = get_or_default fdes i y x i_in ∙ i_is in
    let lower : (get_or fdes m y).offset < (get_or fdes i y).offset =
    subst (λ v. v.offset < (get_or fdes i y).offset) (sym m_is) (subst (λ v. y.offset < v.offset) (sym x_is) lt) in
    subst (λ v. ApartWithin index v.offset) m_is (apart m y (ascending-place fde_offset fdes up m i y m_in i_in lower)) in
    let not_before : ¬ (clash.g.offset < x.offset) = λ lt. placed clash.g g_in lt clash.f clash.g clash.f_in clash.g_in clash.order
    (omega arith) clash.shared in
    let here : clash.g ≡ x = ascending-same fde_offset fdes up clash.g x g_in x_in (omega (arith, not_before, clash.within)) in
    record {
      among = x_in;
      fails = subst (Overlaps fdes) here (clash.f, is.from clash.f clash.f_in, clash.order, clash.shared);
      before = λ y y_in lt f f_in f_lt (a, cf, cy). placed y y_in lt f y (is.to f f_in (some-of f a cf))
          (is.to y y_in (some-of y a cy)) f_lt (omega arith) (a, cf, cy);
    }

pub none-clash : (fdes index : List Fde) (i : ℕ) (x : Fde) → Ascends fde_offset fdes → IsIndexOf fdes index → i < length fdes
    → length fdes ≤ i + 1 → get_or fdes i x ≡ x → ApartWithin index x.offset → AreApart fdes
none-clash fdes index i x up is i_in last i_is apart g (m, m_in, m_is) f f_in f_lt (a, cf, cg) =
    let x_is : get_or fdes i g ≡ x = get_or_default fdes i g x i_in ∙ i_is in
    let before : m < i → g.offset < x.offset =
    λ lt. subst (λ v. g.offset < v.offset) x_is
    (subst (λ v. v.offset < (get_or fdes i g).offset) m_is (ascending-at fde_offset fdes up m i g lt i_in)) in
    let here : m ≡ i → g.offset ≡ x.offset = λ e. ap fde_offset (sym m_is ∙ (ap (λ n. get_or fdes n g) e ∙ x_is)) in
    let at_most : g.offset ≤ x.offset = elim (before_or_at m i (omega arith)) [
      | inl lt ↦ let h = before lt in
          omega (arith, h)
      | inr e ↦ let h = here e in omega (arith, h)
    ] in
    apart f g (is.to f f_in (some-of f a cf)) (is.to g (m, m_in, m_is) (some-of g a cg)) f_lt at_most (a, cf, cg)

pub none-apart : (fdes : List Fde) → length fdes ≡ 0 → AreApart fdes
none-apart fdes none g (m, m_in, m_is) = absurd (omega arith)

-- if no FDE shares an address with an earlier one, no address is covered by two
pub covers-once : (fdes : List Fde) → Ascends fde_offset fdes → AreApart fdes → CoversOnce fdes
covers-once fdes up apart a f g f_in g_in cf cg =
    let low : ¬ (f.offset < g.offset) = λ lt. apart g g_in f f_in lt (a, cf, cg) in
    let high : ¬ (g.offset < f.offset) = λ lt. apart f f_in g g_in lt (a, cg, cf) in
    ascending-same fde_offset fdes up f g f_in g_in (omega (arith, low, high))

-- If no two FDEs with offsets up to x's offset share an address, neither do two FDEs with offsets
-- up to the offset of an earlier FDE.
pub apart-below : (fdes index : List Fde) (i : ℕ) (x : Fde) → Ascends fde_offset fdes → i < length fdes → get_or fdes i x ≡ x
    → ApartWithin index x.offset → (k : ℕ) (d : Fde) → k ≤ i → ApartWithin index (get_or fdes k d).offset
apart-below fdes index i x up i_in i_is apart k d le f g f_in g_in order within shared =
    let x_is : get_or fdes i d ≡ x = get_or_default fdes i d x i_in ∙ i_is in
    let below : (get_or fdes k d).offset ≤ x.offset = elim (before_or_at k i (omega arith)) [
      | inl lt ↦ let h : (get_or fdes k d).offset < x.offset =
          subst (λ v. (get_or fdes k d).offset < v.offset) x_is (ascending-at fde_offset fdes up k i d lt i_in) in omega (arith, h)
      | inr e ↦ let h : (get_or fdes k d).offset ≡ x.offset = ap fde_offset (ap (λ n. get_or fdes n d) e ∙ x_is) in omega (arith, h)
    ] in
    apart f g f_in g_in order (omega (arith, below, within)) shared
