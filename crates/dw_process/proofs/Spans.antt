-- Lemmas about the addresses from the first to the last one that FDEs cover.
use Rattle.std.proofs.Common.{◌≡◌, ℕ, ◌+◌, ◌^◌, ◌<◌, ◌≤◌, List, [], ◌∷◌, ◌++◌, Option, Some, None, inl, inr, refl, sym, subst, ap, arith}
use Rattle.std.specs.Prelude.{◌⊎◌, Contains, IfNone, IfSome, MatchOption}
use Rattle.std.proofs.lemmas.List.Elements.{Contains-append_cases, Contains-append_left, Contains-append_right, Contains-push, Contains-push_cases}
use Rattle.dw_bytes.specs.declared.target.AddressSize.{AddressSize}
use Rattle.dw_bytes.specs.declared.target.AddressSize.TheVariants.{Four, Eight}
use Rattle.dw_bytes.specs.declared.target.Target.{Target}
use Rattle.dw_bytes.specs.Encoding.{max_address}
use Rattle.dw_eval.specs.Numbers.{width_of}
use Rattle.dw_frame.specs.Sections.{top_of}
use Rattle.dw_frame.specs.Records.{Fde}
use Rattle.dw_rows.specs.Section.{Covers}
use Rattle.dw_process.specs.declared.address_range.AddressRange.{AddressRange}
use Rattle.dw_process.specs.Ranges.{CoversNone, IsSpanOf}

abbrev pub Spans : List Fde → Option AddressRange → Type 0
Spans fdes range = MatchOption range (CoversNone fdes) (IsSpanOf fdes)

module _ (fdes : List Fde) (f : Fde) where
  -- f covers no address
  module _ (empty : f.address_range ≤ 0) where
    pub spans_same : (range : Option AddressRange) → Spans fdes range → Spans (fdes ++ f ∷ []) range
    spans_same None none = λ g a among covered. elim (Contains-push_cases fdes f g among) [
      | inl before ↦ none g a before covered
      | inr same ↦ let e = ap (λ (x : Fde). x.address_range) same in
          let i = ap (λ (x : Fde). x.initial_location) same in omega (arith, covered, e, i, empty)
    ]
    spans_same (Some range) span = record {
      all = λ g a among covered. elim (Contains-push_cases fdes f g among) [
        | inl before ↦ span.all g a before covered
        | inr same ↦ let e = ap (λ (x : Fde). x.address_range) same in
            let i = ap (λ (x : Fde). x.initial_location) same in absurd (omega (arith, covered, e, i, empty))
      ];
      begins = (span.begins.0, Contains-append_left fdes (f ∷ []) span.begins.0 span.begins.1, span.begins.2);
      ends = (span.ends.0, Contains-append_left fdes (f ∷ []) span.ends.0 span.ends.1, span.ends.2);
    }

  -- f covers the addresses of the range `other`
  module _ (other : AddressRange) (first : other.first ≡ f.initial_location) (last : other.last + 1 ≡ f.initial_location + f.address_range)
      (some : 0 < f.address_range) where
    own : (g : Fde) (a : ℕ) → f ≡ g → Covers g a → (other.first ≤ a) × (a ≤ other.last)
    own g a same covered =
        let e = ap (λ (x : Fde). x.address_range) same in
        let i = ap (λ (x : Fde). x.initial_location) same in
        (omega (arith, covered, e, i, first), omega (arith, covered, e, i, last))

    from_own : (a : ℕ) → a ≡ other.first → (g : Fde) × Contains (fdes ++ f ∷ []) g × Covers g a
    from_own a is = (f, Contains-push fdes f, (omega (arith, is, first), omega (arith, is, first, some)))

    to_own : (a : ℕ) → a ≡ other.last → (g : Fde) × Contains (fdes ++ f ∷ []) g × Covers g a
    to_own a is = (f, Contains-push fdes f, (omega (arith, is, last, some), omega (arith, is, last, some)))

    from_before : (a b : ℕ) → a ≡ b → (g : Fde) × Contains fdes g × Covers g b → (g : Fde) × Contains (fdes ++ f ∷ []) g × Covers g a
    from_before a b is w = (w.0, Contains-append_left fdes (f ∷ []) w.0 w.1, subst (λ (n : ℕ). Covers w.0 n) (sym is) w.2)

    pub spans_more : (range : Option AddressRange) (result : AddressRange) → Spans fdes range
        → IfNone range (result ≡ other)
        → IfSome range (λ r. (result.first ≤ r.first) × ((result.first ≡ r.first) ⊎ (result.first ≡ other.first)))
        → IfSome range (λ r. (r.last ≤ result.last) × ((result.last ≡ r.last) ⊎ (result.last ≡ other.last)))
        → result.first ≤ other.first → other.last ≤ result.last → Spans (fdes ++ f ∷ []) (Some result)
    spans_more None result none is low high low_other high_other = record {
      all = λ g a among covered. elim (Contains-push_cases fdes f g among) [
        | inl before ↦ absurd (none g a before covered)
        | inr same ↦ let o = own g a same covered in (omega (arith, o, low_other), omega (arith, o, high_other))
      ];
      begins = from_own result.first (ap (λ (r : AddressRange). r.first) is);
      ends = to_own result.last (ap (λ (r : AddressRange). r.last) is);
    }
    spans_more (Some r) result span is low high low_other high_other = record {
      all = λ g a among covered. elim (Contains-push_cases fdes f g among) [
        | inl before ↦ let o = span.all g a before covered in (omega (arith, o, low.0), omega (arith, o, high.0))
        | inr same ↦ let o = own g a same covered in (omega (arith, o, low_other), omega (arith, o, high_other))
      ];
      begins = elim low.1 [
        | inl old ↦ from_before result.first r.first old span.begins
        | inr new ↦ from_own result.first new
      ];
      ends = elim high.1 [
        | inl old ↦ from_before result.last r.last old span.ends
        | inr new ↦ to_own result.last new
      ];
    }

-- ---- two lists of FDEs

module _ (fdes others : List Fde) where
  covers_none : CoversNone fdes → CoversNone others → CoversNone (fdes ++ others)
  covers_none none other_none f a among covered = elim (Contains-append_cases fdes others f among) [
    | inl first ↦ none f a first covered
    | inr second ↦ other_none f a second covered
  ]

  in_first : (a b : ℕ) → a ≡ b → (g : Fde) × Contains fdes g × Covers g b → (g : Fde) × Contains (fdes ++ others) g × Covers g a
  in_first a b is w = (w.0, Contains-append_left fdes others w.0 w.1, subst (λ (n : ℕ). Covers w.0 n) (sym is) w.2)

  in_second : (a b : ℕ) → a ≡ b → (g : Fde) × Contains others g × Covers g b → (g : Fde) × Contains (fdes ++ others) g × Covers g a
  in_second a b is w = (w.0, Contains-append_right fdes others w.0 w.1, subst (λ (n : ℕ). Covers w.0 n) (sym is) w.2)

  -- the second list covers nothing
  pub spans_first : (range : Option AddressRange) → Spans fdes range → CoversNone others → Spans (fdes ++ others) range
  spans_first None none other_none = covers_none none other_none
  spans_first (Some range) span other_none = record {
    all = λ f a among covered. elim (Contains-append_cases fdes others f among) [
      | inl first ↦ span.all f a first covered
      | inr second ↦ absurd (other_none f a second covered)
    ];
    begins = in_first range.first range.first refl span.begins;
    ends = in_first range.last range.last refl span.ends;
  }

  -- the smallest range that has all addresses of both ranges
  pub spans_both : (range : Option AddressRange) (other result : AddressRange) → Spans fdes range → IsSpanOf others other
      → IfNone range (result ≡ other)
      → IfSome range (λ r. (result.first ≤ r.first) × ((result.first ≡ r.first) ⊎ (result.first ≡ other.first)))
      → IfSome range (λ r. (r.last ≤ result.last) × ((result.last ≡ r.last) ⊎ (result.last ≡ other.last)))
      → result.first ≤ other.first → other.last ≤ result.last → IsSpanOf (fdes ++ others) result
  spans_both None other result none span is low high low_other high_other = record {
    all = λ f a among covered. elim (Contains-append_cases fdes others f among) [
      | inl first ↦ absurd (none f a first covered)
      | inr second ↦ let o = span.all f a second covered in (omega (arith, o, low_other), omega (arith, o, high_other))
    ];
    begins = in_second result.first other.first (ap (λ (r : AddressRange). r.first) is) span.begins;
    ends = in_second result.last other.last (ap (λ (r : AddressRange). r.last) is) span.ends;
  }
  spans_both (Some r) other result first_span span is low high low_other high_other = record {
    all = λ f a among covered. elim (Contains-append_cases fdes others f among) [
      | inl first ↦ let o = first_span.all f a first covered in (omega (arith, o, low.0), omega (arith, o, high.0))
      | inr second ↦ let o = span.all f a second covered in (omega (arith, o, low_other), omega (arith, o, high_other))
    ];
    begins = elim low.1 [
      | inl old ↦ in_first result.first r.first old first_span.begins
      | inr new ↦ in_second result.first other.first new span.begins
    ];
    ends = elim high.1 [
      | inl old ↦ in_first result.last r.last old first_span.ends
      | inr new ↦ in_second result.last other.last new span.ends
    ];
  }

-- ---- the greatest address

top_less : (size : AddressSize) → max_address size < 2 ^ width_of size
top_less Four = omega arith
top_less Eight = omega arith

pub span_fits : (target : Target) (fdes : List Fde) (range : Option AddressRange)
    → ((f : Fde) → Contains fdes f → f.initial_location + f.address_range ≤ top_of target) → Spans fdes range
    → IfSome range (λ r. (r.first ≤ r.last) × (r.last < 2 ^ width_of target.address_size))
span_fits target fdes None fit none = tt
span_fits target fdes (Some r) fit span =
    let low = span.all span.begins.0 r.first span.begins.1 span.begins.2 in
    let below = fit span.ends.0 span.ends.1 in
    let top = top_less target.address_size in
    (omega (arith, low), omega (arith, below, top, span.ends.2))
