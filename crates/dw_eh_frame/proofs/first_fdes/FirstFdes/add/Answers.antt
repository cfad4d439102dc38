use Rattle.std.proofs.Common.{◌≡◌, ℕ, ◌≤◌, ◌++◌, ◌∷◌, [], List, Option, None, Some, Contains, false, refl, ap, sym, subst, ◌∙◌, arith, inl, inr}
use Rattle.std.specs.Option.{is_some}
use Rattle.std.proofs.lemmas.List.Elements.{Contains-push_cases}
use Rattle.dw_frame.specs.Bounds.{Ascends}
use Rattle.dw_eh_frame.specs.declared.first_fdes.FdePlace.{FdePlace}
use Rattle.dw_eh_frame.specs.FirstFdes.{Firsts, added, first_in, place_address}
use Rattle.dw_eh_frame.proofs.FirstFdes.{first-more}
use Rattle.dw_eh_frame.proofs.PlaceSearch.{ascends-more}
use Rattle.dw_eh_frame.proofs.first_fdes.FirstFdes.add.Goals as goal

pub invariant_of-self : goal.invariant_of-self
invariant_of-self c =
    let items : c.push.new.self.items ≡ c.self.inside.ascending.items = c.in_err-push.ensures.items in (
      subst (λ (l : List FdePlace). Ascends place_address l) (sym items) c.self.invariant.0,
      subst (λ (l : List FdePlace). (q : FdePlace) → Contains l q → q.address ≤ c.self.inside.greatest) (sym items) c.self.invariant.1,
      c.self.invariant.2,
    )

pub invariant_of-self-then-address-self : goal.invariant_of-self-then-address-self
invariant_of-self-then-address-self c =
    let places = c.self.inside.ascending.items in
    let p : FdePlace = record { address = c.args.address; index = c.args.index } in
    let items : c.push.new.self.items ≡ places ++ p ∷ [] = c.in_ok-push.ensures.items in (
      subst (λ (l : List FdePlace). Ascends place_address l) (sym items)
          (ascends-more place_address places p c.self.invariant.0 (λ q among. omega (arith, c.self.invariant.1 q among, c.if-address-self.true))),
      subst (λ (l : List FdePlace). (q : FdePlace) → Contains l q → q.address ≤ c.args.address) (sym items)
          (λ q among. elim (Contains-push_cases places p q among) [
            | inl before ↦ omega (arith, c.self.invariant.1 q before, c.if-address-self.true)
            | inr same ↦ let here : c.args.address ≡ q.address = ap place_address same in omega (arith, here)
          ]),
      c.self.invariant.2,
    )

absent : (o : Option ℕ) → false ≡ is_some o → o ≡ None
absent None is = refl
absent (Some n) is = absurd cc

pub returns-in_ok-push : goal.returns-in_ok-push
returns-in_ok-push c = λ a.
    let f : Firsts = record { places = c.self.inside.ascending.items; others = c.self.inside.others.entries } in
    let here : f ≡ c.args.self.now = c.self.view_is in
    let none : first_in f c.args.address ≡ None =
    ap (λ (g : Firsts). first_in g c.args.address) here ∙ (sym c.get.ensures ∙ absent c.get.result c.if-is_some.ensures) in
    first-more f c.args.address c.args.index a c.push.new.self.items c.in_ok-push.ensures.items none
    ∙ ap (λ (g : Firsts). added (first_in g a) c.args.address c.args.index a) here
