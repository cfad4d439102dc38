-- Runs of expressions that say a word by rbp.
use Rattle.std.proofs.Common.{◌≡◌, ℕ, ℤ, pos, ◌+ℤ◌, ◌*ℤ◌, List, [], ◌∷◌, refl, ap, inl, lit≤}
use Rattle.std.specs.Prelude.{Option, Some, None, Ok}
use Rattle.dw_ops.specs.Operations.{breg, deref}
use Rattle.dw_stack.specs.declared.state.Kind.TheVariants.{FrameCfa, FrameRegister}
use Rattle.dw_stack.specs.Machine.{Configuration}
use Rattle.dw_eval.specs.Numbers.{wrap}
use Rattle.dw_eval.specs.Results.{IsRun}
use Rattle.dw_eval.specs.Results as results
use Rattle.dw_eval.specs.Values.{if_present, load_bytes, push}
use Rattle.dw_cached_rows.specs.PackedRows.{address_operations, word_operations}
use Rattle.dw_cached_rows.specs.CachedWalks.{address_by}
use Rattle.dw_cached_rows.proofs.CodedRuns.{world}

abbrev at_step : ℕ → List ℕ → Configuration
at_step at stack = record { offset = at; stack = stack; pending = None; pieces = [] }

pub address-run : (registers memory : ℕ → Option ℕ) (cfa base : ℕ) (words : ℤ) → registers 6 ≡ Some base
    → IsRun (world registers memory (Some cfa)) FrameRegister (address_operations words) 2 (results.value (address_by base words)) 1
address-run registers memory cfa base words known = inl (record {
  last = at_step 2 (wrap 64 (pos cfa) ∷ address_by base words ∷ []);
  run = (
    at_step 2 (wrap 64 (pos cfa) ∷ address_by base words ∷ []),
    record {
      meets = record { number = 0; placed = (0, breg 6 (words *ℤ pos 8)); stands = refl; from = refl; entries = lit≤ tt; can = tt };
      new = address_by base words ∷ [];
      answered = ap (λ (o : Option ℕ). if_present o (λ n. push (world registers memory (Some cfa)) (pos n +ℤ words *ℤ pos 8))) known;
      to = refl;
      stack = refl;
      pending = refl;
      pieces = refl;
    },
    refl,
  );
  ended = record { there = refl; result = (refl, lit≤ tt) };
  gives = refl;
})

pub word-run : (registers memory : ℕ → Option ℕ) (base v : ℕ) (words : ℤ) → registers 6 ≡ Some base
    → load_bytes (world registers memory None) (address_by base words) 8 ≡ Ok (v ∷ [])
    → IsRun (world registers memory None) FrameCfa (word_operations words) 3 (results.value v) 2
word-run registers memory base v words known loaded = inl (record {
  last = at_step 3 (v ∷ []);
  run = (
    at_step 2 (address_by base words ∷ []),
    record {
      meets = record { number = 0; placed = (0, breg 6 (words *ℤ pos 8)); stands = refl; from = refl; entries = lit≤ tt; can = tt };
      new = address_by base words ∷ [];
      answered = ap (λ (o : Option ℕ). if_present o (λ n. push (world registers memory None) (pos n +ℤ words *ℤ pos 8))) known;
      to = refl;
      stack = refl;
      pending = refl;
      pieces = refl;
    },
    (
      at_step 3 (v ∷ []),
      record {
        meets = record { number = 1; placed = (2, deref); stands = refl; from = refl; entries = lit≤ tt; can = tt };
        new = v ∷ [];
        answered = loaded;
        to = refl;
        stack = refl;
        pending = refl;
        pieces = refl;
      },
      refl,
    ),
  );
  ended = record { there = refl; result = (refl, lit≤ tt) };
  gives = refl;
})
