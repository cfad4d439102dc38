-- The run of the expression that linkers write for the CFA in a procedure linkage table.
use Rattle.std.proofs.Common.{◌≡◌, ℕ, ◌+◌, ◌*◌, ◌%◌, ◌^◌, ◌<◌, nat_le, ℤ, pos, ◌+ℤ◌, Bool, true, false, if◌then◌else◌, List, [], ◌∷◌, refl, ap, ◌∙◌, arith, inl, inr, lit≤}
use Rattle.std.specs.Prelude.{Option, Some, None, int_le, bit_and}
use Rattle.std.proofs.lemmas.Bool.{lt-ltb}
use Rattle.std.proofs.lemmas.Nat.{and_mask}
use Rattle.dw_ops.specs.Operations.{and, breg, ge, lit, plus, shl}
use Rattle.dw_stack.specs.declared.state.Kind.TheVariants.{FrameCfa}
use Rattle.dw_stack.specs.Machine.{Configuration, Step, Unreadable}
use Rattle.dw_eval.specs.Numbers.{truth, twos_complement, wrap}
use Rattle.dw_eval.specs.Meaning.{meaning_of}
use Rattle.dw_eval.specs.Results.{IsRun}
use Rattle.dw_eval.specs.Results as results
use Rattle.dw_eval.specs.Values.{if_present, push}
use Rattle.dw_cached_rows.specs.PackedRows.{plt_offset, plt_operations}
use Rattle.dw_cached_rows.proofs.CodedRuns.{world}

-- ---- the numbers that the run puts on the stack

abbrev pub first : ℕ → ℕ
first rsp = wrap 64 (pos rsp +ℤ pos 8)

abbrev pub second : ℕ → ℕ
second rip = wrap 64 (pos rip +ℤ pos 0)

abbrev pub third : ℕ → ℕ
third rip = wrap 64 (pos (bit_and (second rip) 15))

abbrev pub fourth : ℕ → ℕ
fourth limit = wrap 64 (pos limit)

abbrev pub fifth : ℕ → ℕ → ℕ
fifth limit rip = wrap 64 (truth (int_le (twos_complement 64 (fourth limit)) (twos_complement 64 (third rip))))

abbrev pub sixth : ℕ → ℕ → ℕ
sixth limit rip = wrap 64 (pos (fifth limit rip * 2 ^ 3))

abbrev pub seventh : ℕ → ℕ → ℕ → ℕ
seventh limit rip rsp = wrap 64 (pos (first rsp + sixth limit rip))

third-is : (rip : ℕ) → third rip ≡ rip % 16
third-is rip =
    let same : bit_and (second rip) 15 ≡ second rip % 16 = and_mask (second rip) 4 in
    ap (λ (n : ℕ). n % 2 ^ 64) same ∙ omega arith

small : (n : ℕ) → n < 2 ^ 63 → twos_complement 64 n ≡ pos n
small n low = rw (lt-ltb n (2 ^ 63) low) refl

fifth-is : (limit rip : ℕ) → limit < 16 → fifth limit rip ≡ wrap 64 (truth (nat_le limit (rip % 16)))
fifth-is limit rip low =
    let a : fourth limit ≡ limit = omega (arith, low) in
    let b = third-is rip in
    let c : twos_complement 64 (fourth limit) ≡ pos limit = ap (twos_complement 64) a ∙ small limit (omega (arith, low)) in
    let d : twos_complement 64 (third rip) ≡ pos (rip % 16) = ap (twos_complement 64) b ∙ small (rip % 16) (omega arith) in
    ap (λ (z : ℤ). wrap 64 (truth (int_le z (twos_complement 64 (third rip))))) c
    ∙ ap (λ (z : ℤ). wrap 64 (truth (int_le (pos limit) z))) d

pub seventh-is : (limit rip rsp : ℕ) → limit < 16
    → seventh limit rip rsp ≡ wrap 64 (pos rsp +ℤ plt_offset limit rip)
seventh-is limit rip rsp low =
    ap (λ (n : ℕ). wrap 64 (pos (first rsp + wrap 64 (pos (n * 2 ^ 3))))) (fifth-is limit rip low) ∙ go (nat_le limit (rip % 16))
  where
    go : (b : Bool) → wrap 64 (pos (first rsp + wrap 64 (pos (wrap 64 (truth b) * 2 ^ 3))))
        ≡ wrap 64 (pos rsp +ℤ (if b then pos 16 else pos 8))
    go true = omega arith
    go false = omega arith

-- ---- the run

abbrev at_step : ℕ → List ℕ → Configuration
at_step at stack = record { offset = at; stack = stack; pending = None; pieces = [] }

abbrev StepOf : (registers memory : ℕ → Option ℕ) → ℕ → Configuration → Configuration → Type 0
StepOf registers memory limit c d = Step (meaning_of (world registers memory None)) (plt_operations limit) 11 c d

step-1 : (registers memory : ℕ → Option ℕ) (limit rsp : ℕ) → registers 7 ≡ Some rsp
    → StepOf registers memory limit (at_step 0 []) (at_step 2 (first rsp ∷ []))
step-1 registers memory limit rsp sp = record {
  meets = record { number = 0; placed = (0, breg 7 (pos 8)); stands = refl; from = refl; entries = lit≤ tt; can = tt };
  new = first rsp ∷ [];
  answered = ap (λ (o : Option ℕ). if_present o (λ n. push (world registers memory None) (pos n +ℤ pos 8))) sp;
  to = refl;
  stack = refl;
  pending = refl;
  pieces = refl;
}

step-2 : (registers memory : ℕ → Option ℕ) (limit rip a : ℕ) → registers 16 ≡ Some rip
    → StepOf registers memory limit (at_step 2 (a ∷ [])) (at_step 4 (a ∷ second rip ∷ []))
step-2 registers memory limit rip a ip = record {
  meets = record { number = 1; placed = (2, breg 16 (pos 0)); stands = refl; from = refl; entries = lit≤ tt; can = tt };
  new = second rip ∷ [];
  answered = ap (λ (o : Option ℕ). if_present o (λ n. push (world registers memory None) (pos n +ℤ pos 0))) ip;
  to = refl;
  stack = refl;
  pending = refl;
  pieces = refl;
}

step-3 : (registers memory : ℕ → Option ℕ) (limit rip a : ℕ) → StepOf registers memory limit (at_step 4 (a ∷ second rip ∷ [])) (at_step 5 (a ∷ second rip ∷ 15 ∷ []))
step-3 registers memory limit rip a = record {
  meets = record { number = 2; placed = (4, lit 15); stands = refl; from = refl; entries = lit≤ tt; can = tt };
  new = 15 ∷ [];
  answered = refl;
  to = refl;
  stack = refl;
  pending = refl;
  pieces = refl;
}

step-4 : (registers memory : ℕ → Option ℕ) (limit rip a : ℕ) → StepOf registers memory limit (at_step 5 (a ∷ second rip ∷ 15 ∷ [])) (at_step 6 (a ∷ third rip ∷ []))
step-4 registers memory limit rip a = record {
  meets = record { number = 3; placed = (5, and); stands = refl; from = refl; entries = lit≤ tt; can = tt };
  new = third rip ∷ [];
  answered = refl;
  to = refl;
  stack = refl;
  pending = refl;
  pieces = refl;
}

step-5 : (registers memory : ℕ → Option ℕ) (limit rip a : ℕ) → StepOf registers memory limit (at_step 6 (a ∷ third rip ∷ [])) (at_step 7 (a ∷ third rip ∷ fourth limit ∷ []))
step-5 registers memory limit rip a = record {
  meets = record { number = 4; placed = (6, lit limit); stands = refl; from = refl; entries = lit≤ tt; can = tt };
  new = fourth limit ∷ [];
  answered = refl;
  to = refl;
  stack = refl;
  pending = refl;
  pieces = refl;
}

step-6 : (registers memory : ℕ → Option ℕ) (limit rip a : ℕ) → StepOf registers memory limit (at_step 7 (a ∷ third rip ∷ fourth limit ∷ [])) (at_step 8 (a ∷ fifth limit rip ∷ []))
step-6 registers memory limit rip a = record {
  meets = record { number = 5; placed = (7, ge); stands = refl; from = refl; entries = lit≤ tt; can = tt };
  new = fifth limit rip ∷ [];
  answered = refl;
  to = refl;
  stack = refl;
  pending = refl;
  pieces = refl;
}

step-7 : (registers memory : ℕ → Option ℕ) (limit rip a : ℕ) → StepOf registers memory limit (at_step 8 (a ∷ fifth limit rip ∷ [])) (at_step 9 (a ∷ fifth limit rip ∷ 3 ∷ []))
step-7 registers memory limit rip a = record {
  meets = record { number = 6; placed = (8, lit 3); stands = refl; from = refl; entries = lit≤ tt; can = tt };
  new = 3 ∷ [];
  answered = refl;
  to = refl;
  stack = refl;
  pending = refl;
  pieces = refl;
}

step-8 : (registers memory : ℕ → Option ℕ) (limit rip a : ℕ) → StepOf registers memory limit (at_step 9 (a ∷ fifth limit rip ∷ 3 ∷ [])) (at_step 10 (a ∷ sixth limit rip ∷ []))
step-8 registers memory limit rip a = record {
  meets = record { number = 7; placed = (9, shl); stands = refl; from = refl; entries = lit≤ tt; can = tt };
  new = sixth limit rip ∷ [];
  answered = refl;
  to = refl;
  stack = refl;
  pending = refl;
  pieces = refl;
}

step-9 : (registers memory : ℕ → Option ℕ) (limit rip rsp : ℕ) → StepOf registers memory limit (at_step 10 (first rsp ∷ sixth limit rip ∷ [])) (at_step 11 (seventh limit rip rsp ∷ []))
step-9 registers memory limit rip rsp = record {
  meets = record { number = 8; placed = (10, plus); stands = refl; from = refl; entries = lit≤ tt; can = tt };
  new = seventh limit rip rsp ∷ [];
  answered = refl;
  to = refl;
  stack = refl;
  pending = refl;
  pieces = refl;
}

-- the run with rsp and rip known
pub finishes : (registers memory : ℕ → Option ℕ) (limit rip rsp : ℕ) → registers 7 ≡ Some rsp → registers 16 ≡ Some rip
    → IsRun (world registers memory None) FrameCfa (plt_operations limit) 11 (results.value (seventh limit rip rsp)) 9
finishes registers memory limit rip rsp sp ip = inl (record {
  last = at_step 11 (seventh limit rip rsp ∷ []);
  run = (
    at_step 2 (first rsp ∷ []),
    step-1 registers memory limit rsp sp,
    (
      at_step 4 (first rsp ∷ second rip ∷ []),
      step-2 registers memory limit rip (first rsp) ip,
      (
        at_step 5 (first rsp ∷ second rip ∷ 15 ∷ []),
        step-3 registers memory limit rip (first rsp),
        (
          at_step 6 (first rsp ∷ third rip ∷ []),
          step-4 registers memory limit rip (first rsp),
          (
            at_step 7 (first rsp ∷ third rip ∷ fourth limit ∷ []),
            step-5 registers memory limit rip (first rsp),
            (
              at_step 8 (first rsp ∷ fifth limit rip ∷ []),
              step-6 registers memory limit rip (first rsp),
              (
                at_step 9 (first rsp ∷ fifth limit rip ∷ 3 ∷ []),
                step-7 registers memory limit rip (first rsp),
                (
                  at_step 10 (first rsp ∷ sixth limit rip ∷ []),
                  step-8 registers memory limit rip (first rsp),
                  (at_step 11 (seventh limit rip rsp ∷ []), step-9 registers memory limit rip rsp, refl),
                ),
              ),
            ),
          ),
        ),
      ),
    ),
  );
  ended = record { there = refl; result = (refl, lit≤ tt) };
  gives = refl;
})

-- the run without rsp
pub fails : (registers memory : ℕ → Option ℕ) (limit : ℕ) → registers 7 ≡ None
    → IsRun (world registers memory None) FrameCfa (plt_operations limit) 11 (results.unreadable 0) 1
fails registers memory limit none = inr (record {
  last = at_step 0 [];
  why = Unreadable;
  answered = 0;
  run = refl;
  stops = record {
    meets = record { number = 0; placed = (0, breg 7 (pos 8)); stands = refl; from = refl; entries = lit≤ tt; can = tt };
    answered = ap (λ (o : Option ℕ). if_present o (λ n. push (world registers memory None) (pos n +ℤ pos 8))) none;
  };
  count = refl;
  gives = refl;
})
