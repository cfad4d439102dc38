-- The bytes that linkers write for the CFA's expression in a procedure linkage table.
use Rattle.std.proofs.Common.{◌≡◌, ◌∙◌, ℕ, true, List, [], ◌∷◌, ap, eqb, length, refl}
use Rattle.std.specs.Cmp.Lexicographic.{pointwise}
use Rattle.std.proofs.lemmas.Bool.Decides.{Decides-eqb}
use Rattle.std.proofs.lemmas.Slice.Eq.{slice_eq-Decides}
use Rattle.dw_bytes.specs.declared.target.Target.{Target}
use Rattle.dw_bytes.specs.Reading.{fixed_at, sleb_at, take_at}
use Rattle.dw_bytes.specs.Sequence.{sequence_of}
use Rattle.dw_ops.specs.Opcodes.{operation_at, operations_of}
use Rattle.dw_stack.specs.Expressions.{operations_in}
use Rattle.dw_stack.specs.Located.{LocatedExpression}
use Rattle.dw_cached_rows.specs.PackedRows.{IsPltExpression, little_64, plt_operations}

-- the bytes, of which one says the limit
abbrev pub plt_bytes : ℕ → List ℕ
plt_bytes b = 0x77 ∷ 0x08 ∷ 0x80 ∷ 0x00 ∷ 0x3f ∷ 0x1a ∷ b ∷ 0x2a ∷ 0x33 ∷ 0x24 ∷ 0x22 ∷ []

pub eleven : operations_in little_64 (plt_bytes 0x3b) ≡ plt_operations 11
unfolding operation_at operations_of sequence_of fixed_at take_at sleb_at
eleven = refl

pub nine : operations_in little_64 (plt_bytes 0x39) ≡ plt_operations 9
unfolding operation_at operations_of sequence_of fixed_at take_at sleb_at
nine = refl

pub five : operations_in little_64 (plt_bytes 0x35) ≡ plt_operations 5
unfolding operation_at operations_of sequence_of fixed_at take_at sleb_at
five = refl

-- the expression with these bytes
pub plt-coded : (limit byte : ℕ) (x : LocatedExpression) → x.target ≡ little_64 → x.bytes ≡ plt_bytes byte
    → operations_in little_64 (plt_bytes byte) ≡ plt_operations limit → IsPltExpression limit x
plt-coded limit byte x target bytes is = record {
  target = target;
  are = ap (λ (t : Target). operations_in t x.bytes) target ∙ ap (operations_in little_64) bytes ∙ is;
  long = ap length bytes;
}

pub same-bytes : (xs ys : List ℕ) → pointwise eqb xs ys ≡ true → xs ≡ ys
same-bytes xs ys same = (slice_eq-Decides Decides-eqb xs ys (pointwise eqb xs ys) refl).0 same
