-- The bytes of expressions that say a word by rbp.
use Rattle.std.proofs.Common.{◌≡◌, ℕ, zero, suc, nat_lt, ℤ, pos, negsuc, true, List, [], ◌∷◌, refl, arith}
use borrow.Author.Tests.{ltb-true}
use Rattle.dw_bytes.specs.Reading.{fixed_at, sleb_at, take_at}
use Rattle.dw_bytes.specs.Sequence.{sequence_of}
use Rattle.dw_ops.specs.Opcodes.{operation_at, operations_of}
use Rattle.dw_stack.specs.Expressions.{operations_in}
use Rattle.dw_cached_rows.specs.PackedRows.{address_operations, is_small, little_64, word_byte, word_operations}

abbrev pub address_bytes : ℤ → List ℕ
address_bytes words = 0x76 ∷ word_byte words ∷ []

abbrev pub word_bytes : ℤ → List ℕ
word_bytes words = 0x76 ∷ word_byte words ∷ 0x06 ∷ []

abbrev IsCodedSo : ℤ → Type 0
IsCodedSo words = (operations_in little_64 (address_bytes words) ≡ address_operations words) × (operations_in little_64 (word_bytes words) ≡ word_operations words)

pub positive : (n : ℕ) → nat_lt n 8 ≡ true → IsCodedSo (pos n)
unfolding operation_at operations_of sequence_of fixed_at take_at sleb_at
positive zero low = (refl, refl)
positive (suc zero) low = (refl, refl)
positive (suc (suc zero)) low = (refl, refl)
positive (suc (suc (suc zero))) low = (refl, refl)
positive (suc (suc (suc (suc zero)))) low = (refl, refl)
positive (suc (suc (suc (suc (suc zero))))) low = (refl, refl)
positive (suc (suc (suc (suc (suc (suc zero)))))) low = (refl, refl)
positive (suc (suc (suc (suc (suc (suc (suc zero))))))) low = (refl, refl)
positive (suc (suc (suc (suc (suc (suc (suc (suc n)))))))) low = absurd (omega (arith, ltb-true (suc (suc (suc (suc (suc (suc (suc (suc n)))))))) 8 low))

pub negative : (n : ℕ) → nat_lt n 8 ≡ true → IsCodedSo (negsuc n)
unfolding operation_at operations_of sequence_of fixed_at take_at sleb_at
negative zero low = (refl, refl)
negative (suc zero) low = (refl, refl)
negative (suc (suc zero)) low = (refl, refl)
negative (suc (suc (suc zero))) low = (refl, refl)
negative (suc (suc (suc (suc zero)))) low = (refl, refl)
negative (suc (suc (suc (suc (suc zero))))) low = (refl, refl)
negative (suc (suc (suc (suc (suc (suc zero)))))) low = (refl, refl)
negative (suc (suc (suc (suc (suc (suc (suc zero))))))) low = (refl, refl)
negative (suc (suc (suc (suc (suc (suc (suc (suc n)))))))) low = absurd (omega (arith, ltb-true (suc (suc (suc (suc (suc (suc (suc (suc n)))))))) 8 low))

pub coded : (words : ℤ) → is_small words ≡ true → IsCodedSo words
coded (pos n) low = positive n low
coded (negsuc n) low = negative n low
