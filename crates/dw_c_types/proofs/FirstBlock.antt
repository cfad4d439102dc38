-- A number that is read from the first block alone is the number that is read from all blocks.
use Rattle.std.proofs.Common.{◌≡◌, ◌∙◌, ℕ, zero, suc, ◌+◌, ◌≤◌, List, Option, Some, None, IfSome, ap, drop, length, refl, sym, take}
use Rattle.std.specs.Option.{option_map}
use Rattle.dw_bytes.specs.declared.target.Order.{Order}
use Rattle.dw_bytes.specs.declared.target.Order.TheVariants.{Little}
use Rattle.dw_bytes.specs.Encoding.{number}
use Rattle.dw_eval.specs.MemoryBlocks.{block_byte}
use Rattle.dw_eval.specs.World.{prepend_if_known, bytes_from, number_at}
use Rattle.dw_eval.specs.declared.memory_block.MemoryBlock.{MemoryBlock}
use Rattle.dw_eval.proofs.Windows.{window_in}
use Rattle.dw_c_types.specs.Machine.{HasBytesOf, byte_in}
use Rattle.dw_c_types.specs.declared.memory.CBlock.{CBlock}

prepends : (x y : Option ℕ) (xs ys : Option (List ℕ)) (bytes : List ℕ) → ((b : ℕ) → x ≡ Some b → y ≡ Some b)
    → ((l : List ℕ) → xs ≡ Some l → ys ≡ Some l) → prepend_if_known x xs ≡ Some bytes → prepend_if_known y ys ≡ Some bytes
prepends None y xs ys bytes first rest is = cc
prepends (Some b) y None ys bytes first rest is = cc
prepends (Some b) y (Some l) ys bytes first rest is = rw (first b refl, rest l refl) is

same_bytes : (part whole : ℕ → Option ℕ) → ((at b : ℕ) → part at ≡ Some b → whole at ≡ Some b) → (n at : ℕ) (bytes : List ℕ) → bytes_from part at n ≡ Some bytes
    → bytes_from whole at n ≡ Some bytes
unfolding bytes_from
same_bytes part whole within zero at bytes is = is
same_bytes part whole within (suc n) at bytes is =
    prepends (part at) (whole at) (bytes_from part (at + 1) n) (bytes_from whole (at + 1) n) bytes (within at)
    (λ l. same_bytes part whole within n (at + 1) l) is

of_bytes : (order : Order) (n v : ℕ) (xs ys : Option (List ℕ)) → ((l : List ℕ) → xs ≡ Some l → ys ≡ Some l)
    → option_map (number order n) xs ≡ Some v → option_map (number order n) ys ≡ Some v
of_bytes order n v None ys same is = cc
of_bytes order n v (Some l) ys same is = rw (same l refl) is

pub if_first_has : (first : MemoryBlock) (blocks : List CBlock) (found : Option ℕ) (order : Order) (at n : ℕ) → HasBytesOf first blocks
    → found ≡ number_at (block_byte first.base first.bytes.now) order at n → IfSome found (λ v. number_at (byte_in blocks) order at n ≡ Some v)
if_first_has first blocks None order at n within is = tt
if_first_has first blocks (Some v) order at n within is =
    let part = block_byte first.base first.bytes.now in
    of_bytes order n v (bytes_from part at n) (bytes_from (byte_in blocks) at n)
    (λ l. same_bytes part (byte_in blocks) within n at l) (sym is)

-- a word of the first block
pub word_in : (first : MemoryBlock) (blocks : List CBlock) (at i v : ℕ) → HasBytesOf first blocks → at ≡ first.base + i
    → i + 8 ≤ length first.bytes.now → v ≡ number Little 8 (take 8 (drop i first.bytes.now)) → number_at (byte_in blocks) Little at 8 ≡ Some v
word_in first blocks at i v within place le is =
    let bytes = first.bytes.now in
    let part = block_byte first.base bytes in
    let here : bytes_from part at 8 ≡ Some (take 8 (drop i bytes)) =
    ap (λ (a : ℕ). bytes_from part a 8) place ∙ window_in first.base bytes 8 i le in
    ap (option_map (number Little 8)) (same_bytes part (byte_in blocks) within 8 at (take 8 (drop i bytes)) here) ∙ ap Some (sym is)
