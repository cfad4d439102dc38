-- What a state file gives: the facts in its lines, its first bad line, and the machine state.
use Rattle.std.specs.Prelude.{◌≡◌, ℕ, suc, ◌+◌, ◌-◌, ◌≤◌, ◌^◌, ◌==◌, nat_lt, nat_le, Bool, not, ◌&&◌, ◌||◌, if◌then◌else◌}
use Rattle.std.specs.Prelude.{List, [], ◌∷◌, ◌++◌, length, take, find, fold, slice_get}
use Rattle.std.specs.Prelude.{Option, Some, None, is_some, option_map, option_and_then, Result, Ok, Err, codes}
use Rattle.std.specs.List.{filter_map, list_all, range_with_len}
use Rattle.std.specs.Option.{is_none, option_or}
use Rattle.std.specs.Result.{result_ok}
use Rattle.std.specs.Str.{bytes_eq}
use Rattle.hex.specs.Hex.{decode_of}
use Rattle.dw_bytes.specs.declared.target.Target.{Target}
use Rattle.dw_frame.specs.Sections.{top_of}
use Rattle.dw_rules.specs.Abi.{is_among, abi_fault}
use Rattle.dw_state.specs.Addresses.{short_number, address_of}
use Rattle.dw_state.specs.Parts.{parts_of}

-- what a line gives: a register's number and content, an address and the bytes from there on, the
-- CFA, the frame base, the object's address, the number of a callee-saved register, or the number
-- of the stack pointer
pub data StateFact : Type 0 where
  register : ℕ → ℕ → StateFact
  bytes : ℕ → List ℕ → StateFact
  cfa : ℕ → StateFact
  frame_base : ℕ → StateFact
  object : ℕ → StateFact
  keep : ℕ → StateFact
  stack_pointer : ℕ → StateFact

-- if the fact gives bytes of memory, the address of the last byte is at most 2^64 - 1
abbrev pub FitsAddresses : StateFact → Type 0
FitsAddresses (bytes a bs) = a + length bs ≤ 2 ^ 64
FitsAddresses _ = Unit {0}

-- ---- what a line gives; None if the line is malformed

-- The fact that memory holds the bytes `bs` from address a on. It is None if there are no bytes, or
-- if the last one would be past the target's greatest address.
abbrev pub bytes_fact : Target → ℕ → List ℕ → Option StateFact
bytes_fact target a bs = if nat_lt 0 (length bs) && nat_le (a + length bs) (suc (top_of target)) then Some (bytes a bs) else None

-- `reg N 0xV`, where `place` is N and `value` is `0xV`
abbrev pub register_fact : Target → List ℕ → List ℕ → Option StateFact
register_fact target place value = option_and_then (λ r. option_map (register r) (address_of target value)) (short_number place)

-- `mem 0xA HEX`, where `place` is `0xA` and `value` is HEX
abbrev pub memory_fact : Target → List ℕ → List ℕ → Option StateFact
memory_fact target place value = option_and_then (λ a. option_and_then (bytes_fact target a) (result_ok (decode_of value)))
    (address_of target place)

-- a line of three words, the first of which has to be `reg` or `mem`
abbrev pub fact_of_three_words : Target → List ℕ → List ℕ → List ℕ → Option StateFact
fact_of_three_words target word place value =
    if bytes_eq word (codes "reg") then register_fact target place value
    else (if bytes_eq word (codes "mem") then memory_fact target place value
    else None)

-- a line of two words: `cfa 0xV`, `frame 0xV`, `object 0xV`, `keep N` or `sp N`
abbrev pub fact_of_two_words : Target → List ℕ → List ℕ → Option StateFact
fact_of_two_words target word value =
    if bytes_eq word (codes "cfa") then option_map cfa (address_of target value)
    else (if bytes_eq word (codes "frame") then option_map frame_base (address_of target value)
    else (if bytes_eq word (codes "object") then option_map object (address_of target value)
    else (if bytes_eq word (codes "keep") then option_map keep (short_number value)
    else (if bytes_eq word (codes "sp") then option_map stack_pointer (short_number value)
    else None))))

abbrev pub fact_of_words : Target → List (List ℕ) → Option StateFact
fact_of_words target (word ∷ value ∷ []) = fact_of_two_words target word value
fact_of_words target (word ∷ place ∷ value ∷ []) = fact_of_three_words target word place value
fact_of_words target words = None

-- what a line gives; its words are separated by single spaces
abbrev pub fact_of_line : Target → List ℕ → Option StateFact
fact_of_line target line = fact_of_words target (parts_of 32 line)

-- ---- the state that facts give: if two lines give the same thing, the first one counts

abbrev pub first_that : {X : Type 0} → (StateFact → Option X) → List StateFact → Option X
first_that pick [] = None
first_that pick (fact ∷ facts) = option_or (pick fact) (first_that pick facts)

abbrev pub content_in : ℕ → StateFact → Option ℕ
content_in n (register m v) = if m == n then Some v else None
content_in n _ = None

abbrev pub byte_in : ℕ → StateFact → Option ℕ
byte_in a (bytes m bs) = if nat_le m a then slice_get bs (a - m) else None
byte_in a _ = None

abbrev pub cfa_in : StateFact → Option ℕ
cfa_in (cfa v) = Some v
cfa_in _ = None

abbrev pub frame_base_in : StateFact → Option ℕ
frame_base_in (frame_base v) = Some v
frame_base_in _ = None

abbrev pub object_in : StateFact → Option ℕ
object_in (object v) = Some v
object_in _ = None

abbrev pub stack_pointer_in : StateFact → Option ℕ
stack_pointer_in (stack_pointer n) = Some n
stack_pointer_in _ = None

-- ---- callee-saved registers

-- the callee-saved registers `ns`, with the register of a `keep` fact added at the end, unless `ns`
-- has it already
abbrev pub kept_with : List ℕ → StateFact → List ℕ
kept_with ns (keep n) = if is_among n ns then ns else ns ++ n ∷ []
kept_with ns _ = ns

-- the callee-saved registers that facts give, in order, each once
abbrev pub kept_in : List StateFact → List ℕ
kept_in facts = fold kept_with [] facts

-- ---- the file

-- what lines give, in their order
abbrev pub facts_of_lines : Target → List (List ℕ) → List StateFact
facts_of_lines target lines = filter_map (fact_of_line target) lines

-- a line is empty or well formed
abbrev pub is_line : Target → List ℕ → Bool
is_line target line = length line == 0 || is_some (fact_of_line target line)

-- The callee-saved registers and the stack pointer that facts give make an ABI: at most `MAX_KEPT`
-- registers are callee-saved, and the stack pointer isn't one of them.
abbrev pub go_together : List StateFact → Bool
go_together facts = is_none (abi_fault (kept_in facts) (first_that stack_pointer_in facts))

-- each line is empty or well formed, and the `keep` and `sp` lines make an ABI (`go_together`)
abbrev pub are_good : Target → List (List ℕ) → Bool
are_good target lines = list_all (is_line target) lines && go_together (facts_of_lines target lines)

-- The number, counted from 1, of the first bad line; None if no line is bad. A line is bad if it is
-- malformed, or if the `keep` and `sp` lines up to this one don't make an ABI.
abbrev pub first_bad_line : Target → List (List ℕ) → Option ℕ
first_bad_line target lines = find (λ n. not (are_good target (take n lines))) (range_with_len 1 (length lines))

abbrev pub unless_bad : List StateFact → Option ℕ → Result (List StateFact) ℕ
unless_bad facts None = Ok facts
unless_bad facts (Some n) = Err n

-- what the lines of a file give, or the number of the first bad line; LFs separate lines
abbrev pub facts_of_file : Target → List ℕ → Result (List StateFact) ℕ
facts_of_file target text = let lines = parts_of 10 text in unless_bad (facts_of_lines target lines) (first_bad_line target lines)

-- the known part of a machine's state
pub record KnownState : Type 0 where
  pub registers : ℕ → Option ℕ
  pub memory : ℕ → Option ℕ
  pub cfa : Option ℕ
  pub frame_base : Option ℕ
  pub object : Option ℕ
  pub kept : List ℕ
  pub stack_pointer : Option ℕ

-- the known state is exactly what the facts give
pub record IsGivenBy (k : KnownState) (facts : List StateFact) : Type 0 where
  pub registers : (n : ℕ) → k.registers n ≡ first_that (content_in n) facts
  pub memory : (a : ℕ) → k.memory a ≡ first_that (byte_in a) facts
  pub cfa : k.cfa ≡ first_that cfa_in facts
  pub frame_base : k.frame_base ≡ first_that frame_base_in facts
  pub object : k.object ≡ first_that object_in facts
  pub kept : k.kept ≡ kept_in facts
  pub stack_pointer : k.stack_pointer ≡ first_that stack_pointer_in facts
