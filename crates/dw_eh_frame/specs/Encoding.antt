-- Which bytes encode which records of an `.eh_frame` section (LSB Core, section 10.6.1). Nothing is
-- read here: each definition says of given bytes what they are.
use Rattle.std.specs.Prelude.{◌≡◌, ◌≢◌, ◌≤◌, ◌+◌, ℕ, ℤ, Bool, true, false, ◌⊎◌, List, [], ◌∷◌, ◌++◌, length, All, Contains, Some}
use Rattle.std.specs.Int.{w64, cast_unsigned}
use Rattle.dw_bytes.specs.declared.target.Target.{Target}
use Rattle.dw_bytes.specs.declared.target.Format.{Format}
use Rattle.dw_bytes.specs.Encoding.{Fixed, Address, Uleb, Sleb, InitialLengthPair}
use Rattle.dw_bytes.specs.Reading.{ReadPosition}
use Rattle.dw_bytes.specs.Operands.{Block, IsBlock}
use Rattle.dw_bytes.specs.Fields.{Encodes}
use Rattle.dw_frame.specs.Records.{is_version}
use Rattle.dw_frame.specs.Sections.{past_augmentation}
use Rattle.dw_eh_frame.specs.declared.augmentation.Augmentation.{Augmentation}
use Rattle.dw_eh_frame.specs.declared.pointer.Bases.{Bases}
use Rattle.dw_eh_frame.specs.declared.pointer.PointerFormat.{PointerFormat}
use Rattle.dw_eh_frame.specs.declared.pointer.PointerFormat.TheVariants as formats
use Rattle.dw_eh_frame.specs.declared.pointer.PointerEncoding.{PointerEncoding}
use Rattle.dw_eh_frame.specs.Pointers.{sign_extended, base_at, padding_at, wrapped, is_range}
use Rattle.dw_eh_frame.specs.Augmentations.{no_letters, is_old, say}
use Rattle.dw_eh_frame.specs.Records.{EhCieHead, EhCie, EhRecord, eh_cie, eh_fde, eh_nothing, eh_cie_with, eh_fde_with}

-- ---- the fields of a CIE before its program

-- the letters of an augmentation's string, and a 0 that ends it; here at most eight letters
pub record IsString (bytes : List ℕ) (letters : List ℕ) : Type 0 where
  pub parts : bytes ≡ letters ++ 0 ∷ []
  pub letters_are : All (λ letter. letter ≢ 0) letters
  pub few : length letters ≤ 8

-- With the letters eh an address follows the string: that of a table about exceptions. Without them
-- nothing does.
abbrev pub IsEhData : Target → Bool → List ℕ → Type 0
IsEhData target true bytes = (address : ℕ) × Address target bytes address
IsEhData target false bytes = bytes ≡ []

-- no letters, or the letters eh: there is no augmentation data
pub record IsWithoutData (letters : List ℕ) (bytes : List ℕ) (a : Augmentation) : Type 0 where
  pub letters_are : (letters ≡ []) ⊎ (is_old letters ≡ true)
  pub nothing : bytes ≡ []
  pub says : a ≡ no_letters

-- The letter z (122), and others: the augmentation data is a size and as many bytes, and the other
-- letters say what these mean.
pub record IsWithData (target : Target) (letters : List ℕ) (at : ℕ) (bytes : List ℕ) (a : Augmentation) : Type 0 where
  pub others : List ℕ
  pub area : Block
  pub letters_are : letters ≡ 122 ∷ others
  pub area_is : IsBlock target at bytes area
  pub says : say target others area.bytes (record no_letters { has_data = true }) ≡ Some a

-- the augmentation data of a CIE whose string has these letters
abbrev pub IsAugmentation : Target → List ℕ → ℕ → List ℕ → Augmentation → Type 0
IsAugmentation target letters at bytes a = IsWithoutData letters bytes a ⊎ IsWithData target letters at bytes a

-- The fields of a CIE after its id: its version in a byte; the augmentation's string; with the
-- letters eh, an address; what follows the string in `.debug_frame` too; and the augmentation data.
pub record IsEhCieHead (target : Target) (at : ℕ) (bytes : List ℕ) (head : EhCieHead) : Type 0 where
  pub version_bytes : List ℕ
  pub string : List ℕ
  pub table : List ℕ
  pub numbers : List ℕ
  pub area : List ℕ
  pub version : ℕ
  pub letters : List ℕ
  pub parts : bytes ≡ version_bytes ++ (string ++ (table ++ (numbers ++ area)))
  pub version_is : Fixed target.order 1 version_bytes version
  pub version_known : is_version version ≡ true
  pub string_is : IsString string letters
  pub table_is : IsEhData target (is_old letters) table
  pub numbers_are : Encodes target (past_augmentation (λ header. header) target version)
      (at + length version_bytes + length string + length table) numbers head.numbers
  pub augmentation_is : IsAugmentation target letters
      (at + length version_bytes + length string + length table + length numbers) area head.augmentation

-- ---- the fields of an FDE before its program

-- the number of an encoded pointer (10.5.1), as a number of 64 bits
abbrev pub IsNumber : Target → PointerFormat → List ℕ → ℕ → Type 0
IsNumber target formats.Address bytes n = Address target bytes n
IsNumber target formats.Uleb bytes n = Uleb bytes n
IsNumber target formats.U16 bytes n = Fixed target.order 2 bytes n
IsNumber target formats.U32 bytes n = Fixed target.order 4 bytes n
IsNumber target formats.U64 bytes n = Fixed target.order 8 bytes n
IsNumber target formats.Sleb bytes n = (z : ℤ) × Sleb bytes z × (n ≡ cast_unsigned w64 z)
IsNumber target formats.I16 bytes n = (m : ℕ) × Fixed target.order 2 bytes m × (n ≡ sign_extended 2 m)
IsNumber target formats.I32 bytes n = (m : ℕ) × Fixed target.order 4 bytes m × (n ≡ sign_extended 4 m)
IsNumber target formats.I64 bytes n = Fixed target.order 8 bytes n

-- An encoded address: bytes that only fill up to an aligned pointer, and a number. The number is
-- added to the address that the encoding says, which has to be known.
pub record IsPointer (bases : Bases) (encoding : PointerEncoding) (target : Target) (at : ℕ) (bytes : List ℕ) (address : ℕ) : Type 0 where
  pub base : ℕ
  pub number : ℕ
  pub padding : List ℕ
  pub written : List ℕ
  pub base_is : base_at bases encoding.base at ≡ Some base
  pub parts : bytes ≡ padding ++ written
  pub padded : length padding ≡ padding_at bases target encoding.base at
  pub number_is : IsNumber target encoding.format written number
  pub address_is : address ≡ wrapped target (base + number)

-- the number of addresses from `initial` on, at most up to the highest address
pub record IsRange (target : Target) (format : PointerFormat) (initial : ℕ) (bytes : List ℕ) (range : ℕ) : Type 0 where
  pub number_is : IsNumber target format bytes range
  pub fits : is_range target initial range ≡ true

-- the augmentation data of an FDE: a size and as many bytes, if its CIE has augmentation data
abbrev pub IsArea : Target → Bool → ℕ → List ℕ → Type 0
IsArea target true at bytes = (area : Block) × IsBlock target at bytes area
IsArea target false at bytes = bytes ≡ []

-- The fields of an FDE after its CIE pointer: its first address, the number of its addresses, and
-- its augmentation data. Its CIE's augmentation says how these are written.
pub record IsEhFdeHead (bases : Bases) (a : Augmentation) (target : Target) (at : ℕ) (bytes : List ℕ) (addresses : ℕ × ℕ) : Type 0 where
  pub pointer : List ℕ
  pub range : List ℕ
  pub area : List ℕ
  pub parts : bytes ≡ pointer ++ (range ++ area)
  pub initial_is : IsPointer bases a.addresses target at pointer addresses.0
  pub range_is : IsRange target a.addresses.format addresses.0 range addresses.1
  pub area_is : IsArea target a.has_data (at + length pointer + length range) area

-- ---- records

-- a program, from its first byte's offset on
abbrev pub program_at : Target → ℕ → List ℕ → ReadPosition
program_at target at bytes = record { target = target; position = at; rest = bytes }

-- no bytes: a record of length 0
pub record IsNothing (at : ℕ) (bytes : List ℕ) (x : EhRecord) : Type 0 where
  pub nothing : bytes ≡ []
  pub record_is : x ≡ eh_nothing at

-- A CIE: its id, which is 0, its fields and its program. Its body begins at the offset `place`.
pub record IsEhCie (is_aarch64 : Bool) (target : Target) (at : ℕ) (format : Format) (place : ℕ) (bytes : List ℕ)
    (x : EhRecord) : Type 0 where
  pub id : List ℕ
  pub fields : List ℕ
  pub program : List ℕ
  pub head : EhCieHead
  pub parts : bytes ≡ id ++ (fields ++ program)
  pub id_is : Fixed target.order 4 id 0
  pub head_is : IsEhCieHead target (place + length id) fields head
  pub record_is : x ≡ eh_cie (eh_cie_with is_aarch64 at format head (program_at target (place + length id + length fields) program))

-- An FDE: its CIE pointer, its fields and its program. The CIE pointer is how far the FDE's CIE
-- begins before the CIE pointer itself, and the CIE is one of the records before the FDE.
pub record IsEhFde (bases : Bases) (target : Target) (before : List EhRecord) (at : ℕ) (format : Format) (place : ℕ) (bytes : List ℕ)
    (x : EhRecord)
    : Type 0 where
  pub pointer : List ℕ
  pub fields : List ℕ
  pub program : List ℕ
  pub back : ℕ
  pub cie : EhCie
  pub addresses : ℕ × ℕ
  pub parts : bytes ≡ pointer ++ (fields ++ program)
  pub pointer_is : Fixed target.order 4 pointer back
  pub no_id : back ≢ 0
  pub cie_is_before : Contains before (eh_cie cie)
  pub cie_begins : cie.cie.offset + back ≡ place
  pub fields_are : IsEhFdeHead bases cie.augmentation target (place + length pointer) fields addresses
  pub record_is : x ≡ eh_fde (eh_fde_with at format place cie addresses.0 addresses.1
      (program_at target (place + length pointer + length fields) program))

-- the bytes of a record after its length
abbrev pub IsEhBody : Bool → Bases → Target → List EhRecord → ℕ → Format → ℕ → List ℕ → EhRecord → Type 0
IsEhBody is_aarch64 bases target before at format place bytes x = IsNothing at bytes x
    ⊎ (IsEhCie is_aarch64 target at format place bytes x ⊎ IsEhFde bases target before at format place bytes x)

-- A record, after the records `before`: a length, and a body of that many bytes.
pub record IsEhRecord (is_aarch64 : Bool) (bases : Bases) (target : Target) (before : List EhRecord) (at : ℕ) (bytes : List ℕ)
    (x : EhRecord)
    : Type 0 where
  pub format : Format
  pub front : List ℕ
  pub body : List ℕ
  pub parts : bytes ≡ front ++ body
  pub length_is : InitialLengthPair target.order front (format, length body)
  pub body_is : IsEhBody is_aarch64 bases target before at format (at + length front) body x

-- Records one after another, without gaps. Each comes after the records `before` and those that
-- precede it here.
abbrev pub AreEhRecords : Bool → Bases → Target → List EhRecord → ℕ → List ℕ → List EhRecord → Type 0
AreEhRecords is_aarch64 bases target before at bytes [] = bytes ≡ []
AreEhRecords is_aarch64 bases target before at bytes (x ∷ xs) = (first rest : List ℕ) × (bytes ≡ first ++ rest)
    × IsEhRecord is_aarch64 bases target before at first x
    × AreEhRecords is_aarch64 bases target (before ++ x ∷ []) (at + length first) rest xs
