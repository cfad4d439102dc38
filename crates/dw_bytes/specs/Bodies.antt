-- The body of a record or table, which comes after its initial length (DWARF 5, section 7.4).
use Rattle.std.specs.Prelude.{◌≡◌, ℕ, ◌+◌, List, ◌++◌, length, take, Result, Ok}
use Rattle.dw_bytes.specs.declared.target.Target.{Target}
use Rattle.dw_bytes.specs.declared.target.Format.{Format}
use Rattle.dw_bytes.specs.declared.fault.Fault.{Fault}
use Rattle.dw_bytes.specs.Encoding.{InitialLengthPair}
use Rattle.dw_bytes.specs.Reading.{ReadPosition, ◌>>=◌, section_from, take_at, initial_length_at}

-- the given bytes as all that is left to read, beginning at the position of r
abbrev pub body_of : ReadPosition → List ℕ → ReadPosition
body_of r bytes = record { target = r.target; position = r.position; rest = bytes }

-- Reads an initial length, and the body of that many bytes. Gives the format, the body by itself,
-- so that no read inside it goes past its end, and what is left after the body.
unfoldable pub framed_at : ReadPosition → Result ((Format × ReadPosition) × ReadPosition) Fault
framed_at r = do
  size ← initial_length_at r
  body ← take_at size.0.1 size.1
  Ok ((size.0.0, body_of size.1 body.0), body.1)

-- The bytes left at r are an encoded initial length, then a body of that many bytes, then the bytes
-- left at `after`.
pub record IsFramed (r : ReadPosition) (format : Format) (body after : ReadPosition) : Type 0 where
  pub front : List ℕ
  pub length_is : InitialLengthPair r.target.order front (format, length body.rest)
  pub parts : r.rest ≡ front ++ (body.rest ++ after.rest)
  pub body_position : body.position ≡ r.position + length front
  pub body_target : body.target ≡ r.target
  pub position : after.position ≡ body.position + length body.rest
  pub target : after.target ≡ r.target

-- what is left to read of a section from offset start on, if the section is cut at offset end
abbrev pub window : Target → List ℕ → ℕ → ℕ → ReadPosition
window target section start end = section_from target (take end section) start
