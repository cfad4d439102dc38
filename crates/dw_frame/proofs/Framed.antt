-- Where a record's body and program lie in their section.
use Rattle.std.proofs.Common.{◌≡◌, ℕ, ◌≤◌, List, length, take, Result, Ok, sym, ap, ◌∙◌}
use Rattle.dw_bytes.specs.declared.target.Target.{Target}
use Rattle.dw_bytes.specs.declared.target.Format.{Format}
use Rattle.dw_bytes.specs.declared.fault.Fault.{Fault}
use Rattle.dw_bytes.specs.Reading.{ReadPosition, section_from}
use Rattle.dw_bytes.specs.Bodies.{framed_at, window}
use Rattle.dw_bytes.proofs.Readers.{leaves-suffix}
use Rattle.dw_frame.specs.declared.program.Program.{Program}
use Rattle.dw_frame.specs.Sections.{Header, IsHeader, header_at}
use Rattle.dw_frame.specs.Views.{reading_of, reading_from}
use Rattle.dw_frame.proofs.Headers.{header-exact}

abbrev framed : Format → ReadPosition → ReadPosition → Result ((Format × ReadPosition) × ReadPosition) Fault
framed format body after = Ok ((format, body), after)

-- If a record's body was read, and a program has the same target, start and end as that body, then
-- the body is that program, to be read from its start.
pub framed-program : (target : Target) (section : List ℕ) (at start end : ℕ) (format : Format) (p : Program)
    → framed_at (section_from target section at) ≡ Ok ((format, window target section start end), section_from target section end)
    → p.section.now ≡ take end section → p.start ≡ start → p.target ≡ target → length p.section.now ≡ end
    → framed_at (section_from target section at) ≡ Ok ((format, reading_of p), section_from target section (length p.section.now))
framed-program target section at start end format p is section_is start_is target_is end_is =
    is
    ∙ (ap (λ (s : List ℕ). framed format (section_from target s start) (section_from target section end)) (sym section_is)
    ∙ (ap (λ k. framed format (section_from target p.section.now k) (section_from target section end)) (sym start_is)
    ∙ (ap (λ (t : Target). framed format (section_from t p.section.now p.start) (section_from target section end)) (sym target_is)
    ∙ ap (λ k. framed format (reading_of p) (section_from target section k)) (sym end_is))))

pub header-leaves : (p : Program) (at : ℕ) (format : Format) (h : Header) (after : ReadPosition) → at ≤ length p.section.now
    → header_at p.target format (reading_from p at) ≡ Ok (h, after) → after ≡ reading_from p after.position
header-leaves p at format h after inside is = leaves-suffix p.target (header_at p.target format) (IsHeader p.target format)
    (header-exact p.target format) p.section.now at h after inside is

pub ruleset leaves_laws = (header-leaves)
