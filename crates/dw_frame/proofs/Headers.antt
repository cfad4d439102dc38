-- The header of a record is read exactly if the next bytes encode it.
use Rattle.dw_bytes.specs.declared.target.Target.{Target}
use Rattle.dw_bytes.specs.declared.target.Format.{Format}
use Rattle.dw_bytes.proofs.Readers.{ExactAt}
use Rattle.dw_bytes.proofs.FieldsOf.{fields-exact}
use Rattle.dw_frame.specs.Sections.{header_fields, IsHeader, header_at}

pub header-exact : (target : Target) (format : Format) → ExactAt target (header_at target format) (IsHeader target format)
unfolding header_at
header-exact target format r same = let here = fields-exact target (header_fields target format) r same in
    record { found = here.found; only = here.only }
