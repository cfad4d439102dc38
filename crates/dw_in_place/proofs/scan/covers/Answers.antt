use Rattle.std.proofs.Common.{◌≡◌, ap, refl, Bool, true, false, ℕ}
use Rattle.std.specs.Prelude.{IsTrue}
use Rattle.std.specs.Bool.{OnTrue}
use Rattle.dw_rows.specs.Section.{Covers}
use Rattle.dw_eh_frame.specs.Records.{EhFde, EhRecord, eh_fde}
use Rattle.dw_eh_frame.specs.Views.{eh_fde_of, eh_record_of}
use Rattle.dw_in_place.proofs.scan.covers.Goals as goal

covered : (b : Bool) (x : EhRecord) (e : EhFde) (a : ℕ) → x ≡ eh_fde e → (IsTrue b → Covers e.fde a)
    → OnTrue b ((y : EhFde) × (x ≡ eh_fde y) × Covers y.fde a)
covered true x e a is so = (e, is, so refl)
covered false x e a is so = tt

pub returns-in-Fde-clause-yes : goal.returns-in-Fde-clause-yes
returns-in-Fde-clause-yes c =
    covered c.covers_address.result (eh_record_of c.args.record.now) (eh_fde_of c.in-Fde.fde) c.args.address (ap eh_record_of c.in-Fde.is)
    c.covers_address.ensures.0
