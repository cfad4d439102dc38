use Rattle.std.proofs.Common.{subst}
use Rattle.std.specs.Prelude.{IfErr}
use Rattle.dw_bytes.specs.declared.target.Target.{Target}
use Rattle.dw_rows.specs.Section.{FrameSection, frame_of}
use Rattle.dw_process.specs.BothSections.{AreBothRefused, AreRefusedWith}
use Rattle.dw_process.proofs.BothRefusals.{rows_refused}
use Rattle.dw_process.proofs.process.Process.add_both.Goals as goal

pub returns-clause-refused : goal.returns-clause-refused
returns-clause-refused c =
    let s = c.args.sections in
    let target = c.target-target.result in
    let made = c.in-Ok-marked_frame in
    let modules = c.args.self.now.modules in
    let h : IfErr c.add_both_checked.result (AreRefusedWith c.in-Ok.frame made.made.frame c.args.load_address c.args.range c.args.rooms modules)
    = c.add_both_checked.ensures.refused in
    let refused : IfErr c.add_both_checked.result
    (AreRefusedWith (frame_of target s.debug_frame.now) made.made.frame c.args.load_address c.args.range c.args.rooms modules)
    = subst (λ (f : FrameSection). IfErr c.add_both_checked.result (AreRefusedWith f made.made.frame c.args.load_address c.args.range c.args.rooms modules))
    c.in-Ok.ensures.frame h in
    subst (λ (t : Target). IfErr c.add_both_checked.result (AreBothRefused s t c.args.load_address c.args.range c.args.rooms modules)) c.target-target.ensures
    (rows_refused s target c.args.load_address c.args.range c.args.rooms modules made.made.frame c.in-Ok.ensures.answer made.ensures.frame
    c.add_both_checked.result refused)
