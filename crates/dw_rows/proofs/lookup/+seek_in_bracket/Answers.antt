use Rattle.std.proofs.Common.{◌≡◌, ◌+◌, ◌∷◌, None, arith, List}
use Rattle.std.specs.Prelude.{find}
use Rattle.dw_frame.specs.Views.{cie_of, fde_of}
use Rattle.dw_rows.specs.UnwindRows.{rows_of, has_address}
use Rattle.dw_rules.specs.RuleSet.{StoredRules}
use Rattle.dw_rows.specs.RowCursors.{cursor_at, RowCursor, above}
use Rattle.dw_rows.proofs.rows.Covering.{not-missed}
use Rattle.dw_rows.proofs.rows.Coming.{plain-row, seeks-found, seeks-on, seeks-cursor, seeks-nearer, seeks-cfa, seeks-lent, seeks-remembers}
use Rattle.dw_rows.proofs.rows.Coming.{seeks-restores, seeks-end}
use Rattle.dw_rows.proofs.lookup.+seek_in_bracket.Goals as goal

pub next_plain-requires : goal.next_plain-requires
next_plain-requires t c =
    let h = c.loop-start.invariant.seeks c.requires.seeks.0 c.requires.seeks.1 in
    (c.copy-rules.result ∷ c.requires.seeks.0, seeks-cursor _ _ _ _ h)

pub returns-then-address-end-clause-found : goal.returns-then-address-end-clause-found
returns-then-address-end-clause-found t c =
    let cie = cie_of c.args.cie.now in
    let fde = fde_of c.args.fde.now in
    let w : RowCursor = cursor_at cie (fde.initial_location + fde.address_range) c.loop-start.state c.loop-start.instructions in
    let new : RowCursor = cursor_at cie (fde.initial_location + fde.address_range) c.next_plain.new.state c.next_plain.new.instructions in
    let rules = c.copy-rules.result in
    let ks : List StoredRules = rules ∷ c.requires.seeks.0 in
    let h = c.loop-start.invariant.seeks c.requires.seeks.0 c.requires.seeks.1 in
    let step = plain-row w new c.in-Row.start c.in-Row.end ks c.in-Row.ensures.next in
    record {
      row = seeks-found cie fde c.args.address (above ks w) (above ks new) c.in-Row.start c.in-Row.end h step c.if-address-end.true;
      cfa = seeks-cfa cie fde c.args.address (above ks w) (above ks new) c.in-Row.start c.in-Row.end h step;
      lent = λ es lends.
          seeks-lent cie fde c.args.address (above ks w) (above ks new) c.in-Row.start c.in-Row.end es h step lends;
      left = (step cie fde h.before h.is_at).is_at.first;
    }

pub loop-start-smaller-else-address-end : goal.loop-start-smaller-else-address-end
loop-start-smaller-else-address-end t c =
    let cie = cie_of c.args.cie.now in
    let fde = fde_of c.args.fde.now in
    let w : RowCursor = cursor_at cie (fde.initial_location + fde.address_range) c.loop-start.state c.loop-start.instructions in
    let new : RowCursor = cursor_at cie (fde.initial_location + fde.address_range) c.next_plain.new.state c.next_plain.new.instructions in
    let rules = c.copy-rules.result in
    let ks : List StoredRules = rules ∷ c.requires.seeks.0 in
    let h = c.loop-start.invariant.seeks c.requires.seeks.0 c.requires.seeks.1 in
    let step = plain-row w new c.in-Row.start c.in-Row.end ks c.in-Row.ensures.next in
    omega (
      arith,
      seeks-nearer cie fde c.args.address (above ks w) (above ks new) c.in-Row.start c.in-Row.end h step,
      c.in-Row.ensures.on,
    )

pub loop-start-preserved-else-address-end : goal.loop-start-preserved-else-address-end
loop-start-preserved-else-address-end t c =
    let cie = cie_of c.args.cie.now in
    let fde = fde_of c.args.fde.now in
    let w : RowCursor = cursor_at cie (fde.initial_location + fde.address_range) c.loop-start.state c.loop-start.instructions in
    let new : RowCursor = cursor_at cie (fde.initial_location + fde.address_range) c.next_plain.new.state c.next_plain.new.instructions in
    let rules = c.copy-rules.result in
    let ks : List StoredRules = rules ∷ c.requires.seeks.0 in
    let h = c.loop-start.invariant.seeks c.requires.seeks.0 c.requires.seeks.1 in
    let step = plain-row w new c.in-Row.start c.in-Row.end ks c.in-Row.ensures.next in
    let i = c.loop-start.invariant in
    let passed = step cie fde h.before h.is_at in
    record {
      seeks = λ others s.
          seeks-on cie fde c.args.address (above (rules ∷ others) w) (above (rules ∷ others) new) c.in-Row.start c.in-Row.end
          (i.seeks others s) (plain-row w new c.in-Row.start c.in-Row.end (rules ∷ others) c.in-Row.ensures.next)
          c.if-address-end.false;
      location = omega (arith, i.location, passed.from, passed.to, passed.some);
      shorter = omega (arith, i.shorter, c.in-Row.ensures.on);
    }

pub seek_in_bracket-requires : goal.seek_in_bracket-requires
seek_in_bracket-requires t c =
    let cie = cie_of c.args.cie.now in
    let fde = fde_of c.args.fde.now in
    let w : RowCursor = cursor_at cie (fde.initial_location + fde.address_range) c.loop-start.state c.loop-start.instructions in
    let new : RowCursor = cursor_at cie (fde.initial_location + fde.address_range) c.next_plain.new.state c.next_plain.new.instructions in
    let rules = c.copy-rules.result in
    let ks : List StoredRules = rules ∷ c.requires.seeks.0 in
    let h = c.loop-start.invariant.seeks c.requires.seeks.0 c.requires.seeks.1 in
    let there = seeks-remembers cie fde c.args.address w new ks h c.in-Remembers.ensures.next in
    let i = c.loop-start.invariant in (
      omega (arith, c.decreases, i.shorter, c.in-Remembers.ensures.on),
      (c.requires.fde, (c.requires.low, (c.requires.high, (ks, there)))),
    )

pub loop-start-smaller : goal.loop-start-smaller
loop-start-smaller t c =
    let cie = cie_of c.args.cie.now in
    let fde = fde_of c.args.fde.now in
    let w : RowCursor = cursor_at cie (fde.initial_location + fde.address_range) c.loop-start.state c.loop-start.instructions in
    let new : RowCursor = cursor_at cie (fde.initial_location + fde.address_range) c.next_plain.new.state c.next_plain.new.instructions in
    let rules = c.copy-rules.result in
    let ks : List StoredRules = rules ∷ c.requires.seeks.0 in
    let h = c.loop-start.invariant.seeks c.requires.seeks.0 c.requires.seeks.1 in
    let went = c.in-Remembers.ensures.next ks cie fde h.before h.is_at in
    let past = c.in_default.ensures.past in
    omega (arith, c.in-Remembers.ensures.on, went.here, past.location, past.shorter)

pub loop-start-preserved : goal.loop-start-preserved
loop-start-preserved t c =
    let cie = cie_of c.args.cie.now in
    let fde = fde_of c.args.fde.now in
    let w : RowCursor = cursor_at cie (fde.initial_location + fde.address_range) c.loop-start.state c.loop-start.instructions in
    let new : RowCursor = cursor_at cie (fde.initial_location + fde.address_range) c.next_plain.new.state c.next_plain.new.instructions in
    let rules = c.copy-rules.result in
    let ks : List StoredRules = rules ∷ c.requires.seeks.0 in
    let h = c.loop-start.invariant.seeks c.requires.seeks.0 c.requires.seeks.1 in
    let i = c.loop-start.invariant in
    let went = c.in-Remembers.ensures.next ks cie fde h.before h.is_at in
    let past = c.in_default.ensures.past in
    record {
      seeks = λ others s. past.seeks (rules ∷ others)
          (seeks-remembers cie fde c.args.address w new (rules ∷ others) (i.seeks others s) c.in-Remembers.ensures.next);
      location = omega (arith, i.location, went.here, past.location);
      shorter = omega (arith, i.shorter, c.in-Remembers.ensures.on, past.shorter);
    }

pub returns-in-Restores-clause-past : goal.returns-in-Restores-clause-past
returns-in-Restores-clause-past t c =
    let cie = cie_of c.args.cie.now in
    let fde = fde_of c.args.fde.now in
    let w : RowCursor = cursor_at cie (fde.initial_location + fde.address_range) c.loop-start.state c.loop-start.instructions in
    let new : RowCursor = cursor_at cie (fde.initial_location + fde.address_range) c.next_plain.new.state c.next_plain.new.instructions in
    let rules = c.copy-rules.result in
    let ks : List StoredRules = rules ∷ c.requires.seeks.0 in
    let h = c.loop-start.invariant.seeks c.requires.seeks.0 c.requires.seeks.1 in
    let i = c.loop-start.invariant in
    let went = c.in-Restores.ensures.next ks cie fde h.before h.is_at in
    rw c.set_rules.ensures (record {
      seeks = λ others s.
          seeks-restores cie fde c.args.address w new rules others (i.seeks others s) c.in-Restores.ensures.next;
      location = omega (arith, i.location, went.goes.here);
      shorter = omega (arith, i.shorter, c.in-Restores.ensures.on);
    })

pub unreachable-requires : goal.unreachable-requires
unreachable-requires t c =
    let cie = cie_of c.args.cie.now in
    let fde = fde_of c.args.fde.now in
    let w : RowCursor = cursor_at cie (fde.initial_location + fde.address_range) c.loop-start.state c.loop-start.instructions in
    let new : RowCursor = cursor_at cie (fde.initial_location + fde.address_range) c.next_plain.new.state c.next_plain.new.instructions in
    let rules = c.copy-rules.result in
    let ks : List StoredRules = rules ∷ c.requires.seeks.0 in
    let h = c.loop-start.invariant.seeks c.requires.seeks.0 c.requires.seeks.1 in
    let none : find (has_address c.args.address) (rows_of cie fde) ≡ None =
    seeks-end cie fde c.args.address w new ks h c.in-End.ensures.next in
    not-missed cie fde c.args.address c.requires.fde c.requires.low c.requires.high none
