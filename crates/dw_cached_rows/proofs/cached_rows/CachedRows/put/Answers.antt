use Rattle.std.proofs.Common.{◌≡◌, ◌<◌, inl, inr, length, rules, suc}
use Rattle.dw_cached_rows.proofs.Entries.{put-held, put-only, stands-some}
use Rattle.dw_cached_rows.proofs.cached_rows.CachedRows.put.Goals as goal

pub returns-clause-held : goal.returns-clause-held
returns-clause-held c = λ some row stands.
    let index = c.entry_for-index.result in
    let inside : index < length c.args.self.now.rows = search rules in
    let key : c.in-Some.key ≡ suc c.args.address = search rules in
    put-held c.args.self.now.rows index c.args.entry c.args.slot c.in-Some.key c.args.address row inside c.entry_for-index.ensures.inside c.requires
    key c.entry_for-index.ensures.set stands

pub returns-clause-dropped : goal.returns-clause-dropped
returns-clause-dropped c = λ none other at held holds.
    let index = c.entry_for-index.result in
    let inside : index < length c.args.self.now.rows = search rules in
    let key : c.in-Some.key ≡ suc c.args.address = search rules in
    let zero : c.args.entry.form ≡ 0 = search rules in
    elim (put-only c.args.self.now.rows index c.args.entry c.args.slot c.in-Some.key c.args.address other at held inside c.requires key holds) [
      | inl before ↦ before
      | inr put ↦ absurd (stands-some c.args.entry c.args.address held zero put.is)
    ]

pub returns-clause-only : goal.returns-clause-only
returns-clause-only c = λ other at held holds.
    let index = c.entry_for-index.result in
    let inside : index < length c.args.self.now.rows = search rules in
    let key : c.in-Some.key ≡ suc c.args.address = search rules in
    put-only c.args.self.now.rows index c.args.entry c.args.slot c.in-Some.key c.args.address other at held inside c.requires key holds
