use Rattle.std.proofs.Common.{◌≡◌, ◌∙◌, ap, sym, inl, inr, ℕ, false, ◌⊎◌, subst}
use Rattle.gl_model.specs.Entries.{seen, Plain, Commit, Abort}
use Rattle.gl_model.specs.declared.tx.Why.{Why}
use Rattle.gl_model.specs.Kept.{IsEntryKept}
use Rattle.gl_form.proofs.Draws.{attempt_goes_on, cached_draws_on, none_goes_on, over_draws_none, plain_goes_on, sync_draws_none}
use Rattle.gl_form.proofs.Draws.{trim_draws_none}
use Rattle.gl_form.proofs.drawn.Drawn.rises.Goals as goal

pub returns-then-cached : goal.returns-then-cached
returns-then-cached c =
    let p = c.in-Plain in
    cached_draws_on (seen c.args.entry.now) p.var p.nth p.cached p.write p.value p.raised (ap seen p.is) c.if-cached.true
    c.args.self.now.last.items

pub returns-else-cached : goal.returns-else-cached
returns-else-cached c =
    let p = c.in-Plain in
    let is : seen c.args.entry.now ≡ Plain p.var p.nth false p.write p.value p.raised =
    ap seen p.is ∙ ap (λ b. Plain p.var p.nth b p.write p.value p.raised) c.if-cached.false in
    plain_goes_on (seen c.args.entry.now) p.var p.nth p.write p.value p.raised is (subst IsEntryKept is c.requires)
    c.args.self.now.last.items c.draw.new.self.last.items c.args.self.now.whole
    c.draw.result c.draw.ensures

pub returns-in-Sync : goal.returns-in-Sync
returns-in-Sync c =
    let e = seen c.args.entry.now in
    none_goes_on e
    (λ x k draws. elim c.in-Sync.is [
      | inl w ↦ sync_draws_none e w.0 w.1 w.2 (ap seen w.3) x k draws
      | inr v ↦ elim v [ inl w ↦ trim_draws_none e w.0 (ap seen w.1) x k draws | inr w ↦ over_draws_none e w.0 (ap seen w.1) x k draws ]
    ])
    c.args.self.now.last.items

pub returns-in-Sync-2 : goal.returns-in-Sync-2
returns-in-Sync-2 c =
    let e = seen c.args.entry.now in
    none_goes_on e
    (λ x k draws. elim c.in-Sync.is [
      | inl w ↦ sync_draws_none e w.0 w.1 w.2 (ap seen w.3) x k draws
      | inr v ↦ elim v [ inl w ↦ trim_draws_none e w.0 (ap seen w.1) x k draws | inr w ↦ over_draws_none e w.0 (ap seen w.1) x k draws ]
    ])
    c.args.self.now.last.items

pub returns-in-Sync-3 : goal.returns-in-Sync-3
returns-in-Sync-3 c =
    let e = seen c.args.entry.now in
    none_goes_on e
    (λ x k draws. elim c.in-Sync.is [
      | inl w ↦ sync_draws_none e w.0 w.1 w.2 (ap seen w.3) x k draws
      | inr v ↦ elim v [ inl w ↦ trim_draws_none e w.0 (ap seen w.1) x k draws | inr w ↦ over_draws_none e w.0 (ap seen w.1) x k draws ]
    ])
    c.args.self.now.last.items

pub returns-in-Commit : goal.returns-in-Commit
returns-in-Commit c =
    let tx = c.in-Commit.tx.value in
    let is : ((at : ℕ) × (seen c.args.entry.now ≡ Commit at tx)) ⊎ ((why : Why) × (seen c.args.entry.now ≡ Abort tx why)) =
    elim c.in-Commit.is [ inl w ↦ inl (w.0, ap seen w.1) | inr w ↦ inr (w.0, ap seen w.1) ] in
    attempt_goes_on (seen c.args.entry.now) tx is c.requires c.args.self.now.last.items c.attempt_rises.new.self.last.items
    c.attempt_rises.result
    (rw (sym c.deref.ensures) c.attempt_rises.ensures)
