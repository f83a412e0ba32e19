use Rattle.std.proofs.Common.{◌≡◌, ◌∙◌, ap, subst, true, false}
use Rattle.gl_model.specs.Entries.{Plain, seen}
use Rattle.gl_model.specs.Kept.{IsEntryKept}
use Rattle.gl_form.proofs.Allowing.{cached_goes_on, numbered_goes_on}
use Rattle.gl_form.proofs.rights.Rights.allow.Goals as goal

pub returns-then-cached : goal.returns-then-cached
returns-then-cached c =
    let p = c.in-Plain in
    let is : seen c.args.entry.now ≡ Plain p.var p.nth true p.write p.value false =
    ap seen p.is ∙ ap (λ b. Plain p.var p.nth b p.write p.value p.raised) c.if-cached.true
    ∙ ap (λ b. Plain p.var p.nth true p.write p.value b) c.if-raised.false in
    cached_goes_on (seen c.args.entry.now) p.var p.nth p.write p.value is c.args.index c.args.self.now.block c.args.self.now.latest.items
    (subst IsEntryKept is c.requires.kept) c.allows.result c.allows.ensures

pub returns-else-cached : goal.returns-else-cached
returns-else-cached c =
    let p = c.in-Plain in
    let is : seen c.args.entry.now ≡ Plain p.var p.nth false p.write p.value false =
    ap seen p.is ∙ ap (λ b. Plain p.var p.nth b p.write p.value p.raised) c.if-cached.false
    ∙ ap (λ b. Plain p.var p.nth false p.write p.value b) c.if-raised.false in
    numbered_goes_on (seen c.args.entry.now) p.var p.nth p.write p.value is c.args.index c.args.self.now.block
    c.args.self.now.latest.items (subst IsEntryKept is c.requires.kept) c.args.self.now.whole
