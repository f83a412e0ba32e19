use Rattle.std.proofs.Common.{◌≡◌, List, ℕ, sym, subst}
use Rattle.std.specs.Prelude.{if◌then◌else◌}
use Rattle.gl_model.specs.Trace.{is_in}
use Rattle.gl_core.specs.Latests.{latest_of, noted}
use Rattle.gl_core.proofs.NotedAll.{noted_both}
use Rattle.gl_core.proofs.commits.note_all.Goals as goal

pub returns-clause-noted : goal.returns-clause-noted
returns-clause-noted c = λ y.
    let e = c.args.epoch.now in
    let old = latest_of c.args.latests.now.items y in
    let new = latest_of c.note_each-2.new.latests.items y in
    subst (λ (vs : List ℕ). new ≡ (if is_in y vs then noted (is_in y c.args.writes.now) e old else old)) (sym c.requires.variables)
    (noted_both c.args.reads.now c.args.writes.now y e old (latest_of c.note_each.new.latests.items y) new (c.note_each.ensures.noted y)
    (c.note_each-2.ensures.noted y))
