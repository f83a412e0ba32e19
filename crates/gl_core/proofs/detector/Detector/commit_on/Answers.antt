use Rattle.std.proofs.Common.{◌≡◌, refl, rules, ◌∙◌, None}
use Rattle.gl_model.specs.declared.event.Event.TheVariants.{Commit as Commits}
use Rattle.gl_clocks.specs.Clocks.{taken}
use Rattle.gl_core.specs.Cells.{at}
use Rattle.gl_core.specs.TablesView.{clocks_in}
use Rattle.gl_core.proofs.Lent.{found, noted_then}
use Rattle.gl_core.proofs.detector.Detector.commit_on.Goals as goal

pub returns-in-Some-clause-commit : goal.returns-in-Some-clause-commit
returns-in-Some-clause-commit c = (
  found (at c.acquired_all-known.result) (taken (clocks_in c.args.self.now.tables)
      (record { thread = c.args.thread; event = Commits c.args.variables.now })) c.args.writes.now c.args.variables.now
      c.args.self.now.latests.items c.deref.result.now c.first_race.result c.acquired_all-known.ensures.known c.deref.ensures.value
      c.first_race.ensures ∙ c.in-Some.is,
  refl,
)

pub returns-clause-commit : goal.returns-clause-commit
returns-clause-commit c =
    let none : c.first_race.result ≡ None = search rules in (
      found (at c.acquired_all-known.result) (taken (clocks_in c.args.self.now.tables)
          (record { thread = c.args.thread; event = Commits c.args.variables.now })) c.args.writes.now c.args.variables.now
          c.args.self.now.latests.items c.deref.result.now c.first_race.result c.acquired_all-known.ensures.known c.deref.ensures.value
          c.first_race.ensures ∙ none,
      noted_then c.args.self.now.latests.items c.note_all.new.latests.items c.args.thread c.args.self.now.tables.next
          c.commit_epoch-epoch.result c.args.variables.now c.args.writes.now c.commit_epoch-epoch.ensures c.note_all.ensures.noted,
    )
