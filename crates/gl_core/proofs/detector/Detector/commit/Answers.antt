use Rattle.std.proofs.Common.{subst}
use Rattle.gl_model.specs.declared.event.Event.TheVariants.{Commit as Commits}
use Rattle.gl_model.specs.Rising.{Rises}
use Rattle.gl_clocks.specs.Clocks.{taken}
use Rattle.gl_core.specs.Lines.{CommitDone, ClocksDone}
use Rattle.gl_core.specs.TablesView.{clocks_in}
use Rattle.gl_core.proofs.detector.Detector.commit.Goals as goal

pub returns-in-Some-clause-done : goal.returns-in-Some-clause-done
returns-in-Some-clause-done c = λ few. subst
    (λ vs. Rises vs × CommitDone (taken (clocks_in c.args.self.now.tables) (record { thread = c.args.thread; event = Commits vs }))
    c.args.self.now.latests.items c.args.thread c.args.self.now.tables.next vs c.args.writes.now c.commit_on.result
    c.commit_on.new.self.latests.items × ClocksDone c.args.self.now.tables c.args.thread vs c.commit_on.result
    c.commit_on.new.self.tables)
    c.in-Some.ensures.0 (c.commit_on.ensures.rising, c.commit_on.ensures.commit, c.commit_on.ensures.clocks)
