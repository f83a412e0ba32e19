use Rattle.std.proofs.Common.{ap, ◌∙◌, ◌+◌, ◌==◌}
use Rattle.std.specs.Prelude.{if◌then◌else◌}
use Rattle.gl_model.specs.declared.event.Event.TheVariants.{Act as Does}
use Rattle.gl_clocks.specs.Clocks.{is_thread}
use Rattle.gl_core.proofs.Taken.{moved_on_here, one_longer}
use Rattle.gl_core.specs.TablesView.{clocks_in}
use Rattle.gl_core.proofs.tables.Tables.take_act.Goals as goal

pub returns-clause-clocks : goal.returns-clause-clocks
returns-clause-clocks c = λ h are. record {
  next = one_longer h (record { thread = c.args.thread; event = Does c.args.act }) c.args.self.now.next c.put_own-2.new.self.next are.next
      (c.put_own-2.ensures.next ∙ c.release.ensures.next ∙ c.put_own.ensures.next ∙ c.acquire.ensures.next);
  clocks = λ y u. moved_on_here h (record { thread = c.args.thread; event = Does c.args.act }) (clocks_in c.args.self.now)
      (clocks_in c.acquire.new.self) (clocks_in c.put_own.new.self) (clocks_in c.release.new.self) (clocks_in c.put_own-2.new.self)
      c.args.self.now.next are.clocks are.next c.acquire.ensures.known
      (λ z v. c.put_own.ensures.put z v ∙ ap (λ n. if is_thread c.args.thread z then (if v == c.args.thread then n + 1
      else clocks_in c.acquire.new.self z v) else clocks_in c.acquire.new.self z v) c.acquire.ensures.next)
      c.release.ensures.raised
      (λ z v. c.put_own-2.ensures.put z v ∙ ap (λ n. if is_thread c.args.thread z then (if v == c.args.thread then n + 2
      else clocks_in c.release.new.self z v) else clocks_in c.release.new.self z v)
      (c.release.ensures.next ∙ c.put_own.ensures.next ∙ c.acquire.ensures.next)) y u;
}
