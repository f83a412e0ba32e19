use Rattle.std.proofs.Common.{◌≡◌, ◌∙◌, sym, refl, ap, subst, is_some}
use Rattle.gl_bytecode.specs.Attending.{runs_after}
use Rattle.gl_bytecode.specs.Machine.{Config, ask_of, next}
use Rattle.gl_table.specs.PassView.{Own, PassView}
use Rattle.gl_riders.specs.Owing.{AreKept}
use Rattle.gl_riders.specs.Exchanges.{IsAnswered}
use Rattle.gl_riders.specs.Riding.{Rides}
use Rattle.gl_threads.proofs.Stepping.{answered_may, answered_on, ask_open, home_unforked, kept_swept, may_sweep, rides_again, rides_swept_on, swept_by}
use Rattle.gl_threads.proofs.advance.turn.Goals as goal

pub step-requires : goal.step-requires
step-requires g c =
    let answered : IsAnswered c.args.run.now.program.now c.args.thread.now.machine c.args.ask c.in-Answered.reply c.args.thread.now.pass.own
    c.try_gated.new.thread.pass.own c.args.thread.now.txn c.try_gated.new.thread.txn = rw c.in-Answered.is at c.in_ok-reply.ensures.answered in
    rw c.try_gated.ensures.machine (record {
      fits = c.requires.rides.fits;
      taken =
          answered_may c.args.run.now.program.now c.args.run.now.table.now.id c.args.thread.now.machine c.args.thread.now.pass.own c.args.thread.now.pass.own
          c.try_gated.new.thread.pass.own c.args.thread.now.txn
          c.try_gated.new.thread.txn c.args.ask c.in-Answered.reply c.requires.rides c.requires.asked answered;
      start = answered.starts;
    })

pub returns-in-Answered : goal.returns-in-Answered
returns-in-Answered g c =
    let answered : IsAnswered c.args.run.now.program.now c.args.thread.now.machine c.args.ask c.in-Answered.reply c.args.thread.now.pass.own
    c.try_gated.new.thread.pass.own c.args.thread.now.txn c.try_gated.new.thread.txn = rw c.in-Answered.is at c.in_ok-reply.ensures.answered in
    let s = answered_on c.args.run.now.program.now c.args.run.now.table.now.id c.args.thread.now.machine c.step.new.self c.args.thread.now.pass.own c.args.thread.now.pass.own
    c.try_gated.new.thread.pass.own
    c.args.thread.now.txn c.try_gated.new.thread.txn c.args.ask c.step.result c.in-Answered.reply c.requires.rides refl c.requires.asked answered
    (c.step.ensures.next ∙ ap (λ (m : Config). next c.args.run.now.program.now m c.in-Answered.reply) c.try_gated.ensures.machine)
    c.step.ensures.ask c.step.ensures.in_range
    (c.step.ensures.attempt ∙ ap (λ (m : Config). runs_after (ask_of m.stage) (is_some m.attempt)) c.try_gated.ensures.machine) in
    record {
      on = s.rides;
      kept = c.in_ok-reply.ensures.kept;
      home = tt;
      limit = s.limit;
      id = s.id;
      table = s.table;
      window = c.try_gated.ensures.window;
    }

pub returns-in-Again : goal.returns-in-Again
returns-in-Again g c =
    let same : c.try_gated.new.thread.pass.own ≡ record c.args.thread.now.pass.own { owed = c.try_gated.new.thread.pass.own.owed } =
    rw c.in-Again.is at c.in_ok-reply.ensures.again in
    let idle : c.try_gated.new.thread.txn ≡ c.args.thread.now.txn = rw c.in-Again.is at c.in_ok-reply.ensures.same in
    let s = rides_again c.args.run.now.program.now c.args.run.now.table.now.id c.args.thread.now.machine c.try_gated.new.thread.machine c.args.thread.now.pass.own
    c.try_gated.new.thread.pass.own c.args.thread.now.txn c.try_gated.new.thread.txn c.requires.rides c.try_gated.ensures.machine same idle in
    record {
      on = s.rides;
      kept = c.in_ok-reply.ensures.kept;
      home = tt;
      limit = s.limit;
      id = s.id;
      table = s.table;
      window = c.try_gated.ensures.window;
    }

pub sweep-requires : goal.sweep-requires
sweep-requires g c =
    let same : c.try_gated.new.thread.pass.own ≡ record c.args.thread.now.pass.own { owed = c.try_gated.new.thread.pass.own.owed } =
    rw c.in-Full.is at c.in_ok-reply.ensures.again in
    let idle : c.try_gated.new.thread.txn ≡ c.args.thread.now.txn = rw c.in-Full.is at c.in_ok-reply.ensures.same in
    let r = rides_again c.args.run.now.program.now c.args.run.now.table.now.id c.args.thread.now.machine c.args.thread.now.machine c.args.thread.now.pass.own
    c.try_gated.new.thread.pass.own c.args.thread.now.txn c.try_gated.new.thread.txn c.requires.rides refl same idle in
    let own : c.reserve.new.self.own ≡ c.try_gated.new.thread.pass.own = ap (λ (v : PassView). v.own) c.in_ok-reserve-in-Full.ensures.own in
    let at : Own → Type 0 = λ v. Rides c.args.run.now.program.now c.args.run.now.table.now.id c.args.thread.now.machine v c.try_gated.new.thread.txn in
    record {
      may =
          may_sweep c.args.run.now.program.now c.args.run.now.table.now c.args.thread.now.machine c.reserve.new.self c.try_gated.new.thread.txn c.args.ask
          (subst at (sym own) r.rides)
          c.requires.asked c.requires.asks c.in_ok-reserve-in-Full.ensures.spare;
      window = rw c.try_gated.ensures.window c.requires.window;
    }

pub returns-in_ok-reserve-in-Full : goal.returns-in_ok-reserve-in-Full
returns-in_ok-reserve-in-Full g c =
    let same : c.try_gated.new.thread.pass.own ≡ record c.args.thread.now.pass.own { owed = c.try_gated.new.thread.pass.own.owed } =
    rw c.in-Full.is at c.in_ok-reply.ensures.again in
    let idle : c.try_gated.new.thread.txn ≡ c.args.thread.now.txn = rw c.in-Full.is at c.in_ok-reply.ensures.same in
    let r = rides_again c.args.run.now.program.now c.args.run.now.table.now.id c.args.thread.now.machine c.args.thread.now.machine c.args.thread.now.pass.own
    c.try_gated.new.thread.pass.own c.args.thread.now.txn c.try_gated.new.thread.txn c.requires.rides refl same idle in
    let own : c.reserve.new.self.own ≡ c.try_gated.new.thread.pass.own = ap (λ (v : PassView). v.own) c.in_ok-reserve-in-Full.ensures.own in
    let at : Own → Type 0 = λ v. Rides c.args.run.now.program.now c.args.run.now.table.now.id c.args.thread.now.machine v c.try_gated.new.thread.txn in
    let rides : Rides c.args.run.now.program.now c.args.run.now.table.now.id c.args.thread.now.machine c.reserve.new.self.own c.try_gated.new.thread.txn =
    subst at (sym own) r.rides in
    let swept = swept_by c.args.run.now.table.now c.reserve.new.self c.sweep.new.pass c.sweep.result c.sweep.ensures.swept in
    let s = rides_swept_on c.args.run.now.program.now c.args.run.now.table.now.id c.args.thread.now.machine c.reserve.new.self.own c.sweep.new.pass.own
    c.try_gated.new.thread.txn rides
    (ask_open c.args.run.now.program.now c.args.run.now.table.now.id c.args.thread.now.machine c.reserve.new.self.own c.try_gated.new.thread.txn c.args.ask
    c.requires.asked c.requires.asks rides) swept in
    let kept : Own → Type 0 = λ v. AreKept c.try_gated.new.thread.txn c.try_gated.new.thread.words v in
    record {
      on = rw c.try_gated.ensures.machine s.rides;
      kept = kept_swept c.try_gated.new.thread.words c.try_gated.new.thread.txn c.reserve.new.self.own c.sweep.new.pass.own swept
          (subst kept (sym own) c.in_ok-reply.ensures.kept);
      home = tt;
      limit = ap (λ (m : Config). m.limit) c.try_gated.ensures.machine;
      id = s.id ∙ ap (λ (v : Own). v.id) own ∙ r.id;
      table = s.table ∙ ap (λ (v : Own). v.table) own ∙ r.table;
      window = c.sweep.ensures.window ∙ c.try_gated.ensures.window;
    }

pub returns-then-is_done : goal.returns-then-is_done
returns-then-is_done g c =
    let same : c.try_gated.new.thread.pass.own ≡ record c.args.thread.now.pass.own { owed = c.try_gated.new.thread.pass.own.owed } =
    rw c.in-Unforked.is at c.in_ok-reply.ensures.again in
    let idle : c.try_gated.new.thread.txn ≡ c.args.thread.now.txn = rw c.in-Unforked.is at c.in_ok-reply.ensures.same in
    let s = rides_again c.args.run.now.program.now c.args.run.now.table.now.id c.args.thread.now.machine c.try_gated.new.thread.machine c.args.thread.now.pass.own
    c.try_gated.new.thread.pass.own c.args.thread.now.txn c.try_gated.new.thread.txn c.requires.rides c.try_gated.ensures.machine same idle in
    let r = rides_again c.args.run.now.program.now c.args.run.now.table.now.id c.args.thread.now.machine c.args.thread.now.machine c.args.thread.now.pass.own
    c.try_gated.new.thread.pass.own c.args.thread.now.txn c.try_gated.new.thread.txn c.requires.rides refl same idle in
    record {
      on = tt;
      kept = tt;
      home =
          home_unforked c.args.run.now.program.now c.args.run.now.table.now.id c.args.thread.now.machine c.try_gated.new.thread.pass c.try_gated.new.thread.txn
          c.args.ask r.rides c.requires.asked c.requires.asks (c.is_done.ensures.done c.if-is_done.true);
      limit = s.limit;
      id = s.id;
      table = s.table;
      window = c.try_gated.ensures.window;
    }

pub returns-else-is_done : goal.returns-else-is_done
returns-else-is_done g c =
    let same : c.try_gated.new.thread.pass.own ≡ record c.args.thread.now.pass.own { owed = c.try_gated.new.thread.pass.own.owed } =
    rw c.in-Unforked.is at c.in_ok-reply.ensures.again in
    let idle : c.try_gated.new.thread.txn ≡ c.args.thread.now.txn = rw c.in-Unforked.is at c.in_ok-reply.ensures.same in
    let s = rides_again c.args.run.now.program.now c.args.run.now.table.now.id c.args.thread.now.machine c.try_gated.new.thread.machine c.args.thread.now.pass.own
    c.try_gated.new.thread.pass.own c.args.thread.now.txn c.try_gated.new.thread.txn c.requires.rides c.try_gated.ensures.machine same idle in
    record {
      on = s.rides;
      kept = c.in_ok-reply.ensures.kept;
      home = tt;
      limit = s.limit;
      id = s.id;
      table = s.table;
      window = c.try_gated.ensures.window;
    }
