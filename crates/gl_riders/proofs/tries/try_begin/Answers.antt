use Rattle.std.proofs.Common.{refl}
use Rattle.gl_riders.proofs.Trying.{begin_tried, within_kept}
use Rattle.gl_riders.proofs.tries.try_begin.Goals as goal

pub returns : goal.returns
returns c = record {
  answered =
      begin_tried c.args.run.now.program.now c.args.run.now.table.now c.args.thread.now.machine c.args.thread.now.pass.own c.args.thread.now.txn _ c.in_ok-begun.begun
      c.requires.asked refl
      c.requires.rides c.in_ok-begun.ensures;
  kept = within_kept c.args.thread.now.pass.own c.args.thread.now.pass.own _ c.in_ok-begun.begun refl c.requires.clear refl;
  machine = refl;
  words = refl;
  pass = refl;
}
