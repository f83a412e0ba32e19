use Rattle.std.proofs.Common.{None}
use Rattle.gl_model.specs.Machine.{trace_setting}
use Rattle.gl_table.specs.CaughtUp.{caught_up}
use Rattle.gl_table.specs.Says.{no_tx, no_key, no_event, no_mark, no_held}
use Rattle.gl_table.proofs.pass.put_object.Given as goal

abbrev pub ghosts-leave_turn : goal.ghosts-leave_turn
ghosts-leave_turn a = record {
  view = caught_up a.seat.now.me.0 a.id a.mine.now.entries;
  setting = trace_setting;
  key = no_key;
  object = a.object;
  quiet = a.quiet;
  held = no_held;
  event = no_event;
  mark = no_mark;
  look = None;
  tx = no_tx;
  index = 0;
}
