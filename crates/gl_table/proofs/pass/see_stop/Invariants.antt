use Rattle.std.proofs.Common.{None, false}
use Rattle.gl_model.specs.Machine.{trace_setting}
use Rattle.gl_table.specs.CaughtUp.{caught_up}
use Rattle.gl_table.specs.Says.{no_tx, no_key, no_event, no_mark, no_held}
use Rattle.gl_table.proofs.pass.see_stop.Given as goal

abbrev pub ghosts-load_stop : goal.ghosts-load_stop
ghosts-load_stop a = record {
  view = caught_up a.seat.now.me.0 a.id a.mine.now.entries;
  setting = trace_setting;
  key = no_key;
  object = 0;
  quiet = false;
  held = no_held;
  event = no_event;
  mark = no_mark;
  look = None;
  tx = no_tx;
  index = 0;
}
