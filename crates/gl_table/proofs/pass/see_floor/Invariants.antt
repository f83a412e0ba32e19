use Rattle.std.proofs.Common.{None, false, ◌+◌}
use Rattle.gl_model.specs.Machine.{trace_setting}
use Rattle.gl_table.specs.CaughtUp.{caught_up}
use Rattle.gl_table.specs.Putting.{held_at}
use Rattle.gl_table.specs.Says.{no_tx, no_key, no_event, no_mark}
use Rattle.gl_table.proofs.pass.see_floor.Given as goal

abbrev pub ghosts-load_floor : goal.ghosts-load_floor
ghosts-load_floor a = record {
  view = caught_up a.seat.now.me.0 a.id a.mine.now.entries;
  setting = trace_setting;
  key = no_key;
  object = 0;
  quiet = false;
  held = held_at (a.var + 1) (caught_up a.seat.now.me.0 a.id a.mine.now.entries).held;
  event = no_event;
  mark = no_mark;
  look = None;
  tx = no_tx;
  index = 0;
}
