use Rattle.std.proofs.Common.{None, false, ◌+◌}
use Rattle.gl_model.specs.Machine.{trace_setting}
use Rattle.gl_table.specs.CaughtUp.{caught_up}
use Rattle.gl_table.specs.Putting.{held_at}
use Rattle.gl_table.specs.Says.{no_tx, no_key, no_event, no_mark}
use Rattle.gl_table.specs.Told.{head_slot}
use Rattle.gl_table.proofs.telling.put_paid.Given as goal

abbrev pub ghosts-leave_paid : goal.ghosts-leave_paid
ghosts-leave_paid a = record {
  view = caught_up a.seat.now.me.0 a.id a.mine.now.entries;
  setting = trace_setting;
  key = no_key;
  object = a.var;
  quiet = false;
  held = held_at (a.var + 1) (caught_up a.seat.now.me.0 a.id a.mine.now.entries).held;
  event = record { shelf = no_event.shelf; act = no_event.act; value = no_event.value; state = head_slot a.seat.now.me.1 };
  mark = no_mark;
  look = None;
  tx = no_tx;
  index = 0;
}
