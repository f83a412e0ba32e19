use Rattle.std.proofs.Common.{None, false, ◌+◌}
use Rattle.gl_model.specs.Machine.{trace_setting}
use Rattle.gl_rule.specs.declared.slot.Slot.TheVariants as slot
use Rattle.gl_table.specs.CaughtUp.{caught_up}
use Rattle.gl_table.specs.Putting.{held_at}
use Rattle.gl_table.specs.Says.{no_tx, no_key, no_event, no_mark}
use Rattle.gl_table.proofs.pass.raise_hold.Given as goal

abbrev pub ghosts-raise_floor : goal.ghosts-raise_floor
ghosts-raise_floor a = record {
  view = caught_up a.seat.now.me.0 a.id a.mine.now.entries;
  setting = trace_setting;
  key = no_key;
  object = 0;
  quiet = false;
  held = held_at (a.var + 1) (caught_up a.seat.now.me.0 a.id a.mine.now.entries).held;
  event = record { shelf = no_event.shelf; act = no_event.act; value = no_event.value; state = slot.Row a.row.now };
  mark = no_mark;
  look = None;
  tx = no_tx;
  index = 0;
}
