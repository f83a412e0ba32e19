use Rattle.std.proofs.Common.{None, false}
use Rattle.gl_model.specs.Machine.{trace_setting}
use Rattle.gl_rule.specs.View.{shelf}
use Rattle.gl_table.specs.CaughtUp.{caught_up}
use Rattle.gl_table.specs.Says.{no_tx, no_event, no_key, no_mark, no_held}
use Rattle.gl_table.proofs.pass.lower.Given as goal

abbrev pub ghosts-raise_first : goal.ghosts-raise_first
ghosts-raise_first a = record {
  view = caught_up a.seat.now.me.0 a.id a.mine.now.entries;
  setting = trace_setting;
  key = no_key;
  object = a.to;
  quiet = false;
  held = no_held;
  event = record { shelf = shelf a.id a.mine.now.entries; act = no_event.act; value = no_event.value; state = no_event.state };
  mark = no_mark;
  look = None;
  tx = no_tx;
  index = 0;
}
