use Rattle.std.proofs.Common.{None, false}
use Rattle.gl_model.specs.Machine.{trace_setting}
use Rattle.gl_rule.specs.declared.slot.Slot.TheVariants as slot
use Rattle.gl_rule.specs.View.{shelf}
use Rattle.gl_table.specs.CaughtUp.{caught_up}
use Rattle.gl_table.specs.Says.{no_key, no_event, no_mark, no_held}
use Rattle.gl_table.proofs.telling.commit.Given as goal

abbrev pub ghosts-publish_tx : goal.ghosts-publish_tx
ghosts-publish_tx a = record {
  view = caught_up a.seat.now.me.0 a.id a.mine.now.entries;
  setting = trace_setting;
  key = no_key;
  object = 0;
  quiet = false;
  held = no_held;
  event = record { shelf = shelf a.id a.mine.now.entries; act = no_event.act; value = no_event.value; state = slot.List a.state.now };
  mark = no_mark;
  look = None;
  tx = a.tx.now;
  index = 0;
}
