use Rattle.std.proofs.Common.{false, ◌+◌}
use Rattle.std.specs.Prelude.{pos}
use Rattle.gl_model.specs.Machine.{trace_setting}
use Rattle.gl_rule.specs.View.{shelf}
use Rattle.gl_table.specs.CaughtUp.{caught_up, block_of}
use Rattle.gl_table.specs.Putting.{held_at}
use Rattle.gl_table.specs.Says.{no_tx, no_key, no_event}
use Rattle.gl_table.proofs.telling.open.Given as goal

abbrev pub ghosts-open_number : goal.ghosts-open_number
ghosts-open_number a = record {
  view = caught_up a.seat.now.me.0 a.id a.mine.now.entries;
  setting = trace_setting;
  key = no_key;
  object = a.var;
  quiet = false;
  held = held_at (a.var + 1) (caught_up a.seat.now.me.0 a.id a.mine.now.entries).held;
  event = no_event;
  mark =
      record { shelf = shelf a.id a.mine.now.entries; block = block_of a.mine.now.entries; write = false; value = pos 0; raised = false };
  look = a.look;
  tx = no_tx;
  index = 0;
}
