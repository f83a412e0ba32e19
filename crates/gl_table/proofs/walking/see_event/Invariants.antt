use Rattle.std.proofs.Common.{None, false}
use Rattle.gl_model.specs.Machine.{trace_setting}
use Rattle.gl_table.specs.CaughtUp.{caught_up}
use Rattle.gl_table.specs.KeyOf.{key_of}
use Rattle.gl_table.specs.Says.{no_tx, no_event, no_mark, no_held}
use Rattle.gl_table.proofs.walking.see_event.Given as goal

abbrev pub ghosts-load_event : goal.ghosts-load_event
ghosts-load_event a = record {
  view = caught_up a.seat.now.me.0 a.id a.mine.now.entries;
  setting = trace_setting;
  key = key_of a.board.now.key;
  object = a.pos;
  quiet = false;
  held = no_held;
  event = no_event;
  mark = no_mark;
  look = None;
  tx = no_tx;
  index = 0;
}
