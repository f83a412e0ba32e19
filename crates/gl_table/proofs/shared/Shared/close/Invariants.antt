use Rattle.std.proofs.Common.{None, false}
use Rattle.gl_model.specs.Machine.{trace_setting}
use Rattle.gl_table.specs.KeyOf.{key_of}
use Rattle.gl_table.specs.Says.{no_tx, no_event, no_mark, no_held}
use Rattle.gl_table.proofs.shared.Shared.close.Given as goal

abbrev pub ghosts-load_last : goal.ghosts-load_last
ghosts-load_last a = record {
  view = a.seat.now.me.0;
  setting = trace_setting;
  key = key_of a.board.now.key;
  object = 0;
  quiet = false;
  held = no_held;
  event = no_event;
  mark = no_mark;
  look = None;
  tx = no_tx;
  index = 0;
}
