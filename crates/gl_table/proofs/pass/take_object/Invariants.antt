use Rattle.std.proofs.Common.{None, false}
use Rattle.gl_table.specs.CaughtUp.{caught_up}
use Rattle.gl_table.specs.KeyOf.{key_of}
use Rattle.gl_table.specs.Says.{no_tx, no_key, no_event, no_mark, no_held}
use Rattle.gl_table.proofs.pass.take_object.Given as goal

abbrev pub ghosts-take_turn : goal.ghosts-take_turn
ghosts-take_turn a = record {
  view = caught_up a.seat.now.me.0 a.id a.mine.now.entries;
  setting = (key_of a.board.now.key).setting;
  key = no_key;
  object = a.object;
  quiet = false;
  held = no_held;
  event = no_event;
  mark = no_mark;
  look = None;
  tx = no_tx;
  index = 0;
}
