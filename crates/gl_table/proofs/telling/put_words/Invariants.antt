use Rattle.std.proofs.Common.{None, ◌≡◌, take, false}
use Rattle.gl_model.specs.Machine.{trace_setting}
use Rattle.gl_table.specs.CaughtUp.{caught_up}
use Rattle.gl_table.specs.PassInside.{IsReady}
use Rattle.gl_rule.specs.View.{filled}
use Rattle.gl_table.specs.Says.{no_tx, no_key, no_event, no_mark, no_held}
use Rattle.gl_table.proofs.telling.put_words.Given as goal

abbrev pub invariant-loop-i : goal.invariant-loop-i
invariant-loop-i l =
    (l.seat.table_id ≡ l.initial.seat.table_id) × (l.seat.id ≡ l.initial.seat.id) × (l.seat.me.1 ≡ l.initial.seat.me.1)
    × IsReady l.seat.me.0 l.id l.mine.entries
    × (caught_up l.seat.me.0 l.id l.mine.entries ≡ filled (caught_up l.initial.seat.me.0 l.id l.mine.entries) (take l.i l.words))

abbrev pub ghosts-put_word : goal.ghosts-put_word
ghosts-put_word a = record {
  view = caught_up a.seat.now.me.0 a.id a.mine.now.entries;
  setting = trace_setting;
  key = no_key;
  object = 0;
  quiet = false;
  held = no_held;
  event = no_event;
  mark = no_mark;
  look = None;
  tx = no_tx;
  index = 0;
}
