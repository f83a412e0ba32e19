use Rattle.std.proofs.Common.{◌≡◌, ◌≤◌, ◌++◌, string_bytes, take, map, length}
use Rattle.gl_journal.specs.Rows.{list_word, number_word}
use Rattle.gl_journal.proofs.writing.push_numbers.Given as goal

-- the parts so far
abbrev pub invariant-loop-i : goal.invariant-loop-i
invariant-loop-i l = (l.i ≤ length l.numbers)
    × (string_bytes l.out ≡ string_bytes l.fn.out ++ list_word (map number_word (take l.i l.numbers)))
