use Rattle.std.proofs.Common.{◌≡◌, ◌++◌, string_bytes}
use Rattle.gl_journal.specs.Rows.{header_row, row_text}
use Rattle.gl_journal.specs.Written.{AllEntries, IsEntryTyped}
use Rattle.gl_model.proofs.ThreadLists.{below}
use Rattle.gl_journal.proofs.WrittenLists.{lists_text}
use Rattle.gl_journal.proofs.writing.write_record.Given as goal

-- the lists of the threads so far
abbrev pub invariant-loop-thread : goal.invariant-loop-thread
invariant-loop-thread l = (string_bytes l.out ≡ row_text (header_row l.fn.steps) ++ lists_text (below l.thread l.record_of))
    × AllEntries IsEntryTyped (below l.thread l.record_of)
