use Rattle.std.proofs.Common.{◌≡◌, ◌++◌, string_bytes, take, map}
use Rattle.std.specs.List.{AllByRecursion, flat_map}
use Rattle.gl_model.specs.Entries.{seen}
use Rattle.gl_journal.specs.Rows.{entry_row, row_text}
use Rattle.gl_journal.specs.Written.{IsEntryTyped}
use Rattle.gl_journal.proofs.writing.push_list.Given as goal

-- the lines of the entries so far
abbrev pub invariant-loop-entry : goal.invariant-loop-entry
invariant-loop-entry l = (string_bytes l.out ≡ string_bytes l.initial.out
    ++ flat_map (λ e. row_text (entry_row (seen e))) (take l.entry-index l.entries))
    × AllByRecursion IsEntryTyped (map seen (take l.entry-index l.entries))
