use Rattle.std.proofs.Common.{◌≡◌, ◌++◌, take}
use Rattle.std.specs.List.{flat_map}
use Rattle.gl_model.specs.Entries.{seen}
use Rattle.gl_flat.specs.Below.{written_by}
use Rattle.gl_flat.proofs.writes.add_list.Given as goal

-- the writes of the entries so far are added
abbrev pub invariant-loop-entry : goal.invariant-loop-entry
invariant-loop-entry l = l.writes.items ≡ l.fn.writes.items ++ flat_map (λ e. written_by (seen e)) (take l.entry-index l.entries)
