-- A thread's own list with what follows from it, and what is true of these.
use Rattle.std.specs.Prelude.{◌≡◌, ℕ, ◌+◌, ◌-◌, ◌<◌, ◌≤◌, None, map, vec_capacity, vec_len, slice_index_or, length}
use Rattle.std.specs.List.{All}
use Rattle.gl_model.specs.declared.limits.TheConstants.{VARIABLES}
use Rattle.gl_model.specs.Entries.{seen}
use Rattle.gl_model.specs.Kept.{IsEntryKept}
use Rattle.gl_rule.specs.Levels.{levels_of}
use Rattle.gl_table.specs.RightOf.{right_of}
use Rattle.gl_table.specs.Stored.{Stored}
use Rattle.gl_table.specs.declared.own_list.OwnList.TheInside.{Inside}

abbrev pub stored_view : Inside → Stored
stored_view l = record { entries = map seen l.list.items; spare = vec_capacity l.list - vec_len l.list }

pub record IsStored (l : Inside) : Type 0 where
  pub levels : l.levels ≡ levels_of (map seen l.list.items)
  pub long : length l.rights.rights ≡ VARIABLES
  pub rights : (x : ℕ) → x < VARIABLES → slice_index_or l.rights.rights x None ≡ right_of (map seen l.list.items) x
  -- no more blocks were begun than there are entries, and the first one
  pub blocks : l.rights.block ≤ length (map seen l.list.items) + 1
  -- each id in the entries is one that there is
  pub kept : All IsEntryKept (map seen l.list.items)
