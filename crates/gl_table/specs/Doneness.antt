-- Whether a pass is done.
use Rattle.std.specs.Prelude.{Bool, true, false, List, [], ◌∷◌}
use Rattle.gl_model.specs.Entries.{Entry, Sync, Commit, Plain, Abort, Trim, Over}

abbrev pub is_over : Entry → Bool
is_over (Sync at act value) = false
is_over (Commit at tx) = false
is_over (Plain var nth cached write value raised) = false
is_over (Abort tx why) = false
is_over (Trim low) = false
is_over (Over ending) = true

-- the last entry is Over; where there is none, the pass has to be quiet
abbrev pub is_done : List Entry → Bool → Bool
is_done [] quiet = quiet
is_done (e ∷ []) quiet = is_over e
is_done (e ∷ (f ∷ es)) quiet = is_done (f ∷ es) quiet
