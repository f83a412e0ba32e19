-- The right to repeat an access, as a list of entries gives it.
use Rattle.std.specs.Prelude.{ℕ, Bool, true, false, ◌==◌, if◌then◌else◌, List, [], ◌∷◌, Option, Some, None, replicate, slice_set}
use Rattle.gl_model.specs.declared.limits.TheConstants.{VARIABLES}
use Rattle.gl_model.specs.Entries.{Entry, Sync, Commit, Plain, Abort, Trim, Over}

-- the right on x after an entry more: an event or an attempt that was dropped takes it, a numbered performed access gives it
abbrev pub right_after : ℕ → Option (ℕ × Bool) → Entry → Option (ℕ × Bool)
right_after x right (Sync at act value) = None
right_after x right (Commit at tx) = None
right_after x right (Abort tx why) = None
right_after x right (Plain var nth false write value false) = if var == x then Some (nth, write) else right
right_after x right (Plain var nth false write value true) = right
right_after x right (Plain var nth true write value raised) = right
right_after x right (Trim low) = right
right_after x right (Over ending) = right

abbrev pub right_from : ℕ → Option (ℕ × Bool) → List Entry → Option (ℕ × Bool)
right_from x right [] = right
right_from x right (e ∷ es) = right_from x (right_after x right e) es

-- number and kind of the last numbered performed access of x since the last event or dropped attempt
abbrev pub right_of : List Entry → ℕ → Option (ℕ × Bool)
right_of es x = right_from x None es

-- the rights on all variables after an entry more
abbrev pub rights_after : List (Option (ℕ × Bool)) → Entry → List (Option (ℕ × Bool))
rights_after rights (Sync at act value) = replicate VARIABLES None
rights_after rights (Commit at tx) = replicate VARIABLES None
rights_after rights (Abort tx why) = replicate VARIABLES None
rights_after rights (Plain var nth false write value false) = slice_set rights var (Some (nth, write))
rights_after rights (Plain var nth false write value true) = rights
rights_after rights (Plain var nth true write value raised) = rights
rights_after rights (Trim low) = rights
rights_after rights (Over ending) = rights
