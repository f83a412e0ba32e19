-- The numbers that were drawn on a variable, and where they fail to be those below their count, each once.
use Rattle.std.specs.Prelude.{ℕ, ◌==◌, ◌&&◌, not, if◌then◌else◌, List, [], ◌∷◌, ◌++◌, map, filter}
use Rattle.gl_model.specs.declared.tx.Look.{Look}
use Rattle.gl_model.specs.declared.tx.Number.{Number}
use Rattle.gl_model.specs.Entries.{Entry, Sync, Commit, Plain, Abort, Trim, Over}
use Rattle.gl_model.specs.Records.{Place}
use Rattle.gl_places.specs.Uses.{Use, UseFailsAt, uses_of}

-- the numbers that looks drew on x
abbrev pub look_draws : ℕ → List Look → List ℕ
look_draws x looks = map (λ l. l.nth) (filter (λ l. l.var == x) looks)

-- the numbers that the end of an attempt drew on x
abbrev pub end_draws : ℕ → List Number → List ℕ
end_draws x numbers = map (λ n. n.nth) (filter (λ n. n.var == x) numbers)

-- the numbers that an entry drew on x: those of its looks, and then its own
abbrev pub draws_on : ℕ → Entry → List ℕ
draws_on x (Plain var nth cached write value raised) = if not cached && var == x then nth ∷ [] else []
draws_on x (Commit at tx) = look_draws x tx.looks ++ end_draws x tx.numbers
draws_on x (Abort tx why) = look_draws x tx.looks ++ end_draws x tx.numbers
draws_on x (Sync at act value) = []
draws_on x (Trim low) = []
draws_on x (Over ending) = []

-- the draws on x of a record, by thread and then by place
abbrev pub draws_of : ℕ → List (ℕ × List Entry) → List Use
draws_of x made = uses_of (draws_on x) made

-- the entry at c drew a number on some variable that is not below how many were drawn there, or that was drawn before
abbrev pub NumberFailsAt : List (ℕ × List Entry) → Place → Type 0
NumberFailsAt made c = (x : ℕ) × UseFailsAt (draws_of x made) c
