-- The lines that a report has of one entry.
use Rattle.std.specs.Prelude.{ℕ, Bool, true, false, List, Option, Some}
use Rattle.std.specs.List.{flat_map}
use Rattle.std.specs.Option.{option_map}
use Rattle.gl_model.specs.Entries.{Entry, Sync, Commit, Plain, Abort, Trim, Over}
use Rattle.gl_model.specs.declared.tx.Why.TheVariants.{Changed, Raised}
use Rattle.gl_model.specs.Report.{end_of, entry_prints, out_line, race_of}

-- the line of what an entry prints, if it does
abbrev pub out_lines : Entry → List ℕ
out_lines e = flat_map out_line (entry_prints (Some e))

-- the line of an entry of thread t that was refused for a race
abbrev pub raced_lines : ℕ → Entry → List ℕ
raced_lines t e = flat_map (λ bytes. bytes) (race_of t e)

-- the line of the entry that ends thread t's list
abbrev pub ended_lines : ℕ → Entry → List ℕ
ended_lines t e = flat_map (λ bytes. bytes) (end_of t e)

-- the line of what the entry in a slot prints, if there is one and it does
abbrev pub out_lines_at : {A : Type 0} → (A → Entry) → Option A → List ℕ
out_lines_at v slot = flat_map out_line (entry_prints (option_map v slot))

-- the entry is an access or an attempt that was refused for a race
abbrev pub is_raised : Entry → Bool
is_raised (Sync at act value) = false
is_raised (Commit at tx) = false
is_raised (Plain var nth cached write value raised) = raised
is_raised (Abort tx (Changed var read found)) = false
is_raised (Abort tx (Raised var)) = true
is_raised (Trim low) = false
is_raised (Over ending) = false
