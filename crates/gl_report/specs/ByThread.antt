-- The entries of a record in the order in which its report goes through them.
use Rattle.std.specs.Prelude.{ℕ, List, map}
use Rattle.std.specs.List.{flat_map}
use Rattle.gl_model.specs.Entries.{Entry}

-- the entries of one list, each with its thread
abbrev pub with_thread : ℕ × List Entry → List (ℕ × Entry)
with_thread l = map (λ e. (l.0, e)) l.1

-- those of all threads, by thread and then by place
abbrev pub by_thread : List (ℕ × List Entry) → List (ℕ × Entry)
by_thread made = flat_map with_thread made
