-- What is written of a record: the report of a run and the summary of a load, as functions of the record alone.
use Rattle.std.specs.Prelude.{ℕ, zero, suc, ℤ, pos, ◌==◌, Bool, true, false, List, [], ◌∷◌, ◌++◌, length, codes, count_by, Option, Some, None}
use Rattle.std.specs.List.{flat_map, find}
use Rattle.std.specs.Fmt.{decimal, signed_decimal}
use Rattle.gl_model.specs.declared.event.Act.{Act}
use Rattle.gl_model.specs.declared.event.Act.TheVariants.{Begin, End, Acq, Rel, VRead, VWrite, Fork, Join, Alloc, Print, Input, Fail}
use Rattle.gl_model.specs.declared.record.Ending.{Ending}
use Rattle.gl_model.specs.declared.record.Ending.TheVariants.{Halt, Uncaught, Spent}
use Rattle.gl_model.specs.declared.tx.Why.TheVariants.{Changed, Raised}
use Rattle.gl_model.specs.Entries.{Entry, Sync, Commit, Plain, Abort, Trim, Over}
use Rattle.gl_model.specs.Records.{position_of}

-- the bytes of a line, with its end
abbrev pub line_of : List ℕ → List ℕ
line_of bytes = bytes ++ 10 ∷ []

-- ---- what was printed

-- the entry has the position p in the list of events
abbrev pub is_position : ℕ → Option ℕ → Bool
is_position p None = false
is_position p (Some q) = q == p

abbrev pub is_event_at : ℕ → Entry → Bool
is_event_at p e = is_position p (position_of e)

abbrev pub is_some_position : Option ℕ → Bool
is_some_position None = false
is_some_position (Some q) = true

abbrev pub is_event : Entry → Bool
is_event e = is_some_position (position_of e)

-- all entries, thread by thread
abbrev pub all_entries : List (ℕ × List Entry) → List Entry
all_entries ls = flat_map (λ l. l.1) ls

-- how many events there are
abbrev pub event_count : List (ℕ × List Entry) → ℕ
event_count ls = count_by is_event (all_entries ls)

-- the value that an act prints, if it does
abbrev pub act_prints : Act → ℤ → List ℤ
act_prints (Begin f) value = []
act_prints End value = []
act_prints (Acq o) value = []
act_prints (Rel o) value = []
act_prints (VRead v) value = []
act_prints (VWrite v) value = []
act_prints (Fork u f) value = []
act_prints (Join u) value = []
act_prints (Alloc c) value = []
act_prints Print value = value ∷ []
act_prints Input value = []
act_prints (Fail code) value = []

-- what an entry prints, if there is one
abbrev pub entry_prints : Option Entry → List ℤ
entry_prints None = []
entry_prints (Some (Sync at act value)) = act_prints act value
entry_prints (Some (Commit at tx)) = []
entry_prints (Some (Plain var nth cached write value raised)) = []
entry_prints (Some (Abort tx why)) = []
entry_prints (Some (Trim low)) = []
entry_prints (Some (Over ending)) = []

-- what the events below position n print, in the order of the list
abbrev pub printed_below : List Entry → ℕ → List ℤ
printed_below es zero = []
printed_below es (suc n) = printed_below es n ++ entry_prints (find (is_event_at n) es)

abbrev pub printed : List (ℕ × List Entry) → List ℤ
printed ls = printed_below (all_entries ls) (event_count ls)

abbrev pub out_line : ℤ → List ℕ
out_line v = line_of (codes "out " ++ signed_decimal v)

-- ---- the races

abbrev pub access_word : Bool → List ℕ
access_word true = codes "write"
access_word false = codes "read"

abbrev pub race_line : ℕ → ℕ → List ℕ → List ℕ
race_line t var word = line_of (codes "race " ++ (decimal t ++ (codes " " ++ (decimal var ++ (codes " " ++ word)))))

-- the line of an entry of thread t that was refused for a race
abbrev pub race_of : ℕ → Entry → List (List ℕ)
race_of t (Plain var nth cached write value true) = race_line t var (access_word write) ∷ []
race_of t (Plain var nth cached write value false) = []
race_of t (Abort tx (Raised var)) = race_line t var (codes "commit") ∷ []
race_of t (Abort tx (Changed var read found)) = []
race_of t (Sync at act value) = []
race_of t (Commit at tx) = []
race_of t (Trim low) = []
race_of t (Over ending) = []

-- those of all threads, by thread and then by place
abbrev pub race_lines : List (ℕ × List Entry) → List (List ℕ)
race_lines ls = flat_map (λ l. flat_map (race_of l.0) l.1) ls

-- ---- the ends

abbrev pub ending_words : Ending → List ℕ
ending_words Halt = codes "halt"
ending_words Spent = codes "spent"
ending_words (Uncaught code) = codes "uncaught " ++ decimal code

-- the line of the entry that ends thread t's list
abbrev pub end_of : ℕ → Entry → List (List ℕ)
end_of t (Over ending) = line_of (codes "end " ++ (decimal t ++ (codes " " ++ ending_words ending))) ∷ []
end_of t (Sync at act value) = []
end_of t (Commit at tx) = []
end_of t (Plain var nth cached write value raised) = []
end_of t (Abort tx why) = []
end_of t (Trim low) = []

abbrev pub end_lines : List (ℕ × List Entry) → List (List ℕ)
end_lines ls = flat_map (λ l. flat_map (end_of l.0) l.1) ls

-- ---- the whole

-- how many accesses and attempts were refused for a race
abbrev pub race_count : List (ℕ × List Entry) → ℕ
race_count ls = length (race_lines ls)

abbrev pub races_line : List (ℕ × List Entry) → List ℕ
races_line ls = line_of (codes "races " ++ decimal (race_count ls))

-- the report: what was printed, in the order of the list; the races and the ends, by thread; and how many races there are
abbrev pub report_of : List (ℕ × List Entry) → List ℕ
report_of ls = flat_map out_line (printed ls)
    ++ (flat_map (λ bytes. bytes) (race_lines ls) ++ (flat_map (λ bytes. bytes) (end_lines ls) ++ races_line ls))

-- the last of these values, or 0
abbrev pub last_or_zero : List ℤ → ℤ
last_or_zero [] = pos 0
last_or_zero (v ∷ []) = v
last_or_zero (v ∷ w ∷ vs) = last_or_zero (w ∷ vs)

abbrev pub is_commit : Entry → Bool
is_commit (Commit at tx) = true
is_commit (Sync at act value) = false
is_commit (Plain var nth cached write value raised) = false
is_commit (Abort tx why) = false
is_commit (Trim low) = false
is_commit (Over ending) = false

-- the summary: the last value that was printed, how many commits there are, and how many races
abbrev pub summary_of : List (ℕ × List Entry) → List ℕ
summary_of ls =
    line_of (codes "total " ++ signed_decimal (last_or_zero (printed ls)))
    ++ (line_of (codes "commits " ++ decimal (count_by is_commit (all_entries ls))) ++ races_line ls)
