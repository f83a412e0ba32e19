-- What a call asks for, and what it answers.
use Rattle.std.specs.Prelude.{◌≡◌, ◌⊎◌, ℕ, ℤ, pos, negsuc, ◌<◌, ◌==◌, if◌then◌else◌, length, Contains}
use Rattle.gl_model.specs.declared.event.Act.{Act}
use Rattle.gl_model.specs.declared.event.Act.TheVariants as act
use Rattle.gl_model.specs.declared.limits.TheConstants.{THREADS, FUNCTIONS, CLASSES, MONITORS, VOLATILES}
use Rattle.gl_model.specs.Machine.{Setting}
use Rattle.gl_rule.specs.Lives.{Life, Unbegun, Running}
use Rattle.gl_events.specs.declared.call.Call.{Call}
use Rattle.gl_events.specs.declared.call.Call.TheVariants as call
use Rattle.gl_events.specs.declared.done.Done.{Done}

-- the codes of failures
abbrev pub not_owner : ℕ
not_owner = 5

abbrev pub heap_full : ℕ
heap_full = 6

abbrev pub threads_full : ℕ
threads_full = 7

abbrev pub input_end : ℕ
input_end = 8

abbrev pub bad_thread : ℕ
bad_thread = 11

-- the ids in a call are ones that there are
abbrev pub IsCallInRange : Setting → Call → Type 0
IsCallInRange setting call.Begin = Unit {0}
IsCallInRange setting call.End = Unit {0}
IsCallInRange setting (call.Enter o) = o < MONITORS
IsCallInRange setting (call.Exit o) = o < MONITORS
IsCallInRange setting (call.VRead v) = v < VOLATILES
IsCallInRange setting (call.VWrite v value) = v < VOLATILES
IsCallInRange setting (call.Fork f value) = (f < FUNCTIONS) × Contains setting.forkable f
IsCallInRange setting (call.Join u) = u < THREADS
IsCallInRange setting (call.Alloc c) = (c < CLASSES) × (c < length setting.classes)
IsCallInRange setting (call.Print value) = Unit {0}
IsCallInRange setting call.Input = Unit {0}

-- how far the thread is that may call
abbrev pub life_for : Call → Life
life_for call.Begin = Unbegun
life_for call.End = Running
life_for (call.Enter o) = Running
life_for (call.Exit o) = Running
life_for (call.VRead v) = Running
life_for (call.VWrite v value) = Running
life_for (call.Fork f value) = Running
life_for (call.Join u) = Running
life_for (call.Alloc c) = Running
life_for (call.Print value) = Running
life_for call.Input = Running

-- the acts of a call, with their values
abbrev pub IsFor : Call → Act → ℤ → Type 0
IsFor call.Begin a value = (f : ℕ) × (a ≡ act.Begin f)
IsFor call.End a value = (a ≡ act.End) × (value ≡ pos 0)
IsFor (call.Enter o) a value = (a ≡ act.Acq o) × (value ≡ pos 0)
IsFor (call.Exit o) a value = ((a ≡ act.Rel o) × (value ≡ pos 0)) ⊎ ((a ≡ act.Fail not_owner) × (value ≡ pos o))
IsFor (call.VRead v) a value = a ≡ act.VRead v
IsFor (call.VWrite v word) a value = (a ≡ act.VWrite v) × (value ≡ word)
IsFor (call.Fork f word) a value = ((u : ℕ) × (a ≡ act.Fork u f) × (value ≡ word)) ⊎ ((a ≡ act.Fail threads_full) × (value ≡ pos 0))
IsFor (call.Join u) a value = ((a ≡ act.Join u) × (value ≡ pos 0)) ⊎ ((a ≡ act.Fail bad_thread) × (value ≡ pos u))
IsFor (call.Alloc c) a value = (a ≡ act.Alloc c) ⊎ ((a ≡ act.Fail heap_full) × (value ≡ pos c))
IsFor (call.Print word) a value = (a ≡ act.Print) × (value ≡ word)
IsFor call.Input a value = (a ≡ act.Input) ⊎ ((a ≡ act.Fail input_end) × (value ≡ pos 0))

abbrev pub answers : ℕ → ℤ → ℕ → ℕ → Done
answers at value func code = record { at = at; value = value; func = func; code = code }

-- what a call answers that published the act with this value
abbrev pub done_of : ℕ → Act → ℤ → Done
done_of at (act.Begin f) value = answers at value f 0
done_of at act.End value = answers at (pos 0) 0 0
done_of at (act.Acq o) value = answers at (pos 0) 0 0
done_of at (act.Rel o) value = answers at (pos 0) 0 0
done_of at (act.VRead v) value = answers at value 0 0
done_of at (act.VWrite v) value = answers at (pos 0) 0 0
done_of at (act.Fork u f) value = answers at (pos u) 0 0
done_of at (act.Join u) value = answers at (pos 0) 0 0
done_of at (act.Alloc c) value = answers at value 0 0
done_of at act.Print value = answers at (pos 0) 0 0
done_of at act.Input value = answers at value 0 0
done_of at (act.Fail k) value = answers at (pos 0) 0 k

-- the child that a fork answers
abbrev pub child_in : ℤ → ℕ
child_in (pos u) = u
child_in (negsuc n) = 0

-- the act that was published, where the call answered this
abbrev pub act_of : Call → Done → Act
act_of call.Begin d = act.Begin d.func
act_of call.End d = act.End
act_of (call.Enter o) d = act.Acq o
act_of (call.Exit o) d = if d.code == 0 then act.Rel o else act.Fail not_owner
act_of (call.VRead v) d = act.VRead v
act_of (call.VWrite v word) d = act.VWrite v
act_of (call.Fork f word) d = if d.code == 0 then act.Fork (child_in d.value) f else act.Fail threads_full
act_of (call.Join u) d = if d.code == 0 then act.Join u else act.Fail bad_thread
act_of (call.Alloc c) d = if d.code == 0 then act.Alloc c else act.Fail heap_full
act_of (call.Print word) d = act.Print
act_of call.Input d = if d.code == 0 then act.Input else act.Fail input_end

-- and the value of its entry
abbrev pub value_of : Call → Done → ℤ
value_of call.Begin d = d.value
value_of call.End d = pos 0
value_of (call.Enter o) d = pos 0
value_of (call.Exit o) d = if d.code == 0 then pos 0 else pos o
value_of (call.VRead v) d = d.value
value_of (call.VWrite v word) d = word
value_of (call.Fork f word) d = if d.code == 0 then word else pos 0
value_of (call.Join u) d = if d.code == 0 then pos 0 else pos u
value_of (call.Alloc c) d = if d.code == 0 then d.value else pos c
value_of (call.Print word) d = word
value_of call.Input d = d.value

-- the code of the failure, or 0
abbrev pub HasCode : Call → Done → Type 0
HasCode call.Begin d = d.code ≡ 0
HasCode call.End d = d.code ≡ 0
HasCode (call.Enter o) d = d.code ≡ 0
HasCode (call.Exit o) d = (d.code ≡ 0) ⊎ (d.code ≡ not_owner)
HasCode (call.VRead v) d = d.code ≡ 0
HasCode (call.VWrite v word) d = d.code ≡ 0
HasCode (call.Fork f word) d = ((d.code ≡ 0) × (d.value ≡ pos (child_in d.value))) ⊎ (d.code ≡ threads_full)
HasCode (call.Join u) d = (d.code ≡ 0) ⊎ (d.code ≡ bad_thread)
HasCode (call.Alloc c) d = (d.code ≡ 0) ⊎ (d.code ≡ heap_full)
HasCode (call.Print word) d = d.code ≡ 0
HasCode call.Input d = (d.code ≡ 0) ⊎ (d.code ≡ input_end)
