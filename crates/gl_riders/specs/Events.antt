-- The entry and the reply of an event call, by what was asked.
use Rattle.std.specs.Prelude.{◌≡◌, ◌⊎◌, ℕ, ℤ, pos, ◌==◌, if◌then◌else◌, List, slice_index, Option, Some, None, IfSome, MatchOption}
use Rattle.gl_model.specs.declared.event.Act.TheVariants.{Begin as Began, End as Ends, Acq, Rel, VRead as VolatileRead, VWrite as VolatileWrite, Fork as Forked, Join as Joined, Alloc as Allocated, Print as Printed, Input as Taken, Fail}
use Rattle.gl_model.specs.Entries.{Entry, Sync}
use Rattle.gl_model.specs.Machine.{Setting}
use Rattle.gl_bytecode.specs.declared.ask.Ask.{Ask}
use Rattle.gl_bytecode.specs.declared.ask.Ask.TheVariants.{Go, Begin, End, Over, Read, Write, VRead, VWrite, Enter, Exit, Fork, Join, Alloc, Print, Input, TxBegin, TxEnd}
use Rattle.gl_bytecode.specs.declared.ask.Reply.{Reply}
use Rattle.gl_bytecode.specs.declared.ask.Reply.TheVariants.{Go as Gone, Value, Start, Raise}
use Rattle.gl_events.specs.Acting.{MayStart}
use Rattle.gl_events.specs.Answers.{MayCall}
use Rattle.gl_events.specs.Calls.{child_in, not_owner, heap_full, threads_full, input_end, bad_thread}
use Rattle.gl_events.specs.declared.call.Call.{Call}
use Rattle.gl_events.specs.declared.call.Call.TheVariants as call
use Rattle.gl_events.specs.declared.done.Done.{Done}
use Rattle.gl_table.specs.PassView.{PassView}
use Rattle.gl_table.specs.TableView.{TableView}

-- the event call that the ask names, if it is answered by an event
abbrev pub event_call : Ask → Option Call
event_call Begin = Some call.Begin
event_call End = Some call.End
event_call (VRead v) = Some (call.VRead v)
event_call (VWrite v a) = Some (call.VWrite v a)
event_call (Enter o) = Some (call.Enter o)
event_call (Exit o) = Some (call.Exit o)
event_call (Fork f a) = Some (call.Fork f a)
event_call (Join u) = Some (call.Join u)
event_call (Alloc k) = Some (call.Alloc k)
event_call (Print a) = Some (call.Print a)
event_call Input = Some call.Input
event_call Go = None
event_call (Over ending) = None
event_call (Read x) = None
event_call (Write x a) = None
event_call TxBegin = None
event_call (TxEnd keep) = None

abbrev pub IsEvent : Ask → Type 0
IsEvent ask = MatchOption (event_call ask) ⊥ (λ c. Unit {0})

-- the entry of the event, where the call answered this; of no event End stands for all
abbrev pub event_entry : Ask → Done → Entry
event_entry Begin d = Sync d.at (Began d.func) d.value
event_entry End d = Sync d.at Ends (pos 0)
event_entry (VRead v) d = Sync d.at (VolatileRead v) d.value
event_entry (VWrite v a) d = Sync d.at (VolatileWrite v) a
event_entry (Enter o) d = Sync d.at (Acq o) (pos 0)
event_entry (Exit o) d = Sync d.at (if d.code == 0 then Rel o else Fail not_owner) (if d.code == 0 then pos 0 else pos o)
event_entry (Fork f a) d = Sync d.at (if d.code == 0 then Forked (child_in d.value) f else Fail threads_full) (if d.code == 0 then a
    else pos 0)
event_entry (Join u) d = Sync d.at (if d.code == 0 then Joined u else Fail bad_thread) (if d.code == 0 then pos 0 else pos u)
event_entry (Alloc k) d = Sync d.at (if d.code == 0 then Allocated k else Fail heap_full) (if d.code == 0 then d.value else pos k)
event_entry (Print a) d = Sync d.at Printed a
event_entry Input d = Sync d.at (if d.code == 0 then Taken else Fail input_end) d.value
event_entry Go d = Sync d.at Ends (pos 0)
event_entry (Over ending) d = Sync d.at Ends (pos 0)
event_entry (Read x) d = Sync d.at Ends (pos 0)
event_entry (Write x a) d = Sync d.at Ends (pos 0)
event_entry TxBegin d = Sync d.at Ends (pos 0)
event_entry (TxEnd keep) d = Sync d.at Ends (pos 0)

abbrev pub go_or : ℕ → Reply
go_or code = if code == 0 then Gone else Raise code

abbrev pub answer_or : ℕ → ℤ → Reply
answer_or code value = if code == 0 then Value value else Raise code

-- what the machine is answered
abbrev pub event_reply : Ask → Done → Reply
event_reply Begin d = Start d.func d.value
event_reply (VRead v) d = Value d.value
event_reply (Exit o) d = go_or d.code
event_reply (Fork f a) d = answer_or d.code d.value
event_reply (Join u) d = go_or d.code
event_reply (Alloc k) d = answer_or d.code d.value
event_reply Input d = answer_or d.code d.value
event_reply End d = Gone
event_reply (VWrite v a) d = Gone
event_reply (Enter o) d = Gone
event_reply (Print a) d = Gone
event_reply Go d = Gone
event_reply (Over ending) d = Gone
event_reply (Read x) d = Gone
event_reply (Write x a) d = Gone
event_reply TxBegin d = Gone
event_reply (TxEnd keep) d = Gone

-- what an event call says of its answer, beside the entry
abbrev pub IsDoneFor : Setting → List ℕ → Ask → Done → Type 0
IsDoneFor setting levels Begin d = MayStart setting d.func
IsDoneFor setting levels (Exit o) d = d.code ≡ (if slice_index levels o == 0 then not_owner else 0)
IsDoneFor setting levels (Fork f a) d = ((d.code ≡ 0) × (d.value ≡ pos (child_in d.value))) ⊎ (d.code ≡ threads_full)
IsDoneFor setting levels (Join u) d = (d.code ≡ 0) ⊎ (d.code ≡ bad_thread)
IsDoneFor setting levels (Alloc k) d = (d.code ≡ 0) ⊎ (d.code ≡ heap_full)
IsDoneFor setting levels Input d = (d.code ≡ 0) ⊎ ((d.code ≡ input_end) × (d.value ≡ pos 0))
IsDoneFor setting levels End d = Unit {0}
IsDoneFor setting levels (VRead v) d = Unit {0}
IsDoneFor setting levels (VWrite v a) d = Unit {0}
IsDoneFor setting levels (Enter o) d = Unit {0}
IsDoneFor setting levels (Print a) d = Unit {0}
IsDoneFor setting levels Go d = Unit {0}
IsDoneFor setting levels (Over ending) d = Unit {0}
IsDoneFor setting levels (Read x) d = Unit {0}
IsDoneFor setting levels (Write x a) d = Unit {0}
IsDoneFor setting levels TxBegin d = Unit {0}
IsDoneFor setting levels (TxEnd keep) d = Unit {0}

-- the pass may make the event's call
abbrev pub MayAsk : TableView → PassView → Ask → Type 0
MayAsk z v ask = IfSome (event_call ask) (λ c. MayCall c z v)

-- it asks something of the table: it is not the beginning of a next instruction, nor the end of the list
abbrev pub IsAsk : Ask → Type 0
IsAsk Go = ⊥
IsAsk (Over ending) = ⊥
IsAsk Begin = Unit {0}
IsAsk End = Unit {0}
IsAsk (Read x) = Unit {0}
IsAsk (Write x a) = Unit {0}
IsAsk (VRead v) = Unit {0}
IsAsk (VWrite v a) = Unit {0}
IsAsk (Enter o) = Unit {0}
IsAsk (Exit o) = Unit {0}
IsAsk (Fork f a) = Unit {0}
IsAsk (Join u) = Unit {0}
IsAsk (Alloc k) = Unit {0}
IsAsk (Print a) = Unit {0}
IsAsk Input = Unit {0}
IsAsk TxBegin = Unit {0}
IsAsk (TxEnd keep) = Unit {0}
