-- What a record keeps of one step, as definitions see it: a transaction by its value, not by where it is stored.
use Rattle.std.specs.Prelude.{ℕ, ℤ, Bool, List, map}
use Rattle.gl_model.specs.declared.event.Act.{Act}
use Rattle.gl_model.specs.declared.record.Entry.{Entry as StoredEntry}
use Rattle.gl_model.specs.declared.record.Entry.TheVariants.{Sync as StoredSync, Commit as StoredCommit, Plain as StoredPlain, Abort as StoredAbort, Trim as StoredTrim, Over as StoredOver}
use Rattle.gl_model.specs.declared.record.Ending.{Ending}
use Rattle.gl_model.specs.declared.record.ThreadList.{ThreadList}
use Rattle.gl_model.specs.declared.tx.Tx.{Tx}
use Rattle.gl_model.specs.declared.tx.Why.{Why}

pub data Entry : Type 0 where
  Sync : (at : ℕ) → (act : Act) → (value : ℤ) → Entry
  Commit : (at : ℕ) → (tx : Tx) → Entry
  Plain : (var : ℕ) → (nth : ℕ) → (cached : Bool) → (write : Bool) → (value : ℤ) → (raised : Bool) → Entry
  Abort : (tx : Tx) → (why : Why) → Entry
  Trim : (low : ℕ) → Entry
  Over : (ending : Ending) → Entry

-- an entry of the program, as definitions see it
abbrev pub seen : StoredEntry → Entry
seen (StoredSync at act value) = Sync at act value
seen (StoredCommit at tx) = Commit at tx.value
seen (StoredPlain var nth cached write value raised) = Plain var nth cached write value raised
seen (StoredAbort tx why) = Abort tx.value why
seen (StoredTrim low) = Trim low
seen (StoredOver ending) = Over ending

-- a thread and its entries
abbrev pub list_seen : ThreadList → ℕ × List Entry
list_seen l = (l.thread, map seen l.entries.items)
