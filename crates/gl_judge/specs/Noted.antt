-- What a row keeps of a performed access.
use Rattle.std.specs.Prelude.{◌≡◌, ℕ, true, false, Some, None, is_some, slice_set, replicate, ◌↔◌}
use Rattle.gl_model.specs.declared.event.Element.{Element}
use Rattle.gl_model.specs.declared.limits.TheConstants.{THREADS}
use Rattle.gl_model.specs.declared.row.Info.{Info}
use Rattle.gl_model.specs.declared.row.Row.{Row}
use Rattle.gl_model.specs.declared.row.Question.{Question}
use Rattle.gl_model.specs.Lockset.{Has}
use Rattle.gl_model.specs.Locksets.{InitialLockset}

-- the Info of the question's access, with the set that it starts with, before the event at that position
pub record IsNewInfo (q : Question) (at : ℕ) (i : Info) : Type 0 where
  pub thread : i.thread ≡ q.thread
  pub write : i.write ≡ q.write
  pub commit : i.commit ≡ is_some q.commit
  pub held : i.held ≡ q.held
  pub pos : i.pos ≡ at
  pub set : (y : Element) → Has i.set y ↔ InitialLockset q.thread q.commit y

-- the row with the access noted: a write is the last write, and drops the reads; a read is its thread's read
pub record IsNoted (old : Row) (q : Question) (at : ℕ) (new : Row) : Type 0 where
  pub info : Info
  pub is : IsNewInfo q at info
  pub value : new.value ≡ old.value
  pub write : q.write ≡ true → (new.last_write ≡ Some info) × (new.reads ≡ replicate THREADS None)
  pub read : q.write ≡ false → (new.last_write ≡ old.last_write) × (new.reads ≡ slice_set old.reads q.thread (Some info))
