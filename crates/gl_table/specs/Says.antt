-- What calls say of their steps.
use Rattle.std.specs.Prelude.{ℕ, ℤ, Bool, false, pos, []}
use Rattle.gl_model.specs.declared.event.Act.{Act}
use Rattle.gl_model.specs.declared.event.Act.TheVariants.{End}
use Rattle.gl_rule.specs.declared.slot.Slot.{Slot}
use Rattle.gl_rule.specs.declared.slot.Slot.TheVariants as slot
use Rattle.gl_model.specs.Machine.{trace_setting}
use Rattle.gl_model.specs.declared.tx.Tx.{Tx}
use Rattle.gl_rule.specs.Objects.{Key}
use Rattle.gl_rule.specs.View.{Shelf, shelf, Held, new_held}

pub record EventSaid : Type 0 where
  pub shelf : Shelf
  pub act : Act
  pub value : ℤ
  pub state : Slot

pub record MarkSaid : Type 0 where
  pub shelf : Shelf
  pub block : ℕ
  pub write : Bool
  pub value : ℤ
  pub raised : Bool

abbrev pub no_event : EventSaid
no_event = record { shelf = shelf 0 []; act = End; value = pos 0; state = slot.Empty }

abbrev pub no_mark : MarkSaid
no_mark = record { shelf = shelf 0 []; block = 0; write = false; value = pos 0; raised = false }

abbrev pub no_held : Held
no_held = new_held 0 slot.Empty

abbrev pub no_key : Key
no_key = record { setting = trace_setting; cells = 0; segments = 0 }

abbrev pub no_tx : Tx
no_tx = record { looks = []; writes = []; numbers = [] }
