-- The fact beside a function that is kept as a short cut. MayAsk says where it may be called, and Says what it may answer.
use Rattle.std.specs.Prelude.{◌≡◌, Bool, true, List, All}
use denote.Ref.{Bor}
use Rattle.gl_model.specs.declared.event.Stamp.{Stamp}
use Rattle.gl_model.specs.declared.row.Info.{Info}
use Rattle.gl_model.specs.declared.row.Question.{Question}
use Rattle.gl_model.specs.Elements.{IsStampInRange}
use Rattle.gl_shortcut.specs.declared.sure.Sure.{Sure}
use Rattle.gl_shortcut.specs.Asking.{AreInRange, HoldsAt}
use Rattle.gl_shortcut.specs.Ordering.{Orders, OrdersOver}

-- it may be called on all that is in range; its yes means order, and it says yes wherever the Sure holds
pub record IsEarly (MayAsk : Bor Info → Bor Question → Type 0) (Says : Bor Info → Bor Question → Bool → Type 0) (sure : Sure) : Type 0 where
  pub callable : (i : Bor Info) (q : Bor Question) → AreInRange i.now q.now → MayAsk i q
  pub yes : (i : Bor Info) (q : Bor Question) → AreInRange i.now q.now → Says i q true → Orders i.now q.now
  pub surely : (i : Bor Info) (q : Bor Question) → AreInRange i.now q.now → HoldsAt sure i.now q.now → (answer : Bool) → Says i q answer
      → answer ≡ true

-- it may be called on all that is in range, and its yes over the events from the Info's position on means order
pub record IsLate (MayAsk : Bor Info → Bor Question → Bor (List Stamp) → Type 0) (Says : Bor Info → Bor Question → Bor (List Stamp) → Bool
    → Type 0) : Type 0 where
  pub callable : (i : Bor Info) (q : Bor Question) (w : Bor (List Stamp)) → AreInRange i.now q.now → All IsStampInRange w.now → MayAsk i q w
  pub yes : (i : Bor Info) (q : Bor Question) (w : Bor (List Stamp)) → AreInRange i.now q.now → All IsStampInRange w.now → Says i q w true
      → OrdersOver i.now q.now w.now
