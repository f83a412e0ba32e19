-- What is true of the places where positions and numbers fail, whatever the record.
use Rattle.std.specs.Prelude.{◌≡◌, ℕ, List, ◌↔◌}
use Rattle.gl_model.specs.Entries.{Entry}
use Rattle.gl_model.specs.Form.{Form, Listed, LookDraws, NumberDraws, Numbered}
use Rattle.gl_model.specs.Kept.{IsRecord}
use Rattle.gl_model.specs.Lists.{lists_of}
use Rattle.gl_model.specs.Records.{EntryAt, Lists, Place}
use Rattle.gl_places.specs.Places.{Before, IsFirstBy}
use Rattle.gl_places.specs.Uses.{PositionFailsAt}
use Rattle.gl_listing.specs.Numbering.{NumberFailsAt}

-- a record is listed exactly where no position fails
abbrev pub ListedExactly : Type 0
ListedExactly =
    (made : List (ℕ × List Entry)) → IsRecord made → Listed (lists_of made) ↔ ((c : Place) → PositionFailsAt made c → ⊥)

-- a record of the form is numbered exactly where no number fails
abbrev pub NumberedExactly : Type 0
NumberedExactly =
    (made : List (ℕ × List Entry)) → IsRecord made → Form (lists_of made) →
    Numbered (lists_of made) ↔ ((c : Place) → NumberFailsAt made c → ⊥)

-- that a look and the end of its attempt do not draw one number follows from the form
abbrev pub FormKeepsApart : Type 0
FormKeepsApart =
    (R : Lists) → Form R → (c : Place) (e : Entry) (x k : ℕ) → EntryAt R c e → LookDraws e x k → NumberDraws e x k → ⊥

-- positions fail first at one place
abbrev pub PositionsFailOnce : Type 0
PositionsFailOnce =
    (made : List (ℕ × List Entry)) (c d : Place) →
    IsFirstBy Before (PositionFailsAt made) c → IsFirstBy Before (PositionFailsAt made) d → c ≡ d

-- numbers fail first at one place
abbrev pub NumbersFailOnce : Type 0
NumbersFailOnce =
    (made : List (ℕ × List Entry)) (c d : Place) →
    IsFirstBy Before (NumberFailsAt made) c → IsFirstBy Before (NumberFailsAt made) d → c ≡ d
