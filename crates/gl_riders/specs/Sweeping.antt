-- A pass that swept: what it kept of old accesses was moved up, and its list may have Trims more.
use Rattle.std.specs.Prelude.{◌≡◌, List, [], ◌∷◌, ◌++◌}
use Rattle.gl_model.specs.Entries.{Entry, Sync, Commit, Plain, Abort, Trim, Over}
use Rattle.gl_table.specs.PassView.{Own}

abbrev pub AreTrims : List Entry → Type 0
AreTrims [] = Unit {0}
AreTrims (Trim low ∷ es) = AreTrims es
AreTrims (Sync at act value ∷ es) = ⊥
AreTrims (Commit at tx ∷ es) = ⊥
AreTrims (Plain var nth cached write value raised ∷ es) = ⊥
AreTrims (Abort tx why ∷ es) = ⊥
AreTrims (Over ending ∷ es) = ⊥

-- some trims more, and nothing else changed
pub record IsSwept (old new : Own) : Type 0 where
  pub trims : List Entry
  pub are_trims : AreTrims trims
  pub own : new ≡ record old { mine = old.mine ++ trims }
