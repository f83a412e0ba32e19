use Rattle.std.proofs.Common.{ℕ, ◌<◌, map}
use Rattle.gl_model.specs.Entries.{Entry, seen}
use Rattle.gl_model.specs.Flat.{ReadsRight}
use Rattle.gl_model.specs.Form.{At}
use Rattle.gl_model.specs.Records.{Lists}
use Rattle.gl_flat.specs.Below.{AreWrites}
use Rattle.gl_flat.proofs.looks.list_fault.Given as goal

-- the looks of each entry so far are right
abbrev pub invariant-loop-i : goal.invariant-loop-i
invariant-loop-i l = (R : Lists) → AreWrites R l.writes → (k : ℕ) (e : Entry) → k < l.i → At (map seen l.entries) k e → ReadsRight R e
