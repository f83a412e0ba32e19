-- The performed accesses that the judge keeps, against the draws of the variables.
use Rattle.std.specs.Prelude.{◌≡◌, ℕ, true, List, slice_get, Some, ◌↔◌}
use Rattle.gl_model.specs.Entries.{Entry}
use Rattle.gl_model.specs.Records.{IsPerformed, Writes}
use Rattle.gl_reference.specs.Steps.{access_of as given}
use Rattle.gl_reference.specs.declared.races.Performed.{Performed}
use Rattle.gl_draws.specs.Draws.{Entered, Draw, access_of, Among}

-- it is the performed access for which the number of x was drawn
pub record IsDrawnFor (x : ℕ) (d : Draw) (p : Performed) : Type 0 where
  pub entry : Entry
  pub made : d.what ≡ Entered entry
  pub performed : IsPerformed entry
  pub var : p.var ≡ x
  pub access : given p.access ≡ access_of d
  pub write : (p.write ≡ true) ↔ Writes entry x

-- these are the performed accesses of all draws, and no others
pub record ArePerformed (draws : ℕ → List Draw) (ps : List Performed) : Type 0 where
  pub kept : (x : ℕ) (d : Draw) (e : Entry) → Among (draws x) d → d.what ≡ Entered e → IsPerformed e → (i : ℕ) × (p : Performed)
      × (slice_get ps i ≡ Some p) × IsDrawnFor x d p
  pub drawn : (i : ℕ) (p : Performed) → slice_get ps i ≡ Some p → (d : Draw) × Among (draws p.var) d × IsDrawnFor p.var d p
