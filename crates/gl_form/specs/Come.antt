-- What a walk along a list has kept of the entries before a place, and the first place of one list where a rule is not kept.
use Rattle.std.specs.Prelude.{ℕ, ◌+◌, ◌<◌, Bool, List, Option, MatchBool, MatchOption}
use Rattle.gl_model.specs.Entries.{Entry}
use Rattle.gl_model.specs.Form.{IsOver}
use Rattle.gl_model.specs.Records.{At}
use Rattle.gl_form.specs.Passed.{AreLast, AreRights, IsAtStage, IsLast}
use Rattle.gl_form.specs.Rules.{FormFails, HasLow, HasPosition, KeepsForm}
use Rattle.gl_form.specs.declared.walk.Walk.{Walk}

-- the walk has kept what the entries before place i are
pub record HasCome (es : List Entry) (i : ℕ) (walk : Walk) : Type 0 where
  pub at_stage : IsAtStage es i walk.stage
  pub positions : IsLast HasPosition es i walk.position
  pub lows : IsLast HasLow es i walk.low
  pub drawn : AreLast es i walk.drawn.last.items
  pub rights : AreRights es i walk.rights.block walk.rights.latest.items

-- wherever the entry e of thread t stands at place i: the rules are kept there exactly where the answer is yes, and then the walk goes on
abbrev pub WalksOn : ℕ → Entry → ℕ → Bool → Walk → Walk → Type 0
WalksOn t e i answer old new =
    (es : List Entry) → HasCome es i old → At es i e → MatchBool answer (KeepsForm t es i × HasCome es (i + 1) new) (KeepsForm t es i → ⊥)

-- an Over came, or none did
abbrev pub SaysOver : Walk → Bool → Type 0
SaysOver walk answer =
    (es : List Entry) (i : ℕ) → HasCome es i walk →
    MatchBool answer ((j : ℕ) × ((e : Entry) × At es j e × (j < i) × IsOver e)) ((j : ℕ) (e : Entry) → At es j e → j < i → IsOver e → ⊥)

-- no place of the list fails, or this is the first that does
abbrev pub IsFirstIn : ℕ → List Entry → Option ℕ → Type 0
IsFirstIn t es found = MatchOption found ((i : ℕ) → FormFails t es i → ⊥) (λ i. FormFails t es i × ((j : ℕ) → j < i → FormFails t es j → ⊥))
