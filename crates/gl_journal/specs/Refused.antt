-- A refusal that is not want of memory tells the kind of the fault.
use Rattle.std.specs.Prelude.{◌≡◌, ℕ, Result, Err}
use Rattle.gl_journal.specs.declared.refusal.Refusal.{Refusal}
use Rattle.gl_journal.specs.declared.refusal.Refusal.TheVariants.{Kind, Memory}

abbrev pub Refused : {A : Type 0} → Result A ℕ → Refusal → Type 0
Refused r (Kind kind) = r ≡ Err kind
Refused r (Memory e) = Unit {0}
