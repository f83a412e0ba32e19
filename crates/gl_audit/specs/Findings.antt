-- What an audit finds of a record.
use Rattle.std.specs.Prelude.{◌≡◌, ℕ, ℤ, ◌<◌, List, ◌↔◌}
use Rattle.gl_model.specs.Entries.{Entry}
use Rattle.gl_model.specs.Kept.{IsRecord}
use Rattle.gl_model.specs.Lists.{lists_of}
use Rattle.gl_model.specs.Records.{Lists, Place}
use Rattle.gl_bytecode.specs.Lawful.{Lawful as LawfulOf}
use Rattle.gl_bytecode.specs.Programs.{Bytecode}
use Rattle.gl_audit.specs.declared.finding.Finding.{Finding}
use Rattle.gl_audit.specs.declared.finding.Finding.TheVariants.{Lawful, Not}
use Rattle.gl_audit.specs.Clauses.{Clause, FailsFirst, Says, number_of}

-- all clauses before this one hold
abbrev pub HoldBelow : Bytecode → List ℤ → ℕ → Lists → Clause → Type 0
HoldBelow P inputs steps R k = (j : Clause) → number_of j < number_of k → Says P inputs steps R j

-- the finding is right: the record is lawful; or all clauses before the one that is named hold, and it fails that one at this place first
abbrev pub IsFinding : Bytecode → List ℤ → ℕ → List (ℕ × List Entry) → Finding → Type 0
IsFinding P inputs steps made Lawful = LawfulOf P inputs steps (lists_of made)
IsFinding P inputs steps made (Not thread index clause) =
    (k : Clause) × (clause ≡ number_of k) × HoldBelow P inputs steps (lists_of made) k ×
    FailsFirst P inputs steps made k (record { thread = thread; index = index })

-- a record of a run of the program is lawful exactly where all seven clauses hold
abbrev pub LawfulBySeven : Type 0
LawfulBySeven =
    (P : Bytecode) (inputs : List ℤ) (steps : ℕ) (R : Lists) → LawfulOf P inputs steps R ↔ ((k : Clause) → Says P inputs steps R k)

-- where the clauses before it hold, no clause both holds and fails
abbrev pub ClausesAreApart : Type 0
ClausesAreApart =
    (P : Bytecode) (inputs : List ℤ) (steps : ℕ) (made : List (ℕ × List Entry)) (k : Clause) (c : Place) → IsRecord made →
    HoldBelow P inputs steps (lists_of made) k → Says P inputs steps (lists_of made) k → FailsFirst P inputs steps made k c → ⊥

-- and none fails first at two places
abbrev pub FirstPlacesAreOne : Type 0
FirstPlacesAreOne =
    (P : Bytecode) (inputs : List ℤ) (steps : ℕ) (made : List (ℕ × List Entry)) (k : Clause) (c d : Place) → IsRecord made →
    HoldBelow P inputs steps (lists_of made) k → FailsFirst P inputs steps made k c → FailsFirst P inputs steps made k d → c ≡ d

-- a record has one right finding
abbrev pub OneFinding : Type 0
OneFinding =
    (P : Bytecode) (inputs : List ℤ) (steps : ℕ) (made : List (ℕ × List Entry)) (x y : Finding) → IsRecord made →
    IsFinding P inputs steps made x → IsFinding P inputs steps made y → x ≡ y
