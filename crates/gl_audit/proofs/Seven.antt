-- The seven clauses are what lawful is; and there is one finding.
use Rattle.std.proofs.Common.{◌≡◌, ℕ, ℤ, ◌==◌, if◌then◌else◌, List, Option, Some, None, refl, sym, ◌∙◌, ap}
use Rattle.std.specs.Prelude.{◌↔◌}
use Rattle.gl_model.specs.Records.{Lists}
use Rattle.gl_bytecode.specs.Lawful.{Lawful as LawfulOf}
use Rattle.gl_bytecode.specs.Programs.{Bytecode}
use Rattle.gl_audit.specs.Clauses.{Clause, Says, number_of}
use Rattle.gl_audit.specs.Clauses.{OfForm, OfList, OfNumbers, OfMachine, OfRaces, OfWords, OfProgram}

module _ (P : Bytecode) (inputs : List ℤ) (steps : ℕ) (R : Lists) where
  -- a lawful record is as each clause says
  each : LawfulOf P inputs steps R → (k : Clause) → Says P inputs steps R k
  each lawful OfForm = lawful.allowed.form
  each lawful OfList = (lawful.allowed.events, lawful.allowed.listed)
  each lawful OfNumbers = lawful.allowed.numbered
  each lawful OfMachine = (lawful.allowed.events, lawful.allowed.listed, lawful.allowed.machine)
  each lawful OfRaces = lawful.allowed.races
  each lawful OfWords = lawful.allowed.legal
  each lawful OfProgram = lawful.runs

  -- where each clause says what is so, the record is lawful for the program
  pub all : ((k : Clause) → Says P inputs steps R k) → LawfulOf P inputs steps R
  all says =
      let machine = says OfMachine in
      record {
        allowed = record {
          form = says OfForm;
          events = machine.0;
          listed = machine.1;
          numbered = says OfNumbers;
          machine = machine.2;
          races = says OfRaces;
          legal = says OfWords;
        };
        runs = says OfProgram;
      }

  -- the record is lawful for the program exactly where each of the seven clauses says what is so
  pub by_seven : LawfulOf P inputs steps R ↔ ((k : Clause) → Says P inputs steps R k)
  by_seven = (each, all)

-- ## The number of a clause tells it

-- the clause of a number, if there is one
clause_of : ℕ → Option Clause
clause_of n =
    if n == 1 then Some OfForm
    else if n == 2 then Some OfList
    else if n == 3 then Some OfNumbers
    else if n == 4 then Some OfMachine
    else if n == 5 then Some OfRaces
    else if n == 6 then Some OfWords
    else if n == 7 then Some OfProgram
    else None

-- the clause of a clause's number is that clause
told : (k : Clause) → clause_of (number_of k) ≡ Some k
unfolding clause_of
told OfForm = refl
told OfList = refl
told OfNumbers = refl
told OfMachine = refl
told OfRaces = refl
told OfWords = refl
told OfProgram = refl

-- a clause, or that of the form where there is none
or_form : Option Clause → Clause
or_form None = OfForm
or_form (Some k) = k

-- clauses of the same number are the same
pub same_clause : (j k : Clause) → number_of j ≡ number_of k → j ≡ k
unfolding or_form
same_clause j k same = ap or_form (sym (told j) ∙ ap clause_of same ∙ told k)
