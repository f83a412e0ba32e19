-- What was found of the clauses one after another is a finding.
use Rattle.std.proofs.Common.{◌≡◌, ℕ, ℤ, ◌+◌, ◌<◌, List, Option, Some, None, refl, sym, subst, inl, inr, arith}
use Rattle.std.specs.Prelude.{IfSome, MatchOption}
use Rattle.std.proofs.lemmas.Bool.{cases_lt}
use Rattle.gl_model.specs.Entries.{Entry}
use Rattle.gl_model.specs.Lists.{lists_of}
use Rattle.std.specs.Option.{option_map}
use Rattle.gl_acts.specs.Acting.{IsActFault}
use Rattle.gl_bytecode.specs.Lawful.{Lawful as LawfulOf, setting_of}
use Rattle.gl_bytecode.specs.Programs.{Bytecode}
use Rattle.gl_places.specs.declared.place.Place.{Place as StoredPlace}
use Rattle.gl_places.specs.Places.{seen}
use Rattle.gl_audit.specs.declared.finding.Finding.{Finding}
use Rattle.gl_audit.specs.declared.finding.Finding.TheVariants.{Not}
use Rattle.gl_audit.specs.Clauses.{Clause, FailsFirst, Says, number_of}
use Rattle.gl_audit.specs.Clauses.{OfForm, OfList, OfNumbers, OfMachine, OfRaces, OfWords, OfProgram}
use Rattle.gl_audit.specs.Findings.{HoldBelow, IsFinding}
use Rattle.gl_audit.proofs.Seven.{all, same_clause}

module _ (P : Bytecode) (inputs : List ℤ) (steps : ℕ) (made : List (ℕ × List Entry)) where
  abbrev S : Clause → Type 0
  S k = Says P inputs steps (lists_of made) k

  abbrev pub Below : Clause → Type 0
  Below k = HoldBelow P inputs steps (lists_of made) k

  -- no clause has a number below 1
  above_none : (k : Clause) → number_of k < 1 → ⊥
  above_none OfForm less = omega arith
  above_none OfList less = omega arith
  above_none OfNumbers less = omega arith
  above_none OfMachine less = omega arith
  above_none OfRaces less = omega arith
  above_none OfWords less = omega arith
  above_none OfProgram less = omega arith

  -- no clause is before the first
  pub below_first : Below OfForm
  below_first k less = absurd (above_none k less)

  -- one clause more holds
  pub below_more : (k m : Clause) → number_of m ≡ number_of k + 1 → Below k → S k → Below m
  below_more k m next below says j less = elim (cases_lt (number_of j) (number_of k)) [
    | inl lt ↦ below j lt
    | inr ge ↦ subst S (sym (same_clause j k (omega arith))) says
  ]

  -- what holds below each clause
  pub below_list : S OfForm → Below OfList
  below_list form = below_more OfForm OfList refl below_first form

  -- where the clauses of form and of the list hold, all before that of the numbers do
  pub below_numbers : S OfForm → S OfList → Below OfNumbers
  below_numbers form list = below_more OfList OfNumbers refl (below_list form) list

  -- where that of the numbers holds too, all before that of the machine do
  pub below_machine : S OfForm → S OfList → S OfNumbers → Below OfMachine
  below_machine form list numbers = below_more OfNumbers OfMachine refl (below_numbers form list) numbers

  -- where that of the machine holds too, all before that of the races do
  pub below_races : S OfForm → S OfList → S OfNumbers → S OfMachine → Below OfRaces
  below_races form list numbers machine = below_more OfMachine OfRaces refl (below_machine form list numbers) machine

  -- where that of the races holds too, all before that of the words do
  pub below_words : S OfForm → S OfList → S OfNumbers → S OfMachine → S OfRaces → Below OfWords
  below_words form list numbers machine races = below_more OfRaces OfWords refl (below_races form list numbers machine) races

  -- where that of the words holds too, all before that of the program do
  pub below_program : S OfForm → S OfList → S OfNumbers → S OfMachine → S OfRaces → S OfWords → Below OfProgram
  below_program form list numbers machine races words =
      below_more OfWords OfProgram refl (below_words form list numbers machine races) words

  -- what an answer of a clause's call says
  pub holds_at : (k : Clause) (o : Option StoredPlace) → MatchOption o (S k) (λ c. FailsFirst P inputs steps made k (seen c)) → o ≡ None
      → S k
  holds_at k None says is = says
  holds_at k (Some c) says is = absurd (cc)

  pub first_at :
      (k : Clause) (T : Type 0) (o : Option StoredPlace) (c : StoredPlace)
      → MatchOption o T (λ d. FailsFirst P inputs steps made k (seen d)) →
      o ≡ Some c → FailsFirst P inputs steps made k (seen c)
  first_at k T None c says is = absurd (cc)
  first_at k T (Some d) c says is = (let same : d ≡ c = cc in subst (λ b. FailsFirst P inputs steps made k (seen b)) same says)

  pub first_at_some :
      (k : Clause) (o : Option StoredPlace) (c : StoredPlace) → IfSome o (λ d. FailsFirst P inputs steps made k (seen d)) → o ≡ Some c →
      FailsFirst P inputs steps made k (seen c)
  first_at_some k None c says is = absurd (cc)
  first_at_some k (Some d) c says is = (let same : d ≡ c = cc in subst (λ b. FailsFirst P inputs steps made k (seen b)) same says)

  -- what the answer of the machine's call says
  pub runs_at : (o : Option StoredPlace) → IsActFault (setting_of P inputs) (lists_of made) (option_map seen o) → o ≡ None → S OfMachine
  runs_at None says is = says
  runs_at (Some c) says is = absurd (cc)

  pub act_at :
      (o : Option StoredPlace) (c : StoredPlace) → IsActFault (setting_of P inputs) (lists_of made) (option_map seen o) → o ≡ Some c →
      FailsFirst P inputs steps made OfMachine (seen c)
  act_at None c says is = absurd (cc)
  act_at (Some d) c says is = (let same : d ≡ c = cc in subst (λ b. FailsFirst P inputs steps made OfMachine (seen b)) same says)

  -- where all before that of the program hold, and that one, each clause does
  pub every : Below OfProgram → S OfProgram → (k : Clause) → S k
  every below program OfForm = below OfForm (omega arith)
  every below program OfList = below OfList (omega arith)
  every below program OfNumbers = below OfNumbers (omega arith)
  every below program OfMachine = below OfMachine (omega arith)
  every below program OfRaces = below OfRaces (omega arith)
  every below program OfWords = below OfWords (omega arith)
  every below program OfProgram = program

  -- the clause fails here first, and those before it hold
  pub found :
      (k : Clause) (c : StoredPlace) (f : Finding) → f ≡ Not c.thread c.index (number_of k) → Below k →
      FailsFirst P inputs steps made k (seen c) → IsFinding P inputs steps made f
  found k c f is below first = subst (IsFinding P inputs steps made) (sym is) (k, refl, below, first)

  -- all hold
  pub found_lawful : Below OfProgram → S OfProgram → LawfulOf P inputs steps (lists_of made)
  found_lawful below program = all P inputs steps (lists_of made) (every below program)
