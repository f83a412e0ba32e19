-- A text means one thing by each reading: a program and its inputs, or its first fault.
use Rattle.std.proofs.Common.{◌≡◌, ◌+◌, ℕ, ℤ, List, Ok, Err, ◌∙◌, ap, sym, subst, inl, inr}
use Rattle.std.specs.Prelude.{Result}
use Rattle.std.specs.Str.Lines.{lines}
use Rattle.gl_text.specs.declared.kinds.TheConstants.{PROGRAM_FAULT_BASE}
use Rattle.gl_bytecode.specs.declared.fault.ProgFault.{ProgFault}
use Rattle.gl_bytecode.specs.Faults.{IsFaultless, IsFirstFault as IsProgramsFirstFault}
use Rattle.gl_bytecode.specs.Programs.{Bytecode, Draft, draft_of}
use Rattle.gl_asm.specs.Texts.{HasProgramFault, IsFirstFaultBy, IsTextBy, LineFault, fault_line}

-- what is read in two ways is read in one
same_read : (r : Result (Draft × List ℤ) LineFault) (a b : Draft × List ℤ) → r ≡ Ok a → r ≡ Ok b → a ≡ b
same_read r a b one two = cc

-- a reading that fails has one fault
same_fault : (r : Result (Draft × List ℤ) LineFault) (a b : LineFault) → r ≡ Err a → r ≡ Err b → a ≡ b
same_fault r a b one two = cc

-- a reading does not both succeed and fail
not_both : (r : Result (Draft × List ℤ) LineFault) (a : Draft × List ℤ) (b : LineFault) → r ≡ Ok a → r ≡ Err b → ⊥
not_both r a b one two = cc

-- two faults of one program
program_faults : (r : Result (Draft × List ℤ) LineFault) (text : List ℕ) (a b j k : ℕ) (one : HasProgramFault r text a j)
    (two : HasProgramFault r text b k) → one.fault ≡ two.fault → (a ≡ b) × (j ≡ k)
program_faults r text a b j k one two same = (
  one.line_is ∙ ap (fault_line (lines text)) same ∙ sym two.line_is,
  one.kind_is ∙ ap (λ (f : ProgFault). PROGRAM_FAULT_BASE + f.kind) same ∙ sym two.kind_is,
)

-- the same of programs: a faultless one has no fault, and none has two first faults
abbrev pub ProgramsApart : Type 0
ProgramsApart = (P : Bytecode) (x : ProgFault) → IsFaultless P → IsProgramsFirstFault (draft_of P) x → ⊥

-- a draft has one first fault at most
abbrev pub ProgramsOnce : Type 0
ProgramsOnce = (D : Draft) (x y : ProgFault) → IsProgramsFirstFault D x → IsProgramsFirstFault D y → x ≡ y

-- a text is not both a program and refused
pub read_apart : (r : Result (Draft × List ℤ) LineFault) → ProgramsApart
    → (text : List ℕ) (program : Bytecode) (inputs : List ℤ) (line kind : ℕ) → IsTextBy r program inputs → IsFirstFaultBy r text line kind
    → ⊥
read_apart r apart text program inputs line kind is fault =
    elim fault [
      | inl wrong ↦ not_both r (draft_of program, inputs) (line, kind) is.read wrong
      | inr h ↦
          let same = same_read r (h.draft, h.inputs) (draft_of program, inputs) h.read is.read in
          apart program h.fault is.faultless (subst (λ (D : Draft). IsProgramsFirstFault D h.fault) (ap (λ p. p.0) same) h.first)
    ]

-- a text has one first fault
pub read_faults : (r : Result (Draft × List ℤ) LineFault) → ProgramsOnce
    → (text : List ℕ) (a b j k : ℕ) → IsFirstFaultBy r text a j → IsFirstFaultBy r text b k → (a ≡ b) × (j ≡ k)
read_faults r once text a b j k one two =
    elim one [
      | inl x ↦
          elim two [
            | inl y ↦ let same = same_fault r (a, j) (b, k) x y in (ap (λ p. p.0) same, ap (λ p. p.1) same)
            | inr y ↦ absurd (not_both r (y.draft, y.inputs) (a, j) y.read x)
          ]
      | inr x ↦
          elim two [
            | inl y ↦ absurd (not_both r (x.draft, x.inputs) (b, k) x.read y)
            | inr y ↦
                let same = same_read r (x.draft, x.inputs) (y.draft, y.inputs) x.read y.read in
                program_faults r text a b j k x y
                (once y.draft x.fault y.fault (subst (λ (D : Draft). IsProgramsFirstFault D x.fault) (ap (λ p. p.0) same) x.first) y.first)
          ]
    ]

-- a text means one program and one list of inputs
pub read_once : (r : Result (Draft × List ℤ) LineFault) (P Q : Bytecode) (xs ys : List ℤ) → IsTextBy r P xs → IsTextBy r Q ys
    → (draft_of P ≡ draft_of Q) × (xs ≡ ys)
read_once r P Q xs ys one two =
    let same = same_read r (draft_of P, xs) (draft_of Q, ys) one.read two.read in
    (ap (λ p. p.0) same, ap (λ p. p.1) same)
