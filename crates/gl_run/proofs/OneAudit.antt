-- The answer of `audit` is settled, and its status is that of no fault exactly where the record is lawful.
use Rattle.std.proofs.Common.{arith, ◌≡◌, ℕ, ℤ, List, Option, ap, sym, subst, ◌∙◌, inl, inr}
use Rattle.std.specs.Prelude.{◌↔◌}
use Rattle.gl_audit.specs.Findings.{IsFinding, OneFinding}
use Rattle.gl_audit.specs.declared.finding.Finding.{Finding}
use Rattle.gl_audit.specs.declared.finding.Finding.TheVariants.{Lawful, Not}
use Rattle.gl_audited.specs.Meaning.{IsAuditText, IsFirstFault}
use Rattle.gl_bytecode.specs.Lawful.{Lawful as LawfulOf}
use Rattle.gl_bytecode.specs.Programs.{Bytecode, draft_of}
use Rattle.gl_model.specs.Entries.{Entry}
use Rattle.gl_model.specs.Kept.{IsRecord}
use Rattle.gl_model.specs.Lists.{lists_of}
use Rattle.gl_run.specs.Audits.{AcceptsAudit, finding_line, finding_status}
use Rattle.gl_run.specs.Laws.{AuditsAreApart, AuditsAreExact, AuditsAreOne}
use Rattle.gl_run.specs.declared.kept.Kept.{Kept}
use Rattle.gl_run.specs.declared.status.TheConstants.{ALL_WELL, NOT_LAWFUL}
use Rattle.gl_run.proofs.OneProgram.{refused_once, same_program}

-- a right finding of one record is one of the same record of the same program
right_of : (P Q : Bytecode) (xs ys : List ℤ) (m n : ℕ) (R S : List (ℕ × List Entry)) (f : Finding) → P ≡ Q → xs ≡ ys → m ≡ n → R ≡ S
    → IsFinding P xs m R f → IsFinding Q ys n S f
right_of P Q xs ys m n R S f program inputs steps made right =
    subst (λ p. IsFinding p ys n S f) program
    (subst (λ i. IsFinding P i n S f) inputs (subst (λ k. IsFinding P xs k S f) steps (subst (λ r. IsFinding P xs m r f) made right)))

-- the finding whose status is that of no fault is that the record is lawful
lawful_found : (P : Bytecode) (xs : List ℤ) (m : ℕ) (R : List (ℕ × List Entry)) (f : Finding) → finding_status f ≡ ALL_WELL
    → IsFinding P xs m R f → LawfulOf P xs m (lists_of R)
lawful_found P xs m R Lawful well right = right
lawful_found P xs m R (Not thread index clause) well right = let other : NOT_LAWFUL ≡ ALL_WELL = well in absurd (omega arith)

-- what is said of the texts of audits: none has both a meaning and a fault, nor two of either
abbrev pub TextsAreApart : Type 0
TextsAreApart =
    (text : List ℕ) (P : Bytecode) (inputs : List ℤ) (steps : ℕ) (R : List (ℕ × List Entry)) (line kind : ℕ)
    → IsAuditText text P inputs steps R → IsFirstFault text line kind → ⊥

-- any two lists of faults that a record has are the same
abbrev pub FaultsAreOne : Type 0
FaultsAreOne = (text : List ℕ) (a b j k : ℕ) → IsFirstFault text a j → IsFirstFault text b k → (a ≡ b) × (j ≡ k)

-- any two texts of an audit's answer are the same
abbrev pub TextsAreOne : Type 0
TextsAreOne =
    (text : List ℕ) (P Q : Bytecode) (xs ys : List ℤ) (m n : ℕ) (R S : List (ℕ × List Entry)) → IsAuditText text P xs m R
    → IsAuditText text Q ys n S → (draft_of P ≡ draft_of Q) × (xs ≡ ys) × (m ≡ n) × (R ≡ S)

module _ (apart : TextsAreApart) (faults : FaultsAreOne) (texts : TextsAreOne) (once : OneFinding) where
  -- no text is both accepted and refused by `audit`
  pub audits_apart : AuditsAreApart
  audits_apart input s t a b j k one two = apart input one.program one.inputs one.steps one.made two.line two.kind one.meaning two.fault

  -- what is found of what a text says is right of what it says, however that is read
  right_found : (input : List ℕ) (s : ℕ) (a : List ℕ) (j : Option Kept) (P : Bytecode) (xs : List ℤ) (m : ℕ) (R : List (ℕ × List Entry))
      → (one : AcceptsAudit input s a j) → IsAuditText input P xs m R → IsFinding P xs m R one.finding
  right_found input s a j P xs m R one meaning =
      let same = texts input one.program P one.inputs xs one.steps m one.made R one.meaning meaning in
      let program : one.program ≡ P = same_program one.program P same.0 in
      right_of one.program P one.inputs xs one.steps m one.made R one.finding program same.1 same.2 same.3 one.right

  -- two answers of one audited text have the same status, bytes and what is kept
  audited_same : (input : List ℕ) (s t : ℕ) (a b : List ℕ) (j k : Option Kept) → AcceptsAudit input s a j → AcceptsAudit input t b k
      → (s ≡ t) × (a ≡ b) × (j ≡ k)
  audited_same input s t a b j k one two =
      let right = right_found input s a j two.program two.inputs two.steps two.made one two.meaning in
      let same : one.finding ≡ two.finding =
      once two.program two.inputs two.steps two.made one.finding two.finding two.is right two.right in (
        one.status_is ∙ ap finding_status same ∙ sym two.status_is,
        one.bytes_are ∙ ap finding_line same ∙ sym two.bytes_are,
        one.kept_is ∙ sym two.kept_is,
      )

  -- `audit` has one answer for each input
  pub audits_one : AuditsAreOne
  audits_one input s t a b j k one two =
      elim one [
        | inl x ↦ elim two [ inl y ↦ audited_same input s t a b j k x y | inr y ↦ absurd (audits_apart input s t a b j k x y) ]
        | inr x ↦
            elim two [
              | inl y ↦ absurd (audits_apart input t s b a k j y x)
              | inr y ↦ refused_once (IsFirstFault input) (faults input) s t a b j k x y
            ]
      ]

  -- the status of an audited text is that of no fault exactly where the record that it says is lawful
  accepted_exact : (input : List ℕ) (P : Bytecode) (inputs : List ℤ) (steps : ℕ) (made : List (ℕ × List Entry)) (status : ℕ)
      (bytes : List ℕ) (kept : Option Kept) → IsAuditText input P inputs steps made → AcceptsAudit input status bytes kept
      → (status ≡ ALL_WELL) ↔ LawfulOf P inputs steps (lists_of made)
  accepted_exact input P inputs steps made status bytes kept meaning one =
      let right = right_found input status bytes kept P inputs steps made one meaning in
      let same = texts input one.program P one.inputs inputs one.steps steps one.made made one.meaning meaning in (
        λ well. lawful_found P inputs steps made one.finding (sym one.status_is ∙ well) right,
        λ lawful.
            let is = subst IsRecord same.3 one.is in
            one.status_is ∙ ap finding_status (once P inputs steps made one.finding Lawful is right lawful),
      )

  -- the status of `audit` is that of no fault exactly where the record that the text says is lawful
  pub audits_exact : AuditsAreExact
  audits_exact input P inputs steps made status bytes kept meaning one =
      elim one [
        | inl x ↦ accepted_exact input P inputs steps made status bytes kept meaning x
        | inr x ↦ absurd (apart input P inputs steps made x.line x.kind meaning x.fault)
      ]
