-- That the text of an audit has one meaning, where its two parts have.
use Rattle.std.proofs.Common.{◌≡◌, ℕ, ℤ, ◌+◌, ◌<◌, ◌≤◌, List, length, take, drop, sym, ◌∙◌, subst, inl, inr, arith}
use Rattle.std.specs.Str.Lines.{lines}
use Rattle.gl_asm.specs.Texts.{IsFirstFault as IsFirstOfProgram, IsText}
use Rattle.gl_audited.specs.declared.limits.TheConstants.{AUDIT_BYTES}
use Rattle.gl_audited.specs.Cut.{IsCutAt}
use Rattle.gl_audited.specs.Meaning.{IsAuditText, IsFaultOfProgram, IsFaultOfRecord, IsFirstFault, TellsFirst}
use Rattle.gl_audited.proofs.CutLines.{one_cut}
use Rattle.gl_bytecode.specs.Programs.{Bytecode, draft_of}
use Rattle.gl_journal.specs.Meaning.{IsFirstFault as IsFirstOfRecord, IsRecordText, TellsFirst as TellsFirstOfRecord}
use Rattle.gl_model.specs.Entries.{Entry}
use Rattle.gl_text.specs.declared.fault.TextError.{TextError}
use Rattle.gl_text.specs.declared.fault.TextError.TheVariants.{Fault, Memory}

-- ## What is known of the parts

-- no text is both a program and has a first fault as one
abbrev ProgramsAreApart : Type 0
ProgramsAreApart = (text : List ℕ) (P : Bytecode) (inputs : List ℤ) (line kind : ℕ) → IsText text P inputs
    → IsFirstOfProgram text line kind → ⊥

-- a text has one first fault as a program
abbrev ProgramFaultsAreOne : Type 0
ProgramFaultsAreOne = (text : List ℕ) (a b j k : ℕ) → IsFirstOfProgram text a j → IsFirstOfProgram text b k → (a ≡ b) × (j ≡ k)

-- no text is both a record and has a first fault as one
abbrev RecordsAreApart : Type 0
RecordsAreApart =
    (text : List ℕ) (steps : ℕ) (R : List (ℕ × List Entry)) (first line kind : ℕ) → IsRecordText text steps R →
    IsFirstOfRecord text first line kind → ⊥

-- a text has one first fault as a record
abbrev RecordFaultsAreOne : Type 0
RecordFaultsAreOne = (text : List ℕ) (first a b j k : ℕ) → IsFirstOfRecord text first a j → IsFirstOfRecord text first b k → (a ≡ b)
    × (j ≡ k)

-- ## The whole text

-- no text is both an audit's and has a first fault, where this is so of programs and of records
pub texts_apart :
    ProgramsAreApart → RecordsAreApart → (text : List ℕ) (P : Bytecode) (inputs : List ℤ) (steps : ℕ) (R : List (ℕ × List Entry))
    (line kind : ℕ) →
    IsAuditText text P inputs steps R → IsFirstFault text line kind → ⊥
texts_apart programs records text P inputs steps R line kind a (inl f) =
    let few : length text ≤ AUDIT_BYTES = a.within in
    let many : AUDIT_BYTES < length text = f.long in
    omega arith
texts_apart programs records text P inputs steps R line kind a (inr (inl f)) =
    let same : f.at ≡ a.at = one_cut text f.at a.at f.cut a.cut in
    programs (take a.at text) P inputs line kind a.program_is (subst (λ n. IsFirstOfProgram (take n text) line kind) same f.fault)
texts_apart programs records text P inputs steps R line kind a (inr (inr f)) =
    let same : f.at ≡ a.at = one_cut text f.at a.at f.cut a.cut in
    records (drop a.at text) steps R (1 + length (lines (take a.at text))) line kind a.record_is
    (subst (λ n. IsFirstOfRecord (drop n text) (1 + length (lines (take n text))) line kind) same f.fault)

-- an audit's text has one first fault in its program, where programs have one
programs_one :
    ProgramFaultsAreOne → (text : List ℕ) (a b j k : ℕ) → IsFaultOfProgram text a j → IsFaultOfProgram text b k → (a ≡ b) × (j ≡ k)
programs_one one text a b j k f g =
    let same : g.at ≡ f.at = one_cut text g.at f.at g.cut f.cut in
    one (take f.at text) a b j k f.fault (subst (λ n. IsFirstOfProgram (take n text) b k) same g.fault)

-- an audit's text has one first fault in its record, where records have one
records_one :
    RecordFaultsAreOne → (text : List ℕ) (a b j k : ℕ) → IsFaultOfRecord text a j → IsFaultOfRecord text b k → (a ≡ b) × (j ≡ k)
records_one one text a b j k f g =
    let same : g.at ≡ f.at = one_cut text g.at f.at g.cut f.cut in
    one (drop f.at text) (1 + length (lines (take f.at text))) a b j k f.fault
    (subst (λ n. IsFirstOfRecord (drop n text) (1 + length (lines (take n text))) b k) same g.fault)

-- a text whose program part has a fault has none that is told of its record part
parts_apart : ProgramsAreApart → (text : List ℕ) (a b j k : ℕ) → IsFaultOfProgram text a j → IsFaultOfRecord text b k → ⊥
parts_apart programs text a b j k f g =
    let same : f.at ≡ g.at = one_cut text f.at g.at f.cut g.cut in
    programs (take g.at text) g.program g.inputs a j g.program_is (subst (λ n. IsFirstOfProgram (take n text) a j) same f.fault)

-- an audit's text has one first fault, where programs and records have one and no program is also refused
pub faults_one :
    ProgramsAreApart → ProgramFaultsAreOne → RecordFaultsAreOne → (text : List ℕ) (a b j k : ℕ) →
    IsFirstFault text a j → IsFirstFault text b k → (a ≡ b) × (j ≡ k)
faults_one apart programs records text a b j k (inl f) (inl g) = (f.line_is ∙ sym g.line_is, f.kind_is ∙ sym g.kind_is)
faults_one apart programs records text a b j k (inl f) (inr (inl g)) =
    let few : length text ≤ AUDIT_BYTES = g.within in let many : AUDIT_BYTES < length text = f.long in absurd (omega arith)
faults_one apart programs records text a b j k (inl f) (inr (inr g)) =
    let few : length text ≤ AUDIT_BYTES = g.within in let many : AUDIT_BYTES < length text = f.long in absurd (omega arith)
faults_one apart programs records text a b j k (inr (inl f)) (inl g) =
    let few : length text ≤ AUDIT_BYTES = f.within in let many : AUDIT_BYTES < length text = g.long in absurd (omega arith)
faults_one apart programs records text a b j k (inr (inr f)) (inl g) =
    let few : length text ≤ AUDIT_BYTES = f.within in let many : AUDIT_BYTES < length text = g.long in absurd (omega arith)
faults_one apart programs records text a b j k (inr (inl f)) (inr (inl g)) = programs_one programs text a b j k f g
faults_one apart programs records text a b j k (inr (inl f)) (inr (inr g)) = absurd (parts_apart apart text a b j k f g)
faults_one apart programs records text a b j k (inr (inr f)) (inr (inl g)) = absurd (parts_apart apart text b a k j g f)
faults_one apart programs records text a b j k (inr (inr f)) (inr (inr g)) = records_one records text a b j k f g

-- an audit's text says one program, one list of inputs, one number of steps and one record, where its parts do
pub texts_one :
    ((text : List ℕ) (P Q : Bytecode) (xs ys : List ℤ) → IsText text P xs → IsText text Q ys → (draft_of P ≡ draft_of Q) × (xs ≡ ys)) →
    ((text : List ℕ) (m n : ℕ) (R S : List (ℕ × List Entry)) → IsRecordText text m R → IsRecordText text n S → (m ≡ n) × (R ≡ S)) →
    (text : List ℕ) (P Q : Bytecode) (xs ys : List ℤ) (m n : ℕ) (R S : List (ℕ × List Entry)) →
    IsAuditText text P xs m R → IsAuditText text Q ys n S → (draft_of P ≡ draft_of Q) × (xs ≡ ys) × (m ≡ n) × (R ≡ S)
texts_one programs records text P Q xs ys m n R S a b =
    let same : b.at ≡ a.at = one_cut text b.at a.at b.cut a.cut in
    let (draft, inputs) = programs (take a.at text) P Q xs ys a.program_is (subst (λ i. IsText (take i text) Q ys) same b.program_is) in
    let (steps, made) = records (drop a.at text) m n R S a.record_is (subst (λ i. IsRecordText (drop i text) n S) same b.record_is) in
    (draft, inputs, steps, made)

-- ## The reader

-- where the program of an audit's text is right, the first fault of its record is that of the whole
pub told_of_record :
    (text front part : List ℕ) (at count : ℕ) (P : Bytecode) (inputs : List ℤ) (error : TextError) → front ≡ take at text →
    part ≡ drop at text → length text ≤ AUDIT_BYTES → IsCutAt text at → count ≡ length (lines (take at text)) → IsText front P inputs →
    TellsFirstOfRecord part (1 + count) error → TellsFirst text error
told_of_record text front part at count P inputs (Fault f) before after few cut counted is told =
    inr (inr (record {
      within = few;
      at = at;
      cut = cut;
      program = P;
      inputs = inputs;
      program_is = subst (λ p. IsText p P inputs) before is;
      fault =
          subst (λ n. IsFirstOfRecord (drop at text) (1 + n) f.line f.kind) counted
          (subst (λ p. IsFirstOfRecord p (1 + count) f.line f.kind) after told);
    }))
told_of_record text front part at count P inputs (Memory e) before after few cut counted is told = told

-- where the two parts of an audit's text say a program and a record, the whole says both
pub meant :
    (text front part : List ℕ) (at : ℕ) (P : Bytecode) (inputs : List ℤ) (steps : ℕ) (R : List (ℕ × List Entry)) → front ≡ take at text →
    part ≡ drop at text → length text ≤ AUDIT_BYTES → IsCutAt text at → IsText front P inputs → IsRecordText part steps R →
    IsAuditText text P inputs steps R
meant text front part at P inputs steps R before after few cut is says = record {
  within = few;
  at = at;
  cut = cut;
  program_is = subst (λ p. IsText p P inputs) before is;
  record_is = subst (λ p. IsRecordText p steps R) after says;
}
