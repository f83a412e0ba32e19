-- The answer of `list` is settled, and those of a run and of a load by what is kept.
use Rattle.std.proofs.Common.{◌≡◌, ℕ, ℤ, List, Option, None, Some, ap, sym, subst, ◌∙◌, inl, inr}
use Rattle.std.specs.Prelude.{unwrap_or}
use Rattle.gl_asm.specs.Listing.{listing}
use Rattle.gl_asm.specs.Texts.{IsText, IsFirstFault}
use Rattle.gl_bytecode.specs.Programs.{Bytecode, Draft, draft_of}
use Rattle.gl_model.specs.Report.{summary_of}
use Rattle.gl_table.specs.SealedView.{SealedView}
use Rattle.gl_run.specs.Laws.{AuditsAreOne, ChecksAreOne, ListingsAreApart, ListingsAreOne, LoadsAreLawful, LoadsAreTold, RepliesAreOne, RepliesAreTold, RunsAreApart, RunsAreLawful, RunsAreTold, IsKeptLoad, IsKeptRun, IsOneAnswer, IsToldByKept}
use Rattle.gl_run.specs.Listed.{AcceptsProgram, Refuses}
use Rattle.gl_run.specs.Output.{refusal}
use Rattle.gl_run.specs.Runs.{AcceptsRun, RefusesRun, run_status, run_text}
use Rattle.gl_run.specs.Texts.{AnswersText}
use Rattle.gl_run.specs.Words.{run_part}
use Rattle.gl_run.specs.declared.keep.Keep.{Keep}
use Rattle.gl_run.specs.declared.kept.Kept.{Kept}
use Rattle.gl_run.specs.declared.kept.Kept.TheVariants.{Run}
use Rattle.gl_run.specs.declared.options.LoadOptions.{LoadOptions}
use Rattle.gl_run.specs.declared.options.RunOptions.{RunOptions}
use Rattle.gl_run.specs.declared.words.Command.{Command}
use Rattle.gl_run.specs.declared.words.Command.TheVariants as commands

-- a program is read off its draft
program_of : Bytecode → Draft → Bytecode
program_of P D = record { classes = D.classes; functions = D.functions; main = unwrap_or D.main P.main }

-- programs that have the same draft are the same
pub same_program : (P Q : Bytecode) → draft_of P ≡ draft_of Q → P ≡ Q
unfolding program_of
same_program P Q same = ap (program_of P) same

-- what is kept of a run is one record
same_kept : (made other : SealedView) (kept : Option Kept) → kept ≡ Some (Run made) → kept ≡ Some (Run other) → made ≡ other
same_kept made other kept one two = cc

-- what is refused for one fault has one answer
pub refused_once : (IsFault : ℕ → ℕ → Type 0) → ((a b j k : ℕ) → IsFault a j → IsFault b k → (a ≡ b) × (j ≡ k))
    → (s t : ℕ) (a b : List ℕ) (j k : Option Kept) → Refuses IsFault s a j → Refuses IsFault t b k → (s ≡ t) × (a ≡ b) × (j ≡ k)
refused_once IsFault faults s t a b j k one two =
    let same = faults one.line two.line one.kind two.kind one.fault two.fault in (
      one.status_is ∙ sym two.status_is,
      one.bytes_are ∙ ap (λ n. refusal n one.kind) same.0 ∙ ap (refusal two.line) same.1 ∙ sym two.bytes_are,
      one.kept_is ∙ sym two.kept_is,
    )

module _ (apart : (text : List ℕ) (program : Bytecode) (inputs : List ℤ) (line kind : ℕ) → IsText text program inputs
    → IsFirstFault text line kind → ⊥)
    (faults : (text : List ℕ) (a b j k : ℕ) → IsFirstFault text a j → IsFirstFault text b k → (a ≡ b) × (j ≡ k))
    (texts : (text : List ℕ) (P Q : Bytecode) (xs ys : List ℤ) → IsText text P xs → IsText text Q ys → (draft_of P ≡ draft_of Q)
    × (xs ≡ ys)) where
  -- no text is both accepted and refused by `list`
  pub listings_apart : ListingsAreApart
  listings_apart input s t a b j k one two = apart input one.program one.inputs two.line two.kind one.meaning two.fault

  -- two answers of one listed program have the same status, bytes and what is kept
  listed_same : (input : List ℕ) (s t : ℕ) (a b : List ℕ) (j k : Option Kept) → AcceptsProgram input s a j → AcceptsProgram input t b k
      → (s ≡ t) × (a ≡ b) × (j ≡ k)
  listed_same input s t a b j k one two =
      let same = texts input one.program two.program one.inputs two.inputs one.meaning two.meaning in
      let program : one.program ≡ two.program = same_program one.program two.program same.0
      in (one.status_is ∙ sym two.status_is, one.bytes_are ∙ ap listing program ∙ sym two.bytes_are, one.kept_is ∙ sym two.kept_is)

  -- `list` has one answer for each input
  pub listings_one : ListingsAreOne
  listings_one input s t a b j k one two =
      elim one [
        | inl x ↦ elim two [ inl y ↦ listed_same input s t a b j k x y | inr y ↦ absurd (listings_apart input s t a b j k x y) ]
        | inr x ↦ elim two [
          | inl y ↦ absurd (listings_apart input t s b a k j y x)
          | inr y ↦ refused_once (IsFirstFault input) (faults input) s t a b j k x y
        ]
      ]

module _ (apart : (text : List ℕ) (program : Bytecode) (inputs : List ℤ) (line kind : ℕ) → IsText text program inputs
    → IsFirstFault text line kind → ⊥)
    (faults : (text : List ℕ) (a b j k : ℕ) → IsFirstFault text a j → IsFirstFault text b k → (a ≡ b) × (j ≡ k)) where
  -- no text is both accepted and refused by a run
  pub runs_apart : RunsAreApart
  runs_apart options input s t a b j k one two = apart input one.program one.inputs two.line two.kind one.meaning two.fault

  -- two answers of one program that was run, with the same kept, have the same status and bytes
  ran_same : (options : RunOptions) (input : List ℕ) (s t : ℕ) (a b : List ℕ) (kept : Option Kept) → AcceptsRun options input s a kept
      → AcceptsRun options input t b kept → (s ≡ t) × (a ≡ b)
  ran_same options input s t a b kept one two =
      let x = one.answer in
      let y = two.answer in
      let same : x.made ≡ y.made = same_kept x.made y.made kept x.kept_is y.kept_is in (
        x.status_is ∙ ap (λ (m : SealedView). run_status m.entries) same ∙ sym y.status_is,
        x.bytes_are
            ∙ ap (λ (m : SealedView). run_text options m.entries) same ∙ sym y.bytes_are,
      )

  -- what is kept of a run settles the rest of its answer
  pub runs_told : RunsAreTold
  runs_told options input s t a b kept one two =
      elim one [
        | inl x ↦ elim two [
          | inl y ↦ ran_same options input s t a b kept x y
          | inr y ↦ absurd (runs_apart options input s t a b kept kept x y)
        ]
        | inr x ↦
            elim two [
              | inl y ↦ absurd (runs_apart options input t s b a kept kept y x)
              | inr y ↦ let same = refused_once (IsFirstFault input) (faults input) s t a b kept kept x y in (same.0, same.1)
            ]
      ]

-- a run that is refused keeps no run
refused_none : (made : SealedView) (input : List ℕ) (s : ℕ) (a : List ℕ) → RefusesRun input s a (Some (Run made)) → ⊥
refused_none made input s a refused = let none = refused.kept_is in cc

-- what is kept of two equal runs is the same
some_made : (made other : SealedView) → Some (Run made) ≡ Some (Run other) → other ≡ made
some_made made other e = cc

-- what is kept of a text that runs is a run, and its status and bytes are read off it
pub runs_lawful : RunsAreLawful
runs_lawful options input s a made one =
    elim one [
      | inl x ↦
          let same : x.answer.made ≡ made = some_made made x.answer.made x.answer.kept_is in
          subst (IsKeptRun options input s a) same
          (record {
            program = x.program;
            inputs = x.inputs;
            meaning = x.meaning;
            run = x.answer.run;
            status_is = x.answer.status_is;
            bytes_are = x.answer.bytes_are;
            read_back = x.answer.read_back;
          })
      | inr refused ↦ absurd (refused_none made input s a refused)
    ]

-- ## Loads

-- the status and the bytes of a load are told by what it keeps
pub loads_told : LoadsAreTold
loads_told load s t a b kept one two =
    let same : one.made ≡ two.made = same_kept one.made two.made kept one.kept_is two.kept_is in (
      one.status_is ∙ ap (λ (m : SealedView). run_status m.entries) same ∙ sym two.status_is,
      one.bytes_are
          ∙ ap (λ (m : SealedView). summary_of m.entries) same ∙ sym two.bytes_are,
    )

-- what is kept of a load is the closed table of a run of the bank of its size
pub loads_lawful : LoadsAreLawful
loads_lawful load s a made one =
    let same : one.made ≡ made = some_made made one.made one.kept_is in
    subst (IsKeptLoad load s a) same (record { run = one.run; status_is = one.status_is; bytes_are = one.bytes_are })

-- ## All commands

-- the command that was asked is one command
some_same : (c d : Command) (asked : Option Command) → asked ≡ Some c → asked ≡ Some d → d ≡ c
some_same c d asked one two = cc

-- a command that was asked is not no command
not_both : (c : Command) (asked : Option Command) → asked ≡ None → asked ≡ Some c → ⊥
not_both c asked none some = cc

-- where a run was asked, the run's part is not none
no_run : (options : RunOptions) (asked : Option Command) → asked ≡ Some (commands.Run options) → run_part asked ≡ None → ⊥
no_run options asked is none = let runs : run_part asked ≡ Some (commands.Run options) = ap run_part is in cc

-- where a load was asked, the run's part is not none
no_load : (load : LoadOptions) (asked : Option Command) → asked ≡ Some (commands.Load load) → run_part asked ≡ None → ⊥
no_load load asked is none = let runs : run_part asked ≡ Some (commands.Load load) = ap run_part is in cc

module _ (checks : ChecksAreOne) (listings : ListingsAreOne) (audits : AuditsAreOne) (runs : RunsAreTold) (loads : LoadsAreTold) where
  -- a command that is no run and no load has one answer to a text
  texts_one : (keep : Keep) (asked : Option Command) (command : Command) (input : List ℕ) → asked ≡ Some command → run_part asked ≡ None
      → IsOneAnswer (AnswersText keep command input)
  texts_one keep asked commands.Check input is none = checks keep input
  texts_one keep asked commands.List input is none = listings input
  texts_one keep asked (commands.Run options) input is none = absurd (no_run options asked is none)
  texts_one keep asked (commands.Load load) input is none = absurd (no_load load asked is none)
  texts_one keep asked commands.Audit input is none = audits input

  -- of each command's answer to a text what is kept tells the status and the bytes
  texts_told : (keep : Keep) (command : Command) (input : List ℕ) → IsToldByKept (AnswersText keep command input)
  texts_told keep commands.Check input s t a b kept one two = let same = checks keep input s t a b kept kept one two in (same.0, same.1)
  texts_told keep commands.List input s t a b kept one two = let same = listings input s t a b kept kept one two in (same.0, same.1)
  texts_told keep (commands.Run options) input s t a b kept one two = runs options input s t a b kept one two
  texts_told keep (commands.Load load) input s t a b kept one two = loads load s t a b kept one two
  texts_told keep commands.Audit input s t a b kept one two = let same = audits input s t a b kept kept one two in (same.0, same.1)

  -- words that run no program have one answer for each input
  pub replies_one : RepliesAreOne
  replies_one keep asked input none s t a b j k one two =
      elim one [
        | inl x ↦
            elim two [
              | inl y ↦ (x.status_is ∙ sym y.status_is, x.bytes_are ∙ sym y.bytes_are, x.kept_is ∙ sym y.kept_is)
              | inr y ↦ absurd (not_both y.command asked x.nothing y.is)
            ]
        | inr x ↦
            elim two [
              | inl y ↦ absurd (not_both x.command asked y.nothing x.is)
              | inr y ↦
                  texts_one keep asked x.command input x.is none s t a b j k x.answer
                  (subst (λ (c : Command). AnswersText keep c input t b k) (some_same x.command y.command asked x.is y.is) y.answer)
            ]
      ]

  -- whatever the words are, what is kept settles the rest of the answer
  pub replies_told : RepliesAreTold
  replies_told keep asked input s t a b kept one two =
      elim one [
        | inl x ↦ elim two [
          | inl y ↦ (x.status_is ∙ sym y.status_is, x.bytes_are ∙ sym y.bytes_are)
          | inr y ↦ absurd (not_both y.command asked x.nothing y.is)
        ]
        | inr x ↦
            elim two [
              | inl y ↦ absurd (not_both x.command asked y.nothing x.is)
              | inr y ↦
                  texts_told keep x.command input s t a b kept x.answer
                  (subst (λ (c : Command). AnswersText keep c input t b kept) (some_same x.command y.command asked x.is y.is) y.answer)
            ]
      ]
