-- A plain access is made by an instruction, which has a line.
use Rattle.std.proofs.Common.{◌≡◌, ℕ, ℤ, Bool, true, false, List, [], ◌∷◌, Some, None, is_none, refl, sym, ◌∙◌, ap, subst, inl, inr}
use Rattle.std.specs.Prelude.{◌⊎◌, if◌then◌else◌}
use Rattle.std.proofs.lemmas.Option.{slice_get_within}
use Rattle.gl_model.specs.Entries.{Entry, Plain}
use Rattle.gl_model.specs.Form.{IsOver, IsTrim}
use Rattle.gl_model.specs.Records.{At}
use Rattle.gl_asm.specs.Texts.{IsText}
use Rattle.gl_bytecode.specs.declared.ask.Ask.{Ask}
use Rattle.gl_bytecode.specs.declared.ask.Reply.{Reply}
use Rattle.gl_bytecode.specs.declared.ask.Stage.{Stage}
use Rattle.gl_bytecode.specs.declared.ask.Stage.TheVariants as stages
use Rattle.gl_bytecode.specs.Machine.{ask_of}
use Rattle.gl_bytecode.specs.Programs.{Bytecode}
use Rattle.gl_bytecode.specs.Runs.{Exchange, Made, Progress, Runs, outset, reply_of_plain, told, told_one}
use Rattle.gl_bytecode.proofs.Exchanges.{told_cons, told_none, told_of}
use Rattle.gl_vm.specs.Orderly.{IsOrderly, StageIsOrderly, WaitsRightly}
use Rattle.gl_vm.proofs.Work.{orderly_fresh}
use Rattle.gl_follow.proofs.Driving.{orderly_next}
use Rattle.gl_sites.specs.Sites.{IsAnswered, IsOfInstruction}
use Rattle.gl_sites.specs.PlainLines.{HasLine, PlainHasLine}
use Rattle.gl_sites.proofs.OneLine.{some_line}
use Rattle.gl_sites.proofs.SomeSite.{some_maker}

-- a machine stays orderly
orderly_along : (P : Bytecode) (xs : List Exchange) (p q : Progress) → IsOrderly P p.config → told P p xs ≡ Some q → IsOrderly P q.config
orderly_along P [] p q orderly is = subst (λ (r : Progress). IsOrderly P r.config) (told_none P p q is) orderly
orderly_along P (x ∷ xs) p q orderly is =
    let parts = told_cons P x xs p q is in
    let t = told_of P x p parts.mid parts.first in
    orderly_along P xs parts.mid q (subst (IsOrderly P) (sym t.config) (orderly_next P p t.reply orderly t.fits)) parts.rest

-- a choice between none and none gives no reply
neither : (b : Bool) (r : Reply) → (if b then None else None) ≡ Some r → ⊥
neither true r is = cc
neither false r is = cc

-- what a plain access answers is asked by an instruction
asked_by : (s : Stage) (b : Bool) (x : ℕ) (write : Bool) (value : ℤ) (raised : Bool) (r : Reply)
    → (if b then reply_of_plain (ask_of s) x write value raised else None) ≡ Some r → (ask : Ask) × (s ≡ stages.Waits ask)
asked_by stages.New b x write value raised r is = absurd (neither b r is)
asked_by stages.Begins b x write value raised r is = absurd (neither b r is)
asked_by stages.Runs b x write value raised r is = absurd (neither b r is)
asked_by (stages.Waits ask) b x write value raised r is = (ask, refl)
asked_by (stages.Drops failure) b x write value raised r is = absurd (neither b r is)
asked_by (stages.Leaves ending o) b x write value raised r is = absurd (neither b r is)
asked_by (stages.Ends ending) b x write value raised r is = absurd (neither b r is)
asked_by (stages.Over ending) b x write value raised r is = absurd (neither b r is)

-- a plain access is neither a trim nor the end of a thread
no_note : (x nth : ℕ) (cached write : Bool) (value : ℤ) (raised : Bool) (e : Entry) → e ≡ Plain x nth cached write value raised
    → IsTrim e ⊎ IsOver e → ⊥
no_note x nth cached write value raised e is note =
    elim (subst (λ d. IsTrim d ⊎ IsOver d) is note) [ inl never ↦ never | inr never ↦ never ]

module _ (P : Bytecode) (steps t : ℕ) (list : List Entry) (n : ℕ) (text : List ℕ) (inputs : List ℤ) (says : IsText text P inputs)
    (x nth : ℕ) (cached write : Bool) (value : ℤ) (raised : Bool) (there : At list n (Plain x nth cached write value raised)) where
  -- where a plain access answers a machine, it has a line of the program's text
  from_answer : (p : Progress) → IsAnswered P steps t list n p → HasLine text P steps t list n
  from_answer p is =
      let same : is.entry ≡ Plain x nth cached write value raised = (let a = is.there in let b = there in cc) in
      let told_it = told_of P (Made (Plain x nth cached write value raised)) p is.next
      (ap (λ e. told_one P (Made e) p) (sym same) ∙ is.answered) in
      let asked = asked_by p.config.stage (is_none p.config.attempt) x write value raised told_it.reply told_it.gives in
      let orderly = orderly_along P is.along.exchanges (outset P t steps) p (orderly_fresh P t steps) is.along.reached in
      let waits : WaitsRightly P p.config asked.0 = subst (StageIsOrderly P p.config) asked.1 orderly.stage in
      let line = some_line text P inputs p.config.frame.function p.config.frame.place waits.instr says waits.there in
      record {
        function = p.config.frame.function;
        place = p.config.frame.place;
        line = line.0;
        made = record { asking = p; is = is; by = subst IsOfInstruction (sym asked.1) tt; function = refl; place = refl };
        is_line = line.1;
      }

  -- a plain access in a list that its machine runs has a line of the program's text
  has_line : Runs P steps t list → HasLine text P steps t list n
  has_line runs =
      elim (some_maker P steps t list n runs (slice_get_within list n (Plain x nth cached write value raised) there)) [
        | inl made ↦ from_answer made.2.asking made.2.is
        | inr others ↦ elim others [
          | inl none ↦ from_answer none.asking none.is
          | inr note ↦
              absurd (no_note x nth cached write value raised note.entry (let a = note.there in let b = there in cc) note.note)
        ]
      ]

-- a plain access in a list that its machine makes has a line of the program's text
pub plain_has_line : PlainHasLine
plain_has_line text P inputs steps t list n x nth cached write value raised says runs there =
    has_line P steps t list n text inputs says x nth cached write value raised there runs
