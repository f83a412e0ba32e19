-- Each instruction of a program has one line.
use Rattle.std.proofs.Common.{◌≡◌, ℕ, ℤ, suc, zero, ◌+◌, ◌<◌, ◌≤◌, Bool, true, false, if◌then◌else◌, List, [], ◌∷◌, ◌++◌, Option, Some, None, Ok, Err, length, fold, take, refl, sym, ◌∙◌, ap, subst, inl, inr, arith, nat_lt}
use Rattle.std.specs.Prelude.{Result, slice_get}
use Rattle.std.specs.List.{flat_map}
use Rattle.std.specs.Option.{option_and_then}
use Rattle.std.specs.Str.Lines.{lines}
use Rattle.std.proofs.lemmas.Bool.Decides.{nat_tests}
use Rattle.std.proofs.lemmas.List.{take_all}
use Rattle.std.proofs.lemmas.Option.{slice_get_within, slice_get_cases}
use Rattle.gl_bytecode.specs.declared.instr.Instr.{Instr}
use Rattle.gl_bytecode.specs.Programs.{Bytecode, Draft, Function, draft_of, instr_at}
use Rattle.gl_text.specs.declared.kinds.TheConstants as kinds
use Rattle.gl_asm.specs.declared.additions.Addition.{Addition}
use Rattle.gl_asm.specs.declared.additions.Addition.TheVariants.{Instruction as AddsInstruction}
use Rattle.gl_asm.specs.declared.definitions.Definition.{Definition}
use Rattle.gl_asm.specs.declared.forms.Counts.{Counts}
use Rattle.gl_asm.specs.declared.limits.TheConstants.{LONGEST}
use Rattle.gl_asm.specs.Code.{code_of}
use Rattle.gl_asm.specs.Definitions.{definitions}
use Rattle.gl_asm.specs.Forms.{none_yet}
use Rattle.gl_asm.specs.Texts.{IsText, LineFault, added, built, inputs_in, lines_read, read_from, start, text_read}
use Rattle.gl_sites.specs.SourceLines.{AreAdded, IsLineOf, draft_by}
use Rattle.gl_sites.proofs.Growing.{code_at, comes_from, stands_behind}
use Rattle.gl_sites.proofs.Said.{reads_one}
use Rattle.gl_sites.proofs.Walking.{IsInstruction, of_line}

-- ## What a text adds

-- the lines of a text make its program
pub record Makes (text : List ℕ) (D : Draft) : Type 0 where
  pub adding : List Addition
  pub all : AreAdded text adding
  pub draft : draft_by text adding ≡ D
  pub short : length text ≤ LONGEST

-- a reading that is all right gives one draft and one list of inputs
one_pair : (r : Result (Draft × List ℤ) LineFault) (x y : Draft × List ℤ) → r ≡ Ok x → r ≡ Ok y → x ≡ y
one_pair r x y one other = cc

-- a draft that was built was built of additions that were read without a fault
of_built : (E : Draft) (r : Result (List Addition) LineFault) (D : Draft) (zs : List ℤ) → built E [] r ≡ Ok (D, zs)
    → (adding : List Addition) × (r ≡ Ok adding) × (fold added E adding ≡ D)
of_built E (Ok adding) D zs is =
    (adding, refl, ap (λ p. p.0) (one_pair (built E [] (Ok adding)) (fold added E adding, [] ++ flat_map inputs_in adding) (D, zs) refl is))
of_built E (Err fault) D zs is = cc

-- a reading under a condition that is all right is the reading, and the condition for a fault does not hold
of_short : (b : Bool) (r : Result (Draft × List ℤ) LineFault) (fault : LineFault) (x : Draft × List ℤ)
    → (if b then Err fault else r) ≡ Ok x → (b ≡ false) × (r ≡ Ok x)
of_short true r fault x is = cc
of_short false r fault x is = (refl, is)

-- a text that is read without a fault is not too long, and its lines are read
read_of : (text : List ℕ) (x : Draft × List ℤ) → text_read text ≡ Ok x
    → (nat_lt LONGEST (length text) ≡ false) × (lines_read (lines text) ≡ Ok x)
unfolding text_read
read_of text x is = of_short (nat_lt LONGEST (length text)) (lines_read (lines text)) (0, kinds.TOO_LONG) x is

-- the lines of a text of a program make its draft
pub makes : (text : List ℕ) (P : Bytecode) (inputs : List ℤ) → IsText text P inputs → Makes text (draft_of P)
makes text P inputs is =
    let read = read_of text (draft_of P, inputs) is.read in
    let parts = of_built (start (definitions (lines text))) (read_from (definitions (lines text)) none_yet 1 0 (lines text)) (draft_of P)
    inputs read.1 in
    record { adding = parts.0; all = parts.1; draft = parts.2; short = (let small = read.0 in grind (arith, nat_tests, small)) }

-- each line has one addition
same_length : (table : List Definition) (c : Counts) (line have : ℕ) (ls : List (List ℕ)) (adding : List Addition)
    → read_from table c line have ls ≡ Ok adding → length ls ≡ length adding
same_length table c line have [] adding is = ap length (no_more adding (read_from table c line have []) refl is)
  where
    no_more : (xs : List Addition) (r : Result (List Addition) LineFault) → r ≡ Ok [] → r ≡ Ok xs → [] ≡ xs
    no_more xs r one other = cc
same_length table c line have (text ∷ rest) adding is =
    let one = reads_one table c line have text rest adding is in
    ap suc (same_length table one.counts (line + 1) one.inputs rest one.others one.later) ∙ sym (ap length one.same)

-- ## One line

-- an instruction of a program is one of the function's
of_instr : (o : Option Function) (i : ℕ) (x : Instr) → option_and_then (λ (F : Function). slice_get F.code i) o ≡ Some x
    → slice_get (code_of o) i ≡ Some x
of_instr (Some F) i x is = is
of_instr None i x is = cc

-- an instruction in a function's list of code is that of the function at this place
to_instr : (o : Option Function) (i : ℕ) (x : Instr) → slice_get (code_of o) i ≡ Some x
    → option_and_then (λ (F : Function). slice_get F.code i) o ≡ Some x
to_instr (Some F) i x is = is
to_instr None i x is = cc

-- an instruction of the program has a line
pub some_line : (text : List ℕ) (P : Bytecode) (inputs : List ℤ) (f i : ℕ) (x : Instr) → IsText text P inputs → instr_at P f i ≡ Some x
    → (n : ℕ) × IsLineOf text f i n
some_line text P inputs f i x is has =
    let made : Makes text (draft_of P) = makes text P inputs is in
    let code : slice_get (code_at (draft_by text made.adding).functions f) i ≡ Some x =
    subst (λ (D : Draft). slice_get (code_at D.functions f) i ≡ Some x) (sym made.draft) (of_instr (slice_get P.functions f) i x has) in
    elim (comes_from (start (definitions (lines text))) made.adding f i x code) [
      | inl early ↦ absurd (let none = early in cc)
      | inr at ↦
          let within : at.before < length made.adding = slice_get_within made.adding at.before at.addition at.there in
          let count : length (lines text) ≡ length made.adding =
          same_length (definitions (lines text)) none_yet 1 0 (lines text) made.adding made.all in
          elim (slice_get_cases (lines text) at.before).1 [
            | inl line ↦ (
              at.before + 1,
              record {
                before = at.before;
                draft = draft_by text (take at.before made.adding);
                line = line.0;
                instr = at.comes.instr;
                number = refl;
                adds = record {
                  additions = made.adding;
                  all = made.all;
                  so_far = refl;
                  there = line.2;
                  adds = at.there ∙ ap Some at.comes.is;
                };
                functions = at.comes.functions;
                instructions = at.comes.instructions;
              },
            )
            | inr past ↦ absurd (let beyond = past.0 in omega (arith, within, count, beyond))
          ]
    ]

-- of two lines of an instruction none comes before the other
not_before : (text : List ℕ) (adding : List Addition) (k m f i : ℕ) (x y : Instr) → IsInstruction text adding k f i x
    → IsInstruction text adding m f i y → k < m → ⊥
not_before text adding k m f i x y one other less =
    let there = stands_behind (start (definitions (lines text))) adding k m f i x one.there less one.functions one.instructions in
    let within = slice_get_within (code_at (draft_by text (take m adding)).functions f) i x there in
    let count = other.instructions in
    omega (arith, within, count)

-- two numbers of which neither is less are equal
same_number : (k m : ℕ) → (k < m → ⊥) → (m < k → ⊥) → k ≡ m
same_number zero zero one other = refl
same_number zero (suc m) one other = absurd (one (omega arith))
same_number (suc k) zero one other = absurd (other (omega arith))
same_number (suc k) (suc m) one other =
    ap suc (same_number k m (λ less. one (omega (arith, less))) (λ less. other (omega (arith, less))))

-- an instruction has one line at most
pub one_line : (text : List ℕ) (f i m n : ℕ) → IsLineOf text f i m → IsLineOf text f i n → m ≡ n
one_line text f i m n one other =
    let adding = one.adds.additions in
    let here = of_line text adding f i m one.adds.all one in
    let there = of_line text adding f i n one.adds.all other in
    one.number
    ∙ ap (λ k. k + 1) (same_number one.before other.before
    (λ less. not_before text adding one.before other.before f i one.instr other.instr here there less)
    (λ less. not_before text adding other.before one.before f i other.instr one.instr there here less))
    ∙ sym other.number

-- what a line adds is what the program has there
pub adds_it : (text : List ℕ) (P : Bytecode) (inputs : List ℤ) (f i n : ℕ) → IsText text P inputs → (line : IsLineOf text f i n)
    → instr_at P f i ≡ Some line.instr
adds_it text P inputs f i n is line =
    let made : Makes text (draft_of P) = makes text P inputs is in
    let here = of_line text made.adding f i n made.all line in
    let within : line.before < length made.adding = slice_get_within made.adding line.before (AddsInstruction line.instr) here.there in
    let behind = stands_behind (start (definitions (lines text))) made.adding line.before (length made.adding) f i line.instr here.there
    within here.functions here.instructions in
    let whole : draft_by text (take (length made.adding) made.adding) ≡ draft_of P =
    ap (draft_by text) (take_all (length made.adding) made.adding (omega arith)) ∙ made.draft in
    to_instr (slice_get P.functions f) i line.instr
    (subst (λ (D : Draft). slice_get (code_at D.functions f) i ≡ Some line.instr) whole behind)
