-- Going through the rows of a listing, one kind of row after another.
use Rattle.std.proofs.Common.{◌≡◌, ◌+◌, ◌<◌, ◌≤◌, ◌==◌, ℕ, ℤ, List, [], ◌∷◌, ◌++◌, Bool, true, false, Option, Some, Ok, length, refl, ap, sym, ◌∙◌, arith, append_assoc, append-nil, subst, nat_lt, inl, inr}
use Rattle.std.specs.Prelude.{Result, option_to_list}
use Rattle.std.specs.List.{AllByRecursion}
use Rattle.std.proofs.lemmas.Bool.{cases_lt}
use Rattle.std.proofs.lemmas.Bool.Decides.{nat_tests}
use Rattle.gl_text.specs.Text.{words}
use Rattle.gl_model.specs.declared.limits.TheConstants.{CLASSES, FUNCTIONS, VARIABLES, VOLATILES}
use Rattle.gl_bytecode.specs.declared.limits.TheConstants.{CATCHES, CODE, LOCALS}
use Rattle.gl_bytecode.specs.declared.instr.Catch.{Catch}
use Rattle.gl_bytecode.specs.declared.instr.Instr.{Instr}
use Rattle.gl_bytecode.specs.declared.object.Fields.{Fields}
use Rattle.gl_bytecode.specs.Programs.{Bytecode, Draft, Function, with_last}
use Rattle.gl_asm.specs.declared.additions.Addition.{Addition}
use Rattle.gl_asm.specs.declared.additions.Addition.TheVariants.{Nothing as AddsNothing, Class as AddsClass, Function as AddsFunction, Instruction as AddsInstruction, Catch as AddsCatch}
use Rattle.gl_asm.specs.declared.definitions.Definition.{Definition}
use Rattle.gl_asm.specs.declared.definitions.Scope.TheVariants.{Classes, Functions, Labels}
use Rattle.gl_asm.specs.declared.forms.Counts.{Counts}
use Rattle.gl_asm.specs.declared.forms.Form.{Form}
use Rattle.gl_asm.specs.declared.forms.Form.TheVariants as forms
use Rattle.gl_asm.specs.declared.limits.TheConstants.{MOST_INDEX}
use Rattle.gl_asm.specs.declared.table.Operand.{Operand}
use Rattle.gl_asm.specs.declared.table.Operand.TheVariants.{Nothing, Value, Index, IndexAndValue, Code, Label, Function as OfFunction, Class}
use Rattle.gl_asm.specs.Additions.{meaning_of}
use Rattle.gl_asm.specs.Definitions.{definition_of}
use Rattle.gl_asm.specs.Forms.{counted, form_of}
use Rattle.gl_asm.specs.Listing.{function_name, label_name}
use Rattle.gl_asm.specs.Sayings.{said}
use Rattle.gl_asm.specs.Texts.{LineFault, added, inputs_in}
use Rattle.gl_asm.specs.Words.{operand_of}
use Rattle.gl_text.proofs.WordLines.{words_indented, words_spaced}
use Rattle.gl_asm.proofs.ListedNames.{class_name, is_class_name, is_function_name, is_label_name, label_of_colon}
use Rattle.gl_asm.proofs.ListedRows.{catch_row, catch_rows, class_row, class_rows, code_rows, function_rows, functions_rows, header_row, instr_row, label_row, label_rows, names_of}
use Rattle.gl_asm.proofs.ListedTable.{AreFree, Stands, counts, definition, found_next, free_class, free_function, free_label, free_place, is_defined, is_new, means, more_is, stands_on}
use Rattle.gl_asm.proofs.ListedSayings.{Known, said_catch, said_class, said_header, said_instr, said_label}
use Rattle.gl_asm.proofs.ListedWords.{Fits, catch_are_words, catch_form, catch_words, class_are_words, class_form, class_words, header_are_words, header_form, header_words, instr_are_words, instr_form, instr_words, label_are_words, label_form, label_words, template_for}

-- what is less passes the test for less
below : (a b : ℕ) → a < b → nat_lt a b ≡ true
below a b less = grind (arith, nat_tests)

-- where a function more is counted, there is one
some_function : (g : ℕ) → (g + 1 == 0) ≡ false
some_function g = grind (arith, nat_tests)

-- how far a reader has come may be said with equal counts, labels and drafts
moved : {M : Type 0} {T : List Definition} {whole : Result (Draft × List ℤ) LineFault} {main : ℕ} {left : List (List ℕ)}
    (c k : Counts) (label next : ℕ) (D E : Draft) → c ≡ k → label ≡ next → D ≡ E → Stands M T whole main c label left D
    → Stands M T whole main k next left E
moved {M} {T} {whole} {main} {left} c k label next D E same there is s =
    subst (λ d. Stands M T whole main k next left d) is
    (subst (λ l. Stands M T whole main k l left D) there (subst (λ q. Stands M T whole main q label left D) same s))

-- ## A row of each kind

module _ {M : Type 0} {T : List Definition} {whole : Result (Draft × List ℤ) LineFault} {main : ℕ} where
  -- a reader that comes to a class's row adds the class, and its name means its number
  class_step : (n : ℕ) (fields : Fields) (left : List (List ℕ)) (D : Draft) → n < CLASSES → fields.plain ≤ VARIABLES
      → fields.volatile ≤ VOLATILES
      → Stands M T whole main (counts n 0 0 0) 0 (class_row n fields ∷ left) D
      → Stands M T whole main (counts (n + 1) 0 0 0) 0 left (added D (AddsClass fields.plain fields.volatile))
      × (meaning_of T Classes (class_name n) ≡ Ok n)
  class_step n fields left D room plain volatile s =
      let c = counts n 0 0 0 in
      let ws = class_words n fields in
      let name = class_name n in
      let d = definition Classes name s.line n in
      let are = words_spaced ws (class_are_words n fields (omega arith) (omega arith) (omega arith)) in
      let named = is_class_name n (omega arith) in
      let adds : option_to_list (definition_of c s.line (Some forms.Class) ws) ≡ d
      ∷ [] = ap option_to_list (is_defined Classes name s.line n named) in
      let found = found_next T s.before c s.line (class_row n fields) left forms.Class ws Classes name n s.table are (class_form n fields)
      adds (s.free.of_classes n (omega arith) (omega arith)) in
      let new = is_new T Classes name s.line n (nat_lt n CLASSES) named (below n CLASSES room) found in (
        stands_on s forms.Class ws (d ∷ []) (AddsClass fields.plain fields.volatile) (counts (n + 1) 0 0 0) 0 are (class_form n fields) adds
            (λ m. said_class T c s.line 0 n fields refl refl new (omega arith) plain volatile) refl
            (ap (λ q. counts q 0 0 0) (more_is n (omega arith))) (free_class s.before main n 0 0 s.line s.free (omega arith)),
        means T Classes name s.line n found,
      )

  -- a reader that comes to a function's header adds the function, and its name means its number
  header_step : (n f p k label args locals : ℕ) (left : List (List ℕ)) (D : Draft) → f < FUNCTIONS → args ≤ LOCALS → locals ≤ LOCALS
      → Stands M T whole main (counts n f p k) label (header_row main f args locals ∷ left) D
      → Stands M T whole main (counts n (f + 1) 0 0) 0 left (added D (AddsFunction args locals))
      × (meaning_of T Functions (function_name main f) ≡ Ok f)
  header_step n f p k label args locals left D room few some s =
      let c = counts n f p k in
      let ws = header_words main f args locals in
      let name = function_name main f in
      let d = definition Functions name s.line f in
      let are = words_spaced ws (header_are_words main f args locals (omega arith) (omega arith) (omega arith)) in
      let named = is_function_name main f (omega arith) in
      let adds : option_to_list (definition_of c s.line (Some forms.Function) ws) ≡ d
      ∷ [] = ap option_to_list (is_defined Functions name s.line f named) in
      let is = header_form main f args locals in
      let found = found_next T s.before c s.line (header_row main f args locals) left forms.Function ws Functions name f s.table are is
      adds (s.free.of_functions f (omega arith) (omega arith)) in
      let new = is_new T Functions name s.line f (nat_lt f FUNCTIONS) named (below f FUNCTIONS room) found in (
        stands_on s forms.Function ws (d ∷ []) (AddsFunction args locals) (counts n (f + 1) 0 0) 0 are is adds
            (λ m. said_header T c s.line 0 main f args locals refl new (omega arith) few some) refl
            (ap (λ q. counts n q 0 0) (more_is f (omega arith))) (free_function s.before main n f label s.line s.free (omega arith)),
        means T Functions name s.line f found,
      )

  -- a reader that comes to a label's row adds nothing, and the label means its place
  label_step : (n g p : ℕ) (left : List (List ℕ)) (D : Draft) → p ≤ MOST_INDEX
      → Stands M T whole main (counts n (g + 1) p 0) p (label_row p ∷ left) D
      → Stands M T whole main (counts n (g + 1) p 0) (p + 1) left D × (meaning_of T (Labels (g + 1)) (label_name p) ≡ Ok p)
  label_step n g p left D most s =
      let c = counts n (g + 1) p 0 in
      let ws = label_words p in
      let name = label_name p in
      let scope = Labels (g + 1) in
      let d = definition scope name s.line p in
      let are = words_spaced ws (label_are_words p most) in
      let named = is_label_name p most in
      let adds : option_to_list (definition_of c s.line (Some forms.Label) ws) ≡ d
      ∷ [] = rw (label_of_colon name) (ap option_to_list (is_defined scope name s.line p named)) in
      let found = found_next T s.before c s.line (label_row p) left forms.Label ws scope name p s.table are (label_form p) adds
      (s.free.here p (omega arith) most) in
      let new = is_new T scope name s.line p true named refl found in (
        stands_on s forms.Label ws (d ∷ []) AddsNothing c (p + 1) are (label_form p) adds
            (λ m. said_label T c s.line 0 p refl (some_function g) new most) refl refl
            (free_label s.before main n (g + 1) p s.line s.free most),
        means T scope name s.line p found,
      )

  -- the label of a place, if it is named
  slot_step : (named : Bool) (n g p : ℕ) (left : List (List ℕ)) (D : Draft) → p ≤ MOST_INDEX
      → Stands M T whole main (counts n (g + 1) p 0) p (label_rows named p left) D
      → Stands M T whole main (counts n (g + 1) p 0) (p + 1) left D × (named ≡ true → meaning_of T (Labels (g + 1)) (label_name p) ≡ Ok p)
  slot_step true n g p left D most s = let both = label_step n g p left D most s in (both.0, λ is. both.1)
  slot_step false n g p left D most s = (
    record { before = s.before; line = s.line; table = s.table; going = s.going; free = free_place s.before main n (g + 1) p s.free },
    λ is. cc,
  )

  -- a row that defines nothing
  plain_step : (c k : Counts) (label : ℕ) (row : List ℕ) (left : List (List ℕ)) (D : Draft)
      (s : Stands M T whole main c label (row ∷ left) D) (form : Form) (ws : List (List ℕ)) (a : Addition)
      → words row ≡ ws → form_of ws ≡ Some form → option_to_list (definition_of c s.line (Some form) ws) ≡ []
      → (M → said T c s.line 0 row ≡ Ok a) → inputs_in a ≡ [] → counted c (Some form) ≡ k → k.classes ≡ c.classes → k.functions
      ≡ c.functions
      → Stands M T whole main k label left (added D a)
  plain_step c k label row left D s form ws a are is adds says none count classes functions =
      let free : AreFree (s.before ++ []) main k.classes k.functions label =
      subst (λ n. AreFree (s.before ++ []) main n k.functions label) (sym classes)
      (subst (λ f. AreFree (s.before ++ []) main c.classes f label) (sym functions)
      (subst (λ b. AreFree b main c.classes c.functions label) (sym (append-nil s.before)) s.free))
      in
      stands_on s form ws [] a k label are is adds says none count free

  -- a reader that comes to an instruction's row adds the instruction, where its operands fit and the names they need are known
  instr_step : (n g p label : ℕ) (i : Instr) (left : List (List ℕ)) (D : Draft) → p < MOST_INDEX → Fits (operand_of i)
      → (M → Known T (counts n (g + 1) p 0) main (operand_of i))
      → Stands M T whole main (counts n (g + 1) p 0) label (instr_row main i ∷ left) D
      → Stands M T whole main (counts n (g + 1) (p + 1) 0) label left (added D (AddsInstruction i))
  instr_step n g p label i left D most fits knows s =
      let c = counts n (g + 1) p 0 in
      plain_step c (counts n (g + 1) (p + 1) 0) label (instr_row main i) left D s (forms.Instruction (template_for i)) (instr_words main i)
      (AddsInstruction i)
      (words_indented (instr_words main i) (instr_are_words main i fits)) (instr_form main i) refl
      (λ m. said_instr T c s.line 0 main i refl (some_function g) fits (knows m)) refl
      (ap (λ q. counts n (g + 1) q 0) (more_is p most)) refl refl

  -- a reader that comes to a catch's row adds the catch, where its labels mean their places
  catch_step : (n g p k label : ℕ) (h : Catch) (left : List (List ℕ)) (D : Draft) → k < CATCHES → h.from ≤ MOST_INDEX → h.to ≤ MOST_INDEX
      → h.target ≤ MOST_INDEX
      → (M → (meaning_of T (Labels (g + 1)) (label_name h.from) ≡ Ok h.from) × (meaning_of T (Labels (g + 1)) (label_name h.to) ≡ Ok h.to)
      × (meaning_of T (Labels (g + 1)) (label_name h.target) ≡ Ok h.target))
      → Stands M T whole main (counts n (g + 1) p k) label (catch_row h ∷ left) D
      → Stands M T whole main (counts n (g + 1) p (k + 1)) label left (added D (AddsCatch h))
  catch_step n g p k label h left D room from to target knows s =
      let c = counts n (g + 1) p k in
      plain_step c (counts n (g + 1) p (k + 1)) label (catch_row h) left D s forms.Catch (catch_words h) (AddsCatch h)
      (words_indented (catch_words h) (catch_are_words h from to target)) (catch_form h) refl
      (λ m. let known = knows m in said_catch T c s.line 0 h refl (some_function g) (below k CATCHES room) known.0 known.1 known.2 from to
      target) refl
      (ap (λ q. counts n (g + 1) p q) (more_is k (omega arith))) refl refl

-- ## Drafts

-- the draft of classes alone, with this main
abbrev pub classes_draft : List Fields → Option ℕ → Draft
classes_draft Cs m = record { classes = Cs; functions = []; main = m }

-- the draft whose last function is this one, after these others
abbrev pub draft_with : List Fields → List Function → Function → Option ℕ → Draft
draft_with Cs Fs F m = record { classes = Cs; functions = Fs ++ F ∷ []; main = m }

-- a change of the last function changes the one that was put at the end
last_changed : (change : Function → Function) (Fs : List Function) (F : Function) → with_last change (Fs ++ F ∷ []) ≡ Fs ++ change F ∷ []
last_changed change [] F = refl
last_changed change (G ∷ []) F = refl
last_changed change (G ∷ H ∷ Fs) F = ap (λ l. G ∷ l) (last_changed change (H ∷ Fs) F)

-- ## Classes

-- a class with no more fields than a class may have
abbrev pub IsShortClass : Fields → Type 0
IsShortClass fields = (fields.plain ≤ VARIABLES) × (fields.volatile ≤ VOLATILES)

-- a reader that goes through the rows of classes has added them all, and each class's name means its number
pub walk_classes : {M : Type 0} {T : List Definition} {whole : Result (Draft × List ℤ) LineFault} {main : ℕ} (Cs : List Fields) (n end : ℕ)
    (done all : List Fields) (m : Option ℕ) (rest : List (List ℕ))
    → end ≡ n + length Cs → end ≤ CLASSES → all ≡ done ++ Cs → AllByRecursion IsShortClass Cs
    → Stands M T whole main (counts n 0 0 0) 0 (class_rows n Cs rest) (classes_draft done m)
    → Stands M T whole main (counts end 0 0 0) 0 rest (classes_draft all m)
    × ((k : ℕ) → n ≤ k → k < end → meaning_of T Classes (class_name k) ≡ Ok k)
walk_classes [] n end done all m rest count room is short s = (
  moved (counts n 0 0 0) (counts end 0 0 0) 0 0 (classes_draft done m) (classes_draft all m) (ap (λ q. counts q 0 0 0) (omega arith)) refl
      (ap (λ l. classes_draft l m) (sym (append-nil done) ∙ sym is)) s,
  λ k from to. absurd (omega arith),
)
walk_classes {M} {T} {whole} {main} (fields ∷ Cs) n end done all m rest count room is short s =
    let first = class_step n fields (class_rows (n + 1) Cs rest) (classes_draft done m) (omega arith) short.0.0 short.0.1 s in
    let others = walk_classes Cs (n + 1) end (done ++ fields ∷ []) all m rest (omega arith) room (is
    ∙ sym (append_assoc done (fields ∷ []) Cs)) short.1 first.0 in (
      others.0,
      λ k from to. elim (cases_lt n k) [
        | inl more ↦ others.1 k (omega (arith, more)) to
        | inr less ↦ subst (λ q. meaning_of T Classes (class_name q) ≡ Ok q) (omega (arith, less)) first.1
      ],
    )

-- ## What the operands name

-- what the operand of an instruction of F names is there, and its label is listed
abbrev pub IsThere : Bytecode → Function → Operand → Type 0
IsThere P F (Label to) = (to ≤ length F.code) × (names_of F to ≡ true)
IsThere P F (OfFunction f) = f < length P.functions
IsThere P F (Class c) = c < length P.classes
IsThere P F Nothing = Unit {0}
IsThere P F (Value n) = Unit {0}
IsThere P F (Index k) = Unit {0}
IsThere P F (IndexAndValue k n) = Unit {0}
IsThere P F (Code code) = Unit {0}

-- a line can say the instruction
pub record IsSayable (P : Bytecode) (F : Function) (i : Instr) : Type 0 where
  pub fits : Fits (operand_of i)
  pub there : IsThere P F (operand_of i)

-- a place of a function, or its end, that a jump or a catch names
abbrev pub IsLabel : Function → ℕ → Type 0
IsLabel F at = (at ≤ length F.code) × (names_of F at ≡ true)

-- the places of a catch of F are listed
abbrev pub IsHandler : Function → Catch → Type 0
IsHandler F h = IsLabel F h.from × IsLabel F h.to × IsLabel F h.target

-- the lines can say the function
pub record IsListable (P : Bytecode) (F : Function) : Type 0 where
  pub args : F.args ≤ LOCALS
  pub locals : F.locals ≤ LOCALS
  pub code : length F.code ≤ CODE
  pub catches : length F.catches ≤ CATCHES
  pub instrs : AllByRecursion (IsSayable P F) F.code
  pub handlers : AllByRecursion (IsHandler F) F.catches

-- the names of all classes and functions have their meanings
abbrev pub Meant : Bytecode → List Definition → Type 0
Meant P T = ((k : ℕ) → k < length P.classes → meaning_of T Classes (class_name k) ≡ Ok k)
    × ((f : ℕ) → f < length P.functions → meaning_of T Functions (function_name P.main f) ≡ Ok f)

-- the labels of function g - 1 have their meanings
abbrev pub Labelled : List Definition → ℕ → Function → Type 0
Labelled T g F = (p : ℕ) → IsLabel F p → meaning_of T (Labels g) (label_name p) ≡ Ok p

-- the name that an operand needs is known, where classes, functions and labels have their meanings
knows : (P : Bytecode) (F : Function) (T : List Definition) (n g p k : ℕ) (o : Operand) → IsThere P F o → Meant P T → Labelled T g F
    → Known T (counts n g p k) P.main o
knows P F T n g p k Nothing there meant labels = tt
knows P F T n g p k (Value z) there meant labels = tt
knows P F T n g p k (Index j) there meant labels = tt
knows P F T n g p k (IndexAndValue j z) there meant labels = tt
knows P F T n g p k (Code code) there meant labels = tt
knows P F T n g p k (Label to) there meant labels = labels to there
knows P F T n g p k (OfFunction f) there meant labels = meant.1 f there
knows P F T n g p k (Class c) there meant labels = meant.0 c there

-- ## One function

-- a function of which so many instructions and catches are read
abbrev pub part : Function → List Instr → List Catch → Function
part F code catches = record { args = F.args; locals = F.locals; code = code; catches = catches }

module _ (P : Bytecode) (F : Function) (T : List Definition) (whole : Result (Draft × List ℤ) LineFault) (Cs : List Fields)
    (Fs : List Function) (m : Option ℕ) where
  -- a reader that goes through the rows of a function's code has added all its instructions, and the labels before them mean
  -- their places
  walk_code : (n g : ℕ) (is : List Instr) (at end : ℕ) (done all : List Instr) (rest : List (List ℕ))
      → end ≡ at + length is → end ≤ CODE → all ≡ done ++ is → AllByRecursion (IsSayable P F) is
      → Stands (Meant P T × Labelled T (g + 1) F) T whole P.main (counts n (g + 1) at 0) at (code_rows P.main (names_of F) at is rest)
      (draft_with Cs Fs (part F done []) m)
      → Stands (Meant P T × Labelled T (g + 1) F) T whole P.main (counts n (g + 1) end 0) end rest (draft_with Cs Fs (part F all []) m)
      × ((p : ℕ) → at ≤ p → p < end → names_of F p ≡ true → meaning_of T (Labels (g + 1)) (label_name p) ≡ Ok p)
  walk_code n g [] at end done all rest count room is sayable s = (
    moved (counts n (g + 1) at 0) (counts n (g + 1) end 0) at end (draft_with Cs Fs (part F done []) m) (draft_with Cs Fs (part F all []) m)
        (ap (λ q. counts n (g + 1) q 0) (omega arith)) (omega arith)
        (ap (λ l. draft_with Cs Fs (part F l []) m) (sym (append-nil done) ∙ sym is)) s,
    λ p from to. absurd (omega arith),
  )
  walk_code n g (i ∷ is) at end done all rest count room same sayable s =
      let D = draft_with Cs Fs (part F done []) m in
      let next = code_rows P.main (names_of F) (at + 1) is rest in
      let slot = slot_step (names_of F at) n g at (instr_row P.main i ∷ next) D (omega arith) s in
      let said = instr_step n g at (at + 1) i next D (omega arith) sayable.0.fits
      (λ known. knows P F T n (g + 1) at 0 (operand_of i) sayable.0.there known.0 known.1) slot.0 in
      let onward = moved (counts n (g + 1) (at + 1) 0) (counts n (g + 1) (at + 1) 0) (at + 1) (at + 1) (added D (AddsInstruction i))
      (draft_with Cs Fs (part F (done ++ i ∷ []) []) m) refl refl
      (ap (λ l. record { classes = Cs; functions = l; main = m })
      (last_changed (λ G. record G { code = G.code ++ i ∷ [] }) Fs (part F done []))) said in
      let others = walk_code n g is (at + 1) end (done ++ i ∷ []) all rest (omega arith) room (same ∙ sym (append_assoc done (i ∷ []) is))
      sayable.1 onward in (
        others.0,
        λ p from to named. elim (cases_lt at p) [
          | inl more ↦ others.1 p (omega (arith, more)) to named
          | inr less ↦
              let here : at ≡ p = omega (arith, less) in
              subst (λ q. meaning_of T (Labels (g + 1)) (label_name q) ≡ Ok q) here (slot.1 (ap (names_of F) here ∙ named))
        ],
      )

  -- a reader that goes through the rows of a function's catches has added them all
  walk_catches : (n g p label : ℕ) (hs : List Catch) (k end : ℕ) (done all : List Catch) (rest : List (List ℕ))
      → end ≡ k + length hs → end ≤ CATCHES → all ≡ done ++ hs → length F.code ≤ CODE → AllByRecursion (IsHandler F) hs
      → Stands (Meant P T × Labelled T (g + 1) F) T whole P.main (counts n (g + 1) p k) label (catch_rows hs rest)
      (draft_with Cs Fs (part F F.code done) m)
      → Stands (Meant P T × Labelled T (g + 1) F) T whole P.main (counts n (g + 1) p end) label rest
      (draft_with Cs Fs (part F F.code all) m)
  walk_catches n g p label [] k end done all rest count room is short handlers s =
      moved (counts n (g + 1) p k) (counts n (g + 1) p end) label label (draft_with Cs Fs (part F F.code done) m)
      (draft_with Cs Fs (part F F.code all) m)
      (ap (λ q. counts n (g + 1) p q) (omega arith)) refl (ap (λ l. draft_with Cs Fs (part F F.code l) m) (sym (append-nil done) ∙ sym is))
      s
  walk_catches n g p label (h ∷ hs) k end done all rest count room is short handlers s =
      let D = draft_with Cs Fs (part F F.code done) m in
      let mine = handlers.0 in
      let within : (h.from ≤ length F.code) × (h.to ≤ length F.code) × (h.target ≤ length F.code) = (mine.0.0, mine.1.0, mine.2.0) in
      let said = catch_step n g p k label h (catch_rows hs rest) D (omega arith) (omega (arith, within.0)) (omega (arith, within.1))
      (omega (arith, within.2))
      (λ known. (known.1 h.from mine.0, known.1 h.to mine.1, known.1 h.target mine.2)) s in
      let onward = moved (counts n (g + 1) p (k + 1)) (counts n (g + 1) p (k + 1)) label label (added D (AddsCatch h))
      (draft_with Cs Fs (part F F.code (done ++ h ∷ [])) m) refl refl
      (ap (λ l. record { classes = Cs; functions = l; main = m })
      (last_changed (λ G. record G { catches = G.catches ++ h ∷ [] }) Fs (part F F.code done))) said in
      walk_catches n g p label hs (k + 1) end (done ++ h ∷ []) all rest (omega arith) room (is ∙ sym (append_assoc done (h ∷ []) hs)) short
      handlers.1 onward

-- where more is known, the same is
weaker : {M N : Type 0} {T : List Definition} {whole : Result (Draft × List ℤ) LineFault} {main : ℕ} {c : Counts} {label : ℕ}
    {left : List (List ℕ)} {D : Draft}
    → (N → M) → Stands M T whole main c label left D → Stands N T whole main c label left D
weaker so s = record { before = s.before; line = s.line; table = s.table; going = λ n. s.going (so n); free = s.free }

-- a reader that goes through a function's rows has added the whole function, and its name means its number
walk_function : (P : Bytecode) (F : Function) (T : List Definition) (whole : Result (Draft × List ℤ) LineFault) (Cs : List Fields)
    (Fs : List Function) (m : Option ℕ)
    (n f p k label : ℕ) (rest : List (List ℕ)) → f < FUNCTIONS → IsListable P F
    → Stands (Meant P T) T whole P.main (counts n f p k) label (function_rows P.main f F rest)
    (record { classes = Cs; functions = Fs; main = m })
    → Stands (Meant P T) T whole P.main (counts n (f + 1) (length F.code) (length F.catches)) (length F.code + 1) rest
    (draft_with Cs Fs F m)
    × (meaning_of T Functions (function_name P.main f) ≡ Ok f)
walk_function P F T whole Cs Fs m n f p k label rest room listable s =
    let end = length F.code in
    let handlers = catch_rows F.catches rest in
    let last = label_rows (names_of F end) end handlers in
    let headed = header_step n f p k label F.args F.locals (code_rows P.main (names_of F) 0 F.code last)
    (record { classes = Cs; functions = Fs; main = m }) room listable.args listable.locals s in
    let started = weaker {N = Meant P T × Labelled T (f + 1) F} (λ known. known.0) headed.0 in
    let coded = walk_code P F T whole Cs Fs m n f F.code 0 end [] F.code last (omega arith) listable.code refl listable.instrs started in
    let slot = slot_step (names_of F end) n f end handlers (draft_with Cs Fs (part F F.code []) m) (omega (arith, listable.code)) coded.0 in
    let labels : Labelled T (f + 1) F = λ at is. elim (cases_lt at end) [
      | inl inside ↦ coded.1 at (omega arith) inside is.1
      | inr past ↦
          let here : end ≡ at = omega (arith, past, is.0) in
          subst (λ q. meaning_of T (Labels (f + 1)) (label_name q) ≡ Ok q) here (slot.1 (ap (names_of F) here ∙ is.1))
    ] in
    let caught = walk_catches P F T whole Cs Fs m n f end (end + 1) F.catches 0 (length F.catches) [] F.catches rest (omega arith)
    listable.catches refl listable.code listable.handlers slot.0 in
    (weaker (λ known. (known, labels)) caught, headed.1)

-- ## All functions

-- a reader that goes through the rows of all functions has read the whole text, and each function's name means its number
pub walk_functions : (P : Bytecode) (T : List Definition) (whole : Result (Draft × List ℤ) LineFault) (Cs : List Fields) (m : Option ℕ)
    (Gs : List Function) (n f end p k label : ℕ) (done all : List Function) → end ≡ f + length Gs → end ≤ FUNCTIONS → all ≡ done ++ Gs
    → AllByRecursion (IsListable P) Gs
    → Stands (Meant P T) T whole P.main (counts n f p k) label (functions_rows P.main f Gs)
    (record { classes = Cs; functions = done; main = m })
    → (Meant P T → Ok (record { classes = Cs; functions = all; main = m }, []) ≡ whole)
    × ((g : ℕ) → f ≤ g → g < end → meaning_of T Functions (function_name P.main g) ≡ Ok g)
walk_functions P T whole Cs m [] n f end p k label done all count room is listable s = (
  λ known. ap (λ l. Ok (record { classes = Cs; functions = l; main = m }, [])) (is ∙ append-nil done)
      ∙ s.going known,
  λ g from to. absurd (omega arith),
)
walk_functions P T whole Cs m (F ∷ Gs) n f end p k label done all count room is listable s =
    let first = walk_function P F T whole Cs done m n f p k label (functions_rows P.main (f + 1) Gs) (omega arith) listable.0 s in
    let others = walk_functions P T whole Cs m Gs n (f + 1) end (length F.code) (length F.catches) (length F.code + 1) (done ++ F ∷ []) all
    (omega arith) room
    (is ∙ sym (append_assoc done (F ∷ []) Gs)) listable.1 first.0 in (
      others.0,
      λ g from to. elim (cases_lt f g) [
        | inl more ↦ others.1 g (omega (arith, more)) to
        | inr less ↦ subst (λ q. meaning_of T Functions (function_name P.main q) ≡ Ok q) (omega (arith, less)) first.1
      ],
    )
