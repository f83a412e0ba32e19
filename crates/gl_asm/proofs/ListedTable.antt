-- Going through the rows of a listing: how far a reader has come, what is added so far, and which names are still free.
use Rattle.std.proofs.Common.{◌≡◌, ◌+◌, ◌<◌, ◌≤◌, ◌==◌, ◌&&◌, ℕ, ℤ, List, [], ◌∷◌, ◌++◌, Bool, true, false, Some, None, Ok, length, refl, ap, sym, ◌∙◌, arith, append_assoc, nat_lt, find, bytes_eq, cond}
use Rattle.std.specs.Prelude.{Result, option_to_list}
use Rattle.std.specs.Option.{option_or}
use Rattle.std.proofs.lemmas.List.Folds.{find-append}
use Rattle.std.proofs.lemmas.Slice.Eq.{bytes_eq-Decides}
use Rattle.std.proofs.lemmas.Bool.Decides.{nat_tests}
use Rattle.gl_text.specs.Text.{words}
use Rattle.gl_bytecode.specs.Programs.{Draft}
use Rattle.gl_asm.specs.declared.additions.Addition.{Addition}
use Rattle.gl_asm.specs.declared.definitions.Definition.{Definition}
use Rattle.gl_asm.specs.declared.definitions.Scope.{Scope}
use Rattle.gl_asm.specs.declared.definitions.Scope.TheVariants.{Classes, Functions, Labels}
use Rattle.gl_asm.specs.declared.forms.Counts.{Counts}
use Rattle.gl_asm.specs.declared.forms.Form.{Form}
use Rattle.gl_asm.specs.declared.limits.TheConstants.{MOST_INDEX}
use Rattle.gl_asm.specs.Additions.{meaning_of, meant, new_name}
use Rattle.gl_asm.specs.Definitions.{defines, definition_of, definitions_from, first_definition, named, same_scope}
use Rattle.gl_asm.specs.Forms.{counted, form_of, more}
use Rattle.gl_asm.specs.Listing.{function_name, label_name}
use Rattle.gl_asm.specs.Names.{is_name}
use Rattle.gl_asm.specs.Sayings.{said}
use Rattle.gl_asm.specs.Texts.{LineFault, added, built, inputs_in, read_from}
use Rattle.gl_asm.proofs.ListedNames.{class_name, eq_class, eq_function, eq_label}
use Rattle.gl_asm.proofs.Reading.{line_more}

-- ## Counts

-- the counts of so many classes, functions, places and catches, before the inputs
abbrev pub counts : ℕ → ℕ → ℕ → ℕ → Counts
counts classes functions places catches =
    record { classes = classes; functions = functions; places = places; catches = catches; given = false }

-- a count below its upper end goes up by one
pub more_is : (n : ℕ) → n < MOST_INDEX → more n ≡ n + 1
more_is n below = omega arith

-- ## Looking up

-- no definition so far is of that name
abbrev pub IsFree : List Definition → Scope → List ℕ → Type 0
IsFree before scope name = find (defines scope name) before ≡ None

-- a word has the same bytes as itself
same_bytes : (w : List ℕ) → bytes_eq w w ≡ true
same_bytes w = (bytes_eq-Decides w w).1 refl

-- a scope is the same as itself
itself : (scope : Scope) → same_scope scope scope ≡ true
itself Classes = refl
itself Functions = refl
itself (Labels f) = grind (arith, nat_tests)

-- the definition of a name in a scope, at a line, with a number
abbrev pub definition : Scope → List ℕ → ℕ → ℕ → Definition
definition scope name line number = record { scope = scope; name = name; line = line; number = number }

-- a definition defines its own name in its own scope
pub defines_itself : (scope : Scope) (name : List ℕ) (line number : ℕ) → defines scope name (definition scope name line number) ≡ true
defines_itself scope name line number = ap (λ b. b && bytes_eq name name) (itself scope) ∙ same_bytes name

-- an element that passes is found where none before it does
find_first : (p : Definition → Bool) (before : List Definition) (d : Definition) (behind : List Definition) → find p before ≡ None → p d
    ≡ true
    → find p (before ++ d ∷ behind) ≡ Some d
find_first p before d behind none is =
    find-append p before (d ∷ behind) ∙ ap (λ o. option_or o (find p (d ∷ behind))) none ∙ ap (λ b. cond b (Some d) (find p behind)) is

-- none is found where none was, and one that does not pass is put at the end
find_none : (p : Definition → Bool) (before : List Definition) (d : Definition) → find p before ≡ None → p d ≡ false
    → find p (before ++ d ∷ []) ≡ None
find_none p before d none is = find-append p before (d ∷ []) ∙ ap (λ o. option_or o (find p (d ∷ []))) none
    ∙ ap (λ b. cond b (Some d) None) is

-- a name that is free before its line is that line's
pub found_here : (T before behind : List Definition) (scope : Scope) (name : List ℕ) (line number : ℕ) → IsFree before scope name
    → T ≡ before ++ definition scope name line number ∷ behind → first_definition T scope name ≡ Some (definition scope name line number)
found_here T before behind scope name line number free is =
    ap (λ t. find (defines scope name) t) is
    ∙ find_first (defines scope name) before (definition scope name line number) behind free (defines_itself scope name line number)

-- a name whose first definition has a number means that number
pub means : (T : List Definition) (scope : Scope) (name : List ℕ) (line number : ℕ) → first_definition T scope name
    ≡ Some (definition scope name line number)
    → meaning_of T scope name ≡ Ok number
means T scope name line number is = ap meant is

-- no number is less than itself
not_less : (n : ℕ) → nat_lt n n ≡ false
not_less n = grind (arith, nat_tests)

-- a name whose first definition is in this very line is new there, where it is a name and there is room
pub is_new : (T : List Definition) (scope : Scope) (name : List ℕ) (line number : ℕ) (room : Bool) → is_name name ≡ true → room ≡ true
    → first_definition T scope name ≡ Some (definition scope name line number) → new_name T scope line room name ≡ Ok tt
is_new T scope name line number room named there is = rw named (rw there (rw is (rw (not_less line) refl)))

-- a line with a name in the place for it defines that name
pub is_defined : (scope : Scope) (name : List ℕ) (line number : ℕ) → is_name name ≡ true → named scope line number (Some name)
    ≡ Some (definition scope name line number)
is_defined scope name line number is = rw is refl

-- ## Free names

-- of classes, functions and labels those that are still to come: from these numbers on, and of the last function's labels from this place
-- on
pub record AreFree (before : List Definition) (main classes functions label : ℕ) : Type 0 where
  pub of_classes : (k : ℕ) → classes ≤ k → k ≤ MOST_INDEX → IsFree before Classes (class_name k)
  pub of_functions : (k : ℕ) → functions ≤ k → k ≤ MOST_INDEX → IsFree before Functions (function_name main k)
  pub of_labels : (g at : ℕ) → functions < g → IsFree before (Labels g) (label_name at)
  pub here : (at : ℕ) → label ≤ at → at ≤ MOST_INDEX → IsFree before (Labels functions) (label_name at)

-- a number that is less than another is not equal to it
differ : (a b : ℕ) → a < b → (a == b) ≡ false
differ a b less = grind (arith, nat_tests)

-- no name is defined before the first line
pub nothing_free : (main : ℕ) → AreFree [] main 0 0 0
nothing_free main = record {
  of_classes = λ k from most. refl;
  of_functions = λ k from most. refl;
  of_labels = λ g at from. refl;
  here = λ at from most. refl;
}

-- a class's line defines its own name, and the names of all later classes, functions and labels stay free
pub free_class : (before : List Definition) (main classes functions label line : ℕ) → AreFree before main classes functions label
    → classes ≤ MOST_INDEX
    → AreFree (before ++ definition Classes (class_name classes) line classes ∷ []) main (classes + 1) functions label
free_class before main classes functions label line free within =
    let d = definition Classes (class_name classes) line classes in
    record {
      of_classes = λ k from most. find_none (defines Classes (class_name k)) before d (free.of_classes k (omega arith) most)
          (eq_class classes k within most ∙ differ classes k (omega arith));
      of_functions = λ k from most. find_none (defines Functions (function_name main k)) before d (free.of_functions k from most) refl;
      of_labels = λ g at from. find_none (defines (Labels g) (label_name at)) before d (free.of_labels g at from) refl;
      here = λ at from most. find_none (defines (Labels functions) (label_name at)) before d (free.here at from most) refl;
    }

-- a function's header defines its own name, and the names of later functions and of all its labels stay free
pub free_function : (before : List Definition) (main classes functions label line : ℕ) → AreFree before main classes functions label
    → functions ≤ MOST_INDEX
    → AreFree (before ++ definition Functions (function_name main functions) line functions ∷ []) main classes (functions + 1) 0
free_function before main classes functions label line free within =
    let d = definition Functions (function_name main functions) line functions in
    record {
      of_classes = λ k from most. find_none (defines Classes (class_name k)) before d (free.of_classes k from most) refl;
      of_functions = λ k from most. find_none (defines Functions (function_name main k)) before d (free.of_functions k (omega arith) most)
          (eq_function main functions k within most ∙ differ functions k (omega arith));
      of_labels = λ g at from. find_none (defines (Labels g) (label_name at)) before d (free.of_labels g at (omega arith)) refl;
      here = λ at from most. find_none (defines (Labels (functions + 1)) (label_name at)) before d
          (free.of_labels (functions + 1) at (omega arith)) refl;
    }

-- a label's line defines its own name, and the names of the function's later labels stay free
pub free_label : (before : List Definition) (main classes functions label line : ℕ) → AreFree before main classes functions label
    → label ≤ MOST_INDEX
    → AreFree (before ++ definition (Labels functions) (label_name label) line label ∷ []) main classes functions (label + 1)
free_label before main classes functions label line free within =
    let d = definition (Labels functions) (label_name label) line label in
    record {
      of_classes = λ k from most. find_none (defines Classes (class_name k)) before d (free.of_classes k from most) refl;
      of_functions = λ k from most. find_none (defines Functions (function_name main k)) before d (free.of_functions k from most) refl;
      of_labels = λ g at from. find_none (defines (Labels g) (label_name at)) before d (free.of_labels g at from)
          (ap (λ b. b && bytes_eq (label_name label) (label_name at)) (differ functions g from));
      here = λ at from most. find_none (defines (Labels functions) (label_name at)) before d (free.here at (omega arith) most)
          (ap (λ b. b && bytes_eq (label_name label) (label_name at)) (itself (Labels functions)) ∙ eq_label label at within most
          ∙ differ label at (omega arith));
    }

-- a place without a label
pub free_place : (before : List Definition) (main classes functions label : ℕ) → AreFree before main classes functions label
    → AreFree before main classes functions (label + 1)
free_place before main classes functions label free = record {
  of_classes = free.of_classes;
  of_functions = free.of_functions;
  of_labels = free.of_labels;
  here = λ at from most. free.here at (omega arith) most;
}

-- ## How far a reader has come

-- behind these lines, with this table of definitions, are those rows left; where M holds, what they add to what is there is the whole
pub record Stands (M : Type 0) (T : List Definition) (whole : Result (Draft × List ℤ) LineFault) (main : ℕ) (c : Counts) (label : ℕ)
    (left : List (List ℕ)) (D : Draft) : Type 0 where
  pub before : List Definition
  pub line : ℕ
  pub table : T ≡ before ++ definitions_from c line left
  pub going : M → built D [] (read_from T c line 0 left) ≡ whole
  pub free : AreFree before main c.classes c.functions label

-- the table behind one row more
table_more : (T before : List Definition) (c : Counts) (line : ℕ) (row : List ℕ) (left : List (List ℕ)) (form : Form) (ws : List (List ℕ))
    (ds : List Definition)
    → T ≡ before ++ definitions_from c line (row ∷ left) → words row ≡ ws → form_of ws ≡ Some form
    → option_to_list (definition_of c line (Some form) ws) ≡ ds
    → T ≡ (before ++ ds) ++ definitions_from (counted c (Some form)) (line + 1) left
table_more T before c line row left form ws ds table are is adds =
    let fs : form_of (words row) ≡ Some form = ap form_of are ∙ is in
    table
    ∙ ap (λ f. before ++ (option_to_list (definition_of c line f (words row)) ++ definitions_from (counted c f) (line + 1) left)) fs
    ∙ ap (λ w. before ++ (option_to_list (definition_of c line (Some form) w) ++ definitions_from (counted c (Some form)) (line + 1) left))
    are
    ∙ ap (λ l. before ++ (l ++ definitions_from (counted c (Some form)) (line + 1) left)) adds
    ∙ sym (append_assoc before ds (definitions_from (counted c (Some form)) (line + 1) left))

-- what is added behind one row more
added_more : (T : List Definition) (whole : Result (Draft × List ℤ) LineFault) (c : Counts) (line : ℕ) (row : List ℕ)
    (left : List (List ℕ)) (D : Draft)
    (form : Form) (a : Addition) → built D [] (read_from T c line 0 (row ∷ left)) ≡ whole → form_of (words row) ≡ Some form
    → said T c line 0 row ≡ Ok a → inputs_in a ≡ [] → built (added D a) [] (read_from T (counted c (Some form)) (line + 1) 0 left) ≡ whole
added_more T whole c line row left D form a going is says none =
    ap (λ f. built (added D a) [] (read_from T (counted c f) (line + 1) 0 left)) (sym is)
    ∙ ap (λ zs. built (added D a) zs (read_from T (counted c (form_of (words row))) (line + 1) (length zs) left)) (sym none)
    ∙ sym (line_more T c line D [] row left a says)
    ∙ going

-- one row more
pub stands_on : {M : Type 0} {T : List Definition} {whole : Result (Draft × List ℤ) LineFault} {main : ℕ} {c : Counts} {label : ℕ}
    {row : List ℕ} {left : List (List ℕ)} {D : Draft}
    (s : Stands M T whole main c label (row ∷ left) D) (form : Form) (ws : List (List ℕ)) (ds : List Definition) (a : Addition)
    (k : Counts) (next : ℕ)
    → words row ≡ ws → form_of ws ≡ Some form → option_to_list (definition_of c s.line (Some form) ws) ≡ ds
    → (M → said T c s.line 0 row ≡ Ok a) → inputs_in a ≡ [] → counted c (Some form) ≡ k
    → AreFree (s.before ++ ds) main k.classes k.functions next → Stands M T whole main k next left (added D a)
stands_on {M} {T} {whole} {main} {c} {label} {row} {left} {D} s form ws ds a k next are is adds says none count free = record {
  before = s.before ++ ds;
  line = s.line + 1;
  table = table_more T s.before c s.line row left form ws ds s.table are is adds
      ∙ ap (λ q. (s.before ++ ds) ++ definitions_from q (s.line + 1) left) count;
  going = λ m.
      ap (λ q. built (added D a) [] (read_from T q (s.line + 1) 0 left)) (sym count)
      ∙ added_more T whole c s.line row left D form a (s.going m) (ap form_of are ∙ is) (says m) none;
  free = free;
}

-- the name that the next row defines is that row's
pub found_next : (T before : List Definition) (c : Counts) (line : ℕ) (row : List ℕ) (left : List (List ℕ)) (form : Form)
    (ws : List (List ℕ))
    (scope : Scope) (name : List ℕ) (number : ℕ)
    → T ≡ before ++ definitions_from c line (row ∷ left) → words row ≡ ws → form_of ws ≡ Some form
    → option_to_list (definition_of c line (Some form) ws) ≡ definition scope name line number ∷ [] → IsFree before scope name
    → first_definition T scope name ≡ Some (definition scope name line number)
found_next T before c line row left form ws scope name number table are is adds free =
    let d = definition scope name line number in
    let behind = definitions_from (counted c (Some form)) (line + 1) left in
    found_here T before behind scope name line number free
    (table_more T before c line row left form ws (d ∷ []) table are is adds ∙ append_assoc before (d ∷ []) behind)
