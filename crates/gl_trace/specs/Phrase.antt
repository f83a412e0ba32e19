-- What a line's words say, apart from the lines before it: a thread and an item, or the kind of the first fault in
-- the order in which it is looked for.
use Rattle.std.specs.Prelude.{ℕ, ◌-◌, List, [], ◌∷◌, Option, Some, None, Result, Ok, Err, bytes_eq, codes, if◌then◌else◌}
use Rattle.gl_model.specs.declared.limits.TheConstants.{THREADS}
use Rattle.gl_model.specs.declared.row.Item.{Item}
use Rattle.gl_model.specs.declared.row.Item.TheVariants.{Commit as Commits}
use Rattle.gl_model.specs.TraceSteps.{Step}
use Rattle.gl_text.specs.declared.kinds.TheConstants.{UNKNOWN_WORD, WORD_COUNT, BAD_SET}
use Rattle.gl_trace.specs.declared.form.Form.{Form}
use Rattle.gl_trace.specs.declared.form.Form.TheVariants.{One, Commit}
use Rattle.gl_trace.specs.declared.form.Verb.{Verb}
use Rattle.gl_trace.specs.Form.{form_of, most_of, item_of}
use Rattle.gl_trace.specs.Ids.{operand_of, set_of}

infixl 10 ◌>>=◌
abbrev pub ◌>>=◌ : {A B E : Type 0} → Result A E → (A → Result B E) → Result B E
(Ok x) >>= f = f x
(Err e) >>= f = Err e

-- the first of some words
abbrev pub first_of : List (List ℕ) → Result (List ℕ) ℕ
first_of [] = Err WORD_COUNT
first_of (w ∷ ws) = Ok w

-- the only one of some words
abbrev pub only_of : List (List ℕ) → Result (List ℕ) ℕ
only_of [] = Err WORD_COUNT
only_of (w ∷ []) = Ok w
only_of (w ∷ v ∷ ws) = Err WORD_COUNT

abbrev pub rest_of : List (List ℕ) → List (List ℕ)
rest_of [] = []
rest_of (w ∷ ws) = ws

-- a word that has to stand where it stands
abbrev pub fixed : List ℕ → List ℕ → Result (Unit {0}) ℕ
fixed told word = if bytes_eq word told then Ok tt else Err UNKNOWN_WORD

-- one operand
unfoldable pub verb_said : Verb → List (List ℕ) → Result Item ℕ
verb_said verb others = do
  word ← only_of others
  n ← operand_of (most_of verb) word
  Ok (item_of verb n)

-- the two lists of a commit, behind an r and a w
unfoldable pub lists_of : List (List ℕ) → Result (List ℕ × List ℕ) ℕ
lists_of others = do
  r ← first_of others
  r_stands ← fixed (codes "r") r
  reads ← first_of (rest_of others)
  w ← first_of (rest_of (rest_of others))
  w_stands ← fixed (codes "w") w
  writes ← only_of (rest_of (rest_of (rest_of others)))
  Ok (reads, writes)

abbrev pub commit_item : Option (List ℕ) → Option (List ℕ) → Result Item ℕ
commit_item None writes = Err BAD_SET
commit_item (Some reads) None = Err BAD_SET
commit_item (Some reads) (Some writes) = Ok (Commits reads writes)

unfoldable pub commit_said : List (List ℕ) → Result Item ℕ
commit_said others = do
  lists ← lists_of others
  reads ← set_of lists.0
  writes ← set_of lists.1
  commit_item reads writes

abbrev pub form_said : Form → List (List ℕ) → Result Item ℕ
form_said (One verb) others = verb_said verb others
form_said Commit others = commit_said others

unfoldable pub step_said : List ℕ → List (List ℕ) → Result Step ℕ
step_said first others = do
  thread ← operand_of (THREADS - 1) first
  word ← first_of others
  form ← form_of word
  item ← form_said form (rest_of others)
  Ok (thread, item)

-- the step of the thread, if there is one, with this item
abbrev pub step_with : Item → Option ℕ → Option Step
step_with item None = None
step_with item (Some t) = Some (t, item)

abbrev pub as_some : Result Step ℕ → Result (Option Step) ℕ
as_some (Ok s) = Ok (Some s)
as_some (Err kind) = Err kind

-- what the words of a line say: nothing, a step, or the kind of a fault
abbrev pub said : List (List ℕ) → Result (Option Step) ℕ
said [] = Ok None
said (first ∷ others) = as_some (step_said first others)
