-- The text of a line of a trace, with the names that the trace gives.
use Rattle.std.specs.Prelude.{ℕ, Bool, if◌then◌else◌, List, [], ◌++◌, codes, Option, Some, None}
use Rattle.std.specs.Fmt.{decimal}
use Rattle.gl_model.specs.declared.event.Act.{Act}
use Rattle.gl_model.specs.declared.event.Act.TheVariants.{Begin, End, Acq, Rel, VRead, VWrite, Fork, Join, Alloc, Print, Input, Fail}
use Rattle.gl_model.specs.declared.row.Item.{Item}
use Rattle.gl_model.specs.declared.row.Item.TheVariants.{Act as Acts, Access, Commit}
use Rattle.gl_model.specs.Trace.{is_in}
use Rattle.gl_names.specs.Names.{Naming}
use Rattle.gl_names.specs.declared.kind.Kind.{Kind}
use Rattle.gl_names.specs.declared.kind.Kind.TheVariants.{Thread, Monitor, Volatile, Variable}
use Rattle.gl_explain.specs.declared.told.Told.{Told}

-- a name in parentheses, where there is one
abbrev pub name_text : Option (List ℕ) → List ℕ
name_text None = []
name_text (Some name) = codes " (" ++ (name ++ codes ")")

-- one of the kind: its number, and its name
abbrev pub thing_text : Naming → Kind → ℕ → List ℕ
thing_text names kind id = decimal id ++ name_text (names kind id)

-- what an act does
abbrev pub act_text : Naming → Act → List ℕ
act_text names (Begin f) = codes "begins"
act_text names End = codes "ends"
act_text names (Acq m) = codes "acquires monitor " ++ thing_text names Monitor m
act_text names (Rel m) = codes "releases monitor " ++ thing_text names Monitor m
act_text names (VRead v) = codes "reads volatile " ++ thing_text names Volatile v
act_text names (VWrite v) = codes "writes volatile " ++ thing_text names Volatile v
act_text names (Fork u f) = codes "forks thread " ++ thing_text names Thread u
act_text names (Join u) = codes "joins thread " ++ thing_text names Thread u
act_text names (Alloc c) = codes "allocates"
act_text names Print = codes "prints"
act_text names Input = codes "takes input"
act_text names (Fail k) = codes "fails"

-- an access of a variable
abbrev pub access_text : Naming → Bool → ℕ → List ℕ
access_text names write x = (if write then codes "writes variable " else codes "reads variable ") ++ thing_text names Variable x

-- what a line does
abbrev pub item_text : Naming → Item → List ℕ
item_text names (Acts act) = act_text names act
item_text names (Access x write) = access_text names write x
item_text names (Commit reads writes) = codes "commits"

-- what a line does to the variable
abbrev pub touch_text : Naming → ℕ → Item → List ℕ
touch_text names var (Acts act) = act_text names act
touch_text names var (Access x write) = access_text names write x
touch_text names var (Commit reads writes) = codes "commits and " ++ access_text names (is_in var writes) var

-- which line it is, and whose
abbrev pub head_text : Naming → Told → List ℕ
head_text names k = codes "line " ++ (decimal k.line ++ (codes ": thread " ++ (thing_text names Thread k.thread ++ codes " ")))

abbrev pub told_text : Naming → Told → List ℕ
told_text names k = head_text names k ++ item_text names k.item

abbrev pub racing_text : Naming → ℕ → Told → List ℕ
racing_text names var k = head_text names k ++ touch_text names var k.item

abbrev pub told_line : Naming → Told → List ℕ
told_line names k = told_text names k ++ codes "\n"
