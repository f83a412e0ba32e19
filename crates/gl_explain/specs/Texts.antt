-- The text of an explanation, with the names that the trace gives.
use Rattle.std.specs.Prelude.{ℕ, ◌==◌, if◌then◌else◌, List, [], ◌∷◌, ◌++◌, codes, Option, Some, None}
use Rattle.std.specs.Fmt.{decimal}
use Rattle.std.specs.List.{flat_map}
use Rattle.gl_names.specs.Names.{Naming}
use Rattle.gl_names.specs.declared.kind.Kind.TheVariants.{Thread, Monitor}
use Rattle.gl_explain.specs.declared.told.Told.{Told}
use Rattle.gl_explain.specs.declared.told.Explanation.{Explanation}
use Rattle.gl_explain.specs.Phrases.{thing_text, racing_text, told_line}

-- how many others it races with
abbrev pub others_text : ℕ → List ℕ
others_text n = if n == 0 then [] else codes "  earlier lines that it races with too: " ++ (decimal n ++ codes "\n")

abbrev pub monitor_text : Naming → ℕ → List ℕ
monitor_text names m = codes ", monitor " ++ thing_text names Monitor m

abbrev pub monitors_text : Naming → List ℕ → List ℕ
monitors_text names [] = codes "no monitor"
monitors_text names (m ∷ ms) = codes "monitor " ++ (thing_text names Monitor m ++ flat_map (monitor_text names) ms)

-- what a thread owns in a line
abbrev pub owned_text : Naming → Told → List ℕ → List ℕ
owned_text names k monitors = codes "  in line "
    ++ (decimal k.line ++ (codes " thread " ++
    (thing_text names Thread k.thread ++ (codes " owns " ++ (monitors_text names monitors ++ codes "\n")))))

-- what was done in the line k
abbrev pub did_text : Naming → Told → List ℕ
did_text names k = codes "  what thread " ++ (thing_text names Thread k.thread ++ (codes " did in line " ++ decimal k.line))

-- where it is handed on
abbrev pub handed_text : Naming → Told → Option Told → List ℕ
handed_text names k None = did_text names k ++ codes " is handed on in no later line\n"
handed_text names k (Some found) = did_text names k ++ (codes " is first handed on in " ++ told_line names found)

-- the last line of thread t that leads to the line k
abbrev pub last_text : Naming → ℕ → Told → List ℕ
last_text names t k = codes "  the last line of thread " ++ (thing_text names Thread t ++ (codes " that leads to line " ++ decimal k.line))

-- what of thread t leads to the line k
abbrev pub learnt_text : Naming → ℕ → Told → Option Told → List ℕ
learnt_text names t k None = codes "  no line of thread "
    ++ (thing_text names Thread t ++ (codes " leads to line " ++ (decimal k.line ++ codes "\n")))
learnt_text names t k (Some found) = last_text names t k ++ (codes " is " ++ told_line names found)

-- the two lines that race
abbrev pub lines_text : Naming → Explanation → List ℕ
lines_text names e = racing_text names e.var e.at ++ (codes "\n  races with " ++ (racing_text names e.var e.other ++ codes "\n"))

-- what is said of them
abbrev pub facts_text : Naming → Explanation → List ℕ
facts_text names e =
    others_text e.others ++ (owned_text names e.at e.owned.items
    ++ (owned_text names e.other e.other_owned.items
    ++ (handed_text names e.other e.handed ++ learnt_text names e.other.thread e.at e.learnt)))

abbrev pub explanation_text : Naming → Explanation → List ℕ
explanation_text names e = lines_text names e ++ facts_text names e

-- the end of the text
abbrev pub ending_text : ℕ → List ℕ
ending_text races = codes "races " ++ (decimal races ++ codes "\nonly this observed order of steps was judged\n")
