-- The text of an explanation, with the names that comment lines give.
use Rattle.std.specs.Prelude.{ℕ, ◌==◌, if◌then◌else◌, List, [], ◌++◌, codes, Option, Some, None}
use Rattle.std.specs.Fmt.{decimal}
use Rattle.gl_names.specs.Names.{Naming}
use Rattle.gl_names.specs.declared.kind.Kind.TheVariants.{Thread, Monitor, Volatile}
use Rattle.gl_explain.specs.Phrases.{access_text, thing_text}
use Rattle.gl_explain.specs.Texts.{monitors_text}
use Rattle.gl_sites.specs.declared.source.SourceLine.{SourceLine}
use Rattle.gl_pages.specs.declared.facts.Explanation.{Explanation}
use Rattle.gl_causes.specs.declared.handing.Way.{Way}
use Rattle.gl_causes.specs.declared.handing.Way.TheVariants.{Releases, Writes, Forks, Commits, Ends}
use Rattle.gl_pages.specs.declared.facts.Handed.{Handed}
use Rattle.gl_pages.specs.declared.facts.Leading.{Leading}
use Rattle.gl_pages.specs.declared.facts.Side.{Side}

-- the line of an instruction: its function, its number, and what stands in it
abbrev pub line_text : SourceLine → List ℕ
line_text line = codes "function "
    ++ (line.function.now ++ (codes ", line " ++ (decimal line.number ++ (codes ", `" ++ (line.text.now ++ codes "`")))))

abbrev pub source_text : Option SourceLine → List ℕ
source_text None = codes "no line"
source_text (Some line) = line_text line

-- whose access it is, and where
abbrev pub place_text : Naming → Side → List ℕ
place_text names s = codes "thread " ++ (thing_text names Thread s.place.thread ++ (codes ", " ++ source_text s.source))

-- what it does to the variable; of a commit, or an attempt at one, these words stand before it
abbrev pub touch_text : Naming → List ℕ → ℕ → Side → List ℕ
touch_text names commit x s = if s.plain then access_text names s.write x else commit ++ access_text names s.write x

abbrev pub side_text : Naming → List ℕ → ℕ → Side → List ℕ
side_text names commit x s = place_text names s ++ (codes ": " ++ touch_text names commit x s)

-- the two accesses that race
abbrev pub sides_text : Naming → Explanation → List ℕ
sides_text names e =
    side_text names (codes "is refused a commit that ") e.var e.at
    ++ (codes "\n  races with " ++ (side_text names (codes "commits and ") e.var e.other ++ codes "\n"))

-- how many others it races with
abbrev pub others_text : ℕ → List ℕ
others_text n = if n == 0 then [] else codes "  earlier accesses that it races with too: " ++ (decimal n ++ codes "\n")

-- what a thread owns at its access
abbrev pub owned_text : Naming → Side → List ℕ
owned_text names s = codes "  there thread "
    ++ (thing_text names Thread s.place.thread ++ (codes " owns " ++ (monitors_text names s.owned.items ++ codes "\n")))

-- how an entry hands on what its thread did
abbrev pub way_text : Naming → Way → List ℕ
way_text names (Releases m) = codes "releases monitor " ++ thing_text names Monitor m
way_text names (Writes v) = codes "writes volatile " ++ thing_text names Volatile v
way_text names (Forks u) = codes "forks thread " ++ thing_text names Thread u
way_text names Commits = codes "commits"
way_text names Ends = codes "ends"

-- where it does: an entry that no instruction made is made as the thread ends
abbrev pub where_text : Option SourceLine → List ℕ
where_text None = codes "at its end"
where_text (Some line) = codes "in " ++ line_text line

-- an entry that hands on what its thread did, and where
abbrev pub handing_text : Naming → Handed → List ℕ
handing_text names h = where_text h.source ++ (codes ": " ++ (way_text names h.handing.way ++ codes "\n"))

abbrev pub found_text : Naming → Option Handed → List ℕ
found_text names None = codes " is handed on nowhere\n"
found_text names (Some h) = codes " is first handed on " ++ handing_text names h

-- what was done at an access
abbrev pub did_text : Naming → Side → List ℕ
did_text names s = codes "  what thread " ++ (thing_text names Thread s.place.thread ++ codes " did there")

-- where it is handed on
abbrev pub handed_text : Naming → Side → Option Handed → List ℕ
handed_text names s handed = did_text names s ++ found_text names handed

-- that the other thread leads to the refused entry
abbrev pub leads_text : Naming → List ℕ → List ℕ → Explanation → List ℕ
leads_text names front verb e =
    front
    ++ (thing_text names Thread e.other.place.thread ++ (verb ++ (thing_text names Thread e.at.place.thread ++ codes " there")))

-- the last entry by which it does
abbrev pub leading_text : Naming → Explanation → Option Leading → List ℕ
leading_text names e None = leads_text names (codes "  nothing of thread ") (codes " leads to thread ") e ++ codes "\n"
leading_text names e (Some l) =
    leads_text names (codes "  the last of thread ") (codes " that leads to thread ") e
    ++ (codes " is " ++ (where_text l.source ++ codes "\n"))

-- where the other thread hands on what it did, and how far it leads
abbrev pub onward_text : Naming → Explanation → List ℕ
onward_text names e = handed_text names e.other e.handed ++ leading_text names e e.leading

-- what is said of them
abbrev pub facts_text : Naming → Explanation → List ℕ
facts_text names e = others_text e.others ++ (owned_text names e.at ++ (owned_text names e.other ++ onward_text names e))

abbrev pub explanation_text : Naming → Explanation → List ℕ
explanation_text names e = sides_text names e ++ facts_text names e
