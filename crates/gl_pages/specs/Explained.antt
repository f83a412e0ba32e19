-- What is said of the races of a run.
use Rattle.std.specs.Prelude.{◌≡◌, ℕ, Bool, List, map, slice_get, take, Option, Some, None, option_map}
use Rattle.gl_model.specs.Entries.{Entry}
use Rattle.gl_model.specs.Records.{EntryAt, Place}
use Rattle.gl_places.specs.Places.{seen}
use Rattle.gl_sites.specs.declared.source.SourceLine.{SourceLine}
use Rattle.gl_sites.specs.Sites.{IsMadeAt}
use Rattle.gl_sites.specs.SourceLines.{IsLineOf, IsSourceOf}
use Rattle.gl_causes.specs.declared.cause.Cause.{Cause}
use Rattle.gl_causes.specs.Causes.{AreCauses}
use Rattle.gl_causes.specs.Handing.{IsHanded}
use Rattle.gl_causes.specs.Judging.{is_plain, writes_to}
use Rattle.gl_causes.specs.Owned.{AreOwned}
use Rattle.gl_pages.specs.declared.facts.Explanation.{Explanation}
use Rattle.gl_pages.specs.declared.facts.Handed.{Handed}
use Rattle.gl_pages.specs.declared.facts.Leading.{Leading}
use Rattle.gl_pages.specs.declared.facts.Side.{Side}
use Rattle.gl_pages.specs.LawfulRun.{LawfulRun, lists_in}

-- instruction i of function f made the entry at c, and stands in line n of the program's text
pub record IsFrom (run : LawfulRun) (c : Place) (f i n : ℕ) : Type 0 where
  pub made : IsMadeAt run.program run.steps c.thread (lists_in run c.thread) c.index f i
  pub line : IsLineOf run.text f i n

-- this is the line of the instruction that made the entry at c, quoted, with the name of its function
pub record IsQuoted (run : LawfulRun) (c : Place) (line : SourceLine) : Type 0 where
  pub function : ℕ
  pub place : ℕ
  pub made : IsMadeAt run.program run.steps c.thread (lists_in run c.thread) c.index function place
  pub source : IsSourceOf run.text function place line.number line.text.now line.function.now

-- the same, where there may be no such line
abbrev pub IsSource : LawfulRun → Place → Option SourceLine → Type 0
IsSource run c None = (f i n : ℕ) → IsFrom run c f i n → ⊥
IsSource run c (Some line) = IsQuoted run c line

-- the entry at c is a plain access or not, and writes x or not
pub record IsTouch (run : LawfulRun) (c : Place) (x : ℕ) (plain write : Bool) : Type 0 where
  pub entry : Entry
  pub there : EntryAt (lists_in run) c entry
  pub plain_is : plain ≡ is_plain entry
  pub write_is : write ≡ writes_to x entry

-- what is said of one of the two accesses of a race on x
pub record IsSide (run : LawfulRun) (x : ℕ) (s : Side) : Type 0 where
  pub touch : IsTouch run (seen s.place) x s.plain s.write
  -- the line of the instruction that made it
  pub source : IsSource run (seen s.place) s.source
  -- what its thread owned there
  pub owned : AreOwned (take s.place.index (lists_in run s.place.thread)) s.owned.items

-- the first entry behind c by which its thread hands on what it did, if there is one, with the line of its instruction
abbrev pub IsHandedOn : LawfulRun → Place → Option Handed → Type 0
IsHandedOn run c None = IsHanded (lists_in run) c None
IsHandedOn run c (Some h) = IsHanded (lists_in run) c (Some h.handing) × IsSource run (seen h.handing.place) h.source

-- the last entry that leads to the refused one, if there is one, with the line of its instruction
abbrev pub IsLedBy : LawfulRun → Option Leading → Type 0
IsLedBy run None = Unit {0}
IsLedBy run (Some l) = IsSource run (seen l.place) l.source

-- what is said of both, of what the other thread did next, and of how far it leads to the refused entry
pub record IsExplained (run : LawfulRun) (e : Explanation) : Type 0 where
  pub at : IsSide run e.var e.at
  pub other : IsSide run e.var e.other
  pub handed : IsHandedOn run (seen e.other.place) e.handed
  pub leading : IsLedBy run e.leading

-- why the entry was refused
abbrev pub cause_of : Explanation → Cause
cause_of e = record {
  at = e.at.place;
  var = e.var;
  other = e.other.place;
  others = e.others;
  leading = option_map (λ l. l.place) e.leading;
}

-- the explanations are of the entries that were refused, of each one, by thread and place, and say of each what it races with
pub record AreExplained (run : LawfulRun) (explained : List Explanation) : Type 0 where
  pub causes : AreCauses (lists_in run) (map cause_of explained)
  pub each : (i : ℕ) (e : Explanation) → slice_get explained i ≡ Some e → IsExplained run e
