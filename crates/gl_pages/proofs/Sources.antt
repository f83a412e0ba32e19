-- The line of the instruction that made an entry.
use Rattle.std.proofs.Common.{◌≡◌, ℕ, ◌<◌, List, [], length, Option, Some, None, subst, inl, inr, arith, slice_index_or}
use Rattle.std.specs.Prelude.{MatchOption}
use Rattle.std.proofs.lemmas.Option.{slice_get_cases, slice_get_within}
use Rattle.gl_model.specs.Records.{Place}
use Rattle.gl_follow.specs.Following.{EachBeginsRight}
use Rattle.gl_follow.proofs.Threads.{begins_right}
use Rattle.gl_sites.specs.declared.making.Maker.{Maker}
use Rattle.gl_sites.specs.declared.making.Maker.TheVariants.{Instruction, NoInstruction, Note}
use Rattle.gl_sites.specs.declared.source.SourceLine.{SourceLine}
use Rattle.gl_vm.specs.declared.standing.Site.{Site}
use Rattle.gl_sites.specs.Makers.{IsMaker}
use Rattle.gl_sites.specs.Recorded.{maker_at}
use Rattle.gl_sites.specs.SourceLines.{IsLineOf, IsSourceOf}
use Rattle.gl_sites.proofs.OneSite.{not_both, note_unmade, one_site}
use Rattle.gl_pages.specs.Explained.{IsSource}
use Rattle.gl_pages.specs.LawfulRun.{IsMade, LawfulRun, lists_in}
use Rattle.gl_pages.proofs.LawfulRuns.{begins_right_in}

module _ (run : LawfulRun) (makers : List (List Maker)) (made : IsMade run makers) (c : Place) where
  -- each thread begins rightly in the list of this place's thread
  right : EachBeginsRight run.program (lists_in run c.thread)
  right = begins_right run.program (lists_in run) c.thread
      (begins_right_in run.program made.is.inputs run.steps (lists_in run) made.is.lawful made.valid)

  -- the maker that is told for a place made the entry there
  maker_right : (m : Maker) → maker_at makers c ≡ Some m → IsMaker run.program run.steps c.thread (lists_in run c.thread) c.index m
  maker_right m is = (made.made c.thread).each c.index m is

  -- where an instruction made the entry, its line in the program's text, if there is one, is the source of the place
  pub by_instruction : (site : Site) (line : Option SourceLine) → maker_at makers c ≡ Some (Instruction site)
      → MatchOption line ((n : ℕ) → IsLineOf run.text site.function site.place n → ⊥)
      (λ l. IsSourceOf run.text site.function site.place l.number l.text.now l.function.now)
      → IsSource run c line
  by_instruction site None is none = λ f i n from.
      let same = one_site run.program run.steps c.thread (lists_in run c.thread) c.index made.valid right f site.function i site.place
      from.made (maker_right (Instruction site) is) in
      none n (subst (λ g. IsLineOf run.text g site.place n) same.0 (subst (λ j. IsLineOf run.text f j n) same.1 from.line))
  by_instruction site (Some line) is source = record {
    function = site.function;
    place = site.place;
    made = maker_right (Instruction site) is;
    source = source;
  }

  -- an entry that no instruction made has no source
  pub by_none : maker_at makers c ≡ Some NoInstruction → IsSource run c None
  by_none is f i n from =
      not_both run.program run.steps c.thread (lists_in run c.thread) c.index made.valid right f i from.made (maker_right NoInstruction is)

  -- an entry that is a note has no source
  pub by_note : maker_at makers c ≡ Some Note → IsSource run c None
  by_note is f i n from =
      note_unmade run.program run.steps c.thread (lists_in run c.thread) c.index from.made.asking (maker_right Note is) from.made.is

  -- a place without a maker has no source
  pub not_there : maker_at makers c ≡ None → IsSource run c None
  not_there is f i n from =
      let there = from.made.is.there in
      let less : c.index < length (lists_in run c.thread) = slice_get_within (lists_in run c.thread) c.index from.made.is.entry there in
      let long : length (slice_index_or makers c.thread []) ≡ length (lists_in run c.thread) = (made.made c.thread).all in
      elim (slice_get_cases (slice_index_or makers c.thread []) c.index).1 [
        | inl some ↦ (let same = some.2 in cc)
        | inr past ↦ (let beyond = past.0 in omega (arith, less, long, beyond))
      ]
