use Rattle.std.proofs.Common.{◌≡◌, ◌≢◌, [], map, sym, ◌∙◌, subst, arith, inl, inr}
use Rattle.std.specs.Prelude.{MatchOption}
use Rattle.std.proofs.lemmas.Bool.{cases_lt}
use Rattle.gl_model.specs.Entries.{seen}
use Rattle.gl_model.specs.Lists.{lists_of}
use Rattle.gl_model.specs.declared.limits.TheConstants.{THREADS}
use Rattle.gl_bytecode.specs.Runs.{Runs}
use Rattle.gl_follow.specs.Beginnings.{ProgramFails}
use Rattle.gl_follow.specs.Following.{EachBeginsRight}
use Rattle.gl_follow.specs.Steps.{EndsWithOver}
use Rattle.gl_follow.proofs.Threads.{begins_right, ends_with_over, first_of, list_is, list_kept, none_past, some_list}
use Rattle.gl_follow.proofs.program.program_fault.Goals as goal

pub list_fault-requires-clause-right : goal.list_fault-requires-clause-right
list_fault-requires-clause-right c =
    let made = c.args.made.now in
    let t = c.loop-thread.thread in
    let same : lists_of made t ≡ map seen c.in-Some.list.now = list_is made t (map seen c.in-Some.list.now) c.in-Some.ensures in
    subst (λ l. EachBeginsRight c.args.program.now l) same (begins_right c.args.program.now (lists_of made) t c.requires.begins)

pub list_fault-requires-clause-over : goal.list_fault-requires-clause-over
list_fault-requires-clause-over c =
    let made = c.args.made.now in
    let t = c.loop-thread.thread in
    let list = map seen c.in-Some.list.now in
    let same : lists_of made t ≡ list = list_is made t list c.in-Some.ensures in
    let kept = list_kept made t list c.keeps.ensures.1 c.in-Some.ensures in
    let some : lists_of made t ≢ [] = λ none. some_list list kept.1 (sym same ∙ none) in
    subst EndsWithOver same (ends_with_over (lists_of made) t c.requires.form some)

pub returns-in-Some-2-clause-first : goal.returns-in-Some-2-clause-first
returns-in-Some-2-clause-first c =
    let P = c.args.program.now in
    let made = c.args.made.now in
    let t = c.loop-thread.thread in
    let list = map seen c.in-Some.list.now in
    let same : lists_of made t ≡ list = list_is made t list c.in-Some.ensures in
    let kept = list_kept made t list c.keeps.ensures.1 c.in-Some.ensures in
    let some : lists_of made t ≢ [] = λ none. some_list list kept.1 (sym same ∙ none) in
    let fails : ProgramFails P c.args.steps t list c.in-Some-2.index =
    subst (λ o. MatchOption o (Runs P c.args.steps t list) (ProgramFails P c.args.steps t list)) c.in-Some-2.is c.in_ok-index.ensures in
    first_of P c.args.steps (lists_of made) (record { thread = t; index = c.in-Some-2.index }) some
    (subst (λ l. ProgramFails P c.args.steps t l c.in-Some-2.index) (sym same) fails) c.loop-thread.invariant

pub returns-clause-runs : goal.returns-clause-runs
returns-clause-runs c = λ t some. elim (cases_lt t THREADS) [
  | inl less ↦ (let end : c.loop-thread.thread ≡ THREADS = omega arith in c.loop-thread.invariant t (omega (arith, less, end)) some)
  | inr past ↦ absurd (some (none_past c.args.made.now t c.keeps.ensures.1 past))
]
