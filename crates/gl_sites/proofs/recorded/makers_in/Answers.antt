use Rattle.std.proofs.Common.{◌≡◌, ◌≢◌, [], map, sym, ◌∙◌, subst}
use Rattle.gl_model.specs.Entries.{seen}
use Rattle.gl_model.specs.Lists.{lists_of}
use Rattle.gl_bytecode.specs.Runs.{Runs}
use Rattle.gl_follow.specs.Following.{EachBeginsRight}
use Rattle.gl_follow.specs.Steps.{EndsWithOver}
use Rattle.gl_follow.proofs.Threads.{begins_right, ends_with_over, list_is, list_kept, some_list}
use Rattle.gl_sites.proofs.recorded.makers_in.Goals as goal

pub makers-requires-clause-right : goal.makers-requires-clause-right
makers-requires-clause-right c =
    let made = c.args.made.now in
    let t = c.args.thread in
    let same : lists_of made t ≡ map seen c.in-Some.list.now = list_is made t (map seen c.in-Some.list.now) c.in-Some.ensures in
    subst (λ l. EachBeginsRight c.args.program.now l) same (begins_right c.args.program.now (lists_of made) t c.requires.begins)

pub makers-requires-clause-over : goal.makers-requires-clause-over
makers-requires-clause-over c =
    let made = c.args.made.now in
    let t = c.args.thread in
    let list = map seen c.in-Some.list.now in
    let same : lists_of made t ≡ list = list_is made t list c.in-Some.ensures in
    let kept = list_kept made t list c.keeps.ensures.1 c.in-Some.ensures in
    let some : lists_of made t ≢ [] = λ none. some_list list kept.1 (sym same ∙ none) in
    subst EndsWithOver same (ends_with_over (lists_of made) t c.requires.form some)

pub makers-requires-clause-runs : goal.makers-requires-clause-runs
makers-requires-clause-runs c =
    let made = c.args.made.now in
    let t = c.args.thread in
    let list = map seen c.in-Some.list.now in
    let same : lists_of made t ≡ list = list_is made t list c.in-Some.ensures in
    let kept = list_kept made t list c.keeps.ensures.1 c.in-Some.ensures in
    let some : lists_of made t ≢ [] = λ none. some_list list kept.1 (sym same ∙ none) in
    subst (Runs c.args.program.now c.args.steps t) same (c.requires.runs t some)
