use Rattle.std.proofs.Common.{◌<◌, ◌^◌, length, map, subst, sym, arith}
use Rattle.std.proofs.lemmas.List.{length-map}
use Rattle.gl_model.specs.Lists.{lists_of}
use Rattle.gl_causes.specs.Finding.{AreFound, HaveRaces}
use Rattle.gl_causes.specs.Stands.{AreOfThreads, stand_seen}
use Rattle.gl_causes.proofs.Answering.{are_causes, have_races, laid_of, of_threads}
use Rattle.gl_raised.proofs.Kept.{entry_kept}
use Rattle.gl_causes.proofs.cause.causes_by_places.Goals as goal

pub causes_among-requires-clause-threads : goal.causes_among-requires-clause-threads
causes_among-requires-clause-threads c =
    subst (λ ss. AreOfThreads (map stand_seen ss)) (sym c.deref-2.ensures.value)
    (of_threads (lists_of c.args.made.now) (map stand_seen c.in_ok-stands.stands.items) c.in_ok-stands.ensures)

pub causes_among-requires-clause-races : goal.causes_among-requires-clause-races
causes_among-requires-clause-races c =
    let R = lists_of c.args.made.now in
    let rows = c.in_ok-rows.rows.items in
    let ss = map stand_seen c.in_ok-stands.stands.items in
    let run = c.requires.steps in
    let short : length rows < 2 ^ 64 = (let a = c.in_ok-rows.rows.ok.0 in let b = c.in_ok-rows.rows.small in let d = c.in_ok-rows.rows.ok.1
    in omega arith) in
    let L = laid_of R rows ss c.requires.form c.requires.numbered run short c.in_ok-rows.ensures
    (λ d e a. entry_kept c.args.made.now c.keeps.ensures d.thread d.index e a) c.in_ok-stands.ensures in
    subst (λ r. HaveRaces r (map stand_seen c.deref-2.result.now)) (sym c.deref.ensures.value)
    (subst (λ s. HaveRaces rows (map stand_seen s)) (sym c.deref-2.ensures.value)
    (have_races run.0 R run.1.0 (run.1.2.at (length run.1.0)) rows ss L c.requires.races))

pub returns : goal.returns
returns c =
    let R = lists_of c.args.made.now in
    let rows = c.in_ok-rows.rows.items in
    let stands = c.in_ok-stands.stands.items in
    let ss = map stand_seen stands in
    let run = c.requires.steps in
    let short : length rows < 2 ^ 64 = (let a = c.in_ok-rows.rows.ok.0 in let b = c.in_ok-rows.rows.small in let d = c.in_ok-rows.rows.ok.1
    in omega arith) in
    let L = laid_of R rows ss c.requires.form c.requires.numbered run short c.in_ok-rows.ensures
    (λ d e a. entry_kept c.args.made.now c.keeps.ensures d.thread d.index e a) c.in_ok-stands.ensures in
    let found : AreFound R rows ss (length stands) c.in_ok-causes.causes.items =
    subst (λ r. AreFound R r ss (length stands) c.in_ok-causes.causes.items) c.deref.ensures.value
    (subst (λ s. AreFound R c.deref.result.now (map stand_seen s) (length s) c.in_ok-causes.causes.items) c.deref-2.ensures.value
    c.in_ok-causes.ensures) in
    are_causes run.0 R run.1.0 (run.1.2.at (length run.1.0)) rows ss L c.requires.races c.in_ok-causes.causes.items
    (subst (λ n. AreFound R rows ss n c.in_ok-causes.causes.items) (sym (length-map stands stand_seen)) found)
