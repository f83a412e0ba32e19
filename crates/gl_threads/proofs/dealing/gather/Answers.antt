use Rattle.std.proofs.Common.{◌+◌, ◌%◌, ◌≡◌, ◌∙◌, ◌++◌, ◌∷◌, [], sym, ap, refl, arith, length, subst, List}
use Rattle.std.specs.Prelude.{slice_index_or}
use Rattle.std.proofs.lemmas.Nat.{mod_below}
use Rattle.gl_table.specs.PassView.{PassView}
use Rattle.gl_threads.specs.declared.crew.Crew.{Crew}
use Rattle.gl_threads.proofs.Boarding.{Gathers, gathers_more, gathers_some}
use Rattle.gl_threads.proofs.dealing.gather.Goals as goal

pub loop-n-init : goal.loop-n-init
loop-n-init c = record {
  k = 16;
  sum = refl;
  dealt = c.requires.dealt;
  done = c.requires.done;
  long = (let none : c.new-passes.result.items ≡ [] = c.new-passes.ensures.items in ap length none);
  back =
      (let none : c.new-passes.result.items ≡ [] = c.new-passes.ensures.items in
      rw none (record { ids = λ j d less. absurd (omega arith); finished = λ j d less. absurd (omega arith) }));
}

pub unreachable-requires : goal.unreachable-requires
unreachable-requires c =
    let given = c.let_go.ensures.given in
    gathers_some c.args.run.now.program.now c.args.run.now.steps c.args.run.now.table.now.id c.args.workers c.loop-n.n c.loop-n.crews.items c.loop-n.passes.items
    c.loop-n.invariant
    c.loop-n-test.true (mod_below c.loop-n.n c.args.workers c.requires.workers) c.in-None.ensures.none given.0

pub loop-n-preserved : goal.loop-n-preserved
loop-n-preserved c =
    let given = c.in-Some.ensures.given in
    let crew : Crew = given.0 in
    let gives : (slice_index_or c.loop-n.crews.items (c.loop-n.n % c.args.workers) crew).riders.items ≡ crew.riders.items
    ++ c.in-Some.rider ∷ [] = given.1 in
    let more = gathers_more c.args.run.now.program.now c.args.run.now.steps c.args.run.now.table.now.id c.args.workers c.loop-n.n c.loop-n.crews.items
    c.loop-n.passes.items crew c.in-Some.rider
    c.loop-n.invariant c.loop-n-test.true (mod_below c.loop-n.n c.args.workers c.requires.workers) gives in
    let crews : c.let_go.new.crews.items ≡ _ = given.2 in
    let passes : c.push.new.self.items ≡ c.loop-n.passes.items ++ c.in-Some.rider.thread.pass ∷ [] = c.in_ok-push-in-Some.ensures.items
    ∙ ap (λ (v : PassView). c.loop-n.passes.items ++ v ∷ []) c.pass_of.ensures in
    let at : List Crew × List PassView → Type 0 =
    λ t. Gathers c.args.run.now.program.now c.args.run.now.steps c.args.run.now.table.now.id c.args.workers (c.loop-n.n + 1) t.0 t.1 in
    subst at (λ i. (sym crews i, sym passes i)) more
