use Rattle.std.proofs.Common.{◌*◌, ◌%◌, ◌≡◌, ◌∙◌, ◌++◌, ◌∷◌, [], sym, ap, refl, arith, length, subst, List, ℕ}
use Rattle.std.specs.Prelude.{slice_index_or, slice_set}
use Rattle.std.proofs.lemmas.Nat.{mod_below}
use Rattle.gl_table.specs.PassView.{Own}
use Rattle.gl_rule.specs.Objects.{capacity}
use Rattle.gl_threads.specs.Dealing.{new_own}
use Rattle.gl_threads.specs.declared.crew.Crew.{Crew}
use Rattle.gl_threads.proofs.Boarding.{Deals, crews_new, deals_more, deals_none, new_less}
use Rattle.gl_threads.proofs.dealing.deal.Goals as goal

pub deals-init : goal.deals-init
deals-init c =
    let ok = c.in_ok-crews.crews.ok.0 in
    let long : length c.in_ok-crews.crews.items ≡ c.args.workers = (let l = c.in_ok-crews.ensures.long in omega arith) in
    let room : capacity c.args.run.now.table.now.key
    ≡ c.ring.result.segments * c.ring.result.cells = (λ i. sym c.ring.ensures.is.0 i * sym c.ring.ensures.is.1 i) in
    let e = crews_new c.args.workers (length c.args.passes.items) c.args.run.now.program.now c.args.run.now.steps c.args.run.now.table.now
    (c.ring.result.segments * c.ring.result.cells) c.in_ok-crews.crews.items long room c.in_ok-crews.ensures.none in
    record { k = 0; sum = (let n = c.requires.few in omega arith); new = c.requires.new; dealt = e.dealt; ready = e.ready }

pub board-requires : goal.board-requires
board-requires c =
    let last = new_less c.args.run.now.table.now.id (length c.pop.new.self.items) c.deals.left.items c.pop.new.self.items c.in-Some.pass
    c.deals.invariant.new c.in-Some.ensures.items refl in
    last.new ∙ (λ i. new_own (ap (λ (o : Own). o.table) (sym last.new) i) (ap (λ (o : Own). o.id) (sym last.new) i))

pub take_on-requires : goal.take_on-requires
take_on-requires c =
    let low = mod_below c.id.result c.args.workers c.requires.workers in
    let long = c.deals.invariant.dealt.long in
    omega arith

pub deals-preserved : goal.deals-preserved
deals-preserved c =
    let last = new_less c.args.run.now.table.now.id (length c.pop.new.self.items) c.deals.left.items c.pop.new.self.items c.in-Some.pass
    c.deals.invariant.new c.in-Some.ensures.items refl in
    let id : c.id.result ≡ length c.pop.new.self.items = c.id.ensures.is ∙ ap (λ (o : Own). o.id) last.new in
    let taken = c.in_ok-take_on-in-Some.ensures in
    let crew : Crew = taken.0 in
    let gets : crew.riders.items ≡ (slice_index_or c.deals.crews.items (c.id.result % c.args.workers) crew).riders.items
    ++ c.in_ok-rider-in-Some.rider ∷ [] = taken.1 in
    let gets' : crew.riders.items ≡ (slice_index_or c.deals.crews.items (length c.pop.new.self.items % c.args.workers) crew).riders.items
    ++ c.in_ok-rider-in-Some.rider ∷ [] =
    (let at : ℕ → Type 0 = λ n. crew.riders.items ≡ (slice_index_or c.deals.crews.items (n % c.args.workers) crew).riders.items
    ++ c.in_ok-rider-in-Some.rider ∷ [] in subst at id gets) in
    let window : crew.lent.window ≡ (slice_index_or c.deals.crews.items (length c.pop.new.self.items % c.args.workers) crew).lent.window =
    (let at : ℕ → Type 0 = λ n. crew.lent.window ≡ (slice_index_or c.deals.crews.items (n % c.args.workers) crew).lent.window in subst at id taken.2)
    in
    let crews : c.take_on.new.crews.items ≡ slice_set c.deals.crews.items (c.id.result % c.args.workers) crew = taken.3 in
    let crews' : c.take_on.new.crews.items ≡ slice_set c.deals.crews.items (length c.pop.new.self.items % c.args.workers) crew =
    crews ∙ ap (λ n. slice_set c.deals.crews.items (n % c.args.workers) crew) id in
    let more = deals_more c.args.run.now.program.now c.args.run.now.steps c.args.run.now.table.now c.args.workers c.deals.left.items c.pop.new.self.items
    c.in-Some.pass c.deals.crews.items crew
    c.in_ok-rider-in-Some.rider c.deals.invariant c.in-Some.ensures.items
    (mod_below (length c.pop.new.self.items) c.args.workers c.requires.workers)
    (λ own. (c.in_ok-rider-in-Some.ensures.aboard, c.in_ok-rider-in-Some.ensures.id)) gets' window in
    let at : List Crew → Type 0 = λ cs. Deals c.args.run.now.program.now c.args.run.now.steps c.args.run.now.table.now c.args.workers c.pop.new.self.items cs in
    subst at (sym crews') more

pub returns-in-None-clause-dealt : goal.returns-in-None-clause-dealt
returns-in-None-clause-dealt c =
    let ok = c.deals.left.ok.0 in
    let none : length c.deals.left.items ≡ 0 = (let e = c.in-None.ensures.cases.0 in omega arith) in
    deals_none c.args.run.now.program.now c.args.run.now.steps c.args.run.now.table.now c.args.workers c.deals.left.items c.deals.crews.items c.deals.invariant
    none
