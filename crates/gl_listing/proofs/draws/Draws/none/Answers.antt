use Rattle.std.proofs.Common.{◌∙◌, ◌∷◌, [], ap, arith, length, length-append, map, refl}
use Rattle.gl_places.specs.Uses.{use_seen}
use Rattle.gl_listing.proofs.Adding.{none_more}
use Rattle.gl_listing.proofs.draws.Draws.none.Goals as goal

pub loop-init : goal.loop-init
loop-init c = record {
  long = ap length c.new-lists.ensures.items;
  none = λ x. rw c.new-lists.ensures.items refl;
}

pub loop-preserved : goal.loop-preserved
loop-preserved c = record {
  long =
      (let grown = ap length c.in_ok-push.ensures.items ∙ length-append c.loop.lists.items (c.new.result ∷ []) in
      let was = c.loop.invariant.long in
      omega arith);
  none =
      none_more (λ us. map use_seen us.items) c.loop.lists.items c.push.new.self.items c.new.result c.in_ok-push.ensures.items
      (ap (map use_seen) c.new.ensures.items) c.loop.invariant.none;
}

pub invariant_of-result : goal.invariant_of-result
invariant_of-result c =
    let long = c.loop.invariant.long in
    let past = c.loop-test.false in
    let within = c.loop.auto.counter-end in
    omega arith

pub returns : goal.returns
returns c = c.loop.invariant.none
