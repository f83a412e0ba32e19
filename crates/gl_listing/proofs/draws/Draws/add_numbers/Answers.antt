use Rattle.std.proofs.Common.{◌≡◌, ◌∙◌, Some, sym}
use Rattle.std.specs.Prelude.{slice_get}
use Rattle.gl_model.specs.declared.limits.TheConstants.{VARIABLES}
use Rattle.gl_model.specs.declared.tx.Number.{Number}
use Rattle.gl_places.specs.Places.{seen}
use Rattle.gl_listing.proofs.Adding.{picked_more, var_within}
use Rattle.gl_listing.proofs.draws.Draws.add_numbers.Goals as goal

pub add-requires : goal.add-requires
add-requires c =
    let at : slice_get c.args.numbers.now c.loop-i.i ≡ Some c.in-Some.number = sym c.at.ensures ∙ c.in-Some.is in
    var_within (λ (p : Number). p.var) c.args.numbers.now c.loop-i.i c.in-Some.number VARIABLES c.keeps.ensures.2 at

pub loop-i-preserved : goal.loop-i-preserved
loop-i-preserved c =
    let at : slice_get c.args.numbers.now c.loop-i.i ≡ Some c.in-Some.number = sym c.at.ensures ∙ c.in-Some.is in
    picked_more (λ (p : Number). p.nth) (λ (p : Number). p.var) (seen c.args.place) c.args.numbers.now c.loop-i.i c.args.self.now
    c.loop-i.self
    c.loop-i.invariant c.in-Some.number c.add.new.self at c.in_ok-add.ensures
