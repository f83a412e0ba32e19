use Rattle.std.proofs.Common.{◌≡◌, ◌∙◌, Some, sym}
use Rattle.std.specs.Prelude.{slice_get}
use Rattle.gl_model.specs.declared.limits.TheConstants.{VARIABLES}
use Rattle.gl_model.specs.declared.tx.Look.{Look}
use Rattle.gl_places.specs.Places.{seen}
use Rattle.gl_listing.proofs.Adding.{picked_more, var_within}
use Rattle.gl_listing.proofs.draws.Draws.add_looks.Goals as goal

pub add-requires : goal.add-requires
add-requires c =
    let at : slice_get c.args.looks.now c.loop-i.i ≡ Some c.in-Some.look = sym c.at.ensures ∙ c.in-Some.is in
    var_within (λ (p : Look). p.var) c.args.looks.now c.loop-i.i c.in-Some.look VARIABLES c.keeps.ensures.2 at

pub loop-i-preserved : goal.loop-i-preserved
loop-i-preserved c =
    let at : slice_get c.args.looks.now c.loop-i.i ≡ Some c.in-Some.look = sym c.at.ensures ∙ c.in-Some.is in
    picked_more (λ (p : Look). p.nth) (λ (p : Look). p.var) (seen c.args.place) c.args.looks.now c.loop-i.i c.args.self.now c.loop-i.self
    c.loop-i.invariant c.in-Some.look c.add.new.self at c.in_ok-add.ensures
