use Rattle.std.proofs.Common.{◌≡◌, Some, None, Bool, refl, map, ap, ◌∙◌, eq-eqb}
use Rattle.std.specs.Prelude.{if◌then◌else◌, slice_set}
use Rattle.gl_table.specs.RightsInside.{right_in}
use Rattle.gl_table.specs.declared.rights.Right.{Right}
use Rattle.gl_table.specs.RightsView.{RightsView}
use Rattle.gl_table.proofs.RightsKept.{map_set}
use Rattle.gl_table.proofs.rights.Rights.give.Goals as goal

pub returns-clause-rights : goal.returns-clause-rights
returns-clause-rights c =
    let b = c.self.inside.block in
    let right : Right = record { block = b; nth = c.args.nth; write = c.args.write } in
    let here : right_in b right ≡ Some (c.args.nth, c.args.write) =
    ap (λ (t : Bool). if t then Some (c.args.nth, c.args.write) else None) (eq-eqb b b refl) in
    map_set (right_in b) c.self.inside.places.items c.args.var right
    ∙ ap (λ r. slice_set (map (right_in b) c.self.inside.places.items) c.args.var r) here
    ∙ ap (λ (v : RightsView). slice_set v.rights c.args.var (Some (c.args.nth, c.args.write))) c.self.view_is
