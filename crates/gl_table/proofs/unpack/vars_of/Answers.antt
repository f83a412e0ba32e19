use Rattle.std.proofs.Common.{◌<◌, length, get_or, ap, ◌∙◌, arith}
use Rattle.gl_model.specs.Rising.{with_one}
use Rattle.gl_table.proofs.Unpacking.{next_id}
use Rattle.gl_table.proofs.unpack.vars_of.Goals as goal

pub loop-j-preserved : goal.loop-j-preserved
loop-j-preserved c = λ xs has n.
    let j = c.loop-j.j in
    let test = c.loop-j-test.true in
    let near : j < length xs = omega arith in
    c.in-Ok.ensures.ok ∙ ap (λ k. with_one k c.loop-j.vars) (c.id_at.ensures ∙ has.ids j near)
    ∙ ap (with_one (get_or xs j 0)) (c.loop-j.invariant xs has n) ∙ next_id xs j has.variables.1 near
