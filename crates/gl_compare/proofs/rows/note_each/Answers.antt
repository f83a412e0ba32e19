use Rattle.std.proofs.Common.{refl, inl}
use Rattle.gl_compare.specs.Rows.{asked_part}
use Rattle.gl_compare.proofs.RowSets.{noted_more, each_more, none_noted, all_noted}
use Rattle.gl_compare.proofs.rows.note_each.Goals as goal

pub loop-var-init : goal.loop-var-init
loop-var-init c = record {
  noted = none_noted c.ids-var-items.result.now (asked_part c.args.commit.now c.args.writes.now) c.args.pos c.args.rows.now.items;
  each = λ y. inl refl;
  within = λ n le w. w;
}

pub loop-var-preserved : goal.loop-var-preserved
loop-var-preserved c =
    let xs = c.ids-var-items.result.now in
    let i = c.loop-var.var-index in
    let asked = asked_part c.args.commit.now c.args.writes.now in
    record {
      noted = noted_more xs i c.loop-var-test.true asked c.args.pos c.args.rows.now.items c.loop-var.rows.items
          c.note_in.new.rows.items c.part.result c.part.ensures c.in_ok-note_in.ensures.noted c.in_ok-note_in.ensures.others
          c.loop-var.invariant.noted c.loop-var.invariant.each;
      each = each_more xs i c.loop-var-test.true asked c.args.pos c.args.rows.now.items c.loop-var.rows.items
          c.note_in.new.rows.items c.part.result c.part.ensures c.in_ok-note_in.ensures.noted c.in_ok-note_in.ensures.others
          c.loop-var.invariant.noted c.loop-var.invariant.each;
      within = λ n le w. c.in_ok-note_in.ensures.within n le (c.loop-var.invariant.within n le w);
    }

pub returns-clause-noted : goal.returns-clause-noted
returns-clause-noted c = all_noted c.ids-var-items.result.now c.args.variables.now c.loop-var.var-index
    (asked_part c.args.commit.now c.args.writes.now) c.args.pos c.args.rows.now.items c.loop-var.rows.items c.ids-var-items.ensures.same
    c.loop-var-test.false c.loop-var.invariant.noted
