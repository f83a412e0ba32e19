use Rattle.std.proofs.Common.{sym, ap, refl, arith, ◌+◌, ◌∙◌, subst}
use Rattle.std.specs.Prelude.{List}
use Rattle.gl_model.specs.declared.tx.Number.{Number}
use Rattle.gl_table.specs.PassView.{PassView}
use Rattle.gl_txn.specs.Drawing.{HasDrawn, numbered}
use Rattle.gl_txn.proofs.Changes.{at_item}
use Rattle.gl_txn.proofs.Costs.{costs_both, costs_steps}
use Rattle.gl_txn.proofs.Drawings.{may_number, number_more}
use Rattle.gl_txn.proofs.Numberings.{near_var, rises_on, not_numbered, found_there, numbered_on}
use Rattle.gl_txn.proofs.dropping.draw_numbers.Goals as goal

pub mark_open-nth-requires-clause-table : goal.mark_open-nth-requires-clause-table
mark_open-nth-requires-clause-table c =
    let m = c.requires.may in
    ap (λ (p : PassView). p.own.table) (c.loop-taken.invariant.0 m.list m.tails m.held).is ∙ c.requires.table

pub mark_open-nth-requires-clause-near : goal.mark_open-nth-requires-clause-near
mark_open-nth-requires-clause-near c =
    near_var c.args.rows.now c.loop-taken.taken-index c.taken-item.result
    (at_item c.args.rows.now c.loop-taken.taken-index c.taken-item.result c.loop-taken-test.true c.taken-item.is) c.requires.may.held.are
    c.loop-taken.numbers c.loop-taken.invariant.1

pub mark_open-nth-requires-clause-may : goal.mark_open-nth-requires-clause-may
mark_open-nth-requires-clause-may c =
    let m = c.requires.may in
    let at = at_item c.args.rows.now c.loop-taken.taken-index c.taken-item.result c.loop-taken-test.true c.taken-item.is in
    may_number c.args.pass.now c.loop-taken.pass m.list c.args.rows.now m.tails c.loop-taken.numbers m
    (c.loop-taken.invariant.0 m.list m.tails m.held) c.taken-item.result.var c.taken-item.result
    (found_there c.args.rows.now c.loop-taken.taken-index c.taken-item.result at m.held.are c.loop-taken.numbers c.loop-taken.invariant.1)
    (not_numbered c.args.rows.now c.loop-taken.taken-index c.taken-item.result at m.held.are c.loop-taken.numbers c.loop-taken.invariant.1)

pub add-requires-clause-there : goal.add-requires-clause-there
add-requires-clause-there c =
    near_var c.args.rows.now c.loop-taken.taken-index c.taken-item.result
    (at_item c.args.rows.now c.loop-taken.taken-index c.taken-item.result c.loop-taken-test.true c.taken-item.is) c.requires.may.held.are
    c.loop-taken.numbers c.loop-taken.invariant.1

pub add-requires-clause-last : goal.add-requires-clause-last
add-requires-clause-last c =
    rises_on c.args.rows.now c.loop-taken.taken-index c.taken-item.result
    (at_item c.args.rows.now c.loop-taken.taken-index c.taken-item.result c.loop-taken-test.true c.taken-item.is) c.requires.may.held.are
    c.loop-taken.numbers c.loop-taken.invariant.1

pub loop-taken-preserved : goal.loop-taken-preserved
loop-taken-preserved c =
    let m = c.requires.may in
    let r = c.taken-item.result in
    let n = c.mark_open-nth.result in
    let at = at_item c.args.rows.now c.loop-taken.taken-index c.taken-item.result c.loop-taken-test.true c.taken-item.is in
    let there = found_there c.args.rows.now c.loop-taken.taken-index r at m.held.are c.loop-taken.numbers c.loop-taken.invariant.1 in
    let out = not_numbered c.args.rows.now c.loop-taken.taken-index r at m.held.are c.loop-taken.numbers c.loop-taken.invariant.1 in
    let is = c.add.ensures in (
      (λ list tails a. subst (λ (l : List Number). HasDrawn c.args.pass.now c.mark_open-nth.new.pass list c.args.rows.now tails l) (sym is)
          (number_more c.args.pass.now c.loop-taken.pass list c.args.rows.now tails c.loop-taken.numbers m
          (c.loop-taken.invariant.0 list tails a) r.var r there out c.mark_open-nth.new.pass n c.mark_open-nth.ensures.opened
          c.mark_open-nth.ensures.above)),
      ap numbered is ∙ numbered_on c.args.rows.now c.loop-taken.taken-index r at m.held.are c.loop-taken.numbers c.loop-taken.invariant.1 n,
      costs_both c.loop-taken.taken-index 1 (c.loop-taken.taken-index + 1) 0 0 0 c.args.pass.now c.loop-taken.pass
          c.mark_open-nth.new.pass c.loop-taken.invariant.2
          (costs_steps 1 c.loop-taken.pass c.mark_open-nth.new.pass (ap (λ (z : PassView). z.known) c.mark_open-nth.ensures.opened)
          (ap (λ (z : PassView). z.moves) c.mark_open-nth.ensures.opened)) refl (omega arith),
    )
