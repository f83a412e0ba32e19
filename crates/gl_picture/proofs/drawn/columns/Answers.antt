use Rattle.std.proofs.Common.{◌≡◌, ◌+◌, ◌++◌, ◌∷◌, [], ℕ, List, length, length-append, arith, rules, sym, subst, ap, ◌∙◌}
use Rattle.gl_model.specs.declared.limits.TheConstants.{THREADS}
use Rattle.gl_picture.specs.Arrows.{HasRow}
use Rattle.gl_picture.specs.Drawn.{AreColumns, no_column, one_column, not_a_column}
use Rattle.gl_picture.specs.declared.picture.Column.{Column}
use Rattle.gl_picture.proofs.Leading.{false_no}
use Rattle.gl_picture.proofs.drawn.columns.Goals.{then-has_row+in_ok-push, else-has_row}
use Rattle.gl_picture.proofs.drawn.columns.Goals as goal

pub loop-thread-init : goal.loop-thread-init
loop-thread-init c = record {
  columns = subst (AreColumns (λ t. HasRow c.args.rows.now t 0 (length c.args.rows.now)) 0) (sym c.new-columns.ensures.items) no_column;
  counted = sym (ap (λ (cs : List Column). length cs) c.new-columns.ensures.items);
  few = omega arith;
}

pub loop-thread-preserved : goal.loop-thread-preserved
loop-thread-preserved c =
    let P : ℕ → Type 0 = λ t. HasRow c.args.rows.now t 0 (length c.args.rows.now) in
    let before = c.loop-thread.invariant in
    let t = c.loop-thread.thread in
    let old = c.loop-thread.columns.items in
    elim c.if-has_row.branch [
      | then-has_row+in_ok-push w ↦
          (let made : Column = record { thread = t; at = c.loop-thread.at } in
          let is : c.if-has_row.columns.items ≡ old ++ made ∷ [] = search rules in
          let more : AreColumns P (t + 1) (old ++ record { thread = t; at = length old } ∷ []) = one_column t old before.columns
          (c.has_row.ensures.0 w.if-has_row.true) in
          let n = before.counted in
          let few = before.few in
          let long : length c.if-has_row.columns.items ≡ length old + 1 = ap (λ (cs : List Column). length cs) is ∙ length-append old
          (made ∷ []) in
          record {
            columns = subst (AreColumns P (t + 1)) (sym is)
                (subst (λ n. AreColumns P (t + 1) (old ++ record { thread = t; at = n } ∷ [])) (sym n) more);
            counted = (let at = w.at-is in omega arith);
            few = (let at = w.at-is in omega arith);
          })
      | else-has_row w ↦
          (let is : c.if-has_row.columns.items ≡ old = search rules in
          let few = before.few in
          record {
            columns = subst (AreColumns P (t + 1)) (sym is)
                (not_a_column t old before.columns (false_no c.has_row.result (P t) w.if-has_row.false c.has_row.ensures));
            counted = w.at-is ∙ before.counted ∙ sym (ap (λ (cs : List Column). length cs) is);
            few = (let at = w.at-is in omega arith);
          })
    ]

pub returns-clause-columns : goal.returns-clause-columns
returns-clause-columns c =
    let all : c.loop-thread.thread ≡ THREADS = (let n = c.loop-thread-test.false in let m = c.loop-thread.auto.thread-end in omega arith) in
    subst (λ n. AreColumns (λ t. HasRow c.args.rows.now t 0 (length c.args.rows.now)) n c.loop-thread.columns.items) all
    c.loop-thread.invariant.columns
