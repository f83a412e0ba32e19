use Rattle.std.proofs.Common.{◌≡◌, ◌+◌, ◌++◌, ◌∷◌, [], ◌∙◌, ℕ, List, length, length-append, arith, rules, sym, ap, subst, Some}
use Rattle.std.specs.Prelude.{slice_get}
use Rattle.gl_picture.specs.Drawn.{IsRow}
use Rattle.gl_picture.specs.declared.picture.Row.{Row}
use Rattle.gl_picture.proofs.Drawing.{rows_more}
use Rattle.gl_picture.proofs.drawn.all_rows.Goals as goal

pub loop-i-preserved : goal.loop-i-preserved
loop-i-preserved c =
    let rows = c.args.rows.now in
    let before = c.loop-i.invariant in
    let r : Row = c.in_ok-row.row in
    let is : c.push.new.self.items ≡ c.loop-i.drawn.items ++ r ∷ [] = search rules in
    let right : IsRow rows c.args.left_out (length c.loop-i.drawn.items) r = subst (λ n. IsRow rows c.args.left_out n r) (sym before.all)
    c.in_ok-row.ensures in
    let long = length-append c.loop-i.drawn.items (r ∷ []) in
    let all = before.all in
    record {
      all = ap (λ (ds : List Row). length ds) is ∙ (let e : length (c.loop-i.drawn.items ++ r ∷ []) ≡ c.loop-i.i + 1 = omega arith in e);
      each = subst (λ ds. (i : ℕ) (q : Row) → slice_get ds i ≡ Some q → IsRow rows c.args.left_out i q) (sym is)
          (rows_more rows c.args.left_out c.loop-i.drawn.items r right before.each);
    }
