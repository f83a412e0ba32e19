use Rattle.std.proofs.Common.{◌≡◌, ◌∙◌, ◌++◌, ◌-◌, length, take, drop, arith, rules, sym}
use Rattle.std.proofs.lemmas.List.{length-map}
use Rattle.gl_explain.specs.Told.{told_of}
use Rattle.gl_explain.proofs.Behind.{told}
use Rattle.gl_picture.specs.declared.picture.TheConstants.{HALF}
use Rattle.gl_picture.proofs.Drawing.{rows_all, rows_map}
use Rattle.gl_picture.proofs.drawn.rows_of.Goals.{then-lines+in_ok-add, else-lines+in_ok-add-2+in_ok-add-3}
use Rattle.gl_picture.proofs.drawn.rows_of.Goals as goal

pub returns-clause-rows : goal.returns-clause-rows
returns-clause-rows c =
    let lines = c.args.lines.now in
    let long : length (told_of lines) ≡ length lines = length-map lines told in
    elim c.if-lines.branch [
      | then-lines+in_ok-add w ↦
          (let is : c.if-lines.rows.items ≡ told_of lines = search rules in
          is ∙ sym (rows_all (told_of lines) (let few = w.if-lines.true in omega arith)))
      | else-lines+in_ok-add-2+in_ok-add-3 w ↦
          (let is : c.if-lines.rows.items ≡ told_of (take HALF lines) ++ told_of (drop (length lines - HALF) lines) = search rules in
          is ∙ rows_map told lines (let many = w.if-lines.false in omega arith))
    ]
