use Rattle.std.proofs.Common.{◌≡◌, ◌++◌, ◌∙◌, ap, subst}
use Rattle.std.specs.Prelude.{codes, OnOk}
use Rattle.gl_picture.specs.declared.picture.Spot.{Spot}
use Rattle.gl_picture.specs.Shapes.{spot_of, circle_text, line_text}
use Rattle.gl_picture.specs.Texts.{cell_at, race_text}
use Rattle.gl_picture.proofs.Joining.{three}
use Rattle.gl_picture.proofs.text.push_race.Goals as goal

pub returns : goal.returns
unfolding race_text
returns c =
    let p = c.args.p.now in
    let out = c.args.out.now.items in
    let a = spot_of (cell_at p p.other) in
    let b = spot_of (cell_at p p.race) in
    let one : c.spot_of-other.result ≡ a = c.spot_of-other.ensures ∙ ap spot_of c.cell_at.ensures in
    let other : c.spot_of-race.result ≡ b = c.spot_of-race.ensures ∙ ap spot_of c.cell_at-2.ensures in
    let line = line_text (codes "class='race'") in
    let ring = circle_text (codes "class='mark' r='9'") in
    three c.push_circle-2.result out c.push_line.new.out.items c.push_circle.new.out.items c.push_circle-2.new.out.items
    (line a b) (ring a) (ring b)
    (c.in_ok-push_line.ensures ∙ ap (λ (s : Spot). out ++ line s c.spot_of-race.result) one ∙ ap (λ (s : Spot). out ++ line a s) other)
    (c.in_ok-push_circle.ensures ∙ ap (λ (s : Spot). c.push_line.new.out.items ++ ring s) one)
    (subst (λ (s : Spot). OnOk c.push_circle-2.result (c.push_circle-2.new.out.items ≡ c.push_circle.new.out.items ++ ring s)) other
    c.push_circle-2.ensures)
