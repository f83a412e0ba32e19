use Rattle.std.proofs.Common.{◌≡◌, ◌++◌, ◌∙◌, ℕ, List, ap, subst}
use Rattle.std.specs.Prelude.{codes, OnOk}
use Rattle.std.specs.Fmt.{decimal}
use Rattle.gl_explain.specs.Phrases.{item_text}
use Rattle.gl_names.specs.Names.{name_of}
use Rattle.gl_picture.specs.declared.picture.Spot.{Spot}
use Rattle.gl_picture.specs.Shapes.{spot_of, circle_text, words_text, y_of}
use Rattle.gl_picture.specs.Texts.{cell_of, row_text}
use Rattle.gl_picture.proofs.Joining.{three}
use Rattle.gl_picture.proofs.text.push_row.Goals as goal

pub returns : goal.returns
unfolding row_text
returns c =
    let r = c.args.row.now in
    let out = c.args.out.now.items in
    let point : Spot = spot_of (cell_of c.args.columns.now r) in
    let there : c.spot_of-point.result ≡ point = c.spot_of-point.ensures ∙ ap spot_of c.cell_of.ensures in
    let label = item_text (name_of c.args.names.now) r.told.item in
    let number : c.as_bytes.result.now ≡ decimal r.told.line = c.as_bytes.ensures.value ∙ c.format-number.ensures.text in
    let said : c.as_bytes-2.result.now ≡ label = c.as_bytes-2.ensures.value ∙ c.in_ok-label.ensures in
    let line : ℕ → List ℕ → List ℕ = λ y words. words_text (codes "class='line' dy='4'") (record { x = 60; y = y }) words in
    let words : Spot → List ℕ → List ℕ = words_text (codes "dx='16' dy='4'") in
    three c.push_words-2.result out c.push_words.new.out.items c.push_circle.new.out.items c.push_words-2.new.out.items
    (line (y_of r.slot) (decimal r.told.line)) (circle_text (codes "r='4'") point) (words point label)
    (c.in_ok-push_words.ensures ∙ ap (λ y. out ++ line y c.as_bytes.result.now) c.y_of-y.ensures ∙ ap (λ t. out ++ line
    (y_of r.slot) t) number)
    (c.in_ok-push_circle.ensures ∙ ap (λ (s : Spot). c.push_words.new.out.items ++ circle_text (codes "r='4'") s) there)
    (subst (λ (s : Spot). OnOk c.push_words-2.result (c.push_words-2.new.out.items ≡ c.push_circle.new.out.items ++ words s label)) there
    (subst (λ t. OnOk c.push_words-2.result (c.push_words-2.new.out.items ≡ c.push_circle.new.out.items ++ words
    c.spot_of-point.result t)) said
    c.push_words-2.ensures))
