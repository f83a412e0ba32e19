use Rattle.std.proofs.Common.{◌≡◌, ◌<◌, ℕ, sym, ap, subst, ◌∙◌}
use Rattle.std.specs.Prelude.{Contains, slice_index}
use Rattle.gl_model.specs.Elements.{IsStampInRange}
use Rattle.gl_rule.specs.Cells.{packed}
use Rattle.gl_rule.specs.Fitting.{MayWalk}
use Rattle.gl_rule.specs.View.{CellWord, saw_cell}
use Rattle.gl_table.specs.PassView.{PassView, view_of}
use Rattle.gl_table.specs.Walking.{word_at, saw_word, four_words, knew}
use Rattle.gl_table.proofs.FiveWords.{five_stand}
use Rattle.gl_table.proofs.walking.event_at.Goals as goal

abbrev May : ℕ → PassView → Type 0
May pos q = (pos < q.seen) × MayWalk (view_of q) pos

pub see_word-b-requires-clause-may : goal.see_word-b-requires-clause-may
see_word-b-requires-clause-may c = subst (May c.args.pos) (sym c.see_word-a.ensures.pass) c.requires.may

pub see_word-c-requires-clause-may : goal.see_word-c-requires-clause-may
see_word-c-requires-clause-may c =
    let p = c.args.pos in
    let is = c.see_word-b.ensures.pass ∙ ap (λ q. saw_word q p 1 c.see_word-b.result) c.see_word-a.ensures.pass in
    subst (May p) (sym is) c.requires.may

pub see_word-d-requires-clause-may : goal.see_word-d-requires-clause-may
see_word-d-requires-clause-may c =
    let p = c.args.pos in
    let is = c.see_word-c.ensures.pass ∙ ap (λ q. saw_word q p 2 c.see_word-c.result) (c.see_word-b.ensures.pass
    ∙ ap (λ q. saw_word q p 1 c.see_word-b.result) c.see_word-a.ensures.pass) in
    subst (May p) (sym is) c.requires.may

pub see_event-e-requires-clause-may : goal.see_event-e-requires-clause-may
see_event-e-requires-clause-may c =
    let p = c.args.pos in
    let is = c.see_word-d.ensures.pass ∙ ap (λ q. saw_word q p 3 c.see_word-d.result) (c.see_word-c.ensures.pass
    ∙ ap (λ q. saw_word q p 2 c.see_word-c.result) (c.see_word-b.ensures.pass
    ∙ ap (λ q. saw_word q p 1 c.see_word-b.result) c.see_word-a.ensures.pass)) in
    subst (May p) (sym is) c.requires.may

pub unpack-requires-clause-stands : goal.unpack-requires-clause-stands
unpack-requires-clause-stands c =
    let p = c.args.pos in
    let is = c.see_word-d.ensures.pass ∙ ap (λ q. saw_word q p 3 c.see_word-d.result) (c.see_word-c.ensures.pass
    ∙ ap (λ q. saw_word q p 2 c.see_word-c.result) (c.see_word-b.ensures.pass
    ∙ ap (λ q. saw_word q p 1 c.see_word-b.result) c.see_word-a.ensures.pass)) in
    let e = c.see_event-e.ensures.event in (
      e.0,
      e.1,
      e.2,
      five_stand c.args.pass.now p _ _ _ _ _ e.0
          (subst (λ (q : PassView). (r : CellWord) → Contains (saw_cell (view_of q) (word_at p 4 c.see_event-e.result)).loaded r
          → r.position
          ≡ p → r.word ≡ slice_index (packed e.0) r.index) is e.3),
    )

pub returns-clause-pass : goal.returns-clause-pass
returns-clause-pass c =
    let p = c.args.pos in
    let is = c.see_word-d.ensures.pass ∙ ap (λ q. saw_word q p 3 c.see_word-d.result) (c.see_word-c.ensures.pass
    ∙ ap (λ q. saw_word q p 2 c.see_word-c.result) (c.see_word-b.ensures.pass
    ∙ ap (λ q. saw_word q p 1 c.see_word-b.result) c.see_word-a.ensures.pass)) in
    let e = c.see_event-e.ensures.event in
    let words = five_stand c.args.pass.now p _ _ _ _ _ e.0
    (subst (λ (q : PassView). (r : CellWord) → Contains (saw_cell (view_of q) (word_at p 4 c.see_event-e.result)).loaded r → r.position
    ≡ p → r.word ≡ slice_index (packed e.0) r.index) is e.3) in
    let x = c.unpack.ensures e.0 e.1 e.2 words in (
      c.see_word-a.result,
      c.see_word-b.result,
      c.see_word-c.result,
      c.see_word-d.result,
      c.see_event-e.result,
      e.4 ∙ ap (λ q. knew q p c.see_event-e.result e.0) is
          ∙ ap (λ s. knew (four_words c.args.pass.now p c.see_word-a.result c.see_word-b.result c.see_word-c.result c.see_word-d.result) p
          c.see_event-e.result s) (sym x),
    )

pub returns-clause-range : goal.returns-clause-range
returns-clause-range c =
    let p = c.args.pos in
    let is = c.see_word-d.ensures.pass ∙ ap (λ q. saw_word q p 3 c.see_word-d.result) (c.see_word-c.ensures.pass
    ∙ ap (λ q. saw_word q p 2 c.see_word-c.result) (c.see_word-b.ensures.pass
    ∙ ap (λ q. saw_word q p 1 c.see_word-b.result) c.see_word-a.ensures.pass)) in
    let e = c.see_event-e.ensures.event in
    let words = five_stand c.args.pass.now p _ _ _ _ _ e.0
    (subst (λ (q : PassView). (r : CellWord) → Contains (saw_cell (view_of q) (word_at p 4 c.see_event-e.result)).loaded r → r.position
    ≡ p → r.word ≡ slice_index (packed e.0) r.index) is e.3) in
    subst IsStampInRange (sym (c.unpack.ensures e.0 e.1 e.2 words)) e.1
