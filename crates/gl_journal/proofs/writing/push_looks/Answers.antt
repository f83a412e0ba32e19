use Rattle.std.proofs.Common.{◌≡◌, ◌++◌, Some, codes, string_bytes, slice_get, sym, arith, rules}
use Rattle.gl_model.specs.declared.tx.Look.{Look}
use Rattle.gl_journal.specs.Written.{IsValue}
use Rattle.std.proofs.lemmas.Option.{slice_get_within}
use Rattle.gl_journal.specs.Rows.{look_word}
use Rattle.gl_journal.proofs.WrittenLists.{all_first, all_more, push_first, push_more}
use Rattle.gl_journal.proofs.writing.push_looks.Goals as goal

pub loop-i-preserved : goal.loop-i-preserved
loop-i-preserved c =
    let parts = c.args.looks.now in
    let i = c.loop-i.i in
    let part = c.in-Some-at.look in
    let there : slice_get parts i ≡ Some part = sym c.in-Some-at.ensures in
    let comma : string_bytes c.write-in-loop-i.new.self ≡ string_bytes c.loop-i.out ++ codes "," = search rules in (
      omega (arith, slice_get_within parts i part there),
      push_more look_word parts i part (string_bytes c.args.out.now) (string_bytes c.loop-i.out) (string_bytes c.write-in-loop-i.new.self)
          (string_bytes c.push_look-in-loop-i.new.out) (omega arith) there c.loop-i.invariant.1 comma c.in_ok-push_look-2.ensures.text,
      all_more (λ (p : Look). IsValue p.value) parts i part there c.push_look-in-loop-i.ensures.typed c.loop-i.invariant.2,
    )

pub loop-i-init : goal.loop-i-init
loop-i-init c =
    let parts = c.args.looks.now in
    let first = c.in-Some.first in
    let there : slice_get parts 0 ≡ Some first = sym c.in-Some.ensures in
    let text = push_first look_word parts first (string_bytes c.args.out.now) (string_bytes c.push_look.new.out) there
    c.in_ok-push_look.ensures.text in
    (text.0, text.1, all_first (λ (p : Look). IsValue p.value) parts first there c.push_look.ensures.typed)
