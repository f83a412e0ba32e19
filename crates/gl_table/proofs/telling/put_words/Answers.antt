use Rattle.std.proofs.Common.{◌<◌, List, ℕ, length, take, sym, refl, subst, arith, ◌∙◌}
use Rattle.std.proofs.lemmas.List.{take_more, length-take-le}
use Rattle.gl_rule.specs.Fitting.{MayStoreWord}
use Rattle.gl_table.specs.CaughtUp.{caught_up}
use Rattle.gl_table.specs.KeyOf.{key_of}
use Rattle.gl_rule.specs.Objects.{Key}
use Rattle.gl_rule.specs.View.{View, Held, filled}
use Rattle.gl_table.proofs.Passes.{words_next}
use Rattle.gl_table.proofs.telling.put_words.Goals as goal

store_at : (key : Key) (u : View) (h : Held) (tail : ℕ) (k : List ℕ) → MayStoreWord key u h tail → length k < 5
    → MayStoreWord key (filled u k) h tail
store_at key u h tail k may few = record {
  held = may.held;
  list = may.list;
  saw = may.saw;
  low = may.low;
  read = may.read;
  room = may.room;
  few = few;
}

pub put_word-requires-clause-may : goal.put_word-requires-clause-may
put_word-requires-clause-may c =
    let m = c.requires.may in
    let i = c.loop-i.invariant in
    let five = c.requires.five in
    let test = c.loop-i-test.true in
    let few : length (take c.loop-i.i c.args.words.now) < 5 = omega (arith, length-take-le c.loop-i.i c.args.words.now (omega arith)) in (
      m.held,
      m.tail,
      subst (λ (v : View). MayStoreWord (key_of c.args.board.now.key) v m.held m.tail) (sym i.4)
          (store_at _ _ m.held m.tail (take c.loop-i.i c.args.words.now) m.may few),
      m.here,
    )

pub put_word-requires-clause-near : goal.put_word-requires-clause-near
put_word-requires-clause-near c = let five = c.requires.five in let test = c.loop-i-test.true
    in (c.requires.near.0, c.requires.near.1, omega arith)

pub loop-i-preserved : goal.loop-i-preserved
loop-i-preserved c =
    let i = c.loop-i.invariant in
    let w = words_next c.loop-i.seat.me.0 (caught_up c.args.seat.now.me.0 c.args.id c.args.mine.now.entries) c.loop-i.seat.me.1 c.args.id
    c.args.mine.now.entries c.loop-i.i _ c.args.words.now _ c.requires.ready.named refl i.4 c.put_word.ensures.put
    (sym (take_more c.args.words.now c.loop-i.i 0 c.loop-i-test.true)) in
    (c.put_word.ensures.seat.0 ∙ i.0, c.put_word.ensures.seat.1 ∙ i.1, w.0 ∙ i.2, w.1, w.2)
