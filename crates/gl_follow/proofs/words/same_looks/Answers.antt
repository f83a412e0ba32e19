use Rattle.std.proofs.Common.{◌≡◌, ◌+◌, suc, ◌==◌, ◌&&◌, true, false, sym, ap, ◌∙◌, rules, arith, FitsSigned, w64}
use Rattle.std.specs.Ordering.{int_eq}
use Rattle.std.proofs.lemmas.Int.{to_z-of_z}
use Rattle.gl_follow.specs.Words.{look_word, pair_word}
use Rattle.gl_follow.proofs.WordLemmas.{longer_from, none_from, other_on, same_from, same_on, shorter_from}
use Rattle.gl_follow.proofs.words.same_looks.Goals as goal

pub returns-in-None-None : goal.returns-in-None-None
returns-in-None-None c =
    sym (none_from look_word pair_word c.args.looks.now c.args.words.now c.loop-i.i (sym c.at.ensures ∙ c.in-None-None.is-0)
    (sym c.at-in-loop-i.ensures ∙ c.in-None-None.is-1))
    ∙ c.loop-i.invariant

pub returns-in-Some-None : goal.returns-in-Some-None
returns-in-Some-None c =
    sym (longer_from look_word pair_word c.args.looks.now c.args.words.now c.loop-i.i c.in-Some-None.field-0-0 (sym c.at.ensures
    ∙ c.in-Some-None.is-0) (sym c.at-in-loop-i.ensures ∙ c.in-Some-None.is-1))
    ∙ c.loop-i.invariant

pub returns-in-Some-None-2 : goal.returns-in-Some-None-2
returns-in-Some-None-2 c =
    sym (shorter_from look_word pair_word c.args.looks.now c.args.words.now c.loop-i.i c.in-Some-None.field-0-1 (sym c.at.ensures
    ∙ c.in-Some-None.is-0) (sym c.at-in-loop-i.ensures ∙ c.in-Some-None.is-1))
    ∙ c.loop-i.invariant

pub returns-then-not-is_word : goal.returns-then-not-is_word
returns-then-not-is_word c =
    let a = c.in-Some-Some.look in
    let b = c.in-Some-Some.word in
    let fits : FitsSigned w64 a.value = search rules in
    let is : c.is_word.result ≡ (a.var == b.var && int_eq a.value b.value) = simp to_z-of_z at c.is_word.ensures in
    let other : c.is_word.result ≡ false = search rules in
    sym (other_on look_word pair_word c.args.looks.now c.args.words.now c.loop-i.i a b (sym c.at.ensures ∙ c.in-Some-Some.is-0)
    (sym c.at-in-loop-i.ensures ∙ c.in-Some-Some.is-1) (sym is ∙ other))
    ∙ c.loop-i.invariant

pub loop-i-preserved : goal.loop-i-preserved
loop-i-preserved c =
    let a = c.in-Some-Some.look in
    let b = c.in-Some-Some.word in
    let fits : FitsSigned w64 a.value = search rules in
    let is : c.is_word.result ≡ (a.var == b.var && int_eq a.value b.value) = simp to_z-of_z at c.is_word.ensures in
    let same : c.is_word.result ≡ true = search rules in
    let next : c.loop-i.i + 1 ≡ suc c.loop-i.i = omega arith in
    ap (same_from look_word pair_word c.args.looks.now c.args.words.now) next
    ∙ same_on look_word pair_word c.args.looks.now c.args.words.now c.loop-i.i a b (sym c.at.ensures ∙ c.in-Some-Some.is-0)
    (sym c.at-in-loop-i.ensures ∙ c.in-Some-Some.is-1) (sym is ∙ same)
    ∙ c.loop-i.invariant
