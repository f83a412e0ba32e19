use Rattle.std.proofs.Common.{◌≡◌, ◌≤◌, FitsSigned, None, Some, arith, length, rules, subst, sym, w64}
use Rattle.std.specs.Prelude.{slice_get}
use Rattle.std.proofs.lemmas.Int.{to_z-of_z}
use Rattle.gl_model.specs.declared.limits.TheConstants.{TX_VARIABLES}
use Rattle.gl_model.specs.declared.tx.Look.{Look}
use Rattle.gl_model.specs.Flat.{IsWordBelow}
use Rattle.gl_flat.proofs.RightLooks.{no_more, none_more, one_more}
use Rattle.gl_flat.proofs.Tables.{few_parts}
use Rattle.gl_flat.proofs.looks.looks_are_right.Goals as goal

pub returns-in_default : goal.returns-in_default
returns-in_default c = λ R are.
    let none : slice_get c.args.looks.now c.loop-i.i ≡ None = search rules in
    none_more (λ (l : Look). IsWordBelow R l.var l.nth l.value) c.args.looks.now c.loop-i.i (c.loop-i.invariant R are) none

pub loop-i-preserved : goal.loop-i-preserved
loop-i-preserved c = λ R are.
    let there : slice_get c.args.looks.now c.loop-i.i ≡ Some c.in-Some.look = sym c.in-Some.ensures in
    let fits : FitsSigned w64 c.in-Some.look.value = search rules in
    let right : IsWordBelow R c.in-Some.look.var c.in-Some.look.nth c.in-Some.look.value =
    subst (IsWordBelow R c.in-Some.look.var c.in-Some.look.nth) (to_z-of_z w64 c.in-Some.look.value fits)
    (c.if-not-is_word_below.ensures R are) in
    one_more (λ (l : Look). IsWordBelow R l.var l.nth l.value) c.args.looks.now c.loop-i.i
    (c.loop-i.invariant R are) c.in-Some.look there right

pub returns : goal.returns
returns c = λ R are.
    let few : length c.args.looks.now ≤ TX_VARIABLES = few_parts (λ (l : Look). l.var) c.args.looks.now c.keeps.ensures in
    let far : length c.args.looks.now ≤ c.loop-i.i = omega (arith, few, c.loop-i-test.false) in
    no_more (λ (l : Look). IsWordBelow R l.var l.nth l.value) c.args.looks.now c.loop-i.i (c.loop-i.invariant R are) far
