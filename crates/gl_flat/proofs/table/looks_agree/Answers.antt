use Rattle.std.proofs.Common.{◌≡◌, ◌<◌, Some, sym, arith}
use Rattle.std.specs.Prelude.{slice_get}
use Rattle.std.proofs.lemmas.Option.{slice_get_within}
use Rattle.gl_model.specs.declared.limits.TheConstants.{VARIABLES}
use Rattle.gl_model.specs.declared.tx.Look.{Look}
use Rattle.gl_flat.proofs.Tables.{few_parts, kept_part}
use Rattle.gl_flat.proofs.table.looks_agree.Goals as goal

pub bounds-words-look : goal.bounds-words-look
bounds-words-look c =
    let there : slice_get c.args.looks.now c.loop-i.i ≡ Some c.in-Some.look = sym c.in-Some.ensures in
    let kept : c.in-Some.look.var < VARIABLES = kept_part
    (λ (l : Look). l.var) VARIABLES c.args.looks.now c.loop-i.i c.in-Some.look c.keeps.ensures.2 there in
    omega (arith, kept, c.requires)

pub returns : goal.returns
returns c = λ k l at. c.loop-i.invariant k l (omega (
  arith,
  slice_get_within c.args.looks.now k l at,
  few_parts (λ (l : Look). l.var) c.args.looks.now c.keeps.ensures,
  c.loop-i-test.false,
)) at
