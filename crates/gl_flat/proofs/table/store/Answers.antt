use Rattle.std.proofs.Common.{◌≡◌, ◌<◌, Some, length, sym, arith, rules, FitsSigned, w64}
use Rattle.std.proofs.lemmas.Int.{to_z-of_z}
use Rattle.std.specs.Prelude.{slice_get}
use Rattle.gl_model.specs.declared.limits.TheConstants.{VARIABLES}
use Rattle.gl_model.specs.declared.tx.Pair.{Pair}
use Rattle.gl_flat.proofs.Tables.{kept_part, store_step}
use Rattle.gl_flat.proofs.table.store.Goals as goal

pub bounds-words-write : goal.bounds-words-write
bounds-words-write c =
    let there : slice_get c.args.writes.now c.loop-i.i ≡ Some c.in-Some.write = sym c.in-Some.ensures in
    let kept : c.in-Some.write.var < VARIABLES = kept_part
    (λ (w : Pair). w.var) VARIABLES c.args.writes.now c.loop-i.i c.in-Some.write c.keeps.ensures.2 there in
    let size : length c.loop-i.words ≡ VARIABLES = omega (arith, c.requires, c.loop-i.auto.words) in
    omega (arith, kept, size)

pub loop-i-preserved : goal.loop-i-preserved
loop-i-preserved c =
    let there : slice_get c.args.writes.now c.loop-i.i ≡ Some c.in-Some.write = sym c.in-Some.ensures in
    let kept : c.in-Some.write.var < VARIABLES = kept_part
    (λ (w : Pair). w.var) VARIABLES c.args.writes.now c.loop-i.i c.in-Some.write c.keeps.ensures.2 there in
    let size : length c.loop-i.words ≡ VARIABLES = omega (arith, c.requires, c.loop-i.auto.words) in
    let fits : FitsSigned w64 c.in-Some.write.value = search rules in
    simp to_z-of_z (store_step c.loop-i.words c.args.words.now c.args.writes.now c.loop-i.i c.in-Some.write size kept there
    c.loop-i.invariant)
