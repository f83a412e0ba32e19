use Rattle.std.proofs.Common.{◌<◌, sym, arith}
use Rattle.std.proofs.lemmas.Option.{slice_get_within}
use Rattle.gl_model.specs.declared.limits.TheConstants.{VARIABLES}
use Rattle.gl_model.specs.declared.tx.Number.{Number}
use Rattle.gl_raised.proofs.Numbered.{all_at, named_more}
use Rattle.gl_raised.proofs.rows.named.Goals as goal

pub insert-requires : goal.insert-requires
insert-requires c = all_at (λ x. x < VARIABLES) (λ (n : Number). n.var) c.args.numbers.now c.keeps.ensures.2 c.loop-i.i c.in-Some.number
    (sym c.in-Some.ensures)

pub loop-i-preserved : goal.loop-i-preserved
loop-i-preserved c =
    let there = sym c.in-Some.ensures in record {
      within = omega (arith, slice_get_within c.args.numbers.now c.loop-i.i c.in-Some.number there);
      so_far = named_more c.args.numbers.now c.keeps.ensures.1 c.loop-i.i c.in-Some.number c.loop-i.all c.insert.new.self there
          c.loop-i.invariant.so_far c.in-Ok.ensures.ok;
    }
