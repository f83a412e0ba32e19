use Rattle.std.proofs.Common.{◌∙◌, ap, refl, subst, sym, rules}
use Rattle.std.proofs.lemmas.List.Elements.{All-push}
use Rattle.gl_draws.specs.RowFacts.{IsWithin}
use Rattle.gl_compare.specs.Kept.{AreWithin}
use Rattle.gl_compare.specs.Rows.{row_of}
use Rattle.gl_compare.proofs.RowSets.{row_push}
use Rattle.gl_compare.proofs.Within.{untouched_within}
use Rattle.gl_compare.proofs.rows.make_rows.Goals as goal

-- one row more
pub loop-preserved : goal.loop-preserved
loop-preserved c = record {
  count = let so_far = c.loop.invariant.count in let more = c.in_ok-push.ensures.items in search rules;
  within = λ n old. subst (AreWithin n) (sym c.in_ok-push.ensures.items)
      (All-push (λ row. IsWithin row n) c.loop.rows.items _ (c.loop.invariant.within n old) (untouched_within n));
  same = λ y. ap (λ rows. row_of rows y) c.in_ok-push.ensures.items ∙ row_push c.loop.rows.items _ y refl
      ∙ c.loop.invariant.same y;
}
