use Rattle.std.proofs.Common.{◌≡◌, refl, subst, rules}
use Rattle.std.specs.List.{list_any}
use Rattle.std.proofs.lemmas.Fn.{fold_over, slice_gives, fronts}
use Rattle.gl_text.specs.Text.{is_unprintable}
use Rattle.gl_text.proofs.WideLemmas.{any_more}
use Rattle.gl_text.proofs.wide.chunk_has_unprintable.Goals as goal

pub returns : goal.returns
returns c =
    subst (λ l. c.fold.result ≡ list_any is_unprintable l) c.iter.ensures.rest
    (fold_over fronts (λ y. y.now) _ (λ ys some. some ≡ list_any is_unprintable ys) _
    (λ ys a x b f' j k. let more = any_more is_unprintable ys x.now a b j in search rules)
    _ _ _ _ (slice_gives c.iter.result) refl c.fold.ensures.ran)
