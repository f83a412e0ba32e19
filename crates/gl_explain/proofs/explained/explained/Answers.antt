use Rattle.std.proofs.Common.{◌+◌, ℕ, length, get_or, arith, subst, sym, Some}
use Rattle.std.specs.Prelude.{◌↔◌}
use Rattle.std.proofs.lemmas.List.{length-take-le, length-map}
use Rattle.std.proofs.lemmas.Option.{slice_get-get_or}
use Rattle.gl_explain.specs.declared.told.Kept.{Kept}
use Rattle.gl_explain.specs.Explained.{IsLearnt}
use Rattle.gl_explain.specs.Owned.{AreOwned}
use Rattle.gl_explain.specs.Races.{Counts, IsCulprit, IsPassed, IsUnknown}
use Rattle.gl_explain.specs.Told.{told_of}
use Rattle.gl_explain.proofs.Behind.{get_taken, told_taken, map_there, told}
use Rattle.gl_explain.proofs.Counting.{counts_same, last_same, last_told_same}
use Rattle.gl_explain.proofs.explained.explained.Goals as goal

pub last_culprit-place-requires : goal.last_culprit-place-requires
last_culprit-place-requires c = let s = c.requires.some in (s.0, (c.requires.tells.culprits c.args.var s.0).1 s.1)

pub slice_bounds-owned-end : goal.slice_bounds-owned-end
slice_bounds-owned-end c = sym (length-take-le c.last_culprit-place.result.place c.args.kept.now (let n = c.last_culprit-place.ensures.near
    in omega arith))

pub owned-requires-2-clause-lines : goal.owned-requires-2-clause-lines
owned-requires-2-clause-lines c = λ i k at. c.requires.lines i k (get_taken c.last_culprit-place.result.place c.args.kept.now i k at)

pub returns-clause-right : goal.returns-clause-right
returns-clause-right c =
    let kept = c.args.kept.now in
    let r = c.last_culprit-place.result in
    let e = c.last_culprit-place.ensures in
    let k : Kept = get_or kept r.place c.index-kept-place.result in
    let P : ℕ → Type 0 = IsUnknown kept c.args.at.now c.args.var c.args.known.now in
    let Q : ℕ → Type 0 = IsCulprit (told_of kept) c.args.at.now c.args.var in
    let L : ℕ → Type 0 = IsLearnt (told_of kept) c.args.at.now k.told.thread in
    let same : (i : ℕ) → P i ↔ Q i = c.requires.tells.culprits c.args.var in
    record {
      raised = c.requires.raised;
      there = map_there told kept r.place k (slice_get-get_or kept r.place c.index-kept-place.result e.near);
      culprit = last_same P Q (Some r.place) same e.last;
      others = subst (λ n. Counts Q n (r.others + 1)) (sym (length-map kept told))
          (counts_same P Q same (length kept) (r.others + 1) e.count);
      owned = c.in_ok-owned_here.ensures;
      other_owned = subst (λ b. AreOwned b k.told.thread c.in_ok-other_owned.other_owned.items) (told_taken r.place kept)
          c.in_ok-other_owned.ensures;
      handed = c.first_handed.ensures;
      learnt = last_told_same (IsPassed kept k.told.thread c.tick_of.result) L (told_of kept) c.last_learnt.result
          (λ i. subst (λ n. IsPassed kept k.told.thread n i ↔ L i) (sym c.tick_of.ensures) (c.requires.tells.learnts k.told.thread i))
          c.last_learnt.ensures;
    }
