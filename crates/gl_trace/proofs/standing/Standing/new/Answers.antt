use Rattle.std.proofs.Common.{ℕ, ◌<◌, ◌≤◌, Option, None, false, IfSome, subst, sym}
use Rattle.std.proofs.lemmas.List.{get_or-replicate}
use Rattle.gl_model.specs.declared.limits.TheConstants.{THREADS, MONITORS}
use Rattle.gl_trace.proofs.standing.Standing.new.Goals as goal

pub returns-clause-tracks : goal.returns-clause-tracks
returns-clause-tracks c = record {
  forked = λ u h. get_or-replicate THREADS u false false h;
  ended = λ u h. get_or-replicate THREADS u false false h;
  holders = λ m h. get_or-replicate MONITORS m None None h;
}

pub returns-clause-within : goal.returns-clause-within
returns-clause-within c = λ m h. subst (λ (o : Option (ℕ × ℕ)). IfSome o (λ h. (0 < h.1) × (h.1 ≤ 0)))
    (sym (get_or-replicate MONITORS m None None h)) tt
