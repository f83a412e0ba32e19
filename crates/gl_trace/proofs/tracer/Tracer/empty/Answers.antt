use Rattle.std.proofs.Common.{ℕ, false, ap, refl, arith}
use Rattle.std.proofs.lemmas.List.{get_or-replicate}
use Rattle.gl_model.specs.Lists.{lists_of}
use Rattle.gl_model.specs.declared.limits.TheConstants.{THREADS, VARIABLES}
use Rattle.gl_trace.proofs.tracer.Tracer.empty.Goals as goal

pub returns-clause-traces : goal.returns-clause-traces
returns-clause-traces c = record {
  lists = λ t. ap (λ l. lists_of l t) c.empty.ensures;
  next = refl;
  numbers = λ x h. get_or-replicate VARIABLES x 0 0 h;
  ended = λ u h. get_or-replicate THREADS u false false h;
}

pub returns-clause-most : goal.returns-clause-most
returns-clause-most c = record {
  next = omega arith;
  numbers = λ x h. omega (arith, get_or-replicate {A = ℕ} VARIABLES x 0 0 h);
}
