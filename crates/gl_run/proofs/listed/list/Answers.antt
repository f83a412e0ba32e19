use Rattle.std.proofs.Common.{inl, refl}
use Rattle.gl_run.proofs.listed.list.Goals as goal

pub returns-in_ok-list-in-Ok-clause-answer : goal.returns-in_ok-list-in-Ok-clause-answer
returns-in_ok-list-in-Ok-clause-answer c =
    let assembled = c.in-Ok.assembled in
    let listed = c.in_ok-list-in-Ok.ensures in
    inl (record {
      program = assembled.program;
      inputs = assembled.inputs;
      meaning = c.in-Ok.ensures.ok;
      status_is = refl;
      bytes_are = listed.listing;
      again = listed.text;
      kept_is = refl;
    })
