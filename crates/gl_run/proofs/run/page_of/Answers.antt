use Rattle.std.proofs.Common.{refl}
use Rattle.gl_run.proofs.FewVariables.{run_names_few}
use Rattle.gl_run.proofs.run.page_of.Goals as goal

-- a run's transactions name few variables, so its journal is read back
pub returns-clause-answer : goal.returns-clause-answer
returns-clause-answer c = λ program inputs run. record {
  made = c.args.sealed;
  run = run;
  status_is = c.in_ok-status.ensures.status;
  bytes_are = c.in_ok-status.ensures.text;
  read_back = c.in_ok-status.ensures.read_back run.is
      (run_names_few program inputs c.args.asked.threads c.args.sealed run);
  kept_is = refl;
}
