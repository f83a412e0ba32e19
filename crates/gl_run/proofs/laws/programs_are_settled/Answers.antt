use Rattle.gl_run.proofs.OneProgram.{listings_apart, listings_one, runs_apart, runs_lawful, runs_told}
use Rattle.gl_run.proofs.laws.programs_are_settled.Goals as goal

pub returns-clause-listings : goal.returns-clause-listings
returns-clause-listings c = let meaning = c.one_meaning.ensures in listings_one meaning.apart meaning.faults meaning.texts

pub returns-clause-listings_apart : goal.returns-clause-listings_apart
returns-clause-listings_apart c = let meaning = c.one_meaning.ensures in listings_apart meaning.apart meaning.faults meaning.texts

pub returns-clause-runs : goal.returns-clause-runs
returns-clause-runs c = let meaning = c.one_meaning.ensures in runs_told meaning.apart meaning.faults

pub returns-clause-runs_apart : goal.returns-clause-runs_apart
returns-clause-runs_apart c = let meaning = c.one_meaning.ensures in runs_apart meaning.apart meaning.faults

pub returns-clause-lawful : goal.returns-clause-lawful
returns-clause-lawful c = runs_lawful
