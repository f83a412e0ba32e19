-- No clause both holds and fails, and none fails first at two places.
use Rattle.std.proofs.Common.{arith}
use Rattle.gl_model.specs.Lists.{lists_of}
use Rattle.gl_bytecode.specs.Lawful.{setting_of}
use Rattle.gl_places.specs.Uses.{PositionFailsAt}
use Rattle.gl_places.proofs.First.{first_once}
use Rattle.gl_form.specs.Rules.{FormFailsAt, FormedExactly}
use Rattle.gl_listing.specs.Laws.{ListedExactly, NumberedExactly}
use Rattle.gl_listing.specs.Numbering.{NumberFailsAt}
use Rattle.gl_acts.specs.ActLaws.{OneActFailsFirst, RunsDoNotFail}
use Rattle.gl_flat.specs.Words.{FirstWordIsOne, LegalWhereWordsHold}
use Rattle.gl_raised.specs.RaceFaults.{RaceFailsAt}
use Rattle.gl_follow.specs.Beginnings.{ProgramFailsAt}
use Rattle.gl_audit.specs.Clauses.{OfForm, OfList, OfNumbers, OfMachine, OfRaces, OfWords, OfProgram}
use Rattle.gl_audit.specs.Findings.{ClausesAreApart, FirstPlacesAreOne}

-- where the clauses before it hold, no clause both holds and fails
pub apart : FormedExactly → ListedExactly → NumberedExactly → RunsDoNotFail → LegalWhereWordsHold → FirstWordIsOne → ClausesAreApart
apart formed listed numbered runs legal words P inputs steps made OfForm c kept below says fails = (formed (lists_of made)).0 says c fails.0
apart formed listed numbered runs legal words P inputs steps made OfList c kept below says fails = (listed made kept).0 says c fails.0
apart formed listed numbered runs legal words P inputs steps made OfNumbers c kept below says fails =
    (numbered made kept (below OfForm (omega arith))).0 says c fails.0
apart formed listed numbered runs legal words P inputs steps made OfMachine c kept below says fails =
    runs (setting_of P inputs) (lists_of made) c says fails
apart formed listed numbered runs legal words P inputs steps made OfRaces c kept below says fails =
    (let f = fails.0 in f.2 (says c f.0 f.1))
apart formed listed numbered runs legal words P inputs steps made OfWords c kept below says fails =
    let machine = below OfMachine (omega arith) in
    let holds = (legal made kept (below OfForm (omega arith)) (setting_of P inputs) machine.0 machine.1 machine.2).0 says in
    words.none (lists_of made) c fails holds
apart formed listed numbered runs legal words P inputs steps made OfProgram c kept below says fails =
    (let f = fails.0 in f.1.not_whole (says c.thread f.0))

-- where the clauses before it hold, no clause fails first at two places
pub once : OneActFailsFirst → FirstWordIsOne → FirstPlacesAreOne
once acts words P inputs steps made OfForm c d kept below one other = first_once (FormFailsAt (lists_of made)) c d one other
once acts words P inputs steps made OfList c d kept below one other = first_once (PositionFailsAt made) c d one other
once acts words P inputs steps made OfNumbers c d kept below one other = first_once (NumberFailsAt made) c d one other
once acts words P inputs steps made OfMachine c d kept below one other =
    acts (setting_of P inputs) (lists_of made) (below OfList (omega arith)) c d one other
once acts words P inputs steps made OfRaces c d kept below one other = first_once (RaceFailsAt (lists_of made)) c d one other
once acts words P inputs steps made OfWords c d kept below one other =
    words.one_place (lists_of made) (below OfForm (omega arith)) (below OfList (omega arith)) c d one other
once acts words P inputs steps made OfProgram c d kept below one other = first_once (ProgramFailsAt P steps (lists_of made)) c d one other
