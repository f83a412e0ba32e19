use Rattle.std.proofs.lemmas.Option.{MatchOption-at_none}
use Rattle.gl_bytecode.specs.Lawful.{setting_of}
use Rattle.gl_audit.specs.Clauses.{OfForm, OfList, OfNumbers, OfMachine, OfRaces, OfWords, OfProgram}
use Rattle.gl_audit.proofs.Composing.{act_at, below_first, below_list, below_machine, below_numbers, below_program, below_races, below_words, first_at, first_at_some, found, found_lawful, holds_at, runs_at}
use Rattle.gl_audit.proofs.whole.audit.Goals as goal

pub returns-in-Some : goal.returns-in-Some
returns-in-Some c =
    let first = first_at c.args.program.now c.args.inputs.now c.args.steps c.args.made.now OfForm _ c.in_ok-place.field-0 c.in-Some.place
    c.in_ok-place.ensures c.in-Some.is in
    found c.args.program.now c.args.inputs.now c.args.steps c.args.made.now OfForm c.in-Some.place c.fails.result c.fails.ensures
    (below_first c.args.program.now c.args.inputs.now c.args.steps c.args.made.now) first

pub returns-in-Some-2 : goal.returns-in-Some-2
returns-in-Some-2 c =
    let form = holds_at c.args.program.now c.args.inputs.now c.args.steps c.args.made.now OfForm c.in_ok-place.field-0
    c.in_ok-place.ensures c.in_default.is in
    let first = first_at c.args.program.now c.args.inputs.now c.args.steps c.args.made.now OfList _ c.in_ok-place-2.field-0
    c.in-Some-2.place c.in_ok-place-2.ensures c.in-Some-2.is in
    found c.args.program.now c.args.inputs.now c.args.steps c.args.made.now OfList c.in-Some-2.place c.fails-in-Some-2.result
    c.fails-in-Some-2.ensures
    (below_list c.args.program.now c.args.inputs.now c.args.steps c.args.made.now form) first

pub returns-in-Some-3 : goal.returns-in-Some-3
returns-in-Some-3 c =
    let form = holds_at c.args.program.now c.args.inputs.now c.args.steps c.args.made.now OfForm c.in_ok-place.field-0
    c.in_ok-place.ensures c.in_default.is in
    let list = holds_at c.args.program.now c.args.inputs.now c.args.steps c.args.made.now OfList c.in_ok-place-2.field-0
    c.in_ok-place-2.ensures c.in_default-2.is in
    let first = first_at c.args.program.now c.args.inputs.now c.args.steps c.args.made.now OfNumbers _ c.in_ok-place-3.field-0
    c.in-Some-3.place c.in_ok-place-3.ensures c.in-Some-3.is in
    found c.args.program.now c.args.inputs.now c.args.steps c.args.made.now OfNumbers c.in-Some-3.place c.fails-in-Some-3.result
    c.fails-in-Some-3.ensures
    (below_numbers c.args.program.now c.args.inputs.now c.args.steps c.args.made.now form list) first

pub returns-in-Some-4 : goal.returns-in-Some-4
returns-in-Some-4 c =
    let form = holds_at c.args.program.now c.args.inputs.now c.args.steps c.args.made.now OfForm c.in_ok-place.field-0
    c.in_ok-place.ensures c.in_default.is in
    let list = holds_at c.args.program.now c.args.inputs.now c.args.steps c.args.made.now OfList c.in_ok-place-2.field-0
    c.in_ok-place-2.ensures c.in_default-2.is in
    let numbers = holds_at c.args.program.now c.args.inputs.now c.args.steps c.args.made.now OfNumbers c.in_ok-place-3.field-0
    c.in_ok-place-3.ensures c.in_default-3.is in
    let first = act_at c.args.program.now c.args.inputs.now c.args.steps c.args.made.now c.in_ok-place-4.field-0 c.in-Some-4.place
    c.in_ok-place-4.ensures c.in-Some-4.is in
    found c.args.program.now c.args.inputs.now c.args.steps c.args.made.now OfMachine c.in-Some-4.place c.fails-in-Some-4.result
    c.fails-in-Some-4.ensures
    (below_machine c.args.program.now c.args.inputs.now c.args.steps c.args.made.now form list numbers) first

pub returns-in-Some-5 : goal.returns-in-Some-5
returns-in-Some-5 c =
    let form = holds_at c.args.program.now c.args.inputs.now c.args.steps c.args.made.now OfForm c.in_ok-place.field-0
    c.in_ok-place.ensures c.in_default.is in
    let list = holds_at c.args.program.now c.args.inputs.now c.args.steps c.args.made.now OfList c.in_ok-place-2.field-0
    c.in_ok-place-2.ensures c.in_default-2.is in
    let numbers = holds_at c.args.program.now c.args.inputs.now c.args.steps c.args.made.now OfNumbers c.in_ok-place-3.field-0
    c.in_ok-place-3.ensures c.in_default-3.is in
    let machine = runs_at c.args.program.now c.args.inputs.now c.args.steps c.args.made.now c.in_ok-place-4.field-0 c.in_ok-place-4.ensures
    c.in_default-4.is in
    let first = first_at c.args.program.now c.args.inputs.now c.args.steps c.args.made.now OfRaces _ c.in_ok-place-5.field-0
    c.in-Some-5.place c.in_ok-place-5.ensures c.in-Some-5.is in
    found c.args.program.now c.args.inputs.now c.args.steps c.args.made.now OfRaces c.in-Some-5.place c.fails-in-Some-5.result
    c.fails-in-Some-5.ensures
    (below_races c.args.program.now c.args.inputs.now c.args.steps c.args.made.now form list numbers machine) first

pub returns-in-Some-6 : goal.returns-in-Some-6
returns-in-Some-6 c =
    let form = holds_at c.args.program.now c.args.inputs.now c.args.steps c.args.made.now OfForm c.in_ok-place.field-0
    c.in_ok-place.ensures c.in_default.is in
    let list = holds_at c.args.program.now c.args.inputs.now c.args.steps c.args.made.now OfList c.in_ok-place-2.field-0
    c.in_ok-place-2.ensures c.in_default-2.is in
    let numbers = holds_at c.args.program.now c.args.inputs.now c.args.steps c.args.made.now OfNumbers c.in_ok-place-3.field-0
    c.in_ok-place-3.ensures c.in_default-3.is in
    let machine = runs_at c.args.program.now c.args.inputs.now c.args.steps c.args.made.now c.in_ok-place-4.field-0 c.in_ok-place-4.ensures
    c.in_default-4.is in
    let races = holds_at c.args.program.now c.args.inputs.now c.args.steps c.args.made.now OfRaces c.in_ok-place-5.field-0
    c.in_ok-place-5.ensures c.in_default-5.is in
    let first = first_at c.args.program.now c.args.inputs.now c.args.steps c.args.made.now OfWords _ c.in_ok-place-6.field-0
    c.in-Some-6.place c.in_ok-place-6.ensures.first c.in-Some-6.is in
    found c.args.program.now c.args.inputs.now c.args.steps c.args.made.now OfWords c.in-Some-6.place c.fails-in-Some-6.result
    c.fails-in-Some-6.ensures
    (below_words c.args.program.now c.args.inputs.now c.args.steps c.args.made.now form list numbers machine races) first

pub returns-in-Some-7 : goal.returns-in-Some-7
returns-in-Some-7 c =
    let form = holds_at c.args.program.now c.args.inputs.now c.args.steps c.args.made.now OfForm c.in_ok-place.field-0
    c.in_ok-place.ensures c.in_default.is in
    let list = holds_at c.args.program.now c.args.inputs.now c.args.steps c.args.made.now OfList c.in_ok-place-2.field-0
    c.in_ok-place-2.ensures c.in_default-2.is in
    let numbers = holds_at c.args.program.now c.args.inputs.now c.args.steps c.args.made.now OfNumbers c.in_ok-place-3.field-0
    c.in_ok-place-3.ensures c.in_default-3.is in
    let machine = runs_at c.args.program.now c.args.inputs.now c.args.steps c.args.made.now c.in_ok-place-4.field-0 c.in_ok-place-4.ensures
    c.in_default-4.is in
    let races = holds_at c.args.program.now c.args.inputs.now c.args.steps c.args.made.now OfRaces c.in_ok-place-5.field-0
    c.in_ok-place-5.ensures c.in_default-5.is in
    let words = (c.in_ok-place-6.ensures.legal (setting_of c.args.program.now c.args.inputs.now) machine.0 machine.1 machine.2).0
    c.in_default-6.is in
    let first = first_at_some c.args.program.now c.args.inputs.now c.args.steps c.args.made.now OfProgram c.in_ok-place-7.field-0
    c.in-Some-7.place c.in_ok-place-7.ensures.first c.in-Some-7.is in
    found c.args.program.now c.args.inputs.now c.args.steps c.args.made.now OfProgram c.in-Some-7.place c.fails-in-Some-7.result
    c.fails-in-Some-7.ensures
    (below_program c.args.program.now c.args.inputs.now c.args.steps c.args.made.now form list numbers machine races words) first

pub returns : goal.returns
returns c =
    let form = holds_at c.args.program.now c.args.inputs.now c.args.steps c.args.made.now OfForm c.in_ok-place.field-0
    c.in_ok-place.ensures c.in_default.is in
    let list = holds_at c.args.program.now c.args.inputs.now c.args.steps c.args.made.now OfList c.in_ok-place-2.field-0
    c.in_ok-place-2.ensures c.in_default-2.is in
    let numbers = holds_at c.args.program.now c.args.inputs.now c.args.steps c.args.made.now OfNumbers c.in_ok-place-3.field-0
    c.in_ok-place-3.ensures c.in_default-3.is in
    let machine = runs_at c.args.program.now c.args.inputs.now c.args.steps c.args.made.now c.in_ok-place-4.field-0 c.in_ok-place-4.ensures
    c.in_default-4.is in
    let races = holds_at c.args.program.now c.args.inputs.now c.args.steps c.args.made.now OfRaces c.in_ok-place-5.field-0
    c.in_ok-place-5.ensures c.in_default-5.is in
    let words = (c.in_ok-place-6.ensures.legal (setting_of c.args.program.now c.args.inputs.now) machine.0 machine.1 machine.2).0
    c.in_default-6.is in
    let program = MatchOption-at_none _ _ c.in_default-7.is c.in_ok-place-7.ensures.runs in
    found_lawful c.args.program.now c.args.inputs.now c.args.steps c.args.made.now
    (below_program c.args.program.now c.args.inputs.now c.args.steps c.args.made.now form list numbers machine races words) program
