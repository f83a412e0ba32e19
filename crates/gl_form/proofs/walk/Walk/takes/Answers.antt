use Rattle.gl_model.specs.Entries.{seen}
use Rattle.gl_form.proofs.Walks.{formed_stands, walks_on}
use Rattle.gl_form.proofs.walk.Walk.takes.Goals as goal

pub returns : goal.returns
returns c =
    λ es come at.
    let e = seen c.args.entry.now in
    let i = c.args.index in
    let form = c.if-not-is_formed.ensures in
    let follows = c.in-Some.ensures es i come.at_stage at in
    let positions = c.if-not-position_rises.ensures es i come.positions at in
    let lows = c.if-not-low_rises.ensures es i come.lows at in
    let numbers = c.if-not-rises.ensures es i (formed_stands c.args.thread e form) come.drawn at in
    walks_on c.args.thread es i e at form follows.0 positions.0 lows.0 numbers.0 _ _
    (λ rights. record { at_stage = follows.1; positions = positions.1; lows = lows.1; drawn = numbers.1; rights = rights })
    c.allow.result
    (c.allow.ensures es come.rights at)

pub returns-then-not-rises : goal.returns-then-not-rises
returns-then-not-rises c =
    λ es come at keeps.
    c.if-not-rises.ensures es c.args.index (formed_stands c.args.thread (seen c.args.entry.now) c.if-not-is_formed.ensures) come.drawn at
    keeps.numbers_rise
