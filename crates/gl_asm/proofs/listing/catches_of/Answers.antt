use Rattle.std.proofs.Common.{ℕ, ◌≡◌, ◌∷◌, ◌++◌, [], arith, Some, ◌∙◌, rules, slice_get}
use Rattle.gl_bytecode.specs.Programs.{function_at}
use Rattle.gl_asm.specs.Code.{catches_of}
use Rattle.gl_asm.proofs.ListingLemmas.{catch_there, catch_at, no_catch_there, one_more, no_more, past_of}
use Rattle.gl_asm.proofs.listing.catches_of.Goals as goal

pub loop-i-preserved : goal.loop-i-preserved
loop-i-preserved c =
    let o = function_at c.args.program.now c.args.f in
    let t : ℕ × ℕ × ℕ = (c.in-Some.from, c.in-Some.to, c.in-Some.target) in
    let there : slice_get (catches_of o) c.loop-i.i ≡ Some (catch_at t) = catch_there o c.loop-i.i t c.in-Some.ensures in
    let more = one_more (catches_of o) c.loop-i.catches.items c.loop-i.i (catch_at t) there c.loop-i.invariant.1 in
    let items : c.push.new.self.items ≡ c.loop-i.catches.items ++ catch_at t ∷ [] = search rules in
    (more.0, items ∙ more.1)

pub returns-in-None : goal.returns-in-None
returns-in-None c =
    let o = function_at c.args.program.now c.args.f in
    no_more (catches_of o) c.loop-i.catches.items c.loop-i.i
    (past_of (catches_of o) c.loop-i.i (no_catch_there o c.loop-i.i c.in-None.ensures)) c.loop-i.invariant.1

pub returns : goal.returns
returns c =
    let o = function_at c.args.program.now c.args.f in
    no_more (catches_of o) c.loop-i.catches.items c.loop-i.i (omega (arith, c.requires.catches c.args.f)) c.loop-i.invariant.1
