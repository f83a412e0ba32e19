use Rattle.std.proofs.Common.{◌≡◌, ◌∷◌, ◌++◌, [], arith, Some, None, ◌∙◌, rules, slice_get}
use Rattle.gl_bytecode.specs.Programs.{function_at}
use Rattle.gl_asm.specs.Code.{code_of}
use Rattle.gl_asm.proofs.ListingLemmas.{code_there, one_more, no_more, past_of}
use Rattle.gl_asm.proofs.listing.code_of.Goals as goal

pub loop-at-preserved : goal.loop-at-preserved
loop-at-preserved c =
    let o = function_at c.args.program.now c.args.f in
    let there : slice_get (code_of o) c.loop-at.at
    ≡ Some c.in-Some.instr = code_there o c.loop-at.at (Some c.in-Some.instr) c.in-Some.ensures in
    let more = one_more (code_of o) c.loop-at.code.items c.loop-at.at c.in-Some.instr there c.loop-at.invariant.1 in
    let items : c.push.new.self.items ≡ c.loop-at.code.items ++ c.in-Some.instr ∷ [] = search rules in
    (more.0, items ∙ more.1)

pub returns-in-None : goal.returns-in-None
returns-in-None c =
    let o = function_at c.args.program.now c.args.f in
    no_more (code_of o) c.loop-at.code.items c.loop-at.at
    (past_of (code_of o) c.loop-at.at (code_there o c.loop-at.at None c.in-None.ensures)) c.loop-at.invariant.1

pub returns : goal.returns
returns c =
    let o = function_at c.args.program.now c.args.f in
    no_more (code_of o) c.loop-at.code.items c.loop-at.at (omega (arith, c.requires.code c.args.f)) c.loop-at.invariant.1
