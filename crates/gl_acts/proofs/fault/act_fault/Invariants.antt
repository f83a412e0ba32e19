use Rattle.gl_bytecode.specs.Lawful.{setting_of}
use Rattle.gl_model.specs.Lists.{lists_of}
use Rattle.gl_acts.proofs.Walking.{IsFar}
use Rattle.gl_acts.proofs.fault.act_fault.Given as goal

-- the events at the places so far are steps, and the coded state is the one that they lead to
abbrev pub invariant-loop-place : goal.invariant-loop-place
invariant-loop-place l = IsFar (setting_of l.program l.inputs) (lists_of l.made) l.place-index l.state
