use Rattle.gl_table.proofs.Unpacking.{as_commit, commit_ids}
use Rattle.gl_table.proofs.unpack.unpack.Goals as goal

pub vars_of-vars-requires-clause-ids : goal.vars_of-vars-requires-clause-ids
vars_of-vars-requires-clause-ids c = let s = c.requires.stands
    in commit_ids s.0.thread s.0.event c.args.words.now s.1.0 s.1.1 s.3 c.if-head-eq12.true

pub returns-then-head-eq12 : goal.returns-then-head-eq12
returns-then-head-eq12 c = λ x range small is. as_commit x.thread x.event c.args.words.now _ range.0 range.1 is c.if-head-eq12.true
    c.vars_of-vars.ensures
