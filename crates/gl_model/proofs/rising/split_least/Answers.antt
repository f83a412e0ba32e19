use Rattle.std.proofs.Common.{arith}
use Rattle.gl_model.proofs.Merged.{right_alone, left_least, right_least, both_least}
use Rattle.gl_model.proofs.rising.split_least.Goals as goal

pub returns-in-None-Some-clause-least : goal.returns-in-None-Some-clause-least
returns-in-None-Some-clause-least c =
    right_alone c.args.left.now c.args.right.now c.in-None-Some.others.now c.in-None-Some.y c.in-None-Some.ensures c.in-None-Some.ensures'
    c.requires.right

pub returns-then-x-y-clause-least : goal.returns-then-x-y-clause-least
returns-then-x-y-clause-least c =
    let s = c.in-Some-Some in
    left_least c.args.left.now c.args.right.now s.more.now s.others.now s.x s.y s.ensures s.ensures' c.requires.right c.if-x-y.true

pub returns-then-y-x-clause-least : goal.returns-then-y-x-clause-least
returns-then-y-x-clause-least c =
    let s = c.in-Some-Some in
    right_least c.args.left.now c.args.right.now s.more.now s.others.now s.x s.y s.ensures s.ensures' c.requires.right c.if-y-x.true

pub returns-else-y-x-clause-least : goal.returns-else-y-x-clause-least
returns-else-y-x-clause-least c =
    let s = c.in-Some-Some in
    let le = c.if-x-y.false in
    let ge = c.if-y-x.false in
    both_least c.args.left.now c.args.right.now s.more.now s.others.now s.x s.y s.ensures s.ensures' c.requires.right (omega arith)
