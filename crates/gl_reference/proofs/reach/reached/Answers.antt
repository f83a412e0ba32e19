use Rattle.std.proofs.Common.{◌≡◌, ◌+◌, ◌<◌, ◌∷◌, [], ◌++◌, ℕ, length, ap, ◌∙◌, arith}
use Rattle.std.proofs.lemmas.List.{length-append}
use Rattle.gl_reference.specs.Steps.{access_of}
use Rattle.gl_reference.proofs.Marks.{marks_more}
use Rattle.gl_reference.proofs.reach.reached.Goals as goal

pub loop-i-preserved : goal.loop-i-preserved
loop-i-preserved c =
    let marks = c.loop-i.marks.items in
    let mark = c.is_reached-mark.result in
    let items : c.push.new.self.items ≡ marks ++ mark ∷ [] = c.in_ok-push.ensures.items in
    let long = c.loop-i.invariant.long in
    let less : length marks < length c.args.events.now = (let l = c.loop-i-test.true in omega arith) in
    record {
      right = rw items (marks_more c.args.events.now (access_of c.args.access.now) marks c.loop-i.invariant.right mark less
          (rw c.deref.ensures.value at c.is_reached-mark.ensures));
      long = rw items (length-append marks (mark ∷ []) ∙ ap (λ (n : ℕ). n + 1) long);
    }
