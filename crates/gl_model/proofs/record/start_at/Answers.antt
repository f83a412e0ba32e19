use Rattle.std.proofs.Common.{◌≡◌, ◌∷◌, []}
use Rattle.gl_model.proofs.record.start_at.Goals as goal

pub returns-clause-ok : goal.returns-clause-ok
returns-clause-ok c =
    let alone : c.append.new.self.entries.items ≡ c.args.entry ∷ [] = rw c.new.ensures.items at c.in_ok-append.ensures.ok in
    let put = c.in-Ok.ensures.items in
    let kept = c.reserve.ensures.items in
    (c.append.new.self, c.append.ensures.thread, alone, cc)
