-- the events before the position are known and in the window, and nothing else changed
use Rattle.std.proofs.Common.{◌≡◌, ◌+◌, ◌<◌, ◌≤◌, length, vec_capacity}
use Rattle.std.specs.List.{All}
use Rattle.gl_model.specs.Elements.{IsStampInRange}
use Rattle.gl_rule.specs.Objects.{capacity}
use Rattle.gl_rows.specs.Walks.{KnowsFrom}
use Rattle.gl_rows.proofs.walking.load.Given as goal

abbrev pub invariant-loop-pos : goal.invariant-loop-pos
invariant-loop-pos l =
    KnowsFrom l.from l.window.items l.fn.pass l.pass × (l.from + length l.window.items ≡ l.pos) × All IsStampInRange l.window.items
    × (vec_capacity l.window ≡ vec_capacity l.fn.window) × (l.from < l.pos → l.fn.pass.seen ≤ l.from + capacity l.shared.key)
