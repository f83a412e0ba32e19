-- The pass after it raised the first segment that is kept.
use Rattle.std.specs.Prelude.{ℕ, ◌-◌, nat_lt, if◌then◌else◌}
use Rattle.gl_table.specs.CaughtUp.{first_marked}
use Rattle.gl_table.specs.PassView.{PassView, pass_of, view_of}
use Rattle.gl_rule.specs.View.{lowered}

-- the first segment was n, and became at least to: a Trim is stored exactly where it rose
abbrev pub lowered_pass : PassView → ℕ → ℕ → PassView
lowered_pass p n to = pass_of p.own.table p.own.id (first_marked (lowered (view_of p) p.own.id p.own.mine n to).shelves)
    (lowered (view_of p) p.own.id p.own.mine n to) (if nat_lt n to then p.spare - 1 else p.spare)
