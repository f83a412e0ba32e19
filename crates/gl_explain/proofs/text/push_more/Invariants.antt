use Rattle.std.proofs.Common.{◌≡◌, ◌++◌, take}
use Rattle.std.specs.Prelude.{string_bytes}
use Rattle.std.specs.List.{flat_map}
use Rattle.gl_names.specs.Names.{name_of}
use Rattle.gl_explain.specs.Texts.{monitor_text}
use Rattle.gl_explain.proofs.text.push_more.Given as goal

abbrev pub invariant-loop-monitor : goal.invariant-loop-monitor
invariant-loop-monitor l = string_bytes l.out ≡ string_bytes l.fn.out
    ++ flat_map (monitor_text (name_of l.names)) (take l.monitor-index l.monitors)
