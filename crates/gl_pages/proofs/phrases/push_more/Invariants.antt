use Rattle.std.proofs.Common.{◌≡◌, ◌++◌, take}
use Rattle.std.specs.List.{flat_map}
use Rattle.gl_names.specs.Names.{name_of}
use Rattle.gl_explain.specs.Texts.{monitor_text}
use Rattle.gl_pages.proofs.phrases.push_more.Given as goal

abbrev pub invariant-loop-monitor : goal.invariant-loop-monitor
invariant-loop-monitor l = l.out.items ≡ l.fn.out.items ++ flat_map (monitor_text (name_of l.names)) (take l.monitor-index l.monitors)
