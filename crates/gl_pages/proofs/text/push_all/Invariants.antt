use Rattle.std.proofs.Common.{◌≡◌, ◌++◌, take}
use Rattle.std.specs.List.{flat_map}
use Rattle.gl_names.specs.Names.{name_of}
use Rattle.gl_pages.specs.Texts.{explanation_text}
use Rattle.gl_pages.proofs.text.push_all.Given as goal

abbrev pub invariant-loop-e : goal.invariant-loop-e
invariant-loop-e l = l.out.items ≡ l.fn.out.items ++ flat_map (explanation_text (name_of l.names)) (take l.e-index l.explained)
