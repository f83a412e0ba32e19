use Rattle.std.proofs.Common.{◌≡◌, None, take, map}
use Rattle.gl_model.specs.Entries.{list_seen}
use Rattle.gl_model.specs.Lists.{list_of}
use Rattle.gl_model.proofs.record.Record.thread.Given as goal

abbrev pub invariant-loop-list : goal.invariant-loop-list
invariant-loop-list l = list_of (map list_seen (take l.list-index l.list-items)) l.t ≡ None
