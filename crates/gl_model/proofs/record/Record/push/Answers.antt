use Rattle.std.proofs.Common.{map}
use Rattle.gl_model.specs.Entries.{seen, list_seen}
use Rattle.gl_model.proofs.Pushed.{still_record}
use Rattle.gl_model.proofs.record.Record.push.Goals as goal

pub invariant_of-self : goal.invariant_of-self
invariant_of-self c = still_record c.put_last.result _ c.args.thread (seen c.args.entry) (map list_seen c.self.inside.lists.items)
    (map list_seen c.put_last.new.lists.items) c.put_last.ensures.ok c.put_last.ensures.err c.requires.thread c.keeps.ensures
    c.self.invariant
