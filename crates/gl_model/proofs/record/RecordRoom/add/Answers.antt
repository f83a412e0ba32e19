use Rattle.std.proofs.Common.{◌<◌, map, subst, sym, ap, ◌∙◌}
use Rattle.std.proofs.lemmas.List.{map-append}
use Rattle.gl_model.specs.Entries.{list_seen}
use Rattle.gl_model.specs.Kept.{IsRecord}
use Rattle.gl_model.specs.declared.record.ThreadList.{ThreadList}
use Rattle.gl_model.specs.Rooms.{RoomView}
use Rattle.gl_model.proofs.Rooms.{record_longer}
use Rattle.gl_model.proofs.record.RecordRoom.add.Goals as goal

pub invariant_of-self : goal.invariant_of-self
invariant_of-self c =
    let list : ThreadList = record { thread = c.args.thread; entries = c.args.entries } in
    let more = ap (map list_seen) c.push_reserved.ensures.items ∙ map-append list_seen c.self.inside.lists.items _ in
    let behind = subst (λ (r : RoomView). Rattle.std.specs.List.AllByRecursion (λ l. l.0 < c.args.thread) r.lists) (sym c.self.view_is)
    c.requires.behind in
    subst IsRecord (sym more) (record_longer _ (list_seen list) c.self.invariant behind c.requires.list)
