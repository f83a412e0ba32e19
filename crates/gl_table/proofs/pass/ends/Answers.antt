use Rattle.std.proofs.Common.{◌≡◌, ◌<◌, ◌-◌, length, get_or, rules, arith, ◌∙◌}
use Rattle.gl_table.proofs.Doneness.{last_done}
use Rattle.gl_table.proofs.pass.ends.Goals as goal

pub returns : goal.returns
returns c =
    let items = c.args.mine.now in
    let some : 0 < length items = search (rules, arith) in
    let is : c.index-mine-mine.result ≡ get_or items (length items - 1) c.index-mine-mine.result = c.index-mine-mine.is in
    c.is_over.ensures ∙ last_done items c.args.quiet c.index-mine-mine.result some is
