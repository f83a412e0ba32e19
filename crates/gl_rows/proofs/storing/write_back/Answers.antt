use Rattle.std.proofs.Common.{suc}
use Rattle.gl_table.proofs.Doing.{holds_none}
use Rattle.gl_rows.proofs.storing.write_back.Goals as goal

pub take_row-requires-clause-free : goal.take_row-requires-clause-free
take_row-requires-clause-free c = holds_none c.args.pass.now.own.held (suc c.args.var) c.requires.held
