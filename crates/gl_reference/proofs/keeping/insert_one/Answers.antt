use Rattle.gl_reference.proofs.Unions.{inserted}
use Rattle.gl_reference.proofs.keeping.insert_one.Goals as goal

pub returns : goal.returns
returns c = inserted c.insert.result c.args.var c.args.all.now c.insert.new.self c.insert.ensures.ok c.insert.ensures.full
