use Rattle.gl_bytecode.proofs.Exchanges.{forced}
use Rattle.gl_bytecode.proofs.laws.exchanges_are_forced.Goals as goal

pub returns : goal.returns
returns c = forced
