use Rattle.std.proofs.Common.{Some, None}
use Rattle.gl_riders.proofs.one.try_ask.Goals as goal

pub try_read-requires-clause-inside : goal.try_read-requires-clause-inside
try_read-requires-clause-inside g c = λ none. c.requires.inside none c.in-Read.var None c.in-Read.is

pub try_write-requires-clause-inside : goal.try_write-requires-clause-inside
try_write-requires-clause-inside g c = λ none. c.requires.inside none c.in-Write.var (Some c.in-Write.value) c.in-Write.is
