-- A thread of a run, before a try of what its machine asks and after it.
use Rattle.std.specs.Prelude.{◌≡◌}
use Rattle.gl_bytecode.specs.declared.ask.Ask.{Ask}
use Rattle.gl_bytecode.specs.declared.ask.Reply.{Reply}
use Rattle.gl_bytecode.specs.Machine.{ask_of}
use Rattle.gl_riders.specs.Exchanges.{IsAnswered}
use Rattle.gl_riders.specs.Owing.{AreKept}
use Rattle.gl_riders.specs.Riding.{IsSetFor, Rides}
use Rattle.gl_riders.specs.declared.thread.Run.{Run}
use Rattle.gl_riders.specs.declared.thread.Thread.{Thread}

-- the run's table is set up for its program
abbrev pub IsSetUp : Run → Type 0
IsSetUp r = IsSetFor r.program.now r.table.now.key.setting

-- the thread's list so far is what its machine makes of the answers so far
abbrev pub IsRiding : Run → Thread → Type 0
IsRiding r t = Rides r.program.now r.table.now.id t.machine t.pass.own t.txn

-- its private words are those that its pass and its attempt leave it
abbrev pub HasWords : Thread → Type 0
HasWords t = AreKept t.txn t.words t.pass.own

-- this is what its machine asks
abbrev pub IsAsked : Ask → Thread → Type 0
IsAsked ask t = ask ≡ ask_of t.machine.stage

-- the thread with its ask answered: its pass and its attempt go on by one exchange
abbrev pub GoesOnBy : Run → Ask → Thread → Thread → Reply → Type 0
GoesOnBy r ask t u reply = IsAnswered r.program.now t.machine ask reply t.pass.own u.pass.own t.txn u.txn

-- nothing of what the pass has of its own changed but what it owes
abbrev pub HasOnlyPaid : Thread → Thread → Type 0
HasOnlyPaid t u = u.pass.own ≡ record t.pass.own { owed = u.pass.own.owed }
