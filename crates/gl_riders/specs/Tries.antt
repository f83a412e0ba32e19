-- What a try of an ask came to.
use Rattle.std.specs.Prelude.{ℕ, ℤ, Option, Some, None}
use Rattle.gl_bytecode.specs.declared.ask.Ask.{Ask}
use Rattle.gl_bytecode.specs.declared.ask.Ask.TheVariants.{Read, Write}
use Rattle.gl_bytecode.specs.declared.ask.Reply.{Reply}
use Rattle.gl_bytecode.specs.declared.ask.Reply.TheVariants.{Go as Gone, Value as Answer, Raise, Retry}
use Rattle.gl_bytecode.specs.declared.limits.TheConstants.{RACE}
use Rattle.gl_rows.specs.declared.accessing.Seen.{Seen}
use Rattle.gl_rows.specs.declared.accessing.Seen.TheVariants.{Value, Raised}
use Rattle.gl_txn.specs.declared.stops.TxEnd.{TxEnd}
use Rattle.gl_txn.specs.declared.stops.TxEnd.TheVariants.{Done, Raised as WasRaised, Changed}
use Rattle.gl_riders.specs.declared.tried.Tried.{Tried}
use Rattle.gl_riders.specs.declared.tried.Tried.TheVariants.{Answered, Again, Full, Unforked}

abbrev pub IfAnswered : Tried → (Reply → Type 0) → Type 0
IfAnswered (Answered reply) fact = fact reply
IfAnswered Again fact = Unit {0}
IfAnswered Full fact = Unit {0}
IfAnswered Unforked fact = Unit {0}

-- where it was not answered
abbrev pub IfAgain : Tried → Type 0 → Type 0
IfAgain (Answered reply) fact = Unit {0}
IfAgain Again fact = fact
IfAgain Full fact = fact
IfAgain Unforked fact = fact

abbrev pub IfFull : Tried → Type 0 → Type 0
IfFull Full fact = fact
IfFull (Answered reply) fact = Unit {0}
IfFull Again fact = Unit {0}
IfFull Unforked fact = Unit {0}

abbrev pub access_ask : ℕ → Option ℤ → Ask
access_ask x None = Read x
access_ask x (Some a) = Write x a

abbrev pub access_reply : Option ℤ → Seen → Reply
access_reply None (Value a) = Answer a
access_reply (Some b) (Value a) = Gone
access_reply None (Raised nth) = Raise RACE
access_reply (Some b) (Raised nth) = Raise RACE

abbrev pub end_reply : TxEnd → Reply
end_reply (Done at) = Gone
end_reply (WasRaised var) = Raise RACE
end_reply (Changed var read found) = Retry
