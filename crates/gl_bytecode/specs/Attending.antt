-- What a machine may ask while an attempt runs.
use Rattle.std.specs.Prelude.{Bool, true, false, Option, Some, None}
use Rattle.gl_bytecode.specs.declared.ask.Ask.{Ask}
use Rattle.gl_bytecode.specs.declared.ask.Ask.TheVariants.{Go, Begin, End, Over, Read, Write, VRead, VWrite, Enter, Exit, Fork, Join, Alloc, Print, Input, TxBegin, TxEnd}
use Rattle.gl_bytecode.specs.Machine.{Attempt}

-- to go on, a data access, or the attempt's end
abbrev pub IsAskedInside : Ask → Type 0
IsAskedInside Go = Unit {0}
IsAskedInside Begin = ⊥
IsAskedInside End = ⊥
IsAskedInside (Over ending) = ⊥
IsAskedInside (Read x) = Unit {0}
IsAskedInside (Write x a) = Unit {0}
IsAskedInside (VRead v) = ⊥
IsAskedInside (VWrite v a) = ⊥
IsAskedInside (Enter o) = ⊥
IsAskedInside (Exit o) = ⊥
IsAskedInside (Fork f a) = ⊥
IsAskedInside (Join u) = ⊥
IsAskedInside (Alloc c) = ⊥
IsAskedInside (Print a) = ⊥
IsAskedInside Input = ⊥
IsAskedInside TxBegin = ⊥
IsAskedInside (TxEnd keep) = Unit {0}

-- where an attempt runs, the ask is one of these: so a machine that ends has none
abbrev pub Attends : Option Attempt → Ask → Type 0
Attends None ask = Unit {0}
Attends (Some a) ask = IsAskedInside ask

-- does an attempt run after an answer to the ask? The answer to TxBegin begins one, and that to TxEnd ends it
abbrev pub runs_after : Ask → Bool → Bool
runs_after Go runs = runs
runs_after Begin runs = runs
runs_after End runs = runs
runs_after (Over ending) runs = runs
runs_after (Read x) runs = runs
runs_after (Write x a) runs = runs
runs_after (VRead v) runs = runs
runs_after (VWrite v a) runs = runs
runs_after (Enter o) runs = runs
runs_after (Exit o) runs = runs
runs_after (Fork f a) runs = runs
runs_after (Join u) runs = runs
runs_after (Alloc c) runs = runs
runs_after (Print a) runs = runs
runs_after Input runs = runs
runs_after TxBegin runs = true
runs_after (TxEnd keep) runs = false
