-- Small programs and lists that they run, by which the definitions are seen to be met.
use Rattle.std.specs.Prelude.{pos, List, [], ◌∷◌}
use Rattle.gl_model.specs.Entries.{Entry, Sync, Commit as Committed, Abort, Over as Ended}
use Rattle.gl_model.specs.declared.event.Act.TheVariants.{Begin as Began, End as Ends, Alloc as Allocated, Print as Printed}
use Rattle.gl_model.specs.declared.record.Ending.TheVariants.{Halt as Halted, Spent}
use Rattle.gl_model.specs.declared.tx.Tx.{Tx}
use Rattle.gl_model.specs.declared.tx.Why.TheVariants.{Changed}
use Rattle.gl_bytecode.specs.declared.instr.Instr.{Instr}
use Rattle.gl_bytecode.specs.declared.instr.Instr.TheVariants.{New, Store, Load, Push, Put, Get, Pop, Txbegin, Commit, Print, Halt}
use Rattle.gl_bytecode.specs.Programs.{Bytecode}

-- a program of main alone
abbrev pub only_main : List Instr → Bytecode
only_main code = record { classes = []; functions = (record { args = 0; locals = 0; code = code; catches = [] }) ∷ []; main = 0 }

-- ## A program that halts

abbrev pub five : Bytecode
five = only_main (Push (pos 5) ∷ Print ∷ Halt ∷ [])

abbrev pub five_list : List Entry
five_list = Sync 0 (Began 0) (pos 0) ∷ Sync 1 Printed (pos 5) ∷ Sync 2 Ends (pos 0) ∷ Ended Halted ∷ []

-- ## A program whose steps are spent: it may start three instructions

abbrev pub two_prints : Bytecode
two_prints = only_main (Push (pos 1) ∷ Print ∷ Push (pos 2) ∷ Print ∷ Halt ∷ [])

abbrev pub spent_list : List Entry
spent_list = Sync 0 (Began 0) (pos 0) ∷ Sync 1 Printed (pos 1) ∷ Sync 2 Ends (pos 0) ∷ Ended Spent ∷ []

-- ## A transaction that is dropped as changed and made again

-- an object of two fields; then, in a transaction, field 0 is written and read, and field 1 is read
abbrev pub touching : Bytecode
touching = record {
  classes = (record { plain = 2; volatile = 0 }) ∷ [];
  functions = (record {
    args = 0;
    locals = 1;
    code = New 0 ∷ Store 0 ∷ Txbegin ∷ Load 0 ∷ Push (pos 7) ∷ Put 0 ∷ Load 0 ∷ Get 0 ∷ Pop ∷ Load 0 ∷ Get 1 ∷ Pop ∷ Commit ∷ Halt ∷ [];
    catches = [];
  }) ∷ [];
  main = 0;
}

abbrev pub first_try : Tx
first_try = record {
  looks = (record { var = 1; value = pos 0; nth = 0 }) ∷ [];
  writes = (record { var = 0; value = pos 7 }) ∷ [];
  numbers = (record { var = 1; nth = 1 }) ∷ [];
}

abbrev pub second_try : Tx
second_try = record {
  looks = (record { var = 1; value = pos 5; nth = 2 }) ∷ [];
  writes = (record { var = 0; value = pos 7 }) ∷ [];
  numbers = (record { var = 0; nth = 0 }) ∷ (record { var = 1; nth = 3 }) ∷ [];
}

-- what its thread begins, makes and changes; another thread's commit put 5 in field 1 meanwhile
abbrev pub changed_list : List Entry
changed_list =
    Sync 0 (Began 0) (pos 0) ∷ Sync 1 (Allocated 0) (pos 1) ∷ Abort first_try (Changed 1 (pos 0) (pos 5))
    ∷ Committed 2 second_try ∷ Sync 3 Ends (pos 0) ∷ Ended Halted ∷ []
