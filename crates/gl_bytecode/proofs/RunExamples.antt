-- The examples' lists are made by their programs.
use Rattle.std.proofs.Common.{◌≡◌, ℕ, ℤ, pos, List, [], ◌∷◌, ◌++◌, replicate, Some, refl}
use Rattle.gl_model.specs.Entries.{Entry, Sync, Commit as Committed, Abort}
use Rattle.gl_model.specs.declared.event.Act.TheVariants.{Begin as Began, End as Ends, Alloc as Allocated, Print as Printed}
use Rattle.gl_model.specs.declared.record.Ending.TheVariants.{Halt as Halted, Spent}
use Rattle.gl_model.specs.declared.tx.Why.TheVariants.{Changed}
use Rattle.gl_bytecode.specs.declared.ask.Reply.TheVariants.{Go as Gone, Value}
use Rattle.gl_bytecode.specs.Examples.{changed_list, first_try, five, five_list, second_try, spent_list, touching, two_prints}
use Rattle.gl_bytecode.specs.Runs.{Exchange, Made, Quiet, Progress, outset, told, Along, Runs}
use Rattle.gl_bytecode.proofs.Growth.{along_over}

-- ## A program that halts

abbrev five_exchanges : List Exchange
five_exchanges =
    Quiet Gone ∷ Made (Sync 0 (Began 0) (pos 0)) ∷ Quiet Gone ∷ Quiet Gone ∷ Made (Sync 1 Printed (pos 5)) ∷ Quiet Gone
    ∷ Made (Sync 2 Ends (pos 0)) ∷ []

-- the exchanges lead along the list but for its end
five_along : (c : Progress) → told five (outset five 0 200000) five_exchanges ≡ Some c
    → Along five 200000 0 (Sync 0 (Began 0) (pos 0) ∷ Sync 1 Printed (pos 5) ∷ Sync 2 Ends (pos 0) ∷ []) c
five_along c reached = record { exchanges = five_exchanges; made = refl; reached = reached }

-- the whole list is one of the program
pub five_runs : Runs five 200000 0 five_list
unfolding told
five_runs = along_over five 200000 0 _ _ Halted (five_along _ refl) refl

-- ## A program whose steps are spent

abbrev spent_exchanges : List Exchange
spent_exchanges =
    Quiet Gone ∷ Made (Sync 0 (Began 0) (pos 0)) ∷ Quiet Gone ∷ Quiet Gone ∷ Made (Sync 1 Printed (pos 1)) ∷ Quiet Gone
    ∷ Quiet Gone ∷ Made (Sync 2 Ends (pos 0)) ∷ []

-- the exchanges lead along the list but for its end
spent_along : (c : Progress) → told two_prints (outset two_prints 0 3) spent_exchanges ≡ Some c
    → Along two_prints 3 0 (Sync 0 (Began 0) (pos 0) ∷ Sync 1 Printed (pos 1) ∷ Sync 2 Ends (pos 0) ∷ []) c
spent_along c reached = record { exchanges = spent_exchanges; made = refl; reached = reached }

-- the whole list is one of the program
pub two_prints_run : Runs two_prints 3 0 spent_list
unfolding told
two_prints_run = along_over two_prints 3 0 _ _ Spent (spent_along _ refl) refl

-- ## A transaction that is dropped as changed and made again

abbrev goes : ℕ → List Exchange
goes n = replicate n (Quiet Gone)

-- from txbegin to the ask of commit; the get of field 1 is answered by a
abbrev attempt : ℤ → List Exchange
attempt a =
    goes 1 ++ Quiet Gone ∷ goes 3 ++ Quiet Gone ∷ goes 2 ++ Quiet (Value (pos 7)) ∷ goes 3 ++ Quiet (Value a) ∷ goes 2

abbrev changed_exchanges : List Exchange
changed_exchanges =
    Quiet Gone ∷ Made (Sync 0 (Began 0) (pos 0)) ∷ goes 1 ++ Made (Sync 1 (Allocated 0) (pos 1)) ∷ goes 1 ++ attempt (pos 0)
    ++ Made (Abort first_try (Changed 1 (pos 0) (pos 5))) ∷ attempt (pos 5) ++ Made (Committed 2 second_try) ∷ goes 1
    ++ Made (Sync 3 Ends (pos 0)) ∷ []

abbrev changed_before : List Entry
changed_before =
    Sync 0 (Began 0) (pos 0) ∷ Sync 1 (Allocated 0) (pos 1) ∷ Abort first_try (Changed 1 (pos 0) (pos 5))
    ∷ Committed 2 second_try ∷ Sync 3 Ends (pos 0) ∷ []

-- the exchanges lead along the list but for its end
changed_along : (p : Progress) → told touching (outset touching 0 200000) changed_exchanges ≡ Some p
    → Along touching 200000 0 changed_before p
changed_along p reached = record { exchanges = changed_exchanges; made = refl; reached = reached }

-- the whole list is one of the program
pub changed_runs : Runs touching 200000 0 changed_list
unfolding told
changed_runs = along_over touching 200000 0 changed_before _ Halted (changed_along _ refl) refl
