-- The positions, numbers and low marks of a closed table's record are such as a line of a record text can say.
use Rattle.std.proofs.Common.{◌<◌, ◌≤◌, ℕ, ℤ, zero, suc, List, [], ◌∷◌, refl, arith, inl, inr}
use Rattle.std.specs.Prelude.{Contains}
use Rattle.std.specs.List.{AllByRecursion}
use Rattle.gl_model.specs.Entries.{Entry, Sync, Commit, Plain, Abort, Trim, Over}
use Rattle.gl_model.specs.Form.{At}
use Rattle.gl_model.specs.Kept.{IsRecord}
use Rattle.gl_model.specs.Lists.{lists_of}
use Rattle.gl_model.specs.Records.{Lists, Place, EntryAt}
use Rattle.gl_model.specs.declared.tx.Tx.{Tx}
use Rattle.gl_journal.specs.Written.{IsEntryStamped, IsStamped, IsTxStamped}
use Rattle.gl_journal.specs.declared.limits.TheConstants.{MOST_STAMP}
use Rattle.gl_rule.specs.Bounded.{IsBounded, most_stamp}
use Rattle.gl_threads.specs.Options.{AreOptions}
use Rattle.gl_threads.specs.declared.options.Options.{Options}
use Rattle.gl_run.proofs.FewVariables.{lists_all}

-- what a table can count a line can say
fits : (n : ℕ) → n < most_stamp → n ≤ MOST_STAMP
fits n less = let far : most_stamp ≤ MOST_STAMP = omega arith in omega (arith, less, far)

-- what holds of all that a list contains holds of each of its elements
each_in : {A : Type 0} (P : A → Type 0) (xs : List A) → ((x : A) → Contains xs x → P x) → AllByRecursion P xs
each_in P [] all = tt
each_in P (x ∷ xs) all = (all x (zero, omega arith, refl), each_in P xs behind) where
  behind : (y : _) → Contains xs y → P y
  behind y (k, less, here) = all y (suc k, omega (arith, less), here)

-- and of what stands at its places
each_at : (P : Entry → Type 0) (es : List Entry) → ((i : ℕ) (e : Entry) → At es i e → P e) → AllByRecursion P es
each_at P [] all = tt
each_at P (e ∷ es) all = (all zero e refl, each_at P es (λ i d here. all (suc i) d here))

-- the numbers of a transaction, by its looks and by its own numbers
tx_stamped : (tx : Tx) → ((x k : ℕ) (value : ℤ) → Contains tx.looks (record { var = x; value = value; nth = k }) → k ≤ MOST_STAMP)
    → ((x k : ℕ) → Contains tx.numbers (record { var = x; nth = k }) → k ≤ MOST_STAMP)
    → IsTxStamped tx
tx_stamped tx looks numbers = (
  each_in (λ l. l.nth ≤ MOST_STAMP) tx.looks (λ l c. looks l.var l.nth l.value c),
  each_in (λ n. n.nth ≤ MOST_STAMP) tx.numbers (λ n c. numbers n.var n.nth c),
)

-- an entry of a bounded record
entry_stamped : (R : Lists) → IsBounded R → (c : Place) (e : Entry) → EntryAt R c e → IsEntryStamped e
entry_stamped R b c (Sync at act value) there = fits at (b.positions c (Sync at act value) at there refl)
entry_stamped R b c (Commit at tx) there = (
  fits at (b.positions c (Commit at tx) at there refl),
  tx_stamped tx (λ x k value i. fits k (b.numbers c (Commit at tx) x k there (inl (inl (value, i)))))
      (λ x k i. fits k (b.numbers c (Commit at tx) x k there (inl (inr i)))),
)
entry_stamped R b c (Plain var nth cached write value raised) there =
    fits nth (b.numbers c (Plain var nth cached write value raised) var nth there (inr (refl, refl)))
entry_stamped R b c (Abort tx why) there =
    tx_stamped tx (λ x k value i. fits k (b.numbers c (Abort tx why) x k there (inl (inl (value, i)))))
    (λ x k i. fits k (b.numbers c (Abort tx why) x k there (inl (inr i))))
entry_stamped R b c (Trim low) there = fits low (b.lows c low there)
entry_stamped R b c (Over ending) there = tt

-- the record of a closed table and the steps of its options
pub is_stamped : (options : Options) (ls : List (ℕ × List Entry)) → AreOptions options → IsRecord ls → IsBounded (lists_of ls)
    → IsStamped options.steps ls
is_stamped options ls are is bounded = record {
  few = omega (arith, are.some_steps);
  most = are.steps;
  stamped = lists_all IsEntryStamped ls is
      (λ t some. each_at IsEntryStamped (lists_of ls t)
      (λ i e here. entry_stamped (lists_of ls) bounded (record { thread = t; index = i }) e here));
}
