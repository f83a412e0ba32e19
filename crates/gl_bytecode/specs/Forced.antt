-- The exchanges that the entries of a list force.
use Rattle.std.specs.Prelude.{◌≡◌, ℕ, ℤ, List, [], ◌∷◌, map, Option, Some, None}
use Rattle.gl_model.specs.Entries.{Entry, Sync, Commit, Plain, Abort, Trim, Over}
use Rattle.gl_model.specs.declared.tx.Tx.{Tx}
use Rattle.gl_bytecode.specs.Programs.{Bytecode}
use Rattle.gl_bytecode.specs.Runs.{Exchange, Made, Quiet, Progress, told, entries_of, word_of}

-- the last exchange, if there is one, is by an entry
abbrev pub EndsMade : List Exchange → Type 0
EndsMade [] = Unit {0}
EndsMade (Made e ∷ []) = Unit {0}
EndsMade (Quiet r ∷ []) = ⊥
EndsMade (x ∷ (y ∷ ys)) = EndsMade (y ∷ ys)

-- two lists of exchanges with the same entries, each of which ends with an entry and outside attempts, are the same
abbrev pub ExchangesAreForced : Type 0
ExchangesAreForced =
    (P : Bytecode) (p q r : Progress) (xs ys : List Exchange) → told P p xs ≡ Some q → told P p ys ≡ Some r →
    entries_of xs ≡ entries_of ys → q.config.attempt ≡ None → r.config.attempt ≡ None → EndsMade xs → EndsMade ys → xs ≡ ys

-- what a transaction looked at, by variable
abbrev pub looks_of : Tx → List (ℕ × ℤ)
looks_of tx = map (λ l. (l.var, l.value)) tx.looks

-- what the next commit or abort of the list looked at in x
abbrev pub word_ahead : List Entry → ℕ → Option ℤ
word_ahead [] x = None
word_ahead (Sync at act value ∷ es) x = word_ahead es x
word_ahead (Commit at tx ∷ es) x = word_of (looks_of tx) x
word_ahead (Plain var nth cached write value raised ∷ es) x = word_ahead es x
word_ahead (Abort tx why ∷ es) x = word_of (looks_of tx) x
word_ahead (Trim low ∷ es) x = word_ahead es x
word_ahead (Over ending ∷ es) x = word_ahead es x
