-- The lines of entries that are written and read back.
use Rattle.std.proofs.Common.{◌≡◌, ◌+◌, ◌-◌, ◌*◌, ◌/◌, ◌%◌, ◌<◌, ◌≤◌, ◌^◌, ◌&&◌, ℕ, [], ◌∷◌, Bool, true, false, Ok, nat_lt, nat_le, codes, length, refl, ap, arith}
use Rattle.std.specs.Prelude.{if◌then◌else◌}
use Rattle.std.specs.Fmt.{decimal, signed_decimal}
use Rattle.std.specs.List.{AllByRecursion, list_all}
use Rattle.std.proofs.lemmas.Bool.{and_parts, leb-true, ltb-true}
use Rattle.std.proofs.lemmas.Nat.{div-add-mod', mod_below}
use Rattle.gl_model.specs.declared.event.Act.{Act}
use Rattle.gl_model.specs.declared.event.Act.TheVariants as acts
use Rattle.gl_model.specs.declared.record.Ending.TheVariants.{Halt, Uncaught, Spent}
use Rattle.gl_model.specs.declared.tx.Tx.{Tx}
use Rattle.gl_model.specs.declared.tx.Why.TheVariants.{Changed, Raised}
use Rattle.gl_model.specs.declared.limits.TheConstants.{THREADS, VARIABLES}
use Rattle.gl_model.specs.Elements.{IsActInRange}
use Rattle.gl_model.specs.Entries.{Entry, Sync, Commit, Plain, Abort, Trim, Over}
use Rattle.gl_model.specs.Kept.{IsEntryKept, IsTxKept}
use Rattle.gl_journal.specs.declared.forms.EntryForm.{EntryForm}
use Rattle.gl_journal.specs.declared.forms.EntryForm.TheVariants as entry_forms
use Rattle.gl_journal.specs.declared.forms.Form.TheVariants as forms
use Rattle.gl_journal.specs.declared.limits.TheConstants.{MOST_STAMP}
use Rattle.gl_journal.specs.declared.sync_kinds.SyncKind.{SyncKind}
use Rattle.gl_journal.specs.declared.sync_kinds.SyncKind.TheVariants as kinds
use Rattle.gl_journal.specs.EntryLines.{changed_in, commit_in, entry_in, plain_in, raised_in, sync_in, trim_in, uncaught_in}
use Rattle.gl_journal.specs.Fields.{Word, choice_in}
use Rattle.gl_journal.specs.Forms.{count_of, form_of, operands_of}
use Rattle.gl_journal.specs.Rows.{entry_row, tx_words}
use Rattle.gl_journal.specs.SyncKinds.{act_of, arg_of, kind_in, kind_of, most_of, word_of}
use Rattle.gl_journal.specs.Written.{IsActTyped, IsEntryStamped, IsEntryTyped, IsTxStamped, IsTxTyped, IsValue, NamesFew, TxNamesFew}
use Rattle.gl_journal.proofs.BackLists.{tx_are_words, tx_back}
use Rattle.gl_text.proofs.WordLines.{AreWords, IsWord, IsWordByte}
use Rattle.gl_journal.proofs.WrittenNumbers.{natural_back, numeral_decimal, numeral_is_word, numeral_signed, value_back_in}

-- ## Words of small letters

-- a word of small letters alone, and of at least one
abbrev is_keyword : Word → Bool
is_keyword w = nat_lt 0 (length w) && list_all (λ b. nat_le 97 b && nat_le b 122) w

-- small letters are bytes of words
letters : (w : Word) → list_all (λ b. nat_le 97 b && nat_le b 122) w ≡ true → AllByRecursion IsWordByte w
letters [] all = tt
letters (b ∷ bs) all =
    let both = and_parts (nat_le 97 b && nat_le b 122) (list_all (λ x. nat_le 97 x && nat_le x 122) bs) all in
    let here = and_parts (nat_le 97 b) (nat_le b 122) both.0 in
    let low : 97 ≤ b = leb-true 97 b here.0 in
    let high : b ≤ 122 = leb-true b 122 here.1 in
    ((omega arith, omega arith, λ e. omega arith), letters bs both.1)

-- such a word is a word of a line
pub keyword : (w : Word) → is_keyword w ≡ true → IsWord w
keyword w is =
    let both = and_parts (nat_lt 0 (length w)) (list_all (λ b. nat_le 97 b && nat_le b 122) w) is in
    (ltb-true 0 (length w) both.0, letters w both.1)

-- a number of at most 19 digits, written, is a word
pub decimal_word : (n : ℕ) → n < 10 ^ 19 → IsWord (decimal n)
decimal_word n small = numeral_is_word (decimal n) (numeral_decimal n small)

-- ## Acts

-- the word of a kind of act is read as that kind
kind_back : (k : SyncKind) → kind_in (word_of k) ≡ Ok k
kind_back kinds.Begin = refl
kind_back kinds.End = refl
kind_back kinds.Acq = refl
kind_back kinds.Rel = refl
kind_back kinds.VRead = refl
kind_back kinds.VWrite = refl
kind_back kinds.Fork = refl
kind_back kinds.Join = refl
kind_back kinds.Alloc = refl
kind_back kinds.Print = refl
kind_back kinds.Input = refl
kind_back kinds.Fail = refl

-- it is a word of a line
kind_word : (k : SyncKind) → IsWord (word_of k)
kind_word kinds.Begin = keyword (codes "begin") refl
kind_word kinds.End = keyword (codes "end") refl
kind_word kinds.Acq = keyword (codes "acq") refl
kind_word kinds.Rel = keyword (codes "rel") refl
kind_word kinds.VRead = keyword (codes "vread") refl
kind_word kinds.VWrite = keyword (codes "vwrite") refl
kind_word kinds.Fork = keyword (codes "fork") refl
kind_word kinds.Join = keyword (codes "join") refl
kind_word kinds.Alloc = keyword (codes "alloc") refl
kind_word kinds.Print = keyword (codes "print") refl
kind_word kinds.Input = keyword (codes "input") refl
kind_word kinds.Fail = keyword (codes "fail") refl

-- a child and a function, put into one number and taken out again
fork_back : (u f : ℕ) → u < THREADS → ((u + THREADS * f) % THREADS ≡ u) × ((u + THREADS * f) / THREADS ≡ f)
fork_back u f low =
    let n : ℕ = u + 16 * f in
    let whole : n / 16 * 16 + n % 16 ≡ n = div-add-mod' n 16 in
    let rest : n % 16 < 16 = mod_below n 16 (omega arith) in
    (omega arith, omega arith)

-- the act of an act's kind and number is the act
act_back : (a : Act) → IsActInRange a → act_of (kind_of a) (arg_of a) ≡ a
act_back (acts.Begin f) is = refl
act_back acts.End is = refl
act_back (acts.Acq o) is = refl
act_back (acts.Rel o) is = refl
act_back (acts.VRead v) is = refl
act_back (acts.VWrite v) is = refl
act_back (acts.Fork u f) is = let back = fork_back u f is.0 in rw (back.0, back.1) refl
act_back (acts.Join u) is = refl
act_back (acts.Alloc c) is = refl
act_back acts.Print is = refl
act_back acts.Input is = refl
act_back (acts.Fail code) is = refl

-- the number of an act is at most the greatest of its kind
arg_small : (a : Act) → IsActInRange a → IsActTyped a → arg_of a ≤ most_of (kind_of a)
arg_small (acts.Begin f) is small = omega arith
arg_small acts.End is small = omega arith
arg_small (acts.Acq o) is small = omega arith
arg_small (acts.Rel o) is small = omega arith
arg_small (acts.VRead v) is small = omega arith
arg_small (acts.VWrite v) is small = omega arith
arg_small (acts.Fork u f) is small = omega (arith, is.0, is.1)
arg_small (acts.Join u) is small = omega arith
arg_small (acts.Alloc c) is small = omega arith
arg_small acts.Print is small = omega arith
arg_small acts.Input is small = omega arith
arg_small (acts.Fail code) is small = omega arith

-- the greatest number of any kind is at most 1023
most_small : (k : SyncKind) → most_of k ≤ 1023
most_small kinds.Begin = omega arith
most_small kinds.End = omega arith
most_small kinds.Acq = omega arith
most_small kinds.Rel = omega arith
most_small kinds.VRead = omega arith
most_small kinds.VWrite = omega arith
most_small kinds.Fork = omega arith
most_small kinds.Join = omega arith
most_small kinds.Alloc = omega arith
most_small kinds.Print = omega arith
most_small kinds.Input = omega arith
most_small kinds.Fail = omega arith

-- ## Choices

-- one of two words, written for a test, is read as the test, where the two tell it
choice_back : (b : Bool) (first second : Word) → choice_in first second first ≡ Ok false → choice_in first second second ≡ Ok true
    → choice_in first second (if b then second else first) ≡ Ok b
choice_back true first second one two = two
choice_back false first second one two = one

-- it is a word where both are
choice_word : (b : Bool) (first second : Word) → IsWord first → IsWord second → IsWord (if b then second else first)
choice_word true first second one two = two
choice_word false first second one two = one

-- ## Entries that are read back

-- the words of a synchronization are read as it
sync_back : (at : ℕ) (a : Act) (value : _) → at ≤ MOST_STAMP → IsActInRange a → IsActTyped a → IsValue value
    → sync_in (decimal at ∷ word_of (kind_of a) ∷ decimal (arg_of a) ∷ signed_decimal value ∷ []) ≡ Ok (Sync at a value)
unfolding sync_in
sync_back at a value low range small is =
    let arg : arg_of a ≤ most_of (kind_of a) = arg_small a range small in
    rw (natural_back MOST_STAMP at low (omega arith))
    (rw (kind_back (kind_of a))
    (rw (natural_back (most_of (kind_of a)) (arg_of a) arg (omega (arith, most_small (kind_of a))))
    (rw (value_back_in value is) (ap (λ b. Ok (Sync at b value)) (act_back a range)))))

-- the words of a commit are read as it
commit_back : (at : ℕ) (tx : Tx) → at ≤ MOST_STAMP → IsTxKept tx → IsTxTyped tx → IsTxStamped tx → TxNamesFew tx
    → commit_in (decimal at ∷ tx_words tx)
    ≡ Ok (Commit at tx)
unfolding commit_in
commit_back at tx low kept typed few named = rw (natural_back MOST_STAMP at low (omega arith)) (rw (tx_back tx kept typed few named) refl)

-- the words of a plain access are read as it
plain_back : (var nth : ℕ) (cached write : Bool) (value : _) (raised : Bool) → var < VARIABLES → nth ≤ MOST_STAMP → IsValue value
    → plain_in (decimal var ∷ decimal nth ∷ (if write then codes "wr" else codes "rd") ∷ signed_decimal value
    ∷ (if cached then codes "cached" else codes "own") ∷ (if raised then codes "race" else codes "ok") ∷ [])
    ≡ Ok (Plain var nth cached write value raised)
unfolding plain_in
plain_back var nth cached write value raised low few is =
    rw (natural_back (VARIABLES - 1) var (omega arith) (omega arith))
    (rw (natural_back MOST_STAMP nth few (omega arith))
    (rw (choice_back write (codes "rd") (codes "wr") refl refl)
    (rw (value_back_in value is)
    (rw (choice_back cached (codes "own") (codes "cached") refl refl)
    (rw (choice_back raised (codes "ok") (codes "race") refl refl) refl)))))

-- the words of an attempt that found a change are read as it
changed_back : (tx : Tx) (var : ℕ) (read found : _) → var < VARIABLES → IsValue read → IsValue found → IsTxKept tx → IsTxTyped tx
    → IsTxStamped tx → TxNamesFew tx
    → changed_in (decimal var ∷ signed_decimal read ∷ signed_decimal found ∷ tx_words tx) ≡ Ok (Abort tx (Changed var read found))
unfolding changed_in
changed_back tx var read found low old new kept typed few named =
    rw (natural_back (VARIABLES - 1) var (omega arith) (omega arith))
    (rw (value_back_in read old) (rw (value_back_in found new) (rw (tx_back tx kept typed few named) refl)))

-- the words of an attempt that was refused for a race are read as it
raised_back : (tx : Tx) (var : ℕ) → var < VARIABLES → IsTxKept tx → IsTxTyped tx → IsTxStamped tx → TxNamesFew tx
    → raised_in (decimal var ∷ tx_words tx)
    ≡ Ok (Abort tx (Raised var))
unfolding raised_in
raised_back tx var low kept typed few named = rw (natural_back (VARIABLES - 1) var (omega arith) (omega arith))
    (rw (tx_back tx kept typed few named) refl)

-- the words of a trim are read as it
trim_back : (low : ℕ) → low ≤ MOST_STAMP → trim_in (decimal low ∷ []) ≡ Ok (Trim low)
unfolding trim_in
trim_back low is = rw (natural_back MOST_STAMP low is (omega arith)) refl

-- the words of an end by an exception are read as it
uncaught_back : (code : ℕ) → code ≤ 255 → uncaught_in (decimal code ∷ []) ≡ Ok (Over (Uncaught code))
unfolding uncaught_in
uncaught_back code is = rw (natural_back 255 code is (omega arith)) refl

-- ## Any entry

-- the form of an entry's line
abbrev pub form_for : Entry → EntryForm
form_for (Sync at act value) = entry_forms.Sync
form_for (Commit at tx) = entry_forms.Commit
form_for (Plain var nth cached write value raised) = entry_forms.Plain
form_for (Abort tx (Changed var read found)) = entry_forms.Changed
form_for (Abort tx (Raised var)) = entry_forms.Raised
form_for (Trim low) = entry_forms.Trim
form_for (Over Halt) = entry_forms.Halt
form_for (Over Spent) = entry_forms.Spent
form_for (Over (Uncaught code)) = entry_forms.Uncaught

-- it is the form that the line's words tell
pub form_is : (e : Entry) → form_of (entry_row e) ≡ Ok (forms.Entry (form_for e))
form_is (Sync at act value) = refl
form_is (Commit at tx) = refl
form_is (Plain var nth cached write value raised) = refl
form_is (Abort tx (Changed var read found)) = refl
form_is (Abort tx (Raised var)) = refl
form_is (Trim low) = refl
form_is (Over Halt) = refl
form_is (Over Spent) = refl
form_is (Over (Uncaught code)) = refl

-- the line has as many words as its form asks
pub count_is : (e : Entry) → length (entry_row e) ≡ count_of (forms.Entry (form_for e))
count_is (Sync at act value) = refl
count_is (Commit at tx) = refl
count_is (Plain var nth cached write value raised) = refl
count_is (Abort tx (Changed var read found)) = refl
count_is (Abort tx (Raised var)) = refl
count_is (Trim low) = refl
count_is (Over Halt) = refl
count_is (Over Spent) = refl
count_is (Over (Uncaught code)) = refl

-- the line of an entry has words
pub some_words : (e : Entry) → 0 < length (entry_row e)
some_words (Sync at act value) = omega arith
some_words (Commit at tx) = omega arith
some_words (Plain var nth cached write value raised) = omega arith
some_words (Abort tx (Changed var read found)) = omega arith
some_words (Abort tx (Raised var)) = omega arith
some_words (Trim low) = omega arith
some_words (Over Halt) = omega arith
some_words (Over Spent) = omega arith
some_words (Over (Uncaught code)) = omega arith

-- the operands of an entry's line are read as the entry
pub entry_back : (e : Entry) → IsEntryKept e → IsEntryTyped e → IsEntryStamped e → NamesFew e
    → entry_in (form_for e) (operands_of (forms.Entry (form_for e)) (entry_row e)) ≡ Ok e
entry_back (Sync at act value) kept typed few named = sync_back at act value few kept typed.0 typed.1
entry_back (Commit at tx) kept typed few named = commit_back at tx few.0 kept typed few.1 named
entry_back (Plain var nth cached write value raised) kept typed few named = plain_back var nth cached write value raised kept few typed
entry_back (Abort tx (Changed var read found)) kept typed few named = changed_back tx var read found kept.1 typed.1.0 typed.1.1 kept.0 typed.0 few named
entry_back (Abort tx (Raised var)) kept typed few named = raised_back tx var kept.1 kept.0 typed.0 few named
entry_back (Trim low) kept typed few named = trim_back low few
entry_back (Over Halt) kept typed few named = refl
entry_back (Over Spent) kept typed few named = refl
entry_back (Over (Uncaught code)) kept typed few named = uncaught_back code typed

-- a value, written, is a word
signed_word : (z : _) → IsValue z → IsWord (signed_decimal z)
signed_word z is = numeral_is_word (signed_decimal z) (numeral_signed z is)

-- the line of an entry is of words
pub entry_are_words : (e : Entry) → IsEntryKept e → IsEntryTyped e → IsEntryStamped e → AreWords (entry_row e)
entry_are_words (Sync at act value) kept typed few =
    let arg : arg_of act ≤ most_of (kind_of act) = arg_small act kept typed.0 in
    let most : most_of (kind_of act) ≤ 1023 = most_small (kind_of act) in (
      keyword (codes "sync") refl,
      (
        decimal_word at (omega arith),
        (kind_word (kind_of act), (decimal_word (arg_of act) (omega arith), (signed_word value typed.1, tt))),
      ),
    )
entry_are_words (Commit at tx) kept typed few =
    (keyword (codes "commit") refl, (decimal_word at (omega (arith, few.0)), tx_are_words tx kept typed few.1))
entry_are_words (Plain var nth cached write value raised) kept typed few = (
  keyword (codes "plain") refl,
  (
    decimal_word var (omega arith),
    (
      decimal_word nth (omega arith),
      (
        choice_word write (codes "rd") (codes "wr") (keyword (codes "rd") refl) (keyword (codes "wr") refl),
        (
          signed_word value typed,
          (
            choice_word cached (codes "own") (codes "cached") (keyword (codes "own") refl) (keyword (codes "cached") refl),
            (choice_word raised (codes "ok") (codes "race") (keyword (codes "ok") refl) (keyword (codes "race") refl), tt),
          ),
        ),
      ),
    ),
  ),
)
entry_are_words (Abort tx (Changed var read found)) kept typed few = (
  keyword (codes "abort") refl,
  (
    keyword (codes "changed") refl,
    (
      decimal_word var (omega (arith, kept.1)),
      (signed_word read typed.1.0, (signed_word found typed.1.1, tx_are_words tx kept.0 typed.0 few)),
    ),
  ),
)
entry_are_words (Abort tx (Raised var)) kept typed few = (
  keyword (codes "abort") refl,
  (
    keyword (codes "raised") refl,
    (decimal_word var (omega (arith, kept.1)), tx_are_words tx kept.0 typed.0 few),
  ),
)
entry_are_words (Trim low) kept typed few = (keyword (codes "trim") refl, (decimal_word low (omega (arith, few)), tt))
entry_are_words (Over Halt) kept typed few = (keyword (codes "over") refl, (keyword (codes "halt") refl, tt))
entry_are_words (Over Spent) kept typed few = (keyword (codes "over") refl, (keyword (codes "spent") refl, tt))
entry_are_words (Over (Uncaught code)) kept typed few =
    (keyword (codes "over") refl, (keyword (codes "uncaught") refl, (decimal_word code (omega (arith, typed)), tt)))
