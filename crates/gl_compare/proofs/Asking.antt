-- What the judge by rows does with an access, and with a commit, over what it was lent.
use Rattle.std.proofs.Common.{◌≡◌, ℕ, List, length, refl, subst, Some, None, true, false, Bool}
use Rattle.std.specs.Prelude.{Option}
use Rattle.gl_model.specs.declared.event.Event.TheVariants.{Commit as CommitsEvent}
use Rattle.gl_model.specs.declared.event.Stamp.{Stamp}
use Rattle.gl_model.specs.declared.row.Judged.TheVariants.{Performed, Raised}
use Rattle.gl_model.specs.declared.row.Question.{Question}
use Rattle.gl_model.specs.declared.row.Row.{Row}
use Rattle.gl_judge.specs.Noted.{IsNoted}
use Rattle.gl_lines.specs.Traced.{with_stamp}
use Rattle.gl_compare.specs.Held.{hold_of, AreLeastHeld}
use Rattle.gl_compare.specs.Rows.{row_of, asked_plain, asked_commit, asked_part, Tells, TellsFirst, AreNoted, PlainDone, CommitDone}

-- the monitors that are held behind the events that were lent
pub lent_held : (h h1 : List Stamp) (t : ℕ) (held : List ℕ) → h1 ≡ h → AreLeastHeld (λ m. hold_of m h1) t held
    → AreLeastHeld (λ m. hold_of m h) t held
lent_held h h1 t held same least = subst (λ (z : List Stamp). AreLeastHeld (λ m. hold_of m z) t held) same least

module _ (h h1 : List Stamp) (rows rows1 : List Row) (t x : ℕ) (write : Bool) (held : List ℕ) (q : Question) (b : Bool) (events : h1 ≡ h)
    (kept : rows1 ≡ rows) (is : q ≡ asked_plain t write held) (tells : Tells h1 (row_of rows1 x) q b) where
  -- what the row tells of the question that was asked is told of a plain access over the events and rows before they were lent
  answer : (a : Bool) → b ≡ a → Tells h (row_of rows x) (asked_plain t write held) a
  answer a e = subst (λ z. Tells z (row_of rows x) (asked_plain t write held) a) events
      (subst (λ z. Tells h1 (row_of z x) (asked_plain t write held) a) kept
      (subst (λ z. Tells h1 (row_of rows1 x) z a) is (subst (Tells h1 (row_of rows1 x) q) e tells)))

  -- a plain access is raised where its row says so
  pub plain_raised : b ≡ true → PlainDone h (row_of rows x) (asked_plain t write held) x (Raised x) (row_of rows x)
  plain_raised e = (refl, answer true e, refl)

  -- else it is performed, and noted
  pub plain_performed : b ≡ false → (at : ℕ) (new : Row) → at ≡ length h → IsNoted (row_of rows x) q at new
      → PlainDone h (row_of rows x) (asked_plain t write held) x Performed new
  plain_performed e at new long noted = (
    answer false e,
    subst (λ n. IsNoted (row_of rows x) (asked_plain t write held) n new) long
        (subst (λ z. IsNoted (row_of rows x) z at new) is noted),
  )

module _ (h h1 : List Stamp) (rows rows1 : List Row) (t : ℕ) (variables writes held : List ℕ) (q : Question) (o : Option ℕ)
    (events : h1 ≡ h) (kept : rows1 ≡ rows) (is : q ≡ asked_commit t variables held)
    (tells : TellsFirst h1 rows1 variables (asked_part q writes) o) where
  abbrev asked : ℕ → Question
  asked = asked_part (asked_commit t variables held) writes

  -- so is the first variable for which a row tells of the commit that it fails
  first : TellsFirst h rows variables (asked_part (asked_commit t variables held) writes) o
  first = subst (λ z. TellsFirst z rows variables (asked_part (asked_commit t variables held) writes) o) events
      (subst (λ z. TellsFirst h1 z variables (asked_part (asked_commit t variables held) writes) o) kept
      (subst (λ z. TellsFirst h1 rows1 variables (asked_part z writes) o) is tells))

  -- a commit is refused for the first variable whose row says so
  pub commit_refused : (x : ℕ) → o ≡ Some x
      → CommitDone h rows t variables (asked_part (asked_commit t variables held) writes) (Raised x) h rows
  commit_refused x e =
      (subst (TellsFirst h rows variables (asked_part (asked_commit t variables held) writes)) e first, refl, refl)

  -- else it is performed, and noted in the rows of its variables
  pub commit_performed : o ≡ None → (h' : List Stamp) (at : ℕ) (new : List Row) → h' ≡ with_stamp h t (CommitsEvent variables)
      → at ≡ length h' → AreNoted variables (asked_part q writes) at rows new
      → CommitDone h rows t variables (asked_part (asked_commit t variables held) writes) Performed h' new
  commit_performed e h' at new more long noted = (
    subst (TellsFirst h rows variables (asked_part (asked_commit t variables held) writes)) e first,
    more,
    subst (λ n. AreNoted variables (asked_part (asked_commit t variables held) writes) n rows new) long
        (subst (λ z. AreNoted variables (asked_part z writes) at rows new) is noted),
  )
