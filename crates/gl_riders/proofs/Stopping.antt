-- Why a try was not answered.
use Rattle.std.proofs.Common.{◌≡◌, ℕ, ℤ, ◌<◌, List, [], ◌∷◌, ◌++◌, refl, ap, subst}
use Rattle.std.specs.Prelude.{◌≢◌, Contains}
use Rattle.gl_rows.specs.Walks.{ReadBusy}
use Rattle.gl_rows.specs.WritingBack.{IsWrittenBack, read_busy}
use Rattle.gl_table.specs.PassView.{PassView}
use Rattle.gl_riders.specs.Unanswered.{HavePaid, Owes}

-- one word more was written back
pays_on : (xs : List ℕ) (p q r : PassView) (x : ℕ) → HavePaid xs p q → Owes q x → IsWrittenBack q x r → HavePaid (xs ++ x ∷ []) p r
pays_on [] p q r x same owes stored =
    (r, subst (λ (v : PassView). Owes v x) same owes, subst (λ (v : PassView). IsWrittenBack v x r) same stored, refl)
pays_on (y ∷ ys) p q r x (mid, owed, first, then) owes stored = (mid, owed, first, pays_on ys mid q r x then owes stored)

-- what was paid from p to q and one word more from q to r is paid from p to r
pub pays_more : (p q r : PassView) (x : ℕ) (value : ℤ) → ((vars : List ℕ) × HavePaid vars p q) → Contains q.own.owed (x, value)
    → IsWrittenBack q x r → (vars : List ℕ) × HavePaid vars p r
pays_more p q r x value (vars, paid) owes stored = (vars ++ x ∷ [], pays_on vars p q r x paid (value, owes) stored)

-- the turn of a row was held
pub was_busy : (p q : PassView) (x by : ℕ) → by < 16 → by ≢ p.own.id → q ≡ read_busy p x by → ReadBusy x by p q
was_busy p q x by near other is = record {
  near = near;
  other = other;
  reads = ap (λ (v : PassView). v.reads) is;
  own = ap (λ (v : PassView). v.own) is;
  spare = ap (λ (v : PassView). v.spare) is;
  seen = ap (λ (v : PassView). v.seen) is;
  known = ap (λ (v : PassView). v.known) is;
  cost = ap (λ (v : PassView). v.moves) is;
}
