-- A pass that goes on with an attempt.
use Rattle.std.proofs.Common.{◌≡◌, ℕ, ℤ, sym, ap, ◌∙◌, subst, Some, None}
use Rattle.std.specs.Prelude.{Option, ◌<◌, ◌^◌}
use Rattle.gl_model.specs.declared.tx.Look.{Look}
use Rattle.gl_model.specs.declared.tx.Pair.{Pair}
use Rattle.gl_draws.specs.Ties.{counted}
use Rattle.gl_rule.specs.Lives.{life_of}
use Rattle.gl_table.specs.PassView.{Own, PassView}
use Rattle.gl_table.specs.TableView.{TableView}
use Rattle.gl_txn.specs.Attempts.{Attempting, written, looked}
use Rattle.gl_txn.specs.Reading.{HasLooked, IsRead, LooksBy, ReadBy}
use Rattle.gl_txn.specs.Trying.{Draws, MayTry}

-- a pass that changed nothing of its own but the numbers that wait may go on with an attempt whose numbers these are
may_with : (z : TableView) (p q : PassView) (a b : Attempting) → MayTry z p a → q.own ≡ record p.own { drawn = q.own.drawn } → Draws b q.own
    → MayTry z q b
may_with z p q a b may same draws = record {
  table = ap (λ (o : Own). o.table) same ∙ may.table;
  held = ap (λ (o : Own). o.held) same ∙ may.held;
  owed = ap (λ (o : Own). o.owed) same ∙ may.owed;
  few = subst (λ (o : Own). counted o.mine < 2 ^ 50) (sym same) may.few;
  runs = ap (λ (o : Own). life_of o.mine) same ∙ may.runs;
  draws = draws;
}

-- a pass whose own is as it was may go on with its attempt
may_same : (z : TableView) (p q : PassView) (a b : Attempting) → MayTry z p a → q.own ≡ p.own → b ≡ a → MayTry z q b
may_same z p q a b may same is =
    may_with z p q a b may (same ∙ ap (λ (o : Own). record p.own { drawn = o.drawn }) (sym same))
    (subst (λ (c : Attempting). Draws c q.own) (sym is) (subst (λ (o : Own). Draws a o) (sym same) may.draws))

-- after a read, however it is answered, a pass may go on with what the attempt became
may_by : (z : TableView) (p q : PassView) (a b : Attempting) (w : Option Pair) (l : Option Look) (x : ℕ) (v : ℤ) → MayTry z p a
    → ReadBy w l x v a p.own b q.own → MayTry z q b
may_by z p q a b (Some w) l x v may r = may_same z p q a b may r.2 r.1
may_by z p q a b None (Some l) x v may r = may_same z p q a b may r.2 r.1
may_by z p q a b None None x v may r =
    may_with z p q a b may (r.3 ∙ ap (λ (o : Own). record p.own { drawn = o.drawn }) (sym r.3)) r.2

-- after a read a pass may go on with what the attempt became
pub may_read : (z : TableView) (p q : PassView) (a b : Attempting) (x : ℕ) (v : ℤ) → MayTry z p a → IsRead x v a p.own b q.own
    → MayTry z q b
may_read z p q a b x v may r = may_by z p q a b (written a x) (looked a x) x v may r

-- a look, however it is made, leaves the spare room for entries
spare_by : (w : Option Pair) (l : Option Look) (x : ℕ) (v : ℤ) (p q : PassView) → LooksBy w l x v p q → q.spare ≡ p.spare
spare_by (Some w) l x v p q r = ap (λ (u : PassView). u.spare) r
spare_by None (Some l) x v p q r = ap (λ (u : PassView). u.spare) r
spare_by None None x v p q r = ap (λ (u : PassView). u.spare) r.2

-- a look in an attempt leaves the spare room for entries
pub same_spare : (a : Attempting) (x : ℕ) (v : ℤ) (p q : PassView) → HasLooked a x v p q → q.spare ≡ p.spare
same_spare a x v p q r = spare_by (written a x) (looked a x) x v p q r
