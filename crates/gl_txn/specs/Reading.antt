-- What a read inside an attempt answers, and why it stops.
use Rattle.std.specs.Prelude.{◌≡◌, ◌≢◌, ℕ, ℤ, suc, ◌<◌, false, [], ◌∷◌, ◌++◌, Option, Some, None}
use Rattle.gl_model.specs.declared.limits.TheConstants.{THREADS, TX_VARIABLES}
use Rattle.gl_model.specs.declared.row.Row.{Row}
use Rattle.gl_model.specs.declared.tx.Look.{Look}
use Rattle.gl_model.specs.declared.tx.Pair.{Pair}
use Rattle.gl_rule.specs.declared.slot.Slot.TheVariants as slot
use Rattle.gl_rule.specs.View.{Taken, moved, refused}
use Rattle.gl_table.specs.PassView.{Own, PassView, view_of, after}
use Rattle.gl_txn.specs.Attempts.{Attempting, written, looked, is_in, size, IsTooLarge, with_look}
use Rattle.gl_txn.specs.Trying.{Draws}
use Rattle.gl_txn.specs.declared.stops.TxStop.{TxStop}
use Rattle.gl_txn.specs.declared.stops.TxStop.TheVariants.{Busy, TooLarge}

-- the attempt's own write, else its earlier look, else a new look, for which a number waits from then on; b and u are the attempt and
-- what the pass has of its own afterwards
abbrev pub ReadBy : Option Pair → Option Look → ℕ → ℤ → Attempting → Own → Attempting → Own → Type 0
ReadBy (Some w) look x value a o b u = (value ≡ w.value) × (b ≡ a) × (u ≡ o)
ReadBy None (Some l) x value a o b u = (value ≡ l.value) × (b ≡ a) × (u ≡ o)
ReadBy None None x value a o b u = (nth : ℕ) × (b ≡ with_look x value nth a) × Draws b u
    × (u ≡ record o { drawn = o.drawn ++ record { var = x; nth = nth; look = Some value } ∷ [] }) × (size a < TX_VARIABLES)

abbrev pub IsRead : ℕ → ℤ → Attempting → Own → Attempting → Own → Type 0
IsRead x value a o b u = ReadBy (written a x) (looked a x) x value a o b u

-- a new look took the row as it was then, which had this word, and did nothing else: five steps, one of them for its number
abbrev pub LooksBy : Option Pair → Option Look → ℕ → ℤ → PassView → PassView → Type 0
LooksBy (Some w) look x value p q = q ≡ p
LooksBy None (Some l) x value p q = q ≡ p
LooksBy None None x value p q = (row : Row) × (row.value ≡ value)
    × (q ≡ record p { own = q.own; reads = p.reads ++ Taken (suc x) (slot.Row row) ∷ []; moves = moved 5 p.moves })

abbrev pub HasLooked : Attempting → ℕ → ℤ → PassView → PassView → Type 0
HasLooked a x value p q = LooksBy (written a x) (looked a x) x value p q

-- why a read stopped: it needed a look, had room for it and read the row's turn as held by another pass; or it has no room for the variable
abbrev pub IsReadStop : TxStop → Attempting → ℕ → PassView → PassView → Type 0
IsReadStop (Busy by) a x p q = (is_in a x ≡ false) × (size a < TX_VARIABLES) × (by < THREADS) × (by ≢ p.own.id)
    × (q ≡ after p (refused (view_of p) (suc x) by))
IsReadStop TooLarge a x p q = IsTooLarge a x × (q ≡ p)

-- only a call that stopped for the size has to say why
abbrev pub IfTooLarge : TxStop → Type 0 → Type 0
IfTooLarge (Busy by) fact = Unit {0}
IfTooLarge TooLarge fact = fact
