-- A worker whose threads are all done.
use Rattle.std.proofs.Common.{arith, zero, suc, ap, ◌∙◌, map, ◌≡◌, ℕ, Bool, true, false, ◌&&◌, List, [], ◌∷◌, refl, subst}
use Rattle.std.specs.List.{list_all}
use Rattle.std.proofs.lemmas.List.Elements.{All-cons, All-head, All-set, All-tail}
use Rattle.atomic_table.specs.Seated.{TableId}
use Rattle.gl_bytecode.specs.Programs.{Bytecode}
use Rattle.gl_bytecode.specs.Machine.{Config}
use Rattle.gl_table.specs.PassView.{PassView}
use Rattle.gl_cache.specs.Words.{Words}
use Rattle.gl_txn.specs.Attempts.{Attempting}
use Rattle.std.specs.Prelude.{Option, slice_index_or, slice_set}
use Rattle.gl_threads.specs.Aboard.{AboardBy, AreAboard, AreFinished, IsAboard, IsFinished, rider_id}
use Rattle.gl_threads.specs.declared.rider.Rider.{Rider}

-- a rider that is home and aboard is finished, with the limit that it had
finished_by : (P : Bytecode) (steps : ℕ) (z : TableId) (b : Bool) (c : Config) (v : PassView) (txn : Option Attempting) (words : Words) → b
    ≡ true → AboardBy b P z c v txn words → c.limit ≡ steps → IsFinished P steps z v
finished_by P steps z true c v txn words is aboard limit = (let at : ℕ → Type 0 = λ n. IsFinished P n z v in subst at limit aboard)
finished_by P steps z false c v txn words is aboard limit = cc

-- if a conjunction is true, both of its parts are
both : (a b : Bool) → (a && b) ≡ true → (a ≡ true) × (b ≡ true)
both true true is = (refl, refl)
both true false is = cc
both false b is = cc

-- if all riders aboard are home, all are finished
pub all_finished : (P : Bytecode) (steps : ℕ) (z : TableId) (rs : List Rider) → list_all (λ r. r.home) rs ≡ true → AreAboard P steps z rs
    → AreFinished P steps z rs
all_finished P steps z [] home aboard = λ k d less. absurd (omega arith)
all_finished P steps z (r ∷ rs) home aboard =
    let b = both r.home (list_all (λ q. q.home) rs) home in
    let here : IsAboard P steps z r = All-head (IsAboard P steps z) r rs aboard in
    All-cons (λ q. IsFinished P steps z q.thread.pass) r rs (finished_by P steps z r.home r.thread.machine r.thread.pass r.thread.txn r.thread.words b.0 here.0 here.1)
    (all_finished P steps z rs b.1 (All-tail (IsAboard P steps z) r rs aboard))

-- a thread after its turn keeps its number
pub ids_set : (xs : List Rider) (i : ℕ) (y x : Rider) → rider_id y ≡ rider_id x → x ≡ slice_index_or xs i x
    → map rider_id (slice_set xs i y) ≡ map rider_id xs
ids_set [] i y x same is = refl
ids_set (r ∷ rs) zero y x same is = ap (λ n. n ∷ map rider_id rs) (same ∙ ap rider_id is)
ids_set (r ∷ rs) (suc i) y x same is = ap (λ ns. rider_id r ∷ ns) (ids_set rs i y x same is)

-- riders that are aboard stay so when one place is set to one that is
pub aboard_set : (P : Bytecode) (steps : ℕ) (z : TableId) (xs : List Rider) (i : ℕ) (y : Rider) → IsAboard P steps z y
    → AreAboard P steps z xs → AreAboard P steps z (slice_set xs i y)
aboard_set P steps z xs i y one all = All-set (IsAboard P steps z) xs i y one all
