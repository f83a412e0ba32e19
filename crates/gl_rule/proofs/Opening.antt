-- The table at the start.
use Rattle.std.proofs.Common.{◌≡◌, ℕ, zero, suc, ◌+◌, ◌*◌, ◌<◌, ◌≤◌, List, [], ◌∷◌, length, map, replicate, sym, refl, ap, subst, arith, inl, None}
use Rattle.std.specs.Prelude.{pos, Option, slice_index}
use Rattle.std.specs.List.{All}
use Rattle.std.proofs.lemmas.List.Elements.{All-nil, All-cons}
use mathlib.Core.Option.{some, some-injective, some-ne-none}
use lib.ListN.{get_elem?}
use Rattle.atomic_table.specs.Table as table
use Rattle.gl_model.specs.declared.limits.TheConstants.{THREADS}
use Rattle.gl_model.specs.Machine.{Setting, start}
use Rattle.gl_draws.specs.RowFacts.{read_of, RowStands}
use Rattle.gl_rule.specs.declared.slot.Slot.{Slot}
use Rattle.gl_rule.specs.declared.slot.Slot.TheVariants as slot
use Rattle.gl_state.specs.ListView.{ListView}
use Rattle.gl_rule.specs.Objects.{Key, board, capacity, objects, word_count}
use Rattle.gl_state.specs.States.{IsStateOf}
use Rattle.gl_rule.specs.View.{View, Shelf, shelf, blank}
use Rattle.gl_rule.specs.World.{World}
use Rattle.gl_model.specs.Elements.{IsStampInRange}
use Rattle.gl_rule.specs.Positions.{ShelfFits}
use Rattle.gl_rule.specs.Numbers.{ShelfDraws}
use Rattle.gl_rule.specs.Values.{IsAbove, Stands}
use Rattle.gl_rule.specs.Knowledge.{AreBelow}
use Rattle.gl_rule.specs.Machine.{ShelfCarries}
use Rattle.gl_rule.specs.Refusals.{ShelfRefusals}
use Rattle.gl_rule.specs.Ring.{ShelfTrims}
use Rattle.gl_state.specs.Starting.{empty_row}
use Rattle.gl_rule.specs.Opened.{first_slots, shelves_from, empty_shelves}
use Rattle.gl_rule.specs.Rule.{Fits, Rule}
use Rattle.gl_rule.proofs.Seats.{blank_fits}
use Rattle.gl_rule.specs.Tries.{TellsTaken}

-- the world of a table at the start: no event, no draw
abbrev first_world : Setting → World
first_world setting = record {
  log = [];
  now = start setting;
  draws = λ _. [];
  holder = λ _. 0;
  seat = λ _. 0;
  trims = [];
  values = λ _. pos 0;
  states = λ _. start setting;
  until = λ _ _. 0;
  takers = λ _. [];
  stopped = 0;
}

-- a list of n zeros
abbrev pub zero_list : ℕ → List ℕ
zero_list n = replicate n 0

-- each of the zeros is zero
zeros : (n i : ℕ) → slice_index (zero_list n) i ≡ 0
zeros zero i = refl
zeros (suc n) zero = refl
zeros (suc n) (suc i) = zeros n i

-- the list of n zeros is n long
zeros_long : (n : ℕ) → length (zero_list n) ≡ n
zeros_long zero = refl
zeros_long (suc n) = ap suc (zeros_long n)

-- where no thread has a read, each has none
none_read : (n t : ℕ) → read_of (replicate n None) t ≡ None
none_read zero t = refl
none_read (suc n) zero = refl
none_read (suc n) (suc t) = none_read n t

-- a list of n infos that are none
abbrev nones : ℕ → List (Option Rattle.gl_model.specs.declared.row.Info.Info)
nones n = replicate n None

-- the list of n infos that are none is n long
none_long : (n : ℕ) → length (nones n) ≡ n
none_long zero = refl
none_long (suc n) = ap suc (none_long n)

-- the empty row stands for a variable that nothing was drawn on
row_stands : (setting : Setting) (x : ℕ) → RowStands setting [] x [] empty_row
row_stands setting x = record { word = refl; last_write = tt; threads = none_long 16; reads = λ t. rw (none_read 16 t) tt }

-- the empty row lies above hold zero
row_above : IsAbove empty_row 0
row_above = record { at = λ i has. omega arith }

-- at the start each row is at home and empty
rows_home : (n x : ℕ) → x < n → get_elem? (map some (replicate n (slot.Row empty_row))) x ≡ some (some (slot.Row empty_row))
rows_home zero x near = absurd (omega arith)
rows_home (suc n) zero near = refl
rows_home (suc n) (suc x) near = rows_home n x (omega arith)

-- the empty list of a thread fits the empty log
shelf_fits : (t : ℕ) → t < THREADS → ShelfFits [] (λ _. 0) 0 (shelf t [])
shelf_fits t near = record {
  here = refl;
  named = near;
  events = record { listed = λ i p e ev a b c. absurd (cc); made = λ p s a own. absurd (cc); rise = λ i j p q e f a b lt c d. absurd (cc) };
  form = record {
    well_formed = λ i e a. absurd (cc);
    begins = λ i e a n all. absurd (cc);
    lows_rise = λ i j l h a b lt. absurd (cc);
    over_after_end = λ i e f a b. absurd (cc);
    nothing_after = λ i e a o. absurd (cc);
    cached = λ i x k w z a. absurd (cc);
    repeats = λ i x k z a. absurd (cc);
  };
  made = omega arith;
}

-- the empty list of a thread has no draws to agree with
shelf_draws : (t : ℕ) → ShelfDraws (λ _. []) [] (shelf t [])
shelf_draws t = record {
  numbers = record {
    kept = λ x k d a own. absurd a;
    made = λ x k i e a b. absurd (cc);
    in_flight = λ o c. absurd (let l = c.1 in omega arith);
    rise = λ x k m i j e f a b lt c d. absurd (cc);
  };
  few = λ x. omega arith;
  two = λ x. omega arith;
  above = λ x k m i e o a d c. absurd (cc);
  runs = λ o c. absurd (let l = c.1 in omega arith);
}

-- what is true of each thread's empty list from t on is true of all n lists from t
all_from : (P : Shelf → Type 0) (t n : ℕ) → ((u : ℕ) → t ≤ u → u < t + n → P (shelf u [])) → All P (shelves_from t n)
all_from P t zero f = All-nil P
all_from P t (suc n) f = All-cons P (shelf t []) (shelves_from (suc t) n) (f t (omega arith) (omega arith))
    (all_from P (suc t) n (λ u a b. f u (omega arith) (omega arith)))

-- a table begins with the rule
pub begins : (key : Key) (l : ListView) → IsStateOf l (start key.setting)
    → Rule key (table.opening (zero_list (word_count (capacity key))) (first_slots l) (blank empty_shelves))
begins key l state =
    let w = first_world key.setting in
    let cap = capacity key in
    let words : List ℕ = zero_list (word_count cap) in
    let b = board cap words in
    let fits : Fits key b w 0 (blank empty_shelves) =
    blank_fits key b w 0 empty_shelves (all_from (ShelfFits [] (λ _. 0) 0) 0 16 (λ u a c. shelf_fits u (omega arith)))
    (all_from (ShelfDraws (λ _. []) []) 0 16 (λ u a c. shelf_draws u))
    (all_from (AreBelow 0) 0 16 (λ u a c i p e at q. absurd (cc)))
    (all_from (ShelfTrims []) 0 16 (λ u a c. record {
      made = λ i low at. absurd (cc);
      kept = λ low has. absurd (let q = has.1 in omega arith);
    }))
    (all_from (ShelfRefusals (λ _ _. 0)) 0 16 (λ u a c i tx var at. absurd (cc)))
    (all_from (ShelfCarries (λ _. pos 0)) 0 16 (λ u a c i p e at q. absurd (cc)))
    (record {
      calm = λ x v c. absurd (let l = c.1 in omega arith);
      late = λ x v c. absurd (let l = c.1 in omega arith);
      once = λ x v u c. absurd (let l = c.1 in omega arith);
      owes = λ x v c. absurd (let l = c.1 in omega arith);
      tied = λ r c x k d at own. absurd at;
    }) (all_from (TellsTaken (λ _. []) []) 0 16 (λ u a c k has. absurd (let q = has.1 in omega arith))) in (
      w,
      record {
        words = zeros_long (word_count cap);
        whole = record {
          tries = record {
            named = λ k t near e. absurd (let z : b.turn k ≡ 0 = zeros (word_count cap) (3 * k + 1) in omega arith);
            word = zeros (word_count cap) 3075;
            least = omega arith;
          };
          turns = record {
            named = λ k near. subst (λ n. n ≤ THREADS) (sym (zeros (word_count cap) (3 * k + 1))) (omega arith);
            busy = λ k near nz. absurd (nz (zeros (word_count cap) (3 * k + 1)));
          };
          positions = record { count = zeros (word_count cap) (3 * 0); kept = All-nil IsStampInRange; few = λ t. omega arith };
          machine = record { allowed = refl; first = refl; last = refl; steps = λ p x at. absurd (cc) };
          numbers = record { counts = λ x near. zeros (word_count cap) (3 * suc x); threads = λ x d a. absurd a; few = λ x t. omega arith };
          verdicts = λ x. tt;
          refused = λ x. tt;
          ring = record {
            cells = λ p i x from at few. absurd (cc);
            room = omega arith;
            holds = λ x near. (let z : b.hold 0 ≡ 0 = zeros (word_count cap) (3 * 0 + 2) in let y : b.hold (suc x)
                ≡ 0 = zeros (word_count cap) (3 * suc x + 2)
                in (subst (λ n. n * key.cells ≤ b.hold (suc x)) (sym z) (omega arith), subst (λ n. n ≤ 0) (sym y) (omega arith)));
          };
          low = record {
            below = λ o has. absurd (let q = has.1 in omega arith);
            last = inl (refl, zeros (word_count cap) (3 * 0 + 2));
            once = λ o r has. absurd (let q = has.1 in omega arith);
            named = λ o has. absurd (let q = has.1 in omega arith);
          };
        };
        values = record { home = λ k near free. home k near };
        views = record { at = λ j v e. only j v e fits };
      },
    )
  where
    home : (k : ℕ) → k < objects → (y : Slot) × (get_elem? (map some (first_slots l)) k ≡ some (some y))
        × Stands key.setting (first_world key.setting) (board (capacity key) (zero_list (word_count (capacity key)))).hold k y
    home zero near = (slot.List l, refl, state)
    home (suc x) near = (
      slot.Row empty_row,
      rows_home 1024 x (omega arith),
      (row_stands key.setting x, subst (IsAbove empty_row) (sym (zeros (word_count (capacity key)) (3 * suc x + 2))) row_above),
    )

    only : (j : ℕ) (v : View) → get_elem? (blank empty_shelves ∷ []) j ≡ some v
        → Fits key (board (capacity key) (zero_list (word_count (capacity key)))) (first_world key.setting) 0 (blank empty_shelves)
        → Fits key (board (capacity key) (zero_list (word_count (capacity key)))) (first_world key.setting) j v
    only zero v e f = subst (Fits key (board (capacity key) (zero_list (word_count (capacity key)))) (first_world key.setting) 0)
        (some-injective (blank empty_shelves) v e) f
    only (suc j) v e f = absurd (some-ne-none v (sym e))
