-- The words of the objects and of the cells do not overlap.
use Rattle.std.proofs.Common.{◌≡◌, ◌≢◌, ℕ, suc, zero, ◌+◌, ◌*◌, ◌%◌, ◌<◌, List, [], ◌∷◌, length, set, arith, length-set, ◌∙◌, refl}
use Rattle.std.specs.Prelude.{slice_index}
use Rattle.std.proofs.lemmas.List.{get_or-set_same, get_or-set_other}
use Rattle.gl_rule.specs.Objects.{Board, board, objects, word_count, cell_at}

-- setting a word to what it is changes nothing
pub set_same : (ns : List ℕ) (i : ℕ) → set ns i (slice_index ns i) ≡ ns
set_same [] i = refl
set_same (n ∷ ns) zero = refl
set_same (n ∷ ns) (suc i) = λ j. n ∷ set_same ns i j

-- two boards that have the same turns
abbrev pub SameTurns : Board → Board → Type 0
SameTurns b b' = (y : ℕ) → y < objects → b'.turn y ≡ b.turn y

-- two boards that have the same counts
abbrev pub SameCounts : Board → Board → Type 0
SameCounts b b' = (y : ℕ) → y < objects → b'.count y ≡ b.count y

-- two boards that have the same holds
abbrev pub SameHolds : Board → Board → Type 0
SameHolds b b' = (y : ℕ) → y < objects → b'.hold y ≡ b.hold y

-- two boards that have the same cells
abbrev pub SameCells : Board → Board → Type 0
SameCells b b' = (p i : ℕ) → b'.cell p i ≡ b.cell p i

-- setting a word leaves the number of words
pub still_long : (cap : ℕ) (words : List ℕ) (i n : ℕ) → length words ≡ word_count cap → length (set words i n) ≡ word_count cap
still_long cap words i n long = length-set words i n ∙ long

module _ (cap : ℕ) (words : List ℕ) (long : length words ≡ word_count cap) where
  module _ (k : ℕ) (near : k < objects) (n : ℕ) where
    abbrev pub by_turn : Board
    by_turn = board cap (set words (3 * k + 1) n)

    abbrev pub by_count : Board
    by_count = board cap (set words (3 * k) n)

    abbrev pub by_hold : Board
    by_hold = board cap (set words (3 * k + 2) n)

    -- once the turn of object k is set to n, it is n
    pub turn_here : (board cap (set words (3 * k + 1) n)).turn k ≡ n
    turn_here = get_or-set_same words (3 * k + 1) n 0 (omega arith)

    -- setting it leaves the turn of each other object
    pub turn_else : (y : ℕ) → y ≢ k → (board cap (set words (3 * k + 1) n)).turn y ≡ (board cap words).turn y
    turn_else y other = get_or-set_other words (3 * k + 1) (3 * y + 1) n 0 (λ e. other (omega arith))

    -- setting the turn of an object leaves all counts
    pub turn_counts : SameCounts (board cap words) (board cap (set words (3 * k + 1) n))
    turn_counts y m = get_or-set_other words (3 * k + 1) (3 * y) n 0 (λ e. omega arith)

    -- setting the turn of an object leaves all holds
    pub turn_holds : SameHolds (board cap words) (board cap (set words (3 * k + 1) n))
    turn_holds y m = get_or-set_other words (3 * k + 1) (3 * y + 2) n 0 (λ e. omega arith)

    -- setting the turn of an object leaves all cells
    pub turn_cells : SameCells (board cap words) (board cap (set words (3 * k + 1) n))
    turn_cells p i = get_or-set_other words (3 * k + 1) (cell_at cap p i) n 0 (λ e. omega arith)

    -- setting the turn of an object leaves the stop word
    pub turn_stop : (board cap (set words (3 * k + 1) n)).stop ≡ (board cap words).stop
    turn_stop = get_or-set_other words (3 * k + 1) 3075 n 0 (λ e. omega arith)

    -- once the count of object k is set to n, it is n
    pub count_here : (board cap (set words (3 * k) n)).count k ≡ n
    count_here = get_or-set_same words (3 * k) n 0 (omega arith)

    -- setting it leaves the count of each other object
    pub count_else : (y : ℕ) → y ≢ k → (board cap (set words (3 * k) n)).count y ≡ (board cap words).count y
    count_else y other = get_or-set_other words (3 * k) (3 * y) n 0 (λ e. other (omega arith))

    -- setting the count of an object leaves all turns
    pub count_turns : SameTurns (board cap words) (board cap (set words (3 * k) n))
    count_turns y m = get_or-set_other words (3 * k) (3 * y + 1) n 0 (λ e. omega arith)

    -- setting the count of an object leaves all holds
    pub count_holds : SameHolds (board cap words) (board cap (set words (3 * k) n))
    count_holds y m = get_or-set_other words (3 * k) (3 * y + 2) n 0 (λ e. omega arith)

    -- setting the count of an object leaves all cells
    pub count_cells : SameCells (board cap words) (board cap (set words (3 * k) n))
    count_cells p i = get_or-set_other words (3 * k) (cell_at cap p i) n 0 (λ e. omega arith)

    -- setting the count of an object leaves the stop word
    pub count_stop : (board cap (set words (3 * k) n)).stop ≡ (board cap words).stop
    count_stop = get_or-set_other words (3 * k) 3075 n 0 (λ e. omega arith)

    -- once the hold of object k is set to n, it is n
    pub hold_here : (board cap (set words (3 * k + 2) n)).hold k ≡ n
    hold_here = get_or-set_same words (3 * k + 2) n 0 (omega arith)

    -- setting it leaves the hold of each other object
    pub hold_else : (y : ℕ) → y ≢ k → (board cap (set words (3 * k + 2) n)).hold y ≡ (board cap words).hold y
    hold_else y other = get_or-set_other words (3 * k + 2) (3 * y + 2) n 0 (λ e. other (omega arith))

    -- setting the hold of an object leaves all turns
    pub hold_turns : SameTurns (board cap words) (board cap (set words (3 * k + 2) n))
    hold_turns y m = get_or-set_other words (3 * k + 2) (3 * y + 1) n 0 (λ e. omega arith)

    -- setting the hold of an object leaves all counts
    pub hold_counts : SameCounts (board cap words) (board cap (set words (3 * k + 2) n))
    hold_counts y m = get_or-set_other words (3 * k + 2) (3 * y) n 0 (λ e. omega arith)

    -- setting the hold of an object leaves all cells
    pub hold_cells : SameCells (board cap words) (board cap (set words (3 * k + 2) n))
    hold_cells p i = get_or-set_other words (3 * k + 2) (cell_at cap p i) n 0 (λ e. omega arith)

    -- setting the hold of an object leaves the stop word
    pub hold_stop : (board cap (set words (3 * k + 2) n)).stop ≡ (board cap words).stop
    hold_stop = get_or-set_other words (3 * k + 2) 3075 n 0 (λ e. omega arith)

  module _ (n : ℕ) where
    -- once the stop word is set to n, it is n
    pub stop_here : (board cap (set words 3075 n)).stop ≡ n
    stop_here = get_or-set_same words 3075 n 0 (omega arith)

    -- setting the stop word leaves all turns
    pub stop_turns : SameTurns (board cap words) (board cap (set words 3075 n))
    stop_turns y m = get_or-set_other words 3075 (3 * y + 1) n 0 (λ e. omega arith)

    -- setting the stop word leaves all counts
    pub stop_counts : SameCounts (board cap words) (board cap (set words 3075 n))
    stop_counts y m = get_or-set_other words 3075 (3 * y) n 0 (λ e. omega arith)

    -- setting the stop word leaves all holds
    pub stop_holds : SameHolds (board cap words) (board cap (set words 3075 n))
    stop_holds y m = get_or-set_other words 3075 (3 * y + 2) n 0 (λ e. omega arith)

    -- setting the stop word leaves all cells
    pub stop_cells : SameCells (board cap words) (board cap (set words 3075 n))
    stop_cells p i = get_or-set_other words 3075 (cell_at cap p i) n 0 (λ e. omega arith)

  -- the word i of the cell of q
  module _ (q i n : ℕ) where
    -- setting a word of a cell leaves all turns
    pub cell_turns : SameTurns (board cap words) (board cap (set words (cell_at cap q i) n))
    cell_turns y m = get_or-set_other words (cell_at cap q i) (3 * y + 1) n 0 (λ e. omega arith)

    -- setting a word of a cell leaves all counts
    pub cell_counts : SameCounts (board cap words) (board cap (set words (cell_at cap q i) n))
    cell_counts y m = get_or-set_other words (cell_at cap q i) (3 * y) n 0 (λ e. omega arith)

    -- setting a word of a cell leaves all holds
    pub cell_holds : SameHolds (board cap words) (board cap (set words (cell_at cap q i) n))
    cell_holds y m = get_or-set_other words (cell_at cap q i) (3 * y + 2) n 0 (λ e. omega arith)

    -- setting a word of a cell leaves the stop word
    pub cell_stop : (board cap (set words (cell_at cap q i) n)).stop ≡ (board cap words).stop
    cell_stop = get_or-set_other words (cell_at cap q i) 3075 n 0 (λ e. omega arith)

    -- once word i of the cell of q is set to n, it is n, where the ring has a cell
    pub cell_here : 0 < cap → i < 5 → (board cap (set words (cell_at cap q i) n)).cell q i ≡ n
    cell_here some few = let r : q % cap < cap = Rattle.std.proofs.Common.mod-lt q some
        in get_or-set_same words (cell_at cap q i) n 0 (omega arith)

    -- setting it leaves each word of another cell, and each other word of the same cell
    pub cell_else : (p j : ℕ) → i < 5 → j < 5 → (p % cap ≡ q % cap → j ≡ i → ⊥) → (board cap (set words (cell_at cap q i) n)).cell p j
        ≡ (board cap words).cell p j
    cell_else p j few few' other = get_or-set_other words (cell_at cap q i) (cell_at cap p j) n 0 (λ e. other (omega arith) (omega arith))
