-- What is held after each thing that an attempt's end does.
use Rattle.std.proofs.Common.{◌≡◌, ◌≢◌, ℕ, zero, suc, ◌<◌, ◌==◌, List, [], ◌∷◌, ◌++◌, length, true, false, refl, sym, ap, ◌∙◌, subst, arith, Some, None, inr, eq-eqb, ne_eqb}
use Rattle.std.specs.Prelude.{Contains, Option}
use Rattle.std.specs.List.{AllByRecursion}
use native.Mathlib.Decide.{ℕ_discrete}
use Rattle.gl_model.specs.declared.limits.TheConstants.{VARIABLES}
use Rattle.gl_model.specs.declared.row.Row.{Row}
use Rattle.gl_model.specs.Kept.{AreVariables}
use Rattle.gl_model.specs.Machine.{Setting}
use Rattle.gl_model.specs.Rising.{Rises}
use Rattle.gl_draws.specs.Draws.{Draw, is_write, is_read}
use Rattle.gl_draws.specs.RowFacts.{RowStands}
use Rattle.gl_draws.proofs.RowGrowth.{row_stays}
use Rattle.gl_rule.specs.declared.slot.Slot.TheVariants as slot
use Rattle.gl_rule.specs.Values.{with_draw}
use Rattle.gl_rule.specs.View.{View, Held, Shelf, new_held, without}
use Rattle.gl_table.specs.Putting.{MayPutBack, DoesNotHold}
use Rattle.gl_txn.specs.declared.taken.TakenRow.{TakenRow}
use Rattle.gl_txn.specs.Holding.{vars_of, found, row_at, row_held, held_by, held_of, AreHeld, AreUnused, undrawn}
use Rattle.gl_txn.proofs.Finding.{found_here, found_past, found_held, found_gone, found_still, once_more, once_without, none_held}

-- the row that stands first is found for its variable
pub row_here : (r : TakenRow) (rs : List TakenRow) (y : ℕ) → r.var ≡ y → row_at (r ∷ rs) y ≡ Some r
row_here r rs y e = let b : (r.var == y) ≡ true = eq-eqb r.var y e in rw b refl

-- looking for the row of y, a row of another variable is passed over
pub row_past : (r : TakenRow) (rs : List TakenRow) (y : ℕ) → r.var ≢ y → row_at (r ∷ rs) y ≡ row_at rs y
row_past r rs y ne = let b : (r.var == y) ≡ false = ne_eqb r.var y ne in rw b refl

-- rows that are equal as options are equal
some_row : (a b : TakenRow) → Some a ≡ Some b → a ≡ b
some_row a b e = cc

-- what is found is among them
pub row_among : (rows : List TakenRow) (y : ℕ) (r : TakenRow) → row_at rows y ≡ Some r → Contains rows r × (r.var ≡ y)
row_among [] y r e = absurd (cc)
row_among (q ∷ rs) y r e = elim (ℕ_discrete q.var y) [
  | yes same ↦ (let is = some_row q r (sym (row_here q rs y same) ∙ e)
      in ((0, omega arith, is), ap (λ (u : TakenRow). u.var) (sym is) ∙ same))
  | no other ↦ (let f = row_among rs y r (sym (row_past q rs y other) ∙ e) in let c = f.0
      in ((suc c.0, (let l = c.1 in omega arith), c.2), f.1))
]

-- and what is not found is not
pub row_none : (rows : List TakenRow) (y : ℕ) → row_at rows y ≡ None → Contains (vars_of rows) y → ⊥
row_none [] y e c = absurd (let l = c.1 in omega arith)
row_none (q ∷ rs) y e (zero, l, is) = let z : Some q ≡ None = sym (row_here q rs y is) ∙ e in cc
row_none (q ∷ rs) y e (suc k, l, is) = elim (ℕ_discrete q.var y) [
  | yes same ↦ (let z : Some q ≡ None = sym (row_here q rs y same) ∙ e in cc)
  | no other ↦ row_none rs y (sym (row_past q rs y other) ∙ e) (k, omega arith, is)
]

-- for a variable that is none of the rows' no row is found
pub row_absent : (rows : List TakenRow) (y : ℕ) → (Contains (vars_of rows) y → ⊥) → row_at rows y ≡ None
row_absent [] y out = refl
row_absent (q ∷ rs) y out = row_past q rs y (λ e. out (0, omega arith, e))
    ∙ row_absent rs y (λ c. out (suc c.0, (let l = c.1 in omega arith), c.2))

-- a row of another variable that is put last leaves what is found for y
row_pushed : (rows : List TakenRow) (r : TakenRow) (y : ℕ) → r.var ≢ y → row_at (rows ++ r ∷ []) y ≡ row_at rows y
row_pushed [] r y ne = row_past r [] y ne
row_pushed (q ∷ rs) r y ne = elim (ℕ_discrete q.var y) [
  | yes same ↦ row_here q (rs ++ r ∷ []) y same ∙ sym (row_here q rs y same)
  | no other ↦ row_past q (rs ++ r ∷ []) y other ∙ row_pushed rs r y ne ∙ sym (row_past q rs y other)
]

-- the row of a variable that is put last is found there, if the variable had none
pub row_last : (rows : List TakenRow) (r : TakenRow) (y : ℕ) → r.var ≡ y → (Contains (vars_of rows) y → ⊥) → row_at (rows ++ r ∷ []) y
    ≡ Some r
row_last [] r y e out = row_here r [] y e
row_last (q ∷ rs) r y e out = row_past q (rs ++ r ∷ []) y (λ z. out (0, omega arith, z))
    ∙ row_last rs r y e (λ c. out (suc c.0, (let l = c.1 in omega arith), c.2))

-- the variables of rows with one put last are theirs and then its
pub vars_pushed : (rows : List TakenRow) (r : TakenRow) → vars_of (rows ++ r ∷ []) ≡ vars_of rows ++ r.var ∷ []
vars_pushed [] r = refl
vars_pushed (q ∷ rs) r = ap (λ l. q.var ∷ l) (vars_pushed rs r)

-- what is in a list of numbers above x is above x
pub above_in : (x : ℕ) (xs : List ℕ) (y : ℕ) → AllByRecursion (λ z. x < z) xs → Contains xs y → x < y
above_in x [] y all c = absurd (let l = c.1 in omega arith)
above_in x (z ∷ xs) y all (zero, l, e) = subst (λ k. x < k) e all.0
above_in x (z ∷ xs) y all (suc k, l, e) = above_in x xs y all.1 (k, omega arith, e)

-- what is put last is in the list
pub last_in : (xs : List ℕ) (y : ℕ) → Contains (xs ++ y ∷ []) y
last_in [] y = (0, omega arith, refl)
last_in (x ∷ xs) y = let r = last_in xs y in (suc r.0, (let l = r.1 in omega arith), r.2)

-- the last of a rising list is not among those before it
pub last_once : (xs : List ℕ) (y : ℕ) → Rises (xs ++ y ∷ []) → Contains xs y → ⊥
last_once [] y r c = absurd (let l = c.1 in omega arith)
last_once (x ∷ xs) y r (zero, l, e) = let near = above_in x (xs ++ y ∷ []) y r.0 (last_in xs y)
    in absurd (let same : x ≡ y = e in omega arith)
last_once (x ∷ xs) y r (suc k, l, e) = last_once xs y r.1 (k, omega arith, e)

-- what is true of all of a list with one put last is true of the list and of that one
front_all : (P : ℕ → Type 0) (xs : List ℕ) (y : ℕ) → AllByRecursion P (xs ++ y ∷ []) → AllByRecursion P xs × P y
front_all P [] y all = (tt, all.0)
front_all P (x ∷ xs) y all = let r = front_all P xs y all.1 in ((all.0, r.0), r.1)

-- a rising list rises without its last
front_rises : (xs : List ℕ) (y : ℕ) → Rises (xs ++ y ∷ []) → Rises xs
front_rises [] y r = tt
front_rises (x ∷ xs) y r = ((front_all (λ z. x < z) xs y r.0).0, front_rises xs y r.1)

-- a list with one put last is longer by one
length_last : (xs : List ℕ) (y : ℕ) → length (xs ++ y ∷ []) ≡ suc (length xs)
length_last [] y = refl
length_last (x ∷ xs) y = ap suc (length_last xs y)

-- a list of variables without its last is one, and its last is a variable
pub front_are : (xs : List ℕ) (y : ℕ) → AreVariables (xs ++ y ∷ []) → AreVariables xs × (y < VARIABLES)
front_are xs y a = let e = length_last xs y in let few = a.0 in let f = front_all (λ z. z < VARIABLES) xs y a.2
    in ((omega arith, front_rises xs y a.1, f.0), f.1)

-- ---- what is held

-- with one row more taken, just the rows and that one are held
pub held_more : (held : List Held) (rows : List TakenRow) (r : TakenRow) → AreHeld held None rows [] undrawn
    → AreVariables (vars_of rows ++ r.var ∷ []) → AreHeld (new_held (suc r.var) (slot.Row r.row) ∷ held) None (rows ++ r ∷ []) [] undrawn
held_more held rows r a are = record {
  at = at;
  once = once_more (new_held (suc r.var) (slot.Row r.row)) held a.once (a.at (suc r.var)
      ∙ ap (held_by [] undrawn) (row_absent rows r.var out));
  are = subst AreVariables (sym (vars_pushed rows r)) are;
}
  where
    out : Contains (vars_of rows) r.var → ⊥
    out = last_once (vars_of rows) r.var are.1

    h : Held
    h = new_held (suc r.var) (slot.Row r.row)

    at : (k : ℕ) → found k (new_held (suc r.var) (slot.Row r.row) ∷ held) ≡ held_of None (rows ++ r ∷ []) [] undrawn k
    at zero = found_past (new_held (suc r.var) (slot.Row r.row)) held 0 (λ e. absurd (omega arith)) ∙ a.at 0
    at (suc y) = elim (ℕ_discrete r.var y) [
      | yes same ↦ found_here (new_held (suc r.var) (slot.Row r.row)) held (suc y) (ap suc same)
          ∙ ap (held_by [] undrawn) (sym (row_last rows r y same (λ c. out (subst (Contains (vars_of rows)) (sym same) c))))
      | no other ↦ found_past (new_held (suc r.var) (slot.Row r.row)) held (suc y) (λ e. other (omega arith)) ∙ a.at (suc y)
          ∙ ap (held_by [] undrawn) (sym (row_pushed rows r y other))
    ]

-- the last row is held
pub held_last : (held : List Held) (list : Option Held) (rows : List TakenRow) (r : TakenRow) (tails : List ℕ) (drew : ℕ → Option Draw)
    → AreHeld held list (rows ++ r ∷ []) tails drew → found (suc r.var) held ≡ Some (row_held tails drew r)
held_last held list rows r tails drew a =
    a.at (suc r.var) ∙ ap (held_by tails drew)
    (row_last rows r r.var refl (last_once (vars_of rows) r.var (subst AreVariables (vars_pushed rows r) a.are).1))

-- once the last row is put back, just the others are held
pub held_fewer : (held : List Held) (list : Option Held) (rows : List TakenRow) (r : TakenRow) (tails : List ℕ) (drew : ℕ → Option Draw)
    → AreHeld held list (rows ++ r ∷ []) tails drew → AreHeld (without (suc r.var) held) list rows tails drew
held_fewer held list rows r tails drew a =
    record { at = at; once = once_without (suc r.var) held a.once; are = (front_are (vars_of rows) r.var were).0 }
  where
    were : AreVariables (vars_of rows ++ r.var ∷ [])
    were = subst AreVariables (vars_pushed rows r) a.are

    at : (k : ℕ) → found k (without (suc r.var) held) ≡ held_of list rows tails drew k
    at zero = found_still (suc r.var) 0 held (λ e. absurd (omega arith)) ∙ a.at 0
    at (suc y) = elim (ℕ_discrete r.var y) [
      | yes same ↦ ap (λ z. found (suc z) (without (suc r.var) held)) (sym same) ∙ found_gone (suc r.var) held
          ∙ ap (held_by tails drew) (sym (row_absent rows y
          (λ c. last_once (vars_of rows) r.var were.1 (subst (Contains (vars_of rows)) (sym same) c))))
      | no other ↦ found_still (suc r.var) (suc y) held (λ e. other (omega arith)) ∙ a.at (suc y)
          ∙ ap (held_by tails drew) (row_pushed rows r y other)
    ]

-- nothing is held where no row is left
pub held_none : (held : List Held) (tails : List ℕ) (drew : ℕ → Option Draw) → AreHeld held None [] tails drew → held ≡ []
held_none held tails drew a = none_held held none
  where
    none : (k : ℕ) → found k held ≡ None
    none zero = a.at 0
    none (suc y) = a.at (suc y)

-- a row on which no access was drawn goes back as it was taken
drawn_stays : (setting : Setting) (x : ℕ) (row : Row) (drew : Option Draw)
    → ((d : Draw) → drew ≡ Some d → (is_write x d.what ≡ false) × (is_read x d.what ≡ false)) → (l : List _) (ds : List Draw)
    → RowStands setting l x ds row → RowStands setting l x (with_draw drew ds) row
drawn_stays setting x row None unused l ds s = s
drawn_stays setting x row (Some d) unused l ds s = let u = unused d refl in row_stays setting l x ds row s d u.0 u.1

-- a row that is unused may be put back as it is
pub may_put_unused : (setting : Setting) (s : Shelf) (v : View) (rows : List TakenRow) (r : TakenRow)
    → (u : AreUnused v.held (rows ++ r ∷ [])) → MayPutBack setting s v (suc r.var) (slot.Row r.row) false
may_put_unused setting s v rows r u =
    let f = held_last v.held None rows r u.tails u.drew u.holds in
    record {
      held = row_held u.tails u.drew r;
      has = (found_held (suc r.var) v.held (row_held u.tails u.drew r) f).0;
      object = refl;
      may = record {
        right = inr (record { stays = drawn_stays setting r.var r.row (u.drew r.var) (u.unused r.var) });
        above = λ i has. inr (i, has, omega arith);
      };
      quiet = λ e. absurd (cc);
    }

-- the rows that are unused are so without the last
pub unused_fewer : (held : List Held) (rows : List TakenRow) (r : TakenRow) → AreUnused held (rows ++ r ∷ [])
    → AreUnused (without (suc r.var) held) rows
unused_fewer held rows r u = record {
  tails = u.tails;
  drew = u.drew;
  holds = held_fewer held None rows r u.tails u.drew u.holds;
  unused = u.unused;
}

-- where the unused rows are none, nothing is held
pub unused_none : (held : List Held) → AreUnused held [] → held ≡ []
unused_none held u = held_none held u.tails u.drew u.holds

-- the variable of the last unused row is one that there is
pub last_near : (held : List Held) (rows : List TakenRow) (r : TakenRow) → AreUnused held (rows ++ r ∷ []) → r.var < VARIABLES
last_near held rows r u = (front_are (vars_of rows) r.var (subst AreVariables (vars_pushed rows r) u.holds.are)).1

-- the row of a variable behind those of the rows is not held
pub lacks_next : (held : List Held) (rows : List TakenRow) (y : ℕ) → AreHeld held None rows [] undrawn
    → AreVariables (vars_of rows ++ y ∷ []) → DoesNotHold held (suc y)
lacks_next held rows y a are h c e =
    let z : None ≡ Some h = sym (a.at (suc y) ∙ ap (held_by [] undrawn) (row_absent rows y (last_once (vars_of rows) y are.1)))
    ∙ ap (λ k. found k held) (sym e) ∙ a.once h c in
    absurd (cc)

-- a pass that holds rows alone does not hold the list
pub lacks_list : (held : List Held) (rows : List TakenRow) (tails : List ℕ) (drew : ℕ → Option Draw) → AreHeld held None rows tails drew
    → DoesNotHold held 0
lacks_list held rows tails drew a h c e = let z : None ≡ Some h = sym (a.at 0) ∙ ap (λ k. found k held) (sym e) ∙ a.once h c in absurd (cc)
