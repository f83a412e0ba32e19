-- What is true of an attempt whose end has its numbers.
use Rattle.std.proofs.Common.{◌≡◌, ℕ, zero, suc, ◌<◌, List, [], ◌∷◌, ◌++◌, map, true, false, refl, sym, ap, ◌∙◌, subst, arith, Some, None, inl, inr, length}
use Rattle.std.specs.Prelude.{Contains, Option, ◌⊎◌, ◌↔◌, ℤ, if◌then◌else◌}
use Rattle.std.specs.List.{AllByRecursion}
use Rattle.std.proofs.lemmas.Bool.{cases_Bool}
use Rattle.std.proofs.lemmas.List.Elements.{Contains-append_left, Contains-append_right}
use Rattle.gl_model.specs.declared.tx.Number.{Number}
use Rattle.gl_model.specs.declared.tx.Pair.{Pair}
use Rattle.gl_model.specs.declared.tx.Tx.{Tx}
use Rattle.gl_model.specs.declared.tx.Why.{Why}
use Rattle.gl_model.specs.Entries.{Abort}
use Rattle.gl_model.specs.Form.{NumbersName, EntryForm}
use Rattle.gl_model.specs.Rising.{Rises}
use Rattle.gl_model.specs.Trace.{is_in}
use Rattle.gl_draws.specs.Draws.{Draw, draw, Open, is_write, is_read}
use Rattle.gl_draws.specs.Ties.{Drawn}
use Rattle.gl_rule.specs.Commits.{HeldRow, MayDrop, with_drew}
use Rattle.gl_rule.specs.Lives.{Running, life_of}
use Rattle.gl_rule.specs.View.{Held, shelf, moved}
use Rattle.gl_rule.proofs.Lasting.{no_end}
use Rattle.gl_table.specs.CaughtUp.{block_of}
use Rattle.gl_table.specs.PassView.{PassView, view_of}
use Rattle.gl_txn.specs.Attempts.{Attempting}
use Rattle.gl_txn.specs.Drawing.{end_of, numbered, drew_on}
use Rattle.gl_txn.specs.Holding.{found, row_at, row_held, held_by, held_of, AreHeld, AreUnused}
use Rattle.gl_txn.specs.Trying.{Draws}
use Rattle.gl_txn.specs.declared.taken.TakenRow.{TakenRow}
use Rattle.gl_txn.proofs.Finding.{found_held, found_mapped, changed, once_mapped}
use Rattle.gl_txn.proofs.Holdings.{row_among}
use Rattle.gl_txn.proofs.LookSteps.{block_is}

-- what is in two lists together is in the first or in the second
in_either : {A : Type 0} (xs ys : List A) (x : A) → Contains (xs ++ ys) x → Contains xs x ⊎ Contains ys x
in_either [] ys x c = inr c
in_either (z ∷ xs) ys x (zero, l, e) = inl (0, omega arith, e)
in_either (z ∷ xs) ys x (suc k, l, e) = elim (in_either xs ys x (k, omega arith, e))
    [ inl a ↦ inl (suc a.0, (let l = a.1 in omega arith), a.2) | inr b ↦ inr b ]

-- none of the numbers of an end that wait is a look's
ends_none : (ns : List Number) (y k : ℕ) (value : ℤ) → Contains (map end_of ns) (record { var = y; nth = k; look = Some value }) → ⊥
ends_none [] y k value c = absurd (let l = c.1 in omega arith)
ends_none (n ∷ ns) y k value (zero, l, e) = let z : None ≡ Some value = ap (λ (o : Drawn). o.look) e in cc
ends_none (n ∷ ns) y k value (suc i, l, e) = ends_none ns y k value (i, omega arith, e)

-- a number that has this variable and place is the number made of them
number_is : (n : Number) (y k : ℕ) → n.var ≡ y → n.nth ≡ k → n ≡ record { var = y; nth = k }
number_is n y k e f = ap (λ v. record n { var = v }) e ∙ ap (λ (m : ℕ). record { var = y; nth = m }) f

-- an end without a look that is made of the numbers comes from one of them
ends_from : (ns : List Number) (y k : ℕ) → Contains (map end_of ns) (record { var = y; nth = k; look = None })
    → Contains ns (record { var = y; nth = k })
ends_from [] y k c = absurd (let l = c.1 in omega arith)
ends_from (n ∷ ns) y k (zero, l, e) = (0, omega arith, number_is n y k (ap (λ (o : Drawn). o.var) e) (ap (λ (o : Drawn). o.nth) e))
ends_from (n ∷ ns) y k (suc i, l, e) = let r = ends_from ns y k (i, omega arith, e) in (suc r.0, (let l = r.1 in omega arith), r.2)

-- each number is made into its end
ends_to : (ns : List Number) (n : Number) → Contains ns n → Contains (map end_of ns) (end_of n)
ends_to [] n c = absurd (let l = c.1 in omega arith)
ends_to (m ∷ ns) n (zero, l, e) = (0, omega arith, ap end_of e)
ends_to (m ∷ ns) n (suc i, l, e) = let r = ends_to ns n (i, omega arith, e) in (suc r.0, (let l = r.1 in omega arith), r.2)

-- where all variables of the numbers are above x, that of each of them is
above_number : (x : ℕ) (ns : List Number) (n : Number) → AllByRecursion (λ y. x < y) (numbered ns) → Contains ns n → x < n.var
above_number x [] n all c = absurd (let l = c.1 in omega arith)
above_number x (m ∷ ns) n all (zero, l, e) = subst (λ (k : Number). x < k.var) e all.0
above_number x (m ∷ ns) n all (suc i, l, e) = above_number x ns n all.1 (i, omega arith, e)

-- in rising numbers there is one for each variable
number_once : (ns : List Number) → Rises (numbered ns) → (a b : Number) → Contains ns a → Contains ns b → a.var ≡ b.var → a.nth ≡ b.nth
number_once [] r a b c d same = absurd (let l = c.1 in omega arith)
number_once (n ∷ ns) r a b (zero, l, e) (zero, m, f) same = ap (λ (k : Number). k.nth) (sym e ∙ f)
number_once (n ∷ ns) r a b (zero, l, e) (suc j, m, f) same = let near = above_number n.var ns b r.0 (j, omega arith, f)
    in let z = ap (λ (k : Number). k.var) e in absurd (omega arith)
number_once (n ∷ ns) r a b (suc i, l, e) (zero, m, f) same = let near = above_number n.var ns a r.0 (i, omega arith, e)
    in let z = ap (λ (k : Number). k.var) f in absurd (omega arith)
number_once (n ∷ ns) r a b (suc i, l, e) (suc j, m, f) same = number_once ns r.1 a b (i, omega arith, e) (j, omega arith, f) same

-- held objects that are equal as options are equal
some_held : (a b : Held) → Some a ≡ Some b → a ≡ b
some_held a b e = cc

module _ (a : Attempting) (writes : List Pair) (p : PassView) (H : List Held) (list : Option Held) (rows : List TakenRow) (tails : List ℕ)
    (numbers : List Number) (zs : List ℕ) (draws : Draws a p.own) (are : numbered numbers ≡ zs) (rises : Rises zs)
    (held : AreHeld H list rows tails (drew_on p zs)) (above : (y k m : ℕ) (look : Option ℤ)
    → Contains p.own.drawn (record { var = y; nth = k; look = look }) → Contains numbers (record { var = y; nth = m }) → k < m)
    (in_rows : (y : ℕ) → is_in y zs ≡ true → (r : TakenRow) × (row_at rows y ≡ Some r)) (runs : life_of p.own.mine ≡ Running) where
  abbrev pub after_numbers : PassView
  after_numbers = record p {
    own = record p.own { held = H; drawn = p.own.drawn ++ map end_of numbers };
    moves = moved (length numbers) p.moves;
  }

  abbrev pub end_tx : Tx
  end_tx = record { looks = a.looks; writes = writes; numbers = numbers }

  abbrev pub one_of : (y : ℕ) → is_in y zs ≡ true → Held
  one_of y b = row_held tails (drew_on p zs) (in_rows y b).0

  -- what is held of each variable of zs is its row
  pub found_one : (y : ℕ) (b : is_in y zs ≡ true) → found (suc y) H ≡ Some (one_of y b)
  found_one y b = held.at (suc y) ∙ ap (held_by tails (drew_on p zs)) (in_rows y b).1

  -- the row that is found for such a variable is of it
  pub at_one : (y : ℕ) (b : is_in y zs ≡ true) → (in_rows y b).0.var ≡ y
  at_one y b = (row_among rows y (in_rows y b).0 (in_rows y b).1).1

  -- on each of these rows the mark for the end was drawn
  pub drew_one : (y : ℕ) (b : is_in y zs ≡ true) → (one_of y b).drew ≡ Some (draw p.own.id (block_of p.own.mine) Open)
  drew_one y b = ap (drew_on p zs) (at_one y b) ∙ rw b refl

  abbrev pub row_one : (y : ℕ) → is_in y zs ≡ true → HeldRow (shelf p.own.id p.own.mine) (view_of after_numbers) (block_of p.own.mine) y
  row_one y b = record {
    one = one_of y b;
    row = (in_rows y b).0.row;
    held = (found_held (suc y) H (one_of y b) (found_one y b)).0;
    object = ap suc (at_one y b);
    taken = refl;
    drew = drew_one y b;
  }

  -- so it was on whatever is held of a variable of zs
  pub each_one : (g : Held) (y : ℕ) → Contains H g → g.object ≡ suc y → is_in y zs ≡ true → g.drew
      ≡ Some (draw p.own.id (block_of p.own.mine) Open)
  each_one g y c e b = let same : one_of y b
      ≡ g = some_held (one_of y b) g (sym (found_one y b) ∙ ap (λ k. found k H) (sym e) ∙ held.once g c)
      in ap (λ (h : Held). h.drew) (sym same) ∙ drew_one y b

  -- the number of a look waits just where the attempt has that look
  pub looks_one : (y k : ℕ) (value : ℤ) → Contains (p.own.drawn ++ map end_of numbers) (record { var = y; nth = k; look = Some value }) ↔
      Contains a.looks (record { var = y; value = value; nth = k })
  looks_one y k value = (
    (λ c. elim (in_either p.own.drawn (map end_of numbers) (record { var = y; nth = k; look = Some value }) c)
        [ inl d ↦ (draws.looks y k value).0 d | inr d ↦ absurd (ends_none numbers y k value d) ]),
    (λ c. Contains-append_left p.own.drawn (map end_of numbers) (record { var = y; nth = k; look = Some value })
        ((draws.looks y k value).1 c)),
  )

  -- a number of the end waits just where it is one of these numbers
  pub owns_one : (y k : ℕ) → Contains (p.own.drawn ++ map end_of numbers) (record { var = y; nth = k; look = None }) ↔ Contains numbers
      (record { var = y; nth = k })
  owns_one y k = (
    (λ c. elim (in_either p.own.drawn (map end_of numbers) (record { var = y; nth = k; look = None }) c)
        [ inl d ↦ absurd (draws.ends y k d) | inr d ↦ ends_from numbers y k d ]),
    (λ c. Contains-append_right p.own.drawn (map end_of numbers) (record { var = y; nth = k; look = None })
        (ends_to numbers (record { var = y; nth = k }) c)),
  )

  -- no variable has two of these numbers
  pub once_one : (y k i : ℕ) → Contains numbers (record { var = y; nth = k }) → Contains numbers (record { var = y; nth = i }) → k ≡ i
  once_one y k i c d = number_once numbers (subst Rises (sym are) rises) (record { var = y; nth = k }) (record { var = y; nth = i }) c d
      refl

  -- the numbers are on just the variables of zs, each above that of a look of the same variable
  pub names_one : NumbersName end_tx zs
  names_one = record { variables = are; after_looks = λ y k m value l n. above y k m (Some value) ((draws.looks y k value).1 l) n }

  abbrev pub may_drop : (why : Why) → EntryForm p.own.id (Abort end_tx why)
      → MayDrop (shelf p.own.id p.own.mine) (view_of after_numbers) end_tx why zs (block_of p.own.mine)
  may_drop why formed = record {
    block = block_is p.own.mine runs;
    goes_on = no_end p.own.mine runs;
    rows = row_one;
    each = each_one;
    looks = looks_one;
    owns = owns_one;
    once = once_one;
    names = names_one;
    formed = formed;
  }

-- after an attempt was dropped no access was drawn on its rows
module _ (p : PassView) (H : List Held) (rows : List TakenRow) (tails : List ℕ) (zs : List ℕ)
    (held : AreHeld H None rows tails (drew_on p zs)) (d : Draw) (unwritten : (y : ℕ) → is_write y d.what ≡ false) (unread : (y : ℕ)
    → is_read y d.what ≡ false) where
  abbrev dropped_drew : ℕ → Option Draw
  dropped_drew y = if is_in y zs then Some d else drew_on p zs y

  -- a held row becomes the same row with what is drawn on it after the drop
  at_dropped : (y : ℕ) (o : Option TakenRow) → changed (with_drew zs d) (held_by tails (drew_on p zs) o) ≡ held_by tails dropped_drew o
  at_dropped y None = refl
  at_dropped y (Some r) = refl

  -- so just these rows are held, each of them once, those of zs with d drawn on them
  held_dropped : AreHeld (map (with_drew zs d) H) None rows tails dropped_drew
  held_dropped = record {
    at = at;
    once = once_mapped (with_drew zs d) (λ h. refl) H held.once;
    are = held.are;
  }
    where
      at : (k : ℕ) → found k (map (with_drew zs d) H) ≡ held_of None rows tails dropped_drew k
      at zero = found_mapped (with_drew zs d) (λ h. refl) 0 H ∙ ap (changed (with_drew zs d)) (held.at 0)
      at (suc y) = found_mapped (with_drew zs d) (λ h. refl) (suc y) H ∙ ap (changed (with_drew zs d)) (held.at (suc y))
          ∙ at_dropped y (row_at rows y)

  -- draws that are equal as options are equal
  some_draw : (u w : Draw) → Some u ≡ Some w → u ≡ w
  some_draw u w e = cc

  -- so these rows alone are held, and no access of them was drawn
  pub unused_dropped : AreUnused (map (with_drew zs d) H) rows
  unused_dropped = record { tails = tails; drew = dropped_drew; holds = held_dropped; unused = unused }
    where
      unused : (y : ℕ) (c : Draw) → dropped_drew y ≡ Some c → (is_write y c.what ≡ false) × (is_read y c.what ≡ false)
      unused y c e = elim (cases_Bool (is_in y zs)) [
        | inl b ↦ (let same = some_draw d c (rw b at e)
            in (
              subst (λ (u : Draw). is_write y u.what ≡ false) same (unwritten y),
              subst (λ (u : Draw). is_read y u.what ≡ false) same
                  (unread y),
            ))
        | inr b ↦ absurd (let z = rw b at e in cc)
      ]
