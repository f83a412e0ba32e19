-- A number more, for the end of an attempt.
use Rattle.gl_rule.proofs.Moves.{moved_both}
use Rattle.std.proofs.Common.{◌≡◌, ◌≢◌, ℕ, zero, suc, ◌+◌, ◌==◌, List, [], ◌∷◌, ◌++◌, map, true, false, refl, sym, ap, ◌∙◌, subst, arith, Some, None, inl, inr, ne_eqb, add-one, append_assoc, length, length-append}
use Rattle.std.specs.Prelude.{Contains, Option, ℤ, if◌then◌else◌}
use Rattle.std.proofs.lemmas.Bool.{cases_Bool}
use Rattle.std.proofs.lemmas.List.Elements.{Contains-push_cases}
use native.Mathlib.Decide.{ℕ_discrete}
use Rattle.gl_model.specs.declared.tx.Number.{Number}
use Rattle.gl_model.specs.Trace.{is_in}
use Rattle.gl_draws.specs.Draws.{Draw, draw, Open}
use Rattle.gl_draws.specs.Ties.{Drawn}
use Rattle.gl_draws.proofs.EntryKinds.{is_in-contains, contains-is_in}
use Rattle.gl_rule.specs.Fitting.{MayOpen}
use Rattle.gl_rule.specs.Numbers.{count_on}
use Rattle.gl_rule.specs.Told.{IsAboveDrawn}
use Rattle.gl_rule.specs.View.{Held, without, Moves, moved}
use Rattle.gl_rule.proofs.Lasting.{no_end}
use Rattle.gl_table.specs.CaughtUp.{block_of}
use Rattle.gl_table.specs.PassView.{PassView, view_of, shelf_of}
use Rattle.gl_table.specs.Putting.{MayOpenOn, held_at, opened}
use Rattle.gl_txn.specs.Drawing.{end_of, numbered, drew_on, MayNumber, HasDrawn}
use Rattle.gl_txn.specs.Holding.{found, row_at, row_held, held_by, held_of, AreHeld}
use Rattle.gl_txn.specs.declared.taken.TakenRow.{TakenRow}
use Rattle.gl_txn.proofs.Finding.{found_here, found_past, found_held, found_at, found_gone, found_still, once_more, once_without}
use Rattle.gl_txn.proofs.Holdings.{row_among}
use Rattle.gl_txn.proofs.LookSteps.{block_is}

-- something was drawn on the row of x
module _ (held : List Held) (list : Option Held) (rows : List TakenRow) (tails : List ℕ) (drew drew' : ℕ → Option Draw)
    (a : AreHeld held list rows tails drew) (x : ℕ) (r : TakenRow) (there : row_at rows x ≡ Some r) (d : Draw)
    (now : drew' x ≡ Some d) (others : (y : ℕ) → y ≢ x → drew' y ≡ drew y) where
  -- the row that is found for x is of x
  at_var : r.var ≡ x
  at_var = (row_among rows x r there).1

  -- this row as it is held, with d drawn on it
  h : Held
  h = record (row_held tails drew r) { drew = Some d }

  -- the row of any other variable is held as before
  by_row : (y : ℕ) → y ≢ x → (o : Option TakenRow) → row_at rows y ≡ o → held_by tails drew o ≡ held_by tails drew' o
  by_row y ne None e = refl
  by_row y ne (Some q) e = let at : q.var ≡ y = (row_among rows y q e).1
      in ap (λ (z : Option Draw). Some (record (row_held tails drew q) { drew = z })) (sym (others q.var (λ s. ne (sym at ∙ s))))

  -- the row of x is held as before, with d drawn on it
  here : held_by tails drew' (Some r) ≡ Some (record (row_held tails drew r) { drew = Some d })
  here = ap (λ (z : Option Draw). Some (record (row_held tails drew r) { drew = z })) (ap drew' at_var ∙ now)

  -- so just the same objects are held, each of them once, the row of x with d drawn on it
  pub held_marked : AreHeld (record (row_held tails drew r) { drew = Some d } ∷ without (suc x) held) list rows tails drew'
  held_marked = record {
    at = at;
    once = once_more (record (row_held tails drew r) { drew = Some d }) (without (suc x) held) (once_without (suc x) held a.once)
        (ap (λ z. found (suc z) (without (suc x) held)) at_var ∙ found_gone (suc x) held);
    are = a.are;
  }
    where
      at : (k : ℕ) → found k (record (row_held tails drew r) { drew = Some d } ∷ without (suc x) held) ≡ held_of list rows tails drew' k
      at zero = found_past (record (row_held tails drew r) { drew = Some d }) (without (suc x) held) 0 (λ e. absurd (omega arith))
          ∙ found_still (suc x) 0 held (λ e. absurd (omega arith)) ∙ a.at 0
      at (suc y) = elim (ℕ_discrete y x) [
        | yes same ↦ found_here (record (row_held tails drew r) { drew = Some d }) (without (suc x) held) (suc y)
            (ap suc (at_var ∙ sym same)) ∙ sym here ∙ ap (held_by tails drew') (sym there ∙ ap (row_at rows) (sym same))
        | no other ↦ found_past (record (row_held tails drew r) { drew = Some d }) (without (suc x) held) (suc y)
            (λ e. other (let z = at_var in omega arith)) ∙ found_still (suc x) (suc y) held (λ e. other (omega arith)) ∙ a.at (suc y)
            ∙ by_row y other (row_at rows y) refl
      ]

-- numbers of an end on other variables leave the count of those on x
count_ends : (x : ℕ) (drawn : List Drawn) (numbers : List Number) → (Contains (numbered numbers) x → ⊥)
    → count_on x (drawn ++ map end_of numbers) ≡ count_on x drawn
count_ends x [] [] out = refl
count_ends x [] (n ∷ ns) out = let b : (n.var == x) ≡ false = ne_eqb n.var x (λ e. out (0, omega arith, e))
    in rw b (count_ends x [] ns (λ c. out (suc c.0, (let l = c.1 in omega arith), c.2)))
count_ends x (o ∷ os) numbers out = ap (λ n. if o.var == x then suc n else n) (count_ends x os numbers out)

-- a row on which nothing was drawn may be marked for the end
module _ (p q : PassView) (list : Option Held) (rows : List TakenRow) (tails : List ℕ) (numbers : List Number) (m : MayNumber p rows)
    (drawn : HasDrawn p q list rows tails numbers) (x : ℕ) (r : TakenRow) (there : row_at rows x ≡ Some r)
    (out : Contains (numbered numbers) x → ⊥) where
  abbrev p' : PassView
  p' = record p {
    own = record p.own { held = q.own.held; drawn = p.own.drawn ++ map end_of numbers };
    moves = moved (length numbers) p.moves;
  }

  -- x is not among the variables that have a number
  not_drawn : is_in x (numbered numbers) ≡ false
  not_drawn = elim (cases_Bool (is_in x (numbered numbers))) [ inl b ↦ absurd (out (is_in-contains x (numbered numbers) b)) | inr b ↦ b ]

  -- so nothing was drawn on its row yet
  none : drew_on p (numbered numbers) x ≡ None
  none = let b = not_drawn in rw b refl

  -- the row that is found for x is of x
  of : r.var ≡ x
  of = (row_among rows x r there).1

  -- what the pass holds of x is this row
  held_is : found (suc x) q.own.held ≡ Some (row_held tails (drew_on p (numbered numbers)) r)
  held_is = drawn.held.at (suc x) ∙ ap (held_by tails (drew_on p (numbered numbers))) there

  -- so it is what is found as object x + 1
  at_is : held_at (x + 1) q.own.held ≡ row_held tails (drew_on p (numbered numbers)) r
  at_is = found_at (x + 1) q.own.held (row_held tails (drew_on p (numbered numbers)) r) (ap (λ k. found k q.own.held) (add-one x) ∙ held_is)

  -- the row of x may be marked for the end of the attempt
  pub may_number : MayOpenOn q x None
  may_number = subst (λ (q : PassView). MayOpenOn q x None) (sym drawn.is) (record {
    taken = r.row;
    may = subst (λ (h : Held). MayOpen (shelf_of p)
        (view_of p') h x r.row
        (block_of p.own.mine) None) (sym at_is) (record {
          draws = record {
            held = (found_held (suc x) q.own.held (row_held tails (drew_on p (numbered numbers)) r) held_is).0;
            object = ap suc of;
            is = refl;
            first = ap (drew_on p (numbered numbers)) of ∙ none;
            block = block_is p.own.mine m.runs;
            goes_on = no_end p.own.mine m.runs;
            few = m.few;
            paid = λ o c e. (let z = subst (λ (l : List (ℕ × ℤ)). Contains l o) m.owed c in let l = z.1 in absurd (omega arith));
          };
          word = λ v e. absurd (cc);
          room = (let e = count_ends x p.own.drawn numbers out in let few = m.each x in omega arith);
        });
  })

  -- a pass that drew n on x has that number behind those that wait, and made one step more
  after_is : (r' : PassView) (n : ℕ) → r' ≡ opened q x n None → r'
      ≡ record p {
        own = record p.own {
          held = r'.own.held;
          drawn = (p.own.drawn ++ map end_of numbers)
              ++ record { var = x; nth = n; look = None } ∷ [];
        };
        moves = moved 1 (moved (length numbers) p.moves);
      }
  after_is r' n is =
      let h = r'.own.held in
      let o : List Drawn = record { var = x; nth = n; look = None } ∷ [] in
      let held : r'.own.held ≡ (opened q x n None).own.held = ap (λ (z : PassView). z.own.held) is in
      let start : r' ≡ record q {
        own = record q.own {
          held = (opened q x n None).own.held;
          drawn = q.own.drawn
              ++ record { var = x; nth = n; look = None } ∷ [];
        };
        moves = moved 1 q.moves;
      } = is in
      start ∙ ap (λ (l : List Held). record q {
        own = record q.own { held = l; drawn = q.own.drawn ++ record { var = x; nth = n; look = None } ∷ [] };
        moves = moved 1 q.moves;
      }) (sym held)
      ∙ ap (λ (z : PassView). record z {
        own = record z.own {
          held = r'.own.held;
          drawn = z.own.drawn
              ++ record { var = x; nth = n; look = None } ∷ [];
        };
        moves = moved 1 z.moves;
      }) drawn.is

  -- with a number of the end more, those that wait are the ones before and that one
  ends_pushed : (ns : List Number) (n : Number) → map end_of (ns ++ n ∷ []) ≡ map end_of ns ++ end_of n ∷ []
  ends_pushed [] n = refl
  ends_pushed (k ∷ ns) n = ap (λ (l : List Drawn). end_of k ∷ l) (ends_pushed ns n)

  -- with a number more, the variables that have one are those before and that number's
  keys_pushed : (ns : List Number) (n : Number) → numbered (ns ++ n ∷ []) ≡ numbered ns ++ n.var ∷ []
  keys_pushed [] n = refl
  keys_pushed (k ∷ ns) n = ap (λ (l : List ℕ). k.var ∷ l) (keys_pushed ns n)

  -- the last variable of a list is in it
  in_last : (ys : List ℕ) (y : ℕ) → is_in y (ys ++ y ∷ []) ≡ true
  in_last ys y = contains-is_in y (ys ++ y ∷ [])
      (Rattle.std.proofs.lemmas.List.Elements.Contains-append_right ys (y ∷ []) y (0, omega arith, refl))

  -- a variable other than the last one is in a list just where it is in the list without that
  in_other : (ys : List ℕ) (y z : ℕ) → z ≢ y → is_in z (ys ++ y ∷ []) ≡ is_in z ys
  in_other [] y z ne = let b : (z == y) ≡ false = ne_eqb z y ne in rw b refl
  in_other (k ∷ ys) y z ne = ap (λ b. if z == k then true else b) (in_other ys y z ne)

  -- numbers that are equal are on the same variable, and as numbers on it the same
  number_same : (a b : Number) → a ≡ b → (a.var ≡ b.var) × (a.nth ≡ b.nth)
  number_same a b e = (ap (λ (k : Number). k.var) e, ap (λ (k : Number). k.nth) e)

  -- where n is above the numbers of x that wait, a pass that draws it for the end has drawn these numbers and that one
  pub number_more : (r' : PassView) (n : ℕ) → r' ≡ opened q x n None → IsAboveDrawn x n q.own.drawn
      → HasDrawn p r' list rows tails (numbers ++ record { var = x; nth = n } ∷ [])
  number_more r' n is above = record {
    is = after_is r' n is ∙ ap (λ (l : List Drawn). record p {
      own = record p.own { held = r'.own.held; drawn = l };
      moves = moved 1 (moved (length numbers) p.moves);
    })
        (append_assoc p.own.drawn (map end_of numbers) (record { var = x; nth = n; look = None } ∷ [])
        ∙ ap (λ (l : List Drawn). p.own.drawn ++ l) (sym (ends_pushed numbers (record { var = x; nth = n }))))
        ∙ ap (λ (m : Moves). record p {
          own = record p.own {
            held = r'.own.held;
            drawn = p.own.drawn ++ map end_of (numbers ++ record { var = x; nth = n } ∷ []);
          };
          moves = m;
        }) (moved_both (length numbers) 1 (length (numbers ++ record { var = x; nth = n } ∷ [])) p.moves
        (sym (length-append numbers (record { var = x; nth = n } ∷ []))));
    held = subst (λ (l : List Held). AreHeld l list rows tails drew') (sym held_then) marked;
    above = λ y k m look c d. elim (Contains-push_cases numbers (record { var = x; nth = n }) (record { var = y; nth = m }) d) [
      | inl old ↦ drawn.above y k m look c old
      | inr new ↦ (let s = number_same (record { var = x; nth = n }) (record { var = y; nth = m }) new in
          let among : Contains q.own.drawn (record { var = x; nth = k; look = look }) =
          subst (λ (l : List Drawn). Contains l (record { var = x; nth = k; look = look }))
          (sym (ap (λ (z : PassView). z.own.drawn) drawn.is))
          (Rattle.std.proofs.lemmas.List.Elements.Contains-append_left p.own.drawn (map end_of numbers)
          (record { var = x; nth = k; look = look })
          (subst (λ v. Contains p.own.drawn (record { var = v; nth = k; look = look })) (sym s.0) c)) in
          let l = above k look among in let e = s.1 in omega arith)
    ];
  }
    where
      drew' : ℕ → Option Draw
      drew' = drew_on p (numbered (numbers ++ record { var = x; nth = n } ∷ []))

      d : Draw
      d = draw p.own.id (block_of p.own.mine) Open

      h : Held
      h = row_held tails (drew_on p (numbered numbers)) r

      now : drew_on p (numbered (numbers ++ record { var = x; nth = n } ∷ [])) x ≡ Some (draw p.own.id (block_of p.own.mine) Open)
      now = ap (λ ys. drew_on p ys x) (keys_pushed numbers (record { var = x; nth = n }))
          ∙ (let b = in_last (numbered numbers) x in rw b refl)

      others : (y : ℕ) → y ≢ x → drew_on p (numbered (numbers ++ record { var = x; nth = n } ∷ [])) y ≡ drew_on p (numbered numbers) y
      others y ne = ap (λ ys. drew_on p ys y) (keys_pushed numbers (record { var = x; nth = n }))
          ∙ ap (λ b. if b then Some (draw p.own.id (block_of p.own.mine) Open) else None) (in_other (numbered numbers) x y ne)

      by_q : draw q.own.id (block_of q.own.mine) Open ≡ draw p.own.id (block_of p.own.mine) Open
      by_q = ap (λ (z : PassView). draw z.own.id (block_of z.own.mine) Open) drawn.is

      held_then : r'.own.held ≡ record (row_held tails (drew_on p (numbered numbers)) r)
          { drew = Some (draw p.own.id (block_of p.own.mine) Open) } ∷ without (suc x) q.own.held
      held_then =
          ap (λ (z : PassView). z.own.held) is
          ∙ ap (λ (g : Held). record g { drew = Some (draw q.own.id (block_of q.own.mine) Open) } ∷ without g.object q.own.held) at_is
          ∙ ap (λ (e : Draw). record (row_held tails (drew_on p (numbered numbers)) r) { drew = Some e } ∷ without (suc r.var) q.own.held)
          by_q
          ∙ ap (λ k. record (row_held tails (drew_on p (numbered numbers)) r) { drew = Some (draw p.own.id (block_of p.own.mine) Open) }
          ∷ without (suc k) q.own.held) of

      marked : AreHeld (record (row_held tails (drew_on p (numbered numbers)) r) { drew = Some (draw p.own.id (block_of p.own.mine) Open) }
          ∷ without (suc x) q.own.held) list rows tails (drew_on p (numbered (numbers ++ record { var = x; nth = n } ∷ [])))
      marked = held_marked q.own.held list rows tails (drew_on p (numbered numbers))
          (drew_on p (numbered (numbers ++ record { var = x; nth = n } ∷ []))) drawn.held x r there
          (draw p.own.id (block_of p.own.mine) Open) now others
