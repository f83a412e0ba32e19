-- A look, from taking the row to putting it back.
use Rattle.gl_rule.proofs.Moves.{five_steps}
use Rattle.std.proofs.Common.{◌≡◌, ℕ, suc, ◌+◌, ◌<◌, ◌==◌, List, [], ◌∷◌, ◌++◌, true, false, Bool, refl, sym, ap, ◌∙◌, subst, arith, Some, inr, add-one, ne_eqb}
use Rattle.std.specs.Prelude.{Contains, Option, ◌||◌, ℤ, ◌^◌, if◌then◌else◌}
use Rattle.gl_model.specs.declared.row.Row.{Row}
use Rattle.gl_model.specs.Machine.{Setting}
use Rattle.gl_model.specs.Entries.{Entry}
use Rattle.gl_draws.specs.Draws.{draw, Looked}
use Rattle.gl_draws.specs.Ties.{Drawn, counted, last_position}
use Rattle.gl_rule.specs.declared.slot.Slot.TheVariants as slot
use Rattle.gl_rule.specs.Fitting.{MayOpen}
use Rattle.gl_rule.specs.Lives.{Running, life_of}
use Rattle.gl_rule.specs.Numbers.{count_on}
use Rattle.gl_rule.specs.View.{Held, new_held, without, left, Taken, Moves, moved}
use Rattle.gl_rule.proofs.Lasting.{no_end, has_block}
use Rattle.gl_table.specs.CaughtUp.{block_of, or_zero}
use Rattle.gl_table.specs.PassView.{PassView, view_of, shelf_of, after}
use Rattle.gl_table.specs.Putting.{MayOpenOn, MayPutBack, held_at, opened}
use Rattle.gl_table.proofs.Doing.{with_row}
use Rattle.gl_txn.proofs.Finding.{found_here, found_at, without_here}

-- a thread that runs has a last event, which is its block
pub block_is : (es : List Entry) → life_of es ≡ Running → last_position es ≡ Some (block_of es)
block_is es runs = let b = has_block es runs in b.1 ∙ ap (λ (o : Option ℕ). Some (or_zero o)) (sym b.1)

-- something or false is that something
pub or_no : (b : Bool) → (b || false) ≡ b
or_no true = refl
or_no false = refl

-- a row that is held as it was taken is found where the table's calls look for it
pub row_there : (x : ℕ) (y : Rattle.gl_rule.specs.declared.slot.Slot.Slot) (held : List Held) → held_at (x + 1) (new_held (suc x) y ∷ held)
    ≡ new_held (suc x) y
row_there x y held = found_at (x + 1) (new_held (suc x) y ∷ held) (new_held (suc x) y)
    (found_here (new_held (suc x) y) held (x + 1) (sym (add-one x)))

-- it may be marked for a look with its word
pub may_look : (p : PassView) (x : ℕ) (row : Row) (value : ℤ) → value ≡ row.value → p.own.held ≡ [] → p.own.owed ≡ []
    → counted p.own.mine < 2 ^ 50 → life_of p.own.mine ≡ Running → count_on x p.own.drawn ≡ 0
    → (q : PassView) → q ≡ with_row p x row → MayOpenOn q x (Some value)
may_look p x row value word held owed few runs room q is = subst (λ (q : PassView). MayOpenOn q x (Some value)) (sym is) (record {
  taken = row;
  may = subst (λ (h : Held). MayOpen (shelf_of (with_row p x row)) (view_of (with_row p x row)) h x row (block_of p.own.mine) (Some value))
      (sym (row_there x (slot.Row row) p.own.held)) (record {
        draws = record {
          held = (0, omega arith, refl);
          object = refl;
          is = refl;
          first = refl;
          block = block_is p.own.mine runs;
          goes_on = no_end p.own.mine runs;
          few = few;
          paid = λ o c e. (let none = subst (λ (l : List (ℕ × ℤ)). Contains l o) owed c in let l = none.1 in absurd (omega arith));
        };
        word = λ v e. (let z : value ≡ v = cc in sym z ∙ word);
        room = room;
      });
})

-- the pass after it was marked
abbrev pub with_look_on : PassView → ℕ → Row → ℕ → ℤ → PassView
with_look_on p x row n value = opened (with_row p x row) x n (Some value)

-- a pass's held row as it is after a look
abbrev pub looked_held : PassView → ℕ → Row → ℤ → Held
looked_held p x row value = record (new_held (suc x) (slot.Row row)) { drew = Some (draw p.own.id (block_of p.own.mine) (Looked value)) }

-- once its number is drawn, just this row is held
held_then : (p : PassView) (x : ℕ) (row : Row) (n : ℕ) (value : ℤ) → p.own.held ≡ [] → (with_look_on p x row n value).own.held
    ≡ looked_held p x row value ∷ []
held_then p x row n value held =
    ap (λ (h : Held). record h { drew = Some (draw p.own.id (block_of p.own.mine) (Looked value)) }
    ∷ without h.object (new_held (suc x) (slot.Row row) ∷ p.own.held)) (row_there x (slot.Row row) p.own.held)
    ∙ ap (λ (l : List Held). looked_held p x row value ∷ l) (without_here (new_held (suc x) (slot.Row row)) p.own.held (suc x) refl
    ∙ ap (without (suc x)) held)

-- it may go back as it was taken
pub may_put_looked : (setting : Setting) (p : PassView) (x : ℕ) (row : Row) (n : ℕ) (value : ℤ) → p.own.held ≡ [] → (q : PassView) → q
    ≡ with_look_on p x row n value → MayPutBack setting (shelf_of q) (view_of q) (suc x) (slot.Row row) false
may_put_looked setting p x row n value held q is =
    subst (λ (q : PassView). MayPutBack setting (shelf_of q) (view_of q) (suc x) (slot.Row row) false) (sym is) (record {
      held = looked_held p x row value;
      has = subst (λ (l : List Held). Contains l (looked_held p x row value)) (sym (held_then p x row n value held)) (0, omega arith, refl);
      object = refl;
      may = record {
        right = inr (record {
          stays = λ l ds st. record { word = st.word; last_write = st.last_write; threads = st.threads; reads = st.reads };
        });
        above = λ i has. inr (i, has, omega arith);
      };
      quiet = λ e. absurd (cc);
    })

-- and nothing is held afterwards
pub after_look : (p : PassView) (x : ℕ) (row : Row) (n : ℕ) (value : ℤ) → p.own.held ≡ [] → (q r : PassView) → q
    ≡ with_look_on p x row n value → r ≡ after q (left (view_of q) (suc x) false)
    → r ≡ record p {
      own = record p.own { drawn = p.own.drawn ++ record { var = x; nth = n; look = Some value } ∷ [] };
      reads = p.reads
          ++ Taken (suc x) (slot.Row row) ∷ [];
      moves = moved 5 p.moves;
    }
after_look p x row n value held q r is put =
    let drawn : List Drawn = p.own.drawn ++ record { var = x; nth = n; look = Some value } ∷ [] in
    let reads = p.reads ++ Taken (suc x) (slot.Row row) ∷ [] in
    let h1 : without (suc x) (with_look_on p x row n value).own.held ≡ p.own.held = ap (without (suc x)) (held_then p x row n value held)
    ∙ without_here (looked_held p x row value) [] (suc x) refl ∙ sym held in
    let s0 : (suc x == 0) ≡ false = ne_eqb (suc x) 0 (λ e. absurd (omega arith)) in
    let start : r ≡ record p {
      own = record p.own { held = without (suc x) (with_look_on p x row n value).own.held; drawn = drawn };
      reads = reads;
      quiet = p.quiet || false;
      stored = if suc x == 0 then [] else p.stored;
      moves = moved 2 (moved 1 (moved 2 p.moves));
    } = put
    ∙ ap (λ (q : PassView). after q (left (view_of q) (suc x) false)) is in
    start ∙ ap (λ b. record p {
      own = record p.own { held = without (suc x) (with_look_on p x row n value).own.held; drawn = drawn };
      reads = reads;
      quiet = p.quiet || false;
      stored = if b then [] else p.stored;
      moves = moved 2 (moved 1 (moved 2 p.moves));
    }) s0
    ∙ ap (λ (l : List Held). record p { own = record p.own { held = l; drawn = drawn }; reads = reads; quiet = p.quiet || false; moves = moved 2 (moved 1 (moved 2 p.moves)) }) h1
    ∙ ap (λ b. record p { own = record p.own { drawn = drawn }; reads = reads; quiet = b; moves = moved 2 (moved 1 (moved 2 p.moves)) })
    (or_no p.quiet)
    ∙ ap (λ (m : Moves). record p { own = record p.own { drawn = drawn }; reads = reads; moves = m })
    (five_steps p.moves)
