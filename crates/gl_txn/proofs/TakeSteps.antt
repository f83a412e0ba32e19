-- Taking rows one after another, and putting them back.
use Rattle.std.proofs.Common.{◌≡◌, ℕ, suc, ◌+◌, ◌<◌, ◌==◌, List, [], ◌∷◌, ◌++◌, length, take, drop, get_or, false, refl, sym, ap, ◌∙◌, subst, arith, None, inl, inr, ne_eqb, append_assoc}
use Rattle.std.specs.Prelude.{◌≢◌, Option, ℤ, ◌||◌, if◌then◌else◌}
use Rattle.std.proofs.lemmas.List.{take_more, take-append-drop}
use Rattle.std.proofs.Math.Seq.{drop-cons}
use Rattle.gl_model.specs.declared.limits.TheConstants.{THREADS}
use Rattle.gl_model.specs.declared.row.Row.{Row}
use Rattle.gl_model.specs.Kept.{AreVariables}
use Rattle.gl_model.proofs.RisingLists.{All-take, Rises-take}
use Rattle.gl_rule.specs.declared.slot.Slot.TheVariants as slot
use Rattle.gl_rule.specs.View.{Held, Read, Busy, Taken, new_held, without, took, left, refused}
use Rattle.gl_table.specs.PassView.{PassView, view_of, after}
use Rattle.gl_txn.specs.Holding.{vars_of, takes, AreHeld, AreUnused, HaveTaken, HaveWrites, WereBusy, undrawn, write_in}
use Rattle.gl_txn.specs.declared.taken.TakenRow.{TakenRow}
use Rattle.gl_txn.proofs.Holdings.{held_more, vars_pushed, unused_none}
use Rattle.gl_txn.proofs.LookSteps.{or_no}

-- once a row is put back, what is held is the rest
pub put_held : (p q : PassView) (x : ℕ) → q ≡ after p (left (view_of p) (suc x) false) → q.own.held ≡ without (suc x) p.own.held
put_held p q x is = ap (λ (r : PassView). r.own.held) is

-- after a slot is put back a pass differs only in what is held and in its moves
pub put_is : (p q : PassView) (x : ℕ) → q ≡ after p (left (view_of p) (suc x) false) → q
    ≡ record p { own = record p.own { held = q.own.held }; moves = q.moves }
put_is p q x is =
    let s0 : (suc x == 0) ≡ false = ne_eqb (suc x) 0 (λ e. absurd (omega arith)) in
    let l = without (suc x) p.own.held in
    let start : q ≡ record p {
      own = record p.own { held = without (suc x) p.own.held };
      quiet = p.quiet || false;
      stored = if suc x == 0
          then [] else p.stored;
      moves = q.moves;
    } = ap (λ (z : PassView). record z { moves = q.moves }) is in
    start ∙ ap (λ b. record p { own = record p.own { held = l }; quiet = p.quiet || false; stored = if b then [] else p.stored; moves = q.moves }) s0
    ∙ ap (λ b. record p { own = record p.own { held = l }; quiet = b; moves = q.moves }) (or_no p.quiet)
    ∙ ap (λ (h : List Held). record p { own = record p.own { held = h }; moves = q.moves }) (sym (put_held p q x is))

-- after all unused rows are put back a pass holds nothing and has moved
pub puts_all : (p q : PassView) → q ≡ record p { own = record p.own { held = q.own.held }; moves = q.moves } → AreUnused q.own.held [] → q
    ≡ record p { own = record p.own { held = [] }; moves = q.moves }
puts_all p q a u = a ∙ ap (λ (h : List Held). record p { own = record p.own { held = h }; moves = q.moves }) (unused_none q.own.held u)

-- the takings of rows with one more are those of the rows and that one's
takes_pushed : (rows : List TakenRow) (r : TakenRow) → takes (rows ++ r ∷ []) ≡ takes rows ++ Taken (suc r.var) (slot.Row r.row) ∷ []
takes_pushed [] r = refl
takes_pushed (q ∷ rs) r = ap (λ (l : List Read). Taken (suc q.var) (slot.Row q.row) ∷ l) (takes_pushed rs r)

-- a pass that takes one row more has taken the rows and that one
pub taken_more : (p q r : PassView) (ys : List ℕ) (rows : List TakenRow) (y : ℕ) (w : Option ℤ) (row : Row) → HaveTaken p q ys rows
    → AreVariables (ys ++ y ∷ []) → r ≡ after q (took (view_of q) (suc y) (slot.Row row))
    → HaveTaken p r (ys ++ y ∷ []) (rows ++ record { var = y; write = w; row = row } ∷ [])
taken_more p q r ys rows y w row t are is = record {
  of = vars_pushed rows (record { var = y; write = w; row = row }) ∙ ap (λ l. l ++ y ∷ []) t.of;
  is = whole;
  held = subst (λ (l : List Held). AreHeld l None (rows ++ record { var = y; write = w; row = row } ∷ []) [] undrawn) (sym held_is)
      (held_more q.own.held rows (record { var = y; write = w; row = row }) t.held
      (subst (λ l. AreVariables (l ++ y ∷ [])) (sym t.of) are));
}
  where
    held_is : r.own.held ≡ new_held (suc y) (slot.Row row) ∷ q.own.held
    held_is = ap (λ (z : PassView). z.own.held) is

    reads_are : q.reads ++ Taken (suc y) (slot.Row row) ∷ [] ≡ p.reads ++ takes (rows ++ record { var = y; write = w; row = row } ∷ [])
    reads_are =
        ap (λ (z : PassView). z.reads ++ Taken (suc y) (slot.Row row) ∷ []) t.is
        ∙ append_assoc p.reads (takes rows) (Taken (suc y) (slot.Row row) ∷ [])
        ∙ ap (λ (l : List Read). p.reads ++ l) (sym (takes_pushed rows (record { var = y; write = w; row = row })))

    whole : r ≡ record p {
      own = record p.own { held = r.own.held };
      reads = p.reads
          ++ takes (rows ++ record { var = y; write = w; row = row } ∷ []);
      moves = r.moves;
    }
    whole =
        ap (λ (z : PassView). record z { moves = r.moves }) is
        ∙ ap (λ (z : PassView). record z {
          own = record z.own { held = new_held (suc y) (slot.Row row) ∷ q.own.held };
          reads = q.reads
              ++ Taken (suc y) (slot.Row row) ∷ [];
          moves = r.moves;
        }) t.is
        ∙ ap (λ (l : List Held). record p {
          own = record p.own { held = l };
          reads = q.reads
              ++ Taken (suc y) (slot.Row row) ∷ [];
          moves = r.moves;
        })
        (sym held_is)
        ∙ ap (λ (l : List Read). record p { own = record p.own { held = r.own.held }; reads = l; moves = r.moves }) reads_are

-- a pass that read the next turn as held by another and put back what it took found it busy
pub were_busy : (p q r s : PassView) (ids : List ℕ) (i by : ℕ) (rows : List TakenRow) → p.own.held ≡ [] → i < length ids
    → HaveTaken p q (take i ids) rows → by < THREADS → by ≢ q.own.id → r ≡ after q (refused (view_of q) (suc (get_or ids i 0)) by)
    → s ≡ record r { own = record r.own { held = [] }; moves = s.moves } → WereBusy ids by p s
were_busy p q r s ids i by rows none near t few other is put = record {
  near = few;
  other = subst (λ (z : PassView). by ≢ z.own.id) t.is other;
  rows = rows;
  var = get_or ids i 0;
  rest = drop (suc i) ids;
  of = sym (take-append-drop i ids) ∙ ap (λ l. l ++ drop i ids) (sym t.of) ∙ ap (λ l. vars_of rows ++ l) (drop-cons ids i 0 near);
  is = put ∙ ap (λ (z : PassView). record z { own = record z.own { held = [] }; moves = s.moves }) is
      ∙ ap (λ (z : PassView). record z {
        own = record z.own { held = [] };
        reads = z.reads
            ++ Busy (suc (get_or ids i 0)) by ∷ [];
        moves = s.moves;
      }) t.is
      ∙ ap (λ (h : List Held). record p {
        own = record p.own { held = h };
        reads = (p.reads ++ takes rows)
            ++ Busy (suc (get_or ids i 0)) by ∷ [];
        moves = s.moves;
      }) (sym none);
}

-- the first of them are variables as all are
pub take_are : (ids : List ℕ) (i : ℕ) → AreVariables ids → i < length ids → AreVariables (take i ids ++ get_or ids i 0 ∷ [])
take_are ids i a near = subst AreVariables (take_more ids i 0 near) (
  (let few = a.0 in let l = Rattle.std.proofs.lemmas.List.length-take-le (i + 1) ids (omega arith) in omega arith),
  Rises-take (i + 1) ids a.1,
  All-take (λ x. x < Rattle.gl_model.specs.declared.limits.TheConstants.VARIABLES) (i + 1) ids a.2,
)

-- a list of length zero is empty
pub empty_of : {A : Type 0} (xs : List A) → length xs ≡ 0 → xs ≡ []
empty_of [] e = refl
empty_of (x ∷ xs) e = absurd (omega arith)

-- with one row more that has its word, each row has its word
pub writes_more : (ws : List Rattle.gl_model.specs.declared.tx.Pair.Pair) (rows : List TakenRow) (r : TakenRow) → HaveWrites ws rows
    → r.write ≡ write_in ws r.var → HaveWrites ws (rows ++ r ∷ [])
writes_more ws rows r have is u c = elim (Rattle.std.proofs.lemmas.List.Elements.Contains-push_cases rows r u c) [
  | inl old ↦ have u old
  | inr new ↦ subst (λ (v : TakenRow). v.write ≡ write_in ws v.var) new is
]
