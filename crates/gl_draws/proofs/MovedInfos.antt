-- An Info that was walked on stands for the same access, and fails the same tests.
use Rattle.std.proofs.Common.{◌≡◌, ℕ, ◌+◌, ◌-◌, ◌≤◌, List, [], ◌∷◌, ◌++◌, length, take, drop, refl, sym, ◌∙◌, ap, subst, inl, inr, arith, Some, None, Bool}
use Rattle.std.specs.Prelude.{Option, ◌↔◌, IsTrue, IsSome, slice_range}
use Rattle.std.proofs.lemmas.List.{take-append-drop, drop-drop}
use Rattle.std.proofs.Math.Seq.{take-add}
use Rattle.gl_model.specs.declared.event.Stamp.{Stamp}
use Rattle.gl_model.specs.declared.event.Element.{Element}
use Rattle.gl_model.specs.declared.event.Element.TheVariants.{Thread, Tx}
use Rattle.gl_model.specs.declared.row.Info.{Info}
use Rattle.gl_model.specs.Infos.{InfoFor, AreLeastOwned}
use Rattle.gl_model.specs.Lockset.{Has}
use Rattle.gl_model.specs.Locksets.{Access, Elements, After, AfterAll, InitialLockset, LocksetAt, IsOrderedOrExcepted}
use Rattle.gl_model.specs.Machine.{Setting}
use Rattle.gl_laws.proofs.Walks.{SameElements, AfterAll-same, AfterAll-append}
use Rattle.gl_draws.specs.RowFacts.{set_after, Fails}
use Rattle.gl_draws.specs.Moved.{IsMoved}

-- a set only grows
pub AfterAll-has : (S : Elements) (xs : List Stamp) (y : Element) → S y → AfterAll S xs y
AfterAll-has S [] y has = has
AfterAll-has S (s ∷ xs) y has = AfterAll-has (After S s) xs y (inl (inl has))

-- what passes over a set passes over a greater one
pub passes_greater : (S T : Elements) (u : ℕ) (variables : Option (List ℕ)) → ((y : Element) → S y → T y)
    → IsOrderedOrExcepted S u variables → IsOrderedOrExcepted T u variables
passes_greater S T u None f c = f (Thread u) c
passes_greater S T u (Some xs) f (inl c) = inl (f Tx c)
passes_greater S T u (Some xs) f (inr (inl c)) = inr (inl (f (Thread u) c))
passes_greater S T u (Some xs) f (inr (inr c)) = inr (inr (c.0, (c.1.0, c.1.1, f c.1.0 c.1.2)))

-- an Info whose position is within the list was walked on to itself, by no event
pub unmoved : (h : List Stamp) (i : Info) → i.pos ≤ length h → IsMoved h i i
unmoved h i n =
    let none : i.pos - i.pos ≡ 0 = omega arith in
    let nothing : slice_range h i.pos i.pos ≡ [] = ap (λ j. take j (drop i.pos h)) none in
    record {
      thread = refl;
      write = refl;
      commit = refl;
      held = refl;
      forward = omega arith;
      within = n;
      set = λ y. subst (λ xs. Has i.set y ↔ AfterAll (Has i.set) xs y) (sym nothing) (λ c. c, λ c. c);
    }

-- the events from one position on are those up to another, and those from there on
pub range_then_rest : (h : List Stamp) (a b : ℕ) → a ≤ b → drop a h ≡ slice_range h a b ++ drop b h
range_then_rest h a b le =
    let back : a + (b - a) ≡ b = omega arith in
    sym (ap (λ xs. take (b - a) (drop a h) ++ xs) (sym (drop-drop (b - a) a h ∙ ap (λ k. drop k h) back))
    ∙ take-append-drop (b - a) (drop a h))

-- the events from a up to c are those up to b, and then those from there on
pub ranges : (h : List Stamp) (a b c : ℕ) → a ≤ b → b ≤ c → slice_range h a c ≡ slice_range h a b ++ slice_range h b c
ranges h a b c le more' =
    let two : c - a ≡ (b - a) + (c - b) = omega arith in
    let back : a + (b - a) ≡ b = omega arith in
    ap (λ k. take k (drop a h)) two ∙ take-add (b - a) (c - b) (drop a h)
    ∙ ap (λ xs. take (b - a) (drop a h) ++ take (c - b) xs) (drop-drop (b - a) a h ∙ ap (λ k. drop k h) back)

-- a moved Info has the same lockset after all of the list
pub set_after_moved : (h : List Stamp) (old new : Info) → IsMoved h old new → SameElements (set_after h new) (set_after h old)
set_after_moved h old new m y =
    let same = AfterAll-same (Has new.set) (AfterAll (Has old.set) (slice_range h old.pos new.pos)) (drop new.pos h) m.set y in
    let e : AfterAll (Has old.set) (drop old.pos h) ≡ AfterAll (AfterAll (Has old.set) (slice_range h old.pos new.pos)) (drop new.pos h) =
    ap (AfterAll (Has old.set)) (range_then_rest h old.pos new.pos m.forward)
    ∙ AfterAll-append (Has old.set) (slice_range h old.pos new.pos) (drop new.pos h) in
    subst (λ (S : Elements). set_after h new y ↔ S y) (sym e) same

module _ (h : List Stamp) where
  -- walked on twice is walked on
  pub moved_trans : (a b c : Info) → IsMoved h a b → IsMoved h b c → IsMoved h a c
  moved_trans a b c m n =
      let f = m.forward in
      let g = n.forward in
      let e : AfterAll (Has a.set) (slice_range h a.pos c.pos)
      ≡ AfterAll (AfterAll (Has a.set) (slice_range h a.pos b.pos)) (slice_range h b.pos c.pos) =
      ap (AfterAll (Has a.set)) (ranges h a.pos b.pos c.pos f g)
      ∙ AfterAll-append (Has a.set) (slice_range h a.pos b.pos) (slice_range h b.pos c.pos) in
      record {
        thread = n.thread ∙ m.thread;
        write = n.write ∙ m.write;
        commit = n.commit ∙ m.commit;
        held = n.held ∙ m.held;
        forward = omega arith;
        within = n.within;
        set = λ y.
            let same = AfterAll-same (Has b.set) (AfterAll (Has a.set) (slice_range h a.pos b.pos)) (slice_range h b.pos c.pos) m.set y in
            subst (λ (S : Elements). Has c.set y ↔ S y) (sym e) (λ k. same.0 ((n.set y).0 k), λ k. (n.set y).1 (same.1 k));
      }

  -- an Info fails exactly where it does once it was walked on
  pub fails_moved : (i j : Info) (u : ℕ) (v : Option (List ℕ)) → IsMoved h i j → Fails h j u v ↔ Fails h i u v
  fails_moved i j u v m =
      let same = set_after_moved h i j m in (
        λ f c. f (passes_greater (set_after h i) (set_after h j) u v (λ y. (same y).1) c),
        λ f c. f
            (passes_greater (set_after h j) (set_after h i) u v (λ y. (same y).0) c),
      )

-- it stands for the access that it stood for
pub info_moved : (setting : Setting) (h : List Stamp) (old new : Info) (a : Access) (write : Bool) → IsMoved h old new
    → InfoFor setting h old a write → InfoFor setting h new a write
info_moved setting h old new a write m f =
    let behind = f.behind in
    let forward = m.forward in
    let le : a.block + 1 ≤ old.pos = omega arith in
    let e : LocksetAt h a new.pos ≡ AfterAll (LocksetAt h a old.pos) (slice_range h old.pos new.pos) =
    ap (AfterAll (InitialLockset a.thread a.variables)) (ranges h (a.block + 1) old.pos new.pos le forward)
    ∙ AfterAll-append (InitialLockset a.thread a.variables) (slice_range h (a.block + 1) old.pos) (slice_range h old.pos new.pos) in
    record {
      access = f.access;
      thread = m.thread ∙ f.thread;
      write_mark = m.write ∙ f.write_mark;
      commit_mark = subst (λ b. IsTrue b ↔ IsSome a.variables) (sym m.commit) f.commit_mark;
      owner = f.owner;
      before = f.before;
      held = subst (AreLeastOwned f.owner a.thread) (sym m.held) f.held;
      behind = omega arith;
      within = m.within;
      set = λ y.
          let same = AfterAll-same (Has old.set) (LocksetAt h a old.pos) (slice_range h old.pos new.pos) f.set y in
          subst (λ (S : Elements). Has new.set y ↔ S y) (sym e) (λ c. same.0 ((m.set y).0 c), λ c. (m.set y).1 (same.1 c));
    }
