-- The shape of each list of a trace: it begins with Begin, and where its thread has ended, End is its last entry.
use Rattle.std.proofs.Common.{◌≡◌, ◌≢◌, ℕ, zero, suc, ◌<◌, ◌≤◌, ◌==◌, List, [], ◌∷◌, ◌++◌, length, refl, ap, subst, sym, ◌∙◌, inl, inr, arith, true, false, Bool, not, eq-eqb, ne_eqb, length-append}
use Rattle.std.specs.Prelude.{◌||◌, if◌then◌else◌, ℤ, pos}
use native.Mathlib.Decide.{ℕ_discrete}
use Rattle.gl_model.specs.declared.event.Act.TheVariants.{Begin, End, Fork}
use Rattle.gl_model.specs.declared.limits.TheConstants.{THREADS}
use Rattle.gl_model.specs.Entries.{Entry, Sync}
use Rattle.gl_model.specs.Form.{At, IsTrim, IsBegin, IsEnd, IsOver}
use Rattle.gl_model.specs.Records.{Lists}
use Rattle.gl_model.specs.Trace.{with_entry, is_empty}
use Rattle.gl_draws.proofs.Pushes.{at_cases, at_within}
use Rattle.gl_lines.proofs.TraceEvents.{each_list, entry_own, entry_else}
use Rattle.gl_lines.proofs.TraceMachine.{or_false}

pub record IsShaped (over : Bool) (es : List Entry) : Type 0 where
  pub first : (e : Entry) → At es 0 e → IsBegin e
  pub no_trim : (i : ℕ) (e : Entry) → At es i e → IsTrim e → ⊥
  pub no_over : (i : ℕ) (e : Entry) → At es i e → IsOver e → ⊥
  pub end_last : (i : ℕ) (e : Entry) → At es i e → IsEnd e → (over ≡ true) × (suc i ≡ length es)
  pub last_end : over ≡ true → (i : ℕ) (e : Entry) → At es i e → suc i ≡ length es → IsEnd e

-- an entry of a thread that goes on
abbrev IsUsual : Entry → Type 0
IsUsual e = (IsTrim e → ⊥) × (IsOver e → ⊥) × (IsEnd e → ⊥)

-- a list that is not empty has an entry
long : (es : List Entry) → is_empty es ≡ false → 0 < length es
long [] e = absurd (cc)
long (x ∷ es) e = omega arith

-- a list with an entry more is not empty
empty_push : (es : List Entry) (e : Entry) → is_empty (es ++ e ∷ []) ≡ false
empty_push [] e = refl
empty_push (x ∷ es) e = refl

-- a list that is empty by the test is the empty one
pub empty_is : (es : List Entry) → is_empty es ≡ true → es ≡ []
empty_is [] e = refl
empty_is (x ∷ es) e = absurd (cc)

-- a list of a thread that goes on keeps its shape with a usual entry
pub shaped_push : (es : List Entry) (e : Entry) → IsShaped false es → is_empty es ≡ false → IsUsual e → IsShaped false (es ++ e ∷ [])
shaped_push es e k some usual = record {
  first = λ f a. elim (at_cases es e f 0 a) [
    | inl old ↦ k.first f old
    | inr new ↦ absurd (let l = long es some in let z = new.0 in omega arith)
  ];
  no_trim = λ i f a t. elim (at_cases es e f i a) [ inl old ↦ k.no_trim i f old t | inr new ↦ usual.0 (subst IsTrim new.1 t) ];
  no_over = λ i f a o. elim (at_cases es e f i a) [ inl old ↦ k.no_over i f old o | inr new ↦ usual.1 (subst IsOver new.1 o) ];
  end_last = λ i f a z. elim (at_cases es e f i a) [
    | inl old ↦ absurd (let w = (k.end_last i f old z).0 in let u : false ≡ true = w in cc)
    | inr new ↦ absurd (usual.2 (subst IsEnd new.1 z))
  ];
  last_end = λ z. absurd (let u : false ≡ true = z in cc);
}

-- with End it has the shape of a thread that has ended
pub shaped_end : (es : List Entry) (p : ℕ) → IsShaped false es → is_empty es ≡ false → IsShaped true (es ++ Sync p End (pos 0) ∷ [])
shaped_end es p k some = record {
  first = λ f a. elim (at_cases es (Sync p End (pos 0)) f 0 a) [
    | inl old ↦ k.first f old
    | inr new ↦ absurd (let l = long es some in let z = new.0 in omega arith)
  ];
  no_trim = λ i f a t. elim (at_cases es (Sync p End (pos 0)) f i a) [
    | inl old ↦ k.no_trim i f old t
    | inr new ↦ (let z : IsTrim (Sync p End (pos 0)) = subst IsTrim new.1 t in z)
  ];
  no_over = λ i f a o. elim (at_cases es (Sync p End (pos 0)) f i a) [
    | inl old ↦ k.no_over i f old o
    | inr new ↦ (let z : IsOver (Sync p End (pos 0)) = subst IsOver new.1 o in z)
  ];
  end_last = λ i f a z. elim (at_cases es (Sync p End (pos 0)) f i a) [
    | inl old ↦ absurd (let w = (k.end_last i f old z).0 in let u : false ≡ true = w in cc)
    | inr new ↦ (refl, (let j = new.0 in omega (arith, length-append es (Sync p End (pos 0) ∷ []))))
  ];
  last_end = λ z i f a l. elim (at_cases es (Sync p End (pos 0)) f i a) [
    | inl old ↦ absurd (let n = at_within es i f old in omega (arith, length-append es (Sync p End (pos 0) ∷ [])))
    | inr new ↦ subst IsEnd (sym new.1) tt
  ];
}

-- Begin alone has the shape of a thread that goes on
shaped_begin : (p f : ℕ) → IsShaped false (Sync p (Begin f) (pos 0) ∷ [])
shaped_begin p f = record {
  first = λ e a. let same : Sync p (Begin f) (pos 0) ≡ e = cc in subst IsBegin same tt;
  no_trim = λ i e a t. let same = only i e a in (let z : IsTrim (Sync p (Begin f) (pos 0)) = subst IsTrim (sym same) t in z);
  no_over = λ i e a t. let same = only i e a in (let z : IsOver (Sync p (Begin f) (pos 0)) = subst IsOver (sym same) t in z);
  end_last = λ i e a t. let same = only i e a in absurd (let z : IsEnd (Sync p (Begin f) (pos 0)) = subst IsEnd (sym same) t in z);
  last_end = λ z. absurd (let u : false ≡ true = z in cc);
}
  where
    only : (i : ℕ) (e : Entry) → At (Sync p (Begin f) (pos 0) ∷ []) i e → Sync p (Begin f) (pos 0) ≡ e
    only zero e a = cc
    only (suc i) e a = absurd (cc)

-- an empty list has the shape of a thread that goes on
pub shaped_none : (b : Bool) → b ≡ false → IsShaped b []
shaped_none b is = record {
  first = λ e a. absurd (cc);
  no_trim = λ i e a t. absurd (cc);
  no_over = λ i e a t. absurd (cc);
  end_last = λ i e a t. absurd (cc);
  last_end = λ z i e a. absurd (cc);
}

-- the lists are shaped as their threads' ends are, and there is one for each thread that was started
pub record AreShaped (started : ℕ → Bool) (ended : ℕ → Bool) (R : Lists) : Type 0 where
  pub shape : (u : ℕ) → IsShaped (ended u) (R u)
  pub begun : (u : ℕ) → is_empty (R u) ≡ not (started u)
  pub few : (u : ℕ) → THREADS ≤ u → started u ≡ false
  pub forks : (w i p u f : ℕ) (value : ℤ) → At (R w) i (Sync p (Fork u f) value) → started u ≡ true

module _ (started ended : ℕ → Bool) (R : Lists) (k : AreShaped started ended R) (t : ℕ) (runs : started t ≡ true) (alive : ended t ≡ false)
  where
    -- the list of thread t, which was started, is not empty
    some : is_empty (R t) ≡ false
    some = k.begun t ∙ ap not runs

    -- with one more entry of thread t, the lists that are empty are those of the threads that were not started
    begun_push : (e : Entry) (u : ℕ) → is_empty (with_entry R t e u) ≡ not (started u)
    begun_push e u = each_list (λ w es. is_empty es ≡ not (started w)) R t e (empty_push (R t) e ∙ sym (ap not runs))
        (λ w other. k.begun w) u

    -- with an entry that is no Trim, Over or End in the thread's list, a fork being of a thread that was started, the lists stay shaped
    pub usual_shaped : (e : Entry) → IsUsual e → ((p u f : ℕ) (value : ℤ) → e ≡ Sync p (Fork u f) value → started u ≡ true)
        → AreShaped started ended (with_entry R t e)
    usual_shaped e usual forks = record {
      shape = each_list (λ w es. IsShaped (ended w) es) R t e
          (subst (λ b. IsShaped b (R t ++ e ∷ [])) (sym alive)
          (shaped_push (R t) e (subst (λ b. IsShaped b (R t)) alive (k.shape t)) some usual)) (λ w other. k.shape w);
      begun = begun_push e;
      few = k.few;
      forks = λ w i p u f value a. each_list (λ w es. (i : ℕ) → At es i (Sync p (Fork u f) value) → started u ≡ true) R t e
          (λ i a. elim (at_cases (R t) e (Sync p (Fork u f) value) i a) [
            | inl old ↦ k.forks t i p u f value old
            | inr new ↦ forks p u f value (sym new.1)
          ])
          (λ w other i a. k.forks w i p u f value a) w i a;
    }

    -- with End in the thread's list they are shaped, the thread having ended
    pub end_shaped : (p : ℕ) → AreShaped started (λ w. if w == t then true else ended w) (with_entry R t (Sync p End (pos 0)))
    end_shaped p = record {
      shape = λ u. here u (ℕ_discrete u t);
      begun = begun_push (Sync p End (pos 0));
      few = k.few;
      forks = λ w i q u f value a. each_list (λ w es. (i : ℕ) → At es i (Sync q (Fork u f) value) → started u ≡ true) R t
          (Sync p End (pos 0))
          (λ i a. elim (at_cases (R t) (Sync p End (pos 0)) (Sync q (Fork u f) value) i a) [
            | inl old ↦ k.forks t i q u f value old
            | inr new ↦ absurd (let z = new.1 in cc)
          ])
          (λ w other i a. k.forks w i q u f value a) w i a;
    }
      where
        here : (u : ℕ) → Dec (u ≡ t) → IsShaped (if u == t then true else ended u) (with_entry R t (Sync p End (pos 0)) u)
        here u (yes same) =
            let b : (u == t) ≡ true = eq-eqb u t same in
            let own : IsShaped true (with_entry R t (Sync p End (pos 0)) t) =
            subst (IsShaped true) (sym (entry_own R t (Sync p End (pos 0))))
            (shaped_end (R t) p (subst (λ b. IsShaped b (R t)) alive (k.shape t)) some) in
            subst (λ c. IsShaped (if c then true else ended u) (with_entry R t (Sync p End (pos 0)) u)) (sym b)
            (subst (λ z. IsShaped true (with_entry R t (Sync p End (pos 0)) z)) (sym same) own)
        here u (no other) =
            let b : (u == t) ≡ false = ne_eqb u t other in
            subst (λ c. IsShaped (if c then true else ended u) (with_entry R t (Sync p End (pos 0)) u)) (sym b)
            (subst (IsShaped (ended u)) (sym (entry_else R t u (Sync p End (pos 0)) other)) (k.shape u))

-- a thread begins
module _ (started ended : ℕ → Bool) (R : Lists) (k : AreShaped started ended R) (u p f : ℕ) (near : u < THREADS) (unstarted : started u
    ≡ false) (alive : ended u ≡ false) where
  -- with Begin in its list they are shaped, the thread having been started
  pub begin_shaped : AreShaped (λ w. started w || (u == w)) ended (with_entry R u (Sync p (Begin f) (pos 0)))
  begin_shaped = record {
    shape = each_list (λ w es. IsShaped (ended w) es) R u (Sync p (Begin f) (pos 0))
        (subst (λ b. IsShaped b (R u ++ Sync p (Begin f) (pos 0) ∷ [])) (sym alive)
        (subst (λ es. IsShaped false (es ++ Sync p (Begin f) (pos 0) ∷ [])) (sym none) (shaped_begin p f))) (λ w other. k.shape w);
    begun = each_list (λ w es. is_empty es ≡ not (started w || (u == w))) R u (Sync p (Begin f) (pos 0))
        (empty_push (R u) (Sync p (Begin f) (pos 0)) ∙ sym (ap not (or_here (started u)))) (λ w other. k.begun w
        ∙ ap not (sym (or_else' w other)));
    few = λ w le. let e : (u == w) ≡ false = ne_eqb u w (λ z. omega arith) in let s = k.few w le in rw (s, e) refl;
    forks = λ w i q v g value a. ap (λ b. b || (u == v))
        (each_list (λ w es. (i : ℕ) → At es i (Sync q (Fork v g) value) → started v ≡ true) R u (Sync p (Begin f) (pos 0))
        (λ i a. elim (at_cases (R u) (Sync p (Begin f) (pos 0)) (Sync q (Fork v g) value) i a) [
          | inl old ↦ k.forks u i q v g value old
          | inr new ↦ absurd (let z = new.1 in cc)
        ])
        (λ w other i a. k.forks w i q v g value a) w i a);
  }
    where
      none : R u ≡ []
      none = empty_is (R u) (k.begun u ∙ ap not unstarted)

      or_here : (b : Bool) → (b || (u == u)) ≡ true
      or_here true = refl
      or_here false = eq-eqb u u refl

      or_else' : (w : ℕ) → w ≢ u → (started w || (u == w)) ≡ started w
      or_else' w other = ap (λ b. started w || b) (ne_eqb u w (λ e. other (sym e))) ∙ or_false (started w)
