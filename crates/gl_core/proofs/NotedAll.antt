-- A commit is noted on one variable after another.
use Rattle.std.proofs.Common.{◌≡◌, ℕ, zero, suc, ◌+◌, ◌<◌, ◌==◌, List, [], ◌∷◌, length, drop, set, get_or, refl, ap, sym, ◌∙◌, arith, true, false, Bool, add-one, eq-eqb, ne_eqb}
use Rattle.std.specs.Prelude.{if◌then◌else◌, max}
use Rattle.std.proofs.Math.Seq.{drop-cons}
use native.Mathlib.Decide.{ℕ_discrete}
use Rattle.gl_model.specs.Rising.{with_all}
use Rattle.gl_model.specs.Trace.{is_in}
use Rattle.gl_draws.proofs.Sets.{is_in-both}
use Rattle.gl_core.specs.declared.latest.Epoch.{Epoch}
use Rattle.gl_core.specs.Marks.{Marks}
use Rattle.gl_core.specs.Latests.{latest_of, plain_mark, commit_mark, noted}

-- a place set twice to one value is set once
set_twice : {A : Type 0} (xs : List A) (i : ℕ) (a : A) → set (set xs i a) i a ≡ set xs i a
set_twice [] i a = refl
set_twice (x ∷ xs) zero a = refl
set_twice (x ∷ xs) (suc i) a = ap (λ ys. x ∷ ys) (set_twice xs i a)

-- an access noted twice is noted once
noted_twice : (w : Bool) (e : Epoch) (l : Marks) → noted w e (noted w e l) ≡ noted w e l
noted_twice true e l = refl
noted_twice false e l =
    ap (λ reads. record l { reads = reads; parts = set (set l.parts e.thread (commit_mark e)) e.thread (commit_mark e) })
    (set_twice l.reads e.thread (plain_mark e))
    ∙ ap (λ parts. record l { reads = set l.reads e.thread (plain_mark e); parts = parts }) (set_twice l.parts e.thread (commit_mark e))

-- what is kept of a variable with the commit noted
abbrev Part : List ℕ → Bool → Epoch → List Marks → ℕ → Marks
Part xs w e latests y = if is_in y xs then noted w e (latest_of latests y) else latest_of latests y

module _ (items : List ℕ) (i : ℕ) (e : Epoch) (now new : List Marks) (n : i < length items) (w : Bool)
    (is : (y : ℕ) → latest_of new y ≡ (if y == get_or items i 0 then noted w e (latest_of now y) else latest_of now y)) where
  -- the items from i on are the item at i and those after it
  split : drop i items ≡ get_or items i 0 ∷ drop (i + 1) items
  split = rw add-one (drop-cons items i 0 n)

  -- what is kept of the variable at i has the access noted
  here : (y : ℕ) → y ≡ get_or items i 0 → latest_of new y ≡ noted w e (latest_of now y)
  here y same = is y ∙ ap (λ b. if b then noted w e (latest_of now y) else latest_of now y) (eq-eqb y (get_or items i 0) same)

  -- what is kept of each other variable stays
  there : (y : ℕ) → (y ≡ get_or items i 0 → ⊥) → latest_of new y ≡ latest_of now y
  there y other = is y ∙ ap (λ b. if b then noted w e (latest_of now y) else latest_of now y) (ne_eqb y (get_or items i 0) other)

  -- once item i is noted, noting the items behind it gives what noting it and those gave before
  pub noted_on : (y : ℕ) → Part (drop (i + 1) items) w e new y ≡ Part (drop i items) w e now y
  noted_on y = elim (ℕ_discrete y (get_or items i 0)) [
    | yes same ↦
        (let b : Part (drop i items) w e now y
        ≡ noted w e (latest_of now y) = rw (split, eq-eqb y (get_or items i 0) same) refl in
        by (is_in y (drop (i + 1) items)) (latest_of new y) (here y same) ∙ sym b)
    | no other ↦ rw (split, ne_eqb y (get_or items i 0) other, there y other) refl
  ]
    where
      by : (b : Bool) (l : Marks) → l ≡ noted w e (latest_of now y) → (if b then noted w e l else l)
          ≡ noted w e (latest_of now y)
      by true l h = ap (noted w e) h ∙ noted_twice w e (latest_of now y)
      by false l h = h

-- noted as read, and then as written, where it is
pub noted_both : (reads writes : List ℕ) (y : ℕ) (e : Epoch) (old one two : Marks)
    → one ≡ (if is_in y reads then noted false e old else old) → two ≡ (if is_in y writes then noted true e one else one)
    → two ≡ (if is_in y (with_all writes reads) then noted (is_in y writes) e old else old)
noted_both reads writes y e old one two a b = rw (is_in-both reads writes y) (by (is_in y reads) (is_in y writes) a b)
  where
    by : (r w : Bool) → one ≡ (if r then noted false e old else old) → two ≡ (if w then noted true e one else one)
        → two ≡ (if (if r then true else w) then noted w e old else old)
    by true true f g = g
    by false true f g = g
    by true false f g = g ∙ f
    by false false f g = g ∙ f

-- so are its clocks raised
module _ (items : List ℕ) (i : ℕ) (n : i < length items) (by : ℕ → ℕ) (old new : ℕ → ℕ → ℕ) (joined : (j u : ℕ) → new j u
    ≡ (if j == get_or items i 0 then max (old j u) (by u) else old j u)) where
  -- once the clock of item i is raised, raising those behind it gives what raising it and those gave before
  pub raised_on : (x u : ℕ) → (if is_in x (drop (i + 1) items) then max (new x u) (by u) else new x u)
      ≡ (if is_in x (drop i items) then max (old x u) (by u) else old x u)
  raised_on x u = elim (ℕ_discrete x (get_or items i 0)) [
    | yes same ↦
        (let a : new x u ≡ max (old x u) (by u) = joined x u
        ∙ ap (λ b. if b then max (old x u) (by u) else old x u) (eq-eqb x (get_or items i 0) same) in
        let b : (if is_in x (drop i items) then max (old x u) (by u) else old x u)
        ≡ max (old x u) (by u) = rw (parts, eq-eqb x (get_or items i 0) same) refl in
        both (is_in x (drop (i + 1) items)) (new x u) a ∙ sym b)
    | no other ↦ (let a : new x u ≡ old x u = joined x u
        ∙ ap (λ b. if b then max (old x u) (by u) else old x u) (ne_eqb x (get_or items i 0) other)
        in rw (parts, ne_eqb x (get_or items i 0) other, a) refl)
  ]
    where
      parts : drop i items ≡ get_or items i 0 ∷ drop (i + 1) items
      parts = rw add-one (drop-cons items i 0 n)

      both : (b : Bool) (k : ℕ) → k ≡ max (old x u) (by u) → (if b then max k (by u) else k) ≡ max (old x u) (by u)
      both true k e = omega arith
      both false k e = e
