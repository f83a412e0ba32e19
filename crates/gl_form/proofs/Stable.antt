-- What the form asks is refuted or holds.
use Rattle.std.proofs.Common.{◌≡◌, ℕ, ℤ, pos, zero, suc, Bool, true, false, List, [], ◌∷◌, map, Some, refl, ap, inl, inr, arith, rules}
use Rattle.std.specs.Prelude.{slice_get, ◌⊎◌, Contains}
use Rattle.std.specs.Ordering.{int_eq}
use Rattle.std.proofs.lemmas.Bool.{cases_lt, cases_order}
use Rattle.gl_model.specs.declared.event.Act.TheVariants.{Begin, End, Acq, Rel, VRead, VWrite, Fork, Join, Alloc, Print, Input, Fail}
use Rattle.gl_model.specs.declared.tx.Look.{Look}
use Rattle.gl_model.specs.declared.tx.Tx.{Tx}
use Rattle.gl_model.specs.declared.tx.Why.TheVariants.{Changed, Raised}
use Rattle.gl_model.specs.Entries.{Entry, Sync, Commit, Plain, Abort, Trim, Over}
use Rattle.gl_model.specs.Form.{EntryForm, IsBegin, IsEnd, IsOver, NumbersName}
use Rattle.gl_model.specs.Records.{At, variables_of}
use Rattle.gl_form.proofs.Parts.{at_of, contains_at}

-- it is refuted that it does not hold
abbrev pub NotNot : Type 0 → Type 0
NotNot Q = (Q → ⊥) → ⊥

-- integers that are equal by the test are equal
same_int : (a b : ℤ) → int_eq a b ≡ true → a ≡ b
same_int a b is = search (rules, is)

-- an integer equals itself by the test
int_itself : (v : ℤ) → int_eq v v ≡ true
int_itself v = search rules

-- two integers are equal or not
either_int : (a b : ℤ) → (a ≡ b) ⊎ (a ≡ b → ⊥)
either_int a b = by_test (int_eq a b) refl where
  by_test : (t : Bool) → int_eq a b ≡ t → (a ≡ b) ⊎ (a ≡ b → ⊥)
  by_test true e = inl (same_int a b e)
  by_test false e = inr (λ same. let itself : int_eq a b ≡ true = rw same (int_itself b) in cc)

-- two numbers are equal or not
pub either_nat : (a b : ℕ) → (a ≡ b) ⊎ (a ≡ b → ⊥)
either_nat a b = elim (cases_order a b) [
  | inl same ↦ inl same
  | inr other ↦ inr (λ same. elim other [ inl lt ↦ omega arith | inr gt ↦ omega arith ])
]

-- what is decided, and not refuted, holds
of_either : (Q : Type 0) → Q ⊎ (Q → ⊥) → NotNot Q → Q
of_either Q (inl yes') refuted = yes'
of_either Q (inr no') refuted = absurd (refuted no')

-- two truth values whose equality is not refuted are equal
stable_bool : (a b : Bool) → NotNot (a ≡ b) → a ≡ b
stable_bool true true refuted = refl
stable_bool false false refuted = refl
stable_bool true false refuted = absurd (refuted (λ is. cc))
stable_bool false true refuted = absurd (refuted (λ is. cc))

-- two lists whose equality is not refuted are equal
stable_list : (xs ys : List ℕ) → NotNot (xs ≡ ys) → xs ≡ ys
stable_list [] [] refuted = refl
stable_list [] (y ∷ ys) refuted = absurd (refuted (λ is. cc))
stable_list (x ∷ xs) [] refuted = absurd (refuted (λ is. cc))
stable_list (x ∷ xs) (y ∷ ys) refuted =
    let heads : x ≡ y = of_either (x ≡ y) (either_nat x y) (λ other. refuted (λ is. other cc)) in
    let tails = stable_list xs ys (λ other. refuted (λ is. other cc)) in
    rw (heads, tails) refl

-- that numbers name just these variables holds where it is not refuted
stable_names : (tx : Tx) (xs : List ℕ) → NotNot (NumbersName tx xs) → NumbersName tx xs
stable_names tx xs refuted = record {
  variables = stable_list (map (λ n. n.var) tx.numbers) xs (λ other. refuted (λ n. other n.variables));
  after_looks = λ x k m value look own. elim (cases_lt k m) [
    | inl lt ↦ lt
    | inr ge ↦ absurd (refuted (λ n. let lt = n.after_looks x k m value look own in omega arith))
  ];
}

-- a look of this variable with this value
abbrev HasLook : List Look → ℕ → ℤ → Type 0
HasLook ls var read = (nth : ℕ) × ((k : ℕ) × (slice_get ls k ≡ Some (record { var = var; value = read; nth = nth })))

-- a look of this variable with this value is there, or is not
either_look : (ls : List Look) (var : ℕ) (read : ℤ) → HasLook ls var read ⊎ (HasLook ls var read → ⊥)
either_look [] var read = inr (λ h. let at = h.1.1 in cc)
either_look (l ∷ ls) var read = by_parts (either_nat l.var var) (either_int l.value read) (either_look ls var read) where
  look : ℕ → ℤ → ℕ → Look
  look x v n = record { var = x; value = v; nth = n }

  named : (a b : ℕ) (v w : ℤ) (n : ℕ) → a ≡ b → v ≡ w → look a v n ≡ look b w n
  named a b v w n same equal = rw (same, equal) refl

  not_first : ((l.var ≡ var) × (l.value ≡ read) → ⊥) → (HasLook ls var read → ⊥) → HasLook (l ∷ ls) var read → ⊥
  not_first other none (nth, (zero, at)) =
      let is : l ≡ look var read nth = cc in
      other (ap (λ (m : Look). m.var) is, ap (λ (m : Look). m.value) is)
  not_first other none (nth, (suc k, at)) = none (nth, (k, at))

  by_parts :
      (l.var ≡ var) ⊎ (l.var ≡ var → ⊥) → (l.value ≡ read) ⊎ (l.value ≡ read → ⊥) → HasLook ls var read ⊎ (HasLook ls var read → ⊥) →
      HasLook (l ∷ ls) var read ⊎ (HasLook (l ∷ ls) var read → ⊥)
  by_parts (inl a) (inl b) rest = inl (l.nth, (0, ap Some (named l.var var l.value read l.nth a b)))
  by_parts a b (inl found) = inl (found.0, (suc found.1.0, found.1.1))
  by_parts (inr a) b (inr none) = inr (not_first (λ both. a both.0) none)
  by_parts (inl a) (inr b) (inr none) = inr (not_first (λ both. b both.1) none)

-- the transaction looked at this variable and found this value
abbrev LooksAtValue : Tx → ℕ → ℤ → Type 0
LooksAtValue tx var read = (nth : ℕ) × Contains tx.looks (record { var = var; value = read; nth = nth })

-- that it did holds where it is not refuted
stable_look : (tx : Tx) (var : ℕ) (read : ℤ) → NotNot (LooksAtValue tx var read) → LooksAtValue tx var read
stable_look tx var read refuted = by_look (either_look tx.looks var read) where
  by_look : HasLook tx.looks var read ⊎ (HasLook tx.looks var read → ⊥) → LooksAtValue tx var read
  by_look (inl found) = (found.0, contains_at tx.looks found.1.0 _ found.1.1)
  by_look (inr none) = absurd (refuted (λ h. none (h.0, at_of tx.looks _ h.1)))

-- what an entry has to be by itself, it is where that is not refuted
pub stable_form : (t : ℕ) (e : Entry) → NotNot (EntryForm t e) → EntryForm t e
stable_form t (Sync at act value) refuted = λ h. of_either (value ≡ pos 0) (either_int value (pos 0)) (λ other. refuted (λ f. other (f h)))
stable_form t (Commit at tx) refuted = stable_names tx (variables_of tx) refuted
stable_form t (Plain var nth cached write value true) refuted = (
  stable_bool cached false (λ other. refuted (λ f. other f.0)),
  λ h. of_either (value ≡ pos 0) (either_int value (pos 0)) (λ other. refuted (λ f. other (f.1 h))),
)
stable_form t (Plain var nth cached write value false) refuted = tt
stable_form t (Abort tx (Raised var)) refuted = stable_names tx (variables_of tx) refuted
stable_form t (Abort tx (Changed var read found)) refuted = (
  stable_names tx (var ∷ []) (λ other. refuted (λ f. other f.0)),
  stable_look tx var read (λ other. refuted (λ f. other f.1)),
  λ same. refuted (λ f. f.2 same),
)
stable_form t (Trim low) refuted = tt
stable_form t (Over ending) refuted = tt

-- what is not refuted to be an Over is one
pub stable_over : (e : Entry) → NotNot (IsOver e) → IsOver e
stable_over (Over ending) refuted = tt
stable_over (Sync at act value) refuted = refuted (λ x. x)
stable_over (Commit at tx) refuted = refuted (λ x. x)
stable_over (Plain var nth cached write value raised) refuted = refuted (λ x. x)
stable_over (Abort tx why) refuted = refuted (λ x. x)
stable_over (Trim low) refuted = refuted (λ x. x)

-- what is not refuted to be a Begin is one
pub stable_begin : (e : Entry) → NotNot (IsBegin e) → IsBegin e
stable_begin (Sync at (Begin f) value) refuted = tt
stable_begin (Sync at End value) refuted = refuted (λ x. x)
stable_begin (Sync at (Acq o) value) refuted = refuted (λ x. x)
stable_begin (Sync at (Rel o) value) refuted = refuted (λ x. x)
stable_begin (Sync at (VRead v) value) refuted = refuted (λ x. x)
stable_begin (Sync at (VWrite v) value) refuted = refuted (λ x. x)
stable_begin (Sync at (Fork u f) value) refuted = refuted (λ x. x)
stable_begin (Sync at (Join u) value) refuted = refuted (λ x. x)
stable_begin (Sync at (Alloc c) value) refuted = refuted (λ x. x)
stable_begin (Sync at Print value) refuted = refuted (λ x. x)
stable_begin (Sync at Input value) refuted = refuted (λ x. x)
stable_begin (Sync at (Fail code) value) refuted = refuted (λ x. x)
stable_begin (Commit at tx) refuted = refuted (λ x. x)
stable_begin (Plain var nth cached write value raised) refuted = refuted (λ x. x)
stable_begin (Abort tx why) refuted = refuted (λ x. x)
stable_begin (Trim low) refuted = refuted (λ x. x)
stable_begin (Over ending) refuted = refuted (λ x. x)

-- what is not refuted to be an End is one
pub stable_end : (e : Entry) → NotNot (IsEnd e) → IsEnd e
stable_end (Sync at (Begin f) value) refuted = refuted (λ x. x)
stable_end (Sync at End value) refuted = tt
stable_end (Sync at (Acq o) value) refuted = refuted (λ x. x)
stable_end (Sync at (Rel o) value) refuted = refuted (λ x. x)
stable_end (Sync at (VRead v) value) refuted = refuted (λ x. x)
stable_end (Sync at (VWrite v) value) refuted = refuted (λ x. x)
stable_end (Sync at (Fork u f) value) refuted = refuted (λ x. x)
stable_end (Sync at (Join u) value) refuted = refuted (λ x. x)
stable_end (Sync at (Alloc c) value) refuted = refuted (λ x. x)
stable_end (Sync at Print value) refuted = refuted (λ x. x)
stable_end (Sync at Input value) refuted = refuted (λ x. x)
stable_end (Sync at (Fail code) value) refuted = refuted (λ x. x)
stable_end (Commit at tx) refuted = refuted (λ x. x)
stable_end (Plain var nth cached write value raised) refuted = refuted (λ x. x)
stable_end (Abort tx why) refuted = refuted (λ x. x)
stable_end (Trim low) refuted = refuted (λ x. x)
stable_end (Over ending) refuted = refuted (λ x. x)

-- an Over is in the list, or none is
pub either_over : (es : List Entry) → ((i : ℕ) × ((e : Entry) × At es i e × IsOver e)) ⊎ ((i : ℕ) (e : Entry) → At es i e → IsOver e → ⊥)
either_over [] = inr (λ i e at over. cc)
either_over (x ∷ es) = by_first x refl (either_over es) where
  later : ((i : ℕ) × ((e : Entry) × At es i e × IsOver e)) → (i : ℕ) × ((e : Entry) × At (x ∷ es) i e × IsOver e)
  later (i, (e, at, over)) = (suc i, (e, at, over))

  none_here : (IsOver x → ⊥) → ((i : ℕ) (e : Entry) → At es i e → IsOver e → ⊥) → (i : ℕ) (e : Entry) → At (x ∷ es) i e → IsOver e → ⊥
  none_here not_x none zero e at over = (let same : x ≡ e = cc in not_x (rw same over))
  none_here not_x none (suc i) e at over = none i e at over

  Found : Type 0
  Found = ((i : ℕ) × ((e : Entry) × At (x ∷ es) i e × IsOver e)) ⊎ ((i : ℕ) (e : Entry) → At (x ∷ es) i e → IsOver e → ⊥)

  by_rest : (IsOver x → ⊥) → ((i : ℕ) × ((e : Entry) × At es i e × IsOver e)) ⊎ ((i : ℕ) (e : Entry) → At es i e → IsOver e → ⊥) → Found
  by_rest not_x (inl found) = inl (later found)
  by_rest not_x (inr none) = inr (none_here not_x none)

  by_first :
      (e : Entry) → x ≡ e → ((i : ℕ) × ((f : Entry) × At es i f × IsOver f)) ⊎ ((i : ℕ) (f : Entry) → At es i f → IsOver f → ⊥) → Found
  by_first (Over ending) is rest = inl (0, (x, refl, rw is tt))
  by_first (Sync at act value) is rest = by_rest (rw is (λ over. over)) rest
  by_first (Commit at tx) is rest = by_rest (rw is (λ over. over)) rest
  by_first (Plain var nth cached write value raised) is rest = by_rest (rw is (λ over. over)) rest
  by_first (Abort tx why) is rest = by_rest (rw is (λ over. over)) rest
  by_first (Trim low) is rest = by_rest (rw is (λ over. over)) rest
