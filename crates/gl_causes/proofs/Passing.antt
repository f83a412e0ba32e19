-- The last event of a list before which a clock has passed the thread's block, in a walk over the list.
use Rattle.std.proofs.Common.{◌≡◌, ℕ, ◌+◌, ◌-◌, ◌<◌, ◌≤◌, List, length, take, true, false, refl, ap, sym, ◌∙◌, subst, inl, inr, arith, Some, None}
use Rattle.std.specs.Prelude.{Option, is_some}
use Rattle.std.proofs.lemmas.Bool.{cases_lt, lt-ltb, ltb-true}
use Rattle.std.proofs.lemmas.Option.{slice_get_within}
use Rattle.gl_core.proofs.Marking.{and_both, and_true}
use Rattle.gl_draws.specs.Ties.{or_else, last_position}
use Rattle.gl_model.specs.Entries.{Entry}
use Rattle.gl_model.specs.Records.{At, position_of}
use Rattle.gl_causes.specs.Leading.{IsLastPassed, IsPassed, is_passed, passes}
use Rattle.gl_causes.proofs.Walks.{taken}
use Rattle.gl_draws.proofs.Pushes.{last_push}

-- the last position up to the entry at i is the entry's own, or else the one before it
pub block_on : (es : List Entry) (i : ℕ) (e : Entry) (block : Option ℕ) → At es i e → block ≡ last_position (take i es)
    → or_else (position_of e) block ≡ last_position (take (i + 1) es)
block_on es i e block there is =
    ap (or_else (position_of e)) is ∙ sym (last_push (take i es) e) ∙ ap last_position (sym (taken es i e there))

-- an option that has something is some number
pub some_there : (o : Option ℕ) → is_some o ≡ true → (k : ℕ) × (o ≡ Some k)
some_there None e = absurd (cc)
some_there (Some k) e = (k, refl)

-- if a clock tests as having passed what may be a block, there is a block, and the clock has passed it
passes_means : (o : Option ℕ) (n : ℕ) → passes o n ≡ true → (b : ℕ) × (o ≡ Some b) × (b + 1 < n)
passes_means None n e = absurd (cc)
passes_means (Some b) n e = (b, refl, let l = ltb-true b (n - 1) e in omega arith)

-- an entry that passes the test is one
pub passed_there : (es : List Entry) (n i : ℕ) (e : Entry) (block : Option ℕ) → At es i e → block ≡ last_position (take i es)
    → is_passed block n e ≡ true → IsPassed es n i
passed_there es n i e block there is test =
    let w = and_both (is_some (position_of e)) (passes block n) test in
    let p = some_there (position_of e) w.0 in
    let b = passes_means block n w.1 in record {
      entry = e;
      there = there;
      position = p.0;
      event = p.1;
      block = b.0;
      before = sym is ∙ b.1;
      passed = b.2;
    }

-- and one that does not pass it is none
pub passed_not : (es : List Entry) (n i : ℕ) (e : Entry) (block : Option ℕ) → At es i e → block ≡ last_position (take i es)
    → is_passed block n e ≡ false → IsPassed es n i → ⊥
passed_not es n i e block there is test w =
    let same : w.entry ≡ e = (let x = w.there in cc) in
    let some : is_some (position_of e) ≡ true = ap (λ f. is_some (position_of f)) (sym same) ∙ ap is_some w.event in
    let pass : passes block n ≡ true = ap (λ o. passes o n) (is ∙ w.before)
    ∙ lt-ltb w.block (n - 1) (let l = w.passed in omega arith) in
    let yes : is_passed block n e ≡ true = and_true (is_some (position_of e)) (passes block n) some pass in
    let z : true ≡ false = sym yes ∙ test in cc

-- the last of the first i entries that is such
abbrev pub IsLastBelow : List Entry → ℕ → ℕ → Option ℕ → Type 0
IsLastBelow es n i None = (j : ℕ) → j < i → IsPassed es n j → ⊥
IsLastBelow es n i (Some k) = IsPassed es n k × ((j : ℕ) → k < j → j < i → IsPassed es n j → ⊥)

-- where the entry at i is passed, it is the last such of the first i + 1
pub last_new : (es : List Entry) (n i : ℕ) → IsPassed es n i → IsLastBelow es n (i + 1) (Some i)
last_new es n i w = (w, λ j l m. absurd (omega arith))

-- where the entry at i is not passed, the last such of the first i is that of the first i + 1
pub last_on : (es : List Entry) (n i : ℕ) (o : Option ℕ) → (IsPassed es n i → ⊥) → IsLastBelow es n i o → IsLastBelow es n (i + 1) o
last_on es n i None never so_far = λ j l. elim (cases_lt j i) [
  | inl near ↦ so_far j near
  | inr far ↦ (let same : i ≡ j = omega arith in subst (λ k. IsPassed es n k → ⊥) same never)
]
last_on es n i (Some k) never so_far = (
  so_far.0,
  λ j l m. elim (cases_lt j i) [
    | inl near ↦ so_far.1 j l near
    | inr far ↦ (let same : i ≡ j = omega arith in subst (λ k. IsPassed es n k → ⊥) same never)
  ],
)

-- an entry that is passed is one of the list
passed_within : (es : List Entry) (n j : ℕ) → IsPassed es n j → j < length es
passed_within es n j w = slice_get_within es j w.entry w.there

-- past the end of the list the last such so far is the last of the whole list
pub last_all : (es : List Entry) (n i : ℕ) (o : Option ℕ) → length es ≤ i → IsLastBelow es n i o → IsLastPassed es n o
last_all es n i None all so_far = λ j w. so_far j (let l = passed_within es n j w in omega arith) w
last_all es n i (Some k) all so_far = (so_far.0, λ j l w. so_far.1 j l (let m = passed_within es n j w in omega arith) w)
