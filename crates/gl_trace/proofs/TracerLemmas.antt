-- The record of a trace, entry by entry.
use Rattle.std.proofs.Common.{append_assoc, append-nil, ◌≡◌, ◌+◌, ◌<◌, ◌≤◌, ℕ, zero, suc, List, [], ◌∷◌, ◌++◌, Bool, true, false, ◌||◌, Option, Some, None, Result, Ok, Err, OnOk, MatchOption, is_some, not, true≢false, add-one, drop, slice_get, if◌then◌else◌, nat_lt, ◌==◌, length, take, map, get_or, inl, inr, refl, ap, sym, ◌∙◌, arith, subst}
use Rattle.std.specs.Prelude.{slice_index, slice_set}
use Rattle.std.specs.List.{AllByRecursion}
use Rattle.std.proofs.lemmas.Bool.{cases_Bool, cases_lt, cases_eq, eq-eqb, ne_eqb, eqb-true, lt-ltb, le-ltb}
use Rattle.std.proofs.lemmas.List.{take_more, get_or-set_same, get_or-set_other}
use Rattle.gl_model.specs.declared.limits.TheConstants.{VARIABLES}
use Rattle.gl_model.specs.Entries.{Entry}
use Rattle.gl_model.specs.Lists.{list_of, lists_of, with_last}
use Rattle.gl_model.specs.Rising.{Rises, with_one, with_all, with_part}
use Rattle.gl_model.specs.Kept.{IsRecord, IsListKept}
use Rattle.gl_model.specs.Records.{Lists}
use Rattle.gl_model.specs.Trace.{Tracing, with_entry, with_act, with_end, with_line, with_over, with_ending, is_empty, is_in, look_count, own_count}
use Rattle.gl_model.specs.TraceSteps.{Step, IsStep, IsLineItem, is_too_wide, step_fault}
use Rattle.gl_model.specs.declared.event.Act.TheVariants.{Join}
use Rattle.gl_model.specs.declared.limits.TheConstants.{THREADS}
use Rattle.gl_model.specs.declared.row.Item.{Item}
use Rattle.gl_model.specs.declared.row.Judged.{Judged}
use Rattle.gl_model.specs.declared.row.StepFault.TheVariants.{BadSet}
use Rattle.gl_trace.specs.TraceLine.{TraceLine, step_of, steps_of}
use Rattle.gl_trace.specs.Trace.{AreLines}
use Rattle.gl_trace.specs.Traced.{IsGrown, IsUpTo}
use Rattle.gl_trace.specs.declared.tracer.Tracer.{Tracer}
use Rattle.gl_trace.specs.Judging.{Suits, AreJudged, judged_lines}
use Rattle.std.specs.Option.{option_map}
use Rattle.std.proofs.Math.Seq.{drop-cons}
use Rattle.std.proofs.lemmas.Option.{slice_get-get_or, slice_get-map, get_or_from_slice_get, slice_get_within}

-- ---- one entry more

-- a thread below all that have a list has none
pub below_none : (t : ℕ) (ls : List (ℕ × List Entry)) → AllByRecursion (λ y. t < y) (map (λ l. l.0) ls) → list_of ls t ≡ None
below_none t [] all = refl
below_none t (l ∷ ls) all =
    let apart : l.0 == t ≡ false = ne_eqb l.0 t (λ e. omega (arith, all.0)) in
    rw apart (below_none t ls all.1)

-- what is above a number is above a lower one
pub weaker : (a b : ℕ) → a < b → (xs : List ℕ) → AllByRecursion (λ y. b < y) xs → AllByRecursion (λ y. a < y) xs
weaker a b h [] all = tt
weaker a b h (x ∷ xs) all = (omega (arith, all.0), weaker a b h xs all.1)

-- one entry more of a thread is at the end of its list, and no other list changes
pub one_entry : (t : ℕ) (e : Entry) (ls : List (ℕ × List Entry)) → Rises (map (λ l. l.0) ls) → (u : ℕ) → lists_of (with_last t e ls) u
    ≡ with_entry (lists_of ls) t e u
one_entry t e [] rises u =
    elim (cases_eq u t) [
      | inl same ↦ rw (eq-eqb u t same, eq-eqb t u (sym same)) refl
      | inr apart ↦ rw (ne_eqb u t apart, ne_eqb t u (λ h. apart (sym h))) refl
    ]
one_entry t e (l ∷ ls) rises u =
    elim (cases_eq l.0 t) [
      | inl same ↦
          elim (cases_eq u t) [
            | inl here ↦ rw (eq-eqb l.0 t same, eq-eqb u t here, eq-eqb t u (sym here), eq-eqb l.0 u (same ∙ sym here)) refl
            | inr apart ↦ rw (
              eq-eqb l.0 t same,
              ne_eqb u t apart,
              ne_eqb t u (λ h. apart (sym h)),
              ne_eqb l.0 u
                  (λ h. apart (sym h ∙ same)),
            ) refl
          ]
      | inr other ↦
          elim (cases_lt t l.0) [
            | inl above ↦
                elim (cases_eq u t) [
                  | inl here ↦
                      let none : list_of ls u ≡ None = below_none u ls (weaker u l.0 (omega arith) (map (λ m. m.0) ls) rises.0) in
                      let past : l.0 == u ≡ false = ne_eqb l.0 u (λ h. omega arith) in
                      rw (ne_eqb l.0 t other, lt-ltb t l.0 above, eq-eqb u t here, eq-eqb t u (sym here), past, none) refl
                  | inr apart ↦ rw (ne_eqb l.0 t other, lt-ltb t l.0 above, ne_eqb u t apart, ne_eqb t u (λ h. apart (sym h))) refl
                ]
            | inr below ↦
                elim (cases_eq l.0 u) [
                  | inl here ↦ rw (ne_eqb l.0 t other, le-ltb t l.0 below, eq-eqb l.0 u here, ne_eqb u t (λ h. other (here ∙ h))) refl
                  | inr apart ↦ rw (ne_eqb l.0 t other, le-ltb t l.0 below, ne_eqb l.0 u apart) (one_entry t e ls rises.1 u)
                ]
          ]
    ]

-- ---- parts of a transaction

-- in a list that rises those before the one at k are less
before : (xs : List ℕ) (k : ℕ) → Rises xs → k < length xs → AllByRecursion (λ x. x < get_or xs k 0) (take k xs)
before [] k rises h = absurd (omega arith)
before (x ∷ xs) zero rises h = tt
before (x ∷ xs) (suc k) rises h = (above xs k rises.0 (omega arith), before xs k rises.1 (omega arith))
  where
    above : (ys : List ℕ) (j : ℕ) → AllByRecursion (λ y. x < y) ys → j < length ys → x < get_or ys j 0
    above [] j all i = absurd (omega arith)
    above (y ∷ ys) zero all i = all.0
    above (y ∷ ys) (suc j) all i = above ys j all.1 (omega arith)

-- a part with a greater variable than all comes to the end
part_last : {A : Type 0} (key : A → ℕ) (f : ℕ → A) → ((x : ℕ) → key (f x) ≡ x) → (n : ℕ) (xs : List ℕ) → AllByRecursion (λ x. x < n) xs
    → with_part key (f n) (map f xs) ≡ map f (xs ++ n ∷ [])
part_last key f tells n [] all = refl
part_last key f tells n (x ∷ xs) all =
    let apart : key (f n) == key (f x) ≡ false = ne_eqb (key (f n)) (key (f x)) (λ h. omega (arith, all.0, tells n, tells x)) in
    let over : nat_lt (key (f n)) (key (f x)) ≡ false = le-ltb (key (f n)) (key (f x)) (omega (arith, all.0, tells n, tells x)) in
    rw (apart, over) (ap (λ l. f x ∷ l) (part_last key f tells n xs all.1))

-- the next part of a list that rises comes to the end of those before it
pub part_next : {A : Type 0} (key : A → ℕ) (f : ℕ → A) → ((x : ℕ) → key (f x) ≡ x) → (items ids : List ℕ) (k : ℕ) → items ≡ ids → Rises ids
    → k < length items
    → with_part key (f (get_or items k 0)) (map f (take k ids)) ≡ map f (take (k + 1) ids)
part_next key f tells items ids k same rises h =
    let there : k < length ids = omega (arith, ap length same) in
    let here : get_or items k 0 ≡ get_or ids k 0 = ap (λ l. get_or l k 0) same in
    ap (λ n. with_part key (f n) (map f (take k ids))) here
    ∙ part_last key f tells (get_or ids k 0) (take k ids) (before ids k rises there)
    ∙ ap (map f) (sym (take_more ids k 0 there))

-- two functions that agree on variables map variables alike
pub map_same : {A : Type 0} (f g : ℕ → A) (xs : List ℕ) → AllByRecursion (λ x. x < VARIABLES) xs → ((x : ℕ) → x < VARIABLES → f x ≡ g x)
    → map f xs ≡ map g xs
map_same f g [] all same = refl
map_same f g (x ∷ xs) all same = ap (λ y. y ∷ map f xs) (same x all.0) ∙ ap (λ l. g x ∷ l) (map_same f g xs all.1 same)

-- ---- the numbers that are drawn

-- what is above all is not in the list
not_in : (n : ℕ) (xs : List ℕ) → AllByRecursion (λ x. x < n) xs → is_in n xs ≡ false
not_in n [] all = refl
not_in n (x ∷ xs) all = let apart : n == x ≡ false = ne_eqb n x (λ h. omega (arith, all.0)) in rw apart (not_in n xs all.1)

-- in the longer list is what was in it, and the new one
in_push : (x y : ℕ) (xs : List ℕ) → is_in x (xs ++ y ∷ []) ≡ (is_in x xs || (x == y))
in_push x y [] = elim (cases_Bool (x == y)) [ inl e ↦ rw e refl | inr e ↦ rw e refl ]
in_push x y (z ∷ zs) = elim (cases_Bool (x == z)) [ inl e ↦ rw e refl | inr e ↦ rw e (in_push x y zs) ]

-- on the variable at k no look number is drawn by the looks before it
pub drawn_none : (items ids : List ℕ) (k : ℕ) → items ≡ ids → Rises ids → k < length items → look_count (take k ids) (get_or items k 0) ≡ 0
drawn_none items ids k same rises h =
    let there : k < length ids = omega (arith, ap length same) in
    let here : get_or items k 0 ≡ get_or ids k 0 = ap (λ l. get_or l k 0) same in
    let none : is_in (get_or items k 0) (take k ids) ≡ false = ap (λ n. is_in n (take k ids)) here
    ∙ not_in (get_or ids k 0) (take k ids) (before ids k rises there) in
    rw none refl

-- how many look numbers are drawn, with the next read: one on its variable, and the others as before
pub drawn_next : (items ids : List ℕ) (k x : ℕ) → items ≡ ids → Rises ids → k < length items
    → look_count (take (k + 1) ids) x ≡ (if x == get_or items k 0 then 1 else look_count (take k ids) x)
drawn_next items ids k x same rises h =
    let there : k < length ids = omega (arith, ap length same) in
    let n : ℕ = get_or items k 0 in
    let here : get_or ids k 0 ≡ n = ap (λ l. get_or l k 0) (sym same) in
    let more : take (k + 1) ids ≡ take k ids ++ n ∷ [] = take_more ids k 0 there ∙ ap (λ m. take k ids ++ m ∷ []) here in
    let counts : look_count (take (k + 1) ids) x ≡ (if (is_in x (take k ids) || (x == n)) then 1 else 0) =
    ap (λ l. look_count l x) more ∙ ap (λ b. if b then 1 else 0) (in_push x n (take k ids)) in
    counts ∙ elim (cases_Bool (x == n)) [
      | inl e ↦ elim (cases_Bool (is_in x (take k ids))) [ inl f ↦ rw (e, f) refl | inr f ↦ rw (e, f) refl ]
      | inr e ↦ elim (cases_Bool (is_in x (take k ids))) [ inl f ↦ rw (e, f) refl | inr f ↦ rw (e, f) refl ]
    ]

-- with one number more on the variable at k, the numbers are the old ones and those of the looks up to that one
pub one_drawn : (numbers : List ℕ) (old : ℕ → ℕ) (items ids : List ℕ) (k : ℕ) → items ≡ ids → Rises ids → k < length items
    → get_or items k 0 < length numbers
    → ((x : ℕ) → x < VARIABLES → slice_index numbers x ≡ old x + look_count (take k ids) x)
    → (v : ℕ) → v ≡ get_or items k 0
    → (x : ℕ) → x < VARIABLES → slice_index (slice_set numbers v (get_or numbers v 0 + 1)) x ≡ old x + look_count (take (k + 1) ids) x
one_drawn numbers old items ids k same rises h room inv v is x below =
    elim (cases_eq x (get_or items k 0)) [
      | inl here ↦
          let at : x ≡ v = here ∙ sym is in
          let none : look_count (take k ids) x ≡ 0 = ap (look_count (take k ids)) here ∙ drawn_none items ids k same rises h in
          let one : look_count (take (k + 1) ids) x ≡ 1 = drawn_next items ids k x same rises h
          ∙ rw (eq-eqb x (get_or items k 0) here) refl in
          let set : get_or (slice_set numbers v (get_or numbers v 0 + 1)) x 0 ≡ get_or numbers v 0 + 1 =
          ap (λ j. get_or (slice_set numbers v (get_or numbers v 0 + 1)) j 0) at
          ∙ get_or-set_same numbers v (get_or numbers v 0 + 1) 0 (omega arith) in
          let was : get_or numbers v 0 ≡ old x + look_count (take k ids) x = ap (λ j. get_or numbers j 0) (sym at) ∙ inv x below in
          set ∙ omega arith
      | inr apart ↦
          let same_count : look_count (take (k + 1) ids) x ≡ look_count (take k ids) x = drawn_next items ids k x same rises h
          ∙ rw (ne_eqb x (get_or items k 0) apart) refl in
          get_or-set_other numbers v x (get_or numbers v 0 + 1) 0 (λ e. apart (e ∙ is)) ∙ inv x below ∙ ap (λ n. old x + n) (sym same_count)
    ]

-- in a set with y more are y and what was in it
in_one : (x y : ℕ) (ys : List ℕ) → is_in x (with_one y ys) ≡ ((x == y) || is_in x ys)
in_one x y [] = elim (cases_Bool (x == y)) [ inl e ↦ rw e refl | inr e ↦ rw e refl ]
in_one x y (z ∷ zs) =
    elim (cases_Bool (y == z)) [
      | inl e ↦
          let same : y ≡ z = eqb-true y z e in
          elim (cases_Bool (x == z)) [
            | inl f ↦ let g : x == y ≡ true = ap (λ n. x == n) same ∙ f in rw (e, g, f) refl
            | inr f ↦ let g : x == y ≡ false = ap (λ n. x == n) same ∙ f in rw (e, g, f) refl
          ]
      | inr e ↦
          elim (cases_Bool (nat_lt y z)) [
            | inl lt ↦ elim (cases_Bool (x == y)) [ inl f ↦ rw (e, lt, f) refl | inr f ↦ rw (e, lt, f) refl ]
            | inr ge ↦
                elim (cases_Bool (x == z)) [
                  | inl f ↦ elim (cases_Bool (x == y)) [ inl g ↦ rw (e, ge, f, g) refl | inr g ↦ rw (e, ge, f, g) refl ]
                  | inr f ↦ rw (e, ge, f) (in_one x y zs)
                ]
          ]
    ]

-- in the reads and writes together is what is in either
own_all : (rs ws : List ℕ) (x : ℕ) → is_in x (with_all ws rs) ≡ (is_in x rs || is_in x ws)
own_all rs [] x = elim (cases_Bool (is_in x rs)) [ inl e ↦ rw e refl | inr e ↦ rw e refl ]
own_all rs (w ∷ ws) x =
    own_all (with_one w rs) ws x
    ∙ ap (λ b. b || is_in x ws) (in_one x w rs)
    ∙ elim (cases_Bool (x == w)) [
      | inl e ↦ elim (cases_Bool (is_in x rs)) [ inl f ↦ rw (e, f) refl | inr f ↦ rw (e, f) refl ]
      | inr e ↦ elim (cases_Bool (is_in x rs)) [ inl f ↦ rw (e, f) refl | inr f ↦ rw (e, f) refl ]
    ]

-- a commit's own numbers are counted as looks at what it reads and writes together are
pub own_is_all : (rs ws : List ℕ) (x : ℕ) → look_count (with_all ws rs) x ≡ own_count rs ws x
own_is_all rs ws x =
    ap (λ b. if b then 1 else 0) (own_all rs ws x)
    ∙ elim (cases_Bool (is_in x rs)) [
      | inl e ↦ rw e refl
      | inr e ↦ elim (cases_Bool (is_in x ws)) [ inl f ↦ rw (e, f) refl | inr f ↦ rw (e, f) refl ]
    ]

-- on the variable at k there are still fewer numbers than the most that there may be
pub room_at : (numbers : List ℕ) (old : ℕ → ℕ) (items ids : List ℕ) (k most : ℕ) → items ≡ ids → Rises ids → k < length items
    → ((x : ℕ) → x < VARIABLES → slice_index numbers x ≡ old x + look_count (take k ids) x) → ((x : ℕ) → x < VARIABLES → old x < most)
    → (v : ℕ) → v ≡ get_or items k 0 → v < VARIABLES → get_or numbers v 0 < most
room_at numbers old items ids k most same rises h inv low v is below =
    let none : look_count (take k ids) v ≡ 0 = ap (look_count (take k ids)) is ∙ drawn_none items ids k same rises h in
    let value : get_or numbers v 0 ≡ old v + look_count (take k ids) v = inv v below in
    let small : old v < most = low v below in
    omega arith

-- with thread t marked, the marks say of each thread whether it is t or had ended before
pub ended_mark : (xs : List Bool) (t u v : ℕ) (f : ℕ → Bool) → v ≡ t → t < length xs → get_or xs u false ≡ f u
    → get_or (slice_set xs v true) u false ≡ (if u == t then true else f u)
ended_mark xs t u v f is there was =
    elim (cases_eq u t) [
      | inl here ↦
          let at : u ≡ v = here ∙ sym is in
          ap (λ j. get_or (slice_set xs v true) j false) at ∙ get_or-set_same xs v true false (omega arith) ∙ rw (eq-eqb u t here) refl
      | inr apart ↦ get_or-set_other xs v u true false (λ e. apart (e ∙ is)) ∙ was ∙ rw (ne_eqb u t apart) refl
    ]

-- ---- a line, and the end

-- a join of a thread that has not ended is its End and then the join
pub join_late : (t u : ℕ) (s : Tracing) → s.ended u ≡ false → with_line t (Join u) s ≡ with_act t (Join u) (with_end u s)
join_late t u s e = rw e refl

-- the ending of a thread that has ended is Over alone
pub ending_over : (t : ℕ) (s : Tracing) → is_empty (s.lists t) ≡ false → s.ended t ≡ true → with_ending t s ≡ with_over t s
ending_over t s some over = rw (some, over) refl

-- the ending of a thread that has begun and not ended is its End, and Over
pub ending_end : (t : ℕ) (s : Tracing) → is_empty (s.lists t) ≡ false → s.ended t ≡ false → with_ending t s ≡ with_over t (with_end t s)
ending_end t s some on = rw (some, on) refl

-- the list of a thread, where it has one, has entries
some_list : (ls : List (ℕ × List Entry)) (t : ℕ) (es : List Entry) → AllByRecursion IsListKept ls → list_of ls t ≡ Some es → 0 < length es
some_list [] t es all e = absurd (true≢false (sym (ap is_some e)))
some_list (l ∷ ls) t es all e =
    elim (cases_Bool (l.0 == t)) [
      | inl here ↦
          let found : Some l.1 ≡ Some es = sym (rw here refl) ∙ e in
          let same : l.1 ≡ es = cc in
          let some : 0 < length l.1 = all.0.1 in
          let count : length l.1 ≡ length es = ap length same in
          omega arith
      | inr other ↦
          let rest : list_of ls t ≡ Some es = sym (rw other refl) ∙ e in
          some_list ls t es all.1 rest
    ]

-- a list with entries is not empty, as a test
not_empty : (es : List Entry) → 0 < length es → not (is_empty es) ≡ true
not_empty [] h = absurd (omega arith)
not_empty (e ∷ es) h = refl

-- a thread has a list exactly where its entries are some
pub begun : {B : Type 0} (ls : List (ℕ × List Entry)) (t : ℕ) (o : Option B) (view : B → List Entry) → IsRecord ls
    → MatchOption o (list_of ls t ≡ None) (λ es. list_of ls t ≡ Some (view es)) → is_some o ≡ not (is_empty (lists_of ls t))
begun ls t None view is e = rw e refl
begun ls t (Some es) view is e = rw e (sym (not_empty (view es) (some_list ls t (view es) is.1 e)))

-- a step without a fault names no more variables than it may
too_wide_not : (steps : List Step) (t : ℕ) (item : Item) → step_fault steps t item ≡ None → is_too_wide item ≡ false
too_wide_not steps t item e =
    elim (cases_Bool (is_too_wide item)) [
      | inl wide ↦ let some : step_fault steps t item ≡ Some BadSet = rw wide refl in absurd (true≢false (ap is_some (sym some ∙ e)))
      | inr not ↦ not
    ]

-- what is known of the line at k
pub record IsLineAt (l : TraceLine) (j : Judged) : Type 0 where
  pub thread : l.1 < THREADS
  pub item : IsLineItem l.2
  pub few : is_too_wide l.2 ≡ false
  pub suits : Suits l.2 j

-- each line is in range and names few, and what is said of it suits it
pub line_at : (ls : List TraceLine) (js : List Judged) → AreLines ls → AreJudged ls js → (k : ℕ) (dl : TraceLine) (dj : Judged)
    → k < length ls
    → IsLineAt (get_or ls k dl) (get_or js k dj)
line_at ls js well judged k dl dj h =
    let l : TraceLine = get_or ls k dl in
    let j : Judged = get_or js k dj in
    let line : slice_get ls k ≡ Some l = slice_get-get_or ls k dl h in
    let said : slice_get js k ≡ Some j = slice_get-get_or js k dj (omega (arith, judged.count)) in
    let step : slice_get (steps_of ls) k ≡ Some (step_of l) = slice_get-map step_of ls k ∙ ap (option_map step_of) line in
    let at : get_or (steps_of ls) k (step_of l) ≡ step_of l = get_or_from_slice_get (steps_of ls) k (step_of l) (step_of l) step in
    let range : IsStep (step_of l) = subst IsStep at (well.range k (step_of l) (slice_get_within (steps_of ls) k (step_of l) step)) in
    record {
      thread = range.0;
      item = range.1;
      few = too_wide_not (take k (steps_of ls)) l.1 l.2 (well.clean k (step_of l) step);
      suits = judged.suits k l j line said;
    }

-- the judged lines from k on are the one at k and those behind it
pub lines_left : (ls : List TraceLine) (js : List Judged) → length js ≡ length ls → (k : ℕ) (dl : TraceLine) (dj : Judged) → k < length ls
    → judged_lines (drop k ls) (drop k js) ≡ (get_or ls k dl, get_or js k dj) ∷ judged_lines (drop (k + 1) ls) (drop (k + 1) js)
lines_left ls js count k dl dj h =
    let below : k < length js = omega arith in
    ap (λ n. judged_lines n (drop k js)) (drop-cons ls k dl h)
    ∙ ap (λ n. judged_lines (get_or ls k dl ∷ drop (suc k) ls) n) (drop-cons js k dj below)
    ∙ ap (λ n. (get_or ls k dl, get_or js k dj) ∷ judged_lines (drop n ls) (drop n js)) (sym (add-one k))

-- what holds anyway holds of a success
pub on_any : {T E P : Type 0} (r : Result T E) → P → OnOk r P
on_any (Ok x) p = p
on_any (Err e) p = tt

-- what is at most a is at most b, where that is more
pub up_more : (tracer : Tracer) (a b : ℕ) → a ≤ b → IsUpTo a tracer → IsUpTo b tracer
up_more tracer a b le up = record {
  next = omega (arith, up.next);
  numbers = λ x below. omega (arith, up.numbers x below);
}

-- ## What was recorded is kept

-- a list that has grown twice has grown
pub grown_more : {A : Type 0} (before between now : List A) → IsGrown before between → IsGrown between now → IsGrown before now
grown_more before between now first second =
    (first.0 ++ second.0, second.1 ∙ ap (λ l. l ++ second.0) first.1 ∙ append_assoc before first.0 second.0)

-- with an entry more each list is as it was or has grown
pub entry_kept : (R : Lists) (thread : ℕ) (e : Entry) (t : ℕ) → IsGrown (R t) (with_entry R thread e t)
entry_kept R thread e t = elim (t == thread) as (λ b. IsGrown (R t) (if b then R t ++ e ∷ [] else R t)) [
  | true ↦ (e ∷ [], refl)
  | false ↦ ([], sym (append-nil (R t)))
]
