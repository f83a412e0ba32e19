-- Lists of numbers that rise, as one number is put among them and as two lists are put together; and parts that rise by a number of
-- theirs, as one part is put among them.
use Rattle.std.proofs.Common.{◌≡◌, ℕ, zero, suc, ◌+◌, ◌==◌, ◌<◌, ◌≤◌, List, [], ◌∷◌, length, map, true, false, refl, sym, ap, ◌∙◌, subst, arith, Some, None, inl, inr, eq-eqb}
use Rattle.std.specs.Prelude.{Contains, ◌⊎◌}
use Rattle.std.specs.List.{find, AllByRecursion}
use Rattle.std.proofs.lemmas.Bool.{cases_lt, cases_Bool, eqb-true}
use Rattle.std.proofs.Math.Nat.{eq-or-lt_of_le}
use Rattle.gl_model.specs.Rising.{Rises, with_one, with_all, with_part}
use Rattle.std.proofs.lemmas.Bool.Decides.{nat_tests}
use Rattle.gl_model.proofs.RisingLists.{with_one-below, with_one-above, with_one-same, Rises-with_one}

-- two of them in either order, the less put last
pub one_one : (x y : ℕ) (zs : List ℕ) → x < y → with_one x (with_one y zs) ≡ with_one y (with_one x zs)
one_one x y [] l = with_one-above x y [] l ∙ sym (with_one-below y x [] l)
one_one x y (z ∷ zs) l = elim (cases_lt x z) [
  | inl below ↦ ap (λ t. t) (elim (cases_lt y z) [
    | inl near ↦ ap (with_one x) (with_one-above y z zs near) ∙ with_one-above x y (z ∷ zs) l
        ∙ ap (λ t. x ∷ t) (sym (with_one-above y z zs near)) ∙ sym (with_one-below y x (z ∷ zs) l)
        ∙ ap (with_one y) (sym (with_one-above x z zs below))
    | inr ge ↦ elim (eq-or-lt_of_le ge) [
      | inl same ↦ ap (with_one x) (with_one-same y z zs same) ∙ with_one-above x z zs below
          ∙ ap (λ t. x ∷ t) (sym (with_one-same y z zs same)) ∙ sym (with_one-below y x (z ∷ zs) l)
          ∙ ap (with_one y) (sym (with_one-above x z zs below))
      | inr far ↦ ap (with_one x) (with_one-below y z zs far) ∙ with_one-above x z (with_one y zs) below
          ∙ ap (λ t. x ∷ t) (sym (with_one-below y z zs far)) ∙ sym (with_one-below y x (z ∷ zs) l)
          ∙ ap (with_one y) (sym (with_one-above x z zs below))
    ]
  ])
  | inr ge ↦ (let far : z < y = omega arith in elim (eq-or-lt_of_le ge) [
    | inl same ↦ ap (with_one x) (with_one-below y z zs far) ∙ with_one-same x z (with_one y zs) same ∙ sym (with_one-below y z zs far)
        ∙ ap (with_one y) (sym (with_one-same x z zs same))
    | inr past ↦ ap (with_one x) (with_one-below y z zs far) ∙ with_one-below x z (with_one y zs) past ∙ ap (λ t. z ∷ t) (one_one x y zs l)
        ∙ sym (with_one-below y z (with_one x zs) far) ∙ ap (with_one y) (sym (with_one-below x z zs past))
  ])
]

-- two numbers that are put in, in whichever order, give the same list
pub either_order : (x y : ℕ) (zs : List ℕ) → with_one x (with_one y zs) ≡ with_one y (with_one x zs)
either_order x y zs = elim (cases_lt x y) [
  | inl l ↦ one_one x y zs l
  | inr ge ↦ elim (eq-or-lt_of_le ge) [
    | inl same ↦ ap (λ k. with_one x (with_one k zs)) same
        ∙ ap (λ k. with_one k (with_one x zs)) (sym same)
    | inr l ↦ sym (one_one y x zs l)
  ]
]

-- one that is there already
pub one_again : (x : ℕ) (zs : List ℕ) → with_one x (with_one x zs) ≡ with_one x zs
one_again x [] = with_one-same x x [] refl
one_again x (z ∷ zs) = elim (cases_lt x z) [
  | inl below ↦ ap (with_one x) (with_one-above x z zs below) ∙ with_one-same x x (z ∷ zs) refl ∙ sym (with_one-above x z zs below)
  | inr ge ↦ elim (eq-or-lt_of_le ge) [
    | inl same ↦ ap (with_one x) (with_one-same x z zs same)
    | inr past ↦ ap (with_one x) (with_one-below x z zs past) ∙ with_one-below x z (with_one x zs) past ∙ ap (λ t. z ∷ t) (one_again x zs)
        ∙ sym (with_one-below x z zs past)
  ]
]

-- a number that is put in on the right is put into the whole
pub all_one : (xs : List ℕ) (y : ℕ) (zs : List ℕ) → with_all xs (with_one y zs) ≡ with_one y (with_all xs zs)
all_one [] y zs = refl
all_one (x ∷ xs) y zs = ap (with_all xs) (either_order x y zs) ∙ all_one xs y (with_one x zs)

-- so is one that is put in on the left
pub one_all : (x : ℕ) (ws zs : List ℕ) → with_all (with_one x ws) zs ≡ with_one x (with_all ws zs)
one_all x [] zs = refl
one_all x (w ∷ ws) zs = elim (cases_lt x w) [
  | inl below ↦ ap (λ l. with_all l zs) (with_one-above x w ws below) ∙ all_one (w ∷ ws) x zs
  | inr ge ↦ elim (eq-or-lt_of_le ge) [
    | inl same ↦ ap (λ l. with_all l zs) (with_one-same x w ws same) ∙ all_one ws w zs ∙ sym (one_again w (with_all ws zs))
        ∙ ap (with_one w) (sym (all_one ws w zs)) ∙ ap (λ k. with_one k (with_all ws (with_one w zs))) same
    | inr past ↦ ap (λ l. with_all l zs) (with_one-below x w ws past) ∙ one_all x ws (with_one w zs)
  ]
]

-- with one more there are no fewer
pub one_grows : (x : ℕ) (ys : List ℕ) → length ys ≤ length (with_one x ys)
one_grows x [] = omega arith
one_grows x (y ∷ ys) = elim (cases_lt x y) [
  | inl below ↦ (let e = ap length (with_one-above x y ys below) in omega arith)
  | inr ge ↦ elim (eq-or-lt_of_le ge) [
    | inl same ↦ (let e = ap length (with_one-same x y ys same) in omega arith)
    | inr past ↦ (let e = ap length (with_one-below x y ys past) in let r = one_grows x ys in omega arith)
  ]
]

-- one below all of them is put first
first_above : (x : ℕ) (xs : List ℕ) → AllByRecursion (λ y. x < y) xs → with_one x xs ≡ x ∷ xs
first_above x [] all = refl
first_above x (y ∷ ys) all = with_one-above x y ys all.0

-- a rising list that is put into the empty one is that list
pub all_none : (xs : List ℕ) → Rises xs → with_all xs [] ≡ xs
all_none [] r = refl
all_none (x ∷ xs) r = all_one xs x [] ∙ ap (with_one x) (all_none xs r.1) ∙ first_above x xs r.0

-- with many more there are no fewer
pub all_grow : (xs ys : List ℕ) → length ys ≤ length (with_all xs ys)
all_grow [] ys = omega arith
all_grow (x ∷ xs) ys = let one = one_grows x ys in let rest = all_grow xs (with_one x ys) in omega arith

-- of two rising lists there are at least as many as of the first
pub all_longer : (ws zs : List ℕ) → Rises ws → Rises zs → length ws ≤ length (with_all ws zs)
all_longer ws [] r s = let e = ap length (all_none ws r) in omega arith
all_longer ws (z ∷ zs) r s =
    let e = ap length (ap (with_all ws) (sym (first_above z zs s.0)) ∙ all_one ws z zs) in
    let grows = one_grows z (with_all ws zs) in
    let rest = all_longer ws zs r s.1 in
    omega arith

-- what is in a list is in it with one more in front
pub in_next : {A : Type 0} (x : A) (xs : List A) (y : A) → Contains xs y → Contains (x ∷ xs) y
in_next x xs y c = (suc c.0, (let l = c.1 in omega arith), c.2)

-- what is in a list with one more in front is that one, or is in the list
in_cases : {A : Type 0} (x : A) (xs : List A) (y : A) → Contains (x ∷ xs) y → (x ≡ y) ⊎ Contains xs y
in_cases x xs y (zero, l, e) = inl e
in_cases x xs y (suc k, l, e) = inr (k, omega arith, e)

-- the one that is put there is there
pub one_there : (x : ℕ) (zs : List ℕ) → Contains (with_one x zs) x
one_there x [] = (0, omega arith, refl)
one_there x (z ∷ zs) = elim (cases_lt x z) [
  | inl below ↦ rw (with_one-above x z zs below) (0, omega arith, refl)
  | inr ge ↦ elim (eq-or-lt_of_le ge) [
    | inl same ↦ rw (with_one-same x z zs same) (0, omega arith, same)
    | inr past ↦ rw (with_one-below x z zs past) (in_next z (with_one x zs) x (one_there x zs))
  ]
]

-- what was there is there still
pub one_still : (x : ℕ) (zs : List ℕ) (y : ℕ) → Contains zs y → Contains (with_one x zs) y
one_still x [] y c = absurd (let l = c.1 in omega arith)
one_still x (z ∷ zs) y c = elim (cases_lt x z) [
  | inl below ↦ rw (with_one-above x z zs below) (in_next x (z ∷ zs) y c)
  | inr ge ↦ elim (eq-or-lt_of_le ge) [
    | inl same ↦ rw (with_one-same x z zs same) c
    | inr past ↦ rw (with_one-below x z zs past)
        (elim (in_cases z zs y c) [ inl e ↦ (0, omega arith, e) | inr there ↦ in_next z (with_one x zs) y (one_still x zs y there) ])
  ]
]

-- what is there then is that one, or was there
pub one_from : (x : ℕ) (zs : List ℕ) (y : ℕ) → Contains (with_one x zs) y → (x ≡ y) ⊎ Contains zs y
one_from x [] y c = in_cases x [] y c
one_from x (z ∷ zs) y c = elim (cases_lt x z) [
  | inl below ↦ in_cases x (z ∷ zs) y (rw (with_one-above x z zs below) at c)
  | inr ge ↦ elim (eq-or-lt_of_le ge) [
    | inl same ↦ inr (rw (with_one-same x z zs same) at c)
    | inr past ↦ elim (in_cases z (with_one x zs) y (rw (with_one-below x z zs past) at c)) [
      | inl e ↦ inr (0, omega arith, e)
      | inr there ↦ elim (one_from x zs y there) [ inl e ↦ inl e | inr rest ↦ inr (in_next z zs y rest) ]
    ]
  ]
]

-- of two together, those of the right are there
pub all_right : (xs zs : List ℕ) (y : ℕ) → Contains zs y → Contains (with_all xs zs) y
all_right [] zs y c = c
all_right (x ∷ xs) zs y c = all_right xs (with_one x zs) y (one_still x zs y c)

-- and those of the left
pub all_left : (xs zs : List ℕ) (y : ℕ) → Contains xs y → Contains (with_all xs zs) y
all_left [] zs y c = absurd (let l = c.1 in omega arith)
all_left (x ∷ xs) zs y c = elim (in_cases x xs y c) [
  | inl e ↦ all_right xs (with_one x zs) y (subst (λ k. Contains (with_one x zs) k) e (one_there x zs))
  | inr there ↦ all_left xs (with_one x zs) y there
]

-- and no others
pub all_from : (xs zs : List ℕ) (y : ℕ) → Contains (with_all xs zs) y → Contains xs y ⊎ Contains zs y
all_from [] zs y c = inr c
all_from (x ∷ xs) zs y c = elim (all_from xs (with_one x zs) y c) [
  | inl there ↦ inl (in_next x xs y there)
  | inr other ↦ elim (one_from x zs y other) [ inl e ↦ inl (0, omega arith, e) | inr rest ↦ inr rest ]
]

module _ {A : Type 0} (key : A → ℕ) where
  -- a part that is found is one of the list, and has that number
  pub found_part : (x : ℕ) (ps : List A) (p : A) → find (λ q. key q == x) ps ≡ Some p → Contains ps p × (key p ≡ x)
  found_part x [] p e = absurd (cc)
  found_part x (q ∷ ps) p e = elim (cases_Bool (key q == x)) [
    | inl b ↦ (let is : q ≡ p = (let z = rw b at e in cc) in ((0, omega arith, is), ap key (sym is) ∙ eqb-true (key q) x b))
    | inr b ↦ (let r = found_part x ps p (rw b at e) in (in_next q ps p r.0, r.1))
  ]

  -- where none is found, its number is not among those of the parts
  pub not_found : (x : ℕ) (ps : List A) → find (λ q. key q == x) ps ≡ None → Contains (map key ps) x → ⊥
  not_found x [] e c = absurd (let l = c.1 in omega arith)
  not_found x (q ∷ ps) e c = elim (cases_Bool (key q == x)) [
    | inl b ↦ absurd (let z = rw b at e in cc)
    | inr b ↦ elim (in_cases (key q) (map key ps) x c) [
      | inl same ↦ absurd (let t : (key q == x) ≡ true = eq-eqb (key q) x same in let z : true ≡ false = sym t ∙ b in cc)
      | inr there ↦ not_found x ps (rw b at e) there
    ]
  ]

  -- the number of a part of the list is among the numbers of the list
  key_in : (ps : List A) (p : A) → Contains ps p → Contains (map key ps) (key p)
  key_in [] p c = absurd (let l = c.1 in omega arith)
  key_in (q ∷ ps) p c = elim (in_cases q ps p c) [
    | inl e ↦ (0, omega arith, ap key e)
    | inr there ↦ in_next (key q) (map key ps) (key p) (key_in ps p there)
  ]

  -- the number of a part that is found is among the numbers of the list
  pub found_among : (x : ℕ) (ps : List A) (p : A) → find (λ q. key q == x) ps ≡ Some p → Contains (map key ps) x
  found_among x ps p e = let r = found_part x ps p e in subst (λ k. Contains (map key ps) k) r.1 (key_in ps p r.0)

  -- a part is put before a greater one
  pub part_above : (p q : A) (qs : List A) → key p < key q → with_part key p (q ∷ qs) ≡ p ∷ (q ∷ qs)
  part_above p q qs l = grind (arith, nat_tests)

  -- a smaller one stays first
  pub part_below : (p q : A) (qs : List A) → key q < key p → with_part key p (q ∷ qs) ≡ q ∷ with_part key p qs
  part_below p q qs l = grind (arith, nat_tests)

  -- one with the same number gives way
  pub part_same : (p q : A) (qs : List A) → key q ≡ key p → with_part key p (q ∷ qs) ≡ p ∷ qs
  part_same p q qs e = grind (arith, nat_tests)

  -- the numbers of the parts, where one is put among them
  pub keys_with : (p : A) (qs : List A) → map key (with_part key p qs) ≡ with_one (key p) (map key qs)
  keys_with p [] = refl
  keys_with p (q ∷ qs) = elim (cases_lt (key p) (key q)) [
    | inl l ↦ rw (part_above p q qs l, with_one-above (key p) (key q) (map key qs) l)
    | inr ge ↦ elim (eq-or-lt_of_le ge) [
      | inl same ↦ rw (part_same p q qs same, with_one-same (key p) (key q) (map key qs) same) (ap (λ k. k ∷ map key qs) (sym same))
      | inr l ↦ rw (part_below p q qs l, with_one-below (key p) (key q) (map key qs) l) (ap (λ ks. key q ∷ ks) (keys_with p qs))
    ]
  ]

  -- each part is the new one or an old one
  pub with_new : (p : A) (qs : List A) (q : A) → Contains (with_part key p qs) q → (p ≡ q) ⊎ Contains qs q
  with_new p [] q c = in_cases p [] q c
  with_new p (r ∷ qs) q c = elim (cases_lt (key p) (key r)) [
    | inl l ↦ in_cases p (r ∷ qs) q (rw (part_above p r qs l) at c)
    | inr ge ↦ elim (eq-or-lt_of_le ge) [
      | inl same ↦ elim (in_cases p qs q (rw (part_same p r qs same) at c)) [ inl e ↦ inl e | inr there ↦ inr (in_next r qs q there) ]
      | inr l ↦ elim (in_cases r (with_part key p qs) q (rw (part_below p r qs l) at c)) [
        | inl e ↦ inr (0, omega arith, e)
        | inr there ↦ elim (with_new p qs q there) [ inl e ↦ inl e | inr rest ↦ inr (in_next r qs q rest) ]
      ]
    ]
  ]

  -- the new one is among them
  pub with_first : (p : A) (qs : List A) → Contains (with_part key p qs) p
  with_first p [] = (0, omega arith, refl)
  with_first p (r ∷ qs) = elim (cases_lt (key p) (key r)) [
    | inl l ↦ rw (part_above p r qs l) (0, omega arith, refl)
    | inr ge ↦ elim (eq-or-lt_of_le ge) [
      | inl same ↦ rw (part_same p r qs same) (0, omega arith, refl)
      | inr l ↦ rw (part_below p r qs l) (in_next r (with_part key p qs) p (with_first p qs))
    ]
  ]

  -- and the old ones, where none of them has its number
  pub with_old : (p : A) (qs : List A) (q : A) → (Contains (map key qs) (key p) → ⊥) → Contains qs q → Contains (with_part key p qs) q
  with_old p [] q out c = absurd (let l = c.1 in omega arith)
  with_old p (r ∷ qs) q out c = elim (cases_lt (key p) (key r)) [
    | inl l ↦ rw (part_above p r qs l) (in_next p (r ∷ qs) q c)
    | inr ge ↦ elim (eq-or-lt_of_le ge) [
      | inl same ↦ absurd (out (0, omega arith, same))
      | inr l ↦ rw (part_below p r qs l) (elim (in_cases r qs q c) [
        | inl e ↦ (0, omega arith, e)
        | inr there ↦ in_next r (with_part key p qs) q (with_old p qs q (λ d. out (in_next (key r) (map key qs) (key p) d)) there)
      ])
    ]
  ]

-- a number that is not there is one more
pub one_new : (x : ℕ) (ys : List ℕ) → (Contains ys x → ⊥) → length (with_one x ys) ≡ length ys + 1
one_new x [] out = refl
one_new x (y ∷ ys) out = elim (cases_lt x y) [
  | inl l ↦ (let e = ap length (with_one-above x y ys l) in omega arith)
  | inr ge ↦ elim (eq-or-lt_of_le ge) [
    | inl same ↦ absurd (out (0, omega arith, same))
    | inr l ↦ (let e = ap length (with_one-below x y ys l) in let r = one_new x ys (λ d. out (in_next y ys x d)) in omega arith)
  ]
]

-- where the union with one more is not too long, there is room for one more
pub one_fits : (x most : ℕ) (ws zs : List ℕ) → Rises ws → Rises zs → length (with_one x (with_all ws zs)) ≤ most → length ws ≡ most
    → (Contains ws x → ⊥) → ⊥
one_fits x most ws zs r s few full out =
    let e = ap length (one_all x ws zs) in
    let n = one_new x ws out in
    let l = all_longer (with_one x ws) zs (Rises-with_one x ws r) s in
    let bad : suc most ≤ most = omega arith in
    omega arith
