-- A list of variables that is read from left to right.
use Rattle.std.proofs.Common.{◌≡◌, ◌+◌, ◌<◌, ◌≤◌, ℕ, zero, suc, List, [], ◌∷◌, ◌++◌, get_or, true, false, ◌&&◌, ◌||◌, Option, Some, None, Result, Ok, Err, nat_lt, nat_le, ◌==◌, length, length-append, take, drop, Contains, inl, inr, refl, ap, sym, ◌∙◌, ◌-◌, append_assoc, append-nil, true≢false, arith}
use Rattle.std.proofs.lemmas.Bool.{cases_Bool, cases_lt, lt-ltb, le-ltb, ltb-true, leb-true, leb-false, ne_eqb, le-leb, lt-leb, and_parts, and_from, and_left, and_right, and_cases, or_cases}
use Rattle.std.specs.List.{list_any, list_all, slice_split, position, before_first, after_first}
use Rattle.std.proofs.lemmas.List.Splits.{slice_split_first}
use Rattle.std.proofs.lemmas.List.Folds.{list_all-append, list_any-from_Any, list_any_at}
use Rattle.gl_model.specs.declared.limits.TheConstants.{VARIABLES, TX_VARIABLES}
use Rattle.gl_model.specs.Rising.{with_one}
use Rattle.gl_text.proofs.TextLemmas.{place_some, place_none, split_none}
use Rattle.gl_trace.specs.Ids.{operand_of, ids_of, with_first, kept_set, set_of, list_words, is_comma, rises, is_set, as_set}
use Rattle.gl_trace.specs.Kept.{with_last}
use Rattle.gl_trace.specs.Phrase.{◌>>=◌}

-- bytes with a comma are split into what stands before the first one and the pieces of what stands after it
pub first_split : (bs front back : List ℕ) (n : ℕ) → position is_comma bs ≡ Some n → front ≡ take n bs → back ≡ drop (n + 1) bs
    → slice_split is_comma bs ≡ front ∷ slice_split is_comma back
first_split bs front back n found f b =
    let (at, within) = place_some is_comma bs n found in
    let same_front : before_first is_comma bs ≡ front = ap (λ k. take k bs) at ∙ sym f in
    let same_back : after_first is_comma bs ≡ back = ap (λ k. drop (k + 1) bs) at ∙ sym b in
    slice_split_first is_comma bs 0 (omega arith)
    ∙ ap (λ l. l ∷ slice_split is_comma (after_first is_comma bs)) same_front
    ∙ ap (λ l. front ∷ slice_split is_comma l) same_back

-- bytes without a comma are one piece
pub last_split : (bs : List ℕ) → position is_comma bs ≡ None → slice_split is_comma bs ≡ bs ∷ []
last_split bs none = split_none is_comma bs (place_none is_comma bs none)

-- where no number reaches n, the first is below it, and none of the rest reaches it
below_of : (xs : List ℕ) (n : ℕ) (x : ℕ) → (nat_le n x || list_any (λ y. nat_le n y) xs) ≡ false → (x < n)
    × (list_any (λ y. nat_le n y) xs ≡ false)
below_of xs n x none =
    elim (cases_Bool (nat_le n x)) [
      | inl e ↦ let whole : (nat_le n x || list_any (λ y. nat_le n y) xs) ≡ true = rw e refl in absurd cc
      | inr e ↦ (leb-false n x e, sym (rw e refl) ∙ none)
    ]

-- a list that rises does so with a number above all at the end
rises_push : (xs : List ℕ) (n : ℕ) → rises xs ≡ true → list_any (λ x. nat_le n x) xs ≡ false → rises (xs ++ n ∷ []) ≡ true
rises_push [] n r none = refl
rises_push (x ∷ xs) n r none =
    let (below, rest) = below_of xs n x none in
    let (first, others) = and_parts (list_all (λ y. nat_lt x y) xs) (rises xs) r in
    and_from (list_all (λ y. nat_lt x y) (xs ++ n ∷ [])) (rises (xs ++ n ∷ []))
    (list_all-append (λ y. nat_lt x y) xs (n ∷ [])
    ∙ and_from (list_all (λ y. nat_lt x y) xs) (nat_lt x n && true) first (rw (lt-ltb x n below) refl))
    (rises_push xs n others rest)

-- with a number at the end that is not above all it does not
falls_push : (xs : List ℕ) (n : ℕ) → list_any (λ x. nat_le n x) xs ≡ true → rises (xs ++ n ∷ []) ≡ false
falls_push [] n some = sym some
falls_push (x ∷ xs) n some =
    elim (or_cases (nat_le n x) (list_any (λ y. nat_le n y) xs) some) [
      | inl e ↦
          let over : nat_lt x n ≡ false = le-ltb x n (leb-true n x e) in
          let none : list_all (λ y. nat_lt x y) (xs ++ n ∷ []) ≡ false =
          list_all-append (λ y. nat_lt x y) xs (n ∷ []) ∙ and_right (list_all (λ y. nat_lt x y) xs) (nat_lt x n && true) (rw over refl) in
          and_left (list_all (λ y. nat_lt x y) (xs ++ n ∷ [])) (rises (xs ++ n ∷ [])) none
      | inr e ↦ and_right (list_all (λ y. nat_lt x y) (xs ++ n ∷ [])) (rises (xs ++ n ∷ [])) (falls_push xs n e)
    ]

-- a number above all of a list is put in at its end
goes_last : (xs : List ℕ) (n : ℕ) → list_any (λ x. nat_le n x) xs ≡ false → with_one n xs ≡ xs ++ n ∷ []
goes_last [] n none = refl
goes_last (x ∷ xs) n none =
    let (below, rest) = below_of xs n x none in
    let apart : n == x ≡ false = ne_eqb n x (λ e. omega arith) in
    let over : nat_lt n x ≡ false = le-ltb n x (omega arith) in
    rw (apart, over) (ap (λ l. x ∷ l) (goes_last xs n rest))

-- a list with a number at its end that is not above all the others is no set
pub falls : (xs : List ℕ) (n : ℕ) → list_any (λ x. nat_le n x) xs ≡ true → None ≡ as_set (xs ++ n ∷ [])
falls xs n some = rw (and_left (rises (xs ++ n ∷ [])) (nat_le (length (xs ++ n ∷ [])) TX_VARIABLES) (falls_push xs n some)) refl

-- a number above all of a list is not in it
holds_any : (xs : List ℕ) (n : ℕ) → list_any (λ x. nat_le n x) xs ≡ false → Contains xs n → ⊥
holds_any xs n none h = true≢false (sym (list_any-from_Any (λ x. nat_le n x) xs (h.0, n, h.1, h.2, le-leb n n (omega arith))) ∙ none)

-- a set with room, and a number above all put in: the number stands at its end
pub grows : (xs ys : List ℕ) (n : ℕ) → is_set xs ≡ true → list_any (λ x. nat_le n x) xs ≡ false
    → ((length xs ≡ TX_VARIABLES) × (Contains xs n → ⊥) → ⊥)
    → ys ≡ with_one n xs → Some ys ≡ as_set (xs ++ n ∷ [])
grows xs ys n set none room e =
    let most : length xs ≤ TX_VARIABLES = leb-true (length xs) TX_VARIABLES (and_parts (rises xs) (nat_le (length xs) TX_VARIABLES) set).1
    in
    let few : length xs < TX_VARIABLES =
    elim (cases_lt (length xs) TX_VARIABLES) [
      | inl h ↦ h
      | inr h ↦ absurd (room (omega arith, holds_any xs n none))
    ] in
    let (up, count) = and_parts (rises xs) (nat_le (length xs) TX_VARIABLES) set in
    let fits : nat_le (length (xs ++ n ∷ [])) TX_VARIABLES
    ≡ true = le-leb (length (xs ++ n ∷ [])) TX_VARIABLES (omega (arith, length-append xs (n ∷ []))) in
    let still : is_set (xs ++ n ∷ []) ≡ true =
    and_from (rises (xs ++ n ∷ [])) (nat_le (length (xs ++ n ∷ [])) TX_VARIABLES) (rises_push xs n up none) fits in
    rw still (ap Some (e ∙ goes_last xs n none))

-- in a list that rises the last reaches a number where some does
below_last : (xs : List ℕ) (n k : ℕ) → rises xs ≡ true → k < length xs → nat_le n (get_or xs k 0) ≡ false
    → (k + 1 ≡ length xs) → list_any (λ x. nat_le n x) xs ≡ false
below_last [] n k r less over end = refl
below_last (x ∷ []) n zero r less over end = rw over refl
below_last (x ∷ []) n (suc k) r less over end = absurd (omega arith)
below_last (x ∷ (y ∷ ys)) n zero r less over end = absurd (omega arith)
below_last (x ∷ (y ∷ ys)) n (suc k) r less over end =
    let (first, others) = and_parts (list_all (λ z. nat_lt x z) (y ∷ ys)) (rises (y ∷ ys)) r in
    let up : nat_lt x y ≡ true = (and_parts (nat_lt x y) (list_all (λ z. nat_lt x z) ys) first).0 in
    let (below, rest) = below_of ys n y (below_last (y ∷ ys) n k others (omega arith) over (omega arith)) in
    let less' : x < y = ltb-true x y up in
    rw (lt-leb n x (omega arith)) (below_last (y ∷ ys) n k others (omega arith) over (omega arith))

-- in a list that rises the last reaches n exactly where some number does
pub last_reaches : (xs : List ℕ) (n : ℕ) → rises xs ≡ true → 0 < length xs → nat_le n (get_or xs (length xs - 1) 0)
    ≡ list_any (λ x. nat_le n x) xs
last_reaches xs n r some =
    elim (cases_Bool (nat_le n (get_or xs (length xs - 1) 0))) [
      | inl e ↦ e ∙ sym (list_any_at (λ x. nat_le n x) xs (length xs - 1) 0 (omega arith) e)
      | inr e ↦ e ∙ sym (below_last xs n (length xs - 1) r (omega arith) e (omega arith))
    ]

-- the whole of a list, from what is kept of the words before and those that are left
abbrev pub put_rest : Option (List ℕ) → List (List ℕ) → Result (Option (List ℕ)) ℕ
put_rest kept [] = Ok kept
put_rest kept (w ∷ ws) = operand_of (VARIABLES - 1) w >>= (λ n. put_rest (with_last kept n) ws)

-- a list that does not rise does not with more
stays_fallen : (xs : List ℕ) (n : ℕ) → rises xs ≡ false → rises (xs ++ n ∷ []) ≡ false
stays_fallen [] n e = absurd (true≢false e)
stays_fallen (x ∷ xs) n e =
    elim (and_cases (list_all (λ y. nat_lt x y) xs) (rises xs) e) [
      | inl first ↦
          and_left (list_all (λ y. nat_lt x y) (xs ++ n ∷ [])) (rises (xs ++ n ∷ []))
          (list_all-append (λ y. nat_lt x y) xs (n ∷ []) ∙ and_left (list_all (λ y. nat_lt x y) xs) (nat_lt x n && true) first)
      | inr rest ↦ and_right (list_all (λ y. nat_lt x y) (xs ++ n ∷ [])) (rises (xs ++ n ∷ [])) (stays_fallen xs n rest)
    ]

-- what is no set is none with more
stays_none : (xs : List ℕ) (n : ℕ) → is_set xs ≡ false → is_set (xs ++ n ∷ []) ≡ false
stays_none xs n e =
    elim (and_cases (rises xs) (nat_le (length xs) TX_VARIABLES) e) [
      | inl fallen ↦ and_left (rises (xs ++ n ∷ [])) (nat_le (length (xs ++ n ∷ [])) TX_VARIABLES) (stays_fallen xs n fallen)
      | inr over ↦
          let many : TX_VARIABLES < length xs = leb-false (length xs) TX_VARIABLES over in
          and_right (rises (xs ++ n ∷ [])) (nat_le (length (xs ++ n ∷ [])) TX_VARIABLES)
          (lt-leb (length (xs ++ n ∷ [])) TX_VARIABLES (omega (arith, length-append xs (n ∷ []))))
    ]

-- one number more, if a set is kept, is the set with it at the end, if that is one
one_more : (xs : List ℕ) (n : ℕ) → with_last (as_set xs) n ≡ as_set (xs ++ n ∷ [])
one_more xs n =
    elim (cases_Bool (is_set xs)) [
      | inl e ↦ rw e refl
      | inr e ↦ rw (e, stays_none xs n e) refl
    ]

-- these numbers, and then those that were read, if they were
abbrev pub after : List ℕ → Result (List ℕ) ℕ → Result (List ℕ) ℕ
after xs (Ok ys) = Ok (xs ++ ys)
after xs (Err kind) = Err kind

-- a number at the end of the first is as one at the front of the rest
after_first_one : (xs : List ℕ) (n : ℕ) (rest : Result (List ℕ) ℕ) → after (xs ++ n ∷ []) rest ≡ after xs (with_first (Ok n) rest)
after_first_one xs n (Ok ys) = ap Ok (append_assoc xs (n ∷ []) ys)
after_first_one xs n (Err kind) = refl

-- a word that is read before others is put in before them
put_word : (xs : List ℕ) (ws : List (List ℕ)) (r : Result ℕ ℕ) → ((ys : List ℕ) → put_rest (as_set ys) ws ≡ kept_set (after ys (ids_of ws)))
    → (r >>= (λ n. put_rest (with_last (as_set xs) n) ws)) ≡ kept_set (after xs (with_first r (ids_of ws)))
put_word xs ws (Err kind) next = refl
put_word xs ws (Ok n) next = ap (λ k. put_rest k ws) (one_more xs n) ∙ next (xs ++ n ∷ []) ∙ ap kept_set (after_first_one xs n (ids_of ws))

-- words put in one after another leave the set of what they name, if it is one
put_all : (xs : List ℕ) (ws : List (List ℕ)) → put_rest (as_set xs) ws ≡ kept_set (after xs (ids_of ws))
put_all xs [] = ap (λ l. kept_set (Ok l)) (sym (append-nil xs))
put_all xs (w ∷ ws) = put_word xs ws (operand_of (VARIABLES - 1) w) (λ ys. put_all ys ws)

-- numbers after none are those
after_none : (r : Result (List ℕ) ℕ) → after [] r ≡ r
after_none (Ok ys) = refl
after_none (Err kind) = refl

-- the words of a list, put in one after another where nothing was, leave the set that the list says
pub put_whole : (word : List ℕ) → put_rest (Some []) (list_words word) ≡ set_of word
put_whole word = put_all [] (list_words word) ∙ ap kept_set (after_none (ids_of (list_words word)))
