-- The lines of a text that is cut between two lines are those of its parts.
use Rattle.std.proofs.Common.{◌≡◌, ℕ, zero, suc, ◌+◌, ◌-◌, ◌<◌, ◌≤◌, ◌==◌, List, [], ◌∷◌, ◌++◌, Bool, true, false, true≢false, length, length-append, length-take, eqb, map, take, drop, refl, sym, ◌∙◌, ap, subst, inl, inr, arith, Some}
use Rattle.std.specs.Prelude.{◌⊎◌, slice_get}
use Rattle.std.specs.List.{list_any, onto_first, slice_split}
use Rattle.std.specs.Str.Lines.{lines, lines_of_parts, strip_carriage_return}
use Rattle.std.proofs.lemmas.Bool.{cases_Bool, cases_lt, cond-false, eqb-true, ne_eqb, or_from, or_parts}
use Rattle.std.proofs.lemmas.List.{take_all, drop_all}
use Rattle.std.proofs.lemmas.Option.{slice_get_within}
use Rattle.std.proofs.lemmas.List.Folds.{list_any-append}
use Rattle.std.proofs.lemmas.List.Splits.{length-slice_split, slice_split-cons_no, slice_split-cons_yes}
use Rattle.gl_audited.specs.Cut.{IsBetween, IsCutAt, IsLineEnd, IsLineFeedAt, begins_record, first_begins_record}

-- a line feed
abbrev is_feed : ℕ → Bool
is_feed b = b == 10

-- ## Parts of a list that is put together at a line feed

-- a text has at least one part
some_parts : (xs : List ℕ) → 0 < length (slice_split is_feed xs)
some_parts xs = omega (arith, length-slice_split is_feed xs)

-- a byte before the first part leaves the parts after it, where there is a first one
onto_append : (x : ℕ) (ps qs : List (List ℕ)) → 0 < length ps → onto_first x (ps ++ qs) ≡ onto_first x ps ++ qs
onto_append x [] qs h = absurd (omega arith)
onto_append x (p ∷ ps) qs h = refl

-- two texts with a line feed between have the parts of the first and then those of the second
split_append : (xs ys : List ℕ) → slice_split is_feed (xs ++ 10 ∷ ys) ≡ slice_split is_feed xs ++ slice_split is_feed ys
split_append [] ys = refl
split_append (x ∷ xs) ys =
    elim (cases_Bool (is_feed x)) [
      | inl e ↦
          slice_split-cons_yes is_feed x (xs ++ 10 ∷ ys) e
          ∙ ap (λ ps. [] ∷ ps) (split_append xs ys)
          ∙ sym (ap (λ ps. ps ++ slice_split is_feed ys) (slice_split-cons_yes is_feed x xs e))
      | inr e ↦
          slice_split-cons_no is_feed x (xs ++ 10 ∷ ys) e
          ∙ ap (onto_first x) (split_append xs ys)
          ∙ onto_append x (slice_split is_feed xs) (slice_split is_feed ys) (some_parts xs)
          ∙ sym (ap (λ ps. ps ++ slice_split is_feed ys) (slice_split-cons_no is_feed x xs e))
    ]

-- where something follows the first part of a text, that part is a line, and the others make the other lines
front_part : (x : List ℕ) (ps : List (List ℕ)) → 0 < length ps → lines_of_parts (x ∷ ps) ≡ strip_carriage_return x ∷ lines_of_parts ps
front_part x [] h = absurd (omega arith)
front_part x (y ∷ ys) h = refl

-- parts and others are some, where the others are
some_append : (ps qs : List (List ℕ)) → 0 < length qs → 0 < length (ps ++ qs)
some_append [] qs h = h
some_append (p ∷ ps) qs h = omega arith

-- parts and others, where there are others, make the parts as lines and then the lines of the others
parts_append : (ps qs : List (List ℕ)) → 0 < length qs → lines_of_parts (ps ++ qs) ≡ map strip_carriage_return ps ++ lines_of_parts qs
parts_append [] qs h = refl
parts_append (p ∷ ps) qs h = front_part p (ps ++ qs) (some_append ps qs h) ∙ ap (λ ls. strip_carriage_return p ∷ ls) (parts_append ps qs h)

-- two texts with a line feed between have the first's parts as lines and then the lines of the second
lines_append : (xs ys : List ℕ) → lines (xs ++ 10 ∷ ys) ≡ map strip_carriage_return (slice_split is_feed xs) ++ lines ys
lines_append xs ys =
    ap lines_of_parts (split_append xs ys) ∙ parts_append (slice_split is_feed xs) (slice_split is_feed ys) (some_parts ys)

-- a list and nothing after it are that list
append_none : {A : Type 0} (xs : List A) → xs ++ [] ≡ xs
append_none [] = refl
append_none (x ∷ xs) = ap (λ l. x ∷ l) (append_none xs)

-- ## Cuts

-- a text with a line feed at a place is what is before, the line feed and what is after
split_feed :
    (text : List ℕ) (k : ℕ) → slice_get text k ≡ Some 10 →
    (take (suc k) text ≡ take k text ++ 10 ∷ []) × (text ≡ take k text ++ 10 ∷ drop (suc k) text)
split_feed [] k e = absurd (cc)
split_feed (x ∷ xs) zero e = let same : x ≡ 10 = (let here : Some x ≡ Some 10 = e in cc) in (ap (λ y. y ∷ []) same, ap (λ y. y ∷ xs) same)
split_feed (x ∷ xs) (suc k) e = let (a, b) = split_feed xs k e in (ap (λ l. x ∷ l) a, ap (λ l. x ∷ l) b)

-- the lines of a text are those up to and with a line feed and those after it
cut_after : (text : List ℕ) (k : ℕ) → slice_get text k ≡ Some 10 → lines text ≡ lines (take (suc k) text) ++ lines (drop (suc k) text)
cut_after text k e =
    let (front, whole) = split_feed text k e in
    let parts : List (List ℕ) = map strip_carriage_return (slice_split is_feed (take k text)) in
    let first : lines (take (suc k) text) ≡ parts = ap lines front ∙ lines_append (take k text) [] ∙ append_none parts in
    ap lines whole ∙ lines_append (take k text) (drop (suc k) text) ∙ ap (λ l. l ++ lines (drop (suc k) text)) (sym first)

-- the lines of a text are those before a place between two lines, and those after it
pub lines_cut : (text : List ℕ) (n : ℕ) → IsBetween text n → lines text ≡ lines (take n text) ++ lines (drop n text)
lines_cut text n (inl none) = rw none refl
lines_cut text n (inr (inl all)) =
    let front : take n text ≡ text = take_all n text (omega arith) in
    let back : drop n text ≡ [] = drop_all n text (omega arith) in
    sym (append_none (lines text)) ∙ ap (λ l. l ++ []) (ap lines (sym front)) ∙ ap (λ l. lines (take n text) ++ lines l) (sym back)
lines_cut text n (inr (inr (k, at, feed))) =
    let same : n ≡ suc k = omega arith in
    rw same (cut_after text k feed)

-- ## The first line

-- the first of some parts, or this one where there are none
abbrev head_or : List ℕ → List (List ℕ) → List ℕ
head_or x [] = x
head_or x (y ∷ ys) = y

-- the parts of a text are what is before the first line feed and the parts of what is after it
first_parts :
    (text : List ℕ) (k : ℕ) → slice_get text k ≡ Some 10 → ((i : ℕ) → i < k → IsLineFeedAt text i → ⊥) →
    slice_split is_feed text ≡ take k text ∷ slice_split is_feed (drop (suc k) text)
first_parts [] k e none = absurd (cc)
first_parts (x ∷ xs) zero e none =
    let same : x ≡ 10 = (let here : Some x ≡ Some 10 = e in cc) in
    let yes : is_feed x ≡ true = rw same refl in
    slice_split-cons_yes is_feed x xs yes
first_parts (x ∷ xs) (suc k) there none =
    elim (cases_Bool (is_feed x)) [
      | inl e ↦ absurd (none 0 (omega arith) (ap Some (eqb-true x 10 e)))
      | inr f ↦
          slice_split-cons_no is_feed x xs f ∙ ap (onto_first x) (first_parts xs k there (λ i l at. none (suc i) (omega arith) at))
    ]

-- a text without a line feed is its own one part
no_parts : (text : List ℕ) → ((i : ℕ) → IsLineFeedAt text i → ⊥) → slice_split is_feed text ≡ text ∷ []
no_parts [] none = refl
no_parts (x ∷ xs) none =
    elim (cases_Bool (is_feed x)) [
      | inl e ↦ absurd (none 0 (ap Some (eqb-true x 10 e)))
      | inr f ↦ slice_split-cons_no is_feed x xs f ∙ ap (onto_first x) (no_parts xs (λ i f. none (suc i) f))
    ]

-- what is put before lines and makes them those lines after one more is that one line
cancel : (a L : List (List ℕ)) (x : List ℕ) → a ++ L ≡ x ∷ L → a ≡ x ∷ []
cancel [] L x e = let more : length L ≡ length (x ∷ L) = ap length e in absurd (omega arith)
cancel (y ∷ []) L x e = let same : y ∷ L ≡ x ∷ L = e in ap (λ z. z ∷ []) (ap (head_or x) same)
cancel (y ∷ z ∷ rest) L x e = let more : length (y ∷ z ∷ rest ++ L) ≡ length (x ∷ L) = ap length e
    in absurd (omega (arith, length-append rest L))

-- a last part that is not empty is a line
last_line : (text : List ℕ) → 0 < length text → lines_of_parts (text ∷ []) ≡ text ∷ []
last_line [] h = absurd (omega arith)
last_line (x ∷ xs) h = cond-false (eqb (length (x ∷ xs)) 0) [] ((x ∷ xs) ∷ []) (ne_eqb (length (x ∷ xs)) 0 (λ e. omega arith))

-- the first line of a text and what follows it, and that the text of this line alone has no other
pub first_line :
    (rest : List ℕ) (n : ℕ) → 0 < length rest → IsLineEnd rest n →
    (line : List ℕ) × (lines rest ≡ line ∷ lines (drop n rest)) × (lines (take n rest) ≡ line ∷ [])
first_line rest n some (inl (k, at, feed, none)) =
    let same : n ≡ suc k = omega arith in
    let line : List ℕ = strip_carriage_return (take k rest) in
    let whole : lines rest ≡ line ∷ lines (drop (suc k) rest) =
    ap lines_of_parts (first_parts rest k feed none)
    ∙ front_part (take k rest) (slice_split is_feed (drop (suc k) rest)) (some_parts (drop (suc k) rest)) in
    let alone : lines (take (suc k) rest) ≡ line
    ∷ [] = cancel (lines (take (suc k) rest)) (lines (drop (suc k) rest)) line (sym (cut_after rest k feed) ∙ whole) in
    (line, rw same whole, rw same alone)
first_line rest n some (inr (all, none)) =
    let front : take n rest ≡ rest = take_all n rest (omega arith) in
    let back : drop n rest ≡ [] = drop_all n rest (omega arith) in
    let one : lines rest ≡ rest ∷ [] = ap lines_of_parts (no_parts rest none) ∙ last_line rest some in
    (rest, one ∙ ap (λ l. rest ∷ lines l) (sym back), ap lines front ∙ one)

-- ## Two parts one after the other

-- nothing, or something that ends with a line feed
abbrev Ends : List ℕ → Type 0
Ends a = (a ≡ []) ⊎ ((q : List ℕ) × (a ≡ q ++ 10 ∷ []))

-- texts with a line feed between are the same however they are put together
append_twice : (q b : List ℕ) → (q ++ 10 ∷ []) ++ b ≡ q ++ 10 ∷ b
append_twice [] b = refl
append_twice (x ∷ q) b = ap (λ l. x ∷ l) (append_twice q b)

-- the lines of two texts are those of the first and those of the second, where the first ends with a line feed or is empty
lines_both : (a b : List ℕ) → Ends a → lines (a ++ b) ≡ lines a ++ lines b
lines_both a b (inl none) = rw none refl
lines_both a b (inr (q, same)) =
    let first : lines (q ++ 10 ∷ []) ≡ map strip_carriage_return (slice_split is_feed q) = lines_append q [] ∙ append_none _ in
    rw same (ap lines (append_twice q b) ∙ lines_append q b ∙ ap (λ l. l ++ lines b) (sym first))

-- what is before a place between two lines ends with a line feed or is empty
ends_before : (text : List ℕ) (at : ℕ) → at < length text → IsBetween text at → Ends (take at text)
ends_before text at h (inl none) = inl (rw none refl)
ends_before text at h (inr (inl all)) = absurd (omega arith)
ends_before text at h (inr (inr (k, same, feed))) =
    let more : at ≡ suc k = omega arith in
    inr (take k text, rw more (split_feed text k feed).0)

-- a beginning of nothing is nothing
take_none : (n : ℕ) (xs : List ℕ) → xs ≡ [] → take n xs ≡ []
take_none zero xs e = refl
take_none (suc n) xs e = rw e refl

-- a beginning of so many and then so many is the first beginning and one of what is left
take_sum : (text : List ℕ) (m n : ℕ) → take (m + n) text ≡ take m text ++ take n (drop m text)
take_sum text zero n = let none : 0 + n ≡ n = omega arith in rw none refl
take_sum [] (suc m) n = let more : suc m + n ≡ suc (m + n) = omega arith in rw more (sym (take_none n [] refl))
take_sum (x ∷ xs) (suc m) n = let more : suc m + n ≡ suc (m + n) = omega arith in rw more (ap (λ l. x ∷ l) (take_sum xs m n))

-- what stands at a place of what is left stands that much later in the text
drop_get : (text : List ℕ) (m k : ℕ) → slice_get (drop m text) k ≡ slice_get text (m + k)
drop_get text zero k = let none : 0 + k ≡ k = omega arith in rw none refl
drop_get [] (suc m) k = refl
drop_get (x ∷ xs) (suc m) k = let more : suc m + k ≡ suc (m + k) = omega arith in rw more (drop_get xs m k)

-- what is passed and what is left are as long as the text
drop_length : (text : List ℕ) (m : ℕ) → m ≤ length text → m + length (drop m text) ≡ length text
drop_length text zero h = omega arith
drop_length [] (suc m) h = absurd (omega arith)
drop_length (x ∷ xs) (suc m) h = let less : m + length (drop m xs) ≡ length xs = drop_length xs m (omega arith) in omega arith

-- ## The loop

-- no line before the place begins a record, and this is how many there are
pub record IsCutSoFar (text : List ℕ) (at count : ℕ) : Type 0 where
  pub within : at ≤ length text
  pub between : IsBetween text at
  pub before : list_any begins_record (lines (take at text)) ≡ false
  pub counted : count ≡ length (lines (take at text))
  pub few : count ≤ at

-- the end of the first line after a place is between two lines of the whole text
between_later : (text : List ℕ) (at n : ℕ) → at ≤ length text → IsLineEnd (drop at text) n → IsBetween text (at + n)
between_later text at n h (inl (k, same, feed, none)) = inr (inr (at + k, omega arith, sym (drop_get text at k) ∙ feed))
between_later text at n h (inr (all, none)) = inr (inl (omega (arith, drop_length text at h)))

-- the first line of a text that is not empty has a byte, and ends within the text
end_within : (rest : List ℕ) (n : ℕ) → 0 < length rest → IsLineEnd rest n → (0 < n) × (n ≤ length rest)
end_within rest n some (inl (k, same, feed, none)) =
    (omega arith, let low : k < length rest = slice_get_within rest k 10 feed in omega arith)
end_within rest n some (inr (all, none)) = (omega arith, omega arith)

-- lines that begin no record, and one more that does not, are one more line and begin none
one_more : (ls : List (List ℕ)) (line : List ℕ) → list_any begins_record ls ≡ false → begins_record line ≡ false →
    (list_any begins_record (ls ++ line ∷ []) ≡ false) × (length (ls ++ line ∷ []) ≡ length ls + 1)
one_more ls line none not = (
  list_any-append begins_record ls (line ∷ [])
      ∙ or_from _ _ none (or_from _ _ not refl),
  omega (arith, length-append ls (line ∷ [])),
)

-- where the next line begins no record, the cut may be after it
cut_later :
    (text : List ℕ) (at count n : ℕ) → IsCutSoFar text at count → at < length text → first_begins_record (lines (drop at text)) ≡ false →
    IsLineEnd (drop at text) n → IsCutSoFar text (at + n) (count + 1)
cut_later text at count n c h not end =
    let rest : List ℕ = drop at text in
    let long : at + length rest ≡ length text = drop_length text at c.within in
    let (line, whole, alone) = first_line rest n (omega arith) end in
    let no : begins_record line ≡ false = sym (ap first_begins_record whole) ∙ not in
    let both : lines (take (at + n) text) ≡ lines (take at text) ++ line ∷ [] =
    ap lines (take_sum text at n) ∙ lines_both (take at text) (take n rest) (ends_before text at h c.between)
    ∙ ap (λ l. lines (take at text) ++ l) alone in
    let (none, more) = one_more (lines (take at text)) line c.before no in
    let (some, fits) = end_within rest n (omega arith) end in
    record {
      within = omega arith;
      between = between_later text at n c.within end;
      before = ap (list_any begins_record) both ∙ none;
      counted = let old : count ≡ length (lines (take at text)) = c.counted in let new : length (lines (take (at + n) text))
          ≡ length (lines (take at text)) + 1 = ap length both ∙ more in omega arith;
      few = let old : count ≤ at = c.few in omega arith;
    }

-- ## One cut

-- where there is a part, one with a byte more before it makes a line
onto_lines : (x : ℕ) (ps : List (List ℕ)) → 0 < length ps → 0 < length (lines_of_parts (onto_first x ps))
onto_lines x [] h = absurd (omega arith)
onto_lines x (p ∷ []) h = omega (arith, ap length (last_line (x ∷ p) (omega arith)))
onto_lines x (p ∷ q ∷ qs) h = omega arith

-- a text that is not empty has a line
some_lines : (text : List ℕ) → 0 < length text → 0 < length (lines text)
some_lines [] h = absurd (omega arith)
some_lines (x ∷ xs) h =
    elim (cases_Bool (is_feed x)) [
      | inl e ↦
          let same : lines (x ∷ xs) ≡ strip_carriage_return [] ∷ lines xs =
          ap lines_of_parts (slice_split-cons_yes is_feed x xs e) ∙ front_part [] (slice_split is_feed xs) (some_parts xs) in
          let long : length (lines (x ∷ xs)) ≡ length (strip_carriage_return [] ∷ lines xs) = ap length same in
          omega arith
      | inr e ↦
          let long : length (lines (x ∷ xs)) ≡ length (lines_of_parts (onto_first x (slice_split is_feed xs))) =
          ap (λ ps. length (lines_of_parts ps)) (slice_split-cons_no is_feed x xs e) in
          let some : 0 < length (lines_of_parts (onto_first x (slice_split is_feed xs))) =
          onto_lines x (slice_split is_feed xs) (some_parts xs) in
          omega arith
    ]

-- where no line begins a record, the first one does not, whatever follows
first_stays : (ls more : List (List ℕ)) → 0 < length ls → list_any begins_record ls ≡ false → first_begins_record (ls ++ more) ≡ false
first_stays [] more h none = absurd (omega arith)
first_stays (l ∷ ls) more h none = (or_parts _ _ none).0

-- a place between two lines is one in what is left of the text from an earlier place
between_rest : (text : List ℕ) (m d : ℕ) → 0 < d → m ≤ length text → IsBetween text (m + d) → IsBetween (drop m text) d
between_rest text m d some h (inl none) = absurd (omega arith)
between_rest text m d some h (inr (inl all)) = inr (inl (omega (arith, drop_length text m h)))
between_rest text m (suc d) some h (inr (inr (k, same, feed))) =
    let place : k ≡ m + d = omega arith in
    inr (inr (d, omega arith, drop_get text m d ∙ subst (λ j. slice_get text j ≡ Some 10) place feed))
between_rest text m zero some h (inr (inr (k, same, feed))) = absurd (omega arith)

-- a text has no two places to be cut at
cut_apart : (text : List ℕ) (m d : ℕ) → IsCutAt text m → IsCutAt text (m + d) → 0 < d → ⊥
cut_apart text m d c e some =
    let wide : m + d ≤ length text = e.within in
    let rest : List ℕ = drop m text in
    let long : m + length rest ≡ length text = drop_length text m (omega arith) in
    let both : lines (take (m + d) text) ≡ lines (take m text) ++ lines (take d rest) =
    ap lines (take_sum text m d) ∙ lines_both (take m text) (take d rest) (ends_before text m (omega arith) c.between) in
    let none : list_any begins_record (lines (take d rest)) ≡ false =
    (or_parts (list_any begins_record (lines (take m text))) _
    (sym (list_any-append begins_record (lines (take m text)) (lines (take d rest)))
    ∙ sym (ap (list_any begins_record) both) ∙ e.before)).1 in
    let whole : lines rest ≡ lines (take d rest)
    ++ lines (drop d rest) = lines_cut rest d (between_rest text m d some (omega arith) e.between) in
    let there : 0 < length (lines (take d rest)) = some_lines (take d rest) (omega (arith, length-take d rest)) in
    let not : first_begins_record (lines rest) ≡ false = ap first_begins_record whole
    ∙ first_stays (lines (take d rest)) (lines (drop d rest)) there none in
    elim c.after [
      | inl all ↦ omega arith
      | inr begins ↦ true≢false (sym begins ∙ not)
    ]

-- a text is cut at one place
pub one_cut : (text : List ℕ) (m n : ℕ) → IsCutAt text m → IsCutAt text n → m ≡ n
one_cut text m n c e =
    elim (cases_lt m n) [
      | inl less ↦ let sum : n ≡ m + (n - m) = omega arith in absurd (cut_apart text m (n - m) c (subst (IsCutAt text) sum e) (omega arith))
      | inr at_least ↦
          elim (cases_lt n m) [
            | inl less ↦ let sum : m ≡ n + (m - n) = omega arith
                in absurd (cut_apart text n (m - n) e (subst (IsCutAt text) sum c) (omega arith))
            | inr same ↦ omega arith
          ]
    ]

-- one line more, where what follows the place is known by another name
pub cut_on :
    (text rest : List ℕ) (at count n : ℕ) → rest ≡ drop at text → IsCutSoFar text at count → at < length text →
    first_begins_record (lines rest) ≡ false → IsLineEnd rest n → IsCutSoFar text (at + n) (count + 1)
cut_on text rest at count n same c h not end =
    cut_later text at count n c h (sym (ap (λ r. first_begins_record (lines r)) same) ∙ not) (subst (λ r. IsLineEnd r n) same end)
