-- The first line and the first word of a text.
use Rattle.std.proofs.Common.{◌≡◌, ◌+◌, ◌<◌, ◌≤◌, ℕ, List, [], ◌∷◌, Bool, true, false, true≢false, ◌||◌, not, suc, inl, inr, filter, Some, None, unwrap_or, nat_lt, nat_le, ◌==◌, ◌&&◌, eqb, add-one, length, length-take, drop, take, refl, ap, sym, ◌∙◌, arith}
use Rattle.std.specs.List.{slice_split, onto_first, position, position_or_len, before_first, after_first, list_any}
use Rattle.std.specs.Str.Lines.{lines, lines_of_parts, strip_carriage_return}
use Rattle.std.proofs.lemmas.Bool.{cases_lt, cases_Bool, lt-ltb, le-ltb, ltb-true, ne_eqb, cond-false}
use Rattle.std.proofs.lemmas.List.Sums.{prefix_len-le-length}
use Rattle.std.proofs.lemmas.Option.{cond_some}
use Rattle.std.proofs.lemmas.List.{take_all, drop_all}
use Rattle.std.proofs.lemmas.List.Splits.{slice_split-cons_yes, slice_split-cons_no, slice_split_first, length-slice_split}
use Rattle.gl_text.specs.Text.{is_line_feed, is_blank, is_some_word, parts, is_unprintable, is_bad_byte, is_bad}

-- what `position(p).unwrap_or(len)` gives
pub place_or_len : {X : Type 0} (p : X → Bool) (bs : List X) → unwrap_or (position p bs) (length bs) ≡ position_or_len p bs
place_or_len p bs =
    let le : position_or_len p bs ≤ length bs = prefix_len-le-length (λ x. not (p x)) bs in
    elim (cases_lt (position_or_len p bs) (length bs)) [
      | inl h ↦ rw (lt-ltb (position_or_len p bs) (length bs) h) refl
      | inr h ↦ rw (le-ltb (position_or_len p bs) (length bs) h) (omega arith)
    ]

-- the place of the first byte that passes is within the text
pub place_some : (p : ℕ → Bool) (bs : List ℕ) (n : ℕ) → position p bs ≡ Some n → (position_or_len p bs ≡ n) × (n < length bs)
place_some p bs n e =
    let (test, same) = cond_some (nat_lt (position_or_len p bs) (length bs)) (position_or_len p bs) n e in
    let below : position_or_len p bs < length bs = ltb-true (position_or_len p bs) (length bs) test in
    (same, omega arith)

-- where no byte passes, the place that is told is not below the length
pub place_none : (p : ℕ → Bool) (bs : List ℕ) → position p bs ≡ None → length bs ≤ position_or_len p bs
place_none p bs e =
    elim (cases_lt (position_or_len p bs) (length bs)) [
      | inl h ↦
          let found : position p bs ≡ Some (position_or_len p bs) = rw (lt-ltb (position_or_len p bs) (length bs) h) refl in
          cc
      | inr h ↦ h
    ]

-- where something follows the first part of a text, that part is a line, and the others make the other lines
front_part : (x : List ℕ) (ps : List (List ℕ)) → 0 < length ps → lines_of_parts (x ∷ ps) ≡ strip_carriage_return x ∷ lines_of_parts ps
front_part x [] h = absurd (omega arith)
front_part x (y ∷ ys) h = refl

-- the lines of a text with a line feed are what is before it and the lines of what is after it
pub lines_first : (bs : List ℕ) → position_or_len is_line_feed bs < length bs
    → lines bs ≡ strip_carriage_return (before_first is_line_feed bs) ∷ lines (after_first is_line_feed bs)
lines_first bs h =
    ap lines_of_parts (slice_split_first is_line_feed bs 0 h)
    ∙ front_part (before_first is_line_feed bs) (slice_split is_line_feed (after_first is_line_feed bs))
    (omega (arith, length-slice_split is_line_feed (after_first is_line_feed bs)))

-- where nothing passes there is one part
pub split_none : (p : ℕ → Bool) (bs : List ℕ) → length bs ≤ position_or_len p bs → slice_split p bs ≡ bs ∷ []
split_none p [] h = refl
split_none p (x ∷ xs) h =
    elim (cases_Bool (p x)) [
      | inl e ↦ let none : position_or_len p (x ∷ xs) ≡ 0 = rw e refl in absurd (omega arith)
      | inr e ↦
          let more : position_or_len p (x ∷ xs) ≡ 1 + position_or_len p xs = rw e refl in
          slice_split-cons_no p x xs e ∙ ap (onto_first x) (split_none p xs (omega arith))
    ]

-- a last part that is not empty is a line
last_part : (x : List ℕ) → 0 < length x → lines_of_parts (x ∷ []) ≡ x ∷ []
last_part x h = cond-false (eqb (length x) 0) [] (x ∷ []) (ne_eqb (length x) 0 (λ e. omega arith))

-- a text without a line feed that is not empty is its own one line
pub lines_last : (bs : List ℕ) → 0 < length bs → length bs ≤ position_or_len is_line_feed bs → lines bs ≡ bs ∷ []
lines_last bs some h = ap lines_of_parts (split_none is_line_feed bs h) ∙ last_part bs some

-- a blank before bytes changes nothing of their words
parts_blank : (b : ℕ) (bs : List ℕ) → is_blank b ≡ true → parts (b ∷ bs) ≡ parts bs
parts_blank b bs e = ap (filter is_some_word) (slice_split-cons_yes is_blank b bs e)

-- blanks at the front are no part
pub parts_skip : (bs : List ℕ) → parts (drop (position_or_len (λ b. not (is_blank b)) bs) bs) ≡ parts bs
parts_skip [] = refl
parts_skip (x ∷ xs) =
    elim (cases_Bool (is_blank x)) [
      | inl e ↦
          let more : position_or_len (λ y. not (is_blank y)) (x ∷ xs)
          ≡ suc (position_or_len (λ y. not (is_blank y)) xs) = rw e (omega arith) in
          rw more (parts_skip xs ∙ sym (parts_blank x xs e))
      | inr e ↦
          let none : position_or_len (λ y. not (is_blank y)) (x ∷ xs) ≡ 0 = rw e refl in
          rw none refl
    ]

-- a part ends at a blank
parts_rest : (bs : List ℕ) → position_or_len is_blank bs < length bs → parts (drop (position_or_len is_blank bs) bs)
    ≡ parts (after_first is_blank bs)
parts_rest [] h = absurd (omega arith)
parts_rest (x ∷ xs) h =
    elim (cases_Bool (is_blank x)) [
      | inl e ↦
          let none : position_or_len is_blank (x ∷ xs) ≡ 0 = rw e refl in
          rw none (parts_blank x xs e)
      | inr e ↦
          let more : position_or_len is_blank (x ∷ xs) ≡ suc (position_or_len is_blank xs) = rw e (omega arith) in
          let k : ℕ = position_or_len is_blank xs in
          let next : after_first is_blank (x ∷ xs) ≡ after_first is_blank xs =
          ap (λ n. drop n (x ∷ xs)) (ap (λ n. n + 1) more ∙ add-one (suc k)) ∙ ap (λ n. drop n xs) (sym (add-one k)) in
          rw more (parts_rest xs (omega arith)) ∙ ap parts (sym next)
    ]

-- what follows the blanks is no blank
pub starts_word : (bs : List ℕ) → position_or_len (λ b. not (is_blank b)) bs < length bs
    → 0 < position_or_len is_blank (drop (position_or_len (λ b. not (is_blank b)) bs) bs)
starts_word [] h = absurd (omega arith)
starts_word (x ∷ xs) h =
    elim (cases_Bool (is_blank x)) [
      | inl e ↦
          let more : position_or_len (λ y. not (is_blank y)) (x ∷ xs)
          ≡ suc (position_or_len (λ y. not (is_blank y)) xs) = rw e (omega arith) in
          rw more (starts_word xs (omega arith))
      | inr e ↦
          let none : position_or_len (λ y. not (is_blank y)) (x ∷ xs) ≡ 0 = rw e refl in
          rw none (rw e (omega arith))
    ]

-- a part that is not empty stays when the empty ones are dropped
front_word : (w : List ℕ) (ws : List (List ℕ)) → 0 < length w → filter is_some_word (w ∷ ws) ≡ w ∷ filter is_some_word ws
front_word [] ws h = absurd (omega arith)
front_word (x ∷ xs) ws h = refl

-- a text that begins with a word
pub parts_first : (bs : List ℕ) → 0 < position_or_len is_blank bs → 0 < length bs
    → parts bs ≡ before_first is_blank bs ∷ parts (drop (position_or_len is_blank bs) bs)
parts_first bs some there =
    elim (cases_lt (position_or_len is_blank bs) (length bs)) [
      | inl h ↦
          ap (filter is_some_word) (slice_split_first is_blank bs 0 h)
          ∙ front_word (before_first is_blank bs) (slice_split is_blank (after_first is_blank bs))
          (omega (arith, length-take (position_or_len is_blank bs) bs))
          ∙ ap (λ l. before_first is_blank bs ∷ l) (sym (parts_rest bs h))
      | inr h ↦
          ap (filter is_some_word) (split_none is_blank bs h)
          ∙ front_word bs [] there
          ∙ rw (take_all (position_or_len is_blank bs) bs h, drop_all (position_or_len is_blank bs) bs h) refl
    ]

-- what `first_line` answers
pub first_line_at : (bs line rest : List ℕ) (n : ℕ) → position is_line_feed bs ≡ Some n → line ≡ strip_carriage_return (take n bs) → rest
    ≡ drop (n + 1) bs
    → lines bs ≡ line ∷ lines rest
first_line_at bs line rest n found front back =
    let (at, within) = place_some is_line_feed bs n found in
    let first = lines_first bs (omega arith) in
    let same_line : strip_carriage_return (before_first is_line_feed bs) ≡ line = ap (λ k. strip_carriage_return (take k bs)) at
    ∙ sym front in
    let same_rest : after_first is_line_feed bs ≡ rest = ap (λ k. drop (k + 1) bs) at ∙ sym back in
    first ∙ ap (λ l. l ∷ lines (after_first is_line_feed bs)) same_line ∙ ap (λ l. line ∷ lines l) same_rest

-- what `first_word` is given
pub word_begins : (bs text : List ℕ) (n : ℕ) → position (λ b. not (is_blank b)) bs ≡ Some n → text ≡ drop n bs
    → (0 < position_or_len is_blank text) × (parts text ≡ parts bs)
word_begins bs text n found e =
    let (at, within) = place_some (λ b. not (is_blank b)) bs n found in
    let same : drop (position_or_len (λ b. not (is_blank b)) bs) bs ≡ text = ap (λ k. drop k bs) at ∙ sym e in
    (rw same at (starts_word bs (omega arith)), rw same at (parts_skip bs))

-- a text of blanks
pub no_word : (bs : List ℕ) → position (λ b. not (is_blank b)) bs ≡ None → parts bs ≡ []
no_word bs none =
    sym (parts_skip bs) ∙ ap parts (drop_all (position_or_len (λ b. not (is_blank b)) bs) bs (place_none (λ b. not (is_blank b)) bs none))

-- where the second of two tests passes, it is not so that neither does
either_good : (a b : Bool) → not b ≡ false → not (a || b) ≡ false
either_good true b e = refl
either_good false b e = e

-- where what fails a first test fails a second one, a list in which nothing passes the first has nothing that passes the second
pub fewer_pass : (p q : ℕ → Bool) → ((x : ℕ) → p x ≡ false → q x ≡ false) → (xs : List ℕ) → list_any p xs ≡ false → list_any q xs ≡ false
fewer_pass p q h [] e = refl
fewer_pass p q h (x ∷ xs) e =
    elim (cases_Bool (p x)) [
      | inl bad ↦ let some : list_any p (x ∷ xs) ≡ true = rw bad refl in absurd (true≢false (sym some ∙ e))
      | inr good ↦
          let left : list_any p (x ∷ xs) ≡ list_any p xs = rw good refl in
          let same : list_any q (x ∷ xs) ≡ list_any q xs = rw (h x good) refl in
          same ∙ fewer_pass p q h xs (sym left ∙ e)
    ]

-- a line of printable bytes alone has no bad one
pub printable_good : (bs : List ℕ) → list_any is_unprintable bs ≡ false → is_bad bs ≡ false
printable_good bs e = fewer_pass is_unprintable is_bad_byte (λ x f. either_good (x == 9) (nat_le 32 x && nat_le x 126) f) bs e
