-- Where the words of a line stand.
use Rattle.std.proofs.Common.{◌≡◌, ◌+◌, ◌-◌, ◌<◌, ◌≤◌, ℕ, List, [], ◌∷◌, ◌++◌, Option, MatchOption, is_some, true≢false, add-one, length-drop, not, zero, suc, inl, inr, filter, map, Some, None, slice_get, slice_range, add-zero, length, length-append, drop, take, refl, ap, sym, subst, ◌∙◌, arith}
use Rattle.std.specs.Option.{option_map}
use Rattle.std.specs.List.{slice_split, onto_first, position, position_or_len, before_first, after_first}
use Rattle.std.proofs.lemmas.Bool.{cases_lt, cases_Bool}
use Rattle.std.proofs.lemmas.List.{drop_all, take_at, drop-drop, length-take-le, take-append-drop, append_assoc}
use Rattle.std.proofs.lemmas.List.Sums.{prefix_len-le-length}
use Rattle.std.proofs.lemmas.List.Splits.{slice_split-cons_yes, slice_split-cons_no, slice_split_first}
use Rattle.gl_text.specs.Text.{is_blank, is_hash, is_some_word}
use Rattle.gl_text.specs.Spans.{spans_from, AreSlices, IsPart, Rise}
use Rattle.gl_text.proofs.TextLemmas.{place_some, place_none, split_none, word_begins}

-- blanks at the front move the spans up
pub spans_skip : (at : ℕ) (bs : List ℕ) → spans_from at (slice_split is_blank bs)
    ≡ spans_from (at + position_or_len (λ b. not (is_blank b)) bs)
    (slice_split is_blank (drop (position_or_len (λ b. not (is_blank b)) bs) bs))
spans_skip at [] = refl
spans_skip at (x ∷ xs) =
    elim (cases_Bool (is_blank x)) [
      | inl e ↦
          let more : position_or_len (λ y. not (is_blank y)) (x ∷ xs)
          ≡ suc (position_or_len (λ y. not (is_blank y)) xs) = rw e (omega arith) in
          let k : ℕ = position_or_len (λ y. not (is_blank y)) xs in
          let up : at + 1 + k ≡ at + suc k = omega arith in
          rw more
          (ap (spans_from at) (slice_split-cons_yes is_blank x xs e)
          ∙ spans_skip (at + 1) xs
          ∙ ap (λ n. spans_from n (slice_split is_blank (drop k xs))) up)
      | inr e ↦
          let none : position_or_len (λ y. not (is_blank y)) (x ∷ xs) ≡ 0 = rw e refl in
          rw none (ap (λ n. spans_from n (slice_split is_blank (x ∷ xs))) (sym (add-zero at)))
    ]

-- one blank behind a word
pub spans_rest : (at : ℕ) (bs : List ℕ) → position_or_len is_blank bs < length bs
    → spans_from at (slice_split is_blank (drop (position_or_len is_blank bs) bs))
    ≡ spans_from (at + 1) (slice_split is_blank (after_first is_blank bs))
spans_rest at [] h = absurd (omega arith)
spans_rest at (x ∷ xs) h =
    elim (cases_Bool (is_blank x)) [
      | inl e ↦
          let none : position_or_len is_blank (x ∷ xs) ≡ 0 = rw e refl in
          rw none (ap (spans_from at) (slice_split-cons_yes is_blank x xs e))
      | inr e ↦
          let more : position_or_len is_blank (x ∷ xs) ≡ suc (position_or_len is_blank xs) = rw e (omega arith) in
          let k : ℕ = position_or_len is_blank xs in
          let next : after_first is_blank (x ∷ xs) ≡ after_first is_blank xs =
          ap (λ n. drop n (x ∷ xs)) (ap (λ n. n + 1) more ∙ add-one (suc k)) ∙ ap (λ n. drop n xs) (sym (add-one k)) in
          rw more (spans_rest at xs (omega arith)) ∙ ap (λ l. spans_from (at + 1) (slice_split is_blank l)) (sym next)
    ]

-- a part that is a word has the first span, and those of the parts after it follow
front_span : (at : ℕ) (w : List ℕ) (ws : List (List ℕ)) → 0 < length w → spans_from at (w ∷ ws) ≡ (at, at + length w)
    ∷ spans_from (at + length w + 1) ws
front_span at [] ws h = absurd (omega arith)
front_span at (x ∷ xs) ws h = refl

-- a text that begins with a word
pub spans_first : (at : ℕ) (bs : List ℕ) → 0 < position_or_len is_blank bs → 0 < length bs
    → spans_from at (slice_split is_blank bs)
    ≡ (at, at + position_or_len is_blank bs) ∷ spans_from (at + position_or_len is_blank bs)
    (slice_split is_blank (drop (position_or_len is_blank bs) bs))
spans_first at bs some there =
    let n : ℕ = position_or_len is_blank bs in
    let le : n ≤ length bs = prefix_len-le-length (λ b. not (is_blank b)) bs in
    elim (cases_lt (position_or_len is_blank bs) (length bs)) [
      | inl h ↦
          let count : length (before_first is_blank bs) ≡ n = length-take-le n bs le in
          ap (spans_from at) (slice_split_first is_blank bs 0 h)
          ∙ front_span at (before_first is_blank bs) (slice_split is_blank (after_first is_blank bs)) (omega arith)
          ∙ ap (λ k. (at, at + k) ∷ spans_from (at + k + 1) (slice_split is_blank (after_first is_blank bs))) count
          ∙ ap (λ l. (at, at + n) ∷ l) (sym (spans_rest (at + n) bs h))
      | inr h ↦
          let whole : length bs ≡ n = omega arith in
          ap (spans_from at) (split_none is_blank bs h)
          ∙ front_span at bs [] there
          ∙ ap (λ k. (at, at + k) ∷ []) whole
          ∙ ap (λ l. (at, at + n) ∷ spans_from (at + n) (slice_split is_blank l)) (sym (drop_all n bs h))
    ]

-- each part stands in the line where its count says, one byte behind the one before it
abbrev pub Stands : List ℕ → ℕ → List (List ℕ) → Type 0
Stands line at [] = Unit {0}
Stands line at (p ∷ ps) = ((more : List ℕ) × (drop at line ≡ p ++ more)) × Stands line (at + length p + 1) ps

-- parts that stand in a line stand there with the byte before them put to the first
stands_onto : (line : List ℕ) (at x : ℕ) (rest : List ℕ) (ps : List (List ℕ)) → drop at line ≡ x ∷ rest → drop (at + 1) line ≡ rest
    → Stands line (at + 1) ps → Stands line at (onto_first x ps)
stands_onto line at x rest [] e d h = ((rest, e), tt)
stands_onto line at x rest (p ∷ ps) e d h =
    let same : rest ≡ p ++ h.0.0 = sym d ∙ h.0.1 in
    let further : at + 1 + length p + 1 ≡ at + length (x ∷ p) + 1 = omega arith in
    ((h.0.0, e ∙ ap (λ l. x ∷ l) same), subst (λ n. Stands line n ps) further h.1)

-- the parts of a piece of a line
pub stands_split : (line : List ℕ) (at : ℕ) (bs more : List ℕ) → drop at line ≡ bs ++ more → Stands line at (slice_split is_blank bs)
stands_split line at [] more e = ((more, e), tt)
stands_split line at (x ∷ xs) more e =
    let next : drop (at + 1) line ≡ xs ++ more = sym (drop-drop 1 at line) ∙ ap (drop 1) e in
    let rest = stands_split line (at + 1) xs more next in
    elim (cases_Bool (is_blank x)) [
      | inl b ↦
          subst (Stands line at) (sym (slice_split-cons_yes is_blank x xs b))
          ((x ∷ (xs ++ more), e), subst (λ n. Stands line n (slice_split is_blank xs)) (omega arith) rest)
      | inr b ↦
          subst (Stands line at) (sym (slice_split-cons_no is_blank x xs b))
          (stands_onto line at x (xs ++ more) (slice_split is_blank xs) e next rest)
    ]

-- the parts of a line that stands in a text from this place on
stands_line : (whole : List ℕ) (start : ℕ) (line : List ℕ) → IsPart whole start line
    → Stands whole start (slice_split is_blank (before_first is_hash line))
stands_line whole start line part =
    let rest : List ℕ = drop start whole in
    let count : length line ≡ start + length line - start = omega arith in
    let front : take (length line) rest ≡ line = ap (λ n. take n rest) count ∙ part in
    let size : ℕ = position_or_len is_hash line in
    let split : line ≡ before_first is_hash line ++ drop size line = sym (take-append-drop size line) in
    let stands : rest ≡ before_first is_hash line ++ (drop size line ++ drop (length line) rest) =
    sym (take-append-drop (length line) rest) ∙ ap (λ l. l ++ drop (length line) rest) (front ∙ split)
    ∙ append_assoc (before_first is_hash line) (drop size line) (drop (length line) rest) in
    stands_split whole start (before_first is_hash line) (drop size line ++ drop (length line) rest) stands

-- what stands in a line at a place is the slice from that place over its length
slice_of : (line : List ℕ) (at : ℕ) (p more : List ℕ) → drop at line ≡ p ++ more → slice_range line at (at + length p) ≡ p
slice_of line at p more e =
    let count : at + length p - at ≡ length p = omega arith in
    ap (λ n. take n (drop at line)) count ∙ ap (take (length p)) e ∙ take_at p more (length p) refl

-- the words among the parts that stand in a line are the slices at their spans
slices : (line : List ℕ) (at : ℕ) (ps : List (List ℕ)) → Stands line at ps → filter is_some_word ps
    ≡ map (λ s. slice_range line s.0 s.1) (spans_from at ps)
slices line at [] h = refl
slices line at ([] ∷ ps) h = let next : at + 0 + 1 ≡ at + 1 = omega arith
    in slices line (at + 1) ps (subst (λ n. Stands line n ps) next h.1)
slices line at ((b ∷ bs) ∷ ps) h =
    ap (λ l. (b ∷ bs) ∷ l) (slices line (at + length (b ∷ bs) + 1) ps h.1)
    ∙ ap (λ w. w ∷ map (λ s. slice_range line s.0 s.1) (spans_from (at + length (b ∷ bs) + 1) ps))
    (sym (slice_of line at (b ∷ bs) h.0.0 h.0.1))

-- the words of a line that is part of a text are the slices of the text at their spans
pub are_slices : (whole : List ℕ) (start : ℕ) (line : List ℕ) → IsPart whole start line → AreSlices whole start line
are_slices whole start line part = slices whole start (slice_split is_blank (before_first is_hash line)) (stands_line whole start line part)

-- no span begins before the place from which they are counted
begins : (at : ℕ) (ps : List (List ℕ)) (i : ℕ) (s : ℕ × ℕ) → slice_get (spans_from at ps) i ≡ Some s → at ≤ s.0
begins at [] i s e = absurd (true≢false (sym (ap is_some e)))
begins at ([] ∷ ps) i s e = let next = begins (at + 1) ps i s e in omega arith
begins at ((b ∷ bs) ∷ ps) zero s e = let same : (at, at + length (b ∷ bs)) ≡ s = cc in let first : at ≡ s.0 = ap (λ x. x.0) same
    in omega arith
begins at ((b ∷ bs) ∷ ps) (suc i) s e = let next = begins (at + length (b ∷ bs) + 1) ps i s e in omega arith

-- each span of parts that stand in a line has a byte, and is within the line
within : (line : List ℕ) (at : ℕ) (ps : List (List ℕ)) → Stands line at ps → (i : ℕ) (s : ℕ × ℕ) → slice_get (spans_from at ps) i ≡ Some s
    → (s.0 < s.1) × (s.1 ≤ length line)
within line at [] h i s e = absurd (true≢false (sym (ap is_some e)))
within line at ([] ∷ ps) h i s e = let next : at + 0 + 1 ≡ at + 1 = omega arith
    in within line (at + 1) ps (subst (λ n. Stands line n ps) next h.1) i s e
within line at ((b ∷ bs) ∷ ps) h zero s e =
    let same : (at, at + length (b ∷ bs)) ≡ s = cc in
    let first : at ≡ s.0 = ap (λ x. x.0) same in
    let last : at + length (b ∷ bs) ≡ s.1 = ap (λ x. x.1) same in
    let fits : length (drop at line) ≡ length (b ∷ bs) + length h.0.0 = ap length h.0.1 ∙ length-append (b ∷ bs) h.0.0 in
    (omega arith, omega (arith, length-drop at line))
within line at ((b ∷ bs) ∷ ps) h (suc i) s e = within line (at + length (b ∷ bs) + 1) ps h.1 i s e

-- between a span and each later one there is a byte
apart : (at : ℕ) (ps : List (List ℕ)) (i j : ℕ) (s r : ℕ × ℕ) → slice_get (spans_from at ps) i ≡ Some s → slice_get (spans_from at ps) j
    ≡ Some r
    → i < j → s.1 < r.0
apart at [] i j s r e f h = absurd (true≢false (sym (ap is_some e)))
apart at ([] ∷ ps) i j s r e f h = apart (at + 1) ps i j s r e f h
apart at ((b ∷ bs) ∷ ps) i zero s r e f h = absurd (omega arith)
apart at ((b ∷ bs) ∷ ps) zero (suc j) s r e f h =
    let same : (at, at + length (b ∷ bs)) ≡ s = cc in
    let last : at + length (b ∷ bs) ≡ s.1 = ap (λ x. x.1) same in
    let next = begins (at + length (b ∷ bs) + 1) ps j r f in
    omega arith
apart at ((b ∷ bs) ∷ ps) (suc i) (suc j) s r e f h = apart (at + length (b ∷ bs) + 1) ps i j s r e f (omega arith)

-- the spans of a line's words rise within the text of which it is a part
pub rise : (whole : List ℕ) (start : ℕ) (line : List ℕ) → IsPart whole start line → Rise whole start line
rise whole start line part = record {
  within = λ i s e. within whole start (slice_split is_blank (before_first is_hash line)) (stands_line whole start line part) i s e;
  apart = λ i j s r e f h. apart start (slice_split is_blank (before_first is_hash line)) i j s r e f h;
}

-- what `first_span` answers
pub no_span : (at : ℕ) (bs : List ℕ) → position (λ b. not (is_blank b)) bs ≡ None → spans_from at (slice_split is_blank bs) ≡ []
no_span at bs none =
    spans_skip at bs
    ∙ ap (λ l. spans_from (at + position_or_len (λ b. not (is_blank b)) bs) (slice_split is_blank l))
    (drop_all (position_or_len (λ b. not (is_blank b)) bs) bs (place_none (λ b. not (is_blank b)) bs none))

-- where a word of some length starts after blanks, its span is the first, and those of what follows it come next
pub one_span : (at : ℕ) (bs word : List ℕ) (start size : ℕ) → position (λ b. not (is_blank b)) bs ≡ Some start → word ≡ drop start bs
    → size ≡ position_or_len is_blank word → 0 < position_or_len is_blank word → 0 < length word
    → spans_from at (slice_split is_blank bs) ≡ (at + start, at + start + size)
    ∷ spans_from (at + start + size) (slice_split is_blank (drop (start + size) bs))
one_span at bs word start size found w n some there =
    let (here, below) = place_some (λ b. not (is_blank b)) bs start found in
    let skipped : spans_from at (slice_split is_blank bs) ≡ spans_from (at + start) (slice_split is_blank (drop start bs)) =
    spans_skip at bs ∙ ap (λ k. spans_from (at + k) (slice_split is_blank (drop k bs))) here in
    let rest : drop size word ≡ drop (start + size) bs = ap (drop size) w ∙ drop-drop size start bs in
    skipped
    ∙ ap (λ l. spans_from (at + start) (slice_split is_blank l)) (sym w)
    ∙ spans_first (at + start) word some there
    ∙ ap (λ k. (at + start, at + start + k) ∷ spans_from (at + start + k) (slice_split is_blank (drop k word))) (sym n)
    ∙ ap (λ l. (at + start, at + start + size) ∷ spans_from (at + start + size) (slice_split is_blank l)) rest

-- what `nth` answers
pub matched : {A B : Type 0} (v : A → B) (r : Option A) (o : Option B) → option_map v r ≡ o → MatchOption r (o ≡ None) (λ x. o ≡ Some (v x))
matched v None o e = sym e
matched v (Some x) o e = sym e

-- an option that is handed on is the same
pub same_option : {A : Type 0} (r o : Option A) → option_map (λ x. x) r ≡ o → r ≡ o
same_option None o e = e
same_option (Some x) o e = e

-- a word that starts after blanks ends within the text
pub span_within : (bs word : List ℕ) (start size : ℕ) → position (λ b. not (is_blank b)) bs ≡ Some start → word ≡ drop start bs
    → size ≡ position_or_len is_blank word → start + size ≤ length bs
span_within bs word start size found w n =
    let (here, below) = place_some (λ b. not (is_blank b)) bs start found in
    let le : position_or_len is_blank word ≤ length word = prefix_len-le-length (λ b. not (is_blank b)) word in
    let left : length word ≡ length bs - start = ap length w ∙ length-drop start bs in
    omega arith

-- where bytes that are not all blank start with blanks, the first span is that of the first word, and then come the others
pub some_span : (at : ℕ) (bs word : List ℕ) (start size : ℕ) → position (λ b. not (is_blank b)) bs ≡ Some start → word ≡ drop start bs
    → size ≡ position_or_len is_blank word
    → spans_from at (slice_split is_blank bs) ≡ (at + start, at + start + size)
    ∷ spans_from (at + start + size) (slice_split is_blank (drop (start + size) bs))
some_span at bs word start size found w n =
    let (here, below) = place_some (λ b. not (is_blank b)) bs start found in
    let left : length word ≡ length bs - start = ap length w ∙ length-drop start bs in
    one_span at bs word start size found w n (word_begins bs word start found w).0 (omega arith)
