-- That the texts which clap keeps give what the uses give in turn.
use Rattle.std.proofs.Common.{◌≡◌, ◌∙◌, ◌||◌, ℕ, Bool, true, false, cond, refl, sym, ap, arith, List, [], ◌∷◌, ◌++◌, map, Option, Some, None, option_map, codes, true≢false}
use Rattle.std.specs.Prelude.{find, option_and_then, slice_get}
use Rattle.std.specs.List.{list_any}
use Rattle.std.specs.Str.{bytes_eq}
use Rattle.std.proofs.lemmas.Grind.{common_steps}
use Rattle.std.proofs.lemmas.List.{map-append}
use Rattle.clap.specs.Walk.{Row, Text, first_of, has_row, one_of}
use Rattle.clap.specs.declared.error.kind.ErrorKind.TheVariants.{ArgumentConflict}
use Rattle.gl_words.specs.App.{name_of}
use Rattle.gl_words.specs.Options.{give, give_journal, number_of}
use Rattle.gl_words.specs.Texts.{given_numbers, given_texts, number_in}
use Rattle.gl_words.specs.declared.options.Given.{Given}
use Rattle.gl_words.specs.declared.options.NumberOption.{NumberOption}
use Rattle.gl_words.specs.declared.options.NumberOption.TheVariants.{Workers, Steps, Segments, Cells, Size}
use Rattle.gl_words.proofs.Said.{give_use, gives, option_some}
use Rattle.gl_words.proofs.Uses.{Kind, Use, flag, id_of, number, row_of, rows_with, text_of, then_rows}

-- ## One number more, or one that is there

-- a number of workers besides other options gives what those give, and then that number
workers_more : (n : Option ℕ) (b c d e : Option (Option ℕ)) (j : Bool) → given_numbers (option_map (λ m. Some m) n) b c d e j
    ≡ option_and_then (λ g. option_and_then (λ m. give Workers m g) n) (given_numbers (Some None) b c d e j)
workers_more n b c d e j = grind (arith, common_steps)

-- a number of steps besides other options gives what those give, and then that number
steps_more : (n : Option ℕ) (a c d e : Option (Option ℕ)) (j : Bool) → given_numbers a (option_map (λ m. Some m) n) c d e j
    ≡ option_and_then (λ g. option_and_then (λ m. give Steps m g) n) (given_numbers a (Some None) c d e j)
steps_more n a c d e j = grind (arith, common_steps)

-- a number of segments besides other options gives what those give, and then that number
segments_more : (n : Option ℕ) (a b d e : Option (Option ℕ)) (j : Bool) → given_numbers a b (option_map (λ m. Some m) n) d e j
    ≡ option_and_then (λ g. option_and_then (λ m. give Segments m g) n) (given_numbers a b (Some None) d e j)
segments_more n a b d e j = grind (arith, common_steps)

-- a number of cells besides other options gives what those give, and then that number
cells_more : (n : Option ℕ) (a b c e : Option (Option ℕ)) (j : Bool) → given_numbers a b c (option_map (λ m. Some m) n) e j
    ≡ option_and_then (λ g. option_and_then (λ m. give Cells m g) n) (given_numbers a b c (Some None) e j)
cells_more n a b c e j = grind (arith, common_steps)

-- a size besides other options gives what those give, and then that size
size_more : (n : Option ℕ) (a b c d : Option (Option ℕ)) (j : Bool) → given_numbers a b c d (option_map (λ m. Some m) n) j
    ≡ option_and_then (λ g. option_and_then (λ m. give Size m g) n) (given_numbers a b c d (Some None) j)
size_more n a b c d j = grind (arith, common_steps)

-- the option without a number besides others gives what those give, and then itself
journal_more : (a b c d e : Option (Option ℕ)) → given_numbers a b c d e true ≡ option_and_then give_journal (given_numbers a b c d e false)
journal_more a b c d e = grind (arith, common_steps)

-- where a number of workers is given, another one gives nothing
workers_twice : (n m : Option ℕ) (b c d e : Option (Option ℕ)) (j : Bool)
    → option_and_then (λ g. option_and_then (λ k. give Workers k g) m) (given_numbers (option_map (λ k. Some k) n) b c d e j) ≡ None
workers_twice n m b c d e j = grind (arith, common_steps)

-- where a number of steps is given, another one gives nothing
steps_twice : (n m : Option ℕ) (a c d e : Option (Option ℕ)) (j : Bool)
    → option_and_then (λ g. option_and_then (λ k. give Steps k g) m) (given_numbers a (option_map (λ k. Some k) n) c d e j) ≡ None
steps_twice n m a c d e j = grind (arith, common_steps)

-- where a number of segments is given, another one gives nothing
segments_twice : (n m : Option ℕ) (a b d e : Option (Option ℕ)) (j : Bool)
    → option_and_then (λ g. option_and_then (λ k. give Segments k g) m) (given_numbers a b (option_map (λ k. Some k) n) d e j) ≡ None
segments_twice n m a b d e j = grind (arith, common_steps)

-- where a number of cells is given, another one gives nothing
cells_twice : (n m : Option ℕ) (a b c e : Option (Option ℕ)) (j : Bool)
    → option_and_then (λ g. option_and_then (λ k. give Cells k g) m) (given_numbers a b c (option_map (λ k. Some k) n) e j) ≡ None
cells_twice n m a b c e j = grind (arith, common_steps)

-- where a size is given, another one gives nothing
size_twice : (n m : Option ℕ) (a b c d : Option (Option ℕ)) (j : Bool)
    → option_and_then (λ g. option_and_then (λ k. give Size k g) m) (given_numbers a b c d (option_map (λ k. Some k) n) j) ≡ None
size_twice n m a b c d j = grind (arith, common_steps)

-- where the option without a number is given, it gives nothing a second time
journal_twice : (a b c d e : Option (Option ℕ)) → option_and_then give_journal (given_numbers a b c d e true) ≡ None
journal_twice a b c d e = grind (arith, common_steps)

-- ## One row more

-- a row at the end that passes is found where none before it passes
pub find_own : (p : Row → Bool) (rows : List Row) (r : Row) → list_any p rows ≡ false → p r ≡ true → find p (rows ++ r ∷ []) ≡ Some r
find_own p [] r none own = rw own refl
find_own p (x ∷ xs) r none own = go (p x) none (λ more. find_own p xs r more own)
  where
    go : (b : Bool) → (b || list_any p xs) ≡ false → (list_any p xs ≡ false → find p (xs ++ r ∷ []) ≡ Some r)
        → cond b (Some x) (find p (xs ++ r ∷ [])) ≡ Some r
    go true e more = absurd (true≢false e)
    go false e more = more e

-- a row at the end that does not pass changes nothing of what is found
pub find_other : (p : Row → Bool) (rows : List Row) (r : Row) → p r ≡ false → find p (rows ++ r ∷ []) ≡ find p rows
find_other p [] r other = rw other refl
find_other p (x ∷ xs) r other = ap (cond (p x) (Some x)) (find_other p xs r other)

-- where no row passes, none is found
pub find_none : (p : Row → Bool) (rows : List Row) → list_any p rows ≡ false → find p rows ≡ None
find_none p [] none = refl
find_none p (x ∷ xs) none = go (p x) none (find_none p xs)
  where
    go : (b : Bool) → (b || list_any p xs) ≡ false → (list_any p xs ≡ false → find p xs ≡ None) → cond b (Some x) (find p xs) ≡ None
    go true e more = absurd (true≢false e)
    go false e more = more e

-- a row at the end that has the name is a row of that name
row_own : (id : Text) (rows : List Row) (r : Row) → bytes_eq r.id id ≡ true → has_row id (rows ++ r ∷ []) ≡ true
row_own id [] r own = rw own refl
row_own id (x ∷ xs) r own = go (bytes_eq x.id id) (row_own id xs r own)
  where
    go : (b : Bool) → has_row id (xs ++ r ∷ []) ≡ true → (b || has_row id (xs ++ r ∷ [])) ≡ true
    go true e = refl
    go false e = e

-- a row at the end of another name changes nothing of whether there is a row of this one
row_other : (id : Text) (rows : List Row) (r : Row) → bytes_eq r.id id ≡ false → has_row id (rows ++ r ∷ []) ≡ has_row id rows
row_other id [] r other = rw other refl
row_other id (x ∷ xs) r other = ap (λ (b : Bool). bytes_eq x.id id || b) (row_other id xs r other)

-- what the text of an option is after a row of another one, after its own row, and where it has none
text_kept : (o : NumberOption) (k : Kind) (t : Text) (rows : List Row) → bytes_eq (id_of k) (name_of o) ≡ false
    → number_in o (first_of (name_of o) (rows ++ row_of k t ∷ [])) ≡ number_in o (first_of (name_of o) rows)
text_kept o k t rows other =
    ap (λ (r : Option Row). number_in o (option_and_then (λ x. slice_get x.values 0) r))
    (find_other (λ r. bytes_eq r.id (name_of o)) rows (row_of k t) other)

-- the text of an option's first row, put at the end, gives the number that it says
text_own : (o : NumberOption) (t : Text) (rows : List Row) → has_row (name_of o) rows ≡ false → bytes_eq (name_of o) (name_of o) ≡ true
    → number_in o (first_of (name_of o) (rows ++ row_of (number o) t ∷ [])) ≡ option_map (λ m. Some m) (number_of o t)
text_own o t rows none own =
    ap (λ (r : Option Row). number_in o (option_and_then (λ x. slice_get x.values 0) r))
    (find_own (λ r. bytes_eq r.id (name_of o)) rows (row_of (number o) t) none own)

-- an option without a row gives no number, and is not refused
no_text : (o : NumberOption) (rows : List Row) → has_row (name_of o) rows ≡ false → number_in o (first_of (name_of o) rows) ≡ Some None
no_text o rows none =
    ap (λ (r : Option Row). number_in o (option_and_then (λ x. slice_get x.values 0) r))
    (find_none (λ r. bytes_eq r.id (name_of o)) rows none)

-- what the rows give
abbrev pub reads : List Row → Option Given
reads rows = given_texts (λ o. first_of (name_of o) rows) (has_row (codes "journal") rows)

-- equal texts give the same
pub same_numbers : {a a' b b' c c' d d' e e' : Option (Option ℕ)} {j j' : Bool} → a ≡ a' → b ≡ b' → c ≡ c' → d ≡ d' → e ≡ e' → j ≡ j'
    → given_numbers a b c d e j ≡ given_numbers a' b' c' d' e' j'
same_numbers p q r s t u = λ i. given_numbers (p i) (q i) (r i) (s i) (t i) (u i)

-- the number in the rows for an option
abbrev here : NumberOption → List Row → Option (Option ℕ)
here o rows = number_in o (first_of (name_of o) rows)

-- whether the rows have one of the option without a number
abbrev asked : List Row → Bool
asked = has_row (codes "journal")

-- rows with one more, of an option that had none, give what they gave and then what that use gives
grown : (k : Kind) (t : Text) (rows : List Row) → has_row (id_of k) rows ≡ false
    → reads (rows ++ row_of k t ∷ []) ≡ option_and_then (λ g. give_use g (k, t)) (reads rows)
grown (number Workers) t rows none =
    same_numbers (text_own Workers t rows none refl) (text_kept Steps (number Workers) t rows refl)
    (text_kept Segments (number Workers) t rows refl) (text_kept Cells (number Workers) t rows refl)
    (text_kept Size (number Workers) t rows refl) (row_other (codes "journal") rows (row_of (number Workers) t) refl)
    ∙ workers_more (number_of Workers t) (here Steps rows) (here Segments rows) (here Cells rows) (here Size rows) (asked rows)
    ∙ ap (λ (x : Option (Option ℕ)). option_and_then (λ g. give_use g (number Workers, t))
    (given_numbers x (here Steps rows) (here Segments rows) (here Cells rows) (here Size rows) (asked rows)))
    (sym (no_text Workers rows none))
grown (number Steps) t rows none =
    same_numbers (text_kept Workers (number Steps) t rows refl) (text_own Steps t rows none refl)
    (text_kept Segments (number Steps) t rows refl) (text_kept Cells (number Steps) t rows refl)
    (text_kept Size (number Steps) t rows refl) (row_other (codes "journal") rows (row_of (number Steps) t) refl)
    ∙ steps_more (number_of Steps t) (here Workers rows) (here Segments rows) (here Cells rows) (here Size rows) (asked rows)
    ∙ ap (λ (x : Option (Option ℕ)). option_and_then (λ g. give_use g (number Steps, t))
    (given_numbers (here Workers rows) x (here Segments rows) (here Cells rows) (here Size rows) (asked rows)))
    (sym (no_text Steps rows none))
grown (number Segments) t rows none =
    same_numbers (text_kept Workers (number Segments) t rows refl) (text_kept Steps (number Segments) t rows refl)
    (text_own Segments t rows none refl) (text_kept Cells (number Segments) t rows refl)
    (text_kept Size (number Segments) t rows refl) (row_other (codes "journal") rows (row_of (number Segments) t) refl)
    ∙ segments_more (number_of Segments t) (here Workers rows) (here Steps rows) (here Cells rows) (here Size rows) (asked rows)
    ∙ ap (λ (x : Option (Option ℕ)). option_and_then (λ g. give_use g (number Segments, t))
    (given_numbers (here Workers rows) (here Steps rows) x (here Cells rows) (here Size rows) (asked rows)))
    (sym (no_text Segments rows none))
grown (number Cells) t rows none =
    same_numbers (text_kept Workers (number Cells) t rows refl) (text_kept Steps (number Cells) t rows refl)
    (text_kept Segments (number Cells) t rows refl) (text_own Cells t rows none refl) (text_kept Size (number Cells) t rows refl)
    (row_other (codes "journal") rows (row_of (number Cells) t) refl)
    ∙ cells_more (number_of Cells t) (here Workers rows) (here Steps rows) (here Segments rows) (here Size rows) (asked rows)
    ∙ ap (λ (x : Option (Option ℕ)). option_and_then (λ g. give_use g (number Cells, t))
    (given_numbers (here Workers rows) (here Steps rows) (here Segments rows) x (here Size rows) (asked rows)))
    (sym (no_text Cells rows none))
grown (number Size) t rows none =
    same_numbers (text_kept Workers (number Size) t rows refl) (text_kept Steps (number Size) t rows refl)
    (text_kept Segments (number Size) t rows refl) (text_kept Cells (number Size) t rows refl) (text_own Size t rows none refl)
    (row_other (codes "journal") rows (row_of (number Size) t) refl)
    ∙ size_more (number_of Size t) (here Workers rows) (here Steps rows) (here Segments rows) (here Cells rows) (asked rows)
    ∙ ap (λ (x : Option (Option ℕ)). option_and_then (λ g. give_use g (number Size, t))
    (given_numbers (here Workers rows) (here Steps rows) (here Segments rows) (here Cells rows) x (asked rows)))
    (sym (no_text Size rows none))
grown flag t rows none =
    same_numbers (text_kept Workers flag t rows refl) (text_kept Steps flag t rows refl) (text_kept Segments flag t rows refl)
    (text_kept Cells flag t rows refl) (text_kept Size flag t rows refl) (row_own (codes "journal") rows (row_of flag t) refl)
    ∙ journal_more (here Workers rows) (here Steps rows) (here Segments rows) (here Cells rows) (here Size rows)
    ∙ ap (λ (x : Bool). option_and_then give_journal
    (given_numbers (here Workers rows) (here Steps rows) (here Segments rows) (here Cells rows) (here Size rows) x)) (sym none)

-- ## The uses of the rows

-- the rows of uses
abbrev pub rows_for : List Use → List Row
rows_for = map (λ u. row_of u.0 u.1)

-- a row of an option has a text
text_there : (id : Text) (us : List Use) → has_row id (rows_for us) ≡ true → (t : Text) × (first_of id (rows_for us) ≡ Some t)
text_there id [] has = absurd (true≢false (sym has))
text_there id (u ∷ us) has = go (bytes_eq (id_of u.0) id) has (text_there id us)
  where
    go : (b : Bool) → (b || has_row id (rows_for us)) ≡ true
        → (has_row id (rows_for us) ≡ true → (t : Text) × (first_of id (rows_for us) ≡ Some t))
        → (t : Text) × (option_and_then (λ r. slice_get r.values 0)
        (cond b (Some (row_of u.0 u.1)) (find (λ r. bytes_eq r.id id) (rows_for us))) ≡ Some t)
    go true e more = (text_of u.0 u.1, refl)
    go false e more = more e

-- a second use gives nothing
twice : (k : Kind) (t : Text) (us : List Use) → has_row (id_of k) (rows_for us) ≡ true
    → option_and_then (λ g. give_use g (k, t)) (reads (rows_for us)) ≡ None
twice (number Workers) t us has =
    let one = text_there (codes "workers") us has in
    ap (λ (x : Option Text). option_and_then (λ g. give_use g (number Workers, t))
    (given_numbers (number_in Workers x) (here Steps (rows_for us)) (here Segments (rows_for us)) (here Cells (rows_for us))
    (here Size (rows_for us)) (asked (rows_for us)))) one.1
    ∙ workers_twice (number_of Workers one.0) (number_of Workers t) (here Steps (rows_for us)) (here Segments (rows_for us))
    (here Cells (rows_for us)) (here Size (rows_for us)) (asked (rows_for us))
twice (number Steps) t us has =
    let one = text_there (codes "steps") us has in
    ap (λ (x : Option Text). option_and_then (λ g. give_use g (number Steps, t))
    (given_numbers (here Workers (rows_for us)) (number_in Steps x) (here Segments (rows_for us)) (here Cells (rows_for us))
    (here Size (rows_for us)) (asked (rows_for us)))) one.1
    ∙ steps_twice (number_of Steps one.0) (number_of Steps t) (here Workers (rows_for us)) (here Segments (rows_for us))
    (here Cells (rows_for us)) (here Size (rows_for us)) (asked (rows_for us))
twice (number Segments) t us has =
    let one = text_there (codes "segments") us has in
    ap (λ (x : Option Text). option_and_then (λ g. give_use g (number Segments, t))
    (given_numbers (here Workers (rows_for us)) (here Steps (rows_for us)) (number_in Segments x) (here Cells (rows_for us))
    (here Size (rows_for us)) (asked (rows_for us)))) one.1
    ∙ segments_twice (number_of Segments one.0) (number_of Segments t) (here Workers (rows_for us)) (here Steps (rows_for us))
    (here Cells (rows_for us)) (here Size (rows_for us)) (asked (rows_for us))
twice (number Cells) t us has =
    let one = text_there (codes "cells") us has in
    ap (λ (x : Option Text). option_and_then (λ g. give_use g (number Cells, t))
    (given_numbers (here Workers (rows_for us)) (here Steps (rows_for us)) (here Segments (rows_for us)) (number_in Cells x)
    (here Size (rows_for us)) (asked (rows_for us)))) one.1
    ∙ cells_twice (number_of Cells one.0) (number_of Cells t) (here Workers (rows_for us)) (here Steps (rows_for us))
    (here Segments (rows_for us)) (here Size (rows_for us)) (asked (rows_for us))
twice (number Size) t us has =
    let one = text_there (codes "size") us has in
    ap (λ (x : Option Text). option_and_then (λ g. give_use g (number Size, t))
    (given_numbers (here Workers (rows_for us)) (here Steps (rows_for us)) (here Segments (rows_for us)) (here Cells (rows_for us))
    (number_in Size x) (asked (rows_for us)))) one.1
    ∙ size_twice (number_of Size one.0) (number_of Size t) (here Workers (rows_for us)) (here Steps (rows_for us))
    (here Segments (rows_for us)) (here Cells (rows_for us)) (asked (rows_for us))
twice flag t us has =
    ap (λ (x : Bool). option_and_then give_journal
    (given_numbers (here Workers (rows_for us)) (here Steps (rows_for us)) (here Segments (rows_for us)) (here Cells (rows_for us))
    (here Size (rows_for us)) x)) has
    ∙ journal_twice (here Workers (rows_for us)) (here Steps (rows_for us)) (here Segments (rows_for us)) (here Cells (rows_for us))
    (here Size (rows_for us))

-- one step and then another, after something, are both as one step after it
two_steps : (f h : Given → Option Given) (x : Option Given)
    → option_and_then h (option_and_then f x) ≡ option_and_then (λ g. option_and_then h (f g)) x
two_steps f h None = refl
two_steps f h (Some g) = refl

-- where the first of two steps gives nothing, both as one step give nothing
then_none : (f h : Given → Option Given) (x : Option Given) → option_and_then f x ≡ None
    → option_and_then (λ g. option_and_then h (f g)) x ≡ None
then_none f h x none = sym (two_steps f h x) ∙ ap (option_and_then h) none

-- what the rows of uses give is what the uses give in turn
pub taken : (us before : List Use) (rows : List Row) → rows ≡ rows_for before
    → option_and_then reads (rows_with rows us) ≡ option_and_then (λ g. gives g us) (reads rows)
taken [] before rows is = option_some (reads rows)
taken (u ∷ us) before rows is = go (has_row (id_of u.0) rows) refl
    (taken us (before ++ u ∷ []) (rows ++ row_of u.0 u.1 ∷ []) (ap (λ (rs : List Row). rs ++ row_of u.0 u.1 ∷ []) is
    ∙ sym (map-append (λ v. row_of v.0 v.1) before (u ∷ []))))
  where
    go : (b : Bool) → has_row (id_of u.0) rows ≡ b → option_and_then reads (rows_with (rows ++ row_of u.0 u.1 ∷ []) us)
        ≡ option_and_then (λ g. gives g us) (reads (rows ++ row_of u.0 u.1 ∷ []))
        → option_and_then reads (then_rows (cond b (ArgumentConflict ∷ []) []) (rows ++ row_of u.0 u.1 ∷ []) (λ more. rows_with more us))
        ≡ option_and_then (λ g. option_and_then (λ m. gives m us) (give_use g u)) (reads rows)
    go true e more =
        let has : has_row (id_of u.0) (rows_for before) ≡ true = ap (has_row (id_of u.0)) (sym is) ∙ e in
        let nothing : option_and_then (λ g. give_use g u) (reads rows)
        ≡ None = ap (λ (rs : List Row). option_and_then (λ g. give_use g u) (reads rs)) is
        ∙ twice u.0 u.1 before has in
        sym (then_none (λ g. give_use g u) (λ m. gives m us) (reads rows) nothing)
    go false e more = more ∙ ap (option_and_then (λ g. gives g us)) (grown u.0 u.1 rows e)
        ∙ two_steps (λ g. give_use g u) (λ m. gives m us) (reads rows)

-- and they are rows of uses
pub made : (us before : List Use) (rows end : List Row) → rows ≡ rows_for before → rows_with rows us ≡ Some end
    → (all : List Use) × (end ≡ rows_for all)
made [] before rows end is ends = (before, same_some (sym ends) ∙ is)
  where
    same_some : {x y : List Row} → Some x ≡ Some y → x ≡ y
    same_some e = cc
made (u ∷ us) before rows end is ends = go (has_row (id_of u.0) rows) ends
    (made us (before ++ u ∷ []) (rows ++ row_of u.0 u.1 ∷ []) end (ap (λ (rs : List Row). rs ++ row_of u.0 u.1 ∷ []) is
    ∙ sym (map-append (λ v. row_of v.0 v.1) before (u ∷ []))))
  where
    go : (b : Bool) → then_rows (cond b (ArgumentConflict ∷ []) []) (rows ++ row_of u.0 u.1 ∷ []) (λ more. rows_with more us) ≡ Some end
        → (rows_with (rows ++ row_of u.0 u.1 ∷ []) us ≡ Some end → (all : List Use) × (end ≡ rows_for all))
        → (all : List Use) × (end ≡ rows_for all)
    go true e more =
        let bad : None ≡ Some end = e in
        absurd (cc)
    go false e more = more e

-- the row of the option without a number says that it is there
pub journal_there : (us : List Use) → has_row (codes "journal") (rows_for us) ≡ true
    → one_of (codes "journal") (rows_for us) ≡ Some (codes "true")
journal_there [] has = absurd (true≢false (sym has))
journal_there ((number Workers, t) ∷ us) has = journal_there us has
journal_there ((number Steps, t) ∷ us) has = journal_there us has
journal_there ((number Segments, t) ∷ us) has = journal_there us has
journal_there ((number Cells, t) ∷ us) has = journal_there us has
journal_there ((number Size, t) ∷ us) has = journal_there us has
journal_there ((flag, t) ∷ us) has = refl
