-- The text of a record is read back: row by row, from the header to the end.
use Rattle.std.proofs.Common.{◌≡◌, ◌+◌, ◌-◌, ◌<◌, ◌≤◌, ◌==◌, ℕ, zero, suc, List, [], ◌∷◌, ◌++◌, true, false, Option, Some, None, Result, Ok, Err, nat_lt, codes, fold, length, map, take, slice_index_or, refl, ap, sym, subst, ◌∙◌, arith, append_assoc, append-nil}
use Rattle.std.specs.Prelude.{if◌then◌else◌}
use Rattle.std.specs.Fmt.{decimal}
use Rattle.std.specs.List.{AllByRecursion}
use Rattle.std.specs.Str.Lines.{lines}
use Rattle.std.proofs.lemmas.Bool.{eq-eqb, le-ltb, lt-ltb, ne_eqb}
use Rattle.gl_model.specs.Entries.{Entry}
use Rattle.gl_model.specs.Kept.{IsEntryKept, IsListKept}
use Rattle.gl_model.specs.Lists.{with_last}
use Rattle.gl_model.specs.Rising.{Rises}
use Rattle.gl_model.specs.declared.limits.TheConstants.{THREADS}
use Rattle.gl_text.specs.declared.kinds.TheConstants.{WORD_COUNT}
use Rattle.gl_journal.specs.declared.forms.Form.TheVariants as forms
use Rattle.gl_journal.specs.declared.limits.TheConstants.{LEAST_STEPS, MOST_STEPS}
use Rattle.gl_journal.specs.declared.reader.Standing.{Standing}
use Rattle.gl_journal.specs.EntryLines.{entry_in}
use Rattle.gl_journal.specs.Fields.{◌>>=◌, natural_in}
use Rattle.gl_journal.specs.Forms.{operands_of}
use Rattle.gl_journal.specs.Meaning.{AreClean, IsRecordText, body_read, fault_of, header_in, is_next, line_read, nothing, or_same, outcome, placed_read, said, with_entry, words_read}
use Rattle.gl_journal.specs.Rows.{Row, entry_row, entry_rows, header_row, list_rows, record_rows, record_text, thread_row}
use Rattle.gl_journal.specs.Written.{AllEntries, CanBeSaid, IsEntryStamped, IsEntryTyped, NamesFew}
use Rattle.gl_journal.proofs.BackEntries.{count_is, decimal_word, entry_are_words, entry_back, form_for, form_is, keyword, some_words}
use Rattle.gl_text.proofs.WordLines.{AreWords, IsWord, not_bad, plain_spaced, spaced, words_spaced}
use Rattle.gl_journal.proofs.WrittenLines.{lines_of_rows}
use Rattle.gl_journal.proofs.WrittenNumbers.{natural_back}

-- ## Rows, one after another

-- what was said after these rows, one after another, or the first fault
abbrev rows_read : Standing → List Row → Result Standing ℕ
rows_read s [] = Ok s
rows_read s (r ∷ rows) = words_read s r >>= (λ t. rows_read t rows)

-- what these lines have said, from some standing on; one with a fault says nothing
abbrev said_from : Standing → List (List ℕ) → Standing
said_from s ls = fold (λ u l. or_same u (line_read u l)) s ls

-- from s on, these lines have no fault, and lead to t
record AllRead (s : Standing) (ls : List (List ℕ)) (t : Standing) : Type 0 where
  clean : (i : ℕ) → i < length ls → fault_of (line_read (said_from s (take i ls)) (slice_index_or ls i [])) ≡ None
  says : said_from s ls ≡ t

-- the line of a row says what its words say
line_back : (s : Standing) (r : Row) → AreWords r → line_read s (spaced r) ≡ words_read s r
unfolding line_read
line_back s r are = rw (not_bad (spaced r) (plain_spaced r are)) (ap (words_read s) (words_spaced r are))

-- a first line without a fault, and lines after it without one, are lines without one
first_clean : (s u t : Standing) (line : List ℕ) (ls : List (List ℕ)) → line_read s line ≡ Ok u → AllRead u ls t → (i : ℕ)
    → i < length (line ∷ ls)
    → fault_of (line_read (said_from s (take i (line ∷ ls))) (slice_index_or (line ∷ ls) i [])) ≡ None
first_clean s u t line ls is rest zero below = ap fault_of is
first_clean s u t line ls is rest (suc i) below =
    ap (λ v. fault_of (line_read (said_from (or_same s v) (take i ls)) (slice_index_or ls i []))) is ∙ rest.clean i (omega arith)

-- a first row that is read, before lines that are, is so as a line
read_first : (s : Standing) (r : Row) (rows : List Row) (t : Standing) (x : Result Standing ℕ) → words_read s r ≡ x → AreWords r
    → ((u : Standing) → rows_read u rows ≡ Ok t → AllRead u (map spaced rows) t) → (x >>= (λ u. rows_read u rows)) ≡ Ok t
    → AllRead s (map spaced (r ∷ rows)) t
read_first s r rows t (Err kind) is are later reads = cc
read_first s r rows t (Ok u) is are later reads =
    let first : line_read s (spaced r) ≡ Ok u = line_back s r are ∙ is in
    let rest = later u reads in
    record {
      clean = first_clean s u t (spaced r) (map spaced rows) first rest;
      says = ap (λ v. said_from (or_same s v) (map spaced rows)) first ∙ rest.says;
    }

-- rows that are read are read as lines, without a fault, to the same end
all_read : (s : Standing) (rows : List Row) (t : Standing) → AllByRecursion AreWords rows → rows_read s rows ≡ Ok t
    → AllRead s (map spaced rows) t
all_read s [] t are reads = record {
  clean = λ i below. absurd (omega arith);
  says = let same : s ≡ t = cc in same;
}
all_read s (r ∷ rows) t are reads = read_first s r rows t (words_read s r) refl are.0 (λ u e. all_read u rows t are.1 e) reads

-- ## What stands behind a row

-- with so many steps, this last thread and these lists, and not done
abbrev standing : ℕ → Option ℕ → List (ℕ × List Entry) → Standing
standing n th ls = record { steps = Some n; thread = th; lists = ls; done = false }

-- as many steps as there have to be are not too few
enough_steps : (n : ℕ) → LEAST_STEPS ≤ n → nat_lt n LEAST_STEPS ≡ false
enough_steps n few = le-ltb n LEAST_STEPS few

-- the words of a header are read as its steps
header_back : (n : ℕ) → LEAST_STEPS ≤ n → n ≤ MOST_STEPS → header_in (header_row n) ≡ Ok n
unfolding header_in
header_back n few most = rw (natural_back MOST_STEPS n most (omega arith)) (rw (enough_steps n few) refl)

-- as the first row it says those
header_read : (n : ℕ) → LEAST_STEPS ≤ n → n ≤ MOST_STEPS → words_read nothing (header_row n) ≡ Ok (standing n None [])
header_read n few most = ap (λ r. r >>= (λ m. Ok (record nothing { steps = Some m }))) (header_back n few most)

-- the row of a thread that is next makes it the last one
thread_read : (n t : ℕ) (th : Option ℕ) (ls : List (ℕ × List Entry)) → t < THREADS → is_next th (Ok t) ≡ true
    → words_read (standing n th ls) (thread_row t) ≡ Ok (standing n (Some t) ls)
thread_read n t th ls low next =
    let number : natural_in (THREADS - 1) (decimal t) ≡ Ok t = natural_back (THREADS - 1) t (omega arith) (omega arith) in
    rw number (rw next refl)

-- a row with words after the header is read as one of the body
body_of : (n : ℕ) (th : Option ℕ) (ls : List (ℕ × List Entry)) (ws : Row) → 0 < length ws → words_read (standing n th ls) ws
    ≡ body_read (standing n th ls) ws
body_of n th ls [] some = absurd (omega arith)
body_of n th ls (w ∷ ws) some = refl

-- the row of an entry puts it to the last thread's list
entry_read : (n t : ℕ) (ls : List (ℕ × List Entry)) (e : Entry) → IsEntryKept e → IsEntryTyped e → IsEntryStamped e → NamesFew e
    → words_read (standing n (Some t) ls) (entry_row e) ≡ Ok (standing n (Some t) (with_last t e ls))
entry_read n t ls e kept typed few named =
    let s : Standing = standing n (Some t) ls in
    let ws : Row = entry_row e in
    let ops : Row = operands_of (forms.Entry (form_for e)) ws in
    let count : (length ws == length ws) ≡ true = eq-eqb (length ws) (length ws) refl in
    body_of n (Some t) ls ws (some_words e)
    ∙ ap (λ r. r >>= (λ form. placed_read s form (length ws) (operands_of form ws))) (form_is e)
    ∙ ap (λ b. if b then (entry_in (form_for e) ops >>= (λ f. Ok (with_entry s (Some t) f))) else Err WORD_COUNT)
    (ap (λ k. length ws == k) (sym (count_is e)) ∙ count)
    ∙ ap (λ r. r >>= (λ f. Ok (with_entry s (Some t) f))) (entry_back e kept typed few named)

-- the lists with these entries behind those of thread t
abbrev added : ℕ → List Entry → List (ℕ × List Entry) → List (ℕ × List Entry)
added t [] ls = ls
added t (e ∷ es) ls = added t es (with_last t e ls)

-- the rows of entries put them there one after another
entries_read : (n t : ℕ) (es : List Entry) (ls : List (ℕ × List Entry)) (rest : List Row) → AllByRecursion IsEntryKept es
    → AllByRecursion IsEntryTyped es → AllByRecursion IsEntryStamped es → AllByRecursion NamesFew es
    → rows_read (standing n (Some t) ls) (entry_rows es rest) ≡ rows_read (standing n (Some t) (added t es ls)) rest
entries_read n t [] ls rest kept typed few named = refl
entries_read n t (e ∷ es) ls rest kept typed few named =
    ap (λ r. r >>= (λ u. rows_read u (entry_rows es rest))) (entry_read n t ls e kept.0 typed.0 few.0 named.0)
    ∙ entries_read n t es (with_last t e ls) rest kept.1 typed.1 few.1 named.1

-- ## Entries in their lists

-- all these lists are of threads below t
abbrev AreBelow : ℕ → List (ℕ × List Entry) → Type 0
AreBelow t ls = AllByRecursion (λ l. l.0 < t) ls

-- the first entry of a thread above all others starts its list at the end
starts_list : (t : ℕ) (e : Entry) (front : List (ℕ × List Entry)) → AreBelow t front → with_last t e front ≡ front ++ (t, e ∷ []) ∷ []
starts_list t e [] low = refl
starts_list t e (l ∷ front) low =
    rw (ne_eqb l.0 t (λ h. omega (arith, low.0)), le-ltb t l.0 (omega (arith, low.0))) (ap (λ ls. l ∷ ls) (starts_list t e front low.1))

-- an entry more of the last thread goes to the end of its list
goes_last : (t : ℕ) (e : Entry) (es : List Entry) (front : List (ℕ × List Entry)) → AreBelow t front
    → with_last t e (front ++ (t, es) ∷ []) ≡ front ++ (t, es ++ e ∷ []) ∷ []
goes_last t e es [] low = rw (eq-eqb t t refl) refl
goes_last t e es (l ∷ front) low =
    rw (ne_eqb l.0 t (λ h. omega (arith, low.0)), le-ltb t l.0 (omega (arith, low.0))) (ap (λ ls. l ∷ ls) (goes_last t e es front low.1))

-- more entries of the last thread go to the end of its list
added_more : (t : ℕ) (es before : List Entry) (front : List (ℕ × List Entry)) → AreBelow t front
    → added t es (front ++ (t, before) ∷ []) ≡ front ++ (t, before ++ es) ∷ []
added_more t [] before front low = ap (λ es. front ++ (t, es) ∷ []) (sym (append-nil before))
added_more t (e ∷ es) before front low =
    ap (added t es) (goes_last t e before front low)
    ∙ added_more t es (before ++ e ∷ []) front low
    ∙ ap (λ l. front ++ (t, l) ∷ []) (append_assoc before (e ∷ []) es)

-- some entries of a thread above all others are its list at the end
added_all : (t : ℕ) (es : List Entry) (front : List (ℕ × List Entry)) → 0 < length es → AreBelow t front → added t es front ≡ front
    ++ (t, es) ∷ []
added_all t [] front some low = absurd (omega arith)
added_all t (e ∷ es) front some low = ap (added t es) (starts_list t e front low) ∙ added_more t es (e ∷ []) front low

-- ## Lists in their record

-- what holds of all threads holds of the one in the middle
at_seam : (P : ℕ → Type 0) (front : List (ℕ × List Entry)) (l : ℕ × List Entry) (ls : List (ℕ × List Entry))
    → AllByRecursion P (map (λ m. m.0) (front ++ l ∷ ls)) → P l.0
at_seam P [] l ls all = all.0
at_seam P (m ∷ front) l ls all = at_seam P front l ls all.1

-- where threads rise, those before one are below it
front_below : (front : List (ℕ × List Entry)) (l : ℕ × List Entry) (ls : List (ℕ × List Entry)) → Rises (map (λ m. m.0) (front ++ l ∷ ls))
    → AreBelow l.0 front
front_below [] l ls up = tt
front_below (m ∷ front) l ls up = (at_seam (λ y. m.0 < y) front l ls up.0, front_below front l ls up.1)

-- the threads of these lists are all above the last one
abbrev AreNext : Option ℕ → List (ℕ × List Entry) → Type 0
AreNext th ls = AllByRecursion (λ l. is_next th (Ok l.0) ≡ true) ls

-- threads above t may come next after it
all_next : (t : ℕ) (ls : List (ℕ × List Entry)) → AllByRecursion (λ y. t < y) (map (λ m. m.0) ls) → AreNext (Some t) ls
all_next t [] all = tt
all_next t (l ∷ ls) all = (lt-ltb t l.0 all.0, all_next t ls all.1)

-- the rows of lists whose threads rise, and come next, put these lists to what was read
lists_read : (n : ℕ) (th : Option ℕ) (front ls : List (ℕ × List Entry)) (rest : List Row) → Rises (map (λ m. m.0) (front ++ ls))
    → Rises (map (λ m. m.0) ls)
    → AreNext th ls → AllByRecursion IsListKept ls → AllEntries IsEntryTyped ls → AllEntries IsEntryStamped ls
    → AllEntries NamesFew ls
    → (last : Option ℕ) × (rows_read (standing n th front) (list_rows ls rest) ≡ rows_read (standing n last (front ++ ls)) rest)
lists_read n th front [] rest up rises next kept typed few named = (th, ap (λ l. rows_read (standing n th l) rest) (sym (append-nil front)))
lists_read n th front (l ∷ ls) rest up rises next kept typed few named =
    let t : ℕ = l.0 in
    let seam : (front ++ l ∷ []) ++ ls ≡ front ++ l ∷ ls = append_assoc front (l ∷ []) ls in
    let further = lists_read n (Some t) (front ++ l ∷ []) ls rest (subst (λ q. Rises (map (λ m. m.0) q)) (sym seam) up) rises.1
    (all_next t ls rises.0) kept.1 typed.1 few.1 named.1 in (
      further.0,
      ap (λ r. r >>= (λ u. rows_read u (entry_rows l.1 (list_rows ls rest)))) (thread_read n t th front kept.0.0 next.0)
          ∙ entries_read n t l.1 front (list_rows ls rest) kept.0.2 typed.0 few.0 named.0
          ∙ ap (λ q. rows_read (standing n (Some t) q) (list_rows ls rest)) (added_all t l.1 front kept.0.1 (front_below front l ls up))
          ∙ further.1
          ∙ ap (λ q. rows_read (standing n further.0 q) rest) seam,
    )

-- before the first thread any may come
none_next : (ls : List (ℕ × List Entry)) → AreNext None ls
none_next [] = tt
none_next (l ∷ ls) = (refl, none_next ls)

-- the last row
abbrev done_rows : List Row
done_rows = (codes "done" ∷ []) ∷ []

-- the whole text is read
record_read : (n : ℕ) (R : List (ℕ × List Entry)) → CanBeSaid n R
    → (last : Option ℕ) × (rows_read nothing (record_rows n R) ≡ Ok (record (standing n last R) { done = true }))
record_read n R can =
    let body = lists_read n None [] R done_rows can.kept.0 can.kept.0 (none_next R) can.kept.1 can.typed can.within.stamped can.named in
    (body.0, ap (λ r. r >>= (λ u. rows_read u (list_rows R done_rows))) (header_read n can.within.few can.within.most) ∙ body.1)

-- ## The rows are words

-- the rows of entries, before rows of words, are rows of words
entries_are_words : (es : List Entry) (rest : List Row) → AllByRecursion IsEntryKept es → AllByRecursion IsEntryTyped es
    → AllByRecursion IsEntryStamped es → AllByRecursion AreWords rest
    → AllByRecursion AreWords (entry_rows es rest)
entries_are_words [] rest kept typed few last = last
entries_are_words (e ∷ es) rest kept typed few last =
    (entry_are_words e kept.0 typed.0 few.0, entries_are_words es rest kept.1 typed.1 few.1 last)

-- the rows of lists, before rows of words, are rows of words
lists_are_words : (ls : List (ℕ × List Entry)) (rest : List Row) → AllByRecursion IsListKept ls → AllEntries IsEntryTyped ls
    → AllEntries IsEntryStamped ls
    → AllByRecursion AreWords rest → AllByRecursion AreWords (list_rows ls rest)
lists_are_words [] rest kept typed few last = last
lists_are_words (l ∷ ls) rest kept typed few last = (
  (keyword (codes "thread") refl, (decimal_word l.0 (omega (arith, kept.0.0)), tt)),
  entries_are_words l.1 (list_rows ls rest) kept.0.2 typed.0 few.0 (lists_are_words ls rest kept.1 typed.1 few.1 last),
)

-- the number 1 is a word
one_word : IsWord (codes "1")
one_word = (omega arith, ((omega arith, omega arith, λ e. omega arith), tt))

-- all rows of a record that can be said are of words
rows_are_words : (n : ℕ) (R : List (ℕ × List Entry)) → CanBeSaid n R → AllByRecursion AreWords (record_rows n R)
rows_are_words n R can = (
  (keyword (codes "record") refl, (one_word, (decimal_word n (omega (arith, can.within.most)), tt))),
  lists_are_words R done_rows can.kept.1 can.typed can.within.stamped ((keyword (codes "done") refl, tt), tt),
)

-- ## The law

-- the text of a record that can be said is a record text, and says the record
pub text_means : (n : ℕ) (R : List (ℕ × List Entry)) → CanBeSaid n R → IsRecordText (record_text n R) n R
text_means n R can =
    let rows = record_rows n R in
    let whole = record_read n R can in
    let are = rows_are_words n R can in
    let read = all_read nothing rows (record (standing n whole.0 R) { done = true }) are whole.1 in
    let same : lines (record_text n R) ≡ map spaced rows = lines_of_rows rows are in
    record {
      clean = subst AreClean (sym same) read.clean;
      says = ap (λ ls. outcome (said ls)) same ∙ ap outcome read.says;
    }

-- of two equal options the contents are equal
option_parts : (a b : ℕ × List (ℕ × List Entry)) → Some a ≡ Some b → a ≡ b
option_parts a b e = cc

-- and nothing else
pub text_means_one : (n m : ℕ) (R Q : List (ℕ × List Entry)) → CanBeSaid n R → IsRecordText (record_text n R) m Q → (m ≡ n) × (Q ≡ R)
text_means_one n m R Q can is =
    let same : (m, Q) ≡ (n, R) = option_parts (m, Q) (n, R) (sym is.says ∙ (text_means n R can).says) in
    (ap (λ p. p.0) same, ap (λ p. p.1) same)
