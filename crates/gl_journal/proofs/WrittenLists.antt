-- The text of a record, list by list and part by part.
use Rattle.std.proofs.Common.{◌≡◌, ℕ, ◌+◌, ◌-◌, ◌<◌, ◌≤◌, zero, suc, List, [], ◌∷◌, ◌++◌, Some, None, codes, length, map, take, slice_get, refl, ap, sym, ◌∙◌, arith, inl, inr, append_assoc, append-nil, subst}
use Rattle.std.specs.List.{AllByRecursion, flat_map}
use Rattle.std.proofs.lemmas.List.{map-append, take_more, take_all}
use Rattle.std.proofs.lemmas.Option.{slice_get_within, get_or_from_slice_get, slice_get_cases}
use Rattle.gl_model.specs.Entries.{Entry, seen}
use Rattle.gl_model.specs.declared.record.Entry.{Entry as StoredEntry}
use Rattle.gl_model.specs.Lists.{list_of}
use Rattle.gl_model.specs.Rising.{Rises}
use Rattle.gl_model.proofs.ThreadLists.{below, gathers_next, one_of}
use Rattle.gl_journal.specs.Fields.{Word}
use Rattle.gl_journal.specs.Written.{AllEntries, IsEntryTyped}
use Rattle.gl_journal.specs.Rows.{Row, entry_row, entry_rows, header_row, list_rows, list_word, record_text, row_text, thread_row}
use Rattle.gl_model.proofs.RisingPushes.{all_push}

-- ## Lists of parts

-- the texts of a list with one member more are those before, and its own
flat_more : {A : Type 0} (f : A → List ℕ) (xs : List A) (x : A) → flat_map f (xs ++ x ∷ []) ≡ flat_map f xs ++ f x
flat_more f [] x = append-nil (f x)
flat_more f (y ∷ ys) x = ap (λ l. f y ++ l) (flat_more f ys x) ∙ sym (append_assoc (f y) (flat_map f ys) (f x))

-- a list that is written with one member more has a comma and its word at the end
word_more : {A : Type 0} (f : A → Word) (y : A) (ys : List A) (x : A) → list_word (map f (y ∷ (ys ++ x ∷ []))) ≡ list_word (map f (y ∷ ys))
    ++ (codes "," ++ f x)
word_more f y ys x =
    ap (λ l. f y ++ flat_map (λ v. codes "," ++ v) l) (map-append f ys (x ∷ []))
    ∙ ap (λ l. f y ++ l) (flat_more (λ v. codes "," ++ v) (map f ys) (f x))
    ∙ sym (append_assoc (f y) (flat_map (λ v. codes "," ++ v) (map f ys)) (codes "," ++ f x))

-- the first i + 1 of a list, written, are the first i, a comma and the one at i
list_more : {A : Type 0} (f : A → Word) (xs : List A) (i : ℕ) (x : A) → 1 ≤ i → slice_get xs i ≡ Some x
    → list_word (map f (take (i + 1) xs)) ≡ list_word (map f (take i xs)) ++ (codes "," ++ f x)
list_more f [] i x some there = cc
list_more f (y ∷ ys) zero x some there = absurd (omega arith)
list_more f (y ∷ ys) (suc j) x some there =
    let below : j < length ys = slice_get_within ys j x there in
    let more : take (suc j + 1) (y ∷ ys) ≡ take (suc j) (y ∷ ys) ++ x ∷ [] =
    take_more (y ∷ ys) (suc j) x (slice_get_within (y ∷ ys) (suc j) x there)
    ∙ ap (λ z. take (suc j) (y ∷ ys) ++ z ∷ []) (get_or_from_slice_get (y ∷ ys) (suc j) x x there) in
    ap (λ l. list_word (map f l)) more ∙ word_more f y (take j ys) x

-- one part more
pub push_more : {A : Type 0} (f : A → Word) (xs : List A) (i : ℕ) (x : A) (start old comma new : List ℕ) → 1 ≤ i → slice_get xs i ≡ Some x
    → old ≡ start ++ list_word (map f (take i xs)) → comma ≡ old ++ codes "," → new ≡ comma ++ f x
    → new ≡ start ++ list_word (map f (take (i + 1) xs))
push_more f xs i x start old comma new some there before then after =
    after ∙ ap (λ l. l ++ f x) then ∙ append_assoc old (codes ",") (f x) ∙ ap (λ l. l ++ (codes "," ++ f x)) before
    ∙ append_assoc start (list_word (map f (take i xs))) (codes "," ++ f x) ∙ ap (λ l. start ++ l) (sym (list_more f xs i x some there))

-- the first part
pub push_first : {A : Type 0} (f : A → Word) (xs : List A) (x : A) (start new : List ℕ) → slice_get xs 0 ≡ Some x → new ≡ start ++ f x
    → (1 ≤ length xs) × (new ≡ start ++ list_word (map f (take 1 xs)))
push_first f [] x start new there is = cc
push_first f (y ∷ ys) x start new there is =
    let same : y ≡ x = cc in
    (omega arith, is ∙ ap (λ l. start ++ l) (sym (append-nil (f x)) ∙ ap (λ z. f z ++ []) (sym same)))

-- where nothing stands, the list has ended
past_of : {A : Type 0} (xs : List A) (at : ℕ) → slice_get xs at ≡ None → length xs ≤ at
past_of xs at none =
    elim (slice_get_cases xs at).1 [
      | inl some ↦ let e = some.2 in cc
      | inr past ↦ past.0
    ]

-- ## What holds of each part

-- what holds of the first i and of the one at i holds of the first i + 1
pub all_more : {A : Type 0} (P : A → Type 0) (xs : List A) (i : ℕ) (x : A) → slice_get xs i ≡ Some x → P x → AllByRecursion P (take i xs)
    → AllByRecursion P (take (i + 1) xs)
all_more P xs i x there last all =
    let more : take (i + 1) xs ≡ take i xs ++ x ∷ [] =
    take_more xs i x (slice_get_within xs i x there) ∙ ap (λ z. take i xs ++ z ∷ []) (get_or_from_slice_get xs i x x there) in
    subst (AllByRecursion P) (sym more) (all_push P (take i xs) x all last)

-- what holds of the first member holds of a list of it
pub all_first : {A : Type 0} (P : A → Type 0) (xs : List A) (x : A) → slice_get xs 0 ≡ Some x → P x → AllByRecursion P (take 1 xs)
all_first P [] x there first = cc
all_first P (y ∷ ys) x there first = let same : x ≡ y = cc in (subst P same first, tt)

-- what holds of as many as there are holds of all
pub all_of : {A : Type 0} (P : A → Type 0) (xs : List A) (i : ℕ) → length xs ≤ i → AllByRecursion P (take i xs) → AllByRecursion P xs
all_of P xs i past all = subst (AllByRecursion P) (take_all i xs past) all

-- ## Lists of entries

-- the lines of entries
abbrev pub entries_text : List Entry → List ℕ
entries_text es = flat_map (λ e. row_text (entry_row e)) es

-- the text of one thread's list
abbrev pub one_text : ℕ × List Entry → List ℕ
one_text l = row_text (thread_row l.0) ++ entries_text l.1

-- the text of these lists
abbrev pub lists_text : List (ℕ × List Entry) → List ℕ
lists_text ls = flat_map one_text ls

-- entries have the text that they have as definitions see them
stored_text : (es : List StoredEntry) → flat_map (λ e. row_text (entry_row (seen e))) es ≡ entries_text (map seen es)
stored_text [] = refl
stored_text (e ∷ es) = ap (λ l. row_text (entry_row (seen e)) ++ l) (stored_text es)

-- the rows of entries, before others, have the entries' text and then that of the others
entries_are : (es : List Entry) (rest : List Row) → flat_map row_text (entry_rows es rest) ≡ entries_text es ++ flat_map row_text rest
entries_are [] rest = refl
entries_are (e ∷ es) rest =
    ap (λ l. row_text (entry_row e) ++ l) (entries_are es rest)
    ∙ sym (append_assoc (row_text (entry_row e)) (entries_text es) (flat_map row_text rest))

-- the rows of lists, before others, have the lists' text and then that of the others
lists_are : (ls : List (ℕ × List Entry)) (rest : List Row) → flat_map row_text (list_rows ls rest) ≡ lists_text ls ++ flat_map row_text rest
lists_are [] rest = refl
lists_are (l ∷ ls) rest =
    ap (λ s. row_text (thread_row l.0) ++ s) (entries_are l.1 (list_rows ls rest))
    ∙ ap (λ s. row_text (thread_row l.0) ++ (entries_text l.1 ++ s)) (lists_are ls rest)
    ∙ sym (append_assoc (row_text (thread_row l.0)) (entries_text l.1) (lists_text ls ++ flat_map row_text rest))
    ∙ sym (append_assoc (one_text l) (lists_text ls) (flat_map row_text rest))

-- the whole text
pub text_is : (steps : ℕ) (R : List (ℕ × List Entry)) (head all new : List ℕ) → head ≡ row_text (header_row steps) → all ≡ head
    ++ lists_text R → new ≡ all ++ codes "done\n"
    → new ≡ record_text steps R
text_is steps R head all new first is last =
    last ∙ ap (λ l. l ++ codes "done\n") is ∙ append_assoc head (lists_text R) (codes "done\n")
    ∙ ap (λ l. l ++ (lists_text R ++ codes "done\n")) first
    ∙ ap (λ l. row_text (header_row steps) ++ l) (sym (lists_are R ((codes "done" ∷ []) ∷ [])))

-- ## Thread by thread

-- a thread that has no list
pub thread_without : (t : ℕ) (R : List (ℕ × List Entry)) (start old : List ℕ) → Rises (map (λ l. l.0) R) → list_of R t ≡ None
    → old ≡ start ++ lists_text (below t R) → old ≡ start ++ lists_text (below (t + 1) R)
thread_without t R start old rises none is =
    let same : below (t + 1) R ≡ below t R = gathers_next t R rises ∙ ap (λ o. below t R ++ one_of t o) none ∙ append-nil (below t R) in
    is ∙ ap (λ l. start ++ lists_text l) (sym same)

-- a thread with its list
pub thread_with : (t : ℕ) (R : List (ℕ × List Entry)) (es : List StoredEntry) (start old new : List ℕ) → Rises (map (λ l. l.0) R)
    → list_of R t ≡ Some (map seen es)
    → old ≡ start ++ lists_text (below t R) → new ≡ old ++ (row_text (thread_row t) ++ flat_map (λ e. row_text (entry_row (seen e))) es)
    → new ≡ start ++ lists_text (below (t + 1) R)
thread_with t R es start old new rises some is adds =
    let l : ℕ × List Entry = (t, map seen es) in
    let next : below (t + 1) R ≡ below t R ++ l ∷ [] = gathers_next t R rises ∙ ap (λ o. below t R ++ one_of t o) some in
    adds ∙ ap (λ s. old ++ (row_text (thread_row t) ++ s)) (stored_text es) ∙ ap (λ s. s ++ one_text l) is
    ∙ append_assoc start (lists_text (below t R)) (one_text l) ∙ ap (λ s. start ++ s) (sym (flat_more one_text (below t R) l))
    ∙ ap (λ ls. start ++ lists_text ls) (sym next)

-- ## What holds of the entries of each thread so far

-- where t has no list, entries below t + 1 are typed where those below t are
pub typed_without : (t : ℕ) (R : List (ℕ × List Entry)) → Rises (map (λ l. l.0) R) → list_of R t ≡ None
    → AllEntries IsEntryTyped (below t R)
    → AllEntries IsEntryTyped (below (t + 1) R)
typed_without t R rises none all =
    let same : below (t + 1) R ≡ below t R = gathers_next t R rises ∙ ap (λ o. below t R ++ one_of t o) none ∙ append-nil (below t R) in
    subst (AllEntries IsEntryTyped) (sym same) all

-- where t has a list of typed entries, those below t + 1 are typed where those below t are
pub typed_with : (t : ℕ) (R : List (ℕ × List Entry)) (es : List StoredEntry) → Rises (map (λ l. l.0) R) → list_of R t ≡ Some (map seen es)
    → AllEntries IsEntryTyped (below t R) → AllByRecursion IsEntryTyped (map seen es) → AllEntries IsEntryTyped (below (t + 1) R)
typed_with t R es rises some all typed =
    let l : ℕ × List Entry = (t, map seen es) in
    let next : below (t + 1) R ≡ below t R ++ l ∷ [] = gathers_next t R rises ∙ ap (λ o. below t R ++ one_of t o) some in
    subst (AllEntries IsEntryTyped) (sym next) (all_push (λ m. AllByRecursion IsEntryTyped m.1) (below t R) l all typed)
