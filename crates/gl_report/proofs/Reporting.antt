-- The lines of a record's entries are its report.
use Rattle.std.proofs.Common.{◌≡◌, ℕ, cond, true, false, List, [], ◌∷◌, ◌++◌, length, map, refl, ap, sym, ◌∙◌, arith, append_assoc}
use Rattle.std.specs.Prelude.{count_by, sum_by, codes}
use Rattle.std.specs.List.{flat_map}
use Rattle.std.specs.Fmt.{decimal}
use Rattle.std.proofs.lemmas.Grind.{flat_map-append}
use Rattle.std.proofs.lemmas.List.{map-append, map-id}
use Rattle.std.proofs.lemmas.List.Concat.{length-flat_map}
use Rattle.std.proofs.lemmas.List.Folds.{flat_map-map}
use Rattle.std.proofs.lemmas.List.Sums.{sum_by-cons}
use Rattle.gl_model.specs.declared.tx.Why.TheVariants.{Changed, Raised}
use Rattle.gl_model.specs.Entries.{Entry, Sync, Commit, Plain, Abort, Trim, Over}
use Rattle.gl_model.specs.Report.{all_entries, end_lines, end_of, event_count, is_event, line_of, out_line, printed, printed_below, race_lines, race_of, races_line, report_of}
use Rattle.gl_report.specs.ByThread.{by_thread, with_thread}
use Rattle.gl_report.specs.Lines.{ended_lines, is_raised, raced_lines}

-- a list that is mapped twice is mapped once by both
map_map : {A B C : Type 0} (f : B → C) (g : A → B) (xs : List A) → map f (map g xs) ≡ map (λ x. f (g x)) xs
map_map f g [] = refl
map_map f g (x ∷ xs) = ap (λ rest. f (g x) ∷ rest) (map_map f g xs)

-- lists of lists that are made and joined twice are made and joined once by both
flat_flat : {A B C : Type 0} (f : B → List C) (g : A → List B) (xs : List A) → flat_map f (flat_map g xs)
    ≡ flat_map (λ x. flat_map f (g x)) xs
flat_flat f g [] = refl
flat_flat f g (x ∷ xs) = flat_map-append f (g x) (flat_map g xs) ∙ ap (λ rest. flat_map f (g x) ++ rest) (flat_flat f g xs)

-- what counts each element the same counts all the same
sum_same : {A : Type 0} (f g : A → ℕ) (xs : List A) → ((x : A) → f x ≡ g x) → sum_by f xs ≡ sum_by g xs
sum_same f g [] same = refl
sum_same f g (x ∷ xs) same = (let one = same x in let more = sum_same f g xs same in let left = sum_by-cons f x xs
    in let right = sum_by-cons g x xs in omega arith)

-- the sum over a mapped list is the sum over the list, of what each element is mapped to
sum_mapped : {A B : Type 0} (v : A → B) (f : B → ℕ) (xs : List A) → sum_by f (map v xs) ≡ sum_by (λ x. f (v x)) xs
sum_mapped v f [] = refl
sum_mapped v f (x ∷ xs) = (let more = sum_mapped v f xs in let left = sum_by-cons f (v x) (map v xs)
    in let right = sum_by-cons (λ y. f (v y)) x xs in omega arith)

-- ## By thread

-- the entries of a record by thread, without their threads, are all its entries
entries_are : (made : List (ℕ × List Entry)) → map (λ p. p.1) (by_thread made) ≡ all_entries made
entries_are [] = refl
entries_are (l ∷ ls) =
    map-append (λ p. p.1) (with_thread l) (by_thread ls)
    ∙ ap (λ front. front ++ map (λ p. p.1) (by_thread ls)) (map_map (λ (p : ℕ × Entry). p.1) (λ e. (l.0, e)) l.1 ∙ map-id l.1)
    ∙ ap (λ back. l.1 ++ back) (entries_are ls)

-- what the entries by thread give, put together, is what those of each list give, list by list
gives_are : {A : Type 0} (h : ℕ → Entry → List A) (made : List (ℕ × List Entry)) → flat_map (λ p. h p.0 p.1) (by_thread made)
    ≡ flat_map (λ l. flat_map (h l.0) l.1) made
gives_are h [] = refl
gives_are h (l ∷ ls) =
    flat_map-append (λ p. h p.0 p.1) (with_thread l) (by_thread ls)
    ∙ ap (λ front. front ++ flat_map (λ p. h p.0 p.1) (by_thread ls)) (flat_map-map (λ (p : ℕ × Entry). h p.0 p.1) (λ e. (l.0, e)) l.1)
    ∙ ap (λ back. flat_map (h l.0) l.1 ++ back) (gives_are h ls)

-- an entry has one race line where it was refused, else none
one_race : (t : ℕ) (e : Entry) → length (race_of t e) ≡ cond (is_raised e) 1 0
one_race t (Sync at act value) = refl
one_race t (Commit at tx) = refl
one_race t (Plain x n cached write value true) = refl
one_race t (Plain x n cached write value false) = refl
one_race t (Abort tx (Changed var read found)) = refl
one_race t (Abort tx (Raised var)) = refl
one_race t (Trim low) = refl
one_race t (Over ending) = refl

module _ {A : Type 0} (v : A → ℕ × Entry) (xs : List A) (made : List (ℕ × List Entry)) (are : map v xs ≡ by_thread made) where
  -- the entries are all those of the record
  pub all_are : map (λ x. (v x).1) xs ≡ all_entries made
  all_are = sym (map_map (λ p. p.1) v xs) ∙ ap (map (λ p. p.1)) are ∙ entries_are made

  -- the events that are counted among the entries are those of the record
  pub events_are : count_by (λ x. is_event (v x).1) xs ≡ event_count made
  events_are = sym (sum_mapped (λ x. (v x).1) (λ e. cond (is_event e) 1 0) xs) ∙ ap (count_by is_event) all_are

  -- the lines of those that were refused, and how many they are
  gives : {B : Type 0} (h : ℕ → Entry → List B) → flat_map (λ x. h (v x).0 (v x).1) xs ≡ flat_map (λ l. flat_map (h l.0) l.1) made
  gives h = sym (flat_map-map (λ p. h p.0 p.1) v xs) ∙ ap (flat_map (λ p. h p.0 p.1)) are ∙ gives_are h made

  -- the lines for races among the entries are the record's lines of races
  pub races_are : flat_map (λ x. raced_lines (v x).0 (v x).1) xs ≡ flat_map (λ bytes. bytes) (race_lines made)
  races_are = sym (flat_flat (λ bytes. bytes) (λ x. race_of (v x).0 (v x).1) xs) ∙ ap (flat_map (λ bytes. bytes)) (gives race_of)

  -- the lines for ends of threads among the entries are the record's lines of ends
  pub ends_are : flat_map (λ x. ended_lines (v x).0 (v x).1) xs ≡ flat_map (λ bytes. bytes) (end_lines made)
  ends_are = sym (flat_flat (λ bytes. bytes) (λ x. end_of (v x).0 (v x).1) xs) ∙ ap (flat_map (λ bytes. bytes)) (gives end_of)

  -- the races that are counted among the entries are as many as the record's lines of races
  pub many_races : count_by (λ x. is_raised (v x).1) xs ≡ length (race_lines made)
  many_races =
      sym
      (ap length (sym (gives race_of)) ∙ length-flat_map (λ x. race_of (v x).0 (v x).1) xs
      ∙ sum_same (λ x. length (race_of (v x).0 (v x).1)) (λ x. cond (is_raised (v x).1) 1 0) xs (λ x. one_race (v x).0 (v x).1))

  -- a text that grew by the prints, the races, the ends and the number of races is the record's report
  pub report_is :
      (none outs races ends whole prints : List ℕ) (n count : ℕ) → none ≡ [] → outs ≡ none ++ prints → prints
      ≡ flat_map out_line (printed_below (all_entries made) n) →
      n ≡ event_count made → races ≡ outs ++ flat_map (λ x. raced_lines (v x).0 (v x).1) xs → ends ≡ races
      ++ flat_map (λ x. ended_lines (v x).0 (v x).1) xs →
      count ≡ count_by (λ x. is_raised (v x).1) xs → whole ≡ ends ++ line_of (codes "races " ++ decimal count) → whole ≡ report_of made
  report_is none outs races ends whole prints n count is_none with_outs prints_is n_is with_races with_ends count_is with_count =
      let P = flat_map out_line (printed made) in
      let R = flat_map (λ bytes. bytes) (race_lines made) in
      let E = flat_map (λ bytes. bytes) (end_lines made) in
      let L = races_line made in
      let at_outs : outs ≡ P = with_outs ∙ ap (λ s. s ++ prints) is_none ∙ prints_is
      ∙ ap (λ m. flat_map out_line (printed_below (all_entries made) m)) n_is in
      let at_races : races ≡ P ++ R = with_races ∙ ap (λ s. s ++ flat_map (λ x. raced_lines (v x).0 (v x).1) xs) at_outs
      ∙ ap (λ s. P ++ s) races_are in
      let at_ends : ends ≡ (P ++ R) ++ E = with_ends ∙ ap (λ s. s ++ flat_map (λ x. ended_lines (v x).0 (v x).1) xs) at_races
      ∙ ap (λ s. (P ++ R) ++ s) ends_are in
      let at_whole : whole ≡ ((P ++ R) ++ E) ++ L = with_count
      ∙ ap (λ m. ends ++ line_of (codes "races " ++ decimal m)) (count_is ∙ many_races) ∙ ap (λ s. s ++ L) at_ends in
      at_whole ∙ append_assoc (P ++ R) E L ∙ append_assoc P R (E ++ L)
