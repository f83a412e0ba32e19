-- The end of clap's walk over the words, by the uses that they say.
use Rattle.std.proofs.Common.{◌≡◌, ◌∙◌, ◌&&◌, ◌||◌, ℕ, Bool, true, false, not, cond, refl, sym, ap, ap₂, List, [], ◌∷◌, ◌++◌, Option, Some, None, is_some, codes, length, option_map, true≢false}
use Rattle.std.specs.Prelude.{option_and_then, slice_get}
use Rattle.std.specs.Option.{option_map_or}
use Rattle.std.specs.Str.{bytes_eq, chars}
use Rattle.clap.specs.Lexer.{long_of, short_of}
use Rattle.clap.specs.Faults.{bundle_fault, bundle_step_fault, flags_fault, long_fault, settle_fault, step_fault, turn_fault, use_fault, walk_fault}
use Rattle.clap.specs.Kinds.{Kinds, or_else}
use Rattle.clap.specs.Walk.{Held, Outcome, Row, Rule, Step, Text, Waiting, Walk, after_flag, after_step, bundle_met, bundle_step, has_row, idle, long_met, next, option, plain, plain_word, settled, short_or_plain, used, walked}
use Rattle.clap.specs.declared.error.kind.ErrorKind.TheVariants.{ArgumentConflict, InvalidValue, TooManyValues, UnknownArgument}
use Rattle.gl_words.specs.App.{has_dashes, name_of}
use Rattle.gl_words.specs.Options.{Word}
use Rattle.gl_words.specs.declared.options.NumberOption.{NumberOption}
use Rattle.gl_words.specs.declared.options.NumberOption.TheVariants.{Workers, Steps, Segments, Cells, Size}
use Rattle.gl_words.proofs.Uses.{Kind, Use, flag, has_flags, id_of, kind_named, number, options, repeated, row_of, rows_of_uses, rule_for, said, shape, then_rows, uses_from}
use Rattle.gl_words.proofs.Turns.{at, dashes, ends_from, fault_is, found, goes_on, held, stops, use_of_flag, use_of_number, used_flag, used_number, walk_is}

-- ## A word with a name

-- the faults of a turn on a word that names this rule or none, with this value or none
abbrev named_fault : Waiting → Text → Held → Option Text → Option Rule → Kinds
named_fault w word h v a = or_else (long_fault options false a v h) (step_fault shape 1
    (after_flag options w word (long_met options a v h).0 (long_met options a v h).1).0
    (after_flag options w word (long_met options a v h).0 (long_met options a v h).1).1)

-- the walk after a turn on a word that names this rule or none, with this value or none
abbrev named_walk : Waiting → Text → Held → Option Text → Option Rule → Walk
named_walk w word h v a = after_step options word (at w h)
    (after_flag options w word (long_met options a v h).0 (long_met options a v h).1).0
    (after_flag options w word (long_met options a v h).0 (long_met options a v h).1).1

-- the faults of a turn on a word of a long form are those of the rule that its name means
fault_by_name : (w : Waiting) (word name : Text) (v : Option Text) (h : Held) (k : Option Kind) → bytes_eq word dashes ≡ false
    → long_of word ≡ Some (name, v) → kind_named name ≡ k
    → turn_fault shape [] (at w h) word ≡ named_fault w word h v (option_map rule_for k)
fault_by_name w word name v h k other is kind =
    fault_is w word h (Some (name, v)) other is ∙ ap (named_fault w word h v) (found name ∙ ap (option_map rule_for) kind)

-- the walk after a turn on a word of a long form is that of the rule that its name means
walk_by_name : (w : Waiting) (word name : Text) (v : Option Text) (h : Held) (k : Option Kind) → bytes_eq word dashes ≡ false
    → long_of word ≡ Some (name, v) → kind_named name ≡ k
    → walked options [] (at w h) word ≡ named_walk w word h v (option_map rule_for k)
walk_by_name w word name v h k other is kind =
    walk_is w word h (Some (name, v)) other is ∙ ap (named_walk w word h v) (found name ∙ ap (option_map rule_for) kind)

-- ## A word without one

-- the faults of a turn on a word of no long form
abbrev other_fault : Waiting → Text → Held → Option Text → Kinds
other_fault w word h s = or_else (option_map_or (λ flags. bundle_fault options false flags h) s [])
    (step_fault shape 1 (short_or_plain options w word s h).0 (short_or_plain options w word s h).1)

-- the walk after a turn on a word of no long form
abbrev other_walk : Waiting → Text → Held → Option Text → Walk
other_walk w word h s = after_step options word (at w h) (short_or_plain options w word s h).0 (short_or_plain options w word s h).1

-- an empty text has no characters
no_chars : chars [] ≡ []
unfolding chars
no_chars = refl

-- what a bundle comes to whose first character is this
abbrev bundled : Held → Text → ℕ → Option ℕ → Held × Outcome
bundled h flags k c = bundle_step options c flags 0 plain h (bundle_met options k)

-- the faults of a turn on a word of flags of one letter
abbrev bundled_fault : Waiting → Text → Held → Text → ℕ → Option ℕ → Kinds
bundled_fault w word h flags k c = or_else (bundle_step_fault options false c flags 0 h (flags_fault options false k))
    (step_fault shape 1 (after_flag options w word (bundled h flags k c).0 (bundled h flags k c).1).0
    (after_flag options w word (bundled h flags k c).0 (bundled h flags k c).1).1)

-- the walk after a turn on a word of flags of one letter
abbrev bundled_walk : Waiting → Text → Held → Text → ℕ → Option ℕ → Walk
bundled_walk w word h flags k c = after_step options word (at w h)
    (after_flag options w word (bundled h flags k c).0 (bundled h flags k c).1).0
    (after_flag options w word (bundled h flags k c).0 (bundled h flags k c).1).1

-- a word that has flags of one letter is refused as an unknown argument
flagged : (w : Waiting) (word : Text) (rows : List Row) (p : Option (Text × List Text)) (s : Option Text) → has_flags s ≡ true
    → (ks : Kinds) × (other_fault w word (held rows p) s ≡ UnknownArgument ∷ ks)
unfolding flags_fault bundle_met
flagged w word rows p None has = absurd (true≢false (sym has))
flagged w word rows p (Some []) has = absurd (true≢false (sym (rw no_chars at has)))
flagged w word rows p (Some (x ∷ xs)) has = go (slice_get (chars (x ∷ xs)) 0) has
  where
    go : (c : Option ℕ) → is_some c ≡ true
        → (ks : Kinds) × (bundled_fault w word (held rows p) (x ∷ xs) (length xs) c ≡ UnknownArgument ∷ ks)
    go None has = absurd (true≢false (sym has))
    go (Some c) has = ([], refl)

-- a word that has no flags has the faults of a plain word
plain_fault : (w : Waiting) (word : Text) (rows : List Row) (p : Option (Text × List Text)) (s : Option Text) → has_flags s ≡ false
    → other_fault w word (held rows p) s
    ≡ step_fault shape 1 (plain_word options w word (held rows p)).0 (plain_word options w word (held rows p)).1
unfolding flags_fault bundle_met
plain_fault w word rows p None none = refl
plain_fault w word rows p (Some []) none = refl
plain_fault w word rows p (Some (x ∷ xs)) none = go (slice_get (chars (x ∷ xs)) 0) none
  where
    go : (c : Option ℕ) → is_some c ≡ false → bundled_fault w word (held rows p) (x ∷ xs) (length xs) c
        ≡ step_fault shape 1 (plain_word options w word (held rows p)).0 (plain_word options w word (held rows p)).1
    go None none = refl
    go (Some c) none = absurd (true≢false none)

-- a word that has no flags leads the walk on as a plain word does
plain_walk : (w : Waiting) (word : Text) (rows : List Row) (p : Option (Text × List Text)) (s : Option Text) → has_flags s ≡ false
    → other_walk w word (held rows p) s
    ≡ after_step options word (at w (held rows p)) (plain_word options w word (held rows p)).0 (plain_word options w word (held rows p)).1
unfolding bundle_met
plain_walk w word rows p None none = refl
plain_walk w word rows p (Some []) none = refl
plain_walk w word rows p (Some (x ∷ xs)) none = go (slice_get (chars (x ∷ xs)) 0) none
  where
    go : (c : Option ℕ) → is_some c ≡ false → bundled_walk w word (held rows p) (x ∷ xs) (length xs) c
        ≡ after_step options word (at w (held rows p)) (plain_word options w word (held rows p)).0
        (plain_word options w word (held rows p)).1
    go None none = refl
    go (Some c) none = absurd (true≢false none)

-- ## A turn, and what it leads to

-- the walk goes on where neither the settling nor the use fails
abbrev unless : Kinds → Option (List Row) → Option (List Row)
unless [] r = r
unless (k ∷ ks) r = None

-- the walk over a word and others ends as that over the others, unless what waits or the word's own use is refused
settles_on : (w v : Walk) (word : Text) (rest : List Text) (s u : Kinds) → turn_fault shape [] w word ≡ or_else (or_else s u) []
    → walked options [] w word ≡ v → ends_from w (word ∷ rest) ≡ unless s (unless u (ends_from v rest))
settles_on w v word rest [] [] fault on = goes_on w v word rest fault on
settles_on w v word rest [] (k ∷ ks) fault on = stops w word rest k ks fault
settles_on w v word rest (k ∷ ks) u fault on = stops w word rest k ks fault

-- what comes of rows after what waits is settled, where that is not refused
abbrev after : Held → (List Row → Option (List Row)) → Option (List Row)
after h more = then_rows (settle_fault options false h) (settled options h).rows more

-- where nothing comes of the rows, nothing comes of them after faults either
nothing_comes : (ks : Kinds) (rows : List Row) → then_rows ks rows (λ _. None) ≡ None
nothing_comes [] rows = refl
nothing_comes (k ∷ ks) rows = refl

-- where the same comes of rows by two ways, the same comes of them after faults
then_same : (ks : Kinds) (rows : List Row) (f g : List Row → Option (List Row)) → f rows ≡ g rows
    → then_rows ks rows f ≡ then_rows ks rows g
then_same [] rows f g same = same
then_same (k ∷ ks) rows f g same = refl

-- what comes unless there are faults is what comes of the rows after those faults
unless_then : (ks : Kinds) (rows : List Row) (r : Option (List Row)) (f : List Row → Option (List Row)) → r ≡ f rows
    → unless ks r ≡ then_rows ks rows f
unless_then [] rows r f same = same
unless_then (k ∷ ks) rows r f same = refl

-- a use of an option with a number adds its row, unless there is one already
once_number : (o : NumberOption) (t : Text) (rows : List Row) (f : List Row → Option (List Row))
    → unless (use_fault false (rule_for (number o)) (t ∷ []) rows) (f (used (rule_for (number o)) (t ∷ []) rows))
    ≡ then_rows (repeated (name_of o) rows) (rows ++ row_of (number o) t ∷ []) f
once_number o t rows f =
    ap (λ (ks : Kinds). unless ks (f (used (rule_for (number o)) (t ∷ []) rows))) (use_of_number o t rows)
    ∙ go (has_row (name_of o) rows) refl
  where
    go : (b : Bool) → has_row (name_of o) rows ≡ b
        → unless (cond b (ArgumentConflict ∷ []) []) (f (used (rule_for (number o)) (t ∷ []) rows))
        ≡ then_rows (cond b (ArgumentConflict ∷ []) []) (rows ++ row_of (number o) t ∷ []) f
    go true e = refl
    go false e = ap f (used_number o t rows e)

-- a use of the option without a number adds its row, unless there is one already
once_flag : (rows : List Row) (f : List Row → Option (List Row))
    → unless (use_fault false (rule_for flag) [] rows) (f (used (rule_for flag) [] rows))
    ≡ then_rows (repeated (codes "journal") rows) (rows ++ row_of flag (codes "true") ∷ []) f
once_flag rows f =
    ap (λ (ks : Kinds). unless ks (f (used (rule_for flag) [] rows))) (use_of_flag rows) ∙ go (has_row (codes "journal") rows) refl
  where
    go : (b : Bool) → has_row (codes "journal") rows ≡ b → unless (cond b (ArgumentConflict ∷ []) []) (f (used (rule_for flag) [] rows))
        ≡ then_rows (cond b (ArgumentConflict ∷ []) []) (rows ++ row_of flag (codes "true") ∷ []) f
    go true e = refl
    go false e = ap f (used_flag rows e)

-- the rows of a use and others are its own row and then those of the others, unless it is a second one
uses_head : (k : Kind) (t : Text) (rows : List Row) (us : Option (List Use))
    → then_rows (repeated (id_of k) rows) (rows ++ row_of k t ∷ []) (λ more. rows_of_uses more us)
    ≡ rows_of_uses rows (option_map (λ x. (k, t) ∷ x) us)
uses_head k t rows None = nothing_comes (repeated (id_of k) rows) (rows ++ row_of k t ∷ [])
uses_head k t rows (Some us) = refl

-- ## All words

-- what the walk over these words ends in
pub record Ended (words : List Text) : Type 0 where
  pub idly : (rows : List Row) (p : Option (Text × List Text)) → ends_from (at idle (held rows p)) words
      ≡ after (held rows p) (λ rs. rows_of_uses rs (uses_from None words))
  pub waiting : (o : NumberOption) (rows : List Row) → ends_from (at (option (name_of o)) (held rows (Some (name_of o, [])))) words
      ≡ rows_of_uses rows (uses_from (Some o) words)

-- faults or none, or none again, are the same faults
still : (ks : Kinds) → or_else ks [] ≡ or_else (or_else ks []) []
still [] = refl
still (k ∷ ks) = refl

-- a walk that waits for nothing ends, from a word of a long form on, with the rows of the uses that the words say
idle_named : (rows : List Row) (p : Option (Text × List Text)) (word : Text) (rest : List Text) (name : Word) (v : Option Text)
    (k : Option Kind)
    → bytes_eq word dashes ≡ false → long_of word ≡ Some (name, v) → kind_named name ≡ k → Ended rest
    → ends_from (at idle (held rows p)) (word ∷ rest) ≡ after (held rows p) (λ rs. rows_of_uses rs (said v k (λ w. uses_from w rest)))
idle_named rows p word rest name v None other is kind more =
    stops (at idle (held rows p)) word rest UnknownArgument [] (fault_by_name idle word name v (held rows p) None other is kind)
    ∙ sym (nothing_comes (settle_fault options false (held rows p)) (settled options (held rows p)).rows)
idle_named rows p word rest name (Some t) (Some (number o)) other is kind more =
    let h = held rows p in
    let s = settle_fault options false h in
    let r = (settled options h).rows in
    settles_on (at idle h) (at idle (held (used (rule_for (number o)) (t ∷ []) r) None)) word rest s
    (use_fault false (rule_for (number o)) (t ∷ []) r)
    (fault_by_name idle word name (Some t) h (Some (number o)) other is kind)
    (walk_by_name idle word name (Some t) h (Some (number o)) other is kind)
    ∙ unless_then s r _ (λ rs. rows_of_uses rs (option_map (λ us. (number o, t) ∷ us) (uses_from None rest)))
    (once_number o t r (λ rs. ends_from (at idle (held rs None)) rest)
    ∙ then_same (repeated (name_of o) r) (r ++ row_of (number o) t ∷ []) (λ rs. ends_from (at idle (held rs None)) rest)
    (λ rs. rows_of_uses rs (uses_from None rest)) (more.idly (r ++ row_of (number o) t ∷ []) None)
    ∙ uses_head (number o) t r (uses_from None rest))
idle_named rows p word rest name None (Some (number o)) other is kind more =
    let h = held rows p in
    let s = settle_fault options false h in
    let r = (settled options h).rows in
    settles_on (at idle h) (at (option (name_of o)) (held r (Some (name_of o, [])))) word rest s []
    (fault_by_name idle word name None h (Some (number o)) other is kind ∙ still s)
    (walk_by_name idle word name None h (Some (number o)) other is kind)
    ∙ unless_then s r _ (λ rs. rows_of_uses rs (uses_from (Some o) rest)) (more.waiting o r)
idle_named rows p word rest name (Some t) (Some flag) other is kind more =
    stops (at idle (held rows p)) word rest TooManyValues [] (fault_by_name idle word name (Some t) (held rows p) (Some flag) other is kind)
    ∙ sym (nothing_comes (settle_fault options false (held rows p)) (settled options (held rows p)).rows)
idle_named rows p word rest name None (Some flag) other is kind more =
    let h = held rows p in
    let s = settle_fault options false h in
    let r = (settled options h).rows in
    settles_on (at idle h) (at idle (held (used (rule_for flag) [] r) None)) word rest s (use_fault false (rule_for flag) [] r)
    (fault_by_name idle word name None h (Some flag) other is kind) (walk_by_name idle word name None h (Some flag) other is kind)
    ∙ unless_then s r _ (λ rs. rows_of_uses rs (option_map (λ us. (flag, codes "true") ∷ us) (uses_from None rest)))
    (once_flag r (λ rs. ends_from (at idle (held rs None)) rest)
    ∙ then_same (repeated (codes "journal") r) (r ++ row_of flag (codes "true") ∷ []) (λ rs. ends_from (at idle (held rs None)) rest)
    (λ rs. rows_of_uses rs (uses_from None rest)) (more.idly (r ++ row_of flag (codes "true") ∷ []) None)
    ∙ uses_head flag (codes "true") r (uses_from None rest))

-- a word with no name is none of the options, where nothing waits
idle_other : (rows : List Row) (p : Option (Text × List Text)) (word : Text) (rest : List Text) → bytes_eq word dashes ≡ false
    → long_of word ≡ None
    → ends_from (at idle (held rows p)) (word ∷ rest) ≡ None
idle_other rows p word rest other is = go (has_flags (short_of word)) refl
  where
    go : (b : Bool) → has_flags (short_of word) ≡ b → ends_from (at idle (held rows p)) (word ∷ rest) ≡ None
    go true e =
        let hit = flagged idle word rows p (short_of word) e in
        stops (at idle (held rows p)) word rest UnknownArgument hit.0 (fault_is idle word (held rows p) None other is ∙ hit.1)
    go false e = stops (at idle (held rows p)) word rest UnknownArgument []
        (fault_is idle word (held rows p) None other is ∙ plain_fault idle word rows p (short_of word) e)

-- a walk that waits for nothing ends, from any word but `--` on, with the rows of the uses that the words say
idle_word : (rows : List Row) (p : Option (Text × List Text)) (word : Text) (rest : List Text) → bytes_eq word dashes ≡ false → Ended rest
    → ends_from (at idle (held rows p)) (word ∷ rest) ≡ after (held rows p) (λ rs. rows_of_uses rs (uses_from None (word ∷ rest)))
idle_word rows p word rest other more = go (long_of word) refl
  where
    go : (form : Option (Text × Option Text)) → long_of word ≡ form → ends_from (at idle (held rows p)) (word ∷ rest) ≡ after (held rows p)
        (λ rs. rows_of_uses rs (option_and_then (λ q. said q.1 (kind_named q.0) (λ w. uses_from w rest)) (long_of word)))
    go None is = idle_other rows p word rest other is
        ∙ sym (nothing_comes (settle_fault options false (held rows p)) (settled options (held rows p)).rows)
        ∙ ap (λ (form : Option (Text × Option Text)). after (held rows p)
        (λ rs. rows_of_uses rs (option_and_then (λ q. said q.1 (kind_named q.0) (λ w. uses_from w rest)) form))) (sym is)
    go (Some q) is = idle_named rows p word rest q.0 q.1 (kind_named q.0) other is refl more
        ∙ ap (λ (form : Option (Text × Option Text)). after (held rows p)
        (λ rs. rows_of_uses rs (option_and_then (λ q. said q.1 (kind_named q.0) (λ w. uses_from w rest)) form))) (sym is)

-- ## An option that waits for its value

-- an option that still waits for its number is refused when it is settled
unsettled : (o : NumberOption) (rows : List Row) → settle_fault options false (held rows (Some (name_of o, []))) ≡ InvalidValue ∷ []
unsettled Workers rows = refl
unsettled Steps rows = refl
unsettled Segments rows = refl
unsettled Cells rows = refl
unsettled Size rows = refl

-- its value, where the word is one
valued : (o : NumberOption) (rows : List Row) (word : Text)
    → plain_word options (option (name_of o)) word (held rows (Some (name_of o, [])))
    ≡ (held rows (Some (name_of o, word ∷ [])), next idle)
valued Workers rows word = refl
valued Steps rows word = refl
valued Segments rows word = refl
valued Cells rows word = refl
valued Size rows word = refl

-- an option that has its number is settled by a use of it
settled_value : (o : NumberOption) (rows : List Row) (word : Text) (f : List Row → Option (List Row))
    → after (held rows (Some (name_of o, word ∷ []))) f
    ≡ then_rows (use_fault false (rule_for (number o)) (word ∷ []) rows) (used (rule_for (number o)) (word ∷ []) rows) f
settled_value Workers rows word f = refl
settled_value Steps rows word f = refl
settled_value Segments rows word f = refl
settled_value Cells rows word f = refl
settled_value Size rows word f = refl

-- a word with a name leaves it without one
waiting_named : (o : NumberOption) (rows : List Row) (word name : Text) (rest : List Text) (v : Option Text) (k : Option Kind)
    → bytes_eq word dashes ≡ false → long_of word ≡ Some (name, v) → kind_named name ≡ k
    → ends_from (at (option (name_of o)) (held rows (Some (name_of o, [])))) (word ∷ rest) ≡ None
waiting_named o rows word name rest v k other is kind = go k v
    (fault_by_name (option (name_of o)) word name v (held rows (Some (name_of o, []))) k other is kind)
  where
    go : (k : Option Kind) (v : Option Text) → turn_fault shape [] (at (option (name_of o)) (held rows (Some (name_of o, [])))) word
        ≡ named_fault (option (name_of o)) word (held rows (Some (name_of o, []))) v (option_map rule_for k)
        → ends_from (at (option (name_of o)) (held rows (Some (name_of o, [])))) (word ∷ rest) ≡ None
    go None v fault = stops _ word rest UnknownArgument [] fault
    go (Some (number p)) (Some t) fault = stops _ word rest InvalidValue []
        (fault ∙ ap (λ (s : Kinds). or_else (or_else s (use_fault false (rule_for (number p)) (t ∷ [])
        (settled options (held rows (Some (name_of o, [])))).rows)) []) (unsettled o rows))
    go (Some (number p)) None fault = stops _ word rest InvalidValue [] (fault ∙ ap (λ (s : Kinds). or_else s []) (unsettled o rows))
    go (Some flag) (Some t) fault = stops _ word rest TooManyValues [] fault
    go (Some flag) None fault = stops _ word rest InvalidValue []
        (fault ∙ ap (λ (s : Kinds). or_else (or_else s (use_fault false (rule_for flag) []
        (settled options (held rows (Some (name_of o, [])))).rows)) []) (unsettled o rows))

-- a walk where an option waits for its number ends, from any word but `--` on, with the rows of the uses that the words say
waiting_word : (o : NumberOption) (rows : List Row) (word : Text) (rest : List Text) → bytes_eq word dashes ≡ false → Ended rest
    → ends_from (at (option (name_of o)) (held rows (Some (name_of o, [])))) (word ∷ rest)
    ≡ rows_of_uses rows (uses_from (Some o) (word ∷ rest))
waiting_word o rows word rest other more = go (long_of word) (has_flags (short_of word)) refl refl
  where
    go : (form : Option (Text × Option Text)) (b : Bool) → long_of word ≡ form → has_flags (short_of word) ≡ b
        → ends_from (at (option (name_of o)) (held rows (Some (name_of o, [])))) (word ∷ rest)
        ≡ rows_of_uses rows (cond (not (is_some (long_of word)) && not (has_flags (short_of word)))
        (option_map (λ us. (number o, word) ∷ us) (uses_from None rest)) None)
    go (Some q) b is e = waiting_named o rows word q.0 rest q.1 (kind_named q.0) other is refl
        ∙ ap (λ (form : Option (Text × Option Text)). rows_of_uses rows (cond (not (is_some form) && not (has_flags (short_of word)))
        (option_map (λ us. (number o, word) ∷ us) (uses_from None rest)) None)) (sym is)
    go None true is e =
        let hit = flagged (option (name_of o)) word rows (Some (name_of o, [])) (short_of word) e in
        stops _ word rest UnknownArgument hit.0
        (fault_is (option (name_of o)) word (held rows (Some (name_of o, []))) None other is ∙ hit.1)
        ∙ ap₂ (λ (form : Option (Text × Option Text)) (c : Bool). rows_of_uses rows (cond (not (is_some form) && not c)
        (option_map (λ us. (number o, word) ∷ us) (uses_from None rest)) None)) (sym is) (sym e)
    go None false is e =
        goes_on (at (option (name_of o)) (held rows (Some (name_of o, [])))) (at idle (held rows (Some (name_of o, word ∷ [])))) word rest
        (fault_is (option (name_of o)) word (held rows (Some (name_of o, []))) None other is
        ∙ plain_fault (option (name_of o)) word rows (Some (name_of o, [])) (short_of word) e
        ∙ ap (λ (met : Held × Step). step_fault shape 1 met.0 met.1) (valued o rows word))
        (walk_is (option (name_of o)) word (held rows (Some (name_of o, []))) None other is
        ∙ plain_walk (option (name_of o)) word rows (Some (name_of o, [])) (short_of word) e
        ∙ ap (λ (met : Held × Step). after_step options word (at (option (name_of o)) (held rows (Some (name_of o, [])))) met.0 met.1)
        (valued o rows word))
        ∙ more.idly rows (Some (name_of o, word ∷ []))
        ∙ settled_value o rows word (λ rs. rows_of_uses rs (uses_from None rest))
        ∙ sym (unless_then (use_fault false (rule_for (number o)) (word ∷ []) rows) (used (rule_for (number o)) (word ∷ []) rows)
        (rows_of_uses (used (rule_for (number o)) (word ∷ []) rows) (uses_from None rest)) (λ rs. rows_of_uses rs (uses_from None rest))
        refl)
        ∙ once_number o word rows (λ rs. rows_of_uses rs (uses_from None rest))
        ∙ uses_head (number o) word rows (uses_from None rest)
        ∙ ap₂ (λ (form : Option (Text × Option Text)) (c : Bool). rows_of_uses rows (cond (not (is_some form) && not c)
        (option_map (λ us. (number o, word) ∷ us) (uses_from None rest)) None)) (sym is) (sym e)

-- a walk that ends where an option waits for its number gives no rows
no_value : (o : NumberOption) (rows : List Row) → ends_from (at (option (name_of o)) (held rows (Some (name_of o, [])))) [] ≡ None
unfolding walk_fault
no_value Workers rows = refl
no_value Steps rows = refl
no_value Segments rows = refl
no_value Cells rows = refl
no_value Size rows = refl

-- where not one of two holds, the first does not
or_false : (a b : Bool) → (a || b) ≡ false → a ≡ false
or_false true b e = absurd (true≢false e)
or_false false b e = refl

-- where not one of two holds, the second does not
or_false_right : (a b : Bool) → (a || b) ≡ false → b ≡ false
or_false_right true b e = absurd (true≢false e)
or_false_right false b e = e

-- without a word `--`, the walk over the words ends with the rows of the uses that they say
pub ended : (words : List Text) → has_dashes words ≡ false → Ended words
unfolding walk_fault
ended [] none = record { idly = λ rows p. refl; waiting = λ o rows. no_value o rows }
ended (word ∷ rest) none =
    let here : bytes_eq word dashes ≡ false = or_false (bytes_eq word dashes) (has_dashes rest) none in
    let more : has_dashes rest ≡ false = or_false_right (bytes_eq word dashes) (has_dashes rest) none in
    let read = ended rest more in
    record {
      idly = λ rows p. idle_word rows p word rest here read;
      waiting = λ o rows. waiting_word o rows word rest here read;
    }
