-- Where clap refuses the words, and what it keeps of them where it does not, by what the words say.
use Rattle.std.proofs.Common.{◌≡◌, ◌∙◌, ◌||◌, Bool, true, false, cond, refl, sym, ap, ap₂, List, [], ◌∷◌, ◌++◌, Option, Some, None, codes, subst}
use Rattle.std.specs.Prelude.{fold, is_some, option_and_then, slice_get}
use Rattle.std.specs.Str.{bytes_eq}
use Rattle.clap.specs.Faults.{check_fault, default_fault, defaults_fault, entered_fault, fault_of, settle_fault, walk_fault}
use Rattle.clap.specs.Kinds.{IsAmong, Kinds, or_else}
use Rattle.clap.proofs.WalkLemmas.{first_value-rows}
use Rattle.clap.specs.Matches.{first_value}
use Rattle.clap.specs.declared.parser.matches.Found.{Found}
use Rattle.clap.specs.Simple.{built, entered, matches_of}
use Rattle.clap.specs.Values.{bool_text}
use Rattle.clap.specs.Walk.{Held, Row, Rule, Text, Walk, at_row, first_of, has_row, idle, more_values, nothing_held, one_of, row_text, rows_of, settled, walked, with_default}
use Rattle.clap.specs.declared.builder.value_parser.Reading.TheVariants.{AsWritten}
use Rattle.clap.specs.declared.error.kind.ErrorKind.{ErrorKind}
use Rattle.clap.specs.declared.parser.matches.ValueSource.TheVariants.{DefaultValue}
use Rattle.gl_words.specs.App.{has_dashes, name_of, options_app}
use Rattle.gl_words.specs.Options.{nothing_given, read_options}
use Rattle.gl_words.specs.Texts.{given_texts, number_in}
use Rattle.gl_words.specs.declared.options.NumberOption.{NumberOption}
use Rattle.gl_words.specs.declared.options.NumberOption.TheVariants.{Workers, Steps, Segments, Cells, Size}
use Rattle.gl_words.proofs.Ends.{ended}
use Rattle.gl_words.proofs.Readings.{find_other, find_own, journal_there, made, reads, rows_for, same_numbers, taken}
use Rattle.gl_words.proofs.Said.{gives, said_by_uses}
use Rattle.gl_words.proofs.Turns.{at, ends_from, row_absent, rows_ended}
use Rattle.gl_words.proofs.Uses.{Use, flag, number, options, rows_of_uses, rule_for, shape, then_rows, uses_from}

-- ## What building the command leaves to fail after the walk: nothing but the last use

-- an option with a number is not refused for what it is when it is not given
default_of_number : (o : NumberOption) (rows : List Row) → default_fault rows (rule_for (number o)) ≡ []
default_of_number o rows = go (has_row (name_of o) rows)
  where
    go : (b : Bool) → ◌≡◌ {A = Kinds} (cond (b || true) [] (or_else [] [])) []
    go true = refl
    go false = refl

-- an option with a number adds no row when it is not given
kept_by_number : (o : NumberOption) (rows : List Row) → with_default rows (rule_for (number o)) ≡ rows
kept_by_number o rows = go (has_row (name_of o) rows)
  where
    go : (b : Bool) → cond b rows rows ≡ rows
    go true = refl
    go false = refl

-- the option without a number is not refused for what it is when it is not given
default_of_flag : (rows : List Row) → default_fault rows (rule_for flag) ≡ []
default_of_flag rows = go (has_row (codes "journal") rows)
  where
    go : (b : Bool) → ◌≡◌ {A = Kinds} (cond (b || false) [] (or_else [] [])) []
    go true = refl
    go false = refl

-- an option with a number adds no fault to those of the options that are not given
pass_number : (o : NumberOption) (rows : List Row) (rest : List Rule)
    → defaults_fault rows (rule_for (number o) ∷ rest) ≡ defaults_fault rows rest
unfolding defaults_fault
pass_number o rows rest =
    ap₂ (λ (ks : Kinds) (more : List Row). or_else ks (defaults_fault more rest)) (default_of_number o rows) (kept_by_number o rows)

-- the option without a number, as the last one, adds no fault to those of the options that are not given
pass_flag : (rows : List Row) → defaults_fault rows (rule_for flag ∷ []) ≡ []
unfolding defaults_fault
pass_flag rows = ap (λ (ks : Kinds). or_else ks []) (default_of_flag rows)

-- no option is refused for what it is when it is not given
no_default_fault : (rows : List Row) → defaults_fault rows options ≡ []
no_default_fault rows = pass_number Workers rows _ ∙ pass_number Steps rows _ ∙ pass_number Segments rows _ ∙ pass_number Cells rows _
    ∙ pass_number Size rows _ ∙ pass_flag rows

-- an option with a number adds nothing to the rows at the end
finish_number : (o : NumberOption) (rows : List Row) (rest : List Rule)
    → fold with_default rows (rule_for (number o) ∷ rest) ≡ fold with_default rows rest
finish_number o rows rest = ap (λ (more : List Row). fold with_default more rest) (kept_by_number o rows)

-- the last of the options
abbrev last_one : List Rule
last_one = rule_for flag ∷ []

-- the last two options
abbrev last_two : List Rule
last_two = rule_for (number Size) ∷ last_one

-- the last three options
abbrev last_three : List Rule
last_three = rule_for (number Cells) ∷ last_two

-- the last four options
abbrev last_four : List Rule
last_four = rule_for (number Segments) ∷ last_three

-- the last five options
abbrev last_five : List Rule
last_five = rule_for (number Steps) ∷ last_four

-- only the option without a number has a text where it is not given
finish : (rows : List Row) → fold with_default rows options ≡ with_default rows (rule_for flag)
finish rows = finish_number Workers rows last_five ∙ finish_number Steps rows last_four ∙ finish_number Segments rows last_three
    ∙ finish_number Cells rows last_two ∙ finish_number Size rows last_one

-- the walk after all words
abbrev walk_end : List Text → Walk
walk_end words = fold (walked options []) (at idle nothing_held) words

-- no subcommand is refused, as there are none
no_subcommand : (stop : Option (Text × List Text)) → entered_fault (built options_app) stop ≡ []
no_subcommand None = refl
no_subcommand (Some p) = refl

-- no subcommand is entered, as there are none
not_entered : (stop : Option (Text × List Text)) → is_some (entered (built options_app) stop) ≡ false
not_entered None = refl
not_entered (Some p) = refl

-- faults, or else none, are those faults
or_nothing : (ks : Kinds) → or_else ks [] ≡ ks
or_nothing [] = refl
or_nothing (k ∷ ks) = refl

-- the faults of words are those of the walk over them, and else those of settling what waits at its end
faults : (words : List Text) → fault_of options_app words
    ≡ or_else (walk_fault shape [] (at idle nothing_held) words) (settle_fault options false (walk_end words).held)
faults words =
    let w = walk_fault shape [] (at idle nothing_held) words in
    let end = (walk_end words).held in
    let s = settle_fault options false end in
    let stop = (walk_end words).stopped in
    ap₂ (λ (below : Kinds) (d : Kinds). or_else w
    (or_else below (or_else s (or_else d (check_fault shape (fold with_default (settled options end).rows options)
    (is_some (entered (built options_app) stop))))))) (no_subcommand stop) (no_default_fault (settled options end).rows)
    ∙ ap (λ (b : Bool). or_else w (or_else s (check_fault shape (fold with_default (settled options end).rows options) b)))
    (not_entered stop)
    ∙ ap (or_else w) (or_nothing s)

-- ## The rows at the end

-- the row of the option without a number where it is not given
abbrev default_row : Row
default_row = record { id = codes "journal"; values = codes "false" ∷ []; count = None; source = Some DefaultValue; reading = AsWritten }

-- the rows with one of the option without a number, where they had none
abbrev with_journal : List Row → List Row
with_journal rows = with_default rows (rule_for flag)

-- rows without one of the option without a number get its row for what is not given
added : (rows : List Row) → has_row (codes "journal") rows ≡ false → with_journal rows ≡ rows ++ default_row ∷ []
added rows none = ap
    (λ (b : Bool). cond b rows (at_row (codes "journal") (more_values DefaultValue (codes "false" ∷ [])) (default_row ∷ []) rows)) none
    ∙ row_absent (codes "journal") (more_values DefaultValue (codes "false" ∷ [])) (default_row ∷ []) rows none

-- rows with one of the option without a number stay as they are
stays : (rows : List Row) → has_row (codes "journal") rows ≡ true → with_journal rows ≡ rows
stays rows has = ap (λ (b : Bool). cond b rows
    (at_row (codes "journal") (more_values DefaultValue (codes "false" ∷ [])) (default_row ∷ []) rows)) has

-- the row that is added for the option without a number changes no other option's text
text_stays : (id : Text) (rows : List Row) → bytes_eq (codes "journal") id ≡ false → first_of id (with_journal rows) ≡ first_of id rows
text_stays id rows other = go (has_row (codes "journal") rows) refl
  where
    go : (b : Bool) → has_row (codes "journal") rows ≡ b → first_of id (with_journal rows) ≡ first_of id rows
    go true e = ap (first_of id) (stays rows e)
    go false e = ap (first_of id) (added rows e)
        ∙ ap (option_and_then (λ r. slice_get r.values 0)) (find_other (λ r. bytes_eq r.id id) rows default_row other)

-- the one text of the option without a number says whether it was used
journal_said : (us : List Use)
    → one_of (codes "journal") (with_journal (rows_for us)) ≡ Some (bool_text (has_row (codes "journal") (rows_for us)))
journal_said us = go (has_row (codes "journal") (rows_for us)) refl
  where
    go : (b : Bool) → has_row (codes "journal") (rows_for us) ≡ b
        → one_of (codes "journal") (with_journal (rows_for us)) ≡ Some (bool_text (has_row (codes "journal") (rows_for us)))
    go true e = ap (one_of (codes "journal")) (stays (rows_for us) e) ∙ journal_there us e ∙ sym (ap (λ (b : Bool). Some (bool_text b)) e)
    go false e = ap (one_of (codes "journal")) (added (rows_for us) e)
        ∙ ap (option_and_then row_text) (find_own (λ r. bytes_eq r.id (codes "journal")) (rows_for us) default_row e refl)
        ∙ sym (ap (λ (b : Bool). Some (bool_text b)) e)

-- ## The laws

-- what a walk ends in, by the faults on the way and at its end
abbrev rows_ended_by : Kinds → Kinds → List Row → Option (List Row)
rows_ended_by [] s rows = then_rows s rows (λ rs. Some rs)
rows_ended_by (k ∷ ks) s rows = None

-- the rows that the walk over all words ends with, if nothing is refused
abbrev ends : List Text → Option (List Row)
ends words = ends_from (at idle nothing_held) words

-- without a word `--`, all words end with the rows of the uses that they say
ends_is : (words : List Text) → has_dashes words ≡ false → ends words ≡ rows_of_uses [] (uses_from None words)
ends_is words none = (ended words none).idly [] None

-- what the walk ends with is told by its faults, by those of settling and by the rows then
by_faults : (w : Kinds) (h : Held) → rows_ended w h ≡ rows_ended_by w (settle_fault options false h) (settled options h).rows
by_faults [] h = refl
by_faults (k ∷ ks) h = refl

-- what all words end with is told by the faults of the walk, by those of settling and by the rows at its end
ends_by : (words : List Text) → ends words
    ≡ rows_ended_by (walk_fault shape [] (at idle nothing_held) words) (settle_fault options false (walk_end words).held)
    (settled options (walk_end words).held).rows
ends_by words = by_faults (walk_fault shape [] (at idle nothing_held) words) (walk_end words).held

-- what the words say is read off the rows at the end
said_is : (words : List Text) → has_dashes words ≡ false → read_options nothing_given words ≡ option_and_then reads (ends words)
said_is words none = said_by_uses words nothing_given ∙ sym (ap (option_and_then reads) (ends_is words none) ∙ go (uses_from None words))
  where
    go : (us : Option (List Use)) → option_and_then reads (rows_of_uses [] us) ≡ option_and_then (gives nothing_given) us
    go None = refl
    go (Some us) = taken us [] [] refl

-- clap refuses nothing that says something
pub refused : (words : List Text) (k : ErrorKind) → has_dashes words ≡ false → IsAmong k (fault_of options_app words)
    → read_options nothing_given words ≡ None
refused words k none among = said_is words none ∙ ap (option_and_then reads)
    (ends_by words ∙ go (walk_fault shape [] (at idle nothing_held) words) (settle_fault options false (walk_end words).held)
    (subst (IsAmong k) (faults words) among))
  where
    go : (w s : Kinds) → IsAmong k (or_else w s) → rows_ended_by w s (settled options (walk_end words).held).rows ≡ None
    go [] [] bad = absurd bad
    go [] (x ∷ xs) bad = refl
    go (x ∷ xs) s bad = refl

-- what clap keeps of words that it takes
pub record Kept (words : List Text) (asked : Bool) : Type 0 where
  pub journal : one_of (codes "journal") (matches_of options_app words) ≡ Some (bool_text asked)
  pub numbers : given_texts (λ o. first_of (name_of o) (matches_of options_app words)) asked ≡ read_options nothing_given words

-- the row that is added for the option without a number changes nothing of what the other options give
same_texts : (rows : List Row) (asked : Bool)
    → given_texts (λ o. first_of (name_of o) (with_journal rows)) asked ≡ given_texts (λ o. first_of (name_of o) rows) asked
same_texts rows asked = same_numbers (ap (number_in Workers) (text_stays (codes "workers") rows refl))
    (ap (number_in Steps) (text_stays (codes "steps") rows refl))
    (ap (number_in Segments) (text_stays (codes "segments") rows refl)) (ap (number_in Cells) (text_stays (codes "cells") rows refl))
    (ap (number_in Size) (text_stays (codes "size") rows refl)) refl

-- rows that were made from uses, one after another, are the rows of some uses
rows_of_made : (us : Option (List Use)) (rows : List Row) → rows_of_uses [] us ≡ Some rows → (all : List Use) × (rows ≡ rows_for all)
rows_of_made None rows is =
    let bad : None ≡ Some rows = is in
    absurd (cc)
rows_of_made (Some us) rows is = made us [] [] rows refl is

-- words without `--` that are not refused are kept as clap keeps them
pub kept : (words : List Text) → has_dashes words ≡ false → fault_of options_app words ≡ [] → (asked : Bool) × Kept words asked
kept words none clear =
    let rows = (settled options (walk_end words).held).rows in
    let end : ends words ≡ Some rows = ends_by words
    ∙ go (walk_fault shape [] (at idle nothing_held) words) (settle_fault options false (walk_end words).held) rows
    (sym (faults words) ∙ clear) in
    let all = rows_of_made (uses_from None words) rows (sym (ends_is words none) ∙ end) in
    let finished_is : matches_of options_app words ≡ with_journal rows = finish rows in (
      has_row (codes "journal") rows,
      record {
        journal = ap (one_of (codes "journal")) finished_is
            ∙ subst (λ (rs : List Row). one_of (codes "journal") (with_journal rs) ≡ Some (bool_text (has_row (codes "journal") rs)))
            (sym all.1) (journal_said all.0);
        numbers = ap (λ (rs : List Row). given_texts (λ o. first_of (name_of o) rs) (has_row (codes "journal") rows)) finished_is
            ∙ same_texts rows (has_row (codes "journal") rows) ∙ sym (said_is words none ∙ ap (option_and_then reads) end);
      },
    )
  where
    go : (w s : Kinds) (rows : List Row) → or_else w s ≡ [] → rows_ended_by w s rows ≡ Some rows
    go [] [] rows e = refl
    go [] (x ∷ xs) rows e = absurd (cc)
    go (x ∷ xs) s rows e = absurd (cc)

-- the texts that the code reads are those of the rows
pub found_texts : (f : Found) (rows : List Row) (asked : Bool) → rows_of f ≡ rows
    → given_texts (λ o. first_value f (name_of o)) asked ≡ given_texts (λ o. first_of (name_of o) rows) asked
found_texts f rows asked is = same_numbers (there Workers) (there Steps) (there Segments) (there Cells) (there Size) refl
  where
    there : (o : NumberOption) → number_in o (first_value f (name_of o)) ≡ number_in o (first_of (name_of o) rows)
    there o = ap (number_in o) (first_value-rows f (name_of o) ∙ ap (first_of (name_of o)) is)
