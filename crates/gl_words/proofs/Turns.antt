-- One turn of clap's walk over the words of these options.
use Rattle.std.proofs.Common.{◌≡◌, ◌∙◌, ◌&&◌, ◌||◌, ℕ, Bool, true, false, cond, refl, sym, ap, ap₂, append-nil, List, [], ◌∷◌, ◌++◌, Option, Some, None, codes, option_map}
use Rattle.std.specs.Prelude.{if◌then◌else◌, fold}
use Rattle.std.specs.Str.{bytes_eq}
use Rattle.std.proofs.lemmas.Slice.Eq.{bytes_eq-Decides}
use Rattle.clap.specs.Lexer.{long_of}
use Rattle.clap.specs.Faults.{flag_word_fault, settle_fault, step_fault, turn_fault, use_fault, walk_fault}
use Rattle.clap.specs.Kinds.{Kinds, or_else}
use Rattle.clap.specs.Walk.{Held, Row, Step, Text, Waiting, Walk, after_step, arg_by_long, at_row, has_row, idle, more_values, with_values, long_or_other, option, positional, settled, trailing, used, walked, without}
use Rattle.clap.specs.declared.builder.value_parser.Reading.TheVariants.{AsWritten}
use Rattle.clap.specs.declared.error.kind.ErrorKind.{ErrorKind}
use Rattle.clap.specs.declared.parser.matches.ValueSource.TheVariants.{CommandLine}
use Rattle.clap.specs.declared.error.kind.ErrorKind.TheVariants.{ArgumentConflict}
use Rattle.gl_words.specs.App.{name_of}
use Rattle.gl_words.specs.Options.{Word}
use Rattle.gl_words.specs.declared.options.NumberOption.{NumberOption}
use Rattle.gl_words.specs.declared.options.NumberOption.TheVariants.{Workers, Steps, Segments, Cells, Size}
use Rattle.gl_words.proofs.Uses.{Kind, flag, id_of, kind_named, number, options, repeated, row_of, rule_for, shape, text_of, then_rows}

-- ## Which option a name finds

-- bytes are compared the same way round and the other
flip : (a b : List ℕ) → bytes_eq a b ≡ bytes_eq b a
flip a b = go (bytes_eq a b) (bytes_eq b a) refl refl
  where
    go : (x y : Bool) → bytes_eq a b ≡ x → bytes_eq b a ≡ y → x ≡ y
    go true true one two = refl
    go false false one two = refl
    go true false one two =
        let other : bytes_eq b a ≡ true = (bytes_eq-Decides b a).1 (sym ((bytes_eq-Decides a b).0 one)) in
        absurd (cc)
    go false true one two =
        let other : bytes_eq a b ≡ true = (bytes_eq-Decides a b).1 (sym ((bytes_eq-Decides b a).0 two)) in
        absurd (cc)

-- the rule that clap finds by a name is that of the option of this name
pub found : (name : Word) → arg_by_long options name ≡ option_map rule_for (kind_named name)
found name = rw (
  flip (codes "workers") name,
  flip (codes "steps") name,
  flip (codes "segments") name,
  flip (codes "cells") name,
  flip (codes "size") name,
  flip (codes "journal") name,
) (go (bytes_eq name (codes "workers")) (bytes_eq name (codes "steps")) (bytes_eq name (codes "segments")) (bytes_eq name (codes "cells"))
    (bytes_eq name (codes "size")) (bytes_eq name (codes "journal")))
  where
    go : (a b c d e f : Bool) → cond (a || false) (Some (rule_for (number Workers))) (cond (b || false) (Some (rule_for (number Steps)))
        (cond (c || false) (Some (rule_for (number Segments))) (cond (d || false) (Some (rule_for (number Cells)))
        (cond (e || false) (Some (rule_for (number Size))) (cond (f || false) (Some (rule_for flag)) None)))))
        ≡ option_map rule_for
        (elim (cond a (Some Workers) (cond b (Some Steps) (cond c (Some Segments) (cond d (Some Cells) (cond e (Some Size) None))))) [
          | Some o ↦ Some (number o)
          | None ↦ cond f (Some flag) None
        ])
    go true b c d e f = refl
    go false true c d e f = refl
    go false false true d e f = refl
    go false false false true e f = refl
    go false false false false true f = refl
    go false false false false false true = refl
    go false false false false false false = refl

-- ## One use

-- a change of a row that is not there puts a new one at the end
pub row_absent : (id : Text) (change : Row → List Row) (missing rows : List Row) → has_row id rows ≡ false
    → at_row id change missing rows ≡ rows ++ missing
row_absent id change missing [] none = refl
row_absent id change missing (r ∷ rs) none = go (bytes_eq r.id id) none (row_absent id change missing rs)
  where
    go : (b : Bool) → (b || has_row id rs) ≡ false → (has_row id rs ≡ false → at_row id change missing rs ≡ rs ++ missing)
        → cond b (change r ++ rs) (r ∷ at_row id change missing rs) ≡ r ∷ (rs ++ missing)
    go true e more = absurd (cc)
    go false e more = ap (λ (xs : List Row). r ∷ xs) (more e)

-- the only fault of a use is that it is a second one
alone : (b : Bool) → or_else (cond (b && true) (ArgumentConflict ∷ []) []) [] ≡ cond b (ArgumentConflict ∷ []) []
alone true = refl
alone false = refl

-- a use of an option with a number is refused exactly as a second one
pub use_of_number : (o : NumberOption) (t : Text) (rows : List Row)
    → use_fault false (rule_for (number o)) (t ∷ []) rows ≡ repeated (name_of o) rows
use_of_number Workers t rows = alone (has_row (codes "workers") rows)
use_of_number Steps t rows = alone (has_row (codes "steps") rows)
use_of_number Segments t rows = alone (has_row (codes "segments") rows)
use_of_number Cells t rows = alone (has_row (codes "cells") rows)
use_of_number Size t rows = alone (has_row (codes "size") rows)

-- a use of the option without a number is refused exactly as a second one
pub use_of_flag : (rows : List Row) → use_fault false (rule_for flag) [] rows ≡ repeated (codes "journal") rows
use_of_flag rows = alone (has_row (codes "journal") rows)

-- a first use adds its row
put : (k : Kind) (t : Text) (rows : List Row) → has_row (id_of k) rows ≡ false
    → with_values (id_of k) AsWritten CommandLine (text_of k t ∷ []) (without (id_of k) rows) ≡ rows ++ row_of k t ∷ []
put k t rows none =
    let same : without (id_of k) rows ≡ rows = row_absent (id_of k) (λ _. []) [] rows none ∙ append-nil rows in
    ap (with_values (id_of k) AsWritten CommandLine (text_of k t ∷ [])) same
    ∙ row_absent (id_of k) (more_values CommandLine (text_of k t ∷ [])) (row_of k t ∷ []) rows none

-- the first use of an option with a number puts its row at the end
pub used_number : (o : NumberOption) (t : Text) (rows : List Row) → has_row (name_of o) rows ≡ false
    → used (rule_for (number o)) (t ∷ []) rows ≡ rows ++ row_of (number o) t ∷ []
used_number Workers t rows none = put (number Workers) t rows none
used_number Steps t rows none = put (number Steps) t rows none
used_number Segments t rows none = put (number Segments) t rows none
used_number Cells t rows none = put (number Cells) t rows none
used_number Size t rows none = put (number Size) t rows none

-- the first use of the option without a number puts its row at the end
pub used_flag : (rows : List Row) → has_row (codes "journal") rows ≡ false
    → used (rule_for flag) [] rows ≡ rows ++ row_of flag (codes "true") ∷ []
used_flag rows none = put flag (codes "true") rows none

-- ## One word

-- what the walk holds: rows, and the option that waits to be settled, if any
abbrev pub held : List Row → Option (Text × List Text) → Held
held rows pending = record { rows = rows; pending = pending; skip = 0 }

-- the walk where it waits for this and holds that, on its way through the words
abbrev pub at : Waiting → Held → Walk
at waiting h = record { held = h; waiting = waiting; position = 1; is_trailing = false; stopped = None }

-- the word `--`
abbrev pub dashes : Text
dashes = 45 ∷ 45 ∷ []

-- what a word is, where it is `--` or not, and of this form
abbrev pub met_at : Waiting → Text → Held → Bool → Option (Text × Option Text) → Held × Step
met_at waiting word h is_dashes form = if is_dashes then (h, trailing 1) else long_or_other options waiting word form h

-- the faults of a turn on a word of this form, where it is `--` or not
abbrev pub fault_at : Waiting → Text → Held → Bool → Option (Text × Option Text) → Kinds
fault_at waiting word h is_dashes form = or_else (if is_dashes then [] else flag_word_fault options false form word h)
    (step_fault shape 1 (met_at waiting word h is_dashes form).0 (met_at waiting word h is_dashes form).1)

-- the walk after a turn on a word of this form, where it is `--` or not
abbrev pub walk_at : Waiting → Text → Held → Bool → Option (Text × Option Text) → Walk
walk_at waiting word h is_dashes form = after_step options word (at waiting h) (met_at waiting word h is_dashes form).0
    (met_at waiting word h is_dashes form).1

-- the name and the value of a word of a long form, if it is one
abbrev pub Form : Type 0
Form = Option (Text × Option Text)

-- the faults of a turn on a word other than `--` are those of its form
pub fault_is : (w : Waiting) (word : Text) (h : Held) (form : Form) → bytes_eq word dashes ≡ false → long_of word ≡ form
    → turn_fault shape [] (at w h) word ≡ fault_at w word h false form
fault_is idle word h form other is = ap₂ (fault_at idle word h) other is
fault_is (option id) word h form other is = ap₂ (fault_at (option id) word h) other is
fault_is positional word h form other is = ap₂ (fault_at positional word h) other is

-- the walk after a turn on a word other than `--` is that of its form
pub walk_is : (w : Waiting) (word : Text) (h : Held) (form : Form) → bytes_eq word dashes ≡ false → long_of word ≡ form
    → walked options [] (at w h) word ≡ walk_at w word h false form
unfolding walked
walk_is idle word h form other is = ap₂ (walk_at idle word h) other is
walk_is (option id) word h form other is = ap₂ (walk_at (option id) word h) other is
walk_is positional word h form other is = ap₂ (walk_at positional word h) other is

-- ## All words

-- the rows at the end of a walk, where nothing failed on the way
abbrev pub rows_settled : Held → Option (List Row)
rows_settled h = then_rows (settle_fault options false h) (settled options h).rows Some

-- the rows of a walk that has ended, where it had no fault
abbrev pub rows_ended : Kinds → Held → Option (List Row)
rows_ended [] h = rows_settled h
rows_ended (k ∷ ks) h = None

-- the rows that a walk ends with, over these words, where nothing is refused
abbrev pub ends_from : Walk → List Text → Option (List Row)
ends_from w words = rows_ended (walk_fault shape [] w words) (fold (walked options []) w words).held

-- a word without a fault leads the walk on to where it ends over the other words
pub goes_on : (w v : Walk) (word : Text) (rest : List Text) → turn_fault shape [] w word ≡ [] → walked options [] w word ≡ v
    → ends_from w (word ∷ rest) ≡ ends_from v rest
unfolding walk_fault
goes_on w v word rest clear on =
    ap (λ (ks : Kinds). rows_ended (or_else ks (walk_fault shape [] (walked options [] w word) rest))
    (fold (walked options []) (walked options [] w word) rest).held) clear
    ∙ ap (λ (u : Walk). ends_from u rest) on

-- a word with a fault ends the walk with no rows
pub stops : (w : Walk) (word : Text) (rest : List Text) (k : ErrorKind) (ks : Kinds) → turn_fault shape [] w word ≡ k ∷ ks
    → ends_from w (word ∷ rest) ≡ None
unfolding walk_fault
stops w word rest k ks fault =
    ap (λ (fs : Kinds). rows_ended (or_else fs (walk_fault shape [] (walked options [] w word) rest))
    (fold (walked options []) (walked options [] w word) rest).held) fault
