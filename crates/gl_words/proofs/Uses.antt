-- What words say in clap's reading of them, one word after another: a list of uses, with each option as often as it is named.
use Rattle.std.proofs.Common.{◌&&◌, Bool, not, List, [], ◌∷◌, ◌++◌, Option, Some, None, is_some, codes, option_map}
use Rattle.std.specs.Prelude.{if◌then◌else◌, option_and_then, slice_get}
use Rattle.std.specs.Str.{chars}
use Rattle.clap.specs.Lexer.{long_of, short_of}
use Rattle.clap.specs.Kinds.{Kinds}
use Rattle.clap.specs.Simple.{Shape, built, filled, with_index}
use Rattle.clap.specs.Walk.{Row, Rule, Text, has_row}
use Rattle.clap.specs.declared.builder.value_parser.Reading.TheVariants.{AsWritten}
use Rattle.clap.specs.declared.error.kind.ErrorKind.TheVariants.{ArgumentConflict}
use Rattle.clap.specs.declared.parser.matches.ValueSource.TheVariants.{CommandLine}
use Rattle.gl_words.specs.App.{journal_rule, name_of, number_rule, options_app}
use Rattle.gl_words.specs.Options.{Word, is_journal, option_named}
use Rattle.gl_words.specs.declared.options.NumberOption.{NumberOption}

-- an option that takes a number, or the one that takes none
pub data Kind : Type 0 where
  number : NumberOption → Kind
  flag : Kind

-- the name of an option
abbrev pub id_of : Kind → Text
id_of (number o) = name_of o
id_of flag = codes "journal"

-- the option of a name
abbrev pub kind_named : Word → Option Kind
kind_named name = elim (option_named name) [ Some o ↦ Some (number o) | None ↦ if is_journal name then Some flag else None ]

-- an option beside the text that is given for it
abbrev pub Use : Type 0
Use = Kind × Text

-- the word is no flag, so it may be an option's value
abbrev pub has_flags : Option Text → Bool
has_flags flags = is_some (option_and_then (λ f. slice_get (chars f) 0) flags)

-- a word that is neither of a long form nor flags
abbrev pub is_value : Text → Bool
is_value word = not (is_some (long_of word)) && not (has_flags (short_of word))

-- the uses that a name says, with the value beside it, and those of the words after it
abbrev pub said : Option Text → Option Kind → (Option NumberOption → Option (List Use)) → Option (List Use)
said v None more = None
said (Some t) (Some (number o)) more = option_map (λ us. (number o, t) ∷ us) (more None)
said None (Some (number o)) more = more (Some o)
said (Some t) (Some flag) more = None
said None (Some flag) more = option_map (λ us. (flag, codes "true") ∷ us) (more None)

-- the uses in the words, where the option in front, if there is one, waits for its value
abbrev pub uses_from : Option NumberOption → List Text → Option (List Use)
uses_from None [] = Some []
uses_from (Some o) [] = None
uses_from None (word ∷ rest) = option_and_then (λ p. said p.1 (kind_named p.0) (λ w. uses_from w rest)) (long_of word)
uses_from (Some o) (word ∷ rest) =
    if is_value word then option_map (λ us. (number o, word) ∷ us) (uses_from None rest) else None

-- ## The rows that clap makes of them

-- clap's shape of these options
abbrev pub shape : Shape
shape = (built options_app).top

-- the rules of the options, as clap has them
abbrev pub options : List Rule
options = shape.rules

-- clap's rule of an option
abbrev pub rule_for : Kind → Rule
rule_for (number o) = with_index 1 (filled (number_rule o))
rule_for flag = with_index 1 (filled journal_rule)

-- the text that is kept: the option without a number has none of its own
abbrev pub text_of : Kind → Text → Text
text_of (number o) t = t
text_of flag t = codes "true"

-- the row of an option that is given by a text
abbrev pub row_of : Kind → Text → Row
row_of k t = record { id = id_of k; values = text_of k t ∷ []; count = None; source = Some CommandLine; reading = AsWritten }

-- the fault of a second use of an option
abbrev pub repeated : Text → List Row → Kinds
repeated id rows = if has_row id rows then ArgumentConflict ∷ [] else []

-- what comes of rows where there is no fault
abbrev pub then_rows : Kinds → List Row → (List Row → Option (List Row)) → Option (List Row)
then_rows [] rows more = more rows
then_rows (k ∷ ks) rows more = None

-- the rows behind these with the uses, where none is a second one
abbrev pub rows_with : List Row → List Use → Option (List Row)
rows_with rows [] = Some rows
rows_with rows (u ∷ us) = then_rows (repeated (id_of u.0) rows) (rows ++ row_of u.0 u.1 ∷ []) (λ more. rows_with more us)

-- the rows after these with the rows of the uses, if there are uses and none is a second one
abbrev pub rows_of_uses : List Row → Option (List Use) → Option (List Row)
rows_of_uses rows = option_and_then (rows_with rows)
