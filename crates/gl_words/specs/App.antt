-- The options as clap's specification sees them.
use Rattle.std.specs.Prelude.{Bool, List, Some, true, bytes_eq, codes}
use Rattle.std.specs.List.{list_any}
use Rattle.clap.specs.Words.{App, Rule, new_app, new_rule, with_rule}
use Rattle.clap.specs.Simple.{on_top}
use Rattle.clap.specs.declared.builder.ArgAction.TheVariants.{Set, SetTrue}
use Rattle.gl_words.specs.Options.{Word}
use Rattle.gl_words.specs.declared.options.NumberOption.{NumberOption}
use Rattle.gl_words.specs.declared.options.NumberOption.TheVariants.{Workers, Steps, Segments, Cells, Size}

abbrev pub name_of : NumberOption → Word
name_of Workers = codes "workers"
name_of Steps = codes "steps"
name_of Segments = codes "segments"
name_of Cells = codes "cells"
name_of Size = codes "size"

-- an option that takes a number: its text is kept as it is
abbrev pub number_rule : NumberOption → Rule
number_rule o = record (new_rule (name_of o)) { long = Some (name_of o); action = Some Set }

abbrev pub journal_rule : Rule
journal_rule = record (new_rule (codes "journal")) { long = Some (codes "journal"); action = Some SetTrue }

-- the options alone: the words name no program, and there is no help
abbrev pub bare_app : App
bare_app = on_top (λ s. record s { no_binary_name = true; disable_help_flag = true }) (new_app (codes "goldi"))

abbrev pub options_app : App
options_app = with_rule (with_rule (with_rule (with_rule (with_rule (with_rule bare_app (number_rule Workers)) (number_rule Steps))
    (number_rule Segments)) (number_rule Cells)) (number_rule Size)) journal_rule

-- the word that clap would take for the end of the options
abbrev pub is_dashes : Word → Bool
is_dashes word = bytes_eq word (codes "--")

abbrev pub has_dashes : List Word → Bool
has_dashes = list_any is_dashes
