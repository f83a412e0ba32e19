-- What a word of the command line asks for.
use Rattle.std.specs.Prelude.{ℕ, List, Option, Some, None, bytes_eq, codes, if◌then◌else◌}
use Rattle.goldi_explain.specs.declared.words.Form.{Form}
use Rattle.goldi_explain.specs.declared.words.Form.TheVariants.{Picture, Run}

abbrev pub form_of : List ℕ → Option Form
form_of word = if bytes_eq word (codes "--picture") then Some Picture else if bytes_eq word (codes "--run") then Some Run else None
