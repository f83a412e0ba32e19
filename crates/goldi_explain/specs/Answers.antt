-- What a text is answered.
use Rattle.std.specs.Prelude.{ℕ, List}
use Rattle.gl_audited.specs.declared.limits.TheConstants.{AUDIT_BYTES}
use Rattle.gl_explain.specs.Answers.{ExplainsText}
use Rattle.gl_pages.specs.Answers.{ExplainsAudit}
use Rattle.gl_picture.specs.Answers.{PicturesText}
use Rattle.gl_trace.specs.declared.limits.TheConstants.{TRACE_BYTES}
use Rattle.goldi_explain.specs.declared.words.Form.{Form}
use Rattle.goldi_explain.specs.declared.words.Form.TheVariants.{Text, Picture, Run}

-- the most bytes that are read
abbrev pub most_of : Form → ℕ
most_of Text = TRACE_BYTES
most_of Picture = TRACE_BYTES
most_of Run = AUDIT_BYTES

-- with the explanation of each race of a trace, with the picture of the first, or with the explanation of each race of a run
abbrev pub IsAnswered : Form → List ℕ → ℕ → List ℕ → Type 0
IsAnswered Text input status bytes = ExplainsText input status bytes
IsAnswered Picture input status bytes = PicturesText input status bytes
IsAnswered Run input status bytes = ExplainsAudit input status bytes
