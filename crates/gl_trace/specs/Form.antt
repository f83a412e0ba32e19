-- The forms of lines: the word that tells each, the greatest operand, and what a line of the form says.
use Rattle.std.specs.Prelude.{ℕ, ◌-◌, List, [], ◌∷◌, Result, Ok, Err, true, false, bytes_eq, codes, if◌then◌else◌}
use Rattle.gl_model.specs.declared.event.Act.TheVariants.{Acq, Rel, VRead, VWrite, Fork, Join}
use Rattle.gl_model.specs.declared.row.Item.{Item}
use Rattle.gl_model.specs.declared.row.Item.TheVariants.{Act as Acts, Access}
use Rattle.gl_model.specs.declared.limits.TheConstants.{THREADS, MONITORS, VOLATILES, VARIABLES}
use Rattle.gl_text.specs.declared.kinds.TheConstants.{UNKNOWN_WORD}
use Rattle.gl_trace.specs.declared.form.Form.{Form}
use Rattle.gl_trace.specs.declared.form.Form.TheVariants.{One, Commit}
use Rattle.gl_trace.specs.declared.form.Verb.{Verb}
use Rattle.gl_trace.specs.declared.form.Verb.TheVariants as verbs

-- the table of forms
abbrev pub forms : List (List ℕ × Form)
forms =
    (codes "rd", One verbs.Read) ∷ (codes "wr", One verbs.Write)
    ∷ (codes "acq", One verbs.Acquire) ∷ (codes "rel", One verbs.Release)
    ∷ (codes "vr", One verbs.VolatileRead) ∷ (codes "vw", One verbs.VolatileWrite)
    ∷ (codes "fork", One verbs.Fork) ∷ (codes "join", One verbs.Join)
    ∷ (codes "commit", Commit) ∷ []

abbrev pub form_in : List (List ℕ × Form) → List ℕ → Result Form ℕ
form_in [] word = Err UNKNOWN_WORD
form_in (f ∷ fs) word = if bytes_eq word f.0 then Ok f.1 else form_in fs word

abbrev pub form_of : List ℕ → Result Form ℕ
form_of word = form_in forms word

-- the greatest operand
abbrev pub most_of : Verb → ℕ
most_of verbs.Read = VARIABLES - 1
most_of verbs.Write = VARIABLES - 1
most_of verbs.Acquire = MONITORS - 1
most_of verbs.Release = MONITORS - 1
most_of verbs.VolatileRead = VOLATILES - 1
most_of verbs.VolatileWrite = VOLATILES - 1
most_of verbs.Fork = THREADS - 1
most_of verbs.Join = THREADS - 1

abbrev pub item_of : Verb → ℕ → Item
item_of verbs.Read n = Access n false
item_of verbs.Write n = Access n true
item_of verbs.Acquire n = Acts (Acq n)
item_of verbs.Release n = Acts (Rel n)
item_of verbs.VolatileRead n = Acts (VRead n)
item_of verbs.VolatileWrite n = Acts (VWrite n)
item_of verbs.Fork n = Acts (Fork n 0)
item_of verbs.Join n = Acts (Join n)
