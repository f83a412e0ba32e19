-- What a text is answered.
use Rattle.std.specs.Prelude.{◌≡◌, ◌⊎◌, ℕ, List, Option, Some, None}
use Rattle.gl_names.specs.Names.{name_of}
use Rattle.gl_explain.specs.declared.told.Told.{Told}
use Rattle.gl_explain.specs.declared.told.First.{First}
use Rattle.gl_explain.specs.Answers.{RefusesTrace}
use Rattle.gl_explain.specs.First.{AreSought}
use Rattle.gl_picture.specs.declared.picture.Picture.{Picture}
use Rattle.gl_picture.specs.Drawn.{IsPicture}
use Rattle.gl_picture.specs.Texts.{picture_text, quiet_text}

-- the picture of the first race, with the names that the text itself gives
pub record Pictures (input : List ℕ) (told : List Told) (f : First) (status : ℕ) (bytes : List ℕ) : Type 0 where
  pub picture : Picture
  pub right : IsPicture told f picture
  pub status_is : status ≡ 6
  pub bytes_are : bytes ≡ picture_text (name_of input) f.explanation picture

-- the status and the bytes for a first race, if there is one
abbrev pub IsAnswered : List ℕ → List Told → Option First → ℕ → List ℕ → Type 0
IsAnswered input told None status bytes = (status ≡ 0) × (bytes ≡ quiet_text)
IsAnswered input told (Some f) status bytes = Pictures input told f status bytes

-- the status and the bytes for a text that is a trace
pub record PicturesTrace (input : List ℕ) (status : ℕ) (bytes : List ℕ) : Type 0 where
  pub told : List Told
  pub first : Option First
  pub sought : AreSought input told first
  pub answer : IsAnswered input told first status bytes

-- what a text is answered
abbrev pub PicturesText : List ℕ → ℕ → List ℕ → Type 0
PicturesText input status bytes = PicturesTrace input status bytes ⊎ RefusesTrace input status bytes
