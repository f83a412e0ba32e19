-- What the texts give that the options are given.
use Rattle.std.specs.Prelude.{ℕ, Bool, Option, Some, None, option_and_then, option_map}
use Rattle.gl_words.specs.Options.{Word, number_of}
use Rattle.gl_words.specs.declared.options.Given.{Given}
use Rattle.gl_words.specs.declared.options.NumberOption.{NumberOption}
use Rattle.gl_words.specs.declared.options.NumberOption.TheVariants.{Workers, Steps, Segments, Cells, Size}

-- a text that is there has to be a number of the option
abbrev pub number_in : NumberOption → Option Word → Option (Option ℕ)
number_in o None = Some None
number_in o (Some text) = option_map (λ n. Some n) (number_of o text)

abbrev pub given_numbers : Option (Option ℕ) → Option (Option ℕ) → Option (Option ℕ) → Option (Option ℕ) → Option (Option ℕ) → Bool
    → Option Given
given_numbers workers steps segments cells size journal = option_and_then (λ a. option_and_then (λ b. option_and_then (λ c.
    option_and_then (λ d. option_map (λ e. record {
      workers = a;
      steps = b;
      segments = c;
      cells = d;
      size = e;
      journal = journal;
    }) size) cells) segments) steps) workers

-- the numbers in these texts, where each is one
abbrev pub given_texts : (NumberOption → Option Word) → Bool → Option Given
given_texts text journal = given_numbers (number_in Workers (text Workers)) (number_in Steps (text Steps))
    (number_in Segments (text Segments))
    (number_in Cells (text Cells)) (number_in Size (text Size)) journal
