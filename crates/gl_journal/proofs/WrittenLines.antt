-- The lines of the text of rows, each of which is its words.
use Rattle.std.proofs.Common.{◌≡◌, List, [], ◌∷◌, ◌++◌, codes, refl, ap, sym, ◌∙◌, append_assoc, map}
use Rattle.std.specs.List.{AllByRecursion, flat_map}
use Rattle.std.specs.Str.Lines.{lines}
use Rattle.gl_journal.specs.Rows.{Row, row_text}
use Rattle.gl_text.proofs.WordLines.{AreWords, IsPlain, ended, lines_of_ended, plain_spaced, spaced}

-- the text of a row is its words with blanks between, ended
row_ended : (ws : Row) → row_text ws ≡ ended (spaced ws)
row_ended [] = refl
row_ended (w ∷ []) = refl
row_ended (w ∷ v ∷ ws) = ap (λ l. w ++ (codes " " ++ l)) (row_ended (v ∷ ws))
    ∙ sym (append_assoc w (codes " " ++ spaced (v ∷ ws)) (codes "\n"))

-- and so is that of many rows
text_ended : (rows : List Row) → flat_map row_text rows ≡ flat_map ended (map spaced rows)
text_ended [] = refl
text_ended (r ∷ rows) = ap (λ l. l ++ flat_map row_text rows) (row_ended r) ∙ ap (λ l. ended (spaced r) ++ l) (text_ended rows)

-- each of them is a plain line
plain_rows : (rows : List Row) → AllByRecursion AreWords rows → AllByRecursion IsPlain (map spaced rows)
plain_rows [] are = tt
plain_rows (r ∷ rows) are = (plain_spaced r are.0, plain_rows rows are.1)

-- the lines of the text of rows
pub lines_of_rows : (rows : List Row) → AllByRecursion AreWords rows → lines (flat_map row_text rows) ≡ map spaced rows
lines_of_rows rows are = ap lines (text_ended rows) ∙ lines_of_ended (map spaced rows) (plain_rows rows are)
