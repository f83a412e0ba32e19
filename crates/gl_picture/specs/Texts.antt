-- The text of a picture, with the names that the trace gives.
use Rattle.std.specs.Prelude.{ℕ, ◌+◌, ◌%◌, ◌==◌, if◌then◌else◌, List, [], ◌∷◌, ◌++◌, codes, slice_get, max, Option, Some, None}
use Rattle.std.specs.Fmt.{decimal}
use Rattle.std.specs.List.{flat_map}
use Rattle.gl_names.specs.Names.{Naming}
use Rattle.gl_names.specs.declared.kind.Kind.TheVariants.{Thread}
use Rattle.gl_explain.specs.declared.told.Explanation.{Explanation}
use Rattle.gl_explain.specs.Phrases.{thing_text, item_text, racing_text}
use Rattle.gl_picture.specs.declared.picture.TheConstants.{HALF}
use Rattle.gl_picture.specs.declared.picture.Column.{Column}
use Rattle.gl_picture.specs.declared.picture.Row.{Row}
use Rattle.gl_picture.specs.declared.picture.Picture.{Picture}
use Rattle.gl_picture.specs.declared.picture.Cell.{Cell}
use Rattle.gl_picture.specs.declared.picture.Spot.{Spot}
use Rattle.gl_picture.specs.declared.text.TheConstants.{FOOT_ROOM, LABEL_ROOM, TITLE_ROOM}
use Rattle.gl_picture.specs.Shapes.{spot_of, x_of, y_of, bend_text, line_text, circle_text, words_text, opening_text}

-- the column of thread t: how many stand before it
abbrev pub column_of : ℕ → List Column → ℕ
column_of t [] = 0
column_of t (c ∷ cs) = if c.thread == t then c.at else column_of t cs

-- where a row's point is
unfoldable pub cell_of : List Column → Row → Cell
cell_of columns r = record { column = column_of r.told.thread columns; slot = r.slot }

abbrev pub cell_in : List Column → Option Row → Cell
cell_in columns None = record { column = 0; slot = 0 }
cell_in columns (Some r) = cell_of columns r

unfoldable pub cell_at : Picture → ℕ → Cell
cell_at p i = cell_in p.columns.items (slice_get p.rows.items i)

-- the race in two lines, as the explanation begins
unfoldable pub titles_text : Naming → Explanation → List ℕ
titles_text names e = words_text (codes "class='said'") (record { x = 10; y = 22 }) (racing_text names e.var e.at)
    ++ words_text (codes "class='said'") (record { x = 10; y = 40 }) (codes "races with " ++ racing_text names e.var e.other)

-- a column: a line from top to bottom and its thread above it, each second one higher
unfoldable pub column_text : Naming → ℕ → Column → List ℕ
column_text names bottom c = line_text (codes "class='life'") (record { x = x_of c.at; y = 90 }) (record { x = x_of c.at; y = bottom })
    ++ words_text (codes "class='head'") (record { x = x_of c.at; y = if c.at % 2 == 0 then 82 else 66 })
    (codes "thread " ++ thing_text names Thread c.thread)

-- an arrow from row i
unfoldable pub arrow_text : Picture → Cell → ℕ → List ℕ
arrow_text p to i = bend_text (cell_at p i) to

-- the arrows that lead to a row
unfoldable pub arrows_text : Picture → Row → List ℕ
arrows_text p r = flat_map (arrow_text p (cell_of p.columns.items r)) r.from.items

-- the two accesses that race
unfoldable pub race_text : Picture → List ℕ
race_text p = line_text (codes "class='race'") (spot_of (cell_at p p.other)) (spot_of (cell_at p p.race))
    ++ (circle_text (codes "class='mark' r='9'") (spot_of (cell_at p p.other)) ++ circle_text (codes "class='mark' r='9'") (spot_of
    (cell_at p p.race)))

-- a row: the number of its line, its point, and what the line does
unfoldable pub row_text : Naming → List Column → Row → List ℕ
row_text names columns r = words_text (codes "class='line' dy='4'") (record { x = 60; y = y_of r.slot }) (decimal r.told.line)
    ++ (circle_text (codes "r='4'") (spot_of (cell_of columns r))
    ++ words_text (codes "dx='16' dy='4'") (spot_of (cell_of columns r)) (item_text names r.told.item))

-- how many lines are left out, where some are
unfoldable pub left_text : ℕ → List ℕ
left_text n = if n == 0 then []
    else words_text (codes "class='note' dy='4'") (record { x = 10; y = y_of HALF }) (decimal n ++ codes " lines are left out")

-- what was judged, and the end
unfoldable pub closing_text : ℕ → List ℕ
closing_text y = words_text (codes "class='note'") (record { x = 10; y = y }) (codes "only this observed order of steps was judged")
    ++ codes "</svg>\n"

-- how wide and how high the picture is
abbrev pub size_of : Picture → Spot
size_of p = record { x = max (x_of p.width + LABEL_ROOM) TITLE_ROOM; y = y_of p.height + FOOT_ROOM }

-- what stands behind the rows, from the back to the front
unfoldable pub frame_text : Naming → Explanation → Picture → List ℕ
frame_text names e p = opening_text (size_of p) ++ (titles_text names e
    ++ (flat_map (column_text names (y_of p.height)) p.columns.items ++ (flat_map (arrows_text p) p.rows.items ++ race_text p)))

unfoldable pub picture_text : Naming → Explanation → Picture → List ℕ
picture_text names e p = frame_text names e p
    ++ (flat_map (row_text names p.columns.items) p.rows.items ++ (left_text p.left_out ++ closing_text (y_of p.height + 20)))

-- the picture of a trace without a race
unfoldable pub quiet_text : List ℕ
quiet_text = opening_text (record { x = 380; y = 60 })
    ++ (words_text (codes "class='note'") (record { x = 10; y = 22 }) (codes "races 0") ++ closing_text 40)
