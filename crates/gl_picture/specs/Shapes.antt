-- The shapes of the drawing, as SVG. Attributes stand in single quotes.
use Rattle.std.specs.Prelude.{ℕ, ◌+◌, ◌-◌, ◌*◌, ◌==◌, nat_lt, if◌then◌else◌, List, [], ◌∷◌, ◌++◌, codes}
use Rattle.std.specs.Fmt.{decimal}
use Rattle.std.specs.List.{flat_map}
use Rattle.gl_picture.specs.declared.picture.Cell.{Cell}
use Rattle.gl_picture.specs.declared.picture.Spot.{Spot}
use Rattle.gl_picture.specs.declared.positions.TheConstants.{MARGIN, COLUMN_STEP, TOP, ROW_STEP}

-- what stands for a byte of a text: names may have the five that have a meaning
abbrev pub escape_byte : ℕ → List ℕ
escape_byte b =
    if b == 38 then codes "&amp;" else if b == 60 then codes "&lt;" else if b == 62 then codes "&gt;"
    else if b == 34 then codes "&quot;" else if b == 39 then codes "&apos;" else b ∷ []

abbrev pub escape : List ℕ → List ℕ
escape bytes = flat_map escape_byte bytes

-- where a column and a row stand
abbrev pub x_of : ℕ → ℕ
x_of column = MARGIN + COLUMN_STEP * column

abbrev pub y_of : ℕ → ℕ
y_of slot = TOP + ROW_STEP * slot

-- where a row's point is
unfoldable pub spot_of : Cell → Spot
spot_of c = record { x = x_of c.column; y = y_of c.slot }

-- the two coordinates of a point, each behind its word
unfoldable pub pair_text : List ℕ → List ℕ → Spot → List ℕ
pair_text x y spot = x ++ (decimal spot.x ++ (y ++ decimal spot.y))

unfoldable pub line_text : List ℕ → Spot → Spot → List ℕ
line_text style from to = codes "<line "
    ++ (style ++ (pair_text (codes " x1='") (codes "' y1='") from ++ (pair_text (codes "' x2='") (codes "' y2='") to ++ codes "'/>\n")))

-- a line through four points
unfoldable pub bent_text : Spot → Spot → Spot → Spot → List ℕ
bent_text a b c d = pair_text (codes "<polyline class='arrow' points='") (codes ",") a
    ++ (pair_text (codes " ") (codes ",") b ++ (pair_text (codes " ") (codes ",") c ++ (pair_text (codes " ") (codes ",") d
    ++ codes "'/>\n")))

-- an arrow: it leaves between its row and the next one, so that it meets no other row's point, and turns to its end beside its column
unfoldable pub bend_text : Cell → Cell → List ℕ
bend_text from to =
    let start = x_of from.column in
    let end = x_of to.column in
    let y = y_of from.slot + 13 in
    if nat_lt from.column to.column
    then bent_text (spot_of from) (record { x = start + 14; y = y }) (record { x = end - 95; y = y }) (spot_of to)
    else bent_text (spot_of from) (record { x = start - 14; y = y }) (record { x = end + 95; y = y }) (spot_of to)

unfoldable pub circle_text : List ℕ → Spot → List ℕ
circle_text style spot = codes "<circle " ++ (style ++ (pair_text (codes " cx='") (codes "' cy='") spot ++ codes "'/>\n"))

unfoldable pub words_text : List ℕ → Spot → List ℕ → List ℕ
words_text style spot words = codes "<text "
    ++ (style ++ (pair_text (codes " x='") (codes "' y='") spot ++ (codes "'>" ++ (escape words ++ codes "</text>\n"))))

-- how the shapes look, the tip of an arrow, and a white ground
abbrev pub style_text : List ℕ
style_text =
    codes "<style>\n" ++ (
    codes "text { font: 12px monospace; paint-order: stroke; stroke: white; stroke-width: 3px }\n" ++ (
    codes ".life { stroke: #bbb }\n" ++ (
    codes ".arrow { fill: none; stroke: #26a; marker-end: url(#tip) }\n" ++ (
    codes ".race { stroke: #c00; stroke-dasharray: 5 4 }\n" ++ (
    codes ".mark { fill: none; stroke: #c00; stroke-width: 2px }\n" ++ (
    codes ".head { text-anchor: middle; font-weight: bold }\n" ++ (
    codes ".line { text-anchor: end; fill: #777 }\n" ++ (
    codes ".note { fill: #777 }\n" ++ (
    codes ".said { fill: #c00 }\n" ++ (
    codes "</style>\n" ++ (
    codes "<defs><marker id='tip' viewBox='0 0 8 8' refX='13' refY='4' markerWidth='8' markerHeight='8' " ++ (
    codes "orient='auto' markerUnits='userSpaceOnUse'><path d='M0 0L8 4L0 8z' fill='#26a'/></marker></defs>\n" ++ (
    codes "<rect width='100%' height='100%' fill='white'/>\n")))))))))))))

-- the beginning of a drawing so wide and so high, with how the shapes look
unfoldable pub opening_text : Spot → List ℕ
opening_text size =
    pair_text (codes "<svg xmlns='http://www.w3.org/2000/svg' width='") (codes "' height='") size ++ (codes "'>\n" ++ style_text)
