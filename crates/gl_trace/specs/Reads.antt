-- What a reader of a trace text has behind the first n lines.
use Rattle.std.specs.Prelude.{◌≡◌, ℕ, ◌<◌, ◌≤◌, List, None, length, take, drop}
use Rattle.std.specs.Str.Lines.{lines}
use Rattle.gl_trace.specs.Trace.{lines_from, fault_at, AreLines}
use Rattle.gl_trace.specs.Tracks.{Tracks, IsWithin}
use Rattle.gl_trace.specs.TraceLine.{TraceLine, steps_of}
use Rattle.gl_trace.specs.declared.limits.TheConstants.{TRACE_BYTES, TRACE_LINES}
use Rattle.gl_trace.specs.declared.reader.TraceReader.{TraceReader}
use Rattle.gl_trace.specs.declared.standing.Standing.{Standing}

pub record Reads (text : List ℕ) (n : ℕ) (rest : List (List ℕ)) (kept : List TraceLine) (standing : Standing) : Type 0 where
  pub left : rest ≡ drop n (lines text)
  pub few : n ≤ TRACE_LINES
  pub said : kept ≡ lines_from 1 (take n (lines text))
  pub clean : (i : ℕ) → i < n → fault_at (lines text) i ≡ None
  pub counted : length kept ≤ n
  pub tracks : Tracks (steps_of kept) standing
  pub within : IsWithin n standing
  pub well : AreLines kept

-- the reader has given these lines of the text, none of which has a fault
pub record IsReadTo (text : List ℕ) (made : List TraceLine) (reader : TraceReader) : Type 0 where
  pub short : length text ≤ TRACE_BYTES
  pub reads : Reads text reader.lines.given reader.lines.left made reader.standing
