-- What the adapters of std's readers and writers are seen as.
use Rattle.std.specs.Prelude.{ℕ, ◌-◌, List, length, take, Option, Some, None}
use Rattle.gl_io.specs.declared.adapters.ReaderSource.{ReaderSource}
use Rattle.gl_io.specs.declared.adapters.WriterSink.{WriterSink}

-- what the reader has left, where it tells that
abbrev pub reader_left : {R : Type 0} → (R → Option (List ℕ)) → ReaderSource R → Option (List ℕ)
reader_left remaining s = remaining s.reader

abbrev pub reader_faults : {R : Type 0} → ReaderSource R → ℕ
reader_faults s = s.faults

-- known bytes without the last ones, which a flush lost
abbrev pub without_lost : ℕ → Option (List ℕ) → Option (List ℕ)
without_lost lost None = None
without_lost lost (Some xs) = Some (take (length xs - lost) xs)

-- what the writer holds, where it tells that, but for the bytes of a flush that failed
abbrev pub writer_written : {W : Type 0} → (W → Option (List ℕ)) → WriterSink W → Option (List ℕ)
writer_written contents k = without_lost k.lost (contents k.writer)

abbrev pub writer_faults : {W : Type 0} → WriterSink W → ℕ
writer_faults k = k.faults
