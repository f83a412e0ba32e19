-- What an access asks of what is kept of a variable, and leaves.
use Rattle.std.specs.Prelude.{◌≡◌, ℕ, Bool, true, false, if◌then◌else◌, List, replicate, slice_set, slice_index_or}
use Rattle.gl_model.specs.declared.limits.TheConstants.{THREADS}
use Rattle.gl_model.specs.declared.row.Judged.{Judged}
use Rattle.gl_model.specs.declared.row.Judged.TheVariants.{NoAccess, Performed, Raised}
use Rattle.gl_model.specs.Trace.{is_in}
use Rattle.gl_core.specs.declared.latest.Epoch.{Epoch}
use Rattle.gl_core.specs.Marks.{Marks, latest_fails}

-- the mark of an access among those of its kind, and 0 among the others
abbrev pub plain_mark : Epoch → ℕ
plain_mark e = if e.commit then 0 else e.mark

abbrev pub commit_mark : Epoch → ℕ
commit_mark e = if e.commit then e.mark else 0

-- nothing was accessed
abbrev pub untouched : Marks
untouched = record { writer = 0; written = 0; committed = 0; reads = replicate THREADS 0; parts = replicate THREADS 0 }

abbrev pub latest_of : List Marks → ℕ → Marks
latest_of latests y = slice_index_or latests y untouched

-- a commit with these writes is racy on y
abbrev pub part_fails : (ℕ → ℕ) → List ℕ → List Marks → ℕ → Bool
part_fails known writes latests y = latest_fails known true (is_in y writes) (latest_of latests y)

-- an access is the last write, and drops the reads, or its thread's last read
abbrev pub noted : Bool → Epoch → Marks → Marks
noted true e l = record {
  writer = e.thread;
  written = plain_mark e;
  committed = commit_mark e;
  reads = replicate THREADS 0;
  parts = replicate THREADS 0;
}
noted false e l = record l { reads = slice_set l.reads e.thread (plain_mark e); parts = slice_set l.parts e.thread (commit_mark e) }

-- a plain access of a thread that knows so much of itself
abbrev pub plain_epoch : ℕ → ℕ → Epoch
plain_epoch t own = record { thread = t; mark = own; commit = false }

-- a plain access is raised where what is kept fails, and noted where it does not
abbrev pub PlainDone : (ℕ → ℕ) → Marks → ℕ → ℕ → Bool → Judged → Marks → Type 0
PlainDone known old t x write NoAccess new = ⊥
PlainDone known old t x write Performed new = (latest_fails known false write old ≡ false)
    × (new ≡ noted write (plain_epoch t (known t)) old)
PlainDone known old t x write (Raised var) new = (var ≡ x) × (latest_fails known false write old ≡ true) × (new ≡ old)
