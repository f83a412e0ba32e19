-- What is kept of a variable: of each thread the last access of each kind.
use Rattle.std.specs.Prelude.{ℕ, ◌==◌, ◌&&◌, ◌||◌, Bool, true, false, not, max, nat_le, if◌then◌else◌, slice_index_or, Option, Some, None}
use Rattle.gl_raised.specs.declared.access.Access.{Access}
use Rattle.gl_raised.specs.declared.lasts.Lasts.{Lasts}

-- of thread t the greatest tick of an access of the kind
abbrev pub mark_of : Lasts → Bool → Bool → ℕ → Option ℕ
mark_of l false false t = slice_index_or l.plain_reads t None
mark_of l false true t = slice_index_or l.plain_writes t None
mark_of l true false t = slice_index_or l.commit_reads t None
mark_of l true true t = slice_index_or l.commit_writes t None

-- there is one, and it is at least this
abbrev pub at_least : Option ℕ → ℕ → Bool
at_least None n = false
at_least (Some tick) n = nat_le n tick

-- the greater of the last one and of this
abbrev pub later : Option ℕ → ℕ → Option ℕ
later None tick = Some tick
later (Some before) tick = Some (max before tick)

-- the mark of a kind and a thread after the access, where it is of the kind
abbrev pub noted_where : Access → Bool → ℕ → Option ℕ → Option ℕ
noted_where a of_kind t last = if of_kind && (t == a.thread) then later last a.tick else last

-- the mark of a kind and a thread after the access
abbrev pub noted : Access → Bool → Bool → ℕ → Option ℕ → Option ℕ
noted a false false t last = noted_where a (not a.commit && not a.write) t last
noted a false true t last = noted_where a (not a.commit && a.write) t last
noted a true false t last = noted_where a (a.commit && not a.write) t last
noted a true true t last = noted_where a (a.commit && a.write) t last

-- a conflicting access of thread t is not known to who knows so much of it
abbrev pub thread_fails : Lasts → ℕ → ℕ → Bool → Bool → Bool
thread_fails l known t commit write =
    ((at_least (mark_of l false true t) known || (write && at_least (mark_of l false false t) known)) ||
    (not commit && at_least (mark_of l true true t) known))
    || ((not commit && write) && at_least (mark_of l true false t) known)
