-- The entries of a record, gathered thread by thread from 0 up.
use Rattle.std.proofs.Common.{◌≡◌, ℕ, ◌+◌, List, [], ◌∷◌, ◌++◌, Option, Some, None, map, refl, ap, sym, ◌∙◌, append_assoc}
use Rattle.std.specs.Prelude.{unwrap_or}
use Rattle.std.proofs.lemmas.List.{append-nil}
use Rattle.gl_model.specs.Entries.{Entry}
use Rattle.gl_model.specs.Lists.{list_of, lists_of}
use Rattle.gl_model.specs.Rising.{Rises}
use Rattle.gl_model.proofs.ThreadLists.{below, one_of, gathers_next as lists_next}
use Rattle.gl_report.specs.ByThread.{by_thread, with_thread}

-- what is gathered of two lists of lists is what is gathered of the one, and then of the other
gathered_of_both : (ls ms : List (ℕ × List Entry)) → by_thread (ls ++ ms) ≡ by_thread ls ++ by_thread ms
gathered_of_both [] ms = refl
gathered_of_both (l ∷ ls) ms =
    ap (λ rest. with_thread l ++ rest) (gathered_of_both ls ms) ∙ sym (append_assoc (with_thread l) (by_thread ls) (by_thread ms))

-- what is gathered of a thread's list, if it has one, are its entries
of_one : (t : ℕ) (list : Option (List Entry)) → by_thread (one_of t list) ≡ with_thread (t, unwrap_or list [])
of_one t None = refl
of_one t (Some es) = append-nil (with_thread (t, es))

-- the next thread's entries come last
pub gathers_next : (t : ℕ) (ls : List (ℕ × List Entry)) → Rises (map (λ l. l.0) ls)
    → by_thread (below (t + 1) ls) ≡ by_thread (below t ls) ++ with_thread (t, lists_of ls t)
gathers_next t ls rises =
    ap by_thread (lists_next t ls rises) ∙ gathered_of_both (below t ls) (one_of t (list_of ls t))
    ∙ ap (λ rest. by_thread (below t ls) ++ rest) (of_one t (list_of ls t))
