-- What a record keeps to, entry by entry.
use Rattle.std.proofs.Common.{◌≡◌, refl, ap, sym, ◌∙◌, ℕ, zero, suc, ◌<◌, ◌≤◌, ◌==◌, Bool, true, false, Bor, List, [], ◌∷◌, length, map, get_or, subst, Some, None}
use Rattle.std.specs.Prelude.{Option, IfSome, MatchOption, if◌then◌else◌, option_map, slice_get, unwrap_or}
use Rattle.std.specs.List.{AllByRecursion}
use Rattle.std.proofs.lemmas.Bool.{eqb-true}
use Rattle.gl_model.specs.declared.limits.TheConstants.{THREADS}
use Rattle.std.proofs.lemmas.Option.{slice_get-get_or, slice_get-map, slice_get_past}
use Rattle.gl_model.specs.Entries.{Entry, seen}
use Rattle.gl_model.specs.declared.record.Entry.{Entry as StoredEntry}
use Rattle.gl_model.specs.Kept.{IsEntryKept, IsListKept, IsRecord}
use Rattle.gl_model.specs.Lists.{list_of, lists_of}

-- each thread that has a list in a record is one that there is, and its entries are kept
pub list_kept : (ls : List (ℕ × List Entry)) → AllByRecursion IsListKept ls → (t : ℕ) (es : List Entry) → list_of ls t ≡ Some es
    → (t < THREADS) × AllByRecursion IsEntryKept es
list_kept [] kept t es e = absurd (cc)
list_kept (l ∷ ls) kept t es e = by (l.0 == t) refl e (list_kept ls kept.1 t es)
  where
    by : (b : Bool) → (l.0 == t) ≡ b → (if b then Some l.1 else list_of ls t) ≡ Some es
        → (list_of ls t ≡ Some es → (t < THREADS) × AllByRecursion IsEntryKept es) → (t < THREADS) × AllByRecursion IsEntryKept es
    by true same e' rec = (
      subst (λ u. u < THREADS) (eqb-true l.0 t same) kept.0.0,
      let z : l.1 ≡ es = cc
          in subst (AllByRecursion IsEntryKept) z kept.0.2,
    )
    by false other e' rec = rec e'

-- in a list of kept entries, the entry at each place is kept
pub at_kept : (es : List Entry) → AllByRecursion IsEntryKept es → (i : ℕ) (e : Entry) → slice_get es i ≡ Some e → IsEntryKept e
at_kept [] kept i e at = absurd (cc)
at_kept (x ∷ es) kept zero e at = let z : x ≡ e = cc in subst IsEntryKept z kept.0
at_kept (x ∷ es) kept (suc i) e at = at_kept es kept.1 i e at

-- each entry that a record has at a place is kept, and its thread is one that there is
pub entry_kept : (ls : List (ℕ × List Entry)) → IsRecord ls → (t i : ℕ) (e : Entry) → slice_get (lists_of ls t) i ≡ Some e → (t < THREADS)
    × IsEntryKept e
entry_kept ls kept t i e at = by (list_of ls t) refl at
  where
    by : (o : Option (List Entry)) → list_of ls t ≡ o → slice_get (unwrap_or o []) i ≡ Some e → (t < THREADS) × IsEntryKept e
    by None eq at' = absurd (cc)
    by (Some es) eq at' = let k = list_kept ls kept.1 t es eq in (k.0, at_kept es k.1 i e at')

-- what a look at a place of a list finds
entry_looked :
    (B : Bor StoredEntry → Type 0) (o : Option (Bor StoredEntry)) (es : List StoredEntry) (i : ℕ)
    → IfSome o (λ x. x.now ≡ get_or es i x.now) → MatchOption o (length es ≤ i) (λ x. (i < length es) × B x) →
    MatchOption o (slice_get (map seen es) i ≡ None) (λ e. slice_get (map seen es) i ≡ Some (seen e.now))
entry_looked B None es i is found = slice_get-map seen es i ∙ ap (option_map seen) (slice_get_past es i found)
entry_looked B (Some x) es i is found = slice_get-map seen es i
    ∙ ap (option_map seen) (slice_get-get_or es i x.now found.0 ∙ ap Some (sym is))

-- and at a place of a record
pub entry_there :
    (B : Bor StoredEntry → Type 0) (o : Option (Bor StoredEntry)) (ls : List (ℕ × List Entry)) (t i : ℕ) (es : List StoredEntry)
    → IsRecord ls → list_of ls t ≡ Some (map seen es) →
    IfSome o (λ x. x.now ≡ get_or es i x.now) → MatchOption o (length es ≤ i) (λ x. (i < length es) × B x) →
    (t < THREADS) × MatchOption o (slice_get (lists_of ls t) i ≡ None) (λ e. slice_get (lists_of ls t) i ≡ Some (seen e.now))
    × IfSome o (λ e. IsEntryKept (seen e.now))
entry_there B o ls t i es kept list is found =
    let k = list_kept ls kept.1 t (map seen es) list in
    let looked = entry_looked B o es i is found in
    (k.0, there o looked, each o looked)
  where
    there : (o : Option (Bor StoredEntry)) → MatchOption o (slice_get (map seen es) i ≡ None) (λ e. slice_get (map seen es) i
        ≡ Some (seen e.now)) → MatchOption o (slice_get (lists_of ls t) i ≡ None) (λ e. slice_get (lists_of ls t) i ≡ Some (seen e.now))
    there None e = rw list e
    there (Some x) e = rw list e

    each : (o : Option (Bor StoredEntry)) → MatchOption o (slice_get (map seen es) i ≡ None) (λ e. slice_get (map seen es) i
        ≡ Some (seen e.now)) → IfSome o (λ e. IsEntryKept (seen e.now))
    each None e = tt
    each (Some x) e = at_kept (map seen es) (list_kept ls kept.1 t (map seen es) list).1 i (seen x.now) e
