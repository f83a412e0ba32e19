-- What is known of the lists of a record, and of their entries.
use Rattle.std.proofs.Common.{◌≡◌, ◌≢◌, ℕ, zero, suc, ◌<◌, ◌==◌, if◌then◌else◌, Bool, true, false, List, [], ◌∷◌, length, refl, sym, ap, subst, arith, ◌∙◌, Some, None, Option}
use Rattle.std.specs.Prelude.{is_some, MatchBool, MatchOption, unwrap_or, ℤ}
use Rattle.std.specs.List.{AllByRecursion}
use Rattle.std.proofs.lemmas.Bool.Decides.{nat_tests}
use Rattle.gl_model.specs.declared.event.Act.TheVariants.{Fork}
use Rattle.gl_model.specs.Entries.{Entry, Sync}
use Rattle.gl_model.specs.Kept.{IsEntryKept, IsListKept}
use Rattle.gl_model.specs.Lists.{list_of, lists_of}
use Rattle.gl_model.specs.Records.{At}
use Rattle.gl_acts.specs.Making.{HasForked}

-- a list of a record has an entry, and its entries keep to what there is
pub list_kept : (ls : List (ℕ × List Entry)) → AllByRecursion IsListKept ls → (t : ℕ) (es : List Entry) → list_of ls t ≡ Some es
    → IsListKept (t, es)
list_kept [] kept t es is = absurd (cc)
list_kept (l ∷ ls) kept t es is = by (l.0 == t) refl is (list_kept ls kept.1 t es)
  where
    by : (b : Bool) → (l.0 == t) ≡ b → (if b then Some l.1 else list_of ls t) ≡ Some es → (list_of ls t ≡ Some es → IsListKept (t, es))
        → IsListKept (t, es)
    by true same here later =
        let thread : l.0 ≡ t = grind (arith, nat_tests) in
        let list : l.1 ≡ es = cc in
        subst (λ n. IsListKept (n, es)) thread (subst (λ (x : List Entry). IsListKept (l.0, x)) list kept.0)
    by false other there later = later there

-- so does each entry
pub entry_kept : (es : List Entry) → AllByRecursion IsEntryKept es → (i : ℕ) (e : Entry) → At es i e → IsEntryKept e
entry_kept [] kept i e there = absurd (cc)
entry_kept (x ∷ es) kept zero e there = let same : x ≡ e = cc in subst (λ (z : Entry). IsEntryKept z) same kept.0
entry_kept (x ∷ es) kept (suc i) e there = entry_kept es kept.1 i e there

-- a thread that has a list in a record has entries
pub some_list : (ls : List (ℕ × List Entry)) → AllByRecursion IsListKept ls → (t : ℕ) (es : List Entry) → list_of ls t ≡ Some es
    → lists_of ls t ≢ []
some_list ls kept t es is none =
    let long : 0 < length es = (list_kept ls kept t es is).1 in
    let empty : es ≡ [] = sym (ap (λ o. unwrap_or o []) is) ∙ none in
    let short : length es ≡ 0 = ap length empty in
    absurd (omega arith)

-- a thread without a list in a record has the empty one
pub no_list : (ls : List (ℕ × List Entry)) (t : ℕ) → list_of ls t ≡ None → lists_of ls t ≡ []
no_list ls t is = ap (λ o. unwrap_or o []) is

-- what is known of the entry at a place: its thread is one that there is, and it keeps to what there is
pub place_kept : (ls : List (ℕ × List Entry)) → AllByRecursion IsListKept ls → (t i : ℕ) (e : Entry) → At (lists_of ls t) i e
    → (t < Rattle.gl_model.specs.declared.limits.TheConstants.THREADS) × IsEntryKept e
place_kept ls kept t i e there = by (list_of ls t) refl there
  where
    by : (o : Option (List Entry)) → list_of ls t ≡ o → At (unwrap_or o []) i e
        → (t < Rattle.gl_model.specs.declared.limits.TheConstants.THREADS) × IsEntryKept e
    by None is at = absurd (cc)
    by (Some es) is at = let kept_es = list_kept ls kept t es is in (kept_es.0, entry_kept es kept_es.2 i e at)

-- whether the thread that an entry forks has a list
pub forks : {A : Type 0} (g : A → List Entry) (ls : List (ℕ × List Entry)) → AllByRecursion IsListKept ls
    → (e : Entry) (at u f : ℕ) (value : ℤ) → e ≡ Sync at (Fork u f) value
    → (o : Option A) → MatchOption o (list_of ls u ≡ None) (λ es. list_of ls u ≡ Some (g es)) → (b : Bool) → b ≡ is_some o
    → MatchBool b (HasForked (lists_of ls) e) (HasForked (lists_of ls) e → ⊥)
forks g ls kept e at u f value is None none b same =
    subst (λ z. MatchBool z (HasForked (lists_of ls) e) (HasForked (lists_of ls) e → ⊥)) (sym same)
    (λ has. has at u f value is (no_list ls u none))
forks g ls kept e at u f value is (Some es) some b same =
    subst (λ z. MatchBool z (HasForked (lists_of ls) e) (HasForked (lists_of ls) e → ⊥)) (sym same) (λ at' u' f' value' is'.
    let two : Sync at (Fork u f) value ≡ Sync at' (Fork u' f') value' = sym is ∙ is' in
    let child : u ≡ u' = cc in
    subst (λ z. lists_of ls z ≢ []) child (some_list ls kept u (g es) some))
