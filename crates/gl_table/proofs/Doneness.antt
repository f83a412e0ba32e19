-- Whether a pass is done, from its last entry.
use Rattle.std.proofs.Common.{◌≡◌, suc, ◌-◌, ◌<◌, List, [], ◌∷◌, length, refl, ap, arith, inl, inr, Bool, true, subst, map, get_or}
use Rattle.gl_model.specs.Entries.{Entry, Sync, Commit, Plain, Abort, Trim, Over}
use Rattle.gl_model.specs.declared.record.Entry.{Entry as StoredEntry}
use Rattle.gl_model.specs.Entries.{seen}
use Rattle.gl_model.specs.Form.{IsOver}
use Rattle.gl_rule.specs.Closed.{EndsOver, IsDone}
use Rattle.gl_table.specs.Doneness.{is_over, is_done}

-- an entry that tests as over ends the list
over_is : (e : Entry) → is_over e ≡ true → IsOver e
over_is (Over a) e = tt
over_is (Sync a b c) e = absurd (cc)
over_is (Commit a b) e = absurd (cc)
over_is (Plain a b c d f g) e = absurd (cc)
over_is (Abort a b) e = absurd (cc)
over_is (Trim a) e = absurd (cc)

-- a list that ends in an over still does with an entry before it
ends_later : (e : Entry) (es : List Entry) → EndsOver es → EndsOver (e ∷ es)
ends_later e es (i, (g, at, over)) = (suc i, (g, at, over))

-- a list that is done, by the test, ends in an over
ends : (e : Entry) (es : List Entry) (quiet : Bool) → is_done (e ∷ es) quiet ≡ true → EndsOver (e ∷ es)
ends e [] quiet is = (0, (e, refl, over_is e is))
ends e (f ∷ es) quiet is = ends_later e (f ∷ es) (ends f es quiet is)

-- then it may be closed
pub done_is : (es : List Entry) (quiet : Bool) → is_done es quiet ≡ true → IsDone es quiet
done_is [] quiet is = inr (refl, is)
done_is (e ∷ es) quiet is = inl (ends e es quiet is)

-- from the last entry that is stored
pub last_done : (es : List StoredEntry) (quiet : Bool) (x : StoredEntry) → 0 < length es → x ≡ get_or es (length es - 1) x
    → is_over (seen x) ≡ is_done (map seen es) quiet
last_done [] quiet x some is = absurd (omega arith)
last_done (y ∷ []) quiet x some is = let same : x ≡ y = is in ap (λ e. is_over (seen e)) same
last_done (y ∷ (z ∷ es)) quiet x some is =
    let n : length (y ∷ (z ∷ es)) - 1 ≡ suc (length (z ∷ es) - 1) = omega arith in
    let rest : x ≡ get_or (y ∷ (z ∷ es)) (suc (length (z ∷ es) - 1)) x = subst (λ k. x ≡ get_or (y ∷ (z ∷ es)) k x) n is in
    last_done (z ∷ es) quiet x (omega arith) rest
