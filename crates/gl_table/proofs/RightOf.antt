-- The right that a list gives, from its end.
use Rattle.std.proofs.Common.{◌≡◌, ℕ, ◌+◌, List, [], ◌∷◌, ◌++◌, length, refl, sym, ap, ◌∙◌, subst, arith, Bool, true, false, ◌==◌, if◌then◌else◌, Option, Some, None, inl, inr, append-nil, append_assoc, eq-eqb}
use Rattle.std.specs.Prelude.{ℤ}
use Rattle.std.proofs.lemmas.Bool.{eqb-true}
use Rattle.std.proofs.lemmas.Option.{slice_get_within}
use Rattle.gl_model.specs.Entries.{Entry, Sync, Commit, Plain, Abort, Trim, Over}
use Rattle.gl_model.specs.Form.{GivesRight, HasRight}
use Rattle.gl_model.specs.Records.{position_of}
use Rattle.gl_draws.proofs.Pushes.{at_cases, at_kept, at_new}
use Rattle.gl_table.specs.RightOf.{right_after, right_from, right_of}

-- with an entry put last, the right is what this entry makes of the right before it
pub right_push : (x : ℕ) (r : Option (ℕ × Bool)) (es : List Entry) (e : Entry) → right_from x r (es ++ e ∷ [])
    ≡ right_after x (right_from x r es) e
right_push x r [] e = refl
right_push x r (y ∷ es) e = right_push x (right_after x r y) es e

-- a right with this number stands at the end of the list
abbrev pub RightStands : List Entry → ℕ → Option (ℕ × Bool) → Type 0
RightStands es x None = Unit {0}
RightStands es x (Some r) = (write : Bool) → (write ≡ true → r.1 ≡ true) → HasRight es (length es) x r.0 write

-- a list with one entry more is longer by one
length_push : (es : List Entry) (e : Entry) → length (es ++ e ∷ []) ≡ length es + 1
length_push [] e = refl
length_push (y ∷ es) e = let r = length_push es e in omega arith

-- a right that stands stands after an entry that has no position and gives none
keeps_right : (es : List Entry) (x : ℕ) (r : Option (ℕ × Bool)) (e : Entry) → position_of e ≡ None
    → ((m : ℕ) (w : Bool) → GivesRight e x m w → ⊥) → RightStands es x r → RightStands (es ++ e ∷ []) x r
keeps_right es x None e place gives stands = tt
keeps_right es x (Some r) e place gives stands = λ write enough.
    let h = stands write enough in
    let long : length (es ++ e ∷ []) ≡ length es + 1 = length_push es e in
    let before = h.before in
    record {
      index = h.index;
      entry = h.entry;
      there = at_kept es (e ∷ []) h.index h.entry h.there;
      before = omega arith;
      by_write = h.by_write;
      gives = h.gives;
      enough = h.enough;
      no_event = λ j f at lt near. elim (at_cases es e f j at) [
        | inl old ↦ h.no_event j f old lt (slice_get_within es j f old)
        | inr new ↦ ap position_of new.1 ∙ place
      ];
      latest = λ j m f w at lt near g. elim (at_cases es e f j at) [
        | inl old ↦ h.latest j m f w old lt (slice_get_within es j f old) g
        | inr new ↦ gives m w (subst (λ z. GivesRight z x m w) new.1 g)
      ];
    }

-- after an uncached access, the right that it gives stands
new_right : (es : List Entry) (x k : ℕ) (w : Bool) (value : ℤ) → RightStands (es ++ Plain x k false w value false ∷ []) x (Some (k, w))
new_right es x k w value = λ write enough.
    let e : Entry = Plain x k false w value false in
    let long : length (es ++ e ∷ []) ≡ length es + 1 = length_push es e in
    record {
      index = length es;
      entry = e;
      there = at_new es e;
      before = omega arith;
      by_write = w;
      gives = (refl, refl, refl, refl, refl);
      enough = enough;
      no_event = λ j f at lt near. absurd (omega arith);
      latest = λ j m f u at lt near g. absurd (omega arith);
    }

-- the right that stands, after one entry more, is the one that the entry makes of it
right_step : (es : List Entry) (x : ℕ) (r : Option (ℕ × Bool)) (e : Entry) → RightStands es x r
    → RightStands (es ++ e ∷ []) x (right_after x r e)
right_step es x r (Sync at act value) stands = tt
right_step es x r (Commit at tx) stands = tt
right_step es x r (Abort tx why) stands = tt
right_step es x r (Trim low) stands = keeps_right es x r (Trim low) refl (λ m w g. absurd g) stands
right_step es x r (Over ending) stands = keeps_right es x r (Over ending) refl (λ m w g. absurd g) stands
right_step es x r (Plain var nth true write value raised) stands =
    keeps_right es x r (Plain var nth true write value raised) refl (λ m w g. absurd (let z : true ≡ false = g.0 in cc)) stands
right_step es x r (Plain var nth false write value true) stands =
    keeps_right es x r (Plain var nth false write value true) refl (λ m w g. absurd (let z : true ≡ false = g.1 in cc)) stands
right_step es x r (Plain var nth false write value false) stands = by (var == x) refl
  where
    by : (b : Bool) → (var == x) ≡ b → RightStands (es ++ Plain var nth false write value false ∷ []) x (if b then Some (nth, write) else r)
    by true same = subst (λ v. RightStands (es ++ Plain v nth false write value false ∷ []) x (Some (nth, write)))
        (sym (eqb-true var x same)) (new_right es x nth write value)
    by false other = keeps_right es x r (Plain var nth false write value false) refl
        (λ m w g. absurd (let z : true ≡ false = sym (eq-eqb var x g.2) ∙ other in cc)) stands

-- the right that stands, after a list, is the one that the list makes of it
right_all : (done es : List Entry) (x : ℕ) (r : Option (ℕ × Bool)) → RightStands done x r → RightStands (done ++ es) x (right_from x r es)
right_all done [] x r stands = subst (λ l. RightStands l x r) (sym (append-nil done)) stands
right_all done (e ∷ es) x r stands = subst (λ l. RightStands l x (right_from x (right_after x r e) es)) (append_assoc done (e ∷ []) es)
    (right_all (done ++ e ∷ []) es x (right_after x r e) (right_step done x r e stands))

-- the right that the list gives is one by which an entry may be repeated
pub right_stands : (es : List Entry) (x k : ℕ) (w write : Bool) → right_of es x ≡ Some (k, w) → (write ≡ true → w ≡ true)
    → HasRight es (length es) x k write
right_stands es x k w write is enough = (subst (RightStands es x) is (right_all [] es x None tt)) write enough
