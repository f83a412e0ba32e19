-- An entry is made by one instruction at most, or by none.
use Rattle.std.proofs.Common.{◌≡◌, ℕ, zero, suc, List, [], ◌∷◌, ◌++◌, Option, Some, None, inl, inr, sym, ◌∙◌, ap, subst, take}
use Rattle.std.specs.Prelude.{◌⊎◌, slice_get}
use Rattle.gl_model.specs.Entries.{Entry, Sync, Commit, Plain, Abort, Trim, Over}
use Rattle.gl_model.specs.Form.{IsOver, IsTrim}
use Rattle.gl_bytecode.specs.Programs.{Bytecode}
use Rattle.gl_bytecode.specs.Runs.{Made, Progress, entries_of, outset, told, told_one, without_trims}
use Rattle.gl_bytecode.specs.Validity.{IsValid}
use Rattle.gl_bytecode.proofs.Exchanges.{forced}
use Rattle.gl_follow.specs.Following.{EachBeginsRight}
use Rattle.gl_follow.proofs.Peeling.{all_fit, made_over}
use Rattle.gl_sites.specs.Sites.{IsAnswered, IsMadeAt, IsMadeByNone, IsNote, IsOfInstruction}
use Rattle.gl_sites.proofs.Asking.{ends_made, entries_on, fits_fresh, same_front, told_on}

-- each of the first entries begins right
front_right : (P : Bytecode) (es : List Entry) (n : ℕ) → EachBeginsRight P es → EachBeginsRight P (without_trims (take n es))
front_right P es zero right = tt
front_right P [] (suc n) right = tt
front_right P (Trim low ∷ es) (suc n) right = front_right P es n right.1
front_right P (Sync at act value ∷ es) (suc n) right = (right.0, front_right P es n right.1)
front_right P (Commit at tx ∷ es) (suc n) right = (right.0, front_right P es n right.1)
front_right P (Plain x nth cached write value raised ∷ es) (suc n) right = (right.0, front_right P es n right.1)
front_right P (Abort tx why ∷ es) (suc n) right = (right.0, front_right P es n right.1)
front_right P (Over ending ∷ es) (suc n) right = (right.0, front_right P es n right.1)

-- what the machine answers is no note
unmade : (P : Bytecode) (e : Entry) (p next : Progress) → IsTrim e ⊎ IsOver e → told_one P (Made e) p ≡ Some next → ⊥
unmade P (Trim low) p next note answered = cc
unmade P (Over ending) p next note answered = cc
unmade P (Sync at act value) p next note answered = elim note [ inl never ↦ never | inr never ↦ never ]
unmade P (Commit at tx) p next note answered = elim note [ inl never ↦ never | inr never ↦ never ]
unmade P (Plain x nth cached write value raised) p next note answered = elim note [ inl never ↦ never | inr never ↦ never ]
unmade P (Abort tx why) p next note answered = elim note [ inl never ↦ never | inr never ↦ never ]

-- two that an option has are one
one_some : {A : Type 0} (o : Option A) (a b : A) → o ≡ Some a → o ≡ Some b → a ≡ b
one_some o a b one other = cc

-- no machine makes a note
pub note_unmade : (P : Bytecode) (steps t : ℕ) (list : List Entry) (n : ℕ) (p : Progress) → IsNote list n
    → IsAnswered P steps t list n p → ⊥
note_unmade P steps t list n p note is =
    let same : note.entry ≡ is.entry = one_some (slice_get list n) note.entry is.entry note.there is.there in
    unmade P is.entry p is.next (subst (λ e. IsTrim e ⊎ IsOver e) same note.note) is.answered

module _ (P : Bytecode) (steps t : ℕ) (list : List Entry) (n : ℕ) (valid : IsValid P) (right : EachBeginsRight P list) where
  -- no attempt runs behind the entry
  over : (p : Progress) (is : IsAnswered P steps t list n p) → is.next.config.attempt ≡ None
  over p is =
      let begins : EachBeginsRight P (entries_of is.along.exchanges) =
      subst (EachBeginsRight P) (sym is.along.made) (front_right P list n right) in
      made_over P is.entry p is.next
      (all_fit P is.along.exchanges (outset P t steps) p (fits_fresh P t steps valid) begins is.along.reached) is.answered

  -- the entry answers the machine at one point
  pub one_point : (p q : Progress) → IsAnswered P steps t list n p → IsAnswered P steps t list n q → p ≡ q
  one_point p q one other =
      let entry : one.entry ≡ other.entry = one_some (slice_get list n) one.entry other.entry one.there other.there in
      let xs = one.along.exchanges in
      let ys = other.along.exchanges in
      let answered : told_one P (Made one.entry) q ≡ Some other.next = ap (λ e. told_one P (Made e) q) entry ∙ other.answered in
      let entries : entries_of (xs ++ Made one.entry ∷ []) ≡ entries_of (ys ++ Made one.entry ∷ []) =
      entries_on xs one.entry ∙ ap (λ es. es ++ one.entry ∷ []) (one.along.made ∙ sym other.along.made) ∙ sym (entries_on ys one.entry) in
      let same : xs ++ Made one.entry ∷ [] ≡ ys ++ Made one.entry ∷ [] =
      forced P (outset P t steps) one.next other.next (xs ++ Made one.entry ∷ []) (ys ++ Made one.entry ∷ [])
      (told_on P xs (Made one.entry) (outset P t steps) p one.next one.along.reached one.answered)
      (told_on P ys (Made one.entry) (outset P t steps) q other.next other.along.reached answered) entries (over p one) (over q other)
      (ends_made xs one.entry) (ends_made ys one.entry) in
      let way : xs ≡ ys = same_front xs ys (Made one.entry) same in
      one_some (told P (outset P t steps) ys) p q (ap (told P (outset P t steps)) (sym way) ∙ one.along.reached) other.along.reached

  -- it is made by one instruction at most
  pub one_site : (f g i j : ℕ) → IsMadeAt P steps t list n f i → IsMadeAt P steps t list n g j → (f ≡ g) × (i ≡ j)
  one_site f g i j one other =
      let same = one_point one.asking other.asking one.is other.is in (
        sym one.function ∙ ap (λ (p : Progress). p.config.frame.function) same ∙ other.function,
        sym one.place ∙ ap (λ (p : Progress). p.config.frame.place) same ∙ other.place,
      )

  -- and not by one and by none
  pub not_both : (f i : ℕ) → IsMadeAt P steps t list n f i → IsMadeByNone P steps t list n → ⊥
  not_both f i one none =
      let same = one_point one.asking none.asking one.is none.is in
      none.by_none (subst (λ (p : Progress). IsOfInstruction p.config.stage) same one.by)
