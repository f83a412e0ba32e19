-- The words of an event tell it.
use Rattle.std.proofs.Common.{◌≡◌, ℕ, zero, suc, ◌+◌, ◌-◌, ◌*◌, ◌/◌, ◌%◌, ◌<◌, ◌≤◌, List, [], ◌∷◌, length, refl, sym, ap, subst, arith, ◌∙◌, get_or, inl, inr, take}
use Rattle.std.proofs.lemmas.Bool.{cases_lt}
use Rattle.std.proofs.lemmas.List.{take_more}
use Rattle.std.specs.Prelude.{slice_index}
use Rattle.std.specs.List.{AllByRecursion}
use Rattle.gl_model.specs.declared.event.Act.{Act}
use Rattle.gl_model.specs.declared.event.Act.TheVariants.{Begin, End, Acq, Rel, VRead, VWrite, Fork, Join, Alloc, Print, Input, Fail}
use Rattle.gl_model.specs.declared.event.Event.TheVariants.{Act as Does, Commit}
use Rattle.gl_model.specs.declared.event.Event.{Event}
use Rattle.gl_model.specs.declared.event.Stamp.{Stamp}
use Rattle.gl_model.specs.declared.limits.TheConstants.{THREADS, VARIABLES}
use Rattle.gl_model.specs.Elements.{IsActInRange, IsEventInRange}
use Rattle.gl_model.specs.Kept.{AreVariables}
use Rattle.gl_model.specs.Rising.{Rises, with_one}
use Rattle.gl_model.proofs.RisingLists.{past_all}
use Rattle.gl_rule.specs.Cells.{act_word, four_in, behind_four, words_of}
use Rattle.gl_table.specs.Unpacking.{act_at, part_of, id_in, HaveIds}

-- an act from its word
pub act_back : (t : ℕ) (a : Act) → t < 16 → IsActInRange a → ((k : ℕ) → a ≡ Fail k → k < 256)
    → act_at ((act_word a + 256 * t) % 256) ((act_word a + 256 * t) / 65536 % 65536) ≡ a
act_back t (Begin f) near range small = let k : (act_word (Begin f) + 256 * t) % 256 ≡ 1 = omega arith
    in let r : (act_word (Begin f) + 256 * t) / 65536 % 65536 ≡ f = omega arith in rw (k, r) refl
act_back t End near range small = let k : (act_word End + 256 * t) % 256 ≡ 2 = omega arith in rw k refl
act_back t (Acq o) near range small = let k : (act_word (Acq o) + 256 * t) % 256 ≡ 3 = omega arith
    in let r : (act_word (Acq o) + 256 * t) / 65536 % 65536 ≡ o = omega arith in rw (k, r) refl
act_back t (Rel o) near range small = let k : (act_word (Rel o) + 256 * t) % 256 ≡ 4 = omega arith
    in let r : (act_word (Rel o) + 256 * t) / 65536 % 65536 ≡ o = omega arith in rw (k, r) refl
act_back t (VRead v) near range small = let k : (act_word (VRead v) + 256 * t) % 256 ≡ 5 = omega arith
    in let r : (act_word (VRead v) + 256 * t) / 65536 % 65536 ≡ v = omega arith in rw (k, r) refl
act_back t (VWrite v) near range small = let k : (act_word (VWrite v) + 256 * t) % 256 ≡ 6 = omega arith
    in let r : (act_word (VWrite v) + 256 * t) / 65536 % 65536 ≡ v = omega arith in rw (k, r) refl
act_back t (Fork u f) near range small =
    let a = range.0 in let b = range.1 in
    let k : (act_word (Fork u f) + 256 * t) % 256 ≡ 7 = omega arith in
    let r : (act_word (Fork u f) + 256 * t) / 65536 % 65536 ≡ u + 16 * f = omega arith in
    let p : (u + 16 * f) % 16 ≡ u = omega arith in
    let q : (u + 16 * f) / 16 ≡ f = omega arith in
    rw (k, r) (ap (λ x. Fork x ((u + 16 * f) / 16)) p ∙ ap (λ y. Fork u y) q)
act_back t (Join u) near range small =
    let k : (act_word (Join u) + 256 * t) % 256 ≡ 8 = omega arith in
    let r : (act_word (Join u) + 256 * t) / 65536 % 65536 ≡ u = omega arith in
    let p : u % 256 ≡ u = omega arith in
    rw (k, r) (ap Join p)
act_back t (Alloc c) near range small = let k : (act_word (Alloc c) + 256 * t) % 256 ≡ 9 = omega arith
    in let r : (act_word (Alloc c) + 256 * t) / 65536 % 65536 ≡ c = omega arith in rw (k, r) refl
act_back t Print near range small = let k : (act_word Print + 256 * t) % 256 ≡ 10 = omega arith in rw k refl
act_back t Input near range small = let k : (act_word Input + 256 * t) % 256 ≡ 11 = omega arith in rw k refl
act_back t (Fail c) near range small =
    let s = small c refl in
    let k : (act_word (Fail c) + 256 * t) % 256 ≡ 13 = omega arith in
    let r : (act_word (Fail c) + 256 * t) / 65536 % 65536 ≡ c = omega arith in
    let p : c % 256 ≡ c = omega arith in
    rw (k, r) (ap Fail p)

-- each of the words of the list is an id
abbrev AreIds : List ℕ → Type 0
AreIds xs = AllByRecursion (λ x. x < VARIABLES) xs

-- an id of the first four from their word
four_back : (xs : List ℕ) (r : ℕ) → AreIds xs → r < length xs → r < 4 → part_of r (four_in xs) ≡ get_or xs r 0
four_back [] r all near few = absurd (omega arith)
four_back (a ∷ []) zero all near few = let x = all.0 in omega arith
four_back (a ∷ []) (suc r) all near few = absurd (omega arith)
four_back (a ∷ (b ∷ [])) zero all near few = let x = all.0 in let y = all.1.0 in omega arith
four_back (a ∷ (b ∷ [])) (suc zero) all near few = let x = all.0 in let y = all.1.0 in omega arith
four_back (a ∷ (b ∷ [])) (suc (suc r)) all near few = absurd (omega arith)
four_back (a ∷ (b ∷ (c ∷ []))) zero all near few = let x = all.0 in let y = all.1.0 in let z = all.1.1.0 in omega arith
four_back (a ∷ (b ∷ (c ∷ []))) (suc zero) all near few = let x = all.0 in let y = all.1.0 in let z = all.1.1.0 in omega arith
four_back (a ∷ (b ∷ (c ∷ []))) (suc (suc zero)) all near few = let x = all.0 in let y = all.1.0 in let z = all.1.1.0 in omega arith
four_back (a ∷ (b ∷ (c ∷ []))) (suc (suc (suc r))) all near few = absurd (omega arith)
four_back (a ∷ (b ∷ (c ∷ (d ∷ xs)))) zero all near few = let x = all.0 in let y = all.1.0 in let z = all.1.1.0 in let w = all.1.1.1.0
    in omega arith
four_back (a ∷ (b ∷ (c ∷ (d ∷ xs)))) (suc zero) all near few = let x = all.0 in let y = all.1.0 in let z = all.1.1.0 in let w = all.1.1.1.0
    in omega arith
four_back (a ∷ (b ∷ (c ∷ (d ∷ xs)))) (suc (suc zero)) all near few = let x = all.0 in let y = all.1.0 in let z = all.1.1.0
    in let w = all.1.1.1.0 in omega arith
four_back (a ∷ (b ∷ (c ∷ (d ∷ xs)))) (suc (suc (suc zero))) all near few = let x = all.0 in let y = all.1.0 in let z = all.1.1.0
    in let w = all.1.1.1.0 in omega arith
four_back (a ∷ (b ∷ (c ∷ (d ∷ xs)))) (suc (suc (suc (suc r)))) all near few = absurd (omega arith)

-- the words after the first four are ids, if all are
behind_all : (xs : List ℕ) → AreIds xs → AreIds (behind_four xs)
behind_all [] all = tt
behind_all (a ∷ []) all = tt
behind_all (a ∷ (b ∷ [])) all = tt
behind_all (a ∷ (b ∷ (c ∷ []))) all = tt
behind_all (a ∷ (b ∷ (c ∷ (d ∷ xs)))) all = all.1.1.1.1

-- the word at r after the first four is the word at 4 + r
behind_get : (xs : List ℕ) (r : ℕ) → get_or (behind_four xs) r 0 ≡ get_or xs (4 + r) 0
behind_get [] r = refl
behind_get (a ∷ []) r = let n : 4 + r ≡ suc (3 + r) = omega arith in sym (ap (λ k. get_or (a ∷ []) k 0) n)
behind_get (a ∷ (b ∷ [])) r = let n : 4 + r ≡ suc (suc (2 + r)) = omega arith in sym (ap (λ k. get_or (a ∷ (b ∷ [])) k 0) n)
behind_get (a ∷ (b ∷ (c ∷ []))) r = let n : 4 + r ≡ suc (suc (suc (1 + r))) = omega arith
    in sym (ap (λ k. get_or (a ∷ (b ∷ (c ∷ []))) k 0) n)
behind_get (a ∷ (b ∷ (c ∷ (d ∷ xs)))) r = let n : 4 + r ≡ suc (suc (suc (suc r))) = omega arith
    in sym (ap (λ k. get_or (a ∷ (b ∷ (c ∷ (d ∷ xs)))) k 0) n)

-- the words after the first four are four fewer
behind_long : (xs : List ℕ) → 4 ≤ length xs → length (behind_four xs) + 4 ≡ length xs
behind_long [] some = absurd (omega arith)
behind_long (a ∷ []) some = absurd (omega arith)
behind_long (a ∷ (b ∷ [])) some = absurd (omega arith)
behind_long (a ∷ (b ∷ (c ∷ []))) some = absurd (omega arith)
behind_long (a ∷ (b ∷ (c ∷ (d ∷ xs)))) some = omega arith

-- the words of a commit have its variables
pub ids_stand : (t : ℕ) (xs : List ℕ) → AreVariables xs → HaveIds (words_of t (Commit xs)) xs
ids_stand t xs are = record { variables = are; ids = ids }
  where
    one : (j g r : ℕ) (ys : List ℕ) → j ≡ 4 * g + r → r < 4 → slice_index (words_of t (Commit xs)) (1 + g) ≡ four_in ys → AreIds ys
        → r < length ys → get_or ys r 0 ≡ get_or xs j 0 → id_in (words_of t (Commit xs)) j ≡ get_or xs j 0
    one j g r ys is few word all near same =
        let q : j / 4 ≡ g = omega arith in
        let m : j % 4 ≡ r = omega arith in
        ap (λ k. part_of (j % 4) (slice_index (words_of t (Commit xs)) (1 + k))) q
        ∙ ap (λ k. part_of k (slice_index (words_of t (Commit xs)) (1 + g))) m ∙ ap (part_of r) word ∙ four_back ys r all near few ∙ same

    ids : (j : ℕ) → j < length xs → id_in (words_of t (Commit xs)) j ≡ get_or xs j 0
    ids j near =
        let most = are.0 in
        let b = behind_four xs in
        let c = behind_four b in
        let d = behind_four c in
        let all = are.2 in
        elim (cases_lt j 4) [
          | inl lt ↦ one j 0 j xs (omega arith) lt refl all near refl
          | inr ge ↦
              (let lb = behind_long xs (omega arith) in
              elim (cases_lt j 8) [
                | inl lt ↦ (let e : 4 + (j - 4) ≡ j = omega arith
                    in one j 1 (j - 4) b (omega arith) (omega arith) refl (behind_all xs all) (omega arith) (behind_get xs (j - 4)
                    ∙ ap (λ k. get_or xs k 0) e))
                | inr ge' ↦
                    (let lc = behind_long b (omega arith) in
                    elim (cases_lt j 12) [
                      | inl lt ↦ (let e : 4 + (4 + (j - 8)) ≡ j = omega arith
                          in one j 2 (j - 8) c (omega arith) (omega arith) refl (behind_all b (behind_all xs all)) (omega arith)
                          (behind_get b (j - 8) ∙ behind_get xs (4 + (j - 8)) ∙ ap (λ k. get_or xs k 0) e))
                      | inr ge'' ↦
                          (let ld = behind_long c (omega arith) in
                          let e : 4 + (4 + (4 + (j - 12))) ≡ j = omega arith in
                          one j 3 (j - 12) d (omega arith) (omega arith) refl (behind_all c (behind_all b (behind_all xs all)))
                          (omega arith) (behind_get c (j - 12) ∙ behind_get b (4 + (j - 12)) ∙ behind_get xs (4 + (4 + (j - 12)))
                          ∙ ap (λ k. get_or xs k 0) e))
                    ])
              ])
        ]

-- each word of a list above x is above x
above_all : (x : ℕ) (xs : List ℕ) (j : ℕ) → AllByRecursion (λ y. x < y) xs → j < length xs → x < get_or xs j 0
above_all x [] j all near = absurd (omega arith)
above_all x (y ∷ xs) zero all near = all.0
above_all x (y ∷ xs) (suc j) all near = above_all x xs j all.1 (omega arith)

-- in a rising list a later word is above an earlier one
rises_get : (xs : List ℕ) (k j : ℕ) → Rises xs → k < j → j < length xs → get_or xs k 0 < get_or xs j 0
rises_get [] k j rises lt near = absurd (omega arith)
rises_get (x ∷ xs) k zero rises lt near = absurd (omega arith)
rises_get (x ∷ xs) zero (suc j) rises lt near = above_all x xs j rises.0 (omega arith)
rises_get (x ∷ xs) (suc k) (suc j) rises lt near = rises_get xs k j rises.1 (omega arith) (omega arith)

-- a word before the cut of a list is the word of the list
take_get : (xs : List ℕ) (j k : ℕ) → k < j → get_or (take j xs) k 0 ≡ get_or xs k 0
take_get [] zero k lt = absurd (omega arith)
take_get [] (suc j) k lt = refl
take_get (x ∷ xs) zero k lt = absurd (omega arith)
take_get (x ∷ xs) (suc j) zero lt = refl
take_get (x ∷ xs) (suc j) (suc k) lt = take_get xs j k (omega arith)

-- the first j words of a list that has so many are j
take_long : (xs : List ℕ) (j : ℕ) → j ≤ length xs → length (take j xs) ≡ j
take_long [] zero le = refl
take_long [] (suc j) le = absurd (omega arith)
take_long (x ∷ xs) zero le = refl
take_long (x ∷ xs) (suc j) le = ap suc (take_long xs j (omega arith))

-- one id more of a list that rises
pub next_id : (xs : List ℕ) (j : ℕ) → Rises xs → j < length xs → with_one (get_or xs j 0) (take j xs) ≡ take (j + 1) xs
next_id xs j rises near =
    past_all (take j xs) (get_or xs j 0) (λ k lt. let n = take_long xs j (omega arith)
    in subst (λ z. z < get_or xs j 0) (sym (take_get xs j k (omega arith))) (rises_get xs k j rises (omega arith) near))
    ∙ sym (take_more xs j 0 near)

-- a word of a list of variables is a variable
pub id_near : (xs : List ℕ) (j : ℕ) → AllByRecursion (λ x. x < VARIABLES) xs → j < length xs → get_or xs j 0 < VARIABLES
id_near [] j all near = absurd (omega arith)
id_near (x ∷ xs) zero all near = all.0
id_near (x ∷ xs) (suc j) all near = id_near xs j all.1 (omega arith)

-- the word of an act, with a thread's id in its upper part, is not the word of a commit
not_commit : (t : ℕ) (a : Act) → t < 16 → (act_word a + 256 * t) % 256 ≡ 12 → ⊥
not_commit t (Begin f) near e = omega arith
not_commit t End near e = omega arith
not_commit t (Acq o) near e = omega arith
not_commit t (Rel o) near e = omega arith
not_commit t (VRead o) near e = omega arith
not_commit t (VWrite o) near e = omega arith
not_commit t (Fork u f) near e = omega arith
not_commit t (Join u) near e = omega arith
not_commit t (Alloc c) near e = omega arith
not_commit t Print near e = omega arith
not_commit t Input near e = omega arith
not_commit t (Fail c) near e = omega arith

-- an event of a thread
abbrev pub stamp_of : ℕ → Event → Stamp
stamp_of t e = record { thread = t; event = e }

-- stamps of the same thread and the same event are the same
stamp_is : (t u : ℕ) (e f : Event) → t ≡ u → e ≡ f → stamp_of t e ≡ stamp_of u f
stamp_is t u e f a b = λ i. stamp_of (a i) (b i)

-- words of kind 12 are those of a commit
pub as_commit : (t : ℕ) (e : Event) (ws vars : List ℕ) → t < THREADS → IsEventInRange e → ws ≡ words_of t e → slice_index ws 0 % 256 ≡ 12
    → ((xs : List ℕ) → HaveIds ws xs → slice_index ws 0 / 4294967296 ≡ length xs → vars ≡ xs)
    → stamp_of (slice_index ws 0 / 256 % 256) (Commit vars) ≡ stamp_of t e
as_commit t (Does a) ws vars near range is kind from = absurd (not_commit t a near (ap (λ l. slice_index l 0 % 256) (sym is) ∙ kind))
as_commit t (Commit xs) ws vars near range is kind from =
    let most = range.0 in
    let head : slice_index ws 0 ≡ 12 + 256 * t + 4294967296 * length xs = ap (λ l. slice_index l 0) is in
    let a : slice_index ws 0 / 256 % 256 ≡ t = omega arith in
    let n : slice_index ws 0 / 4294967296 ≡ length xs = omega arith in
    stamp_is (slice_index ws 0 / 256 % 256) t (Commit vars) (Commit xs) a
    (ap Commit (from xs (subst (λ l. HaveIds l xs) (sym is) (ids_stand t xs range)) n))

-- a commit's count of ids
pub commit_ids : (t : ℕ) (e : Event) (ws : List ℕ) → t < THREADS → IsEventInRange e → ws ≡ words_of t e → slice_index ws 0 % 256 ≡ 12
    → (xs : List ℕ) × HaveIds ws xs × (slice_index ws 0 / 4294967296 ≡ length xs)
commit_ids t (Does a) ws near range is kind = absurd (not_commit t a near (ap (λ l. slice_index l 0 % 256) (sym is) ∙ kind))
commit_ids t (Commit xs) ws near range is kind =
    let most = range.0 in
    let head : slice_index ws 0 ≡ 12 + 256 * t + 4294967296 * length xs = ap (λ l. slice_index l 0) is in
    (xs, subst (λ l. HaveIds l xs) (sym is) (ids_stand t xs range), omega arith)
