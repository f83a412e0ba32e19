-- Each entry of a list that its machine makes is made by an instruction or by none, or is a note.
use Rattle.std.proofs.Common.{◌≡◌, ℕ, zero, suc, ◌<◌, List, [], ◌∷◌, ◌++◌, Some, length, refl, sym, ◌∙◌, ap, subst, take, inl, inr, arith}
use Rattle.std.specs.Prelude.{◌⊎◌, slice_get}
use Rattle.std.proofs.lemmas.Option.{slice_get_cases}
use Rattle.gl_model.specs.Entries.{Entry, Sync, Commit, Plain, Abort, Trim, Over}
use Rattle.gl_model.specs.Form.{IsOver, IsTrim}
use Rattle.gl_bytecode.specs.declared.ask.Stage.{Stage}
use Rattle.gl_bytecode.specs.declared.ask.Stage.TheVariants as stages
use Rattle.gl_bytecode.specs.Programs.{Bytecode}
use Rattle.gl_bytecode.specs.Runs.{Exchange, Made, Quiet, Progress, Runs, entries_of, outset, told, told_one, without_trims}
use Rattle.gl_bytecode.proofs.Exchanges.{told_cons}
use Rattle.gl_follow.proofs.Peeling.{told_more}
use Rattle.gl_sites.specs.Sites.{IsAnswered, IsMadeAt, IsMadeByNone, IsNote, IsOfInstruction}

-- ## The exchanges before an entry

-- the machine comes to a point by these entries, where the next answers it
pub record CutBefore (P : Bytecode) (p : Progress) (front : List Entry) (e : Entry) : Type 0 where
  pub exchanges : List Exchange
  pub asking : Progress
  pub after : Progress
  pub entries : entries_of exchanges ≡ front
  pub reached : told P p exchanges ≡ Some asking
  pub answered : told_one P (Made e) asking ≡ Some after

-- a list with an element is not empty
none_in : {A : Type 0} (xs ys : List A) (x : A) → [] ≡ xs ++ x ∷ ys → ⊥
none_in [] ys x is = cc
none_in (y ∷ xs) ys x is = cc

-- exchanges that make a list can be cut before each of its entries
cut_before : (P : Bytecode) (xs : List Exchange) (p q : Progress) (front back : List Entry) (e : Entry) → told P p xs ≡ Some q
    → entries_of xs ≡ front ++ e ∷ back → CutBefore P p front e
unfolding told
cut_before P [] p q front back e is entries = absurd (none_in front back e entries)
cut_before P (Quiet r ∷ xs) p q front back e is entries =
    let parts = told_cons P (Quiet r) xs p q is in
    let cut = cut_before P xs parts.mid q front back e parts.rest entries in
    record {
      exchanges = Quiet r ∷ cut.exchanges;
      asking = cut.asking;
      after = cut.after;
      entries = cut.entries;
      reached = told_more P (Quiet r) cut.exchanges p parts.mid (Some cut.asking) parts.first cut.reached;
      answered = cut.answered;
    }
cut_before P (Made d ∷ xs) p q [] back e is entries =
    let parts = told_cons P (Made d) xs p q is in
    let same : d ≡ e = cc in
    record {
      exchanges = [];
      asking = p;
      after = parts.mid;
      entries = refl;
      reached = refl;
      answered = ap (λ b. told_one P (Made b) p) (sym same) ∙ parts.first;
    }
cut_before P (Made d ∷ xs) p q (a ∷ front) back e is entries =
    let parts = told_cons P (Made d) xs p q is in
    let heads : d ≡ a = cc in
    let tails : entries_of xs ≡ front ++ e ∷ back = cc in
    let cut = cut_before P xs parts.mid q front back e parts.rest tails in
    record {
      exchanges = Made d ∷ cut.exchanges;
      asking = cut.asking;
      after = cut.after;
      entries = ap (λ es. d ∷ es) cut.entries ∙ ap (λ b. b ∷ front) heads;
      reached = told_more P (Made d) cut.exchanges p parts.mid (Some cut.asking) parts.first cut.reached;
      answered = cut.answered;
    }

-- ## An entry among the others

-- without trims, the list is what stands before an entry, the entry, and what stands behind it
split_list : (es : List Entry) (n : ℕ) (e : Entry) → slice_get es n ≡ Some e → (IsTrim e → ⊥)
    → (back : List Entry) × (without_trims es ≡ without_trims (take n es) ++ e ∷ back)
split_list [] n e there never = cc
split_list (d ∷ es) zero e there never = (let same : d ≡ e = cc in first d e es same never)
  where
    first : (d e : Entry) (es : List Entry) → d ≡ e → (IsTrim e → ⊥) → (back : List Entry) × (without_trims (d ∷ es) ≡ e ∷ back)
    first (Sync at act value) e es same never = (without_trims es, ap (λ b. b ∷ without_trims es) same)
    first (Commit at tx) e es same never = (without_trims es, ap (λ b. b ∷ without_trims es) same)
    first (Plain x nth cached write value raised) e es same never = (without_trims es, ap (λ b. b ∷ without_trims es) same)
    first (Abort tx why) e es same never = (without_trims es, ap (λ b. b ∷ without_trims es) same)
    first (Over ending) e es same never = (without_trims es, ap (λ b. b ∷ without_trims es) same)
    first (Trim low) e es same never = absurd (never (subst IsTrim same tt))
split_list (Sync at act value ∷ es) (suc n) e there never =
    let rest = split_list es n e there never in (rest.0, ap (λ xs. Sync at act value ∷ xs) rest.1)
split_list (Commit at tx ∷ es) (suc n) e there never =
    let rest = split_list es n e there never in (rest.0, ap (λ xs. Commit at tx ∷ xs) rest.1)
split_list (Plain x nth cached write value raised ∷ es) (suc n) e there never =
    let rest = split_list es n e there never in (rest.0, ap (λ xs. Plain x nth cached write value raised ∷ xs) rest.1)
split_list (Abort tx why ∷ es) (suc n) e there never =
    let rest = split_list es n e there never in (rest.0, ap (λ xs. Abort tx why ∷ xs) rest.1)
split_list (Over ending ∷ es) (suc n) e there never =
    let rest = split_list es n e there never in (rest.0, ap (λ xs. Over ending ∷ xs) rest.1)
split_list (Trim low ∷ es) (suc n) e there never = split_list es n e there never

-- an entry of a list with one behind it is in the list, or is the one
in_front : {A : Type 0} (xs front back : List A) (z e : A) → xs ++ z ∷ [] ≡ front ++ e ∷ back
    → (z ≡ e) ⊎ ((rest : List A) × (xs ≡ front ++ e ∷ rest))
in_front [] [] back z e is = inl cc
in_front [] (a ∷ front) back z e is = absurd (none_in front back e (let tails : [] ≡ front ++ e ∷ back = cc in tails))
in_front (x ∷ xs) [] back z e is = (let same : x ≡ e = cc in inr (xs, ap (λ b. b ∷ xs) same))
in_front (x ∷ xs) (a ∷ front) back z e is =
    let heads : x ≡ a = cc in
    let tails : xs ++ z ∷ [] ≡ front ++ e ∷ back = cc in
    elim (in_front xs front back z e tails) [
      | inl last ↦ inl last
      | inr rest ↦ inr (rest.0, ap (λ ys. x ∷ ys) rest.1 ∙ ap (λ b. b ∷ (front ++ e ∷ rest.0)) heads)
    ]

-- ## Made by an instruction or by none

-- at each stage an instruction is at work, or none is
by_instruction : (s : Stage) → IsOfInstruction s ⊎ (IsOfInstruction s → ⊥)
by_instruction stages.New = inr (λ never. never)
by_instruction stages.Begins = inr (λ never. never)
by_instruction stages.Runs = inr (λ never. never)
by_instruction (stages.Waits ask) = inl tt
by_instruction (stages.Drops failure) = inl tt
by_instruction (stages.Leaves ending o) = inr (λ never. never)
by_instruction (stages.Ends ending) = inr (λ never. never)
by_instruction (stages.Over ending) = inr (λ never. never)

-- who made it
abbrev pub HasMaker : Bytecode → ℕ → ℕ → List Entry → ℕ → Type 0
HasMaker P steps t list n =
    ((f : ℕ) × (i : ℕ) × IsMadeAt P steps t list n f i) ⊎ (IsMadeByNone P steps t list n ⊎ IsNote list n)

-- an entry that answers a machine was made by its instruction, or by none
answered_by : (P : Bytecode) (steps t : ℕ) (list : List Entry) (n : ℕ) (p : Progress) → IsAnswered P steps t list n p
    → HasMaker P steps t list n
answered_by P steps t list n p is =
    elim (by_instruction p.config.stage) [
      | inl by ↦ inl (p.config.frame.function, p.config.frame.place, record { asking = p; is = is; by = by; function = refl; place = refl })
      | inr none ↦ inr (inl (record { asking = p; is = is; by_none = none }))
    ]

-- an entry is a trim or not
trim_or : (e : Entry) → IsTrim e ⊎ (IsTrim e → ⊥)
trim_or (Trim low) = inl tt
trim_or (Sync at act value) = inr (λ never. never)
trim_or (Commit at tx) = inr (λ never. never)
trim_or (Plain x nth cached write value raised) = inr (λ never. never)
trim_or (Abort tx why) = inr (λ never. never)
trim_or (Over ending) = inr (λ never. never)

-- each entry but a trim, in a list that its machine makes, has one who made it
entry_made : (P : Bytecode) (steps t : ℕ) (list : List Entry) (n : ℕ) (e : Entry) → Runs P steps t list → slice_get list n ≡ Some e
    → (IsTrim e → ⊥) → HasMaker P steps t list n
entry_made P steps t list n e runs there never =
    let split = split_list list n e there never in
    elim (in_front (without_trims runs.before) (without_trims (take n list)) split.0 (Over runs.ending) e (sym runs.whole ∙ split.1)) [
      | inl last ↦ inr (inr (record { entry = e; there = there; note = inr (subst IsOver last tt) }))
      | inr early ↦
          let cut = cut_before P runs.along.exchanges (outset P t steps) runs.last (without_trims (take n list)) early.0 e
          runs.along.reached (runs.along.made ∙ early.1) in
          answered_by P steps t list n cut.asking (record {
            entry = e;
            next = cut.after;
            there = there;
            along = record { exchanges = cut.exchanges; made = cut.entries; reached = cut.reached };
            answered = cut.answered;
          })
    ]

-- each entry has its maker
pub some_maker : (P : Bytecode) (steps t : ℕ) (list : List Entry) (n : ℕ) → Runs P steps t list → n < length list
    → HasMaker P steps t list n
some_maker P steps t list n runs less =
    elim (slice_get_cases list n).1 [
      | inl e ↦
          elim (trim_or e.0) [
            | inl trim ↦ inr (inr (record { entry = e.0; there = e.2; note = inl trim }))
            | inr never ↦ entry_made P steps t list n e.0 runs e.2 never
          ]
      | inr past ↦ absurd (let beyond = past.0 in omega (arith, less, beyond))
    ]
