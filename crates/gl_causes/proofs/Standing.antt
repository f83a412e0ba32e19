-- The entries of a record, laid out, with one entry more.
use Rattle.std.proofs.Common.{◌≡◌, ℕ, ◌+◌, ◌<◌, ◌≤◌, List, [], ◌∷◌, ◌++◌, length, refl, sym, subst, inl, inr, arith, Some}
use Rattle.std.specs.Prelude.{slice_get}
use Rattle.std.proofs.lemmas.Bool.{cases_lt}
use Rattle.std.proofs.lemmas.Option.{slice_get_within}
use Rattle.gl_model.specs.Entries.{Entry}
use Rattle.gl_model.specs.Records.{Lists}
use Rattle.gl_places.specs.Places.{Before}
use Rattle.gl_causes.specs.Stands.{Stand, IsStand, AreStands}
use Rattle.gl_raised.proofs.Gathering.{at_cases, kept_at, new_at, next_before, next_cases}
use Rattle.gl_raised.specs.Gathers.{block_before}

-- with the entry at i put last, these are the entries before the next place
pub stands_more :
    (R : Lists) (t i b : ℕ) (e : Entry) (stands : List Stand) → slice_get (R t) i ≡ Some e → b ≡ block_before (R t) (i + 1) →
    AreStands R (record { thread = t; index = i }) stands →
    AreStands R (record { thread = t; index = i + 1 }) (stands
    ++ (record { place = record { thread = t; index = i }; block = b; entry = e }) ∷ [])
stands_more R t i b e stands there block so_far = record {
  each = λ k s a. elim (at_cases stands its s k a) [
    | inl old ↦ ((so_far.each k s old).0, next_before s.place t i (so_far.each k s old).1)
    | inr now ↦ subst (λ (r : Stand). IsStand R r × Before r.place (record { thread = t; index = i + 1 })) (sym now.1)
        (record { there = there; block = block }, inr (refl, omega arith))
  ];
  all = λ c f a before. elim (next_cases c t i before) [
    | inl old ↦ (let w = so_far.all c f a old in (w.0, (w.1.0, kept_at stands (its ∷ []) w.0 w.1.0 w.1.1, w.1.2)))
    | inr now ↦ (length stands, (its, new_at stands its, sym now))
  ];
  rising = λ j k r s ar bs lt. elim (at_cases stands its s k bs) [
    | inl old ↦ elim (at_cases stands its r j ar) [
      | inl first ↦ so_far.rising j k r s first old lt
      | inr last ↦ absurd (let w = slice_get_within stands k s old in let z = last.0 in omega arith)
    ]
    | inr now ↦ elim (at_cases stands its r j ar) [
      | inl first ↦ subst (λ (n : Stand). Before r.place n.place) (sym now.1) (so_far.each j r first).1
      | inr last ↦ absurd (let z = last.0 in let y = now.0 in omega arith)
    ]
  ];
}
  where
    its : Stand
    its = record { place = record { thread = t; index = i }; block = b; entry = e }

-- the entries up to the end of a thread's list are those before the next thread's first place
pub next_thread : (R : Lists) (t n : ℕ) (stands : List Stand) → length (R t) ≤ n → AreStands R (record { thread = t; index = n }) stands
    → AreStands R (record { thread = t + 1; index = 0 }) stands
next_thread R t n stands long so_far = record {
  each = λ k s a. (
    (so_far.each k s a).0,
    elim (so_far.each k s a).1 [ inl lt ↦ inl (omega arith) | inr s ↦ (let z = s.0 in inl (omega arith)) ],
  );
  all = λ c e a before. so_far.all c e a (elim before [
    | inl lt ↦ elim (cases_lt c.thread t) [
      | inl less ↦ inl less
      | inr ge ↦ inr (let same : c.thread ≡ t = omega arith
          in (
            same,
            let w : c.index < length (R t) = subst (λ u. c.index < length (R u)) same (slice_get_within (R c.thread) c.index e a)
                in omega arith,
          ))
    ]
    | inr s ↦ absurd (let z = s.1 in omega arith)
  ]);
  rising = so_far.rising;
}
