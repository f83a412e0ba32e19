-- The record of two threads, laid out, is one history of one memory.
use Rattle.std.proofs.Common.{◌≡◌, ℕ, zero, suc, ◌<◌, ◌≤◌, ◌==◌, List, [], ◌∷◌, refl, ap, sym, ◌∙◌, inl, inr, arith, Some, true, false}
use Rattle.std.specs.Prelude.{◌⊎◌, slice_get, pos, ℤ, Contains, if◌then◌else◌}
use Rattle.gl_model.specs.declared.event.Act.TheVariants.{Begin, End, Fork}
use Rattle.gl_model.specs.declared.event.Event.TheVariants.{Act as Does, Commit as Commits}
use Rattle.gl_model.specs.declared.tx.Look.{Look}
use Rattle.gl_model.specs.declared.tx.Number.{Number}
use Rattle.gl_model.specs.Entries.{Entry}
use Rattle.gl_model.specs.Flat.{IsFlat, IsLaidOut, ReadsRight, LooksReadRight, LooksAgree, IsWordBelow, IsWritten, WritesValue, Legal}
use Rattle.gl_model.specs.Form.{At}
use Rattle.gl_model.specs.Machine.{trace_setting, with_at}
use Rattle.gl_model.specs.Records.{Place, EntryAt, InProgramOrder, IsBlockOf, NumberOn, position_of}
use Rattle.gl_laws.proofs.SmallRecords.{at, all_at}
use Rattle.gl_laws.proofs.TwoThreads.{B0, F0, FirstWrite, C0, K0, R0, E0, B1, OtherWrite, K1, E1, es0, es1, R, entries0, entries1, each, look, number, pair, only, nothing}
use Rattle.gl_laws.proofs.TwoThreadsRun.{stamp, s1, s2, s3, s6, s7, step_begin, step_fork, step_begun, step_end_1, step_end_0}

-- the places of the history, in order
abbrev cs : List Place
cs = at 0 0 ∷ at 0 1 ∷ at 0 2 ∷ at 0 3 ∷ at 1 0 ∷ at 1 3 ∷ at 1 4 ∷ at 0 5 ∷ at 0 6 ∷ at 1 5 ∷ at 0 7 ∷ []

-- the block of each place that is laid out
abbrev block : Place → ℕ
block c =
    if c.thread == 0 then (if c.index == 0 then 0 else if c.index == 7 then 6 else if c.index == 5 then 4 else if c.index == 6 then 4
    else 1)
    else (if c.index == 4 then 3 else if c.index == 5 then 5 else 2)

-- the events of thread 0 stand at 0, 1, 5 and 7; those of thread 1 at 0, 4 and 5
index0 : (j : ℕ) (e : Entry) → At es0 j e → (q : ℕ) → position_of e ≡ Some q → (j ≤ 1) ⊎ (j ≡ 5) ⊎ (j ≡ 7)
index0 = entries0 (λ j e. (q : ℕ) → position_of e ≡ Some q → (j ≤ 1) ⊎ (j ≡ 5) ⊎ (j ≡ 7))
    (λ q z. inl (omega arith)) (λ q z. inl (omega arith)) (λ q z. absurd (cc)) (λ q z. absurd (cc)) (λ q z. absurd (cc))
    (λ q z. inr (inl refl)) (λ q z. absurd (cc)) (λ q z. inr (inr refl)) (λ q z. absurd (cc))

-- the events of thread 1 stand at indices 0, 4 and 5
index1 : (j : ℕ) (e : Entry) → At es1 j e → (q : ℕ) → position_of e ≡ Some q → (j ≡ 0) ⊎ (j ≡ 4) ⊎ (j ≡ 5)
index1 = entries1 (λ j e. (q : ℕ) → position_of e ≡ Some q → (j ≡ 0) ⊎ (j ≡ 4) ⊎ (j ≡ 5))
    (λ q z. inl refl) (λ q z. absurd (cc)) (λ q z. absurd (cc)) (λ q z. absurd (cc)) (λ q z. inr (inl refl)) (λ q z. inr (inr refl))
    (λ q z. absurd (cc))

-- the block of thread 0's begin is 0
block_00 : IsBlockOf R (at 0 0) 0
block_00 = record {
  index = 0;
  event = stamp 0 (Does (Begin 0));
  made = record { entry = B0; there = refl; position = refl; event = refl; own = refl };
  within = omega arith;
  last = λ j q s e le. le;
}

-- thread 0's entries from its fork up to its commit are in block 1
block_01 : (i : ℕ) → 1 ≤ i → i < 5 → IsBlockOf R (at 0 i) 1
block_01 i lo hi = record {
  index = 1;
  event = stamp 0 (Does (Fork 1 0));
  made = record { entry = F0; there = refl; position = refl; event = refl; own = refl };
  within = lo;
  last = λ j q s e le. let z =
      index0 j e.entry e.there q e.position in omega arith;
}

-- thread 0's commit, and its read after that, are in block 4
block_05 : (i : ℕ) → 5 ≤ i → i < 7 → IsBlockOf R (at 0 i) 4
block_05 i lo hi = record {
  index = 5;
  event = stamp 0 (Commits (6 ∷ []));
  made = record { entry = K0; there = refl; position = refl; event = refl; own = refl };
  within = lo;
  last = λ j q s e le. let z =
      index0 j e.entry e.there q e.position in omega arith;
}

-- the block of thread 0's end is 6
block_07 : IsBlockOf R (at 0 7) 6
block_07 = record {
  index = 7;
  event = stamp 0 (Does End);
  made = record { entry = E0; there = refl; position = refl; event = refl; own = refl };
  within = omega arith;
  last = λ j q s e le. le;
}

-- thread 1's entries before its commit are in block 2
block_10 : (i : ℕ) → i < 4 → IsBlockOf R (at 1 i) 2
block_10 i hi = record {
  index = 0;
  event = stamp 1 (Does (Begin 0));
  made = record { entry = B1; there = refl; position = refl; event = refl; own = refl };
  within = omega arith;
  last = λ j q s e le. let z =
      index1 j e.entry e.there q e.position in omega arith;
}

-- the block of thread 1's commit is 3
block_14 : IsBlockOf R (at 1 4) 3
block_14 = record {
  index = 4;
  event = stamp 1 (Commits (6 ∷ []));
  made = record { entry = K1; there = refl; position = refl; event = refl; own = refl };
  within = omega arith;
  last = λ j q s e le. le;
}

-- the block of thread 1's end is 5
block_15 : IsBlockOf R (at 1 5) 5
block_15 = record {
  index = 5;
  event = stamp 1 (Does End);
  made = record { entry = E1; there = refl; position = refl; event = refl; own = refl };
  within = omega arith;
  last = λ j q s e le. le;
}

-- the order in which places are laid out
abbrev Before : Place → Place → Type 0
Before c d = (block c < block d) ⊎ ((block c ≡ block d) × InProgramOrder c d)

-- being laid out before is transitive
before_trans : (c d e : Place) → Before c d → Before d e → Before c e
before_trans c d e (inl a) (inl b) = inl (omega arith)
before_trans c d e (inl a) (inr b) = inl (let z = b.0 in omega arith)
before_trans c d e (inr a) (inl b) = inl (let z = a.0 in omega arith)
before_trans c d e (inr a) (inr b) = inr (a.0 ∙ b.0, (a.1.0 ∙ b.1.0, (let x = a.1.1 in let y = b.1.1 in omega arith)))

-- each place is before the next one
abbrev Chain : Place → List Place → Type 0
Chain c [] = Unit {0}
Chain c (d ∷ ds) = Before c d × Chain d ds

-- along a chain the first place is laid out before each later one
chain_all : (c : Place) (ds : List Place) → Chain c ds → (j : ℕ) (d : Place) → slice_get ds j ≡ Some d → Before c d
chain_all c [] ch j d at = absurd (cc)
chain_all c (e ∷ ds) ch zero d at = let same : e ≡ d = cc in rw (sym same) ch.0
chain_all c (e ∷ ds) ch (suc j) d at = before_trans c e d ch.0 (chain_all e ds ch.1 j d at)

-- along a chain an earlier place is laid out before a later one
chain_order : (c : Place) (ds : List Place) → Chain c ds → (i j : ℕ) (a b : Place) → slice_get (c ∷ ds) i ≡ Some a → slice_get (c ∷ ds) j
    ≡ Some b → i < j → Before a b
chain_order c ds ch zero zero a b x y lt = absurd (omega arith)
chain_order c ds ch zero (suc j) a b x y lt = let same : c ≡ a = cc in rw (sym same) (chain_all c ds ch j b y)
chain_order c ds ch (suc i) zero a b x y lt = absurd (omega arith)
chain_order c [] ch (suc i) (suc j) a b x y lt = absurd (cc)
chain_order c (d ∷ ds) ch (suc i) (suc j) a b x y lt = chain_order d ds ch.1 i j a b x y (omega arith)

-- the places of the history are a chain
chained : Chain (at 0 0) (at 0 1 ∷ at 0 2 ∷ at 0 3 ∷ at 1 0 ∷ at 1 3 ∷ at 1 4 ∷ at 0 5 ∷ at 0 6 ∷ at 1 5 ∷ at 0 7 ∷ [])
chained = (
  inl (omega arith),
  (
    inr (refl, (refl, omega arith)),
    (
      inr (refl, (refl, omega arith)),
      (
        inl (omega arith),
        (
          inr (refl, (refl, omega arith)),
          (
            inl (omega arith),
            (inl (omega arith), (inr (refl, (refl, omega arith)), (inl (omega arith), (inl (omega arith), tt)))),
          ),
        ),
      ),
    ),
  ),
)

-- each place of the history has the block that was named
blocked : (i : ℕ) (c : Place) → slice_get cs i ≡ Some c → IsBlockOf R c (block c)
blocked = all_at (λ i c. IsBlockOf R c (block c)) cs (
  block_00,
  (
    block_01 1 (omega arith) (omega arith),
    (
      block_01 2 (omega arith) (omega arith),
      (
        block_01 3 (omega arith) (omega arith),
        (
          block_10 0 (omega arith),
          (
            block_10 3 (omega arith),
            (block_14, (block_05 5 (omega arith) (omega arith), (block_05 6 (omega arith) (omega arith), (block_15, (block_07, tt))))),
          ),
        ),
      ),
    ),
  ),
)

-- the history is the record, laid out
flat : IsFlat R cs
flat = record {
  each = λ c. (there c, λ e. laid c e.0 e.1 e.2);
  in_order = λ i j c d a b lt. record {
    first = block c;
    second = block d;
    of_first = blocked i c a;
    of_second = blocked j d b;
    order =
        chain_order (at 0 0) (at 0 1 ∷ at 0 2 ∷ at 0 3 ∷ at 1 0 ∷ at 1 3 ∷ at 1 4 ∷ at 0 5 ∷ at 0 6 ∷ at 1 5 ∷ at 0 7 ∷ []) chained i j c d
        a b
        lt;
  };
}
  where
    there : (c : Place) → Contains cs c → (e : Entry) × EntryAt R c e × IsLaidOut e
    there c (zero, lt, e) = rw (sym e) (B0, refl, tt)
    there c (suc zero, lt, e) = rw (sym e) (F0, refl, tt)
    there c (suc (suc zero), lt, e) = rw (sym e) (FirstWrite, refl, refl)
    there c (suc (suc (suc zero)), lt, e) = rw (sym e) (C0, refl, refl)
    there c (suc (suc (suc (suc zero))), lt, e) = rw (sym e) (B1, refl, tt)
    there c (suc (suc (suc (suc (suc zero)))), lt, e) = rw (sym e) (OtherWrite, refl, refl)
    there c (suc (suc (suc (suc (suc (suc zero))))), lt, e) = rw (sym e) (K1, refl, tt)
    there c (suc (suc (suc (suc (suc (suc (suc zero)))))), lt, e) = rw (sym e) (K0, refl, tt)
    there c (suc (suc (suc (suc (suc (suc (suc (suc zero))))))), lt, e) = rw (sym e) (R0, refl, refl)
    there c (suc (suc (suc (suc (suc (suc (suc (suc (suc zero)))))))), lt, e) = rw (sym e) (E1, refl, tt)
    there c (suc (suc (suc (suc (suc (suc (suc (suc (suc (suc zero))))))))), lt, e) = rw (sym e) (E0, refl, tt)
    there c (suc (suc (suc (suc (suc (suc (suc (suc (suc (suc (suc k)))))))))), lt, e) = absurd (omega arith)

    laid : (c : Place) (e : Entry) → EntryAt R c e → IsLaidOut e → Contains cs c
    laid = each (λ c e. IsLaidOut e → Contains cs c)
        (λ l. (0, omega arith, refl)) (λ l. (1, omega arith, refl)) (λ l. (2, omega arith, refl)) (λ l. (3, omega arith, refl))
        (λ l. absurd l) (λ l. (7, omega arith, refl)) (λ l. (8, omega arith, refl)) (λ l. (10, omega arith, refl)) (λ l. absurd l)
        (λ l. (4, omega arith, refl)) (λ l. absurd (let z : true ≡ false = l in cc)) (λ l. absurd l) (λ l. (5, omega arith, refl))
        (λ l. (6, omega arith, refl)) (λ l. (9, omega arith, refl)) (λ l. absurd l)

-- the words: of variable 5, then of 8, then of 6
abbrev words_5 : ℕ → ℤ
words_5 = with_at (λ _. pos 0) 5 (pos 7)

-- the words with what thread 1 wrote to variable 8
abbrev words_8 : ℕ → ℤ
words_8 = with_at words_5 8 (pos 9)

-- the words with what its commit wrote to variable 6
abbrev words_6 : ℕ → ℤ
words_6 = with_at words_8 6 (pos 3)

-- which performed entries write which values
abbrev Wrote : ℕ → ℕ → Type 0
Wrote x j = ((x ≡ 5) × (j ≡ 0)) ⊎ ((x ≡ 6) × (j ≡ 1)) ⊎ ((x ≡ 8) × (j ≡ 0))

-- a performed write has one of these variables and numbers
written : (c : Place) (e : Entry) → EntryAt R c e → (x j : ℕ) (u : ℤ) → NumberOn e x j → WritesValue e x u → Wrote x j
written = each (λ c e. (x j : ℕ) (u : ℤ) → NumberOn e x j → WritesValue e x u → Wrote x j)
    (λ x j u n w. absurd n) (λ x j u n w. absurd n) (λ x j u n w. inl (sym n.0, sym n.1)) (λ x j u n w. absurd (let z = w.2 in cc))
    (λ x j u n w. absurd n) (λ x j u n w. nothing (pair x u) w) (λ x j u n w. absurd (let z = w.2 in cc)) (λ x j u n w. absurd n)
    (λ x j u n w. absurd n)
    (λ x j u n w. absurd n) (λ x j u n w. absurd (let z = w.0 in cc)) (λ x j u n w. absurd w) (λ x j u n w. inr (inr (sym n.0, sym n.1)))
    (λ x j u n w. let e = only (number 6 1) (number x j) n
    in inr (inl (sym (ap (λ (l : Number). l.var) e), sym (ap (λ (l : Number). l.nth) e)))) (λ x j u n w. absurd n) (λ x j u n w. absurd n)

-- what is written in the record has one of these variables and numbers
wrote_of : (x j : ℕ) (u : ℤ) → IsWritten R x j u → Wrote x j
wrote_of x j u w = written w.0 w.1.0 w.1.1 x j u w.1.2 w.1.3

-- below each number above 1 the word of variable 6 is 3
word_6 : (n : ℕ) → 1 < n → IsWordBelow R 6 n (pos 3)
word_6 n lt = inl (
  1,
  lt,
  (at 1 4, (K1, refl, (0, omega arith, refl), (0, omega arith, refl))),
  λ j u l w. let z = wrote_of 6 j u w
      in omega arith,
)

-- below number 2 the word of variable 5 is 7
word_5 : IsWordBelow R 5 2 (pos 7)
word_5 = inl (
  0,
  omega arith,
  (at 0 2, (FirstWrite, refl, (refl, refl), (refl, refl, refl, refl))),
  λ j u l w. let z = wrote_of 5 j u w
      in omega arith,
)

-- a list of one look reads right where that look reads the word below its number
one_look : (l : Look) → IsWordBelow R l.var l.nth l.value → LooksReadRight R (l ∷ [])
one_look l right zero m at = let same : l ≡ m = cc in rw (sym same) right
one_look l right (suc k) m at = absurd (cc)

-- below the number of the changed attempt the word of variable 6 is 3
found_number : (k : ℕ) → Contains (number 6 2 ∷ []) (number 6 k) → IsWordBelow R 6 k (pos 3)
found_number k c = let e : 2 ≡ k = ap (λ (l : Number). l.nth) (only (number 6 2) (number 6 k) c) in word_6 k (omega arith)

-- the record is legal: laid out, it is one run of the machine
pub legal : Legal trace_setting R
legal = record {
  history = cs;
  flat = flat;
  after = record { state = s7; words = words_6 };
  run = (
    B0,
    refl,
    (
      record { state = s1; words = λ _. pos 0 },
      (step_begin, refl),
      (
        F0,
        refl,
        (
          record { state = s2; words = λ _. pos 0 },
          (step_fork, refl),
          (
            FirstWrite,
            refl,
            (
              record { state = s2; words = words_5 },
              (refl, refl),
              (
                C0,
                refl,
                (
                  record { state = s2; words = words_5 },
                  (refl, refl, refl),
                  (
                    B1,
                    refl,
                    (
                      record { state = s3; words = words_5 },
                      (step_begun, refl),
                      (
                        OtherWrite,
                        refl,
                        (
                          record { state = s3; words = words_8 },
                          (refl, refl),
                          (
                            K1,
                            refl,
                            (
                              record { state = s3; words = words_6 },
                              (refl, no_looks, refl),
                              (
                                K0,
                                refl,
                                (
                                  record { state = s3; words = words_6 },
                                  (refl, its_look, refl),
                                  (
                                    R0,
                                    refl,
                                    (
                                      record { state = s3; words = words_6 },
                                      (refl, refl, refl),
                                      (
                                        E1,
                                        refl,
                                        (
                                          record { state = s6; words = words_6 },
                                          (step_end_1, refl),
                                          (
                                            E0,
                                            refl,
                                            (record { state = s7; words = words_6 }, (step_end_0, refl), refl),
                                          ),
                                        ),
                                      ),
                                    ),
                                  ),
                                ),
                              ),
                            ),
                          ),
                        ),
                      ),
                    ),
                  ),
                ),
              ),
            ),
          ),
        ),
      ),
    ),
  );
  found = each (λ c e. ReadsRight R e) tt tt tt tt
      (one_look (look 6 (pos 0) 0) (inr (refl, λ j u lt w. absurd (omega arith))), found_number)
      (one_look (look 6 (pos 3) 3) (word_6 3 (omega arith))) tt tt tt
      tt tt (one_look (look 5 (pos 7) 2) word_5) tt (λ k l at. absurd (cc)) tt tt;
}
  where
    no_looks : LooksAgree words_8 []
    no_looks k l at = absurd (cc)

    its_look : LooksAgree words_6 (look 6 (pos 3) 3 ∷ [])
    its_look zero l at = let same : look 6 (pos 3) 3 ≡ l = cc in rw (sym same) refl
    its_look (suc k) l at = absurd (cc)
