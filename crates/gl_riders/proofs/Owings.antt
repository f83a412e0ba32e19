-- Private words stay what the pass may repeat and what it owes.
use Rattle.std.proofs.Common.{◌≡◌, ◌≢◌, ℕ, suc, ℤ, ◌<◌, ◌==◌, Bool, true, false, List, [], ◌∷◌, ◌++◌, length, refl, sym, ◌∙◌, ap, subst, arith, Option, Some, None, inl, inr, set}
use Rattle.std.specs.Prelude.{if◌then◌else◌, Contains, filter, is_some, unwrap_or}
use Rattle.std.specs.Option.{option_map}
use Rattle.std.proofs.lemmas.Bool.Decides.{nat_tests}
use Rattle.std.proofs.lemmas.List.{get_or-set_same, get_or-set_other, length-set, length-replicate}
use native.Mathlib.Decide.{ℕ_discrete}
use Rattle.gl_model.specs.declared.limits.TheConstants.{VARIABLES}
use Rattle.gl_model.specs.Entries.{Entry, Plain}
use Rattle.gl_cache.specs.Words.{IsChanged, Word, Words, clean_word, cleaned, no_words, with_word, word_at}
use Rattle.gl_cache.proofs.Places.{no_word_at}
use Rattle.gl_rows.specs.WritingBack.{without_owed}
use Rattle.gl_table.specs.Repeating.{MayRepeat}
use Rattle.gl_rule.specs.Lives.{Running, life_of}
use Rattle.gl_table.specs.PassView.{Own, PassView}
use Rattle.gl_table.specs.RightOf.{right_of}
use Rattle.gl_rows.specs.Accessing.{HasEntry, value_told}
use Rattle.gl_rows.specs.declared.accessing.Seen.TheVariants.{Value, Raised}
use Rattle.gl_riders.specs.Owing.{HasWord, IsLast, MayWrite, Owns, repeat_number, repeated}
use Rattle.gl_riders.specs.Sweeping.{IsSwept}
use Rattle.gl_riders.proofs.Lists.{right_push, right_swept}
use Rattle.gl_riders.proofs.Sparings.{unnumbered_right}
use Rattle.gl_riders.proofs.OwedLists.{cons_cases, fewer, filter_has, filter_keeps, filter_says, is_other, its_own, last_new, last_other, last_raised, last_trims, not_other, others}

-- the word of x that was set is the one that it was set to
word_same : (ws : Words) (x : ℕ) (w : Option Word) → x < VARIABLES → length ws ≡ VARIABLES → word_at (set ws x w) x ≡ w
word_same ws x w near long = (let within : x < length ws = rw long near in get_or-set_same ws x w None within)

-- setting the word of x leaves that of another variable
word_other : (ws : Words) (x y : ℕ) (w : Option Word) → y ≢ x → word_at (set ws x w) y ≡ word_at ws y
word_other ws x y w apart = get_or-set_other ws x y w None apart

-- ## Words that are written back

-- a word that was made clean is never a dirty one
never_changed : (o : Option Word) (a : ℤ) → clean_word o ≡ Some (record { value = a; dirty = true }) → ⊥
never_changed None a is = cc
never_changed (Some w) a is = (let e : (record w { dirty = false }) ≡ record { value = a; dirty = true } = cc in let t : false
    ≡ true = ap (λ (v : Word). v.dirty) e in cc)

-- one word is written back
pub record IsPaid (ws : Words) (x : ℕ) (own new : Own) : Type 0 where
  pub owns : Owns (cleaned x ws) new
  pub less : length new.owed < length own.owed

-- a changed word is paid where what is owed is as before without it
pub paid :
    (ws : Words) (own new : Own) (x : ℕ) (a : ℤ) → Owns ws own → x < VARIABLES → IsChanged ws x a → new
    ≡ record own { owed = without_owed x own.owed } →
    IsPaid ws x own new
paid ws own new x a owns near changed new_is = rw new_is (record {
  owns = record {
    long = length-set ws x (clean_word (word_at ws x)) ∙ owns.long;
    owed = λ y b. elim (ℕ_discrete y x) [
      | yes same ↦ (
        (λ there. absurd (not_other x y b (filter_says (others x) own.owed (y, b) there) same)),
        (λ is. absurd (never_changed (word_at ws x) b (sym (word_same ws x (clean_word (word_at ws x)) near owns.long) ∙ (rw same at is)))),
      )
      | no apart ↦ (
        (λ there. word_other ws x y (clean_word (word_at ws x)) apart ∙ (owns.owed y b).0 (filter_has (others x) own.owed (y, b) there)),
        (λ is. filter_keeps (others x) own.owed (y, b) ((owns.owed y b).1 (sym (word_other ws x y (clean_word (word_at ws x)) apart) ∙ is))
            (is_other x y b apart)),
      )
    ];
    kept = λ y r right. elim (ℕ_discrete y x) [
      | yes same ↦ at_its y (owns.kept y r right) same
      | no apart ↦ elsewhere y (owns.kept y r right) apart
    ];
    writes = λ y b there. owns.writes y b (filter_has (others x) own.owed (y, b) there);
  };
  less = fewer (others x) own.owed (x, a) ((owns.owed x a).1 changed) (its_own x a);
}) where
  at_its : (y : ℕ) → HasWord ws own.mine y → y ≡ x → HasWord (cleaned x ws) own.mine y
  at_its y h same = record {
    word = record h.word { dirty = false };
    there = (let at : ℕ → Type 0 = λ z. word_at (cleaned x ws) z ≡ Some (record h.word { dirty = false }) in
        subst at (sym same) (word_same ws x (clean_word (word_at ws x)) near owns.long
        ∙ ap clean_word (ap (word_at ws) (sym same) ∙ h.there)));
    last = h.last;
  }

  elsewhere : (y : ℕ) → HasWord ws own.mine y → y ≢ x → HasWord (cleaned x ws) own.mine y
  elsewhere y h apart = record { word = h.word; there = word_other ws x y (clean_word (word_at ws x)) apart ∙ h.there; last = h.last }

-- two changes of what is owed, one after the other, are one change of what is owed
pub rest_on : (a b d : Own) (ws : List (ℕ × ℤ)) → b ≡ record a { owed = b.owed } → d ≡ record b { owed = ws } → d
    ≡ record a { owed = d.owed }
rest_on a b d ws first is = rw is (ap (λ (v : Own). let o : Own = record v { owed = ws } in o) first)

-- where no word was changed nothing is owed
pub nothing_owed : (ws : Words) (own : Own) → Owns ws own → ((x : ℕ) (a : ℤ) → IsChanged ws x a → ⊥) → own.owed ≡ []
nothing_owed ws own owns none = by_owed own.owed refl where
  by_owed : (os : List (ℕ × ℤ)) → own.owed ≡ os → own.owed ≡ []
  by_owed [] is = is
  by_owed (o ∷ os) is = absurd (none o.0 o.1 ((owns.owed o.0 o.1).0 (rw is (0, omega arith, refl))))

-- ## A repeat

record IsRight (r : Option (ℕ × Bool)) (n : ℕ) (write : Option ℤ) : Type 0 where
  by_write : Bool
  is : r ≡ Some (n, by_write)
  enough : is_some write ≡ true → by_write ≡ true

-- a number for a repeat comes from a right for it
right_there : (r : Option (ℕ × Bool)) (n : ℕ) (write : Option ℤ) → repeat_number r write ≡ Some n → IsRight r n write
right_there None n write is = cc
right_there (Some (k, w)) n None is = (let same : k ≡ n = cc in record { by_write = w; is = rw same refl; enough = λ t. cc })
right_there (Some (k, true)) n (Some a) is = (let same : k ≡ n = cc in record { by_write = true; is = rw same refl; enough = λ t. refl })
right_there (Some (k, false)) n (Some a) is = cc

-- where the list gives a number for a repeat, there is a private word of that variable
pub has_word : (ws : Words) (own : Own) (x n : ℕ) (write : Option ℤ) → Owns ws own → repeat_number (right_of own.mine x) write ≡ Some n
    → HasWord ws own.mine x
has_word ws own x n write owns may = (let r = right_there (right_of own.mine x) n write may in owns.kept x (n, r.by_write) r.is)

-- a running thread that holds nothing and has a number may repeat, where a read has the value of its last access
may_cache :
    (v : PassView) (x n : ℕ) (write : Option ℤ) (value : ℤ) → v.own.held ≡ [] → life_of v.own.mine ≡ Running
    → repeat_number (right_of v.own.mine x) write ≡ Some n →
    (is_some write ≡ false → IsLast v.own.mine x value) → MayRepeat v x n (is_some write) value
may_cache v x n write value held runs may last =
    let r = right_there (right_of v.own.mine x) n write may in
    record { held = held; runs = runs; by_write = r.by_write; right = r.is; enough = r.enough; word = last }

-- the private word that is found has the value that was read there
found : (ws : Words) (mine : List Entry) (x : ℕ) (value : ℤ) → (h : HasWord ws mine x) → option_map (λ (w : Word). w.value) (word_at ws x)
    ≡ Some value → h.word.value ≡ value
found ws mine x value h is = (let e : Some h.word.value ≡ Some value = ap (option_map (λ (w : Word). w.value)) (sym h.there) ∙ is in cc)

-- a running thread that holds nothing may repeat a read of its private word
pub may_read :
    (v : PassView) (ws : Words) (x n : ℕ) (value : ℤ) → Owns ws v.own → v.own.held ≡ [] → life_of v.own.mine ≡ Running
    → repeat_number (right_of v.own.mine x) None ≡ Some n →
    option_map (λ (w : Word). w.value) (word_at ws x) ≡ Some value → MayRepeat v x n false value
may_read v ws x n value owns held runs may is =
    let h = has_word ws v.own x n None owns may in
    let at : ℤ → Type 0 = λ a. IsLast v.own.mine x a in
    may_cache v x n None value held runs may (λ w. subst at (found ws v.own.mine x value h is) h.last)

-- a running thread that holds nothing may repeat a write it has a number for
pub may_write :
    (v : PassView) (x n : ℕ) (a : ℤ) → v.own.held ≡ [] → life_of v.own.mine ≡ Running → repeat_number (right_of v.own.mine x) (Some a)
    ≡ Some n →
    MayRepeat v x n true a
may_write v x n a held runs may = may_cache v x n (Some a) a held runs may (λ w. cc)

-- private words stay right after a repeated read
pub owns_read :
    (ws : Words) (own new : Own) (x nth : ℕ) (value : ℤ) → Owns ws own → option_map (λ (w : Word). w.value) (word_at ws x) ≡ Some value
    → new ≡ repeated x nth false value own → Owns ws new
owns_read ws own new x nth value owns is new_is = rw new_is (record {
  long = owns.long;
  owed = owns.owed;
  kept = λ y r right. (let h = owns.kept y r (sym (same y) ∙ right) in record {
    word = h.word;
    there = h.there;
    last = elim (ℕ_discrete y x) [
      | yes here ↦
          (let there' : word_at ws x ≡ Some h.word = ap (word_at ws) (sym here) ∙ h.there in
          let v : value ≡ h.word.value = (let e : Some value ≡ Some h.word.value = sym is ∙ ap (option_map (λ (w : Word). w.value)) there'
          in cc) in
          let at : ℕ × ℤ → Type 0 = λ t. IsLast (own.mine ++ Plain x nth true false value false ∷ []) t.0 t.1 in
          subst at (λ i. (sym here i, v i)) (last_new own.mine x nth true false value))
      | no apart ↦ last_other own.mine x y nth true false false value h.word.value apart h.last
    ];
  });
  writes = λ y b there. (let m = owns.writes y b there in record { nth = m.nth; right = same y ∙ m.right });
}) where
  same : (y : ℕ) → right_of (own.mine ++ Plain x nth true false value false ∷ []) y ≡ right_of own.mine y
  same y = unnumbered_right own.mine x nth true false false value y refl

-- private words stay right after a repeated write, with the word written dirty
pub owns_write :
    (ws : Words) (own new : Own) (x nth : ℕ) (a : ℤ) → Owns ws own → x < VARIABLES → repeat_number (right_of own.mine x) (Some a)
    ≡ Some nth → new ≡ repeated x nth true a own →
    Owns (with_word x (record { value = a; dirty = true }) ws) new
owns_write ws own new x nth a owns near may new_is = rw new_is (record {
  long = length-set ws x (Some w) ∙ owns.long;
  owed = λ y b. elim (ℕ_discrete y x) [
    | yes here ↦ (
      (λ there. elim (cons_cases (x, a) (y, b) (filter (others x) own.owed) there) [
        | inl same ↦
            (let v : a ≡ b = ap (λ (q : ℕ × ℤ). q.1) same in
            let at : ℤ → Type 0 = λ d. IsChanged (with_word x w ws) y d in
            subst at v (let at' : ℕ → Type 0 = λ z. IsChanged (with_word x w ws) z a in subst at' (sym here) put))
        | inr more ↦ absurd (not_other x y b (filter_says (others x) own.owed (y, b) more) here)
      ]),
      (λ is.
          (let e : Some w ≡ Some (record { value = b; dirty = true }) = sym put ∙ (rw here at is) in
          let v : a ≡ b = (let u : w ≡ record { value = b; dirty = true } = cc in ap (λ (q : Word). q.value) u) in
          (0, omega arith, (λ i. (sym here i, v i))))),
    )
    | no apart ↦ (
      (λ there. elim (cons_cases (x, a) (y, b) (filter (others x) own.owed) there) [
        | inl same ↦ absurd (apart (sym (ap (λ (q : ℕ × ℤ). q.0) same)))
        | inr more ↦ word_other ws x y (Some w) apart ∙ (owns.owed y b).0 (filter_has (others x) own.owed (y, b) more)
      ]),
      (λ is.
          (let old = (owns.owed y b).1 (sym (word_other ws x y (Some w) apart) ∙ is) in
          let more = filter_keeps (others x) own.owed (y, b) old (is_other x y b apart) in
          tail_has more)),
    )
  ];
  kept = λ y r right. elim (ℕ_discrete y x) [
    | yes here ↦
        (let at : ℕ → Type 0 = λ z. HasWord (with_word x w ws) (own.mine ++ e ∷ []) z in
        subst at (sym here) (record { word = w; there = put; last = last_new own.mine x nth true true a }))
    | no apart ↦
        (let h = owns.kept y r (sym (same y) ∙ right) in record {
          word = h.word;
          there = word_other ws x y (Some w) apart ∙ h.there;
          last = last_other own.mine x y nth true true false a h.word.value apart h.last;
        })
  ];
  writes = λ y b there. elim (cons_cases (x, a) (y, b) (filter (others x) own.owed) there) [
    | inl is ↦
        (let r = right_there (right_of own.mine x) nth (Some a) may in
        let at : ℕ → Type 0 = λ z. MayWrite (own.mine ++ e ∷ []) z in
        subst at (ap (λ (q : ℕ × ℤ). q.0) is) (record { nth = nth; right = same x ∙ r.is ∙ ap (λ v. Some (nth, v)) (r.enough refl) }))
    | inr more ↦ (let m = owns.writes y b (filter_has (others x) own.owed (y, b) more) in record { nth = m.nth; right = same y ∙ m.right })
  ];
}) where
  w : Word
  w = record { value = a; dirty = true }

  e : Entry
  e = Plain x nth true true a false

  put : word_at (with_word x (record { value = a; dirty = true }) ws) x ≡ Some (record { value = a; dirty = true })
  put = word_same ws x (Some (record { value = a; dirty = true })) near owns.long

  same : (y : ℕ) → right_of (own.mine ++ e ∷ []) y ≡ right_of own.mine y
  same y = unnumbered_right own.mine x nth true true false a y refl

  tail_has : {v : ℕ × ℤ} → Contains (filter (others x) own.owed) v → Contains ((x, a) ∷ filter (others x) own.owed) v
  tail_has {v} there = (suc there.0, (let less = there.1 in omega arith), there.2)

-- ## An access by the table

-- a right that writes gives a number for each repeat
first_right : (r : Option (ℕ × Bool)) (n : ℕ) (write : Option ℤ) → r ≡ Some (n, true) → repeat_number r write ≡ None → ⊥
first_right None n write is may = cc
first_right (Some (k, w)) n None is may = cc
first_right (Some (k, true)) n (Some a) is may = cc
first_right (Some (k, false)) n (Some a) is may =
    (let e : (k, false) ≡ (n, true) = cc in let t : false ≡ true = ap (λ (q : ℕ × Bool). q.1) e in cc)

-- where there is no right, nothing is owed
pub unowed : (ws : Words) (own : Own) (x : ℕ) (write : Option ℤ) → Owns ws own → repeat_number (right_of own.mine x) write ≡ None
    → (o : ℕ × ℤ) → Contains own.owed o → o.0 ≡ x → ⊥
unowed ws own x write owns may o there is =
    let m = owns.writes o.0 o.1 there in
    first_right (right_of own.mine x) m.nth write (ap (right_of own.mine) (sym is) ∙ m.right) may

-- private words stay right after an access, with the word it saw or wrote, clean
pub owns_access :
    (ws : Words) (own new : Own) (x : ℕ) (write : Option ℤ) (v : ℤ) → Owns ws own → x < VARIABLES
    → repeat_number (right_of own.mine x) write ≡ None →
    HasEntry x write own (Value v) new → Owns (with_word x (record { value = value_told write (Value v); dirty = false }) ws) new
owns_access ws own new x write v owns near may entry = rw entry.own (record {
  long = length-set ws x (Some w) ∙ owns.long;
  owed = λ y b. elim (ℕ_discrete y x) [
    | yes here ↦ (
      (λ there. absurd (unowed ws own x write owns may (y, b) there here)),
      (λ is.
          (let t : Some w ≡ Some (record { value = b; dirty = true }) = sym put ∙ (rw here at is) in
          let u : w ≡ record { value = b; dirty = true } = cc in
          let d : false ≡ true = ap (λ (q : Word). q.dirty) u in
          cc)),
    )
    | no apart ↦ (
      (λ there. word_other ws x y (Some w) apart ∙ (owns.owed y b).0 there),
      (λ is. (owns.owed y b).1 (sym (word_other ws x y (Some w) apart) ∙ is)),
    )
  ];
  kept = λ y r right. elim (ℕ_discrete y x) [
    | yes here ↦
        (let at : ℕ → Type 0 = λ z. HasWord (with_word x w ws) (own.mine ++ e ∷ []) z in
        subst at (sym here) (record { word = w; there = put; last = last_new own.mine x n false (is_some write) a }))
    | no apart ↦
        (let h = owns.kept y r (sym (behind y apart) ∙ right) in
        record {
          word = h.word;
          there = word_other ws x y (Some w) apart ∙ h.there;
          last = last_other own.mine x y n false (is_some write) false a h.word.value apart h.last;
        })
  ];
  writes = λ y b there. elim (ℕ_discrete y x) [
    | yes here ↦ absurd (unowed ws own x write owns may (y, b) there here)
    | no apart ↦ (let m = owns.writes y b there in record { nth = m.nth; right = behind y apart ∙ m.right })
  ];
}) where
  n : ℕ
  n = entry.number

  a : ℤ
  a = value_told write (Value v)

  w : Word
  w = record { value = value_told write (Value v); dirty = false }

  e : Entry
  e = Plain x entry.number false (is_some write) (value_told write (Value v)) false

  put : word_at (with_word x (record { value = value_told write (Value v); dirty = false }) ws) x
      ≡ Some (record { value = value_told write (Value v); dirty = false })
  put = word_same ws x (Some (record { value = value_told write (Value v); dirty = false })) near owns.long

  behind : (y : ℕ) → y ≢ x → right_of (own.mine ++ e ∷ []) y ≡ right_of own.mine y
  behind y apart = right_push own.mine e y ∙ by_test (x == y) refl where
    by_test : (b : Bool) → (x == y) ≡ b → (if b then Some (entry.number, is_some write) else right_of own.mine y) ≡ right_of own.mine y
    by_test true t = absurd (apart (let p : x ≡ y = grind (arith, nat_tests) in sym p))
    by_test false t = refl

-- private words stay right after an access that raised
pub owns_raised : (ws : Words) (own new : Own) (x k : ℕ) (write : Option ℤ) → Owns ws own → HasEntry x write own (Raised k) new
    → Owns ws new
owns_raised ws own new x k write owns entry = rw entry.own (record {
  long = owns.long;
  owed = owns.owed;
  kept = λ y r right. (let h = owns.kept y r (sym (same y) ∙ right) in record {
    word = h.word;
    there = h.there;
    last = last_raised own.mine x y entry.number false (is_some write) (value_told write (Raised k)) h.word.value h.last;
  });
  writes = λ y b there. (let m = owns.writes y b there in record { nth = m.nth; right = same y ∙ m.right });
}) where
  same : (y : ℕ) → right_of (own.mine ++ Plain x entry.number false (is_some write) (value_told write (Raised k)) true ∷ []) y
      ≡ right_of own.mine y
  same y = unnumbered_right own.mine x entry.number false (is_some write) true (value_told write (Raised k)) y refl

-- the value to write or else the value seen is what the answer tells
pub value_or : (write : Option ℤ) (v : ℤ) → unwrap_or write v ≡ value_told write (Value v)
value_or None v = refl
value_or (Some a) v = refl

-- ## Whatever else a turn does

-- where no right is left, and nothing is owed, no word is kept
pub owns_none : (own : Own) → ((x : ℕ) → right_of own.mine x ≡ None) → own.owed ≡ [] → Owns no_words own
owns_none own rights owed = record {
  long = length-replicate {A = Option Word} VARIABLES None;
  owed = λ x a. (
    (λ there. absurd (let none : Contains {X = ℕ × ℤ} [] (x, a) = (rw owed at there) in let less = none.1 in omega arith)),
    (λ is. absurd (no_word_at x a is)),
  );
  kept = λ x r right. absurd (let e : ◌≡◌ {A = Option (ℕ × Bool)} None (Some r) = sym (rights x) ∙ right in cc);
  writes = λ x a there. absurd (let none : Contains {X = ℕ × ℤ} [] (x, a) = (rw owed at there) in let less = none.1 in omega arith);
}

-- a sweep changes nothing of it
pub owns_swept : (ws : Words) (own new : Own) → IsSwept own new → Owns ws own → Owns ws new
owns_swept ws own new swept owns = rw swept.own (record {
  long = owns.long;
  owed = owns.owed;
  kept = λ x r right. (let h = owns.kept x r (sym (right_swept own.mine swept.trims x swept.are_trims) ∙ right) in record {
    word = h.word;
    there = h.there;
    last = last_trims own.mine swept.trims x h.word.value swept.are_trims h.last;
  });
  writes = λ x a there. (let m = owns.writes x a there
      in record { nth = m.nth; right = right_swept own.mine swept.trims x swept.are_trims ∙ m.right });
})
