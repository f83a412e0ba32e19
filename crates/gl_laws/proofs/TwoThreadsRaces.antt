-- The race law of the record of two threads: the read of thread 1 races, as its refused attempt would have, and nothing else does; what
-- thread 1 wrote before its commit is ordered before what thread 0 reads behind its own.
use Rattle.std.proofs.Common.{◌≡◌, ◌≢◌, ℕ, zero, suc, ◌<◌, ◌≤◌, List, [], ◌∷◌, refl, ap, sym, ◌∙◌, inl, inr, arith, Some, true, false}
use Rattle.std.specs.Prelude.{◌⊎◌, ◌↔◌, pos, Bool, Contains}
use Rattle.gl_model.specs.declared.event.Event.TheVariants.{Commit as Commits}
use Rattle.gl_model.specs.declared.tx.Number.{Number}
use Rattle.gl_model.specs.Edges.{commits, TransitiveClosure, one_step, then_step}
use Rattle.gl_model.specs.Entries.{Entry, Plain}
use Rattle.gl_model.specs.Form.{At, GivesRight, EndsRights, Sparing}
use Rattle.gl_model.specs.HappensBefore.{OrdersDirectly, program_order, synchronizes, HappensBefore, by_steps, from_commit, through_commit, RefusedCommitEdge, IsCommit, IsRefusedCommit, Races, IsRacy, IsRaisedRightly}
use Rattle.gl_model.specs.Records.{Place, EntryAt, InProgramOrder, NumberOn, IsPerformed, IsPlain, position_of}
use Rattle.gl_laws.specs.Met.{HasEachKind, AreMet}
use Rattle.gl_laws.proofs.SmallRecords.{at}
use Rattle.gl_laws.proofs.TwoThreads.{FirstWrite, C0, K0, R0, RaisedRead, A1, OtherWrite, K1, es0, es1, R, entries0, entries1, each, look, number, only, changed_tx, looking_tx, raised_tx}
use Rattle.gl_laws.proofs.TwoThreadsForm.{form, numbered}
use Rattle.gl_laws.proofs.TwoThreadsRun.{stamp, h, listed, machine}
use Rattle.gl_laws.proofs.TwoThreadsLegal.{legal}

-- of two equal options the entries are equal
same_entry : (e f : Entry) → Some e ≡ Some f → e ≡ f
same_entry e f s = cc

-- a list of one number has just that
number_is : (y n x k : ℕ) → Contains (number y n ∷ []) (number x k) → (x ≡ y) × (k ≡ n)
number_is y n x k c = let e = only (number y n) (number x k) c in (sym (ap (λ (l : Number). l.var) e), sym (ap (λ (l : Number). l.nth) e))

-- the performed accesses: variable, number, thread, and whether it is a plain one
abbrev Performed : Place → Entry → ℕ → ℕ → Type 0
Performed c e x k =
    ((x ≡ 5) × (k ≡ 0) × (c.thread ≡ 0)) ⊎ ((x ≡ 8) × (k ≡ 0) × (c ≡ at 1 3)) ⊎ ((x ≡ 8) × (k ≡ 1) × (c.thread ≡ 0))
    ⊎ ((x ≡ 6) × (IsPlain e → ⊥))

-- each performed access of the record is one of these
performed : (c : Place) (e : Entry) → EntryAt R c e → (x k : ℕ) → NumberOn e x k → IsPerformed e → Performed c e x k
performed = each (λ c e. (x k : ℕ) → NumberOn e x k → IsPerformed e → Performed c e x k)
    (λ x k n p. absurd n) (λ x k n p. absurd n) (λ x k n p. inl (sym n.0, sym n.1, refl)) (λ x k n p. inl (sym n.0, sym n.1, refl))
    (λ x k n p. absurd n)
    (λ x k n p. inr (inr (inr ((number_is 6 4 x k n).0, λ z. z)))) (λ x k n p. inr (inr (inl (sym n.0, sym n.1, refl))))
    (λ x k n p. absurd n) (λ x k n p. absurd n)
    (λ x k n p. absurd n) (λ x k n p. absurd (let z : true ≡ false = p in cc)) (λ x k n p. absurd p)
    (λ x k n p. inr (inl (sym n.0, sym n.1, refl)))
    (λ x k n p. inr (inr (inr ((number_is 6 1 x k n).0, λ z. z)))) (λ x k n p. absurd n) (λ x k n p. absurd n)

-- what a racy access has before it
record Prior (d : Place) (f : Entry) (x : ℕ) : Type 0 where
  pub c : Place
  pub e : Entry
  pub k : ℕ
  pub later : ℕ
  pub made : Performed c e x k
  pub also : NumberOn f x later
  pub upto : k ≤ later
  pub another : c.thread ≢ d.thread
  pub conflict : IsPlain e ⊎ IsPlain f
  pub unordered : HappensBefore R c d → ⊥

-- a number that is less, or equal in one of two ways, is at most the other
upto_of : (n m : ℕ) (P : Type 0) → (n < m) ⊎ ((n ≡ m) × P) → n ≤ m
upto_of n m P (inl lt) = omega arith
upto_of n m P (inr e) = let z = e.0 in omega arith

-- a racy access has such a performed access before it
prior : (d : Place) (f : Entry) (x : ℕ) → EntryAt R d f → IsRacy R d x → Prior d f x
prior d f x here r =
    let b = r.before in
    let same : b.second ≡ f = same_entry b.second f (sym b.here ∙ here) in
    record {
      c = r.other;
      e = b.first;
      k = b.number;
      later = b.later;
      made = performed r.other b.first b.there x b.number b.numbered r.performed;
      also = rw same at b.also_numbered;
      upto = upto_of b.number b.later (InProgramOrder r.other d) b.order;
      another = r.another;
      conflict = rw same at r.conflict.1;
      unordered = r.unordered;
    }

-- no access of thread 0 to variable 5 is racy: only thread 0 performed any
none_on_5 : (d : Place) (f : Entry) → d.thread ≡ 0 → EntryAt R d f → IsRacy R d 5 → ⊥
none_on_5 d f own here r =
    let p = prior d f 5 here r in
    elim p.made [
      | inl a ↦ p.another (a.2 ∙ sym own)
      | inr b ↦ elim b [
        | inl a ↦ absurd (let z = a.0 in omega arith)
        | inr c ↦ elim c [ inl a ↦ absurd (let z = a.0 in omega arith) | inr a ↦ absurd (let z = a.0 in omega arith) ]
      ]
    ]

-- the write of variable 8 is not racy: no access is before it there
none_before_8 : IsRacy R (at 1 3) 8 → ⊥
none_before_8 r =
    let p = prior (at 1 3) OtherWrite 8 refl r in
    let first : p.later ≡ 0 = sym p.also.1 in
    let le = p.upto in
    elim p.made [
      | inl a ↦ absurd (let z = a.0 in omega arith)
      | inr b ↦ elim b [
        | inl a ↦ p.another (ap (λ (c : Place). c.thread) a.2)
        | inr c ↦ elim c [ inl a ↦ absurd (let z = a.1 in omega arith) | inr a ↦ absurd (let z = a.0 in omega arith) ]
      ]
    ]

-- thread 1's write of variable 8 happens before thread 0's read of it
ordered : HappensBefore R (at 1 3) (at 0 6)
ordered =
    let out : OrdersDirectly R (at 1 3) (at 1 4) = program_order (refl, omega arith) in
    let over : OrdersDirectly R (at 1 4) (at 0 5) = synchronizes 3 4 (stamp 1 (Commits (6 ∷ []))) (stamp 0 (Commits (6 ∷ [])))
    (record { entry = K1; there = refl; position = refl; event = refl; own = refl })
    (record { entry = K0; there = refl; position = refl; event = refl; own = refl })
    (omega arith) (commits 6 (6 ∷ []) (6 ∷ []) refl refl (0, omega arith, refl) (0, omega arith, refl)) in
    let on : OrdersDirectly R (at 0 5) (at 0 6) = program_order (refl, omega arith) in
    let first : TransitiveClosure (OrdersDirectly R) (at 1 3) (at 1 4) = one_step out in
    let second : TransitiveClosure (OrdersDirectly R) (at 1 3) (at 0 5) = then_step first over in
    by_steps (then_step second on)

-- thread 0's read of variable 8 is not racy
none_read_8 : IsRacy R (at 0 6) 8 → ⊥
none_read_8 r =
    let p = prior (at 0 6) R0 8 refl r in
    elim p.made [
      | inl a ↦ absurd (let z = a.0 in omega arith)
      | inr b ↦ elim b [
        | inl a ↦ p.unordered (rw a.2 ordered)
        | inr c ↦ elim c [ inl a ↦ p.another a.2 | inr a ↦ absurd (let z = a.0 in omega arith) ]
      ]
    ]

-- a commit of variable 6 is racy on no variable: only the other commit is before it there
none_of_commit : (d : Place) (f : Entry) (x : ℕ) → EntryAt R d f → (IsPlain f → ⊥) → ((k : ℕ) → NumberOn f x k → x ≡ 6) → IsRacy R d x → ⊥
none_of_commit d f x here no_plain six r =
    let p = prior d f x here r in
    let is : x ≡ 6 = six p.later p.also in
    elim p.made [
      | inl a ↦ absurd (let z = a.0 in omega arith)
      | inr b ↦ elim b [
        | inl a ↦ absurd (let z = a.0 in omega arith)
        | inr c ↦ elim c [ inl a ↦ absurd (let z = a.0 in omega arith) | inr a ↦ elim p.conflict [ inl e ↦ a.1 e | inr g ↦ no_plain g ] ]
      ]
    ]

-- what the write of variable 5 can happen before: thread 0 from there on, and thread 1 from its commit on
abbrev Late : Place → Type 0
Late c = ((c.thread ≡ 0) × (2 ≤ c.index)) ⊎ ((c.thread ≡ 1) × (4 ≤ c.index))

-- a late event has a position from 3 on
late_position : (c : Place) (e : Entry) → EntryAt R c e → (p : ℕ) → position_of e ≡ Some p → Late c → 3 ≤ p
late_position = each (λ c e. (p : ℕ) → position_of e ≡ Some p → Late c → 3 ≤ p)
    (λ p z l. absurd (omega arith)) (λ p z l. absurd (omega arith)) (λ p z l. absurd (cc)) (λ p z l. absurd (cc)) (λ p z l. absurd (cc))
    (λ p z l. let a : 4 ≡ p = cc in omega arith) (λ p z l. absurd (cc)) (λ p z l. let a : 6 ≡ p = cc in omega arith)
    (λ p z l. absurd (cc))
    (λ p z l. absurd (omega arith)) (λ p z l. absurd (cc)) (λ p z l. absurd (cc)) (λ p z l. absurd (cc)) (λ p z l. let a : 3 ≡ p = cc
    in omega arith) (λ p z l. let a : 5 ≡ p = cc in omega arith) (λ p z l. absurd (cc))

-- an event with a position from 3 on is late
position_late : (c : Place) (e : Entry) → EntryAt R c e → (p : ℕ) → position_of e ≡ Some p → 3 ≤ p → Late c
position_late = each (λ c e. (p : ℕ) → position_of e ≡ Some p → 3 ≤ p → Late c)
    (λ p z l. absurd (let a : 0 ≡ p = cc in omega arith)) (λ p z l. absurd (let a : 1 ≡ p = cc in omega arith)) (λ p z l. absurd (cc))
    (λ p z l. absurd (cc)) (λ p z l. absurd (cc)) (λ p z l. inl (refl, omega arith)) (λ p z l. absurd (cc))
    (λ p z l. inl (refl, omega arith)) (λ p z l. absurd (cc))
    (λ p z l. absurd (let a : 2 ≡ p = cc in omega arith)) (λ p z l. absurd (cc)) (λ p z l. absurd (cc)) (λ p z l. absurd (cc))
    (λ p z l. inr (refl, omega arith)) (λ p z l. inr (refl, omega arith)) (λ p z l. absurd (cc))

-- one step from a late place leads to a late one
late_on : (c d : Place) → Late c → OrdersDirectly R c d → Late d
late_on c d l (program_order o) = elim l [
  | inl a ↦ inl (sym o.0 ∙ a.0, (let x = a.1 in let y = o.1 in omega arith))
  | inr a ↦ inr (sym o.0 ∙ a.0, (let x = a.1 in let y = o.1 in omega arith))
]
late_on c d l (synchronizes p q r s ec ed lt sw) = let three = late_position c ec.entry ec.there p ec.position l
    in position_late d ed.entry ed.there q ed.position (omega arith)

-- a chain of steps from a late place leads to a late one
late_all : (c : Place) → Late c → {d : Place} → TransitiveClosure (OrdersDirectly R) c d → Late d
late_all c l {d = d} (one_step s) = late_on c d l s
late_all c l {d = d} (then_step {b = b} chain s) = late_on b d (late_all c l chain) s

-- a commit has variable 6 alone
commit_6 : (c : Place) (e : Entry) → EntryAt R c e → IsCommit e → (x k : ℕ) → NumberOn e x k → x ≡ 6
commit_6 = each (λ c e. IsCommit e → (x k : ℕ) → NumberOn e x k → x ≡ 6)
    (λ i x k n. absurd i) (λ i x k n. absurd i) (λ i x k n. absurd i) (λ i x k n. absurd i) (λ i x k n. absurd i)
    (λ i x k n. (number_is 6 4 x k n).0) (λ i x k n. absurd i) (λ i x k n. absurd i) (λ i x k n. absurd i)
    (λ i x k n. absurd i) (λ i x k n. absurd i) (λ i x k n. absurd i) (λ i x k n. absurd i) (λ i x k n. (number_is 6 1 x k n).0)
    (λ i x k n. absurd i) (λ i x k n. absurd i)

-- a refused attempt has variable 5 alone
refused_5 : (c : Place) (e : Entry) → EntryAt R c e → IsRefusedCommit e → (x k : ℕ) → NumberOn e x k → x ≡ 5
refused_5 = each (λ c e. IsRefusedCommit e → (x k : ℕ) → NumberOn e x k → x ≡ 5)
    (λ i x k n. absurd i) (λ i x k n. absurd i) (λ i x k n. absurd i) (λ i x k n. absurd i) (λ i x k n. absurd i) (λ i x k n. absurd i)
    (λ i x k n. absurd i) (λ i x k n. absurd i) (λ i x k n. absurd i)
    (λ i x k n. absurd i) (λ i x k n. absurd i) (λ i x k n. (number_is 5 3 x k n).0) (λ i x k n. absurd i) (λ i x k n. absurd i)
    (λ i x k n. absurd i) (λ i x k n. absurd i)

-- so no commit leads into a refused attempt
no_edge : (b d : Place) → RefusedCommitEdge R b d → ⊥
no_edge b d e =
    let o = e.before in
    let first : o.first ≡ e.made = same_entry o.first e.made (sym o.there ∙ e.there) in
    let second : o.second ≡ e.refused = same_entry o.second e.refused (sym o.here ∙ e.here) in
    let six : e.var ≡ 6 = commit_6 b e.made e.there e.is_commit e.var o.number (rw first at o.numbered) in
    let five : e.var ≡ 5 = refused_5 d e.refused e.here e.is_refused e.var o.later (rw second at o.also_numbered) in
    omega arith

-- the first write happens before none of thread 1's first three entries
unordered : (i : ℕ) → i < 3 → HappensBefore R (at 0 2) (at 1 i) → ⊥
unordered i lt (by_steps chain) = let l = late_all (at 0 2) (inl (refl, omega arith)) chain in absurd (omega arith)
unordered i lt (from_commit e) = no_edge (at 0 2) (at 1 i) e
unordered i lt (through_commit b chain e) = no_edge b (at 1 i) e

-- the write and the read of variable 5 are of two threads
apart : (at 0 2).thread ≢ (at 1 1).thread
apart e = cc

-- thread 1's read of variable 5 is racy
racy_read : IsRacy R (at 1 1) 5
racy_read = record {
  other = at 0 2;
  another = apart;
  before = record {
    first = FirstWrite;
    second = RaisedRead;
    there = refl;
    here = refl;
    number = 0;
    later = 1;
    numbered = (refl, refl);
    also_numbered = (refl, refl);
    order = inl (omega arith);
  };
  performed = refl;
  conflict = (inl (refl, refl), inl tt);
  unordered = unordered 1 (omega arith);
}

-- thread 1's attempt is racy on variable 5
racy_attempt : IsRacy R (at 1 2) 5
racy_attempt = record {
  other = at 0 2;
  another = apart;
  before = record {
    first = FirstWrite;
    second = A1;
    there = refl;
    here = refl;
    number = 0;
    later = 3;
    numbered = (refl, refl);
    also_numbered = (0, omega arith, refl);
    order = inl (omega arith);
  };
  performed = refl;
  conflict = (inl (refl, refl), inl tt);
  unordered = unordered 2 (omega arith);
}

-- thread 1's attempt is racy on no variable below 5
none_below : (x : ℕ) → x < 5 → IsRacy R (at 1 2) x → ⊥
none_below x lt r = let p = prior (at 1 2) A1 x refl r in let five : x ≡ 5 = (number_is 5 3 x p.later p.also).0 in absurd (omega arith)

-- the record obeys the race law
races : Races R
races = each (λ c e. IsRaisedRightly R c e) tt tt (λ z. absurd (cc), λ r. absurd (none_on_5 (at 0 2) FirstWrite refl refl r))
    (λ z. absurd (cc), λ r. absurd (none_on_5 (at 0 3) C0 refl refl r)) tt
    (λ x r. none_of_commit (at 0 5) K0 x refl (λ z. z) (λ k n. (number_is 6 4 x k n).0) r) (λ z. absurd (cc), λ r. absurd (none_read_8 r))
    tt tt
    tt (λ z. racy_read, λ r. refl) (racy_attempt, none_below) (λ z. absurd (cc), λ r. absurd (none_before_8 r))
    (λ x r. none_of_commit (at 1 4) K1 x refl (λ z. z) (λ k n. (number_is 6 1 x k n).0) r) tt tt

-- which entries give a right
abbrev Right : List Entry → ℕ → ℕ → Bool → Type 0
Right es i x write = (j : ℕ) × (j < i) × ((e : Entry) × At es j e
    × ((m : ℕ) × ((w : Bool) × GivesRight e x m w × (write ≡ true → w ≡ true))))
    × ((l : ℕ) (f : Entry) → At es l f → j < l → l < i → EndsRights f → ⊥)

-- in thread 0's list the first write gives a right on variable 5, the read one on 8, and nothing else does
gives0 : (j : ℕ) (e : Entry) → At es0 j e → (x m : ℕ) (w : Bool) → GivesRight e x m w → ((x ≡ 5) × (j ≡ 2)) ⊎ ((x ≡ 8) × (j ≡ 6))
gives0 = entries0 (λ j e. (x m : ℕ) (w : Bool) → GivesRight e x m w → ((x ≡ 5) × (j ≡ 2)) ⊎ ((x ≡ 8) × (j ≡ 6)))
    (λ x m w g. absurd g) (λ x m w g. absurd g) (λ x m w g. inl (sym g.2, refl)) (λ x m w g. absurd (let z = g.0 in cc))
    (λ x m w g. absurd g) (λ x m w g. absurd g) (λ x m w g. inr (sym g.2, refl)) (λ x m w g. absurd g) (λ x m w g. absurd g)

-- in thread 1's list the write of variable 8 gives a right, and nothing else does
gives1 : (j : ℕ) (e : Entry) → At es1 j e → (x m : ℕ) (w : Bool) → GivesRight e x m w → (x ≡ 8) × (j ≡ 3)
gives1 = entries1 (λ j e. (x m : ℕ) (w : Bool) → GivesRight e x m w → (x ≡ 8) × (j ≡ 3))
    (λ x m w g. absurd g) (λ x m w g. absurd (let z = g.1 in cc)) (λ x m w g. absurd g) (λ x m w g. (sym g.2, refl)) (λ x m w g. absurd g)
    (λ x m w g. absurd g) (λ x m w g. absurd g)

-- neither thread 0's first write nor its read of variable 8 has a right before it
no_right0 : (i x : ℕ) (write : Bool) → ((i ≡ 2) × (x ≡ 5)) ⊎ ((i ≡ 6) × (x ≡ 8)) → Right es0 i x write → ⊥
no_right0 i x write here r = let g = gives0 r.0 r.2.0 r.2.1 x r.2.2.0 r.2.2.1.0 r.2.2.1.1 in let lt = r.1 in absurd (omega arith)

-- neither thread 1's read of variable 5 nor its write of 8 has a right before it
no_right1 : (i x : ℕ) (write : Bool) → ((i ≡ 1) × (x ≡ 5)) ⊎ ((i ≡ 3) × (x ≡ 8)) → Right es1 i x write → ⊥
no_right1 i x write here r = let g = gives1 r.0 r.2.0 r.2.1 x r.2.2.0 r.2.2.1.0 r.2.2.1.1 in let lt = r.1 in absurd (omega arith)

-- the first write gives the cached read its right
right : Right es0 3 5 false
right = (2, omega arith, (FirstWrite, refl, (0, (true, (refl, refl, refl, refl, refl), λ z. refl))), λ l f a m n. absurd (omega arith))

-- each cached access has a right, and no numbered one had one
sparing : Sparing R
sparing zero i x k cached write raised value a =
    entries0 (λ i e. e ≡ Plain x k cached write value raised → (cached ≡ true) ↔ Right es0 i x write)
    (λ e. absurd (cc)) (λ e. absurd (cc))
    (λ e. let y : 5 ≡ x = cc in (λ c. absurd (let z : false ≡ cached = cc in cc), λ r. absurd (no_right0 2 x write (inl (refl, sym y)) r)))
    (λ e. let z : true ≡ cached = cc in let y : 5 ≡ x = cc in let w : false ≡ write = cc in (λ c. rw (sym y, sym w) right, λ r. sym z))
    (λ e. absurd (cc)) (λ e. absurd (cc))
    (λ e. let y : 8 ≡ x = cc in (λ c. absurd (let z : false ≡ cached = cc in cc), λ r. absurd (no_right0 6 x write (inr (refl, sym y)) r)))
    (λ e. absurd (cc)) (λ e. absurd (cc)) i (Plain x k cached write value raised) a refl
sparing (suc zero) i x k cached write raised value a =
    entries1 (λ i e. e ≡ Plain x k cached write value raised → (cached ≡ true) ↔ Right es1 i x write)
    (λ e. absurd (cc))
    (λ e. let y : 5 ≡ x = cc in (λ c. absurd (let z : false ≡ cached = cc in cc), λ r. absurd (no_right1 1 x write (inl (refl, sym y)) r)))
    (λ e. absurd (cc))
    (λ e. let y : 8 ≡ x = cc in (λ c. absurd (let z : false ≡ cached = cc in cc), λ r. absurd (no_right1 3 x write (inr (refl, sym y)) r)))
    (λ e. absurd (cc)) (λ e. absurd (cc)) (λ e. absurd (cc)) i (Plain x k cached write value raised) a refl
sparing (suc (suc t)) i x k cached write raised value a = absurd (cc)

-- the record has an entry of each kind
kinds : HasEachKind R
kinds = record {
  cached = (at 0 3, 5, 0, false, pos 7, refl);
  raised = (at 1 1, 5, 1, false, pos 0, refl);
  looked = (at 0 5, 4, looking_tx, look 6 (pos 3) 3, refl, (0, omega arith, refl));
  changed = (at 0 4, changed_tx, 6, pos 0, pos 3, refl);
  refused = (at 1 2, raised_tx, 5, refl);
  ordered = (
    at 1 3,
    at 0 6,
    8,
    away,
    record {
      first = OtherWrite;
      second = R0;
      there = refl;
      here = refl;
      number = 0;
      later = 1;
      numbered = (refl, refl);
      also_numbered = (refl, refl);
      order = inl (omega arith);
    },
    ordered,
  );
}
  where
    away : (at 1 3).thread ≢ (at 0 6).thread
    away e = cc

-- there is a record that every definition accepts
pub whole : AreMet
whole = record {
  lists = R;
  events = h;
  kinds = kinds;
  form = form;
  listed = listed;
  numbered = numbered;
  machine = machine;
  races = races;
  legal = legal;
  sparing = sparing;
}
