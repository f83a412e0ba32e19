-- Where a thread first hands on what it did.
use Rattle.std.proofs.Common.{◌≡◌, ℕ, zero, suc, ◌+◌, ◌<◌, ◌≤◌, nat_lt, Bool, true, false, List, [], ◌∷◌, length, map, Some, None, refl, sym, ◌∙◌, ap, subst, inl, inr, arith}
use Rattle.std.specs.Prelude.{slice_get, unwrap_or, if◌then◌else◌}
use Rattle.std.proofs.lemmas.Bool.{cases_lt, lt-ltb, ltb-true}
use Rattle.std.proofs.lemmas.Option.{slice_get_within}
use Rattle.gl_model.specs.declared.event.Act.TheVariants.{Begin, End, Acq, Rel, VRead, VWrite, Fork, Join, Alloc, Print, Input, Fail}
use Rattle.gl_model.specs.declared.tx.Tx.{Tx}
use Rattle.gl_model.specs.Entries.{Entry, Sync, Commit, Plain, Abort, Trim, Over}
use Rattle.gl_model.specs.declared.record.Entry.{Entry as StoredEntry}
use Rattle.gl_model.specs.Entries.{seen}
use Rattle.gl_model.specs.Lists.{list_of, lists_of}
use Rattle.gl_model.specs.Records.{At, Lists, Place}
use Rattle.gl_causes.specs.declared.handing.Way.{Way}
use Rattle.gl_causes.specs.declared.handing.Way.TheVariants.{Releases, Writes, Forks, Commits, Ends}
use Rattle.gl_causes.specs.Handing.{HandsOn, NoneHandsOn, entry_way, touches}

-- where the record has a list for a thread, the thread's entries are those of the list
pub listed : (made : List (ℕ × List Entry)) (u : ℕ) (es : List StoredEntry) → list_of made u ≡ Some (map seen es)
    → lists_of made u ≡ map seen es
listed made u es is = ap (λ o. unwrap_or o []) is

-- ## Ways

-- a commit that touches something hands on by committing
way_of_commit : (at : ℕ) (tx : Tx) → touches tx ≡ true → entry_way (Commit at tx) ≡ Some Commits
way_of_commit at tx some = ap (λ b. if b then Some Commits else None) some

-- an entry that hands on passes the test
way_back : (e : Entry) (way : Way) → HandsOn e way → entry_way e ≡ Some way
way_back e (Releases m) (at, (value, same)) = ap entry_way same
way_back e (Writes v) (at, (value, same)) = ap entry_way same
way_back e (Forks u) (at, (f, (value, same))) = ap entry_way same
way_back e Commits (at, (tx, (same, some))) = ap entry_way same ∙ way_of_commit at tx some
way_back e Ends (at, (value, same)) = ap entry_way same

-- a commit that tests as handing on hands on so
of_commit : (at : ℕ) (tx : Tx) (b : Bool) (way : Way) → touches tx ≡ b → (if b then Some Commits else None) ≡ Some way
    → HandsOn (Commit at tx) way
of_commit at tx true way some told = (let one : Commits ≡ way = cc in subst (HandsOn (Commit at tx)) one (at, (tx, (refl, some))))
of_commit at tx false way some told = absurd (cc)

-- and one that passes it hands on
way_forth : (e : Entry) (way : Way) → entry_way e ≡ Some way → HandsOn e way
way_forth (Sync at End value) way told = (let one : Ends ≡ way = cc in subst (HandsOn (Sync at End value)) one (at, (value, refl)))
way_forth (Sync at (Rel m) value) way told =
    (let one : Releases m ≡ way = cc in subst (HandsOn (Sync at (Rel m) value)) one (at, (value, refl)))
way_forth (Sync at (VWrite v) value) way told =
    (let one : Writes v ≡ way = cc in subst (HandsOn (Sync at (VWrite v) value)) one (at, (value, refl)))
way_forth (Sync at (Fork u f) value) way told =
    (let one : Forks u ≡ way = cc in subst (HandsOn (Sync at (Fork u f) value)) one (at, (f, (value, refl))))
way_forth (Commit at tx) way told = of_commit at tx (touches tx) way refl told
way_forth (Sync at (Begin f) value) way told = absurd (cc)
way_forth (Sync at (Acq m) value) way told = absurd (cc)
way_forth (Sync at (VRead v) value) way told = absurd (cc)
way_forth (Sync at (Join u) value) way told = absurd (cc)
way_forth (Sync at (Alloc c) value) way told = absurd (cc)
way_forth (Sync at Print value) way told = absurd (cc)
way_forth (Sync at Input value) way told = absurd (cc)
way_forth (Sync at (Fail k) value) way told = absurd (cc)
way_forth (Plain var nth cached write value raised) way told = absurd (cc)
way_forth (Abort tx why) way told = absurd (cc)
way_forth (Trim low) way told = absurd (cc)
way_forth (Over ending) way told = absurd (cc)

-- ## Behind a place

-- if n is behind c, and the test at n, which looks behind c only, finds no way, the entry there has none
passes_not : (c : Place) (n : ℕ) (e : Entry) (b : Bool) → nat_lt c.index n ≡ b → c.index < n
    → (if b then entry_way e else None) ≡ None → entry_way e ≡ None
passes_not c n e true is behind test = test
passes_not c n e false is behind test = absurd (let less : nat_lt c.index n ≡ true = lt-ltb c.index n behind in cc)

-- if none behind c and before n hands on, and the entry at n does not test as handing on, none before n + 1 does
pub none_more : (R : Lists) (c : Place) (n : ℕ) (e : Entry) → NoneHandsOn R c n → At (R c.thread) n e
    → (if nat_lt c.index n then entry_way e else None) ≡ None → NoneHandsOn R c (n + 1)
none_more R c n e none there test i d way behind before at hands = elim (cases_lt i n) [
  | inl less ↦ none i d way behind less at hands
  | inr ge ↦
      (let same : i ≡ n = omega (arith, before, ge) in
      let here : At (R c.thread) n d = subst (λ j. At (R c.thread) j d) same at in
      let one : e ≡ d = (let x = there in let y = here in cc) in
      let told : entry_way d ≡ Some way = way_back d way hands in
      let nothing : entry_way d ≡ None = ap entry_way (sym one)
      ∙ passes_not c n e (nat_lt c.index n) refl (subst (λ j. c.index < j) same behind) test in cc)
]

-- an entry at n that tests as handing on is behind c and hands on so
pub hands_on : (c : Place) (n : ℕ) (e : Entry) (way : Way) → (if nat_lt c.index n then entry_way e else None) ≡ Some way
    → (c.index < n) × HandsOn e way
hands_on c n e way told = by_test (nat_lt c.index n) refl told where
  by_test : (b : Bool) → nat_lt c.index n ≡ b → (if b then entry_way e else None) ≡ Some way → (c.index < n) × HandsOn e way
  by_test true is told' = (ltb-true c.index n is, way_forth e way told')
  by_test false is told' = absurd (cc)

-- what stands at n among the stored entries of a thread stands, as it is seen, at n in the thread's list
pub entry_at : (R : Lists) (t : ℕ) (es : List StoredEntry) (n : ℕ) (e : StoredEntry) → R t ≡ map seen es → slice_get es n ≡ Some e
    → At (R t) n (seen e)
entry_at R t es n e is there = ap (λ l. slice_get l n) is ∙ at_seen es n e there where
  at_seen : (ds : List StoredEntry) (k : ℕ) (d : StoredEntry) → slice_get ds k ≡ Some d → slice_get (map seen ds) k ≡ Some (seen d)
  at_seen [] k d at = absurd (cc)
  at_seen (a ∷ ds) zero d at = (let same : a ≡ d = cc in ap (λ b. Some (seen b)) same)
  at_seen (a ∷ ds) (suc k) d at = at_seen ds k d at

-- if none behind c and before m hands on, and the list has no entry from m on, none behind c hands on at all
pub none_left : (R : Lists) (c : Place) (m : ℕ) → NoneHandsOn R c m → length (R c.thread) ≤ m → (n : ℕ) → NoneHandsOn R c n
none_left R c m none long n i e way behind before at hands =
    let near : i < length (R c.thread) = slice_get_within (R c.thread) i e at in
    none i e way behind (omega (arith, near, long)) at hands
