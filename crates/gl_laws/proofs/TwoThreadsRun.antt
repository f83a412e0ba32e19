-- The events of the record of two threads are listed, and are steps of the machine; and the whole record, laid out, is one history of one
-- memory.
use Rattle.std.proofs.Common.{◌≡◌, ◌≢◌, ℕ, zero, suc, ◌+◌, List, [], ◌∷◌, length, refl, ap, sym, ◌∙◌, inl, inr, arith, Some}
use Rattle.std.specs.Prelude.{◌⊎◌, pos, ℤ}
use Rattle.gl_model.specs.declared.event.Act.TheVariants.{Begin, End, Fork}
use Rattle.gl_model.specs.declared.event.Event.{Event}
use Rattle.gl_model.specs.declared.event.Event.TheVariants.{Act as Does, Commit as Commits}
use Rattle.gl_model.specs.declared.event.Stamp.{Stamp}
use Rattle.gl_model.specs.Entries.{Entry, Sync}
use Rattle.gl_model.specs.Edges.{EventAt}
use Rattle.gl_model.specs.Form.{IsMachineRun, value_of}
use Rattle.gl_model.specs.Machine.{State, Step, start, trace_setting, with_at, Forked, Running, Ended, NeverForked}
use Rattle.gl_model.specs.Records.{Place, EntryAt, IsEventAt, IsEventList, position_of, event_of}
use Rattle.gl_laws.proofs.SmallRecords.{at, other}
use Rattle.gl_laws.proofs.TwoThreads.{B0, F0, K0, E0, B1, K1, E1, es1, R, each}

-- an event with its thread
abbrev pub stamp : ℕ → Event → Stamp
stamp t e = record { thread = t; event = e }

-- the list of events: seven of them
abbrev pub h : List Stamp
h = stamp 0 (Does (Begin 0)) ∷ stamp 0 (Does (Fork 1 0)) ∷ stamp 1 (Does (Begin 0)) ∷ stamp 1 (Commits (6 ∷ []))
    ∷ stamp 0 (Commits (6 ∷ [])) ∷ stamp 1 (Does End) ∷ stamp 0 (Does End) ∷ []

-- a stamp with this thread and this event is that
stamp_is : (t : ℕ) (e : Event) (s : Stamp) → Some e ≡ Some s.event → s.thread ≡ t → s ≡ stamp t e
stamp_is t e s is own = let z : s.event ≡ e = cc in λ i. record { thread = own i; event = z i }

-- each event of the record, with its position: what holds of the seven holds of each
events : (P : Place → ℕ → Entry → Stamp → Type 0) → P (at 0 0) 0 B0 (stamp 0 (Does (Begin 0)))
    → P (at 0 1) 1 F0 (stamp 0 (Does (Fork 1 0))) → P (at 1 0) 2 B1 (stamp 1 (Does (Begin 0)))
    → P (at 1 4) 3 K1 (stamp 1 (Commits (6 ∷ [])))
    → P (at 0 5) 4 K0 (stamp 0 (Commits (6 ∷ []))) → P (at 1 5) 5 E1 (stamp 1 (Does End)) → P (at 0 7) 6 E0 (stamp 0 (Does End))
    → (c : Place) (e : Entry) → EntryAt R c e → (p : ℕ) (s : Stamp) → position_of e ≡ Some p → event_of e ≡ Some s.event → s.thread
    ≡ c.thread → P c p e s
events P b f b' k' k e' e = each (λ c x. (p : ℕ) (s : Stamp) → position_of x ≡ Some p → event_of x ≡ Some s.event → s.thread ≡ c.thread
    → P c p x s)
    (λ p s i j o. let a : 0 ≡ p = cc in rw (sym a, stamp_is 0 (Does (Begin 0)) s j o) b) (λ p s i j o. let a : 1 ≡ p = cc
    in rw (sym a, stamp_is 0 (Does (Fork 1 0)) s j o) f)
    (λ p s i j o. absurd (cc)) (λ p s i j o. absurd (cc)) (λ p s i j o. absurd (cc))
    (λ p s i j o. let a : 4 ≡ p = cc in rw (sym a, stamp_is 0 (Commits (6 ∷ [])) s j o) k) (λ p s i j o. absurd (cc))
    (λ p s i j o. let a : 6 ≡ p = cc in rw (sym a, stamp_is 0 (Does End) s j o) e) (λ p s i j o. absurd (cc))
    (λ p s i j o. let a : 2 ≡ p = cc in rw (sym a, stamp_is 1 (Does (Begin 0)) s j o) b') (λ p s i j o. absurd (cc))
    (λ p s i j o. absurd (cc)) (λ p s i j o. absurd (cc))
    (λ p s i j o. let a : 3 ≡ p = cc in rw (sym a, stamp_is 1 (Commits (6 ∷ [])) s j o) k') (λ p s i j o. let a : 5 ≡ p = cc
    in rw (sym a, stamp_is 1 (Does End) s j o) e') (λ p s i j o. absurd (cc))

-- the place of the event at each position
abbrev where_is : ℕ → Place
where_is zero = at 0 0
where_is (suc zero) = at 0 1
where_is (suc (suc zero)) = at 1 0
where_is (suc (suc (suc zero))) = at 1 4
where_is (suc (suc (suc (suc zero)))) = at 0 5
where_is (suc (suc (suc (suc (suc zero))))) = at 1 5
where_is (suc (suc (suc (suc (suc (suc p)))))) = at 0 7

-- these seven events are the record's list of events
pub listed : IsEventList h R
listed = record {
  listed = λ c p s e. events (λ c p x s. EventAt h p s) refl refl refl refl refl refl refl c e.entry e.there p s e.position e.event e.own;
  made = made;
  once = λ c d p s r e f. place c p s e ∙ sym (place d p r f);
}
  where
    made : (p : ℕ) (s : Stamp) → EventAt h p s → (c : Place) × IsEventAt R c p s
    made zero s a = let b : stamp 0 (Does (Begin 0)) ≡ s = cc
        in (at 0 0, rw (sym b) (record { entry = B0; there = refl; position = refl; event = refl; own = refl }))
    made (suc zero) s a = let b : stamp 0 (Does (Fork 1 0)) ≡ s = cc
        in (at 0 1, rw (sym b) (record { entry = F0; there = refl; position = refl; event = refl; own = refl }))
    made (suc (suc zero)) s a = let b : stamp 1 (Does (Begin 0)) ≡ s = cc
        in (at 1 0, rw (sym b) (record { entry = B1; there = refl; position = refl; event = refl; own = refl }))
    made (suc (suc (suc zero))) s a = let b : stamp 1 (Commits (6 ∷ [])) ≡ s = cc
        in (at 1 4, rw (sym b) (record { entry = K1; there = refl; position = refl; event = refl; own = refl }))
    made (suc (suc (suc (suc zero)))) s a = let b : stamp 0 (Commits (6 ∷ [])) ≡ s = cc
        in (at 0 5, rw (sym b) (record { entry = K0; there = refl; position = refl; event = refl; own = refl }))
    made (suc (suc (suc (suc (suc zero))))) s a = let b : stamp 1 (Does End) ≡ s = cc
        in (at 1 5, rw (sym b) (record { entry = E1; there = refl; position = refl; event = refl; own = refl }))
    made (suc (suc (suc (suc (suc (suc zero)))))) s a = let b : stamp 0 (Does End) ≡ s = cc
        in (at 0 7, rw (sym b) (record { entry = E0; there = refl; position = refl; event = refl; own = refl }))
    made (suc (suc (suc (suc (suc (suc (suc p))))))) s a = absurd (cc)

    place : (c : Place) (p : ℕ) (s : Stamp) → IsEventAt R c p s → c ≡ where_is p
    place c p s e = events (λ c p x s. c ≡ where_is p) refl refl refl refl refl refl refl c e.entry e.there p s e.position e.event e.own

-- the states between the events
abbrev pub s0 : State
s0 = start trace_setting

-- once thread 0 has begun
abbrev pub s1 : State
s1 = record s0 { threads = with_at s0.threads 0 Running }

-- once thread 1 is forked
abbrev pub s2 : State
s2 = record s1 { threads = with_at s1.threads 1 (Forked 0 (pos 1)) }

-- once thread 1 has begun; the commits change nothing
abbrev pub s3 : State
s3 = record s2 { threads = with_at s2.threads 1 Running }

-- once thread 1 has ended
abbrev pub s6 : State
s6 = record s3 { threads = with_at s3.threads 1 Ended }

-- once both have ended
abbrev pub s7 : State
s7 = record s6 { threads = with_at s6.threads 0 Ended }

-- the state before each position
abbrev states : ℕ → State
states zero = s0
states (suc zero) = s1
states (suc (suc zero)) = s2
states (suc (suc (suc zero))) = s3
states (suc (suc (suc (suc zero)))) = s3
states (suc (suc (suc (suc (suc zero))))) = s3
states (suc (suc (suc (suc (suc (suc zero)))))) = s6
states (suc (suc (suc (suc (suc (suc (suc p))))))) = s7

-- thread 0's begin is a step
pub step_begin : Step trace_setting s0 (stamp 0 (Does (Begin 0))) (pos 0) s1
step_begin = record { may = refl; effect = refl }

-- the fork is a step
pub step_fork : Step trace_setting s1 (stamp 0 (Does (Fork 1 0))) (pos 1) s2
step_fork = record { may = refl; effect = ((omega arith, omega arith, refl, (0, omega arith, refl), λ e. absurd (cc)), refl) }

-- thread 1's begin is a step
pub step_begun : Step trace_setting s2 (stamp 1 (Does (Begin 0))) (pos 1) s3
step_begun = record { may = refl; effect = refl }

-- thread 1's commit is a step
step_commit_1 : Step trace_setting s3 (stamp 1 (Commits (6 ∷ []))) (pos 0) s3
step_commit_1 = record { may = refl; effect = refl }

-- thread 0's commit is a step
step_commit_0 : Step trace_setting s3 (stamp 0 (Commits (6 ∷ []))) (pos 0) s3
step_commit_0 = record { may = refl; effect = refl }

-- thread 1's end is a step
pub step_end_1 : Step trace_setting s3 (stamp 1 (Does End)) (pos 0) s6
step_end_1 = record { may = refl; effect = refl }

-- thread 0's end is a step
pub step_end_0 : Step trace_setting s6 (stamp 0 (Does End)) (pos 0) s7
step_end_0 = record { may = refl; effect = refl }

-- the events are a run of the machine
pub machine : IsMachineRun trace_setting R h
machine = record {
  at = states;
  first = refl;
  steps = λ c p s e. events (λ c p x s. Step trace_setting (states p) s (value_of x) (states (p + 1))) step_begin step_fork step_begun
      step_commit_1 step_commit_0 step_end_1 step_end_0 c e.entry e.there p s e.position e.event e.own;
  lists = λ c p u f v a. forks c (Sync p (Fork u f) v) a p u f v refl;
  ended = ended;
}
  where
    some : R 1 ≢ []
    some e = let z : length es1 ≡ 0 = ap length e in absurd (omega arith)

    forks : (c : Place) (e : Entry) → EntryAt R c e → (p u f : ℕ) (v : ℤ) → e ≡ Sync p (Fork u f) v → R u ≢ []
    forks = each (λ c e. (p u f : ℕ) (v : ℤ) → e ≡ Sync p (Fork u f) v → R u ≢ [])
        (λ p u f v e. absurd (cc)) (λ p u f v e. let a : 1 ≡ u = cc in rw (sym a) some) (λ p u f v e. absurd (cc))
        (λ p u f v e. absurd (cc)) (λ p u f v e. absurd (cc)) (λ p u f v e. absurd (cc))
        (λ p u f v e. absurd (cc)) (λ p u f v e. absurd (cc)) (λ p u f v e. absurd (cc))
        (λ p u f v e. absurd (cc)) (λ p u f v e. absurd (cc)) (λ p u f v e. absurd (cc)) (λ p u f v e. absurd (cc))
        (λ p u f v e. absurd (cc)) (λ p u f v e. absurd (cc)) (λ p u f v e. absurd (cc))

    ended : (t : ℕ) → (s7.threads t ≡ NeverForked) ⊎ (s7.threads t ≡ Ended)
    ended zero = inr refl
    ended (suc zero) = inr refl
    ended (suc (suc t)) = inl (rw (other (suc (suc t)) 0 (omega arith), other (suc (suc t)) 1 (omega arith)) refl)
