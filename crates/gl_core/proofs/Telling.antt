-- A next access is racy exactly where a mark is unknown to its thread.
use Rattle.std.proofs.Common.{◌≡◌, ℕ, ◌+◌, ◌<◌, ◌≤◌, List, length, refl, ap, sym, ◌∙◌, subst, inl, inr, arith, Some, None, true, false, Bool, not}
use Rattle.std.specs.Prelude.{◌⊎◌, ◌↔◌, ◌&&◌, ◌||◌, Option, is_some, nat_lt, if◌then◌else◌}
use Rattle.std.proofs.lemmas.Bool.{ltb-true, ltb-false}
use Rattle.gl_model.specs.declared.event.Stamp.{Stamp}
use Rattle.gl_model.specs.Entries.{Entry}
use Rattle.gl_model.specs.Locksets.{Access, IsAccessOf}
use Rattle.gl_model.specs.Machine.{Setting, State, Allows, Running}
use Rattle.gl_model.specs.Next.{HappensBeforeNext}
use Rattle.gl_model.specs.Records.{Writes}
use Rattle.gl_draws.specs.Draws.{Entered, Draw, variables_in, access_of, Among, last_write, last_read}
use Rattle.gl_draws.specs.NextRaces.{IsNextOn, IsRacyNext}
use Rattle.gl_draws.specs.Verdicts.{DrawsHold}
use Rattle.gl_draws.proofs.LastOnes.{last_write-among, last_read-among}
use Rattle.gl_draws.proofs.NextRaceLaw.{ComesBefore, OneIsPlain, next_not_racy, next_racy_by_write, next_racy_by_read}
use Rattle.gl_draws.proofs.NextTestLaw.{variables_have}
use Rattle.gl_draws.proofs.RaceLaw.{holds_of, kinds, commits_at}
use Rattle.gl_clocks.specs.Clocks.{tick}
use Rattle.gl_clocks.proofs.Ordered.{list_law}
use Rattle.gl_core.specs.Cells.{at}
use Rattle.gl_core.specs.Marks.{Marks, marks_fail, write_fails, reads_fail, latest_fails}
use Rattle.gl_core.specs.Stands.{AreMarksOf, IsWriterOf, LatestStands}
use Rattle.gl_core.proofs.Marking.{or_cases, or_none, or_left, or_right, or_both, and_both, and_true, and_none, none_unknown, some_mark, no_mark}
use Rattle.gl_core.specs.EpochLaws.{known_next, is_commit, EpochsTell}

-- what the marks of an access say, of a commit where b: by a next commit where n
marks_true : (k p c m : ℕ) (b n : Bool) → p ≡ (if b then 0 else m + 1) → c ≡ (if b then m + 1 else 0)
    → (nat_lt k p || (not n && nat_lt k c)) ≡ true → (n ≡ true → b ≡ true → ⊥) × (k ≤ m)
marks_true k p c m true true ep ec e = absurd
    (elim (or_cases (nat_lt k p) false e) [ inl a ↦ (let z = none_unknown k p ep in cc) | inr z ↦ cc ])
marks_true k p c m true false ep ec e = (
  λ x y. cc,
  elim (or_cases (nat_lt k p) (nat_lt k c) e)
      [ inl a ↦ absurd (let z = none_unknown k p ep in cc) | inr a ↦ (let l = ltb-true k c a in omega arith) ],
)
marks_true k p c m false n ep ec e = (
  λ x y. cc,
  elim (or_cases (nat_lt k p) (not n && nat_lt k c) e) [
    | inl a ↦ (let l = ltb-true k p a in omega arith)
    | inr a ↦ absurd (let z = none_unknown k c ec in let y = (and_both (not n) (nat_lt k c) a).1 in cc)
  ],
)

-- where an access's marks do not fail, both are commits or the access is known
marks_false : (k p c m : ℕ) (b n : Bool) → p ≡ (if b then 0 else m + 1) → c ≡ (if b then m + 1 else 0)
    → (nat_lt k p || (not n && nat_lt k c)) ≡ false → ((n ≡ true) × (b ≡ true)) ⊎ (m < k)
marks_false k p c m true true ep ec e = inl (refl, refl)
marks_false k p c m true false ep ec e = inr (let l = ltb-false k c (or_none (nat_lt k p) (nat_lt k c) e).1 in omega arith)
marks_false k p c m false n ep ec e = inr (let l = ltb-false k p (or_none (nat_lt k p) (not n && nat_lt k c) e).0 in omega arith)

-- marks that are 0 do not fail
none_fail : (k p c : ℕ) (n : Bool) → p ≡ 0 → c ≡ 0 → (nat_lt k p || (not n && nat_lt k c)) ≡ true → ⊥
none_fail k p c n ep ec e = elim (or_cases (nat_lt k p) (not n && nat_lt k c) e) [
  | inl a ↦ (let z = none_unknown k p ep in cc)
  | inr a ↦ (let z = none_unknown k c ec in let y = (and_both (not n) (nat_lt k c) a).1 in cc)
]

-- where the reads fail, those of some thread do
read_at : (known : ℕ → ℕ) (n : Bool) (reads parts : List ℕ) → (marks_fail known 0 reads || (not n && marks_fail known 0 parts)) ≡ true
    → (t : ℕ) × ((nat_lt (known t) (at reads t) || (not n && nat_lt (known t) (at parts t))) ≡ true)
read_at known n reads parts e = elim (or_cases (marks_fail known 0 reads) (not n && marks_fail known 0 parts) e) [
  | inl a ↦ (let r = some_mark known reads a
      in (r.0, or_left (nat_lt (known r.0) (at reads r.0)) (not n && nat_lt (known r.0) (at parts r.0)) r.1))
  | inr a ↦
      (let b = and_both (not n) (marks_fail known 0 parts) a in
      let r = some_mark known parts b.1 in (
        r.0,
        or_right (nat_lt (known r.0) (at reads r.0)) (not n && nat_lt (known r.0) (at parts r.0))
            (and_true (not n) (nat_lt (known r.0) (at parts r.0)) b.0 r.1),
      ))
]

-- where the reads do not fail, those of no thread do
reads_at : (known : ℕ → ℕ) (n : Bool) (reads parts : List ℕ) → (marks_fail known 0 reads || (not n && marks_fail known 0 parts)) ≡ false
    → (t : ℕ) → (nat_lt (known t) (at reads t) || (not n && nat_lt (known t) (at parts t))) ≡ false
reads_at known true reads parts e t = or_both (nat_lt (known t) (at reads t)) false
    (no_mark known reads (or_none (marks_fail known 0 reads) false e).0 t) refl
reads_at known false reads parts e t =
    let b = or_none (marks_fail known 0 reads) (marks_fail known 0 parts) e in
    or_both (nat_lt (known t) (at reads t)) (nat_lt (known t) (at parts t)) (no_mark known reads b.0 t) (no_mark known parts b.1 t)

-- what has variables has some
commit_is : (v : Option (List ℕ)) → is_some v ≡ true → (xs : List ℕ) × (v ≡ Some xs)
commit_is None e = absurd (cc)
commit_is (Some xs) e = (xs, refl)

-- a draw of which all was said rightly is an access of the list
placed_access : (h : List Stamp) (x : ℕ) (ds : List Draw) → DrawsHold h x ds → (d : Draw) → Among ds d → IsAccessOf h (access_of d)
placed_access h x ds all d among =
    let p = (holds_of h x ds all d among).1.placed in
    record { event = p.event; there = p.here; own = p.own; goes_on = p.goes_on; commit = λ xs v. commits_at d.what p.event xs p.is v }

module _ (setting : Setting) (h : List Stamp) (now : State) (allowed : Allows setting h now) (u : ℕ) (running : now.threads u ≡ Running)
    (x : ℕ) (ds : List Draw) (all : DrawsHold h x ds) where
  -- what thread u knows for its next access has passed an access exactly where that happens before the next one
  known_means : (v : Option (List ℕ)) (a : Access) → IsAccessOf h a → (tick a < known_next h u v a.thread) ↔ HappensBeforeNext h a u v
  known_means None a is = (list_law setting h now allowed a is u running).0
  known_means (Some xs) a is = (list_law setting h now allowed a is u running).1 xs

  -- the marks p and c of the draw d, whose thread is w, against a next access
  module _ (v : Option (List ℕ)) (f : Entry) (next : IsNextOn x v f) (w p c : ℕ) (d : Draw) (of : w ≡ d.thread)
      (marks : AreMarksOf p c (Some d)) (among : Among ds d) where
    -- what is known of w is what is known of the draw's thread
    same : known_next h u v w ≡ known_next h u v d.thread
    same = ap (known_next h u v) of

    -- if not both are commits, the draw or the next access is plain
    plain_one : (v : Option (List ℕ)) → IsNextOn x v f → (is_commit v ≡ true → is_some (variables_in d.what) ≡ true → ⊥) → OneIsPlain d f
    plain_one None n none g made q = inr n
    plain_one (Some xs) n none g made q = elim (kinds g q) [
      | inl plain ↦ inl plain
      | inr k ↦ absurd (none refl (ap (λ z. is_some (variables_in z)) (made ∙ ap Entered k.2)))
    ]

    -- if the marks fail, the draw does not come before the next access, and one of the two is plain
    fail_means : (nat_lt (known_next h u v w) p || (not (is_commit v) && nat_lt (known_next h u v w) c)) ≡ true → (ComesBefore h u v d → ⊥)
        × OneIsPlain d f
    fail_means g =
        let k = marks_true (known_next h u v w) p c (tick (access_of d)) (is_some (variables_in d.what)) (is_commit v) marks.0 marks.1 g in
        let s = same in (
          λ b. let l = (known_means v (access_of d) (placed_access h x ds all d among)).1 b in let m = k.1 in omega arith,
          plain_one v next k.0,
        )

    -- if both are commits, the draw comes before the next access
    both_commits : (v : Option (List ℕ)) → IsNextOn x v f → is_commit v ≡ true → is_some (variables_in d.what) ≡ true → ComesBefore h u v d
    both_commits None n a b = absurd (cc)
    both_commits (Some xs) n a b =
        let vs = commit_is (variables_in d.what) b in
        let hold = holds_of h x ds all d among in
        inr (inr (inl (record {
          variables = vs.0;
          are = vs.1;
          var = x;
          one = variables_have x (length hold.0) d.what vs.0 vs.1 hold.1.named;
          other = n;
        })))

    -- if the marks do not fail, the draw comes before the next access
    pass_means : (nat_lt (known_next h u v w) p || (not (is_commit v) && nat_lt (known_next h u v w) c)) ≡ false → ComesBefore h u v d
    pass_means g = elim (marks_false (known_next h u v w) p c (tick (access_of d)) (is_some (variables_in d.what)) (is_commit v) marks.0
        marks.1 g) [
          | inl both ↦ both_commits v next both.0 both.1
          | inr l ↦ (let s = same in (known_means v (access_of d) (placed_access h x ds all d among)).0 (omega arith))
        ]

  module _ (v : Option (List ℕ)) (f : Entry) (next : IsNextOn x v f) where
    abbrev Test : ℕ → ℕ → ℕ → Bool
    Test w p c = nat_lt (known_next h u v w) p || (not (is_commit v) && nat_lt (known_next h u v w) c)

    -- marks that fail are those of some draw, which does not come before the next access, and one of the two is plain
    some_fail : (w p c : ℕ) (od : Option Draw) → ((d : Draw) → od ≡ Some d → w ≡ d.thread) → AreMarksOf p c od
        → ((d : Draw) → od ≡ Some d → Among ds d) → (nat_lt (known_next h u v w) p || (not (is_commit v) && nat_lt (known_next h u v w) c))
        ≡ true → (d : Draw) × (od ≡ Some d) × ((ComesBefore h u v d → ⊥) × OneIsPlain d f)
    some_fail w p c None of marks among g = absurd (none_fail (known_next h u v w) p c (is_commit v) marks.0 marks.1 g)
    some_fail w p c (Some d) of marks among g = (d, refl, fail_means v f next w p c d (of d refl) marks (among d refl) g)

    -- if marks do not fail, the draw that they are of, if any, comes before the next access
    some_pass : (w p c : ℕ) (od : Option Draw) → ((d : Draw) → od ≡ Some d → w ≡ d.thread) → AreMarksOf p c od
        → ((d : Draw) → od ≡ Some d → Among ds d) → (nat_lt (known_next h u v w) p || (not (is_commit v) && nat_lt (known_next h u v w) c))
        ≡ false → (d : Draw) → od ≡ Some d → ComesBefore h u v d
    some_pass w p c None of marks among g d e = absurd (cc)
    some_pass w p c (Some z) of marks among g d e = let same' : z ≡ d = cc
        in subst (ComesBefore h u v) same' (pass_means v f next w p c z (of z refl) marks (among z refl) g)

    module _ (l : Marks) (s : LatestStands x ds l) (write : Bool) (writes : (write ≡ true) ↔ Writes f x) where
      wrote : (d : Draw) → last_write x ds ≡ Some d → Among ds d
      wrote d e = (last_write-among h x ds d e).0

      writer : (o : Option Draw) → IsWriterOf l.writer o → (d : Draw) → o ≡ Some d → l.writer ≡ d.thread
      writer None w d e = absurd (cc)
      writer (Some z) w d e = let same' : z ≡ d = cc in w ∙ ap (λ (y : Draw). y.thread) same'

      had_read : (t : ℕ) (d : Draw) → last_read x t ds ≡ Some d → Among ds d
      had_read t d e = (last_read-among h x t ds d e).0

      reader : (t : ℕ) (d : Draw) → last_read x t ds ≡ Some d → t ≡ d.thread
      reader t d e = sym (last_read-among h x t ds d e).2

      racy : latest_fails (known_next h u v) (is_commit v) write l ≡ true → IsRacyNext h x ds u v f
      racy g = elim (or_cases (write_fails (known_next h u v) (is_commit v) l) (write && reads_fail (known_next h u v) (is_commit v) l) g) [
        | inl a ↦
            (let k = some_fail l.writer l.written l.committed (last_write x ds) (writer (last_write x ds) s.writer) s.last_write wrote a in
            next_racy_by_write h x ds all u v f k.0 k.1 k.2.1 k.2.0)
        | inr b ↦
            (let both = and_both write (reads_fail (known_next h u v) (is_commit v) l) b in
            let r = read_at (known_next h u v) (is_commit v) l.reads l.parts both.1 in
            let k = some_fail r.0 (at l.reads r.0) (at l.parts r.0) (last_read x r.0 ds) (reader r.0) (s.reads r.0) (had_read r.0) r.1 in
            next_racy_by_read h x ds all u v f (writes.0 both.0) r.0 k.0 k.1 k.2.1 k.2.0)
      ]

      not_racy : latest_fails (known_next h u v) (is_commit v) write l ≡ false → IsRacyNext h x ds u v f → ⊥
      not_racy g =
          let n = or_none (write_fails (known_next h u v) (is_commit v) l) (write && reads_fail (known_next h u v) (is_commit v) l) g in
          next_not_racy h x ds all u v f
          (λ w e none. none (some_pass l.writer l.written l.committed (last_write x ds) (writer (last_write x ds) s.writer) s.last_write
          wrote n.0 w e))
          (λ wf t r e none. none (some_pass t (at l.reads t) (at l.parts t) (last_read x t ds) (reader t) (s.reads t) (had_read t)
          (reads_at (known_next h u v) (is_commit v) l.reads l.parts
          (and_none write (reads_fail (known_next h u v) (is_commit v) l) n.1 (writes.1 wf)) t) r e))

      told : (latest_fails (known_next h u v) (is_commit v) write l ≡ true) ↔ IsRacyNext h x ds u v f
      told = (racy, λ r. by (latest_fails (known_next h u v) (is_commit v) write l) refl r)
        where
          by : (b : Bool) → latest_fails (known_next h u v) (is_commit v) write l ≡ b → IsRacyNext h x ds u v f → b ≡ true
          by true e r = refl
          by false e r = absurd (not_racy e r)

-- a next access is racy exactly where what is kept fails by what its thread knows
pub tell_law : EpochsTell
tell_law setting h now allowed u running x ds all l s v write f next writes =
    told setting h now allowed u running x ds all v f next l s write writes
