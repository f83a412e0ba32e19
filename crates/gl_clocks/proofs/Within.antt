-- Clocks in the midst of a list, and in the midst of a record.
use Rattle.std.proofs.Common.{◌≡◌, ◌≢◌, ℕ, zero, suc, ◌+◌, ◌-◌, ◌<◌, ◌≤◌, List, [], ◌∷◌, ◌++◌, length, take, drop, refl, ap, sym, ◌∙◌, subst, inl, inr, arith, Some, None, ne_eqb}
use Rattle.std.specs.Prelude.{◌⊎◌, ◌↔◌, ℤ, Contains, Option}
use Rattle.std.proofs.lemmas.Bool.{cases_lt}
use Rattle.std.proofs.lemmas.List.{take_all, length-take-le, take-append-drop}
use Rattle.std.proofs.lemmas.Option.{slice_get_within}
use Rattle.gl_model.specs.declared.event.Act.TheVariants.{Begin, End, Acq, Rel, VRead, VWrite, Fork, Join, Alloc, Print, Input, Fail}
use Rattle.gl_model.specs.declared.event.Event.{Event}
use Rattle.gl_model.specs.declared.event.Event.TheVariants.{Act as Does, Commit}
use Rattle.gl_model.specs.declared.event.Stamp.{Stamp}
use Rattle.gl_model.specs.declared.event.Element.TheVariants.{Thread, Var}
use Rattle.gl_model.specs.Edges.{EventAt}
use Rattle.gl_model.specs.HappensBefore.{HappensBefore, by_steps, from_commit, through_commit}
use Rattle.gl_model.specs.Locksets.{Access, IsAccessOf, InitialLockset}
use Rattle.gl_model.specs.Machine.{Setting, State, ThreadState, NeverForked, Running, Allows, Run, MayStep, Effect, start, with_at}
use Rattle.gl_model.specs.Next.{Reaches, own_later, commit_edge, thread_on, edge_on, ReachesCommitOn}
use Rattle.gl_model.specs.Records.{Lists, Place, IsEventList, PositionsRise, IsBlockOf}
use Rattle.gl_laws.specs.Closure.{StandsFor}
use Rattle.gl_laws.proofs.Bridge.{same_entry, plain_no_event, reaches_chain, one_position}
use Rattle.gl_laws.proofs.NextLaw.{refused_not_event, commit_of, commit_not_plain, reached as reached_event}
use Rattle.gl_laws.proofs.Closure.{Left, same_event, handed_var, start_var, var_start}
use Rattle.gl_draws.specs.Verdicts.{Precedes}
use Rattle.gl_draws.proofs.BlockOrder.{by_steps_precedes, precedes, happens_before}
use Rattle.gl_draws.proofs.Membership.{set_means, left_leaves, leaves_var}
use Rattle.gl_draws.proofs.Reaching.{event_back, precedes_grows, precedes_back}
use Rattle.gl_draws.proofs.DrawTies.{with_here, with_else}
use Rattle.gl_clocks.specs.Clocks.{clocks, tick_of, tick}
use Rattle.gl_clocks.specs.ClockLaws.{ClocksPrecede, ClocksInRecord, ClocksAtVariable, IsRefusedOn, ClocksAtRefusal}
use Rattle.gl_clocks.proofs.Locked.{clocks_within, locksets_law, split_at}
use Rattle.gl_clocks.proofs.Ordered.{list_law, same_now, stands_access}

-- what was put for a thread is what it has
at_own : (old : ℕ → ThreadState) (t : ℕ) (a : ThreadState) → with_at old t a t ≡ a
at_own old t a = with_here old t a

-- after an event that is not its End the thread runs
after_runs : (setting : Setting) (old new : State) (t : ℕ) (e : Event) (value : ℤ) → MayStep (old.threads t) e value
    → Effect setting old t e value new → e ≢ Does End → new.threads t ≡ Running
after_runs setting old new t (Does (Begin f)) value may h other = ap (λ (s : State). s.threads t) h ∙ with_here old.threads t Running
after_runs setting old new t (Does End) value may h other = absurd (other refl)
after_runs setting old new t (Does (Acq o)) value may h other = ap (λ (s : State). s.threads t) h.2 ∙ may
after_runs setting old new t (Does (Rel o)) value may h other = ap (λ (s : State). s.threads t) h.2 ∙ may
after_runs setting old new t (Does (VRead v)) value may h other = ap (λ (s : State). s.threads t) h.1 ∙ may
after_runs setting old new t (Does (VWrite v)) value may h other = ap (λ (s : State). s.threads t) h ∙ may
after_runs setting old new t (Does (Fork u f)) value may h other =
    let apart : t ≢ u = (λ e. let n : old.threads u ≡ NeverForked = h.0.2 in let r : old.threads u ≡ Running = ap old.threads (sym e) ∙ may
    in let z : NeverForked ≡ Running = sym n ∙ r in cc) in
    ap (λ (s : State). s.threads t) h.1 ∙ with_else old.threads u t _ apart ∙ may
after_runs setting old new t (Does (Join u)) value may h other = ap (λ (s : State). s.threads t) h.1 ∙ may
after_runs setting old new t (Does (Alloc c)) value may h other = ap (λ (s : State). s.threads t) h.4 ∙ may
after_runs setting old new t (Does Print) value may h other = ap (λ (s : State). s.threads t) h ∙ may
after_runs setting old new t (Does Input) value may h other = ap (λ (s : State). s.threads t) h.1 ∙ may
after_runs setting old new t (Does (Fail c)) value may h other = ap (λ (s : State). s.threads t) h.1 ∙ may
after_runs setting old new t (Commit xs) value may h other = ap (λ (s : State). s.threads t) h ∙ may

-- a run along a list has in it the run up to an event that is no End, after which the event's thread runs
up_to_event : (setting : Setting) (old now : State) (xs : List Stamp) (s : Stamp) (ys : List Stamp) → Run setting old (xs ++ s ∷ ys) now
    → s.event ≢ Does End → (mid : State) × Run setting old (xs ++ s ∷ []) mid × (mid.threads s.thread ≡ Running)
up_to_event setting old now [] s ys r other =
    (r.1, (r.0, r.1, r.2, refl), after_runs setting old r.1 s.thread s.event r.0 r.2.may r.2.effect other)
up_to_event setting old now (x ∷ xs) s ys r other = let k = up_to_event setting r.1 now xs s ys r.3 other
    in (k.0, (r.0, r.1, r.2, k.1), k.2)

-- what is reached stands behind the access
reaches_above : {h : List Stamp} {a : Access} {q : ℕ} → Reaches h a q → a.block < q
reaches_above (own_later s e l o) = l
reaches_above (commit_edge s ys e l w on) = l
reaches_above (thread_on r s reach e f l same) = let k = reaches_above reach in omega arith
reaches_above (edge_on r s reach e f l w) = let k = reaches_above reach in omega arith

-- the tick of an access is no less than its block
tick_least : (b : ℕ) (v : Option (List ℕ)) → b ≤ tick_of b v
tick_least b None = omega arith
tick_least b (Some xs) = omega arith

-- a thread's clock after an event of it has passed an access exactly where that comes before what the thread does then
pub precede_law : ClocksPrecede
precede_law setting h now allowed a is q s here other apart =
    let n : q < length h = slice_get_within h q s here in
    let none : take (q + 1 - (q + 1)) (drop (q + 1) h)
    ≡ [] = (let z : q + 1 - (q + 1) ≡ 0 = omega arith in ap (λ k. take k (drop (q + 1) h)) z) in
    let front : take (q + 1) h ≡ take q h ++ s ∷ [] = split_at h q (q + 1) s here (omega arith) ∙ ap (λ zs. take q h ++ s ∷ zs) none in
    let whole : h ≡ take q h ++ s ∷ take (length h - (q + 1)) (drop (q + 1) h) = sym (take_all (length h) h (omega arith))
    ∙ split_at h q (length h) s here n in
    let k = up_to_event setting (start setting) now (take q h) s (take (length h - (q + 1)) (drop (q + 1) h))
    (subst (λ g. Run setting (start setting) g now) whole allowed) other in
    let run : Allows setting (take (q + 1) h) k.0 = subst (λ g. Run setting (start setting) g k.0) (sym front) k.1 in
    let long : length (take (q + 1) h) ≡ q + 1 = length-take-le (q + 1) h (omega arith) in
    let back : take (q + 1) h ++ drop (q + 1) h ≡ h = take-append-drop (q + 1) h in
    elim (cases_lt a.block (q + 1)) [
      | inl near ↦
          (let there : EventAt (take (q + 1) h) a.block is.event =
          event_back (take (q + 1) h) (drop (q + 1) h) a.block is.event (omega arith)
          (subst (λ g. EventAt g a.block is.event) (sym back) is.there) in
          let is' : IsAccessOf (take (q + 1) h) a =
          record { event = is.event; there = there; own = is.own; goes_on = is.goes_on; commit = is.commit } in
          let m = (list_law setting (take (q + 1) h) k.0 run a is' s.thread k.2).0 in (
            λ l. elim (m.0 l) [
              | inl same ↦ absurd (apart same)
              | inr r ↦
                  (let w = slice_get_within (take (q + 1) h) r.0 r.1.0 r.1.1 in
                  subst (λ g. Precedes g a s.thread q) back
                  (precedes_grows (take (q + 1) h) (drop (q + 1) h) a s.thread q
                  (record { position = r.0; event = r.1.0; here = r.1.1; own = r.1.2; within = omega arith; reached = r.1.3 })))
            ],
            λ p.
                let b = precedes_back (take (q + 1) h) (drop (q + 1) h) a s.thread q (omega arith)
                (subst (λ g. Precedes g a s.thread q) (sym back) p) in
                m.1 (inr (b.position, (b.event, b.here, b.own, b.reached))),
          ))
      | inr far ↦
          (let w = (clocks_within (take (q + 1) h)).others (Thread s.thread) a.thread (ne_eqb s.thread a.thread (λ e. apart (sym e))) in
          let t = tick_least a.block a.variables in
          (λ l. absurd (omega arith), λ p. absurd (let r = reaches_above p.reached in let v = p.within in omega arith)))
    ]

-- so it is before a plain entry anywhere in a record, by its block
pub entries_law : ClocksInRecord
entries_law setting R h now is_list rise allowed c a stands d f here plain q b goes_on apart =
    let at : EventAt h q b.event = is_list.listed (record { thread = d.thread; index = b.index }) q b.event b.made in
    let own : b.event.thread ≡ d.thread = b.made.own in
    let other : a.thread ≢ b.event.thread = (λ e. apart (sym stands.thread ∙ e ∙ own)) in
    let m = precede_law setting h now allowed a (stands_access R h is_list c a stands) q b.event at goes_on other in
    let m' : (tick a < clocks (take (q + 1) h) (Thread d.thread) a.thread) ↔ Precedes h a d.thread q =
    subst (λ u. (tick a < clocks (take (q + 1) h) (Thread u) a.thread) ↔ Precedes h a u q) own m in (
      λ l. happens_before R h is_list rise c a stands d f here (λ p. plain_no_event f p plain) q b (m'.0 l),
      λ k. m'.1
          (precedes R h is_list rise c a stands d f here (λ p. plain_no_event f p plain) q b plain apart k),
    )

-- what is in a list of one is that
single : (x y : ℕ) → Contains (x ∷ []) y → y ≡ x
single x y (zero, l, e) = sym e
single x y (suc k, l, e) = absurd (omega arith)

-- a variable's clock has passed an access exactly where a commit of it comes after the access, or is it
pub variable_law : ClocksAtVariable
variable_law setting h now allowed a is x =
    let near : a.block < length h = slice_get_within h a.block is.event is.there in
    let means = set_means setting h now allowed a (record { event = is.event; here = is.there; own = is.own; goes_on = is.goes_on })
    (length h) near (omega arith) (Var x) in
    let same = same_now h a is (Var x) (λ z. cc) in
    let one : Contains (x ∷ []) x = (0, omega arith, refl) in
    let into : InitialLockset a.thread a.variables (Var x) ⊎ Left h a (length h) (Var x) → ReachesCommitOn h a (x ∷ []) = (λ w. elim w [
      | inl st ↦ (let v = start_var a.thread a.variables x st
          in inl (record { variables = v.0; are = v.1; var = x; one = v.2; other = one }))
      | inr left ↦ (elim (left_leaves left) [
        | inl e ↦ absurd (cc)
        | inr r ↦ (let g = handed_var left.event.event x r
            in inr (left.place, (left.event, (g.0, (x, left.here, g.1, g.2, one, left.reached)))))
      ])
    ]) in
    let out : ReachesCommitOn h a (x ∷ []) → InitialLockset a.thread a.variables (Var x) ⊎ Left h a (length h) (Var x) = (λ w. elim w [
      | inl on ↦ inl (var_start a.thread a.variables x on.variables on.are
          (subst (Contains on.variables) (single x on.var on.other) on.one))
      | inr z ↦
          (let k = z.1.1.1 in
          let its : k.0 ≡ x = single x k.0 k.4 in
          inr (record {
            place = z.0;
            before = slice_get_within h z.0 z.1.0 k.1;
            event = z.1.0;
            here = k.1;
            reached = k.5;
            leaves = leaves_var z.1.0 z.1.1.0 x k.2 (subst (Contains z.1.1.0) its k.3);
          }))
    ]) in
    (λ l. into (means.0 (same.1 l)), λ r. same.0 (means.1 (out r)))

-- a commit of x among the first m events comes after the access, or is it
pub data IsBehindCommit (h : List Stamp) (a : Access) (x m : ℕ) : Type 0 where
  itself : (xs : List ℕ) → a.variables ≡ Some xs → Contains xs x → a.block < m → IsBehindCommit h a x m
  reached : (p : ℕ) (s : Stamp) (ys : List ℕ) → EventAt h p s → s.event ≡ Commit ys → Contains ys x → p < m → Reaches h a p
      → IsBehindCommit h a x m

-- so it is after the first m events, of the commits among those
variable_at : (setting : Setting) (h : List Stamp) (now : State) → Allows setting h now → (a : Access) → IsAccessOf h a → (x m : ℕ)
    → m ≤ length h → (tick a < clocks (take m h) (Var x) a.thread) ↔ IsBehindCommit h a x m
variable_at setting h now allowed a is x m le = elim (cases_lt a.block m) [
  | inl near ↦
      (let means = set_means setting h now allowed a (record { event = is.event; here = is.there; own = is.own; goes_on = is.goes_on }) m
      near le (Var x) in
      let same = locksets_law h a is m near le (Var x) (λ z. cc) in
      let into : InitialLockset a.thread a.variables (Var x) ⊎ Left h a m (Var x) → IsBehindCommit h a x m = (λ w. elim w [
        | inl st ↦ (let v = start_var a.thread a.variables x st in itself v.0 v.1 v.2 near)
        | inr left ↦ (elim (left_leaves left) [
          | inl e ↦ absurd (cc)
          | inr r ↦ (let g = handed_var left.event.event x r
              in reached left.place left.event g.0 left.here g.1 g.2 left.before left.reached)
        ])
      ]) in
      (λ l. into (means.0 (same.1 l)), λ r. same.0 (means.1 (out r))))
  | inr far ↦
      (let long : length (take m h) ≡ m = length-take-le m h le in
      let w = (clocks_within (take m h)).others (Var x) a.thread refl in
      let t = tick_least a.block a.variables in
      (λ l. absurd (omega arith), λ r. absurd (below far r)))
]
  where
    out : IsBehindCommit h a x m → InitialLockset a.thread a.variables (Var x) ⊎ Left h a m (Var x)
    out (itself xs are one l) = inl (var_start a.thread a.variables x xs are one)
    out (reached p s ys here e one l r) = inr
        (record { place = p; before = l; event = s; here = here; reached = r; leaves = leaves_var s ys x e one })

    below : m ≤ a.block → IsBehindCommit h a x m → ⊥
    below far (itself xs are one l) = omega arith
    below far (reached p s ys here e one l r) = let k = reaches_above r in omega arith

module _ (R : Lists) (h : List Stamp) (is_list : IsEventList h R) (rise : PositionsRise R) (c : Place) (a : Access)
    (stands : StandsFor R c a) where
  module _ (d : Place) (xs : List ℕ) (until : ℕ → ℕ) (r : IsRefusedOn R d xs until) where
    -- an access that is a commit of x among those before the refused one there, or that reaches such a commit, happens before the refused
    -- one
    by_commit : (x : ℕ) → Contains xs x → IsBehindCommit h a x (until x) → HappensBefore R c d
    by_commit x one (itself vs are on l) = elim stands.kind [
      | inl k ↦ absurd (let z = k.3 in cc)
      | inr k ↦ (
          let same : k.0 ≡ vs = (let z = k.1 in cc) in
          let before = r.after c a.block x k.2.0 k.0 k.2.1 k.2.2 (rw same on) one l in
          from_commit (record {
            made = k.2.1.entry;
            refused = r.entry;
            there = k.2.1.there;
            here = r.there;
            is_commit = commit_of k.2.1.entry k.0 (k.2.1.event ∙ ap Some k.2.2);
            is_refused = r.refused;
            var = x;
            before = before;
          })
          )
    ]
    by_commit x one (reached p s ys here e on l w) =
        let b = is_list.made p s here in
        let k = reaches_chain R h is_list rise c a stands w b.0 s b.1 in
        through_commit b.0 k (record {
          made = b.1.entry;
          refused = r.entry;
          there = b.1.there;
          here = r.there;
          is_commit = commit_of b.1.entry ys (b.1.event ∙ ap Some e);
          is_refused = r.refused;
          var = x;
          before = r.after b.0 p x s ys b.1 e on one l;
        })

    module _ (q : ℕ) (of_d : IsBlockOf R d q) (apart : c.thread ≢ d.thread) where
      told : HappensBefore R c d → Precedes h a d.thread q ⊎ ((x : ℕ) × Contains xs x × IsBehindCommit h a x (until x))
      told (by_steps k) = inl (by_steps_precedes R h is_list rise c a stands d r.entry r.there (λ p. refused_not_event r.entry p r.refused)
          q of_d apart k)
      told (from_commit i) =
          let o = r.others c i.made i.var i.there i.is_commit i.before in
          inr (
            i.var,
            o.6,
            elim stands.kind [
              | inl k ↦ absurd (commit_not_plain k.0 k.2 (rw (same_entry R c i.made k.0 i.there k.1) at i.is_commit))
              | inr k ↦ (
                  let p : o.0 ≡ a.block = one_position o.3 k.2.1 in
                  let s : o.1 ≡ k.2.0 = same_event h a.block o.1 k.2.0 (rw p at (is_list.listed c o.0 o.1 o.3))
                  (is_list.listed c a.block k.2.0 k.2.1) in
                  let same : o.2 ≡ k.0 = (let x = o.4 in let y = k.2.2 in let z : k.2.0.event ≡ Commit o.2 = rw s at x in cc) in
                  itself k.0 k.1 (rw same at o.5) (rw p at o.7)
                  )
            ],
          )
      told (through_commit b k i) =
          let o = r.others b i.made i.var i.there i.is_commit i.before in
          inr (
            i.var,
            o.6,
            reached o.0 o.1 o.2 (is_list.listed b o.0 o.1 o.3) o.4 o.5 o.7
                (reached_event R h is_list rise c a stands b o.0 o.1 o.3 k),
          )

-- an access happens before a refused commit where the thread's clock, or one of a variable of the commit, has passed it
pub refusal_law : ClocksAtRefusal
refusal_law setting R h now is_list rise allowed c a stands d xs until r within q b goes_on apart =
    let is = stands_access R h is_list c a stands in
    let at : EventAt h q b.event = is_list.listed (record { thread = d.thread; index = b.index }) q b.event b.made in
    let own : b.event.thread ≡ d.thread = b.made.own in
    let other : a.thread ≢ b.event.thread = (λ e. apart (sym stands.thread ∙ e ∙ own)) in
    let m = precede_law setting h now allowed a is q b.event at goes_on other in
    let m' : (tick a < clocks (take (q + 1) h) (Thread d.thread) a.thread) ↔ Precedes h a d.thread q =
    subst (λ u. (tick a < clocks (take (q + 1) h) (Thread u) a.thread) ↔ Precedes h a u q) own m in (
      λ w. elim w [
        | inl l ↦ happens_before R h is_list rise c a stands d r.entry r.there (λ p. refused_not_event r.entry p r.refused) q b (m'.0 l)
        | inr k ↦ by_commit R h is_list rise c a stands d xs until r k.0 k.1
            ((variable_at setting h now allowed a is k.0 (until k.0) (within k.0)).0 k.2)
      ],
      λ k. elim (told R h is_list rise c a stands d xs until r q b apart k) [
        | inl p ↦ inl (m'.1 p)
        | inr v ↦ inr (v.0, v.1, (variable_at setting h now allowed a is v.0 (until v.0) (within v.0)).1 v.2)
      ],
    )
