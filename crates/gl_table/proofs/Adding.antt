-- What a pass adds without a step.
use Rattle.std.proofs.Common.{◌≡◌, ℕ, List, [], ◌∷◌, ◌++◌, length, drop, refl, sym, ap, subst, ◌∙◌, append-nil, append_assoc, true, false}
use Rattle.gl_model.specs.declared.tx.Why.TheVariants.{Changed, Raised}
use Rattle.gl_model.specs.Entries.{Entry, Sync, Commit, Plain, Abort, Trim, Over}
use Rattle.gl_model.specs.Machine.{trace_setting}
use Rattle.gl_model.specs.Records.{variables_of}
use Rattle.gl_draws.specs.Draws.{draw, Looked, Entered}
use Rattle.gl_rule.specs.Adding.{MayAdd, Adding}
use Rattle.gl_table.specs.CaughtUp.{first_thread, first_marked, or_zero, adds_one, adds_to, adds_all, caught_up}
use Rattle.gl_rule.specs.Commits.{dropped}
use Rattle.gl_table.specs.PassInside.{IsReady}
use Rattle.gl_rule.specs.View.{View, Shelf, shelf}

-- an entry is added as adds_to says
may_add_is : (v mid : View) (e : Entry) → MayAdd v e mid → (s : Shelf) × (v.shelves ≡ s ∷ []) × (mid ≡ adds_one v s.thread s.marked e)
    × (mid.shelves ≡ shelf s.thread (s.marked ++ e ∷ []) ∷ [])
may_add_is v mid (Over ending) may = (may.0, may.1, may.3, ap (λ (u : View). u.shelves) may.3)
may_add_is v mid (Abort tx (Changed var read found)) may =
    let q = may.2 in
    let s = may.0 in
    let at = ap or_zero q.1.drop.block in (
      s,
      may.1,
      q.2 ∙ ap (λ p. dropped v s.thread s.marked (Abort tx (Changed var read found)) (var ∷ []) (draw s.thread p (Looked found)))
          (sym at),
      ap (λ (u : View). u.shelves) q.2,
    )
may_add_is v mid (Abort tx (Raised var)) may =
    let q = may.2 in
    let s = may.0 in
    let at = ap or_zero (q.3 trace_setting).drop.block in (
      s,
      may.1,
      q.4 ∙ ap (λ p. dropped v s.thread s.marked (Abort tx (Raised var)) (variables_of tx)
          (draw s.thread p (Entered (Abort tx (Raised var))))) (sym at),
      ap (λ (u : View). u.shelves) q.4,
    )
may_add_is v mid (Plain x k true write value false) may = (may.0, may.1, may.3, ap (λ (u : View). u.shelves) may.3)
may_add_is v mid (Plain x k true write value true) may = absurd may
may_add_is v mid (Plain x k false write value raised) may = absurd may
may_add_is v mid (Sync a b c) may = absurd may
may_add_is v mid (Commit a b) may = absurd may
may_add_is v mid (Trim a) may = absurd may

-- one-element lists that are equal have equal elements
one_shelf : (a c : Shelf) → a ∷ [] ≡ c ∷ [] → a ≡ c
one_shelf a c e = cc

-- what is added to a pass of one list is put after that list, and the rest of the pass is as adding says
adding_is : (v u : View) (more : List Entry) (t : ℕ) (l : List Entry) → v.shelves ≡ shelf t l ∷ [] → Adding v more u
    → (u ≡ adds_all v more) × (u.shelves ≡ shelf t (l ++ more) ∷ [])
adding_is v u [] t l one adds = (adds, ap (λ (z : View). z.shelves) adds ∙ one ∙ ap (λ k. shelf t k ∷ []) (sym (append-nil l)))
adding_is v u (e ∷ more) t l one adds =
    let mid = adds.0 in
    let m = may_add_is v mid e adds.1 in
    let s : m.0 ≡ shelf t l = sym (one_shelf (shelf t l) m.0 (sym one ∙ m.1)) in
    let is : mid ≡ adds_to v e = m.2 ∙ ap (λ ss. adds_one v (first_thread ss) (first_marked ss) e) (sym m.1) in
    let r = adding_is mid u more t (l ++ e ∷ []) (m.3 ∙ ap (λ (z : Shelf). shelf z.thread (z.marked ++ e ∷ []) ∷ []) s) adds.2 in
    (r.0 ∙ ap (λ z. adds_all z more) is, r.1 ∙ ap (λ k. shelf t k ∷ []) (append_assoc l (e ∷ []) more))

-- adding entries and then one more is adding all of them
adding_push : (v u u' : View) (more : List Entry) (e : Entry) → Adding v more u → MayAdd u e u' → Adding v (more ++ e ∷ []) u'
adding_push v u u' [] e adds may = (u', subst (λ z. MayAdd z e u') adds may, refl)
adding_push v u u' (x ∷ more) e adds may = (adds.0, adds.1, adding_push adds.0 u u' more e adds.2 may)

-- adding entries and one more after them is adding that one to what they made
all_push : (v : View) (more : List Entry) (e : Entry) → adds_all v (more ++ e ∷ []) ≡ adds_to (adds_all v more) e
all_push v [] e = refl
all_push v (x ∷ more) e = all_push (adds_to v x) more e

-- without its first part a list is its second part
drop_front : (l m : List Entry) → drop (length l) (l ++ m) ≡ m
drop_front [] m = refl
drop_front (x ∷ l) m = drop_front l m

-- one entry more, which may be added to what the pass has
pub ready_push : (v : View) (t : ℕ) (mine : List Entry) (e : Entry) → IsReady v t mine
    → ((u : View) → u ≡ adds_one (caught_up v t mine) t mine e → MayAdd (caught_up v t mine) e u)
    → IsReady v t (mine ++ e ∷ []) × (caught_up v t (mine ++ e ∷ []) ≡ adds_one (caught_up v t mine) t mine e)
ready_push v t mine e ready may =
    let l = first_marked v.shelves in
    let u = caught_up v t mine in
    let a = adding_is v u ready.more t l ready.one ready.adds in
    let is : mine ++ e ∷ [] ≡ l ++ (ready.more ++ e ∷ []) = ap (λ k. k ++ e ∷ []) ready.is ∙ append_assoc l ready.more (e ∷ []) in
    let b : drop (length l) (mine ++ e ∷ []) ≡ ready.more ++ e ∷ [] = ap (drop (length l)) is ∙ drop_front l (ready.more ++ e ∷ []) in
    let f : View → View = λ z. record z { shelves = shelf t (mine ++ e ∷ []) ∷ [] } in
    let m = may_add_is u (adds_one u t mine e) e (may (adds_one u t mine e) refl) in
    let kept : f (adds_one u t mine e) ≡ adds_one u t mine e =
    ap (λ k. record (adds_one u t mine e) { shelves = k })
    (sym (m.3 ∙ ap (λ (z : Shelf). shelf z.thread (z.marked ++ e ∷ []) ∷ []) (sym (one_shelf (shelf t mine) m.0 m.1)))) in
    let c : caught_up v t (mine ++ e ∷ []) ≡ adds_one u t mine e = ap (λ k. f (adds_all v k)) b
    ∙ ap f (all_push v ready.more e ∙ ap (λ z. adds_to z e) (sym a.0)) ∙ kept in (
      record {
        more = ready.more ++ e ∷ [];
        one = ready.one;
        is = is;
        adds = adding_push v u _ ready.more e ready.adds (may _ c);
        named = ready.named;
      },
      c,
    )
