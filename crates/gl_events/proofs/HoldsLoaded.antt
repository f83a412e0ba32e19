-- Loads of holds, one after another, and raising the first segment behind them.
use Rattle.std.proofs.Common.{◌≡◌, ℕ, suc, ◌+◌, ◌-◌, ◌*◌, ◌/◌, ◌<◌, ◌≤◌, List, [], ◌∷◌, ◌++◌, refl, sym, ap, subst, arith, ◌∙◌, inl, inr, true, false, Bool, append_assoc, append-nil}
use Rattle.std.specs.Prelude.{◌⊎◌, Contains, nat_lt, if◌then◌else◌, max}
use Rattle.std.proofs.lemmas.List.Elements.{Contains-append_left, Contains-append_right, Contains-push, Contains-push_cases}
use Rattle.std.proofs.Math.Nat.{div-mul-le_self}
use native.Mathlib.Decide.{ℕ_discrete}
use Rattle.gl_model.specs.declared.limits.TheConstants.{VARIABLES}
use Rattle.gl_model.specs.Entries.{Entry, Trim}
use Rattle.gl_rule.specs.Fitting.{MayTrim}
use Rattle.gl_rule.specs.Objects.{Key}
use Rattle.gl_rule.specs.View.{Read, Hold, Moves, moved, saw, shelf}
use Rattle.gl_rule.proofs.Lasting.{no_end, no_over}
use Rattle.gl_rule.proofs.Moves.{moved_both, moved_none}
use Rattle.gl_table.specs.Lowering.{lowered_pass}
use Rattle.gl_table.specs.PassView.{PassView, view_of, shelf_of, after}
use Rattle.gl_table.specs.TableView.{TableView}
use Rattle.gl_events.specs.Settling.{IsOpen, AreLoaded, IsSettled, trims}
use Rattle.gl_events.proofs.Lives.{none_ended}

-- one hold more
pub loaded_more : (k : ℕ) (p q q' : PassView) (least n least' : ℕ) → AreLoaded k p q least → k < VARIABLES → q'
    ≡ after q (saw (view_of q) (Hold (k + 1) n)) → least' ≤ least → least' ≤ n → ((0 < k) × (least' ≡ least)) ⊎ (least' ≡ n)
    → ((m : ℕ) → Contains q.reads (Hold (k + 1) m) → m ≤ n) → AreLoaded (k + 1) p q' least'
loaded_more k p q q' least n least' l near is a b one up = record {
  further = l.further ++ Hold (k + 1) n ∷ [];
  is = is ∙ ap (λ (z : PassView). after z (saw (view_of z) (Hold (k + 1) n))) l.is
      ∙ ap (λ (rs : List Read). record p { reads = rs; moves = moved 1 (moved k p.moves) })
      (append_assoc p.reads l.further (Hold (k + 1) n ∷ []))
      ∙ ap (λ (m : Moves). record p { reads = p.reads ++ (l.further ++ Hold (k + 1) n ∷ []); moves = m })
      (moved_both k 1 (k + 1) p.moves refl);
  each = λ x small. elim (ℕ_discrete x k) [
    | yes e ↦ (
      n,
      subst (λ y. Contains (l.further ++ Hold (k + 1) n ∷ []) (Hold y n)) (let z : k + 1 ≡ suc x = omega arith in z)
          (Contains-push l.further (Hold (k + 1) n)),
      b,
    )
    | no ne ↦ let r = l.each x (omega arith) in (
      r.0,
      Contains-append_left l.further (Hold (k + 1) n ∷ []) (Hold (suc x) r.0) r.1,
      (let m = r.2 in omega arith),
    )
  ];
  one = λ _. by one;
  risen = λ x v m new old. elim (Contains-push_cases l.further (Hold (k + 1) n) (Hold (suc x) v) new) [
    | inl before ↦ l.risen x v m before old
    | inr e ↦ same_hold x v m e old
  ];
}
  where
    same_hold : (x v m : ℕ) → Hold (k + 1) n ≡ Hold (suc x) v → Contains p.reads (Hold (suc x) m) → m ≤ v
    same_hold x v m e old =
        let at : suc x ≡ k + 1 = cc in
        let same : n ≡ v = cc in
        let le = up m (subst (λ (z : PassView). Contains z.reads (Hold (k + 1) m)) (sym l.is)
        (Contains-append_left p.reads l.further (Hold (k + 1) m) (subst (λ y. Contains p.reads (Hold y m)) at old))) in
        omega arith

    by : ((0 < k) × (least' ≡ least)) ⊎ (least' ≡ n) → (x : ℕ) × (x < VARIABLES)
        × Contains (l.further ++ Hold (k + 1) n ∷ []) (Hold (suc x) least')
    by (inl e) = let o = l.one e.0 in (
      o.0,
      o.1,
      subst (λ m. Contains (l.further ++ Hold (k + 1) n ∷ []) (Hold (suc o.0) m)) (sym e.1)
          (Contains-append_left l.further (Hold (k + 1) n ∷ []) (Hold (suc o.0) least) o.2),
    )
    by (inr e) = (
      k,
      near,
      subst (λ m. Contains (l.further ++ Hold (k + 1) n ∷ []) (Hold (suc k) m)) (sym e)
          (subst (λ y. Contains (l.further ++ Hold (k + 1) n ∷ []) (Hold y n)) (let z : k + 1 ≡ suc k = omega arith in z)
          (Contains-push l.further (Hold (k + 1) n))),
    )

-- none yet
pub loaded_none : (p : PassView) (least : ℕ) → AreLoaded 0 p p least
loaded_none p least = record {
  further = [];
  is = ap (λ (rs : List Read). record p { reads = rs }) (sym (append-nil p.reads))
      ∙ ap (λ (m : Moves). record p { reads = p.reads ++ []; moves = m }) (moved_none p.moves);
  each = λ x small. absurd (omega arith);
  one = λ some. absurd (omega arith);
  risen = λ x n m new old. absurd (let k = new.1 in omega arith);
}

-- after all holds are loaded a pass may raise the first segment to what they allow
pub may_trim : (key : Key) (p q : PassView) (least to : ℕ) → AreLoaded VARIABLES p q least → to * key.cells ≤ least → IsOpen p.own.mine
    → MayTrim key (shelf_of q) (view_of q) to
may_trim key p q least to l far goes_on = subst (λ (z : PassView). MayTrim key (shelf_of z) (view_of z) to) (sym l.is) (record {
  holds = λ x near. let r = l.each x near in (
    r.0,
    Contains-append_right p.reads l.further (Hold (suc x) r.0) r.1,
    (let m = r.2
        in omega arith),
  );
  not_over = λ i e at. (still goes_on).0 i e at;
  still_open = λ i e at. (still goes_on).1 i e at;
})
  where
    still : IsOpen p.own.mine → ((i : ℕ) (e : Entry) → Rattle.gl_model.specs.Form.At p.own.mine i e → Rattle.gl_model.specs.Form.IsEnd e
        → ⊥) × ((i : ℕ) (e : Entry) → Rattle.gl_model.specs.Form.At p.own.mine i e → Rattle.gl_model.specs.Form.IsOver e → ⊥)
    still (inl u) = ((λ i e at. (none_ended p.own.mine u i e at).0), (λ i e at. (none_ended p.own.mine u i e at).1))
    still (inr r) = (no_end p.own.mine r, no_over p.own.mine r)

-- raising the first segment puts its trims after the list, and leaves the rest of a thread's own
own_lowered : (p : PassView) (n to : ℕ) → (lowered_pass p n to).own ≡ record p.own { mine = p.own.mine ++ trims n to }
own_lowered p n to = by (nat_lt n to)
  where
    by : (b : Bool) → record p.own { mine = (if b then shelf p.own.id (p.own.mine ++ Trim to ∷ []) else shelf p.own.id p.own.mine).marked }
        ≡ record p.own { mine = p.own.mine ++ (if b then Trim to ∷ [] else []) }
    by true = refl
    by false = ap (λ (m : List Entry). record p.own { mine = m }) (sym (append-nil p.own.mine))

-- a Trim takes the room of one entry
one_less : (b : Bool) (s : ℕ) → s - 1 ≤ (if b then s - 1 else s)
one_less true s = omega arith
one_less false s = omega arith

-- loading the holds and then raising the first segment to what they allow settles the pass
pub settled : (z : TableView) (p q r : PassView) (least n low : ℕ) → AreLoaded VARIABLES p q least → low ≡ max n (least / z.key.cells) → r
    ≡ lowered_pass q n (least / z.key.cells) → IsSettled z p r low
settled z p q r least n low l is to = record {
  loaded = q;
  least = least;
  holds = l;
  before = n;
  answer = is;
  own = ap (λ (x : PassView). x.own) to ∙ own_lowered q n (least / z.key.cells)
      ∙ ap (λ (x : PassView). record x.own { mine = x.own.mine ++ trims n (least / z.key.cells) }) l.is;
  reads = ap (λ (x : PassView). x.reads) to ∙ ap (λ m. (q.reads ++ Hold 0 n ∷ []) ++ Hold 0 m ∷ []) (sym is)
      ∙ append_assoc q.reads (Hold 0 n ∷ []) (Hold 0 low ∷ []);
  seen = ap (λ (x : PassView). x.seen) to ∙ ap (λ (x : PassView). x.seen) l.is;
  known = ap (λ (x : PassView). x.known) to ∙ ap (λ (x : PassView). x.known) l.is;
  quiet = ap (λ (x : PassView). x.quiet) to ∙ ap (λ (x : PassView). x.quiet) l.is;
  spare = subst (λ m. p.spare - 1 ≤ m) (sym (ap (λ (x : PassView). x.spare) to))
      (subst (λ (x : PassView). x.spare - 1 ≤ (if nat_lt n (least / z.key.cells) then q.spare - 1 else q.spare)) l.is
      (one_less (nat_lt n (least / z.key.cells)) q.spare));
  cost = ap (λ (x : PassView). x.moves) to ∙ ap (λ (x : PassView). moved 1 x.moves) l.is
      ∙ moved_both VARIABLES 1 (VARIABLES + 1) p.moves refl;
}

-- which of the two is the lesser, where the one before the first hold is the greatest word
pub lesser_is : (k least n least' : ℕ) → (k ≡ 0 → least ≡ 18446744073709551615) → n < 18446744073709551616 → least' ≤ n → (least' ≡ least)
    ⊎ (least' ≡ n) → ((0 < k) × (least' ≡ least)) ⊎ (least' ≡ n)
lesser_is k least n least' first fits below (inr e) = inr e
lesser_is k least n least' first fits below (inl e) = elim (ℕ_discrete k 0) [
  | yes z ↦ inr (let m = first z in omega arith)
  | no ne ↦ inl (omega arith, e)
]

-- a segment begins at or before each of its positions
pub segment_below : (n cells given s : ℕ) → cells ≡ given → s ≡ n / given → s * cells ≤ n
segment_below n cells given s same is = subst (λ m. m * cells ≤ n) (ap (λ c. n / c) same ∙ sym is) (div-mul-le_self n cells)
