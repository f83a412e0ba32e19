-- The marks of the events that an access reaches.
use Rattle.std.proofs.Common.{◌≡◌, ℕ, zero, suc, ◌+◌, ◌<◌, ◌≤◌, List, [], ◌∷◌, ◌++◌, length, Bool, true, false, Some, None, refl, sym, ap, ◌∙◌, inl, inr, arith}
use Rattle.std.specs.Prelude.{◌⊎◌, ◌↔◌, ◌&&◌, ◌||◌, IsTrue, slice_get}
use Rattle.std.proofs.Math.Nat.{eq-or-lt_of_le}
use Rattle.std.proofs.lemmas.List.{length-append}
use Rattle.gl_model.specs.declared.event.Stamp.{Stamp}
use Rattle.gl_model.specs.Edges.{EventAt}
use Rattle.gl_model.specs.Locksets.{Access}
use Rattle.gl_reference.proofs.Truths.{either}
use Rattle.gl_model.specs.Next.{IsCommitOn, ReachesThread, HappensBeforeNext, Reaches, own_later, commit_edge, thread_on, edge_on}
use Rattle.gl_reference.specs.Steps.{Starts, Leads, IsMarked, HasMarked, IsCommitWith, AreMarks}

-- one position of a list has one event
same_event : (h : List Stamp) (q : ℕ) (s r : Stamp) → EventAt h q s → EventAt h q r → r ≡ s
same_event h q s r here there = cc

-- what stands in a list stands below its length
pub slice_get_within : {A : Type 0} (xs : List A) (p : ℕ) (x : A) → slice_get xs p ≡ Some x → p < length xs
slice_get_within [] p x is = absurd (cc)
slice_get_within (y ∷ ys) zero x is = omega arith
slice_get_within (y ∷ ys) (suc p) x is = let l : p < length ys = slice_get_within ys p x is in omega arith

-- below the length, a list with one more has what it had
slice_get-old : {A : Type 0} (xs : List A) (y : A) (p : ℕ) → p < length xs → slice_get (xs ++ y ∷ []) p ≡ slice_get xs p
slice_get-old [] y p l = absurd (omega arith)
slice_get-old (x ∷ xs) y zero l = refl
slice_get-old (x ∷ xs) y (suc p) l = slice_get-old xs y p (omega arith)

-- at its old length, a list with one more has the new one
slice_get-new : {A : Type 0} (xs : List A) (y : A) → slice_get (xs ++ y ∷ []) (length xs) ≡ Some y
slice_get-new [] y = refl
slice_get-new (x ∷ xs) y = slice_get-new xs y

-- at each place below the length something stands
slice_get_there : {A : Type 0} (xs : List A) (p : ℕ) → p < length xs → (x : A) × (slice_get xs p ≡ Some x)
slice_get_there [] p l = absurd (omega arith)
slice_get_there (x ∷ xs) zero l = (x, refl)
slice_get_there (x ∷ xs) (suc p) l = slice_get_there xs p (omega arith)

-- what is at most p is below p, or is p
below_or_last : (k p : ℕ) → k ≤ p → (k < p) ⊎ (k ≡ p)
below_or_last k p le = elim (eq-or-lt_of_le le) [ inl same ↦ inr same | inr l ↦ inl l ]

module _ (h : List Stamp) (a : Access) (marks : List Bool) (are : AreMarks h a marks) where
  -- the access reaches the first event of which the marks do not speak, if the access or a marked event orders it directly
  into_reached : (s : Stamp) → EventAt h (length marks) s → Starts a (length marks) s ⊎ HasMarked h marks (λ r. Leads r s)
      → Reaches h a (length marks)
  into_reached s here (inl (l, inl own)) = own_later s here l own
  into_reached s here (inl (l, inr w)) = commit_edge s w.0 here l w.1 w.2
  into_reached s here (inr (p, (r, marked, there, inl same))) =
      let l = slice_get_within marks p true marked in
      thread_on r s ((are.right p l).0 marked) there here l same
  into_reached s here (inr (p, (r, marked, there, inr edge))) =
      let l = slice_get_within marks p true marked in
      edge_on r s ((are.right p l).0 marked) there here l edge

  -- if the access reaches the first event of which the marks do not speak, the access or a marked event orders it directly
  out_of_reached : (q : ℕ) (s : Stamp) → q ≡ length marks → EventAt h q s → Reaches h a q → Starts a q s
      ⊎ HasMarked h marks (λ r. Leads r s)
  out_of_reached q s is here (own_later r there l own) =
      inl (l, inl (ap (λ (e : Stamp). e.thread) (sym (same_event h q s r here there)) ∙ own))
  out_of_reached q s is here (commit_edge r ys there l event on) =
      inl (l, inr (ys, ap (λ (e : Stamp). e.event) (sym (same_event h q s r here there)) ∙ event, on))
  out_of_reached q s is here (thread_on {p} r t reach before there l same) =
      inr (
        p,
        (
          r,
          (are.right p (omega arith)).1 reach,
          before,
          inl (ap (λ (e : Stamp). e.thread) (sym (same_event h q s t here there))
              ∙ same),
        ),
      )
  out_of_reached q s is here (edge_on {p} r t reach before there l edge) =
      inr (p, (r, (are.right p (omega arith)).1 reach, before, inr (rw (same_event h q s t here there) at edge)))

  -- where a mark more tells whether the access or a marked event orders the next event directly, the marks are right with it
  pub marks_more : (b : Bool) → length marks < length h
      → ((s : Stamp) → EventAt h (length marks) s → IsTrue b ↔ (Starts a (length marks) s ⊎ HasMarked h marks (λ r. Leads r s)))
      → AreMarks h a (marks ++ b ∷ [])
  marks_more b l test = record { within = omega (arith, length-append marks (b ∷ [])); right = right }
    where
      event : (s : Stamp) × EventAt h (length marks) s
      event = slice_get_there h (length marks) l

      new : (slice_get (marks ++ b ∷ []) (length marks) ≡ Some true) ↔ Reaches h a (length marks)
      new = (
        λ is. into_reached event.0 event.1 ((test event.0 event.1).0 (let e = slice_get-new marks b in cc)),
        λ reach. slice_get-new marks b ∙ ap Some ((test event.0 event.1).1 (out_of_reached (length marks) event.0 refl event.1 reach)),
      )

      old : (p : ℕ) → p < length marks → (slice_get (marks ++ b ∷ []) p ≡ Some true) ↔ Reaches h a p
      old p before = rw (slice_get-old marks b p before) (are.right p before)

      right : (p : ℕ) → p < length (marks ++ b ∷ []) → (slice_get (marks ++ b ∷ []) p ≡ Some true) ↔ Reaches h a p
      right p within = elim (below_or_last p (length marks) (omega (arith, length-append marks (b ∷ [])))) [
        | inl before ↦ old p before
        | inr last ↦ rw last new
      ]

-- some event is marked, or none is
module _ (h : List Stamp) (marks : List Bool) (P : Stamp → Type 0) where
  -- the mark at p, together with a test of P on the event there, tells whether that event is marked and P holds of it
  pub marked_here : (p : ℕ) (m b : Bool) (r : Stamp) → slice_get marks p ≡ Some m → EventAt h p r → IsTrue b ↔ P r
      → IsTrue (m && b) ↔ IsMarked h marks P p
  marked_here p true b r marked there test = (λ t. (r, marked, there, test.0 t), λ w. test.1 (rw (same_event h p r w.0 there w.2) at w.3))
  marked_here p false b r marked there test = (λ t. absurd (cc), λ w. absurd (let e = w.1 in cc))

  -- where the event at p is marked and P holds of it, the answer that there is such an event is right
  pub one_marked : (p : ℕ) → IsMarked h marks P p → IsTrue true ↔ HasMarked h marks P
  one_marked p w = (λ _. (p, w), λ _. refl)

  -- where P holds of no marked event among the first n, and there are at most n marks, the answer that there is none is right
  pub none_marked : (n : ℕ) → length marks ≤ n → ((k : ℕ) → k < n → IsMarked h marks P k → ⊥) → IsTrue false ↔ HasMarked h marks P
  none_marked n le none = (λ t. absurd (cc), λ w. absurd (let l = slice_get_within marks w.0 true w.1.1 in none w.0 (omega arith) w.1))

  -- where P holds of no marked event before p, and the event at p is not such a one, there is none before p + 1
  pub none_more : (p : ℕ) → ((k : ℕ) → k < p → IsMarked h marks P k → ⊥) → (IsMarked h marks P p → ⊥) → (k : ℕ) → k < p + 1
      → IsMarked h marks P k → ⊥
  none_more p none not_here k l w = elim (below_or_last k p (omega arith)) [
    | inl before ↦ none k before w
    | inr last ↦ not_here (rw last at w)
  ]

-- all events are marked or not
module _ (h : List Stamp) (a : Access) (marks : List Bool) (are : AreMarks h a marks) (all : length marks ≡ length h) where
  -- the access reaches each marked event
  of_marked : (p : ℕ) → slice_get marks p ≡ Some true → Reaches h a p
  of_marked p marked = (are.right p (slice_get_within marks p true marked)).0 marked

  -- each event that the access reaches is marked
  is_marked : (p : ℕ) (s : Stamp) → EventAt h p s → Reaches h a p → slice_get marks p ≡ Some true
  is_marked p s there reach = let l : p < length h = slice_get_within h p s there in (are.right p (omega arith)).1 reach

  -- some event of thread u is marked exactly where the access reaches an event of u
  thread_iff : (u : ℕ) → HasMarked h marks (λ r. r.thread ≡ u) ↔ ReachesThread h a u
  thread_iff u = (
    λ w. (w.0, (w.1.0, w.1.2, w.1.3, of_marked w.0 w.1.1)),
    λ w.
        (w.0, (w.1.0, is_marked w.0 w.1.0 w.1.1 w.1.3, w.1.1, w.1.2)),
  )

  -- whether the access is of thread u, or some marked event is, tells whether the access happens before a next plain one of u
  pub plain_next : (u : ℕ) (b t : Bool) → IsTrue b ↔ (a.thread ≡ u) → IsTrue t ↔ HasMarked h marks (λ r. r.thread ≡ u)
      → IsTrue (b || t) ↔ HappensBeforeNext h a u None
  plain_next u b t own thread = either b t _ _ own (λ x. (thread_iff u).0 (thread.0 x), λ w. thread.1 ((thread_iff u).1 w))

  -- the access happens before the next commit of u on xs if it is of u, if it reaches an event of u,
  -- if it is a commit on one of xs, or if a commit with one of xs is marked
  into_next : (u : ℕ) (xs : List ℕ) → (((a.thread ≡ u) ⊎ ReachesThread h a u) ⊎ IsCommitOn a xs) ⊎ HasMarked h marks (IsCommitWith xs)
      → HappensBeforeNext h a u (Some xs)
  into_next u xs (inl (inl (inl own))) = inl own
  into_next u xs (inl (inl (inr thread))) = inr (inl thread)
  into_next u xs (inl (inr on)) = inr (inr (inl on))
  into_next u xs (inr (q, (s, marked, there, (ys, x, event, one, other)))) =
      inr (inr (inr (q, (s, (ys, (x, there, event, one, other, of_marked q marked))))))

  -- if the access happens before the next commit of u on xs, it is of u, or reaches an event of
  -- u, or is a commit on one of xs, or a commit with one of xs is marked
  out_of_next : (u : ℕ) (xs : List ℕ) → HappensBeforeNext h a u (Some xs) → (((a.thread ≡ u) ⊎ ReachesThread h a u) ⊎ IsCommitOn a xs)
      ⊎ HasMarked h marks (IsCommitWith xs)
  out_of_next u xs (inl own) = inl (inl (inl own))
  out_of_next u xs (inr (inl thread)) = inl (inl (inr thread))
  out_of_next u xs (inr (inr (inl on))) = inl (inr on)
  out_of_next u xs (inr (inr (inr (q, (s, (ys, (x, there, event, one, other, reach))))))) =
      inr (q, (s, is_marked q s there reach, there, (ys, x, event, one, other)))

  -- whether the access or some marked event is of thread u, the access is a commit on one of xs,
  -- or a commit with one of xs is marked, tells whether the access happens before a next commit of u on xs
  pub commit_next : (u : ℕ) (xs : List ℕ) (b t o l : Bool) → IsTrue b ↔ (a.thread ≡ u) → IsTrue t ↔ HasMarked h marks (λ r. r.thread ≡ u)
      → IsTrue o ↔ IsCommitOn a xs → IsTrue l ↔ HasMarked h marks (IsCommitWith xs)
      → IsTrue (((b || t) || o) || l) ↔ HappensBeforeNext h a u (Some xs)
  commit_next u xs b t o l own thread one later =
      let cases : IsTrue (((b || t) || o) || l) ↔ ((((a.thread ≡ u) ⊎ ReachesThread h a u) ⊎ IsCommitOn a xs)
      ⊎ HasMarked h marks (IsCommitWith xs)) = either ((b || t) || o) l _ _ (either (b || t) o _ _ (plain_next u b t own thread) one)
      later in
      (λ x. into_next u xs (cases.0 x), λ w. cases.1 (out_of_next u xs w))

-- two answers about the event at q, whether the access orders it directly and whether a marked event does, tell together whether one does
pub asked : (h : List Stamp) (a : Access) (marks : List Bool) (q : ℕ) (at s : Stamp) (x y : Bool) → EventAt h q at → EventAt h q s
    → IsTrue x ↔ Starts a q at → IsTrue y ↔ HasMarked h marks (λ r. Leads r at)
    → IsTrue (x || y) ↔ (Starts a q s ⊎ HasMarked h marks (λ r. Leads r s))
asked h a marks q at s x y there here first later = rw (same_event h q at s there here) (either x y _ _ first later)

-- where P holds of none of the first i elements, nor of the one at i, it holds of none of the first i + 1
pub none_of_more : {A : Type 0} (xs : List A) (P : A → Type 0) (i : ℕ) (x : A) → slice_get xs i ≡ Some x → (P x → ⊥)
    → ((k : ℕ) (p : A) → k < i → slice_get xs k ≡ Some p → P p → ⊥) → (k : ℕ) (p : A) → k < i + 1 → slice_get xs k ≡ Some p → P p → ⊥
none_of_more xs P i x here not_this none k p l there w = elim (below_or_last k i (omega arith)) [
  | inl before ↦ none k p before there w
  | inr last ↦ (let again : slice_get xs i ≡ Some p = rw last at there in let e : p ≡ x = cc in not_this (rw e at w))
]

-- where P holds of none of the first n elements, and there are no more than n, the answer that it holds of one is no
pub none_of_all : {A : Type 0} (xs : List A) (P : A → Type 0) (n : ℕ) → length xs ≤ n
    → ((k : ℕ) (p : A) → k < n → slice_get xs k ≡ Some p → P p → ⊥) → IsTrue false ↔ ((i : ℕ) × ((p : A) × (slice_get xs i ≡ Some p) × P p))
none_of_all xs P n le none = (
  λ t. absurd (cc),
  λ w. absurd (let l = slice_get_within xs w.0 w.1.0 w.1.1
      in none w.0 w.1.0 (omega arith) w.1.1 w.1.2),
)
