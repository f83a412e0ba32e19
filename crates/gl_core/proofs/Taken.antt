-- An event more: the tables go on to be the clocks.
use Rattle.std.proofs.Common.{◌≡◌, ℕ, zero, suc, replicate, ◌+◌, ◌==◌, List, [], ◌∷◌, ◌++◌, length, refl, ap, sym, ◌∙◌, arith, true, false, Bool, eq-eqb}
use Rattle.std.specs.Prelude.{max, if◌then◌else◌}
use Rattle.std.proofs.lemmas.List.{length_push}
use Rattle.gl_model.specs.declared.event.Stamp.{Stamp}
use Rattle.gl_model.specs.declared.event.Element.{Element}
use Rattle.gl_model.specs.declared.event.Element.TheVariants.{Thread, Tx, Monitor, Volatile, Var}
use Rattle.gl_clocks.specs.Clocks.{Clocks, taken, handed, kept, is_thread, is_released, after_event, clocks}
use Rattle.gl_clocks.proofs.Locked.{clocks_push}
use Rattle.gl_core.specs.declared.tables.Tables.{Tables}
use Rattle.gl_core.specs.Cells.{cell}
use Rattle.gl_core.specs.TablesView.{clocks_in}
use Rattle.gl_core.proofs.Marking.{zero_at}

module _ (h : List Stamp) (s : Stamp) (C C1 C2 : Clocks) (n : ℕ) (same : (y : Element) (u : ℕ) → C y u ≡ clocks h y u) (long : n
    ≡ length h) (known by own : ℕ → ℕ)
    (k : (u : ℕ) → known u ≡ taken C s u) (b : (u : ℕ) → by u ≡ (if u == s.thread then n + 1 else known u)) (r : (y : Element) (u : ℕ)
    → C1 y u ≡ (if is_released s.event y then max (C y u) (by u) else C y u))
    (q : (u : ℕ) → own u ≡ (if u == s.thread then n + 2 else by u)) (p : (y : Element) (u : ℕ) → C2 y u
    ≡ (if is_thread s.thread y then own u else C1 y u)) where
  -- what the event hands on is what its rule says
  by_is : (u : ℕ) → by u ≡ handed C n s u
  by_is u = b u ∙ ap (λ z. if u == s.thread then n + 1 else z) (k u)

  -- what the event's thread knows after it is what its rule says
  own_is : (u : ℕ) → own u ≡ kept C n s u
  own_is u = q u ∙ ap (λ z. if u == s.thread then n + 2 else z) (b u) ∙ here (u == s.thread)
      ∙ ap (λ z. if u == s.thread then n + 2 else z) (k u)
    where
      here : (c : Bool) → (if c then n + 2 else (if c then n + 1 else known u)) ≡ (if c then n + 2 else known u)
      here true = refl
      here false = refl

  -- what each element knows after the event is what its rule says
  after_is : (y : Element) (u : ℕ) → C2 y u ≡ after_event C n s y u
  after_is y u = p y u ∙ ap (λ z. if is_thread s.thread y then z else C1 y u) (own_is u)
      ∙ ap (λ z. if is_thread s.thread y then kept C n s u else z) (r y u
      ∙ ap (λ z. if is_released s.event y then max (C y u) z else C y u) (by_is u))

  -- what the tables have come to are the clocks of the list with this event
  pub moved_on : (y : Element) (u : ℕ) → C2 y u ≡ clocks (h ++ s ∷ []) y u
  moved_on y u =
      let eq : C ≡ clocks h = (λ i z v. same z v i) in
      after_is y u ∙ ap (λ (D : Clocks). after_event D n s y u) eq ∙ ap (λ m. after_event (clocks h) m s y u) long
      ∙ ap (λ (D : Clocks). D y u) (sym (clocks_push h s))

-- ---- an event that moves the clocks where they lie

-- a number is the greater of it and itself
twice : (k : ℕ) → max k k ≡ k
twice k = omega arith

-- where a thread's own tick is set in its clock before it releases, and again after, the thread is left with the second, and what it
-- released knows the first
moved_in_place : (q r c : Bool) (m n k x : ℕ) → (if q then (if c then m
    else (if r then max (if q then (if c then n else k) else x) (if c then n else k) else (if q then (if c then n else k) else x)))
    else (if r then max (if q then (if c then n else k) else x) (if c then n else k) else (if q then (if c then n else k) else x)))
    ≡ (if q then (if c then m else k) else if r then max x (if c then n else k) else x)
moved_in_place true r true m n k x = refl
moved_in_place true true false m n k x = twice k
moved_in_place true false false m n k x = refl
moved_in_place false r c m n k x = refl

-- clocks that are moved where they lie: the thread acquires (Ca), counts its event (Cb), releases (Cr), and counts what it does next (C2)
module _ (h : List Stamp) (s : Stamp) (C Ca Cb Cr C2 : Clocks) (n : ℕ) (same : (y : Element) (u : ℕ) → C y u ≡ clocks h y u) (long : n
    ≡ length h)
    (a : (y : Element) (u : ℕ) → Ca y u ≡ (if is_thread s.thread y then taken C s u else C y u))
    (b : (y : Element) (u : ℕ) → Cb y u ≡ (if is_thread s.thread y then (if u == s.thread then n + 1 else Ca y u) else Ca y u))
    (r : (y : Element) (u : ℕ) → Cr y u ≡ (if is_released s.event y then max (Cb y u) (Cb (Thread s.thread) u) else Cb y u))
    (p : (y : Element) (u : ℕ) → C2 y u ≡ (if is_thread s.thread y then (if u == s.thread then n + 2 else Cr y u) else Cr y u)) where
  -- counted, the thread knows what it hands on, and all others what they knew
  counted : (y : Element) (u : ℕ) → Cb y u ≡ (if is_thread s.thread y then handed C n s u else C y u)
  counted y u = b y u ∙ ap (λ z. if is_thread s.thread y then (if u == s.thread then n + 1 else z) else z) (a y u)
      ∙ here (is_thread s.thread y) (u == s.thread) (taken C s u) (C y u)
    where
      here : (q c : Bool) (k x : ℕ) → (if q then (if c then n + 1 else (if q then k else x)) else (if q then k else x))
          ≡ (if q then (if c then n + 1 else k) else x)
      here true c k x = refl
      here false c k x = refl

  -- the thread itself, counted, knows what it hands on
  own_counted : (u : ℕ) → Cb (Thread s.thread) u ≡ handed C n s u
  own_counted u = counted (Thread s.thread) u ∙ ap (λ q. if q then handed C n s u else C (Thread s.thread) u) (eq-eqb s.thread s.thread refl)

  -- after all four the clocks are those after the event
  after_is_here : (y : Element) (u : ℕ) → C2 y u ≡ after_event C n s y u
  after_is_here y u = p y u ∙ ap (λ z. if is_thread s.thread y then (if u == s.thread then n + 2 else z) else z) (r y u
      ∙ ap (λ z. if is_released s.event y then max z (Cb (Thread s.thread) u) else z) (counted y u)
      ∙ ap (λ z. if is_released s.event y then max (if is_thread s.thread y then handed C n s u else C y u) z
      else (if is_thread s.thread y then handed C n s u else C y u)) (own_counted u))
      ∙ moved_in_place (is_thread s.thread y) (is_released s.event y) (u == s.thread) (n + 2) (n + 1) (taken C s u) (C y u)

  -- so they are the clocks of the list with the event behind it
  pub moved_on_here : (y : Element) (u : ℕ) → C2 y u ≡ clocks (h ++ s ∷ []) y u
  moved_on_here y u =
      let eq : C ≡ clocks h = (λ i z v. same z v i) in
      after_is_here y u ∙ ap (λ (D : Clocks). after_event D n s y u) eq ∙ ap (λ m. after_event (clocks h) m s y u) long
      ∙ ap (λ (D : Clocks). D y u) (sym (clocks_push h s))

-- the next position after an event more is the length with it
pub one_longer : (h : List Stamp) (s : Stamp) (n m : ℕ) → n ≡ length h → m ≡ n → m + 1 ≡ length (h ++ s ∷ [])
one_longer h s n m e f = omega (arith, length_push h s)

-- nothing is known at the start
pub first_known : (s : Tables) → ((t u : ℕ) → clocks_in s (Thread t) u ≡ 0) → ((o u : ℕ) → clocks_in s (Monitor o) u ≡ 0)
    → ((v u : ℕ) → clocks_in s (Volatile v) u ≡ 0) → ((x u : ℕ) → clocks_in s (Var x) u ≡ 0) → (y : Element) (u : ℕ) → clocks_in s y u
    ≡ clocks [] y u
first_known s a b c d (Thread t) u = a t u
first_known s a b c d Tx u = refl
first_known s a b c d (Monitor o) u = b o u
first_known s a b c d (Volatile v) u = c v u
first_known s a b c d (Var x) u = d x u

-- in a table of zeros each cell is 0
pub zero_cell : (m n t u : ℕ) → cell (replicate m (replicate n 0)) t u ≡ 0
zero_cell zero n t u = refl
zero_cell (suc m) n zero u = zero_at n u
zero_cell (suc m) n (suc t) u = zero_cell m n t u
