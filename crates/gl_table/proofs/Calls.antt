-- What each call owes for its step.
use Rattle.std.proofs.Common.{◌≡◌, ℕ, suc, max, ◌+◌, ◌*◌, ◌^◌, ◌%◌, ◌<◌, ◌≤◌, ◌==◌, List, [], ◌∷◌, length, sym, refl, subst, arith, ◌∙◌}
use Rattle.std.specs.Prelude.{pos, ℤ, Bool, false, Option, Contains}
use prog.Atomic.{either}
use Rattle.atomic_table.specs.Table as table
use Rattle.gl_model.specs.declared.event.Act.{Act}
use Rattle.gl_model.specs.declared.event.Event.TheVariants.{Act as Does}
use Rattle.gl_model.specs.declared.row.Row.{Row}
use Rattle.gl_model.specs.declared.row.Question.{Question}
use Rattle.gl_model.specs.Entries.{Entry, Commit, Sync}
use Rattle.gl_model.specs.Machine.{Setting}
use Rattle.gl_rule.specs.declared.slot.Slot.{Slot}
use Rattle.gl_rule.specs.declared.slot.Slot.TheVariants as slot
use Rattle.gl_table.specs.CaughtUp.{caught_up}
use Rattle.gl_table.specs.PassInside.{IsReady}
use Rattle.gl_state.specs.ListView.{ListView}
use Rattle.gl_rule.specs.Objects.{Key, objects, capacity, cell_at}
use Rattle.gl_rule.specs.View.{View, Held, Shelf, shelf, SetStop}
use Rattle.gl_rule.specs.Fitting.{MayPublish, MayMark, MayOpen, MayWalk, MayStoreWord, MayRaise, MayTrim}
use Rattle.gl_table.specs.Putting.{MayPutBack, DoesNotHold}
use Rattle.gl_rule.specs.Rule.{Rule}
use Rattle.gl_table.specs.Says.{EventSaid, MarkSaid}
use Rattle.gl_rule.specs.Told.{Took, Left, SawTail, Saw, SawStop, SawHold, PutWord, PublishedAct, Marked, Opened, SawCell, SawEvent, SawFloor, Raised, Lowered}
use Rattle.gl_table.specs.Told.{PaidLeft, PublishedTx}
use Rattle.gl_table.specs.Committing.{commit_stamp}
use Rattle.gl_model.specs.declared.tx.Tx.{Tx}
use Rattle.gl_rule.proofs.Committing.{publishes_commit}
use Rattle.gl_rule.proofs.Aborting.{record_first}
use Rattle.gl_rule.proofs.Acting.{publishes_act}
use Rattle.gl_rule.proofs.Loading.{loads_tail, loads_hold, loads_stop, loads_cell, loads_event}
use Rattle.gl_rule.proofs.Marking.{marks_plain, marks_open}
use Rattle.gl_rule.proofs.Paying.{writes_back}
use Rattle.gl_rule.specs.Commits.{MayCommit, MayPay, paid}
use Rattle.gl_rule.proofs.Storing.{puts_word, sets_stop}
use Rattle.gl_rule.proofs.Raising.{raises_hold, loads_floor}
use Rattle.gl_rule.proofs.Lowering.{raises_low}
use Rattle.gl_rule.proofs.Turning.{takes_turn, leaves_turn}

module _ (key : Key) (slots id : ℕ) (me : table.Me Slot View) (t : ℕ) (es : List Entry) (u : View) (told : u ≡ caught_up me.0 t es)
    (ready : IsReady me.0 t es) where
  -- what the rule allows once the thread's entries are added to the view it allows before
  as_told : (i : ℕ) (f : ℕ → ℕ) (tells : View → ℕ → table.Me Slot View → Type 0)
      → table.Allows (Rule key) slots id (caught_up me.0 t es, me.1) i f (tells (caught_up me.0 t es))
      → table.Allows (Rule key) slots id me i f (tells u)
  as_told i f tells a = subst (λ z. table.Allows (Rule key) slots id me i f (tells z)) (sym told)
      (record_first key slots id me.0 (caught_up me.0 t es) me.1 ready.more i f (tells (caught_up me.0 t es)) ready.adds a)

  -- an object that there is and that the pass does not hold may be taken
  pub may_take : (setting : Setting) (k y : ℕ) → y ≡ k → setting ≡ key.setting → k < objects → DoesNotHold (caught_up me.0 t es).held k
      → table.Allows (Rule key) slots id me (3 * k + 1) (λ n. either (n == 0) (t + 1) n) (Took setting y u me.1)
  may_take setting k y is same near free =
      subst (λ s. table.Allows (Rule key) slots id me (3 * k + 1) (λ n. either (n == 0) (t + 1) n) (Took s y u me.1)) (sym same)
      (subst (λ z. table.Allows (Rule key) slots id me (3 * k + 1) (λ n. either (n == 0) (t + 1) n) (Took key.setting z u me.1)) (sym is)
      (as_told (3 * k + 1) (λ n. either (n == 0) (t + 1) n) (λ z. Took key.setting k z me.1)
      (takes_turn key slots id k (caught_up me.0 t es) me.1 (shelf t es) near refl (λ o. free o.0 o.1 o.2))))

  -- the held object may be put back as it is, where the rule lets it be put back so
  pub may_leave : (k y : ℕ) (q r : Bool) → y ≡ k → r ≡ q → objects ≤ slots
      → (x : Slot) × (c : List (ℕ × Slot)) × (me.1 ≡ (k, x) ∷ c) × MayPutBack key.setting (shelf t es) (caught_up me.0 t es) k x q
      → table.Allows (Rule key) slots id me (3 * k + 1) (λ _. 0) (λ _. Left y r u me.1)
  may_leave k y q r is same many (x, c, out, may) =
      let h = may.held in
      let a : table.Allows (Rule key) slots id (caught_up me.0 t es, (h.object, x) ∷ c) (3 * h.object + 1) (λ _. 0)
      (λ _. Left h.object q (caught_up me.0 t es) ((h.object, x) ∷ c)) =
      leaves_turn key slots id (caught_up me.0 t es) c (shelf t es) h x q many refl may.has may.may may.quiet in
      let b : table.Allows (Rule key) slots id (caught_up me.0 t es, (k, x) ∷ c) (3 * k + 1) (λ _. 0)
      (λ _. Left k q (caught_up me.0 t es) ((k, x) ∷ c)) =
      subst (λ z. table.Allows (Rule key) slots id (caught_up me.0 t es, (z, x) ∷ c) (3 * z + 1) (λ _. 0)
      (λ _. Left z q (caught_up me.0 t es) ((z, x) ∷ c))) may.object a in
      let d : table.Allows (Rule key) slots id (caught_up me.0 t es, me.1) (3 * k + 1) (λ _. 0)
      (λ _. Left k q (caught_up me.0 t es) me.1) =
      subst (λ z. table.Allows (Rule key) slots id (caught_up me.0 t es, z) (3 * k + 1) (λ _. 0) (λ _. Left k q (caught_up me.0 t es) z))
      (sym out) b in
      subst (λ z. table.Allows (Rule key) slots id me (3 * k + 1) (λ _. 0) (λ _. Left y z u me.1)) (sym same)
      (subst (λ z. table.Allows (Rule key) slots id me (3 * k + 1) (λ _. 0) (λ _. Left z q u me.1)) (sym is)
      (as_told (3 * k + 1) (λ _. 0) (λ z _. Left k q z me.1) d))

  -- the tail may be loaded
  pub may_tail : table.Allows (Rule key) slots id me 0 (λ n. n) (SawTail u me.1)
  may_tail = as_told 0 (λ n. n) (λ z. SawTail z me.1) (loads_tail key slots id (caught_up me.0 t es) me.1)

  -- the hold of an object that there is may be loaded
  pub may_hold : (k y : ℕ) → y ≡ k → k < objects → table.Allows (Rule key) slots id me (3 * k + 2) (λ n. n) (SawHold y u me.1)
  may_hold k y is near = subst (λ z. table.Allows (Rule key) slots id me (3 * k + 2) (λ n. n) (SawHold z u me.1)) (sym is)
      (as_told (3 * k + 2) (λ n. n) (λ z. SawHold k z me.1) (loads_hold key slots id k (caught_up me.0 t es) me.1 near))

  -- the stop word may be set
  pub may_set : table.Allows (Rule key) slots id me 3075 (λ _. 1) (λ _. Saw SetStop u me.1)
  may_set = as_told 3075 (λ _. 1) (λ z _. Saw SetStop z me.1) (sets_stop key slots id (caught_up me.0 t es) me.1)

  -- the stop word may be loaded
  pub may_stop : table.Allows (Rule key) slots id me 3075 (λ n. n) (SawStop u me.1)
  may_stop = as_told 3075 (λ n. n) (λ z. SawStop z me.1) (loads_stop key slots id (caught_up me.0 t es) me.1)

  -- the next word of an event may be stored in the cell for a tail, where the rule lets it be stored
  pub may_put : (cell i n : ℕ) → (h : Held) × (tail : ℕ) × MayStoreWord key (caught_up me.0 t es) h tail × (cell ≡ tail % capacity key) → i
      ≡ length (caught_up me.0 t es).stored → table.Allows (Rule key) slots id me (3076 + 5 * cell + i) (λ _. n) (λ _. PutWord n u me.1)
  may_put cell i n (h, tail, may, here) next =
      subst (λ z. table.Allows (Rule key) slots id me (3076 + 5 * z + i) (λ _. n) (λ _. PutWord n u me.1)) (sym here)
      (subst (λ z. table.Allows (Rule key) slots id me (3076 + 5 * (tail % capacity key) + z) (λ _. n) (λ _. PutWord n u me.1)) (sym next)
      (as_told (cell_at (capacity key) tail (length (caught_up me.0 t es).stored)) (λ _. n) (λ z _. PutWord n z me.1)
      (puts_word key slots id n (caught_up me.0 t es) me.1 h tail may)))

  -- an event that is an act may be published, where no number waits and the rule lets it be published
  pub may_publish : (e : EventSaid) (act : Act) (value : ℤ) (l' : ListView) → e
      ≡ record { shelf = shelf t es; act = act; value = value; state = slot.List l' } → (caught_up me.0 t es).drawn ≡ []
      → (h : Held) × (l : ListView) × MayPublish key (shelf t es) (caught_up me.0 t es) h l l' (λ n. Sync n act value)
      (record { thread = t; event = Does act }) value
      → table.Allows (Rule key) slots id me 0 (λ n. (n + 1) % 2 ^ 64) (PublishedAct e.shelf e.act e.value e.state u me.1)
  may_publish e act value l' is idle (h, l, may) =
      subst (λ (q : EventSaid). table.Allows (Rule key) slots id me 0 (λ n. (n + 1) % 2 ^ 64)
      (PublishedAct q.shelf q.act q.value q.state u me.1)) (sym is)
      (as_told 0 (λ n. (n + 1) % 2 ^ 64) (λ z. PublishedAct (shelf t es) act value (slot.List l') z me.1)
      (publishes_act key slots id (caught_up me.0 t es) me.1 (shelf t es) h l l' act value refl idle may))

  -- the number of a plain access may be drawn on a held row, where the rule lets the access be marked there
  pub may_draw : (m : MarkSaid) (h g : Held) (x y p : ℕ) (write : Bool) (value : ℤ) (raised : Bool) → m
      ≡ record { shelf = shelf t es; block = p; write = write; value = value; raised = raised } → y ≡ x → g ≡ h → (taken : Row)
      × (q : Question) × MayMark key.setting (shelf t es) (caught_up me.0 t es) h x taken p q write value raised
      → table.Allows (Rule key) slots id me (3 * (x + 1)) (λ n. (n + 1) % 2 ^ 64)
      (Marked m.shelf g y m.block m.write m.value m.raised u me.1)
  may_draw m h g x y p write value raised is same held may =
      let object : h.object ≡ x + 1 = (let a = may.2.draws.object in omega arith) in
      subst (λ (q : MarkSaid). table.Allows (Rule key) slots id me (3 * (x + 1)) (λ n. (n + 1) % 2 ^ 64)
      (Marked q.shelf g y q.block q.write q.value q.raised u me.1)) (sym is)
      (subst (λ q. table.Allows (Rule key) slots id me (3 * (x + 1)) (λ n. (n + 1) % 2 ^ 64)
      (Marked (shelf t es) q y p write value raised u me.1)) (sym held)
      (subst (λ q. table.Allows (Rule key) slots id me (3 * (x + 1)) (λ n. (n + 1) % 2 ^ 64)
      (Marked (shelf t es) h q p write value raised u me.1)) (sym same)
      (subst (λ z. table.Allows (Rule key) slots id me (3 * z) (λ n. (n + 1) % 2 ^ 64)
      (Marked (shelf t es) h x p write value raised u me.1)) object
      (as_told (3 * h.object) (λ n. (n + 1) % 2 ^ 64) (λ z. Marked (shelf t es) h x p write value raised z me.1)
      (marks_plain key slots id (caught_up me.0 t es) me.1 (shelf t es) h x may.0 p may.1 write value raised refl may.2)))))

  -- the hold of a held row may be loaded
  pub may_floor : (x : ℕ) (h g : Held) → g ≡ h → Contains (caught_up me.0 t es).held h × (h.object ≡ suc x)
      → table.Allows (Rule key) slots id me (3 * (x + 1) + 2) (λ n. n) (SawFloor g u me.1)
  may_floor x h g is has =
      let object : h.object ≡ x + 1 = (let a = has.1 in omega arith) in
      subst (λ q. table.Allows (Rule key) slots id me (3 * (x + 1) + 2) (λ n. n) (SawFloor q u me.1)) (sym is)
      (subst (λ z. table.Allows (Rule key) slots id me (3 * z + 2) (λ n. n) (SawFloor h u me.1)) object
      (as_told (3 * h.object + 2) (λ n. n) (λ z. SawFloor h z me.1)
      (loads_floor key slots id (caught_up me.0 t es) me.1 h has.0 (λ e. let a = has.1 in absurd (omega arith)))))

  -- the hold of a held row may be set to a position, where the rule lets the row be moved up to it
  pub may_raise : (x to : ℕ) (row : Row) (h g : Held) (y : Slot) → g ≡ h → y ≡ slot.Row row → (taken : Row)
      × MayRaise key.setting (shelf t es) (caught_up me.0 t es) h x taken row to
      → table.Allows (Rule key) slots id me (3 * (x + 1) + 2) (λ _. to) (λ _. Raised g y to u me.1)
  may_raise x to row h g y is state may =
      let object : h.object ≡ x + 1 = (let a = may.1.object in omega arith) in
      subst (λ q. table.Allows (Rule key) slots id me (3 * (x + 1) + 2) (λ _. to) (λ _. Raised q y to u me.1)) (sym is)
      (subst (λ q. table.Allows (Rule key) slots id me (3 * (x + 1) + 2) (λ _. to) (λ _. Raised h q to u me.1)) (sym state)
      (subst (λ z. table.Allows (Rule key) slots id me (3 * z + 2) (λ _. to) (λ _. Raised h (slot.Row row) to u me.1)) object
      (as_told (3 * h.object + 2) (λ _. to) (λ z _. Raised h (slot.Row row) to z me.1)
      (raises_hold key slots id (caught_up me.0 t es) me.1 (shelf t es) h x may.0 row to refl may.1))))

  -- the first segment may be raised to another one, where the rule lets the pass trim to it
  pub may_lower : (to y : ℕ) (s : Shelf) → s ≡ shelf t es → y ≡ to → MayTrim key (shelf t es) (caught_up me.0 t es) to
      → table.Allows (Rule key) slots id me 2 (λ n. max n to) (Lowered s y u me.1)
  may_lower to y s is same may =
      subst (λ q. table.Allows (Rule key) slots id me 2 (λ n. max n to) (Lowered q y u me.1)) (sym is)
      (subst (λ q. table.Allows (Rule key) slots id me 2 (λ n. max n to) (Lowered (shelf t es) q u me.1)) (sym same)
      (as_told 2 (λ n. max n to) (λ z. Lowered (shelf t es) to z me.1)
      (raises_low key slots id to (caught_up me.0 t es) me.1 (shelf t es) refl may)))

  -- the number of a look, or of an attempt's end, may be drawn on a held row, where the rule lets it be drawn there
  pub may_open : (a b : Shelf) (h g : Held) (x y p q : ℕ) (look o : Option ℤ) → b ≡ a → a ≡ shelf t es → q ≡ p → y ≡ x → g ≡ h → o ≡ look
      → (taken : Row) × MayOpen (shelf t es) (caught_up me.0 t es) h x taken p look
      → table.Allows (Rule key) slots id me (3 * (x + 1)) (λ n. (n + 1) % 2 ^ 64) (Opened b g y q o u me.1)
  may_open a b h g x y p q look o is own block same held word may =
      let object : h.object ≡ x + 1 = (let e = may.1.draws.object in omega arith) in
      subst (λ z. table.Allows (Rule key) slots id me (3 * (x + 1)) (λ n. (n + 1) % 2 ^ 64) (Opened z g y q o u me.1)) (sym (is ∙ own))
      (subst (λ z. table.Allows (Rule key) slots id me (3 * (x + 1)) (λ n. (n + 1) % 2 ^ 64) (Opened (shelf t es) z y q o u me.1))
      (sym held)
      (subst (λ z. table.Allows (Rule key) slots id me (3 * (x + 1)) (λ n. (n + 1) % 2 ^ 64) (Opened (shelf t es) h z q o u me.1))
      (sym same)
      (subst (λ z. table.Allows (Rule key) slots id me (3 * (x + 1)) (λ n. (n + 1) % 2 ^ 64) (Opened (shelf t es) h x z o u me.1))
      (sym block)
      (subst (λ z. table.Allows (Rule key) slots id me (3 * (x + 1)) (λ n. (n + 1) % 2 ^ 64) (Opened (shelf t es) h x p z u me.1))
      (sym word)
      (subst (λ z. table.Allows (Rule key) slots id me (3 * z) (λ n. (n + 1) % 2 ^ 64) (Opened (shelf t es) h x p look u me.1)) object
      (as_told (3 * h.object) (λ n. (n + 1) % 2 ^ 64) (λ z. Opened (shelf t es) h x p look z me.1)
      (marks_open key slots id (caught_up me.0 t es) me.1 (shelf t es) h x may.0 p look refl may.1)))))))

  -- a held row may be put back with a value that the thread owed, where the rule lets it be paid
  pub may_pay : (x y : ℕ) (h g : Held) (row : Row) (z : Slot) (c : List (ℕ × Slot)) → y ≡ x → g ≡ h → z ≡ slot.Row row → objects ≤ slots
      → me.1 ≡ (x + 1, slot.Row row) ∷ c
      → (taken : Row) × (value : ℤ) × MayPay (caught_up me.0 t es) h x taken value × (row ≡ record taken { value = value })
      → table.Allows (Rule key) slots id me (3 * (x + 1) + 1) (λ _. 0) (λ _. PaidLeft y g z u me.1)
  may_pay x y h g row z c same held state many out (taken, value, may, is) =
      let v = caught_up me.0 t es in
      let r : Row = record taken { value = value } in
      let object : h.object ≡ x + 1 = (let e = may.object in omega arith) in
      let next : x + 1 ≡ suc x = omega arith in
      let A : ℕ → Slot → List (ℕ × Slot) → Type 0 =
      λ k s l. table.Allows (Rule key) slots id (v, l) (3 * k + 1) (λ _. 0) (λ _. Left k false (paid v h x s) l) in
      let a : A h.object (slot.Row r) ((h.object, slot.Row r) ∷ c) =
      writes_back key slots id v c (shelf t es) h x taken value many refl may in
      let b : A (x + 1) (slot.Row r) ((x + 1, slot.Row r) ∷ c) = subst (λ k. A k (slot.Row r) ((k, slot.Row r) ∷ c)) object a in
      let d : A (x + 1) (slot.Row row) ((x + 1, slot.Row row) ∷ c) =
      subst (λ s. A (x + 1) (slot.Row s) ((x + 1, slot.Row s) ∷ c)) (sym is) b in
      let e : A (x + 1) (slot.Row row) me.1 = subst (λ l. A (x + 1) (slot.Row row) l) (sym out) d in
      let f : table.Allows (Rule key) slots id (v, me.1) (3 * (x + 1) + 1) (λ _. 0) (λ _. PaidLeft x h (slot.Row row) v me.1) =
      subst (λ k. table.Allows (Rule key) slots id (v, me.1) (3 * (x + 1) + 1) (λ _. 0)
      (λ _. Left k false (paid v h x (slot.Row row)) me.1)) next e in
      subst (λ q. table.Allows (Rule key) slots id me (3 * (x + 1) + 1) (λ _. 0) (λ _. PaidLeft q g z u me.1)) (sym same)
      (subst (λ q. table.Allows (Rule key) slots id me (3 * (x + 1) + 1) (λ _. 0) (λ _. PaidLeft x q z u me.1)) (sym held)
      (subst (λ q. table.Allows (Rule key) slots id me (3 * (x + 1) + 1) (λ _. 0) (λ _. PaidLeft x h q u me.1)) (sym state)
      (as_told (3 * (x + 1) + 1) (λ _. 0) (λ w _. PaidLeft x h (slot.Row row) w me.1) f)))

  -- a commit may be published, where the rule lets its transaction be committed
  pub may_commit : (s : Shelf) (y : Slot) (z : Tx) (tx : Tx) (l' : ListView) → s ≡ shelf t es → y ≡ slot.List l' → z ≡ tx
      → (h : Held) × (l : ListView) × MayPublish key (shelf t es) (caught_up me.0 t es) h l l' (λ n. Commit n tx) (commit_stamp t tx)
      (pos 0)
      → (p : ℕ) × (m : ℕ) × (question : ℕ → Question) × MayCommit key.setting (shelf t es) (caught_up me.0 t es) tx p m question
      → table.Allows (Rule key) slots id me 0 (λ n. (n + 1) % 2 ^ 64) (PublishedTx s z y u me.1)
  may_commit s y z tx l' own state same (h, l, may) (p, m, question, commits) =
      subst (λ q. table.Allows (Rule key) slots id me 0 (λ n. (n + 1) % 2 ^ 64) (PublishedTx q z y u me.1)) (sym own)
      (subst (λ q. table.Allows (Rule key) slots id me 0 (λ n. (n + 1) % 2 ^ 64) (PublishedTx (shelf t es) z q u me.1)) (sym state)
      (subst (λ q. table.Allows (Rule key) slots id me 0 (λ n. (n + 1) % 2 ^ 64) (PublishedTx (shelf t es) q (slot.List l') u me.1))
      (sym same)
      (as_told 0 (λ n. (n + 1) % 2 ^ 64) (λ w. PublishedTx (shelf t es) tx (slot.List l') w me.1)
      (publishes_commit key slots id (caught_up me.0 t es) me.1 (shelf t es) h l l' tx p m question refl commits may))))

  -- a word of an event's cell may be loaded, where the tail was seen behind that event and the rule lets it be walked
  pub may_cell : (k : Key) (y o i j cell : ℕ) → k ≡ key → y ≡ o → j ≡ i → cell ≡ o % capacity key → i < 5
      → (o < (caught_up me.0 t es).seen) × MayWalk (caught_up me.0 t es) o
      → table.Allows (Rule key) slots id me (3076 + 5 * cell + i) (λ n. n) (SawCell (capacity k) y j u me.1)
  may_cell k y o i j cell is same word here few may =
      subst (λ q. table.Allows (Rule key) slots id me (3076 + 5 * q + i) (λ n. n) (SawCell (capacity k) y j u me.1)) (sym here)
      (subst (λ q. table.Allows (Rule key) slots id me (3076 + 5 * (o % capacity key) + i) (λ n. n) (SawCell (capacity q) y j u me.1))
      (sym is)
      (subst (λ q. table.Allows (Rule key) slots id me (3076 + 5 * (o % capacity key) + i) (λ n. n) (SawCell (capacity key) q j u me.1))
      (sym same)
      (subst (λ q. table.Allows (Rule key) slots id me (3076 + 5 * (o % capacity key) + i) (λ n. n) (SawCell (capacity key) o q u me.1))
      (sym word)
      (as_told (cell_at (capacity key) o i) (λ n. n) (λ z. SawCell (capacity key) o i z me.1)
      (loads_cell key slots id o i (caught_up me.0 t es) me.1 few may.0 may.1)))))

  -- so may the last word of its cell, by which the event is known
  pub may_event : (k : Key) (y o cell : ℕ) → k ≡ key → y ≡ o → cell ≡ o % capacity key → (o < (caught_up me.0 t es).seen)
      × MayWalk (caught_up me.0 t es) o → table.Allows (Rule key) slots id me (3076 + 5 * cell + 4) (λ n. n)
      (SawEvent (capacity k) y u me.1)
  may_event k y o cell is same here may =
      subst (λ q. table.Allows (Rule key) slots id me (3076 + 5 * q + 4) (λ n. n) (SawEvent (capacity k) y u me.1)) (sym here)
      (subst (λ q. table.Allows (Rule key) slots id me (3076 + 5 * (o % capacity key) + 4) (λ n. n) (SawEvent (capacity q) y u me.1))
      (sym is)
      (subst (λ q. table.Allows (Rule key) slots id me (3076 + 5 * (o % capacity key) + 4) (λ n. n) (SawEvent (capacity key) q u me.1))
      (sym same)
      (as_told (cell_at (capacity key) o 4) (λ n. n) (λ z. SawEvent (capacity key) o z me.1)
      (loads_event key slots id o (caught_up me.0 t es) me.1 may.0 may.1))))
