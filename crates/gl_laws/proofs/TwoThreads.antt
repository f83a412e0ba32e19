-- One whole record that every definition accepts. Thread 0 forks thread 1, writes variable 5 and reads it again from its private word,
-- drops an attempt because variable 6 was changed, commits a look of it, and reads what thread 1 wrote to variable 8. Thread 1 reads
-- variable 5, which races, drops an attempt that would race on it, writes variable 8, and commits a write of variable 6: the two commits
-- order what follows.
use Rattle.std.proofs.Common.{◌≡◌, ℕ, zero, suc, ◌<◌, ◌==◌, List, [], ◌∷◌, refl, ap, sym, inl, inr, arith, true, false}
use Rattle.std.specs.Prelude.{◌⊎◌, pos, ℤ, Bool, Contains, if◌then◌else◌}
use Rattle.gl_model.specs.declared.event.Act.TheVariants.{Begin, End, Fork}
use Rattle.gl_model.specs.declared.record.Ending.TheVariants.{Halt}
use Rattle.gl_model.specs.declared.tx.Tx.{Tx}
use Rattle.gl_model.specs.declared.tx.Look.{Look}
use Rattle.gl_model.specs.declared.tx.Pair.{Pair}
use Rattle.gl_model.specs.declared.tx.Number.{Number}
use Rattle.gl_model.specs.declared.tx.Why.TheVariants.{Changed, Raised}
use Rattle.gl_model.specs.Entries.{Entry, Sync, Commit, Plain, Abort, Over}
use Rattle.gl_model.specs.Records.{Lists, Place, EntryAt}
use Rattle.gl_model.specs.Form.{At, Draws}
use Rattle.gl_laws.proofs.SmallRecords.{at, all_at, each_entry}

-- a look, by variable, value and number
abbrev pub look : ℕ → ℤ → ℕ → Look
look x v k = record { var = x; value = v; nth = k }

-- a number of its own, by variable
abbrev pub number : ℕ → ℕ → Number
number x k = record { var = x; nth = k }

-- a write, by variable and value
abbrev pub pair : ℕ → ℤ → Pair
pair x v = record { var = x; value = v }

-- thread 0's attempt that finds variable 6 changed
abbrev pub changed_tx : Tx
changed_tx = record { looks = look 6 (pos 0) 0 ∷ []; writes = []; numbers = number 6 2 ∷ [] }

-- thread 0's commit, which looks at variable 6
abbrev pub looking_tx : Tx
looking_tx = record { looks = look 6 (pos 3) 3 ∷ []; writes = []; numbers = number 6 4 ∷ [] }

-- thread 1's attempt on variable 5 that is refused
abbrev pub raised_tx : Tx
raised_tx = record { looks = look 5 (pos 7) 2 ∷ []; writes = []; numbers = number 5 3 ∷ [] }

-- thread 1's commit, which writes 3 to variable 6
abbrev pub writing_tx : Tx
writing_tx = record { looks = []; writes = pair 6 (pos 3) ∷ []; numbers = number 6 1 ∷ [] }

-- thread 0 begins
abbrev pub B0 : Entry
B0 = Sync 0 (Begin 0) (pos 0)

-- thread 0 forks thread 1
abbrev pub F0 : Entry
F0 = Sync 1 (Fork 1 0) (pos 1)

-- thread 0 writes 7 to variable 5
abbrev pub FirstWrite : Entry
FirstWrite = Plain 5 0 false true (pos 7) false

-- thread 0 reads that again from its private word
abbrev pub C0 : Entry
C0 = Plain 5 0 true false (pos 7) false

-- thread 0 drops the attempt: variable 6 was 0 and is 3
abbrev pub A0 : Entry
A0 = Abort changed_tx (Changed 6 (pos 0) (pos 3))

-- thread 0 commits its look
abbrev pub K0 : Entry
K0 = Commit 4 looking_tx

-- thread 0 reads 9 from variable 8
abbrev pub R0 : Entry
R0 = Plain 8 1 false false (pos 9) false

-- thread 0 ends
abbrev pub E0 : Entry
E0 = Sync 6 End (pos 0)

-- thread 1 begins, with the argument 1
abbrev pub B1 : Entry
B1 = Sync 2 (Begin 0) (pos 1)

-- thread 1's read of variable 5 races
abbrev pub RaisedRead : Entry
RaisedRead = Plain 5 1 false false (pos 0) true

-- thread 1 drops the attempt that would race on variable 5
abbrev pub A1 : Entry
A1 = Abort raised_tx (Raised 5)

-- thread 1 writes 9 to variable 8
abbrev pub OtherWrite : Entry
OtherWrite = Plain 8 0 false true (pos 9) false

-- thread 1 commits its write
abbrev pub K1 : Entry
K1 = Commit 3 writing_tx

-- thread 1 ends
abbrev pub E1 : Entry
E1 = Sync 5 End (pos 0)

-- the list of a thread that halted is over
abbrev pub O : Entry
O = Over Halt

-- the list of thread 0
abbrev pub es0 : List Entry
es0 = B0 ∷ F0 ∷ FirstWrite ∷ C0 ∷ A0 ∷ K0 ∷ R0 ∷ E0 ∷ O ∷ []

-- the list of thread 1
abbrev pub es1 : List Entry
es1 = B1 ∷ RaisedRead ∷ A1 ∷ OtherWrite ∷ K1 ∷ E1 ∷ O ∷ []

-- the record: these two lists, and no other
abbrev pub R : Lists
R zero = es0
R (suc zero) = es1
R (suc (suc t)) = []

-- what holds of each of the nine entries of thread 0, with its place, holds of all in its list
pub entries0 : (P : ℕ → Entry → Type 0) → P 0 B0 → P 1 F0 → P 2 FirstWrite → P 3 C0 → P 4 A0 → P 5 K0 → P 6 R0 → P 7 E0 → P 8 O
    → (i : ℕ) (e : Entry) → At es0 i e → P i e
entries0 P b f w c a k r e o = all_at P es0 (b, (f, (w, (c, (a, (k, (r, (e, (o, tt)))))))))

-- what holds of each of the seven entries of thread 1, with its place, holds of all in its list
pub entries1 : (P : ℕ → Entry → Type 0) → P 0 B1 → P 1 RaisedRead → P 2 A1 → P 3 OtherWrite → P 4 K1 → P 5 E1 → P 6 O
    → (i : ℕ) (e : Entry) → At es1 i e
    → P i e
entries1 P b r a w k e o = all_at P es1 (b, (r, (a, (w, (k, (e, (o, tt)))))))

-- a thread above 2 has no list
none : (t : ℕ) → 2 < t → R t ≡ []
none zero lt = absurd (omega arith)
none (suc zero) lt = absurd (omega arith)
none (suc (suc t)) lt = refl

-- what holds of each of these sixteen entries, with its place, holds of all in the record
pub each : (P : Place → Entry → Type 0) → P (at 0 0) B0 → P (at 0 1) F0 → P (at 0 2) FirstWrite → P (at 0 3) C0 → P (at 0 4) A0
    → P (at 0 5) K0
    → P (at 0 6) R0 → P (at 0 7) E0 → P (at 0 8) O
    → P (at 1 0) B1 → P (at 1 1) RaisedRead → P (at 1 2) A1 → P (at 1 3) OtherWrite → P (at 1 4) K1 → P (at 1 5) E1 → P (at 1 6) O
    → (c : Place) (e : Entry) → EntryAt R c e → P c e
each P b f w c a k r e o b' r' a' w' k' e' o' =
    each_entry R P (b, (f, (w, (c, (a, (k, (r, (e, (o, tt))))))))) (b', (r', (a', (w', (k', (e', (o', tt))))))) tt none

-- what is in a list of one element is that element
pub only : {A : Type 0} (x y : A) → Contains (x ∷ []) y → x ≡ y
only x y (zero, lt, e) = e
only x y (suc k, lt, e) = absurd (omega arith)

-- an empty list has no member
pub nothing : {A : Type 0} {X : Type 0} (y : A) → Contains [] y → X
nothing y c = absurd (let lt = c.1 in omega arith)

-- which numbers the entries draw: the place of each number
abbrev pub spot : ℕ → ℕ → Place
spot x k =
    if x == 5 then (if k == 0 then at 0 2 else if k == 1 then at 1 1 else at 1 2)
    else if x == 6 then (if k == 0 then at 0 4 else if k == 1 then at 1 4 else if k == 2 then at 0 4 else at 0 5)
    else (if k == 0 then at 1 3 else at 0 6)

-- how many numbers of a variable were drawn
abbrev pub bound : ℕ → ℕ
bound x = if x == 5 then 4 else if x == 6 then 5 else if x == 8 then 2 else 0

-- a number of x that stands at c: its place, and that it is below the bound; and how far it is in its own list
abbrev pub Drawn : Place → ℕ → ℕ → Type 0
Drawn c x k = (c ≡ spot x k) × (k < bound x)

-- if the number of a plain access stands at c rightly, each number that it draws does
plain_draws : (c : Place) (y n : ℕ) (write : Bool) (v : ℤ) (raised : Bool) → Drawn c y n → (x k : ℕ)
    → Draws (Plain y n false write v raised) x k → Drawn c x k
plain_draws c y n write v raised here x k (inl d) = absurd d
plain_draws c y n write v raised here x k (inr d) = rw (sym d.1, sym d.2) here

-- an entry that draws nothing draws no wrong number
no_draw : (c : Place) (x k : ℕ) → ⊥ ⊎ ⊥ → Drawn c x k
no_draw c x k (inl d) = absurd d
no_draw c x k (inr d) = absurd d

-- the cached read draws no number
cached_draws : (c : Place) (x k : ℕ) → Draws C0 x k → Drawn c x k
cached_draws c x k (inl d) = absurd d
cached_draws c x k (inr d) = absurd (let z = d.0 in cc)

-- if the numbers of an attempt's one look and of its end, both on y, stand at c rightly, each number that it draws does
looks_draw : (c : Place) (y a b : ℕ) (v : ℤ) → Drawn c y a → Drawn c y b → (x k : ℕ)
    → ((value : ℤ) × Contains (look y v a ∷ []) (look x value k)) ⊎ Contains (number y b ∷ []) (number x k) → Drawn c x k
looks_draw c y a b v first second x k (inl d) = let e = only (look y v a) (look x d.0 k) d.1 in let ex : y ≡ x = ap (λ (l : Look). l.var) e
    in let ek : a ≡ k = ap (λ (l : Look). l.nth) e in rw (sym ex, sym ek) first
looks_draw c y a b v first second x k (inr d) = let e = only (number y b) (number x k) d in let ex : y ≡ x = ap (λ (l : Number). l.var) e
    in let ek : b ≡ k = ap (λ (l : Number). l.nth) e in rw (sym ex, sym ek) second

-- if number 1 of variable 6 stands at c rightly, each number that the writing commit draws does
write_draws : (c : Place) (x k : ℕ) → Drawn c 6 1 → Draws K1 x k → Drawn c x k
write_draws c x k here (inl d) = nothing (look x d.0 k) d.1
write_draws c x k here (inr d) = let e = only (number 6 1) (number x k) d in let ex : 6 ≡ x = ap (λ (l : Number). l.var) e in let ek : 1
    ≡ k = ap (λ (l : Number). l.nth) e in rw (sym ex, sym ek) here

-- each number that an entry draws is below the bound, and stands in its spot
pub drawn_at : (c : Place) (e : Entry) → EntryAt R c e → (x k : ℕ) → Draws e x k → Drawn c x k
drawn_at = each (λ c e. (x k : ℕ) → Draws e x k → Drawn c x k)
    (λ x k d. no_draw (at 0 0) x k d) (λ x k d. no_draw (at 0 1) x k d)
    (λ x k d. plain_draws (at 0 2) 5 0 true (pos 7) false (refl, omega arith) x k d) (λ x k d. cached_draws (at 0 3) x k d)
    (λ x k d. looks_draw (at 0 4) 6 0 2 (pos 0) (refl, omega arith) (refl, omega arith) x k d)
    (λ x k d. looks_draw (at 0 5) 6 3 4 (pos 3) (refl, omega arith) (refl, omega arith) x k d)
    (λ x k d. plain_draws (at 0 6) 8 1 false (pos 9) false (refl, omega arith) x k d) (λ x k d. no_draw (at 0 7) x k d)
    (λ x k d. no_draw (at 0 8) x k d)
    (λ x k d. no_draw (at 1 0) x k d) (λ x k d. plain_draws (at 1 1) 5 1 false (pos 0) true (refl, omega arith) x k d)
    (λ x k d. looks_draw (at 1 2) 5 2 3 (pos 7) (refl, omega arith) (refl, omega arith) x k d)
    (λ x k d. plain_draws (at 1 3) 8 0 true (pos 9) false (refl, omega arith) x k d)
    (λ x k d. write_draws (at 1 4) x k (refl, omega arith) d) (λ x k d. no_draw (at 1 5) x k d) (λ x k d. no_draw (at 1 6) x k d)
