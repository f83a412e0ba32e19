-- Lists of parts, piece by piece and part by part.
use Rattle.std.proofs.Common.{◌≡◌, ◌+◌, ◌<◌, ◌==◌, ℕ, zero, suc, List, [], ◌∷◌, ◌++◌, true, false, Some, None, Result, Ok, Err, nat_lt, nat_le, length, take, drop, map, slice_index_or, refl, ap, sym, ◌∙◌, append_assoc, arith}
use Rattle.std.specs.List.{AllByRecursion, list_all, slice_split, position, before_first, after_first}
use Rattle.std.proofs.lemmas.Bool.{and_parts, ltb-true, ne_eqb, le-ltb}
use Rattle.std.proofs.lemmas.List.{take_more}
use Rattle.std.proofs.lemmas.List.Splits.{slice_split_first}
use Rattle.gl_model.specs.Rising.{with_one, with_part}
use Rattle.gl_model.specs.declared.limits.TheConstants.{TX_VARIABLES}
use Rattle.gl_text.proofs.TextLemmas.{place_some, place_none, split_none}
use Rattle.gl_journal.specs.declared.parts.Part.{Part}
use Rattle.gl_journal.specs.Fields.{◌>>=◌}
use Rattle.gl_journal.specs.Parts.{is_byte, is_set, rises}
use Rattle.gl_journal.specs.Transactions.{vars_of}

-- ## Pieces

-- bytes with a separator are split into those before the first one, and those after it split
pub first_split : (separator : ℕ) (bs front back : List ℕ) (n : ℕ) → position (is_byte separator) bs ≡ Some n → front ≡ take n bs → back
    ≡ drop (n + 1) bs
    → slice_split (is_byte separator) bs ≡ front ∷ slice_split (is_byte separator) back
first_split separator bs front back n found f b =
    let (at, within) = place_some (is_byte separator) bs n found in
    let same_front : before_first (is_byte separator) bs ≡ front = ap (λ k. take k bs) at ∙ sym f in
    let same_back : after_first (is_byte separator) bs ≡ back = ap (λ k. drop (k + 1) bs) at ∙ sym b in
    slice_split_first (is_byte separator) bs 0 (omega arith)
    ∙ ap (λ l. l ∷ slice_split (is_byte separator) (after_first (is_byte separator) bs)) same_front
    ∙ ap (λ l. front ∷ slice_split (is_byte separator) l) same_back

-- bytes without a separator are one piece
pub last_split : (separator : ℕ) (bs : List ℕ) → position (is_byte separator) bs ≡ None → slice_split (is_byte separator) bs ≡ bs ∷ []
last_split separator bs none = split_none (is_byte separator) bs (place_none (is_byte separator) bs none)

-- ## Parts that are read

-- these parts, and then those
abbrev pub behind : List Part → Result (List Part) ℕ → Result (List Part) ℕ
behind ps (Ok more) = Ok (ps ++ more)
behind ps (Err kind) = Err kind

-- parts after none are the parts
pub behind_nothing : (r : Result (List Part) ℕ) → behind [] r ≡ r
behind_nothing (Ok ps) = refl
behind_nothing (Err kind) = refl

-- one part read first among the rest is one part more before the rest
one_more : (ps : List Part) (p : Part) (r : Result (List Part) ℕ) → behind ps (r >>= (λ more. Ok (p ∷ more))) ≡ behind (ps ++ p ∷ []) r
one_more ps p (Ok more) = ap Ok (sym (append_assoc ps (p ∷ []) more))
one_more ps p (Err kind) = refl

-- what holds of all and of one part more holds of all with it
pub all_push : (P : Part → Type 0) (ps : List Part) (p : Part) → AllByRecursion P ps → P p → AllByRecursion P (ps ++ p ∷ [])
all_push P [] p all last = (last, tt)
all_push P (q ∷ ps) p all last = (all.0, all_push P ps p all.1 last)

-- ## Parts that are put in their places

-- a set of parts rises
pub set_rises : (ps : List Part) → is_set ps ≡ true → rises ps ≡ true
set_rises ps set = (and_parts (nat_le (length ps) TX_VARIABLES) (rises ps) set).1

-- a variable that is below all is below each
above : (x : ℕ) (qs : List Part) (j : ℕ) (d : Part) → list_all (λ q. nat_lt x q.var) qs ≡ true → j < length qs
    → x < (slice_index_or qs j d).var
above x [] j d all i = absurd (omega arith)
above x (q ∷ qs) zero d all i = ltb-true x q.var (and_parts (nat_lt x q.var) (list_all (λ r. nat_lt x r.var) qs) all).0
above x (q ∷ qs) (suc j) d all i = above x qs j d (and_parts (nat_lt x q.var) (list_all (λ r. nat_lt x r.var) qs) all).1 (omega arith)

-- where parts rise, those before the one at k have lesser variables
before : (ps : List Part) (k : ℕ) (d : Part) → rises ps ≡ true → k < length ps
    → AllByRecursion (λ p. p.var < (slice_index_or ps k d).var) (take k ps)
before [] k d up h = absurd (omega arith)
before (p ∷ ps) zero d up h = tt
before (p ∷ ps) (suc k) d up h =
    let both = and_parts (list_all (λ q. nat_lt p.var q.var) ps) (rises ps) up in
    (above p.var ps k d both.0 (omega arith), before ps k d both.1 (omega arith))

-- a part with a greater variable than all comes to the end
part_last : {A : Type 0} (key : A → ℕ) (f : Part → A) → ((p : Part) → key (f p) ≡ p.var) → (n : Part) (ps : List Part)
    → AllByRecursion (λ p. p.var < n.var) ps
    → with_part key (f n) (map f ps) ≡ map f (ps ++ n ∷ [])
part_last key f tells n [] all = refl
part_last key f tells n (p ∷ ps) all =
    let apart : key (f n) == key (f p) ≡ false = ne_eqb (key (f n)) (key (f p)) (λ h. omega (arith, all.0, tells n, tells p)) in
    let over : nat_lt (key (f n)) (key (f p)) ≡ false = le-ltb (key (f n)) (key (f p)) (omega (arith, all.0, tells n, tells p)) in
    rw (apart, over) (ap (λ l. f p ∷ l) (part_last key f tells n ps all.1))

-- the next part of a list that rises comes to the end of those before it
pub part_next : {A : Type 0} (key : A → ℕ) (f : Part → A) → ((p : Part) → key (f p) ≡ p.var) → (ps : List Part) (k : ℕ) (d : Part)
    → rises ps ≡ true → k < length ps
    → with_part key (f (slice_index_or ps k d)) (map f (take k ps)) ≡ map f (take (k + 1) ps)
part_next key f tells ps k d up h =
    part_last key f tells (slice_index_or ps k d) (take k ps) (before ps k d up h) ∙ ap (map f) (sym (take_more ps k d h))

-- ## Variables that are put in their places

-- the greatest one goes last
var_last : (n : Part) (ps : List Part) → AllByRecursion (λ p. p.var < n.var) ps → with_one n.var (vars_of ps) ≡ vars_of (ps ++ n ∷ [])
var_last n [] all = refl
var_last n (p ∷ ps) all =
    let apart : n.var == p.var ≡ false = ne_eqb n.var p.var (λ h. omega (arith, all.0)) in
    let over : nat_lt n.var p.var ≡ false = le-ltb n.var p.var (omega (arith, all.0)) in
    rw (apart, over) (ap (λ l. p.var ∷ l) (var_last n ps all.1))

-- the next one of parts that rise goes behind those before it
pub var_next : (ps : List Part) (k : ℕ) (d : Part) → rises ps ≡ true → k < length ps
    → with_one (slice_index_or ps k d).var (vars_of (take k ps)) ≡ vars_of (take (k + 1) ps)
var_next ps k d up h = var_last (slice_index_or ps k d) (take k ps) (before ps k d up h) ∙ ap vars_of (sym (take_more ps k d h))
