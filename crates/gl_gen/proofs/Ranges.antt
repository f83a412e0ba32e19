-- Code that is made for one number after another, and functions whose code grows.
use Rattle.std.proofs.Common.{◌≡◌, ℕ, zero, suc, ◌+◌, ◌-◌, ◌<◌, ◌≤◌, List, [], ◌∷◌, ◌++◌, get_or, length, map, take, ap, sym, ◌∙◌, arith, add-one, append_assoc}
use Rattle.std.specs.List.{flat_map, range_with_len}
use Rattle.std.proofs.Math.Seq.{take-suc}
use Rattle.std.proofs.lemmas.List.{append-nil}
use Rattle.gl_bytecode.specs.declared.instr.Instr.{Instr}
use Rattle.gl_bytecode.specs.Programs.{Draft, Function, with_instr}
use Rattle.gl_bytecode.proofs.Drafts.{with_last-push}
use Rattle.gl_gen.specs.Bank.{plain_function}
use Rattle.gl_gen.specs.Drafts.{with_function}

-- one number more at the end
flat_more : {A : Type 0} (f : ℕ → List A) (a n : ℕ) → flat_map f (range_with_len a (suc n)) ≡ flat_map f (range_with_len a n) ++ f (a + n)
flat_more f a zero = (let e : a ≡ a + 0 = omega arith in append-nil (f a) ∙ ap f e)
flat_more f a (suc n) =
    let e : (a + 1) + n ≡ a + suc n = omega arith in
    let others = flat_map f (range_with_len (a + 1) n) in
    ap (λ l. f a ++ l) (flat_more f (a + 1) n) ∙ sym (append_assoc (f a) others (f ((a + 1) + n))) ∙ ap (λ k. (f a ++ others) ++ f k) e

-- what stood there, what the numbers below j gave, and what j gives
pub with_more : {A : Type 0} (f : ℕ → List A) (front : List A) (j : ℕ)
    → (front ++ flat_map f (range_with_len 0 j)) ++ f j ≡ front ++ flat_map f (range_with_len 0 (j + 1))
with_more f front j =
    let e : 0 + j ≡ j = omega arith in
    append_assoc front (flat_map f (range_with_len 0 j)) (f j)
    ∙ ap (λ l. front ++ l) (ap (λ k. flat_map f (range_with_len 0 j) ++ f k) (sym e) ∙ sym (flat_more f 0 j)
    ∙ ap (λ n. flat_map f (range_with_len 0 n)) (sym (add-one j)))

-- the same from 1 on
pub with_more_from_one : {A : Type 0} (f : ℕ → List A) (front : List A) (j : ℕ) → 1 ≤ j
    → (front ++ flat_map f (range_with_len 1 (j - 1))) ++ f j ≡ front ++ flat_map f (range_with_len 1 ((j + 1) - 1))
with_more_from_one f front j least =
    let e : 1 + (j - 1) ≡ j = omega arith in
    let s : suc (j - 1) ≡ (j + 1) - 1 = omega arith in
    append_assoc front (flat_map f (range_with_len 1 (j - 1))) (f j)
    ∙ ap (λ l. front ++ l)
    (ap (λ k. flat_map f (range_with_len 1 (j - 1)) ++ f k) (sym e) ∙ sym (flat_more f 1 (j - 1))
    ∙ ap (λ n. flat_map f (range_with_len 1 n)) s)

-- the things of one number more are the things before and that of the number
map_more : {A : Type 0} (f : ℕ → A) (a n : ℕ) → map f (range_with_len a (suc n)) ≡ map f (range_with_len a n) ++ f (a + n) ∷ []
map_more f a zero = (let e : a ≡ a + 0 = omega arith in ap (λ k. f k ∷ []) e)
map_more f a (suc n) =
    let e : (a + 1) + n ≡ a + suc n = omega arith in
    ap (λ l. f a ∷ l) (map_more f (a + 1) n ∙ ap (λ k. map f (range_with_len (a + 1) n) ++ f k ∷ []) e)

-- the same for one thing a number, behind a first one
pub map_with_more : {A : Type 0} (f : ℕ → A) (first : A) (j : ℕ)
    → (first ∷ map f (range_with_len 0 j)) ++ f j ∷ [] ≡ first ∷ map f (range_with_len 0 (j + 1))
map_with_more f first j =
    let e : 0 + j ≡ j = omega arith in
    ap (λ l. first ∷ l)
    (ap (λ k. map f (range_with_len 0 j) ++ f k ∷ []) (sym e) ∙ sym (map_more f 0 j)
    ∙ ap (λ n. map f (range_with_len 0 n)) (sym (add-one j)))

-- the function with one instruction more
pub instr_more : (args locals : ℕ) (D : Draft) (code : List Instr) (k : ℕ) (d : Instr) → k < length code
    → with_instr (get_or code k d) (with_function args locals (take k code) D) ≡ with_function args locals (take (k + 1) code) D
instr_more args locals D code k d within =
    let i = get_or code k d in
    ap (λ (Fs : List Function). record D { functions = Fs })
    (with_last-push (λ F. record F { code = F.code ++ i ∷ [] }) D.functions (plain_function args locals (take k code)))
    ∙ ap (λ c. with_function args locals c D) (sym (take-suc code k d within) ∙ ap (λ n. take n code) (sym (add-one k)))
