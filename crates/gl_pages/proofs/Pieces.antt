-- The text of a list, piece by piece; and the text of a program within that of an audit.
use Rattle.std.proofs.Common.{◌≡◌, ℕ, ℤ, zero, suc, ◌+◌, List, [], ◌∷◌, ◌++◌, Some, take, refl, sym, ◌∙◌, ap, subst, arith}
use Rattle.std.specs.Prelude.{slice_get}
use Rattle.std.specs.List.{flat_map}
use Rattle.gl_asm.specs.Texts.{IsText}
use Rattle.gl_audited.specs.Cut.{IsProgramText}
use Rattle.gl_audited.specs.Meaning.{IsAuditText}
use Rattle.gl_audited.proofs.CutLines.{one_cut}
use Rattle.gl_bytecode.specs.Programs.{Bytecode}
use Rattle.gl_model.specs.Entries.{Entry}

-- a list and nothing after it are that list
append_none : {A : Type 0} (xs : List A) → xs ++ [] ≡ xs
append_none [] = refl
append_none (x ∷ xs) = ap (λ l. x ∷ l) (append_none xs)

-- three lists are the same however they are put together
append_three : {A : Type 0} (xs ys zs : List A) → (xs ++ ys) ++ zs ≡ xs ++ (ys ++ zs)
append_three [] ys zs = refl
append_three (x ∷ xs) ys zs = ap (λ l. x ∷ l) (append_three xs ys zs)

-- the texts of the elements before a place, and that of the one at it, are the texts before the next place
flat_more : {A : Type 0} (f : A → List ℕ) (xs : List A) (n : ℕ) (x : A) → slice_get xs n ≡ Some x
    → flat_map f (take n xs) ++ f x ≡ flat_map f (take (n + 1) xs)
flat_more f [] n x there = absurd (cc)
flat_more f (a ∷ xs) zero x there = (let same : a ≡ x = cc in ap f (sym same) ∙ sym (append_none (f a)))
flat_more f (a ∷ xs) (suc n) x there =
    append_three (f a) (flat_map f (take n xs)) (f x) ∙ ap (λ l. f a ++ l) (flat_more f xs n x there)
    ∙ (let same : suc (n + 1) ≡ suc n + 1 = omega arith in ap (λ m. flat_map f (take m (a ∷ xs))) same)

-- one piece more behind those so far
pub one_piece : {A : Type 0} (f : A → List ℕ) (xs : List A) (n : ℕ) (x : A) (front before after : List ℕ) → slice_get xs n ≡ Some x
    → before ≡ front ++ flat_map f (take n xs) → after ≡ before ++ f x → after ≡ front ++ flat_map f (take (n + 1) xs)
one_piece f xs n x front before after there so_far more =
    more ∙ ap (λ l. l ++ f x) so_far ∙ append_three front (flat_map f (take n xs)) (f x) ∙ ap (λ l. front ++ l) (flat_more f xs n x there)

-- the text of the program in the text of an audit says its program
pub says_program : (input part : List ℕ) (P : Bytecode) (inputs : List ℤ) (steps : ℕ) (R : List (ℕ × List Entry))
    → IsAuditText input P inputs steps R → IsProgramText input part → IsText part P inputs
says_program input part P inputs steps R meaning is =
    let same : meaning.at ≡ is.0 = one_cut input meaning.at is.0 meaning.cut is.1 in
    subst (λ t. IsText t P inputs) (ap (λ n. take n input) same ∙ sym is.2) meaning.program_is
