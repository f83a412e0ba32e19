-- A list with its last function changed.
use Rattle.std.proofs.Common.{◌≡◌, ℕ, suc, ◌-◌, ◌<◌, List, [], ◌∷◌, ◌++◌, length, OnOk, refl, ◌∙◌, ap, arith}
use Rattle.std.specs.Prelude.{slice_set, slice_index_or, Result, Ok, Err}
use Rattle.gl_bytecode.specs.Programs.{Function, with_last}

-- writing a changed last function at the last place is changing the last function
pub set_last :
    (change : Function → Function) (Fs : List Function) (d : Function) → 0 < length Fs →
    slice_set Fs (length Fs - 1) (change (slice_index_or Fs (length Fs - 1) d)) ≡ with_last change Fs
set_last change [] d some = absurd (omega arith)
set_last change (F ∷ []) d some = refl
set_last change (F ∷ G ∷ Fs) d some =
    let more = set_last change (G ∷ Fs) d (omega arith) in
    let last : length (F ∷ G ∷ Fs) - 1 ≡ suc (length (G ∷ Fs) - 1) = omega arith in
    rw last (ap (λ Hs. F ∷ Hs) more)

-- of a list with a function added, the one that was added is changed as the last
pub with_last-push : (change : Function → Function) (Fs : List Function) (F : Function) → with_last change (Fs ++ F ∷ []) ≡ Fs ++ change F
    ∷ []
with_last-push change [] F = refl
with_last-push change (G ∷ []) F = refl
with_last-push change (G ∷ H ∷ Fs) F = ap (λ Is. G ∷ Is) (with_last-push change (H ∷ Fs) F)

-- writing a changed function at the last place is changing the last function
pub written_last :
    (change : Function → Function) (Fs : List Function) (n : ℕ) (old new : Function) → n ≡ length Fs → 0 < length Fs →
    old ≡ slice_index_or Fs (n - 1) old → new ≡ change old → slice_set Fs (n - 1) new ≡ with_last change Fs
written_last change Fs n old new many some was is =
    let new_is : new ≡ change (slice_index_or Fs (length Fs - 1) old) = is
    ∙ ap change (was ∙ ap (λ k. slice_index_or Fs (k - 1) old) many) in
    rw (many, new_is) (set_last change Fs old some)

-- what follows from what holds of a success holds of it
pub on_ok_then : {T E : Type 0} (r : Result T E) (P Q : Type 0) → OnOk r P → (P → Q) → OnOk r Q
on_ok_then (Ok x) P Q p then = then p
on_ok_then (Err e) P Q p then = tt

-- changing the last function leaves as many functions as there were
pub length_with_last : (change : Function → Function) (Fs : List Function) → length (with_last change Fs) ≡ length Fs
length_with_last change [] = refl
length_with_last change (F ∷ []) = refl
length_with_last change (F ∷ G ∷ Fs) = ap suc (length_with_last change (G ∷ Fs))
