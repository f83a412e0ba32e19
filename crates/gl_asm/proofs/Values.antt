-- The values of words, one more at a time.
use Rattle.std.proofs.Common.{◌≡◌, ℕ, ℤ, List, [], ◌∷◌, ◌++◌, Ok, Err, refl, ap, sym, ◌∙◌, append_assoc, ◌+◌, ◌≤◌, length, not, is_some, true, false, Some, arith, add-one, inl, inr, slice_get}
use Rattle.std.proofs.lemmas.Option.{slice_get_cases}
use Rattle.std.specs.Prelude.{Result}
use Rattle.gl_asm.specs.Additions.{Word, rest_of, ◌>>=◌}

-- these values, and then those
abbrev pub behind : List ℤ → Result (List ℤ) ℕ → Result (List ℤ) ℕ
behind zs (Ok more) = Ok (zs ++ more)
behind zs (Err kind) = Err kind

-- values after none are those values
pub behind_nothing : (r : Result (List ℤ) ℕ) → behind [] r ≡ r
behind_nothing (Ok zs) = refl
behind_nothing (Err kind) = refl

-- a value read and then put before the others is one more at the end of those that came before
one_more : (zs : List ℤ) (z : ℤ) (r : Result (List ℤ) ℕ) → behind zs (r >>= (λ more. Ok (z ∷ more))) ≡ behind (zs ++ z ∷ []) r
one_more zs z (Ok more) = ap Ok (sym (append_assoc zs (z ∷ []) more))
one_more zs z (Err kind) = refl

-- where the word behind the room is not there, the others are within it
pub in_room : (ws : List Word) (k : ℕ) → not (is_some (slice_get ws (k + 1))) ≡ true → length (rest_of ws) ≤ k
in_room [] k none = omega arith
in_room (w ∷ ws) k none =
    elim (slice_get_cases ws k).1 [
      | inl some ↦
          let there : slice_get (w ∷ ws) (k + 1) ≡ Some some.0 = ap (slice_get (w ∷ ws)) (add-one k) ∙ some.2 in
          let wrong : not (is_some (slice_get (w ∷ ws) (k + 1))) ≡ false = rw there refl in
          cc
      | inr past ↦ past.0
    ]
