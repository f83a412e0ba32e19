-- The variables of a commit.
use Rattle.std.proofs.Common.{◌≡◌, ℕ, List, Bool, true, false, refl, sym, ◌∙◌, inl, inr}
use Rattle.std.specs.Prelude.{◌⊎◌, ◌↔◌, Contains, if◌then◌else◌}
use Rattle.gl_model.specs.Rising.{with_all}
use Rattle.gl_model.specs.Trace.{is_in}
use Rattle.gl_draws.proofs.EntryKinds.{is_in-contains, contains-is_in}
use Rattle.gl_lines.proofs.LineSets.{is_in-touches}

-- a choice with a test that is one of two is true exactly where one of them is
by_sets : (a b c : Bool) → c ≡ (if a then true else b) → (c ≡ true) ↔ ((a ≡ true) ⊎ (b ≡ true))
by_sets true b c e = (λ t. inl refl, λ w. e)
by_sets false b c e = (λ t. inr (sym e ∙ t), λ w. elim w [ inl t ↦ absurd (cc) | inr t ↦ e ∙ t ])

-- a variable is in a commit's set exactly where it is among its reads or its writes
pub in_either : (reads writes : List ℕ) (x : ℕ) → Contains (with_all writes reads) x ↔ (Contains reads x ⊎ Contains writes x)
in_either reads writes x =
    let s = by_sets (is_in x reads) (is_in x writes) (is_in x (with_all writes reads)) (is_in-touches reads writes x) in (
      λ c. elim (s.0 (contains-is_in x (with_all writes reads) c)) [
        | inl t ↦ inl (is_in-contains x reads t)
        | inr t ↦ inr (is_in-contains x writes t)
      ],
      λ w. is_in-contains x (with_all writes reads)
          (s.1 (elim w [ inl c ↦ inl (contains-is_in x reads c) | inr c ↦ inr (contains-is_in x writes c) ])),
    )
