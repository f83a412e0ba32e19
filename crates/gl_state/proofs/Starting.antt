-- The state before any event is that of the machine.
use Rattle.std.proofs.Common.{◌≡◌, ℕ, zero, suc, List, replicate, refl, sym, arith, ap, ◌∙◌}
use Rattle.std.specs.Prelude.{pos, slice_index_or, None, Option}
use Rattle.gl_model.specs.Machine.{Setting, start, NeverForked, Forked}
use Rattle.gl_draws.proofs.DrawTies.{with_else}
use Rattle.gl_state.specs.declared.state.Stage.TheVariants as stage
use Rattle.gl_state.specs.Starting.{first_state}
use Rattle.gl_state.specs.States.{IsStateOf, thread_state, monitor_state}

-- a list of one element repeated has that element at each place
same_anywhere : {A : Type 0} (n i : ℕ) (x : A) → slice_index_or (replicate n x) i x ≡ x
same_anywhere zero i x = refl
same_anywhere (suc n) zero x = refl
same_anywhere (suc n) (suc i) x = same_anywhere n i x

-- a list of n monitors that nobody owns
abbrev pub none_list : ℕ → List (Option (ℕ × ℕ))
none_list n = replicate n None

-- the state that the list begins with is the machine's at the start
pub first_is : (setting : Setting) (main : ℕ) → setting.main ≡ main → IsStateOf (first_state main) (start setting)
first_is setting main same = record {
  threads = threads;
  monitors = λ o. ap monitor_state (sym (none_anywhere 256 o));
  volatiles = λ v. sym (same_anywhere 256 v (pos 0));
  next_object = refl;
  next_variable = refl;
  next_volatile = refl;
  inputs_taken = refl;
}
  where
    none_anywhere : (n o : ℕ) → slice_index_or (none_list n) o None ≡ None
    none_anywhere zero o = refl
    none_anywhere (suc n) zero = refl
    none_anywhere (suc n) (suc o) = none_anywhere n o

    threads : (t : ℕ) → (start setting).threads t ≡ thread_state (slice_index_or (first_state main).threads t stage.Never)
    threads zero = ap (λ m. Forked m (pos 0)) same
    threads (suc t) = with_else (λ _. NeverForked) 0 (suc t) (Forked setting.main (pos 0)) (λ e. absurd (omega arith))
        ∙ ap thread_state (sym (same_anywhere 15 t stage.Never))
