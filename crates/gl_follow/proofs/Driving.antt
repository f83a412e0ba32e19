-- What the exchanges of a machine in memory come to.
use Rattle.std.proofs.Common.{◌≡◌, ℕ, ℤ, ◌<◌, ◌||◌, true, false, not, nat_lt, Option, Some, None, refl, sym, ap, ◌∙◌, is_some, rules}
use Rattle.gl_model.specs.declared.limits.TheConstants.{TX_VARIABLES}
use Rattle.gl_bytecode.specs.declared.ask.Ask.{Ask}
use Rattle.gl_bytecode.specs.declared.ask.Ask.TheVariants.{Read, Write}
use Rattle.gl_bytecode.specs.declared.ask.Reply.{Reply}
use Rattle.gl_bytecode.specs.declared.ask.Reply.TheVariants.{Go as Gone, Value}
use Rattle.gl_bytecode.specs.Machine.{Attempt, ask_of, next, takes}
use Rattle.gl_bytecode.specs.Programs.{Bytecode}
use Rattle.gl_bytecode.specs.Runs.{Quiet, Progress, is_quiet, is_word, knows, replied, told_one, touched, when, word_of}
use Rattle.gl_vm.specs.Orderly.{IsOrderly}
use Rattle.gl_vm.proofs.Work.{step_falls}
use Rattle.gl_follow.specs.Steps.{HasRoomFor}
use Rattle.gl_follow.proofs.Quiet.{not_known}

-- a reply that is quiet is told as it is
pub told_quietly : (P : Bytecode) (p q : Progress) (reply : Reply) → is_quiet p.config.attempt p (ask_of p.config.stage) reply ≡ true
    → replied P p (Some reply) ≡ Some q → told_one P (Quiet reply) p ≡ Some q
told_quietly P p q reply quiet told = ap (λ b. replied P p (when b reply)) quiet ∙ told

-- a number that passes the test for room is below TX_VARIABLES
below : (n : ℕ) → nat_lt n TX_VARIABLES ≡ true → n < TX_VARIABLES
below n is = search (rules, is)

-- what a quiet reply looks at or writes has room
pub quiet_room : (p : Progress) (ask : Ask) (reply : Reply) → is_quiet p.config.attempt p ask reply ≡ true → HasRoomFor p ask reply
quiet_room p ask reply quiet = record { look = look; write = write } where
  look : (x : ℕ) (a : ℤ) → ask ≡ Read x → reply ≡ Value a → is_some p.config.attempt ≡ true → knows p x ≡ false → touched p < TX_VARIABLES
  look x a asks is lives not = by_attempt p.config.attempt refl where
    by_attempt : (o : Option Attempt) → p.config.attempt ≡ o → touched p < TX_VARIABLES
    by_attempt None none = absurd (let e : is_some p.config.attempt ≡ false = ap is_some none in cc)
    by_attempt (Some b) some =
        let same : is_quiet p.config.attempt p ask reply ≡ is_quiet (Some b) p (Read x) (Value a) =
        ap (λ o. is_quiet o p ask reply) some ∙ ap (λ k. is_quiet (Some b) p k reply) asks ∙ ap (is_quiet (Some b) p (Read x)) is in
        let word : is_word None (nat_lt (touched p) TX_VARIABLES) a ≡ true =
        ap (λ k. is_word k (nat_lt (touched p) TX_VARIABLES) a) (sym (not_known (word_of p.writes x) (word_of p.looks x) not)) ∙ sym same
        ∙ quiet in
        below (touched p) word

  write : (x : ℕ) (a : ℤ) → ask ≡ Write x a → reply ≡ Gone → is_some p.config.attempt ≡ true
      → (knows p x || nat_lt (touched p) TX_VARIABLES) ≡ true
  write x a asks is lives = by_attempt p.config.attempt refl where
    by_attempt : (o : Option Attempt) → p.config.attempt ≡ o → (knows p x || nat_lt (touched p) TX_VARIABLES) ≡ true
    by_attempt None none = absurd (let e : is_some p.config.attempt ≡ false = ap is_some none in cc)
    by_attempt (Some b) some =
        let same : is_quiet p.config.attempt p ask reply ≡ is_quiet (Some b) p (Write x a) Gone =
        ap (λ o. is_quiet o p ask reply) some ∙ ap (λ k. is_quiet (Some b) p k reply) asks ∙ ap (is_quiet (Some b) p (Write x a)) is in
        sym same ∙ quiet

-- a reply that is taken leaves the machine orderly
pub orderly_next : (P : Bytecode) (p : Progress) (reply : Reply) → IsOrderly P p.config → takes p.config reply ≡ true
    → IsOrderly P (next P p.config reply)
orderly_next P p reply orderly taken = (step_falls P p.config reply orderly taken).orderly
