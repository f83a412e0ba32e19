-- What each command answers for a text that is too long.
use Rattle.std.proofs.Common.{arith, ◌≡◌, ◌<◌, ℕ, List, [], true, Option, None, Some, Result, Ok, Err, IfOk, IfSome, length, inl, inr, refl, sym, subst, nat_lt}
use Rattle.std.proofs.lemmas.Bool.{lt-ltb}
use Rattle.std.specs.Prelude.{◌⊎◌, MatchResult}
use Rattle.std.specs.Result.{is_ok}
use Rattle.std.specs.Io.KnownBytes.{Consumes}
use Rattle.std.proofs.KnownBytes.{Appends-nil}
use Rattle.gl_asm.specs.declared.limits.TheConstants.{LONGEST}
use Rattle.gl_asm.specs.Texts.{text_read}
use Rattle.gl_audited.specs.declared.limits.TheConstants.{AUDIT_BYTES}
use Rattle.gl_trace.specs.declared.limits.TheConstants.{TRACE_BYTES}
use Rattle.gl_text.specs.declared.kinds.TheConstants.{TOO_LONG}
use Rattle.gl_io.specs.Whole.{IsTaken}
use Rattle.gl_run.specs.Replies.{RepliesTo}
use Rattle.gl_run.specs.Command.{IsWhole, Serves}
use Rattle.gl_run.specs.Loads.{AnswersLoad}
use Rattle.gl_run.specs.Output.{refusal, usage}
use Rattle.gl_run.specs.Texts.{AnswersText, AnswersLonger}
use Rattle.gl_run.specs.Words.{most_of}
use Rattle.gl_run.specs.declared.keep.Keep.{Keep}
use Rattle.gl_run.specs.declared.options.LoadOptions.{LoadOptions}
use Rattle.gl_run.specs.declared.page.Page.{Page}
use Rattle.gl_run.specs.declared.status.TheConstants.{NO_COMMAND, READ_FAILED, WRITE_FAILED, REFUSED, NO_MEMORY}
use Rattle.gl_run.specs.declared.words.Command.{Command}
use Rattle.gl_run.specs.declared.words.Command.TheVariants as commands

-- numbers that are equal as options are equal
some_number : (m n : ℕ) → Some m ≡ Some n → m ≡ n
some_number m n e = cc

-- a text that is longer than the longest is read as too long
read_longer : (text : List ℕ) → LONGEST < length text → text_read text ≡ Err (0, TOO_LONG)
unfolding text_read
read_longer text long = let over : nat_lt LONGEST (length text) ≡ true = lt-ltb LONGEST (length text) long in rw over refl

-- what a program of too many bytes is refused for
too_long : (input : List ℕ) (most : ℕ) → Some LONGEST ≡ Some most → most < length input → text_read input ≡ Err (0, TOO_LONG)
too_long input most is long = read_longer input (subst (λ m. m < length input) (sym (some_number LONGEST most is)) long)

-- a command answers a text that is longer than its most with the refusal that it is too long
refused_longer : (keep : Keep) (command : Command) (input : List ℕ) (most : ℕ) → most_of (Some command) ≡ Some most → most < length input
    → AnswersText keep command input REFUSED (refusal 0 TOO_LONG) None
refused_longer keep commands.Check input most is long =
    let over : TRACE_BYTES < length input = subst (λ m. m < length input) (sym (some_number TRACE_BYTES most is)) long in
    inr (record { line = 0; kind = TOO_LONG; fault = inl (over, refl, refl); status_is = refl; bytes_are = refl; kept_is = refl })
refused_longer keep commands.List input most is long =
    inr (record {
      line = 0;
      kind = TOO_LONG;
      fault = inl (too_long input most is long);
      status_is = refl;
      bytes_are = refl;
      kept_is = refl;
    })
refused_longer keep (commands.Run options) input most is long =
    inr (record {
      line = 0;
      kind = TOO_LONG;
      fault = inl (too_long input most is long);
      status_is = refl;
      bytes_are = refl;
      kept_is = refl;
    })
refused_longer keep (commands.Load load) input most is long = absurd (cc is)
refused_longer keep commands.Audit input most is long =
    let over : AUDIT_BYTES < length input = subst (λ m. m < length input) (sym (some_number AUDIT_BYTES most is)) long in
    let fault = inl (record { long = over; line_is = refl; kind_is = refl }) in
    inr (record { line = 0; kind = TOO_LONG; fault = fault; status_is = refl; bytes_are = refl; kept_is = refl })

-- a page that refuses a text as too long, and keeps nothing, answers a longer text
pub longer : {E : Type 0} (command : Command) (r : Result Page E) → IfOk r (λ p. p.status ≡ REFUSED)
    → IfOk r (λ p. p.text.items ≡ refusal 0 TOO_LONG) → IfOk r (λ p. p.kept ≡ None)
    → IfOk r (λ p. AnswersLonger command p.status p.text.items p.kept)
longer command (Ok p) status text kept = λ keep input most is long.
    subst (λ s. AnswersText keep command input s p.text.items p.kept) (sym status)
    (subst (λ b. AnswersText keep command input REFUSED b p.kept) (sym text)
    (subst (AnswersText keep command input REFUSED (refusal 0 TOO_LONG)) (sym kept) (refused_longer keep command input most is long)))
longer command (Err e) status text kept = tt

-- what holds of an answer holds of it with its error mapped
pub mapped : {T E F : Type 0} (P : T → Type 0) (Q : E → Type 0) (r : Result T E) (m : Result T F) → MatchResult r (λ x. m ≡ Ok x) Q
    → is_ok m ≡ is_ok r → IfOk r P → IfOk m P
mapped P Q (Ok x) m is same holds = subst (λ o. IfOk o P) (sym is) holds
mapped P Q (Err e) (Ok x) is same holds = absurd (cc same)
mapped P Q (Err e) (Err f) is same holds = tt

-- some input that is all of what is left, where that is told, and begins with these bytes or is them
some_longer : (left now : Option (List ℕ)) (bytes : List ℕ) (most : ℕ) → most < length bytes → Consumes left now bytes
    → IfSome left (λ xs. most < length xs)
    → (input : List ℕ) × IsTaken left input × (most < length input)
some_longer None now bytes most over taken long = (bytes, tt, over)
some_longer (Some xs) now bytes most over taken long = (xs, refl, long)

-- what is written for a text that is too long
pub long_reply : (keep : Keep) (asked : Option Command) (command : Command) (most : ℕ) (left now : Option (List ℕ)) (bytes : List ℕ)
    (p : Page) → asked ≡ Some command
    → most_of (Some command) ≡ Some most → most < length bytes → Consumes left now bytes → IfSome left (λ xs. most < length xs)
    → AnswersLonger command p.status p.text.items p.kept → RepliesTo keep asked left p
long_reply keep asked command most left now bytes p is reads over taken long answer =
    let some = some_longer left now bytes most over taken long in
    record {
      input = some.0;
      all = some.1;
      reply = inr (record { command = command; is = is; answer = answer keep some.0 most reads some.2 });
    }

-- some input that is all of what is left, where that is told
pub some_input : (left : Option (List ℕ)) → (input : List ℕ) × IsTaken left input
some_input None = ([], tt)
some_input (Some xs) = (xs, refl)

-- what words that are no command are answered
pub usage_reply : {E : Type 0} (keep : Keep) (asked : Option Command) (left : Option (List ℕ)) (r : Result Page E) → asked ≡ None
    → IfOk r (λ p. p.status ≡ NO_COMMAND)
    → IfOk r (λ p. p.text.items ≡ usage) → IfOk r (λ p. p.kept ≡ None) → IfOk r (RepliesTo keep asked left)
usage_reply keep asked left (Ok p) none status text kept =
    let some = some_input left in
    record { input = some.0; all = some.1; reply = inl (record { nothing = none; status_is = status; bytes_are = text; kept_is = kept }) }
usage_reply keep asked left (Err e) none status text kept = tt

-- what a load is answered is so whatever the input is
pub load_page : {E : Type 0} (load : LoadOptions) (keep : Keep) (left : Option (List ℕ)) (r : Result Page E)
    → IfOk r (λ p. AnswersLoad load p.status p.text.items p.kept) → IfOk r (RepliesTo keep (Some (commands.Load load)) left)
load_page load keep left (Ok p) answer =
    let some = some_input left in
    record { input = some.0; all = some.1; reply = inr (record { command = commands.Load load; is = refl; answer = answer }) }
load_page load keep left (Err e) answer = tt

-- where nothing was read, or memory ran out, nothing is written
pub stopped : (keep : Keep) (asked : Option Command) (left : Option (List ℕ)) (status : ℕ) (now : Option (List ℕ)) → (status ≡ READ_FAILED)
    ⊎ (status ≡ NO_MEMORY)
    → Serves keep asked left status None now now
stopped keep asked left status now stop =
    let some = some_input left in
    record {
      input = some.0;
      all = some.1;
      written = record {
        whole = λ whole. absurd (not_whole status stop whole);
        part = λ part. absurd (not_part status stop part);
        nothing = λ nothing. (Appends-nil now, refl);
        other = elim stop [ inl read ↦ inr (inl read) | inr memory ↦ inr (inr (inr memory)) ];
      };
    }
  where
    not_whole : (status : ℕ) → (status ≡ READ_FAILED) ⊎ (status ≡ NO_MEMORY) → IsWhole status → ⊥
    not_whole status stop whole = grind arith

    not_part : (status : ℕ) → (status ≡ READ_FAILED) ⊎ (status ≡ NO_MEMORY) → status ≡ WRITE_FAILED → ⊥
    not_part status stop part = grind arith
