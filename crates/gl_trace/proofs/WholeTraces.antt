-- What the lines of a text without a fault are: each says a step that a trace can have, and none has a fault behind those before it.
use Rattle.std.proofs.Common.{◌≡◌, ◌+◌, ◌-◌, ◌<◌, ◌≤◌, ℕ, ℤ, pos, negsuc, zero, suc, List, [], ◌∷◌, ◌++◌, Bool, true, false, Option, Some, None, Result, Ok, Err, if◌then◌else◌, nat_lt, length, take, get_or, ap, sym, subst, ◌∙◌, refl, arith, append-nil, IfSome, IfOk, All}
use Rattle.std.specs.Prelude.{not, int_lt, ◌&&◌, option_and_then}
use Rattle.std.specs.Str.Lines.{lines}
use Rattle.std.proofs.lemmas.Bool.{ltb-false}
use Rattle.std.proofs.lemmas.List.{take_more, take_all, length-take-le, map-append}
use Rattle.std.proofs.lemmas.List.Elements.{All-push}
use Rattle.gl_model.specs.declared.limits.TheConstants.{THREADS}
use Rattle.gl_model.specs.TraceSteps.{Step, IsStep, IsLineItem, AreClean}
use Rattle.gl_text.specs.Number.{signed_of}
use Rattle.gl_text.specs.Text.{is_bad, words}
use Rattle.gl_text.specs.declared.kinds.TheConstants.{BAD_BYTE, TOO_MANY_LINES}
use Rattle.gl_trace.specs.declared.form.Form.{Form}
use Rattle.gl_trace.specs.declared.form.Form.TheVariants.{One, Commit}
use Rattle.gl_trace.specs.declared.form.Verb.{Verb}
use Rattle.gl_trace.specs.declared.form.Verb.TheVariants as verbs
use Rattle.gl_trace.specs.declared.limits.TheConstants.{TRACE_LINES}
use Rattle.gl_trace.specs.Form.{form_of, most_of, item_of}
use Rattle.gl_trace.specs.Ids.{not_negative, operand_of, set_of}
use Rattle.gl_trace.specs.Phrase.{◌>>=◌, first_of, only_of, rest_of, verb_said, lists_of, commit_item, commit_said, form_said, step_said, as_some, said}
use Rattle.gl_trace.specs.Trace.{IsTrace, fault_at, lines_from, made, said_fault}
use Rattle.gl_trace.specs.TraceLine.{TraceLine, step_of, steps_of}
use Rattle.gl_trace.proofs.TraceLemmas.{chosen, clean_push, lines_from-push}

-- a chain ends well where each way through it does
then_ok : {A B E : Type 0} (P : B → Type 0) (r : Result A E) (f : A → Result B E) → ((x : A) → IfOk (f x) P) → IfOk (r >>= f) P
then_ok P (Ok x) f each = each x
then_ok P (Err e) f each = tt

-- what holds of a second success holds of both after one another, where the first has what it needs
then_ok_with : {A B E : Type 0} (Q : A → Type 0) (P : B → Type 0) (r : Result A E) (f : A → Result B E) → IfOk r Q
    → ((x : A) → Q x → IfOk (f x) P) → IfOk (r >>= f) P
then_ok_with Q P (Ok x) f is each = each x is
then_ok_with Q P (Err e) f is each = tt

-- ## What a line says is in range

-- a number that is read between 0 and the greatest is at most that
number_within : (most n : ℕ) → IfOk (not_negative (if not (nat_lt n 0) && not (nat_lt most n) then Some (pos n) else None)) (λ k. k ≤ most)
number_within most n = within (nat_lt n 0) (nat_lt most n) (ltb-false most n)
  where
    within : (a b : Bool) → (b ≡ false → n ≤ most) → IfOk (not_negative (if not a && not b then Some (pos n) else None)) (λ k. k ≤ most)
    within true b le = tt
    within false true le = tt
    within false false le = le refl

-- so it is where there may be none
value_within : (most : ℕ) (o : Option ℤ) → IfOk
    (not_negative (option_and_then (λ z. if not (int_lt z (pos 0)) && not (int_lt (pos most) z) then Some z else None) o)) (λ n. n ≤ most)
value_within most None = tt
value_within most (Some (pos n)) = number_within most n
value_within most (Some (negsuc n)) = tt

-- an operand that is read is at most the greatest
operand_within : (most : ℕ) (word : List ℕ) → IfOk (operand_of most word) (λ n. n ≤ most)
operand_within most word = value_within most (signed_of word)

-- an operand in range makes an item of a line
item_in_range : (verb : Verb) (n : ℕ) → n ≤ most_of verb → IsLineItem (item_of verb n)
item_in_range verbs.Read n le = omega arith
item_in_range verbs.Write n le = omega arith
item_in_range verbs.Acquire n le = omega arith
item_in_range verbs.Release n le = omega arith
item_in_range verbs.VolatileRead n le = omega arith
item_in_range verbs.VolatileWrite n le = omega arith
item_in_range verbs.Fork n le = (omega arith, refl)
item_in_range verbs.Join n le = omega arith

-- what a line with one operand says is an item of a line
verb_in_range : (verb : Verb) (others : List (List ℕ)) → IfOk (verb_said verb others) IsLineItem
unfolding verb_said
verb_in_range verb others =
    then_ok IsLineItem (only_of others) (λ word. operand_of (most_of verb) word >>= (λ n. Ok (item_of verb n)))
    (λ word. then_ok_with (λ n. n ≤ most_of verb) IsLineItem (operand_of (most_of verb) word) (λ n. Ok (item_of verb n))
    (operand_within (most_of verb) word) (item_in_range verb))

-- two lists that are there make an item of a line
sets_in_range : (reads writes : Option (List ℕ)) → IfOk (commit_item reads writes) IsLineItem
sets_in_range None writes = tt
sets_in_range (Some reads) None = tt
sets_in_range (Some reads) (Some writes) = tt

-- what a commit line says is an item of a line
commit_in_range : (others : List (List ℕ)) → IfOk (commit_said others) IsLineItem
unfolding commit_said
commit_in_range others =
    then_ok IsLineItem (lists_of others) (λ lists. set_of lists.0 >>= (λ reads. set_of lists.1 >>= (λ writes. commit_item reads writes)))
    (λ lists. then_ok IsLineItem (set_of lists.0) (λ reads. set_of lists.1 >>= (λ writes. commit_item reads writes))
    (λ reads. then_ok IsLineItem (set_of lists.1) (λ writes. commit_item reads writes) (sets_in_range reads)))

-- what a line of any form says is an item of a line
form_in_range : (form : Form) (others : List (List ℕ)) → IfOk (form_said form others) IsLineItem
form_in_range (One verb) others = verb_in_range verb others
form_in_range Commit others = commit_in_range others

-- the step that a line says is one that a trace can have
step_in_range : (first : List ℕ) (others : List (List ℕ)) → IfOk (step_said first others) IsStep
unfolding step_said
step_in_range first others =
    then_ok_with (λ n. n ≤ THREADS - 1) IsStep (operand_of (THREADS - 1) first)
    (λ thread. first_of others >>= (λ word. form_of word >>= (λ form. form_said form (rest_of others) >>= (λ item. Ok (thread, item)))))
    (operand_within (THREADS - 1) first)
    (λ thread le.
    then_ok IsStep (first_of others) (λ word. form_of word >>= (λ form. form_said form (rest_of others) >>= (λ item. Ok (thread, item))))
    (λ word. then_ok IsStep (form_of word) (λ form. form_said form (rest_of others) >>= (λ item. Ok (thread, item)))
    (λ form. then_ok_with IsLineItem IsStep (form_said form (rest_of others)) (λ item. Ok (thread, item))
    (form_in_range form (rest_of others)) (λ item is. (omega arith, is)))))

-- so it is where the line says something
some_in_range : (r : Result Step ℕ) → IfOk r IsStep → IfOk (as_some r) (λ o. IfSome o IsStep)
some_in_range (Ok s) is = is
some_in_range (Err kind) is = tt

-- what words say, if they say a step, is one that a trace can have
said_in_range : (ws : List (List ℕ)) → IfOk (said ws) (λ o. IfSome o IsStep)
said_in_range [] = tt
said_in_range (first ∷ others) = some_in_range (step_said first others) (step_in_range first others)

-- ## Line by line

-- steps that a trace can have, none of which has a fault behind those before it
pub record AreWell (steps : List Step) : Type 0 where
  pub range : All IsStep steps
  pub clean : AreClean steps

-- of no steps all is well
none_well : AreWell []
none_well = record { range = λ k d below. absurd (omega arith); clean = λ k s e. absurd cc }

-- steps with that of a line without a fault are well, where those before are
line_well : (old : List TraceLine) (m : ℕ) (b c : Bool) (j k : ℕ) (r : Result (Option Step) ℕ) → IfOk r (λ o. IfSome o IsStep)
    → AreWell (steps_of old)
    → (if b then Some j else (if c then Some k else said_fault (steps_of old) r)) ≡ None → AreWell (steps_of (old ++ made m r))
line_well old m b c j k (Err kind) range before none = subst (λ l. AreWell (steps_of l)) (sym (append-nil old)) before
line_well old m b c j k (Ok None) range before none = subst (λ l. AreWell (steps_of l)) (sym (append-nil old)) before
line_well old m b c j k (Ok (Some s)) range before none =
    subst AreWell (sym (map-append step_of old ((m, s.0, s.1) ∷ [])))
    (record {
      range = All-push IsStep (steps_of old) s before.range range;
      clean = clean_push (steps_of old) s before.clean (chosen (steps_of old) b c j k (Ok (Some s)) s refl none);
    })

-- the steps of the first n lines without a fault are well
front_well : (ls : List (List ℕ)) → ((i : ℕ) → i < length ls → fault_at ls i ≡ None) → (n : ℕ) → n ≤ length ls
    → AreWell (steps_of (lines_from 1 (take n ls)))
front_well ls clean zero le = none_well
front_well ls clean (suc n) le =
    let there : n < length ls = omega arith in
    let line : List ℕ = get_or ls n [] in
    let count : length (take n ls) ≡ n = length-take-le n ls (omega arith) in
    let before = front_well ls clean n (omega arith) in
    let one : n + 1 ≡ suc n = omega arith in
    let taken : take (suc n) ls ≡ take n ls ++ line ∷ [] = ap (λ k. take k ls) (sym one) ∙ take_more ls n [] there in
    subst (λ l. AreWell (steps_of l)) (sym (ap (lines_from 1) taken ∙ lines_from-push 1 (take n ls) line))
    (line_well (lines_from 1 (take n ls)) (1 + length (take n ls)) (is_bad line) (nat_lt TRACE_LINES (n + 1)) BAD_BYTE TOO_MANY_LINES
    (said (words line))
    (said_in_range (words line)) before (clean n there))

-- the steps of a trace are in range, and none has a fault after those before it
pub trace_well : (text : List ℕ) (trace : List TraceLine) → IsTrace text trace → AreWell (steps_of trace)
trace_well text trace is =
    let ls : List (List ℕ) = lines text in
    subst (λ l. AreWell (steps_of l)) (ap (lines_from 1) (take_all (length ls) ls (omega arith)) ∙ sym is.all)
    (front_well ls is.clean (length ls) (omega arith))
