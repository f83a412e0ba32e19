-- Words of a line with one space between, and what they say.
use Rattle.std.proofs.Common.{◌≡◌, ◌+◌, ◌<◌, ◌≤◌, ℕ, List, [], ◌∷◌, ◌++◌, Bool, true, false, ◌||◌, ◌==◌, ◌-◌, suc, Some, None, Ok, nat_le, nat_lt, length, drop, take, get_or, refl, ap, sym, ◌∙◌, subst, arith, filter, append_assoc}
use Rattle.std.specs.List.{before_first, slice_split, onto_first, list_any, list_all, position, position_or_len}
use Rattle.std.specs.Char.{is_ascii_digit}
use Rattle.std.proofs.lemmas.Bool.{le-leb, lt-ltb, le-ltb, leb-true, ne_eqb, and_parts}
use Rattle.std.proofs.lemmas.List.{length-take-le, take-append-drop, length-drop}
use Rattle.std.proofs.lemmas.List.Splits.{slice_split-cons_yes, slice_split-cons_no}
use Rattle.gl_model.specs.declared.limits.TheConstants.{THREADS}
use Rattle.gl_text.specs.Number.{digits_value, magnitude_of}
use Rattle.gl_text.specs.Text.{is_blank, is_hash, is_unprintable, is_special, is_bad, is_some_word, parts, words, IsPlain}
use Rattle.gl_text.proofs.TextLemmas.{fewer_pass}
use Rattle.gl_text.proofs.PlainLemmas.{plain_good, plain_first}
use Rattle.gl_trace.specs.declared.form.Form.TheVariants.{One}
use Rattle.gl_trace.specs.declared.form.Verb.{Verb}
use Rattle.gl_trace.specs.Form.{form_of, most_of, item_of}
use Rattle.gl_trace.specs.Ids.{operand_of}
use Rattle.gl_trace.specs.Phrase.{verb_said, step_said, said}
use Rattle.gl_model.specs.TraceSteps.{Step, step_fault}
use Rattle.gl_trace.specs.Trace.{line_fault}
use Rattle.gl_trace.specs.declared.limits.TheConstants.{TRACE_LINES}
use Rattle.gl_trace.specs.Quick.{is_end, IsWord, Begins, IsFirstLine}

-- where neither of two tests holds, both fail
or_none : (a b : Bool) → (a || b) ≡ false → (a ≡ false) × (b ≡ false)
or_none true b e = absurd (cc)
or_none false b e = (refl, e)

-- ---- words with a space between

-- before the first hash of a word, a blank and more stand the word, the blank and what stands before the first hash of the rest
hash_behind : (w rest : List ℕ) → list_any is_end w ≡ false → before_first is_hash (w ++ 32 ∷ rest) ≡ w ++ 32 ∷ before_first is_hash rest
hash_behind [] rest e = ap (λ k. take k (32 ∷ rest)) (let z : 1 + position_or_len is_hash rest
    ≡ suc (position_or_len is_hash rest) = omega arith in z)
hash_behind (x ∷ xs) rest e =
    let both = or_none (is_end x) (list_any is_end xs) e in
    let here = (or_none (is_hash x) (is_unprintable x) (or_none (is_blank x) (is_special x) both.0).1).0 in
    let more : position_or_len is_hash ((x ∷ xs) ++ 32 ∷ rest) ≡ suc (position_or_len is_hash (xs ++ 32 ∷ rest)) = rw here (omega arith) in
    ap (λ k. take k ((x ∷ xs) ++ 32 ∷ rest)) more ∙ ap (λ zs. x ∷ zs) (hash_behind xs rest both.1)

-- all of a word stands before any hash
hash_none : (w : List ℕ) → list_any is_end w ≡ false → before_first is_hash w ≡ w
hash_none [] e = refl
hash_none (x ∷ xs) e =
    let both = or_none (is_end x) (list_any is_end xs) e in
    let here = (or_none (is_hash x) (is_unprintable x) (or_none (is_blank x) (is_special x) both.0).1).0 in
    let more : position_or_len is_hash (x ∷ xs) ≡ suc (position_or_len is_hash xs) = rw here (omega arith) in
    ap (λ k. take k (x ∷ xs)) more ∙ ap (λ zs. x ∷ zs) (hash_none xs both.1)

-- a word, a blank and more are split at the blank
split_behind : (w rest : List ℕ) → list_any is_end w ≡ false → slice_split is_blank (w ++ 32 ∷ rest) ≡ w ∷ slice_split is_blank rest
split_behind [] rest e = slice_split-cons_yes is_blank 32 rest refl
split_behind (x ∷ xs) rest e =
    let both = or_none (is_end x) (list_any is_end xs) e in
    slice_split-cons_no is_blank x (xs ++ 32 ∷ rest) (or_none (is_blank x) (is_special x) both.0).0
    ∙ ap (onto_first x) (split_behind xs rest both.1)

-- a word has no blank to be split at
split_none : (w : List ℕ) → list_any is_end w ≡ false → slice_split is_blank w ≡ w ∷ []
split_none [] e = refl
split_none (x ∷ xs) e =
    let both = or_none (is_end x) (list_any is_end xs) e in
    slice_split-cons_no is_blank x xs (or_none (is_blank x) (is_special x) both.0).0 ∙ ap (onto_first x) (split_none xs both.1)

-- a word with something in it is kept
front : (w : List ℕ) (ws : List (List ℕ)) → is_some_word w ≡ true → filter is_some_word (w ∷ ws) ≡ w ∷ filter is_some_word ws
front [] ws e = absurd (cc)
front (x ∷ xs) ws e = refl

-- the words of a word, a space and more are that word and the words of the rest
pub words_behind : (word rest : List ℕ) → IsWord word → words (word ++ 32 ∷ rest) ≡ word ∷ words rest
words_behind word rest is =
    ap parts (hash_behind word rest is.1) ∙ ap (filter is_some_word) (split_behind word (before_first is_hash rest) is.1)
    ∙ front word (slice_split is_blank (before_first is_hash rest)) is.0

-- the words of a word alone are that word
pub words_last : (word : List ℕ) → IsWord word → words word ≡ word ∷ []
words_last word is = ap parts (hash_none word is.1) ∙ ap (filter is_some_word) (split_none word is.1) ∙ front word [] is.0

-- ---- a plain line and its line feed

-- what is in neither of two lists is not in them together
pub none_in_both : (p : ℕ → Bool) (xs ys : List ℕ) → list_any p xs ≡ false → list_any p ys ≡ false → list_any p (xs ++ ys) ≡ false
none_in_both p [] ys e f = f
none_in_both p (x ∷ xs) ys e f = let both = or_none (p x) (list_any p xs) e in rw (both.0, none_in_both p xs ys both.1 f) refl

-- a word is plain
pub word_plain : (word : List ℕ) → IsWord word → IsPlain word
word_plain word is = fewer_pass is_end is_special (λ x f. (or_none (is_blank x) (is_special x) f).1) word is.1

-- a word, a blank and a plain line are a plain line
pub spaced_plain : (word rest : List ℕ) → IsWord word → IsPlain rest → IsPlain (word ++ 32 ∷ rest)
spaced_plain word rest is plain = none_in_both is_special word (32 ∷ rest) (word_plain word is) plain

-- the first special byte of a plain line with a line feed after it is the line feed
feed_at : (line rest : List ℕ) → IsPlain line → position_or_len is_special (line ++ 10 ∷ rest) ≡ length line
feed_at [] rest e = refl
feed_at (x ∷ xs) rest e =
    let both = or_none (is_special x) (list_any is_special xs) e in
    let more : position_or_len is_special ((x ∷ xs) ++ 10 ∷ rest)
    ≡ suc (position_or_len is_special (xs ++ 10 ∷ rest)) = rw both.0 (omega arith) in
    more ∙ ap suc (feed_at xs rest both.1)

-- after the line stands the line feed
at_feed : (line rest : List ℕ) → get_or (line ++ 10 ∷ rest) (length line) 0 ≡ 10
at_feed [] rest = refl
at_feed (x ∷ xs) rest = at_feed xs rest

-- the line is what stands before it
front_of : (line rest : List ℕ) → line ≡ take (length line) (line ++ 10 ∷ rest)
front_of [] rest = refl
front_of (x ∷ xs) rest = ap (λ zs. x ∷ zs) (front_of xs rest)

-- the rest is what stands after it
back_of : (line rest : List ℕ) → rest ≡ drop (length line + 1) (line ++ 10 ∷ rest)
back_of [] rest = refl
back_of (x ∷ xs) rest = let e : length (x ∷ xs) + 1 ≡ suc (length xs + 1) = omega arith in rw e (back_of xs rest)

-- the line is shorter than the text
feed_behind : (line rest : List ℕ) → length line < length (line ++ 10 ∷ rest)
feed_behind [] rest = omega arith
feed_behind (x ∷ xs) rest = let l = feed_behind xs rest in omega arith

-- so is the rest
rest_shorter : (line rest : List ℕ) → length rest < length (line ++ 10 ∷ rest)
rest_shorter [] rest = omega arith
rest_shorter (x ∷ xs) rest = let l = rest_shorter xs rest in omega arith

-- a plain line before a line feed is the first line of the text
pub plain_line : (text line rest : List ℕ) → IsPlain line → text ≡ line ++ 10 ∷ rest → IsFirstLine text line rest
plain_line text line rest plain is = subst (λ t. IsFirstLine t line rest) (sym is) (record {
  here = plain_first (line ++ 10 ∷ rest) line rest (length line) found (at_feed line rest) (front_of line rest) (back_of line rest);
  good = plain_good line plain;
  shorter = rest_shorter line rest;
})
  where
    found : position is_special (line ++ 10 ∷ rest) ≡ Some (length line)
    found = let e = feed_at line rest plain in rw (e, lt-ltb (length line) (length (line ++ 10 ∷ rest)) (feed_behind line rest)) refl

-- ---- what three words say

-- a thread, a word of a form with one operand, and a number in range say that step
usual : (t v n : List ℕ) (thread k : ℕ) (verb : Verb) → operand_of (THREADS - 1) t ≡ Ok thread → form_of v ≡ Ok (One verb)
    → operand_of (most_of verb) n ≡ Ok k
    → said (t ∷ (v ∷ (n ∷ []))) ≡ Ok (Some (thread, item_of verb k))
unfolding step_said verb_said
usual t v n thread k verb a b c = rw (a, b, c) refl

-- a text that begins with three such words and a line feed has a first line that says that step
pub usual_line : (text r q rest t v n : List ℕ) (thread k : ℕ) (verb : Verb) → Begins text t 32 r → Begins r v 32 q → Begins q n 10 rest
    → operand_of (THREADS - 1) t ≡ Ok thread → form_of v ≡ Ok (One verb) → operand_of (most_of verb) n ≡ Ok k
    → (line : List ℕ) × IsFirstLine text line rest × (said (words line) ≡ Ok (Some (thread, item_of verb k)))
usual_line text r q rest t v n thread k verb x y z a b c =
    let ws : words (t ++ 32 ∷ (v ++ 32 ∷ n)) ≡ t ∷ (v ∷ (n ∷ [])) =
    words_behind t (v ++ 32 ∷ n) x.is_word ∙ ap (λ l. t ∷ l) (words_behind v n y.is_word)
    ∙ ap (λ l. t ∷ (v ∷ l)) (words_last n z.is_word) in
    let whole : text ≡ (t ++ 32 ∷ (v ++ 32 ∷ n)) ++ 10 ∷ rest =
    x.whole ∙ ap (λ l. t ++ 32 ∷ l) (y.whole ∙ ap (λ l. v ++ 32 ∷ l) z.whole ∙ sym (append_assoc v (32 ∷ n) (10 ∷ rest)))
    ∙ sym (append_assoc t (32 ∷ (v ++ 32 ∷ n)) (10 ∷ rest)) in (
      t ++ 32 ∷ (v ++ 32 ∷ n),
      plain_line text (t ++ 32 ∷ (v ++ 32 ∷ n)) rest
          (spaced_plain t (v ++ 32 ∷ n) x.is_word (spaced_plain v n y.is_word (word_plain n z.is_word))) whole,
      ap said ws
          ∙ usual t v n thread k verb a b c,
    )

-- ---- numbers

-- a digit ends no word, and is no minus
digit_word : (b : ℕ) → is_ascii_digit b ≡ true → (is_end b ≡ false) × ((b == 45) ≡ false)
digit_word b e =
    let both = and_parts (nat_le 48 b) (nat_le b 57) e in
    let low = leb-true 48 b both.0 in
    let high = leb-true b 57 both.1 in
    let above : nat_le 32 b ≡ true = le-leb 32 b (omega arith) in
    let below : nat_le b 126 ≡ true = le-leb b 126 (omega arith) in (
      rw (ne_eqb b 32 (λ z. omega arith), ne_eqb b 9 (λ z. omega arith), ne_eqb b 35 (λ z. omega arith), above, below) refl,
      ne_eqb b 45
          (λ z. omega arith),
    )

-- digits have no byte that ends a word
digits_word : (ds : List ℕ) → list_all is_ascii_digit ds ≡ true → list_any is_end ds ≡ false
digits_word [] e = refl
digits_word (b ∷ bs) e =
    let both = and_parts (is_ascii_digit b) (list_all is_ascii_digit bs) e in
    rw ((digit_word b both.0).0, digits_word bs both.1) refl

-- one to four digits, of a value that is at most the greatest, are a word and are read as that value
pub digits_number : (ds : List ℕ) (most : ℕ) → 0 < length ds → length ds ≤ 4 → list_all is_ascii_digit ds ≡ true → digits_value ds ≤ most
    → IsWord ds × (operand_of most ds ≡ Ok (digits_value ds))
digits_number [] most some few all le = absurd (omega arith)
digits_number (b ∷ bs) most some few all le =
    let minus = (digit_word b (and_parts (is_ascii_digit b) (list_all is_ascii_digit bs) all).0).1 in
    let there : nat_lt 0 (length (b ∷ bs)) ≡ true = lt-ltb 0 (length (b ∷ bs)) some in
    let short : nat_le (length (b ∷ bs)) 19 ≡ true = le-leb (length (b ∷ bs)) 19 (omega arith) in
    let below : nat_lt most (digits_value (b ∷ bs)) ≡ false = le-ltb most (digits_value (b ∷ bs)) le in
    let low : nat_lt (digits_value (b ∷ bs)) 0 ≡ false = le-ltb (digits_value (b ∷ bs)) 0 (omega arith) in
    let size : magnitude_of (b ∷ bs) ≡ Some (digits_value (b ∷ bs)) = rw (there, short, all) refl in
    ((refl, digits_word (b ∷ bs) all), rw (minus, size, low, below) refl)

-- one to four digits at the front of a text, of a value that is at most the greatest, are a word and are read as that value
pub digits_front : (text : List ℕ) (count value most : ℕ) → 0 < count → count ≤ 4 → count ≤ length text
    → list_all is_ascii_digit (take count text) ≡ true → value ≡ digits_value (take count text) → value ≤ most
    → IsWord (take count text) × (operand_of most (take count text) ≡ Ok value)
digits_front text count value most some few within all is le =
    let long : length (take count text) ≡ count = length-take-le count text within in
    let d = digits_number (take count text) most (omega arith) (omega arith) all (omega arith) in
    (d.0, d.1 ∙ ap Ok (sym is))

-- a text is its front, the byte that stops it and the rest
pub stop_behind : (text rest : List ℕ) (count stop : ℕ) → drop count text ≡ stop ∷ rest → text ≡ take count text ++ stop ∷ rest
stop_behind text rest count stop e = sym (take-append-drop count text) ∙ ap (λ zs. take count text ++ zs) e

-- what is left after a stop is shorter than the text
pub stop_shorter : (text rest : List ℕ) (count stop : ℕ) → drop count text ≡ stop ∷ rest → length rest < length text
stop_shorter text rest count stop e = omega (arith, ap length e, length-drop count text)

-- ---- a line that was read has no fault

-- a line that is not bad, in time, and says a step that is clean has no fault
pub quick_clean : (before : List Step) (m : ℕ) (line : List ℕ) (s : Step) → is_bad line ≡ false → m ≤ TRACE_LINES → said (words line)
    ≡ Ok (Some s) → step_fault before s.0 s.1 ≡ None → line_fault before m line ≡ None
quick_clean before m line s good few says none = rw (good, le-ltb TRACE_LINES m few, says, none) refl
