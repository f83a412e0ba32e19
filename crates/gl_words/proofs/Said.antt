-- That the words say what their uses give, one after another.
use Rattle.std.proofs.Common.{◌≡◌, ◌∙◌, ◌+◌, ◌==◌, ◌&&◌, ◌||◌, ℕ, Bool, true, false, not, cond, refl, sym, ap, ap₂, arith, List, [], ◌∷◌, Option, Some, None, codes, length, take, drop, option_map, nat_lt, eqb-true, true≢false, inl, inr}
use Rattle.std.specs.Prelude.{◌⊎◌, nat_le, option_and_then}
use Rattle.std.specs.List.{list_any, position_or_len}
use Rattle.std.specs.Str.{bytes_eq}
use Rattle.std.proofs.lemmas.Bool.Decides.{nat_tests}
use Rattle.std.proofs.lemmas.Bool.{ltb-false}
use Rattle.std.proofs.lemmas.List.{take_all}
use Rattle.std.proofs.lemmas.Slice.Eq.{bytes_eq-Decides}
use Rattle.clap.specs.Lexer.{long_of, name_and_value}
use Rattle.clap.specs.Walk.{Text}
use Rattle.gl_text.specs.Number.{digits_value, magnitude_of}
use Rattle.gl_words.specs.App.{has_dashes}
use Rattle.gl_words.specs.Options.{Word, give, give_alone, give_journal, give_named, is_equals, is_journal, name_and_number, named, number_of, option_named, read_options, within}
use Rattle.gl_words.specs.declared.options.Given.{Given}
use Rattle.gl_words.specs.declared.options.NumberOption.{NumberOption}
use Rattle.gl_words.specs.declared.options.TheConstants.{MOST_DIGITS}
use Rattle.gl_words.proofs.Uses.{Use, flag, is_value, kind_named, number, said, uses_from}
use Rattle.gl_words.proofs.Turns.{dashes}

-- what one use gives, and what several give in turn
abbrev pub give_use : Given → Use → Option Given
give_use g u = elim u.0 [ number o ↦ option_and_then (λ n. give o n g) (number_of o u.1) | flag ↦ give_journal g ]

-- what uses give, one after another, after what is given already
abbrev pub gives : Given → List Use → Option Given
gives g [] = Some g
gives g (u ∷ us) = option_and_then (λ more. gives more us) (give_use g u)

-- ## The form of a word

-- some element passes exactly where the first place of one that passes is before the end
any_within : (p : ℕ → Bool) (xs : List ℕ) → list_any p xs ≡ nat_lt (position_or_len p xs) (length xs)
any_within p [] = refl
any_within p (x ∷ xs) = go (p x) (any_within p xs)
  where
    go : (b : Bool) → list_any p xs ≡ nat_lt (position_or_len p xs) (length xs)
        → (b || list_any p xs) ≡ nat_lt (cond (not b) (1 + position_or_len p xs) 0) (length (x ∷ xs))
    go true e = grind (arith, nat_tests)
    go false e = e ∙ grind (arith, nat_tests)

-- the parts of a text at a place n that is in it or not
cut : (text : Word) (n : ℕ) (here any : Bool) → any ≡ here → (here ≡ false → take n text ≡ text)
    → ◌≡◌ {A = Word × Option Word}
    (elim (cond here (Some n) None) [ None ↦ (text, None) | Some at ↦ (take at text, Some (drop (at + 1) text)) ])
    (take n text, cond any (Some (drop (n + 1) text)) None)
cut text n true true e past = refl
cut text n false false e past = ap (λ (t : Word). (t, None)) (sym (past refl))
cut text n true false e past = absurd (true≢false (sym e))
cut text n false true e past = absurd (true≢false e)

-- a name and its number are told apart as clap tells a name and its value apart
names_are : (text : Word) → name_and_number text ≡ name_and_value text
names_are text =
    let n = position_or_len is_equals text in
    cut text n (nat_lt n (length text)) (list_any is_equals text) (any_within is_equals text)
    (λ past. take_all n text (ltb-false n (length text) past))

-- a word that is not `--` has the name and the number that clap reads
named_as : (word : Word) → bytes_eq word dashes ≡ false → named word ≡ long_of word
named_as [] other = refl
named_as (x ∷ []) other = go (x == 45) refl
  where
    go : (b : Bool) → (x == 45) ≡ b → named (x ∷ []) ≡ long_of (x ∷ [])
    go true e = rw e refl
    go false e = rw e refl
named_as (x ∷ y ∷ []) other = go (x == 45) (y == 45) refl refl
  where
    go : (b c : Bool) → (x == 45) ≡ b → (y == 45) ≡ c → named (x ∷ y ∷ []) ≡ long_of (x ∷ y ∷ [])
    go false c e f = rw e refl
    go true false e f = rw (e, f) refl
    go true true e f = absurd (true≢false (sym (ap₂ (λ (p q : Bool). p && (q && true)) e f) ∙ other))
named_as (x ∷ y ∷ z ∷ rest) other = go (x == 45) (y == 45) refl refl
  where
    go : (b c : Bool) → (x == 45) ≡ b → (y == 45) ≡ c → named (x ∷ y ∷ z ∷ rest) ≡ long_of (x ∷ y ∷ z ∷ rest)
    go false c e f = rw e refl
    go true false e f = rw (e, f) refl
    go true true e f = rw (e, f) (ap (λ (p : Word × Option Word). Some p) (names_are (z ∷ rest)))

-- ## Numbers

-- what is false is not both
none_in : (b : Bool) → (b && false) ≡ false
none_in true = refl
none_in false = refl

-- a word that is no value is no number
hyphen_no_number : (o : NumberOption) (rest : Word) → number_of o (45 ∷ rest) ≡ None
hyphen_no_number o rest =
    let bad : magnitude_of (45 ∷ rest) ≡ None =
    ap (λ (b : Bool). cond b (Some (digits_value (45 ∷ rest))) None)
    (none_in (nat_lt 0 (length (45 ∷ rest)) && nat_le (length (45 ∷ rest)) 19)) in
    go (nat_lt MOST_DIGITS (length (45 ∷ rest))) (magnitude_of (45 ∷ rest)) bad
  where
    go : (b : Bool) (m : Option ℕ) → m ≡ None → cond b None (within o m) ≡ None
    go true m bad = refl
    go false m bad = rw bad refl

-- a word that is no value says no number
flag_no_number : (o : NumberOption) (word : Word) → is_value word ≡ false → number_of o word ≡ None
flag_no_number o [] none = absurd (true≢false none)
flag_no_number o (x ∷ rest) none = go (x == 45) refl
  where
    go : (b : Bool) → (x == 45) ≡ b → number_of o (x ∷ rest) ≡ None
    go true e = rw (eqb-true x 45 e) (hyphen_no_number o rest)
    go false e = absurd (true≢false (rw e at none))

-- ## The words give what their uses give

-- no name is that of both kinds of option
one_kind : (name : Word) (o : NumberOption) → option_named name ≡ Some o → is_journal name ≡ false
one_kind name o is = go (is_journal name) refl
  where
    go : (b : Bool) → is_journal name ≡ b → b ≡ false
    go false e = refl
    go true e =
        let name_is : name ≡ codes "journal" = (bytes_eq-Decides name (codes "journal")).0 e in
        let other : None ≡ Some o = sym (ap option_named name_is) ∙ is in
        absurd (cc)

-- an option is what it is when it is handed on
pub option_some : {X : Type 0} (x : Option X) → x ≡ option_and_then (λ y. Some y) x
option_some None = refl
option_some (Some y) = refl

-- a use in front of others
put_first : (g : Given) (u : Use) (x : Option Given) (more : Given → Option Given) (us : Option (List Use)) → give_use g u ≡ x
    → ((m : Given) → more m ≡ option_and_then (gives m) us)
    → option_and_then more x ≡ option_and_then (gives g) (option_map (λ rest. u ∷ rest) us)
put_first g u None more None is all = refl
put_first g u None more (Some us) is all = sym (ap (option_and_then (λ m. gives m us)) is)
put_first g u (Some m) more None is all = all m
put_first g u (Some m) more (Some us) is all = all m ∙ sym (ap (option_and_then (λ m. gives m us)) is)

-- the last word
said_last : (g : Given) (v : Option Text) (on : Option NumberOption) (j : Bool) → ((o : NumberOption) → on ≡ Some o → j ≡ false)
    → ◌≡◌ {A = Option Given}
    (elim v [
      | Some t ↦ option_and_then (λ o. option_and_then (λ n. give o n g) (number_of o t)) on
      | None ↦ cond j (give_journal g)
          None
    ])
    (option_and_then (gives g) (said v (elim on [ Some o ↦ Some (number o) | None ↦ cond j (Some flag) None ]) (λ w. uses_from w [])))
said_last g (Some t) (Some o) j one =
    option_some (option_and_then (λ n. give o n g) (number_of o t))
    ∙ put_first g (number o, t) (option_and_then (λ n. give o n g) (number_of o t)) (λ m. Some m) (Some []) refl (λ m. refl)
said_last g (Some t) None true one = refl
said_last g (Some t) None false one = refl
said_last g None (Some o) j one = ap (λ (b : Bool). cond b (give_journal g) None) (one o refl)
said_last g None None true one = option_some (give_journal g)
    ∙ put_first g (flag, codes "true") (give_journal g) (λ m. Some m) (Some []) refl (λ m. refl)
said_last g None None false one = refl

-- a word before others
said_first : (g : Given) (v : Option Text) (on : Option NumberOption) (j : Bool) (next : Word) (rest : List Word)
    → ((o : NumberOption) → on ≡ Some o → j ≡ false)
    → ((m : Given) → read_options m (next ∷ rest) ≡ option_and_then (gives m) (uses_from None (next ∷ rest)))
    → ((m : Given) → read_options m rest ≡ option_and_then (gives m) (uses_from None rest))
    → ◌≡◌ {A = Option Given} (elim v [
      | Some t ↦ option_and_then (λ m. read_options m (next ∷ rest))
          (option_and_then (λ o. option_and_then (λ n. give o n g) (number_of o t)) on)
      | None ↦ cond j (option_and_then (λ m. read_options m (next ∷ rest)) (give_journal g))
          (option_and_then (λ m. read_options m rest) (option_and_then (λ o. option_and_then (λ n. give o n g) (number_of o next)) on))
    ])
    (option_and_then (gives g)
    (said v (elim on [ Some o ↦ Some (number o) | None ↦ cond j (Some flag) None ]) (λ w. uses_from w (next ∷ rest))))
said_first g (Some t) (Some o) j next rest one here later =
    put_first g (number o, t) (option_and_then (λ n. give o n g) (number_of o t)) (λ m. read_options m (next ∷ rest))
    (uses_from None (next ∷ rest)) refl here
said_first g (Some t) None true next rest one here later = refl
said_first g (Some t) None false next rest one here later = refl
said_first g None (Some o) j next rest one here later = ap
    (λ (b : Bool). cond b (option_and_then (λ m. read_options m (next ∷ rest)) (give_journal g))
    (option_and_then (λ m. read_options m rest) (option_and_then (λ n. give o n g) (number_of o next)))) (one o refl)
    ∙ go (is_value next) refl
  where
    go : (b : Bool) → is_value next ≡ b → option_and_then (λ m. read_options m rest) (option_and_then (λ n. give o n g) (number_of o next))
        ≡ option_and_then (gives g) (cond b (option_map (λ us. (number o, next) ∷ us) (uses_from None rest)) None)
    go true e = put_first g (number o, next) (option_and_then (λ n. give o n g) (number_of o next)) (λ m. read_options m rest)
        (uses_from None rest) refl later
    go false e = ap (λ (x : Option ℕ). option_and_then (λ m. read_options m rest) (option_and_then (λ n. give o n g) x))
        (flag_no_number o next e)
said_first g None None true next rest one here later =
    put_first g (flag, codes "true") (give_journal g) (λ m. read_options m (next ∷ rest)) (uses_from None (next ∷ rest)) refl here
said_first g None None false next rest one here later = refl

-- what a word says is told by its name and number; `--` has none in clap's reading, and is no option in ours
by_form : (word : Word) (g : Given) (f : Word × Option Word → Option Given) (h : Word × Option Word → Option (List Use))
    → f ([], None) ≡ None
    → ((p : Word × Option Word) → f p ≡ option_and_then (gives g) (h p))
    → option_and_then f (named word) ≡ option_and_then (gives g) (option_and_then h (long_of word))
by_form word g f h none all = go (bytes_eq word dashes) refl
  where
    same : (form : Option (Word × Option Word)) → option_and_then f form ≡ option_and_then (gives g) (option_and_then h form)
    same None = refl
    same (Some p) = all p

    go : (b : Bool) → bytes_eq word dashes ≡ b
        → option_and_then f (named word) ≡ option_and_then (gives g) (option_and_then h (long_of word))
    go true e =
        let is : word ≡ dashes = (bytes_eq-Decides word dashes).0 e in
        rw is none
    go false e = ap (option_and_then f) (named_as word e) ∙ same (long_of word)

-- the words give what their uses give, one after another
pub said_by_uses : (words : List Word) (g : Given) → read_options g words ≡ option_and_then (gives g) (uses_from None words)
said_by_uses [] g = refl
said_by_uses (word ∷ []) g =
    by_form word g (λ p. elim p.1 [ Some t ↦ give_named g p.0 t | None ↦ give_alone g p.0 ])
    (λ p. said p.1 (kind_named p.0) (λ w. uses_from w [])) refl
    (λ p. said_last g p.1 (option_named p.0) (is_journal p.0) (one_kind p.0))
said_by_uses (word ∷ next ∷ rest) g =
    by_form word g (λ p. elim p.1 [
      | Some t ↦ option_and_then (λ m. read_options m (next ∷ rest)) (give_named g p.0 t)
      | None ↦ cond (is_journal p.0) (option_and_then (λ m. read_options m (next ∷ rest)) (give_journal g))
          (option_and_then (λ m. read_options m rest) (give_named g p.0 next))
    ]) (λ p. said p.1 (kind_named p.0) (λ w. uses_from w (next ∷ rest))) refl
    (λ p. said_first g p.1 (option_named p.0) (is_journal p.0) next rest (one_kind p.0) (λ m. said_by_uses (next ∷ rest) m)
    (λ m. said_by_uses rest m))

-- ## A word `--` is no form

-- `--` gives nothing, where the empty name without a number gives nothing
dashes_by_form : (word : Word) (f : Word × Option Word → Option Given) → bytes_eq word dashes ≡ true → f ([], None) ≡ None
    → option_and_then f (named word) ≡ None
dashes_by_form word f e none =
    let is : word ≡ dashes = (bytes_eq-Decides word dashes).0 e in
    rw is none

-- `--` is no number of an option
dashes_no_number : (o : NumberOption) (word : Word) → bytes_eq word dashes ≡ true → number_of o word ≡ None
dashes_no_number o word e = rw ((bytes_eq-Decides word dashes).0 e) (hyphen_no_number o (45 ∷ []))

-- where one of two holds, the first does or the second
or_split : (a b : Bool) → (a || b) ≡ true → (a ≡ true) ⊎ (b ≡ true)
or_split true b e = inl refl
or_split false b e = inr e

-- a next step that gives nothing for anything gives nothing
none_next : (f : Given → Option Given) (x : Option Given) → ((m : Given) → f m ≡ None) → option_and_then f x ≡ None
none_next f None all = refl
none_next f (Some m) all = all m

-- where nothing comes of any form, nothing comes of this one
no_form : (form : Option (Word × Option Word)) (f : Word × Option Word → Option Given) → ((p : Word × Option Word) → f p ≡ None)
    → option_and_then f form ≡ None
no_form None f all = refl
no_form (Some p) f all = all p

-- words with `--` among them give nothing
pub dashes_say_nothing : (words : List Word) (g : Given) → has_dashes words ≡ true → read_options g words ≡ None
dashes_say_nothing [] g has = absurd (true≢false (sym has))
dashes_say_nothing (word ∷ []) g has = elim (or_split (bytes_eq word dashes) false has) [
  | inl e ↦ dashes_by_form word _ e refl
  | inr e ↦ absurd (true≢false (sym e))
]
dashes_say_nothing (word ∷ next ∷ rest) g has = elim (or_split (bytes_eq word dashes) (has_dashes (next ∷ rest)) has) [
  | inl e ↦ dashes_by_form word _ e refl
  | inr later ↦ no_form (named word) _ (λ p. first p.0 p.1 (λ m. dashes_say_nothing (next ∷ rest) m later)
      (or_split (bytes_eq next dashes) (has_dashes rest) later) (λ m more. dashes_say_nothing rest m more))
]
  where
    behind : (name : Word) → ((m : Given) → has_dashes rest ≡ true → read_options m rest ≡ None)
        → (bytes_eq next dashes ≡ true) ⊎ (has_dashes rest ≡ true)
        → option_and_then (λ m. read_options m rest) (give_named g name next) ≡ None
    behind name all (inl e) = go (option_named name)
      where
        go : (on : Option NumberOption)
            → option_and_then (λ m. read_options m rest) (option_and_then (λ o. option_and_then (λ n. give o n g) (number_of o next)) on)
            ≡ None
        go None = refl
        go (Some o) = ap (λ (x : Option ℕ). option_and_then (λ m. read_options m rest) (option_and_then (λ n. give o n g) x))
            (dashes_no_number o next e)
    behind name all (inr more) = none_next (λ m. read_options m rest) (give_named g name next) (λ m. all m more)

    first : (name : Word) (v : Option Word) → ((m : Given) → read_options m (next ∷ rest) ≡ None)
        → (bytes_eq next dashes ≡ true) ⊎ (has_dashes rest ≡ true) → ((m : Given) → has_dashes rest ≡ true → read_options m rest ≡ None)
        → ◌≡◌ {A = Option Given} (elim v [
          | Some t ↦ option_and_then (λ m. read_options m (next ∷ rest)) (give_named g name t)
          | None ↦ cond (is_journal name) (option_and_then (λ m. read_options m (next ∷ rest)) (give_journal g))
              (option_and_then (λ m. read_options m rest) (give_named g name next))
        ]) None
    first name (Some t) here split all = none_next (λ m. read_options m (next ∷ rest)) (give_named g name t) here
    first name None here split all = pick (is_journal name) (none_next (λ m. read_options m (next ∷ rest)) (give_journal g) here)
        (behind name all split)
      where
        pick : (b : Bool) {x y : Option Given} → x ≡ None → y ≡ None → cond b x y ≡ None
        pick true one two = one
        pick false one two = two
