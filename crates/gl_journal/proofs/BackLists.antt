-- The lists of a transaction that are written and read back.
use Rattle.std.proofs.Common.{◌≡◌, ◌+◌, ◌-◌, ◌<◌, ◌≤◌, ◌^◌, ℕ, pos, List, [], ◌∷◌, ◌++◌, true, false, Ok, nat_le, nat_lt, bytes_eq, codes, length, map, refl, ap, sym, ◌∙◌, arith, append-nil, inl, inr, All}
use Rattle.std.specs.Fmt.{decimal, signed_decimal}
use Rattle.std.specs.List.{AllByRecursion, flat_map, list_all, slice_split}
use Rattle.std.proofs.lemmas.Bool.{and_from, cases_Bool, le-leb, lt-ltb, ne_eqb}
use Rattle.std.proofs.lemmas.List.{length-map}
use Rattle.std.proofs.lemmas.List.Elements.{All-from_recursion}
use Rattle.std.proofs.lemmas.List.Splits.{slice_split_at, slice_split_none}
use Rattle.std.proofs.lemmas.Slice.Eq.{bytes_eq-Decides}
use Rattle.gl_model.specs.Kept.{AreVariables, IsTxKept}
use Rattle.gl_model.specs.Records.{variables_of}
use Rattle.gl_model.specs.Rising.{Rises, with_all}
use Rattle.gl_model.specs.declared.limits.TheConstants.{TX_VARIABLES, VARIABLES}
use Rattle.gl_model.specs.declared.tx.Look.{Look}
use Rattle.gl_model.specs.declared.tx.Pair.{Pair}
use Rattle.gl_model.specs.declared.tx.Number.{Number}
use Rattle.gl_model.specs.declared.tx.Tx.{Tx}
use Rattle.gl_journal.specs.declared.limits.TheConstants.{MOST_STAMP}
use Rattle.gl_journal.specs.declared.parts.Part.{Part}
use Rattle.gl_journal.specs.declared.parts.PartForm.{PartForm}
use Rattle.gl_journal.specs.declared.parts.PartForm.TheVariants as forms
use Rattle.gl_journal.specs.declared.parts.TheConstants.{COLON, COMMA}
use Rattle.gl_journal.specs.Fields.{Word, ◌>>=◌}
use Rattle.gl_journal.specs.Parts.{is_byte, is_set, list_in, list_pieces, look_in, look_of, number_in, number_of, pair_in, pair_of, part_in, parts_in, rises}
use Rattle.gl_journal.specs.Rows.{list_word, look_word, number_word, pair_word, tx_words}
use Rattle.gl_journal.specs.Transactions.{lists_of, names_few, tx_in, tx_of, vars_of}
use Rattle.gl_journal.specs.Written.{IsTxStamped, IsTxTyped, IsValue, TxNamesFew}
use Rattle.gl_text.proofs.WordLines.{IsWord, IsWordByte, all_append, all_map}
use Rattle.gl_journal.proofs.WrittenNumbers.{IsNumeral, IsNumeralByte, begins_with_digit, natural_back, numeral_decimal, numeral_is_word, numeral_signed, value_back_in}

-- ## Bytes of numbers

-- a numeral has no colon
no_colon : (w : Word) → IsNumeral w → All (λ b. is_byte COLON b ≡ false) w
no_colon w is = All-from_recursion _ w (all_map IsNumeralByte _ w (λ b h. ne_eqb b 58 (λ e. omega (arith, h.1))) is.1)

-- a word without a comma
abbrev HasNoComma : Word → Type 0
HasNoComma w = AllByRecursion (λ b. is_byte COMMA b ≡ false) w

-- a numeral has no comma
no_comma : (w : Word) → IsNumeral w → HasNoComma w
no_comma w is = all_map IsNumeralByte _ w (λ b h. ne_eqb b 44 (λ e. omega (arith, h.0))) is.1

-- two words without a comma, put together, have none
comma_append : (a b : Word) → HasNoComma a → HasNoComma b → HasNoComma (a ++ b)
comma_append a b front back = all_append (λ x. is_byte COMMA x ≡ false) a b front back

-- ## Parts are words

-- a numeral is of bytes of words
bytes_of : (w : Word) → IsNumeral w → AllByRecursion IsWordByte w
bytes_of w is = (numeral_is_word w is).1

-- a colon is a byte of words
colon_byte : IsWordByte 58
colon_byte = (omega arith, omega arith, λ e. omega arith)

-- a comma is a byte of words
comma_byte : IsWordByte 44
comma_byte = (omega arith, omega arith, λ e. omega arith)

-- a minus is a byte of words
minus_byte : IsWordByte 45
minus_byte = (omega arith, omega arith, λ e. omega arith)

-- what has a front with something in it has something in it
some_front : (a b : Word) → 0 < length a → 0 < length (a ++ b)
some_front [] b some = absurd (omega arith)
some_front (x ∷ a) b some = omega arith

-- a word with more bytes of words after it is a word
word_append : (a b : Word) → IsWord a → AllByRecursion IsWordByte b → IsWord (a ++ b)
word_append a b is all = (some_front a b is.0, all_append IsWordByte a b is.1 all)

-- a part of a list: it begins with a digit, has no comma, and is a word
record IsPiece (w : Word) : Type 0 where
  digit : (d : ℕ) × ((rest : List ℕ) × (w ≡ d ∷ rest) × (48 ≤ d))
  comma : HasNoComma w
  word : IsWord w

-- what begins with a digit, or something above it, does so with more after it
digit_append : (a b : Word) → (d : ℕ) × ((rest : List ℕ) × (a ≡ d ∷ rest) × (48 ≤ d)) → (d : ℕ)
    × ((rest : List ℕ) × (a ++ b ≡ d ∷ rest) × (48 ≤ d))
digit_append a b begins = (begins.0, (begins.1.0 ++ b, ap (λ l. l ++ b) begins.1.1, begins.1.2))

-- a number with bytes of words after it, but no comma, is a piece of a list
piece_append : (n : ℕ) (b : Word) → n < 10 ^ 19 → HasNoComma b → AllByRecursion IsWordByte b → IsPiece (decimal n ++ b)
piece_append n b small comma word = record {
  digit = digit_append (decimal n) b (begins_with_digit n small);
  comma = comma_append (decimal n) b (no_comma (decimal n) (numeral_decimal n small)) comma;
  word = word_append (decimal n) b (numeral_is_word (decimal n) (numeral_decimal n small)) word;
}

-- behind a colon
colon_then : (w : Word) → IsNumeral w → HasNoComma (codes ":" ++ w) × AllByRecursion IsWordByte (codes ":" ++ w)
colon_then w is = ((refl, no_comma w is), (colon_byte, bytes_of w is))

-- ## Parts that are read back

-- a look, as a part of a list
abbrev pub part_of_look : Look → Part
part_of_look l = record { var = l.var; value = l.value; nth = l.nth }

-- a write, as a part of a list
abbrev pub part_of_pair : Pair → Part
part_of_pair p = record { var = p.var; value = p.value; nth = 0 }

-- a number of its own, as a part of a list
abbrev pub part_of_number : Number → Part
part_of_number n = record { var = n.var; value = pos 0; nth = n.nth }

-- a part of a list is one piece, and is read back
record IsBack {A : Type 0} (form : PartForm) (word : A → Word) (part : A → Part) (x : A) : Type 0 where
  piece : IsPiece (word x)
  back : part_in form (word x) ≡ Ok (part x)

-- the pieces of a look are read as it
look_in_back : (l : Look) → l.var < VARIABLES → IsValue l.value → l.nth ≤ MOST_STAMP
    → look_in (decimal l.var ∷ signed_decimal l.value ∷ decimal l.nth ∷ []) ≡ Ok (part_of_look l)
unfolding look_in
look_in_back l var value nth =
    rw (natural_back (VARIABLES - 1) l.var (omega arith) (omega arith))
    (rw (value_back_in l.value value) (rw (natural_back MOST_STAMP l.nth nth (omega arith)) refl))

-- the word of a look is a piece of a list, and read as it
look_back : (l : Look) → l.var < VARIABLES → IsValue l.value × (l.nth ≤ MOST_STAMP) → IsBack forms.Look look_word part_of_look l
look_back l var is =
    let first = numeral_decimal l.var (omega arith) in
    let second = numeral_signed l.value is.0 in
    let third = numeral_decimal l.nth (omega (arith, is.1)) in
    let end = colon_then (decimal l.nth) third in
    let tail : Word = signed_decimal l.value ++ (codes ":" ++ decimal l.nth) in
    record {
      piece = piece_append l.var (codes ":" ++ tail) (omega arith)
          (refl, comma_append (signed_decimal l.value) (codes ":" ++ decimal l.nth) (no_comma (signed_decimal l.value) second) end.0) (
            colon_byte,
            all_append IsWordByte (signed_decimal l.value) (codes ":" ++ decimal l.nth)
                (bytes_of (signed_decimal l.value) second) end.1,
          );
      back =
          ap look_in
          (slice_split_at (is_byte COLON) (decimal l.var) 58 tail (no_colon (decimal l.var) first) refl
          ∙ ap (λ ps. decimal l.var ∷ ps)
          (slice_split_at (is_byte COLON) (signed_decimal l.value) 58 (decimal l.nth) (no_colon (signed_decimal l.value) second) refl
          ∙ ap (λ ps. signed_decimal l.value ∷ ps) (slice_split_none (is_byte COLON) (decimal l.nth) (no_colon (decimal l.nth) third))))
          ∙ look_in_back l var is.0 is.1;
    }

-- the pieces of a write are read as it
pair_in_back : (p : Pair) → p.var < VARIABLES → IsValue p.value → pair_in (decimal p.var ∷ signed_decimal p.value ∷ [])
    ≡ Ok (part_of_pair p)
unfolding pair_in
pair_in_back p var value = rw (natural_back (VARIABLES - 1) p.var (omega arith) (omega arith)) (rw (value_back_in p.value value) refl)

-- the word of a write is a piece of a list, and read as it
pair_back : (p : Pair) → p.var < VARIABLES → IsValue p.value → IsBack forms.Pair pair_word part_of_pair p
pair_back p var is =
    let first = numeral_decimal p.var (omega arith) in
    let second = numeral_signed p.value is in
    let end = colon_then (signed_decimal p.value) second in
    record {
      piece = piece_append p.var (codes ":" ++ signed_decimal p.value) (omega arith) end.0 end.1;
      back =
          ap pair_in
          (slice_split_at (is_byte COLON) (decimal p.var) 58 (signed_decimal p.value) (no_colon (decimal p.var) first) refl
          ∙ ap (λ ps. decimal p.var ∷ ps) (slice_split_none (is_byte COLON) (signed_decimal p.value)
          (no_colon (signed_decimal p.value) second)))
          ∙ pair_in_back p var is;
    }

-- the pieces of a number are read as it
number_in_back : (n : Number) → n.var < VARIABLES → n.nth ≤ MOST_STAMP → number_in (decimal n.var ∷ decimal n.nth ∷ [])
    ≡ Ok (part_of_number n)
unfolding number_in
number_in_back n var nth =
    rw (natural_back (VARIABLES - 1) n.var (omega arith) (omega arith)) (rw (natural_back MOST_STAMP n.nth nth (omega arith)) refl)

-- the word of a number is a piece of a list, and read as it
number_back : (n : Number) → n.var < VARIABLES → n.nth ≤ MOST_STAMP → IsBack forms.Number number_word part_of_number n
number_back n var is =
    let first = numeral_decimal n.var (omega arith) in
    let second = numeral_decimal n.nth (omega arith) in
    let end = colon_then (decimal n.nth) second in
    record {
      piece = piece_append n.var (codes ":" ++ decimal n.nth) (omega arith) end.0 end.1;
      back =
          ap number_in
          (slice_split_at (is_byte COLON) (decimal n.var) 58 (decimal n.nth) (no_colon (decimal n.var) first) refl
          ∙ ap (λ ps. decimal n.var ∷ ps) (slice_split_none (is_byte COLON) (decimal n.nth) (no_colon (decimal n.nth) second)))
          ∙ number_in_back n var is;
    }

-- ## Lists that are read back

-- words without a comma that are written as a list are what stands between its commas
split_list : (w : Word) (ws : List Word) → HasNoComma w → AllByRecursion HasNoComma ws → slice_split (is_byte COMMA) (list_word (w ∷ ws))
    ≡ w ∷ ws
split_list w [] first others =
    ap (slice_split (is_byte COMMA)) (append-nil w) ∙ slice_split_none (is_byte COMMA) w (All-from_recursion _ w first)
split_list w (v ∷ vs) first others =
    slice_split_at (is_byte COMMA) w 44 (list_word (v ∷ vs)) (All-from_recursion _ w first) refl
    ∙ ap (λ ps. w ∷ ps) (split_list v vs others.0 others.1)

-- what begins with a digit is no minus
not_minus : (w : Word) (d : ℕ) (rest : List ℕ) → w ≡ d ∷ rest → 48 ≤ d → bytes_eq w (codes "-") ≡ false
not_minus w d rest is high =
    elim (cases_Bool (bytes_eq w (codes "-"))) [
      | inl e ↦
          let same : w ≡ 45 ∷ [] = (bytes_eq-Decides w (codes "-")).0 e in
          let both : d ∷ rest ≡ 45 ∷ [] = sym is ∙ same in
          let byte : d ≡ 45 = cc in
          absurd (omega arith)
      | inr e ↦ e
    ]

-- the pieces of a list that is written are those that it was written of
pieces_back : (ws : List Word) → AllByRecursion IsPiece ws → list_pieces (list_word ws) ≡ ws
pieces_back [] are = refl
pieces_back (w ∷ ws) are =
    let begins = digit_append w (flat_map (λ v. codes "," ++ v) ws) are.0.digit in
    rw (not_minus (list_word (w ∷ ws)) begins.0 begins.1.0 begins.1.1 begins.1.2)
    (split_list w ws are.0.comma (all_map IsPiece HasNoComma ws (λ v is. is.comma) are.1))

-- what holds of each word of a list's members holds of all words
all_of_map : {A : Type 0} (P : A → Type 0) (Q : Word → Type 0) (word : A → Word) (xs : List A) → ((x : A) → P x → Q (word x))
    → AllByRecursion P xs
    → AllByRecursion Q (map word xs)
all_of_map P Q word [] to all = tt
all_of_map P Q word (x ∷ xs) to all = (to x all.0, all_of_map P Q word xs to all.1)

-- the words of parts that are read back each are read as the parts
parts_back : {A : Type 0} (form : PartForm) (word : A → Word) (part : A → Part) (xs : List A) → AllByRecursion (IsBack form word part) xs
    → parts_in form (map word xs) ≡ Ok (map part xs)
parts_back form word part [] are = refl
parts_back form word part (x ∷ xs) are =
    ap (λ r. r >>= (λ p. parts_in form (map word xs) >>= (λ ps. Ok (p ∷ ps)))) are.0.back
    ∙ ap (λ r. r >>= (λ ps. Ok (part x ∷ ps))) (parts_back form word part xs are.1)

-- the list that is written of them is read as the parts
list_back : {A : Type 0} (form : PartForm) (word : A → Word) (part : A → Part) (xs : List A) → AllByRecursion (IsBack form word part) xs
    → list_in form (list_word (map word xs)) ≡ Ok (map part xs)
list_back form word part xs are =
    ap (parts_in form) (pieces_back (map word xs) (all_of_map (IsBack form word part) IsPiece word xs (λ x is. is.piece) are))
    ∙ parts_back form word part xs are

-- words with a comma before each are of bytes of words
all_words : (ws : List Word) → AllByRecursion IsWord ws → AllByRecursion IsWordByte (flat_map (λ v. codes "," ++ v) ws)
all_words [] are = tt
all_words (w ∷ ws) are = (comma_byte, all_append IsWordByte w (flat_map (λ v. codes "," ++ v) ws) are.0.1 (all_words ws are.1))

-- a list that is written of words is a word
list_is_word : (ws : List Word) → AllByRecursion IsWord ws → IsWord (list_word ws)
list_is_word [] are = (omega arith, (minus_byte, tt))
list_is_word (w ∷ ws) are = word_append w (flat_map (λ v. codes "," ++ v) ws) are.0 (all_words ws are.1)

-- a list that is written of parts is a word
word_back : {A : Type 0} (form : PartForm) (word : A → Word) (part : A → Part) (xs : List A) → AllByRecursion (IsBack form word part) xs
    → IsWord (list_word (map word xs))
word_back form word part xs are = list_is_word (map word xs) (all_of_map (IsBack form word part) IsWord word xs (λ x is. is.piece.word) are)

-- ## Sets

-- where all variables are above n, so are those of the parts, as a test
are_above : {A : Type 0} (part : A → Part) (n : ℕ) (xs : List A) → AllByRecursion (λ y. n < y) (map (λ x. (part x).var) xs)
    → list_all (λ q. nat_lt n q.var) (map part xs) ≡ true
are_above part n [] all = refl
are_above part n (x ∷ xs) all = and_from _ _ (lt-ltb n (part x).var all.0) (are_above part n xs all.1)

-- parts whose variables rise do so as a test
rise_back : {A : Type 0} (part : A → Part) (xs : List A) → Rises (map (λ x. (part x).var) xs) → rises (map part xs) ≡ true
rise_back part [] up = refl
rise_back part (x ∷ xs) up = and_from _ _ (are_above part (part x).var xs up.0) (rise_back part xs up.1)

-- parts whose variables are those of a transaction are a set
set_back : {A : Type 0} (part : A → Part) (xs : List A) → AreVariables (map (λ x. (part x).var) xs) → is_set (map part xs) ≡ true
set_back part xs are =
    let few : length (map part xs) ≤ TX_VARIABLES = omega (arith, are.0, length-map xs part, length-map xs (λ x. (part x).var)) in
    and_from _ _ (le-leb (length (map part xs)) TX_VARIABLES few) (rise_back part xs are.1)

-- ## The lists of a transaction

-- looks with variables, values and numbers in range are read back each
all_looks : (ls : List Look) → AllByRecursion (λ x. x < VARIABLES) (map (λ l. l.var) ls) → AllByRecursion (λ l. IsValue l.value) ls
    → AllByRecursion (λ l. l.nth ≤ MOST_STAMP) ls → AllByRecursion (IsBack forms.Look look_word part_of_look) ls
all_looks [] vars typed few = tt
all_looks (l ∷ ls) vars typed few = (look_back l vars.0 (typed.0, few.0), all_looks ls vars.1 typed.1 few.1)

-- writes with variables and values in range are read back each
all_pairs : (ps : List Pair) → AllByRecursion (λ x. x < VARIABLES) (map (λ w. w.var) ps) → AllByRecursion (λ w. IsValue w.value) ps
    → AllByRecursion (IsBack forms.Pair pair_word part_of_pair) ps
all_pairs [] vars are = tt
all_pairs (p ∷ ps) vars are = (pair_back p vars.0 are.0, all_pairs ps vars.1 are.1)

-- numbers with variables and numbers in range are read back each
all_numbers : (ns : List Number) → AllByRecursion (λ x. x < VARIABLES) (map (λ n. n.var) ns) → AllByRecursion (λ n. n.nth ≤ MOST_STAMP) ns
    → AllByRecursion (IsBack forms.Number number_word part_of_number) ns
all_numbers [] vars are = tt
all_numbers (n ∷ ns) vars are = (number_back n vars.0 are.0, all_numbers ns vars.1 are.1)

-- looks made parts and back are the looks
same_looks : (ls : List Look) → map look_of (map part_of_look ls) ≡ ls
same_looks [] = refl
same_looks (l ∷ ls) = ap (λ m. l ∷ m) (same_looks ls)

-- writes made parts and back are the writes
same_pairs : (ps : List Pair) → map pair_of (map part_of_pair ps) ≡ ps
same_pairs [] = refl
same_pairs (p ∷ ps) = ap (λ m. p ∷ m) (same_pairs ps)

-- numbers made parts and back are the numbers
same_numbers : (ns : List Number) → map number_of (map part_of_number ns) ≡ ns
same_numbers [] = refl
same_numbers (n ∷ ns) = ap (λ m. n ∷ m) (same_numbers ns)

-- what a transaction can be written with
record IsTxBack (tx : Tx) : Type 0 where
  looks : AllByRecursion (IsBack forms.Look look_word part_of_look) tx.looks
  writes : AllByRecursion (IsBack forms.Pair pair_word part_of_pair) tx.writes
  numbers : AllByRecursion (IsBack forms.Number number_word part_of_number) tx.numbers
  looks_set : is_set (map part_of_look tx.looks) ≡ true
  writes_set : is_set (map part_of_pair tx.writes) ≡ true
  numbers_set : is_set (map part_of_number tx.numbers) ≡ true
  named : names_few (map part_of_look tx.looks) (map part_of_pair tx.writes) ≡ true

-- the variables of the parts are those of the looks
look_vars : (ls : List Look) → vars_of (map part_of_look ls) ≡ map (λ l. l.var) ls
look_vars [] = refl
look_vars (l ∷ ls) = ap (λ xs. l.var ∷ xs) (look_vars ls)

-- and those of the writes
pair_vars : (ps : List Pair) → vars_of (map part_of_pair ps) ≡ map (λ w. w.var) ps
pair_vars [] = refl
pair_vars (p ∷ ps) = ap (λ xs. p.var ∷ xs) (pair_vars ps)

-- so together they name as many as the transaction does
names_back : (tx : Tx) → TxNamesFew tx → names_few (map part_of_look tx.looks) (map part_of_pair tx.writes) ≡ true
names_back tx named =
    ap (λ xs. nat_le (length (with_all (vars_of (map part_of_pair tx.writes)) xs)) TX_VARIABLES) (look_vars tx.looks)
    ∙ ap (λ xs. nat_le (length (with_all xs (map (λ l. l.var) tx.looks))) TX_VARIABLES) (pair_vars tx.writes)
    ∙ le-leb (length (variables_of tx)) TX_VARIABLES named

-- a transaction that is kept, typed and stamped, and names few, has lists that are read back
is_tx_back : (tx : Tx) → IsTxKept tx → IsTxTyped tx → IsTxStamped tx → TxNamesFew tx → IsTxBack tx
is_tx_back tx kept typed few named = record {
  looks = all_looks tx.looks kept.0.2 typed.0 few.0;
  writes = all_pairs tx.writes kept.1.2 typed.1;
  numbers = all_numbers tx.numbers kept.2.2 few.1;
  looks_set = set_back part_of_look tx.looks kept.0;
  writes_set = set_back part_of_pair tx.writes kept.1;
  numbers_set = set_back part_of_number tx.numbers kept.2;
  named = names_back tx named;
}

-- the words of a transaction are read as its three lists
lists_back : (tx : Tx)
    → lists_of (tx_words tx) ≡ Ok (
      list_word (map look_word tx.looks),
      list_word (map pair_word tx.writes),
      list_word
          (map number_word tx.numbers),
    )
unfolding lists_of
lists_back tx = refl

-- the parts of a transaction's lists make the transaction
parts_are_tx : (tx : Tx) → IsTxBack tx → tx_of (map part_of_look tx.looks) (map part_of_pair tx.writes) (map part_of_number tx.numbers)
    ≡ Ok tx
parts_are_tx tx back =
    rw (back.looks_set, back.writes_set, back.numbers_set, back.named)
    (rw (same_looks tx.looks, same_pairs tx.writes, same_numbers tx.numbers) refl)

-- the words of a transaction are read as it
pub tx_back : (tx : Tx) → IsTxKept tx → IsTxTyped tx → IsTxStamped tx → TxNamesFew tx → tx_in (tx_words tx) ≡ Ok tx
unfolding tx_in
tx_back tx kept typed few named =
    let back = is_tx_back tx kept typed few named in
    rw (lists_back tx)
    (rw (list_back forms.Look look_word part_of_look tx.looks back.looks)
    (rw (list_back forms.Pair pair_word part_of_pair tx.writes back.writes)
    (rw (list_back forms.Number number_word part_of_number tx.numbers back.numbers) (parts_are_tx tx back))))

-- a small letter is a word
one_letter : (b : ℕ) → 97 ≤ b → b ≤ 122 → IsWord (b ∷ [])
one_letter b low high = (omega arith, ((omega arith, omega arith, λ e. omega arith), tt))

-- the words of a transaction are words
pub tx_are_words : (tx : Tx) → IsTxKept tx → IsTxTyped tx → IsTxStamped tx → AllByRecursion IsWord (tx_words tx)
tx_are_words tx kept typed few =
    let looks = all_looks tx.looks kept.0.2 typed.0 few.0 in
    let writes = all_pairs tx.writes kept.1.2 typed.1 in
    let numbers = all_numbers tx.numbers kept.2.2 few.1 in (
      one_letter 114 (omega arith) (omega arith),
      (
        word_back forms.Look look_word part_of_look tx.looks looks,
        (
          one_letter 119 (omega arith) (omega arith),
          (
            word_back forms.Pair pair_word part_of_pair tx.writes writes,
            (
              one_letter 110 (omega arith) (omega arith),
              (word_back forms.Number number_word part_of_number tx.numbers numbers, tt),
            ),
          ),
        ),
      ),
    )
