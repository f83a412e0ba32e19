-- Rising lists of variables, read one number after another, and the commits that have them.
use Rattle.std.proofs.Common.{◌≡◌, ◌≤◌, ℕ, List, [], ◌∷◌, ◌++◌, Bool, true, false, ◌==◌, ◌-◌, Some, None, Result, Ok, Err, nat_le, refl, ap, sym, ◌∙◌, arith, append_assoc}
use Rattle.std.specs.Prelude.{codes, bytes_eq, ◌||◌, if◌then◌else◌}
use Rattle.std.specs.List.{slice_split, onto_first, list_any, list_all}
use Rattle.std.specs.Char.{is_ascii_digit}
use Rattle.std.proofs.lemmas.Bool.{leb-true, ne_eqb, and_parts}
use Rattle.std.proofs.lemmas.List.Splits.{slice_split-cons_yes, slice_split-cons_no}
use Rattle.gl_model.specs.declared.limits.TheConstants.{THREADS, VARIABLES}
use Rattle.gl_model.specs.declared.row.Item.TheVariants.{Commit as Commits}
use Rattle.gl_text.specs.Text.{is_some_word, words}
use Rattle.gl_trace.specs.Ids.{operand_of, ids_of, with_first, kept_set, set_of, is_comma, is_set, as_set}
use Rattle.gl_trace.specs.Kept.{with_last}
use Rattle.gl_trace.specs.Phrase.{lists_of, commit_said, step_said, said}
use Rattle.gl_trace.specs.Quick.{is_end, Begins, IsFirstLine}
use Rattle.gl_trace.proofs.IdsLemmas.{after}
use Rattle.gl_trace.proofs.QuickLemmas.{none_in_both, words_behind, words_last, word_plain, spaced_plain, plain_line}

-- ---- digits are none of these

module _ (p : ℕ → Bool) (none : (b : ℕ) → 48 ≤ b → b ≤ 57 → p b ≡ false) where
  -- where a test passes no digit, it passes nothing in a word of digits
  pub digits_none : (ds : List ℕ) → list_all is_ascii_digit ds ≡ true → list_any p ds ≡ false
  digits_none [] e = refl
  digits_none (b ∷ bs) e =
      let both = and_parts (is_ascii_digit b) (list_all is_ascii_digit bs) e in
      let range = and_parts (nat_le 48 b) (nat_le b 57) both.0 in
      rw (none b (leb-true 48 b range.0) (leb-true b 57 range.1), digits_none bs both.1) refl

-- digits have no comma
comma_free : (ds : List ℕ) → list_all is_ascii_digit ds ≡ true → list_any is_comma ds ≡ false
comma_free = digits_none is_comma (λ b l h. ne_eqb b 44 (λ e. omega arith))

-- there is a minus among these bytes
abbrev has_minus : List ℕ → Bool
has_minus bs = list_any (λ b. b == 45) bs

-- digits have no minus
minus_free : (ds : List ℕ) → list_all is_ascii_digit ds ≡ true → has_minus ds ≡ false
minus_free = digits_none (λ b. b == 45) (λ b l h. ne_eqb b 45 (λ e. omega arith))

-- bytes without a minus are not a minus alone
not_minus : (bs : List ℕ) → has_minus bs ≡ false → bytes_eq bs (codes "-") ≡ false
not_minus [] e = refl
not_minus (b ∷ bs) e = by (b == 45) refl e
  where
    by : (c : Bool) → (b == 45) ≡ c → has_minus (b ∷ bs) ≡ false → bytes_eq (b ∷ bs) (codes "-") ≡ false
    by true f g = absurd (let h : has_minus (b ∷ bs) ≡ true = rw f refl in cc)
    by false f g = rw f refl

-- ---- parts between commas

-- where neither of two tests holds, both fail
or_none : (a b : Bool) → (a || b) ≡ false → (a ≡ false) × (b ≡ false)
or_none true b e = absurd (cc)
or_none false b e = (refl, e)

-- a word, a comma and more are split at the comma
comma_behind : (w rest : List ℕ) → list_any is_comma w ≡ false → slice_split is_comma (w ++ 44 ∷ rest) ≡ w ∷ slice_split is_comma rest
comma_behind [] rest e = slice_split-cons_yes is_comma 44 rest refl
comma_behind (x ∷ xs) rest e =
    let both = or_none (is_comma x) (list_any is_comma xs) e in
    slice_split-cons_no is_comma x (xs ++ 44 ∷ rest) both.0 ∙ ap (onto_first x) (comma_behind xs rest both.1)

-- a word without a comma is one piece
comma_none : (w : List ℕ) → list_any is_comma w ≡ false → slice_split is_comma w ≡ w ∷ []
comma_none [] e = refl
comma_none (x ∷ xs) e =
    let both = or_none (is_comma x) (list_any is_comma xs) e in
    slice_split-cons_no is_comma x xs both.0 ∙ ap (onto_first x) (comma_none xs both.1)

-- ---- the numbers so far

-- a number at the front of the rest is as one at the end of the first
after_one : (xs : List ℕ) (n : ℕ) (r : Result (List ℕ) ℕ) → after xs (with_first (Ok n) r) ≡ after (xs ++ n ∷ []) r
after_one xs n (Ok ys) = ap Ok (sym (append_assoc xs (n ∷ []) ys))
after_one xs n (Err kind) = refl

-- what is a set as it is kept is that list, and a set
set_new : (new xs : List ℕ) → Some new ≡ as_set xs → (new ≡ xs) × (is_set xs ≡ true)
set_new new xs e = by (is_set xs) refl e
  where
    by : (b : Bool) → is_set xs ≡ b → Some new ≡ (if b then Some xs else None) → (new ≡ xs) × (is_set xs ≡ true)
    by true f g = (cc, f)
    by false f g = absurd (cc)

-- behind a front of the text these numbers were read, and no others
pub record IsListed (text kept rest : List ℕ) : Type 0 where
  pub front : List ℕ
  pub whole : text ≡ front ++ rest
  pub clean : list_any is_end front ≡ false
  pub minus : list_any (λ b. b == 45) front ≡ false
  pub ids : (tail : List ℕ) → ids_of (slice_split is_comma (front ++ tail)) ≡ after kept (ids_of (slice_split is_comma tail))
  pub set : is_set kept ≡ true

module _ (text kept rest w : List ℕ) (stop : ℕ) (more' : List ℕ) (id : ℕ) (new : List ℕ) (l : IsListed text kept rest)
    (b : Begins rest w stop more') (value : operand_of (VARIABLES - 1) w ≡ Ok id) (digits : list_all is_ascii_digit w ≡ true)
    (put : Some new
    ≡ with_last (Some kept) id) where
  -- the new list is the kept one with the number behind it, and is a set
  is_new : (new ≡ kept ++ id ∷ []) × (is_set (kept ++ id ∷ []) ≡ true)
  is_new = set_new new (kept ++ id ∷ []) put

  -- where a comma ends the word, the set with its number was read up to behind the comma
  pub listed_more : stop ≡ 44 → IsListed text new more'
  listed_more comma = record {
    front = l.front ++ (w ++ 44 ∷ []);
    whole = l.whole ∙ ap (λ r. l.front ++ r) (b.whole ∙ ap (λ s. w ++ s ∷ more') comma ∙ sym (append_assoc w (44 ∷ []) more'))
        ∙ sym (append_assoc l.front (w ++ 44 ∷ []) more');
    clean = none_in_both is_end l.front (w ++ 44 ∷ []) l.clean (none_in_both is_end w (44 ∷ []) b.is_word.1 refl);
    minus = none_in_both (λ c. c == 45) l.front (w ++ 44 ∷ []) l.minus (none_in_both (λ c. c == 45) w (44 ∷ []) (minus_free w digits) refl);
    ids = λ tail.
        ap (λ t. ids_of (slice_split is_comma t)) (append_assoc l.front (w ++ 44 ∷ []) tail
        ∙ ap (λ t. l.front ++ t) (append_assoc w (44 ∷ []) tail))
        ∙ l.ids (w ++ 44 ∷ tail) ∙ ap (λ ps. after kept (ids_of ps)) (comma_behind w tail (comma_free w digits))
        ∙ ap (λ r. after kept (with_first r (ids_of (slice_split is_comma tail)))) value
        ∙ after_one kept id (ids_of (slice_split is_comma tail))
        ∙ ap (λ xs. after xs (ids_of (slice_split is_comma tail))) (sym is_new.0);
    set = ap is_set is_new.0 ∙ is_new.1;
  }

  -- if a word is not empty, it is not empty with more before it
  some_more : (xs : List ℕ) → is_some_word w ≡ true → is_some_word (xs ++ w) ≡ true
  some_more [] e = e
  some_more (x ∷ xs) e = refl

  -- the text begins with a word, up to where this number ends, that reads as the set with it
  pub listed_all : (word : List ℕ) × Begins text word stop more' × (set_of word ≡ Ok (Some new)) × (is_set new ≡ true)
  listed_all = (
    l.front ++ w,
    record {
      whole = l.whole ∙ ap (λ r. l.front ++ r) b.whole ∙ sym (append_assoc l.front w (stop ∷ more'));
      is_word = (some_more l.front b.is_word.0, none_in_both is_end l.front w l.clean b.is_word.1);
    },
    rw (not_minus (l.front ++ w) (none_in_both (λ c. c == 45) l.front w l.minus (minus_free w digits))) (ap kept_set read
        ∙ ap (λ o. Ok o) (sym put)),
    ap is_set is_new.0 ∙ is_new.1,
  )
    where
      read : ids_of (slice_split is_comma (l.front ++ w)) ≡ Ok (kept ++ id ∷ [])
      read = l.ids w ∙ ap (λ ps. after kept (ids_of ps)) (comma_none w (comma_free w digits))
          ∙ ap (λ r. after kept (with_first r (Ok []))) value

-- ---- a line of a commit

-- a thread and a commit's words, with two sets, say that commit
said_commit : (t a b : List ℕ) (thread : ℕ) (reads writes : List ℕ) → operand_of (THREADS - 1) t ≡ Ok thread → set_of a ≡ Ok (Some reads)
    → set_of b ≡ Ok (Some writes)
    → said (t ∷ (codes "commit" ∷ (codes "r" ∷ (a ∷ (codes "w" ∷ (b ∷ [])))))) ≡ Ok (Some (thread, Commits reads writes))
unfolding step_said commit_said lists_of
said_commit t a b thread reads writes x y z = rw (x, y, z) refl

-- a word, a blank and a line are a line
spaced_whole : (text w r line rest : List ℕ) → Begins text w 32 r → r ≡ line ++ 10 ∷ rest → text ≡ (w ++ 32 ∷ line) ++ 10 ∷ rest
spaced_whole text w r line rest b e = b.whole ∙ ap (λ l. w ++ 32 ∷ l) e ∙ sym (append_assoc w (32 ∷ line) (10 ∷ rest))

-- a text that begins with the words of a commit has that commit as its first line
pub commit_line : (text r1 r2 r3 r4 r5 rest t a b : List ℕ) (thread : ℕ) (reads writes : List ℕ) → Begins text t 32 r1 → r1
    ≡ codes "commit" ++ 32 ∷ r2 → r2 ≡ codes "r" ++ 32 ∷ r3 → Begins r3 a 32 r4 → r4 ≡ codes "w" ++ 32 ∷ r5 → Begins r5 b 10 rest
    → operand_of (THREADS - 1) t ≡ Ok thread → set_of a ≡ Ok (Some reads) → set_of b ≡ Ok (Some writes) → (line : List ℕ)
    × IsFirstLine text line rest × (said (words line) ≡ Ok (Some (thread, Commits reads writes)))
commit_line text r1 r2 r3 r4 r5 rest t a b thread reads writes bt ec er ba ew bb x y z =
    let bc : Begins r1 (codes "commit") 32 r2 = record { whole = ec; is_word = (refl, refl) } in
    let br : Begins r2 (codes "r") 32 r3 = record { whole = er; is_word = (refl, refl) } in
    let bw : Begins r4 (codes "w") 32 r5 = record { whole = ew; is_word = (refl, refl) } in
    let l4 : List ℕ = codes "w" ++ 32 ∷ b in
    let l3 : List ℕ = a ++ 32 ∷ l4 in
    let l2 : List ℕ = codes "r" ++ 32 ∷ l3 in
    let l1 : List ℕ = codes "commit" ++ 32 ∷ l2 in
    let ws : words (t ++ 32 ∷ l1) ≡ t ∷ (codes "commit" ∷ (codes "r" ∷ (a ∷ (codes "w" ∷ (b ∷ []))))) =
    words_behind t l1 bt.is_word ∙ ap (λ l. t ∷ l) (words_behind (codes "commit") l2 bc.is_word
    ∙ ap (λ l. codes "commit" ∷ l) (words_behind (codes "r") l3 br.is_word
    ∙ ap (λ l. codes "r" ∷ l) (words_behind a l4 ba.is_word
    ∙ ap (λ l. a ∷ l) (words_behind (codes "w") b bw.is_word ∙ ap (λ l. codes "w" ∷ l) (words_last b bb.is_word))))) in
    let whole : text ≡ (t ++ 32 ∷ l1) ++ 10 ∷ rest =
    spaced_whole text t r1 l1 rest bt (spaced_whole r1 (codes "commit") r2 l2 rest bc
    (spaced_whole r2 (codes "r") r3 l3 rest br (spaced_whole r3 a r4 l4 rest ba (spaced_whole r4 (codes "w") r5 b rest bw bb.whole)))) in
    let plain = spaced_plain t l1 bt.is_word (spaced_plain (codes "commit") l2 bc.is_word
    (spaced_plain (codes "r") l3 br.is_word (spaced_plain a l4 ba.is_word
    (spaced_plain (codes "w") b bw.is_word (word_plain b bb.is_word))))) in
    (t ++ 32 ∷ l1, plain_line text (t ++ 32 ∷ l1) rest plain whole, ap said ws ∙ said_commit t a b thread reads writes x y z)
