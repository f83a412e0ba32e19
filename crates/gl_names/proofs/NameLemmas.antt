-- Names are texts, and a table takes one line after another.
use Rattle.std.proofs.Common.{◌≡◌, ◌<◌, ◌||◌, ◌&&◌, ℕ, zero, suc, Bool, true, false, true≢false, List, [], ◌∷◌, Option, Some, None, replicate, refl, sym, not, Bor, arith}
use Rattle.std.specs.Option.{option_or}
use Rattle.std.specs.Str.{IsAscii, IsUtf8}
use Rattle.std.proofs.lemmas.Bool.Decides.{nat_tests}
use Rattle.std.proofs.lemmas.Str.{IsUtf8-from_ascii}
use Rattle.std.proofs.lemmas.Str.Ascii.{IsAscii-nil}
use Rattle.gl_text.specs.Text.{is_bad, is_bad_byte}
use Rattle.gl_names.specs.Names.{is_name}
use Rattle.gl_names.specs.Tables.{slot}

-- where not one of two holds, neither does
or_none : (a b : Bool) → a || b ≡ false → (a ≡ false) × (b ≡ false)
or_none true b e = absurd (true≢false e)
or_none false b e = (refl, e)

-- a byte that a line may have is ASCII
ascii_byte : (b : ℕ) → is_bad_byte b ≡ false → b < 128
ascii_byte b e = grind (arith, nat_tests)

-- a byte below 128 before bytes that are all below it leaves them all so
ascii_more : (b : ℕ) (bs : List ℕ) → b < 128 → IsAscii bs → IsAscii (b ∷ bs)
ascii_more b bs here rest zero = here
ascii_more b bs here rest (suc i) = rest i

-- so are the bytes of a line
ascii : (bs : List ℕ) → is_bad bs ≡ false → IsAscii bs
ascii [] e = IsAscii-nil
ascii (b ∷ bs) e =
    let apart = or_none (is_bad_byte b) (is_bad bs) e in
    ascii_more b bs (ascii_byte b apart.0) (ascii bs apart.1)

-- a name that is short and not bad is not bad
good : (short bad : Bool) → short && not bad ≡ true → bad ≡ false
good true true e = absurd (true≢false (sym e))
good true false e = refl
good false bad e = absurd (true≢false (sym e))

-- a name is a text
pub name_is_text : (word : List ℕ) → is_name word ≡ true → IsUtf8 word
name_is_text word e = IsUtf8-from_ascii word (ascii word (good _ (is_bad word) e))

-- nothing stands in an empty table
pub empty : (n k : ℕ) (s : List (Option (Bor (List ℕ)))) → s ≡ replicate n None → slot s k ≡ None
empty zero k s e = rw e refl
empty (suc n) zero s e = rw e refl
empty (suc n) (suc k) s e = rw e (empty n k (replicate n None) refl)

-- a name that is given last is none where there was one
pub or_last : {A : Type 0} (o : Option A) → option_or o None ≡ o
or_last None = refl
or_last (Some x) = refl

-- the slot of a table that has taken a line more, before those that are left
pub one_more : {A : Type 0} (old line new left whole : Option A) → new ≡ option_or old line → option_or old (option_or line left) ≡ whole
    → option_or new left ≡ whole
one_more None line new left whole e w = rw e w
one_more (Some x) line new left whole e w = rw e w

-- a table that has none lacks all that is given
pub or_first : {A : Type 0} (o left whole : Option A) → o ≡ None → left ≡ whole → option_or o left ≡ whole
or_first o left whole none same = rw none same
