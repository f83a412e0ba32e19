-- The texts of numbered things, one more at a time.
use Rattle.std.proofs.Common.{◌≡◌, ◌+◌, ◌<◌, ◌≤◌, ℕ, List, [], ◌∷◌, ◌++◌, Option, Some, None, length, take, get_or, slice_get, refl, ap, sym, ◌∙◌, arith, append_assoc, append-nil, add-zero}
use Rattle.std.proofs.lemmas.List.{take_more, take_all, length-take-le}
use Rattle.std.proofs.Common.{inl, inr}
use Rattle.gl_bytecode.specs.declared.limits.TheConstants.{CATCHES, CODE}
use Rattle.gl_model.specs.declared.limits.TheConstants.{CLASSES}
use Rattle.gl_bytecode.specs.declared.object.Fields.{Fields}
use Rattle.gl_bytecode.specs.Faults.{IsFaultless, is_long_function}
use Rattle.gl_bytecode.specs.Validity.{IsValid}
use Rattle.std.specs.Prelude.{option_map}
use Rattle.std.specs.Option.{option_and_then}
use Rattle.std.proofs.lemmas.Option.{slice_get_within, get_or_from_slice_get, slice_get_cases}
use Rattle.std.proofs.lemmas.Bool.{or_parts, ltb-false}
use Rattle.gl_bytecode.specs.declared.instr.Catch.{Catch}
use Rattle.gl_bytecode.specs.declared.instr.Instr.{Instr}
use Rattle.gl_bytecode.specs.Programs.{Bytecode, Function, function_at}
use Rattle.gl_asm.specs.Code.{IsShort, code_of, catches_of, text_of}
use Rattle.gl_asm.specs.Listable.{AreTyped}
use Rattle.gl_asm.specs.Listing.{body, each_from, header}
use Rattle.gl_bytecode.proofs.Faultless.{none_at}

-- the texts of numbered things with one more at the end are the texts before and that of the new one
pub each_from-push : {A : Type 0} (text : ℕ → A → List ℕ) (i : ℕ) (xs : List A) (x : A)
    → each_from text i (xs ++ x ∷ []) ≡ each_from text i xs ++ text (i + length xs) x
each_from-push text i [] x = append-nil (text i x) ∙ ap (λ n. text n x) (sym (add-zero i))
each_from-push text i (y ∷ ys) x =
    ap (λ l. text i y ++ l) (each_from-push text (i + 1) ys x)
    ∙ sym (append_assoc (text i y) (each_from text (i + 1) ys) (text (i + 1 + length ys) x))
    ∙ ap (λ n. (text i y ++ each_from text (i + 1) ys) ++ text n x) (omega arith)

-- one more, which stands at place i
pub each_more : {A : Type 0} (text : ℕ → A → List ℕ) (xs : List A) (i : ℕ) (x : A) → i < length xs → get_or xs i x ≡ x
    → each_from text 0 (take (i + 1) xs) ≡ each_from text 0 (take i xs) ++ text i x
each_more text xs i x below here =
    let more : take (i + 1) xs ≡ take i xs ++ x ∷ [] = take_more xs i x below ∙ ap (λ y. take i xs ++ y ∷ []) here in
    let count : length (take i xs) ≡ i = length-take-le i xs (omega arith) in
    ap (each_from text 0) more ∙ each_from-push text 0 (take i xs) x
    ∙ ap (λ n. each_from text 0 (take i xs) ++ text n x) (omega arith)

-- ## Lists that are read until there is no more

-- the elements before a place and the one at it are the elements before the next place
pub one_more : {A : Type 0} (xs ys : List A) (at : ℕ) (x : A) → slice_get xs at ≡ Some x → ys ≡ take at xs
    → (at + 1 ≤ length xs) × (ys ++ x ∷ [] ≡ take (at + 1) xs)
one_more xs ys at x there same =
    let below : at < length xs = slice_get_within xs at x there in
    let here : get_or xs at x ≡ x = get_or_from_slice_get xs at x x there in
    (omega arith, ap (λ l. l ++ x ∷ []) same ∙ sym (take_more xs at x below ∙ ap (λ y. take at xs ++ y ∷ []) here))

-- the elements before a place that is not below the length are all of them
pub no_more : {A : Type 0} (xs ys : List A) (at : ℕ) → length xs ≤ at → ys ≡ take at xs → ys ≡ xs
no_more xs ys at past same = same ∙ take_all at xs past

-- a place where no element stands is not below the length
pub past_of : {A : Type 0} (xs : List A) (at : ℕ) → slice_get xs at ≡ None → length xs ≤ at
past_of xs at none =
    elim (slice_get_cases xs at).1 [
      | inl some ↦ let e = some.2 in cc
      | inr past ↦ past.0
    ]

-- ## Parts of a function

-- the instruction of a function at a place is the one in the list of its code, if any
pub code_there : (o : Option Function) (at : ℕ) (r : Option Instr) → r ≡ option_and_then (λ F. slice_get F.code at) o
    → slice_get (code_of o) at ≡ r
code_there None at r is = sym is
code_there (Some F) at r is = sym is

-- the three places of a catch
abbrev pub places_of : Catch → ℕ × ℕ × ℕ
places_of c = (c.from, c.to, c.target)

-- the catch of three places
abbrev pub catch_at : ℕ × ℕ × ℕ → Catch
catch_at t = record { from = t.0; to = t.1; target = t.2 }

-- where the places of a catch are these, it is the catch of these places
same_catch : (o : Option Catch) (t : ℕ × ℕ × ℕ) → Some t ≡ option_map places_of o → o ≡ Some (catch_at t)
same_catch None t is = cc
same_catch (Some c) t is = let e : t ≡ places_of c = cc in rw e refl

-- where there are no places of a catch, there is no catch
no_catch : (o : Option Catch) → None ≡ option_map places_of o → o ≡ None
no_catch None is = refl
no_catch (Some c) is = cc

-- where a function's catch has these places, the catch of these places is in its list
pub catch_there : (o : Option Function) (i : ℕ) (t : ℕ × ℕ × ℕ) → Some t
    ≡ option_map places_of (option_and_then (λ F. slice_get F.catches i) o)
    → slice_get (catches_of o) i ≡ Some (catch_at t)
catch_there None i t is = cc
catch_there (Some F) i t is = same_catch (slice_get F.catches i) t is

-- where a function has no places of a catch, there is none in its list
pub no_catch_there : (o : Option Function) (i : ℕ) → None ≡ option_map places_of (option_and_then (λ F. slice_get F.catches i) o)
    → slice_get (catches_of o) i ≡ None
no_catch_there None i is = refl
no_catch_there (Some F) i is = no_catch (slice_get F.catches i) is

-- ## One more text

-- a text that goes up to an element goes up to the next one when the element's own text is put after it
pub text_more : {A : Type 0} (text : ℕ → A → List ℕ) (xs : List A) (i : ℕ) (x : A) (start old new : List ℕ) → slice_get xs i ≡ Some x
    → old ≡ start ++ each_from text 0 (take i xs) → new ≡ old ++ text i x → new ≡ start ++ each_from text 0 (take (i + 1) xs)
text_more text xs i x start old new there before after =
    let below : i < length xs = slice_get_within xs i x there in
    let here : get_or xs i x ≡ x = get_or_from_slice_get xs i x x there in
    after ∙ ap (λ s. s ++ text i x) before ∙ append_assoc start (each_from text 0 (take i xs)) (text i x)
    ∙ ap (λ s. start ++ s) (sym (each_more text xs i x below here))

-- the class of so many plain and volatile fields
abbrev pub fields_of : ℕ × ℕ → Fields
fields_of t = record { plain = t.0; volatile = t.1 }

-- where a class has these two numbers of fields, it is the class of those
pub class_there : (o : Option Fields) (t : ℕ × ℕ) → Some t ≡ option_map (λ (c : Fields). (c.plain, c.volatile)) o → o ≡ Some (fields_of t)
class_there None t is = cc
class_there (Some c) t is = let e : t ≡ (c.plain, c.volatile) = cc in rw e refl

-- a header, and a body of the function's own code and catches, are the function's text
pub function_is : (o : Option Function) (main f : ℕ) (shape : ℕ × ℕ) (code : List Instr) (catches : List Catch)
    → Some shape ≡ option_map (λ (F : Function). (F.args, F.locals)) o → code ≡ code_of o → catches ≡ catches_of o
    → header main f shape.0 shape.1 ++ body main code catches ≡ text_of main f o
function_is None main f shape code catches is same all = cc
function_is (Some F) main f shape code catches is same all =
    let e : shape ≡ (F.args, F.locals) = cc in
    rw e (rw same (rw all refl))

-- below the number of functions there is one
pub function_there : (Fs : List Function) (main f : ℕ) → f < length Fs → (F : Function) × (slice_get Fs f ≡ Some F)
function_there Fs main f below =
    elim (slice_get_cases Fs f).1 [
      | inl some ↦ (some.0, some.2)
      | inr past ↦ absurd (omega (arith, past.0))
    ]

-- what is not there has no operands
pub none_typed : (o : Option Function) → o ≡ None → AreTyped (code_of o)
none_typed None is = λ at i there. cc
none_typed (Some F) is = cc

-- ## Limits

-- a function that is there, or none, has no more instructions than it may have
code_short : (P : Bytecode) (f : ℕ) (o : Option Function) → ((F : Function) → o ≡ Some F → length F.code ≤ CODE) → length (code_of o) ≤ CODE
code_short P f None all = omega arith
code_short P f (Some F) all = all F refl

-- a function that is there, or none, has no more catches than it may have
catches_short : (o : Option Function) → ((F : Function) → o ≡ Some F → length F.catches ≤ CATCHES) → length (catches_of o) ≤ CATCHES
catches_short None all = omega arith
catches_short (Some F) all = all F refl

-- a faultless and valid program has no more classes, instructions and catches than are listed
pub is_short : (P : Bytecode) → IsFaultless P → IsValid P → IsShort P
is_short P ok valid =
    let a = or_parts _ _ ok.short in
    let b = or_parts _ _ a.0 in
    let c = or_parts _ _ b.0 in
    record {
      classes = ltb-false CLASSES (length P.classes) c.1;
      code = λ f. code_short P f (function_at P f) (λ F is. valid.1.short f F is);
      catches = λ f. catches_short (function_at P f) (λ F is.
          let long = none_at is_long_function P.functions f F b.1 is in
          let d = or_parts _ _ (or_parts _ _ long).0 in
          ltb-false CATCHES (length F.catches) d.0);
    }
