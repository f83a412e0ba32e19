-- One more line of a program text.
use Rattle.std.proofs.Common.{◌≡◌, ◌+◌, ◌-◌, ◌<◌, ◌≤◌, ℕ, ℤ, List, [], ◌∷◌, ◌++◌, Option, Some, None, Ok, Err, length, fold, refl, ap, sym, ◌∙◌, arith, append_assoc, length-append, subst}
use Rattle.std.specs.Prelude.{Result}
use Rattle.std.specs.List.{flat_map}
use Rattle.std.specs.Str.Lines.{lines}
use Rattle.gl_model.specs.declared.limits.TheConstants.{INPUTS}
use Rattle.gl_text.specs.Numbered.{LinesLeft}
use Rattle.gl_text.specs.Text.{words}
use Rattle.gl_bytecode.specs.Programs.{Draft, Function, with_last}
use Rattle.gl_asm.specs.declared.additions.Addition.{Addition}
use Rattle.gl_asm.specs.declared.additions.Addition.TheVariants.{Nothing, Class as AddsClass, Function as AddsFunction, Instruction as AddsInstruction, Catch as AddsCatch, Inputs as AddsInputs}
use Rattle.gl_asm.specs.declared.definitions.Definition.{Definition}
use Rattle.gl_asm.specs.declared.forms.Counts.{Counts}
use Rattle.gl_asm.specs.declared.forms.Form.{Form}
use Rattle.gl_asm.specs.declared.forms.Form.TheVariants.{Blank, Class, Function as Starts, Label, Catch, Inputs, Instruction}
use Rattle.gl_asm.specs.Additions.{IsPlaced, ◌>>=◌}
use Rattle.gl_asm.specs.Forms.{counted, form_of, none_yet}
use Rattle.gl_asm.specs.Sayings.{IsFunction, StartsFunction, said}
use Rattle.gl_asm.specs.Texts.{LineFault, added, at_line, built, inputs_in, read_from, start}

-- what there is behind some lines
pub record Reads (table : List Definition) (text : List ℕ) (parts : Draft) (inputs : List ℤ) (c : Counts) (rest : LinesLeft) : Type 0 where
  pub going : built parts inputs (read_from table c (rest.given + 1) (length inputs) rest.left)
      ≡ built (start table) [] (read_from table none_yet 1 0 (lines text))
  pub inside : 0 < c.functions → 0 < length parts.functions
  pub room : length inputs ≤ INPUTS

-- ## One addition more

-- what is built from an addition and others is what is built from the others on the draft with that addition
pub built_more : (D : Draft) (zs : List ℤ) (a : Addition) (r : Result (List Addition) LineFault)
    → built D zs (r >>= (λ others. Ok (a ∷ others))) ≡ built (added D a) (zs ++ inputs_in a) r
built_more D zs a (Ok others) = ap (λ l. Ok (fold added (added D a) others, l))
    (sym (append_assoc zs (inputs_in a) (flat_map inputs_in others)))
built_more D zs a (Err fault) = refl

-- a line that says an addition puts it into the draft, and the other lines are read on with its counts
pub line_more : (table : List Definition) (c : Counts) (n : ℕ) (D : Draft) (zs : List ℤ) (text : List ℕ) (rest : List (List ℕ))
    (a : Addition)
    → said table c n (length zs) text ≡ Ok a
    → built D zs (read_from table c n (length zs) (text ∷ rest))
    ≡ built (added D a) (zs ++ inputs_in a) (read_from table (counted c (form_of (words text))) (n + 1) (length (zs ++ inputs_in a)) rest)
line_more table c n D zs text rest a says =
    ap (λ r. built D zs (at_line n r >>= (λ b. read_from table (counted c (form_of (words text))) (n + 1)
    (length zs + length (inputs_in b)) rest >>= (λ others. Ok (b ∷ others))))) says
    ∙ built_more D zs a (read_from table (counted c (form_of (words text))) (n + 1) (length zs + length (inputs_in a)) rest)
    ∙ ap (λ k. built (added D a) (zs ++ inputs_in a) (read_from table (counted c (form_of (words text))) (n + 1) k rest))
    (sym (length-append zs (inputs_in a)))

-- ## Functions

-- a change of the last function leaves at least one function where there was one
some_last : (change : Function → Function) (Fs : List Function) → 0 < length Fs → 0 < length (with_last change Fs)
some_last change [] h = h
some_last change (F ∷ []) h = omega arith
some_last change (F ∷ G ∷ Fs) h = omega arith

-- an addition leaves a function where there was one
pub stays_some : (D : Draft) (a : Addition) → 0 < length D.functions → 0 < length (added D a).functions
stays_some D Nothing h = h
stays_some D (AddsClass p v) h = h
stays_some D (AddsFunction args locals) h = omega (arith, length-append {A = Function})
stays_some D (AddsInstruction i) h = some_last _ D.functions h
stays_some D (AddsCatch k) h = some_last _ D.functions h
stays_some D (AddsInputs zs) h = h

-- an addition that starts a function leaves a function
starts_some : (D : Draft) (a : Addition) → IsFunction a → 0 < length (added D a).functions
starts_some D Nothing is = absurd is
starts_some D (AddsClass p v) is = absurd is
starts_some D (AddsFunction args locals) is = omega (arith, length-append {A = Function})
starts_some D (AddsInstruction i) is = absurd is
starts_some D (AddsCatch k) is = absurd is
starts_some D (AddsInputs zs) is = absurd is

-- where the counts say that there is a function, the draft has one, after one more line too
pub inside_more : (D : Draft) (a : Addition) (c : Counts) (form : Option Form) → StartsFunction form a
    → (0 < c.functions → 0 < length D.functions)
    → 0 < (counted c form).functions → 0 < length (added D a).functions
inside_more D a c None is before h = stays_some D a (before h)
inside_more D a c (Some Blank) is before h = stays_some D a (before h)
inside_more D a c (Some Class) is before h = stays_some D a (before h)
inside_more D a c (Some Starts) is before h = starts_some D a is
inside_more D a c (Some Label) is before h = stays_some D a (before h)
inside_more D a c (Some Catch) is before h = stays_some D a (before h)
inside_more D a c (Some Inputs) is before h = stays_some D a (before h)
inside_more D a c (Some (Instruction i)) is before h = stays_some D a (before h)

-- what a line adds has no more inputs than there is room for
pub within_room : (functions room : ℕ) (a : Addition) → IsPlaced functions room a → length (inputs_in a) ≤ room
within_room functions room Nothing is = omega arith
within_room functions room (AddsClass p v) is = omega arith
within_room functions room (AddsFunction args locals) is = omega arith
within_room functions room (AddsInstruction i) is = omega arith
within_room functions room (AddsCatch k) is = omega arith
within_room functions room (AddsInputs zs) is = is

-- ## One line more

-- a reader that has come to a line and adds what it says has come to the line after it
pub reads_on : (table : List Definition) (text : List ℕ) (parts : Draft) (inputs : List ℤ) (c : Counts) (rest : LinesLeft)
    (line : List ℕ) (after : LinesLeft) (a : Addition) (D : Draft) (zs : List ℤ) (k : Counts)
    → Reads table text parts inputs c rest → rest.left ≡ line ∷ after.left → after.given ≡ rest.given + 1
    → said table c (rest.given + 1) (length inputs) line ≡ Ok a → StartsFunction (form_of (words line)) a
    → IsPlaced c.functions (INPUTS - length inputs) a → D ≡ added parts a → zs ≡ inputs ++ inputs_in a
    → k ≡ counted c (form_of (words line)) → Reads table text D zs k after
reads_on table text parts inputs c rest line after a D zs k reads left given says starts placed is_d is_z is_k =
    let form = form_of (words line) in
    let within : length (inputs_in a) ≤ INPUTS - length inputs = within_room c.functions (INPUTS - length inputs) a placed in
    let count : length zs ≡ length inputs + length (inputs_in a) = ap length is_z ∙ length-append inputs (inputs_in a) in
    let before : length inputs ≤ INPUTS = reads.room in
    record {
      going =
          ap (λ d. built d zs (read_from table k (after.given + 1) (length zs) after.left)) is_d
          ∙ ap (λ z. built (added parts a) z (read_from table k (after.given + 1) (length z) after.left)) is_z
          ∙ ap (λ q. built (added parts a) (inputs ++ inputs_in a)
          (read_from table q (after.given + 1) (length (inputs ++ inputs_in a)) after.left)) is_k
          ∙ ap (λ g. built (added parts a) (inputs ++ inputs_in a)
          (read_from table (counted c form) (g + 1) (length (inputs ++ inputs_in a)) after.left)) given
          ∙ sym (line_more table c (rest.given + 1) parts inputs line after.left a says)
          ∙ ap (λ l. built parts inputs (read_from table c (rest.given + 1) (length inputs) l)) (sym left)
          ∙ reads.going;
      inside = λ h.
          let some : 0 < (counted c form).functions = subst (λ (q : Counts). 0 < q.functions) is_k h in
          subst (λ (d : Draft). 0 < length d.functions) (sym is_d) (inside_more parts a c form starts reads.inside some);
      room = omega arith;
    }
