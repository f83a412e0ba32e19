-- How far the lines of a text have come, a line at a time.
use Rattle.std.proofs.Common.{◌≡◌, ℕ, zero, suc, ◌+◌, ◌-◌, ◌<◌, ◌≤◌, Bool, true, false, ◌==◌, ◌&&◌, List, [], ◌∷◌, ◌++◌, Option, Some, None, Ok, length, take, drop, refl, sym, ◌∙◌, ap, subst, inl, inr, arith, length-append, eq-eqb, not, if◌then◌else◌, is_some, bytes_eq}
use Rattle.std.specs.Prelude.{Result, ◌⊎◌, codes, option_map, slice_get}
use Rattle.std.specs.List.{before_first}
use Rattle.std.specs.Str.{IsTrimAscii}
use Rattle.std.specs.Str.Lines.{lines}
use Rattle.std.proofs.lemmas.Bool.{eqb-true, and_parts}
use Rattle.std.proofs.lemmas.Option.{slice_get_past}
use Rattle.std.proofs.lemmas.List.Sums.{fold-append}
use Rattle.gl_text.specs.Numbered.{LinesLeft}
use Rattle.gl_text.specs.Text.{is_hash, words}
use Rattle.gl_bytecode.specs.declared.instr.Instr.{Instr}
use Rattle.gl_bytecode.specs.Programs.{Draft}
use Rattle.gl_bytecode.proofs.Drafts.{length_with_last}
use Rattle.gl_asm.specs.declared.additions.Addition.{Addition}
use Rattle.gl_asm.specs.declared.additions.Addition.TheVariants.{Nothing, Class as AddsClass, Function as AddsFunction, Instruction as AddsInstruction, Catch as AddsCatch, Inputs as AddsInputs}
use Rattle.gl_asm.specs.declared.forms.Counts.{Counts}
use Rattle.gl_asm.specs.declared.forms.Form.{Form}
use Rattle.gl_asm.specs.declared.forms.Form.TheVariants as forms
use Rattle.gl_asm.specs.Definitions.{definitions}
use Rattle.gl_asm.specs.Forms.{form_of, none_yet, word_form}
use Rattle.gl_asm.specs.Names.{label_of}
use Rattle.gl_asm.specs.Words.{template_of}
use Rattle.gl_asm.specs.Code.{code_of}
use Rattle.gl_asm.specs.Texts.{LineFault, added, read_from, start}
use Rattle.gl_sites.specs.declared.adding.Adds.{Adds}
use Rattle.gl_sites.specs.declared.adding.Adds.TheVariants as adds
use Rattle.gl_sites.specs.Adding.{adds_of, finds, functions_after, instructions_after, kind_of, name_after, word_adds, words_add}
use Rattle.gl_sites.specs.SourceLines.{AddsNext, AreAdded, IsLineOf, IsNameOf, IsSourceOf, draft_by}
use Rattle.gl_sites.proofs.Growing.{code_at, longer_by_one, same_with_catch, same_with_function}
use Rattle.gl_sites.proofs.Said.{HasSecond, ReadsOne, reads_one}

-- ## Lists that are cut

-- a number is at most another, or more
at_most_or_more : (m n : ℕ) → (m ≤ n) ⊎ (n < m)
at_most_or_more zero n = inl (omega arith)
at_most_or_more (suc m) zero = inr (omega arith)
at_most_or_more (suc m) (suc n) =
    elim (at_most_or_more m n) [
      | inl less ↦ inl (omega (arith, less))
      | inr more ↦ inr (omega (arith, more))
    ]

-- what stands at a cut, and the cuts one further
pub record CutAt {A : Type 0} (xs : List A) (k : ℕ) (y : A) (ys : List A) : Type 0 where
  pub there : slice_get xs k ≡ Some y
  pub front : take (k + 1) xs ≡ take k xs ++ y ∷ []
  pub behind : drop (k + 1) xs ≡ ys

-- what is left of a list from a place on is the element at the place and what comes after it
pub cut_at : {A : Type 0} (xs : List A) (k : ℕ) (y : A) (ys : List A) → drop k xs ≡ y ∷ ys → CutAt xs k y ys
cut_at [] zero y ys is = cc
cut_at [] (suc k) y ys is = cc
cut_at (x ∷ xs) zero y ys is = record { there = cc; front = cc; behind = cc }
cut_at (x ∷ xs) (suc k) y ys is =
    let cut = cut_at xs k y ys is in
    let next : suc k + 1 ≡ suc (k + 1) = omega arith in
    record {
      there = cut.there;
      front = ap (λ m. take m (x ∷ xs)) next ∙ ap (λ zs. x ∷ zs) cut.front;
      behind = ap (λ m. drop m (x ∷ xs)) next ∙ cut.behind;
    }

-- where nothing is left behind a cut, all stand before it
pub before_cut : {A : Type 0} (xs : List A) (k j : ℕ) (y : A) → drop k xs ≡ [] → slice_get xs j ≡ Some y → j < k
before_cut [] k j y none there = cc
before_cut (x ∷ xs) zero j y none there = cc
before_cut (x ∷ xs) (suc k) zero y none there = omega arith
before_cut (x ∷ xs) (suc k) (suc j) y none there =
    let less : j < k = before_cut xs k j y none there in omega arith

-- ## What a line adds

-- what the tests of a first word say of a line's addition is what its form says
by_word : (c f k n : Bool) (t : Option Instr) (form : Form)
    → (if c then Some forms.Class else if f then Some forms.Function else if k then Some forms.Catch else if n then Some forms.Inputs
    else option_map forms.Instruction t) ≡ Some form
    → (if c then adds.Neither else if f then adds.Function else if k then adds.Neither else if n then adds.Neither else adds.Instruction)
    ≡ adds_of form
by_word true f k n t form is = (let same : forms.Class ≡ form = cc in ap adds_of same)
by_word false true k n t form is = (let same : forms.Function ≡ form = cc in ap adds_of same)
by_word false false true n t form is = (let same : forms.Catch ≡ form = cc in ap adds_of same)
by_word false false false true t form is = (let same : forms.Inputs ≡ form = cc in ap adds_of same)
by_word false false false false (Some x) form is = (let same : forms.Instruction x ≡ form = cc in ap adds_of same)
by_word false false false false None form is = cc

-- what a line's first word says of its addition is what the word's form says
word_is : (w : List ℕ) (alone : Bool) (form : Form) → word_form w alone ≡ Some form → word_adds w alone ≡ adds_of form
word_is w alone form is =
    by_word (bytes_eq w (codes "class")) (bytes_eq w (codes "func")) (bytes_eq w (codes "catch"))
    (bytes_eq w (codes "input") && not alone) (template_of w) form is

-- what the test for a label says of a line's addition is what its form says
by_label : (b : Bool) (other : Option Form) (kind : Adds) (form : Form) → (other ≡ Some form → kind ≡ adds_of form)
    → (if b then Some forms.Label else other) ≡ Some form → (if b then adds.Neither else kind) ≡ adds_of form
by_label true other kind form known is = (let same : forms.Label ≡ form = cc in ap adds_of same)
by_label false other kind form known is = known is

-- where the words tell a form, the line adds what the form says
pub known_adds : (ws : List (List ℕ)) (form : Form) → form_of ws ≡ Some form → words_add ws ≡ adds_of form
known_adds [] form is = (let same : forms.Blank ≡ form = cc in ap adds_of same)
known_adds (w ∷ []) form is = by_label (is_some (label_of w)) (word_form w true) (word_adds w true) form (word_is w true form) is
known_adds (w ∷ v ∷ ws) form is = word_is w false form is

-- ## One addition

-- how many functions there are, and how many instructions the last has
pub record Has (D : Draft) (functions instructions : ℕ) : Type 0 where
  pub counted : length D.functions ≡ functions
  pub placed : 0 < functions → length (code_at D.functions (functions - 1)) ≡ instructions

-- with an addition there are as many functions and instructions as its kind counts
pub has_more : (D : Draft) (a : Addition) (functions instructions : ℕ) → Has D functions instructions
    → Has (added D a) (functions_after (kind_of a) functions) (instructions_after (kind_of a) instructions)
has_more D Nothing f i has = has
has_more D (AddsClass p v) f i has = record { counted = has.counted; placed = has.placed }
has_more D (AddsFunction args locals) f i has = record {
  counted = length-append D.functions ((record { args = args; locals = locals; code = []; catches = [] }) ∷ [])
      ∙ ap (λ n. n + 1) has.counted;
  placed = λ some.
      let last : f + 1 - 1 ≡ f = omega arith in
      let past : length D.functions ≤ f = omega (arith, has.counted) in
      ap length (ap (λ k. code_at (D.functions ++ (record { args = args; locals = locals; code = []; catches = [] }) ∷ []) k) last
      ∙ same_with_function D.functions (record { args = args; locals = locals; code = []; catches = [] }) f refl)
      ∙ ap (λ F. length (code_of F)) (slice_get_past D.functions f past);
}
has_more D (AddsInstruction y) f i has = record {
  counted = length_with_last _ D.functions ∙ has.counted;
  placed = λ some.
      let last : length D.functions ≡ (f - 1) + 1 = omega (arith, has.counted, some) in
      longer_by_one D.functions y (f - 1) last ∙ ap (λ n. n + 1) (has.placed some);
}
has_more D (AddsCatch k) f i has = record {
  counted = length_with_last _ D.functions ∙ has.counted;
  placed = λ some. ap length (same_with_catch D.functions k (f - 1)) ∙ has.placed some;
}
has_more D (AddsInputs zs) f i has = has

-- ## The lines so far

-- where the lines have come to: what is left of them and of what they add, what there is so far, and the last function's name
pub record Passed (text : List ℕ) (adding : List Addition) (rest : LinesLeft) (functions instructions : ℕ) (name : List ℕ) : Type 0 where
  pub counts : Counts
  pub inputs : ℕ
  pub left : drop rest.given (lines text) ≡ rest.left
  pub read : read_from (definitions (lines text)) counts (rest.given + 1) inputs rest.left ≡ Ok (drop rest.given adding)
  pub has : Has (draft_by text (take rest.given adding)) functions instructions
  pub named : 0 < functions → IsNameOf text (functions - 1) name

-- before the first line
pub passed_none : (text : List ℕ) (adding : List Addition) (rest : LinesLeft) (name : List ℕ) → AreAdded text adding → rest.given ≡ 0
    → rest.left ≡ lines text → Passed text adding rest 0 0 name
passed_none text adding rest name all given left = record {
  counts = none_yet;
  inputs = 0;
  left = ap (λ n. drop n (lines text)) given ∙ sym left;
  read = ap (λ ls. read_from (definitions (lines text)) none_yet (rest.given + 1) 0 ls) left
      ∙ ap (λ n. read_from (definitions (lines text)) none_yet (n + 1) 0 (lines text)) given
      ∙ all ∙ ap (λ n. Ok (drop n adding)) (sym given);
  has = record {
    counted = ap (λ n. length (draft_by text (take n adding)).functions) given;
    placed = λ some. absurd (omega (arith, some));
  };
  named = λ some. absurd (omega (arith, some));
}

-- what the next line adds
pub record Meets (text : List ℕ) (adding : List Addition) (rest : LinesLeft) (line : List ℕ) (after : LinesLeft) (kind : Adds) : Type 0
  where
    pub addition : Addition
    pub is_kind : kind_of addition ≡ kind
    pub named : kind ≡ adds.Function → HasSecond (words line)
    pub next : AddsNext text rest.given (draft_by text (take rest.given adding)) line addition
    pub grown : draft_by text (take after.given adding) ≡ added (draft_by text (take rest.given adding)) addition
    pub counts : Counts
    pub inputs : ℕ
    pub left : drop after.given (lines text) ≡ after.left
    pub read : read_from (definitions (lines text)) counts (after.given + 1) inputs after.left ≡ Ok (drop after.given adding)

-- of the forms a header's alone adds a function
header_alone : (form : Form) → adds_of form ≡ adds.Function → form ≡ forms.Function
header_alone forms.Blank is = cc
header_alone forms.Class is = cc
header_alone forms.Function is = refl
header_alone forms.Label is = cc
header_alone forms.Catch is = cc
header_alone forms.Inputs is = cc
header_alone (forms.Instruction i) is = cc

-- the next line adds what its form says
pub meets : (text : List ℕ) (adding : List Addition) (rest : LinesLeft) (functions instructions : ℕ) (name line : List ℕ)
    (after : LinesLeft) (kind : Adds) → AreAdded text adding → Passed text adding rest functions instructions name
    → rest.left ≡ line ∷ after.left → after.given ≡ rest.given + 1
    → ((form : Form) → form_of (words line) ≡ Some form → kind ≡ adds_of form) → Meets text adding rest line after kind
meets text adding rest functions instructions name line after kind all passed lefts given kinds =
    let table = definitions (lines text) in
    let one : ReadsOne table passed.counts (rest.given + 1) passed.inputs line after.left (drop rest.given adding) =
    reads_one table passed.counts (rest.given + 1) passed.inputs line after.left (drop rest.given adding)
    (ap (λ ls. read_from table passed.counts (rest.given + 1) passed.inputs ls) (sym lefts) ∙ passed.read) in
    let cut : CutAt adding rest.given one.first one.others = cut_at adding rest.given one.first one.others one.same in
    let lined : CutAt (lines text) rest.given line after.left = cut_at (lines text) rest.given line after.left (passed.left ∙ lefts) in
    let kind_is : kind ≡ adds_of one.is.told = kinds one.is.told one.is.has in
    record {
      addition = one.first;
      is_kind = one.is.adds ∙ sym kind_is;
      named = λ is. one.is.named (header_alone one.is.told (sym kind_is ∙ is));
      next = record { additions = adding; all = all; so_far = refl; there = lined.there; adds = cut.there };
      grown = ap (λ n. draft_by text (take n adding)) given ∙ ap (draft_by text) cut.front
          ∙ fold-append added (start table) (take rest.given adding) (one.first ∷ []);
      counts = one.counts;
      inputs = one.inputs;
      left = ap (λ n. drop n (lines text)) given ∙ lined.behind;
      read = ap (λ n. read_from table one.counts (n + 1) one.inputs after.left) given ∙ one.later
          ∙ ap Ok (sym cut.behind ∙ ap (λ n. drop n adding) (sym given));
    }

-- the name of a function that a line adds
names_it : (text : List ℕ) (before functions : ℕ) (D : Draft) (line : List ℕ) (a : Addition) (word : List ℕ)
    → kind_of a ≡ adds.Function → AddsNext text before D line a → length D.functions ≡ functions → slice_get (words line) 1 ≡ Some word
    → IsNameOf text functions word
names_it text before f D line Nothing word is next count second = cc
names_it text before f D line (AddsClass p v) word is next count second = cc
names_it text before f D line (AddsFunction p v) word is next count second =
    record { before = before; draft = D; line = line; args = p; locals = v; adds = next; functions = count; word = second }
names_it text before f D line (AddsInstruction i) word is next count second = cc
names_it text before f D line (AddsCatch k) word is next count second = cc
names_it text before f D line (AddsInputs zs) word is next count second = cc

-- the last function's name, behind the line
named_on : (text : List ℕ) (before functions : ℕ) (D : Draft) (line : List ℕ) (a : Addition) (name : List ℕ) (kind : Adds)
    → kind_of a ≡ kind → (kind ≡ adds.Function → HasSecond (words line)) → AddsNext text before D line a
    → length D.functions ≡ functions → (0 < functions → IsNameOf text (functions - 1) name) → 0 < functions_after kind functions
    → IsNameOf text (functions_after kind functions - 1) (name_after kind (slice_get (words line) 1) name)
named_on text before f D line a name adds.Function is second next count named some =
    let has = second refl in
    let last : f ≡ f + 1 - 1 = omega arith in
    subst (λ n. IsNameOf text n (name_after adds.Function (slice_get (words line) 1) name)) last
    (subst (λ w. IsNameOf text f (name_after adds.Function w name)) (sym has.1) (names_it text before f D line a has.0 is next count has.1))
named_on text before f D line a name adds.Instruction is second next count named some = named some
named_on text before f D line a name adds.Neither is second next count named some = named some

-- a line more
pub passed_more : (text : List ℕ) (adding : List Addition) (rest : LinesLeft) (functions instructions : ℕ) (name line : List ℕ)
    (after : LinesLeft) (kind : Adds) → Passed text adding rest functions instructions name → Meets text adding rest line after kind
    → Passed text adding after (functions_after kind functions) (instructions_after kind instructions)
    (name_after kind (slice_get (words line) 1) name)
passed_more text adding rest f i name line after kind passed m = record {
  counts = m.counts;
  inputs = m.inputs;
  left = m.left;
  read = m.read;
  has = subst (λ (D : Draft). Has D (functions_after kind f) (instructions_after kind i)) (sym m.grown)
      (subst (λ k. Has (added (draft_by text (take rest.given adding)) m.addition) (functions_after k f) (instructions_after k i)) m.is_kind
      (has_more (draft_by text (take rest.given adding)) m.addition f i passed.has));
  named = named_on text rest.given f (draft_by text (take rest.given adding)) line m.addition name kind m.is_kind m.named m.next
      passed.has.counted passed.named;
}

-- ## Is it the line?

-- the line, where the addition is an instruction
line_here : (text : List ℕ) (before functions f i : ℕ) (D : Draft) (line : List ℕ) (a : Addition) → kind_of a ≡ adds.Instruction
    → AddsNext text before D line a → Has D functions i → functions ≡ f + 1
    → (here : IsLineOf text f i (before + 1)) × (here.line ≡ line)
line_here text before n f i D line Nothing is next has same = cc
line_here text before n f i D line (AddsClass p v) is next has same = cc
line_here text before n f i D line (AddsFunction p v) is next has same = cc
line_here text before n f i D line (AddsInstruction x) is next has same =
    let some : 0 < n = omega (arith, same) in
    let last : n - 1 ≡ f = omega (arith, same) in (
      record {
        before = before;
        draft = D;
        line = line;
        instr = x;
        number = refl;
        adds = next;
        functions = has.counted ∙ same;
        instructions = ap (λ k. length (code_at D.functions k)) (sym last) ∙ has.placed some;
      },
      refl,
    )
line_here text before n f i D line (AddsCatch k) is next has same = cc
line_here text before n f i D line (AddsInputs zs) is next has same = cc

-- what is found is an instruction of that function, in that place
pub record Found (kind : Adds) (functions instructions f i : ℕ) : Type 0 where
  pub kind_is : kind ≡ adds.Instruction
  pub functions_are : functions ≡ f + 1
  pub instructions_are : instructions ≡ i

-- what is found by the test is an instruction of that function, in that place
pub found : (kind : Adds) (functions instructions f i : ℕ) → finds kind functions instructions f i ≡ true
    → Found kind functions instructions f i
found adds.Function n k f i is = cc
found adds.Instruction n k f i is =
    let tests = and_parts (n == f + 1) (k == i) is in
    record { kind_is = refl; functions_are = eqb-true n (f + 1) tests.0; instructions_are = eqb-true k i tests.1 }
found adds.Neither n k f i is = cc

-- an instruction of that function in that place is found
pub finds_it : (n k f i : ℕ) → n ≡ f + 1 → k ≡ i → finds adds.Instruction n k f i ≡ true
finds_it n k f i one other =
    ap (λ b. b && (k == i)) (eq-eqb n (f + 1) one) ∙ eq-eqb k i other

-- ## Lines of instructions among the additions

-- a reading that is all right gives the same additions
same_ok : (r : Result (List Addition) LineFault) (xs ys : List Addition) → r ≡ Ok xs → r ≡ Ok ys → xs ≡ ys
same_ok r xs ys one other = cc

-- the lines of a text add one list
pub same_added : (text : List ℕ) (xs ys : List Addition) → AreAdded text xs → AreAdded text ys → xs ≡ ys
same_added text xs ys one other = same_ok (read_from (definitions (lines text)) none_yet 1 0 (lines text)) xs ys one other

-- the addition behind so many is instruction i of function f
pub record IsInstruction (text : List ℕ) (adding : List Addition) (k f i : ℕ) (instr : Instr) : Type 0 where
  pub there : slice_get adding k ≡ Some (AddsInstruction instr)
  pub functions : length (draft_by text (take k adding)).functions ≡ f + 1
  pub instructions : length (code_at (draft_by text (take k adding)).functions f) ≡ i

-- a line's addition is, of the additions that the lines have
pub of_line : (text : List ℕ) (adding : List Addition) (f i n : ℕ) → AreAdded text adding → (h : IsLineOf text f i n)
    → IsInstruction text adding h.before f i h.instr
of_line text adding f i n all h =
    let same : h.adds.additions ≡ adding = same_added text h.adds.additions adding h.adds.all all in
    let draft : h.draft ≡ draft_by text (take h.before adding) = sym h.adds.so_far ∙ ap (λ xs. draft_by text (take h.before xs)) same in
    record {
      there = ap (λ xs. slice_get xs h.before) (sym same) ∙ h.adds.adds;
      functions = ap (λ (D : Draft). length D.functions) (sym draft) ∙ h.functions;
      instructions = ap (λ (D : Draft). length (code_at D.functions f)) (sym draft) ∙ h.instructions;
    }

-- ## The search

-- no line so far is the one, and so far the lines have come
pub record Searches (text : List ℕ) (rest : LinesLeft) (functions instructions : ℕ) (name : List ℕ) (f i : ℕ) : Type 0 where
  pub small : functions ≤ rest.given
  pub few : instructions ≤ rest.given
  pub passed : (adding : List Addition) → AreAdded text adding → Passed text adding rest functions instructions name
  pub none : (adding : List Addition) → AreAdded text adding → (n : ℕ) → n ≤ rest.given → IsLineOf text f i n → ⊥

-- before the first line
pub searches_none : (text : List ℕ) (rest : LinesLeft) (name : List ℕ) (f i : ℕ) → rest.given ≡ 0 → rest.left ≡ lines text
    → Searches text rest 0 0 name f i
searches_none text rest name f i given left = record {
  small = omega arith;
  few = omega arith;
  passed = λ adding all. passed_none text adding rest name all given left;
  none = λ adding all n less h. let number : n ≡ h.before + 1 = h.number in absurd (omega (arith, less, given, number));
}

-- what is known of the next line, its number and what it adds
pub record Next (rest : LinesLeft) (line : List ℕ) (after : LinesLeft) (kind : Adds) : Type 0 where
  pub lefts : rest.left ≡ line ∷ after.left
  pub given : after.given ≡ rest.given + 1
  pub is : kind ≡ words_add (words line)

-- the next line, which was asked for its kind, adds what that kind says
meets_next : (text : List ℕ) (adding : List Addition) (rest : LinesLeft) (functions instructions : ℕ) (name line : List ℕ)
    (after : LinesLeft) (kind : Adds) → AreAdded text adding → Passed text adding rest functions instructions name
    → Next rest line after kind → Meets text adding rest line after kind
meets_next text adding rest n k name line after kind all passed next =
    meets text adding rest n k name line after kind all passed next.lefts next.given
    (λ form is. next.is ∙ known_adds (words line) form is)

-- a line that is not found is not the one
not_here : (text : List ℕ) (adding : List Addition) (rest : LinesLeft) (functions instructions : ℕ) (name line : List ℕ)
    (after : LinesLeft) (kind : Adds) (f i m : ℕ) → AreAdded text adding → Passed text adding rest functions instructions name
    → Meets text adding rest line after kind → finds kind functions instructions f i ≡ false → m ≡ rest.given + 1
    → IsLineOf text f i m → ⊥
not_here text adding rest n k name line after kind f i m all passed next not_found number h =
    let same : h.before ≡ rest.given = (let other : m ≡ h.before + 1 = h.number in omega (arith, number, other)) in
    let is : IsInstruction text adding rest.given f i h.instr =
    subst (λ j. IsInstruction text adding j f i h.instr) same (of_line text adding f i m all h) in
    let addition : next.addition ≡ AddsInstruction h.instr = one_only (slice_get adding rest.given) next.addition (AddsInstruction h.instr)
    next_adds is.there in
    let kind_is : kind ≡ adds.Instruction = sym next.is_kind ∙ ap kind_of addition in
    let counted : n ≡ f + 1 = sym passed.has.counted ∙ is.functions in
    let some : 0 < n = omega (arith, counted) in
    let last : n - 1 ≡ f = omega (arith, counted) in
    let placed : k ≡ i = sym (passed.has.placed some)
    ∙ ap (λ j. length (code_at (draft_by text (take rest.given adding)).functions j)) last ∙ is.instructions in
    let yes_found : finds kind n k f i ≡ true = ap (λ a. finds a n k f i) kind_is ∙ finds_it n k f i counted placed in
    cc
  where
    one_only : (o : Option Addition) (a b : Addition) → o ≡ Some a → o ≡ Some b → a ≡ b
    one_only o a b one other = cc

    next_adds : slice_get adding rest.given ≡ Some next.addition
    next_adds = subst (λ xs. slice_get xs rest.given ≡ Some next.addition) (same_added text next.next.additions adding next.next.all all)
        next.next.adds

-- a count that goes up by one at most
functions_grow : (kind : Adds) (n m : ℕ) → n ≤ m → functions_after kind n ≤ m + 1
functions_grow adds.Function n m less = omega (arith, less)
functions_grow adds.Instruction n m less = omega (arith, less)
functions_grow adds.Neither n m less = omega (arith, less)

-- an addition makes the instructions one more at most
instructions_grow : (kind : Adds) (n m : ℕ) → n ≤ m → instructions_after kind n ≤ m + 1
instructions_grow adds.Function n m less = omega arith
instructions_grow adds.Instruction n m less = omega (arith, less)
instructions_grow adds.Neither n m less = omega (arith, less)

-- past a line that is not found
pub searches_on : (text : List ℕ) (rest : LinesLeft) (functions instructions : ℕ) (name line : List ℕ) (after : LinesLeft) (kind : Adds)
    (f i : ℕ) → Searches text rest functions instructions name f i → Next rest line after kind
    → finds kind functions instructions f i ≡ false
    → Searches text after (functions_after kind functions) (instructions_after kind instructions)
    (name_after kind (slice_get (words line) 1) name) f i
searches_on text rest n k name line after kind f i now next not_found = record {
  small = subst (λ m. functions_after kind n ≤ m) (sym next.given) (functions_grow kind n rest.given now.small);
  few = subst (λ m. instructions_after kind k ≤ m) (sym next.given) (instructions_grow kind k rest.given now.few);
  passed = λ adding all. passed_more text adding rest n k name line after kind (now.passed adding all)
      (meets_next text adding rest n k name line after kind all (now.passed adding all) next);
  none = λ adding all m less h.
      elim (at_most_or_more m rest.given) [
        | inl early ↦ now.none adding all m early h
        | inr late ↦
            let number : m ≡ rest.given + 1 = (let given = next.given in omega (arith, less, late, given)) in
            not_here text adding rest n k name line after kind f i m all (now.passed adding all)
            (meets_next text adding rest n k name line after kind all (now.passed adding all) next) not_found number h
      ];
}

-- the same of the counts and the name that there are then
pub searches_by : (text : List ℕ) (rest : LinesLeft) (functions instructions : ℕ) (name line : List ℕ) (after : LinesLeft) (kind : Adds)
    (f i n k : ℕ) (w : List ℕ) → Searches text rest functions instructions name f i → Next rest line after kind
    → finds kind functions instructions f i ≡ false → n ≡ functions_after kind functions → k ≡ instructions_after kind instructions
    → w ≡ name_after kind (slice_get (words line) 1) name → Searches text after n k w f i
searches_by text rest functions instructions name line after kind f i n k w now next not_found count place named =
    subst (λ m. Searches text after m k w f i) (sym count)
    (subst (λ m. Searches text after (functions_after kind functions) m w f i) (sym place)
    (subst (λ v. Searches text after (functions_after kind functions) (instructions_after kind instructions) v f i) (sym named)
    (searches_on text rest functions instructions name line after kind f i now next not_found)))

-- the line that is found is the one
pub source_found : (text : List ℕ) (adding : List Addition) (rest : LinesLeft) (functions instructions : ℕ) (name line : List ℕ)
    (after : LinesLeft) (kind : Adds) (f i number : ℕ) (quote : List ℕ) → AreAdded text adding
    → Searches text rest functions instructions name f i → Next rest line after kind
    → finds kind functions instructions f i ≡ true → number ≡ rest.given + 1 → IsTrimAscii (before_first is_hash line) quote
    → IsSourceOf text f i number quote name
source_found text adding rest n k name line after kind f i number quote all now next is_found numbered quoted =
    let passed : Passed text adding rest n k name = now.passed adding all in
    let m : Meets text adding rest line after kind = meets_next text adding rest n k name line after kind all passed next in
    let it : Found kind n k f i = found kind n k f i is_found in
    let has : Has (draft_by text (take rest.given adding)) n i =
    subst (λ j. Has (draft_by text (take rest.given adding)) n j) it.instructions_are passed.has in
    let here = line_here text rest.given n f i (draft_by text (take rest.given adding)) line m.addition
    (m.is_kind ∙ it.kind_is) m.next has it.functions_are in
    let counted : n ≡ f + 1 = it.functions_are in
    let some : 0 < n = omega (arith, counted) in
    let last : n - 1 ≡ f = omega (arith, counted) in
    subst (λ j. IsSourceOf text f i j quote name) (sym numbered) (record {
      line = here.0;
      quoted = subst (λ l. IsTrimAscii (before_first is_hash l) quote) (sym here.1) quoted;
      named = subst (λ j. IsNameOf text j name) last (passed.named some);
    })

-- where no line is left, no line is the one
pub none_found : (text : List ℕ) (adding : List Addition) (rest : LinesLeft) (functions instructions : ℕ) (name : List ℕ) (f i : ℕ)
    → AreAdded text adding → Searches text rest functions instructions name f i → rest.left ≡ []
    → (n : ℕ) → IsLineOf text f i n → ⊥
none_found text adding rest n k name f i all now left m h =
    let passed : Passed text adding rest n k name = now.passed adding all in
    let none : drop rest.given adding ≡ [] = no_more (drop rest.given adding)
    (read_from (definitions (lines text)) passed.counts (rest.given + 1) passed.inputs []) refl
    (ap (λ ls. read_from (definitions (lines text)) passed.counts (rest.given + 1) passed.inputs ls) (sym left) ∙ passed.read) in
    let less : h.before < rest.given =
    before_cut adding rest.given h.before (AddsInstruction h.instr) none (of_line text adding f i m all h).there in
    let number : m ≡ h.before + 1 = h.number in
    now.none adding all m (omega (arith, less, number)) h
  where
    no_more : (xs : List Addition) (r : Result (List Addition) LineFault) → r ≡ Ok [] → r ≡ Ok xs → xs ≡ []
    no_more xs r one other = cc
