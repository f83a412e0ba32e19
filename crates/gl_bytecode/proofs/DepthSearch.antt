-- The search for the depths of a function's stack: what each step keeps, and what its end says.
use Rattle.std.proofs.Common.{◌≡◌, ◌≢◌, ℕ, zero, suc, ◌+◌, ◌-◌, ◌<◌, ◌≤◌, ◌==◌, Bool, true, false, List, [], ◌∷◌, ◌++◌, length, map, replicate, Option, Some, None, refl, sym, ◌∙◌, ap, subst, inl, inr, arith, length-append}
use Rattle.std.specs.Prelude.{slice_get, slice_set, slice_index_or, ◌⊎◌}
use Rattle.std.specs.List.{AllByRecursion}
use Rattle.std.specs.Bool.{MatchBool}
use Rattle.std.proofs.lemmas.Bool.Decides.{nat_tests}
use Rattle.std.proofs.lemmas.Option.{slice_get_read}
use Rattle.gl_bytecode.specs.declared.depths.Claim.{Claim}
use Rattle.gl_bytecode.specs.declared.instr.Catch.{Catch}
use Rattle.gl_bytecode.specs.declared.instr.Flow.{Flow}
use Rattle.gl_bytecode.specs.declared.instr.Flow.TheVariants.{Leaves, Next, Always, Either}
use Rattle.gl_bytecode.specs.declared.instr.Instr.{Instr}
use Rattle.gl_bytecode.specs.declared.limits.TheConstants.{OPERANDS}
use Rattle.gl_bytecode.specs.Faults.{AreDepths, HasDepths, falls_off}
use Rattle.gl_bytecode.specs.Instructions.{flow, gives, needs, places_after, successors}
use Rattle.gl_bytecode.specs.Passing.{IsForced, IsIn, IsKnown, Passing, WasSeen, claims_after, found, unknown, work}
use Rattle.gl_bytecode.specs.Programs.{Bytecode, Function}
use Rattle.gl_bytecode.proofs.Faultless.{IsNamed, all_from, catch_right, starts_there, successors_of}

-- ## Lists

-- a claim among others and one more is among the others or is that one
in_snoc : (claim c : Claim) (cs : List Claim) → IsIn claim (cs ++ c ∷ []) → IsIn claim cs ⊎ (c ≡ claim)
in_snoc claim c [] (inl is) = inr is
in_snoc claim c [] (inr no_more) = absurd no_more
in_snoc claim c (d ∷ cs) (inl is) = inl (inl is)
in_snoc claim c (d ∷ cs) (inr later) = deeper (in_snoc claim c cs later) where
  deeper : IsIn claim cs ⊎ (c ≡ claim) → IsIn claim (d ∷ cs) ⊎ (c ≡ claim)
  deeper (inl there) = inl (inr there)
  deeper (inr is) = inr is

-- a claim among the first of two lists is among both together
in_left : (claim : Claim) (xs ys : List Claim) → IsIn claim xs → IsIn claim (xs ++ ys)
in_left claim [] ys there = absurd there
in_left claim (x ∷ xs) ys (inl is) = inl is
in_left claim (x ∷ xs) ys (inr later) = inr (in_left claim xs ys later)

-- a claim among the second of two lists is among both together
in_right : (claim : Claim) (xs ys : List Claim) → IsIn claim ys → IsIn claim (xs ++ ys)
in_right claim [] ys there = there
in_right claim (x ∷ xs) ys there = inr (in_right claim xs ys there)

-- what holds of all elements of two lists holds of those of the first
all_left : {X : Type 0} (Q : X → Type 0) (xs ys : List X) → AllByRecursion Q (xs ++ ys) → AllByRecursion Q xs
all_left Q [] ys all = tt
all_left Q (x ∷ xs) ys all = (all.0, all_left Q xs ys all.1)

-- what holds of all elements of two lists holds of those of the second
all_right : {X : Type 0} (Q : X → Type 0) (xs ys : List X) → AllByRecursion Q (xs ++ ys) → AllByRecursion Q ys
all_right Q [] ys all = all
all_right Q (x ∷ xs) ys all = all_right Q xs ys all.1

-- what holds of all elements of each of two lists holds of those of both together
all_append : {X : Type 0} (Q : X → Type 0) (xs ys : List X) → AllByRecursion Q xs → AllByRecursion Q ys → AllByRecursion Q (xs ++ ys)
all_append Q [] ys left right = right
all_append Q (x ∷ xs) ys left right = (left.0, all_append Q xs ys left.1 right)

-- what follows for each element follows for all elements of a list
all_so : {X : Type 0} (Q R : X → Type 0) (xs : List X) → ((x : X) → Q x → R x) → AllByRecursion Q xs → AllByRecursion R xs
all_so Q R [] so all = tt
all_so Q R (x ∷ xs) so all = (so x all.0, all_so Q R xs so all.1)

-- ## Depths

-- a depth that is noted at a place is found there
found_set : (ds : List (Option ℕ)) (k n : ℕ) → k < length ds → found (slice_set ds k (Some n)) k ≡ Some n
found_set [] k n within = absurd (omega arith)
found_set (d ∷ ds) zero n within = refl
found_set (d ∷ ds) (suc k) n within = found_set ds k n (omega arith)

-- a depth that is noted at one place changes what is found at no other
found_else : (ds : List (Option ℕ)) (k j n : ℕ) → j ≢ k → found (slice_set ds k (Some n)) j ≡ found ds j
found_else [] k j n other = refl
found_else (d ∷ ds) zero zero n other = absurd (other refl)
found_else (d ∷ ds) zero (suc j) n other = refl
found_else (d ∷ ds) (suc k) zero n other = refl
found_else (d ∷ ds) (suc k) (suc j) n other = found_else ds k j n (λ same. other (ap suc same))

-- before the search no depth is found anywhere
none_found : (n at : ℕ) → found (replicate n None) at ≡ None
none_found zero at = refl
none_found (suc n) zero = refl
none_found (suc n) (suc at) = none_found n at

-- a list of so many depths that are not found has that length
length_none : (n : ℕ) → (let ds : List (Option ℕ) = replicate n None in length ds) ≡ n
length_none zero = refl
length_none (suc n) = ap suc (length_none n)

-- noting a depth leaves the list as long as it was
length_set : (ds : List (Option ℕ)) (k : ℕ) (d : Option ℕ) → length (slice_set ds k d) ≡ length ds
length_set [] k d = refl
length_set (e ∷ ds) zero d = refl
length_set (e ∷ ds) (suc k) d = ap suc (length_set ds k d)

-- where a depth is noted that was unknown, one less is unknown
unknown_set : (ds : List (Option ℕ)) (k n : ℕ) → k < length ds → found ds k ≡ None → unknown (slice_set ds k (Some n)) + 1 ≡ unknown ds
unknown_set [] k n within none = absurd (omega arith)
unknown_set (None ∷ ds) zero n within none = refl
unknown_set (Some m ∷ ds) zero n within none = cc
unknown_set (None ∷ ds) (suc k) n within none = (let more = unknown_set ds k n (omega arith) none in omega arith)
unknown_set (Some m ∷ ds) (suc k) n within none = unknown_set ds k n (omega arith) none

-- ## What is known stays known

-- what was found or claimed before a step is found or claimed after it
abbrev Keeps : List (Option ℕ) → List Claim → List (Option ℕ) → List Claim → Type 0
Keeps ds cs ds' cs' = (to n : ℕ) → IsKnown ds cs to n → IsKnown ds' cs' to n

-- an instruction that was seen counts as seen after each step that keeps what was found and claimed
seen_still :
    (P : Bytecode) (ds ds' : List (Option ℕ)) (cs cs' : List Claim) → Keeps ds cs ds' cs' → (i : Instr) (at n : ℕ) →
    WasSeen P ds cs i at n → WasSeen P ds' cs' i at n
seen_still P ds ds' cs cs' keeps i at n seen = record {
  within = seen.within;
  operands = seen.operands;
  onward =
      all_so (λ to. IsKnown ds cs to ((n - needs P i) + gives i)) (λ to. IsKnown ds' cs' to ((n - needs P i) + gives i)) (successors i at)
      (λ to. keeps to ((n - needs P i) + gives i)) seen.onward;
}

-- ## A claim that agrees with what was found

-- dropping a claim whose depth is found at its place keeps all that was found or claimed
keeps_popped : (ds : List (Option ℕ)) (cs : List Claim) (c : Claim) → found ds c.at ≡ Some c.depth → Keeps ds (cs ++ c ∷ []) ds cs
keeps_popped ds cs c is to n (inl at) = inl at
keeps_popped ds cs c is to n (inr there) = by_place (in_snoc _ c cs there) where
  by_place : IsIn (record { at = to; depth = n }) cs ⊎ (c ≡ record { at = to; depth = n }) → IsKnown ds cs to n
  by_place (inl in_rest) = inr in_rest
  by_place (inr same) = inl (sym (ap (λ (d : Claim). found ds d.at) same) ∙ is ∙ ap (λ (d : Claim). Some d.depth) same)

-- what holds along the search still holds when a claim is dropped whose depth is found at its place
pub popped :
    (P : Bytecode) (F : Function) (ds : List (Option ℕ)) (cs : List Claim) (c : Claim) → Passing P F ds (cs ++ c ∷ []) →
    found ds c.at ≡ Some c.depth → Passing P F ds cs
popped P F ds cs c p is =
    let keeps = keeps_popped ds cs c is in
    record {
      named = p.named;
      ended = p.ended;
      long = p.long;
      within = all_left (λ (d : Claim). d.at < length F.code) cs (c ∷ []) p.within;
      starts = keeps 0 0 p.starts;
      handles = all_so (λ (h : Catch). IsKnown ds (cs ++ c ∷ []) h.target 1) (λ (h : Catch). IsKnown ds cs h.target 1) F.catches
          (λ h. keeps h.target 1) p.handles;
      seen = λ at n i there at_depth. seen_still P ds ds (cs ++ c ∷ []) cs keeps i at n (p.seen at n i there at_depth);
      forced = λ depth are.
          let f = p.forced depth are in
          record { by_depths = f.by_depths; by_claims = all_left (λ (d : Claim). depth d.at ≡ Some d.depth) cs (c ∷ []) f.by_claims };
    }

-- dropping a claim leaves less work
pub popped_less : (ds : List (Option ℕ)) (cs : List Claim) (c : Claim) → work ds cs < work ds (cs ++ c ∷ [])
popped_less ds cs c = omega (arith, length-append cs (c ∷ []))

-- ## A claim of a place that has no depth yet

-- where a function has depths, its last claim is true of them
claim_last :
    (P : Bytecode) (F : Function) (ds : List (Option ℕ)) (cs : List Claim) (c : Claim) → Passing P F ds (cs ++ c ∷ []) →
    (depth : ℕ → Option ℕ) → AreDepths P F depth → depth c.at ≡ Some c.depth
claim_last P F ds cs c p depth are = (all_right (λ (d : Claim). depth d.at ≡ Some d.depth) cs (c ∷ []) (p.forced depth are).by_claims).0

-- the claims for places at one depth have all those places
claims_in : (n : ℕ) (tos : List ℕ) → AllByRecursion (λ to. IsIn (record { at = to; depth = n }) (claims_after n tos)) tos
claims_in n [] = tt
claims_in n (to ∷ tos) = (
  inl refl,
  all_so (λ x. IsIn (record { at = x; depth = n }) (claims_after n tos))
      (λ x. IsIn (record { at = x; depth = n }) (claims_after n (to ∷ tos))) tos
      (λ x there. inr there) (claims_in n tos),
)

-- what holds of a claim for each place holds of all the claims for the places
claims_all : (Q : Claim → Type 0) (n : ℕ) (tos : List ℕ) → AllByRecursion (λ to. Q (record { at = to; depth = n })) tos
    → AllByRecursion Q (claims_after n tos)
claims_all Q n [] all = tt
claims_all Q n (to ∷ tos) all = (all.0, claims_all Q n tos all.1)

-- a step that notes the depth of its last claim and puts others in its place keeps all that was found or claimed
keeps_entered :
    (ds : List (Option ℕ)) (cs more : List Claim) (c : Claim) → c.at < length ds → found ds c.at ≡ None →
    Keeps ds (cs ++ c ∷ []) (slice_set ds c.at (Some c.depth)) (cs ++ more)
keeps_entered ds cs more c within none to n (inl at) =
    inl (found_else ds c.at to c.depth (λ same. (let at' : found ds c.at ≡ Some n = rw (sym same) at in cc)) ∙ at)
keeps_entered ds cs more c within none to n (inr there) = by_place (in_snoc _ c cs there) where
  by_place : IsIn (record { at = to; depth = n }) cs ⊎ (c ≡ record { at = to; depth = n })
      → IsKnown (slice_set ds c.at (Some c.depth)) (cs ++ more) to n
  by_place (inl in_rest) = inr (in_left _ cs more in_rest)
  by_place (inr same) =
      inl
      (ap (λ k. found (slice_set ds c.at (Some c.depth)) k) (sym (ap (λ (d : Claim). d.at) same)) ∙ found_set ds c.at c.depth within
      ∙ ap (λ (d : Claim). Some d.depth) same)

-- either it is the place that was entered, at that depth, or what was found there was found before
entered_or :
    (ds : List (Option ℕ)) (c : Claim) (at n : ℕ) → c.at < length ds → found (slice_set ds c.at (Some c.depth)) at ≡ Some n →
    ((c.at ≡ at) × (c.depth ≡ n)) ⊎ (found ds at ≡ Some n)
entered_or ds c at n within is = by_test (at == c.at) refl where
  by_test : (b : Bool) → (at == c.at) ≡ b → ((c.at ≡ at) × (c.depth ≡ n)) ⊎ (found ds at ≡ Some n)
  by_test true passes =
      let same : at ≡ c.at = grind (arith, nat_tests) in
      let at_it : found (slice_set ds c.at (Some c.depth)) c.at ≡ Some n =
      ap (λ k. found (slice_set ds c.at (Some c.depth)) k) (sym same) ∙ is in
      let set = found_set ds c.at c.depth within in
      let depth : c.depth ≡ n = cc in
      inl (sym same, depth)
  by_test false fails =
      let other : at ≢ c.at = (λ same. (let passes : (at == c.at) ≡ true = grind (arith, nat_tests) in cc)) in
      inr (sym (found_else ds c.at at c.depth other) ∙ is)

-- at one place there is one instruction
same_there : (o : Option Instr) (i j : Instr) → o ≡ Some i → o ≡ Some j → i ≡ j
same_there o i j first second = cc

-- after a step that notes a depth, each instruction with a depth has been seen
entered_seen :
    (P : Bytecode) (F : Function) (ds : List (Option ℕ)) (cs : List Claim) (c : Claim) (i : Instr) → Passing P F ds (cs ++ c ∷ []) →
    c.at < length ds → found ds c.at ≡ None → slice_get F.code c.at ≡ Some i → needs P i ≤ c.depth → c.depth ≤ OPERANDS
    → (at n : ℕ) (j : Instr) →
    slice_get F.code at ≡ Some j → found (slice_set ds c.at (Some c.depth)) at ≡ Some n →
    WasSeen P (slice_set ds c.at (Some c.depth)) (cs ++ claims_after ((c.depth - needs P i) + gives i) (successors i c.at)) j at n
entered_seen P F ds cs c i p within none is operands room at n j there at_depth = by_place (entered_or ds c at n within at_depth) where
  after : ℕ
  after = (c.depth - needs P i) + gives i

  here : WasSeen P (slice_set ds c.at (Some c.depth)) (cs ++ claims_after ((c.depth - needs P i) + gives i) (successors i c.at)) i c.at
      c.depth
  here = record {
    within = room;
    operands = operands;
    onward =
        all_so (λ to. IsIn (record { at = to; depth = (c.depth - needs P i) + gives i })
        (claims_after ((c.depth - needs P i) + gives i) (successors i c.at)))
        (λ to. IsKnown (slice_set ds c.at (Some c.depth)) (cs ++ claims_after ((c.depth - needs P i) + gives i) (successors i c.at)) to
        ((c.depth - needs P i) + gives i))
        (successors i c.at) (λ to there. inr (in_right _ cs _ there)) (claims_in ((c.depth - needs P i) + gives i) (successors i c.at));
  }

  by_place :
      ((c.at ≡ at) × (c.depth ≡ n)) ⊎ (found ds at ≡ Some n) →
      WasSeen P (slice_set ds c.at (Some c.depth)) (cs ++ claims_after ((c.depth - needs P i) + gives i) (successors i c.at)) j at n
  by_place (inl same) =
      let there' : slice_get F.code c.at ≡ Some j = rw same.0 there in
      let same_instr : i ≡ j = same_there (slice_get F.code c.at) i j is there' in
      let Q : Instr → ℕ → ℕ → Type 0 = λ x y z. WasSeen P (slice_set ds c.at (Some c.depth)) (cs
      ++ claims_after ((c.depth - needs P i) + gives i) (successors i c.at)) x y z in
      subst (λ x. Q x at n) same_instr (subst (λ y. Q i y n) same.0 (subst (λ z. Q i c.at z) same.1 here))
  by_place (inr before) =
      seen_still P ds (slice_set ds c.at (Some c.depth)) (cs ++ c ∷ []) (cs
      ++ claims_after ((c.depth - needs P i) + gives i) (successors i c.at))
      (keeps_entered ds cs (claims_after ((c.depth - needs P i) + gives i) (successors i c.at)) c within none) j at n
      (p.seen at n j there before)

-- after a step that notes a depth, what is found and claimed is still forced by any depths of the function
entered_forced :
    (P : Bytecode) (F : Function) (ds : List (Option ℕ)) (cs : List Claim) (c : Claim) (i : Instr) → Passing P F ds (cs ++ c ∷ []) →
    c.at < length ds → slice_get F.code c.at ≡ Some i → (depth : ℕ → Option ℕ) → AreDepths P F depth →
    IsForced (slice_set ds c.at (Some c.depth)) (cs ++ claims_after ((c.depth - needs P i) + gives i) (successors i c.at)) depth
entered_forced P F ds cs c i p within is depth are = record {
  by_depths = λ at n at_depth. by_place at n (entered_or ds c at n within at_depth);
  by_claims =
      all_append (λ (d : Claim). depth d.at ≡ Some d.depth) cs (claims_after ((c.depth - needs P i) + gives i) (successors i c.at))
      (all_left (λ (d : Claim). depth d.at ≡ Some d.depth) cs (c ∷ []) (p.forced depth are).by_claims)
      (claims_all (λ (d : Claim). depth d.at ≡ Some d.depth) ((c.depth - needs P i) + gives i) (successors i c.at)
      (are.leads c.at c.depth i is (claim_last P F ds cs c p depth are)).onward);
} where
  by_place : (at n : ℕ) → ((c.at ≡ at) × (c.depth ≡ n)) ⊎ (found ds at ≡ Some n) → depth at ≡ Some n
  by_place at n (inl same) = ap depth (sym same.0) ∙ claim_last P F ds cs c p depth are ∙ ap Some same.1
  by_place at n (inr before) = (p.forced depth are).by_depths at n before

-- what holds along the search holds after a step that notes a claim's depth and claims it for the successors
pub entered :
    (P : Bytecode) (F : Function) (ds : List (Option ℕ)) (cs : List Claim) (c : Claim) (i : Instr) → Passing P F ds (cs ++ c ∷ []) →
    found ds c.at ≡ None → slice_get F.code c.at ≡ Some i → needs P i ≤ c.depth → c.depth ≤ OPERANDS →
    Passing P F (slice_set ds c.at (Some c.depth)) (cs ++ claims_after ((c.depth - needs P i) + gives i) (successors i c.at))
entered P F ds cs c i p none is operands room =
    let long = p.long in
    let in_code : c.at < length F.code = (all_right (λ (d : Claim). d.at < length F.code) cs (c ∷ []) p.within).0 in
    let within : c.at < length ds = omega arith in
    let more = claims_after ((c.depth - needs P i) + gives i) (successors i c.at) in
    let keeps = keeps_entered ds cs more c within none in
    record {
      named = p.named;
      ended = p.ended;
      long = length_set ds c.at (Some c.depth) ∙ p.long;
      within =
          all_append (λ (d : Claim). d.at < length F.code) cs more (all_left (λ (d : Claim). d.at < length F.code) cs (c ∷ []) p.within)
          (claims_all (λ (d : Claim). d.at < length F.code) ((c.depth - needs P i) + gives i) (successors i c.at)
          (successors_of P F p.named p.ended c.at i is));
      starts = keeps 0 0 p.starts;
      handles =
          all_so (λ (h : Catch). IsKnown ds (cs ++ c ∷ []) h.target 1)
          (λ (h : Catch). IsKnown (slice_set ds c.at (Some c.depth)) (cs ++ more) h.target 1)
          F.catches (λ h. keeps h.target 1) p.handles;
      seen = entered_seen P F ds cs c i p within none is operands room;
      forced = entered_forced P F ds cs c i p within is;
    }

-- an instruction makes two claims at most
few_successors : (fl : Flow) (at n : ℕ) → length (claims_after n (places_after fl at)) ≤ 2
few_successors Leaves at n = omega arith
few_successors Next at n = omega arith
few_successors (Always to) at n = omega arith
few_successors (Either to) at n = omega arith

-- noting a depth that was unknown leaves less work, whatever is claimed for the successors
pub entered_less :
    (P : Bytecode) (F : Function) (ds : List (Option ℕ)) (cs : List Claim) (c : Claim) (i : Instr) (n : ℕ) → Passing P F ds (cs ++ c ∷ []) →
    found ds c.at ≡ None → work (slice_set ds c.at (Some c.depth)) (cs ++ claims_after n (successors i c.at)) < work ds (cs ++ c ∷ [])
entered_less P F ds cs c i n p none =
    let long = p.long in
    let in_code : c.at < length F.code = (all_right (λ (d : Claim). d.at < length F.code) cs (c ∷ []) p.within).0 in
    let one = unknown_set ds c.at c.depth (omega arith) none in
    let few = few_successors (flow i) c.at n in
    omega (arith, length-append cs (c ∷ []), length-append cs (claims_after n (successors i c.at)))

-- ## A claim that cannot be met

-- where another depth is found at a claim's place, the function has no depths
pub in_conflict :
    (P : Bytecode) (F : Function) (ds : List (Option ℕ)) (cs : List Claim) (c : Claim) (n : ℕ) → Passing P F ds (cs ++ c ∷ []) →
    found ds c.at ≡ Some n → n ≢ c.depth → HasDepths P F → ⊥
in_conflict P F ds cs c n p is other has =
    let one = (p.forced has.0 has.1).by_depths c.at n is in
    let two = claim_last P F ds cs c p has.0 has.1 in
    let same : n ≡ c.depth = cc in
    other same

-- where a claim brings fewer values than its instruction needs, the function has no depths
pub too_few :
    (P : Bytecode) (F : Function) (ds : List (Option ℕ)) (cs : List Claim) (c : Claim) (i : Instr) → Passing P F ds (cs ++ c ∷ []) →
    slice_get F.code c.at ≡ Some i → c.depth < needs P i → HasDepths P F → ⊥
too_few P F ds cs c i p is wanting has =
    let leads = has.1.leads c.at c.depth i is (claim_last P F ds cs c p has.0 has.1) in
    let enough = leads.operands in
    omega arith

-- where a claim brings more values than a stack holds, the function has no depths
pub too_many :
    (P : Bytecode) (F : Function) (ds : List (Option ℕ)) (cs : List Claim) (c : Claim) (i : Instr) → Passing P F ds (cs ++ c ∷ []) →
    slice_get F.code c.at ≡ Some i → OPERANDS < c.depth → HasDepths P F → ⊥
too_many P F ds cs c i p is over has =
    let leads = has.1.leads c.at c.depth i is (claim_last P F ds cs c p has.0 has.1) in
    let room = leads.within in
    omega arith

-- ## Beginning and end

-- the claims at the start: the function's beginning with no value, and each catch's target with one
abbrev pub first_claims : List Catch → List Claim
first_claims catches =
    (let c : Claim = record { at = 0; depth = 0 } in c)
    ∷ map (λ (h : Catch). let c : Claim = record { at = h.target; depth = 1 } in c) catches

-- among the claims for catches is one for each catch's target, with one value
handlers_in : (hs : List Catch) (before : List Claim)
    → AllByRecursion (λ (h : Catch). IsIn (record { at = h.target; depth = 1 })
    (map (λ (h : Catch). let c : Claim = record { at = h.target; depth = 1 } in c) hs)) hs
handlers_in [] before = tt
handlers_in (h ∷ hs) before = (
  inl refl,
  all_so (λ (k : Catch). IsIn (record { at = k.target; depth = 1 })
      (map (λ (h : Catch). let c : Claim = record { at = h.target; depth = 1 } in c) hs))
      (λ (k : Catch). IsIn (record { at = k.target; depth = 1 })
      (map (λ (h : Catch). let c : Claim = record { at = h.target; depth = 1 } in c) (h ∷ hs))) hs
      (λ k there. inr there) (handlers_in hs before),
)

-- what holds of a claim for each catch's target holds of all the claims for catches
handlers_all : (Q : Claim → Type 0) (hs : List Catch) → AllByRecursion (λ (h : Catch). Q (record { at = h.target; depth = 1 })) hs
    → AllByRecursion Q (map (λ (h : Catch). let c : Claim = record { at = h.target; depth = 1 } in c) hs)
handlers_all Q [] all = tt
handlers_all Q (h ∷ hs) all = (all.0, handlers_all Q hs all.1)

-- what holds along the search holds at its start, where the names are right and the end is not run past
pub first_pass : (P : Bytecode) (F : Function) → IsNamed P F → falls_off F ≡ false → (n : ℕ) → n ≡ length F.code
    → Passing P F (replicate n None) (first_claims F.catches)
first_pass P F named ended n is = record {
  named = named;
  ended = ended;
  long = length_none n ∙ is;
  within = (
    starts_there F ended,
    handlers_all (λ (d : Claim). d.at < length F.code) F.catches
        (all_from (λ (h : Catch). h.target < length F.code) F.catches (catch_right P F named)),
  );
  starts = inr (inl refl);
  handles =
      all_so (λ (h : Catch). IsIn (record { at = h.target; depth = 1 })
      (map (λ (h : Catch). let c : Claim = record { at = h.target; depth = 1 } in c) F.catches))
      (λ (h : Catch). IsKnown (replicate n None) (first_claims F.catches) h.target 1) F.catches (λ h there. inr (inr there))
      (handlers_in F.catches []);
  seen = λ at m i there at_depth. absurd (nothing at m at_depth);
  forced = λ depth are. record {
    by_depths = λ at m at_depth. absurd (nothing at m at_depth);
    by_claims = (are.starts, handlers_all (λ (d : Claim). depth d.at ≡ Some d.depth) F.catches are.handles);
  };
} where
  nothing : (at m : ℕ) → found (replicate n None) at ≡ Some m → ⊥
  nothing at m at_depth = (let none = none_found n at in cc)

-- where no claims are left, what is known is found
known_at_end : (ds : List (Option ℕ)) (to n : ℕ) → IsKnown ds [] to n → found ds to ≡ Some n
known_at_end ds to n (inl is) = is
known_at_end ds to n (inr there) = absurd there

-- where no claims are left, the function has depths
pub last_pass : (P : Bytecode) (F : Function) (ds : List (Option ℕ)) → Passing P F ds [] → HasDepths P F
last_pass P F ds p = (
  found ds,
  record {
    starts = known_at_end ds 0 0 p.starts;
    handles = all_so (λ (h : Catch). IsKnown ds [] h.target 1) (λ (h : Catch). found ds h.target ≡ Some 1) F.catches
        (λ h. known_at_end ds h.target 1) p.handles;
    leads = λ at n i there at_depth.
        let seen = p.seen at n i there at_depth in
        record {
          within = seen.within;
          operands = seen.operands;
          onward =
              all_so (λ to. IsKnown ds [] to ((n - needs P i) + gives i)) (λ to. found ds to ≡ Some ((n - needs P i) + gives i))
              (successors i at)
              (λ to. known_at_end ds to ((n - needs P i) + gives i)) seen.onward;
        };
  },
)

-- ## As the code has it

-- a claim's place is within the code and within the list of depths
pub claim_within :
    (P : Bytecode) (F : Function) (ds : List (Option ℕ)) (cs : List Claim) (c : Claim) → Passing P F ds (cs ++ c ∷ []) →
    (c.at < length F.code) × (c.at < length ds)
claim_within P F ds cs c p =
    let long = p.long in
    let within : c.at < length F.code = (all_right (λ (d : Claim). d.at < length F.code) cs (c ∷ []) p.within).0 in
    (within, omega arith)

-- what stands in the list of depths at a place is what is found there
pub found_is : (ds : List (Option ℕ)) (k : ℕ) (d : Option ℕ) → k < length ds → d ≡ slice_index_or ds k d → found ds k ≡ d
found_is [] k d within is = absurd (omega arith)
found_is (e ∷ ds) zero d within is = sym is
found_is (e ∷ ds) (suc k) d within is = found_is ds k d (omega arith) is

-- what stands in the code at a place within it is its instruction there
pub instr_is : (items code : List Instr) (k : ℕ) (i : Instr) → items ≡ code → k < length code → i ≡ slice_index_or items k i
    → slice_get code k ≡ Some i
instr_is items code k i same within is = slice_get_read code (length code) k i refl within (rw same at is)

-- where a depth is found at a claim's place, the claim is dropped if it agrees, and else the function has no depths
pub agreed :
    (P : Bytecode) (F : Function) (ds : List (Option ℕ)) (cs : List Claim) (c : Claim) (n : ℕ) → Passing P F ds (cs ++ c ∷ []) →
    found ds c.at ≡ Some n → MatchBool (n == c.depth) (Passing P F ds cs × (work ds cs < work ds (cs ++ c ∷ []))) (¬ HasDepths P F)
agreed P F ds cs c n p is = by_test (n == c.depth) refl where
  by_test : (b : Bool) → (n == c.depth) ≡ b → MatchBool b (Passing P F ds cs × (work ds cs < work ds (cs ++ c ∷ []))) (¬ HasDepths P F)
  by_test true passes =
      let same : n ≡ c.depth = grind (arith, nat_tests) in
      (popped P F ds cs c p (is ∙ ap Some same), popped_less ds cs c)
  by_test false fails =
      in_conflict P F ds cs c n p is (λ same. (let passes : (n == c.depth) ≡ true = grind (arith, nat_tests) in cc))

-- a step that notes a claim's depth, told by what it computed, keeps what holds along the search and leaves less work
pub entered_so :
    (P : Bytecode) (F : Function) (ds : List (Option ℕ)) (cs cs' : List Claim) (c : Claim) (i : Instr) (takes leaves : ℕ) →
    Passing P F ds (cs ++ c ∷ []) → found ds c.at ≡ None → slice_get F.code c.at ≡ Some i → takes ≡ needs P i → leaves ≡ gives i →
    takes ≤ c.depth → c.depth ≤ OPERANDS → cs' ≡ cs ++ claims_after ((c.depth - takes) + leaves) (successors i c.at) →
    Passing P F (slice_set ds c.at (Some c.depth)) cs' × (work (slice_set ds c.at (Some c.depth)) cs' < work ds (cs ++ c ∷ []))
entered_so P F ds cs cs' c i takes leaves p none is takes_is leaves_is operands room more =
    let operands' : needs P i ≤ c.depth = omega arith in
    rw (more, takes_is, leaves_is)
    (entered P F ds cs c i p none is operands' room, entered_less P F ds cs c i ((c.depth - needs P i) + gives i) p none)

-- what holds along the search holds for the lists that it starts with
pub begins :
    (P : Bytecode) (F : Function) (ds : List (Option ℕ)) (cs : List Claim) (n : ℕ) → IsNamed P F → falls_off F ≡ false →
    n ≡ length F.code → ds ≡ replicate n None → cs ≡ first_claims F.catches → Passing P F ds cs
begins P F ds cs n named ended is depths_are claims_are = rw (depths_are, claims_are) (first_pass P F named ended n is)

-- a list of claims of no length is empty
no_more : (cs : List Claim) → length cs ≡ 0 → cs ≡ []
no_more [] none = refl
no_more (c ∷ cs) none = absurd (omega arith)

-- a search that has no claims left has found depths
pub ends : (P : Bytecode) (F : Function) (ds : List (Option ℕ)) (cs : List Claim) → Passing P F ds cs → length cs ≡ 0 → HasDepths P F
ends P F ds cs p none = last_pass P F ds (rw (no_more cs none) at p)
