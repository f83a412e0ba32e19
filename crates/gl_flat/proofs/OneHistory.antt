-- There is one flat history, and one first place where a word is wrong.
use Rattle.std.proofs.Common.{◌≡◌, ℕ, zero, suc, ◌<◌, List, [], ◌∷◌, refl, subst, sym, ◌∙◌, inl, inr, arith, Some}
use Rattle.std.specs.Prelude.{◌↔◌, slice_get}
use Rattle.std.proofs.lemmas.Bool.{cases_order}
use Rattle.gl_model.specs.declared.event.Stamp.{Stamp}
use Rattle.gl_model.specs.Flat.{InFlatOrder, IsFlat}
use Rattle.gl_model.specs.Form.{Form, Listed}
use Rattle.gl_model.specs.Lists.{lists_of}
use Rattle.gl_model.specs.Records.{Lists, Place, IsEventList, PositionsRise}
use Rattle.gl_laws.proofs.Bridge.{same_place}
use Rattle.gl_laws.proofs.FlatLaws.{InFlatOrder-trans}
use Rattle.gl_flat.specs.Words.{FirstWordIsOne, FlatFailsAt, FlatHistoryIsOne, LegalWhereWordsHold, WordFailsFirst, WordsHold}
use Rattle.gl_flat.proofs.Blocks.{laid_block, positions_rise}
use Rattle.gl_flat.proofs.FlatList.{at_contains, history}
use Rattle.gl_flat.proofs.FlatOrder.{HasBlock, compare, no_loop}
use Rattle.gl_flat.proofs.FlatRuns.{holds_of, legal_of}
use Rattle.gl_flat.proofs.FlatWords.{reads_laid}
use Rattle.gl_flat.proofs.KeptEntries.{kept_at, rising_of}
use Rattle.gl_flat.proofs.Members.{In, contains_in, in_contains}

module _ (R : Lists) (h : List Stamp) (is_list : IsEventList h R) (rise : PositionsRise R) where
  abbrev Ordered : List Place → Type 0
  Ordered [] = Unit {0}
  Ordered (c ∷ cs) = ((d : Place) → In cs d → InFlatOrder R c d) × Ordered cs

  -- where of any two places of a list the earlier one is before the later one in flat order, each place is before all that follow it
  ordered : (cs : List Place) → ((i j : ℕ) (c d : Place) → slice_get cs i ≡ Some c → slice_get cs j ≡ Some d → i < j → InFlatOrder R c d) →
      Ordered cs
  ordered [] order = tt
  ordered (c ∷ cs) order = (
    λ d i. let k = at_contains cs d (in_contains cs d i) in order zero (suc k.0) c d refl k.1 (omega arith),
    ordered cs (λ i j x y a b lt. order (suc i) (suc j) x y a b (omega arith)),
  )

  -- two ordered lists with the same places are one list
  one_list : (cs ds : List Place) → Ordered cs → Ordered ds → ((c : Place) → In cs c ↔ In ds c) → cs ≡ ds
  one_list [] [] o p same = refl
  one_list [] (d ∷ ds) o p same = absurd ((same d).1 (inl refl))
  one_list (c ∷ cs) [] o p same = absurd ((same c).0 (inl refl))
  one_list (c ∷ cs) (d ∷ ds) o p same = (λ i. first i ∷ one_list cs ds o.1 p.1 rest i)
    where
      loop : (x : Place) → In cs x → In ds c → InFlatOrder R c d → ⊥
      loop x i j before = no_loop R h is_list rise c (InFlatOrder-trans R rise before (p.0 c j))

      first : c ≡ d
      first = elim ((same c).0 (inl refl)) [
        | inl e ↦ sym e
        | inr i ↦ elim ((same d).1 (inl refl)) [ inl e ↦ e | inr j ↦ absurd (loop d j i (o.0 d j)) ]
      ]

      rest : (x : Place) → In cs x ↔ In ds x
      rest x = (
        λ i. elim ((same x).0 (inr i)) [
          | inl e ↦ absurd (no_loop R h is_list rise x
              (subst (λ z. InFlatOrder R z x) (first ∙ e) (o.0 x i)))
          | inr j ↦ j
        ],
        λ i. elim ((same x).1 (inr i)) [
          | inl e ↦ absurd (no_loop R h is_list rise x
              (subst (λ z. InFlatOrder R z x) (sym first ∙ e) (p.0 x i)))
          | inr j ↦ j
        ],
      )

  -- two lists that are both the flat history of the record are equal
  one_flat : (cs ds : List Place) → IsFlat R cs → IsFlat R ds → cs ≡ ds
  one_flat cs ds f g = one_list cs ds (ordered cs f.in_order) (ordered ds g.in_order) (λ c. (
    λ i. contains_in ds c ((g.each c).1 ((f.each c).0 (in_contains cs c i))),
    λ i. contains_in cs c ((f.each c).1 ((g.each c).0 (in_contains ds c i))),
  ))

-- a well-formed record has a flat history, and one only
pub flat_history : FlatHistoryIsOne
flat_history R h is_list form = (history R h is_list form, one_flat R h is_list (positions_rise R form))

-- a well-formed record of a run of the machine is legal exactly where its words hold
pub legal_law : LegalWhereWordsHold
legal_law made record' form setting h is_list machine = (
  holds_of setting (lists_of made) h is_list (positions_rise (lists_of made) form),
  legal_of setting (lists_of made) h is_list form machine (λ c e there. rising_of e (kept_at made record' c e there)),
)

-- a word fails first at one place at most
first_place : (R : Lists) → Form R → Listed R → (c d : Place) → WordFailsFirst R c → WordFailsFirst R d → c ≡ d
first_place R form listed c d (inl a) (inl b) = elim (compare R listed.0 listed.1 (positions_rise R form) c d (block c a.0) (block d b.0)) [
  | inl before ↦ absurd (b.1 c a.0 before)
  | inr (inl same) ↦ same
  | inr (inr before) ↦ absurd (a.1 d b.0 before)
]
  where
    block : (x : Place) → FlatFailsAt R x → HasBlock R x
    block x f = laid_block R form x f.0 f.1 (reads_laid f.0 f.2.0 f.2.1.0 f.2.1.1)
first_place R form listed c d (inl a) (inr b) = absurd (b.0 c a.0)
first_place R form listed c d (inr a) (inl b) = absurd (a.0 d b.0)
first_place R form listed c d (inr a) (inr b) = elim (cases_order c.thread d.thread) [
  | inr (inl lt) ↦ absurd (b.1.1 c a.1.0 (inl lt))
  | inr (inr lt) ↦ absurd (a.1.1 d b.1.0 (inl lt))
  | inl same ↦ elim (cases_order c.index d.index) [
    | inl level ↦ same_place c d same level
    | inr (inl lt) ↦ absurd (b.1.1 c a.1.0 (inr (same, lt)))
    | inr (inr lt) ↦ absurd (a.1.1 d b.1.0 (inr (sym same, lt)))
  ]
]

-- where a word fails first somewhere, the words do not hold
no_place : (R : Lists) (c : Place) → WordFailsFirst R c → WordsHold R → ⊥
no_place R c (inl a) hold = let f = a.0 in f.2.1.2 (hold.flat c f.0 f.1 f.2.0 f.2.1.0 f.2.1.1)
no_place R c (inr a) hold = let f = a.1.0 in f.2 (hold.looks c f.0 f.1)

-- there is one first place where a word fails, and none where all hold
pub first_word_law : FirstWordIsOne
first_word_law = record { one_place = first_place; none = no_place }
