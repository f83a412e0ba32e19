-- The variables, looks, writes and numbers of a commit line.
use Rattle.std.proofs.Common.{◌≡◌, ℕ, ◌+◌, List, map, refl, ap, subst, sym, ◌∙◌, true}
use Rattle.std.specs.Prelude.{ℤ, pos, Contains}
use Rattle.gl_model.specs.declared.tx.Tx.{Tx}
use Rattle.gl_model.specs.Records.{variables_of}
use Rattle.gl_model.specs.Rising.{with_all}
use Rattle.gl_model.specs.Trace.{is_in, line_tx, look_count}
use Rattle.gl_lines.specs.Traced.{touches}
use Rattle.gl_draws.proofs.EntryKinds.{is_in-contains, contains-is_in}
use Rattle.gl_draws.proofs.Sets.{contains_map, map_contains, map_back, is_in-both}

-- the line touches y where it reads or writes it
pub is_in-touches : (reads writes : List ℕ) (y : ℕ) → is_in y (with_all writes reads) ≡ touches reads writes y
is_in-touches reads writes y = is_in-both reads writes y

module _ (reads writes : List ℕ) (numbers : ℕ → ℕ) where
  -- the transaction of a commit line with these reads and writes, where numbers tells the next number of each variable
  tx : Tx
  tx = line_tx reads writes numbers

  -- its variables are those that it reads and those that it writes, together
  pub its_variables : variables_of (line_tx reads writes numbers) ≡ with_all writes reads
  its_variables = ap (λ ws. with_all ws (map (λ l. l.var) (line_tx reads writes numbers).looks))
      (map_back (λ w. w.var) (λ x. record { var = x; value = pos 0 }) (λ x. refl) writes)
      ∙ ap (λ rs. with_all writes rs) (map_back (λ l. l.var) (λ x. record { var = x; value = pos 0; nth = numbers x }) (λ x. refl) reads)

  -- it has a write of each variable that it writes, in their order
  pub its_writes : map (λ w. w.var) (line_tx reads writes numbers).writes ≡ writes
  its_writes = map_back (λ w. w.var) (λ x. record { var = x; value = pos 0 }) (λ x. refl) writes

  -- it has a number of each of its variables, in their order
  pub its_numbers : map (λ n. n.var) (line_tx reads writes numbers).numbers ≡ with_all writes reads
  its_numbers = map_back (λ n. n.var) (λ x. record { var = x; nth = numbers x + look_count reads x }) (λ x. refl) (with_all writes reads)

  -- a look of y has the number that comes next there, and the value 0
  pub look_is : (y k : ℕ) (v : ℤ) → Contains (line_tx reads writes numbers).looks (record { var = y; value = v; nth = k })
      → (is_in y reads ≡ true) × (k ≡ numbers y) × (v ≡ pos 0)
  look_is y k v c =
      let m = contains_map (λ x. record { var = x; value = pos 0; nth = numbers x }) reads (record { var = y; value = v; nth = k }) c in
      let var : m.0 ≡ y = ap (λ l. l.var) m.2 in (
        contains-is_in y reads (subst (Contains reads) var m.1),
        sym (sym (ap numbers var) ∙ ap (λ l. l.nth) m.2),
        sym
            (ap (λ l. l.value) m.2),
      )

  -- of each variable that it reads it has a look, with the value 0 and the next number there
  pub look_there : (y : ℕ) → is_in y reads ≡ true
      → Contains (line_tx reads writes numbers).looks (record { var = y; value = pos 0; nth = numbers y })
  look_there y is = map_contains (λ x. record { var = x; value = pos 0; nth = numbers x }) reads y (is_in-contains y reads is)

  -- its own number on y is the one behind that
  pub number_is : (y k : ℕ) → Contains (line_tx reads writes numbers).numbers (record { var = y; nth = k })
      → (touches reads writes y ≡ true) × (k ≡ numbers y + look_count reads y)
  number_is y k c =
      let m = contains_map (λ x. record { var = x; nth = numbers x + look_count reads x }) (with_all writes reads)
      (record { var = y; nth = k }) c in
      let var : m.0 ≡ y = ap (λ l. l.var) m.2 in (
        sym (is_in-touches reads writes y) ∙ contains-is_in y (with_all writes reads) (subst (Contains (with_all writes reads)) var m.1),
        sym (sym (ap (λ z. numbers z + look_count reads z) var) ∙ ap (λ l. l.nth) m.2),
      )

  -- of each variable that it reads or writes it has a number, the one after its look's where it reads it
  pub number_there : (y : ℕ) → touches reads writes y ≡ true
      → Contains (line_tx reads writes numbers).numbers (record { var = y; nth = numbers y + look_count reads y })
  number_there y is = map_contains (λ x. record { var = x; nth = numbers x + look_count reads x }) (with_all writes reads) y
      (is_in-contains y (with_all writes reads) (is_in-touches reads writes y ∙ is))
