-- No Info of the rows that are kept stands behind the events.
use Rattle.std.proofs.Common.{◌≡◌, ℕ, zero, suc, ◌<◌, ◌≤◌, List, length, get_or, set, replicate, refl, sym, ◌∙◌, ap, subst, inl, inr, arith, Some, None, pos, true, false, Bool, length-set}
use Rattle.std.proofs.lemmas.Bool.{cases_lt}
use Rattle.std.proofs.lemmas.List.{get_or_past, get_or-set_same, get_or-set_other}
use Rattle.std.proofs.lemmas.List.Elements.{All-set}
use native.Mathlib.Decide.{ℕ_discrete}
use Rattle.gl_model.specs.declared.limits.TheConstants.{THREADS}
use Rattle.gl_model.specs.declared.row.Info.{Info}
use Rattle.gl_model.specs.declared.row.Question.{Question}
use Rattle.gl_model.specs.declared.row.Row.{Row}
use Rattle.gl_draws.specs.RowFacts.{read_of, IsWithin}
use Rattle.gl_judge.specs.Noted.{IsNoted}
use Rattle.gl_compare.specs.Kept.{AreWithin}

-- no place of a list of none has an Info
pub none_at : (n t : ℕ) → read_of (replicate n None) t ≡ None
none_at zero t = refl
none_at (suc n) zero = refl
none_at (suc n) (suc t) = none_at n t

-- a row of which no access was made has no Info
pub untouched_within : (n : ℕ) → IsWithin (record { value = pos 0; last_write = None; reads = replicate THREADS None }) n
untouched_within n = record {
  last_write = λ i e. absurd (cc);
  reads = λ t i e. absurd (let none : read_of (replicate THREADS None) t ≡ None = none_at THREADS t in cc);
}

-- a noted access has its Info in range
noted_within : (n at : ℕ) (old new : Row) (q : Question) → at ≤ n → IsWithin old n → IsNoted old q at new → IsWithin new n
noted_within n at old new q le w m = by_write q.write refl
  where
    fresh : (i : Info) → i ≡ m.info → i.pos ≤ n
    fresh i e = let p : i.pos ≡ at = ap (λ (z : Info). z.pos) e ∙ m.is.pos in omega arith

    by_write : (b : Bool) → q.write ≡ b → IsWithin new n
    by_write true e =
        let k = m.write e in
        record {
          last_write = λ i is. fresh i (let a = k.0 in cc);
          reads = λ t i is. absurd (let none : read_of new.reads t ≡ None = ap (λ xs. read_of xs t) k.1 ∙ none_at THREADS t in cc);
        }
    by_write false e =
        let k = m.read e in
        record {
          last_write = λ i is. w.last_write i (sym k.0 ∙ is);
          reads = λ t i is. elim (ℕ_discrete t q.thread) [
            | yes same ↦ elim (cases_lt q.thread (length old.reads)) [
              | inl inside ↦ fresh i (let r : read_of new.reads t ≡ Some m.info = ap (λ xs. read_of xs t) k.1
                  ∙ ap (read_of (set old.reads q.thread (Some m.info))) same
                  ∙ get_or-set_same old.reads q.thread (Some m.info) None inside in cc)
              | inr past ↦ absurd (let long = length-set old.reads q.thread (Some m.info) in let r : read_of new.reads t
                  ≡ None = ap (λ xs. read_of xs t) k.1
                  ∙ get_or_past (set old.reads q.thread (Some m.info)) t None (omega arith) in cc)
            ]
            | no other ↦ w.reads t i (sym (ap (λ xs. read_of xs t) k.1
                ∙ get_or-set_other old.reads q.thread t (Some m.info) None other) ∙ is)
          ];
        }

-- so have the rows with the access noted in one of them
pub rows_within : (n at x : ℕ) (rows : List Row) (old new : Row) (q : Question) → at ≤ n → AreWithin n rows → x < length rows
    → old ≡ get_or rows x old → IsNoted old q at new → AreWithin n (set rows x new)
rows_within n at x rows old new q le within near is noted =
    All-set (λ row. IsWithin row n) rows x new
    (noted_within n at old new q le (subst (λ row. IsWithin row n) (sym is) (within x old near)) noted) within

-- there may be more events
pub rows_more : (n m : ℕ) (rows : List Row) → n ≤ m → AreWithin n rows → AreWithin m rows
rows_more n m rows le within k d near =
    let w = within k d near in
    record {
      last_write = λ i e. let a = w.last_write i e in omega arith;
      reads = λ t i e. let a = w.reads t i e in omega arith;
    }
