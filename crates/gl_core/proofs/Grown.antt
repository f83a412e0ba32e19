-- What is kept of a variable stands when a number is drawn for it, and an access noted.
use Rattle.std.proofs.Common.{◌≡◌, ℕ, ◌<◌, ◌==◌, List, [], ◌∷◌, length, set, refl, ap, sym, ◌∙◌, arith, Some, true, false, Bool, not, eq-eqb, ne_eqb, length-set}
use Rattle.std.specs.Prelude.{if◌then◌else◌, is_some}
use Rattle.std.proofs.lemmas.List.{get_or-set_same, get_or-set_other}
use native.Mathlib.Decide.{ℕ_discrete}
use Rattle.gl_model.specs.declared.limits.TheConstants.{THREADS}
use Rattle.gl_draws.specs.Draws.{Draw, variables_in, is_write, is_read, last_read}
use Rattle.gl_core.specs.declared.latest.Epoch.{Epoch}
use Rattle.gl_core.specs.Cells.{at}
use Rattle.gl_core.specs.Marks.{Marks}
use Rattle.gl_core.specs.Latests.{plain_mark, commit_mark, untouched, noted}
use Rattle.gl_core.specs.Stands.{IsEpochOf, AreMarksOf, LatestStands}
use Rattle.gl_core.proofs.Marking.{zero_at}

-- of no draws what is kept is that nothing was accessed
pub untouched_stands : (x : ℕ) → LatestStands x [] untouched
untouched_stands x = record {
  writer = tt;
  last_write = (refl, refl);
  reads_long = refl;
  parts_long = refl;
  reads = λ t. (zero_at THREADS t, zero_at THREADS t);
}

-- the marks of an epoch are those of its draw
epoch_marks : (e : Epoch) (d : Draw) → IsEpochOf e d → AreMarksOf (plain_mark e) (commit_mark e) (Some d)
epoch_marks e d is = (
  ap (λ b. if b then 0 else e.mark) is.commit ∙ ap (λ m. if is_some (variables_in d.what) then 0 else m) is.mark,
  ap (λ b. if b then e.mark else 0) is.commit ∙ ap (λ m. if is_some (variables_in d.what) then m else 0) is.mark,
)

module _ (x : ℕ) (ds : List Draw) (l : Marks) (s : LatestStands x ds l) (d : Draw) where
  -- a number is drawn for what is no performed access
  pub stays : is_write x d.what ≡ false → is_read x d.what ≡ false → LatestStands x (d ∷ ds) l
  stays w r = record {
    writer = rw w s.writer;
    last_write = rw w s.last_write;
    reads_long = s.reads_long;
    parts_long = s.parts_long;
    reads = λ t. rw (w, r) (s.reads t);
  }

  module _ (near : d.thread < THREADS) (e : Epoch) (is : IsEpochOf e d) where
    -- the plain reads' marks have a place for the epoch's thread
    there : e.thread < length l.reads
    there = let n = s.reads_long in let t = is.thread in omega arith

    -- the commits' marks have a place for the epoch's thread
    there_too : e.thread < length l.parts
    there_too = let n = s.parts_long in let t = is.thread in omega arith

    -- with the draw noted as a read, the marks of its thread are the draw's, and those of each other thread are of its last read as before
    by_read : (u : ℕ) → AreMarksOf (at (set l.reads e.thread (plain_mark e)) u) (at (set l.parts e.thread (commit_mark e)) u)
        (if d.thread == u then Some d else last_read x u ds)
    by_read u = elim (ℕ_discrete d.thread u) [
      | yes same ↦
          (let b : (d.thread == u) ≡ true = eq-eqb d.thread u same in
          let r : at (set l.reads e.thread (plain_mark e)) u
          ≡ plain_mark e = ap (at (set l.reads e.thread (plain_mark e))) (sym (is.thread ∙ same))
          ∙ get_or-set_same l.reads e.thread (plain_mark e) 0 there in
          let p : at (set l.parts e.thread (commit_mark e)) u
          ≡ commit_mark e = ap (at (set l.parts e.thread (commit_mark e))) (sym (is.thread ∙ same))
          ∙ get_or-set_same l.parts e.thread (commit_mark e) 0 there_too in
          rw (b, r, p) (epoch_marks e d is))
      | no other ↦
          (let b : (d.thread == u) ≡ false = ne_eqb d.thread u other in
          let r : at (set l.reads e.thread (plain_mark e)) u
          ≡ at l.reads u = get_or-set_other l.reads e.thread u (plain_mark e) 0 (λ z. other (sym is.thread ∙ sym z)) in
          let p : at (set l.parts e.thread (commit_mark e)) u
          ≡ at l.parts u = get_or-set_other l.parts e.thread u (commit_mark e) 0 (λ z. other (sym is.thread ∙ sym z)) in
          rw (b, r, p) (s.reads u))
    ]

    -- where d writes x, or reads it and does not write it, what is kept with its epoch noted stands for the draws with d
    pub noted_stands : (w : Bool) → is_write x d.what ≡ w → is_read x d.what ≡ not w → LatestStands x (d ∷ ds) (noted w e l)
    noted_stands true iw ir = record {
      writer = rw iw is.thread;
      last_write = rw iw (epoch_marks e d is);
      reads_long = refl;
      parts_long = refl;
      reads = λ u. rw iw (zero_at THREADS u, zero_at THREADS u);
    }
    noted_stands false iw ir = record {
      writer = rw iw s.writer;
      last_write = rw iw s.last_write;
      reads_long = length-set l.reads e.thread (plain_mark e) ∙ s.reads_long;
      parts_long = length-set l.parts e.thread (commit_mark e) ∙ s.parts_long;
      reads = λ u. rw (iw, ir) (by_read u);
    }
