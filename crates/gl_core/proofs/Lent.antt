-- What the calls of the detector are given and leave.
use Rattle.std.proofs.Common.{◌≡◌, ℕ, zero, suc, List, [], replicate, refl, sym, ◌∙◌, ap, subst, false}
use Rattle.std.specs.Prelude.{Option, if◌then◌else◌, slice_index_or}
use Rattle.std.specs.List.{find}
use Rattle.gl_model.specs.declared.event.Act.TheVariants.{Begin}
use Rattle.gl_model.specs.declared.event.Event.TheVariants.{Act as Does}
use Rattle.gl_model.specs.Trace.{is_in}
use Rattle.gl_lines.specs.Traced.{with_stamp}
use Rattle.gl_core.specs.declared.latest.Epoch.{Epoch}
use Rattle.gl_core.specs.Marks.{Marks}
use Rattle.gl_core.specs.declared.tables.Tables.{Tables}
use Rattle.gl_core.specs.Follows.{AreFollowed}
use Rattle.gl_core.specs.Latests.{latest_of, part_fails, noted}
use Rattle.gl_core.specs.Lines.{commit_epoch}
use Rattle.gl_core.specs.Stands.{LatestStands}
use Rattle.gl_core.specs.TablesView.{AreClocksOf}
use Rattle.gl_core.proofs.Grown.{untouched_stands}

-- the first variable that fails is the same by equal clocks and by what was lent
pub found : (known told : ℕ → ℕ) (writes variables : List ℕ) (kept lent : List Marks) (o : Option ℕ) → ((u : ℕ) → known u ≡ told u) → lent
    ≡ kept → o ≡ find (part_fails known writes lent) variables → find (part_fails told writes kept) variables ≡ o
found known told writes variables kept lent o same back e =
    let k : known ≡ told = (λ i u. same u i) in
    sym (e ∙ ap (λ k. find (part_fails k writes lent) variables) k ∙ ap (λ ls. find (part_fails told writes ls) variables) back)

-- what was noted with an epoch was noted with the commit's, where that is it
pub noted_then : (kept after : List Marks) (t m : ℕ) (e : Epoch) (variables writes : List ℕ) → e ≡ commit_epoch t m
    → ((y : ℕ) → latest_of after y ≡ (if is_in y variables then noted (is_in y writes) e (latest_of kept y) else latest_of kept y)) →
    (y : ℕ) → latest_of after y ≡ (if is_in y variables then noted (is_in y writes) (commit_epoch t m) (latest_of kept y)
    else latest_of kept y)
noted_then kept after t m e variables writes is all y = all y
    ∙ ap (λ z. if is_in y variables then noted (is_in y writes) z (latest_of kept y) else latest_of kept y) is

-- where none has ended, no place says so
none_ended : (n u : ℕ) → slice_index_or (replicate n false) u false ≡ false
none_ended zero u = refl
none_ended (suc n) zero = refl
none_ended (suc n) (suc u) = none_ended n u

-- before the first line what the detector keeps follows
pub followed_first : (T : Tables) (kept : List Marks) → AreClocksOf (with_stamp [] 0 (Does (Begin 0))) T → kept ≡ []
    → AreFollowed [] T kept (replicate 16 false)
followed_first T kept are none = record {
  clocks = are;
  latests = λ y. subst (LatestStands y []) (ap (λ ls. latest_of ls y) (sym none)) (untouched_stands y);
  ended = none_ended 16;
}
