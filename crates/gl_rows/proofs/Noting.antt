-- The row that comes back after a plain access was marked: over each fitting list it is that of the draws of the row as it was taken, and
-- of the mark's.
use Rattle.std.proofs.Common.{◌≡◌, ℕ, ◌+◌, ◌<◌, ◌≤◌, List, [], ◌∷◌, ◌++◌, set, replicate, refl, ap, arith, ◌∙◌, true, false, Bool, inl, inr, Some, None}
use Rattle.std.specs.Prelude.{ℤ, ◌↔◌}
use Rattle.gl_model.specs.declared.event.Stamp.{Stamp}
use Rattle.gl_model.specs.declared.event.Element.{Element}
use Rattle.gl_model.specs.declared.row.Info.{Info}
use Rattle.gl_model.specs.declared.row.Row.{Row}
use Rattle.gl_model.specs.declared.limits.TheConstants.{THREADS}
use Rattle.gl_model.specs.Entries.{Entry, Plain}
use Rattle.gl_model.specs.Form.{IsEnd}
use Rattle.gl_model.specs.Infos.{InfoFor, AreLeastOwned}
use Rattle.gl_model.specs.Lockset.{Has}
use Rattle.gl_model.specs.Locksets.{InitialLockset}
use Rattle.gl_model.specs.Machine.{Setting, State, Allows, start}
use Rattle.gl_model.specs.Records.{position_of}
use Rattle.gl_draws.specs.Draws.{Entered, Draw, draw, access_of, is_write, is_read}
use Rattle.gl_draws.specs.Events.{AreEvents}
use Rattle.gl_draws.specs.RowFacts.{RowStands}
use Rattle.gl_draws.specs.Ties.{last_position}
use Rattle.gl_draws.proofs.EventTies.{last_own}
use Rattle.gl_draws.proofs.Membership.{IsMade}
use Rattle.gl_draws.proofs.OwnInfo.{own_info}
use Rattle.gl_draws.proofs.Owners.{state_at, least_owned}
use Rattle.gl_draws.proofs.Pushes.{at_cases, at_kept, last_push}
use Rattle.gl_draws.proofs.RowGrowth.{row_stays, row_wrote, row_read}
use Rattle.gl_draws.proofs.Running.{end_entry}
use Rattle.gl_rule.specs.Fitting.{IsFitting, IsNotOver}
use Rattle.gl_rule.specs.View.{shelf}

-- the list without its last entry, which is no event
pub events_pop : (h : List Stamp) (t : ℕ) (es : List Entry) (e : Entry) → position_of e ≡ None → AreEvents h t (es ++ e ∷ [])
    → AreEvents h t es
events_pop h t es e none k = record {
  listed = λ i p f ev a b c. k.listed i p f ev (at_kept es (e ∷ []) i f a) b c;
  made = λ p s at own. let m = k.made p s at own in
      elim (at_cases es e m.1 m.0 m.2) [
        | inl old ↦ (m.0, m.1, old, m.3, m.4)
        | inr new ↦ absurd (let b : position_of e ≡ Some p = rw new.1 at m.3 in cc)
      ];
  rise = λ i j p q f g a b lt c d. k.rise i j p q f g (at_kept es (e ∷ []) i f a) (at_kept es (e ∷ []) j g b) lt c d;
}

-- what fits a pass that stored a plain entry more fits it without
pub fits_pop : (setting : Setting) (t : ℕ) (es : List Entry) (e : Entry) (seen : ℕ) (known : List (ℕ × Stamp)) (l : List Stamp)
    → position_of e ≡ None → IsFitting setting (shelf t (es ++ e ∷ [])) seen known l → IsFitting setting (shelf t es) seen known l
fits_pop setting t es e seen known l none f =
    record { long = f.long; now = f.now; allowed = f.allowed; knows = f.knows; own = events_pop l t es e none f.own }

-- over each list that has the thread's events these are the least monitors that it owns behind it
abbrev pub OwnLeast : Setting → ℕ → List Entry → List ℕ → Type 0
OwnLeast setting t es held = (l : List Stamp) (now : State) → AreEvents l t es → Allows setting l now → AreLeastOwned now t held

-- thread t has stored es, and then a plain entry on x in the block at p
module _ (setting : Setting) (t p x nth : ℕ) (es : List Entry) (write raised : Bool) (value : ℤ) (last : last_position es ≡ Some p)
    (goes_on : IsNotOver es) (seen : ℕ) (known : List (ℕ × Stamp)) where
  abbrev e : Entry
  e = Plain x nth false write value raised

  abbrev d : Draw
  d = draw t p (Entered (Plain x nth false write value raised))

  abbrev Fits : List Stamp → Type 0
  Fits l = IsFitting setting (shelf t (es ++ Plain x nth false write value raised ∷ [])) seen known l

  -- the thread's last event stays the last one with the plain entry behind it
  pub still_last : last_position (es ++ e ∷ []) ≡ Some p
  still_last = last_push es e ∙ last

  -- the thread's entries with the access have no end among them
  not_over : IsNotOver (es ++ e ∷ [])
  not_over i f a is = elim (at_cases es e f i a) [ inl old ↦ goes_on i f old is | inr new ↦ (let k : IsEnd e = rw new.1 at is in k) ]

  -- over each fitting list the access was made in the block at p
  made_there : (l : List Stamp) → Fits l → IsMade l (access_of d)
  made_there l f =
      let k = last_own l t (es ++ e ∷ []) f.own p still_last in
      record {
        event = k.event;
        here = k.here;
        own = k.own;
        goes_on = λ over. not_over k.index k.entry k.there (end_entry k.entry (k.is ∙ ap Some over));
      }

  -- an Info with the set that an own access starts with, at a position that was seen, stands for the access over each fitting list
  pub own_stands : (i : Info) → i.thread ≡ t → i.write ≡ write → i.commit ≡ false → p < i.pos → i.pos ≤ seen
      → ((y : Element) → Has i.set y ↔ InitialLockset t None y)
      → OwnLeast setting t es i.held → (l : List Stamp) → Fits l → InfoFor setting l i (access_of d) write
  own_stands i by writes commit behind within starts held l f =
      let k = last_own l t (es ++ e ∷ []) f.own p still_last in
      let long = f.long in
      let s = state_at setting (start setting) f.now l (p + 1) t f.allowed (λ q ev here own. let w = k.upto q ev here own in omega arith) in
      own_info setting l f.now f.allowed (access_of d) (made_there l f) refl k.upto i write by writes commit s.state s.run
      (least_owned s.state f.now t i.held s.owns
      (held l f.now (events_pop l t es (Plain x nth false write value raised) refl f.own) f.allowed))
      behind (omega arith) starts

-- what the row becomes
module _ (setting : Setting) (t p x nth : ℕ) (es : List Entry) (value : ℤ) (seen : ℕ) (known : List (ℕ × Stamp)) where
  abbrev Over : Bool → Bool → Row → Row → Type 0
  Over write raised row row' =
      (l : List Stamp) → IsFitting setting (shelf t (es ++ Plain x nth false write value raised ∷ [])) seen known l → (ds : List Draw)
      → RowStands setting l x ds row →
      RowStands setting l x (draw t p (Entered (Plain x nth false write value raised)) ∷ ds) row'

  -- a raised access is no performed write
  none_written : (write : Bool) → is_write x (Entered (Plain x nth false write value true)) ≡ false
  none_written true = refl
  none_written false = refl

  -- a raised access is no performed read
  none_read : (write : Bool) → is_read x (Entered (Plain x nth false write value true)) ≡ false
  none_read true = refl
  none_read false = refl

  -- a raised access leaves it as it is
  pub raised_follows : (write : Bool) (row : Row) → Over write true row row
  raised_follows write row l f ds s = row_stays setting l x ds row s (draw t p (Entered (Plain x nth false write value true)))
      (none_written write) (none_read write)

  -- a write is its last write, and drops the reads
  pub write_follows : (row : Row) (i : Info)
      → ((l : List Stamp) → IsFitting setting (shelf t (es ++ Plain x nth false true value false ∷ [])) seen known l
      → InfoFor setting l i (access_of (draw t p (Entered (Plain x nth false true value false)))) true)
      → Over true false row (record { value = value; last_write = Some i; reads = replicate THREADS None })
  write_follows row i stands l f ds s = row_wrote setting l x ds row s t p nth value i (stands l f)

  -- a read is its thread's
  pub read_follows : (row : Row) (i : Info) → t < THREADS
      → ((l : List Stamp) → IsFitting setting (shelf t (es ++ Plain x nth false false value false ∷ [])) seen known l
      → InfoFor setting l i (access_of (draw t p (Entered (Plain x nth false false value false)))) false)
      → Over false false row (record { value = row.value; last_write = row.last_write; reads = set row.reads t (Some i) })
  read_follows row i near stands l f ds s = row_read setting l x ds row s t p nth value i near (stands l f)
