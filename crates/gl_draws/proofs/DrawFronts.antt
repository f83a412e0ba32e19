-- What is said of draws goes back to a front of the list.
use Rattle.std.proofs.Common.{ℕ, ◌<◌, List, [], ◌∷◌, ◌++◌, length, refl, inl, inr, true, false}
use Rattle.gl_model.specs.declared.event.Stamp.{Stamp}
use Rattle.gl_model.specs.Entries.{Entry, Plain, Commit}
use Rattle.gl_draws.specs.Draws.{What, Entered, Looked, Open, Draw, Among}
use Rattle.gl_draws.specs.Verdicts.{IsRightEntry, IsRight, IsPlaced, DrawsHold}
use Rattle.gl_draws.proofs.Reaching.{event_back}
use Rattle.gl_draws.proofs.VerdictGrowth.{racy_grows, racy_back}

-- what is said of draws of which each stands in a front of the list is said over that front
module _ (h more : List Stamp) where
  -- a draw whose block is in the front is placed there, where it is placed in the longer list
  placed_back : (d : Draw) → d.block < length h → IsPlaced (h ++ more) d → IsPlaced h d
  placed_back d near p = record {
    event = p.event;
    here = event_back h more d.block p.event near p.here;
    own = p.own;
    goes_on = p.goes_on;
    is = p.is;
  }

  -- an entry whose block is in the front is right over the front, where it is right over the longer list
  right_back : (x : ℕ) (ds : List Draw) (t p : ℕ) (near : p < length h) (e : Entry) → IsRightEntry (h ++ more) x ds t p e
      → IsRightEntry h x ds t p e
  right_back x ds t p near (Plain var nth cached true value raised) i = (
    λ r. racy_back h more x ds t p near (Plain var nth cached true value raised) (i.0 r),
    λ r. i.1
        (racy_grows h more x ds t p near (Plain var nth cached true value raised) r),
  )
  right_back x ds t p near (Plain var nth cached false value raised) i = (
    (
      λ r. racy_back h more x ds t p near (Plain var nth cached false value raised) (i.0.0 r),
      λ r. i.0.1
          (racy_grows h more x ds t p near (Plain var nth cached false value raised) r),
    ),
    i.1,
  )
  right_back x ds t p near (Commit at tx) i = (λ r. i.0 (racy_grows h more x ds t p near (Commit at tx) r), i.1)
  right_back x ds t p near e i = tt

  -- so it is with whatever a number was drawn for in such a block
  what_back : (x : ℕ) (ds : List Draw) (t p : ℕ) (near : p < length h) (w : What) → IsRight (h ++ more) x ds t p w → IsRight h x ds t p w
  what_back x ds t p near (Entered e) i = right_back x ds t p near e i
  what_back x ds t p near (Looked value) i = i
  what_back x ds t p near Open i = tt

  -- what is said of draws over the longer list is said of them over the front, where each of their blocks stands in it
  pub draws_front : (x : ℕ) (ds : List Draw) → ((a : Draw) → Among ds a → a.block < length h) → DrawsHold (h ++ more) x ds
      → DrawsHold h x ds
  draws_front x [] near all = tt
  draws_front x (d ∷ ds) near all = (
    record {
      placed = placed_back d (near d (inl refl)) all.0.placed;
      rises = all.0.rises;
      agrees = all.0.agrees;
      named = all.0.named;
      right = what_back x ds d.thread d.block (near d (inl refl)) d.what all.0.right;
    },
    draws_front x ds (λ a among. near a (inr among)) all.1,
  )
