-- A row whose Infos were walked on stands as it stood, and fails the same tests.
use Rattle.std.proofs.Common.{◌≡◌, ℕ, ◌≤◌, List, length, refl, ◌∙◌, subst, inl, inr, Some, None, true, false, Bool}
use Rattle.std.specs.Prelude.{Option, ◌↔◌}
use Rattle.gl_model.specs.declared.event.Stamp.{Stamp}
use Rattle.gl_model.specs.declared.row.Info.{Info}
use Rattle.gl_model.specs.declared.row.Row.{Row}
use Rattle.gl_model.specs.declared.row.Question.{Question}
use Rattle.gl_model.specs.Machine.{Setting}
use Rattle.gl_draws.specs.Draws.{Draw, access_of, last_write, last_read}
use Rattle.gl_draws.specs.RowFacts.{InfoOf, read_of, RowStands, Fails, SomeFails, IsWithin}
use Rattle.gl_draws.specs.Moved.{AreMoved, IsRowMoved}
use Rattle.gl_draws.proofs.MovedInfos.{unmoved, moved_trans, fails_moved, info_moved}

module _ (setting : Setting) (h : List Stamp) where
  -- an Info that was walked on stands for the draw that it stood for before, and where there was none there is none
  of_moved : (write : Bool) (old new : Option Info) (d : Option Draw) → AreMoved h old new → InfoOf setting h write old d
      → InfoOf setting h write new d
  of_moved write None None d m f = f
  of_moved write None (Some i) d m f = absurd m
  of_moved write (Some i) None d m f = absurd m
  of_moved write (Some i) (Some j) None m f = f
  of_moved write (Some i) (Some j) (Some d) m f = info_moved setting h i j (access_of d) write m f

  -- where the old row stands for the draws of x, so does the row whose Infos were walked on
  pub row_moved : (x : ℕ) (ds : List Draw) (old new : Row) → IsRowMoved h old new → RowStands setting h x ds old
      → RowStands setting h x ds new
  row_moved x ds old new m s = record {
    word = m.value ∙ s.word;
    last_write = of_moved true old.last_write new.last_write (last_write x ds) m.last_write s.last_write;
    threads = m.threads ∙ s.threads;
    reads = λ t. of_moved false (read_of old.reads t) (read_of new.reads t) (last_read x t ds) (m.reads t) (s.reads t);
  }

module _ (h : List Stamp) where
  -- an Info that was walked on from another that was walked on from a first was walked on from that
  option_trans : (a b c : Option Info) → AreMoved h a b → AreMoved h b c → AreMoved h a c
  option_trans None None None m n = tt
  option_trans None None (Some k) m n = absurd n
  option_trans None (Some j) c m n = absurd m
  option_trans (Some i) None c m n = absurd m
  option_trans (Some i) (Some j) None m n = absurd n
  option_trans (Some i) (Some j) (Some k) m n = moved_trans h i j k m n

  -- what was walked on from one row to another, and from that to a third, was walked on from the first to the third
  pub row_trans : (a b c : Row) → IsRowMoved h a b → IsRowMoved h b c → IsRowMoved h a c
  row_trans a b c m n = record {
    value = n.value ∙ m.value;
    last_write = option_trans a.last_write b.last_write c.last_write m.last_write n.last_write;
    threads = n.threads ∙ m.threads;
    reads = λ t. option_trans (read_of a.reads t) (read_of b.reads t) (read_of c.reads t) (m.reads t) (n.reads t);
  }

  -- an Info that is left as it is counts as one that was walked on, where its position is not behind the list
  pub option_unmoved : (o : Option Info) → ((i : Info) → o ≡ Some i → i.pos ≤ length h) → AreMoved h o o
  option_unmoved None n = tt
  option_unmoved (Some i) n = unmoved h i (n i refl)

  -- the position of an Info that was walked on is within the list of events
  option_within : (a b : Option Info) → AreMoved h a b → (i : Info) → b ≡ Some i → i.pos ≤ length h
  option_within None None m i e = absurd (cc)
  option_within None (Some j) m i e = absurd m
  option_within (Some k) None m i e = absurd m
  option_within (Some k) (Some j) m i e = let same : j ≡ i = cc in subst (λ (z : Info). z.pos ≤ length h) same m.within

  -- no position of a row whose Infos were walked on is behind the list
  pub moved_within : (a b : Row) → IsRowMoved h a b → IsWithin b (length h)
  moved_within a b m = record {
    last_write = option_within a.last_write b.last_write m.last_write;
    reads = λ t. option_within (read_of a.reads t) (read_of b.reads t) (m.reads t);
  }

  -- where the Info that was walked on fails its test, it failed it before
  option_back : (a b : Option Info) (u : ℕ) (v : Option (List ℕ)) → AreMoved h a b → ((i : Info) × (b ≡ Some i) × Fails h i u v)
      → ((i : Info) × (a ≡ Some i) × Fails h i u v)
  option_back None None u v m w = absurd (let e = w.1 in cc)
  option_back None (Some j) u v m w = absurd m
  option_back (Some i) None u v m w = absurd m
  option_back (Some i) (Some j) u v m w = let same : w.0 ≡ j = (let e = w.1 in cc)
      in (i, refl, (fails_moved h i j u v m).0 (subst (λ k. Fails h k u v) same w.2))

  -- where an Info fails its test, it does so when it was walked on
  option_on : (a b : Option Info) (u : ℕ) (v : Option (List ℕ)) → AreMoved h a b → ((i : Info) × (a ≡ Some i) × Fails h i u v)
      → ((i : Info) × (b ≡ Some i) × Fails h i u v)
  option_on None None u v m w = absurd (let e = w.1 in cc)
  option_on None (Some j) u v m w = absurd m
  option_on (Some i) None u v m w = absurd m
  option_on (Some i) (Some j) u v m w = let same : w.0 ≡ i = (let e = w.1 in cc)
      in (j, refl, (fails_moved h i j u v m).1 (subst (λ k. Fails h k u v) same w.2))

  -- on a row whose Infos were walked on some Info fails a question exactly where one did before
  pub some_fails_moved : (a b : Row) (q : Question) → IsRowMoved h a b → SomeFails h b q ↔ SomeFails h a q
  some_fails_moved a b q m = (back, on)
    where
      back : SomeFails h b q → SomeFails h a q
      back (inl w) = inl (option_back a.last_write b.last_write q.thread q.commit m.last_write w)
      back (inr w) = let k = option_back (read_of a.reads w.1.0) (read_of b.reads w.1.0) q.thread q.commit (m.reads w.1.0)
          (w.1.1, w.1.2, w.1.3) in inr (w.0, (w.1.0, k.0, k.1, k.2))

      on : SomeFails h a q → SomeFails h b q
      on (inl w) = inl (option_on a.last_write b.last_write q.thread q.commit m.last_write w)
      on (inr w) = let k = option_on (read_of a.reads w.1.0) (read_of b.reads w.1.0) q.thread q.commit (m.reads w.1.0)
          (w.1.1, w.1.2, w.1.3) in inr (w.0, (w.1.0, k.0, k.1, k.2))
