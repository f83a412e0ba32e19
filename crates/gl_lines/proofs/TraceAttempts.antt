-- The record and the draws of a trace, when a commit is performed or refused.
use Rattle.std.proofs.Common.{◌≡◌, ℕ, suc, ◌+◌, ◌<◌, ◌≤◌, ◌==◌, List, [], ◌∷◌, ◌++◌, length, map, take, refl, ap, subst, sym, ◌∙◌, inl, inr, arith, Some, true, false, Bool, length-append}
use Rattle.std.specs.Prelude.{if◌then◌else◌, pos, Contains}
use Rattle.std.proofs.lemmas.List.{take_all}
use Rattle.std.proofs.lemmas.Option.{slice_get_within}
use Rattle.gl_model.specs.declared.event.Event.TheVariants.{Commit as Commits}
use Rattle.gl_model.specs.declared.event.Stamp.{Stamp}
use Rattle.gl_model.specs.declared.tx.Tx.{Tx}
use Rattle.gl_model.specs.declared.tx.Why.TheVariants.{Raised}
use Rattle.gl_model.specs.Edges.{EventAt}
use Rattle.gl_model.specs.Entries.{Entry, Commit, Abort}
use Rattle.gl_model.specs.Form.{NumbersName}
use Rattle.gl_model.specs.Machine.{State, Running, Step, start, trace_setting}
use Rattle.gl_model.specs.Records.{position_of, variables_of}
use Rattle.gl_model.specs.Rising.{with_all}
use Rattle.gl_model.specs.Trace.{is_in, line_tx, look_count, own_count, with_numbers}
use Rattle.gl_draws.specs.Draws.{Entered, Looked, Draw, draw, Among, EachDraw, is_write, written, word_of, value_in}
use Rattle.gl_draws.specs.Events.{AreEvents}
use Rattle.gl_draws.specs.Ties.{last_position, BlockAt, AreDrawn}
use Rattle.gl_lines.specs.Traced.{Traced, block_of, with_look, with_own, touches, with_attempt, after_commit, after_refused}
use Rattle.gl_draws.specs.Verdicts.{IsPlaced}
use Rattle.gl_lines.proofs.Attempts.{IsAttempt, attempt_drawn, attempt_other, attempt_length}
use Rattle.gl_draws.proofs.EventTies.{new_event, events_own, events_other, events_push}
use Rattle.gl_draws.proofs.LastOnes.{each_at}
use Rattle.gl_lines.proofs.LineSets.{its_variables, its_numbers, look_is, look_there, number_is, number_there, is_in-touches}
use Rattle.gl_draws.proofs.EntryKinds.{is_in-contains}
use Rattle.gl_draws.proofs.Pushes.{last_push, block_new}
use Rattle.gl_draws.proofs.Reaching.{event_kept}
use Rattle.gl_draws.proofs.Runs.{allows_push}
use Rattle.gl_lines.proofs.TraceEvents.{DrawFits, fits_grow, IsGoing, IsRecorded, zero_push, each_list, alone_push, formed_push, zeros_push, going_grows, going_new}
use Rattle.gl_lines.proofs.TracePlain.{going_push, block_is, block_here, block_goes_on, own_below}

-- what holds of an attempt's look, of its own draw and of all before holds of each draw with them
pub each_attempt : (P : Draw → List Draw → Type 0) (t q p : ℕ) (e : Entry) (b c : Bool) (ds : List Draw)
    → (c ≡ true → P (draw t q (Looked (pos 0))) ds) → (b ≡ true → P (draw t p (Entered e)) (with_look c t q ds)) → EachDraw P ds
    → EachDraw P (with_own b t p e (with_look c t q ds))
each_attempt P t q p e true true ds look own all = (own refl, (look refl, all))
each_attempt P t q p e true false ds look own all = (own refl, all)
each_attempt P t q p e false true ds look own all = (look refl, all)
each_attempt P t q p e false false ds look own all = all

-- with its look, if it has one, there are as many draws more
look_length : (t q : ℕ) (c : Bool) (ds : List Draw) → length (with_look c t q ds) ≡ length ds + (if c then 1 else 0)
look_length t q true ds = omega arith
look_length t q false ds = omega arith

-- what holds of the look and of each draw before holds of each draw with the look, where there is one
pub among_cases : (P : Draw → Type 0) (t q : ℕ) (c : Bool) (ds : List Draw) → P (draw t q (Looked (pos 0)))
    → ((a : Draw) → Among ds a → P a) → (a : Draw) → Among (with_look c t q ds) a → P a
among_cases P t q true ds look old a (inl same) = subst P (sym same) look
among_cases P t q true ds look old a (inr m) = old a m
among_cases P t q false ds look old a m = old a m

-- the value of each write is 0
pub zero_in : (x : ℕ) (ws : List ℕ) → value_in x (map (λ w. record { var = w; value = pos 0 }) ws) ≡ pos 0
zero_in x [] = refl
zero_in x (w ∷ ws) = here (x == w) (zero_in x ws)
  where
    here : (b : Bool) → value_in x (map (λ w. record { var = w; value = pos 0 }) ws) ≡ pos 0
        → (if b then pos 0 else value_in x (map (λ w. record { var = w; value = pos 0 }) ws)) ≡ pos 0
    here true r = refl
    here false r = r

-- where the word is 0 before an attempt whose entry, if it writes x, writes 0, it is 0 behind it
word_after : (x t q p : ℕ) (e : Entry) (b c : Bool) (ds : List Draw) → (is_write x (Entered e) ≡ true → written x (Entered e) ≡ pos 0)
    → word_of x ds ≡ pos 0 → word_of x (with_own b t p e (with_look c t q ds)) ≡ pos 0
word_after x t q p e b c ds value old = own b
  where
    look : (c : Bool) → word_of x (with_look c t q ds) ≡ pos 0
    look true = old
    look false = old

    entered : (w : Bool) → is_write x (Entered e) ≡ w → word_of x (draw t p (Entered e) ∷ with_look c t q ds) ≡ pos 0
    entered true is = rw is (value is)
    entered false is = rw is (look c)

    own : (b : Bool) → word_of x (with_own b t p e (with_look c t q ds)) ≡ pos 0
    own true = entered (is_write x (Entered e)) refl
    own false = look c

module _ (s : Traced) (now : State) (r : IsRecorded s now) (t : ℕ) (running : now.threads t ≡ Running) (reads writes : List ℕ) where
  abbrev tx : Tx
  tx = line_tx reads writes s.tracing.numbers

  abbrev q : ℕ
  q = block_of t s

  -- behind an attempt the next number of each variable is the count of its draws
  numbers : (p : ℕ) (e : Entry) (y : ℕ) → with_numbers reads writes s.tracing.numbers y
      ≡ length (with_attempt t (block_of t s) p e reads writes s.draws y)
  numbers p e y = ap (λ n. n + look_count reads y + own_count reads writes y) (r.numbers y)
      ∙ sym (attempt_length t (block_of t s) p e (is_in y reads) (is_in y writes) (s.draws y))

  -- on a variable that is read or written, the transaction's own number is the count of the draws with its look
  number_here : (y : ℕ) → touches reads writes y ≡ true
      → Contains (line_tx reads writes s.tracing.numbers).numbers
      (record { var = y; nth = length (with_look (is_in y reads) t (block_of t s) (s.draws y)) })
  number_here y i = subst (λ n. Contains (line_tx reads writes s.tracing.numbers).numbers (record { var = y; nth = n }))
      (ap (λ n. n + look_count reads y) (r.numbers y) ∙ sym (look_length t (block_of t s) (is_in y reads) (s.draws y)))
      (number_there reads writes s.tracing.numbers y i)

  -- the draw of a look by the thread is placed, in the block of its last event
  pub look_placed : IsPlaced s.history (draw t (block_of t s) (Looked (pos 0)))
  look_placed = let b = block_here s now r t running
      in record { event = b.event; here = b.here; own = b.own; goes_on = block_goes_on s now r t running; is = tt }

  -- the thread's block is the position of an event of the history
  block_near : block_of t s < length s.history
  block_near = let b = block_here s now r t running in slice_get_within s.history (block_of t s) b.event b.here

  -- the block of each draw so far is the position of an event of the history
  old_near : (y : ℕ) (a : Draw) → Among (s.draws y) a → a.block < length s.history
  old_near y a among = let f = each_at (DrawFits s.history y) (s.draws y) a (r.fit y) among
      in slice_get_within s.history a.block f.1.placed.event f.1.placed.here

  -- the entry of a performed commit on these variables draws and has what such an attempt does
  pub commit_attempt : IsAttempt s.draws (Commit s.tracing.next (line_tx reads writes s.tracing.numbers)) reads writes
  commit_attempt = record {
    looks = λ y k l. let i = look_is reads writes s.tracing.numbers y k l.0 l.1 in (i.0, i.1 ∙ r.numbers y);
    own = λ y k o. let i = number_is reads writes s.tracing.numbers y k o in (i.0, i.1 ∙ ap (λ n. n + look_count reads y) (r.numbers y));
    look_there = λ y i. let c = subst (λ n. Contains (line_tx reads writes s.tracing.numbers).looks
        (record { var = y; value = pos 0; nth = n })) (r.numbers y) (look_there reads writes s.tracing.numbers y i) in ((pos 0, c), c);
    own_there = λ y i. let c = subst (λ n. Contains (line_tx reads writes s.tracing.numbers).numbers
        (record { var = y; nth = n + look_count reads y })) (r.numbers y) (number_there reads writes s.tracing.numbers y i) in (c, c);
    number = λ y k n. n;
  }

  -- so does that of a refused one
  pub refused_attempt : (var : ℕ) → IsAttempt s.draws (Abort (line_tx reads writes s.tracing.numbers) (Raised var)) reads writes
  refused_attempt var = record {
    looks = λ y k l. let i = look_is reads writes s.tracing.numbers y k l.0 l.1 in (i.0, i.1 ∙ r.numbers y);
    own = λ y k o. let i = number_is reads writes s.tracing.numbers y k o in (i.0, i.1 ∙ ap (λ n. n + look_count reads y) (r.numbers y));
    look_there = λ y i. let c = subst (λ n. Contains (line_tx reads writes s.tracing.numbers).looks
        (record { var = y; value = pos 0; nth = n })) (r.numbers y) (look_there reads writes s.tracing.numbers y i) in ((pos 0, c), c);
    own_there = λ y i. let c = subst (λ n. Contains (line_tx reads writes s.tracing.numbers).numbers
        (record { var = y; nth = n + look_count reads y })) (r.numbers y) (number_there reads writes s.tracing.numbers y i) in (c, c);
    number = λ y k n. n;
  }

  -- its own numbers name its variables, and stand behind its looks'
  pub names : NumbersName (line_tx reads writes s.tracing.numbers) (variables_of (line_tx reads writes s.tracing.numbers))
  names = record {
    variables = its_numbers reads writes s.tracing.numbers ∙ sym (its_variables reads writes s.tracing.numbers);
    after_looks = λ x k m value c d.
        let l = look_is reads writes s.tracing.numbers x k value c in
        let n = number_is reads writes s.tracing.numbers x m d in
        let one : look_count reads x ≡ 1 = (let i = l.0 in rw i refl) in
        let a = l.1 in
        let b = n.1 in omega arith;
  }

  -- over any events where it is placed, the draw of a look fits the draws of each variable
  pub look_fits : (h : List Stamp) (y : ℕ) → IsPlaced h (draw t (block_of t s) (Looked (pos 0)))
      → DrawFits h y (draw t (block_of t s) (Looked (pos 0))) (s.draws y)
  look_fits h y p = record {
    placed = p;
    rises = λ a among own. own_below s now r t running y a among own;
    agrees = λ a among c f. absurd f;
    named = tt;
  }

  -- a refused commit
  module _ (var : ℕ) where
    abbrev f : Entry
    f = Abort (line_tx reads writes s.tracing.numbers) (Raised var)

    -- the draw of the refused commit's end fits on each of its variables, behind that of its look
    pub refused_fits : (y : ℕ) → touches reads writes y ≡ true
        → DrawFits s.history y (draw t (block_of t s) (Entered f)) (with_look (is_in y reads) t (block_of t s) (s.draws y))
    refused_fits y i = record {
      placed = (let b = block_here s now r t running
          in record { event = b.event; here = b.here; own = b.own; goes_on = block_goes_on s now r t running; is = tt });
      rises = among_cases (λ a. a.thread ≡ t → a.block ≤ block_of t s) t (block_of t s) (is_in y reads) (s.draws y) (λ own. omega arith)
          (λ a among own. own_below s now r t running y a among own);
      agrees = λ a among c z. absurd z;
      named = (number_here y i, tt);
    }

    -- behind a refused commit the record, the events and the draws belong together, in the same state of the machine
    pub refused_recorded : IsRecorded (after_refused t reads writes var s) now
    refused_recorded = record {
      allowed = r.allowed;
      next = r.next;
      numbers = numbers (block_of t s) f;
      events = each_list (λ w es. AreEvents s.history w es) s.tracing.lists t f
          (events_push s.history t (s.tracing.lists t) (r.events t) f refl) (λ w other. r.events w);
      drawn = each_list (λ w es. AreDrawn (with_attempt t (block_of t s) (block_of t s) f reads writes s.draws) w es []) s.tracing.lists t f
          (attempt_drawn s.draws t (block_of t s) (block_of t s) f reads writes (refused_attempt var) (s.tracing.lists t) (r.drawn t)
          (block_new (s.tracing.lists t) f (block_of t s) refl (block_is s now r t running)))
          (λ w other. attempt_other s.draws t (block_of t s) (block_of t s) f reads writes (refused_attempt var) w (s.tracing.lists w)
          other (r.drawn w));
      going = each_list (λ w es. now.threads w ≡ Running → IsGoing s.history w es) s.tracing.lists t f
          (λ runs. going_push s.history t (s.tracing.lists t) f refl (r.going t runs)) (λ w other runs. r.going w runs);
      fit = λ y. each_attempt (DrawFits s.history y) t (block_of t s) (block_of t s) f (touches reads writes y) (is_in y reads) (s.draws y)
          (λ i. look_fits s.history y look_placed) (λ i. refused_fits y i) (r.fit y);
      alone = alone_push s.tracing.lists t f r.alone (λ z. z);
      formed = formed_push s.tracing.lists t f r.formed names;
      words = λ y. word_after y t (block_of t s) (block_of t s) f (touches reads writes y) (is_in y reads) (s.draws y)
          (λ w. absurd (let z : false ≡ true = w in cc)) (r.words y);
      zeros = zeros_push s.tracing.lists t f r.zeros refl;
      quiet = r.quiet;
      zero_run = r.zero_run;
    }

  -- a performed commit
  abbrev x : Stamp
  x = record { thread = t; event = Commits (with_all writes reads) }

  abbrev e : Entry
  e = Commit s.tracing.next (line_tx reads writes s.tracing.numbers)

  -- the commit's entry has the position that comes next in the history
  at : position_of e ≡ Some (length s.history)
  at = ap Some r.next

  -- the commit's own draw is placed at the commit's event
  commit_placed : IsPlaced (s.history ++ x ∷ []) (draw t s.tracing.next (Entered e))
  commit_placed = record {
    event = x;
    here = subst (λ k. EventAt (s.history ++ x ∷ []) k x) (sym r.next) (new_event s.history x);
    own = refl;
    goes_on = λ z. cc;
    is = ap Commits (sym (its_variables reads writes s.tracing.numbers));
  }

  -- the draw of the commit's end fits on each of its variables, behind that of its look, over the events with the commit
  pub commit_fits : (y : ℕ) → touches reads writes y ≡ true
      → DrawFits (s.history ++ x ∷ []) y (draw t s.tracing.next (Entered e)) (with_look (is_in y reads) t (block_of t s) (s.draws y))
  commit_fits y i = record {
    placed = commit_placed;
    rises = λ a among own. near a among;
    agrees = λ a among c z. near a among;
    named = (
      number_here y i,
      subst (λ vs. Contains vs y) (sym (its_variables reads writes s.tracing.numbers))
          (is_in-contains y (with_all writes reads) (is_in-touches reads writes y ∙ i)),
    );
  }
    where
      near : (a : Draw) → Among (with_look (is_in y reads) t (block_of t s) (s.draws y)) a → a.block < s.tracing.next
      near = among_cases (λ a. a.block < s.tracing.next) t (block_of t s) (is_in y reads) (s.draws y) (let b = block_near in let n = r.next
          in omega arith) (λ a among. let b = old_near y a among in let n = r.next in omega arith)

  -- the block of the commit's entry, at the end of its thread's list, is the commit's own position
  block_new_event : BlockAt (s.tracing.lists t ++ e ∷ []) (length (s.tracing.lists t)) s.tracing.next
  block_new_event =
      let es = s.tracing.lists t in
      let whole : take (suc (length es)) (es ++ e ∷ []) ≡ es ++ e
      ∷ [] = take_all (suc (length es)) (es ++ e ∷ []) (omega (arith, length-append es (e ∷ []))) in
      ap last_position whole ∙ last_push es e

  -- the draw of a look is placed over the events with the commit too
  pub look_grown : IsPlaced (s.history ++ x ∷ []) (draw t (block_of t s) (Looked (pos 0)))
  look_grown = let p = look_placed in record {
    event = p.event;
    here = event_kept s.history (x ∷ []) (block_of t s) p.event p.here;
    own = p.own;
    goes_on = p.goes_on;
    is = tt;
  }

  -- the machine can make the commit's step, which leaves its state as it was
  step : Step trace_setting now x (pos 0) now
  step = record { may = running; effect = refl }

  -- behind a performed commit the record, the events and the draws belong together, in the same state of the machine
  pub commit_recorded : IsRecorded (after_commit t reads writes s) now
  commit_recorded = record {
    allowed = allows_push trace_setting (start trace_setting) now now s.history x (pos 0) step r.allowed;
    next = ap (λ n. n + 1) r.next ∙ sym (length-append s.history (x ∷ []));
    numbers = numbers s.tracing.next e;
    events = each_list (λ w es. AreEvents (s.history ++ x ∷ []) w es) s.tracing.lists t e
        (events_own s.history t (s.tracing.lists t) (r.events t) x e refl at
        (ap (λ vs. Some (Commits vs)) (its_variables reads writes s.tracing.numbers)))
        (λ w other. events_other s.history w (s.tracing.lists w) (r.events w) x (λ eq. other (sym eq)));
    drawn = each_list (λ w es. AreDrawn (with_attempt t (block_of t s) s.tracing.next e reads writes s.draws) w es []) s.tracing.lists t e
        (attempt_drawn s.draws t (block_of t s) s.tracing.next e reads writes commit_attempt (s.tracing.lists t) (r.drawn t)
        block_new_event)
        (λ w other. attempt_other s.draws t (block_of t s) s.tracing.next e reads writes commit_attempt w (s.tracing.lists w) other
        (r.drawn w));
    going = each_list (λ w es. now.threads w ≡ Running → IsGoing (s.history ++ x ∷ []) w es) s.tracing.lists t e
        (λ runs. going_new s.history t (s.tracing.lists t) x e at (λ over. cc))
        (λ w other runs. going_grows s.history (x ∷ []) w (s.tracing.lists w) (r.events w) (r.going w runs));
    fit = λ y. each_attempt (DrawFits (s.history ++ x ∷ []) y) t (block_of t s) s.tracing.next e (touches reads writes y) (is_in y reads)
        (s.draws y) (λ i. look_fits (s.history ++ x ∷ []) y look_grown) (λ i. commit_fits y i)
        (fits_grow s.history (x ∷ []) y (s.draws y) (r.fit y));
    alone = alone_push s.tracing.lists t e r.alone (λ z. z);
    formed = formed_push s.tracing.lists t e r.formed names;
    words = λ y. word_after y t (block_of t s) s.tracing.next e (touches reads writes y) (is_in y reads) (s.draws y)
        (λ w. zero_in y writes) (r.words y);
    zeros = zeros_push s.tracing.lists t e r.zeros refl;
    quiet = r.quiet;
    zero_run = zero_push trace_setting (start trace_setting) now now s.history x step r.zero_run;
  }
