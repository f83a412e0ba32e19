-- The record is legal exactly where its words hold.
use Rattle.std.proofs.Common.{◌≡◌, ℕ, zero, suc, ◌+◌, List, [], ◌∷◌, length, refl, ap, subst, sym, ◌∙◌, arith, Some, None, true, false, add-one}
use Rattle.std.specs.Prelude.{ℤ, pos, Option, slice_get}
use Rattle.gl_model.specs.declared.event.Stamp.{Stamp}
use Rattle.gl_model.specs.Entries.{Entry, Sync, Commit, Plain, Abort, Trim, Over}
use Rattle.gl_model.specs.Flat.{IsFlat, IsLaidOut, IsRun, IsStep, Legal, Memory}
use Rattle.gl_model.specs.Form.{Form, IsMachineRun}
use Rattle.gl_model.specs.Machine.{Setting, Running, start}
use Rattle.gl_model.specs.Records.{Lists, Place, EntryAt, IsEventList, PositionsRise, IsBlockOf}
use Rattle.gl_laws.proofs.Bridge.{same_entry}
use Rattle.gl_laws.proofs.Histories.{RisingWrites}
use Rattle.gl_laws.proofs.Legality.{ReadsAgree, is_run, memory, words}
use Rattle.gl_flat.specs.Walk.{words_past}
use Rattle.gl_flat.specs.Words.{IsLastWord, IsWordAt, ReadsValue, WordsHold}
use Rattle.gl_flat.proofs.Blocks.{laid_block, plain_runs, positions_rise}
use Rattle.gl_flat.proofs.FlatList.{at_contains, contains_at, history}
use Rattle.gl_flat.proofs.FlatWords.{Among, first_word, laid_in, reads_laid, step_word, word_at, word_is}

module _ (setting : Setting) (R : Lists) (h : List Stamp) (is_list : IsEventList h R) (form : Form R) (machine : IsMachineRun setting R h)
    (cs : List Place) (flat : IsFlat R cs) where
  abbrev rise : PositionsRise R
  rise = positions_rise R form

  -- the block of each place of the history
  block_there : (k : ℕ) (o : Option Place) → slice_get cs k ≡ o → ℕ
  block_there k None at = 0
  block_there k (Some c) at = let laid = laid_in R h is_list rise cs flat k c at in (laid_block R form c laid.0 laid.1 laid.2).0

  -- the block of the place at k of the history, and 0 where the history has no such place
  block : ℕ → ℕ
  block k = block_there k (slice_get cs k) refl

  -- where c stands at k in the history, the block that is found there is that of c
  block_is : (k : ℕ) (c : Place) (o : Option Place) (at : slice_get cs k ≡ o) → o ≡ Some c → IsBlockOf R c (block_there k o at)
  unfolding block_there
  block_is k c None at is = absurd (cc)
  block_is k c (Some d) at is =
      let same : d ≡ c = cc in
      let laid = laid_in R h is_list rise cs flat k d at in
      subst (λ z. IsBlockOf R z (block_there k (Some d) at)) same (laid_block R form d laid.0 laid.1 laid.2).1

  -- where c stands at k in the history, its block is the one at k
  blocks : (k : ℕ) (c : Place) → slice_get cs k ≡ Some c → IsBlockOf R c (block k)
  unfolding block
  blocks k c at = block_is k c (slice_get cs k) refl at

  module _ (rising : (c : Place) (e : Entry) → EntryAt R c e → RisingWrites e) (hold : WordsHold R) where
    -- the entry at a place of the history is laid out: it is an event, or a plain access that was not raised
    unraised : (k : ℕ) (c : Place) (e : Entry) → slice_get cs k ≡ Some c → EntryAt R c e → IsLaidOut e
    unraised k c e at there = let laid = laid_in R h is_list rise cs flat k c at in
        subst IsLaidOut (same_entry R c laid.0 e laid.1 there) laid.2

    -- each read and look has the word there, and a plain access is made by a running thread
    agree : ReadsAgree setting R h is_list rise machine cs flat block blocks
    unfolding words
    agree = record {
      reads = λ k c var nth cached raised value at there.
          word_is R h is_list rise cs flat rising k c var value at
          (hold.flat c (Plain var nth cached false value raised) there var value
          (unraised k c (Plain var nth cached false value raised) at there, refl, refl, refl));
      looks = λ k c at tx here there j l found.
          word_is R h is_list rise cs flat rising k c l.var l.value here
          (hold.flat c (Commit at tx) there l.var l.value (l, contains_at tx.looks j l found, refl, refl));
      runs = λ k c var nth cached write raised value at there.
          subst (λ n. (machine.at n).threads c.thread ≡ Running) (add-one (block k))
          (plain_runs R form setting h machine c (block k) var nth cached write raised value there (blocks k c at));
    }

    -- where its words hold, the record is legal: the machine, with the words, runs along its flat history
    pub legal_so : Legal setting R
    legal_so = record {
      history = cs;
      flat = flat;
      after = memory setting R h is_list rise machine cs flat block blocks (length cs);
      run = is_run setting R h is_list rise machine cs flat block blocks agree (laid_in R h is_list rise cs flat);
      found = hold.looks;
    }

-- a record whose words hold is legal
pub legal_of : (setting : Setting) (R : Lists) (h : List Stamp) → IsEventList h R → Form R → IsMachineRun setting R h →
    ((c : Place) (e : Entry) → EntryAt R c e → RisingWrites e) → WordsHold R → Legal setting R
legal_of setting R h is_list form machine rising hold = let cs = history R h is_list form in
    legal_so setting R h is_list form machine cs.0 cs.1 rising hold

-- one step of the machine writes what its entry writes
step_words : (setting : Setting) (old new : Memory) (t : ℕ) (e : Entry) → IsStep setting old t e new → IsLaidOut e → (x : ℕ) →
    new.words x ≡ words_past old.words e x
step_words setting old new t (Sync at act value) step laid x = ap (λ (f : ℕ → ℤ). f x) step.1
step_words setting old new t (Commit at tx) step laid x = ap (λ (m : Memory). m.words x) step.2
step_words setting old new t (Plain var nth cached true value false) step laid x = ap (λ (m : Memory). m.words x) step.1
step_words setting old new t (Plain var nth cached true value true) step laid x = absurd (cc)
step_words setting old new t (Plain var nth cached false value raised) step laid x = ap (λ (m : Memory). m.words x) step.2
step_words setting old new t (Abort tx why) step laid x = absurd step
step_words setting old new t (Trim low) step laid x = absurd step
step_words setting old new t (Over ending) step laid x = absurd step

-- what one step of the machine reads are the words before it
step_reads : (setting : Setting) (old new : Memory) (t : ℕ) (e : Entry) → IsStep setting old t e new → (x : ℕ) (v : ℤ) → ReadsValue e x v →
    v ≡ old.words x
step_reads setting old new t (Commit at tx) step x v r = let k = at_contains tx.looks r.0 r.1 in sym r.3 ∙ step.1 k.0 r.0 k.1 ∙
    ap old.words r.2
step_reads setting old new t (Plain var nth cached true value raised) step x v r = absurd (let z = r.1 in cc)
step_reads setting old new t (Plain var nth cached false value raised) step x v r = sym r.3 ∙ step.1 ∙ ap old.words r.2
step_reads setting old new t (Sync at act value) step x v r = absurd r
step_reads setting old new t (Abort tx why) step x v r = absurd r
step_reads setting old new t (Trim low) step x v r = absurd r
step_reads setting old new t (Over ending) step x v r = absurd r

module _ (setting : Setting) (R : Lists) (h : List Stamp) (is_list : IsEventList h R) (rising : PositionsRise R)
    (legal : Legal setting R) where
  abbrev cs : List Place
  cs = legal.history

  -- each place of a run reads the words there
  along : (rest : List Place) (k : ℕ) (old : Memory) → ((j : ℕ) → slice_get rest j ≡ slice_get cs (k + j)) →
      IsRun setting R old rest legal.after →
      ((x : ℕ) → IsLastWord R (Among R h is_list rising cs legal.flat k) x (old.words x)) → (j : ℕ) (c : Place) →
      slice_get rest j ≡ Some c →
      (e : Entry) → EntryAt R c e → (x : ℕ) (v : ℤ) → ReadsValue e x v → IsWordAt R c x v
  along [] k old same run words j c at = absurd (cc)
  along (d ∷ ds) k old same run words zero c at = λ e there x v reads.
      let here : slice_get cs k ≡ Some c = ap (slice_get cs) (let z : k ≡ k + 0 = omega arith in z) ∙ (sym (same 0) ∙ at) in
      let is : d ≡ c = cc in
      let f_there : EntryAt R c run.0 = subst (λ y. EntryAt R y run.0) is run.1 in
      let r : ReadsValue run.0 x v = subst (λ f. ReadsValue f x v) (same_entry R c e run.0 there f_there) reads in
      let value = step_reads setting old run.2.0 d.thread run.0 run.2.1 x v r in
      word_at R h is_list rising cs legal.flat k c x v here
      (subst (IsLastWord R (Among R h is_list rising cs legal.flat k) x) (sym value) (words x))
  along (d ∷ ds) k old same run words (suc j) c at =
      let here : slice_get cs k ≡ Some d = ap (slice_get cs) (let z : k ≡ k + 0 = omega arith in z) ∙ sym (same 0) in
      let laid = laid_in R h is_list rising cs legal.flat k d here in
      let e_laid : IsLaidOut run.0 = subst IsLaidOut (same_entry R d laid.0 run.0 laid.1 run.1) laid.2 in
      along ds (suc k) run.2.0 (λ i. same (suc i) ∙ ap (slice_get cs) (let z : k + suc i ≡ suc k + i = omega arith in z)) run.2.2
      (λ x. subst (IsLastWord R (Among R h is_list rising cs legal.flat (suc k)) x)
      (sym (step_words setting old run.2.0 d.thread run.0 run.2.1 e_laid x))
      (step_word R h is_list rising cs legal.flat k d run.0 old.words x here run.1 (words x)))
      j c at

  -- the words of a legal record hold
  pub holds_of : WordsHold R
  holds_of = record { flat = flat; looks = legal.found }
    where
      flat : (c : Place) (e : Entry) → EntryAt R c e → (x : ℕ) (v : ℤ) → ReadsValue e x v → IsWordAt R c x v
      flat c e there x v reads =
          let m = at_contains cs c ((legal.flat.each c).1 (e, there, reads_laid e x v reads)) in
          along cs 0 (record { state = start setting; words = λ _. pos 0 })
          (λ j. ap (slice_get cs) (let z : j ≡ 0 + j = omega arith in z)) legal.run
          (first_word R h is_list rising cs legal.flat) m.0 c m.1 e there x v reads
