-- What was to be written, and what came of writing it, tell what the top calls promise.
use Rattle.std.proofs.Common.{arith, ◌≡◌, ℕ, List, Option, None, Some, Result, Ok, Err, IfOk, OnOk, refl, sym, subst, ◌∙◌, inl, inr}
use Rattle.std.specs.Prelude.{◌⊎◌}
use Rattle.std.specs.Io.KnownBytes.{IsAtEnd}
use Rattle.gl_run.specs.Command.{HasCauses, HasLeft, HasRead, IsAccepted, IsAnswered, IsNoCommand, IsWhole, ReadsNothing, Replies, Serves}
use Rattle.gl_run.specs.Finishing.{Finishes, IsCut, IsNothing, IsWritten}
use Rattle.gl_run.specs.Replies.{IsPageStatus, IsVerdict, RepliesTo, ReplyCause}
use Rattle.gl_run.specs.Words.{most_of}
use Rattle.gl_run.specs.declared.keep.Keep.{Keep}
use Rattle.gl_run.specs.declared.page.Page.{Page}
use Rattle.gl_run.specs.declared.page.Stop.{Stop}
use Rattle.gl_run.specs.declared.page.Stop.TheVariants.{Read, Memory}
use Rattle.gl_run.specs.declared.status.TheConstants.{NO_COMMAND, READ_FAILED, WRITE_FAILED, NO_MEMORY}
use Rattle.gl_run.specs.declared.top.Answer.{Answer}
use Rattle.gl_run.specs.declared.words.Command.{Command}
use Rattle.gl_run.proofs.LongPrograms.{stopped}

-- ## Statuses

-- a page's status is none of those that stand for a failure
no_stop : (asked : Option Command) (s : ℕ) → IsPageStatus asked s → (s ≡ READ_FAILED) ⊎ (s ≡ WRITE_FAILED) → ⊥
no_stop asked s (inl none) stop = (let one = none.1 in grind arith)
no_stop asked s (inr some) stop = (let verdict = some.1 in grind arith)

-- a status that tells a verdict is not that of no command
no_usage_of : (s : ℕ) → IsVerdict s → s ≡ NO_COMMAND → ⊥
no_usage_of s verdict is = grind arith

-- a page whose status is that of no command is of no command
usage_of : (asked : Option Command) (s : ℕ) → IsPageStatus asked s → s ≡ NO_COMMAND → IsNoCommand asked
usage_of asked s (inl none) is = none.0
usage_of asked s (inr some) is = absurd (no_usage_of s some.1 is)

-- a page of no command has the status of no command
is_usage : (asked : Option Command) (s : ℕ) → IsPageStatus asked s → IsNoCommand asked → s ≡ NO_COMMAND
is_usage asked s (inl none) asks = none.1
is_usage asked s (inr some) asks = absurd (some.0 asks)

-- nothing is read for words that are no command
nothing_read : (asked : Option Command) → IsNoCommand asked → ReadsNothing asked
nothing_read None none = refl
nothing_read (Some command) none = absurd (cc none)

-- all of a page is written under its status
whole_of : (asked : Option Command) (s : ℕ) → IsPageStatus asked s → IsWhole s
whole_of asked s (inl none) = inr (inl none.1)
whole_of asked s (inr (c, inl well)) = inl well
whole_of asked s (inr (c, inr (inl refused))) = inr (inr (inl refused))
whole_of asked s (inr (c, inr (inr (inl races)))) = inr (inr (inr (inl races)))
whole_of asked s (inr (c, inr (inr (inr (inl unhalted))))) = inr (inr (inr (inr (inl unhalted))))
whole_of asked s (inr (c, inr (inr (inr (inr unlawful))))) = inr (inr (inr (inr (inr unlawful))))

-- a page that could not be written is not whole
cut_is_not_whole : (s : ℕ) → s ≡ WRITE_FAILED → IsWhole s → ⊥
cut_is_not_whole s cut whole = grind arith

-- a whole page was not stopped by reading or by memory
whole_is_not_stopped : (s : ℕ) → IsWhole s → (s ≡ READ_FAILED) ⊎ (s ≡ NO_MEMORY) → ⊥
whole_is_not_stopped s whole stop = grind arith

-- a page that could not be written was not stopped by reading or by memory
cut_is_not_stopped : (s : ℕ) → s ≡ WRITE_FAILED → (s ≡ READ_FAILED) ⊎ (s ≡ NO_MEMORY) → ⊥
cut_is_not_stopped s is stop = grind arith

-- a status that is two numbers makes them the same
not_two : (s a b : ℕ) → s ≡ a → s ≡ b → a ≡ b
not_two s a b one two = sym one ∙ two

-- ## The causes

module _ (asked : Option Command) (source_before source_now sink_before sink_now : ℕ) (before now : Option (List ℕ)) where
  -- the answer of a page that was written, or could not be, has the causes of its status
  page_causes : (p : Page) (a : Answer) → (source_now ≡ source_before) × IsPageStatus asked p.status
      → (a.kept ≡ p.kept) × (IsWritten p a sink_before sink_now before now ⊎ IsCut p a sink_before sink_now before now)
      → HasCauses asked source_before source_now sink_before sink_now a.status
  page_causes p a cause (kept, inl written) =
      let status : IsPageStatus asked a.status = subst (IsPageStatus asked) (sym written.status_is) cause.1 in
      record {
        usage = usage_of asked a.status status;
        no_usage = λ none. inl (is_usage asked a.status status none);
        unread = λ none. cause.0;
        read = λ is. absurd (no_stop asked a.status status (inl is));
        no_read = λ other. cause.0;
        write = λ is. absurd (no_stop asked a.status status (inr is));
        no_write = λ other. written.faults;
      }
  page_causes p a cause (kept, inr cut) = record {
    usage = λ is. let other : WRITE_FAILED ≡ NO_COMMAND = not_two a.status WRITE_FAILED NO_COMMAND cut.status_is is in absurd (omega arith);
    no_usage = λ none. inr (inl cut.status_is);
    unread = λ none. cause.0;
    read = λ is. let other : WRITE_FAILED ≡ READ_FAILED = not_two a.status WRITE_FAILED READ_FAILED cut.status_is is
        in absurd (omega arith);
    no_read = λ other. cause.0;
    write = λ is. cut.faults;
    no_write = λ other. absurd (other cut.status_is);
  }

  -- where what was to be written has its cause, so has the status that is answered
  pub causes_of : (r : Result Page Stop) (a : Answer) → ReplyCause asked source_before source_now r
      → Finishes r a sink_before sink_now before now
      → HasCauses asked source_before source_now sink_before sink_now a.status
  causes_of (Ok p) a cause done = page_causes p a cause done
  causes_of (Err Read) a cause done = record {
    usage = λ is. let other : READ_FAILED ≡ NO_COMMAND = not_two a.status READ_FAILED NO_COMMAND done.status_is is in absurd (omega arith);
    no_usage = λ none. absurd (cause.0 (nothing_read asked none));
    unread = λ none. absurd (cause.0 none);
    read = λ is. cause;
    no_read = λ other. absurd (other done.status_is);
    write = λ is. let other : READ_FAILED ≡ WRITE_FAILED = not_two a.status READ_FAILED WRITE_FAILED done.status_is is
        in absurd (omega arith);
    no_write = λ other. done.faults;
  }
  causes_of (Err Memory) a cause done = record {
    usage = λ is. let other : NO_MEMORY ≡ NO_COMMAND = not_two a.status NO_MEMORY NO_COMMAND done.status_is is in absurd (omega arith);
    no_usage = λ none. inr (inr done.status_is);
    unread = λ none. cause;
    read = λ is. let other : NO_MEMORY ≡ READ_FAILED = not_two a.status NO_MEMORY READ_FAILED done.status_is is in absurd (omega arith);
    no_read = λ other. cause;
    write = λ is. let other : NO_MEMORY ≡ WRITE_FAILED = not_two a.status NO_MEMORY WRITE_FAILED done.status_is is in absurd (omega arith);
    no_write = λ other. done.faults;
  }

-- ## What the source has left

-- a page that was stopped by reading, writing or memory is not accepted
not_accepted : (s stop : ℕ) → s ≡ stop → (stop ≡ READ_FAILED) ⊎ ((stop ≡ WRITE_FAILED) ⊎ (stop ≡ NO_MEMORY)) → IsAccepted s → ⊥
not_accepted s stop is one accepted = grind arith

-- a page that was stopped by reading or by memory is not answered
not_answered : (s stop : ℕ) → s ≡ stop → (stop ≡ READ_FAILED) ⊎ (stop ≡ NO_MEMORY) → IsAnswered s → ⊥
not_answered s stop is one answered = grind arith

module _ (asked : Option Command) (left left_now : Option (List ℕ)) (sink_before sink_now : ℕ) (before now : Option (List ℕ)) where
  -- where the source was left as what was to be written says, it was left as the status that is answered says
  pub left_of : (r : Result Page Stop) (a : Answer) → (ReadsNothing asked → left_now ≡ left)
      → ((most : ℕ) → most_of asked ≡ Some most → IfOk r (λ p. IsAccepted p.status → IsAtEnd left_now))
      → ((most : ℕ) → most_of asked ≡ Some most → OnOk r (HasRead most left left_now)) → Finishes r a sink_before sink_now before now
      → HasLeft asked left left_now a.status
  left_of (Ok p) a unread accepted read (kept, inl written) = record {
    unread = unread;
    accepted = λ most reads is. accepted most reads (subst IsAccepted written.status_is is);
    read = λ most reads answered. read most reads;
  }
  left_of (Ok p) a unread accepted read (kept, inr cut) = record {
    unread = unread;
    accepted = λ most reads is. absurd (not_accepted a.status WRITE_FAILED cut.status_is (inr (inl refl)) is);
    read = λ most reads answered. read most reads;
  }
  left_of (Err Read) a unread accepted read done = record {
    unread = unread;
    accepted = λ most reads is. absurd (not_accepted a.status READ_FAILED done.status_is (inl refl) is);
    read = λ most reads answered. absurd (not_answered a.status READ_FAILED done.status_is (inl refl) answered);
  }
  left_of (Err Memory) a unread accepted read done = record {
    unread = unread;
    accepted = λ most reads is. absurd (not_accepted a.status NO_MEMORY done.status_is (inr (inr refl)) is);
    read = λ most reads answered. absurd (not_answered a.status NO_MEMORY done.status_is (inr refl) answered);
  }

-- ## What is written

module _ (keep : Keep) (asked : Option Command) (left : Option (List ℕ)) (source_before source_now sink_before sink_now : ℕ)
    (before now : Option (List ℕ)) where
  -- nothing is written where nothing is to be
  none_written : (status : ℕ) (a : Answer) → (status ≡ READ_FAILED) ⊎ (status ≡ NO_MEMORY)
      → IsNothing status a sink_before sink_now before now
      → Serves keep asked left a.status a.kept before now
  none_written status a stop done =
      subst (λ s. Serves keep asked left s a.kept before now) (sym done.status_is)
      (subst (λ k. Serves keep asked left status k before now) (sym done.kept_is)
      (subst (λ b. Serves keep asked left status None b now) done.same (stopped keep asked left status now stop)))

  -- where what was to be written is the page for some input, what was written and what is kept serve the words
  pub written_of : (r : Result Page Stop) (a : Answer) → ReplyCause asked source_before source_now r → IfOk r (RepliesTo keep asked left)
      → Finishes r a sink_before sink_now before now → Serves keep asked left a.status a.kept before now
  written_of (Ok p) a cause page (kept, inl written) =
      let whole : IsWhole a.status = subst IsWhole (sym written.status_is) (whole_of asked p.status cause.1) in
      record {
        input = page.input;
        all = page.all;
        written = record {
          whole = λ is. (
            p.text.items,
            subst (λ s. Replies keep asked page.input s p.text.items a.kept) (sym written.status_is)
                (subst (Replies keep asked page.input p.status p.text.items) (sym kept) page.reply),
            written.all,
          );
          part = λ is. absurd (cut_is_not_whole a.status is whole);
          nothing = λ is. absurd (whole_is_not_stopped a.status whole is);
          other = inl whole;
        };
      }
  written_of (Ok p) a cause page (kept, inr cut) = record {
    input = page.input;
    all = page.all;
    written = record {
      whole = λ is. absurd (cut_is_not_whole a.status cut.status_is is);
      part = λ is. (
        p.status,
        cut.part.0,
        p.text.items,
        subst (Replies keep asked page.input p.status p.text.items) (sym kept) page.reply,
        cut.part.1,
      );
      nothing = λ is. absurd (cut_is_not_stopped a.status cut.status_is is);
      other = inr (inr (inl cut.status_is));
    };
  }
  written_of (Err Read) a cause page done = none_written READ_FAILED a (inl refl) done
  written_of (Err Memory) a cause page done = none_written NO_MEMORY a (inr refl) done
