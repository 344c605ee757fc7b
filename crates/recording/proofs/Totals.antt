-- The total that a recording answers: beside a refusal 0, of a run and of a journal, and of a journal that was read the total of its run.
use mathlib.Core.Path.{◌≡◌, refl}
use mathlib.Core.Bool.{Bool, true, false, cond}
use mathlib.Core.Logic.{◌≢◌}
use mathlib.Core.List.{List, [], ◌∷◌}
use Prim.Native.Nat.{ℕ}
use lib.Dec.{eqb, leb}
use lib.ListN.{length}
use Rattle.rules.specs.Questions.{Question, question, ask}
use Rattle.run.specs.State.{has_started, terms_of, count_of}
use Rattle.run.specs.declared.Run.{Run}
use Rattle.journal.specs.Reading.{read_call}
use Rattle.journal.specs.Writing.{is_replayed, written_output}
use Rattle.recording.specs.Call.{no_requests, snapshot_of, RecordOutput, with_total, not_recorded, recorded_total, record_call}
use Rattle.recording.specs.Journal.{JournalOutput, output_of, unread_output, record_journal}
use Rattle.recording.specs.Layout.{recording_bytes}

-- The total is 0 beside any refusal.
abbrev NoTotal : RecordOutput → Type 0
NoTotal o = o.answer.refusal ≢ 0 → o.answer.total ≡ 0

by-test : (b : Bool) (lent : List ℕ) (n : ℕ) (o : RecordOutput) → NoTotal o → NoTotal (cond b o (not_recorded lent n))
by-test true lent n o f = f
by-test false lent n o f = λ h. refl

asked-total : (qs : List Question) (lent : List ℕ) (x : RecordOutput) → x.answer.refusal ≡ 0 → NoTotal (ask qs (not_recorded lent) x)
asked-total [] lent x e = λ h. absurd (h e)
asked-total (q ∷ qs) lent x e = by-test q.yes lent q.number (ask qs (not_recorded lent) x) (asked-total qs lent x e)

pub no-total : (r : Run) (lent : List ℕ) → (record_call r lent).answer.refusal ≢ 0 → (record_call r lent).answer.total ≡ 0
unfolding record_call
no-total r lent = asked-total asked lent (with_total (recorded_total r) (written_output lent bytes)) refl
  where
    bytes : List ℕ
    bytes = recording_bytes (terms_of r.head) (snapshot_of r)

    asked : List Question
    asked =
        question 1 (is_replayed r)
        ∷ question 12 (has_started r.head)
        ∷ question 13 (no_requests (count_of r.head) r.channels)
        ∷ question 14 (leb (length bytes) (length lent))
        ∷ []

module _ (bytes lent : List ℕ) where
  pub read-total : (read_call bytes).refusal ≡ 0 → (record_journal bytes lent).answer.total ≡ (record_call (read_call bytes).run lent).answer.total
  unfolding record_journal
  read-total e = rw e refl

  pub journal-no-total : (record_journal bytes lent).answer.refusal ≢ 0 → (record_journal bytes lent).answer.total ≡ 0
  unfolding record_journal
  journal-no-total = go (eqb (read_call bytes).refusal 0)
    where
      out : Bool → JournalOutput
      out b = cond b (output_of (record_call (read_call bytes).run lent)) (unread_output lent (read_call bytes).refusal (read_call bytes).position)

      go : (b : Bool) → (out b).answer.refusal ≢ 0 → (out b).answer.total ≡ 0
      go true h = no-total (read_call bytes).run lent h
      go false h = refl
