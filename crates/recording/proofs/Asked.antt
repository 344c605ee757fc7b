-- A call that asks the recording's questions, by what the recording call answers: it is refused alike, but for 14.
use mathlib.Core.Path.{◌≡◌, refl, sym, ap, ◌∙◌}
use mathlib.Core.Bool.{Bool, true, false, true≢false}
use mathlib.Core.Logic.{◌≢◌, ◌⊎◌, inl, inr}
use mathlib.Core.List.{List, [], ◌∷◌}
use Prim.Native.Nat.{ℕ, ◌≤◌}
use native.Mathlib.Omega.{arith}
use lib.Dec.{leb}
use lib.ListN.{length}
use borrow.Author.Tests.{le-leb}
use Rattle.rules.specs.Questions.{Question, question, ask, Among}
use Rattle.rules.proofs.AskLaws.{AllYes, numbers, not-among, ask-cases}
use Rattle.run.specs.Claims.{WholeRun}
use Rattle.run.specs.State.{has_started, terms_of, count_of}
use Rattle.run.specs.declared.Run.{Run}
use Rattle.journal.specs.Writing.{is_replayed, written_output}
use Rattle.recording.specs.Call.{snapshot_of, no_requests, recorded_total, recording_questions, RecordOutput, with_total, not_recorded, record_call}
use Rattle.recording.specs.Layout.{most_recording_bytes, recording_bytes}
use Rattle.recording.proofs.Sized.{recording-most}

module _ (r : Run) (lent : List ℕ) where
  abbrev shown : List ℕ
  shown = recording_bytes (terms_of r.head) (snapshot_of r)

  abbrev asked : List Question
  asked = recording_questions r shown lent

  -- What a recording call that is accepted has found, and answers.
  pub record Accepted : Type 0 where
    pub replayed : is_replayed r ≡ true
    pub started : has_started r.head ≡ true
    pub free : no_requests (count_of r.head) r.channels ≡ true
    pub output : record_call r lent ≡ with_total (recorded_total r) (written_output lent (recording_bytes (terms_of r.head) (snapshot_of r)))

  pub accepted : (record_call r lent).answer.refusal ≡ 0 → Accepted
  unfolding record_call
  accepted z = go (ask-cases asked (not_recorded lent) (with_total (recorded_total r) (written_output lent shown)))
    where
      out : RecordOutput
      out = with_total (recorded_total r) (written_output lent shown)

      go : (AllYes asked × (record_call r lent ≡ out)) ⊎ ((n : ℕ) × Among n (numbers asked) × (record_call r lent ≡ not_recorded lent n)) → Accepted
      go (inl (y, e)) = record { replayed = y.0; started = y.1.0; free = y.1.1.0; output = e }
      go (inr (n, m, e)) =
          absurd (not-among n 0 (1 ∷ 12 ∷ 13 ∷ 14 ∷ []) m refl (sym (ap (λ (o : RecordOutput). o.answer.refusal) e) ∙ z))

  -- Any call with these questions is refused with the number that the recording call, lent enough bytes, answers.
  refused-by : {X : Type 0} (refused : ℕ → X) (x : X) (a b c d f : Bool) → (a ≡ true → d ≡ true)
      → let o = ask (question 1 a ∷ question 12 b ∷ question 13 c ∷ question 14 d ∷ []) (not_recorded lent) (with_total (recorded_total r) (written_output lent shown)) in
      o.answer.refusal ≢ 0 → ask (question 1 a ∷ question 12 b ∷ question 13 c ∷ question 14 f ∷ []) refused x ≡ refused o.answer.refusal
  refused-by refused x false b c d f h z = refl
  refused-by refused x true false c d f h z = refl
  refused-by refused x true true false d f h z = refl
  refused-by refused x true true true false f h z = absurd (true≢false (sym (h refl)))
  refused-by refused x true true true true f h z = absurd (z refl)

  pub refused-alike : WholeRun r → most_recording_bytes ≤ length lent → {X : Type 0} (refused : ℕ → X) (x : X) (bytes other : List ℕ)
      → (record_call r lent).answer.refusal ≢ 0 → ask (recording_questions r bytes other) refused x ≡ refused (record_call r lent).answer.refusal
  unfolding record_call
  refused-alike w most refused x bytes other z =
      refused-by refused x (is_replayed r) (has_started r.head) (no_requests (count_of r.head) r.channels) (leb (length shown) (length lent))
      (leb (length bytes) (length other)) (λ e. le-leb (length shown) (length lent) (omega (arith, most, recording-most r w e))) z
