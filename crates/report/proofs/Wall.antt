-- The text of a page: its two cases; 1,105 lent bytes, as the program lends, and 2,019 bytes of input, as it reads, are enough.
use mathlib.Core.Path.{◌≡◌, refl, sym, ap, ◌∙◌}
use mathlib.Core.Bool.{Bool, true, false, cond}
use mathlib.Core.Logic.{◌≢◌, ◌⊎◌, inl, inr}
use mathlib.Core.List.{List, [], ◌∷◌, ◌++◌}
use Prim.Native.Nat.{ℕ, ◌≤◌}
use native.Mathlib.Omega.{arith}
use lib.Dec.{eqb}
use lib.ListN.{length, take, drop}
use lib.Seq.{take-append_seam}
use borrow.Author.Tests.{ne_eqb, le-leb, eqb-true, eqb-false}
use Rattle.rules.specs.Questions.{question, ask}
use Rattle.run.specs.State.{has_started, count_of}
use Rattle.run.specs.declared.Run.{Run}
use Rattle.journal.specs.Reading.{read_call}
use Rattle.journal.specs.Writing.{is_replayed, refused_output, written_output, PositionedOutput, positioned}
use Rattle.journal.specs.Answers.{JournalWritten}
use Rattle.journal.proofs.Accepted.{read-replayed}
use Rattle.recording.specs.Call.{no_requests}
use Rattle.recording.proofs.Read.{read_whole}
use Rattle.page.specs.Call.{page_of, page_call}
use Rattle.page.specs.Journal.{page_journal}
use Rattle.page.proofs.Enough.{page-most}
use Rattle.page.proofs.Outcome.{Refused, Drawn, journal-outcome}
use Rattle.text.specs.Text.{refused_text, Prints}
use Rattle.report.specs.Wall.{wall_output, wall_text}
use Rattle.report.proofs.Enough.{refused-fits}
use Rattle.report.proofs.Overlong.{read-overlong}

module _ (journal lent : List ℕ) where
  -- What is refused leaves the lent bytes; what is written stands at their front.
  refused-text : (position : ℕ) (h : Refused lent position (page_journal journal lent))
      → ((page_journal journal lent).bytes ≡ lent) × (wall_text journal lent ≡ refused_text h.number) × ((page_journal journal lent).answer.refusal ≡ h.number)
  unfolding wall_text
  refused-text position h = rw (h.output, ne_eqb h.number 0 h.some) (refl, refl, refl)

  written-text : (h : Drawn lent (read_call journal).run (page_journal journal lent)) → wall_text journal lent ≡ page_of (read_call journal).run
  unfolding wall_text
  written-text h = rw h.output (take-append_seam (page_of (read_call journal).run) (drop (length (page_of (read_call journal).run)) lent))

  module _ (done : JournalWritten) (e : done ≡ (page_journal journal lent).answer) (after : List ℕ) where
    pub refused-printed : (left : List ℕ) (r : ℕ) → left ≡ (page_journal journal lent).bytes → done.refusal ≢ 0
        → Prints (refused_text done.refusal) left after r → Prints (wall_text journal lent) lent after r
    refused-printed left r f z p = go (journal-outcome journal lent)
      where
        number : done.refusal ≡ (page_journal journal lent).answer.refusal
        number = ap (λ (d : JournalWritten). d.refusal) e

        go : ((position : ℕ) × Refused lent position (page_journal journal lent)) ⊎ Drawn lent (read_call journal).run (page_journal journal lent)
            → Prints (wall_text journal lent) lent after r
        go (inl (position, h)) =
            let t = refused-text position h in
            rw (f ∙ t.0, number ∙ t.2, ← t.1) at p
        go (inr h) = absurd (z (number ∙ ap (λ (o : PositionedOutput). o.answer.refusal) h.output))

    pub page-printed : after ≡ (page_journal journal lent).bytes → done.refusal ≡ 0 → Prints (wall_text journal lent) lent after done.written
    page-printed f z = go (journal-outcome journal lent)
      where
        number : done.refusal ≡ (page_journal journal lent).answer.refusal
        number = ap (λ (d : JournalWritten). d.refusal) e

        go : ((position : ℕ) × Refused lent position (page_journal journal lent)) ⊎ Drawn lent (read_call journal).run (page_journal journal lent)
            → Prints (wall_text journal lent) lent after done.written
        go (inl (position, h)) = absurd (h.some (sym (refused-text position h).2 ∙ sym number ∙ z))
        go (inr h) =
            let w : done.written ≡ length (page_of (read_call journal).run) =
            ap (λ (d : JournalWritten). d.written) e ∙ ap (λ (o : PositionedOutput). o.answer.written) h.output in
            let fits = le-leb (length (page_of (read_call journal).run)) (length lent) h.room in
            record {
              number = rw (written-text h, fits) w;
              bytes = rw (written-text h, fits, w) (f ∙ ap (λ (o : PositionedOutput). o.bytes) h.output);
            }

-- The text is told by the first 2,019 bytes of a journal.
pub wall-overlong : (journal lent : List ℕ) → wall_text (take 2019 journal) lent ≡ wall_text journal lent
unfolding wall_text page_journal
wall-overlong journal lent = rw (read-overlong journal)

-- It is the same wherever 1,105 bytes or more are lent: then no page is refused for want of them.
pub wall-enough : (journal lent other : List ℕ) → 1105 ≤ length lent → 1105 ≤ length other → wall_text journal lent ≡ wall_text journal other
unfolding wall_text page_journal page_call
wall-enough journal lent other h k = go (eqb (read_call journal).refusal 0) refl
  where
    read : Run
    read = (read_call journal).run

    paged : List ℕ → Bool → Bool → Bool → List ℕ
    paged lent a b c =
        wall_output (positioned 0 (ask (question 1 a ∷ question 12 b ∷ question 13 c ∷ question 14 true ∷ []) (refused_output lent) (written_output lent (page_of read))))

    at_front : (lent : List ℕ) → take (length (page_of read)) (page_of read ++ drop (length (page_of read)) lent) ≡ page_of read
    at_front lent = take-append_seam (page_of read) (drop (length (page_of read)) lent)

    alike : (a b c : Bool) → paged lent a b c ≡ paged other a b c
    alike false b c = refl
    alike true false c = refl
    alike true true false = refl
    alike true true true = at_front lent ∙ sym (at_front other)

    go : (b : Bool) → eqb (read_call journal).refusal 0 ≡ b
        → wall_output (cond b (positioned 0 (page_call read lent)) (positioned (read_call journal).position (refused_output lent (read_call journal).refusal)))
        ≡ wall_output (cond b (positioned 0 (page_call read other)) (positioned (read_call journal).position (refused_output other (read_call journal).refusal)))
    go true e =
        let z = eqb-true (read_call journal).refusal 0 e in
        let most = page-most read (read_whole journal [] z) (read-replayed journal z) in
        let x = le-leb (length (page_of read)) (length lent) (omega (arith, most, h)) in
        let y = le-leb (length (page_of read)) (length other) (omega (arith, most, k)) in
        rw (x, y) (alike (is_replayed read) (has_started read.head) (no_requests (count_of read.head) read.channels))
    go false e = rw (ne_eqb (read_call journal).refusal 0 (eqb-false (read_call journal).refusal 0 e)) refl

-- Lent as many bytes as the program lends, it fits: a page has room in what it is written to, a refusal has twelve characters.
pub wall-fits : (journal lent : List ℕ) → 12 ≤ length lent → length (wall_text journal lent) ≤ length lent
wall-fits journal lent most = go (journal-outcome journal lent)
  where
    go : ((position : ℕ) × Refused lent position (page_journal journal lent)) ⊎ Drawn lent (read_call journal).run (page_journal journal lent)
        → length (wall_text journal lent) ≤ length lent
    go (inl (position, h)) = omega (arith, ap length (refused-text journal lent position h).1, refused-fits h.number)
    go (inr h) = omega (arith, ap length (written-text journal lent h), h.room)
