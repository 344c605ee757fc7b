-- What a page call comes to: a refusal that leaves the lent bytes, or a page that fits them; and the same of two runs with the same recording.
use mathlib.Core.Path.{◌≡◌, refl, ◌∙◌, ap, ap₂}
use mathlib.Core.Bool.{Bool, true, false, cond}
use mathlib.Core.Logic.{◌≢◌, ◌⊎◌, inl, inr}
use mathlib.Core.List.{List, [], ◌∷◌}
use Prim.Native.Nat.{ℕ, ◌≤◌}
use lib.Dec.{eqb}
use lib.ListN.{length}
use borrow.Author.Tests.{leb-true, eqb-false}
use Rattle.rules.specs.Cut.{Snapshot}
use Rattle.rules.specs.Questions.{Question, ask, Among}
use Rattle.rules.proofs.AskLaws.{AllYes, numbers, not-among, ask-cases}
use Rattle.run.specs.declared.Run.{Run}
use Rattle.run.specs.declared.Terms.{Terms}
use Rattle.journal.specs.Reading.{read_call}
use Rattle.journal.specs.Writing.{refused_output, written_output, PositionedOutput, positioned}
use Rattle.recording.specs.Call.{recording_questions}
use Rattle.recording.proofs.Stays.{SameRecording, same-questions}
use Rattle.page.specs.Call.{page_of, page_questions, page_call}
use Rattle.page.specs.Journal.{page_journal}
use Rattle.page.specs.Layout.{page_text}

-- The answer is a refusal: beside it nothing is written.
pub record Refused (lent : List ℕ) (position : ℕ) (o : PositionedOutput) : Type 0 where
  pub number : ℕ
  pub some : number ≢ 0
  pub output : o ≡ positioned position (refused_output lent number)

-- The page of a run is written, and has room.
pub record Drawn (lent : List ℕ) (r : Run) (o : PositionedOutput) : Type 0 where
  pub room : length (page_of r) ≤ length lent
  pub output : o ≡ positioned 0 (written_output lent (page_of r))

pub run-outcome : (r : Run) (lent : List ℕ) → Refused lent 0 (positioned 0 (page_call r lent)) ⊎ Drawn lent r (positioned 0 (page_call r lent))
unfolding page_call
run-outcome r lent = go (ask-cases asked (refused_output lent) (written_output lent (page_of r)))
  where
    asked : List Question
    asked = page_questions r lent

    go : (AllYes asked × (page_call r lent ≡ written_output lent (page_of r))) ⊎ ((n : ℕ) × Among n (numbers asked) × (page_call r lent ≡ refused_output lent n))
        → Refused lent 0 (positioned 0 (page_call r lent)) ⊎ Drawn lent r (positioned 0 (page_call r lent))
    go (inl (y, e)) = inr (record { room = leb-true (length (page_of r)) (length lent) y.1.1.1.0; output = ap (positioned 0) e })
    go (inr (n, m, e)) = inl (record { number = n; some = not-among n 0 (1 ∷ 12 ∷ 13 ∷ 14 ∷ []) m refl; output = ap (positioned 0) e })

pub journal-outcome : (journal lent : List ℕ)
    → ((position : ℕ) × Refused lent position (page_journal journal lent)) ⊎ Drawn lent (read_call journal).run (page_journal journal lent)
unfolding page_journal
journal-outcome journal lent = go (eqb (read_call journal).refusal 0) refl (run-outcome (read_call journal).run lent)
  where
    read : Run
    read = (read_call journal).run

    out : Bool → PositionedOutput
    out b = cond b (positioned 0 (page_call read lent)) (positioned (read_call journal).position (refused_output lent (read_call journal).refusal))

    go : (b : Bool) → eqb (read_call journal).refusal 0 ≡ b
        → Refused lent 0 (positioned 0 (page_call read lent)) ⊎ Drawn lent read (positioned 0 (page_call read lent))
        → ((position : ℕ) × Refused lent position (out b)) ⊎ Drawn lent read (out b)
    go true e (inl h) = inl (0, h)
    go true e (inr h) = inr h
    go false e h =
        inl ((read_call journal).position, record { number = (read_call journal).refusal; some = eqb-false (read_call journal).refusal 0 e; output = refl })

pub same-page : (r t : Run) → SameRecording r t → (lent : List ℕ) → page_call t lent ≡ page_call r lent
unfolding page_call
same-page r t same lent =
    ap (λ (qs : List Question). ask qs (refused_output lent) (written_output lent (page_of t))) (same-questions r t same (page_of t) lent)
    ∙ ap (λ (text : List ℕ). ask (recording_questions r text lent) (refused_output lent) (written_output lent text))
    (ap₂ (λ (x : Terms) (y : Snapshot). page_text x.count y) same.terms same.shown)
