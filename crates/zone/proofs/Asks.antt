-- The questions of each step, as lists, and what an accepted step says of them.
use mathlib.Core.Path.{◌≡◌, refl, sym, ◌∙◌, ap}
use mathlib.Core.Bool.{true, not}
use mathlib.Core.Logic.{◌⊎◌, inl, inr}
use mathlib.Core.List.{List, [], ◌∷◌}
use Prim.Native.Nat.{ℕ, ◌+◌}
use lib.Dec.{leb, eqb}
use borrow.Author.Tests.{eqb-true}
use Rattle.rules.specs.Edition.{has_gates}
use Rattle.rules.specs.Limits.{most_cars}
use Rattle.rules.specs.Questions.{Question, question, ask, Among}
use Rattle.rules.specs.Sets.{within}
use Rattle.rules.specs.Zone.{has_checkpoint}
use Rattle.rules.specs.declared.Direction.{Direction}
use Rattle.rules.proofs.AskLaws.{AllYes, numbers, lacks, not-among, ask-cases}
use Rattle.zone.specs.Zone.{is_zone_sound, is_other, has_room, refused, last_gate_question}
use Rattle.zone.specs.Answer.{StepAnswer}
use Rattle.zone.specs.declared.Zone.{Zone}

abbrev pub send_asks : Zone → ℕ → ℕ → List Question
send_asks z to cars =
    question 1 (is_zone_sound z) ∷ question 5 (is_other z to) ∷ question 6 (has_room z) ∷ question 7 (leb cars z.stock) ∷ []

abbrev pub receive_asks : Zone → ℕ → ℕ → List Question
receive_asks z from cars =
    question 1 (is_zone_sound z) ∷ question 5 (is_other z from) ∷ question 6 (has_room z) ∷ question 20 (leb (z.stock + cars) most_cars) ∷ []

abbrev pub request_asks : Zone → ℕ → List Question
request_asks z set = question 1 (is_zone_sound z) ∷ question 5 (within set z.count) ∷ []

abbrev pub start_asks : Zone → List Question
start_asks z = question 1 (is_zone_sound z) ∷ question 11 (not (has_checkpoint z.checkpoint)) ∷ []

abbrev pub gate_asks : Zone → Direction → ℕ → List Question
gate_asks z direction cars =
    question 1 (is_zone_sound z) ∷ question 15 (has_gates z.edition) ∷ question 6 (has_room z) ∷ last_gate_question direction cars z.stock ∷ []

-- Where no question has the number 0, an answer with refusal 0 is what the questions guard, and all of them were answered yes.
pub ask-accepted : {A : Type 0} (number : A → ℕ) (qs : List Question) (f : ℕ → A) (x : A) → ((m : ℕ) → number (f m) ≡ m)
    → lacks 0 (numbers qs) ≡ true → number (ask qs f x) ≡ 0 → AllYes qs × (ask qs f x ≡ x)
ask-accepted {A} number qs f x named n e = go (ask-cases qs f x)
  where
    go : (AllYes qs × (ask qs f x ≡ x)) ⊎ ((m : ℕ) × Among m (numbers qs) × (ask qs f x ≡ f m)) → AllYes qs × (ask qs f x ≡ x)
    go (inl h) = h
    go (inr (m, a, q)) = absurd (not-among m 0 (numbers qs) a n (sym (named m) ∙ sym (ap number q) ∙ e))

pub passed : (qs : List Question) (z : Zone) (x : StepAnswer) → lacks 0 (numbers qs) ≡ true → eqb (ask qs (refused z) x).refusal 0 ≡ true
    → AllYes qs × (ask qs (refused z) x ≡ x)
passed qs z x n e = ask-accepted (λ (s : StepAnswer). s.refusal) qs (refused z) x (λ m. refl) n (eqb-true (ask qs (refused z) x).refusal 0 e)
