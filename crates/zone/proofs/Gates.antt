-- Gate steps of the zone part, of every zone: below edition 3 there are none, an accepted one is one own event and changes the stock, with 0
-- cars too, and none changes what is heard or marked.
use mathlib.Core.Path.{◌≡◌, refl, ap}
use mathlib.Core.Bool.{true, false}
use mathlib.Core.List.{[], ◌∷◌}
use Prim.Native.Nat.{ℕ, ◌+◌, ◌≤◌, ◌<◌}
use native.Mathlib.Omega.{arith}
use borrow.Author.Tests.{leb-true, eq-eqb}
use Rattle.rules.specs.Edition.{has_gates}
use Rattle.rules.specs.Sets.{nobody}
use Rattle.rules.specs.Zone.{needed, through, gated}
use Rattle.rules.specs.declared.Direction.{Direction}
use Rattle.rules.specs.declared.Direction.TheVariants.{In, Out}
use Rattle.rules.proofs.AskLaws.{AllYes, numbers, lacks}
use Rattle.rules.proofs.Editions.{no-gates}
use Rattle.zone.specs.Zone.{local_of, with_local, is_zone_sound, refused, accepted, last_gate_question, gate_step}
use Rattle.zone.specs.Answer.{StepAnswer}
use Rattle.zone.specs.declared.Zone.{Zone}
use Rattle.zone.proofs.Asks.{gate_asks, passed}
use Rattle.zone.proofs.Checks.{step_keeps}

module _ (z : Zone) (d : Direction) (cars : ℕ) where
  abbrev step : StepAnswer
  step = gate_step z d cars

  -- "does the run's edition have gates?" Below edition 3 the step of a sound zone is refused with 15, and hands the zone back as it was.
  pub gate-offered : z.edition < 3 → is_zone_sound z ≡ true → step ≡ refused z 15
  unfolding gate_step
  gate-offered low sound = rw (sound, no-gates z.edition (omega arith))

  -- The dependency set and the checkpoint stay, whether it is accepted or refused.
  pub gate-deps : step.zone.deps ≡ z.deps
  unfolding gate_step
  gate-deps = step_keeps (λ (y : Zone). y.deps) (gate_asks z d cars) z _ refl

  pub gate-checkpoint : step.zone.checkpoint ≡ z.checkpoint
  unfolding gate_step
  gate-checkpoint = step_keeps (λ (y : Zone). y.checkpoint) (gate_asks z d cars) z _ refl

  module _ (is-accepted : step.refusal ≡ 0) where
    -- All its questions were answered yes.
    asked : AllYes (gate_asks z d cars) × (step ≡ accepted (with_local z (gated d cars (local_of z))) false nobody nobody)
    unfolding gate_step
    asked = passed (gate_asks z d cars) z (accepted (with_local z (gated d cars (local_of z))) false nobody nobody) (nonzero d)
        (eq-eqb _ 0 is-accepted)
      where
        nonzero : (d : Direction) → lacks 0 (numbers (gate_asks z d cars)) ≡ true
        nonzero In = refl
        nonzero Out = refl

    -- The whole answer to an accepted one.
    pub gate-answer : step ≡ accepted (with_local z (gated d cars (local_of z))) false nobody nobody
    gate-answer = asked.1

    -- The edition has gates.
    pub gate-from-three : 3 ≤ z.edition
    unfolding has_gates
    gate-from-three = leb-true 3 z.edition asked.0.1.0

    -- An exit took no more than the stock.
    pub gate-covered : needed d cars ≤ z.stock
    gate-covered = go d asked.0.1.1.1
      where
        go : (d : Direction) → AllYes (last_gate_question d cars z.stock ∷ []) → needed d cars ≤ z.stock
        go In y = omega arith
        go Out y = leb-true cars z.stock y.0

    -- "It is an own event, also with 0 cars, and changes that zone's stock by a signed amount."
    pub gate-event : step.zone.events ≡ z.events + 1
    gate-event = ap (λ (s : StepAnswer). s.zone.events) gate-answer

    pub gate-stock : step.zone.stock ≡ through d cars z.stock
    gate-stock = ap (λ (s : StepAnswer). s.zone.stock) gate-answer

    -- It sends nothing: no message with a flag, and no request.
    pub gate-flag : step.flag ≡ false
    gate-flag = ap (λ (s : StepAnswer). s.flag) gate-answer

    pub gate-to : step.to ≡ nobody
    gate-to = ap (λ (s : StepAnswer). s.to) gate-answer

    pub gate-carried : step.carried ≡ nobody
    gate-carried = ap (λ (s : StepAnswer). s.carried) gate-answer
