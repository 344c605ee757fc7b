-- Editions of the zone part, of every zone, sound or not: no step changes its edition, and from edition 2 on a line check, a hand-over of
-- 0 cars, leaves it as it was, accepted or refused.
use mathlib.Core.Path.{◌≡◌, refl, ◌∙◌, ap}
use mathlib.Core.Bool.{Bool, true, false, cond}
use mathlib.Core.List.{List, [], ◌∷◌}
use Prim.Native.Nat.{ℕ, zero, suc, ◌≤◌}
use Rattle.rules.specs.Questions.{Question, ask, index}
use Rattle.rules.specs.declared.Direction.{Direction}
use Rattle.rules.proofs.Editions.{check-traffic, sent-check, received-check}
use Rattle.zone.specs.Zone.{local_of, with_local, refused, send_step, receive_step, request_step, start_step, gate_step}
use Rattle.zone.specs.Answer.{StepAnswer}
use Rattle.zone.specs.declared.Zone.{Zone}
use Rattle.zone.proofs.Asks.{send_asks, receive_asks, request_asks, start_asks, gate_asks}

-- What an accepted step keeps of the zone, the step keeps, whatever its questions.
pub step_keeps : {A : Type 0} (f : Zone → A) (qs : List Question) (z : Zone) (x : StepAnswer) → f x.zone ≡ f z
    → f (ask qs (refused z) x).zone ≡ f z
step_keeps f [] z x e = e
step_keeps {A} f (q ∷ qs) z x e = go q.yes (step_keeps f qs z x e)
  where
    go : (p : Bool) → f (ask qs (refused z) x).zone ≡ f z → f (cond p (ask qs (refused z) x) (refused z q.number)).zone ≡ f z
    go true h = h
    go false h = refl

module _ (z : Zone) where
  abbrev edition : Zone → ℕ
  edition y = y.edition

  pub send-edition : (to cars : ℕ) → (send_step z to cars).zone.edition ≡ z.edition
  unfolding send_step
  send-edition to cars = step_keeps edition (send_asks z to cars) z _ refl

  pub receive-edition : (from cars : ℕ) (flag : Bool) → (receive_step z from cars flag).zone.edition ≡ z.edition
  unfolding receive_step
  receive-edition from cars flag = step_keeps edition (receive_asks z from cars) z _ refl

  pub request-edition : (set : ℕ) → (request_step z set).zone.edition ≡ z.edition
  unfolding request_step
  request-edition set = step_keeps edition (request_asks z set) z _ refl

  pub start-edition : (start_step z).zone.edition ≡ z.edition
  unfolding start_step
  start-edition = step_keeps edition (start_asks z) z _ refl

  pub gate-edition : (d : Direction) (cars : ℕ) → (gate_step z d cars).zone.edition ≡ z.edition
  unfolding gate_step
  gate-edition d cars = step_keeps edition (gate_asks z d cars) z _ refl

-- The zone after n messages of 0 cars sent to another zone.
abbrev pub after_checks : ℕ → ℕ → Zone → Zone
after_checks zero to z = z
after_checks (suc n) to z = (send_step (after_checks n to z) to 0).zone

-- "it is no own event, adds nothing to a heard set, causes no mark".
module _ (z : Zone) (from-two : 2 ≤ z.edition) where
  pub send-check : (to : ℕ) → (send_step z to 0).zone ≡ z
  unfolding send_step
  send-check to = step_keeps (λ (y : Zone). y) (send_asks z to 0) z _
      (ap (with_local z) (sent-check z.edition 0 (local_of z) (check-traffic z.edition from-two)))

  pub receive-check : (from : ℕ) (flag : Bool) → (receive_step z from 0 flag).zone ≡ z
  unfolding receive_step
  receive-check from flag = step_keeps (λ (y : Zone). y) (receive_asks z from 0) z _
      (ap (with_local z) (received-check z.edition 0 (local_of z) (index from) flag (check-traffic z.edition from-two)))

  -- However many checks are sent, the zone is as it was.
  pub checks-kept : (to n : ℕ) → after_checks n to z ≡ z
  checks-kept to zero = refl
  checks-kept to (suc n) = ap (λ (y : Zone). (send_step y to 0).zone) (checks-kept to n) ∙ send-check to
