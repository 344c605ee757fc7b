-- What the thin calls promise to a controller that lends its zone: the step's answer, and the zone that was lent is the next one.
use mathlib.Core.Path.{◌≡◌}
use Rattle.rules.specs.declared.Direction.TheVariants.{In, Out}
use Rattle.zone.specs.Answer.{step_answer}
use Rattle.zone.specs.Zone.{send_step, receive_step, request_step, start_step, gate_step}
use Rattle.controller.specs.contracts as contracts
use Rattle.controller.proofs as part
use Rattle.promises.specs.Promise.{Keeps}

pub send : Keeps contracts.send.ended part.send.Symbol.name part.send.Symbol.code
    (λ _ zone to cars r. (step_answer zone.entry.now r ≡ send_step zone.entry.now to cars) × (zone.exit.now ≡ (send_step zone.entry.now to cars).zone))
send _ = part.send.Met.met

pub receive : Keeps contracts.receive.ended part.receive.Symbol.name part.receive.Symbol.code
    (λ _ zone from cars flag r. (step_answer zone.entry.now r ≡ receive_step zone.entry.now from cars flag) × (zone.exit.now ≡ (receive_step zone.entry.now from cars flag).zone))
receive _ = part.receive.Met.met

pub request : Keeps contracts.request.ended part.request.Symbol.name part.request.Symbol.code
    (λ _ zone set r. (step_answer zone.entry.now r ≡ request_step zone.entry.now set) × (zone.exit.now ≡ (request_step zone.entry.now set).zone))
request _ = part.request.Met.met

pub start : Keeps contracts.start.ended part.start.Symbol.name part.start.Symbol.code
    (λ _ zone r. (step_answer zone.entry.now r ≡ start_step zone.entry.now) × (zone.exit.now ≡ (start_step zone.entry.now).zone))
start _ = part.start.Met.met

pub enter : Keeps contracts.enter.ended part.enter.Symbol.name part.enter.Symbol.code
    (λ _ zone cars r. (step_answer zone.entry.now r ≡ gate_step zone.entry.now In cars) × (zone.exit.now ≡ (gate_step zone.entry.now In cars).zone))
enter _ = part.enter.Met.met

pub leave : Keeps contracts.leave.ended part.leave.Symbol.name part.leave.Symbol.code
    (λ _ zone cars r. (step_answer zone.entry.now r ≡ gate_step zone.entry.now Out cars) × (zone.exit.now ≡ (gate_step zone.entry.now Out cars).zone))
leave _ = part.leave.Met.met
