-- What the zone part promises to a maker of controllers.
use mathlib.Core.Path.{◌≡◌}
use Rattle.rules.specs.Sets.{size}
use Rattle.rules.specs.declared.Direction.TheVariants.{In, Out}
use Rattle.zone.specs.Answer.{opening_answer, step_answer}
use Rattle.zone.specs.Zone.{open_zone, send_step, receive_step, request_step, start_step, gate_step, next_if}
use Rattle.zone.specs.contracts as contracts
use Rattle.zone.proofs as part
use Rattle.promises.specs.Promise.{Keeps}

pub «open» : Keeps contracts.Zone.«open».ended part.Zone.«open».Symbol.name part.Zone.«open».Symbol.code
    (λ _ edition count number stock r. opening_answer r ≡ open_zone edition count number stock)
«open» _ = part.Zone.«open».Met.met

pub send : Keeps contracts.Zone.send.ended part.Zone.send.Symbol.name part.Zone.send.Symbol.code
    (λ _ zone to cars r. step_answer zone r ≡ send_step zone to cars)
send _ = part.Zone.send.Met.met

pub receive : Keeps contracts.Zone.receive.ended part.Zone.receive.Symbol.name part.Zone.receive.Symbol.code
    (λ _ zone from cars flag r. step_answer zone r ≡ receive_step zone from cars flag)
receive _ = part.Zone.receive.Met.met

pub request : Keeps contracts.Zone.request.ended part.Zone.request.Symbol.name part.Zone.request.Symbol.code
    (λ _ zone set r. step_answer zone r ≡ request_step zone set)
request _ = part.Zone.request.Met.met

pub start : Keeps contracts.Zone.start.ended part.Zone.start.Symbol.name part.Zone.start.Symbol.code
    (λ _ zone r. step_answer zone r ≡ start_step zone)
start _ = part.Zone.start.Met.met

pub enter : Keeps contracts.Zone.enter.ended part.Zone.enter.Symbol.name part.Zone.enter.Symbol.code
    (λ _ zone cars r. step_answer zone r ≡ gate_step zone In cars)
enter _ = part.Zone.enter.Met.met

pub leave : Keeps contracts.Zone.leave.ended part.Zone.leave.Symbol.name part.Zone.leave.Symbol.code
    (λ _ zone cars r. step_answer zone r ≡ gate_step zone Out cars)
leave _ = part.Zone.leave.Met.met

pub requests : Keeps contracts.requests.ended part.requests.Symbol.name part.requests.Symbol.code
    (λ _ to r. r ≡ size to)
requests _ = part.requests.Met.met

pub next_of : Keeps contracts.next_of.ended part.next_of.Symbol.name part.next_of.Symbol.code
    (λ _ set r. r ≡ next_if set)
next_of _ = part.next_of.Met.met
