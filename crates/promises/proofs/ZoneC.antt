-- What the zone part for C (c/cut/zone.h) promises, for every byte pattern of the structs.
use mathlib.Core.Path.{◌≡◌}
use Rattle.rules.specs.Sets.{size}
use Rattle.rules.specs.declared.Direction.TheVariants.{In, Out}
use Rattle.zone.specs.Zone.{next_target}
use Rattle.zone_c.specs.Plain.{open_plain, send_plain, receive_plain, request_plain, start_plain, gate_plain}
use Rattle.zone_c.specs.contracts as contracts
use Rattle.zone_c.proofs as part
use Rattle.promises.specs.Promise.{Keeps}

pub cut-zone-open : Keeps contracts.cut_zone_open.ended part.cut_zone_open.Symbol.name part.cut_zone_open.Symbol.code
    (λ _ edition count number stock r. r ≡ open_plain edition count number stock)
cut-zone-open _ = part.cut_zone_open.Met.met

pub cut-zone-send : Keeps contracts.cut_zone_send.ended part.cut_zone_send.Symbol.name part.cut_zone_send.Symbol.code
    (λ _ zone to cars r. r ≡ send_plain zone to cars)
cut-zone-send _ = part.cut_zone_send.Met.met

pub cut-zone-receive : Keeps contracts.cut_zone_receive.ended part.cut_zone_receive.Symbol.name part.cut_zone_receive.Symbol.code
    (λ _ zone from cars flag r. r ≡ receive_plain zone from cars flag)
cut-zone-receive _ = part.cut_zone_receive.Met.met

pub cut-zone-request : Keeps contracts.cut_zone_request.ended part.cut_zone_request.Symbol.name part.cut_zone_request.Symbol.code
    (λ _ zone set r. r ≡ request_plain zone set)
cut-zone-request _ = part.cut_zone_request.Met.met

pub cut-zone-start : Keeps contracts.cut_zone_start.ended part.cut_zone_start.Symbol.name part.cut_zone_start.Symbol.code
    (λ _ zone r. r ≡ start_plain zone)
cut-zone-start _ = part.cut_zone_start.Met.met

pub cut-zone-enter : Keeps contracts.cut_zone_enter.ended part.cut_zone_enter.Symbol.name part.cut_zone_enter.Symbol.code
    (λ _ zone cars r. r ≡ gate_plain zone In cars)
cut-zone-enter _ = part.cut_zone_enter.Met.met

pub cut-zone-leave : Keeps contracts.cut_zone_leave.ended part.cut_zone_leave.Symbol.name part.cut_zone_leave.Symbol.code
    (λ _ zone cars r. r ≡ gate_plain zone Out cars)
cut-zone-leave _ = part.cut_zone_leave.Met.met

pub cut-zone-requests : Keeps contracts.cut_zone_requests.ended part.cut_zone_requests.Symbol.name part.cut_zone_requests.Symbol.code
    (λ _ to r. r ≡ size to)
cut-zone-requests _ = part.cut_zone_requests.Met.met

pub cut-zone-next : Keeps contracts.cut_zone_next.ended part.cut_zone_next.Symbol.name part.cut_zone_next.Symbol.code
    (λ _ set r. r ≡ next_target set)
cut-zone-next _ = part.cut_zone_next.Met.met
