-- Lists of calls on one zone, refused ones included, by the zone part and by C: the first gets the zone that the opening handed back,
-- each later one the zone that the call before it handed back.
use Rattle.std.specs.Prelude.{not, List, [], ◌∷◌, ℕ, eqb}
use Rattle.rules.specs.declared.Direction.{Direction}
use Rattle.zone.specs.Zone.{send_step, receive_step, request_step, start_step, gate_step}
use Rattle.zone.specs.Answer.{StepAnswer}
use Rattle.zone.specs.declared.Zone.{Zone}
use Rattle.zone_c.specs.Plain.{send_plain, receive_plain, request_plain, start_plain, gate_plain}
use Rattle.zone_c.specs.declared.PlainStep.{PlainStep}
use Rattle.zone_c.specs.declared.PlainZone.{PlainZone}

-- A call with any arguments, as C makes it. The flag is a byte there; each direction of a gate has its own function.
pub data ZoneCall : Type 0 where
  Send : (to cars : ℕ) → ZoneCall
  Receive : (from cars flag : ℕ) → ZoneCall
  Request : (set : ℕ) → ZoneCall
  Start : ZoneCall
  Gate : (direction : Direction) (cars : ℕ) → ZoneCall

-- What the zone part answers: any flag but 0 counts as 1.
abbrev pub answer : ZoneCall → Zone → StepAnswer
answer (Send to cars) z = send_step z to cars
answer (Receive from cars flag) z = receive_step z from cars (not (eqb flag 0))
answer (Request set) z = request_step z set
answer Start z = start_step z
answer (Gate direction cars) z = gate_step z direction cars

-- What C is answered.
abbrev pub call_plain : ZoneCall → PlainZone → PlainStep
call_plain (Send to cars) p = send_plain p to cars
call_plain (Receive from cars flag) p = receive_plain p from cars flag
call_plain (Request set) p = request_plain p set
call_plain Start p = start_plain p
call_plain (Gate direction cars) p = gate_plain p direction cars

-- The answers to a list of calls.
abbrev pub answers : List ZoneCall → Zone → List StepAnswer
answers [] z = []
answers (c ∷ cs) z = answer c z ∷ answers cs (answer c z).zone

abbrev pub answers_plain : List ZoneCall → PlainZone → List PlainStep
answers_plain [] p = []
answers_plain (c ∷ cs) p = call_plain c p ∷ answers_plain cs (call_plain c p).zone

-- The zone after a list of calls.
abbrev pub after : List ZoneCall → Zone → Zone
after [] z = z
after (c ∷ cs) z = after cs (answer c z).zone

abbrev pub after_plain : List ZoneCall → PlainZone → PlainZone
after_plain [] p = p
after_plain (c ∷ cs) p = after_plain cs (call_plain c p).zone
