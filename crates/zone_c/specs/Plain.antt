-- The zone part over a plain struct: each call is the zone part's step between two conversions.
use Rattle.std.specs.Prelude.{Bool, true, false, cond, not, ℕ, ltb, eqb, Ok, Err, Result}
use Rattle.questions.specs.declared.Refusal.{Refusal}
use Rattle.questions.specs.declared.Refusal.TheVariants.{Unsound}
use Rattle.rules.specs.declared.Checkpoint.{Checkpoint}
use Rattle.rules.specs.declared.Checkpoint.TheVariants.{None, Mutable, Permanent}
use Rattle.rules.specs.declared.Direction.{Direction}
use Rattle.zone.specs.Zone.{open_zone, send_step, receive_step, request_step, start_step, gate_step}
use Rattle.zone.specs.Answer.{StepAnswer}
use Rattle.zone.specs.declared.Zone.{Zone}
use Rattle.zone_c.specs.declared.PlainOpening.{PlainOpening}
use Rattle.zone_c.specs.declared.PlainSaved.{PlainSaved}
use Rattle.zone_c.specs.declared.PlainStep.{PlainStep}
use Rattle.zone_c.specs.declared.PlainZone.{PlainZone}

-- The mark of a kind: 0 none, 1 provisional, 2 firm; a higher kind is refused before it is asked for.
unfoldable pub mark_of : ℕ → PlainSaved → Checkpoint
mark_of kind s =
    cond (eqb kind 0) None
    (cond (eqb kind 1) (Mutable (record { stock = s.stock; events = s.events })) (Permanent (record { stock = s.stock; events = s.events })))

abbrev pub zone_of : PlainZone → Zone
zone_of p = record {
  edition = p.edition;
  number = p.number;
  count = p.count;
  stock = p.stock;
  deps = p.deps;
  events = p.events;
  checkpoint = mark_of p.mark p.saved;
}

-- What C's struct stands for: a zone, or, with a mark kind above 2, none.
abbrev pub zone_if : PlainZone → Result Zone Refusal
zone_if p = cond (ltb 2 p.mark) (Err Unsound) (Ok (zone_of p))

abbrev pub kind_of : Checkpoint → ℕ
kind_of None = 0
kind_of (Mutable s) = 1
kind_of (Permanent s) = 2

abbrev pub saved_of : Checkpoint → PlainSaved
saved_of None = record { stock = 0; events = 0 }
saved_of (Mutable s) = record { stock = s.stock; events = s.events }
saved_of (Permanent s) = record { stock = s.stock; events = s.events }

abbrev pub plain_of : Zone → PlainZone
plain_of z = record {
  number = z.number;
  count = z.count;
  deps = z.deps;
  mark = kind_of z.checkpoint;
  stock = z.stock;
  events = z.events;
  saved = saved_of z.checkpoint;
  edition = z.edition;
}

abbrev pub flag_of : Bool → ℕ
flag_of true = 1
flag_of false = 0

-- A refused struct comes back as it came.
abbrev pub refused_plain : PlainZone → ℕ → PlainStep
refused_plain p n = record { zone = p; refusal = n; flag = 0; to = 0; carried = 0 }

unfoldable pub answer_plain : PlainZone → StepAnswer → PlainStep
answer_plain p s =
    cond (eqb s.refusal 0)
    (record { zone = plain_of s.zone; refusal = 0; flag = flag_of s.flag; to = s.to; carried = s.carried })
    (refused_plain p s.refusal)

-- A whole answer of the zone part, as C gets it.
abbrev pub plain_step : StepAnswer → PlainStep
plain_step s = record { zone = plain_of s.zone; refusal = s.refusal; flag = flag_of s.flag; to = s.to; carried = s.carried }

-- A mark kind above 2 is unsound: question 1 is answered no.
abbrev pub if_kind : PlainZone → PlainStep → PlainStep
if_kind p s = cond (ltb 2 p.mark) (refused_plain p 1) s

abbrev pub open_plain : ℕ → ℕ → ℕ → ℕ → PlainOpening
open_plain edition count number stock =
    let o = open_zone edition count number stock in
    record { zone = plain_of o.zone; refusal = o.refusal }

unfoldable pub send_plain : PlainZone → ℕ → ℕ → PlainStep
send_plain p to cars = if_kind p (answer_plain p (send_step (zone_of p) to cars))

-- Any flag but 0 counts as 1.
unfoldable pub receive_plain : PlainZone → ℕ → ℕ → ℕ → PlainStep
receive_plain p from cars flag = if_kind p (answer_plain p (receive_step (zone_of p) from cars (not (eqb flag 0))))

unfoldable pub request_plain : PlainZone → ℕ → PlainStep
request_plain p set = if_kind p (answer_plain p (request_step (zone_of p) set))

unfoldable pub start_plain : PlainZone → PlainStep
start_plain p = if_kind p (answer_plain p (start_step (zone_of p)))

unfoldable pub gate_plain : PlainZone → Direction → ℕ → PlainStep
gate_plain p direction cars = if_kind p (answer_plain p (gate_step (zone_of p) direction cars))
