-- What opening and a step answer, by the numbers and values of docs/RULES.md, section 7: "Success is 0", and a refusal "is the number".
use Rattle.std.specs.Prelude.{Bool, false, ℕ, Ok, Err, Result}
use Rattle.questions.specs.Refusal.{number_of}
use Rattle.questions.specs.declared.Refusal.{Refusal}
use Rattle.rules.specs.Sets.{nobody}
use Rattle.zone.specs.declared.NotOpened.{NotOpened}
use Rattle.zone.specs.declared.Step.{Step}
use Rattle.zone.specs.declared.Zone.{Zone}

pub record OpeningAnswer : Type 0 where
  pub refusal : ℕ
  pub zone : Zone

pub record StepAnswer : Type 0 where
  pub refusal : ℕ
  pub zone : Zone
  pub flag : Bool
  pub to : ℕ
  pub carried : ℕ

-- A refused opening hands back the fixed zone.
abbrev pub opening_answer : Result Zone NotOpened → OpeningAnswer
opening_answer (Ok z) = record { refusal = 0; zone = z }
opening_answer (Err e) = record { refusal = number_of e.refusal; zone = e.zone }

-- A refused step leaves the zone z as it was; "every other answer beside it is 0 or empty".
abbrev pub step_answer : Zone → Result Step Refusal → StepAnswer
step_answer z (Ok s) = record { refusal = 0; zone = s.zone; flag = s.flag; to = s.to; carried = s.carried }
step_answer z (Err e) = record { refusal = number_of e; zone = z; flag = false; to = nobody; carried = nobody }
