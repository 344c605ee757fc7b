-- What opening and a call answer, by the numbers and values of docs/RULES.md, section 7: "Success is 0", and a refusal "is the number".
use Rattle.std.specs.Prelude.{ℕ, Ok, Err, Result}
use Rattle.questions.specs.Refusal.{number_of, refusal_in}
use Rattle.questions.specs.declared.Refusal.{Refusal}
use Rattle.run.specs.declared.Accepted.{Accepted}
use Rattle.run.specs.declared.OpenedSite.{OpenedSite}
use Rattle.run.specs.declared.Run.{Run}

pub record Answer : Type 0 where
  pub refusal : ℕ
  pub run : Run
  pub remaining : ℕ

-- A refused opening hands back the fixed run.
abbrev pub opening_answer : OpenedSite → Answer
opening_answer o = record { refusal = refusal_in o.answer; run = o.run; remaining = 0 }

-- A refused call leaves the run r as it was; "every other answer beside it is 0 or empty".
abbrev pub call_answer : Run → Result Accepted Refusal → Answer
call_answer r (Ok a) = record { refusal = 0; run = a.run; remaining = a.remaining }
call_answer r (Err e) = record { refusal = number_of e; run = r; remaining = 0 }
