-- What the claims over calls and lists of calls speak of, beside the calls themselves.
use Rattle.std.specs.Prelude.{◌≡◌, true, false, cond, List, [], ◌∷◌, ◌++◌, ℕ, ◌+◌, ◌≤◌, ◌<◌, leb, ltb, length, take, get_or, replicate}
use Rattle.rules.specs.Change.{cons-if}
use Rattle.rules.specs.Limits.{most_zones, most_records, places}
use Rattle.rules.specs.Edition.{has_gates}
use Rattle.rules.specs.Questions.{Question, question, refusal, is_on}
use Rattle.rules.specs.Site.{entering, leaving}
use Rattle.rules.specs.declared.Direction.{Direction}
use Rattle.rules.specs.declared.Direction.TheVariants.{In, Out}
use Rattle.channel.specs.Channels.{Whole}
use Rattle.run.specs.State.{locals}
use Rattle.run.specs.Calls.{is_pair, record_of, own_gate_questions, answer}
use Rattle.run.specs.Opening.{opening_as}
use Rattle.run.specs.Lists.{is_accepted, call_of, after}
use Rattle.run.specs.declared.Opening.{Opening}
use Rattle.run.specs.declared.Run.{Run}
use Rattle.run.specs.declared.SiteCall.{SiteCall}
use Rattle.run.specs.declared.SiteCall.TheVariants.{Send, Receive, Start, Gate}

-- The lists of a run have the lengths of its arrays: true of every value of the type.
pub record WholeRun (r : Run) : Type 0 where
  pub zones : length (locals r.head) ≡ most_zones
  pub opening : length r.head.opening.stocks ≡ most_zones
  pub channels : Whole r.channels
  pub journal : length r.journal ≡ most_records

-- "An opening with an empty stock list now means stock 0 in every zone": the list that is meant, and the opening with that list.
abbrev pub filled_list : (count : ℕ) → List ℕ → List ℕ
filled_list count [] = replicate count 0
filled_list count (stock ∷ stocks) = stock ∷ stocks

abbrev pub filled : Opening → Opening
filled o = opening_as o.terms (filled_list o.terms.count o.stocks)

-- The cars of a call are a u8: true of every argument of the type.
abbrev pub Typed : SiteCall → Type 0
Typed (Send from to cars) = cars < 256
Typed (Receive from to) = Unit {0}
Typed (Start zone) = Unit {0}
Typed (Gate direction zone cars) = cars < 256

abbrev pub AllTyped : List SiteCall → Type 0
AllTyped [] = Unit {0}
AllTyped (c ∷ cs) = Typed c × AllTyped cs

-- The cars that the accepted calls of a list bring in from the street, and those that they take out: "entries" and "exits".
abbrev pub entered : List SiteCall → Run → ℕ
entered [] r = 0
entered (c ∷ cs) r = cond (is_accepted c r) (entering (call_of c)) 0 + entered cs (answer c r).run

abbrev pub left : List SiteCall → Run → ℕ
left [] r = 0
left (c ∷ cs) r = cond (is_accepted c r) (leaving (call_of c)) 0 + left cs (answer c r).run

-- No accepted call of the list is a receipt; and the accepted one that is the last of a list.
abbrev pub NoReceipt : List SiteCall → Run → Type 0
NoReceipt [] r = Unit {0}
NoReceipt (c ∷ cs) r = ((from to : ℕ) → c ≡ Receive from to → is_accepted c r ≡ false) × NoReceipt cs (answer c r).run

pub record LastReceipt (cs : List SiteCall) (r : Run) : Type 0 where
  pub before : List SiteCall
  pub from : ℕ
  pub to : ℕ
  pub behind : List SiteCall
  pub split : cs ≡ before ++ (Receive from to ∷ behind)
  pub accepted : is_accepted (Receive from to) (after before r) ≡ true
  pub none : NoReceipt behind (answer (Receive from to) (after before r)).run

-- What a sound run answers to a hand-over, by the zone count, the number of records, the sender's stock and the channel's length
-- alone: whether a recording is started is not asked.
abbrev pub send_questions : (count records stock len from to cars : ℕ) → List Question
send_questions count records stock len from to cars =
    question 5 (is_pair count from to)
    ∷ question 6 (ltb records most_records)
    ∷ question 7 (leb cars stock)
    ∷ question 8 (ltb len places)
    ∷ []

abbrev pub send_refusal : (count records stock len from to cars : ℕ) → ℕ
send_refusal count records stock len from to cars = refusal (send_questions count records stock len from to cars)

-- What a sound run answers to a gate call, by the edition, the zone count, the number of records, the zone's stock and the run's stocks plus
-- cars on lines alone: whether a recording is started is not asked.
abbrev pub gate_questions : Direction → (edition count records stock held zone cars : ℕ) → List Question
gate_questions direction edition count records stock held zone cars =
    question 15 (has_gates edition)
    ∷ question 5 (is_on count zone)
    ∷ question 6 (ltb records most_records)
    ∷ own_gate_questions direction cars stock held

abbrev pub gate_refusal : Direction → (edition count records stock held zone cars : ℕ) → ℕ
gate_refusal direction edition count records stock held zone cars =
    refusal (gate_questions direction edition count records stock held zone cars)

-- The numbers of a gate call's last question.
abbrev pub gate_refusals : Direction → List ℕ
gate_refusals In = 21 ∷ []
gate_refusals Out = 7 ∷ []

-- The numbers of a call's own questions, and of those that it asks of its edition.
abbrev pub own_refusals : SiteCall → List ℕ
own_refusals (Send from to cars) = 7 ∷ 8 ∷ []
own_refusals (Receive from to) = 9 ∷ 10 ∷ []
own_refusals (Start zone) = 11 ∷ 10 ∷ []
own_refusals (Gate direction zone cars) = gate_refusals direction

abbrev pub edition_refusals : SiteCall → List ℕ
edition_refusals (Send from to cars) = []
edition_refusals (Receive from to) = []
edition_refusals (Start zone) = []
edition_refusals (Gate direction zone cars) = 15 ∷ []

-- The numbers with which a call may be refused, those of its list; and 0.
abbrev pub call_refusals : SiteCall → List ℕ
call_refusals c = 1 ∷ edition_refusals c ++ (5 ∷ 6 ∷ own_refusals c)

abbrev pub possible_answers : SiteCall → List ℕ
possible_answers c = 0 ∷ call_refusals c

-- The numbers of an opening's questions.
abbrev pub open_refusals : List ℕ
open_refusals = 15 ∷ 2 ∷ 3 ∷ 4 ∷ []

-- The record words of the accepted calls of a list, in order.
abbrev pub accepted_records : List SiteCall → Run → List ℕ
accepted_records [] r = []
accepted_records (c ∷ cs) r = cons-if (is_accepted c r) (record_of c) (accepted_records cs (answer c r).run)

-- The records of a run are the words ws, and the rest of its journal is 0.
pub record Holds (r : Run) (ws : List ℕ) : Type 0 where
  pub number : r.head.records ≡ length ws
  pub words : take r.head.records r.journal ≡ ws
  pub rest : (k : ℕ) → r.head.records ≤ k → get_or r.journal k 0 ≡ 0
