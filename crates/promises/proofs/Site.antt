-- What the site engine promises to a control room: the calls on a run, and a call on arrays that are lent.
use Rattle.run.specs.Answer.{opening_answer, call_answer}
use Rattle.run.specs.declared.SiteCall.TheVariants.{Send, Receive, Start, Gate}
use Rattle.rules.specs.declared.Direction.TheVariants.{In, Out}
use Rattle.site.specs.Lent.{run_in, answer_in}
use Rattle.site.specs.contracts as contracts
use Rattle.site.proofs as part
use Rattle.promises.specs.Answers.{OpenAnswers, Answers}
use Rattle.promises.specs.Promise.{Keeps}

pub «open» : Keeps contracts.«open».ended part.«open».Symbol.name part.«open».Symbol.code
    (λ _ terms stocks r. OpenAnswers terms stocks.now (opening_answer r))
«open» _ = part.«open».Met.met

pub send : Keeps contracts.send.ended part.send.Symbol.name part.send.Symbol.code
    (λ _ run from to cars r. Answers (Send from to cars) run (call_answer run r))
send _ = part.send.Met.met

pub receive : Keeps contracts.receive.ended part.receive.Symbol.name part.receive.Symbol.code
    (λ _ run from to r. Answers (Receive from to) run (call_answer run r))
receive _ = part.receive.Met.met

pub start : Keeps contracts.start.ended part.start.Symbol.name part.start.Symbol.code
    (λ _ run zone r. Answers (Start zone) run (call_answer run r))
start _ = part.start.Met.met

pub enter : Keeps contracts.enter.ended part.enter.Symbol.name part.enter.Symbol.code
    (λ _ run zone cars r. Answers (Gate In zone cars) run (call_answer run r))
enter _ = part.enter.Met.met

pub leave : Keeps contracts.leave.ended part.leave.Symbol.name part.leave.Symbol.code
    (λ _ run zone cars r. Answers (Gate Out zone cars) run (call_answer run r))
leave _ = part.leave.Met.met

pub call-in : Keeps contracts.call_in.ended part.call_in.Symbol.name part.call_in.Symbol.code
    (λ _ head items lens journal call r.
    Answers call (run_in head items.entry.now lens.entry.now journal.entry.now) (answer_in head r items.exit.now lens.exit.now journal.exit.now))
call-in _ = part.call_in.Met.met
