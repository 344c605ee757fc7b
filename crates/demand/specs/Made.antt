-- Calls made one after another on one run, each known by what it answers alone: a fact that the functions promise.
use Rattle.std.specs.Prelude.{List, [], ◌∷◌, eqb}
use Rattle.rules.specs.Change.{cons-if}
use Rattle.rules.specs.Site.{Call}
use Rattle.run.specs.Claims.{Typed}
use Rattle.run.specs.Lists.{call_of}
use Rattle.run.specs.declared.Run.{Run}
use Rattle.run.specs.Answer.{Answer}
use Rattle.run.specs.declared.SiteCall.{SiteCall}
use Rattle.promises.specs.Answers.{Answers}

-- A list of calls from one run to another: each gets the run that the call before it handed back, after a refusal too. Beside it, the
-- accepted calls in order: "An accepted call is one that answered 0." How many items remain stands in the answer too, and nothing here asks it.
pub data Made : Run → List SiteCall → List Call → Run → Type 0 where
  done : {r : Run} → Made r [] [] r
  then : {r r' : Run} {c : SiteCall} {cs : List SiteCall} {accepted : List Call} (a : Answer) → Typed c → Answers c r a → Made a.run cs accepted r'
      → Made r (c ∷ cs) (cons-if (eqb a.refusal 0) (call_of c) accepted) r'
