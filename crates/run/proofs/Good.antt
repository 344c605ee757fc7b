-- What owning a head or a run tells of its lists: they have the lengths of its arrays. The place of each array in a head's and a run's fields
-- stands here alone; a function's proof hands over what `.good` tells of its parameter.
use mathlib.Core.Path.{◌≡◌}
use mathlib.Core.List.{List}
use lib.ListN.{length}
use denote.Laws.{Is}
use mir.Val.{Val}
use borrow.Author.Rules.{rules}
use Rattle.rules.specs.Limits.{most_zones}
use Rattle.run.specs.Claims.{WholeRun}
use Rattle.run.specs.State.{locals}
use Rattle.run.specs.declared.Head.{Head}
use Rattle.run.specs.declared.Run.{Run}
use Rattle.run.specs.contracts.Head as head
use Rattle.run.specs.contracts.Run as run

pub head-zones : (h : Head) (vs : List Val) → Is head.the_row h vs → length (locals h) ≡ most_zones
head-zones h vs good = good.1.1.1.1.0.1.0.1

pub run-whole : (r : Run) (vs : List Val) → Is run.the_row r vs → WholeRun r
run-whole r vs good = record {
  zones = head-zones r.head _ good.1.1.0;
  opening = search rules;
  channels = (search rules, search rules);
  journal = search rules;
}
