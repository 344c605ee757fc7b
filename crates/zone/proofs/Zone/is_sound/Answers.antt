-- `zone::Zone::is_sound` meets its contract: a count that is asked first is of 8 zones at most.
use Rattle.rules.proofs.QuestionLaws.{count-high}
use Rattle.zone.proofs.Zone.is_sound.Goals as goal

pub is_within-c-requires : goal.is_within-c-requires
is_within-c-requires c = count-high _ (cc)
