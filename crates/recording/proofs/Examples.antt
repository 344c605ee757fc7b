-- The numbers of refused recordings, by computing.
use mathlib.Core.Path.{◌≡◌, refl}
use mathlib.Core.List.{[], ◌∷◌}
use Rattle.run.specs.Lists.{after}
use Rattle.run.specs.declared.Run.{Run}
use Rattle.recording.specs.Call.{record_call}
use Rattle.run.specs.Opening.{open_call, opening_as, terms_as}
use Rattle.run.specs.declared.SiteCall.TheVariants.{Send, Receive, Start}
use Rattle.recording.proofs.Computed.{record_computed}

abbrev two : Run
two = (open_call (opening_as (terms_as 1 2) (1 ∷ 1 ∷ []))).run

-- Lent no bytes, a run in which no recording was started is refused with 12, one with the request of zone 1 under way with 13, and only
-- a complete one with 14.
pub numbers : ((record_call two []).answer.refusal ≡ 12)
    × ((record_call (after (Send 2 1 0 ∷ Receive 2 1 ∷ Start 1 ∷ []) two) []).answer.refusal ≡ 13)
    × ((record_call (after (Start 1 ∷ []) two) []).answer.refusal ≡ 14)
unfolding record_computed
numbers = (refl, refl, refl)
