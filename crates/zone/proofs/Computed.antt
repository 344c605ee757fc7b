-- What the zone part's opening, steps and numbers of a set are computed by, named once: a computed example that says `unfolding zone_computed`
-- unfolds all of it. So do the laws of the next zone with `next_computed`.
use mathlib.Core.Bool.{Bool}
use Prim.Native.Nat.{ℕ}
use lib.Count.{ones, ones_in, count_trailing_zeros}
use Rattle.rules.specs.Edition.{is_edition, is_traffic, has_gates}
use Rattle.rules.specs.Questions.{index, is_count, is_on}
use Rattle.rules.specs.Sets.{has}
use Rattle.local.specs.Requesting.{requested_by, started_by}
use Rattle.zone.specs.Zone.{is_other, is_zone_sound, open_zone, send_step, receive_step, request_step, start_step, gate_step, next_target}
use Rattle.zone.specs.Answer.{StepAnswer}
use Rattle.zone.specs.declared.Zone.{Zone}

unfoldable pub zone_computed : Zone → (to cars : ℕ) → StepAnswer
unfolding is_edition is_traffic has_gates is_count is_on is_other is_zone_sound open_zone send_step receive_step request_step start_step gate_step
    requested_by started_by next_target count_trailing_zeros ones ones_in
zone_computed z to cars = send_step z to cars

unfoldable pub next_computed : ℕ → Bool
unfolding has next_target count_trailing_zeros
next_computed set = has set (index (next_target set))
