-- What question 1 asks of one index for a channel, and the cars there; nothing of a channel that the site does not have. The same of
-- all indices for channels from one zone.
use Rattle.std.specs.Prelude.{Bool, ◌||◌, not, cond, ℕ, Option, Some, None}
use Rattle.rules.specs.Below.{all_below, sum_below}
use Rattle.rules.specs.Limits.{most_zones}
use Rattle.channel.specs.Channels.{is_channel, channel_index, items_on}
use Rattle.channel.specs.declared.Channels.{Channels}
use Rattle.run.specs.State.{channel_sound, cars_of}
use Rattle.run.specs.declared.Terms.{Terms}

-- What a part that is looked at for soundness holds: its cars where it is sound, else nothing.
abbrev pub if_sound : Bool → ℕ → Option ℕ
if_sound sound cars = cond sound (Some cars) None

abbrev pub sound_at : Terms → Channels → ℕ → Bool
sound_at t l k = not (is_channel t.count k) || channel_sound t l k

abbrev pub cars_at : Terms → Channels → ℕ → ℕ
cars_at t l k = cond (is_channel t.count k) (cars_of (items_on l k)) 0

unfoldable pub sound_from : Terms → Channels → ℕ → Bool
sound_from t l from = all_below most_zones (λ j. sound_at t l (channel_index from j))

unfoldable pub cars_from : Terms → Channels → ℕ → ℕ
cars_from t l from = sum_below most_zones (λ j. cars_at t l (channel_index from j))
