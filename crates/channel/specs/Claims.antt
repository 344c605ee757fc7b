-- What is claimed of the search for a full channel (request 2.3), of every set and every state of the channels.
use Rattle.std.specs.Prelude.{true, false, ◌≢◌, ◌≡◌, ℕ, ◌+◌, ◌<◌, ◌≤◌}
use Rattle.rules.specs.Limits.{most_zones}
use Rattle.rules.specs.Questions.{index}
use Rattle.rules.specs.Sets.{has}
use Rattle.channel.specs.Channels.{channel_index, is_free}
use Rattle.channel.specs.declared.Channels.{Channels}

-- "all have a place": each channel from a zone to one of a set.
abbrev pub EachFree : Channels → ℕ → ℕ → Type 0
EachFree l from to = (i : ℕ) → i < most_zones → has to i ≡ true → is_free l (channel_index from i) ≡ true

-- The number `found` is what the search shall answer; 0 names none.
pub record IsHighestFull (l : Channels) (from to found : ℕ) : Type 0 where
  -- "It names the highest such zone whose line is full": one of the set,
  pub member : found ≢ 0 → (found ≤ most_zones) × (has to (index found) ≡ true)
  -- its channel is full,
  pub full : found ≢ 0 → is_free l (channel_index from (index found)) ≡ false
  -- and those of the set with a higher number, which is i + 1 at index i, have a place;
  pub higher : (i : ℕ) → i < most_zones → found < i + 1 → has to i ≡ true → is_free l (channel_index from i) ≡ true
  -- "and none exactly when all have a place".
  pub none : found ≡ 0 → EachFree l from to
  pub free : EachFree l from to → found ≡ 0
