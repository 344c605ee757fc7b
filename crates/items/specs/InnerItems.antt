-- The items of a recording by index, over the definitions of the recording.
use Rattle.std.specs.Prelude.{◌≡◌, Bool, cond, ◌&&◌, List, [], ◌∷◌, ℕ, suc, ◌+◌, ◌-◌, ◌/◌, ◌%◌, ◌<◌, ◌≤◌, ltb, eqb, length, get_or}
use Rattle.rules.specs.Below.{sum_below, list_below}
use Rattle.rules.specs.Change.{on}
use Rattle.recording.specs.Layout.{join_below}
use Rattle.recording.specs.InnerRecords.{is_in, sent_words, taken_count, items_at}
use Rattle.rules.specs.Limits.{most_zones}
use Rattle.run.specs.Layout.{second_weight}
use Rattle.channel.specs.Channels.{most_channels, is_channel}

-- The number of values of a record's high byte, which is its kind and its channel's index.
abbrev pub high_bytes : ℕ
high_bytes = 256

-- The index of the zone that acts by a record, of the high byte of its word.
abbrev pub owner_of : ℕ → ℕ
owner_of high = cond (ltb high most_channels) (high / most_zones) (high % most_zones)

-- Is the record a message inside the sender's events shown, by the high byte of its word?
unfoldable pub is_sent : ℕ → ℕ → List ℕ → Bool
is_sent high ordinal shown = ltb high most_channels && is_in ordinal (get_or shown (high / most_zones) 0)

-- Has the record's word this high byte, and is its event inside those shown for the zone that acts by it?
abbrev pub counts_at : ℕ → List ℕ → ℕ → ℕ → Bool
counts_at high shown w ordinal = eqb (w / second_weight) high && is_in ordinal (get_or shown (owner_of high) 0)

-- The number of such records, over some records and their ordinals; then that number for each high byte.
abbrev pub count_at : ℕ → List ℕ → List ℕ → List ℕ → ℕ
count_at high shown [] ns = 0
count_at high shown (w ∷ ws) [] = 0
count_at high shown (w ∷ ws) (n ∷ ns) = on (counts_at high shown w n) suc (count_at high shown ws ns)

unfoldable pub counts : List ℕ → List ℕ → List ℕ → List ℕ
counts shown ws ns = list_below high_bytes (λ high. count_at high shown ws ns)

-- What these numbers say of channels: of each index, how many messages and how many receipts are inside.
pub record Counted (seen shown ws ns : List ℕ) : Type 0 where
  pub sent : (k : ℕ) → k < most_channels → get_or seen k 0 ≡ length (sent_words k shown ws ns)
  pub taken : (k : ℕ) → k < most_channels → get_or seen (most_channels + k) 0 ≡ taken_count k shown ws ns

-- The number of items at index k by these numbers, at the channels before it, and at all.
unfoldable pub number_at : ℕ → List ℕ → ℕ → ℕ
number_at count seen k = cond (is_channel count k) (get_or seen k 0 - get_or seen (most_channels + k) 0) 0

unfoldable pub begin_at : ℕ → List ℕ → ℕ → ℕ
begin_at count seen k = sum_below k (number_at count seen)

unfoldable pub item_number : ℕ → List ℕ → ℕ
item_number count seen = begin_at count seen most_channels

-- A list has, for each channel up to n, the number of items at the channels before it.
abbrev pub Begins : ℕ → List ℕ → ℕ → List ℕ → Type 0
Begins n begins count seen = (k : ℕ) → k ≤ n → get_or begins k 0 ≡ begin_at count seen k

-- The words of the items at index k; none where the site has no channel there. Then those of all indices, in order.
unfoldable pub words_at : ℕ → List ℕ → List ℕ → List ℕ → ℕ → List ℕ
words_at count shown ws ns k = cond (is_channel count k) (items_at k shown ws ns) []

unfoldable pub all_words : ℕ → List ℕ → List ℕ → List ℕ → List ℕ
all_words count shown ws ns = join_below most_channels (words_at count shown ws ns)
