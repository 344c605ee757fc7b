-- What the bytes of a recording show: "The recorded zones (those shown firm), events, stocks and lines are those in the bytes it writes."
use Rattle.std.specs.Prelude.{Bool, ◌&&◌, cond, List, [], ◌∷◌, ℕ, ◌+◌, ◌*◌, ◌/◌, ◌%◌, leb, ltb, eqb}
use Rattle.rules.specs.Change.{cons-if}
use Rattle.rules.specs.Cut.{Snapshot}
use Rattle.rules.specs.Limits.{most_zones}
use Rattle.channel.specs.Channels.{channel_index}
use Rattle.words.specs.Bytes.{word_at, words_from}
use Rattle.words.specs.Header.{zones_in, number_in}
use Rattle.run.specs.Layout.{second_weight}
use Rattle.recording.specs.Layout.{permanent_weight, events_values}

-- The two words of the zone at index k.
abbrev pub zone_word : List ℕ → ℕ → ℕ
zone_word bytes k = word_at bytes (2 + 4 * k)

abbrev pub stock_word : List ℕ → ℕ → ℕ
stock_word bytes k = word_at bytes (4 + 4 * k)

abbrev pub has_zone : List ℕ → ℕ → Bool
has_zone bytes k = ltb k (zones_in (word_at bytes 0))

-- The words of the items.
abbrev pub items_in : List ℕ → List ℕ
items_in bytes = words_from bytes (2 + 4 * zones_in (word_at bytes 0)) (number_in (word_at bytes 0))

-- The cars of the items on the channel at index k: kind 0 records, whose high byte is the index.
abbrev pub cars_shown : ℕ → List ℕ → List ℕ
cars_shown k [] = []
cars_shown k (w ∷ ws) = cons-if (eqb (w / second_weight) k) (w % second_weight) (cars_shown k ws)

abbrev pub shown_in : List ℕ → Snapshot
shown_in bytes = record {
  recorded = λ k. has_zone bytes k && leb permanent_weight (zone_word bytes k);
  events = λ k. cond (has_zone bytes k) (zone_word bytes k % events_values) 0;
  park = record {
    stock = λ k. cond (has_zone bytes k) (stock_word bytes k) 0;
    channel = λ i j. cond (ltb i most_zones && ltb j most_zones) (cars_shown (channel_index i j) (items_in bytes)) [];
  };
}
