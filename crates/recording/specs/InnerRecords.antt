-- The items of a recording by the journal's records and their own-event ordinals: what the code counts, shown in proofs/ to be the items of
-- the rules.
use Rattle.std.specs.Prelude.{Bool, ◌&&◌, List, [], ◌∷◌, ℕ, suc, ◌+◌, ◌/◌, ◌%◌, leb, eqb, drop, get_or}
use Rattle.rules.specs.Change.{on, cons-if}
use Rattle.rules.specs.Limits.{most_zones}
use Rattle.channel.specs.Channels.{most_channels}
use Rattle.run.specs.Layout.{second_weight}

-- Is the event with this ordinal inside the events shown? A record that is no own event has the ordinal 0.
abbrev pub is_in : ℕ → ℕ → Bool
is_in ordinal shown = leb 1 ordinal && leb ordinal shown

-- Is the record a message sent on the channel at index k, inside the sender's events; a receipt on it, inside the receiver's? The high
-- byte of a record's word is its kind and its channel's index.
abbrev pub sends_on : ℕ → List ℕ → ℕ → ℕ → Bool
sends_on k shown w ordinal = eqb (w / second_weight) k && is_in ordinal (get_or shown (k / most_zones) 0)

abbrev pub takes_on : ℕ → List ℕ → ℕ → ℕ → Bool
takes_on k shown w ordinal = eqb (w / second_weight) (most_channels + k) && is_in ordinal (get_or shown (k % most_zones) 0)

-- The words of the messages, and the number of the receipts, over some records and their ordinals.
abbrev pub sent_words : ℕ → List ℕ → List ℕ → List ℕ → List ℕ
sent_words k shown [] ns = []
sent_words k shown (w ∷ ws) [] = []
sent_words k shown (w ∷ ws) (n ∷ ns) = cons-if (sends_on k shown w n) w (sent_words k shown ws ns)

abbrev pub taken_count : ℕ → List ℕ → List ℕ → List ℕ → ℕ
taken_count k shown [] ns = 0
taken_count k shown (w ∷ ws) [] = 0
taken_count k shown (w ∷ ws) (n ∷ ns) = on (takes_on k shown w n) suc (taken_count k shown ws ns)

-- The items on the channel at index k.
abbrev pub items_at : ℕ → List ℕ → List ℕ → List ℕ → List ℕ
items_at k shown ws ns = drop (taken_count k shown ws ns) (sent_words k shown ws ns)
