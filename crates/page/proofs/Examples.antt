-- Worked pages of recordings that are written out, by computing: case A's; one with items of 0 cars and two senders; the
-- highest numbers; the longest, which no run has.
use mathlib.Core.Path.{◌≡◌, refl}
use mathlib.Core.Bool.{cond, not, ◌&&◌}
use mathlib.Core.List.{List, [], ◌∷◌}
use Prim.Native.Nat.{ℕ}
use lib.Dec.{eqb, ltb}
use lib.ListN.{length, take, drop, get_or, replicate}
use Rattle.rules.specs.Cut.{Snapshot}
use Rattle.text.specs.Codes.{codes_of}
use Rattle.page.specs.Layout.{most_page_bytes, page_text}
use Rattle.page.proofs.Computed.{page_computed}

-- The events and stocks of zones, of which the first ones are recorded, and the cars of the items on each channel.
abbrev shown : ℕ → List ℕ → List ℕ → (ℕ → ℕ → List ℕ) → Snapshot
shown firm events stocks channel = record {
  recorded = λ i. ltb i firm;
  events = λ i. get_or events i 0;
  park = record { stock = λ i. get_or stocks i 0; channel = channel };
}

-- The channel from zone i + 1 to zone j + 1 has these items, and no other channel has any.
abbrev on : ℕ → ℕ → List ℕ → (ℕ → ℕ → List ℕ) → ℕ → ℕ → List ℕ
on i j cars others a b = cond (eqb a i && eqb b j) cars (others a b)

abbrev none : ℕ → ℕ → List ℕ
none a b = []

case-a : page_text 3 (shown 2 (2 ∷ 1 ∷ []) (4 ∷ 24 ∷ 30 ∷ []) (on 0 2 (2 ∷ []) none))
    ≡ codes_of ("Z1 F    2      4\n" ∷ "Z2 F    1     24\n" ∷ "Z3 -    0     30\n" ∷ "L13     1      2\n" ∷ "T             60\n" ∷ [])
unfolding page_computed
case-a = refl

-- A channel whose items have no cars has its line; the channel from zone 2 to zone 1 stands behind that from zone 1 to zone 3.
two-senders : page_text 3 (shown 2 (1000 ∷ 999 ∷ []) (0 ∷ 65535 ∷ 7 ∷ []) (on 1 0 (0 ∷ 0 ∷ []) (on 0 2 (255 ∷ 0 ∷ 9 ∷ []) none)))
    ≡ codes_of ("Z1 F 1000      0\n" ∷ "Z2 F  999  65535\n" ∷ "Z3 -    0      7\n" ∷ "L13     3    264\n" ∷ "L21     2      0\n" ∷ "T          65806\n" ∷ [])
unfolding page_computed
two-senders = refl

-- The highest numbers: 1,000 events, 65,535 cars in a zone, 1,000 items, 320,280 cars in all, of which 254,745 and 0 are on the channels.
highest : page_text 3 (shown 1 (1000 ∷ []) (65535 ∷ []) (on 0 1 (replicate 999 255) (on 0 2 (replicate 1000 0) none)))
    ≡ codes_of ("Z1 F 1000  65535\n" ∷ "Z2 -    0      0\n" ∷ "Z3 -    0      0\n" ∷ "L12   999 254745\n" ∷ "L13  1000      0\n" ∷ "T         320280\n" ∷ [])
unfolding page_computed
highest = refl

-- All channels of eight zones have a car: 1,105 bytes, of which the first and the last lines of the channels are looked at. No run has such a
-- recording, since nothing is recorded on the channel by which a zone's mark came.
abbrev every : Snapshot
every = shown 8 [] [] (λ i j. cond (ltb i 8 && ltb j 8 && not (eqb i j)) (1 ∷ []) [])

longest : (length (page_text 8 every) ≡ most_page_bytes) × (take 34 (drop 136 (page_text 8 every)) ≡ codes_of ("L12     1      1\n" ∷ "L13     1      1\n" ∷ []))
    × (drop 1071 (page_text 8 every) ≡ codes_of ("L87     1      1\n" ∷ "T             56\n" ∷ []))
unfolding page_computed
longest = (refl, refl, refl)
