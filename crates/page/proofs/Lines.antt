-- Each line of the page has 17 bytes; the page has a line for each zone, one for each channel with items, and one.
use mathlib.Core.Path.{◌≡◌, refl}
use mathlib.Core.Bool.{Bool}
use mathlib.Core.List.{List, [], ◌∷◌, ◌++◌}
use Prim.Native.Nat.{ℕ, zero, suc, ◌+◌, ◌*◌, ◌/◌, ◌%◌}
use Prim.Native.Char.{code}
use native.Mathlib.Omega.{arith}
use lib.ListN.{length, length-append}
use Rattle.rules.specs.Below.{sum, sum_below}
use Rattle.rules.specs.Cut.{Snapshot}
use Rattle.text.specs.Text.{space, line_feed, digit_code, column_text}
use Rattle.text.proofs.Columns.{column-length}
use Rattle.recording.specs.Layout.{join_below}
use Rattle.page.specs.Layout.{line_text, firm_code, zone_text, zone_line, channel_text, channel_line, lines_of, channels_text, lines_before, channel_lines, total_text, page_with}

line-length : (front : List ℕ) (four six : ℕ) → length front ≡ 5 → length (line_text front four six) ≡ 17
line-length front four six h =
    let last = column_text 6 six ++ (line_feed ∷ []) in
    omega (
      arith,
      length-append front (column_text 4 four ++ (space ∷ last)),
      length-append (column_text 4 four) (space ∷ last),
      length-append (column_text 6 six) (line_feed ∷ []),
      column-length 4 four,
      column-length 6 six,
    )

pub zone-length : (i : ℕ) (recorded : Bool) (events stock : ℕ) → length (zone_text i recorded events stock) ≡ 17
unfolding zone_text
zone-length i recorded events stock =
    line-length (code "Z" ∷ digit_code (i + 1) ∷ space ∷ firm_code recorded ∷ space ∷ []) events stock refl

pub channel-length : (i j items cars : ℕ) → length (channel_text i j items cars) ≡ 17
unfolding channel_text
channel-length i j items cars = line-length (code "L" ∷ digit_code (i + 1) ∷ digit_code (j + 1) ∷ space ∷ space ∷ []) items cars refl

pub total-length : (n : ℕ) → length (total_text n) ≡ 17
unfolding total_text
total-length n = omega (arith, length-append (column_text 6 n) (line_feed ∷ []), column-length 6 n)

-- A channel has a line or none.
pub channel-line-length : (i j : ℕ) (cs : List ℕ) → length (channel_line i j cs) ≡ 17 * lines_of cs
channel-line-length i j [] = refl
channel-line-length i j (c ∷ cs) = channel-length i j (length (c ∷ cs)) (sum (c ∷ cs))

pub joined_length : (n : ℕ) (f : ℕ → List ℕ) (g : ℕ → ℕ) → ((k : ℕ) → length (f k) ≡ 17 * g k) → length (join_below n f) ≡ 17 * sum_below n g
joined_length zero f g h = refl
joined_length (suc n) f g h = let q = joined_length n f g h in omega (arith, length-append (join_below n f) (f n), h n)

pub zones-length : (s : Snapshot) (n : ℕ) → length (join_below n (zone_line s)) ≡ 17 * n
zones-length s zero = refl
zones-length s (suc n) =
    let q = zones-length s n in
    omega (arith, length-append (join_below n (zone_line s)) (zone_line s n), zone-length n (s.recorded n) (s.events n) (s.park.stock n))

pub channels-length : (s : Snapshot) → length (channels_text s) ≡ 17 * channel_lines s
unfolding channels_text channel_lines lines_before
channels-length s =
    joined_length 64 (λ k. channel_line (k / 8) (k % 8) (s.park.channel (k / 8) (k % 8))) (λ k. lines_of (s.park.channel (k / 8) (k % 8)))
    (λ k. channel-line-length (k / 8) (k % 8) (s.park.channel (k / 8) (k % 8)))

pub page-length : (count : ℕ) (s : Snapshot) (n : ℕ) → length (page_with count s n) ≡ 17 * (count + channel_lines s + 1)
unfolding page_with
page-length count s n =
    omega (
      arith,
      length-append (join_below count (zone_line s)) (channels_text s ++ total_text n),
      length-append (channels_text s) (total_text n),
      zones-length s count,
      channels-length s,
      total-length n,
    )
