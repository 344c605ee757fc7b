-- Each number of a page is read back from its place.
use mathlib.Core.Path.{◌≡◌, refl, sym, ap, ◌∙◌}
use mathlib.Core.Logic.{◌≢◌, ◌⊎◌, inl, inr}
use mathlib.Core.List.{List, [], ◌∷◌, ◌++◌, append_assoc}
use Prim.Native.Nat.{ℕ, zero, suc, ◌+◌, ◌*◌, ◌/◌, ◌%◌, ◌<◌}
use Prim.Native.Char.{code}
use native.Mathlib.Nat.{not-suc-le-zero}
use native.Mathlib.Omega.{arith}
use lib.ListN.{length, take, drop, length-append}
use lib.Seq.{take-append_seam, drop_at, drop-drop}
use Rattle.rules.specs.Below.{sum, sum_below}
use Rattle.rules.specs.Cut.{Snapshot}
use Rattle.run.proofs.BelowLaws.{split}
use Rattle.text.specs.Text.{space, line_feed, digit_code, column_text, column_end, read_column}
use Rattle.text.proofs.Columns.{column-length, column-read}
use Rattle.recording.specs.Layout.{join_below}
use Rattle.page.specs.Claims.{column_at}
use Rattle.page.specs.Layout.{firm_code, zone_text, zone_line, channel_text, channel_line, channel_of, lines_of, lines_before, channel_lines, channels_text, total_text, page_with}
use Rattle.page.proofs.Lines.{zone-length, channel-line-length, joined_length, channels-length, zones-length}

-- A column at the front of what is behind it.
column-front : (width n : ℕ) (rest : List ℕ) → n < column_end width → read_column (take width (column_text width n ++ rest)) ≡ n
column-front width n rest h =
    ap read_column (ap (λ (k : ℕ). take k (column_text width n ++ rest)) (sym (column-length width n)) ∙ take-append_seam (column_text width n) rest)
    ∙ column-read width n h

-- The two numbers of a line of five characters and two numbers, whatever stands behind it.
module _ (front : List ℕ) (five : length front ≡ 5) (four six : ℕ) (behind : List ℕ) where
  abbrev line : List ℕ
  line = (front ++ (column_text 4 four ++ (space ∷ column_text 6 six ++ (line_feed ∷ [])))) ++ behind

  first : List ℕ
  first = column_text 4 four ++ ((space ∷ column_text 6 six ++ (line_feed ∷ [])) ++ behind)

  last : List ℕ
  last = column_text 6 six ++ ((line_feed ∷ []) ++ behind)

  first-is : drop 5 line ≡ first
  unfolding first
  first-is =
      let rest : List ℕ = column_text 4 four ++ (space ∷ column_text 6 six ++ (line_feed ∷ [])) in
      ap (drop 5) (append_assoc front rest behind) ∙ drop_at front (rest ++ behind) 5 five
      ∙ append_assoc (column_text 4 four) (space ∷ column_text 6 six ++ (line_feed ∷ [])) behind

  last-is : drop 10 line ≡ last
  unfolding first last
  last-is =
      let e : column_text 4 four ++ (space ∷ []) ++ last ≡ first =
      append_assoc (column_text 4 four) (space ∷ []) last
      ∙ ap (λ (xs : List ℕ). column_text 4 four ++ (space ∷ xs)) (sym (append_assoc (column_text 6 six) (line_feed ∷ []) behind)) in
      let n : length (column_text 4 four ++ (space ∷ [])) ≡ 5 = omega (arith, length-append (column_text 4 four) (space ∷ []), column-length 4 four) in
      sym (drop-drop 5 5 line) ∙ ap (drop 5) (first-is ∙ sym e) ∙ drop_at (column_text 4 four ++ (space ∷ [])) last 5 n

  first_read : four < column_end 4 → read_column (take 4 (drop 5 line)) ≡ four
  unfolding first
  first_read h = ap (λ (xs : List ℕ). read_column (take 4 xs)) first-is ∙ column-front 4 four ((space ∷ column_text 6 six ++ (line_feed ∷ [])) ++ behind) h

  last-read : six < column_end 6 → read_column (take 6 (drop 10 line)) ≡ six
  unfolding last
  last-read h = ap (λ (xs : List ℕ). read_column (take 6 xs)) last-is ∙ column-front 6 six ((line_feed ∷ []) ++ behind) h

-- A text among those that are joined begins behind the lines of those before it.
joined_at : (n i : ℕ) (f : ℕ → List ℕ) (g : ℕ → ℕ) (rest : List ℕ) → ((k : ℕ) → length (f k) ≡ 17 * g k) → i < n
    → (tail : List ℕ) × (drop (17 * sum_below i g) (join_below n f ++ rest) ≡ f i ++ tail)
joined_at zero i f g rest h b = absurd (not-suc-le-zero b)
joined_at (suc n) i f g rest h b = go (λ c. joined_at n i f g (f n ++ rest) h c) (split i n b)
  where
    split-last : join_below (suc n) f ++ rest ≡ join_below n f ++ (f n ++ rest)
    split-last = append_assoc (join_below n f) (f n) rest

    go : (i < n → (tail : List ℕ) × (drop (17 * sum_below i g) (join_below n f ++ (f n ++ rest)) ≡ f i ++ tail)) → (i < n) ⊎ (i ≡ n)
        → (tail : List ℕ) × (drop (17 * sum_below i g) (join_below (suc n) f ++ rest) ≡ f i ++ tail)
    go more (inl c) = let m = more c in (m.0, ap (drop (17 * sum_below i g)) split-last ∙ m.1)
    go more (inr c) =
        let l : length (join_below n f) ≡ 17 * sum_below i g = joined_length n f g h ∙ ap (λ (k : ℕ). 17 * sum_below k g) (sym c) in
        (rest, ap (drop (17 * sum_below i g)) split-last ∙ drop_at (join_below n f) (f n ++ rest) (17 * sum_below i g) l ∙ ap (λ (k : ℕ). f k ++ rest) (sym c))

ones : (n : ℕ) → sum_below n (λ k. 1) ≡ n
ones zero = refl
ones (suc n) = let q = ones n in omega arith

module _ (count : ℕ) (s : Snapshot) (n : ℕ) where
  -- The line of a zone, of a channel with items, and of the total, each at the front of what is behind it.
  zone-at : (i : ℕ) → i < count → (tail : List ℕ) × (drop (17 * i) (page_with count s n) ≡ zone_line s i ++ tail)
  unfolding page_with
  zone-at i b =
      let m = joined_at count i (zone_line s) (λ k. 1) (channels_text s ++ total_text n) (λ k. zone-length k (s.recorded k) (s.events k) (s.park.stock k)) b in
      (m.0, ap (λ (k : ℕ). drop (17 * k) (join_below count (zone_line s) ++ (channels_text s ++ total_text n))) (sym (ones i)) ∙ m.1)

  behind-zones : (k : ℕ) → drop (17 * (count + k)) (page_with count s n) ≡ drop (17 * k) (channels_text s ++ total_text n)
  unfolding page_with
  behind-zones k =
      let zones = join_below count (zone_line s) in
      let e : 17 * (count + k) ≡ 17 * count + 17 * k = omega arith in
      ap (λ (m : ℕ). drop m (zones ++ (channels_text s ++ total_text n))) e
      ∙ sym (drop-drop (17 * k) (17 * count) (zones ++ (channels_text s ++ total_text n)))
      ∙ ap (drop (17 * k)) (drop_at zones (channels_text s ++ total_text n) (17 * count) (zones-length s count))

  channel-at : (k : ℕ) → k < 64
      → (tail : List ℕ) × (drop (17 * (count + lines_before s k)) (page_with count s n) ≡ channel_line (k / 8) (k % 8) (channel_of s k) ++ tail)
  unfolding channels_text lines_before
  channel-at k b =
      let m = joined_at 64 k (λ k. channel_line (k / 8) (k % 8) (channel_of s k)) (λ k. lines_of (channel_of s k)) (total_text n)
      (λ k. channel-line-length (k / 8) (k % 8) (channel_of s k)) b in
      (m.0, behind-zones (lines_before s k) ∙ m.1)

  total-at : drop (17 * (count + channel_lines s)) (page_with count s n) ≡ total_text n
  total-at = behind-zones (channel_lines s) ∙ drop_at (channels_text s) (total_text n) (17 * channel_lines s) (channels-length s)

  -- What is read there.
  pub events-read : (i : ℕ) → i < count → s.events i < column_end 4 → column_at 4 i 5 (page_with count s n) ≡ s.events i
  unfolding zone_text
  events-read i b h =
      let m = zone-at i b in
      ap (λ (xs : List ℕ). read_column (take 4 (drop 5 xs))) m.1
      ∙ first_read (code "Z" ∷ digit_code (i + 1) ∷ space ∷ firm_code (s.recorded i) ∷ space ∷ []) refl (s.events i) (s.park.stock i) m.0 h

  pub stock-read : (i : ℕ) → i < count → s.park.stock i < column_end 6 → column_at 6 i 10 (page_with count s n) ≡ s.park.stock i
  unfolding zone_text
  stock-read i b h =
      let m = zone-at i b in
      ap (λ (xs : List ℕ). read_column (take 6 (drop 10 xs))) m.1
      ∙ last-read (code "Z" ∷ digit_code (i + 1) ∷ space ∷ firm_code (s.recorded i) ∷ space ∷ []) refl (s.events i) (s.park.stock i) m.0 h

  front : ℕ → List ℕ
  front k = code "L" ∷ digit_code (k / 8 + 1) ∷ digit_code (k % 8 + 1) ∷ space ∷ space ∷ []

  -- The line of a channel that has items.
  channel-is : (k : ℕ) (cs : List ℕ) → cs ≢ [] → channel_line (k / 8) (k % 8) cs ≡ channel_text (k / 8) (k % 8) (length cs) (sum cs)
  channel-is k [] h = absurd (h refl)
  channel-is k (c ∷ cs) h = refl

  pub items-read : (k : ℕ) → k < 64 → channel_of s k ≢ [] → length (channel_of s k) < column_end 4
      → column_at 4 (count + lines_before s k) 5 (page_with count s n) ≡ length (channel_of s k)
  unfolding channel_text front
  items-read k b some h =
      let m = channel-at k b in
      ap (λ (xs : List ℕ). read_column (take 4 (drop 5 xs))) (m.1 ∙ ap (λ (l : List ℕ). l ++ m.0) (channel-is k (channel_of s k) some))
      ∙ first_read (front k) refl (length (channel_of s k)) (sum (channel_of s k)) m.0 h

  pub cars-read : (k : ℕ) → k < 64 → channel_of s k ≢ [] → sum (channel_of s k) < column_end 6
      → column_at 6 (count + lines_before s k) 10 (page_with count s n) ≡ sum (channel_of s k)
  unfolding channel_text front
  cars-read k b some h =
      let m = channel-at k b in
      ap (λ (xs : List ℕ). read_column (take 6 (drop 10 xs))) (m.1 ∙ ap (λ (l : List ℕ). l ++ m.0) (channel-is k (channel_of s k) some))
      ∙ last-read (front k) refl (length (channel_of s k)) (sum (channel_of s k)) m.0 h

  pub total-read : n < column_end 6 → column_at 6 (count + channel_lines s) 10 (page_with count s n) ≡ n
  unfolding total_text
  total-read h = ap (λ (xs : List ℕ). read_column (take 6 (drop 10 xs))) total-at ∙ column-front 6 n (line_feed ∷ []) h
