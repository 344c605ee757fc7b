-- The page of what the bytes of a recording show, by what the code counts and writes.
use mathlib.Core.Path.{◌≡◌, refl, sym, ap, ap₂, subst, ◌∙◌}
use mathlib.Core.Bool.{cond}
use mathlib.Core.List.{List, [], ◌∷◌, ◌++◌, append_assoc}
use Prim.Native.Nat.{ℕ, suc, ◌+◌, ◌*◌, ◌/◌, ◌%◌, ◌<◌, ◌≤◌}
use native.Mathlib.Omega.{arith}
use lib.Dec.{eqb}
use lib.ListN.{length, drop, length-append}
use borrow.Author.Tests.{lt-ltb, le-leb, lt-leb, ne_eqb}
use Rattle.rules.specs.Below.{sum}
use Rattle.rules.proofs.Lists.{All}
use Rattle.channel.specs.Channels.{channel_index}
use Rattle.words.specs.Bytes.{word_at, words_from}
use Rattle.words.specs.Header.{zones_in, number_in}
use Rattle.journal.specs.Answers.{Written}
use Rattle.recording.specs.Layout.{join_below}
use Rattle.recording.specs.Shown.{items_in, cars_shown, shown_in}
use Rattle.recording.proofs.Zones.{join-same}
use Rattle.page.specs.Layout.{zone_line, channel_text, channel_line, channels_text, total_text, page_with}
use Rattle.page.proofs.Lines.{total-length}
use Rattle.pager.specs.InnerLines.{Put, zone_lines, item_numbers, table_of, line_at, line_in, lines_in, lines_number, Holds, page_in, sized_page}
use Rattle.pager.proofs.Joined.{zones-size, lines-size}
use Rattle.pager.proofs.Tables.{items_at_lem, table_at}

-- A channel without items has no line.
line-by : (i j : ℕ) (cs : List ℕ) → channel_line i j cs ≡ cond (eqb (length cs) 0) [] (channel_text i j (length cs) (sum cs))
line-by i j [] = refl
line-by i j (c ∷ cs) = rw (ne_eqb (suc (length cs)) 0 (λ e. omega arith))

module _ (bytes : List ℕ) where
  abbrev count : ℕ
  count = zones_in (word_at bytes 0)

  abbrev shown_items : List ℕ
  shown_items = items_in bytes

  zones-are : join_below count (zone_line (shown_in bytes)) ≡ zone_lines bytes count
  unfolding zone_lines
  zones-are = join-same count _ _ (λ i h. rw (lt-ltb i count h))

  channels-are : channels_text (shown_in bytes) ≡ lines_in (item_numbers shown_items) (table_of shown_items) 64
  unfolding channels_text lines_in line_at
  channels-are =
      join-same 64 (λ k. channel_line (k / 8) (k % 8) ((shown_in bytes).park.channel (k / 8) (k % 8)))
      (line_in (item_numbers shown_items) (table_of shown_items)) at
    where
      at : (k : ℕ) → k < 64
          → channel_line (k / 8) (k % 8) ((shown_in bytes).park.channel (k / 8) (k % 8)) ≡ line_in (item_numbers shown_items) (table_of shown_items) k
      at k h =
          let e : channel_index (k / 8) (k % 8) ≡ k = omega arith in
          let near = lt-ltb (k / 8) 8 (omega arith) in
          let far = lt-ltb (k % 8) 8 (omega arith) in
          let cars = table_at shown_items (k / 8) (k % 8) (omega arith) (omega arith) in
          rw (near, far, items_at_lem shown_items k h, cars, e) (line-by (k / 8) (k % 8) (cars_shown k shown_items))

  page-is : (total : ℕ)
      → page_in bytes total ≡ zone_lines bytes count ++ lines_in (item_numbers shown_items) (table_of shown_items) 64 ++ total_text total
  unfolding page_in page_with
  page-is total =
      ap₂ (λ (zs ls : List ℕ). zs ++ (ls ++ total_text total)) zones-are channels-are
      ∙ sym (append_assoc (zone_lines bytes count) (lines_in (item_numbers shown_items) (table_of shown_items) 64) (total_text total))

-- By the numbers that the code has.
module _ (bytes : List ℕ) (zones number : ℕ) (z : zones ≡ zones_in (word_at bytes 0)) (n : number ≡ number_in (word_at bytes 0)) where
  words_are : items_in bytes ≡ words_from bytes (2 + 4 * zones) number
  words_are = ap₂ (λ (i j : ℕ). words_from bytes (2 + 4 * i) j) (sym z) (sym n)

  pub on-channels : Holds bytes → number < 1024
      → (number < 1024) × (2 + 4 * zones + 2 * number ≤ length bytes) × All (λ w. w / 256 < 64) (words_from bytes (2 + 4 * zones) number)
  on-channels h few = (few, omega (arith, h.room), subst (All (λ w. w / 256 < 64)) words_are h.channels)

  module _ (items : List ℕ) (i : items ≡ item_numbers (words_from bytes (2 + 4 * zones) number)) (total : ℕ) (lent : List ℕ) where
    text-is : (cars : List (List ℕ)) → cars ≡ table_of (words_from bytes (2 + 4 * zones) number)
        → page_in bytes total ≡ zone_lines bytes zones ++ lines_in items cars 64 ++ total_text total
    text-is cars c = page-is bytes total ∙ rw (← z, ← n, ← i, ← c)

    size : length (page_in bytes total) ≡ 17 * (zones + lines_number items 64 + 1)
    size =
        let cars = table_of (words_from bytes (2 + 4 * zones) number) in
        let e = ap length (text-is cars refl) in
        omega (
          arith,
          e,
          length-append (zone_lines bytes zones ++ lines_in items cars 64) (total_text total),
          length-append (zone_lines bytes zones) (lines_in items cars 64),
          zones-size bytes zones,
          lines-size items cars 64,
          total-length total,
        )

    -- Question 14 is answered no, or yes and the page is written.
    pub too_few : (w : Written) → length lent < 17 * (zones + lines_number items 64 + 1) → w ≡ record { refusal = 14; written = 0 }
        → (w ≡ (sized_page lent (page_in bytes total)).answer) × (lent ≡ (sized_page lent (page_in bytes total)).bytes)
    unfolding sized_page
    too_few w h e = rw (lt-leb (length (page_in bytes total)) (length lent) (omega (arith, size))) (e, refl)

    pub enough : (cars : List (List ℕ)) (out : List ℕ) (k : ℕ) → cars ≡ table_of (words_from bytes (2 + 4 * zones) number)
        → 17 * (zones + lines_number items 64 + 1) ≤ length lent
        → Put (zone_lines bytes zones ++ lines_in items cars 64 ++ total_text total) lent out k
        → (record { refusal = 0; written = k } ≡ (sized_page lent (page_in bytes total)).answer) × (out ≡ (sized_page lent (page_in bytes total)).bytes)
    unfolding sized_page
    enough cars out k c h p =
        let e = text-is cars c in
        let l : k ≡ length (page_in bytes total) = p.number ∙ sym (ap length e) in
        rw (le-leb (length (page_in bytes total)) (length lent) (omega (arith, size)))
        (ap (λ (m : ℕ). record { refusal = 0; written = m }) l, p.bytes ∙ ap₂ (λ (xs : List ℕ) (m : ℕ). xs ++ drop m lent) (sym e) l)
