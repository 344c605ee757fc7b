-- What a yes to question 1 says of a run's parts.
use mathlib.Core.Path.{◌≡◌, ◌∙◌, ap}
use mathlib.Core.Bool.{Bool, true, ◌&&◌, ◌||◌, not, cond}
use mathlib.Core.Logic.{◌≢◌}
use mathlib.Core.List.{List, [], ◌∷◌, map}
use Prim.Native.Nat.{ℕ, ◌+◌, ◌*◌, ◌/◌, ◌%◌, ◌^◌, ◌<◌, ◌≤◌}
use native.Mathlib.Omega.{arith}
use lib.Dec.{leb, ltb, eqb}
use lib.ListN.{get_or, take, drop}
use lib.Pow.{pow_pos}
use lib.Seq.{get_or-take, get_or-drop}
use borrow.Author.Tests.{leb-true, ltb-true, lt-ltb, ne_eqb}
use Rattle.rules.specs.Edition.{is_edition}
use Rattle.rules.specs.Questions.{is_count}
use Rattle.rules.specs.Sets.{within}
use Rattle.rules.proofs.QuestionLaws.{count_low, count-high}
use Rattle.rules.proofs.Tests.{and_left, and_right}
use Rattle.channel.specs.Words.{item_of, cars_in, set_in}
use Rattle.channel.specs.Channels.{channel_index, len_of, words_on, items_on, first_of, is_channel}
use Rattle.channel.specs.declared.Channels.{Channels}
use Rattle.rules.proofs.Sums.{sum-at}
use Rattle.run.proofs.BelowLaws.{all-at}
use Rattle.run.specs.State.{zone_at, local_sound, locals_sound, sets_within, channel_sound, channels_sound, cars_of, stocks, cars_on_channels, parts_sound, edition_of, count_of, terms_of}
use Rattle.run.specs.declared.Head.{Head}

-- The channel of two zones, by their indices.
pub channel-is : (count a b : ℕ) → b < 8 → is_channel count (channel_index a b) ≡ ltb a count && ltb b count && not (eqb a b)
unfolding is_channel
channel-is count a b h =
    let d : (a * 8 + b) / 8 ≡ a = omega arith in
    let m : (a * 8 + b) % 8 ≡ b = omega arith in
    rw (d, m)

pub channel-at : (count a b : ℕ) → count ≤ 8 → a < count → b < count → a ≢ b → is_channel count (channel_index a b) ≡ true
channel-at count a b c ha hb ne = rw (channel-is count a b (omega arith), lt-ltb a count ha, lt-ltb b count hb, ne_eqb a b ne)

pub channel-index-lt : (count a b : ℕ) → count ≤ 8 → a < count → b < count → channel_index a b < 64
channel-index-lt count a b c ha hb = omega arith

-- The first of some words.
first-cars : (ws : List ℕ) → cars_in (item_of (get_or ws 0 0)) ≤ cars_of (map item_of ws)
unfolding item_of
first-cars [] = omega arith
first-cars (w ∷ ws) = omega arith

first-set : (n : ℕ) (ws : List ℕ) → sets_within n (map item_of ws) ≡ true → within (set_in (item_of (get_or ws 0 0))) n ≡ true
unfolding item_of
first-set n [] e = lt-ltb 0 (2 ^ n) (pow_pos n)
first-set n (w ∷ ws) e = and_left (within (set_in (item_of w)) n) (sets_within n (map item_of ws)) e

pub first_word : (l : Channels) (k : ℕ) → 0 < len_of l k → get_or (words_on l k) 0 0 ≡ first_of l k
first_word l k h =
    let z : k * 16 + 0 ≡ k * 16 = omega arith in
    get_or-take (len_of l k) (take 16 (drop (k * 16) l.items)) 0 0 h ∙ get_or-take 16 (drop (k * 16) l.items) 0 0 (omega arith)
    ∙ get_or-drop (k * 16) l.items 0 0 ∙ ap (λ (j : ℕ). get_or l.items j 0) z

-- A zone's stock and a channel's cars within the sum of question 1.
pub stock-le : (h : Head) (i : ℕ) → i < count_of h → (zone_at h i).stock ≤ stocks h
unfolding stocks
stock-le h i b = sum-at (count_of h) (λ i. (zone_at h i).stock) i b

at-channel : (b : Bool) (x n : ℕ) → b ≡ true → cond b x 0 ≤ n → x ≤ n
at-channel b x n e h = rw e at h

pub cars-le : (count : ℕ) (l : Channels) (k : ℕ) → k < 64 → is_channel count k ≡ true → cars_of (items_on l k) ≤ cars_on_channels count l
unfolding cars_on_channels
cars-le count l k h e =
    at-channel (is_channel count k) (cars_of (items_on l k)) _ e (sum-at 64 (λ k. cond (is_channel count k) (cars_of (items_on l k)) 0) k h)

module _ (h : Head) (l : Channels) (sound : parts_sound h l ≡ true) where
  abbrev count : ℕ
  count = count_of h

  abbrev records : ℕ
  records = h.records

  -- The questions of the edition, the count, the records, and so on, in their order: those up to the channels, the zones, the records, the
  -- count.
  abbrev numbered : Bool
  numbered = is_edition (edition_of h) && is_count count && leb records 1000

  front : numbered && locals_sound h && channels_sound (terms_of h) l ≡ true
  unfolding parts_sound
  front = and_left (numbered && locals_sound h && channels_sound (terms_of h) l) _ sound

  three : numbered && locals_sound h ≡ true
  three = and_left (numbered && locals_sound h) _ front

  two : numbered ≡ true
  two = and_left numbered _ three

  one : is_edition (edition_of h) && is_count count ≡ true
  one = and_left (is_edition (edition_of h) && is_count count) _ two

  pub sound-edition : is_edition (edition_of h) ≡ true
  sound-edition = and_left (is_edition (edition_of h)) _ one

  pub sound-count : is_count count ≡ true
  sound-count = and_right (is_edition (edition_of h)) (is_count count) one

  pub sound-low : 2 ≤ count
  sound-low = count_low count sound-count

  pub sound-high : count ≤ 8
  sound-high = count-high count sound-count

  pub sound-records : records ≤ 1000
  sound-records = leb-true records 1000 (and_right (is_edition (edition_of h) && is_count count) (leb records 1000) two)

  sound-zone : (i : ℕ) → i < count → local_sound count records (zone_at h i) ≡ true
  unfolding locals_sound
  sound-zone i b =
      all-at count (λ i. local_sound count records (zone_at h i)) (and_right numbered (locals_sound h) three) i b

  pub sound-events : (i : ℕ) → i < count → (zone_at h i).events ≤ records
  unfolding local_sound
  sound-events i b = leb-true (zone_at h i).events records (and_left (leb (zone_at h i).events records) _ (sound-zone i b))

  pub sound-deps : (i : ℕ) → i < count → (zone_at h i).deps < 2 ^ count
  unfolding local_sound
  sound-deps i b =
      ltb-true (zone_at h i).deps (2 ^ count) (and_right (leb (zone_at h i).events records) (within (zone_at h i).deps count) (sound-zone i b))

  sound-channel : (k : ℕ) → k < 64 → is_channel count k ≡ true → channel_sound (terms_of h) l k ≡ true
  unfolding channels_sound
  sound-channel k b e =
      let q : not (is_channel count k) || channel_sound (terms_of h) l k ≡ true = all-at 64 (λ k. not (is_channel count k) || channel_sound (terms_of h) l k)
      (and_right (numbered && locals_sound h) (channels_sound (terms_of h) l) front) k b in
      rw e at q

  pub sound-length : (k : ℕ) → k < 64 → is_channel count k ≡ true → len_of l k ≤ 16
  unfolding channel_sound
  sound-length k b e = leb-true (len_of l k) 16 (and_left (leb (len_of l k) 16) (sets_within count (items_on l k)) (sound-channel k b e))

  pub sound-sets : (k : ℕ) → k < 64 → is_channel count k ≡ true → sets_within count (items_on l k) ≡ true
  unfolding channel_sound
  sound-sets k b e = and_right (leb (len_of l k) 16) (sets_within count (items_on l k)) (sound-channel k b e)

  pub sound-first : (k : ℕ) → k < 64 → is_channel count k ≡ true → 0 < len_of l k → set_in (item_of (first_of l k)) < 2 ^ count
  sound-first k b e n =
      let q = first-set count (words_on l k) (sound-sets k b e) in
      ltb-true (set_in (item_of (first_of l k))) (2 ^ count) (rw (first_word l k n) at q)

  pub sound-total : stocks h + cars_on_channels count l ≤ 65535
  unfolding parts_sound
  sound-total =
      leb-true (stocks h + cars_on_channels count l) 65535
      (and_right (numbered && locals_sound h && channels_sound (terms_of h) l) _ sound)

  -- A zone has room for what stands first on a channel: the sum of question 1 has both.
  pub sound-room : (i k : ℕ) → i < count → k < 64 → is_channel count k ≡ true → 0 < len_of l k
      → (zone_at h i).stock + cars_in (item_of (first_of l k)) ≤ 65535
  sound-room i k hi hk e n =
      let s = stock-le h i hi in
      let t = cars-le count l k hk e in
      let f : cars_in (item_of (first_of l k)) ≤ cars_of (items_on l k) = rw (first_word l k n) at (first-cars (words_on l k)) in
      let w = sound-total in
      omega arith
