-- What one item more adds to the scan of a channel; that an empty channel adds nothing, nor an index that the site has no channel at.
use mathlib.Core.Path.{◌≡◌, refl, sym, ◌∙◌, ap}
use mathlib.Core.Bool.{Bool, true, false, ◌&&◌, ◌||◌, not, cond, and-true, and_assoc}
use mathlib.Core.List.{List, [], ◌∷◌, map}
use Prim.Native.Nat.{ℕ, zero, suc, ◌+◌, ◌-◌, ◌*◌, ◌^◌, ◌<◌, ◌≤◌, min}
use native.Mathlib.Numerals.{add-one}
use native.Mathlib.Omega.{arith}
use borrow.Author.Tests.{lt-ltb, le-ltb, ltb-true, ltb-false}
use lib.Dec.{leb, ltb}
use lib.ListN.{length, get_or, take, drop, length-take}
use lib.Pow.{pow_pos}
use lib.Seq.{take_all, get_or-take}
use Rattle.rules.specs.Below.{all_below, any_below, sum_below}
use Rattle.rules.specs.Sets.{within}
use Rattle.rules.proofs.Tests.{below?}
use mathlib.Core.Logic.{◌⊎◌, inl, inr}
use Rattle.rules.specs.declared.Local.{Local}
use Rattle.channel.specs.Words.{item_of, set_in, cars_in}
use Rattle.channel.specs.Channels.{is_channel, channel_index, len_of, row, words_on, items_on}
use Rattle.channel.specs.declared.Channels.{Channels}
use Rattle.channel.proofs.Indices.{word-at, all_words, no-channel, no-channel-to}
use Rattle.run.specs.State.{count_of, locals, no_local, zone_at, sets_within, cars_of, channel_sound}
use Rattle.run.specs.declared.Head.{Head}
use Rattle.run.specs.declared.Terms.{Terms}
use Rattle.run.proofs.BelowLaws.{all_end, sum-end}
use Rattle.std.proofs.Common.{Option, Some, None, ap₂}
use Rattle.std.specs.Bool.{then_some}
use Rattle.std.specs.List.{list_any}
use Rattle.scan.specs.InnerAt.{if_sound, sound_at, cars_at, sound_from, cars_from}

nobody-within : (count : ℕ) → ltb 0 (2 ^ count) ≡ true
nobody-within count = lt-ltb 0 (2 ^ count) (pow_pos count)

-- The word of a set of zones of the site stands below the limit, and no other set's does.
pub below-limit : (count word : ℕ) → 512 ≤ word → ltb word (512 + 2 ^ count) ≡ within (word - 512) count
below-limit count word h = go (ltb (word - 512) (2 ^ count)) refl
  where
    go : (b : Bool) → within (word - 512) count ≡ b → ltb word (512 + 2 ^ count) ≡ b
    go true e = let d = ltb-true (word - 512) (2 ^ count) e in lt-ltb word (512 + 2 ^ count) (omega arith)
    go false e = let d = ltb-false (word - 512) (2 ^ count) e in le-ltb word (512 + 2 ^ count) (omega arith)

-- So does every message's, whose set is empty.
pub word-sound : (count word : ℕ) → ltb word (512 + 2 ^ count) ≡ within (set_in (item_of word)) count
unfolding item_of
word-sound count word = go (below? word 512)
  where
    go : (word < 512) ⊎ (512 ≤ word) → ltb word (512 + 2 ^ count) ≡ within (set_in (item_of word)) count
    go (inl h) = rw (lt-ltb word 512 h, lt-ltb word (512 + 2 ^ count) (omega arith)) (sym (nobody-within count))
    go (inr h) = rw (le-ltb word 512 h) (below-limit count word h)

sets_more : (count : ℕ) (ws : List ℕ) (p : ℕ)
    → sets_within count (map item_of (take (suc p) ws)) ≡ sets_within count (map item_of (take p ws)) && within (set_in (item_of (get_or ws p 0))) count
unfolding item_of
sets_more count [] zero = sym (nobody-within count)
sets_more count [] (suc p) = sym (nobody-within count)
sets_more count (w ∷ ws) zero = and-true _
sets_more count (w ∷ ws) (suc p) = ap (λ (b : Bool). within (set_in (item_of w)) count && b) (sets_more count ws p)
    ∙ sym (and_assoc (within (set_in (item_of w)) count) (sets_within count (map item_of (take p ws))) (within (set_in (item_of (get_or ws p 0))) count))

cars-more : (ws : List ℕ) (p : ℕ)
    → cars_of (map item_of (take (suc p) ws)) ≡ cars_of (map item_of (take p ws)) + cars_in (item_of (get_or ws p 0))
unfolding item_of
cars-more [] zero = refl
cars-more [] (suc p) = refl
cars-more (w ∷ ws) zero = omega arith
cars-more (w ∷ ws) (suc p) = let h = cars-more ws p in omega arith

-- One word more.
pub sets-next : (count : ℕ) (ws : List ℕ) (i : ℕ) (b s t : Bool) → s ≡ b && sets_within count (map item_of (take i ws))
    → t ≡ within (set_in (item_of (get_or ws i 0))) count → s && t ≡ b && sets_within count (map item_of (take (i + 1) ws))
sets-next count ws i b s t e f = rw (add-one i, sets_more count ws i, e, f) (and_assoc b _ _)

pub cars-next : (ws : List ℕ) (i n m : ℕ) → n ≡ cars_of (map item_of (take i ws)) → m ≡ cars_in (item_of (get_or ws i 0))
    → n + m ≡ cars_of (map item_of (take (i + 1) ws))
cars-next ws i n m e f = rw (add-one i, cars-more ws i, e, f)

-- The same of a channel's word, by its place among those of all channels.
module _ (l : Channels) (k p : ℕ) (h : p < min (len_of l k) 16) where
  pub sound-item : (count : ℕ) (b s t : Bool) → s ≡ b && sets_within count (map item_of (take p (words_on l k)))
      → t ≡ within (set_in (item_of (get_or l.items (k * 16 + p) 0))) count
      → s && t ≡ b && sets_within count (map item_of (take (p + 1) (words_on l k)))
  sound-item count b s t e f = rw (add-one p, sets_more count (words_on l k) p, word-at l k p h, e, f) (and_assoc b _ _)

  pub cars-item : (n m : ℕ) → n ≡ cars_of (map item_of (take p (words_on l k))) → m ≡ cars_in (item_of (get_or l.items (k * 16 + p) 0))
      → n + m ≡ cars_of (map item_of (take (p + 1) (words_on l k)))
  cars-item n m e f = rw (add-one p, cars-more (words_on l k) p, word-at l k p h, e, f)

-- All of them, after as many as there are.
pub sound-items : (t : Terms) (l : Channels) (k p : ℕ) → p ≡ min (len_of l k) 16 → (s : Bool)
    → s ≡ leb (len_of l k) 16 && sets_within t.count (map item_of (take p (words_on l k))) → s ≡ channel_sound t l k
unfolding channel_sound
sound-items t l k p e s f = f ∙ rw (e, all_words l k)

pub cars-items : (l : Channels) (k p : ℕ) → p ≡ min (len_of l k) 16 → (n : ℕ) → n ≡ cars_of (map item_of (take p (words_on l k)))
    → n ≡ cars_of (items_on l k)
cars-items l k p e n f = f ∙ rw (e, all_words l k)

-- Once all words are looked at, they are the words of the channel.
pub words_all : (ws vs : List ℕ) (i : ℕ) → ws ≡ vs → length ws ≤ i → take i ws ≡ vs
words_all ws vs i e h = take_all i ws h ∙ e

-- A channel has no more words than places.
pub words-few : (l : Channels) (k : ℕ) → length (words_on l k) ≤ 16
words-few l k = omega (arith, length-take (len_of l k) (row l.items k), length-take 16 (drop (k * 16) l.items))

-- What is answered of a part: its cars where it is sound, else none.
pub some-is : (b : Bool) (n m : ℕ) → Some m ≡ if_sound b n → (b ≡ true) × (m ≡ n)
some-is true n m e = (refl, cc)
some-is false n m e = absurd (cc)

pub none-is : (b : Bool) (n : ℕ) → None ≡ if_sound b n → b ≡ false
none-is true n e = absurd (cc)
none-is false n e = refl

pub is-some : (b : Bool) (n m : ℕ) → b ≡ true → m ≡ n → Some m ≡ if_sound b n
is-some b n m e f = rw (e, f)

pub is-none : (b : Bool) (n : ℕ) → b ≡ false → None ≡ if_sound b n
is-none b n e = rw e

pub then-sound : (b c : Bool) (n m : ℕ) (o : Option ℕ) → o ≡ then_some b n → b ≡ c → n ≡ m → o ≡ if_sound c m
then-sound b c n m o e f g = e ∙ go b ∙ ap₂ if_sound f g
  where
    go : (t : Bool) → then_some t n ≡ if_sound t n
    go true = refl
    go false = refl

-- An empty channel is sound and holds no cars.
or-true : (b : Bool) → not b || true ≡ true
or-true true = refl
or-true false = refl

cond_same : (b : Bool) (n : ℕ) → cond b n n ≡ n
cond_same true n = refl
cond_same false n = refl

module _ (t : Terms) (l : Channels) where
  pub empty-sound : (k : ℕ) → len_of l k ≡ 0 → sound_at t l k ≡ true
  unfolding channel_sound
  empty-sound k e = rw e (or-true (is_channel t.count k))

  pub empty-cars : (k : ℕ) → len_of l k ≡ 0 → cars_at t l k ≡ 0
  empty-cars k e = rw e (cond_same (is_channel t.count k) 0)

  -- No channel stands behind those of the last zone, and none goes to a zone behind the last one.
  pub sound-end : t.count ≤ 8 → all_below 64 (sound_at t l) ≡ all_below (t.count * 8) (sound_at t l)
  sound-end h = all_end (t.count * 8) 64 (sound_at t l) (omega arith) (λ i b d. rw (no-channel t.count i b))

  pub cars-end : t.count ≤ 8 → sum_below 64 (cars_at t l) ≡ sum_below (t.count * 8) (cars_at t l)
  cars-end h = sum-end (t.count * 8) 64 (cars_at t l) (omega arith) (λ i b d. rw (no-channel t.count i b))

  pub sound-to : (from : ℕ) → t.count ≤ 8 → sound_from t l from ≡ all_below t.count (λ j. sound_at t l (channel_index from j))
  unfolding sound_from
  sound-to from h = all_end t.count 8 (λ j. sound_at t l (channel_index from j)) h (λ j b d. rw (no-channel-to t.count from j b d))

  pub cars-to : (from : ℕ) → t.count ≤ 8 → cars_from t l from ≡ sum_below t.count (λ j. cars_at t l (channel_index from j))
  unfolding cars_from
  cars-to from h = sum-end t.count 8 (λ j. cars_at t l (channel_index from j)) h (λ j b d. rw (no-channel-to t.count from j b d))

-- Whether a zone of some passes a test: by its place.
or_off : (b : Bool) → b || false ≡ b
or_off true = refl
or_off false = refl

or_assoc : (a b c : Bool) → (a || b) || c ≡ a || (b || c)
or_assoc true b c = refl
or_assoc false b c = refl

front : (n : ℕ) (f : ℕ → Bool) → any_below (suc n) f ≡ f 0 || any_below n (λ i. f (suc i))
front zero f = sym (or_off (f 0))
front (suc n) f = ap (λ (b : Bool). b || f (suc n)) (front n f) ∙ or_assoc (f 0) (any_below n (λ i. f (suc i))) (f (suc n))

pub any-of : {A : Type 0} (test : A → Bool) (d : A) (n : ℕ) (xs : List A) → n ≤ length xs
    → list_any test (take n xs) ≡ any_below n (λ k. test (get_or xs k d))
any-of test d zero xs h = refl
any-of test d (suc n) [] h = absurd (omega arith)
any-of test d (suc n) (x ∷ xs) h =
    ap (λ (b : Bool). test x || b) (any-of test d n xs (omega arith)) ∙ sym (front n (λ k. test (get_or (x ∷ xs) k d)))

-- The zones of the site, taken from those that are stored.
pub zone-in : (h : Head) (zs : List Local) (i : ℕ) → zs ≡ locals h → i < length (take (count_of h) zs)
    → get_or (take (count_of h) zs) i no_local ≡ zone_at h i
zone-in h zs i e b = get_or-take (count_of h) zs i no_local (omega (arith, length-take (count_of h) zs)) ∙ ap (λ (xs : List Local). get_or xs i no_local) e
