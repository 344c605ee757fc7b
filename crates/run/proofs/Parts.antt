-- Question 1 as facts: a run is sound exactly when the site that it stands for is within the bounds.
use mathlib.Core.Path.{◌≡◌, refl, sym, ◌∙◌, ap, ap₂, subst}
use mathlib.Core.Bool.{Bool, true, false, cond, ◌&&◌, ◌||◌, not}
use mathlib.Core.Logic.{◌≢◌}
use mathlib.Core.List.{[]}
use Prim.Native.Nat.{ℕ, ◌+◌, ◌*◌, ◌/◌, ◌%◌, ◌^◌, ◌≤◌, ◌<◌}
use native.Mathlib.Omega.{arith}
use lib.Dec.{eqb, ltb}
use borrow.Author.Tests.{ltb-true, eqb-false, not-true, lt-ltb, le-leb}
use Rattle.rules.specs.Edition.{is_edition}
use Rattle.rules.specs.Limits.{most_zones, most_cars, most_records, places}
use Rattle.rules.specs.Questions.{is_count}
use Rattle.rules.specs.Site.{Site}
use Rattle.rules.specs.declared.Local.{Local}
use Rattle.rules.proofs.Tests.{and_left, and_right}
use Rattle.channel.specs.Channels.{channel_index, len_of, items_on, is_channel}
use Rattle.rules.specs.Below.{sum_below}
use Rattle.run.specs.State.{zone_at, local_sound, locals_sound, sets_within, channel_sound, channels_sound, cars_of, stocks, cars_on_channels, parts_sound, is_sound, count_of, terms_of}
use Rattle.run.specs.Model.{site_of}
use Rattle.run.specs.declared.Run.{Run}
use Rattle.rules.proofs.Sums.{sum_same}
use Rattle.run.proofs.BelowLaws.{all_of}
use Rattle.run.proofs.Facts.{channel-is, channel-at, channel-index-lt, sound-edition, sound-low, sound-high, sound-records, sound-events, sound-deps, sound-length, sound-sets, sound-total}

-- Is there a channel from i to j on the site?
abbrev pub on_site : ℕ → ℕ → ℕ → Bool
on_site count i j = ltb j most_zones && is_channel count (channel_index i j)

pub record Between (count i j : ℕ) : Type 0 where
  pub from : i < count
  pub to : j < count
  pub apart : i ≢ j
  pub near : j < most_zones

pub between : (count i j : ℕ) → on_site count i j ≡ true → Between count i j
between count i j e =
    let h = ltb-true j 8 (and_left (ltb j 8) (is_channel count (channel_index i j)) e) in
    let f = sym (channel-is count i j h) ∙ and_right (ltb j 8) (is_channel count (channel_index i j)) e in
    let g = and_left (ltb i count && ltb j count) (not (eqb i j)) f in
    record {
      from = ltb-true i count (and_left (ltb i count) (ltb j count) g);
      to = ltb-true j count (and_right (ltb i count) (ltb j count) g);
      apart = eqb-false i j (not-true (eqb i j) (and_right (ltb i count && ltb j count) (not (eqb i j)) f));
      near = h;
    }

pub on-site : (count i j : ℕ) → count ≤ 8 → i < count → j < count → i ≢ j → on_site count i j ≡ true
on-site count i j h hi hj d =
    let b : j < 8 = omega arith in
    rw (lt-ltb j 8 b, channel-at count i j h hi hj d)

-- The cars of a site: stocks, and cars on channels.
abbrev pub stocks_s : ℕ → Site → ℕ
stocks_s count s = sum_below count (λ i. (s.zone i).stock)

unfoldable pub cars_s : Site → ℕ
cars_s s = sum_below (most_zones * most_zones) (λ k. cars_of (s.channel (k / most_zones) (k % most_zones)))

pub record SoundRun (r : Run) : Type 0 where
  pub edition : is_edition (site_of r).edition ≡ true
  pub fewest : 2 ≤ count_of r.head
  pub most : count_of r.head ≤ 8
  pub records : r.head.records ≤ most_records
  pub events : (i : ℕ) → i < count_of r.head → ((site_of r).zone i).events ≤ r.head.records
  pub deps : (i : ℕ) → i < count_of r.head → ((site_of r).zone i).deps < 2 ^ count_of r.head
  pub lens : (i j : ℕ) → on_site (count_of r.head) i j ≡ true → len_of r.channels (channel_index i j) ≤ places
  pub sets : (i j : ℕ) → on_site (count_of r.head) i j ≡ true → sets_within (count_of r.head) ((site_of r).channel i j) ≡ true
  pub cars : stocks_s (count_of r.head) (site_of r) + cars_s (site_of r) ≤ most_cars

-- What the site shows of a zone and a channel that the run has.
pub zone-on : (r : Run) (i : ℕ) → i < count_of r.head → (site_of r).zone i ≡ zone_at r.head i
zone-on r i h = rw (lt-ltb i (count_of r.head) h)

pub channel-on : (r : Run) (i j : ℕ) → on_site (count_of r.head) i j ≡ true → (site_of r).channel i j ≡ items_on r.channels (channel_index i j)
channel-on r i j e = rw e

pub stocks-are : (r : Run) → stocks r.head ≡ stocks_s (count_of r.head) (site_of r)
unfolding stocks
stocks-are r = sum_same (count_of r.head) _ _ (λ i h. ap (λ (z : Local). z.stock) (sym (zone-on r i h)))

pub cars-are : (r : Run) → cars_on_channels (count_of r.head) r.channels ≡ cars_s (site_of r)
unfolding cars_on_channels cars_s
cars-are r = sum_same 64 _ _ (λ k h. at k (is_channel (count_of r.head) k) refl)
  where
    at : (k : ℕ) (p : Bool) → is_channel (count_of r.head) k ≡ p
        → cond p (cars_of (items_on r.channels k)) 0 ≡ cars_of ((site_of r).channel (k / 8) (k % 8))
    at k p e =
        let f : k / 8 * 8 + k % 8 ≡ k = omega arith in
        let g : k % 8 < 8 = omega arith in
        rw (lt-ltb (k % 8) 8 g, f, e) (go p)
      where
        go : (p : Bool) → cond p (cars_of (items_on r.channels k)) 0 ≡ cars_of (cond p (items_on r.channels k) [])
        go true = refl
        go false = refl

-- A channel test, at the channels of the site only.
implies : (p q : Bool) → (p ≡ true → q ≡ true) → not p || q ≡ true
implies true q h = h refl
implies false q h = refl

zones-of : (r : Run) → ((i : ℕ) → i < count_of r.head → ((site_of r).zone i).events ≤ r.head.records)
    → ((i : ℕ) → i < count_of r.head → ((site_of r).zone i).deps < 2 ^ count_of r.head) → locals_sound r.head ≡ true
unfolding locals_sound local_sound
zones-of r h k = all_of (count_of r.head) _ (λ i b. rw (← zone-on r i b, le-leb _ _ (h i b)) (lt-ltb _ _ (k i b)))

channels-of : (r : Run) → ((i j : ℕ) → on_site (count_of r.head) i j ≡ true → len_of r.channels (channel_index i j) ≤ places)
    → ((i j : ℕ) → on_site (count_of r.head) i j ≡ true → sets_within (count_of r.head) ((site_of r).channel i j) ≡ true)
    → channels_sound (terms_of r.head) r.channels ≡ true
unfolding channels_sound channel_sound
channels-of r h k = all_of 64 _ (λ p b. implies (is_channel (count_of r.head) p) _ (at p))
  where
    at : (p : ℕ) → is_channel (count_of r.head) p ≡ true → channel_sound (terms_of r.head) r.channels p ≡ true
    at p c =
        let i = p / 8 in
        let j = p % 8 in
        let f : i * 8 + j ≡ p = omega arith in
        let g : j < 8 = omega arith in
        let e : on_site (count_of r.head) i j ≡ true = rw (lt-ltb j 8 g, f) c in
        subst (λ (q : ℕ). channel_sound (terms_of r.head) r.channels q ≡ true) f
        (rw (le-leb _ _ (h i j e), ← channel-on r i j e) (k i j e))

-- A channel of the site stands at one of the 64 indices.
at-index : (count i j : ℕ) → count ≤ 8 → on_site count i j ≡ true → (channel_index i j < 64) × (is_channel count (channel_index i j) ≡ true)
at-index count i j h e =
    let b = between count i j e in
    (channel-index-lt count i j h b.from b.to, and_right (ltb j 8) (is_channel count (channel_index i j)) e)

pub parts : (r : Run) → is_sound r ≡ true → SoundRun r
parts r h =
    let m = sound-high _ _ h in
    record {
      edition = sound-edition _ _ h;
      fewest = sound-low _ _ h;
      most = m;
      records = sound-records _ _ h;
      events = λ i b. rw (zone-on r i b) (sound-events _ _ h i b);
      deps = λ i b. rw (zone-on r i b) (sound-deps _ _ h i b);
      lens = λ i j e. let p = at-index (count_of r.head) i j m e in sound-length _ _ h (channel_index i j) p.0 p.1;
      sets = λ i j e. let p = at-index (count_of r.head) i j m e in rw (channel-on r i j e) (sound-sets _ _ h (channel_index i j) p.0 p.1);
      cars = subst (λ (x : ℕ). x ≤ most_cars) (ap₂ ◌+◌ (stocks-are r) (cars-are r)) (sound-total _ _ h);
    }

pub sound : (r : Run) → SoundRun r → is_sound r ≡ true
unfolding parts_sound is_count
sound r h =
    rw (
      h.edition,
      le-leb _ _ h.fewest,
      le-leb _ _ h.most,
      le-leb _ _ h.records,
      zones-of r h.events h.deps,
      channels-of r h.lens h.sets,
      stocks-are r,
      cars-are r,
    ) (le-leb _ _ h.cars)
