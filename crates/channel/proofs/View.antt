-- What the lists show as channels: the items and the length of each after an item joins or leaves one, and after requests to the
-- zones of a set.
use mathlib.Core.Path.{◌≡◌, refl, sym, ap, ap₂, ◌∙◌}
use mathlib.Core.Bool.{Bool, true, false, cond, ◌&&◌, and-false}
use mathlib.Core.List.{List, [], ◌∷◌, ◌++◌, map, tail, map-append}
use mathlib.Core.Logic.{◌≢◌, inl, inr}
use Prim.Native.Nat.{ℕ, zero, suc, ◌+◌, ◌-◌, ◌*◌, ◌/◌, ◌%◌, ◌<◌, ◌≤◌}
use native.Mathlib.Numerals.{add-one}
use native.Mathlib.Omega.{arith}
use lib.Dec.{leb, ltb, eqb}
use lib.ListN.{length, take, set, get_or, length-take, length-set, length-map, get_or-append}
use lib.Seq.{get_or-set_same, get_or-set_other, take-suc-set, take-append-le, get_or_at, get_or-take, drop-cons, ext_get_or}
use borrow.Author.Tests.{leb-true, leb-false, ltb-true, ltb-false, lt-ltb, le-ltb, le-leb, lt-leb, eqb-true, eqb-false, eq-eqb, ne_eqb}
use Rattle.rules.specs.Change.{on, join}
use Rattle.rules.specs.Sets.{has, nobody, members, members_below}
use Rattle.rules.specs.Site.{Item, message, request}
use Rattle.rules.proofs.Members.{members-zero}
use Rattle.rules.proofs.Tests.{and_left, and_right, Same, same?}
use Rattle.channel.specs.Words.{item_of, message_word, request_word}
use Rattle.channel.specs.Channels.{channels_as, Whole, Clean, channel_index, len_of, row, words_on, items_on, is_free, pushed, first_of, moved_down, popped, free_below, all_free, sent_each, requested_all}
use Rattle.channel.specs.declared.Channels.{Channels}
use Rattle.channel.proofs.Rows.{row-length, row_at, row-set, row_other, row-popped, row-popped-other, down-length}

-- Words: each stands for one item, and no two for the same.

pub item-message : (flag : Bool) (cars : ℕ) → cars < 256 → item_of (message_word flag cars) ≡ message cars flag
unfolding item_of message_word
item-message true cars h =
    let e : (256 + cars) % 256 ≡ cars = omega arith in
    rw (lt-ltb (256 + cars) 512 (omega arith), le-leb 256 (256 + cars) (omega arith), e)
item-message false cars h =
    let e : (0 + cars) % 256 ≡ cars = omega arith in
    rw (lt-ltb (0 + cars) 512 (omega arith), lt-leb 256 (0 + cars) (omega arith), e)

pub item-request : (set : ℕ) → item_of (request_word set) ≡ request set
unfolding item_of
item-request set =
    let e : 512 + set - 512 ≡ set = omega arith in
    rw (le-ltb (512 + set) 512 (omega arith), e)

abbrev word_of : Item → ℕ
word_of (message cars flag) = message_word flag cars
word_of (request set) = request_word set

word-item : (word : ℕ) → word_of (item_of word) ≡ word
unfolding item_of message_word
word-item word = go (ltb word 512) refl (leb 256 word) refl
  where
    go : (p : Bool) → ltb word 512 ≡ p → (q : Bool) → leb 256 word ≡ q → word_of (item_of word) ≡ word
    go true e true f =
        let h = ltb-true word 512 e in
        let g = leb-true 256 word f in
        rw (e, f) (omega arith)
    go true e false f = let g = leb-false 256 word f in rw (e, f) (omega arith)
    go false e q f = let g = ltb-false word 512 e in rw (e) (omega arith)

pub item-injective : (v w : ℕ) → item_of v ≡ item_of w → v ≡ w
item-injective v w e = sym (word-item v) ∙ ap word_of e ∙ word-item w

-- The indices of two channels are the same where both zones are.
pub channel-index-eq : (i j a b : ℕ) → j < 8 → b < 8 → eqb (channel_index i j) (channel_index a b) ≡ eqb i a && eqb j b
channel-index-eq i j a b hj hb = go (eqb i a) refl (eqb j b) refl
  where
    go : (p : Bool) → eqb i a ≡ p → (q : Bool) → eqb j b ≡ q → eqb (channel_index i j) (channel_index a b) ≡ p && q
    go true e true f =
        let g = eqb-true i a e in
        let h = eqb-true j b f in
        eq-eqb (channel_index i j) (channel_index a b) (omega arith)
    go true e false f =
        let g = eqb-true i a e in
        ne_eqb (channel_index i j) (channel_index a b) (λ (h : i * 8 + j ≡ a * 8 + b). eqb-false j b f (omega arith))
    go false e q f = ne_eqb (channel_index i j) (channel_index a b) (λ (h : i * 8 + j ≡ a * 8 + b). eqb-false i a e (omega arith))

-- One item more at the end of channel k, which has a free place.

push-full : (l : Channels) (k word : ℕ) → is_free l k ≡ false → pushed l k word ≡ l
unfolding pushed
push-full l k word f = rw (f)

-- What holds of the lists as they are and, where there is a place, of those with the word, holds after a push.
push-cases : (P : Channels → Type 0) (l : Channels) (k word : ℕ) → P l
    → (is_free l k ≡ true → P (channels_as (set l.items (k * 16 + len_of l k) word) (set l.lens k (len_of l k + 1)))) → P (pushed l k word)
unfolding pushed
push-cases P l k word full joined = go (is_free l k) refl
  where
    go : (t : Bool) → is_free l k ≡ t
        → P (cond t (channels_as (set l.items (k * 16 + len_of l k) word) (set l.lens k (len_of l k + 1))) l)
    go true e = joined e
    go false e = full

pub push-whole : (l : Channels) (k word : ℕ) → Whole l → Whole (pushed l k word)
push-whole l k word w =
    push-cases Whole l k word w
    (λ f. (length-set l.items (k * 16 + len_of l k) word ∙ w.0, length-set l.lens k (len_of l k + 1) ∙ w.1))

pub len-push-same : (l : Channels) (k word : ℕ) → Whole l → k < 64 → is_free l k ≡ true → len_of (pushed l k word) k ≡ len_of l k + 1
unfolding pushed
len-push-same l k word w b f = rw (f) (get_or-set_same l.lens k (len_of l k + 1) 0 (omega (arith, w.1)))

pub len-push-other : (l : Channels) (k j word : ℕ) → j ≢ k → len_of (pushed l k word) j ≡ len_of l j
len-push-other l k j word d =
    push-cases (λ c. len_of c j ≡ len_of l j) l k word refl (λ f. get_or-set_other l.lens k j (len_of l k + 1) 0 d)

row-push-same : (l : Channels) (k word : ℕ) → is_free l k ≡ true
    → row (pushed l k word).items k ≡ set (row l.items k) (len_of l k) word
unfolding pushed
row-push-same l k word f = rw (f) (row-set l.items k (len_of l k) word (ltb-true (len_of l k) 16 f))

row-push-other : (l : Channels) (k j word : ℕ) → j ≢ k → row (pushed l k word).items j ≡ row l.items j
row-push-other l k j word d =
    push-cases (λ c. row c.items j ≡ row l.items j) l k word refl
    (λ f. row_other l.items k j (len_of l k) word (ltb-true (len_of l k) 16 f) d)

pub items-push-same : (l : Channels) (k word : ℕ) → Whole l → k < 64 → is_free l k ≡ true
    → items_on (pushed l k word) k ≡ items_on l k ++ (item_of word ∷ [])
items-push-same l k word w b f = ap (map item_of) words ∙ map-append item_of (words_on l k) (word ∷ [])
  where
    words : words_on (pushed l k word) k ≡ words_on l k ++ (word ∷ [])
    words =
        let n = len_of l k in
        let h = ltb-true n 16 f in
        rw (len-push-same l k word w b f, row-push-same l k word f, add-one)
        (take-suc-set (row l.items k) n word (omega (arith, row-length l.items k w.0 b)))

pub items-push-other : (l : Channels) (k j word : ℕ) → j ≢ k → items_on (pushed l k word) j ≡ items_on l j
items-push-other l k j word d = rw (len-push-other l k j word d, row-push-other l k j word d)

-- The first item leaves channel k.

pub pop-whole : (l : Channels) (k : ℕ) → Whole l → Whole (popped l k)
unfolding popped
pop-whole l k w =
    (length-set (moved_down l.items (k * 16) 15) (k * 16 + 15) 0 ∙ down-length l.items (k * 16) 15 ∙ w.0, length-set l.lens k (len_of l k - 1) ∙ w.1)

pub len-pop-same : (l : Channels) (k : ℕ) → Whole l → k < 64 → len_of (popped l k) k ≡ len_of l k - 1
unfolding popped
len-pop-same l k w b = get_or-set_same l.lens k (len_of l k - 1) 0 (omega (arith, w.1))

pub len-pop-other : (l : Channels) (k j : ℕ) → j ≢ k → len_of (popped l k) j ≡ len_of l j
unfolding popped
len-pop-other l k j d = get_or-set_other l.lens k j (len_of l k - 1) 0 d

row-pop-same : (l : Channels) (k : ℕ) → Whole l → k < 64 → row (popped l k).items k ≡ tail (row l.items k) ++ (0 ∷ [])
unfolding popped
row-pop-same l k w b = row-popped l.items k w.0 b

row-pop-other : (l : Channels) (k j : ℕ) → j ≢ k → row (popped l k).items j ≡ row l.items j
unfolding popped
row-pop-other l k j d = row-popped-other l.items k j d

map_tail : (xs : List ℕ) → map item_of (tail xs) ≡ tail (map item_of xs)
map_tail [] = refl
map_tail (x ∷ xs) = refl

length-tail : (xs : List ℕ) → length (tail xs) ≡ length xs - 1
length-tail [] = refl
length-tail (x ∷ xs) = omega arith

get_d_tail : (xs : List ℕ) (p : ℕ) → get_or (tail xs) p 0 ≡ get_or xs (suc p) 0
get_d_tail [] p = refl
get_d_tail (x ∷ xs) p = refl

take-tail : (n : ℕ) (xs : List ℕ) → take n (tail xs) ≡ tail (take (suc n) xs)
take-tail zero [] = refl
take-tail (suc n) [] = refl
take-tail n (x ∷ xs) = refl

pub items-pop-same : (l : Channels) (k : ℕ) → Whole l → k < 64 → 0 < len_of l k → len_of l k ≤ 16
    → items_on (popped l k) k ≡ tail (items_on l k)
items-pop-same l k w b f g = ap (map item_of) words ∙ map_tail (words_on l k)
  where
    words : words_on (popped l k) k ≡ tail (words_on l k)
    words =
        let n = len_of l k in
        let r = row l.items k in
        let e : suc (n - 1) ≡ n = omega arith in
        rw (len-pop-same l k w b, row-pop-same l k w b)
        (take-append-le (n - 1) (tail r) (0 ∷ []) (omega (arith, row-length l.items k w.0 b, length-tail r))
        ∙ take-tail (n - 1) r ∙ ap (λ (m : ℕ). tail (take m r)) e)

pub items-pop-other : (l : Channels) (k j : ℕ) → j ≢ k → items_on (popped l k) j ≡ items_on l j
items-pop-other l k j d = rw (len-pop-other l k j d, row-pop-other l k j d)

-- The first item of a channel that is not empty, and the number of items.

pub items-first : (l : Channels) (k : ℕ) → Whole l → k < 64 → 0 < len_of l k
    → items_on l k ≡ item_of (first_of l k) ∷ tail (items_on l k)
items-first l k w b f =
    let e : len_of l k ≡ suc (len_of l k - 1) = omega arith in
    rw (e, drop-cons l.items (k * 16) 0 (omega (arith, w.0)))

pub items-length : (l : Channels) (k : ℕ) → Whole l → k < 64 → len_of l k ≤ 16 → length (items_on l k) ≡ len_of l k
items-length l k w b h =
    let r = row l.items k in
    length-map (words_on l k) item_of ∙ omega (arith, length-take (len_of l k) r, row-length l.items k w.0 b)

-- The places behind the last item hold 0, before and after.

-- Where only channel k changes, it is enough that it is clean.
clean-changed : (l m : Channels) (k : ℕ) → Clean l → ((p : ℕ) → k < 64 → p < 16 → len_of m k ≤ p → get_or m.items (k * 16 + p) 0 ≡ 0)
    → ((j : ℕ) → j ≢ k → (len_of m j ≡ len_of l j) × (row m.items j ≡ row l.items j)) → Clean m
clean-changed l m k h here others j p hj hp = go (same? j k)
  where
    go : Same j k → len_of m j ≤ p → get_or m.items (j * 16 + p) 0 ≡ 0
    go (inl (e, _)) = rw (e) (here p (omega arith) hp)
    go (inr (d, _)) = λ b.
        let o = others j d in
        sym (row_at m.items j p hp) ∙ ap (λ (xs : List ℕ). get_or xs p 0) o.1 ∙ row_at l.items j p hp
        ∙ h j p hj hp (omega (arith, o.0))

clean-pushed : (l : Channels) (k word p : ℕ) → Whole l → Clean l → is_free l k ≡ true
    → k < 64 → p < 16 → len_of (pushed l k word) k ≤ p → get_or (pushed l k word).items (k * 16 + p) 0 ≡ 0
clean-pushed l k word p w h f hk hp b =
    let n = len_of l k in
    let m : n + 1 ≤ p = omega (arith, len-push-same l k word w hk f) in
    sym (row_at (pushed l k word).items k p hp) ∙ ap (λ (xs : List ℕ). get_or xs p 0) (row-push-same l k word f)
    ∙ get_or-set_other (row l.items k) n p word 0 (λ (e : p ≡ n). omega arith) ∙ row_at l.items k p hp ∙ h k p hk hp (omega arith)

pub push-clean : (l : Channels) (k word : ℕ) → Whole l → Clean l → Clean (pushed l k word)
push-clean l k word w h = go (is_free l k) refl
  where
    go : (t : Bool) → is_free l k ≡ t → Clean (pushed l k word)
    go true f =
        clean-changed l (pushed l k word) k h (λ p. clean-pushed l k word p w h f)
        (λ j d. (len-push-other l k j word d, row-push-other l k j word d))
    go false f = rw (push-full l k word f) h

clean-popped : (l : Channels) (k p : ℕ) → Whole l → Clean l → k < 64 → p < 16 → len_of (popped l k) k ≤ p
    → get_or (popped l k).items (k * 16 + p) 0 ≡ 0
clean-popped l k p w h hk hp b =
    sym (row_at (popped l k).items k p hp) ∙ ap (λ (xs : List ℕ). get_or xs p 0) (row-pop-same l k w hk) ∙ go (ltb p 15) refl
  where
    r : List ℕ
    r = row l.items k

    long : length (tail r) ≡ 15
    long = omega (arith, length-tail r, row-length l.items k w.0 hk)

    go : (t : Bool) → ltb p 15 ≡ t → get_or (tail r ++ (0 ∷ [])) p 0 ≡ 0
    go true e =
        let q = ltb-true p 15 e in
        get_or-append (tail r) (0 ∷ []) 0 p (omega (arith, long)) ∙ get_d_tail r p ∙ row_at l.items k (suc p) (omega arith)
        ∙ h k (suc p) hk (omega arith) (omega (arith, len-pop-same l k w hk))
    go false e = let q = ltb-false p 15 e in get_or_at (tail r) 0 [] 0 p (omega (arith, long))

pub pop-clean : (l : Channels) (k : ℕ) → Whole l → Clean l → Clean (popped l k)
pop-clean l k w h =
    clean-changed l (popped l k) k h (λ p. clean-popped l k p w h) (λ j d. (len-pop-other l k j d, row-pop-other l k j d))

-- Equal contents are equal values.

words-items : (xs : List ℕ) → map word_of (map item_of xs) ≡ xs
words-items [] = refl
words-items (x ∷ xs) = ap₂ (λ (y : ℕ) (ys : List ℕ). y ∷ ys) (word-item x) (words-items xs)

module _ (l m : Channels) (wl : Whole l) (wm : Whole m) (cl : Clean l) (cm : Clean m)
    (same : (k : ℕ) → k < 64 → (len_of l k ≤ 16) × (len_of m k ≤ 16) × (items_on l k ≡ items_on m k)) where
  same_len : (k : ℕ) → k < 64 → len_of l k ≡ len_of m k
  same_len k h =
      let s = same k h in
      sym (items-length l k wl h s.0) ∙ ap length s.2 ∙ items-length m k wm h s.1

  same_word : (k p : ℕ) → k < 64 → p < 16 → get_or l.items (k * 16 + p) 0 ≡ get_or m.items (k * 16 + p) 0
  same_word k p h hp = go (ltb p (len_of l k)) refl
    where
      words : words_on l k ≡ words_on m k
      words = sym (words-items (words_on l k)) ∙ ap (map word_of) (same k h).2 ∙ words-items (words_on m k)

      read : (c : Channels) → p < len_of c k → get_or c.items (k * 16 + p) 0 ≡ get_or (words_on c k) p 0
      read c q = sym (row_at c.items k p hp) ∙ sym (get_or-take (len_of c k) (row c.items k) p 0 q)

      go : (t : Bool) → ltb p (len_of l k) ≡ t → get_or l.items (k * 16 + p) 0 ≡ get_or m.items (k * 16 + p) 0
      go true e =
          let q = ltb-true p (len_of l k) e in
          read l q ∙ ap (λ (xs : List ℕ). get_or xs p 0) words ∙ sym (read m (omega (arith, same_len k h)))
      go false e =
          let q = ltb-false p (len_of l k) e in
          cl k p h hp q ∙ sym (cm k p h hp (omega (arith, same_len k h)))

  pub same-contents : l ≡ m
  same-contents = ap₂ channels_as items lens
    where
      lens : l.lens ≡ m.lens
      lens = ext_get_or 0 l.lens m.lens (wl.1 ∙ sym wm.1) (λ k h. same_len k (omega (arith, wl.1)))

      items : l.items ≡ m.items
      items =
          ext_get_or 0 l.items m.items (wl.0 ∙ sym wm.0)
          (λ n h.
          let e : n ≡ n / 16 * 16 + n % 16 = omega arith in
          rw (e) (same_word (n / 16) (n % 16) (omega (arith, wl.0)) (omega arith)))

-- The same over all channels, by their zones: a change at the channel from a to b.

module _ {A : Type 0} (old new : ℕ → A) (change : A → A) (a b : ℕ) (hb : b < 8) where
  by-zones : new (channel_index a b) ≡ change (old (channel_index a b)) → ((k : ℕ) → k ≢ channel_index a b → new k ≡ old k)
      → (i j : ℕ) → j < 8 → new (channel_index i j) ≡ on (eqb i a && eqb j b) change (old (channel_index i j))
  by-zones same other i j hj = rw (← channel-index-eq i j a b hj hb) (go (eqb (channel_index i j) (channel_index a b)) refl)
    where
      go : (t : Bool) → eqb (channel_index i j) (channel_index a b) ≡ t → new (channel_index i j) ≡ on t change (old (channel_index i j))
      go true e = rw (eqb-true (channel_index i j) (channel_index a b) e) same
      go false e = other (channel_index i j) (eqb-false (channel_index i j) (channel_index a b) e)

module _ (l : Channels) (a b : ℕ) (w : Whole l) (ha : a < 8) (hb : b < 8) where
  pub items-pushed : (word : ℕ) → is_free l (channel_index a b) ≡ true → (i j : ℕ) → j < 8
      → items_on (pushed l (channel_index a b) word) (channel_index i j) ≡ on (eqb i a && eqb j b) (join (item_of word)) (items_on l (channel_index i j))
  items-pushed word f =
      let k = channel_index a b in
      by-zones (items_on l) (items_on (pushed l k word)) (join (item_of word)) a b hb (items-push-same l k word w (omega arith) f)
      (λ j d. items-push-other l k j word d)

  pub lens-pushed : (word : ℕ) → is_free l (channel_index a b) ≡ true → (i j : ℕ) → j < 8
      → len_of (pushed l (channel_index a b) word) (channel_index i j) ≡ on (eqb i a && eqb j b) (λ n. n + 1) (len_of l (channel_index i j))
  lens-pushed word f =
      let k = channel_index a b in
      by-zones (len_of l) (len_of (pushed l k word)) (λ n. n + 1) a b hb (len-push-same l k word w (omega arith) f)
      (λ j d. len-push-other l k j word d)

  pub items-popped : 0 < len_of l (channel_index a b) → len_of l (channel_index a b) ≤ 16 → (i j : ℕ) → j < 8
      → items_on (popped l (channel_index a b)) (channel_index i j) ≡ on (eqb i a && eqb j b) tail (items_on l (channel_index i j))
  items-popped f g =
      let k = channel_index a b in
      by-zones (items_on l) (items_on (popped l k)) tail a b hb (items-pop-same l k w (omega arith) f g) (λ j d. items-pop-other l k j d)

  pub lens-popped : (i j : ℕ) → j < 8
      → len_of (popped l (channel_index a b)) (channel_index i j) ≡ on (eqb i a && eqb j b) (λ n. n - 1) (len_of l (channel_index i j))
  lens-popped =
      let k = channel_index a b in
      by-zones (len_of l) (len_of (popped l k)) (λ n. n - 1) a b hb (len-pop-same l k w (omega arith)) (λ j d. len-pop-other l k j d)

-- A word on the channel to each zone of a set.

pub requested-nobody : (l : Channels) (from set : ℕ) → requested_all l from nobody set ≡ l
unfolding requested_all
requested-nobody l from set = rw (members-zero)

sent-whole : (ks : List ℕ) (l : Channels) (from word : ℕ) → Whole l → Whole (sent_each ks l from word)
sent-whole [] l from word w = w
sent-whole (k ∷ ks) l from word w =
    sent-whole ks (pushed l (channel_index from k) word) from word (push-whole l (channel_index from k) word w)

pub requested-whole : (l : Channels) (from to set : ℕ) → Whole l → Whole (requested_all l from to set)
unfolding requested_all
requested-whole l from to set w = sent-whole (members to) l from (request_word set) w

sent-clean : (ks : List ℕ) (l : Channels) (from word : ℕ) → Whole l → Clean l → Clean (sent_each ks l from word)
sent-clean [] l from word w h = h
sent-clean (k ∷ ks) l from word w h =
    let m = pushed l (channel_index from k) word in
    sent-clean ks m from word (push-whole l (channel_index from k) word w) (push-clean l (channel_index from k) word w h)

pub requested-clean : (l : Channels) (from to set : ℕ) → Whole l → Clean l → Clean (requested_all l from to set)
unfolding requested_all
requested-clean l from to set w h = sent-clean (members to) l from (request_word set) w h

sent-append : (xs ys : List ℕ) (l : Channels) (from word : ℕ)
    → sent_each (xs ++ ys) l from word ≡ sent_each ys (sent_each xs l from word) from word
sent-append [] ys l from word = refl
sent-append (k ∷ xs) ys l from word = sent-append xs ys (pushed l (channel_index from k) word) from word

next : (j n : ℕ) → j ≢ n → ltb j (suc n) ≡ ltb j n
next j n d = go (ltb j n) refl
  where
    go : (t : Bool) → ltb j n ≡ t → ltb j (suc n) ≡ t
    go true e = let h = ltb-true j n e in lt-ltb j (suc n) (omega arith)
    go false e = let h = ltb-false j n e in le-ltb j (suc n) (omega arith)

module _ (l : Channels) (from to word : ℕ) where
  -- The channels when the zones below n have got theirs.
  abbrev after : ℕ → Channels
  after n = sent_each (members_below n to) l from word

  after-in : (n : ℕ) → has to n ≡ true → after (suc n) ≡ pushed (after n) (channel_index from n) word
  after-in n e = rw (e) (sent-append (members_below n to) (n ∷ []) l from word)

  after-out : (n : ℕ) → has to n ≡ false → after (suc n) ≡ after n
  after-out n e = rw (e) (sent-append (members_below n to) [] l from word)

  -- Every channel but those to the zones below n is as long as it was.
  after-other : (n k : ℕ) → ((m : ℕ) → m < n → k ≢ channel_index from m) → len_of (after n) k ≡ len_of l k
  after-other zero k d = refl
  after-other (suc n) k d = go (after-other n k (λ m h. d m (omega arith))) (has to n) refl
    where
      go : len_of (after n) k ≡ len_of l k → (t : Bool) → has to n ≡ t → len_of (after (suc n)) k ≡ len_of l k
      go more true e =
          ap (λ (c : Channels). len_of c k) (after-in n e) ∙ len-push-other (after n) (channel_index from n) k word (d n (omega arith)) ∙ more
      go more false e = ap (λ (c : Channels). len_of c k) (after-out n e) ∙ more

  after-above : (n m : ℕ) → n ≤ m → len_of (after n) (channel_index from m) ≡ len_of l (channel_index from m)
  after-above n m h = after-other n (channel_index from m) (λ j b (f : from * 8 + m ≡ from * 8 + j). omega arith)

  module _ (w : Whole l) {A : Type 0} (view : Channels → ℕ → A) (change : A → A)
      (law : (c : Channels) (b : ℕ) → Whole c → b < 8 → is_free c (channel_index from b) ≡ true → (i j : ℕ) → j < 8
      → view (pushed c (channel_index from b) word) (channel_index i j) ≡ on (eqb i from && eqb j b) change (view c (channel_index i j))) where
    after-view : (n : ℕ) → n ≤ 8 → free_below n l from to ≡ true → (i j : ℕ) → j < 8
        → view (after n) (channel_index i j) ≡ on (eqb i from && (ltb j n && has to j)) change (view l (channel_index i j))
    after-view zero h f i j hj = rw (le-ltb j 0 (omega arith), and-false (eqb i from))
    after-view (suc n) h f i j hj = go (after-view n (omega arith) below i j hj) (has to n) refl (eqb j n) refl
      where
        below : free_below n l from to ≡ true
        below = and_left (free_below n l from to) _ f

        free : has to n ≡ true → is_free (after n) (channel_index from n) ≡ true
        free e = ap (λ (m : ℕ). ltb m 16) (after-above n n (omega arith)) ∙ (rw (e) at (and_right (free_below n l from to) _ f))

        go : view (after n) (channel_index i j) ≡ on (eqb i from && (ltb j n && has to j)) change (view l (channel_index i j))
            → (t : Bool) → has to n ≡ t → (s : Bool) → eqb j n ≡ s
            → view (after (suc n)) (channel_index i j) ≡ on (eqb i from && (ltb j (suc n) && has to j)) change (view l (channel_index i j))
        go more true e true g =
            let d = eqb-true j n g in
            let kept : view (after n) (channel_index i j) ≡ view l (channel_index i j) = more ∙ rw (le-ltb j n (omega arith), and-false (eqb i from)) in
            ap (λ (c : Channels). view c (channel_index i j)) (after-in n e)
            ∙ law (after n) n (sent-whole (members_below n to) l from word w) (omega arith) (free e) i j hj
            ∙ rw (g, kept, lt-ltb j (suc n) (omega arith), d, e)
        go more true e false g =
            ap (λ (c : Channels). view c (channel_index i j)) (after-in n e)
            ∙ law (after n) n (sent-whole (members_below n to) l from word w) (omega arith) (free e) i j hj
            ∙ rw (g, and-false (eqb i from), next j n (eqb-false j n g)) more
        go more false e true g =
            let d : has to j ≡ false = ap (has to) (eqb-true j n g) ∙ e in
            ap (λ (c : Channels). view c (channel_index i j)) (after-out n e) ∙ more
            ∙ rw (d, and-false (ltb j n), and-false (ltb j (suc n)))
        go more false e false g =
            ap (λ (c : Channels). view c (channel_index i j)) (after-out n e) ∙ rw (next j n (eqb-false j n g)) more

-- The channels of every other sender are as long as they were, whatever state they are in.
pub requested-other : (l : Channels) (from to set i j : ℕ) → i ≢ from → j < 8
    → len_of (requested_all l from to set) (channel_index i j) ≡ len_of l (channel_index i j)
unfolding requested_all members
requested-other l from to set i j d h =
    after-other l from to (request_word set) 8 (channel_index i j) (λ m b (f : i * 8 + j ≡ from * 8 + m). d (omega arith))

module _ (l : Channels) (from to set : ℕ) (w : Whole l) (h : from < 8) (f : all_free l from to ≡ true) where
  pub requested-items : (i j : ℕ) → j < 8
      → items_on (requested_all l from to set) (channel_index i j) ≡ on (eqb i from && has to j) (join (request set)) (items_on l (channel_index i j))
  unfolding requested_all all_free members
  requested-items i j hj =
      after-view l from to (request_word set) w items_on (join (item_of (request_word set)))
      (λ c b wc hb fb. items-pushed c from b wc h hb (request_word set) fb) 8 (omega arith) f i j hj
      ∙ rw (lt-ltb j 8 hj, item-request set)

  pub requested-lens : (i j : ℕ) → j < 8
      → len_of (requested_all l from to set) (channel_index i j) ≡ on (eqb i from && has to j) (λ n. n + 1) (len_of l (channel_index i j))
  unfolding requested_all all_free members
  requested-lens i j hj =
      after-view l from to (request_word set) w len_of (λ n. n + 1)
      (λ c b wc hb fb. lens-pushed c from b wc h hb (request_word set) fb) 8 (omega arith) f i j hj
      ∙ rw (lt-ltb j 8 hj)
