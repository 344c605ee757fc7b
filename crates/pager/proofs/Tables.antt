-- The numbers by channel of the words of some items, when one word more joins them, and the most that they can be.
use mathlib.Core.Path.{◌≡◌, refl, sym, ◌∙◌, ap}
use mathlib.Core.Bool.{Bool, true, false}
use mathlib.Core.Logic.{◌≢◌, inl, inr}
use mathlib.Core.List.{List, [], ◌∷◌, ◌++◌, append-nil}
use Prim.Native.Nat.{ℕ, zero, suc, ◌+◌, ◌*◌, ◌/◌, ◌%◌, ◌<◌, ◌≤◌}
use native.Mathlib.Nat.{not-suc-le-zero}
use native.Mathlib.Omega.{arith}
use lib.Dec.{eqb}
use lib.ListN.{length, get_or, set, replicate, length-set, length-append}
use lib.Seq.{get_or-set_same, get_or-set_other, ext_get_or}
use borrow.Author.Tests.{ne_eqb}
use Rattle.rules.specs.Below.{list_below, sum}
use Rattle.rules.specs.Change.{cons-if}
use Rattle.rules.proofs.Lists.{All}
use Rattle.rules.proofs.Tests.{Same, same?, eqb_refl}
use Rattle.channel.specs.Channels.{channel_index}
use Rattle.run.proofs.BelowLaws.{length-below, list_at}
use Rattle.words.specs.Bytes.{word_at, words_from}
use Rattle.words.proofs.ByteLaws.{words-length, words-add}
use Rattle.recording.specs.Shown.{cars_shown}
use Rattle.recording.proofs.Shows.{cars-append}
use Rattle.pager.specs.InnerLines.{item_numbers, table_of}

-- A word by its position, of words that are all of items on channels.
pub on-channel : (bytes : List ℕ) (at n i : ℕ) → All (λ w. w / 256 < 64) (words_from bytes at n) → i < n → word_at bytes (at + 2 * i) / 256 < 64
on-channel bytes at zero i h b = absurd (not-suc-le-zero b)
on-channel bytes at (suc n) zero h b =
    let e : at + 2 * 0 ≡ at = omega arith in
    rw e h.0
on-channel bytes at (suc n) (suc i) h b =
    let e : at + 2 * suc i ≡ at + 2 + 2 * i = omega arith in
    rw e (on-channel bytes (at + 2) n i h.1 (omega arith))

-- The values of f below n, with that of g put at one place, are those of g, where f and g agree at all other places.
set_below : {A : Type 0} (n : ℕ) (f g : ℕ → A) (h : ℕ) → h < n → ((k : ℕ) → k ≢ h → f k ≡ g k) → set (list_below n f) h (g h) ≡ list_below n g
set_below n f g h b d =
    let size = length-set (list_below n f) h (g h) ∙ length-below n f in
    ext_get_or (f 0) (set (list_below n f) h (g h)) (list_below n g) (size ∙ sym (length-below n g))
    (λ k l. let c : k < n = omega (arith, size) in here k c (same? k h) ∙ sym (list_at n g (f 0) k c))
  where
    here : (k : ℕ) → k < n → Same k h → get_or (set (list_below n f) h (g h)) k (f 0) ≡ g k
    here k c (inl e) = rw e.0 (get_or-set_same (list_below n f) h (g h) (f 0) (omega (arith, length-below n f)))
    here k c (inr e) = get_or-set_other (list_below n f) h k (g h) (f 0) e.0 ∙ list_at n f (f 0) k c ∙ d k e.0

-- Functions that agree below n have the same values there.
same-below : {A : Type 0} (n : ℕ) (f g : ℕ → A) → ((k : ℕ) → k < n → f k ≡ g k) → list_below n f ≡ list_below n g
same-below zero f g h = refl
same-below (suc n) f g h = rw (same-below n f g (λ k b. h k (omega arith)), h n (omega arith))

-- One word more is an item more on the channel of its high byte alone.
cars-on : (w : ℕ) (ws : List ℕ) → cars_shown (w / 256) (ws ++ (w ∷ [])) ≡ cars_shown (w / 256) ws ++ (w % 256 ∷ [])
cars-on w ws = cars-append (w / 256) ws (w ∷ []) ∙ rw (eqb_refl (w / 256))

cars-off : (w k : ℕ) (ws : List ℕ) → k ≢ w / 256 → cars_shown k ws ≡ cars_shown k (ws ++ (w ∷ []))
cars-off w k ws d =
    sym (cars-append k ws (w ∷ []) ∙ rw (ne_eqb (w / 256) k (λ (e : w / 256 ≡ k). d (sym e))) (append-nil (cars_shown k ws)))

-- No channel has more items than there are words, and each is of at most 255 cars.
few-if : (b : Bool) (x n : ℕ) (xs : List ℕ) → x < 256 → (length xs ≤ n) × (sum xs ≤ 255 * n)
    → (length (cons-if b x xs) ≤ suc n) × (sum (cons-if b x xs) ≤ 255 * suc n)
few-if true x n xs h p = let (l, s) = p in (omega arith, omega arith)
few-if false x n xs h p = let (l, s) = p in (omega arith, omega arith)

cars-most : (k : ℕ) (ws : List ℕ) → (length (cars_shown k ws) ≤ length ws) × (sum (cars_shown k ws) ≤ 255 * length ws)
cars-most k [] = (omega arith, omega arith)
cars-most k (w ∷ ws) = few-if (eqb (w / 256) k) (w % 256) (length ws) (cars_shown k ws) (omega arith) (cars-most k ws)

sum-append : (xs ys : List ℕ) → sum (xs ++ ys) ≡ sum xs + sum ys
sum-append [] ys = omega arith
sum-append (x ∷ xs) ys = let q = sum-append xs ys in omega arith

-- The numbers of items: of no words, of each channel, and with one word more.
pub items-none : replicate 64 0 ≡ item_numbers []
unfolding item_numbers
items-none = refl

pub items_at_lem : (ws : List ℕ) (k : ℕ) → k < 64 → get_or (item_numbers ws) k 0 ≡ length (cars_shown k ws)
unfolding item_numbers
items_at_lem ws k b = list_at 64 (λ k. length (cars_shown k ws)) 0 k b

items_more : (w : ℕ) (ws : List ℕ) → w / 256 < 64
    → set (item_numbers ws) (w / 256) (get_or (item_numbers ws) (w / 256) 0 + 1) ≡ item_numbers (ws ++ (w ∷ []))
unfolding item_numbers
items_more w ws b =
    let e : get_or (item_numbers ws) (w / 256) 0 + 1 ≡ length (cars_shown (w / 256) (ws ++ (w ∷ []))) =
    omega (arith, items_at_lem ws (w / 256) b, ap length (cars-on w ws), length-append (cars_shown (w / 256) ws) (w % 256 ∷ [])) in
    ap (set (item_numbers ws) (w / 256)) e
    ∙ set_below 64 (λ k. length (cars_shown k ws)) (λ k. length (cars_shown k (ws ++ (w ∷ [])))) (w / 256) b
    (λ k d. ap length (cars-off w k ws d))

-- The table of cars: of no words, of each pair of zones, and with one word more.
abbrev row_of : List ℕ → ℕ → List ℕ
row_of ws i = list_below 8 (λ j. sum (cars_shown (channel_index i j) ws))

pub table_none : replicate 8 (replicate 8 0) ≡ table_of []
unfolding table_of
table_none = refl

row_at : (ws : List ℕ) (i : ℕ) → i < 8 → get_or (table_of ws) i [] ≡ row_of ws i
unfolding table_of
row_at ws i b = list_at 8 (row_of ws) [] i b

pub table_at : (ws : List ℕ) (i j : ℕ) → i < 8 → j < 8 → get_or (get_or (table_of ws) i []) j 0 ≡ sum (cars_shown (channel_index i j) ws)
table_at ws i j bi bj = ap (λ (r : List ℕ). get_or r j 0) (row_at ws i bi) ∙ list_at 8 (λ j. sum (cars_shown (channel_index i j) ws)) 0 j bj

module _ (w : ℕ) (ws : List ℕ) (b : w / 256 < 64) where
  abbrev from : ℕ
  from = w / 256 / 8

  abbrev to : ℕ
  to = w / 256 % 8

  abbrev more : List ℕ
  more = ws ++ (w ∷ [])

  sum-here : get_or (get_or (table_of ws) from []) to 0 + w % 256 ≡ sum (cars_shown (channel_index from to) more)
  sum-here =
      let e : channel_index from to ≡ w / 256 = omega arith in
      let q : cars_shown (channel_index from to) more ≡ cars_shown (channel_index from to) ws ++ (w % 256 ∷ []) = rw e (cars-on w ws) in
      omega (arith, table_at ws from to (omega arith) (omega arith), ap sum q, sum-append (cars_shown (channel_index from to) ws) (w % 256 ∷ []))

  row_here : set (get_or (table_of ws) from []) to (get_or (get_or (table_of ws) from []) to 0 + w % 256) ≡ row_of more from
  row_here =
      rw (sum-here, row_at ws from (omega arith))
      (set_below 8 (λ j. sum (cars_shown (channel_index from j) ws)) (λ j. sum (cars_shown (channel_index from j) more)) to (omega arith)
      (λ j d. ap sum (cars-off w (channel_index from j) ws (λ (e : channel_index from j ≡ w / 256). d (omega arith)))))

  table_more : set (table_of ws) from (set (get_or (table_of ws) from []) to (get_or (get_or (table_of ws) from []) to 0 + w % 256)) ≡ table_of more
  unfolding table_of
  table_more =
      ap (set (table_of ws) from) row_here
      ∙ set_below 8 (row_of ws) (row_of more) from (omega arith)
      (λ i d. same-below 8 (λ j. sum (cars_shown (channel_index i j) ws)) (λ j. sum (cars_shown (channel_index i j) more))
      (λ j c. ap sum (cars-off w (channel_index i j) ws (λ (e : channel_index i j ≡ w / 256). d (omega arith)))))

-- What a loop over the words asks of its round for the next word: a bound of what it adds to, and the numbers that it leaves.
module _ (bytes : List ℕ) (at i w : ℕ) (b : w / 256 < 64) where
  abbrev seen : List ℕ
  seen = words_from bytes at i

  next : w ≡ word_at bytes (at + 2 * i) → words_from bytes at (i + 1) ≡ seen ++ (w ∷ [])
  next e = words-add bytes at i 1 ∙ ap (λ (w : ℕ). seen ++ (w ∷ [])) (sym e)

  pub items-room : {items : List ℕ} → items ≡ item_numbers seen → get_or items (w / 256) 0 ≤ i
  items-room r = rw r (omega (arith, items_at_lem seen (w / 256) b, (cars-most (w / 256) seen).0, words-length bytes at i))

  pub items-next : {items : List ℕ} → w ≡ word_at bytes (at + 2 * i) → items ≡ item_numbers seen
      → set items (w / 256) (get_or items (w / 256) 0 + 1) ≡ item_numbers (words_from bytes at (i + 1))
  items-next e r = rw (r, next e) (items_more w seen b)

  pub table-room : {cars : List (List ℕ)} → cars ≡ table_of seen → get_or (get_or cars (w / 256 / 8) []) (w / 256 % 8) 0 ≤ 255 * i
  table-room r =
      let from = w / 256 / 8 in
      let to = w / 256 % 8 in
      rw r (omega (arith, table_at seen from to (omega arith) (omega arith), (cars-most (channel_index from to) seen).1, words-length bytes at i))

  pub table-next : {cars : List (List ℕ)} → w ≡ word_at bytes (at + 2 * i) → cars ≡ table_of seen
      → set cars (w / 256 / 8) (set (get_or cars (w / 256 / 8) []) (w / 256 % 8) (get_or (get_or cars (w / 256 / 8) []) (w / 256 % 8) 0 + w % 256))
      ≡ table_of (words_from bytes at (i + 1))
  table-next e r = rw (r, next e) (table_more w seen b)
