-- Whether a channel holds a request, by its words, and by them one after another.
use mathlib.Core.Path.{◌≡◌, refl, sym, ◌∙◌, ap}
use Rattle.std.specs.List.{list_any}
use mathlib.Core.Bool.{Bool, true, false, ◌||◌, not}
use mathlib.Core.List.{List, [], ◌∷◌, map}
use Prim.Native.Nat.{ℕ, zero, suc, ◌+◌, ◌*◌, ◌<◌, min, ◌≤◌}
use native.Mathlib.Numerals.{add-one}
use native.Mathlib.Omega.{arith}
use lib.Dec.{leb, ltb}
use lib.ListN.{get_or, take, drop, length-take}
use lib.Seq.{get_or-take, get_or-drop, take_all}
use Rattle.std.proofs.lemmas.List.{take-take}
use borrow.Author.Tests.{le-leb, lt-leb, ltb-true, ltb-false}
use Rattle.rules.specs.Site.{Item, waits}
use Rattle.channel.specs.Words.{item_of}
use Rattle.channel.specs.Channels.{words_on, len_of, row, items_on, is_channel}
use Rattle.channel.specs.declared.Channels.{Channels}
use Rattle.recorder.specs.InnerWords.{quiet_at}

-- A request is a word of 512 or more.
waits-first : (w : ℕ) (xs : List Item) → waits (item_of w ∷ xs) ≡ (leb 512 w || waits xs)
unfolding item_of
waits-first w xs = go (ltb w 512) refl
  where
    go : (b : Bool) → ltb w 512 ≡ b → waits (item_of w ∷ xs) ≡ (leb 512 w || waits xs)
    go true e = rw (e, lt-leb 512 w (ltb-true w 512 e))
    go false e = rw (e, le-leb 512 w (ltb-false w 512 e))

pub waits-any : (ws : List ℕ) → list_any (λ w. leb 512 w) ws ≡ waits (map item_of ws)
waits-any [] = refl
waits-any (w ∷ ws) = ap (λ (b : Bool). leb 512 w || b) (waits-any ws) ∙ sym (waits-first w (map item_of ws))

or-false : (b : Bool) → (b || false) ≡ b
or-false true = refl
or-false false = refl

or_assoc : (a b c : Bool) → (a || (b || c)) ≡ ((a || b) || c)
or_assoc true b c = refl
or_assoc false b c = refl

more : (ws : List ℕ) (p : ℕ) → waits (map item_of (take (suc p) ws)) ≡ (waits (map item_of (take p ws)) || leb 512 (get_or ws p 0))
more [] zero = refl
more [] (suc p) = refl
more (w ∷ ws) zero = waits-first w [] ∙ or-false (leb 512 w)
more (w ∷ ws) (suc p) =
    waits-first w (map item_of (take (suc p) ws)) ∙ ap (λ (b : Bool). leb 512 w || b) (more ws p)
    ∙ or_assoc (leb 512 w) (waits (map item_of (take p ws))) (leb 512 (get_or ws p 0))
    ∙ ap (λ (b : Bool). b || leb 512 (get_or ws p 0)) (sym (waits-first w (map item_of (take p ws))))

-- One place more of a channel, before its end.
module _ (l : Channels) (k p n : ℕ) (e : n ≡ min (len_of l k) 16) (h : p < n) where
  looked : get_or l.items (k * 16 + p) 0 ≡ get_or (words_on l k) p 0
  looked =
      sym (get_or-take (len_of l k) (row l.items k) p 0 (omega arith) ∙ get_or-take 16 (drop (k * 16) l.items) p 0 (omega arith)
      ∙ get_or-drop (k * 16) l.items p 0)

  pub waits-more : (b : Bool) → b ≡ waits (map item_of (take p (words_on l k)))
      → (b || leb 512 (get_or l.items (k * 16 + p) 0)) ≡ waits (map item_of (take (p + 1) (words_on l k)))
  waits-more b q = rw (add-one p, more (words_on l k) p, q, looked)

-- All places are passed.
pub waits-all : (l : Channels) (k p n : ℕ) → n ≡ min (len_of l k) 16 → n ≤ p → take p (words_on l k) ≡ words_on l k
waits-all l k p n e h =
    take_all p (words_on l k) (omega (arith, length-take (len_of l k) (row l.items k), length-take 16 (drop (k * 16) l.items)))

-- The words that are looked at.
pub looked_words : (l : Channels) (k n : ℕ) → n ≡ min (len_of l k) 16 → take n (drop (k * 16) l.items) ≡ words_on l k
looked_words l k n e =
    sym (take-take n 16 (drop (k * 16) l.items) (omega arith))
    ∙ sym (take-take n (len_of l k) (row l.items k) (omega arith))
    ∙ waits-all l k n n e (omega arith)

-- An index without a channel of the site, an empty channel, and one that is looked at.
pub quiet-empty : (count : ℕ) (l : Channels) (k : ℕ) → len_of l k ≡ 0 → true ≡ quiet_at count l k
quiet-empty count l k e = rw e (or-true (is_channel count k))
  where
    or-true : (b : Bool) → true ≡ (not b || true)
    or-true true = refl
    or-true false = refl

pub quiet_none : (count : ℕ) (l : Channels) (k : ℕ) → is_channel count k ≡ false → true ≡ quiet_at count l k
quiet_none count l k e = rw e

pub quiet-looked : (count : ℕ) (l : Channels) (k : ℕ) (b : Bool) → is_channel count k ≡ true → b ≡ waits (items_on l k) → not b ≡ quiet_at count l k
quiet-looked count l k b e q = rw (e, q)
