-- The 16 places of one channel in the list of all: what a write and a move down there do to them and to the others.
use mathlib.Core.Path.{◌≡◌, refl, sym, ap, ◌∙◌}
use mathlib.Core.List.{List, [], ◌∷◌, ◌++◌, tail}
use mathlib.Core.Logic.{◌≢◌, ⊎_elim}
use Prim.Native.Nat.{ℕ, zero, suc, ◌+◌, ◌-◌, ◌*◌, ◌<◌, ◌≤◌}
use native.Mathlib.Nat.{eq-or-lt_of_le}
use native.Mathlib.Omega.{arith}
use lib.ListN.{length, take, drop, set, get_or, length-take, length-drop, length-set}
use lib.Seq.{take-set-le, drop-set-lt, take-set-lt, drop-set-add, get_or-take, get_or-drop}
use Rattle.rules.proofs.Tests.{below?}
use Rattle.channel.specs.Channels.{row, moved_down}

pub row-length : (xs : List ℕ) (k : ℕ) → length xs ≡ 1024 → k < 64 → length (row xs k) ≡ 16
row-length xs k h b = omega (arith, length-take 16 (drop (k * 16) xs), length-drop (k * 16) xs)

pub row_at : (xs : List ℕ) (k p : ℕ) → p < 16 → get_or (row xs k) p 0 ≡ get_or xs (k * 16 + p) 0
row_at xs k p h = get_or-take 16 (drop (k * 16) xs) p 0 h ∙ get_or-drop (k * 16) xs p 0

-- A write into row k is a write into it, and leaves every other row.
pub row-set : (xs : List ℕ) (k n x : ℕ) → n < 16 → row (set xs (k * 16 + n) x) k ≡ set (row xs k) n x
row-set xs k n x h = ap (take 16) (drop-set-add (k * 16) xs n x) ∙ take-set-lt 16 (drop (k * 16) xs) n x h

pub row_other : (xs : List ℕ) (k j n x : ℕ) → n < 16 → j ≢ k → row (set xs (k * 16 + n) x) j ≡ row xs j
row_other xs k j n x h d = ⊎_elim below (λ (q : k ≤ j). ⊎_elim (λ (e : k ≡ j). absurd (d (sym e))) above (eq-or-lt_of_le q)) (below? j k)
  where
    below : j < k → row (set xs (k * 16 + n) x) j ≡ row xs j
    below b =
        let m = k * 16 + n - j * 16 in
        let e : k * 16 + n ≡ j * 16 + m = omega arith in
        ap (λ (i : ℕ). row (set xs i x) j) e ∙ ap (take 16) (drop-set-add (j * 16) xs m x)
        ∙ take-set-le 16 (drop (j * 16) xs) m x (omega arith)

    above : k < j → row (set xs (k * 16 + n) x) j ≡ row xs j
    above b = ap (take 16) (drop-set-lt (j * 16) xs (k * 16 + n) x (omega arith))

-- So is a move down inside row k.
row-down : (xs : List ℕ) (k m n : ℕ) → m + n < 16 → row (moved_down xs (k * 16 + m) n) k ≡ moved_down (row xs k) m n
unfolding moved_down
row-down xs k m zero h = refl
row-down xs k m (suc n) h =
    let y = get_or xs (suc (k * 16 + m)) 0 in
    let e : suc (k * 16 + m) ≡ k * 16 + suc m = omega arith in
    let g : get_or (row xs k) (suc m) 0 ≡ y = row_at xs k (suc m) (omega arith) ∙ ap (λ (i : ℕ). get_or xs i 0) (sym e) in
    ap (λ (i : ℕ). row (moved_down (set xs (k * 16 + m) y) i n) k) e
    ∙ row-down (set xs (k * 16 + m) y) k (suc m) n (omega arith)
    ∙ ap (λ (r : List ℕ). moved_down r (suc m) n) (row-set xs k m y (omega arith) ∙ ap (set (row xs k) m) (sym g))

row-down-other : (xs : List ℕ) (k j m n : ℕ) → m + n < 16 → j ≢ k → row (moved_down xs (k * 16 + m) n) j ≡ row xs j
unfolding moved_down
row-down-other xs k j m zero h d = refl
row-down-other xs k j m (suc n) h d =
    let y = get_or xs (suc (k * 16 + m)) 0 in
    let e : suc (k * 16 + m) ≡ k * 16 + suc m = omega arith in
    ap (λ (i : ℕ). row (moved_down (set xs (k * 16 + m) y) i n) j) e
    ∙ row-down-other (set xs (k * 16 + m) y) k j (suc m) n (omega arith) d ∙ row_other xs k j m y (omega arith) d

pub down-length : (xs : List ℕ) (j n : ℕ) → length (moved_down xs j n) ≡ length xs
unfolding moved_down
down-length xs j zero = refl
down-length xs j (suc n) = down-length (set xs j (get_or xs (suc j) 0)) (suc j) n ∙ length-set xs j (get_or xs (suc j) 0)

-- A whole list moved down, and its last place filled.
under : (x : ℕ) (xs : List ℕ) (j n : ℕ) → moved_down (x ∷ xs) (suc j) n ≡ x ∷ moved_down xs j n
unfolding moved_down
under x xs j zero = refl
under x xs j (suc n) = under x (set xs j (get_or xs (suc j) 0)) (suc j) n

at_front : (xs : List ℕ) (n : ℕ) → length xs ≡ suc n → set (moved_down xs zero n) n 0 ≡ tail xs ++ (0 ∷ [])
unfolding moved_down
at_front [] n h = absurd (omega arith)
at_front (x ∷ []) zero h = refl
at_front (x ∷ y ∷ ys) zero h = absurd (omega arith)
at_front (x ∷ []) (suc n) h = absurd (omega arith)
at_front (x ∷ y ∷ ys) (suc n) h =
    ap (λ (l : List ℕ). set l (suc n) 0) (under y (y ∷ ys) zero n) ∙ ap (λ (l : List ℕ). y ∷ l) (at_front (y ∷ ys) n (omega arith))

-- Row k without its first place, and a 0 at its end; the other rows.
from_start : (xs : List ℕ) (k : ℕ) → moved_down xs (k * 16) 15 ≡ moved_down xs (k * 16 + 0) 15
from_start xs k = ap (λ (i : ℕ). moved_down xs i 15) (omega arith)

pub row-popped : (xs : List ℕ) (k : ℕ) → length xs ≡ 1024 → k < 64
    → row (set (moved_down xs (k * 16) 15) (k * 16 + 15) 0) k ≡ tail (row xs k) ++ (0 ∷ [])
row-popped xs k h b =
    row-set (moved_down xs (k * 16) 15) k 15 0 (omega arith)
    ∙ ap (λ (r : List ℕ). set r 15 0) (ap (λ (ys : List ℕ). row ys k) (from_start xs k) ∙ row-down xs k 0 15 (omega arith))
    ∙ at_front (row xs k) 15 (row-length xs k h b)

pub row-popped-other : (xs : List ℕ) (k j : ℕ) → j ≢ k → row (set (moved_down xs (k * 16) 15) (k * 16 + 15) 0) j ≡ row xs j
row-popped-other xs k j d =
    row_other (moved_down xs (k * 16) 15) k j 15 0 (omega arith) d
    ∙ ap (λ (ys : List ℕ). row ys j) (from_start xs k) ∙ row-down-other xs k j 0 15 (omega arith) d
