-- What the bytes of a recording show, added up: the stocks, and the cars of the words of items, which are their low bytes.
use mathlib.Core.Path.{◌≡◌, refl, ap}
use mathlib.Core.List.{List}
use Prim.Native.Nat.{ℕ, zero, suc, ◌+◌, ◌*◌, ◌%◌, ◌<◌, ◌≤◌}
use native.Mathlib.Numerals.{add-one}
use native.Mathlib.Omega.{arith}
use lib.ListN.{get_or}
use Rattle.words.specs.Bytes.{word_at, words_from}
use Rattle.rules.specs.Below.{sum_below}
use Rattle.recording.specs.Shown.{stock_word}
use Rattle.recording.specs.InnerTotal.{word_cars}

word-cars-more : (bytes : List ℕ) (at n : ℕ)
    → word_cars (words_from bytes at (suc n)) ≡ word_cars (words_from bytes at n) + word_at bytes (at + 2 * n) % 256
word-cars-more bytes at zero =
    let e : at ≡ at + 2 * 0 = omega arith in
    let q = ap (λ (i : ℕ). word_at bytes i % 256) e in
    omega arith
word-cars-more bytes at (suc n) =
    let h = word-cars-more bytes (at + 2) n in
    let e : at + 2 + 2 * n ≡ at + 2 * suc n = omega arith in
    let q = ap (λ (i : ℕ). word_at bytes i % 256) e in
    omega arith

pub cars-next : (bytes : List ℕ) (at k : ℕ) {cars : ℕ} → cars ≡ word_cars (words_from bytes at k) → get_or bytes (at + 2 * k + 1) 0 < 256
    → cars + get_or bytes (at + 2 * k + 1) 0 ≡ word_cars (words_from bytes at (k + 1))
cars-next bytes at k e h =
    let q : word_at bytes (at + 2 * k) % 256 ≡ get_or bytes (at + 2 * k + 1) 0 = omega arith in
    let m = word-cars-more bytes at k in
    let p = ap (λ (n : ℕ). word_cars (words_from bytes at n)) (add-one k) in
    omega arith

-- They are bytes.
module _ (bytes : List ℕ) (b : (i : ℕ) → get_or bytes i 0 < 256) where
  pub stocks-few : (n : ℕ) → sum_below n (stock_word bytes) ≤ 65535 * n
  stocks-few zero = omega arith
  stocks-few (suc n) = omega (arith, stocks-few n, b (4 + 4 * n), b (4 + 4 * n + 1))

  pub cars-are : (at n : ℕ) → sum_below n (λ k. get_or bytes (at + 2 * k + 1) 0) ≡ word_cars (words_from bytes at n)
  cars-are at zero = refl
  cars-are at (suc n) = omega (arith, cars-are at n, word-cars-more bytes at n, b (at + 2 * n + 1))

  pub cars-few : (at n : ℕ) → sum_below n (λ k. get_or bytes (at + 2 * k + 1) 0) ≤ 255 * n
  cars-few at zero = omega arith
  cars-few at (suc n) = omega (arith, cars-few at n, b (at + 2 * n + 1))
