-- Stocks: how many pass question 3, their sum, also one step longer, and a list of 8 by its indices.
use mathlib.Core.Path.{◌≡◌, refl, sym, ◌∙◌, ap}
use mathlib.Core.Bool.{◌||◌}
use mathlib.Core.List.{List, [], ◌∷◌}
use Prim.Native.Nat.{ℕ, zero, suc, ◌+◌, ◌≤◌}
use native.Mathlib.Omega.{arith}
use borrow.Author.Tests.{ne_eqb}
use lib.Dec.{eqb}
use lib.ListN.{length, get_or, take}
use lib.Seq.{ext_get_or, take_all}
use Rattle.std.specs.List as library
use Rattle.std.proofs.lemmas.List.Recursion.{is_sum_by}
use Rattle.rules.specs.Below.{list_below, sum}
use Rattle.run.specs.Opening.{is_stock_list}
use Rattle.run.proofs.BelowLaws.{list_at}

-- The test of question 3 on a list's length.
pub stock-list : (count : ℕ) (stocks : List ℕ) → eqb (length stocks) 0 || eqb (length stocks) count ≡ is_stock_list count stocks
stock-list count [] = refl
stock-list count (stock ∷ stocks) = rw (ne_eqb (length (stock ∷ stocks)) 0 (λ e. omega arith)) refl

-- One stock more; behind the end there is 0.
pub sum_more : (xs : List ℕ) (i : ℕ) → sum (take (suc i) xs) ≡ sum (take i xs) + get_or xs i 0
sum_more [] zero = refl
sum_more [] (suc i) = refl
sum_more (x ∷ xs) zero = omega arith
sum_more (x ∷ xs) (suc i) = let h = sum_more xs i in omega arith

-- Behind the end a step adds nothing.
pub sum-end : (xs : List ℕ) (i : ℕ) → length xs ≤ i → sum (take (suc i) xs) ≡ sum (take i xs)
sum-end xs i h = ap sum (take_all (suc i) xs (omega arith) ∙ sym (take_all i xs h))

-- The sum of the rules is that of the library.
pub is_sum : (xs : List ℕ) → sum xs ≡ library.sum xs
is_sum xs = is_sum_by sum (λ x. x) refl (λ x xs. refl) xs

-- A list of 8 stocks is the list of what stands at its indices.
pub all-indices : (xs : List ℕ) → length xs ≡ 8 → xs ≡ list_below 8 (λ i. get_or xs i 0)
all-indices xs e =
    ext_get_or 0 xs (list_below 8 (λ i. get_or xs i 0)) e (λ j h. sym (list_at 8 (λ i. get_or xs i 0) 0 j (omega arith)))
