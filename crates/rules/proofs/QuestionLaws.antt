-- What a yes to a question says of the numbers.
use mathlib.Core.Path.{◌≡◌}
use mathlib.Core.Bool.{true}
use Prim.Native.Nat.{ℕ, ◌≤◌}
use lib.Dec.{leb}
use borrow.Author.Tests.{leb-true}
use Rattle.rules.specs.Questions.{is_count, is_on}
use Rattle.rules.proofs.Tests.{and_left, and_right}

pub count_low : (count : ℕ) → is_count count ≡ true → 2 ≤ count
unfolding is_count
count_low count e = leb-true 2 count (and_left (leb 2 count) (leb count 8) e)

pub count-high : (count : ℕ) → is_count count ≡ true → count ≤ 8
unfolding is_count
count-high count e = leb-true count 8 (and_right (leb 2 count) (leb count 8) e)

pub on-low : (count zone : ℕ) → is_on count zone ≡ true → 1 ≤ zone
unfolding is_on
on-low count zone e = leb-true 1 zone (and_left (leb 1 zone) (leb zone count) e)

pub on-high : (count zone : ℕ) → is_on count zone ≡ true → zone ≤ count
unfolding is_on
on-high count zone e = leb-true zone count (and_right (leb 1 zone) (leb zone count) e)
