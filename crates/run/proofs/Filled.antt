-- An empty list of stocks means as many zeros as zones: the opening with the one is the opening with the other.
use mathlib.Core.Path.{◌≡◌, refl, sym, ◌∙◌, ap, subst}
use mathlib.Core.Bool.{true}
use mathlib.Core.Logic.{◌≢◌}
use mathlib.Core.List.{List, [], ◌∷◌}
use Prim.Native.Nat.{ℕ, ◌<◌, ◌≤◌}
use native.Mathlib.Omega.{arith}
use lib.ListN.{length, get_or, replicate, length-replicate}
use borrow.Author.Tests.{eqb-true, eq-eqb, ne_eqb}
use Rattle.rules.specs.Below.{sum, sum_below, list_below}
use Rattle.rules.specs.Edition.{is_edition}
use Rattle.rules.specs.Limits.{most_zones, most_cars}
use Rattle.rules.specs.Questions.{is_count}
use Rattle.rules.specs.Zone.{opened}
use Rattle.run.specs.Claims.{filled_list, filled}
use Rattle.run.specs.Opening.{opening_as, stock_at, opening_of, first_run, opened_run, is_stock_list, unopened, open_call}
use Rattle.run.specs.State.{head_as, no_local, zone_at}
use Rattle.run.specs.Answer.{Answer}
use Rattle.run.specs.declared.Opening.{Opening}
use Rattle.run.specs.declared.Terms.{Terms}
use Rattle.run.proofs.BelowLaws.{none-at, sum_zeros, sum-list, list_at}

-- The list that is meant has a stock for each zone.
pub list-filled : (o : Opening) → is_stock_list o.terms.count o.stocks ≡ true → length (filled o).stocks ≡ o.terms.count
list-filled o e = go o.stocks e
  where
    go : (stocks : List ℕ) → is_stock_list o.terms.count stocks ≡ true → length (filled_list o.terms.count stocks) ≡ o.terms.count
    go [] e = length-replicate {A = ℕ} o.terms.count 0
    go (stock ∷ stocks) e = eqb-true (length (stock ∷ stocks)) o.terms.count e

-- The stock at each index is the same, and so is the sum.
pub stocks-filled : (o : Opening) → stock_at (filled o) ≡ stock_at o
stocks-filled o = λ x i. at o.stocks i x
  where
    at : (stocks : List ℕ) (i : ℕ) → get_or (filled_list o.terms.count stocks) i 0 ≡ get_or stocks i 0
    at [] i = none-at o.terms.count i
    at (stock ∷ stocks) i = refl

pub sum-filled : (o : Opening) → sum (filled o).stocks ≡ sum o.stocks
sum-filled o = go o.stocks
  where
    go : (stocks : List ℕ) → sum (filled_list o.terms.count stocks) ≡ sum stocks
    go [] = sum_zeros o.terms.count
    go (stock ∷ stocks) = refl

pub cars-filled : (o : Opening) → sum o.stocks ≤ most_cars → sum (filled o).stocks ≤ most_cars
cars-filled o h = subst (λ (n : ℕ). n ≤ most_cars) (sym (sum-filled o)) h

-- The stocks of the zones together are those of the list.
pub stocks-sum : (o : Opening) → is_stock_list o.terms.count o.stocks ≡ true → sum_below o.terms.count (stock_at o) ≡ sum o.stocks
stocks-sum o e =
    ap (sum_below o.terms.count) (sym (stocks-filled o))
    ∙ subst (λ (n : ℕ). sum_below n (stock_at (filled o)) ≡ sum (filled o).stocks) (list-filled o e) (sum-list (filled o).stocks)
    ∙ sum-filled o

-- There are no more stocks than zones.
pub short-list : (count : ℕ) (stocks : List ℕ) → is_stock_list count stocks ≡ true → length stocks ≤ count
short-list count [] e = omega arith
short-list count (stock ∷ stocks) e = let h = eqb-true (length (stock ∷ stocks)) count e in omega arith

-- As many stocks as zones pass question 3; what is meant is answered as the list is.
pub full-list : (count : ℕ) (stocks : List ℕ) → length stocks ≡ count → is_stock_list count stocks ≡ true
full-list count [] e = refl
full-list count (stock ∷ stocks) e = eq-eqb (length (stock ∷ stocks)) count e

answer-filled : (count : ℕ) (stocks : List ℕ) → is_stock_list count (filled_list count stocks) ≡ is_stock_list count stocks
answer-filled count [] = full-list count (replicate count 0) (length-replicate {A = ℕ} count 0)
answer-filled count (stock ∷ stocks) = refl

-- A list with a stock for each zone is what it means.
pub full-filled : (o : Opening) → length o.stocks ≡ o.terms.count → filled o ≡ o
full-filled o e = ap (opening_as o.terms) (go o.stocks e)
  where
    go : (stocks : List ℕ) → length stocks ≡ o.terms.count → filled_list o.terms.count stocks ≡ stocks
    go [] z = ap (λ (n : ℕ). replicate n 0) (sym z)
    go (stock ∷ stocks) z = refl

-- So the rules' opening, the run and the whole answer are the same.
pub opening-filled : (o : Opening) → opening_of (filled o) ≡ opening_of o
opening-filled o = λ x. record { edition = o.terms.edition; stocks = stocks-filled o x }

pub opened-filled : (o : Opening) → opened_run (filled o) ≡ opened_run o
unfolding opened_run
opened-filled o =
    ap (λ (stock : ℕ → ℕ). first_run (head_as (opening_as o.terms (list_below most_zones stock)) 0 (list_below most_zones (λ i. opened i (stock i)))))
    (stocks-filled o)

pub open-filled : (o : Opening) → open_call (filled o) ≡ open_call o
unfolding open_call
open-filled o = rw (answer-filled o.terms.count o.stocks, sum-filled o, opened-filled o) refl

-- "An opening with an empty stock list now means stock 0 in every zone": opening with no stocks is opening with as many zeros as zones,
-- whatever the edition and the zone count, also where 15 or 2 refuses it.
pub empty-zeros : (terms : Terms) → open_call (opening_as terms []) ≡ open_call (opening_as terms (replicate terms.count 0))
empty-zeros terms = sym (open-filled (opening_as terms []))

-- "question 3 passes it": the answer, and each zone of its run.
module _ (terms : Terms) (known : is_edition terms.edition ≡ true) (sized : is_count terms.count ≡ true) where
  pub empty-opens : open_call (opening_as terms []) ≡ record { refusal = 0; remaining = 0; run = opened_run (opening_as terms []) }
  unfolding open_call
  empty-opens = rw (known, sized) refl

  pub empty-zone : (k : ℕ) → k < most_zones → zone_at (open_call (opening_as terms [])).run.head k ≡ opened k 0
  unfolding opened_run
  empty-zone k h =
      ap (λ (a : Answer). zone_at a.run.head k) empty-opens
      ∙ list_at most_zones (λ i. opened i (stock_at (opening_as terms []) i)) no_local k h

  -- Any other list that has not as many stocks as there are zones, one of zeros too, is refused with 3.
  pub other-refused : (stock : ℕ) (stocks : List ℕ) → length (stock ∷ stocks) ≢ terms.count
      → open_call (opening_as terms (stock ∷ stocks)) ≡ unopened 3
  unfolding open_call
  other-refused stock stocks h = rw (known, sized, ne_eqb (length (stock ∷ stocks)) terms.count h) refl
