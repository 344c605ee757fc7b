-- The plain car park of demand 3 (docs/RULES.md, demand 3): a stock for each zone, without upper limit, and for each ordered pair of zones
-- a channel, a list of numbers of cars. It has no checkpoints, no requests and no full channels.
use Rattle.std.specs.Prelude.{Bool, true, false, ◌&&◌, not, ℕ, suc, ◌+◌, ◌-◌, ◌<◌, eqb, leb, ltb}
use mathlib.Core.List.{List, [], ◌∷◌, tail}
use Rattle.std.proofs.Math.Option.{Option, none, some}
use Rattle.rules.specs.Opening.{Opening}
use Rattle.rules.specs.Below.{sum, sum_below}
use Rattle.rules.specs.Change.{on, join, cons-if}
use Rattle.rules.specs.Zone.{needed, through}
use Rattle.rules.specs.declared.Direction.{Direction}
use Rattle.rules.specs.declared.Direction.TheVariants.{In, Out}

pub record Park : Type 0 where
  pub stock : ℕ → ℕ
  pub channel : ℕ → ℕ → List ℕ

-- What the park is fed: hand-overs, receipts of them, and cars that go through gates.
pub data Move : Type 0 where
  hand : (from to cars : ℕ) → Move
  take : (from to : ℕ) → Move
  pass : (direction : Direction) (zone cars : ℕ) → Move

-- "It starts with the opening stocks and empty lines."
abbrev pub open_park : Opening → Park
open_park o = record { stock = o.stocks; channel = λ i j. [] }

-- "that stock falls by c and c joins the end of line A to B".
abbrev pub handed : ℕ → ℕ → ℕ → Park → Park
handed a b c p = record {
  stock = λ k. on (eqb k a) (λ v. v - c) (p.stock k);
  channel = λ i j. on (eqb i a && eqb j b) (join c) (p.channel i j);
}

-- "its first number leaves it and B's stock rises by that number".
abbrev pub taken : ℕ → ℕ → ℕ → Park → Park
taken a b c p = record {
  stock = λ k. on (eqb k b) (λ v. v + c) (p.stock k);
  channel = λ i j. on (eqb i a && eqb j b) tail (p.channel i j);
}

-- "refused if A's stock is below c".
abbrev pub hand_if : Bool → ℕ → ℕ → ℕ → Park → Option Park
hand_if true a b c p = some (handed a b c p)
hand_if false a b c p = none

-- "refused if that line is empty".
abbrev pub take_if : List ℕ → ℕ → ℕ → Park → Option Park
take_if [] a b p = none
take_if (c ∷ l) a b p = some (taken a b c p)

-- "an entry raises the plain park's stock, an exit lowers it and is refused beyond it".
abbrev pub passed : Direction → ℕ → ℕ → Park → Park
passed direction a c p = record { stock = λ k. on (eqb k a) (through direction c) (p.stock k); channel = p.channel }

abbrev pub pass_if : Bool → Direction → ℕ → ℕ → Park → Option Park
pass_if true direction a c p = some (passed direction a c p)
pass_if false direction a c p = none

-- One step; none: refused. "that replay has no limit on the sum".
abbrev pub step : Move → Park → Option Park
step (hand a b c) p = hand_if (leb c (p.stock a)) a b c p
step (take a b) p = take_if (p.channel a b) a b p
step (pass direction a c) p = pass_if (leb (needed direction c) (p.stock a)) direction a c p

abbrev pub step_if : Move → Option Park → Option Park
step_if m none = none
step_if m (some p) = step m p

-- The moves in order; none: some step was refused.
abbrev pub replay : List Move → Option Park → Option Park
replay [] p = p
replay (m ∷ ms) p = replay ms (step_if m p)

-- Whose own event a move is: "a hand-over for its sender, a receipt for its receiver", a gate event for its zone.
abbrev pub owner : Move → ℕ
owner (hand a b c) = a
owner (take a b) = b
owner (pass direction a c) = a

-- The number of own events of a zone.
abbrev pub own : ℕ → List Move → ℕ
own z [] = 0
own z (m ∷ ms) = on (eqb z (owner m)) suc (own z ms)

-- "Each zone's own events are counted in the list's order": n k events of zone k stand before the list. "One is inside the recording
-- if its count is at most the events shown for that zone."
abbrev pub is_inside : (ℕ → ℕ) → (ℕ → ℕ) → Move → Bool
is_inside shown n m = ltb (n (owner m)) (shown (owner m))

abbrev pub counted : (ℕ → ℕ) → Move → ℕ → ℕ
counted n m k = on (eqb k (owner m)) suc (n k)

abbrev pub inside_from : (ℕ → ℕ) → (ℕ → ℕ) → List Move → List Move
inside_from shown n [] = []
inside_from shown n (m ∷ ms) = cons-if (is_inside shown n m) m (inside_from shown (counted n m) ms)

abbrev pub outside_from : (ℕ → ℕ) → (ℕ → ℕ) → List Move → List Move
outside_from shown n [] = []
outside_from shown n (m ∷ ms) = cons-if (not (is_inside shown n m)) m (outside_from shown (counted n m) ms)

abbrev pub inside : (ℕ → ℕ) → List Move → List Move
inside shown ms = inside_from shown (λ k. 0) ms

abbrev pub outside : (ℕ → ℕ) → List Move → List Move
outside shown ms = outside_from shown (λ k. 0) ms

-- The cars handed over from i to j, in order, and the number of receipts by j from i.
abbrev pub hands : ℕ → ℕ → List Move → List ℕ
hands i j [] = []
hands i j (hand a b c ∷ ms) = cons-if (eqb i a && eqb j b) c (hands i j ms)
hands i j (take a b ∷ ms) = hands i j ms
hands i j (pass direction a c ∷ ms) = hands i j ms

abbrev pub takes : ℕ → ℕ → List Move → ℕ
takes i j [] = 0
takes i j (hand a b c ∷ ms) = takes i j ms
takes i j (take a b ∷ ms) = on (eqb i a && eqb j b) suc (takes i j ms)
takes i j (pass direction a c ∷ ms) = takes i j ms

-- All the cars of a park of n zones: the stocks, and the cars on the channels.
abbrev pub total : ℕ → Park → ℕ
total n p = sum_below n p.stock + sum_below n (λ i. sum_below n (λ j. sum (p.channel i j)))

-- The cars that drove in, and those that drove out: "entries" and "exits".
abbrev pub entries : List Move → ℕ
entries [] = 0
entries (hand a b c ∷ ms) = entries ms
entries (take a b ∷ ms) = entries ms
entries (pass In a c ∷ ms) = c + entries ms
entries (pass Out a c ∷ ms) = entries ms

abbrev pub exits : List Move → ℕ
exits [] = 0
exits (hand a b c ∷ ms) = exits ms
exits (take a b ∷ ms) = exits ms
exits (pass In a c ∷ ms) = exits ms
exits (pass Out a c ∷ ms) = c + exits ms

-- A move at zones of a park of n zones.
abbrev pub Within : ℕ → Move → Type 0
Within n (hand a b c) = (a < n) × (b < n)
Within n (take a b) = (a < n) × (b < n)
Within n (pass direction a c) = a < n
