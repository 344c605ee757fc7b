-- The own events of a zone that are no receipts, stated once for all of them. A further kind of such events is a further `Act`.
use mathlib.Core.Path.{◌≡◌, refl, sym, ap}
use mathlib.Core.Bool.{Bool, true, false, ◌&&◌, false≢true}
use mathlib.Core.List.{List, ◌∷◌}
use mathlib.Core.Option.{some}
use Prim.Native.Nat.{ℕ, ◌-◌, ◌≤◌}
use lib.Dec.{eqb}
use borrow.Author.Tests.{le-leb}
use Rattle.rules.specs.Change.{on, join, cons-if}
use Rattle.rules.specs.Zone.{needed, through}
use Rattle.rules.specs.Park.{Park, Move, hand, pass, hand_if, pass_if, step, owner, hands, takes}
use Rattle.rules.specs.declared.Direction.{Direction}
use Rattle.rules.proofs.Tests.{both_true}

-- What a zone does by an own event that is no receipt: it needs so many cars in its stock, changes the stock in any way, and puts a message
-- of so many cars on the channels that `goes` names by sender and receiver, one or none. The move is what the park is fed of it.
pub record Act : Type 0 where
  pub zone : ℕ
  pub needs : ℕ
  pub change : ℕ → ℕ
  pub goes : ℕ → ℕ → Bool
  pub cars : ℕ
  pub move : Move
  -- The channels are the zone's, and so is the move, which does just this to the park.
  pub from : (i j : ℕ) → goes i j ≡ true → zone ≡ i
  pub owned : owner move ≡ zone
  pub stepped : (p : Park) → needs ≤ p.stock zone
      → step move p ≡ some (record {
        stock = λ k. on (eqb k zone) change (p.stock k);
        channel = λ i j. on (goes i j) (join cars) (p.channel i j);
      })
  pub handed-over : (i j : ℕ) (ms : List Move) → hands i j (move ∷ ms) ≡ cons-if (goes i j) cars (hands i j ms)
  pub none-taken : (i j : ℕ) (ms : List Move) → takes i j (move ∷ ms) ≡ takes i j ms

-- The hand-over of c cars from a to b.
abbrev pub handing : ℕ → ℕ → ℕ → Act
handing a b c = record {
  zone = a;
  needs = c;
  change = λ n. n - c;
  goes = λ i j. eqb i a && eqb j b;
  cars = c;
  move = hand a b c;
  from = λ i j e. sym (both_true i a j b e).0;
  owned = refl;
  stepped = λ p le. ap (λ (t : Bool). hand_if t a b c p) (le-leb c (p.stock a) le);
  handed-over = λ i j ms. refl;
  none-taken = λ i j ms. refl;
}

-- The cars that go through the gate of zone a: no channel takes a message.
abbrev pub passing : Direction → ℕ → ℕ → Act
passing d a c = record {
  zone = a;
  needs = needed d c;
  change = through d c;
  goes = λ i j. false;
  cars = 0;
  move = pass d a c;
  from = λ i j e. absurd (false≢true e);
  owned = refl;
  stepped = λ p le. ap (λ (t : Bool). pass_if t d a c p) (le-leb (needed d c) (p.stock a) le);
  handed-over = λ i j ms. refl;
  none-taken = λ i j ms. refl;
}
