-- A zone part that was opened is the network's, and a zone whose number is above the count takes part in no call.
use mathlib.Core.Path.{◌≡◌, refl, ap}
use mathlib.Core.Bool.{Bool, true, false, ◌&&◌, and-false}
use mathlib.Core.List.{List, [], ◌∷◌}
use Prim.Native.Nat.{ℕ, ◌+◌, ◌≤◌}
use native.Mathlib.Omega.{arith}
use lib.Dec.{eqb, leb}
use borrow.Author.Tests.{leb-true}
use Rattle.rules.specs.Edition.{first_edition, is_edition}
use Rattle.rules.specs.Opening.{Opening}
use Rattle.rules.specs.Questions.{question, is_count, is_on}
use Rattle.rules.specs.Site.{Item, message, request, Call, send, receive, start, gate}
use Rattle.rules.specs.declared.Direction.{Direction}
use Rattle.zone.specs.Zone.{is_zone_sound, opened_zone, open_zone, send_step, receive_step, request_step, start_step, gate_step}
use Rattle.zone.specs.Answer.{OpeningAnswer}
use Rattle.zone.specs.declared.Zone.{Zone}
use Rattle.zone.proofs.Asks.{ask-accepted}
use Rattle.network.specs.Network.{Network, open_network, take_step, answer, is_accepted, made, after}
use Rattle.network.specs.Polls.{step_of}
use Rattle.network.proofs.Network.{Numbered, numbered, call-keeps}

-- An accepted opening hands back the zone that the network has at that index.
pub opened-zone : (n : ℕ) (o : Opening) (k : ℕ) → (open_zone o.edition n (k + 1) (o.stocks k)).refusal ≡ 0
    → (open_zone o.edition n (k + 1) (o.stocks k)).zone ≡ (open_network n o).zone k
unfolding open_zone
opened-zone n o k e = ap (λ (x : OpeningAnswer). x.zone)
    (ask-accepted (λ (x : OpeningAnswer). x.refusal)
    (question 15 (is_edition o.edition) ∷ question 2 (is_count n) ∷ question 5 (is_on n (k + 1)) ∷ [])
    (λ m. record { refusal = m; zone = opened_zone first_edition 2 1 0 })
    (record { refusal = 0; zone = opened_zone o.edition n (k + 1) (o.stocks k) })
    (λ m. refl) refl e).1

unsound : (z : Zone) (n k : ℕ) → z.number ≡ k + 1 → z.count ≡ n → n ≤ k → is_zone_sound z ≡ false
unfolding is_zone_sound is_on
unsound z n k e f h =
    let q = above (leb z.number z.count) refl in
    rw (q, and-false (leb 1 z.number), and-false (is_edition z.edition && is_count z.count))
  where
    above : (p : Bool) → leb z.number z.count ≡ p → p ≡ false
    above true q = let w = leb-true z.number z.count q in absurd (omega arith)
    above false q = refl

refused-send : (z : Zone) (to cars : ℕ) → is_zone_sound z ≡ false → eqb (send_step z to cars).refusal 0 ≡ false
unfolding send_step
refused-send z to cars e = rw e

refused-take : (z : Zone) (from : ℕ) (l : List Item) → is_zone_sound z ≡ false → is_accepted (take_step from l z) ≡ false
unfolding receive_step request_step
refused-take z from [] e = refl
refused-take z from (message cars flag ∷ l) e = rw e
refused-take z from (request set ∷ l) e = rw e

refused-start : (z : Zone) → is_zone_sound z ≡ false → eqb (start_step z).refusal 0 ≡ false
unfolding start_step
refused-start z e = rw e

refused-gate : (z : Zone) (d : Direction) (cars : ℕ) → is_zone_sound z ≡ false → eqb (gate_step z d cars).refusal 0 ≡ false
unfolding gate_step
refused-gate z d cars e = rw e

-- All zones have this count.
abbrev pub Counted : ℕ → Network → Type 0
Counted n net = (k : ℕ) → (net.zone k).count ≡ n

-- Then a step of a zone whose number is above the count is refused.
pub refused-off : (n : ℕ) (net : Network) → Numbered net → Counted n net → (c : Call) → n ≤ step_of c
    → is_accepted (answer c net) ≡ false
refused-off n net num same (send a b cars) h = refused-send (net.zone a) (b + 1) cars (unsound (net.zone a) n a (num a) (same a) h)
refused-off n net num same (receive a b) h =
    refused-take (net.zone b) (a + 1) (net.channel a b) (unsound (net.zone b) n b (num b) (same b) h)
refused-off n net num same (start a) h = refused-start (net.zone a) (unsound (net.zone a) n a (num a) (same a) h)
refused-off n net num same (gate d a cars) h = refused-gate (net.zone a) d cars (unsound (net.zone a) n a (num a) (same a) h)

-- Calls keep the numbers and the counts.
pub numbers-kept : (cs : List Call) (n : ℕ) (net : Network) → Numbered net → Counted n net
    → Numbered (after cs net) × Counted n (after cs net)
numbers-kept [] n net num same = (num, same)
numbers-kept (c ∷ cs) n net num same =
    numbers-kept cs n (made c net) (numbered net num c) (call-keeps (λ z. z.count) (λ z l. refl) (λ k. n) net same c)
