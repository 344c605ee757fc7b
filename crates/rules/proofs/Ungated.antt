-- Calls of which none goes through a gate: no car drives in or out by them.
use mathlib.Core.Path.{◌≡◌, refl}
use mathlib.Core.Bool.{Bool, true, false, true≢false}
use mathlib.Core.List.{List, [], ◌∷◌}
use Prim.Native.Nat.{ℕ}
use native.Mathlib.Omega.{arith}
use Rattle.rules.specs.Change.{cons-if}
use Rattle.rules.specs.Edition.{is_traffic}
use Rattle.rules.specs.Cut.{taking, move_of, moves}
use Rattle.rules.specs.Park.{Move, hand, take, is_inside, counted, inside_from, entries, exits}
use Rattle.rules.specs.Site.{Item, message, request, Site, Call, send, receive, start, gate, entering, leaving, step_s}
use Rattle.rules.proofs.Conservation.{entries-append, exits-append}
use Rattle.rules.proofs.Lists.{All}

abbrev pub is_gate : Call → Bool
is_gate (send a b cars) = false
is_gate (receive a b) = false
is_gate (start a) = false
is_gate (gate d a cars) = true

abbrev pub Ungated : Call → Type 0
Ungated c = is_gate c ≡ false

pub ungated-none : (c : Call) → Ungated c → (entering c ≡ 0) × (leaving c ≡ 0)
ungated-none (send a b cars) e = (refl, refl)
ungated-none (receive a b) e = (refl, refl)
ungated-none (start a) e = (refl, refl)
ungated-none (gate d a cars) e = absurd (true≢false e)

-- No car drives in or out by these moves, nor then by those of them that are inside a recording.
abbrev pub NoneThrough : List Move → Type 0
NoneThrough ms = (entries ms ≡ 0) × (exits ms ≡ 0)

none-moved : (c : Call) (s : Site) → Ungated c → NoneThrough (move_of c s)
none-moved (send a b cars) s e = go (is_traffic s.edition cars)
  where
    go : (p : Bool) → NoneThrough (cons-if p (hand a b cars) [])
    go true = (refl, refl)
    go false = (refl, refl)
none-moved (receive a b) s e = go (s.channel a b)
  where
    by : (p : Bool) → NoneThrough (cons-if p (take a b) [])
    by true = (refl, refl)
    by false = (refl, refl)

    go : (l : List Item) → NoneThrough (taking s.edition a b l)
    go [] = (refl, refl)
    go (message cars flag ∷ l) = by (is_traffic s.edition cars)
    go (request set ∷ l) = (refl, refl)
none-moved (start a) s e = (refl, refl)
none-moved (gate d a cars) s e = absurd (true≢false e)

pub none-through : (cs : List Call) (s : Site) → All Ungated cs → NoneThrough (moves cs s)
none-through [] s h = (refl, refl)
none-through (c ∷ cs) s h =
    let p = none-moved c s h.0 in
    let q = none-through cs (step_s c s) h.1 in
    let x = entries-append (move_of c s) (moves cs (step_s c s)) in
    let y = exits-append (move_of c s) (moves cs (step_s c s)) in
    (omega (arith, p.0, q.0), omega (arith, p.1, q.1))

pub none_inside : (shown n : ℕ → ℕ) (ms : List Move) → NoneThrough ms → NoneThrough (inside_from shown n ms)
none_inside shown n [] h = h
none_inside shown n (m ∷ ms) h =
    go (is_inside shown n m) (none_inside shown (counted n m) ms
    (omega (arith, h.0, entries-append (m ∷ []) ms), omega (arith, h.1, exits-append (m ∷ []) ms)))
  where
    rest : List Move
    rest = inside_from shown (counted n m) ms

    first : NoneThrough (m ∷ [])
    first = (omega (arith, h.0, entries-append (m ∷ []) ms), omega (arith, h.1, exits-append (m ∷ []) ms))

    go : (p : Bool) → NoneThrough rest → NoneThrough (cons-if p m rest)
    go true i = (omega (arith, first.0, i.0, entries-append (m ∷ []) rest), omega (arith, first.1, i.1, exits-append (m ∷ []) rest))
    go false i = i
