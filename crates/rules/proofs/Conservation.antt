-- A replay that is not refused changes the number of cars by the entries and the exits, so the recorded park and the present one have as
-- many cars as the opening with those.
use mathlib.Core.Path.{◌≡◌, refl, sym, ◌∙◌, ap}
use mathlib.Core.Bool.{Bool, true, false, ◌&&◌, true≢false, false≢true}
use mathlib.Core.List.{List, [], ◌∷◌, ◌++◌, tail}
use mathlib.Core.Option.{Option, none, some}
use Prim.Native.Nat.{ℕ, ◌+◌, ◌-◌, ◌≤◌, ◌<◌}
use native.Mathlib.Omega.{arith}
use lib.Dec.{eqb, leb}
use borrow.Author.Tests.{leb-true, ne_eqb}
use Rattle.rules.specs.Edition.{is_traffic}
use Rattle.rules.specs.Opening.{Opening}
use Rattle.rules.specs.Change.{join, cons-if}
use Rattle.rules.specs.Site.{Item, message, request, Site, Call, send, receive, start, gate, step_s, open_s}
use Rattle.rules.specs.Below.{sum, sum_below}
use Rattle.rules.specs.Zone.{needed, through}
use Rattle.rules.specs.declared.Direction.{Direction}
use Rattle.rules.specs.declared.Direction.TheVariants.{In, Out}
use Rattle.rules.specs.Park.{Park, Move, hand, take, pass, open_park, handed, taken, passed, hand_if, take_if, pass_if, step, replay, is_inside, counted, inside_from, inside, total, entries, exits, Within}
use Rattle.rules.specs.Cut.{Allowed, run, taking, move_of, moves, Complete, present, snapshot}
use Rattle.rules.proofs.Tests.{eqb_refl}
use Rattle.rules.proofs.Sums.{sum-change, sums-zero, sums-change}
use Rattle.rules.proofs.Guarded.{on-true, on-false}
use Rattle.rules.proofs.Lists.{All, keep, all_append}
use Rattle.rules.proofs.Tagged.{Event, TaggedPark, Steps}
use Rattle.rules.proofs.Untagged.{plain, plain-steps}
use Rattle.rules.proofs.History.{History, open_h, history, moves_of, now-run, moves-open}
use Rattle.rules.proofs.Kept.{fresh-open, calls-keep}
use Rattle.rules.proofs.Cutting.{park_of, plain-park, open_t, in_first, in_second, cuts-kept, cuts-open}
use Rattle.rules.proofs.Consistency.{consistent}

sum-join : (l : List ℕ) (c : ℕ) → sum (join c l) ≡ sum l + c
sum-join [] c = omega arith
sum-join (x ∷ l) c = let q = sum-join l c in omega arith

abbrev cars : Park → ℕ → ℕ → ℕ
cars p i j = sum (p.channel i j)

handed-total : (n a b c : ℕ) (p : Park) → a < n → b < n → c ≤ p.stock a → total n (handed a b c p) ≡ total n p
handed-total n a b c p ha hb le =
    let s = sum-change n (handed a b c p).stock p.stock a ha
    (λ k _ ne. on-false (eqb k a) (λ v. v - c) (p.stock k) (ne_eqb k a ne)) in
    let s' : (handed a b c p).stock a ≡ p.stock a - c = on-true (eqb a a) (λ v. v - c) (p.stock a) (eqb_refl a) in
    let t = sums-change n (cars (handed a b c p)) (cars p) a b ha hb
    (λ i j e. ap sum (on-false (eqb i a && eqb j b) (join c) (p.channel i j) e)) in
    let t' : cars (handed a b c p) a b ≡ cars p a b + c
    = ap sum (on-true (eqb a a && eqb b b) (join c) (p.channel a b) (rw (eqb_refl a, eqb_refl b))) ∙ sum-join (p.channel a b) c in
    omega arith

taken-total : (n a b c : ℕ) (l : List ℕ) (p : Park) → a < n → b < n → p.channel a b ≡ c ∷ l → total n (taken a b c p) ≡ total n p
taken-total n a b c l p ha hb at =
    let s = sum-change n (taken a b c p).stock p.stock b hb
    (λ k _ ne. on-false (eqb k b) (λ v. v + c) (p.stock k) (ne_eqb k b ne)) in
    let s' : (taken a b c p).stock b ≡ p.stock b + c = on-true (eqb b b) (λ v. v + c) (p.stock b) (eqb_refl b) in
    let t = sums-change n (cars (taken a b c p)) (cars p) a b ha hb
    (λ i j e. ap sum (on-false (eqb i a && eqb j b) tail (p.channel i j) e)) in
    let t' : cars (taken a b c p) a b ≡ sum l
    = ap sum (on-true (eqb a a && eqb b b) tail (p.channel a b) (rw (eqb_refl a, eqb_refl b)) ∙ ap tail at) in
    let u : cars p a b ≡ c + sum l = ap sum at in
    omega arith

none≢some : {p : Park} → ◌≡◌ {A = Option Park} none (some p) → ⊥
none≢some e = let z : ◌≡◌ {A = Bool} true false = cc in true≢false z

-- The park q has the cars of p, with the entries among some moves and without the exits.
abbrev Balanced : ℕ → List Move → Park → Park → Type 0
Balanced n ms p q = total n q + exits ms ≡ total n p + entries ms

passed-total : (n : ℕ) (d : Direction) (a c : ℕ) (p : Park) → a < n → needed d c ≤ p.stock a
    → Balanced n (pass d a c ∷ []) p (passed d a c p)
passed-total n d a c p ha le =
    let s = sum-change n (passed d a c p).stock p.stock a ha
    (λ k _ ne. on-false (eqb k a) (through d c) (p.stock k) (ne_eqb k a ne)) in
    let s' : (passed d a c p).stock a ≡ through d c (p.stock a) = on-true (eqb a a) (through d c) (p.stock a) (eqb_refl a) in
    go d le s s'
  where
    go : (d : Direction) → needed d c ≤ p.stock a
        → sum_below n (passed d a c p).stock + p.stock a ≡ sum_below n p.stock + (passed d a c p).stock a
        → (passed d a c p).stock a ≡ through d c (p.stock a)
        → Balanced n (pass d a c ∷ []) p (passed d a c p)
    go In le s s' = omega arith
    go Out le s s' = omega arith

step-total : (n : ℕ) (m : Move) (p q : Park) → Within n m → step m p ≡ some q → Balanced n (m ∷ []) p q
step-total n (hand a b c) p q w e = go (leb c (p.stock a)) refl e
  where
    go : (t : Bool) → leb c (p.stock a) ≡ t → hand_if t a b c p ≡ some q → Balanced n [] p q
    go true le e =
        let i : handed a b c p ≡ q = cc in
        ap (λ (x : Park). total n x + 0) (sym i)
        ∙ ap (λ (x : ℕ). x + 0) (handed-total n a b c p w.0 w.1 (leb-true c (p.stock a) le))
    go false le e = absurd (none≢some e)
step-total n (take a b) p q w e = go (p.channel a b) refl e
  where
    go : (l : List ℕ) → p.channel a b ≡ l → take_if l a b p ≡ some q → Balanced n [] p q
    go [] at e = absurd (none≢some e)
    go (c ∷ l) at e =
        let i : taken a b c p ≡ q = cc in
        ap (λ (x : Park). total n x + 0) (sym i) ∙ ap (λ (x : ℕ). x + 0) (taken-total n a b c l p w.0 w.1 at)
step-total n (pass d a c) p q w e = go (leb (needed d c) (p.stock a)) refl e
  where
    go : (t : Bool) → leb (needed d c) (p.stock a) ≡ t → pass_if t d a c p ≡ some q → Balanced n (pass d a c ∷ []) p q
    go true le e =
        let i : passed d a c p ≡ q = cc in
        ap (λ (x : Park). total n x + exits (pass d a c ∷ [])) (sym i)
        ∙ passed-total n d a c p w (leb-true (needed d c) (p.stock a) le)
    go false le e = absurd (none≢some e)

-- Moves one after another.
pub entries-append : (xs ys : List Move) → entries (xs ++ ys) ≡ entries xs + entries ys
entries-append [] ys = omega arith
entries-append (hand a b c ∷ xs) ys = entries-append xs ys
entries-append (take a b ∷ xs) ys = entries-append xs ys
entries-append (pass In a c ∷ xs) ys = let q = entries-append xs ys in omega arith
entries-append (pass Out a c ∷ xs) ys = entries-append xs ys

pub exits-append : (xs ys : List Move) → exits (xs ++ ys) ≡ exits xs + exits ys
exits-append [] ys = omega arith
exits-append (hand a b c ∷ xs) ys = exits-append xs ys
exits-append (take a b ∷ xs) ys = exits-append xs ys
exits-append (pass In a c ∷ xs) ys = exits-append xs ys
exits-append (pass Out a c ∷ xs) ys = let q = exits-append xs ys in omega arith

replay-none : (ms : List Move) → replay ms none ≡ none
replay-none [] = refl
replay-none (m ∷ ms) = replay-none ms

-- A replay that is not refused, of moves at zones of the park, changes the number of cars by the entries and the exits.
pub conserved : (n : ℕ) (ms : List Move) (p q : Park) → All (Within n) ms → replay ms (some p) ≡ some q
    → total n q + exits ms ≡ total n p + entries ms
conserved n [] p q w e = let i : p ≡ q = cc in ap (λ (x : Park). total n x + 0) (sym i)
conserved n (m ∷ ms) p q w e = go (step m p) refl e (λ r. conserved n ms r q w.1)
  where
    go : (o : Option Park) → step m p ≡ o → replay ms o ≡ some q
        → ((r : Park) → replay ms (some r) ≡ some q → Balanced n ms r q) → Balanced n (m ∷ ms) p q
    go none s e ih = absurd (none≢some (sym (replay-none ms) ∙ e))
    go (some r) s e ih =
        let h = ih r e in
        let k = step-total n m p r w.0 s in
        let x = entries-append (m ∷ []) ms in
        let y = exits-append (m ∷ []) ms in
        omega arith

-- The cars of the opening.
open-total : (n : ℕ) (v : Opening) → total n (open_park v) ≡ sum_below n v.stocks
open-total n v = let q = sums-zero n (λ i j. 0) (λ i j. refl) in omega arith

-- The moves inside a recording are moves.
all-cons-if : (P : Move → Type 0) (p : Bool) (m : Move) (ms : List Move) → P m → All P ms → All P (cons-if p m ms)
all-cons-if P true m ms h hs = (h, hs)
all-cons-if P false m ms h hs = hs

all-inside : (P : Move → Type 0) (shown n : ℕ → ℕ) (ms : List Move) → All P ms → All P (inside_from shown n ms)
all-inside P shown n [] h = tt
all-inside P shown n (m ∷ ms) h = all-cons-if P (is_inside shown n m) m _ h.0 (all-inside P shown (counted n m) ms h.1)

-- A call between zones of a site of n zones.
abbrev pub Between : ℕ → Call → Type 0
Between n (send a b c) = (a < n) × (b < n)
Between n (receive a b) = (a < n) × (b < n)
Between n (start a) = a < n
Between n (gate d a c) = a < n

moves-within : (n : ℕ) (cs : List Call) (s : Site) → All (Between n) cs → All (Within n) (moves cs s)
moves-within n [] s h = tt
moves-within n (c ∷ cs) s h = all_append (Within n) (move_of c s) (moves cs (step_s c s)) (one c h.0)
    (moves-within n cs (step_s c s) h.1)
  where
    taken-within : (a b : ℕ) (l : List Item) → (a < n) × (b < n) → All (Within n) (taking s.edition a b l)
    taken-within a b [] w = tt
    taken-within a b (message c flag ∷ l) w = all-cons-if (Within n) (is_traffic s.edition c) _ [] w tt
    taken-within a b (request set ∷ l) w = tt

    one : (c : Call) → Between n c → All (Within n) (move_of c s)
    one (send a b c) w = all-cons-if (Within n) (is_traffic s.edition c) _ [] w tt
    one (receive a b) w = taken-within a b (s.channel a b) w
    one (start a) w = tt
    one (gate d a c) w = (w, tt)

-- The park takes all moves of allowed calls, in their own order too, and ends as the site is.
none_first : (es : List Event) → keep (in_first (λ z. false)) es ≡ []
none_first [] = refl
none_first (e ∷ es) = none_first es

all-second : (es : List Event) → keep (in_second (λ z. false)) es ≡ es
all-second [] = refl
all-second (e ∷ es) = ap (λ l. e ∷ l) (all-second es)

pub replayed : (v : Opening) (cs : List Call) → Allowed cs (open_s v)
    → replay (moves cs (open_s v)) (some (open_park v)) ≡ some (present (run cs (open_s v)))
replayed v cs allowed =
    let cuts = (calls-keep _ (cuts-kept v) cs (open_h v) (fresh-open v) allowed (cuts-open v)).1 in
    let r = cuts (λ z. false) (λ j i f _. absurd (false≢true f)) in
    let opens : open_t v ≡ r.middle = rw (none_first h.log) at r.first in
    let steps : Steps h.log r.middle (park_of h) = rw (all-second h.log) at r.second in
    ap (λ (ms : List Move). replay ms (some (open_park v))) (sym (moves-open v cs))
    ∙ ap (λ (S : TaggedPark). replay (moves_of h) (some (plain S))) opens
    ∙ plain-steps h.log r.middle (park_of h) steps
    ∙ ap some (plain-park h ∙ ap present (now-run cs (open_h v)))
  where
    h : History
    h = history cs (open_h v)

-- So the present park has the cars of the opening, with the entries and without the exits.
pub present-total : (n : ℕ) (v : Opening) (cs : List Call) → All (Between n) cs → Allowed cs (open_s v)
    → total n (present (run cs (open_s v))) + exits (moves cs (open_s v)) ≡ sum_below n v.stocks + entries (moves cs (open_s v))
present-total n v cs zones allowed =
    conserved n (moves cs (open_s v)) (open_park v) (present (run cs (open_s v))) (moves-within n cs (open_s v) zones)
    (replayed v cs allowed)
    ∙ ap (λ (x : ℕ). x + entries (moves cs (open_s v))) (open-total n v)

-- And so has the recorded park, with those inside the recording: the recorded total "equals the opening total plus entries less exits inside
-- the recording".
pub recorded-total : (n : ℕ) (v : Opening) (cs : List Call) → All (Between n) cs → Allowed cs (open_s v) → Complete (run cs (open_s v))
    → total n (snapshot v cs).park + exits (inside (snapshot v cs).events (moves cs (open_s v)))
    ≡ sum_below n v.stocks + entries (inside (snapshot v cs).events (moves cs (open_s v)))
recorded-total n v cs zones allowed complete =
    let shown = (snapshot v cs).events in
    conserved n (inside shown (moves cs (open_s v))) (open_park v) (snapshot v cs).park
    (all-inside (Within n) shown (λ k. 0) (moves cs (open_s v)) (moves-within n cs (open_s v) zones))
    (consistent v cs allowed complete).first
    ∙ ap (λ (x : ℕ). x + entries (inside shown (moves cs (open_s v)))) (open-total n v)
