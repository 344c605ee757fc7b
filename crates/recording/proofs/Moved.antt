-- What a call adds to the own events of zones: one for the zone whose move it is, and nothing where it is no move, as a line check or its
-- receipt.
use mathlib.Core.Path.{◌≡◌, refl, sym, ◌∙◌, ap}
use mathlib.Core.Bool.{Bool, true, false, not}
use mathlib.Core.Logic.{◌⊎◌, inl, inr}
use mathlib.Core.List.{List, [], ◌∷◌, ◌++◌}
use Prim.Native.Nat.{ℕ, suc}
use native.Mathlib.Numerals.{add-one}
use native.Mathlib.Omega.{arith}
use lib.Dec.{eqb}
use borrow.Author.Tests.{ne_eqb}
use Rattle.rules.specs.Change.{cons-if}
use Rattle.rules.specs.Edition.{is_traffic}
use Rattle.rules.specs.Zone.{is_permanent, sent_under, received_under, gated, started, requested}
use Rattle.rules.specs.Site.{Item, message, request, Site, Call, send, receive, start, gate, pop_s, turn_s, step_s, take_s}
use Rattle.rules.specs.Park.{Move, hand, take, pass, owner, is_inside, counted, inside_from}
use Rattle.rules.specs.Cut.{taking, move_of, moves}
use Rattle.rules.specs.declared.Local.{Local}
use Rattle.rules.specs.declared.Direction.{Direction}
use Rattle.rules.proofs.Editions.{sent-traffic, sent-check, received-traffic, received-check}
use Rattle.rules.proofs.Guarded.{on_same, on-map}
use Rattle.rules.proofs.Tests.{eqb_refl}
use Rattle.journal.specs.InnerOrdinals.{ordinal_by}

-- The own events of a zone, and of each zone of a site.
abbrev events : Local → ℕ
events z = z.events

abbrev pub events_in : Site → ℕ → ℕ
events_in s k = (s.zone k).events

-- The zone that acts in a call.
abbrev pub actor_of : Call → ℕ
actor_of (send a b cars) = a
actor_of (receive a b) = b
actor_of (start a) = a
actor_of (gate d a cars) = a

-- The call is no move, or it is one of the zone that acts.
pub record Quiet (c : Call) (s : Site) : Type 0 where
  pub none : move_of c s ≡ []
  pub same : (k : ℕ) → events_in (step_s c s) k ≡ events_in s k

pub record Moved (c : Call) (s : Site) (m : Move) : Type 0 where
  pub one : move_of c s ≡ m ∷ []
  pub by : owner m ≡ actor_of c
  pub more : (k : ℕ) → events_in (step_s c s) k ≡ counted (events_in s) m k

pub sent-moves : (a b cars : ℕ) (s : Site) → Quiet (send a b cars) s ⊎ Moved (send a b cars) s (hand a b cars)
sent-moves a b cars s = go (is_traffic s.edition cars) refl
  where
    change : Local → Local
    change = sent_under s.edition cars

    go : (p : Bool) → is_traffic s.edition cars ≡ p → Quiet (send a b cars) s ⊎ Moved (send a b cars) s (hand a b cars)
    go true t = inr (record {
      one = ap (λ (p : Bool). cons-if p (hand a b cars) []) t;
      by = refl;
      more = λ k. on-map events (eqb k a) change suc (s.zone k) (ap events (sent-traffic s.edition cars (s.zone k) t) ∙ add-one _);
    })
    go false t = inl (record {
      none = ap (λ (p : Bool). cons-if p (hand a b cars) []) t;
      same = λ k. on_same events (eqb k a) change (s.zone k) (ap events (sent-check s.edition cars (s.zone k) t));
    })

pub start-quiet : (a : ℕ) (s : Site) → Quiet (start a) s
start-quiet a s = record {
  none = refl;
  same = λ k. on_same (λ (z : Local). z.events) (eqb k a) started (s.zone k) refl;
}

pub gate-moves : (d : Direction) (a cars : ℕ) (s : Site) → Moved (gate d a cars) s (pass d a cars)
gate-moves d a cars s = record {
  one = refl;
  by = refl;
  more = λ k. on-map events (eqb k a) (gated d cars) suc (s.zone k) (add-one _);
}

pub received-moves : (a b : ℕ) (s : Site) → Quiet (receive a b) s ⊎ Moved (receive a b) s (take a b)
received-moves a b s = go (s.channel a b) refl
  where
    got : (cars : ℕ) (flag : Bool) (xs : List Item) → s.channel a b ≡ message cars flag ∷ xs → (p : Bool) → is_traffic s.edition cars ≡ p
        → Quiet (receive a b) s ⊎ Moved (receive a b) s (take a b)
    got cars flag xs e true t = inr (record {
      one = ap (taking s.edition a b) e ∙ ap (λ (p : Bool). cons-if p (take a b) []) t;
      by = refl;
      more = λ k. ap (λ (l : List Item). events_in (take_s a b l s) k) e
          ∙ on-map events (eqb k b) (received_under s.edition a cars flag) suc (s.zone k)
          (ap events (received-traffic s.edition cars (s.zone k) a flag t) ∙ add-one _);
    })
    got cars flag xs e false t = inl (record {
      none = ap (taking s.edition a b) e ∙ ap (λ (p : Bool). cons-if p (take a b) []) t;
      same = λ k. ap (λ (l : List Item). events_in (take_s a b l s) k) e
          ∙ on_same events (eqb k b) (received_under s.edition a cars flag) (s.zone k)
          (ap events (received-check s.edition cars (s.zone k) a flag t));
    })

    turned : (set k : ℕ) (t : Site) → events_in (turn_s b set t) k ≡ events_in t k
    turned set k t = on_same (λ (z : Local). z.events) (eqb k b) requested (t.zone k) refl

    go : (xs : List Item) → s.channel a b ≡ xs → Quiet (receive a b) s ⊎ Moved (receive a b) s (take a b)
    go [] e = inl (record { none = rw e; same = λ k. rw e })
    go (message cars flag ∷ xs) e = got cars flag xs e (is_traffic s.edition cars) refl
    go (request set ∷ xs) e =
        inl (record {
          none = rw e;
          same = λ k. rw e
              (on_same (λ (t : Site). events_in t k) (not (is_permanent (s.zone b).checkpoint)) (turn_s b set) (pop_s a b s) (turned set k (pop_s a b s)));
        })

-- The own-event ordinal of the call, of the counts of the zone that acts.
pub quiet-number : (c : Call) (s : Site) → Quiet c s → ordinal_by (events_in s (actor_of c)) (events_in (step_s c s) (actor_of c)) ≡ 0
quiet-number c s q = rw (q.same (actor_of c), eqb_refl)

pub moved-number : (c : Call) (s : Site) (m : Move) → Moved c s m
    → ordinal_by (events_in s (actor_of c)) (events_in (step_s c s) (actor_of c)) ≡ suc (events_in s (owner m))
moved-number c s m q =
    let n = events_in s (owner m) in
    let e : events_in (step_s c s) (owner m) ≡ suc n = rw (q.more (owner m), eqb_refl) in
    rw (← q.by, e, ne_eqb (suc n) n (λ x. omega arith))

-- The inside moves of the call and of those behind it.
counts : (shown : ℕ → ℕ) (n m : ℕ → ℕ) (ms : List Move) → ((k : ℕ) → n k ≡ m k) → inside_from shown n ms ≡ inside_from shown m ms
counts shown n m ms e = ap (λ (f : ℕ → ℕ). inside_from shown f ms) (λ x k. e k x)

module _ (shown : ℕ → ℕ) (c : Call) (cs : List Call) (s : Site) where
  abbrev pub inside_rest : List Move
  inside_rest = inside_from shown (events_in (step_s c s)) (moves cs (step_s c s))

  abbrev pub inside_all : List Move
  inside_all = inside_from shown (events_in s) (moves (c ∷ cs) s)

  pub quiet-inside : Quiet c s → inside_all ≡ inside_rest
  quiet-inside q =
      ap (λ (ms : List Move). inside_from shown (events_in s) (ms ++ moves cs (step_s c s))) q.none
      ∙ counts shown (events_in s) (events_in (step_s c s)) (moves cs (step_s c s)) (λ k. sym (q.same k))

  pub moved_inside : (m : Move) → Moved c s m → inside_all ≡ cons-if (is_inside shown (events_in s) m) m inside_rest
  moved_inside m q =
      ap (λ (ms : List Move). inside_from shown (events_in s) (ms ++ moves cs (step_s c s))) q.one
      ∙ ap (cons-if (is_inside shown (events_in s) m) m)
      (counts shown (counted (events_in s) m) (events_in (step_s c s)) (moves cs (step_s c s)) (λ k. sym (q.more k)))
