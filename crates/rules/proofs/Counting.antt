-- What is inside a recording by the count of its zone's own events is what comes before the zone's checkpoint.
use mathlib.Core.Path.{◌≡◌, refl, sym, ◌∙◌, ap, subst}
use mathlib.Core.Bool.{Bool, true, false, ◌&&◌, ◌||◌, not}
use mathlib.Core.List.{List, [], ◌∷◌, ◌++◌, map}
use Prim.Native.Nat.{ℕ, suc, ◌+◌, ◌≤◌}
use native.Mathlib.Omega.{arith}
use native.Mathlib.Nat.{zero-add}
use native.Mathlib.Numerals.{add-one}
use lib.Dec.{eqb, ltb}
use borrow.Author.Tests.{lt-ltb, le-ltb}
use Rattle.rules.specs.Opening.{Opening}
use Rattle.rules.specs.Change.{on, join, cons-if}
use Rattle.rules.specs.Sets.{nobody}
use Rattle.rules.specs.Zone.{has_checkpoint, saved, received, checkpoint_after, requested, made_permanent}
use Rattle.rules.specs.Park.{Move, owner, own, counted, inside_from, outside_from, inside, outside}
use Rattle.rules.specs.declared.Local.{Local}
use Rattle.rules.specs.declared.Saved.{Saved}
use Rattle.rules.specs.declared.Checkpoint.{Checkpoint}
use Rattle.rules.specs.declared.Checkpoint.TheVariants.{None, Mutable, Permanent}
use Rattle.rules.proofs.Tests.{eqb_refl}
use Rattle.rules.proofs.Guarded.{on-true, on-swap, on-map, on_same, on-keeps, on-back}
use Rattle.rules.proofs.Lists.{keep, keep_join, cons-append, map-append, map-join, map-if}
use Rattle.rules.proofs.Tagged.{Event, zone_of, is_post}
use Rattle.rules.proofs.Untagged.{untag, owner-untag}
use Rattle.rules.proofs.History.{History, open_h, acting_of, receiving_of, acted, own_h, receive_h, pop_h, turn_h, begin_h, moves_of}
use Rattle.rules.proofs.Kept.{Kept}
use Rattle.rules.proofs.Cutting.{in_first, in_second}

own-join : (z : ℕ) (ms : List Move) (m : Move) → own z (join m ms) ≡ on (eqb z (owner m)) suc (own z ms)
own-join z [] m = refl
own-join z (x ∷ ms) m =
    ap (on (eqb z (owner x)) suc) (own-join z ms m) ∙ on-swap (eqb z (owner m)) (eqb z (owner x)) suc suc (own z ms) refl

bump : (p : Bool) (u w : ℕ) → on p suc u + w ≡ u + on p suc w
bump true u w = omega arith
bump false u w = refl

-- Whether one more move is inside goes by its count: the own events of its zone before it.
inside-join : (shown n : ℕ → ℕ) (ms : List Move) (m : Move)
    → inside_from shown n (join m ms)
    ≡ inside_from shown n ms ++ cons-if (ltb (n (owner m) + own (owner m) ms) (shown (owner m))) m []
inside-join shown n [] m = let q : n (owner m) + 0 ≡ n (owner m) = omega arith in rw q
inside-join shown n (x ∷ ms) m =
    rw (inside-join shown (counted n x) ms m, bump (eqb (owner m) (owner x)) (n (owner m)) (own (owner m) ms), cons-append)

outside-join : (shown n : ℕ → ℕ) (ms : List Move) (m : Move)
    → outside_from shown n (join m ms)
    ≡ outside_from shown n ms ++ cons-if (not (ltb (n (owner m) + own (owner m) ms) (shown (owner m)))) m []
outside-join shown n [] m = let q : n (owner m) + 0 ≡ n (owner m) = omega arith in rw q
outside-join shown n (x ∷ ms) m =
    rw (outside-join shown (counted n x) ms m, bump (eqb (owner m) (owner x)) (n (owner m)) (own (owner m) ms), cons-append)

-- Moves behind those that count every zone's own events up to what is shown of it are not inside.
none-later : (shown n : ℕ → ℕ) (ms : List Move) → ((k : ℕ) → shown k ≤ n k) → inside_from shown n ms ≡ []
none-later shown n [] h = refl
none-later shown n (m ∷ ms) h =
    rw (le-ltb (n (owner m)) (shown (owner m)) (h (owner m)))
    (none-later shown (counted n m) ms (λ k. on-keeps (λ (c : ℕ). shown k ≤ c) (eqb k (owner m)) suc (n k) (λ q. omega arith) (h k)))

pub inside-later : (shown n : ℕ → ℕ) (xs ys : List Move) → ((k : ℕ) → shown k ≤ n k + own k xs)
    → inside_from shown n (xs ++ ys) ≡ inside_from shown n xs
inside-later shown n [] ys h = none-later shown n ys (λ k. omega (arith, h k))
inside-later shown n (x ∷ xs) ys h =
    ap (cons-if (ltb (n (owner x)) (shown (owner x))) x)
    (inside-later shown (counted n x) xs ys (λ k. omega (arith, h k, bump (eqb k (owner x)) (n k) (own k xs))))

-- The events that a checkpoint keeps.
abbrev pub events_at : Checkpoint → ℕ
events_at None = 0
events_at (Mutable s) = s.events
events_at (Permanent s) = s.events

-- n may be what is shown in the end of a zone that has this checkpoint and so many events now; p: whether it ends in F.
abbrev pub Fit : Bool → Checkpoint → ℕ → ℕ → Type 0
Fit true None ev n = ev ≤ n
Fit true (Mutable s) ev n = n ≡ s.events
Fit true (Permanent s) ev n = n ≡ s.events
Fit false k ev n = n ≡ 0

abbrev FitZ : Bool → Local → ℕ → Type 0
FitZ p z n = Fit p z.checkpoint z.events n

abbrev pub Fits : (ℕ → Bool) → (ℕ → ℕ) → History → Type 0
Fits F shown h = (z : ℕ) → FitZ (F z) (h.now.zone z) (shown z)

-- A checkpoint does not keep more events than there were.
abbrev Past : Local → Type 0
Past z = events_at z.checkpoint ≤ z.events

none_inside : (ev n : ℕ) → n ≡ 0 → ltb ev n ≡ false
none_inside ev n e = le-ltb ev n (omega arith)

-- What fits after a zone's event fits before it, and says whether the event is inside: it is if it comes before the checkpoint.
fit-own : (p : Bool) (k : Checkpoint) (ev n : ℕ) → events_at k ≤ ev → Fit p k (ev + 1) n
    → Fit p k ev n × (ltb ev n ≡ p && not (has_checkpoint k))
fit-own false k ev n le f = (f, none_inside ev n f)
fit-own true None ev n le f = (omega arith, lt-ltb ev n (omega arith))
fit-own true (Mutable s) ev n le f = (f, le-ltb ev n (omega arith))
fit-own true (Permanent s) ev n le f = (f, le-ltb ev n (omega arith))

fit-receive : (p : Bool) (k : Checkpoint) (now : Saved) (flag : Bool) (n : ℕ) → events_at k ≤ now.events
    → Fit p (checkpoint_after k now flag) (now.events + 1) n
    → Fit p k now.events n × (ltb now.events n ≡ p && not (has_checkpoint k || flag))
fit-receive false k now flag n le f = (f, none_inside now.events n f)
fit-receive true None now true n le f = (omega arith, le-ltb now.events n (omega arith))
fit-receive true None now false n le f = (omega arith, lt-ltb now.events n (omega arith))
fit-receive true (Mutable s) now flag n le f = (f, le-ltb now.events n (omega arith))
fit-receive true (Permanent s) now flag n le f = (f, le-ltb now.events n (omega arith))

fit-made : (p : Bool) (k : Checkpoint) (now : Saved) (n : ℕ) → Fit p (made_permanent k now) now.events n → Fit p k now.events n
fit-made false k now n f = f
fit-made true None now n f = omega arith
fit-made true (Mutable s) now n f = f
fit-made true (Permanent s) now n f = f

past_after : (k : Checkpoint) (now : Saved) (flag : Bool) → events_at k ≤ now.events
    → events_at (checkpoint_after k now flag) ≤ now.events + 1
past_after None now true le = omega arith
past_after None now false le = omega arith
past_after (Mutable s) now flag le = omega arith
past_after (Permanent s) now flag le = omega arith

past-made : (k : Checkpoint) (now : Saved) → events_at k ≤ now.events → events_at (made_permanent k now) ≤ now.events
past-made None now le = omega arith
past-made (Mutable s) now le = le
past-made (Permanent s) now le = le

pub record Counts (h : History) : Type 0 where
  pub number : (z : ℕ) → (h.now.zone z).events ≡ own z (moves_of h)
  pub past : (z : ℕ) → Past (h.now.zone z)
  pub parts : (F : ℕ → Bool) (shown : ℕ → ℕ) → Fits F shown h
      → (inside shown (moves_of h) ≡ map untag (keep (in_first F) h.log))
      × (outside shown (moves_of h) ≡ map untag (keep (in_second F) h.log))

-- One more event e, of a zone that changes by g.
module _ (h t : History) (e : Event) (g : Local → Local) (logged : t.log ≡ join e h.log)
    (changed : (k : ℕ) → t.now.zone k ≡ on (eqb k (zone_of e)) g (h.now.zone k))
    (counts : (z : Local) → (g z).events ≡ z.events + 1) (keeps : (z : Local) → Past z → Past (g z))
    (fits : (p : Bool) (z : Local) (n : ℕ) → Past z → FitZ p (g z) n → FitZ p z n)
    (tests : (p : Bool) (n : ℕ) → Past (h.now.zone (zone_of e)) → FitZ p (g (h.now.zone (zone_of e))) n
    → ltb (h.now.zone (zone_of e)).events n ≡ p && not (is_post e)) (before : Counts h) where
  moves-join : moves_of t ≡ join (untag e) (moves_of h)
  moves-join = rw logged (map-join untag h.log e)

  -- The event's count is inside exactly if it is of the first part.
  test : (F : ℕ → Bool) (shown : ℕ → ℕ) → Fits F shown t
      → ltb (0 + own (owner (untag e)) (moves_of h)) (shown (owner (untag e))) ≡ in_first F e
  test F shown f =
      let q : t.now.zone (zone_of e) ≡ g (h.now.zone (zone_of e))
      = changed (zone_of e) ∙ on-true (eqb (zone_of e) (zone_of e)) g (h.now.zone (zone_of e)) (eqb_refl (zone_of e)) in
      rw (owner-untag e, zero-add, ← before.number (zone_of e))
      (tests (F (zone_of e)) (shown (zone_of e)) (before.past (zone_of e))
      (subst (λ (k : Local). FitZ (F (zone_of e)) k (shown (zone_of e))) q (f (zone_of e))))

  fits-before : (F : ℕ → Bool) (shown : ℕ → ℕ) → Fits F shown t → Fits F shown h
  fits-before F shown f z = on-back (λ (k : Local). FitZ (F z) k (shown z)) (eqb z (zone_of e)) g (h.now.zone z)
      (fits (F z) (h.now.zone z) (shown z) (before.past z)) (subst (λ (k : Local). FitZ (F z) k (shown z)) (changed z) (f z))

  one-counts : Counts t
  one-counts = record {
    number = λ z. ap (λ (k : Local). k.events) (changed z)
        ∙ on-map (λ (k : Local). k.events) (eqb z (zone_of e)) g suc (h.now.zone z)
        (counts (h.now.zone z) ∙ add-one (h.now.zone z).events)
        ∙ ap (on (eqb z (zone_of e)) suc) (before.number z)
        ∙ sym (ap (own z) moves-join ∙ own-join z (moves_of h) (untag e)
        ∙ ap (λ k. on (eqb z k) suc (own z (moves_of h))) (owner-untag e));
    past = λ z. subst Past (sym (changed z)) (on-keeps Past (eqb z (zone_of e)) g (h.now.zone z) (keeps (h.now.zone z))
        (before.past z));
    parts = λ F shown f. let q = before.parts F shown (fits-before F shown f) in (
      rw (moves-join, logged, inside-join, keep_join (in_first F), map-append, map-if, test F shown f, q.0),
      rw (moves-join, logged, outside-join, keep_join (in_second F), map-append, map-if, test F shown f, q.1),
    );
  }

turn-counts : (b set : ℕ) (h : History) → Counts h → Counts (turn_h b set h)
turn-counts b set h q = record {
  number = λ z. on_same (λ (k : Local). k.events) (eqb z b) requested (h.now.zone z) refl ∙ q.number z;
  past = λ z. on-keeps Past (eqb z b) requested (h.now.zone z) (past-made (h.now.zone z).checkpoint (saved (h.now.zone z)))
      (q.past z);
  parts = λ F shown f. q.parts F shown (λ z. on-back (λ (k : Local). FitZ (F z) k (shown z)) (eqb z b) requested (h.now.zone z)
      (fit-made (F z) (h.now.zone z).checkpoint (saved (h.now.zone z)) (shown z)) (f z));
}

pub counts-kept : Kept Counts
counts-kept = record {
  at_own = λ x h _ _ q. one-counts h (own_h x h) (acting_of x h.now) (acted x) refl (λ k. refl) (λ z. refl)
      (λ z le. omega arith)
      (λ p z n le f. (fit-own p z.checkpoint z.events n le f).0)
      (λ p n le f. (fit-own p (h.now.zone x.zone).checkpoint (h.now.zone x.zone).events n le f).1) q;
  at-receive = λ a b c flag l h _ _ q. one-counts h (receive_h a b c flag h) (receiving_of a b c flag h.now) (received a c flag) refl
      (λ k. refl) (λ z. refl)
      (λ z le. past_after z.checkpoint (saved z) flag le)
      (λ p z n le f. (fit-receive p z.checkpoint (saved z) flag n le f).0)
      (λ p n le f. (fit-receive p (h.now.zone b).checkpoint (saved (h.now.zone b)) flag n le f).1) q;
  at-check = λ a b c h _ q. record { number = q.number; past = q.past; parts = q.parts };
  at-checked = λ a b c flag l h _ _ q. record { number = q.number; past = q.past; parts = q.parts };
  at_drop = λ a b set l h _ _ q. record { number = q.number; past = q.past; parts = q.parts };
  at-request = λ a b set l h _ _ q. turn-counts b set (pop_h a b h)
      (record { number = q.number; past = q.past; parts = q.parts });
  at-start = λ a h _ _ q. turn-counts a nobody (begin_h a h) (record { number = q.number; past = q.past; parts = q.parts });
}

pub counts-open : (v : Opening) → Counts (open_h v)
counts-open v = record { number = λ z. refl; past = λ z. omega arith; parts = λ F shown f. (refl, refl) }
