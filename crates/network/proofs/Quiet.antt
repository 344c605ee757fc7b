-- Calls on a network in which no request waits: where no start is accepted none is sent, and what is shown of each zone stays.
use mathlib.Core.Path.{◌≡◌, refl, sym, ◌∙◌, ap}
use mathlib.Core.Bool.{Bool, true, false, ◌&&◌, ◌||◌, cond, and-false, true≢false}
use mathlib.Core.Logic.{◌≢◌, ◌⊎◌, inl, inr}
use mathlib.Core.List.{List, [], ◌∷◌}
use Prim.Native.Nat.{ℕ, zero, suc, ◌+◌, ◌≤◌}
use native.Mathlib.Omega.{arith}
use lib.Dec.{eqb}
use borrow.Author.Tests.{ne_eqb}
use Rattle.rules.specs.Change.{cons-if}
use Rattle.rules.specs.Opening.{Opening}
use Rattle.rules.specs.Sets.{size}
use Rattle.rules.specs.Site.{Call, send, receive, start, gate}
use Rattle.rules.specs.Zone.{is_permanent}
use Rattle.rules.specs.declared.Checkpoint.{Checkpoint}
use Rattle.rules.specs.declared.Checkpoint.TheVariants.{None, Mutable, Permanent}
use Rattle.rules.proofs.Members.{size-nobody}
use Rattle.rules.proofs.Sums.{sum-zero, sums-zero}
use Rattle.rules.proofs.Tests.{Same, same?, not-both}
use Rattle.network.specs.Network.{Network, open_network, answer, is_accepted, made, after, accepted_calls, starts_in}
use Rattle.network.specs.Polls.{step_of, sent_in, taken_in, takes_request, sent_by, taken_by}
use Rattle.rules.proofs.ShownCheckpoint.{shown, by-shown}
use Rattle.network.proofs.Effects.{is_start, sends_to, turns, effect}
use Rattle.network.proofs.Balance.{requests_waiting, OnSite, refused-at, site-made, site-open, sent-in, none-begins, call-balance, none-anywhere}

-- What is shown of zone k, and whether its checkpoint is permanent.
abbrev pub shown_at : Network → ℕ → Checkpoint
shown_at net k = shown (net.zone k).checkpoint

abbrev pub permanent_at : Network → ℕ → Bool
permanent_at net k = is_permanent (net.zone k).checkpoint

pub shown-permanent : (net next : Network) (k : ℕ) → shown_at next k ≡ shown_at net k → permanent_at next k ≡ permanent_at net k
shown-permanent net next k = by-shown is_permanent (λ s. refl) (next.zone k).checkpoint (net.zone k).checkpoint

-- The number of accepted starts.
abbrev pub starts : List Call → Network → ℕ
starts cs net = starts_in (accepted_calls cs net)

abbrev pub start_in : Call → Network → ℕ
start_in c net = cond (is_accepted (answer c net) && is_start c) 1 0

pub starts_more : (c : Call) (cs : List Call) (net : Network) → starts (c ∷ cs) net ≡ start_in c net + starts cs (made c net)
starts_more c cs net = go (is_accepted (answer c net)) c (accepted_calls cs (made c net))
  where
    go : (p : Bool) (c : Call) (l : List Call) → starts_in (cons-if p c l) ≡ cond (p && is_start c) 1 0 + starts_in l
    go false c l = omega arith
    go true (send a b cars) l = omega arith
    go true (receive a b) l = omega arith
    go true (start a) l = omega arith
    go true (gate d a cars) l = omega arith

-- A call by which its zone may turn is counted: as a request taken, or as a start.
not-turned : (p q s t : Bool) → cond {A = ℕ} (p && q && t) 1 0 ≡ 0 → cond {A = ℕ} (q && s) 1 0 ≡ 0 → p && (q && (s || t)) ≡ false
not-turned false q s t taken started = refl
not-turned true false s t taken started = refl
not-turned true true true t taken started = absurd (omega arith)
not-turned true true false true taken started = absurd (omega arith)
not-turned true true false false taken started = refl

-- What is shown of a permanent zone stays, whatever the calls; so does what is shown of a zone that takes no request, where no start is
-- accepted.
pub shown-stays : (cs : List Call) (net : Network) (k : ℕ)
    → (permanent_at net k ≡ true) ⊎ ((starts cs net ≡ 0) × (taken_by cs net k ≡ 0)) → shown_at (after cs net) k ≡ shown_at net k
shown-stays [] net k h = refl
shown-stays (c ∷ cs) net k (inl p) =
    let e = (effect c net).shown-kept k (inl p) in
    shown-stays cs (made c net) k (inl (shown-permanent net (made c net) k e ∙ p)) ∙ e
shown-stays (c ∷ cs) net k (inr h) =
    let s = starts_more c cs net in
    let e = (effect c net).shown-kept k (inr (not-turned (eqb k (step_of c)) (is_accepted (answer c net)) (is_start c) (takes_request c net)
    (omega (arith, h.1)) (omega (arith, h.0)))) in
    shown-stays cs (made c net) k (inr (omega (arith, h.0), omega (arith, h.1))) ∙ e

-- Where the same is shown of a zone before calls and behind them, it is shown on the way too.
pub shown-between : (ys zs : List Call) (net : Network) (k : ℕ) → shown_at (after zs (after ys net)) k ≡ shown_at net k
    → shown_at (after ys net) k ≡ shown_at net k
shown-between ys zs net k e = go (permanent_at net k) refl (permanent_at (after ys net) k) refl
  where
    none : (c : Checkpoint) → is_permanent c ≡ false → shown c ≡ None
    none None e = refl
    none (Mutable s) e = refl
    none (Permanent s) e = absurd (true≢false e)

    go : (p : Bool) → permanent_at net k ≡ p → (q : Bool) → permanent_at (after ys net) k ≡ q → shown_at (after ys net) k ≡ shown_at net k
    go true p b q = shown-stays ys net k (inl p)
    go false p true q = sym (shown-stays zs (after ys net) k (inl q)) ∙ e
    go false p false q = none ((after ys net).zone k).checkpoint q ∙ sym (none (net.zone k).checkpoint p)

-- On a quiet network of n zones no request waits.
pub record Quiet (n : ℕ) (net : Network) : Type 0 where
  pub site : OnSite n net
  pub none-waits : requests_waiting n net ≡ 0

pub quiet-open : (n : ℕ) (o : Opening) → Quiet n (open_network n o)
quiet-open n o = record { site = site-open n o; none-waits = sums-zero n (λ i j. 0) (λ i j. refl) }

-- A call on it takes no request, sends none if it is no start, and leaves it quiet if it sends none.
module _ (n : ℕ) (net : Network) (quiet : Quiet n net) (c : Call) where
  none_first : takes_request c net ≡ false
  none_first = go c
    where
      go : (c : Call) → takes_request c net ≡ false
      go (send a b cars) = refl
      go (receive a b) = none-begins (net.channel a b) (none-anywhere n net quiet.site quiet.none-waits a b)
      go (start a) = refl
      go (gate d a cars) = refl

  none-taken : (k : ℕ) → taken_in c net k ≡ 0
  none-taken k = rw (none_first, and-false (eqb k (step_of c) && is_accepted (answer c net)))

  none-sent : start_in c net ≡ 0 → size (sends_to c net) ≡ 0
  none-sent e = ap size ((effect c net).none-sent (not-turned true (is_accepted (answer c net)) (is_start c) (takes_request c net)
      (rw (none_first, and-false (is_accepted (answer c net)))) e)) ∙ size-nobody

  quiet-made : size (sends_to c net) ≡ 0 → Quiet n (made c net)
  quiet-made e = record {
    site = site-made n net quiet.site c;
    none-waits = omega (arith, call-balance n net quiet.site c, quiet.none-waits, sum-zero n (λ k. sent_in c net k) none);
  }
    where
      zero-either : (p : Bool) → cond {A = ℕ} p 0 0 ≡ 0
      zero-either true = refl
      zero-either false = refl

      none : (k : ℕ) → sent_in c net k ≡ 0
      none k = sent-in c net k ∙ rw e (zero-either (eqb k (step_of c)))

module _ (n : ℕ) where
  -- Where no start is accepted, it stays quiet, no request is taken, and what is shown of each zone stays.
  pub quiet-after : (cs : List Call) (net : Network) → Quiet n net → starts cs net ≡ 0
      → Quiet n (after cs net) × ((k : ℕ) → taken_by cs net k ≡ 0)
  quiet-after [] net quiet e = (quiet, λ k. refl)
  quiet-after (c ∷ cs) net quiet e =
      let s = starts_more c cs net in
      let r = quiet-after cs (made c net) (quiet-made n net quiet c (none-sent n net quiet c (omega arith))) (omega arith) in
      (r.0, λ k. let t = none-taken n net quiet c k in omega (arith, r.1 k))

  pub shown-quiet : (cs : List Call) (net : Network) → Quiet n net → starts cs net ≡ 0 → (k : ℕ) → shown_at (after cs net) k ≡ shown_at net k
  shown-quiet cs net quiet e k = shown-stays cs net k (inr (e, (quiet-after cs net quiet e).1 k))

  -- So a zone is permanent only behind an accepted start.
  pub started-before : (o : Opening) (cs : List Call) (k : ℕ) → permanent_at (after cs (open_network n o)) k ≡ true
      → 1 ≤ starts cs (open_network n o)
  started-before o cs k p = go (starts cs (open_network n o)) refl
    where
      go : (m : ℕ) → starts cs (open_network n o) ≡ m → 1 ≤ m
      go zero e = absurd (true≢false (sym p
          ∙ shown-permanent (open_network n o) (after cs (open_network n o)) k (shown-quiet cs (open_network n o) (quiet-open n o) e k)))
      go (suc m) e = omega arith

  -- What is shown of a zone whose number is above the count stays.
  pub shown-off : (cs : List Call) (net : Network) → OnSite n net → (k : ℕ) → n ≤ k → shown_at (after cs net) k ≡ shown_at net k
  shown-off [] net site k h = refl
  shown-off (c ∷ cs) net site k h =
      shown-off cs (made c net) (site-made n net site c) k h
      ∙ (effect c net).shown-kept k (inr (not-both (eqb k (step_of c)) (turns c net)
      (λ e f. true≢false (sym f ∙ rw (refused-at n net site c k e h)))))

-- ---- a silent zone: it neither sends nor takes a request, and is permanent at the end

module _ (n k : ℕ) where
  -- At most one start is accepted, and none if zone k was permanent before.
  pub record Silent (cs : List Call) (net : Network) : Type 0 where
    pub quiet : Quiet n net
    pub one : starts cs net ≤ 1
    pub none_more : permanent_at net k ≡ true → starts cs net ≡ 0
    pub none-sent : sent_by cs net k ≡ 0
    pub none-taken : taken_by cs net k ≡ 0
    pub permanent : permanent_at (after cs net) k ≡ true

  -- Then it stays quiet, and nothing else is shown of the other zones.
  abbrev Stays : List Call → Network → Type 0
  Stays cs net = Quiet n (after cs net) × ((j : ℕ) → j ≢ k → shown_at (after cs net) j ≡ shown_at net j)

  module _ (c : Call) (cs : List Call) (net : Network) (b : Silent (c ∷ cs) net) where
    number : starts (c ∷ cs) net ≡ start_in c net + starts cs (made c net)
    number = starts_more c cs net

    rest : start_in c net ≡ 1 → starts cs (made c net) ≡ 0
    rest s = omega (arith, number, b.one)

    -- The first call is no start.
    traffic-first : start_in c net ≡ 0 → (Silent cs (made c net) → Stays cs (made c net)) → Stays (c ∷ cs) net
    traffic-first s ih =
        let z : starts (c ∷ []) net ≡ 0 = starts_more c [] net ∙ omega (arith, s) in
        let e = shown-quiet n (c ∷ []) net b.quiet z in
        let r = ih (record {
          quiet = (quiet-after n (c ∷ []) net b.quiet z).0;
          one = omega (arith, number, b.one);
          none_more = λ p. omega (arith, number, b.none_more (sym (shown-permanent net (made c net) k (e k)) ∙ p));
          none-sent = omega (arith, b.none-sent);
          none-taken = omega (arith, b.none-taken);
          permanent = b.permanent;
        }) in
        (r.0, λ j ne. r.1 j ne ∙ e j)

    -- It is the start of zone k, which had no target.
    own_first : start_in c net ≡ 1 → k ≡ step_of c → eqb k (step_of c) ≡ true → Stays (c ∷ cs) net
    own_first s q e =
        let w : sent_in c net k ≡ size (sends_to c net) = sent-in c net k ∙ rw e in
        let quiet = quiet-made n net b.quiet c (omega (arith, b.none-sent)) in (
          (quiet-after n cs (made c net) quiet (rest s)).0,
          λ j ne. shown-quiet n cs (made c net) quiet (rest s) j
              ∙ (effect c net).shown-kept j (inr (rw (ne_eqb j (step_of c) (λ w. ne (w ∙ sym q))))),
        )

    -- It is not the start of another zone: zone k would turn permanent by no request and no start.
    other-first : start_in c net ≡ 1 → eqb k (step_of c) ≡ false → ⊥
    other-first s e =
        let same : shown_at (after cs (made c net)) k ≡ shown_at net k
        = shown-stays cs (made c net) k (inr (rest s, omega (arith, b.none-taken))) ∙ (effect c net).shown-kept k (inr (rw e)) in
        omega (arith, number, b.none_more (sym (shown-permanent net (after cs (made c net)) k same) ∙ b.permanent))

    start_first : start_in c net ≡ 1 → Same k (step_of c) → Stays (c ∷ cs) net
    start_first s (inl q) = own_first s q.0 q.1
    start_first s (inr q) = absurd (other-first s q.1)

  pub silent-stays : (cs : List Call) (net : Network) → Silent cs net → Stays cs net
  silent-stays [] net b = (b.quiet, λ j _. refl)
  silent-stays (c ∷ cs) net b = go (is_accepted (answer c net) && is_start c) refl (silent-stays cs (made c net))
    where
      go : (p : Bool) → is_accepted (answer c net) && is_start c ≡ p → (Silent cs (made c net) → Stays cs (made c net)) → Stays (c ∷ cs) net
      go true e ih = start_first c cs net b (rw e) (same? k (step_of c))
      go false e ih = traffic-first c cs net b (rw e) ih
