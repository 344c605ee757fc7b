-- Questions 12 and 13 are answered yes exactly when the recording of the rules is complete.
use mathlib.Core.Path.{◌≡◌, refl, sym, ◌∙◌, ap, subst}
use mathlib.Core.Bool.{Bool, true, false, cond, ◌||◌, not, true≢false, false≢true}
use mathlib.Core.Logic.{◌⊎◌, inl, inr}
use mathlib.Core.List.{[]}
use Prim.Native.Nat.{ℕ, zero, suc, ◌/◌, ◌%◌, ◌≤◌, ◌<◌}
use native.Mathlib.Omega.{arith}
use lib.Dec.{ltb}
use borrow.Author.Tests.{ltb-true, lt-ltb, not-true}
use Rattle.rules.specs.Zone.{is_permanent, opened}
use Rattle.rules.specs.Site.{waits}
use Rattle.rules.specs.Cut.{run, Complete}
use Rattle.rules.specs.declared.Local.{Local}
use Rattle.rules.proofs.Tests.{and_right, or_cases}
use Rattle.channel.specs.Channels.{channel_index, items_on, is_channel}
use Rattle.rules.specs.Below.{any_below}
use Rattle.run.specs.Claims.{WholeRun}
use Rattle.run.specs.Model.{site_of}
use Rattle.run.specs.State.{zone_at, has_started, count_of}
use Rattle.run.specs.declared.Run.{Run}
use Rattle.run.proofs.BelowLaws.{all-at, all_of, any_none}
use Rattle.run.proofs.Outcome.{is_open}
use Rattle.run.proofs.Parts.{on_site, between, zone-on, channel-on}
use Rattle.journal.specs.Writing.{is_replayed}
use Rattle.recording.specs.Call.{rule_calls_in, no_requests}
use Rattle.recording.proofs.Zones.{words_at, first_site, reached, site-is}
use Rattle.journal.specs.Format.{opened_with}

any_some : (n : ℕ) (f : ℕ → Bool) → any_below n f ≡ true → (i : ℕ) × (i < n) × (f i ≡ true)
any_some zero f e = absurd (false≢true e)
any_some (suc n) f e = go (any_some n f) (or_cases (any_below n f) (f n) e)
  where
    go : (any_below n f ≡ true → (i : ℕ) × (i < n) × (f i ≡ true)) → (any_below n f ≡ true) ⊎ (f n ≡ true)
        → (i : ℕ) × (i < suc n) × (f i ≡ true)
    go more (inl h) = let (i, b, q) = more h in (i, omega arith, q)
    go more (inr h) = (n, omega arith, h)

any_at : (n : ℕ) (f : ℕ → Bool) (i : ℕ) → i < n → f i ≡ true → any_below n f ≡ true
any_at n f i b h = go (any_below n f) refl
  where
    go : (p : Bool) → any_below n f ≡ p → p ≡ true
    go true e = refl
    go false e = absurd (true≢false (sym h ∙ any_none n f e i b))

-- "A recording is started once a zone is firm".
started-is : (r : Run) → has_started r.head ≡ true → (z : ℕ) × (is_permanent ((site_of r).zone z).checkpoint ≡ true)
unfolding has_started
started-is r e =
    let (z, h, q) = any_some (count_of r.head) (λ i. is_permanent (zone_at r.head i).checkpoint) e in
    (z, ap (λ (x : Local). is_permanent x.checkpoint) (zone-on r z h) ∙ q)

is-started : (r : Run) (z : ℕ) → is_permanent ((site_of r).zone z).checkpoint ≡ true → has_started r.head ≡ true
unfolding has_started
is-started r z q = go (ltb z (count_of r.head)) refl q
  where
    go : (p : Bool) → ltb z (count_of r.head) ≡ p → is_permanent (cond p (zone_at r.head z) (opened z 0)).checkpoint ≡ true
        → any_below (count_of r.head) (λ i. is_permanent (zone_at r.head i).checkpoint) ≡ true
    go true e q = any_at (count_of r.head) (λ i. is_permanent (zone_at r.head i).checkpoint) z (ltb-true z (count_of r.head) e) q
    go false e q = absurd (false≢true q)

-- "no line holds a request".
quiet_is : (r : Run) → count_of r.head ≤ 8 → no_requests (count_of r.head) r.channels ≡ true → (i j : ℕ) → waits ((site_of r).channel i j) ≡ false
unfolding no_requests
quiet_is r most e i j = go (on_site (count_of r.head) i j) refl
  where
    go : (p : Bool) → on_site (count_of r.head) i j ≡ p → waits (cond p (items_on r.channels (channel_index i j)) []) ≡ false
    go true o =
        let b = between (count_of r.head) i j o in
        let h : not (is_channel (count_of r.head) (channel_index i j)) || not (waits (items_on r.channels (channel_index i j))) ≡ true =
        all-at 64 (λ k. not (is_channel (count_of r.head) k) || not (waits (items_on r.channels k))) e (channel_index i j) (omega arith) in
        not-true (waits (items_on r.channels (channel_index i j))) (rw (and_right (ltb j 8) (is_channel (count_of r.head) (channel_index i j)) o) at h)
    go false o = refl

is-quiet : (r : Run) → ((i j : ℕ) → waits ((site_of r).channel i j) ≡ false) → no_requests (count_of r.head) r.channels ≡ true
unfolding no_requests
is-quiet r h = all_of 64 _ (λ k b. go k (is_channel (count_of r.head) k) refl)
  where
    go : (k : ℕ) (p : Bool) → is_channel (count_of r.head) k ≡ p → not p || not (waits (items_on r.channels k)) ≡ true
    go k true c =
        let i = k / 8 in
        let j = k % 8 in
        let f : channel_index i j ≡ k = omega arith in
        let g : j < 8 = omega arith in
        let o : on_site (count_of r.head) i j ≡ true = rw (lt-ltb j 8 g, f) c in
        let q : waits (items_on r.channels (channel_index i j)) ≡ false = rw (channel-on r i j o) at (h i j) in
        rw (← f, q)
    go k false c = refl

module _ (r : Run) (w : WholeRun r) (e : is_replayed r ≡ true) where
  pub complete-if : has_started r.head ≡ true → no_requests (count_of r.head) r.channels ≡ true
      → Complete (run (rule_calls_in (words_at r)) (first_site r))
  complete-if s q =
      subst Complete (site-is r w e)
      (started-is r s, quiet_is r (is_open (opened_with r) (reached r w e).opened).fits.most q)

  pub if-complete : Complete (run (rule_calls_in (words_at r)) (first_site r))
      → (has_started r.head ≡ true) × (no_requests (count_of r.head) r.channels ≡ true)
  if-complete c =
      let ((z, p), q) = subst Complete (sym (site-is r w e)) c in
      (is-started r z p, is-quiet r q)
