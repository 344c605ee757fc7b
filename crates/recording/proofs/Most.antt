-- How large what a recording shows can be: its total, and the parts of its park.
use mathlib.Core.Path.{◌≡◌, refl, sym, ap, subst}
use mathlib.Core.Bool.{Bool, true, false, cond}
use mathlib.Core.List.{List, [], ◌∷◌, ◌++◌, map}
use Prim.Native.Nat.{ℕ, suc, ◌+◌, ◌*◌, ◌/◌, ◌%◌, ◌≤◌, ◌<◌}
use native.Mathlib.Omega.{arith}
use lib.Dec.{ltb}
use lib.ListN.{length, length-map}
use lib.Seq.{length-take-le}
use Rattle.rules.specs.Below.{sum, sum_below}
use Rattle.rules.specs.Change.{cons-if}
use Rattle.rules.specs.Cut.{move_of, moves}
use Rattle.rules.specs.Park.{Move, entries, is_inside, counted, inside_from}
use Rattle.rules.specs.Site.{Site, Call, send, receive, start, gate, entering, step_s}
use Rattle.rules.specs.declared.Direction.TheVariants.{In, Out}
use Rattle.rules.proofs.Conservation.{entries-append}
use Rattle.rules.proofs.Lists.{All}
use Rattle.rules.proofs.Sums.{sum-at}
use Rattle.rules.proofs.Tests.{and_right}
use Rattle.rules.proofs.Ungated.{none-through}
use Rattle.channel.specs.Channels.{channel_index, is_channel}
use Rattle.run.specs.Claims.{WholeRun, Typed}
use Rattle.run.specs.Layout.{send_record}
use Rattle.run.specs.Lists.{call_of}
use Rattle.run.specs.State.{has_started, count_of}
use Rattle.run.specs.declared.Run.{Run}
use Rattle.run.specs.declared.SiteCall.{SiteCall}
use Rattle.run.specs.declared.SiteCall.TheVariants.{Send, Receive, Start, Gate}
use Rattle.run.proofs.Outcome.{is_open}
use Rattle.run.proofs.Parts.{on_site, between}
use Rattle.journal.specs.Format.{opened_with}
use Rattle.journal.specs.Writing.{is_replayed}
use Rattle.recording.specs.Call.{rule_calls_in, snapshot_of, no_requests, recorded_total}
use Rattle.recording.specs.Layout.{join_below, channel_words, item_words}
use Rattle.recording.proofs.Bounds.{length-join, run_sound, items-few}
use Rattle.recording.proofs.Chain.{Chain, done, next, chain}
use Rattle.recording.proofs.Shows.{snapshot-fits, recording-balances, recording-cuts}
use Rattle.recording.proofs.Zones.{words_at, first_run, first_site, reached}

-- The cars that calls bring in are the entries among their moves, whatever the site.
entries-of : (c : Call) (s : Site) → entries (moves (c ∷ []) s) ≡ entering c
entries-of (send a b cars) s = (none-through (send a b cars ∷ []) s (refl, tt)).0
entries-of (receive a b) s = (none-through (receive a b ∷ []) s (refl, tt)).0
entries-of (start a) s = refl
entries-of (gate In a cars) s = omega arith
entries-of (gate Out a cars) s = refl

entries-all : (cs : List Call) (s : Site) → entries (moves cs s) ≡ sum (map entering cs)
entries-all [] s = refl
entries-all (c ∷ cs) s =
    omega (
      arith,
      entries-append (move_of c s) (moves cs (step_s c s)),
      entries-append (move_of c s) [],
      entries-of c s,
      entries-all cs (step_s c s),
    )

-- Those inside a recording are some of them.
entries-inside : (shown n : ℕ → ℕ) (ms : List Move) → entries (inside_from shown n ms) ≤ entries ms
entries-inside shown n [] = omega arith
entries-inside shown n (m ∷ ms) = go (is_inside shown n m) (entries-inside shown (counted n m) ms)
  where
    rest : List Move
    rest = inside_from shown (counted n m) ms

    go : (p : Bool) → entries rest ≤ entries ms → entries (cons-if p m rest) ≤ entries (m ∷ ms)
    go true h = omega (arith, entries-append (m ∷ []) rest, entries-append (m ∷ []) ms)
    go false h = omega (arith, entries-append (m ∷ []) ms)

-- What calls bring in where each brings in at most so many cars; a start among them brings in none.
module _ (most : ℕ) where
  abbrev Few : Call → Type 0
  Few c = entering c ≤ most

  entering-few : (cs : List Call) → All Few cs → sum (map entering cs) ≤ most * length cs
  entering-few [] h = omega arith
  entering-few (c ∷ cs) h = omega (arith, h.0, entering-few cs h.1)

  entering-start : (before : List Call) (a : ℕ) (after : List Call) → All Few (before ++ (start a ∷ after))
      → sum (map entering (before ++ (start a ∷ after))) + most ≤ most * length (before ++ (start a ∷ after))
  entering-start [] a after h = omega (arith, entering-few after h.1)
  entering-start (c ∷ before) a after h = omega (arith, h.0, entering-start before a after h.1)

-- The cars of a record are a byte, and each accepted record is of one call.
typed-few : (c : SiteCall) → Typed c → entering (call_of c) ≤ 255
typed-few (Send from to cars) t = omega arith
typed-few (Receive from to) t = omega arith
typed-few (Start zone) t = omega arith
typed-few (Gate In zone cars) t = omega arith
typed-few (Gate Out zone cars) t = omega arith

calls-few : {ws : List ℕ} {r t : Run} → Chain ws r t → All (λ c. entering c ≤ 255) (rule_calls_in ws) × (length (rule_calls_in ws) ≡ length ws)
calls-few done = (tt, refl)
calls-few (next c d f typed a more) = let (h, l) = calls-few more in rw d ((typed-few c typed, h), ap suc l)

-- One of some lists that are joined is not longer than all of them.
part-few : (n : ℕ) (f : ℕ → List ℕ) (k most : ℕ) → k < n → length (join_below n f) ≤ most → length (f k) ≤ most
part-few n f k most h few = omega (arith, sum-at n (λ i. length (f i)) k h, length-join n f)

module _ (r : Run) (w : WholeRun r) (e : is_replayed r ≡ true) where
  abbrev count : ℕ
  count = count_of r.head

  -- At most 65,535 cars are there at the opening, and each of at most 1,000 records but the start brings in at most 255: 65,535 + 999 × 255.
  pub total-most : has_started r.head ≡ true → no_requests (count_of r.head) r.channels ≡ true → recorded_total r ≤ 320280
  total-most s q =
      let h = reached r w e in
      let cs = rule_calls_in (words_at r) in
      let shown = (snapshot_of r).events in
      let o = is_open (opened_with r) h.opened in
      let (few, number) = calls-few (chain (words_at r) 0 0 (first_run r) h.accepted) in
      let (a, begun) = (recording-cuts r w e s q []).initiator in
      let first = entering-start 255 begun.before a begun.after (subst (All (λ c. entering c ≤ 255)) begun.calls few) in
      let brought : sum (map entering cs) + 255 ≤ 255 * length cs =
      subst (λ (cs : List Call). sum (map entering cs) + 255 ≤ 255 * length cs) (sym begun.calls) first in
      let words : length (words_at r) ≡ r.head.records =
      length-take-le r.head.records r.journal (omega (arith, w.journal, (run_sound r w e).records)) in
      omega (
        arith,
        recording-balances r w e s q,
        entries-inside shown (λ k. 0) (moves cs (first_site r)),
        entries-all cs (first_site r),
        brought,
        number,
        words,
        (run_sound r w e).records,
        o.fits.cars,
      )

  -- The cars on a channel are a part of the total.
  pub channel-most : (i j : ℕ) → sum ((snapshot_of r).park.channel i j) ≤ recorded_total r
  channel-most i j = go (on_site count i j) refl
    where
      go : (p : Bool) → on_site count i j ≡ p → sum ((snapshot_of r).park.channel i j) ≤ recorded_total r
      go true o =
          let b = between count i j o in
          let cars : ℕ → ℕ → ℕ = λ i j. sum ((snapshot_of r).park.channel i j) in
          omega (arith, sum-at count (cars i) j b.to, sum-at count (λ i. sum_below count (cars i)) i b.from)
      go false o = omega (arith, ap sum ((snapshot-fits r w e).channel-off i j o))

  -- Its items are among those of all channels, and each of these is of a record.
  pub items-most : (i j : ℕ) → length ((snapshot_of r).park.channel i j) ≤ 1000
  unfolding item_words
  items-most i j = go (on_site count i j) refl
    where
      go : (p : Bool) → on_site count i j ≡ p → length ((snapshot_of r).park.channel i j) ≤ 1000
      go true o =
          let shown : ℕ → List ℕ = λ k. cond (is_channel count k) (channel_words (snapshot_of r) k) [] in
          let b = between count i j o in
          let near = b.near in
          let from : i < 8 = omega (arith, b.from, (run_sound r w e).most) in
          let x : channel_index i j / 8 ≡ i = omega arith in
          let y : channel_index i j % 8 ≡ j = omega arith in
          let here : length (shown (channel_index i j)) ≡ length ((snapshot_of r).park.channel i j) =
          rw (and_right (ltb j 8) (is_channel count (channel_index i j)) o, x, y) (length-map ((snapshot_of r).park.channel i j) (send_record i j)) in
          omega (arith, here, part-few 64 shown (channel_index i j) r.head.records (omega arith) (items-few r w e), (run_sound r w e).records)
      go false o = omega (arith, ap length ((snapshot-fits r w e).channel-off i j o))
