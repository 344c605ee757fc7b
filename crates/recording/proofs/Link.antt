-- The items of a recording by the rules are those that the journal's records and their own-event ordinals show.
use mathlib.Core.Path.{◌≡◌, refl, sym, ◌∙◌, ap, ap₂}
use mathlib.Core.Bool.{Bool, true, false, ◌&&◌, and-false, true≢false}
use mathlib.Core.Logic.{◌⊎◌, inl, inr}
use mathlib.Core.List.{List, [], ◌∷◌, map}
use Prim.Native.Nat.{ℕ, zero, suc, ◌+◌, ◌/◌, ◌%◌, ◌≤◌, ◌<◌}
use native.Mathlib.Omega.{arith}
use lib.Dec.{ltb, eqb}
use lib.ListN.{drop, get_or}
use borrow.Author.Tests.{eq-eqb, ne_eqb, le-leb}
use Rattle.rules.specs.Change.{on, cons-if}
use Rattle.rules.specs.Questions.{index}
use Rattle.rules.specs.Site.{Site, Call, send, receive, start, gate, step_s, open_s}
use Rattle.rules.specs.Park.{Move, hand, take, pass, is_inside, inside_from, hands, takes}
use Rattle.rules.specs.Cut.{moves, snapshot}
use Rattle.rules.specs.declared.Local.{Local}
use Rattle.rules.proofs.Tests.{both_true, eqb_refl}
use Rattle.channel.specs.Channels.{channel_index}
use Rattle.run.specs.Calls.{record_of, answer, actor}
use Rattle.run.specs.Claims.{WholeRun, Typed}
use Rattle.run.specs.Layout.{send_record, receive_record}
use Rattle.run.specs.Lists.{call_of, is_accepted}
use Rattle.run.specs.Model.{site_of}
use Rattle.run.specs.State.{zone_at, count_of}
use Rattle.run.specs.Answer.{Answer}
use Rattle.run.specs.declared.Run.{Run}
use Rattle.run.proofs.Outcome.{acts, Passed, passed, is_open}
use Rattle.run.proofs.Parts.{zone-on, parts}
use Rattle.run.proofs.Refine.{refine, opened-site}
use Rattle.run.proofs.Whole.{call-whole, opened-whole}
use Rattle.journal.proofs.Replays.{has-kind}
use Rattle.journal.specs.InnerOrdinals.{ordinal_by, ordinal_of, ordinals_of}
use Rattle.journal.specs.Reading.{replayed}
use Rattle.recording.specs.Call.{rule_calls_in}
use Rattle.recording.specs.Layout.{channel_words}
use Rattle.recording.specs.InnerRecords.{is_in, sends_on, takes_on, sent_words, taken_count, items_at}
use Rattle.recording.proofs.Chain.{Chain, done, next, chain}
use Rattle.recording.proofs.Moved.{events_in, actor_of, Quiet, Moved, sent-moves, start-quiet, gate-moves, received-moves, quiet-number, moved-number, inside_rest, inside_all, quiet-inside, moved_inside}
use Rattle.run.specs.Opening.{open_call, opened_run, opening_of}
use Rattle.run.specs.declared.SiteCall.{SiteCall}
use Rattle.run.specs.declared.SiteCall.TheVariants.{Send, Receive, Start, Gate}
use Rattle.rules.specs.declared.Direction.{Direction}
use Rattle.run.specs.declared.Opening.{Opening}
use Rattle.std.specs.Prelude.{Some}

same-actor : (c : SiteCall) → actor c ≡ actor_of (call_of c)
same-actor (Send from to cars) = refl
same-actor (Receive from to) = refl
same-actor (Start zone) = refl
same-actor (Gate d zone cars) = refl

-- The own-event ordinal of an accepted call, by the rules.
number_is : (c : SiteCall) (r : Run) → WholeRun r → Typed c → is_accepted c r ≡ true
    → ordinal_of (Some c) r
    ≡ ordinal_by (events_in (site_of r) (actor_of (call_of c))) (events_in (step_s (call_of c) (site_of r)) (actor_of (call_of c)))
number_is c r w t e =
    let p = passed c r e in
    let k = actor c in
    let h = acts c r p in
    let q : count_of (answer c r).run.head ≡ count_of r.head = ap (λ (x : Answer). count_of x.run.head) p.result in
    let before : (zone_at r.head k).events ≡ events_in (site_of r) k = ap (λ (z : Local). z.events) (sym (zone-on r k h)) in
    let after : (zone_at (answer c r).run.head k).events ≡ events_in (step_s (call_of c) (site_of r)) k =
    ap (λ (z : Local). z.events) (sym (zone-on (answer c r).run k (omega arith))) ∙ ap (λ (s : Site). events_in s k) (refine c r w t e).0 in
    ap₂ ordinal_by before after
    ∙ ap (λ (k : ℕ). ordinal_by (events_in (site_of r) k) (events_in (step_s (call_of c) (site_of r)) k)) (same-actor c)

-- An index is that of one pair of zones.
same_index : (x y base a b i j : ℕ) → x ≡ base + channel_index a b → y ≡ base + channel_index i j → a < 8 → b < 8 → i < 8 → j < 8
    → eqb x y ≡ eqb i a && eqb j b
same_index x y base a b i j p q ha hb hi hj = go (eqb i a && eqb j b) refl
  where
    agree : i ≡ a → j ≡ b → eqb i a && eqb j b ≡ true
    agree e f = rw (e, f, eqb_refl a, eqb_refl b)

    go : (t : Bool) → eqb i a && eqb j b ≡ t → eqb x y ≡ t
    go true e = let (m, n) = both_true i a j b e in eq-eqb x y (omega arith)
    go false e = ne_eqb x y (λ z. true≢false (sym (agree (omega arith) (omega arith)) ∙ e))

-- An own event is inside where its number is at most the events shown.
inside_is : (n shown : ℕ) → is_in (suc n) shown ≡ ltb n shown
inside_is n shown = rw (le-leb 1 (suc n) (omega arith))

-- The inside moves of the records' calls from a site on.
abbrev pub inside_of : (ℕ → ℕ) → List ℕ → Site → List Move
inside_of shown ws s = inside_from shown (events_in s) (moves (rule_calls_in ws) s)

module _ (i j : ℕ) where
  -- The channel from i to j is that from a to b.
  abbrev here : ℕ → ℕ → Bool
  here a b = eqb i a && eqb j b

  abbrev pub sent_by : List Move → List ℕ
  sent_by ms = map (send_record i j) (hands i j ms)

  -- A hand-over or a receipt before other moves.
  hand-sent : (a b cars : ℕ) (p : Bool) (ms : List Move)
      → sent_by (cons-if p (hand a b cars) ms) ≡ cons-if (here a b && p) (send_record a b cars) (sent_by ms)
  hand-sent a b cars p ms = go p (here a b) refl
    where
      go : (p q : Bool) → here a b ≡ q → sent_by (cons-if p (hand a b cars) ms) ≡ cons-if (q && p) (send_record a b cars) (sent_by ms)
      go true true e = let (x, y) = both_true i a j b e in rw (e, ← x, ← y)
      go true false e = rw e
      go false true e = refl
      go false false e = refl

  take-sent : (a b : ℕ) (p : Bool) (ms : List Move) → sent_by (cons-if p (take a b) ms) ≡ sent_by ms
  take-sent a b true ms = refl
  take-sent a b false ms = refl

  -- A gate event is neither.
  pass-sent : (d : Direction) (a cars : ℕ) (p : Bool) (ms : List Move) → sent_by (cons-if p (pass d a cars) ms) ≡ sent_by ms
  pass-sent d a cars true ms = refl
  pass-sent d a cars false ms = refl

  pass-taken : (d : Direction) (a cars : ℕ) (p : Bool) (ms : List Move) → takes i j (cons-if p (pass d a cars) ms) ≡ takes i j ms
  pass-taken d a cars true ms = refl
  pass-taken d a cars false ms = refl

  hand-taken : (a b cars : ℕ) (p : Bool) (ms : List Move) → takes i j (cons-if p (hand a b cars) ms) ≡ takes i j ms
  hand-taken a b cars true ms = refl
  hand-taken a b cars false ms = refl

  take-taken : (a b : ℕ) (p : Bool) (ms : List Move) → takes i j (cons-if p (take a b) ms) ≡ on (here a b && p) suc (takes i j ms)
  take-taken a b p ms = go p (here a b) refl
    where
      go : (p q : Bool) → here a b ≡ q → takes i j (cons-if p (take a b) ms) ≡ on (q && p) suc (takes i j ms)
      go true true e = rw e
      go true false e = rw e
      go false true e = refl
      go false false e = refl

  module _ (shown : ℕ → ℕ) (sh : List ℕ) (hi : i < 8) (hj : j < 8) (fi : get_or sh i 0 ≡ shown i) (fj : get_or sh j 0 ≡ shown j) where
    -- The tests on words, for the records of moves with their own-event ordinals.
    sends-hand : (a b cars n : ℕ) → a < 8 → b < 8 → cars < 256
        → sends_on (channel_index i j) sh (send_record a b cars) (suc n) ≡ here a b && ltb n (shown a)
    sends-hand a b cars n ha hb hc =
        rw (same_index (send_record a b cars / 256) (channel_index i j) 0 a b i j (omega arith) (omega arith) ha hb hi hj) (go (here a b) refl)
      where
        go : (q : Bool) → here a b ≡ q → q && is_in (suc n) (get_or sh (channel_index i j / 8) 0) ≡ q && ltb n (shown a)
        go true e =
            let (x, y) = both_true i a j b e in
            let z : channel_index i j / 8 ≡ i = omega arith in
            rw (z, fi, x) (inside_is n (shown a))
        go false e = refl

    takes-take : (a b n : ℕ) → a < 8 → b < 8 → takes_on (channel_index i j) sh (receive_record a b) (suc n) ≡ here a b && ltb n (shown b)
    takes-take a b n ha hb =
        rw (same_index (receive_record a b / 256) (64 + channel_index i j) 64 a b i j (omega arith) (omega arith) ha hb hi hj) (go (here a b) refl)
      where
        go : (q : Bool) → here a b ≡ q → q && is_in (suc n) (get_or sh (channel_index i j % 8) 0) ≡ q && ltb n (shown b)
        go true e =
            let (x, y) = both_true i a j b e in
            let z : channel_index i j % 8 ≡ j = omega arith in
            rw (z, fj, y) (inside_is n (shown b))
        go false e = refl

    -- Words of another kind.
    no-send : (word n : ℕ) → 16384 ≤ word → sends_on (channel_index i j) sh word n ≡ false
    no-send word n h = rw (ne_eqb (word / 256) (channel_index i j) (λ e. omega arith))

    no-take : (word n : ℕ) → (word < 16384) ⊎ (32768 ≤ word) → takes_on (channel_index i j) sh word n ≡ false
    no-take word n (inl h) = rw (ne_eqb (word / 256) (64 + channel_index i j) (λ e. omega arith))
    no-take word n (inr h) = rw (ne_eqb (word / 256) (64 + channel_index i j) (λ e. omega arith))

    -- A line check, its receipt and the receipt of a request have the number 0, which is never inside.
    quiet-send : (word : ℕ) → sends_on (channel_index i j) sh word 0 ≡ false
    quiet-send word = and-false (eqb (word / 256) (channel_index i j))

    quiet-take : (word : ℕ) → takes_on (channel_index i j) sh word 0 ≡ false
    quiet-take word = and-false (eqb (word / 256) (64 + channel_index i j))

    -- An accepted call before others.
    module _ (r : Run) (w : WholeRun r) (cs : List Call) where
      abbrev Sends : SiteCall → Type 0
      Sends c =
          sent_by (inside_all shown (call_of c) cs (site_of r))
          ≡ cons-if (sends_on (channel_index i j) sh (record_of c) (ordinal_of (Some c) r)) (record_of c) (sent_by (inside_rest shown (call_of c) cs (site_of r)))

      sends-first : (c : SiteCall) → Typed c → is_accepted c r ≡ true → Sends c
      sends-first (Send from to cars) t e = go (sent-moves (index from) (index to) cars (site_of r))
        where
          a : ℕ
          a = index from

          b : ℕ
          b = index to

          p : Passed (Send from to cars) r
          p = passed (Send from to cars) r e

          go : Quiet (send a b cars) (site_of r) ⊎ Moved (send a b cars) (site_of r) (hand a b cars) → Sends (Send from to cars)
          go (inl q) =
              rw (number_is (Send from to cars) r w t e ∙ quiet-number (send a b cars) (site_of r) q, quiet-send (send_record a b cars))
              (ap sent_by (quiet-inside shown (send a b cars) cs (site_of r) q))
          go (inr q) =
              let few = (parts r p.sound).most in
              rw (
                number_is (Send from to cars) r w t e ∙ moved-number (send a b cars) (site_of r) (hand a b cars) q,
                sends-hand a b cars (events_in (site_of r) a) (omega (arith, p.asks.0.from)) (omega (arith, p.asks.0.to)) t,
              )
              (ap sent_by (moved_inside shown (send a b cars) cs (site_of r) (hand a b cars) q) ∙ hand-sent a b cars _ _)
      sends-first (Receive from to) t e =
          rw (no-send (record_of (Receive from to)) (ordinal_of (Some (Receive from to)) r) (omega arith))
          (go (received-moves (index from) (index to) (site_of r)))
        where
          a : ℕ
          a = index from

          b : ℕ
          b = index to

          go : Quiet (receive a b) (site_of r) ⊎ Moved (receive a b) (site_of r) (take a b)
              → sent_by (inside_all shown (receive a b) cs (site_of r)) ≡ sent_by (inside_rest shown (receive a b) cs (site_of r))
          go (inl q) = ap sent_by (quiet-inside shown (receive a b) cs (site_of r) q)
          go (inr q) = ap sent_by (moved_inside shown (receive a b) cs (site_of r) (take a b) q)
              ∙ take-sent a b (is_inside shown (events_in (site_of r)) (take a b)) (inside_rest shown (receive a b) cs (site_of r))
      sends-first (Start zone) t e =
          rw (no-send (record_of (Start zone)) (ordinal_of (Some (Start zone)) r) (omega arith))
          (ap sent_by (quiet-inside shown (start (index zone)) cs (site_of r) (start-quiet (index zone) (site_of r))))
      sends-first (Gate d zone cars) t e =
          rw (no-send (record_of (Gate d zone cars)) (ordinal_of (Some (Gate d zone cars)) r) (omega arith))
          (ap sent_by (moved_inside shown (gate d (index zone) cars) cs (site_of r) (pass d (index zone) cars) (gate-moves d (index zone) cars (site_of r)))
          ∙ pass-sent d (index zone) cars (is_inside shown (events_in (site_of r)) (pass d (index zone) cars)) (inside_rest shown (gate d (index zone) cars) cs (site_of r)))

      abbrev Takes : SiteCall → Type 0
      Takes c =
          takes i j (inside_all shown (call_of c) cs (site_of r))
          ≡ on (takes_on (channel_index i j) sh (record_of c) (ordinal_of (Some c) r)) suc (takes i j (inside_rest shown (call_of c) cs (site_of r)))

      takes_first : (c : SiteCall) → Typed c → is_accepted c r ≡ true → Takes c
      takes_first (Send from to cars) t e =
          let p = passed (Send from to cars) r e in
          let few = (parts r p.sound).most in
          rw (no-take (send_record a b cars) (ordinal_of (Some (Send from to cars)) r) (inl (omega (arith, p.asks.0.from, p.asks.0.to))))
          (go (sent-moves a b cars (site_of r)))
        where
          a : ℕ
          a = index from

          b : ℕ
          b = index to

          go : Quiet (send a b cars) (site_of r) ⊎ Moved (send a b cars) (site_of r) (hand a b cars)
              → takes i j (inside_all shown (send a b cars) cs (site_of r)) ≡ takes i j (inside_rest shown (send a b cars) cs (site_of r))
          go (inl q) = ap (takes i j) (quiet-inside shown (send a b cars) cs (site_of r) q)
          go (inr q) = ap (takes i j) (moved_inside shown (send a b cars) cs (site_of r) (hand a b cars) q)
              ∙ hand-taken a b cars (is_inside shown (events_in (site_of r)) (hand a b cars)) (inside_rest shown (send a b cars) cs (site_of r))
      takes_first (Receive from to) t e = go (received-moves (index from) (index to) (site_of r))
        where
          a : ℕ
          a = index from

          b : ℕ
          b = index to

          p : Passed (Receive from to) r
          p = passed (Receive from to) r e

          go : Quiet (receive a b) (site_of r) ⊎ Moved (receive a b) (site_of r) (take a b) → Takes (Receive from to)
          go (inl q) =
              rw (number_is (Receive from to) r w t e ∙ quiet-number (receive a b) (site_of r) q, quiet-take (receive_record a b))
              (ap (takes i j) (quiet-inside shown (receive a b) cs (site_of r) q))
          go (inr q) =
              let few = (parts r p.sound).most in
              rw (
                number_is (Receive from to) r w t e ∙ moved-number (receive a b) (site_of r) (take a b) q,
                takes-take a b (events_in (site_of r) b) (omega (arith, p.asks.0.from)) (omega (arith, p.asks.0.to)),
              )
              (ap (takes i j) (moved_inside shown (receive a b) cs (site_of r) (take a b) q)
              ∙ take-taken a b (is_inside shown (events_in (site_of r)) (take a b)) (inside_rest shown (receive a b) cs (site_of r)))
      takes_first (Start zone) t e =
          rw (no-take (record_of (Start zone)) (ordinal_of (Some (Start zone)) r) (inr (omega arith)))
          (ap (takes i j) (quiet-inside shown (start (index zone)) cs (site_of r) (start-quiet (index zone) (site_of r))))
      takes_first (Gate d zone cars) t e =
          rw (no-take (record_of (Gate d zone cars)) (ordinal_of (Some (Gate d zone cars)) r) (inr (omega arith)))
          (ap (takes i j) (moved_inside shown (gate d (index zone) cars) cs (site_of r) (pass d (index zone) cars) (gate-moves d (index zone) cars (site_of r)))
          ∙ pass-taken d (index zone) cars (is_inside shown (events_in (site_of r)) (pass d (index zone) cars)) (inside_rest shown (gate d (index zone) cars) cs (site_of r)))

    -- Records that are accepted in turn.
    pub sent-are : {ws : List ℕ} {r t : Run} → Chain ws r t → WholeRun r
        → sent_by (inside_of shown ws (site_of r)) ≡ sent_words (channel_index i j) sh ws (ordinals_of ws r)
    sent-are done w = refl
    sent-are (next {w = word} {ws} {r} c d f typed a more) w =
        let q = (refine c r w typed a).0 in
        let h = sent-are more (call-whole c r w) in
        rw (d, has-kind c r a, a, ← f)
        (sends-first r w (rule_calls_in ws) c typed a
        ∙ ap (cons-if (sends_on (channel_index i j) sh (record_of c) (ordinal_of (Some c) r)) (record_of c))
        (ap (λ (s : Site). sent_by (inside_of shown ws s)) (sym q) ∙ h))

    pub taken-are : {ws : List ℕ} {r t : Run} → Chain ws r t → WholeRun r
        → takes i j (inside_of shown ws (site_of r)) ≡ taken_count (channel_index i j) sh ws (ordinals_of ws r)
    taken-are done w = refl
    taken-are (next {w = word} {ws} {r} c d f typed a more) w =
        let q = (refine c r w typed a).0 in
        let h = taken-are more (call-whole c r w) in
        rw (d, has-kind c r a, a, ← f)
        (takes_first r w (rule_calls_in ws) c typed a
        ∙ ap (on (takes_on (channel_index i j) sh (record_of c) (ordinal_of (Some c) r)) suc)
        (ap (λ (s : Site). takes i j (inside_of shown ws s)) (sym q) ∙ h))

map-drop : {A B : Type 0} (f : A → B) (n : ℕ) (xs : List A) → map f (drop n xs) ≡ drop n (map f xs)
map-drop f zero xs = refl
map-drop f (suc n) [] = refl
map-drop f (suc n) (x ∷ xs) = map-drop f n xs

-- From an accepted opening: the items on the channel at an index.
pub items-are : (o : Opening) (ws : List ℕ) (position last : ℕ) → (open_call o).refusal ≡ 0
    → (replayed ws position last (opened_run o)).refusal ≡ 0 → (sh : List ℕ)
    → (k : ℕ) → k < 64
    → get_or sh (k / 8) 0 ≡ (snapshot (opening_of o) (rule_calls_in ws)).events (k / 8)
    → get_or sh (k % 8) 0 ≡ (snapshot (opening_of o) (rule_calls_in ws)).events (k % 8)
    → items_at k sh ws (ordinals_of ws (opened_run o)) ≡ channel_words (snapshot (opening_of o) (rule_calls_in ws)) k
items-are o ws position last a e sh k h fi fj =
    let i = k / 8 in
    let j = k % 8 in
    let hi : i < 8 = omega arith in
    let hj : j < 8 = omega arith in
    let shown = (snapshot (opening_of o) (rule_calls_in ws)).events in
    let first = open_s (opening_of o) in
    let c = chain ws position last (opened_run o) e in
    let w = opened-whole o in
    let site = opened-site o (is_open o a).fits in
    let f : channel_index i j ≡ k = omega arith in
    sym (map-drop (send_record i j) (takes i j (inside_of shown ws first)) (hands i j (inside_of shown ws first))
    ∙ ap₂ (λ (n : ℕ) (xs : List ℕ). drop n xs)
    (ap (λ (s : Site). takes i j (inside_of shown ws s)) (sym site) ∙ taken-are i j shown sh hi hj fi fj c w)
    (ap (λ (s : Site). sent_by i j (inside_of shown ws s)) (sym site) ∙ sent-are i j shown sh hi hj fi fj c w)
    ∙ ap (λ (k : ℕ). items_at k sh ws (ordinals_of ws (opened_run o))) f)
