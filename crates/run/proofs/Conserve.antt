-- Stocks plus cars on channels after any list of calls: what the opening brought, with the cars of the accepted entries and without those of
-- the accepted exits, and at most 65,535.
use mathlib.Core.Path.{◌≡◌, refl, sym, ◌∙◌, ap, ap₂, subst}
use mathlib.Core.Bool.{Bool, true, false, cond, ◌&&◌, not}
use mathlib.Core.Logic.{◌≢◌, ◌⊎◌, inl, inr}
use mathlib.Core.List.{List, [], ◌∷◌, tail}
use Prim.Native.Nat.{ℕ, ◌+◌, ◌-◌, ◌*◌, ◌/◌, ◌%◌, ◌≤◌, ◌<◌}
use native.Mathlib.Omega.{arith}
use lib.Dec.{eqb}
use borrow.Author.Tests.{ne_eqb}
use Rattle.rules.specs.Change.{on, join}
use Rattle.rules.specs.Questions.{index}
use Rattle.rules.specs.Sets.{has}
use Rattle.rules.specs.Zone.{is_permanent, needed, through, requested, started, targets, carried}
use Rattle.rules.specs.Site.{Item, message, request, Site, send, gate, entering, leaving, pop_s, request_all_s, turn_s, step_s, take_s}
use Rattle.rules.specs.Cut.{May}
use Rattle.rules.specs.declared.Local.{Local}
use Rattle.rules.proofs.Guarded.{on_same, on-same-at}
use Rattle.rules.proofs.Tests.{both_true, eqb_refl}
use Rattle.channel.specs.Channels.{channel_index}
use Rattle.channel.specs.Words.{cars_in}
use Rattle.rules.specs.Below.{sum}
use Rattle.run.specs.State.{cars_of, count_of, all_cars}
use Rattle.run.specs.Calls.{answer, granted}
use Rattle.run.specs.Model.{site_of}
use Rattle.run.specs.Lists.{call_of, is_accepted, after}
use Rattle.run.specs.Claims.{WholeRun, Typed, AllTyped, entered, left}
use Rattle.run.specs.declared.Run.{Run}
use Rattle.run.specs.Answer.{Answer}
use Rattle.run.proofs.Filled.{stocks-sum}
use Rattle.run.proofs.Outcome.{Pair, Sited, sited, Passed, Refused, outcome, is_open, Fitting}
use Rattle.rules.proofs.Editions.{sent-stock, received-stock}
use Rattle.rules.proofs.Sums.{sum_same, sum-change}
use Rattle.run.proofs.Parts.{stocks_s, cars_s, stocks-are, cars-are, parts}
use Rattle.run.proofs.Whole.{call-whole, open-whole}
use Rattle.run.proofs.Refine.{refine, opened-site}
use Rattle.run.specs.declared.SiteCall.{SiteCall}
use Rattle.run.specs.declared.SiteCall.TheVariants.{Receive, Send, Start, Gate}
use Rattle.rules.specs.declared.Direction.{Direction}
use Rattle.rules.specs.declared.Direction.TheVariants.{In, Out}
use Rattle.run.specs.declared.Opening.{Opening}
use Rattle.run.specs.Opening.{open_call, opened_run}

cars-join : (x : Item) (xs : List Item) → cars_of (join x xs) ≡ cars_of xs + cars_in x
cars-join x [] = omega arith
cars-join x (y ∷ ys) = let q = cars-join x ys in omega arith

-- Only zone a differs, or only the channel from a to b.
zone-sum : (n a : ℕ) (s t : Site) → a < n → ((k : ℕ) → eqb k a ≡ false → (t.zone k).stock ≡ (s.zone k).stock)
    → stocks_s n t + (s.zone a).stock ≡ stocks_s n s + (t.zone a).stock
zone-sum n a s t h e = sum-change n (λ k. (t.zone k).stock) (λ k. (s.zone k).stock) a h (λ k b d. e k (ne_eqb k a d))

channel-sum : (a b : ℕ) (s t : Site) → a < 8 → b < 8
    → ((i j : ℕ) → eqb i a && eqb j b ≡ false → cars_of (t.channel i j) ≡ cars_of (s.channel i j))
    → cars_s t + cars_of (s.channel a b) ≡ cars_s s + cars_of (t.channel a b)
unfolding cars_s
channel-sum a b s t ha hb e =
    let x : (a * 8 + b) / 8 ≡ a = omega arith in
    let y : (a * 8 + b) % 8 ≡ b = omega arith in
    subst (λ (i : ℕ). cars_s t + cars_of (s.channel i b) ≡ cars_s s + cars_of (t.channel i b)) x
    (subst (λ (j : ℕ). cars_s t + cars_of (s.channel (channel_index a b / 8) j) ≡ cars_s s + cars_of (t.channel (channel_index a b / 8) j)) y
    (sum-change 64 (λ k. cars_of (t.channel (k / 8) (k % 8))) (λ k. cars_of (s.channel (k / 8) (k % 8))) (channel_index a b) (omega arith)
    (λ k h d. e (k / 8) (k % 8) (other k d))))
  where
    other : (k : ℕ) → k ≢ channel_index a b → eqb (k / 8) a && eqb (k % 8) b ≡ false
    other k d = go (eqb (k / 8) a && eqb (k % 8) b) refl
      where
        go : (p : Bool) → eqb (k / 8) a && eqb (k % 8) b ≡ p → p ≡ false
        go true e = let (x, y) = both_true (k / 8) a (k % 8) b e in absurd (d (omega arith))
        go false e = refl

-- No stock differs, or the cars of no channel.
stocks-same : (n : ℕ) (s t : Site) → ((k : ℕ) → (t.zone k).stock ≡ (s.zone k).stock) → stocks_s n t ≡ stocks_s n s
stocks-same n s t e = sum_same n (λ k. (t.zone k).stock) (λ k. (s.zone k).stock) (λ k h. e k)

cars-same : (s t : Site) → ((i j : ℕ) → cars_of (t.channel i j) ≡ cars_of (s.channel i j)) → cars_s t ≡ cars_s s
unfolding cars_s
cars-same s t e =
    sum_same 64 (λ k. cars_of (t.channel (k / 8) (k % 8))) (λ k. cars_of (s.channel (k / 8) (k % 8))) (λ k h. e (k / 8) (k % 8))

-- The cars of a site: its stocks and what is on its channels.
abbrev total : ℕ → Site → ℕ
total n s = stocks_s n s + cars_s s

-- Requests carry no cars.
requests-keep : (n b to set : ℕ) (g : Local → Local) (s : Site) → ((z : Local) → (g z).stock ≡ z.stock)
    → total n (request_all_s b g to set s) ≡ total n s
requests-keep n b to set g s e = ap₂ ◌+◌ (stocks-same n s (request_all_s b g to set s) zone) (cars-same s (request_all_s b g to set s) channel)
  where
    zone : (k : ℕ) → (on (eqb k b) g (s.zone k)).stock ≡ (s.zone k).stock
    zone k = on_same (λ (z : Local). z.stock) (eqb k b) g (s.zone k) (e (s.zone k))

    channel : (i j : ℕ) → cars_of (on (eqb i b && has to j) (join (request set)) (s.channel i j)) ≡ cars_of (s.channel i j)
    channel i j =
        on_same cars_of (eqb i b && has to j) (join (request set)) (s.channel i j)
        (cars-join (request set) (s.channel i j) ∙ omega arith)

pop-keeps : (n a b set : ℕ) (rest : List Item) (s : Site) → s.channel a b ≡ request set ∷ rest → total n (pop_s a b s) ≡ total n s
pop-keeps n a b set rest s e = ap (λ (x : ℕ). stocks_s n s + x) (cars-same s (pop_s a b s) channel)
  where
    channel : (i j : ℕ) → cars_of (on (eqb i a && eqb j b) tail (s.channel i j)) ≡ cars_of (s.channel i j)
    channel i j = on-same-at cars_of (eqb i a && eqb j b) tail (s.channel i j) at
      where
        at : eqb i a && eqb j b ≡ true → cars_of (tail (s.channel i j)) ≡ cars_of (s.channel i j)
        at t = let (x, y) = both_true i a j b t in rw (x, y, e) (omega arith)

module _ (n : ℕ) (most : n ≤ 8) (a b : ℕ) (p : Pair n a b) (s : Site) where
  send-keeps : (cars : ℕ) → cars ≤ (s.zone a).stock → total n (step_s (send a b cars) s) ≡ total n s
  send-keeps cars m =
      let t = step_s (send a b cars) s in
      let z = zone-sum n a s t p.from (λ k e. rw e) in
      let c = channel-sum a b s t (omega (arith, p.from)) (omega (arith, p.to)) (λ i j e. rw e) in
      let x : (t.zone a).stock ≡ (s.zone a).stock - cars = rw (eqb_refl a) (sent-stock s.edition cars (s.zone a)) in
      let y : cars_of (t.channel a b) ≡ cars_of (s.channel a b) + cars = rw (eqb_refl a, eqb_refl b) (cars-join _ (s.channel a b)) in
      omega arith

  take-keeps : (xs : List Item) → s.channel a b ≡ xs → total n (take_s a b xs s) ≡ total n s
  take-keeps [] e = refl
  take-keeps (message cars flag ∷ rest) e =
      let t = take_s a b (message cars flag ∷ rest) s in
      let z = zone-sum n b s t p.to (λ k e. rw e) in
      let c = channel-sum a b s t (omega (arith, p.from)) (omega (arith, p.to)) (λ i j e. rw e) in
      let x : (t.zone b).stock ≡ (s.zone b).stock + cars = rw (eqb_refl b) (received-stock s.edition a cars flag (s.zone b)) in
      let y : cars_of (t.channel a b) ≡ cars_of rest = rw (eqb_refl a, eqb_refl b, e) in
      let v : cars_of (s.channel a b) ≡ cars + cars_of rest = rw e in
      omega arith
  take-keeps (request set ∷ rest) e =
      on_same (total n) (not (is_permanent (s.zone b).checkpoint)) (turn_s b set) (pop_s a b s)
      (requests-keep n b (targets b set (s.zone b)) (carried set (s.zone b)) requested (pop_s a b s) (λ z. refl))
      ∙ pop-keeps n a b set rest s e

-- A gate's cars change one stock.
gate-cars : (d : Direction) (a cars : ℕ) (s : Site) → cars_s (step_s (gate d a cars) s) ≡ cars_s s
unfolding cars_s
gate-cars d a cars s = refl

gate-changes : (n : ℕ) (d : Direction) (zone cars : ℕ) (s : Site) → index zone < n → needed d cars ≤ (s.zone (index zone)).stock
    → total n (step_s (gate d (index zone) cars) s) + leaving (gate d (index zone) cars) ≡ total n s + entering (gate d (index zone) cars)
gate-changes n d zone cars s h m =
    let a = index zone in
    let t = step_s (gate d a cars) s in
    let z = zone-sum n a s t h (λ k e. rw e) in
    let x : (t.zone a).stock ≡ through d cars (s.zone a).stock = rw (eqb_refl a) in
    go d m z x
  where
    go : (d : Direction) → needed d cars ≤ (s.zone (index zone)).stock
        → stocks_s n (step_s (gate d (index zone) cars) s) + (s.zone (index zone)).stock
        ≡ stocks_s n s + ((step_s (gate d (index zone) cars) s).zone (index zone)).stock
        → ((step_s (gate d (index zone) cars) s).zone (index zone)).stock ≡ through d cars (s.zone (index zone)).stock
        → total n (step_s (gate d (index zone) cars) s) + leaving (gate d (index zone) cars) ≡ total n s + entering (gate d (index zone) cars)
    go In m z x = omega (arith, gate-cars In (index zone) cars s)
    go Out m z x = omega (arith, gate-cars Out (index zone) cars s)

pub step-changes : (n : ℕ) (c : SiteCall) (s : Site) → n ≤ 8 → Sited n (call_of c) → May (call_of c) s
    → total n (step_s (call_of c) s) + leaving (call_of c) ≡ total n s + entering (call_of c)
step-changes n (Send from to cars) s most p m = ap (λ (x : ℕ). x + 0) (send-keeps n most (index from) (index to) p s cars m)
step-changes n (Receive from to) s most p m =
    ap (λ (x : ℕ). x + 0) (take-keeps n most (index from) (index to) p s (s.channel (index from) (index to)) refl)
step-changes n (Start zone) s most p m = ap (λ (x : ℕ). x + 0) (requests-keep n (index zone) _ _ started s (λ z. refl))
step-changes n (Gate d zone cars) s most p m = gate-changes n d zone cars s p m

-- The cars of a run are those of its site.
pub cars-at : (r : Run) → all_cars r ≡ stocks_s (count_of r.head) (site_of r) + cars_s (site_of r)
cars-at r = ap₂ ◌+◌ (stocks-are r) (cars-are r)

-- An accepted call adds the cars that it brings in and takes away those that it takes out; a refused one changes nothing.
pub granted-conserves : (c : SiteCall) (r : Run) → WholeRun r → Typed c → Passed c r
    → all_cars (granted c r).run + leaving (call_of c) ≡ all_cars r + entering (call_of c)
granted-conserves c r w t p =
    let e = ap (λ (x : Answer). x.run) p.result in
    let (q, m) = refine c r w t p.said in
    let a : all_cars (granted c r).run ≡ total (count_of r.head) (step_s (call_of c) (site_of r)) =
    cars-at (granted c r).run ∙ ap (total (count_of r.head)) (sym (ap site_of e) ∙ q) in
    let b = cars-at r in
    let s = step-changes (count_of r.head) c (site_of r) (parts r p.sound).most (sited c r p) m in
    omega arith

pub call-conserves : (c : SiteCall) (r : Run) → WholeRun r → Typed c
    → all_cars (answer c r).run + cond (is_accepted c r) (leaving (call_of c)) 0 ≡ all_cars r + cond (is_accepted c r) (entering (call_of c)) 0
call-conserves c r w t = go (outcome c r)
  where
    go : Passed c r ⊎ Refused c r
        → all_cars (answer c r).run + cond (is_accepted c r) (leaving (call_of c)) 0 ≡ all_cars r + cond (is_accepted c r) (entering (call_of c)) 0
    go (inl p) =
        rw p.said (ap (λ (x : Answer). all_cars x.run + leaving (call_of c)) p.result ∙ granted-conserves c r w t p)
    go (inr p) = rw p.said (ap (λ (x : Run). all_cars x + 0) p.kept)

pub conserve-from : (cs : List SiteCall) (r : Run) → WholeRun r → AllTyped cs
    → all_cars (after cs r) + left cs r ≡ all_cars r + entered cs r
conserve-from [] r w t = refl
conserve-from (c ∷ cs) r w t =
    let h = conserve-from cs (answer c r).run (call-whole c r w) t.1 in
    let k = call-conserves c r w t.0 in
    omega arith

pub opened-cars : (o : Opening) → Fitting o → all_cars (opened_run o) ≡ sum o.stocks
unfolding opened_run cars_s
opened-cars o f =
    cars-at (opened_run o) ∙ ap (total o.terms.count) (opened-site o f)
    ∙ ap (λ (n : ℕ). n + 0) (stocks-sum o f.listed)
    ∙ omega arith

-- From an accepted opening, after any list of calls.
pub conserve : (o : Opening) (cs : List SiteCall) → (open_call o).refusal ≡ 0 → AllTyped cs
    → all_cars (after cs (open_call o).run) + left cs (open_call o).run ≡ sum o.stocks + entered cs (open_call o).run
conserve o cs e t =
    let p = is_open o e in
    conserve-from cs (open_call o).run (open-whole o) t
    ∙ ap (λ (n : ℕ). n + entered cs (open_call o).run) (ap (λ (x : Answer). all_cars x.run) p.result ∙ opened-cars o p.fits)
