-- What gate calls do to a run: an accepted one, of 0 cars too, is one own event of its zone and changes its stock, and leaves every mark,
-- heard set and line as it was, accepted or refused. Below edition 3 each is refused.
use mathlib.Core.Path.{◌≡◌, refl, sym, ◌∙◌, ap, subst}
use mathlib.Core.Logic.{◌⊎◌, inl, inr, ◌≢◌}
use mathlib.Core.Bool.{Bool, true, false, cond, true≢false}
use mathlib.Core.List.{List, [], ◌∷◌}
use Prim.Native.Nat.{ℕ, ◌+◌, ◌≤◌, ◌<◌}
use native.Mathlib.Omega.{arith}
use Rattle.rules.specs.Below.{sum}
use Rattle.rules.specs.Change.{cons-if}
use Rattle.rules.specs.Questions.{index}
use Rattle.rules.specs.Site.{Site, entering, leaving}
use Rattle.rules.specs.Zone.{through}
use Rattle.rules.specs.declared.Direction.{Direction}
use Rattle.rules.proofs.Editions.{no-gates}
use Rattle.rules.proofs.Gates as rules
use Rattle.rules.proofs.Lists.{All}
use Rattle.rules.proofs.Ungated.{Ungated, ungated-none}
use Rattle.run.specs.Calls.{answer}
use Rattle.run.specs.Claims.{WholeRun, AllTyped, entered, left}
use Rattle.run.specs.Lists.{is_accepted, call_of, after, accepted_calls}
use Rattle.run.specs.State.{edition_of, all_cars}
use Rattle.run.specs.Opening.{open_call, opened_run}
use Rattle.run.specs.Answer.{Answer}
use Rattle.run.specs.declared.Opening.{Opening}
use Rattle.run.specs.declared.SiteCall.{SiteCall}
use Rattle.run.specs.Model.{site_of}
use Rattle.run.specs.declared.Run.{Run}
use Rattle.run.specs.declared.SiteCall.TheVariants.{Send, Receive, Start, Gate}
use Rattle.run.proofs.Outcome.{Passed, Refused, outcome, passed, is_open}
use Rattle.run.proofs.Refine.{refine}
use Rattle.run.proofs.Conserve.{conserve}

module _ (r : Run) (w : WholeRun r) (d : Direction) (zone cars : ℕ) (few : cars < 256) where
  abbrev next : Site
  next = site_of (answer (Gate d zone cars) r).run

  -- Of an accepted one.
  pub gate-event : is_accepted (Gate d zone cars) r ≡ true → (next.zone (index zone)).events ≡ ((site_of r).zone (index zone)).events + 1
  gate-event e =
      ap (λ (s : Site). (s.zone (index zone)).events) (refine (Gate d zone cars) r w few e).0
      ∙ rules.gate-event d (index zone) cars (site_of r)

  pub gate-stock : is_accepted (Gate d zone cars) r ≡ true
      → (next.zone (index zone)).stock ≡ through d cars ((site_of r).zone (index zone)).stock
  gate-stock e =
      ap (λ (s : Site). (s.zone (index zone)).stock) (refine (Gate d zone cars) r w few e).0
      ∙ rules.gate-stock d (index zone) cars (site_of r)

  -- Of every one: what the rules keep, and a refusal too.
  kept_by : {A : Type 0} (f : Site → A) → ((s : Site) → f (rules.after d (index zone) cars s) ≡ f s) → f next ≡ f (site_of r)
  kept_by f h = go (outcome (Gate d zone cars) r)
    where
      go : Passed (Gate d zone cars) r ⊎ Refused (Gate d zone cars) r → f next ≡ f (site_of r)
      go (inl p) = ap f (refine (Gate d zone cars) r w few p.said).0 ∙ h (site_of r)
      go (inr p) = ap (λ (x : Run). f (site_of x)) p.kept

  pub gate-checkpoint : (k : ℕ) → (next.zone k).checkpoint ≡ ((site_of r).zone k).checkpoint
  gate-checkpoint k = kept_by (λ s. (s.zone k).checkpoint) (λ s. rules.gate-checkpoint d (index zone) cars s k)

  pub gate-deps : (k : ℕ) → (next.zone k).deps ≡ ((site_of r).zone k).deps
  gate-deps k = kept_by (λ s. (s.zone k).deps) (λ s. rules.gate-deps d (index zone) cars s k)

  pub gate-channel : (i j : ℕ) → next.channel i j ≡ (site_of r).channel i j
  gate-channel i j = kept_by (λ s. s.channel i j) (λ s. rules.gate-channel d (index zone) cars s i j)

  -- "does the run's edition have gates?"
  pub gate-offered : (site_of r).edition ≤ 2 → is_accepted (Gate d zone cars) r ≢ true
  gate-offered h e = true≢false (sym (passed (Gate d zone cars) r e).offered.0 ∙ no-gates (site_of r).edition h)

-- Below edition 3 no call of a list goes through a gate, so that none of its cars drives in or out.
call-edition : (c : SiteCall) (r : Run) → edition_of (answer c r).run.head ≡ edition_of r.head
call-edition c r = go (outcome c r)
  where
    go : Passed c r ⊎ Refused c r → edition_of (answer c r).run.head ≡ edition_of r.head
    go (inl p) = ap (λ (x : Answer). edition_of x.run.head) p.result
    go (inr p) = ap (λ (x : Run). edition_of x.head) p.kept

ungated : (c : SiteCall) (r : Run) → edition_of r.head ≤ 2 → is_accepted c r ≡ true → Ungated (call_of c)
ungated (Send from to cars) r low e = refl
ungated (Receive from to) r low e = refl
ungated (Start zone) r low e = refl
ungated (Gate d zone cars) r low e = absurd (true≢false (sym (passed (Gate d zone cars) r e).offered.0 ∙ no-gates (edition_of r.head) low))

pub all-ungated : (cs : List SiteCall) (r : Run) → edition_of r.head ≤ 2 → All Ungated (accepted_calls cs r)
all-ungated [] r low = tt
all-ungated (c ∷ cs) r low = go (is_accepted c r) refl (all-ungated cs (answer c r).run (subst (λ (n : ℕ). n ≤ 2) (sym (call-edition c r)) low))
  where
    go : (b : Bool) → is_accepted c r ≡ b → All Ungated (accepted_calls cs (answer c r).run) → All Ungated (cons-if b (call_of c) (accepted_calls cs (answer c r).run))
    go true e more = (ungated c r low e, more)
    go false e more = more

none-entered : (cs : List SiteCall) (r : Run) → edition_of r.head ≤ 2 → (entered cs r ≡ 0) × (left cs r ≡ 0)
none-entered [] r low = (refl, refl)
none-entered (c ∷ cs) r low = go (is_accepted c r) refl (none-entered cs (answer c r).run (subst (λ (n : ℕ). n ≤ 2) (sym (call-edition c r)) low))
  where
    next : Run
    next = (answer c r).run

    go : (b : Bool) → is_accepted c r ≡ b → (entered cs next ≡ 0) × (left cs next ≡ 0)
        → (cond b (entering (call_of c)) 0 + entered cs next ≡ 0) × (cond b (leaving (call_of c)) 0 + left cs next ≡ 0)
    go true e (i, o) = let (x, y) = ungated-none (call_of c) (ungated c r low e) in (omega arith, omega arith)
    go false e (i, o) = (omega arith, omega arith)

-- So there stocks plus cars on lines stay the opening's.
pub conserve-ungated : (o : Opening) (cs : List SiteCall) → o.terms.edition ≤ 2 → (open_call o).refusal ≡ 0 → AllTyped cs
    → all_cars (after cs (open_call o).run) ≡ sum o.stocks
unfolding opened_run
conserve-ungated o cs low e t =
    let q : edition_of (open_call o).run.head ≡ o.terms.edition = ap (λ (x : Answer). edition_of x.run.head) (is_open o e).result in
    let n = none-entered cs (open_call o).run (subst (λ (n : ℕ). n ≤ 2) (sym q) low) in
    let c = conserve o cs e t in
    omega (arith, n.0, n.1)
