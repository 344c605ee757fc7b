-- After any list of calls, refused ones between, the run stands for the site that the rules make of the accepted calls, and each of
-- these is as the rules ask.
use mathlib.Core.Path.{◌≡◌, refl, ◌∙◌, ap, subst}
use mathlib.Core.Bool.{Bool, true, false}
use mathlib.Core.List.{List, [], ◌∷◌}
use Rattle.rules.specs.Change.{cons-if}
use Rattle.rules.specs.Site.{Site, Call, open_s}
use Rattle.rules.specs.Cut.{Allowed, run}
use Rattle.run.specs.Calls.{answer}
use Rattle.run.specs.Model.{site_of}
use Rattle.run.specs.Lists.{call_of, is_accepted, after, accepted_calls}
use Rattle.run.specs.Claims.{WholeRun, AllTyped}
use Rattle.run.specs.declared.Run.{Run}
use Rattle.run.proofs.Outcome.{kept}
use Rattle.run.proofs.Whole.{call-whole}
use Rattle.run.proofs.Refine.{refine, open-refines}
use Rattle.run.specs.declared.SiteCall.{SiteCall}
use Rattle.run.specs.Opening.{open_call, opening_of}
use Rattle.run.specs.declared.Opening.{Opening}

-- The calls ds, as the rules have them, lead from the site s to the site of the run r.
abbrev Leads : List Call → Site → Run → Type 0
Leads ds s r = (site_of r ≡ run ds s) × Allowed ds s

pub reach-from : (cs : List SiteCall) (r : Run) → WholeRun r → AllTyped cs
    → (site_of (after cs r) ≡ run (accepted_calls cs r) (site_of r)) × Allowed (accepted_calls cs r) (site_of r)
reach-from [] r w t = (refl, tt)
reach-from (c ∷ cs) r w t = go (is_accepted c r) refl (reach-from cs (answer c r).run (call-whole c r w) t.1)
  where
    later : List Call
    later = accepted_calls cs (answer c r).run

    go : (b : Bool) → is_accepted c r ≡ b → Leads later (site_of (answer c r).run) (after cs (answer c r).run)
        → Leads (cons-if b (call_of c) later) (site_of r) (after cs (answer c r).run)
    go true e h = let (q, m) = refine c r w t.0 e in (h.0 ∙ ap (run later) q, (m, subst (Allowed later) q h.1))
    go false e h = subst (λ (s : Site). Leads later s (after cs (answer c r).run)) (ap site_of (kept c r e)) h

pub reach : (o : Opening) (cs : List SiteCall) → (open_call o).refusal ≡ 0 → AllTyped cs
    → (site_of (after cs (open_call o).run) ≡ run (accepted_calls cs (open_call o).run) (open_s (opening_of o)))
    × Allowed (accepted_calls cs (open_call o).run) (open_s (opening_of o))
reach o cs e t =
    let r = (open_call o).run in
    let (q, w) = open-refines o e in
    subst (λ (s : Site). Leads (accepted_calls cs r) s (after cs r)) q (reach-from cs r w t)
