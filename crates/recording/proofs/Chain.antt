-- Records that are accepted in turn: their calls lead by the rules from the site of the first run to that of the last.
use mathlib.Core.Path.{◌≡◌, refl, sym, ◌∙◌, ap, subst}
use mathlib.Core.Bool.{Bool, true, false}
use mathlib.Core.List.{List, [], ◌∷◌}
use Prim.Native.Nat.{ℕ, ◌+◌}
use native.Mathlib.Omega.{arith}
use Rattle.rules.specs.Cut.{Allowed, run}
use Rattle.run.specs.Claims.{WholeRun, Typed}
use Rattle.run.specs.Lists.{is_accepted}
use Rattle.run.specs.Model.{site_of}
use Rattle.run.specs.declared.Run.{Run}
use Rattle.run.proofs.Refine.{refine}
use Rattle.run.proofs.Whole.{call-whole}
use Rattle.journal.specs.Format.{decode}
use Rattle.journal.specs.Reading.{replayed}
use Rattle.journal.specs.Answers.{Reading}
use Rattle.journal.proofs.Replays.{replay-one, not-replayed}
use Rattle.journal.proofs.Words.{record-decoded}
use Rattle.recording.specs.Call.{rule_calls_in}
use Rattle.run.specs.Calls.{record_of, answer}
use Rattle.run.specs.declared.SiteCall.{SiteCall}
use Rattle.std.specs.Prelude.{Option, Some, None}

-- The words are records of calls that are accepted in turn, and lead from the first run to the second.
pub data Chain : List ℕ → Run → Run → Type 0 where
  done : {r : Run} → Chain [] r r
  next : {w : ℕ} {ws : List ℕ} {r t : Run} (c : SiteCall) → decode w ≡ Some c → record_of c ≡ w → Typed c → is_accepted c r ≡ true
      → Chain ws (answer c r).run t → Chain (w ∷ ws) r t

pub chain : (ws : List ℕ) (position last : ℕ) (r : Run) → (replayed ws position last r).refusal ≡ 0 → Chain ws r (replayed ws position last r).run
chain [] position last r e = done
chain (w ∷ ws) position last r e = by-record (decode w) refl (chain ws (position + 1))
  where
    by_call : (c : SiteCall) (b : Bool) → decode w ≡ Some c → is_accepted c r ≡ b
        → ((n : ℕ) (s : Run) → (replayed ws (position + 1) n s).refusal ≡ 0 → Chain ws s (replayed ws (position + 1) n s).run)
        → Chain (w ∷ ws) r (replayed (w ∷ ws) position last r).run
    by_call c true d a more =
        let q = replay-one w ws c position last r d a in
        let (f, t, n) = record-decoded w c d in
        subst (λ (x : Reading). Chain (w ∷ ws) r x.run) (sym q)
        (next c d f t a (more _ (answer c r).run (ap (λ (x : Reading). x.refusal) (sym q) ∙ e)))
    by_call c false d a more = absurd (not-replayed w ws c position last r d a e)

    by-record : (x : Option SiteCall) → decode w ≡ x
        → ((n : ℕ) (s : Run) → (replayed ws (position + 1) n s).refusal ≡ 0 → Chain ws s (replayed ws (position + 1) n s).run)
        → Chain (w ∷ ws) r (replayed (w ∷ ws) position last r).run
    by-record None d more = absurd (omega (arith, (rw d at e)))
    by-record (Some c) d more = by_call c (is_accepted c r) d refl more

-- The calls, as the rules have them, lead from site to site, each as the rules ask.
pub leads : {ws : List ℕ} {r t : Run} → Chain ws r t → WholeRun r → (run (rule_calls_in ws) (site_of r) ≡ site_of t) × Allowed (rule_calls_in ws) (site_of r)
leads done w = (refl, tt)
leads (next {ws = ws} {r} {t} c d f typed a more) w =
    let (q, m) = refine c r w typed a in
    let h = leads more (call-whole c r w) in
    rw d (ap (run (rule_calls_in ws)) (sym q) ∙ h.0, (m, subst (Allowed (rule_calls_in ws)) q h.1))
