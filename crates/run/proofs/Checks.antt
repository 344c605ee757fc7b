-- From edition 2 on a line check, a hand-over of 0 cars, and its receipt leave every zone of any run as it was, accepted or refused and
-- whatever the marks.
use mathlib.Core.Path.{◌≡◌, ◌∙◌, ap}
use mathlib.Core.Logic.{◌⊎◌, inl, inr}
use mathlib.Core.List.{List, ◌∷◌}
use mathlib.Core.Bool.{Bool}
use Prim.Native.Nat.{ℕ, ◌≤◌}
use native.Mathlib.Omega.{arith}
use Rattle.rules.specs.Questions.{index}
use Rattle.rules.specs.Site.{Item, message, Site}
use Rattle.rules.specs.declared.Local.{Local}
use Rattle.rules.proofs.Checks as rules
use Rattle.run.specs.Calls.{answer}
use Rattle.run.specs.Claims.{WholeRun}
use Rattle.run.specs.Model.{site_of}
use Rattle.run.specs.declared.Run.{Run}
use Rattle.run.specs.declared.SiteCall.TheVariants.{Send, Receive}
use Rattle.run.proofs.Outcome.{Passed, Refused, outcome}
use Rattle.run.proofs.Refine.{refine}

module _ (r : Run) (w : WholeRun r) (from-two : 2 ≤ (site_of r).edition) (from to k : ℕ) where
  abbrev zone_k : Run → Local
  zone_k t = (site_of t).zone k

  pub check-sent : zone_k (answer (Send from to 0) r).run ≡ zone_k r
  check-sent = go (outcome (Send from to 0) r)
    where
      go : Passed (Send from to 0) r ⊎ Refused (Send from to 0) r → zone_k (answer (Send from to 0) r).run ≡ zone_k r
      go (inl p) =
          ap (λ (s : Site). s.zone k) (refine (Send from to 0) r w (omega arith) p.said).0
          ∙ rules.check-sent (site_of r) from-two (index from) (index to) k
      go (inr p) = ap zone_k p.kept

  pub check-received : (flag : Bool) (l : List Item) → (site_of r).channel (index from) (index to) ≡ message 0 flag ∷ l
      → zone_k (answer (Receive from to) r).run ≡ zone_k r
  check-received flag l first = go (outcome (Receive from to) r)
    where
      go : Passed (Receive from to) r ⊎ Refused (Receive from to) r → zone_k (answer (Receive from to) r).run ≡ zone_k r
      go (inl p) =
          ap (λ (s : Site). s.zone k) (refine (Receive from to) r w tt p.said).0
          ∙ rules.check-received (site_of r) from-two (index from) (index to) k flag l first
      go (inr p) = ap zone_k p.kept
