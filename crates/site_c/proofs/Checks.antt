-- From edition 2 on a line check and its receipt leave every zone of the site in a run that C keeps as it was, accepted or refused, as the
-- engine sees it: the saved values of a zone without a mark, which mean nothing, aside.
use mathlib.Core.Path.{◌≡◌, refl, ◌∙◌, ap}
use mathlib.Core.Bool.{Bool, true, false, cond}
use mathlib.Core.List.{List, ◌∷◌}
use Prim.Native.Nat.{ℕ, ◌≤◌}
use lib.Dec.{eqb}
use Rattle.rules.specs.Questions.{index}
use Rattle.rules.specs.Site.{Item, message}
use Rattle.rules.specs.declared.Local.{Local}
use Rattle.run.specs.Calls.{answer}
use Rattle.run.specs.Claims.{WholeRun}
use Rattle.run.specs.Model.{site_of}
use Rattle.run.specs.declared.Run.{Run}
use Rattle.run.specs.declared.SiteCall.{SiteCall}
use Rattle.run.specs.declared.SiteCall.TheVariants.{Send, Receive}
use Rattle.run.proofs.Checks.{check-sent, check-received}
use Rattle.run.proofs.Whole.{call-whole}
use Rattle.site_c.specs.Plain.{are_kinds, run_of, plain_answer, refused_plain, answer_plain, call_plain}
use Rattle.site_c.specs.declared.PlainRun.{PlainRun}
use Rattle.site_c.proofs.Lists.{run-back}

module _ (p : PlainRun) (w : WholeRun (run_of p)) (k : ℕ) where
  abbrev zone_k : Run → Local
  zone_k r = (site_of r).zone k

  -- A call that leaves the zone of the run as it was leaves it so for C.
  kept-plain : (c : SiteCall) → zone_k (answer c (run_of p)).run ≡ zone_k (run_of p) → zone_k (run_of (call_plain c p).run) ≡ zone_k (run_of p)
  unfolding call_plain answer_plain
  kept-plain c e = go (are_kinds p.head.zones) (eqb (answer c (run_of p)).refusal 0)
    where
      go : (kinds accepted : Bool)
          → zone_k (run_of (cond kinds (cond accepted (plain_answer (answer c (run_of p)))
          (refused_plain p (answer c (run_of p)).refusal)) (refused_plain p 1)).run) ≡ zone_k (run_of p)
      go true true = ap zone_k (run-back (answer c (run_of p)).run (call-whole c (run_of p) w)) ∙ e
      go true false = refl
      go false accepted = refl

  module _ (from-two : 2 ≤ p.head.edition) (from to : ℕ) where
    pub send-check-plain : zone_k (run_of (call_plain (Send from to 0) p).run) ≡ zone_k (run_of p)
    send-check-plain = kept-plain (Send from to 0) (check-sent (run_of p) w from-two from to k)

    pub receive-check-plain : (flag : Bool) (l : List Item) → (site_of (run_of p)).channel (index from) (index to) ≡ message 0 flag ∷ l
        → zone_k (run_of (call_plain (Receive from to) p).run) ≡ zone_k (run_of p)
    receive-check-plain flag l first = kept-plain (Receive from to) (check-received (run_of p) w from-two from to k flag l first)
