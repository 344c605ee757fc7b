-- From an opening on, a list of calls for C answers what the same list of the zone part's calls answers, and ends in the same zone.
use mathlib.Core.Path.{◌≡◌, refl, ◌∙◌, ap}
use mathlib.Core.List.{List, [], ◌∷◌, map}
use Prim.Native.Nat.{ℕ}
use Rattle.zone.specs.Zone.{open_zone}
use Rattle.zone.specs.declared.Zone.{Zone}
use Rattle.zone_c.specs.Plain.{zone_of, plain_of, plain_step, open_plain}
use Rattle.zone_c.specs.Lists.{ZoneCall, Send, Receive, Request, Start, Gate, answer, call_plain, answers, answers_plain, after, after_plain}
use Rattle.zone_c.specs.declared.PlainStep.{PlainStep}
use Rattle.zone_c.proofs.Laws.{zone-back, send-plain, receive-plain, request-plain, start_plain_lem, gate-plain}

pub call-plain : (c : ZoneCall) (z : Zone) → call_plain c (plain_of z) ≡ plain_step (answer c z)
call-plain (Send to cars) z = send-plain z to cars
call-plain (Receive from cars flag) z = receive-plain z from cars flag
call-plain (Request set) z = request-plain z set
call-plain Start z = start_plain_lem z
call-plain (Gate direction cars) z = gate-plain z direction cars

-- From a zone on: the answers are the same, with the zone in each, and so is the zone at the end.
pub answers-plain : (cs : List ZoneCall) (z : Zone) → answers_plain cs (plain_of z) ≡ map plain_step (answers cs z)
answers-plain [] z = refl
answers-plain (c ∷ cs) z =
    ap (λ (s : PlainStep). s ∷ answers_plain cs s.zone) (call-plain c z)
    ∙ ap (λ (ss : List PlainStep). plain_step (answer c z) ∷ ss) (answers-plain cs (answer c z).zone)

pub after-plain : (cs : List ZoneCall) (z : Zone) → after_plain cs (plain_of z) ≡ plain_of (after cs z)
after-plain [] z = refl
after-plain (c ∷ cs) z =
    ap (λ (s : PlainStep). after_plain cs s.zone) (call-plain c z) ∙ after-plain cs (answer c z).zone

-- From what `cut_zone_open` answers on, a refused opening included, whatever the calls: C is answered the refusals, flags and sets that the
-- zone part answers, and its struct stands for the zone part's zone.
module _ (edition count number stock : ℕ) (cs : List ZoneCall) where
  pub opened-answers : answers_plain cs (open_plain edition count number stock).zone ≡ map plain_step (answers cs (open_zone edition count number stock).zone)
  opened-answers = answers-plain cs (open_zone edition count number stock).zone

  pub opened-plain : after_plain cs (open_plain edition count number stock).zone ≡ plain_of (after cs (open_zone edition count number stock).zone)
  opened-plain = after-plain cs (open_zone edition count number stock).zone

  pub opened-zone : zone_of (after_plain cs (open_plain edition count number stock).zone) ≡ after cs (open_zone edition count number stock).zone
  opened-zone = ap zone_of opened-plain ∙ zone-back (after cs (open_zone edition count number stock).zone)
