-- Every call, accepted or refused, and the opening hand back a run whose lists have the lengths of its arrays.
use mathlib.Core.Path.{refl, sym, ◌∙◌, subst}
use mathlib.Core.Logic.{◌⊎◌, inl, inr}
use mathlib.Core.List.{List, [], ◌∷◌}
use Prim.Native.Nat.{ℕ}
use lib.ListN.{length-set, length-replicate}
use Rattle.rules.specs.Questions.{index}
use Rattle.channel.specs.Channels.{Whole, channel_index, popped}
use Rattle.channel.proofs.View.{push-whole, pop-whole, requested-whole}
use Rattle.run.specs.Calls.{actor, answer, channels_after, granted, zone_after, actor_in}
use Rattle.run.specs.Lists.{after}
use Rattle.run.specs.Claims.{WholeRun}
use Rattle.run.specs.State.{locals, terms_of}
use Rattle.run.specs.declared.Run.{Run}
use Rattle.run.specs.Answer.{Answer}
use Rattle.run.proofs.Outcome.{Passed, Refused, outcome, Opened, NotOpened, open-outcome}
use Rattle.run.specs.declared.SiteCall.{SiteCall}
use Rattle.run.specs.declared.SiteCall.TheVariants.{Receive, Send, Start, Gate}
use Rattle.run.specs.declared.Opening.{Opening}
use Rattle.run.specs.Opening.{open_call, opened_run, fallback}

channels-whole : (c : SiteCall) (r : Run) → Whole r.channels → Whole (channels_after c (terms_of r.head) (actor_in c r) r.channels)
channels-whole (Send from to cars) r w = push-whole r.channels _ _ w
channels-whole (Receive from to) r w =
    requested-whole (popped r.channels (channel_index (index from) (index to))) _ _ _ (pop-whole r.channels _ w)
channels-whole (Start zone) r w = requested-whole r.channels _ _ _ w
channels-whole (Gate d zone cars) r w = w

granted-whole : (c : SiteCall) (r : Run) → WholeRun r → WholeRun (granted c r).run
granted-whole c r w = record {
  zones = length-set (locals r.head) (actor c) (zone_after c (terms_of r.head) (actor_in c r) r.channels) ∙ w.zones;
  opening = w.opening;
  channels = channels-whole c r w.channels;
  journal = length-set r.journal r.head.records _ ∙ w.journal;
}

pub call-whole : (c : SiteCall) (r : Run) → WholeRun r → WholeRun (answer c r).run
call-whole c r w = go (outcome c r)
  where
    go : Passed c r ⊎ Refused c r → WholeRun (answer c r).run
    go (inl p) = subst (λ (x : Answer). WholeRun x.run) (sym p.result) (granted-whole c r w)
    go (inr p) = subst WholeRun (sym p.kept) w

pub after-whole : (cs : List SiteCall) (r : Run) → WholeRun r → WholeRun (after cs r)
after-whole [] r w = w
after-whole (c ∷ cs) r w = after-whole cs (answer c r).run (call-whole c r w)

pub opened-whole : (o : Opening) → WholeRun (opened_run o)
unfolding opened_run
opened-whole o = record {
  zones = refl;
  opening = refl;
  channels = (length-replicate {A = ℕ} 1024 0, length-replicate {A = ℕ} 64 0);
  journal = length-replicate {A = ℕ} 1000 0;
}

pub open-whole : (o : Opening) → WholeRun (open_call o).run
open-whole o = go (open-outcome o)
  where
    go : Opened o ⊎ NotOpened o → WholeRun (open_call o).run
    go (inl p) = subst (λ (x : Answer). WholeRun x.run) (sym p.result) (opened-whole o)
    go (inr p) = subst (λ (x : Answer). WholeRun x.run) (sym p.result) (opened-whole fallback)
