-- The effect of a call behind question 1 on the zone that acts and on the channels: the rest of its questions, then what is accepted.
use Rattle.std.specs.Prelude.{Bool, List, ◌∷◌, ◌++◌, ℕ, ltb, Ok, Err, Result}
use Rattle.questions.specs.Refusal.{number_of}
use Rattle.questions.specs.declared.Refusal.{Refusal}
use Rattle.rules.specs.Limits.{most_records}
use Rattle.rules.specs.Questions.{Question, question, ask}
use Rattle.rules.specs.declared.Local.{Local}
use Rattle.channel.specs.Channels.{channels_as}
use Rattle.channel.specs.declared.Channels.{Channels}
use Rattle.run.specs.Calls.{is_named, edition_questions, own_questions, zone_after, channels_after, remaining_on}
use Rattle.run.specs.declared.SiteCall.{SiteCall}
use Rattle.run.specs.declared.Terms.{Terms}
use Rattle.steps.specs.declared.Effect.{Effect}

-- What a call makes of the zone z that acts: the refusal's number or 0, the zone, and how many items remain on a receipt's channel, else 0.
pub record Outcome : Type 0 where
  pub refusal : ℕ
  pub zone : Local
  pub remaining : ℕ

abbrev pub outcome : Local → Result Effect Refusal → Outcome
outcome z (Ok e) = record { refusal = 0; zone = e.zone; remaining = e.remaining }
outcome z (Err e) = record { refusal = number_of e; zone = z; remaining = 0 }

pub record Effected : Type 0 where
  pub effect : Outcome
  pub channels : Channels

-- What a function answers and leaves in the lent arrays.
abbrev pub effect_as : Local → Result Effect Refusal → List ℕ → List ℕ → Effected
effect_as z r items lens = record { effect = outcome z r; channels = channels_as items lens }

abbrev pub unchanged : ℕ → Local → Outcome
unchanged n z = record { refusal = n; remaining = 0; zone = z }

-- What a list of questions leaves of a call: refused with the first number, all stays.
abbrev pub outcome_of : List Question → SiteCall → Terms → Local → Channels → Effected
outcome_of qs c t z l =
    ask qs (λ n. record { effect = unchanged n z; channels = l })
    (record {
      effect = record { refusal = 0; remaining = remaining_on c (channels_after c t z l); zone = zone_after c t z l };
      channels = channels_after c t z l;
    })

-- Behind 6, a call's own questions decide.
unfoldable pub own_effect : SiteCall → Terms → Local → Channels → Bool → ℕ → Effected
own_effect c terms z l started held = outcome_of (own_questions c terms z l started held) c terms z l

-- What every call asks alike behind the edition.
abbrev pub further_questions : SiteCall → Terms → ℕ → Local → Channels → Bool → ℕ → List Question
further_questions c terms records z l started held =
    question 5 (is_named terms.count c) ∷ question 6 (ltb records most_records) ∷ own_questions c terms z l started held

unfoldable pub effect : SiteCall → Terms → ℕ → Local → Channels → Bool → ℕ → Effected
effect c terms records z l started held =
    outcome_of (edition_questions c terms.edition ++ further_questions c terms records z l started held) c terms z l
