-- What the zone part's tests say of numbers, a call's negated test of its callee's meaning, and the last question of a gate step.
use mathlib.Core.Path.{◌≡◌, refl, sym, ◌∙◌, ap}
use mathlib.Core.Bool.{true, false, not, ◌&&◌}
use mathlib.Core.List.{[], ◌∷◌}
use mathlib.Core.Logic.{◌≢◌}
use Prim.Native.Nat.{ℕ, ◌+◌, ◌≤◌, ◌<◌}
use native.Mathlib.Omega.{arith}
use lib.Dec.{eqb, leb}
use borrow.Author.Tests.{leb-true, lt-ltb}
use Rattle.rules.specs.Edition.{is_edition, has_gates}
use Rattle.rules.specs.Limits.{most_cars, most_records}
use Rattle.rules.specs.Questions.{question, refusal, ask, is_count, is_on}
use Rattle.rules.specs.Sets.{nobody, within}
use Rattle.rules.specs.Zone.{needed, through, gated}
use Rattle.rules.specs.declared.Direction.{Direction}
use Rattle.rules.specs.declared.Direction.TheVariants.{In, Out}
use Rattle.rules.specs.declared.Local.{Local}
use Rattle.rules.proofs.AskLaws.{AllYes, numbers, lacks, ask-yes, ask-behind, all_yes, ask-refused}
use Rattle.rules.proofs.QuestionLaws.{count-high, on-low, on-high}
use Rattle.rules.proofs.Tests.{and_left, and_right}
use Rattle.zone.specs.Zone.{local_of, with_local, is_other, is_zone_sound, has_room, refused, accepted, last_gate_question, gate_step}
use Rattle.zone.specs.Answer.{StepAnswer}
use Rattle.zone.specs.declared.Zone.{Zone}

-- A zone's number on a site is 1 to 8.
pub on-site : (count k : ℕ) → is_count count ≡ true → is_on count k ≡ true → (1 ≤ k) × (k ≤ 8)
on-site count k h g =
    let l = count-high count h in
    let m = on-high count k g in
    (on-low count k g, omega arith)

sound-count : (z : Zone) → is_zone_sound z ≡ true → (is_count z.count ≡ true) × (is_on z.count z.number ≡ true)
unfolding is_zone_sound
sound-count z h =
    let p = is_edition z.edition in
    let a = is_count z.count in
    let b = is_on z.count z.number in
    let g = and_left (p && a && b) _ (and_left _ _ (and_left _ _ h)) in
    (and_right p a (and_left (p && a) b g), and_right (p && a) b g)

-- The count and the number of a sound zone, and the number of another zone of its site.
pub own-count : (z : Zone) → is_zone_sound z ≡ true → z.count ≤ 8
own-count z h = count-high _ (sound-count z h).0

pub own-number : (z : Zone) → is_zone_sound z ≡ true → (1 ≤ z.number) × (z.number ≤ 8)
own-number z h = on-site _ _ (sound-count z h).0 (sound-count z h).1

pub other-number : (z : Zone) (k : ℕ) → is_zone_sound z ≡ true → is_other z k ≡ true → (1 ≤ k) × (k ≤ 8)
unfolding is_other
other-number z k h g =
    on-site _ _ (sound-count z h).0 (and_left (is_on z.count k) (not (eqb k z.number)) g)

own-stock : (z : Zone) → is_zone_sound z ≡ true → z.stock ≤ most_cars
unfolding is_zone_sound
own-stock z h =
    let w = is_edition z.edition && is_count z.count && is_on z.count z.number && within z.deps z.count in
    let s = leb z.stock most_cars in
    leb-true z.stock most_cars (and_right w s (and_left (w && s) (leb z.events most_records) h))

-- A gate step behind 6: its last question, and what is accepted.
module _ (z : Zone) (d : Direction) (cars last : ℕ) (sound : is_zone_sound z ≡ true) (offered : has_gates z.edition ≡ true)
    (room : z.events < most_records) (asks : last ≡ refusal (last_gate_question d cars z.stock ∷ [])) where
  behind-6 : ask (last_gate_question d cars z.stock ∷ []) (refused z) (accepted (with_local z (gated d cars (local_of z))) false nobody nobody)
      ≡ gate_step z d cars
  unfolding gate_step
  behind-6 = sym (ask-behind (question 1 (is_zone_sound z) ∷ question 15 (has_gates z.edition) ∷ question 6 (has_room z) ∷ [])
      (last_gate_question d cars z.stock ∷ []) (refused z) _ (sound, (offered, (lt-ltb z.events most_records room, tt))))

  last-yes : last ≡ 0 → AllYes (last_gate_question d cars z.stock ∷ [])
  last-yes e = all_yes (last_gate_question d cars z.stock ∷ []) (nonzero d) (sym asks ∙ e)
    where
      nonzero : (d : Direction) → lacks 0 (numbers (last_gate_question d cars z.stock ∷ [])) ≡ true
      nonzero In = refl
      nonzero Out = refl

  pub gate-refused : (x : StepAnswer) → x ≡ refused z last → last ≢ 0 → x ≡ gate_step z d cars
  gate-refused x e h =
      e ∙ ap (refused z) asks ∙ sym (ask-refused (last_gate_question d cars z.stock ∷ []) (refused z) _ (λ q. h (asks ∙ q))) ∙ behind-6

  pub gate-done : (l next : Local) (y : Zone) → l ≡ local_of z → next ≡ gated d cars l → y ≡ with_local z next → last ≡ 0
      → accepted y false nobody nobody ≡ gate_step z d cars
  gate-done l next y e f g h =
      ap (λ (y : Zone). accepted y false nobody nobody) (g ∙ ap (with_local z) (f ∙ ap (gated d cars) e))
      ∙ sym (ask-yes (last_gate_question d cars z.stock ∷ []) (refused z) _ (last-yes h))
      ∙ behind-6

  -- The stock stays within 16 bits.
  pub gate-fits : (l : Local) → l ≡ local_of z → last ≡ 0
      → (needed d cars ≤ l.stock) × (through d cars l.stock ≤ most_cars) × (l.events < most_records)
  gate-fits l e h = rw e (go d (last-yes h))
    where
      go : (d : Direction) → AllYes (last_gate_question d cars z.stock ∷ [])
          → (needed d cars ≤ z.stock) × (through d cars z.stock ≤ most_cars) × (z.events < most_records)
      go In y = (omega arith, leb-true (z.stock + cars) most_cars y.0, room)
      go Out y = (leb-true cars z.stock y.0, omega (arith, own-stock z sound), room)
