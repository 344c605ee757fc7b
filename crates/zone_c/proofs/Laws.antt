-- On every struct that a call gave, a call for C is the zone part's step.
use mathlib.Core.Path.{◌≡◌, refl}
use mathlib.Core.Bool.{Bool, true, false, cond, not}
use Prim.Native.Nat.{ℕ, ◌+◌}
use lib.Dec.{leb, ltb, eqb}
use borrow.Author.Tests.{eqb-true}
use Rattle.rules.specs.Edition.{has_gates}
use Rattle.rules.specs.Limits.{most_cars}
use Rattle.rules.specs.Sets.{within}
use Rattle.rules.specs.Zone.{has_checkpoint}
use Rattle.rules.specs.declared.Checkpoint.{Checkpoint}
use Rattle.rules.specs.declared.Checkpoint.TheVariants.{None, Mutable, Permanent}
use Rattle.rules.specs.declared.Direction.{Direction}
use Rattle.zone.specs.Zone.{is_zone_sound, is_other, has_room, refused, send_step, receive_step, request_step, start_step, last_gate_question, gate_step}
use Rattle.zone.specs.Answer.{StepAnswer}
use Rattle.zone.specs.declared.Zone.{Zone}
use Rattle.zone_c.specs.Plain.{mark_of, zone_of, kind_of, saved_of, plain_of, plain_step, answer_plain, send_plain, receive_plain, request_plain, start_plain, gate_plain}

pub mark-back : (c : Checkpoint) → mark_of (kind_of c) (saved_of c) ≡ c
unfolding mark_of
mark-back None = refl
mark-back (Mutable s) = refl
mark-back (Permanent s) = refl

pub kind-low : (c : Checkpoint) → ltb 2 (kind_of c) ≡ false
kind-low None = refl
kind-low (Mutable s) = refl
kind-low (Permanent s) = refl

-- A zone is what its struct stands for.
pub zone-back : (z : Zone) → zone_of (plain_of z) ≡ z
zone-back z = rw (mark-back z.checkpoint)

-- The answer for C of a step on a zone's own struct is the whole answer of the step.
record Told (z : Zone) (s : StepAnswer) : Type 0 where
  is : answer_plain (plain_of z) s ≡ plain_step s

told-refused : (z : Zone) (n : ℕ) → Told z (refused z n)
unfolding answer_plain
told-refused z n = record { is = go (eqb n 0) refl }
  where
    go : (b : Bool) → eqb n 0 ≡ b → answer_plain (plain_of z) (refused z n) ≡ plain_step (refused z n)
    go true e = rw (eqb-true n 0 e)
    go false e = rw e

told-accepted : (z : Zone) (s : StepAnswer) → s.refusal ≡ 0 → Told z s
unfolding answer_plain
told-accepted z s e = record { is = rw e }

-- One question more before it.
told-if : (z : Zone) (b : Bool) (s : StepAnswer) (n : ℕ) → Told z s → Told z (cond b s (refused z n))
told-if z true s n h = h
told-if z false s n h = told-refused z n

module _ (z : Zone) where
  send-told : (to cars : ℕ) → Told z (send_step z to cars)
  unfolding send_step
  send-told to cars = told-if z (is_zone_sound z) _ 1 (told-if z (is_other z to) _ 5 (told-if z (has_room z) _ 6 (told-if z (leb cars z.stock) _ 7 (told-accepted z _ refl))))

  receive-told : (from cars : ℕ) (flag : Bool) → Told z (receive_step z from cars flag)
  unfolding receive_step
  receive-told from cars flag =
      told-if z (is_zone_sound z) _ 1 (told-if z (is_other z from) _ 5 (told-if z (has_room z) _ 6 (told-if z (leb (z.stock + cars) most_cars) _ 20 (told-accepted z _ refl))))

  request-told : (set : ℕ) → Told z (request_step z set)
  unfolding request_step
  request-told set = told-if z (is_zone_sound z) _ 1 (told-if z (within set z.count) _ 5 (told-accepted z _ refl))

  start-told : Told z (start_step z)
  unfolding start_step
  start-told = told-if z (is_zone_sound z) _ 1 (told-if z (not (has_checkpoint z.checkpoint)) _ 11 (told-accepted z _ refl))

  gate-told : (d : Direction) (cars : ℕ) → Told z (gate_step z d cars)
  unfolding gate_step
  gate-told d cars =
      let q = last_gate_question d cars z.stock in
      told-if z (is_zone_sound z) _ 1 (told-if z (has_gates z.edition) _ 15 (told-if z (has_room z) _ 6 (told-if z q.yes _ q.number (told-accepted z _ refl))))

  pub send-plain : (to cars : ℕ) → send_plain (plain_of z) to cars ≡ plain_step (send_step z to cars)
  unfolding send_plain
  send-plain to cars = rw (kind-low z.checkpoint, zone-back z) (send-told to cars).is

  pub receive-plain : (from cars flag : ℕ) → receive_plain (plain_of z) from cars flag ≡ plain_step (receive_step z from cars (not (eqb flag 0)))
  unfolding receive_plain
  receive-plain from cars flag = rw (kind-low z.checkpoint, zone-back z) (receive-told from cars (not (eqb flag 0))).is

  pub request-plain : (set : ℕ) → request_plain (plain_of z) set ≡ plain_step (request_step z set)
  unfolding request_plain
  request-plain set = rw (kind-low z.checkpoint, zone-back z) (request-told set).is

  pub start_plain_lem : start_plain (plain_of z) ≡ plain_step (start_step z)
  unfolding start_plain
  start_plain_lem = rw (kind-low z.checkpoint, zone-back z) start-told.is

  pub gate-plain : (d : Direction) (cars : ℕ) → gate_plain (plain_of z) d cars ≡ plain_step (gate_step z d cars)
  unfolding gate_plain
  gate-plain d cars = rw (kind-low z.checkpoint, zone-back z) (gate-told d cars).is
