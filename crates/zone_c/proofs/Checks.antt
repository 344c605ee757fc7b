-- Line checks from C, of every struct: from edition 2 on a hand-over of 0 cars, sent or received, leaves each of its fields as it was. Only
-- the saved values of a zone without a mark, which mean nothing, are 0 behind an accepted call.
use mathlib.Core.Path.{◌≡◌, refl, sym, ◌∙◌, ap}
use mathlib.Core.Bool.{Bool, true, false, cond, not}
use Prim.Native.Nat.{ℕ, ◌≤◌}
use native.Mathlib.Omega.{arith}
use lib.Dec.{ltb, eqb}
use borrow.Author.Tests.{eqb-true, eqb-false, ltb-false}
use Rattle.rules.specs.declared.Saved.{Saved}
use Rattle.rules.specs.declared.Checkpoint.TheVariants.{None, Mutable, Permanent}
use Rattle.zone.specs.Zone.{send_step, receive_step}
use Rattle.zone.specs.Answer.{StepAnswer}
use Rattle.zone.proofs.Checks.{send-check, receive-check}
use Rattle.zone_c.specs.Plain.{mark_of, zone_of, plain_of, kind_of, saved_of, answer_plain, if_kind, send_plain, receive_plain}
use Rattle.zone_c.specs.declared.PlainSaved.{PlainSaved}
use Rattle.zone_c.specs.declared.PlainStep.{PlainStep}
use Rattle.zone_c.specs.declared.PlainZone.{PlainZone}

-- The struct, with the saved values at 0 where there is no mark.
abbrev pub tidied : PlainZone → PlainZone
tidied p = record {
  number = p.number;
  count = p.count;
  deps = p.deps;
  mark = p.mark;
  stock = p.stock;
  events = p.events;
  saved = cond (eqb p.mark 0) (record { stock = 0; events = 0 }) p.saved;
  edition = p.edition;
}

-- What a call leaves of a struct that it does not change: refused, all of it.
abbrev pub Unchanged : PlainZone → PlainStep → Type 0
Unchanged p s = s.zone ≡ cond (eqb s.refusal 0) (tidied p) p

-- The mark of a kind that is not above 2, back.
kind-is : (kind : ℕ) (s : PlainSaved) → ltb 2 kind ≡ false → kind_of (mark_of kind s) ≡ kind
unfolding mark_of
kind-is kind s low = go (eqb kind 0) (eqb kind 1) refl refl
  where
    go : (a b : Bool) → eqb kind 0 ≡ a → eqb kind 1 ≡ b → kind_of (mark_of kind s) ≡ kind
    go true b e f = rw e (sym (eqb-true kind 0 e))
    go false true e f = rw (e, f) (sym (eqb-true kind 1 f))
    go false false e f = rw (e, f) (omega (arith, ltb-false 2 kind low, eqb-false kind 0 e, eqb-false kind 1 f))

saved-is : (kind : ℕ) (s : PlainSaved) → saved_of (mark_of kind s) ≡ cond (eqb kind 0) (record { stock = 0; events = 0 }) s
unfolding mark_of
saved-is kind s = go (eqb kind 0) (eqb kind 1)
  where
    keeps : Saved
    keeps = record { stock = s.stock; events = s.events }

    go : (a b : Bool) → saved_of (cond a None (cond b (Mutable keeps) (Permanent keeps))) ≡ cond a (record { stock = 0; events = 0 }) s
    go true b = refl
    go false true = refl
    go false false = refl

module _ (p : PlainZone) where
  tidied-is : ltb 2 p.mark ≡ false → plain_of (zone_of p) ≡ tidied p
  tidied-is low = rw (kind-is p.mark p.saved low, saved-is p.mark p.saved)

  unchanged : (s : StepAnswer) → s.zone ≡ zone_of p → Unchanged p (if_kind p (answer_plain p s))
  unfolding answer_plain
  unchanged s e = go (ltb 2 p.mark) (eqb s.refusal 0) refl refl
    where
      go : (a b : Bool) → ltb 2 p.mark ≡ a → eqb s.refusal 0 ≡ b → Unchanged p (if_kind p (answer_plain p s))
      go true b k n = rw k
      go false true k n = rw (k, n) (ap plain_of e ∙ tidied-is k)
      go false false k n = rw (k, n) (ap (λ (t : Bool). cond t (tidied p) p) (sym n))

  module _ (from-two : 2 ≤ p.edition) where
    pub send-check-plain : (to : ℕ) → Unchanged p (send_plain p to 0)
    unfolding send_plain
    send-check-plain to = unchanged (send_step (zone_of p) to 0) (send-check (zone_of p) from-two to)

    pub receive-check-plain : (from flag : ℕ) → Unchanged p (receive_plain p from 0 flag)
    unfolding receive_plain
    receive-check-plain from flag =
        unchanged (receive_step (zone_of p) from 0 (not (eqb flag 0))) (receive-check (zone_of p) from-two from (not (eqb flag 0)))
