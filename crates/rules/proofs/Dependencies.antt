-- A zone without a checkpoint has only events that count as before its checkpoint, and a dependency set is the zone itself and the senders
-- of its receipts before its checkpoint.
use mathlib.Core.Path.{◌≡◌, refl, sym, ◌∙◌, ap}
use mathlib.Core.Bool.{Bool, true, false, ◌&&◌, ◌||◌, not, and-true, and-false, or-false, or_assoc, true≢false}
use mathlib.Core.List.{List, [], ◌∷◌}
use Prim.Native.Nat.{ℕ}
use lib.Dec.{eqb}
use borrow.Author.Tests.{eqb-true}
use Rattle.rules.specs.Opening.{Opening}
use Rattle.rules.specs.Change.{on, join}
use Rattle.rules.specs.Sets.{has, nobody}
use Rattle.rules.specs.Zone.{has_checkpoint, received, requested}
use Rattle.rules.specs.declared.Local.{Local}
use Rattle.rules.proofs.SetLaws.{has-only}
use Rattle.rules.proofs.Tests.{eqb_refl, or-off-left}
use Rattle.rules.proofs.Guarded.{on_same, on-true, on-back}
use Rattle.rules.proofs.Lists.{All, all_join, all_map}
use Rattle.rules.proofs.Acts.{Act}
use Rattle.rules.proofs.Tagged.{Event, acting, receiving, zone_of, is_post}
use Rattle.rules.proofs.Checkpoints.{has-checkpoint-after, has-checkpoint-made, has-deps_after}
use Rattle.rules.proofs.History.{History, open_h, NoCheckpoint, own_h, own-checkpoint, own-deps, receive_h, pop_h, turn_h, begin_h}
use Rattle.rules.proofs.Kept.{Kept}

-- Every event of a zone that has no checkpoint now counts as before its checkpoint.
abbrev pub PreOnly : History → Type 0
PreOnly h = All (λ e. NoCheckpoint h (zone_of e) → is_post e ≡ false) h.log

-- A zone without a checkpoint after a step was so before it.
no-checkpoint-own : (x : Act) (h : History) (k : ℕ) → NoCheckpoint (own_h x h) k → NoCheckpoint h k
no-checkpoint-own x h k e = sym (ap has_checkpoint (own-checkpoint x h k)) ∙ e

no-checkpoint-receive : (a b c : ℕ) (flag : Bool) (h : History) (k : ℕ) → NoCheckpoint (receive_h a b c flag h) k → NoCheckpoint h k
no-checkpoint-receive a b c flag h k = on-back (λ (z : Local). has_checkpoint z.checkpoint ≡ false) (eqb k b) (received a c flag)
    (h.now.zone k)
    (λ e. or-off-left _ flag (sym (has-checkpoint-after (h.now.zone k).checkpoint _ flag) ∙ e))

no-checkpoint-turn : (b set : ℕ) (h : History) (k : ℕ) → NoCheckpoint (turn_h b set h) k → NoCheckpoint h k
no-checkpoint-turn b set h k = on-back (λ (z : Local). has_checkpoint z.checkpoint ≡ false) (eqb k b) requested (h.now.zone k)
    (λ e. absurd (true≢false (sym (has-checkpoint-made (h.now.zone k).checkpoint _) ∙ e)))

later : (h t : History) → ((k : ℕ) → NoCheckpoint t k → NoCheckpoint h k) → PreOnly h
    → All (λ e. NoCheckpoint t (zone_of e) → is_post e ≡ false) h.log
later h t f p = all_map _ _ h.log (λ e g u. g (f (zone_of e) u)) p

pub pre-kept : Kept PreOnly
pre-kept = record {
  at_own = λ x h _ _ p. all_join _ h.log _ (later h (own_h x h) (no-checkpoint-own x h) p) (no-checkpoint-own x h x.zone);
  at-receive = λ a b c flag l h _ _ p. all_join _ h.log _ (later h (receive_h a b c flag h) (no-checkpoint-receive a b c flag h) p)
      (λ e. sym (has-checkpoint-after (h.now.zone b).checkpoint _ flag)
      ∙ sym (ap (λ (z : Local). has_checkpoint z.checkpoint) (on-true (eqb b b) (received a c flag) (h.now.zone b) (eqb_refl b)))
      ∙ e);
  at-check = λ a b c h _ p. p;
  at-checked = λ a b c flag l h _ _ p. p;
  at_drop = λ a b set l h _ _ p. p;
  at-request = λ a b set l h _ _ p. later h (turn_h b set (pop_h a b h)) (no-checkpoint-turn b set (pop_h a b h)) p;
  at-start = λ a h _ _ p. later h (turn_h a nobody (begin_h a h)) (no-checkpoint-turn a nobody (begin_h a h)) p;
}

-- Is the event a receipt by j from i before j's checkpoint?
abbrev pub is_sender : ℕ → ℕ → Event → Bool
is_sender j i (acting x m) = false
is_sender j i (receiving a b c m) = not m && (eqb i a && eqb j b)

-- Did j receive from i before its checkpoint?
abbrev pub sender_of : ℕ → ℕ → List Event → Bool
sender_of j i [] = false
sender_of j i (e ∷ es) = is_sender j i e || sender_of j i es

sender-join : (j i : ℕ) (es : List Event) (e : Event) → sender_of j i (join e es) ≡ sender_of j i es || is_sender j i e
sender-join j i [] e = or-false _
sender-join j i (x ∷ es) e = ap (λ t. is_sender j i x || t) (sender-join j i es e) ∙ sym (or_assoc (is_sender j i x) _ _)

abbrev pub Senders : History → Type 0
Senders h = (j i : ℕ) → has (h.now.zone j).deps i ≡ eqb i j || sender_of j i h.log

receive-senders : (a b c : ℕ) (flag : Bool) (h : History) → Senders h → Senders (receive_h a b c flag h)
receive-senders a b c flag h s j i = rw (sender-join j i h.log _) (go (eqb j b) refl)
  where
    go : (p : Bool) → eqb j b ≡ p → has (on p (received a c flag) (h.now.zone j)).deps i
        ≡ eqb i j || (sender_of j i h.log || (not (has_checkpoint (h.now.zone b).checkpoint || flag) && (eqb i a && p)))
    go true e =
        let w = ap (λ (k : ℕ). has_checkpoint (h.now.zone k).checkpoint) (eqb-true j b e) in
        rw (and-true (eqb i a), ← or_assoc, ← s j i, ← w)
        (has-deps_after (h.now.zone j).checkpoint (h.now.zone j).deps a flag i)
    go false e =
        rw (and-false (eqb i a), and-false (not (has_checkpoint (h.now.zone b).checkpoint || flag)), or-false (sender_of j i h.log))
        (s j i)

pub senders-kept : Kept Senders
senders-kept = record {
  at_own = λ x h _ _ s j i. ap (λ (d : ℕ). has d i) (own-deps x h j) ∙ s j i
      ∙ ap (λ t. eqb i j || t) (sym (sender-join j i h.log _ ∙ or-false _));
  at-receive = λ a b c flag l h _ _ s. receive-senders a b c flag h s;
  at-check = λ a b c h _ s. s;
  at-checked = λ a b c flag l h _ _ s. s;
  at_drop = λ a b set l h _ _ s. s;
  at-request = λ a b set l h _ _ s j i. on_same (λ (z : Local). has z.deps i) (eqb j b) requested (h.now.zone j) refl ∙ s j i;
  at-start = λ a h _ _ s j i. on_same (λ (z : Local). has z.deps i) (eqb j a) requested (h.now.zone j) refl ∙ s j i;
}

pub senders-open : (v : Opening) → Senders (open_h v)
senders-open v j i = has-only j i ∙ sym (or-false (eqb i j))
