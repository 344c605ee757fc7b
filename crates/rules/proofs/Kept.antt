-- What each step of a history does or keeps, every list of allowed calls does or keeps. A start is a request from nobody, since
-- before the first start no zone has a checkpoint, and there is no second.
use mathlib.Core.Path.{◌≡◌, refl, sym, ◌∙◌, ap, subst}
use mathlib.Core.Bool.{Bool, true, false, ◌&&◌, ◌||◌, not, true≢false, false≢true}
use mathlib.Core.List.{List, [], ◌∷◌, tail}
use mathlib.Core.Option.{Option, none, some}
use Prim.Native.Nat.{ℕ, ◌≤◌}
use lib.Dec.{eqb}
use borrow.Author.Tests.{eqb-true}
use Rattle.rules.specs.Edition.{is_traffic}
use Rattle.rules.specs.Opening.{Opening}
use Rattle.rules.specs.Change.{on, join}
use Rattle.rules.specs.Sets.{nobody}
use Rattle.rules.specs.Zone.{has_checkpoint, is_permanent, received, started, requested}
use Rattle.rules.specs.Site.{Item, message, request, pop_s, turn_s, take_s, start_s, Call, send, receive, start, gate}
use Rattle.rules.specs.Cut.{May, Allowed}
use Rattle.rules.specs.declared.Local.{Local}
use Rattle.rules.proofs.Tests.{eqb_refl}
use Rattle.rules.proofs.Guarded.{on-keeps, on-true}
use Rattle.rules.proofs.Lists.{All, all_join, all_tail}
use Rattle.rules.proofs.Checkpoints.{has-checkpoint-after, permanent-after, permanent-made, started-requested}
use Rattle.rules.proofs.Acts.{Act, handing, passing}
use Rattle.rules.proofs.History.{History, open_h, NoCheckpoint, IsPermanent, own_h, own-checkpoint, receive_h, check_h, take_h, send-own, send-check, take-receive, take-check, pop_h, turn_h, begin_h, start_h, log_taken, step_h, history}

-- A message that an act puts on a channel is traffic.
abbrev pub Carries : Act → History → Type 0
Carries x h = (i j : ℕ) → x.goes i j ≡ true → is_traffic h.now.edition x.cars ≡ true

-- R leads from each history to the next, whatever the step.
pub record Does {κ} (R : History → History → Type κ) : Type κ where
  pub at_own : (x : Act) (h : History) → x.needs ≤ (h.now.zone x.zone).stock → Carries x h → R h (own_h x h)
  pub at-receive : (a b c : ℕ) (flag : Bool) (l : List Item) (h : History) → h.now.channel a b ≡ message c flag ∷ l
      → is_traffic h.now.edition c ≡ true → R h (receive_h a b c flag h)
  pub at-check : (a b c : ℕ) (h : History) → is_traffic h.now.edition c ≡ false → R h (check_h a b c h)
  pub at-checked : (a b c : ℕ) (flag : Bool) (l : List Item) (h : History) → h.now.channel a b ≡ message c flag ∷ l
      → is_traffic h.now.edition c ≡ false → R h (pop_h a b h)
  pub at_drop : (a b set : ℕ) (l : List Item) (h : History) → h.now.channel a b ≡ request set ∷ l
      → is_permanent (h.now.zone b).checkpoint ≡ true → R h (pop_h a b h)
  pub at-request : (a b set : ℕ) (l : List Item) (h : History) → h.now.channel a b ≡ request set ∷ l
      → is_permanent (h.now.zone b).checkpoint ≡ false → R h (turn_h b set (pop_h a b h))
  pub at-start : (a : ℕ) (h : History) → h.initiator ≡ none → ((z : ℕ) → NoCheckpoint h z) → R h (turn_h a nobody (begin_h a h))

-- P is kept, whatever the step.
abbrev pub Kept {κ} : (History → Type κ) → Type κ
Kept P = Does (λ h t. P h → P t)

-- Before a start no message has the flag and no request is on its way.
abbrev Calm : Item → Type 0
Calm (message c flag) = flag ≡ false
Calm (request set) = ⊥

pub record Fresh (h : History) : Type 0 where
  pub no-checkpoint : h.initiator ≡ none → (z : ℕ) → NoCheckpoint h z
  pub calm : h.initiator ≡ none → (i j : ℕ) → All Calm (h.now.channel i j)
  pub begun : (a : ℕ) → h.initiator ≡ some a → IsPermanent h a

pub some≢none : {a : ℕ} → ◌≡◌ {A = Option ℕ} (some a) none → ⊥
some≢none e = let z : ◌≡◌ {A = Bool} true false = cc in true≢false z

fresh_kept : Kept Fresh
fresh_kept = record {
  at_own = λ x h _ _ f. record {
    no-checkpoint = λ e z. ap has_checkpoint (own-checkpoint x h z) ∙ f.no-checkpoint e z;
    calm = λ e i j. on-keeps (All Calm) (x.goes i j) (join _) (h.now.channel i j)
        (λ w. all_join Calm (h.now.channel i j) _ w (f.no-checkpoint e x.zone)) (f.calm e i j);
    begun = λ a e. ap is_permanent (own-checkpoint x h a) ∙ f.begun a e;
  };
  at-receive = λ a b c flag l h at _ f. record {
    no-checkpoint = λ e z. on-keeps (λ (k : Local). has_checkpoint k.checkpoint ≡ false) (eqb z b) (received a c flag) (h.now.zone z)
        (λ q. has-checkpoint-after (h.now.zone z).checkpoint _ flag ∙ ap (λ (t : Bool). t || flag) q
        ∙ first a b c flag l h at (f.calm e)) (f.no-checkpoint e z);
    calm = λ e i j. on-keeps (All Calm) (eqb i a && eqb j b) tail (h.now.channel i j) (all_tail Calm (h.now.channel i j))
        (f.calm e i j);
    begun = λ x e. on-keeps (λ (k : Local). is_permanent k.checkpoint ≡ true) (eqb x b) (received a c flag) (h.now.zone x)
        (λ q. permanent-after (h.now.zone x).checkpoint _ flag ∙ q) (f.begun x e);
  };
  at-check = λ a b c h _ f. record {
    no-checkpoint = f.no-checkpoint;
    calm = λ e i j. on-keeps (All Calm) (eqb i a && eqb j b) (join _) (h.now.channel i j)
        (λ w. all_join Calm (h.now.channel i j) _ w (f.no-checkpoint e a)) (f.calm e i j);
    begun = f.begun;
  };
  at-checked = λ a b c flag l h at _ f. record {
    no-checkpoint = f.no-checkpoint;
    calm = λ e i j. on-keeps (All Calm) (eqb i a && eqb j b) tail (h.now.channel i j) (all_tail Calm (h.now.channel i j))
        (f.calm e i j);
    begun = f.begun;
  };
  at_drop = λ a b set l h at _ f. record {
    no-checkpoint = f.no-checkpoint;
    calm = λ e. absurd (no-request a b set l h at (f.calm e));
    begun = f.begun;
  };
  at-request = λ a b set l h at _ f. record {
    no-checkpoint = λ e. absurd (no-request a b set l h at (f.calm e));
    calm = λ e. absurd (no-request a b set l h at (f.calm e));
    begun = λ x e. turned b set (pop_h a b h) x (f.begun x e);
  };
  at-start = λ a h _ _ f. record {
    no-checkpoint = λ e. absurd (some≢none e);
    calm = λ e. absurd (some≢none e);
    begun = λ x e.
        let i : a ≡ x = cc in
        subst (IsPermanent (turn_h a nobody (begin_h a h))) i (ap (λ (k : Local). is_permanent k.checkpoint)
        (on-true (eqb a a) requested (h.now.zone a) (eqb_refl a)) ∙ permanent-made (h.now.zone a).checkpoint _);
  };
}
  where
    first : (a b c : ℕ) (flag : Bool) (l : List Item) (h : History) → h.now.channel a b ≡ message c flag ∷ l
        → ((i j : ℕ) → All Calm (h.now.channel i j)) → flag ≡ false
    first a b c flag l h at q = (subst (All Calm) at (q a b)).0

    no-request : (a b set : ℕ) (l : List Item) (h : History) → h.now.channel a b ≡ request set ∷ l
        → ((i j : ℕ) → All Calm (h.now.channel i j)) → ⊥
    no-request a b set l h at q = (subst (All Calm) at (q a b)).0

    turned : (b set : ℕ) (h : History) (x : ℕ) → IsPermanent h x → IsPermanent (turn_h b set h) x
    turned b set h x = on-keeps (λ (k : Local). is_permanent k.checkpoint ≡ true) (eqb x b) requested (h.now.zone x)
        (λ q. permanent-made (h.now.zone x).checkpoint _)

pub fresh-open : (v : Opening) → Fresh (open_h v)
fresh-open v = record { no-checkpoint = λ e z. refl; calm = λ e i j. tt; begun = λ a e. absurd (some≢none (sym e)) }

-- A start that is allowed is the first.
pub first-start : (a : ℕ) (h : History) → Fresh h → May (start a) h.now → h.initiator ≡ none
first-start a h f may = go h.initiator refl
  where
    go : (o : Option ℕ) → h.initiator ≡ o → o ≡ none
    go none e = refl
    go (some x) e = absurd (true≢false (sym (f.begun x e) ∙ may x))

start-turn : (a : ℕ) (h : History) → NoCheckpoint h a → start_h a h ≡ turn_h a nobody (begin_h a h)
start-turn a h e = λ i. record {
  now = record { edition = h.now.edition; zone = λ k. zones k i; channel = (start_s a h.now).channel };
  initiator = some a;
  log = h.log;
}
  where
    zones : (k : ℕ) → (start_s a h.now).zone k ≡ (turn_s a nobody h.now).zone k
    zones k = go (eqb k a) refl
      where
        go : (p : Bool) → eqb k a ≡ p → on p started (h.now.zone k) ≡ on p requested (h.now.zone k)
        go true q = started-requested (h.now.zone k) (ap (λ (x : ℕ). has_checkpoint (h.now.zone x).checkpoint) (eqb-true k a q) ∙ e)
        go false q = refl

module _ {κ} (R : History → History → Type κ) (does : Does R) where
  -- One allowed call.
  pub call-does : (c : Call) (h : History) → Fresh h → May c h.now → R h (step_h c h)
  call-does (send a b c) h f may = go (is_traffic h.now.edition c) refl
    where
      go : (p : Bool) → is_traffic h.now.edition c ≡ p → R h (step_h (send a b c) h)
      go true e = subst (R h) (sym (send-own a b c h e)) (does.at_own (handing a b c) h may (λ i j _. e))
      go false e = subst (R h) (sym (send-check a b c h e)) (does.at-check a b c h e)
  call-does (receive a b) h f may = go (h.now.channel a b) refl
    where
      turn : (set : ℕ) (l : List Item) (p : Bool) → h.now.channel a b ≡ request set ∷ l
          → is_permanent (h.now.zone b).checkpoint ≡ p
          → R h (record { now = on (not p) (turn_s b set) (pop_s a b h.now); initiator = h.initiator; log = h.log })
      turn set l true at e = does.at_drop a b set l h at e
      turn set l false at e = does.at-request a b set l h at e

      got : (c : ℕ) (flag : Bool) (l : List Item) (p : Bool) → h.now.channel a b ≡ message c flag ∷ l
          → is_traffic h.now.edition c ≡ p → R h (take_h a b c h flag)
      got c flag l true at e = subst (R h) (sym (take-receive a b c h flag e)) (does.at-receive a b c flag l h at e)
      got c flag l false at e = subst (R h) (sym (take-check a b c h flag e)) (does.at-checked a b c flag l h at e)

      go : (l : List Item) → h.now.channel a b ≡ l
          → R h (record { now = take_s a b l h.now; initiator = h.initiator; log = log_taken a b l h.now h.log })
      go [] at = absurd (may at)
      go (message c flag ∷ l) at = got c flag l (is_traffic h.now.edition c) at refl
      go (request set ∷ l) at = turn set l (is_permanent (h.now.zone b).checkpoint) at refl
  call-does (start a) h f may =
      let e = first-start a h f may in
      subst (R h) (sym (start-turn a h (f.no-checkpoint e a))) (does.at-start a h e (f.no-checkpoint e))
  call-does (gate d a c) h f may = does.at_own (passing d a c) h may (λ i j e. absurd (false≢true e))

pub fresh-call : (c : Call) (h : History) → Fresh h → May c h.now → Fresh (step_h c h)
fresh-call c h f may = call-does (λ h t. Fresh h → Fresh t) fresh_kept c h f may f

-- Allowed calls, one after another.
module _ {κ} (P : History → Type κ) (kept : Kept P) where
  pub calls-keep : (cs : List Call) (h : History) → Fresh h → Allowed cs h.now → P h → P (history cs h)
  calls-keep [] h f al p = p
  calls-keep (c ∷ cs) h f al p = calls-keep cs (step_h c h) (fresh-call c h f al.0) al.1 (call-does _ kept c h f al.0 p)

pub fresh-calls : (cs : List Call) (h : History) → Fresh h → Allowed cs h.now → Fresh (history cs h)
fresh-calls cs h f al = calls-keep Fresh fresh_kept cs h f al f
