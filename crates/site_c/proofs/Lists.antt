-- On every struct that a call gave, a call for C answers what the engine's call answers: so from an opening on, a list of calls for C gives
-- the runs of the same list of the engine's calls, of which demand 3 speaks.
use mathlib.Core.Path.{◌≡◌, refl, sym, ◌∙◌, ap}
use mathlib.Core.Bool.{Bool, true, false, cond}
use mathlib.Core.Logic.{◌≢◌}
use mathlib.Core.List.{List, [], ◌∷◌}
use Prim.Native.Nat.{ℕ, ◌<◌}
use lib.Dec.{leb, eqb}
use borrow.Author.Tests.{eqb-true, eqb-false}
use lib.ListN.{length, get_or, replicate}
use lib.Seq.{ext_get_or}
use Rattle.rules.specs.declared.Checkpoint.{Checkpoint}
use Rattle.rules.specs.declared.Checkpoint.TheVariants.{None, Mutable, Permanent}
use Rattle.rules.specs.declared.Local.{Local}
use Rattle.run.specs.Claims.{WholeRun}
use Rattle.run.specs.Lists.{after}
use Rattle.run.specs.State.{locals, no_local}
use Rattle.run.specs.Calls.{answer}
use Rattle.run.specs.declared.Run.{Run}
use Rattle.run.proofs.BelowLaws.{all_of, length-below, list_at}
use Rattle.run.proofs.Filled.{empty-zeros}
use Rattle.run.proofs.Outcome.{kept}
use Rattle.run.proofs.Remaining.{refused_none, open_none}
use Rattle.run.proofs.Whole.{call-whole, after-whole, open-whole}
use Rattle.journal.specs.Writing.{write_call}
use Rattle.journal.specs.Reading.{read_call}
use Rattle.page.specs.Call.{page_call}
use Rattle.recording.specs.Call.{record_call}
use Rattle.recording.specs.Journal.{record_journal}
use Rattle.recording.proofs.Totals.{no-total, read-total, journal-no-total}
use Rattle.zone_c.specs.Plain.{kind_of}
use Rattle.zone_c.proofs.Laws.{mark-back}
use Rattle.site_c.specs.Plain.{local_of, plain_local, no_plain, plain_at, locals_of, plain_locals, are_kinds, run_of, plain_run, plain_answer, refused_plain, answer_plain, open_plain, call_plain, after_plain, plain_output, plain_recording, PlainOutput, refused_plain_output, record_plain, recorded_plain, write_plain, page_plain, read_plain}
use Rattle.site_c.specs.declared.PlainAnswer.{PlainAnswer}
use Rattle.site_c.specs.declared.PlainRun.{PlainRun}
use Rattle.run.specs.Opening.{open_call, terms_as, opening_as}
use Rattle.run.specs.declared.SiteCall.{SiteCall}
use Rattle.run.specs.declared.Opening.{Opening}

local_back : (z : Local) → local_of (plain_local z) ≡ z
local_back z = rw (mark-back z.checkpoint)

-- Eight zones are what their structs stand for.
locals-back : (zones : List Local) → length zones ≡ 8 → locals_of (plain_locals zones) ≡ zones
unfolding locals_of plain_locals
locals-back zones e =
    ext_get_or no_local _ zones (length-below 8 (λ i. local_of (plain_at (plain_locals zones) i)) ∙ sym e)
    (λ i h. at i (rw (length-below 8 (λ i. local_of (plain_at (plain_locals zones) i))) at h))
  where
    at : (i : ℕ) → i < 8 → get_or (locals_of (plain_locals zones)) i no_local ≡ get_or zones i no_local
    at i h =
        list_at 8 (λ i. local_of (plain_at (plain_locals zones) i)) no_local i h
        ∙ ap local_of (list_at 8 (λ i. plain_local (get_or zones i no_local)) no_plain i h)
        ∙ local_back (get_or zones i no_local)

kind_at : (c : Checkpoint) → leb (kind_of c) 2 ≡ true
kind_at None = refl
kind_at (Mutable s) = refl
kind_at (Permanent s) = refl

kinds : (zones : List Local) → are_kinds (plain_locals zones) ≡ true
unfolding are_kinds plain_locals
kinds zones = all_of 8 (λ i. leb (plain_at (plain_locals zones) i).mark 2) at
  where
    at : (i : ℕ) → i < 8 → leb (plain_at (plain_locals zones) i).mark 2 ≡ true
    at i h = rw (list_at 8 (λ i. plain_local (get_or zones i no_local)) no_plain i h) (kind_at (get_or zones i no_local).checkpoint)

pub run-back : (r : Run) → WholeRun r → run_of (plain_run r) ≡ r
run-back r w = rw (locals-back (locals r.head) w.zones)

told : (c : SiteCall) (r : Run) → answer_plain (plain_run r) (answer c r) ≡ plain_answer (answer c r)
unfolding answer_plain
told c r = go (eqb (answer c r).refusal 0) refl
  where
    go : (b : Bool) → eqb (answer c r).refusal 0 ≡ b → answer_plain (plain_run r) (answer c r) ≡ plain_answer (answer c r)
    go true e = rw (eqb-true (answer c r).refusal 0 e)
    go false e = rw (e, kept c r e, refused_none c r (eqb-false (answer c r).refusal 0 e))

pub call-plain : (c : SiteCall) (r : Run) → WholeRun r → call_plain c (plain_run r) ≡ plain_answer (answer c r)
unfolding call_plain
call-plain c r w = rw (kinds (locals r.head), run-back r w) (told c r)

-- How many items remain, in C: on every struct whose mark kinds are sound what the engine answers of the run that it stands for; 0 beside a
-- refusal, whatever the struct, and of an opening; of a journal what the reader tells.
pub call-plain-remaining : (c : SiteCall) (p : PlainRun) → are_kinds p.head.zones ≡ true → (call_plain c p).remaining ≡ (answer c (run_of p)).remaining
unfolding call_plain answer_plain
call-plain-remaining c p k = rw k (go (eqb (answer c (run_of p)).refusal 0) refl)
  where
    go : (b : Bool) → eqb (answer c (run_of p)).refusal 0 ≡ b
        → (cond b (plain_answer (answer c (run_of p))) (refused_plain p (answer c (run_of p)).refusal)).remaining ≡ (answer c (run_of p)).remaining
    go true e = refl
    go false e = sym (refused_none c (run_of p) (eqb-false (answer c (run_of p)).refusal 0 e))

pub call-plain-none : (c : SiteCall) (p : PlainRun) → (call_plain c p).refusal ≢ 0 → (call_plain c p).remaining ≡ 0
unfolding call_plain answer_plain
call-plain-none c p = go (are_kinds p.head.zones) (eqb (answer c (run_of p)).refusal 0)
  where
    out : (kinds accepted : Bool) → PlainAnswer
    out kinds accepted = cond kinds (cond accepted (plain_answer (answer c (run_of p))) (refused_plain p (answer c (run_of p)).refusal)) (refused_plain p 1)

    go : (kinds accepted : Bool) → (out kinds accepted).refusal ≢ 0 → (out kinds accepted).remaining ≡ 0
    go true true h = refused_none c (run_of p) h
    go true false h = refl
    go false accepted h = refl

pub open-plain-none : (edition count : ℕ) (stocks : List ℕ) → (open_plain edition count stocks).remaining ≡ 0
open-plain-none edition count stocks = open_none (opening_as (terms_as edition count) stocks)

-- Opening with no stocks is opening with as many zeros as zones.
pub empty-plain : (edition count : ℕ) → open_plain edition count [] ≡ open_plain edition count (replicate count 0)
empty-plain edition count = ap plain_answer (empty-zeros (terms_as edition count))

pub read-plain-remaining : (bytes : List ℕ) → (read_plain bytes).remaining ≡ (read_call bytes).remaining
read-plain-remaining bytes = refl

pub calls-plain : (cs : List SiteCall) (r : Run) → WholeRun r → after_plain cs (plain_run r) ≡ plain_run (after cs r)
calls-plain [] r w = refl
calls-plain (c ∷ cs) r w = rw (call-plain c r w) (calls-plain cs (answer c r).run (call-whole c r w))

-- A list of calls after an opening, and what is written after it.
module _ (edition count : ℕ) (stocks : List ℕ) (cs : List SiteCall) where
  abbrev o : Opening
  o = opening_as (terms_as edition count) stocks

  pub opened-plain : after_plain cs (open_plain edition count stocks).run ≡ plain_run (after cs (open_call o).run)
  opened-plain = calls-plain cs (open_call o).run (open-whole o)

  -- The whole answer to the next call: the refusal, how many items remain, the run.
  pub opened-answer : (c : SiteCall)
      → call_plain c (after_plain cs (open_plain edition count stocks).run) ≡ plain_answer (answer c (after cs (open_call o).run))
  opened-answer c = ap (call_plain c) opened-plain ∙ call-plain c (after cs (open_call o).run) (after-whole cs (open_call o).run (open-whole o))

pub record-plain : (r : Run) (lent : List ℕ) → WholeRun r → record_plain (plain_run r) lent ≡ plain_recording (record_call r lent)
unfolding record_plain
record-plain r lent w = rw (kinds (locals r.head), run-back r w)

-- C is answered the engine's total, of a run and of a journal; and 0 beside a refusal.
pub record-plain-total : (r : Run) (lent : List ℕ) → WholeRun r → (record_plain (plain_run r) lent).answer.total ≡ (record_call r lent).answer.total
record-plain-total r lent w = rw (record-plain r lent w) refl

pub journal-plain-total : (bytes lent : List ℕ) → (read_call bytes).refusal ≡ 0
    → (recorded_plain (record_journal bytes lent).answer).total ≡ (record_call (read_call bytes).run lent).answer.total
journal-plain-total = read-total

pub record-plain-no-total : (p : PlainRun) (lent : List ℕ) → (record_plain p lent).answer.refusal ≢ 0 → (record_plain p lent).answer.total ≡ 0
unfolding record_plain
record-plain-no-total p lent = go (are_kinds p.head.zones)
  where
    out : Bool → PlainOutput
    out b = cond b (plain_recording (record_call (run_of p) lent)) (refused_plain_output lent 1 0)

    go : (b : Bool) → (out b).answer.refusal ≢ 0 → (out b).answer.total ≡ 0
    go true h = no-total (run_of p) lent h
    go false h = refl

pub journal-plain-no-total : (bytes lent : List ℕ) → (recorded_plain (record_journal bytes lent).answer).refusal ≢ 0
    → (recorded_plain (record_journal bytes lent).answer).total ≡ 0
journal-plain-no-total = journal-no-total

pub page-plain : (r : Run) (lent : List ℕ) → WholeRun r → page_plain (plain_run r) lent ≡ plain_output (page_call r lent)
unfolding page_plain
page-plain r lent w = rw (kinds (locals r.head), run-back r w)

pub write-plain : (r : Run) (lent : List ℕ) → WholeRun r → write_plain (plain_run r) lent ≡ plain_output (write_call r lent)
unfolding write_plain
write-plain r lent w = rw (kinds (locals r.head), run-back r w)
