-- The derived `==` of two zones is the comparison of the rules; the zones of two sites, one by one.
use mathlib.Core.Path.{◌≡◌, refl, sym, ◌∙◌, ap, ap₂}
use mathlib.Core.Bool.{Bool, ◌&&◌, and_assoc}
use mathlib.Core.List.{List, [], ◌∷◌}
use Prim.Native.Nat.{ℕ, zero, suc, ◌≤◌}
use native.Mathlib.Omega.{arith}
use lib.Dec.{eqb}
use lib.ListN.{length, get_or, take}
use Rattle.std.specs.Cmp.Lexicographic.{pointwise}
use Rattle.rules.specs.Below.{all_below}
use Rattle.rules.specs.declared.Checkpoint.{Checkpoint}
use Rattle.rules.specs.declared.Checkpoint.TheVariants.{None, Mutable, Permanent}
use Rattle.rules.specs.declared.Local.{Local}
use Rattle.rules.specs.contracts.CheckpointPartialEq.TheImpl as checkpoints
use Rattle.rules.specs.contracts.LocalPartialEq.TheImpl as locals
use Rattle.channel.proofs.Indices.{all_front}
use Rattle.journal.specs.Writing.{same_checkpoint, same_local}
use Rattle.run.specs.State.{no_local}

checkpoint-eq : (p q : Checkpoint) → checkpoints.eq-value.it p q ≡ same_checkpoint p q
checkpoint-eq None None = refl
checkpoint-eq None (Mutable b) = refl
checkpoint-eq None (Permanent b) = refl
checkpoint-eq (Mutable a) None = refl
checkpoint-eq (Mutable a) (Mutable b) = refl
checkpoint-eq (Mutable a) (Permanent b) = refl
checkpoint-eq (Permanent a) None = refl
checkpoint-eq (Permanent a) (Mutable b) = refl
checkpoint-eq (Permanent a) (Permanent b) = refl

local-eq : (a b : Local) → locals.eq-value.it a b ≡ same_local a b
unfolding same_local
local-eq a b =
    let s = eqb a.stock b.stock in
    let d = eqb a.deps b.deps in
    let e = eqb a.events b.events in
    let c = same_checkpoint a.checkpoint b.checkpoint in
    ap (λ (x : Bool). s && (d && (e && x))) (checkpoint-eq a.checkpoint b.checkpoint) ∙ sym (and_assoc (s && d) e c ∙ and_assoc s d (e && c))

pub zones-eq : (n : ℕ) (xs ys : List Local) → n ≤ length xs → n ≤ length ys
    → pointwise locals.eq-value.it (take n xs) (take n ys) ≡ all_below n (λ k. same_local (get_or xs k no_local) (get_or ys k no_local))
zones-eq zero xs ys h i = refl
zones-eq (suc n) [] ys h i = absurd (omega arith)
zones-eq (suc n) (x ∷ xs) [] h i = absurd (omega arith)
zones-eq (suc n) (x ∷ xs) (y ∷ ys) h i =
    ap₂ ◌&&◌ (local-eq x y) (zones-eq n xs ys (omega arith) (omega arith))
    ∙ sym (all_front n (λ k. same_local (get_or (x ∷ xs) k no_local) (get_or (y ∷ ys) k no_local)))
