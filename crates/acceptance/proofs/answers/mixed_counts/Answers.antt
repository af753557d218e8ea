-- `answers::mixed_counts`: a step for each number.
use mathlib.Core.Path.{◌≡◌, ap, ◌∙◌}
use Prim.Native.Nat.{ℕ}
use borrow.Author.Rules.{rules}
use Rattle.hashing.specs.Hash.{step, hash}
use Rattle.acceptance.specs.Folded.{counted}
use Rattle.acceptance.proofs.answers.mixed_counts.Goals as goal

-- a step from equal hashes
then : (x : ℕ) {h g : ℕ} → h ≡ g → step h x ≡ step g x
then x e = ap (λ z. step z x) e

pub returns : goal.returns
unfolding hash counted
returns c =
    let a = c.args.a in
    c.mixed.ensures ∙ then a.trials (
    c.mixed-h-13.ensures ∙ then a.components (
    c.mixed-h-12.ensures ∙ then a.points (
    c.mixed-h-11.ensures ∙ then a.triangles (
    c.mixed-h-10.ensures ∙ then a.quads (
    c.mixed-h-9.ensures ∙ then a.limit (
    c.mixed-h-8.ensures ∙ then a.mismatch_insertions (
    c.mixed-h-7.ensures ∙ then a.odd_region (
    c.mixed-h-6.ensures ∙ then a.region (
    c.mixed-h-5.ensures ∙ then a.recovery (
    c.mixed-h-4.ensures ∙ then a.invalid_quad (
    c.mixed-h-3.ensures ∙ then a.placement (
    c.mixed-h-2.ensures ∙ then a.attempts c.mixed-h.ensures))))))))))))
