-- Those passed name their roots.
use Rattle.laws.specs.Kit.{◌∙◌, arith}
use borrow.Author.Count.{below_more}
use Rattle.groups.proofs.Roots.{kept_self, kept_then, flat_here}
use Rattle.groups.proofs.forest.flatten.Goals as goal

pub loop-i-init : goal.loop-i-init
loop-i-init c = (kept_self _ _ c.requires, λ j l. absurd (omega arith))

pub halve-requires : goal.halve-requires
halve-requires c = (c.loop-i.invariant.0.forest, omega arith)

pub loop-i-preserved : goal.loop-i-preserved
loop-i-preserved c =
    let e = c.halve.ensures.0 in
    let v = c.loop-i.invariant in
    (kept_then _ _ _ _ v.0 e.kept, below_more _ _ (λ j l. e.others j (λ q. omega arith) ∙ v.1 j l) (flat_here _ _ _ _ _ (omega arith) v.0 v.1 e))

pub returns : goal.returns
returns c = let g = c in record { kept = g.loop-i.invariant.0; there = λ i l. g.loop-i.invariant.1 i (omega arith) }
