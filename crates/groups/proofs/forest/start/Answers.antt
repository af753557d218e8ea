-- Those passed name themselves.
use Rattle.laws.specs.Kit.{refl, ◌∙◌, arith, length-set, get_or-set_same, get_or-set_other}
use borrow.Author.Count.{below_more}
use Rattle.groups.proofs.Roots.{root_of}
use Rattle.groups.proofs.forest.start.Goals as goal

pub loop-i-init : goal.loop-i-init
loop-i-init c = (refl, λ j l. absurd (omega arith))

pub loop-i-preserved : goal.loop-i-preserved
loop-i-preserved c =
    let ps = c.loop-i.parents in
    let i = c.loop-i.i in
    (length-set ps i i ∙ c.loop-i.invariant.0, below_more _ _ (λ j l. get_or-set_other ps i j i 0 (λ e. omega arith) ∙ c.loop-i.invariant.1 j l) (get_or-set_same ps i i 0 (omega arith)))

pub returns : goal.returns
returns c =
    record {
      size = c.loop-i.invariant.0;
      forest = record { room = omega arith; few = omega arith; down = λ j l. omega (arith, c.loop-i.invariant.1 j (omega arith)) };
      alone = λ j l. root_of _ j (c.loop-i.invariant.1 j (omega arith));
    }
