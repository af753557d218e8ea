use Rattle.laws.specs.Kit.{◌∙◌, rules}
use Rattle.plane.proofs.Mirror.{dist_mirror}
use Rattle.plane.proofs.lengths.lengths_from.Goals as goal

pub returns : goal.returns
returns c =
    λ e f. record {
      ab = (e, e ∙ dist_mirror _ _);
      bc = c.dist_of.ensures;
      cd = c.dist_of-2.ensures;
      da = (f, f ∙ dist_mirror _ _);
    }
