use Rattle.plane.proofs.Measured.{sides_by}
use Rattle.plane.proofs.metrics.sides_of.Goals as goal

pub returns : goal.returns
returns c =
    λ a b e f h. record {
      at_a = sides_by f a b h.da.0 h.ab.1;
      at_b = sides_by a b e h.ab.0 h.bc.1;
      at_c = sides_by b e f h.bc.0 h.cd.1;
      at_d = sides_by e f a h.cd.0 h.da.1;
    }
