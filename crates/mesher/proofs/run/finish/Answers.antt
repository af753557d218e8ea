-- The two lists by their writers, the counts by the standing.
use mathlib.Core.Path.{refl}
use Rattle.mesher.proofs.run.finish.Goals as goal

pub returns : goal.returns
returns c =
    λ m h.
    let to = c.component_sizes-sizes.ensures m h.rep h.used in
    let out = c.write_triangles-left.ensures m h.rep h.used in
    record {
      out = out.1;
      components = to.sizes;
      number = refl;
      counts = refl;
      quads = refl;
      left = out.0;
      points = refl;
      sizes = to.count;
      words = refl;
    }
