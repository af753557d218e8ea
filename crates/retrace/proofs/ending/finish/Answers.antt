-- The two lists by their writers, over the memory that stands for what is stored; the numbers by the state.
use Rattle.laws.specs.Kit.{refl, sym, ◌∙◌, ap, List, length}
use Rattle.definition.specs.Lists.{flat_map}
use Rattle.definition.specs.Cells.{Tri, tri_nodes}
use Rattle.definition.specs.Components.{component_sizes}
use Rattle.definition.specs.Call.{onto}
use Rattle.retrace.specs.Stored.{stored}
use Rattle.retrace.proofs.Keeping.{stored_used}
use Rattle.retrace.proofs.Leftover.{stored_triangles}
use Rattle.retrace.proofs.ending.finish.Goals as goal

pub write_triangles-left-requires : goal.write_triangles-left-requires
write_triangles-left-requires c =
    let k = c.requires.by_index in
    record { rep = (stored k.4, k.5.rep, stored_used k.4 ∙ sym k.5.used); s_in_bounds = c.requires.slots_in_bounds.0 }

pub component_sizes-sizes-requires : goal.component_sizes-sizes-requires
component_sizes-sizes-requires c =
    let k = c.requires.by_index in
    record { rep = (stored k.4, k.5.rep, stored_used k.4 ∙ sym k.5.used); s_in_bounds = c.requires.slots_in_bounds.1 }

pub returns : goal.returns
returns c =
    λ q quads q₀ old m h.
    let used = stored_used m ∙ sym h.used in
    let same = stored_triangles m in
    let out = c.write_triangles-left.ensures (stored m) h.rep used in
    let to = c.component_sizes-sizes.ensures (stored m) h.rep used in
    record {
      out = out.1 ∙ ap (λ (ts : List Tri). onto (flat_map tri_nodes ts) c.args.triangles_out.now) same;
      components = to.sizes ∙ ap (λ (ts : List Tri). onto (component_sizes ts) c.args.components.now) same;
      quads = h.number;
      left = out.0 ∙ ap (λ (ts : List Tri). length ts) same;
      points = h.points;
      sizes = to.count ∙ ap (λ (ts : List Tri). length (component_sizes ts)) same;
    }
