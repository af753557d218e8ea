-- The edges are put into places and sorted, the triangles joined along them, and counted by root.
use Rattle.laws.specs.Kit.{arith}
use Rattle.groups.proofs.Together.{sortable, runnable, labels, grouped}
use Rattle.groups.proofs.groups.Goals as goal

pub sort_digits-requires : goal.sort_digits-requires
sort_digits-requires c =
    sortable _ _ _ _ _ c.requires _ c.put_edges.ensures

pub join_runs-requires : goal.join_runs-requires
join_runs-requires c =
    runnable _ _ _ _ _ c.requires _ c.put_edges.ensures _ c.sort_digits.ensures _ c.start.ensures

pub put_sizes-requires : goal.put_sizes-requires
put_sizes-requires c =
    let s = c in (
      labels _ _ _ _ _ s.requires _ c.put_edges.ensures _ c.sort_digits.ensures _ _ _ c.join_runs.ensures c.flatten.ensures,
      omega (arith, c.flatten.ensures.kept.size, c.join_runs.ensures.size, c.start.ensures.size, s.requires.parents_room),
      s.requires.sizes_room,
      omega (arith, c.sort_digits.ensures.size, c.put_edges.ensures.size, s.requires.work),
    )

pub returns : goal.returns
returns c =
    grouped _ _ _ _ _ c.requires _ c.put_edges.ensures _ c.sort_digits.ensures _ _ _ c.join_runs.ensures c.flatten.ensures _ _ c.put_sizes.ensures
