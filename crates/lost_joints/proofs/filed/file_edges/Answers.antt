-- The sides' numbers are put into places and sorted.
use Rattle.lost_joints.proofs.Files.{sortable, filed}
use Rattle.lost_joints.proofs.filed.file_edges.Goals as goal

pub sort_digits-requires : goal.sort_digits-requires
sort_digits-requires c =
    sortable _ _ _ _ _ c.requires _ _ c.put_sides.ensures c.put_sides-2.ensures

pub returns : goal.returns
returns c =
    filed _ _ _ _ _ c.requires _ _ c.put_sides.ensures c.put_sides-2.ensures _ c.sort_digits.ensures
