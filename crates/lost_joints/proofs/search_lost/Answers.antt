-- The given triangles' edges are filed in the first words, the result's in the rest;
-- the first joint that does not stand among them is the first that is lost.
use native.Mathlib.Omega.{arith}
use mathlib.Core.Path.{sym}
use Prim.{absurd}
use Prim.Native.Nat.{◌+◌, ◌*◌}
use borrow.Author.Rules.{rules}
use lib.Seq.{length-take-le}
use Rattle.lost_joints.proofs.Joints.{answers}
use Rattle.lost_joints.proofs.Parts.{alone, searchable, in_parts}
use Rattle.lost_joints.proofs.search_lost.Goals as goal

pub slice_bounds-file_edges-end-2 : goal.slice_bounds-file_edges-end-2
slice_bounds-file_edges-end-2 c = sym (length-take-le _ _ (search rules))

pub file_edges-requires : goal.file_edges-requires
file_edges-requires c =
    record {
      quads_sized = omega arith;
      left_sized = c.requires.given_sized;
      quads_nodes = λ i h. absurd (omega arith);
      left_nodes = c.requires.given_nodes;
      work = omega (arith, length-take-le (4 * (3 * c.args.count)) c.args.w.now (omega arith));
    }

pub lost_in-requires : goal.lost_in-requires
lost_in-requires c =
    searchable c.args.w.now c.file_edges.new.w c.file_edges-2.new.w (4 * (3 * c.args.count)) (omega arith) (search rules) _ _ _ _ _ _
    (alone _ _ _ c.file_edges.ensures) c.file_edges-2.ensures c.requires.joints_sized c.requires.joints_nodes

pub returns : goal.returns
returns c =
    answers _ _ _ _ _ _ _ _ c.requires.joints_nodes _ _ _ _ (alone _ _ _ c.file_edges.ensures) c.file_edges-2.ensures c.lost_in.result
    (in_parts c.args.w.now c.file_edges.new.w c.file_edges-2.new.w (4 * (3 * c.args.count)) (omega arith) (search rules)
    (3 * c.args.count) (4 * c.args.quad_count + 3 * c.args.left_count) c.args.joints.now c.args.n c.lost_in.result c.lost_in.ensures)
