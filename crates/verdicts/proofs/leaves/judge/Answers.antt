-- The four parts, one after the other over the same work.
use native.Mathlib.Omega.{arith}
use Rattle.verdicts.proofs.leaves.judge.Goals as goal

pub lost_joint-lost-requires : goal.lost_joint-lost-requires
lost_joint-lost-requires c =
    record {
      given_sized = c.requires.given_sized;
      quads_sized = c.requires.quads_sized;
      left_sized = c.requires.left_sized;
      joints_sized = c.requires.joints_sized;
      given_nodes = λ i h. (c.requires.given_nodes i h).small;
      quads_nodes = c.requires.quads_nodes;
      left_nodes = λ i h. (c.requires.left_nodes i h).small;
      joints_nodes = c.requires.joints_nodes;
      work = omega arith;
    }

pub groups-m-requires : goal.groups-m-requires
groups-m-requires c =
    record {
      few = c.requires.few;
      sized = c.requires.left_sized;
      nodes = λ i h. (c.requires.left_nodes i h).small;
      distinct = c.requires.distinct;
      work = omega arith;
      parents_room = omega arith;
      sizes_room = omega arith;
    }
