-- The edges and the loops with an open edge come to memory and stand in line by their
-- perimeters, and they have their turns.
use lib.ListN.{length}
use Rattle.definition.specs.Cells.{front}
use Rattle.definition.specs.Lists.{flat_map}
use Rattle.definition.specs.Loops.{in_order, ranked_loop}
use Rattle.loops.specs.Sift.{open_loops}
use Rattle.rounds.proofs.Rounding.{points_number, rep_now, few_now, empty_rounded, can_sift, can_turn, can_loops, full_rounded}
use Rattle.rounds.proofs.rounds.round.Goals as goal

pub emptied-requires : goal.emptied-requires
emptied-requires c = few_now c.requires.goes.2

pub returns-then-k-eq0 : goal.returns-then-k-eq0
returns-then-k-eq0 c =
    λ z st go lk. empty_rounded go (c.front_edges-k.ensures st.mesh (rep_now go) (points_number go)) c.if-k-eq0.true c.emptied.ensures

pub front_loops-x-requires : goal.front_loops-x-requires
front_loops-x-requires c =
    let st = c.requires.goes.1 in
    let go = c.requires.goes.2 in
    (st.mesh, front st.mesh, st.blocked, can_sift go (c.front_edges-k.ensures st.mesh (rep_now go) (points_number go)) c.args.f.now c.requires.slots_in_bounds)

pub rank_loops-requires : goal.rank_loops-requires
rank_loops-requires c =
    let st = c.requires.goes.1 in
    let go = c.requires.goes.2 in
    let to = c.front_edges-k.ensures st.mesh (rep_now go) (points_number go) in
    let si = c.front_loops-x.ensures st.mesh (front st.mesh) st.blocked (can_sift go to c.args.f.now c.requires.slots_in_bounds) in
    (st.mesh.points, c.front_loops-x.result.edges, open_loops st.blocked (front st.mesh), can_turn go to c.requires.slots_in_bounds si)

pub try_loops-requires : goal.try_loops-requires
try_loops-requires c =
    let st = c.requires.goes.1 in
    let go = c.requires.goes.2 in
    let to = c.front_edges-k.ensures st.mesh (rep_now go) (points_number go) in
    let si = c.front_loops-x.ensures st.mesh (front st.mesh) st.blocked (can_sift go to c.args.f.now c.requires.slots_in_bounds) in
    let opens = open_loops st.blocked (front st.mesh) in
    let ra = c.rank_loops.ensures st.mesh.points c.front_loops-x.result.edges opens (can_turn go to c.requires.slots_in_bounds si) in
    (c.requires.goes.0, st, length st.mesh.points, opens, in_order (flat_map (ranked_loop st.mesh.points) opens), can_loops go to c.requires.slots_in_bounds si ra, c.requires.goes.3)

pub returns : goal.returns
returns c =
    λ z st go lk.
    let to = c.front_edges-k.ensures st.mesh (rep_now go) (points_number go) in
    let si = c.front_loops-x.ensures st.mesh (front st.mesh) st.blocked (can_sift go to c.args.f.now c.requires.slots_in_bounds) in
    let opens = open_loops st.blocked (front st.mesh) in
    let ra = c.rank_loops.ensures st.mesh.points c.front_loops-x.result.edges opens (can_turn go to c.requires.slots_in_bounds si) in
    full_rounded go to c.requires.slots_in_bounds si ra c.if-k-eq0.false c.try_loops.new.w c.try_loops.new.q c.try_loops.new.quads c.try_loops.new.t c.try_loops.result
    (c.try_loops.ensures z st (length st.mesh.points) opens (in_order (flat_map (ranked_loop st.mesh.points) opens)) (can_loops go to c.requires.slots_in_bounds si ra) lk)
