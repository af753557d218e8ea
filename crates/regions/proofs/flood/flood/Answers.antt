use Rattle.std.specs.Prelude.{None, Some, ◌∷◌, ◌++◌}
use Rattle.laws.specs.Kit.{refl, ◌∙◌, arith, []}
use Rattle.definition.specs.Cells.{new_quad, quad_edges}
use Rattle.definition.specs.Region.{flood}
use Rattle.laws.specs.Frames.{under_sym}
use Rattle.cells.specs.Layout.{mesh_end}
use Rattle.cells.proofs.Frames.{rep_under}
use Rattle.regions.specs.Flood.{tri_live}
use Rattle.regions.proofs.Listings.{aside_refl, few}
use Rattle.regions.proofs.Visits.{tri_inside, reached_from}
use Rattle.regions.proofs.Floods.{flood_start, flood_end, flood_can, popped, flood_failed, flood_on}
use Rattle.regions.proofs.flood.flood.Goals as goal

pub start-requires : goal.start-requires
start-requires c =
    let a = c.args in
    record { can_mark = record { fits = omega (arith, c.requires.1.room.fits); small = c.requires.1.room.small; few = omega (arith, c.requires.1.used, c.requires.3) }; i_lt_s = tri_inside a.w.now a.lay.slots a.lay.points c.requires.0 c.requires.1 a.i c.requires.2 }

pub loop-head-init : goal.loop-head-init
loop-head-init c =
    let a = c.args in
    let w1 = c.start.new.w in
    let sd = c.start.ensures in
    let is = tri_inside a.w.now a.lay.slots a.lay.points c.requires.0 c.requires.1 a.i c.requires.2 in (
      refl,
      omega (arith, is),
      omega (arith, c.requires.1.room.small),
      λ m rep1 ti u.
          let rep = rep_under w1 a.w.now a.lay.slots a.lay.points (under_sym a.w.now w1 (mesh_end a.lay.slots a.lay.points) sd.aside.under) m rep1 in
          flood_start w1 w1 a.lay.slots a.lay.points m (quad_edges (new_quad a.a a.b a.c a.d)) (tri_live a.i ti.t) (aside_refl w1 a.lay.slots a.lay.points) (sd.alone m rep u ti),
    )

pub listed-j-requires : goal.listed-j-requires
listed-j-requires c =
    let a = c.args in
    let w1 = c.start.new.w in
    let sd = c.start.ensures in
    let m = c.requires.0 in
    let ti = c.requires.2 in
    let rep1 = rep_under a.w.now w1 a.lay.slots a.lay.points sd.aside.under m c.requires.1 in
    let fl = c.loop-head.invariant.3 m rep1 ti c.requires.3 in
    flood_can w1 c.loop-head.w a.lay.slots a.lay.points c.loop-head.n c.loop-head.head m (quad_edges (new_quad a.a a.b a.c a.d)) (flood m.used m (quad_edges (new_quad a.a a.b a.c a.d)) [] (tri_live a.i ti.t ∷ [])) fl c.loop-head-test.true

pub visit_tri-requires : goal.visit_tri-requires
visit_tri-requires c =
    let a = c.args in
    let w1 = c.start.new.w in
    let sd = c.start.ensures in
    let m = c.requires.0 in
    let ti = c.requires.2 in
    let rep1 = rep_under a.w.now w1 a.lay.slots a.lay.points sd.aside.under m c.requires.1 in
    let fl = c.loop-head.invariant.3 m rep1 ti c.requires.3 in
    let po = popped w1 c.loop-head.w a.lay.slots a.lay.points c.loop-head.n c.loop-head.head m (quad_edges (new_quad a.a a.b a.c a.d)) (flood m.used m (quad_edges (new_quad a.a a.b a.c a.d)) [] (tri_live a.i ti.t ∷ [])) fl c.loop-head-test.true c.listed-j.result c.listed-j.ensures in
    (m, po.done ++ po.todo, po.state, po.tri)

pub returns-in_err-n : goal.returns-in_err-n
returns-in_err-n c =
    λ m rep ti u.
    let a = c.args in
    let w1 = c.start.new.w in
    let sd = c.start.ensures in
    let rep1 = rep_under a.w.now w1 a.lay.slots a.lay.points sd.aside.under m rep in
    let fl = c.loop-head.invariant.3 m rep1 ti u in
    let po = popped w1 c.loop-head.w a.lay.slots a.lay.points c.loop-head.n c.loop-head.head m (quad_edges (new_quad a.a a.b a.c a.d)) (flood m.used m (quad_edges (new_quad a.a a.b a.c a.d)) [] (tri_live a.i ti.t ∷ [])) fl c.loop-head-test.true c.listed-j.result c.listed-j.ensures in
    let f = c.in_err-n.ensures m po.done po.todo po.state po.tri in
    rw c.from_residual.ensures (reached_from a.w.now w1 c.visit_tri.new.w a.lay.slots a.lay.points m [] (flood m.used m (quad_edges (new_quad a.a a.b a.c a.d)) [] (tri_live a.i ti.t ∷ [])) None sd.aside (flood_failed w1 c.loop-head.w a.lay.slots a.lay.points c.loop-head.n c.loop-head.head m (quad_edges (new_quad a.a a.b a.c a.d)) (flood m.used m (quad_edges (new_quad a.a a.b a.c a.d)) [] (tri_live a.i ti.t ∷ [])) fl c.loop-head-test.true c.listed-j.result c.listed-j.ensures c.visit_tri.new.w f))

pub loop-head-preserved : goal.loop-head-preserved
loop-head-preserved c =
    let a = c.args in
    let w1 = c.start.new.w in
    let sd = c.start.ensures in (
      c.visit_tri.auto.w ∙ c.loop-head.invariant.0,
      (
          let m = c.requires.0 in
          let ti = c.requires.2 in
          let rep1 = rep_under a.w.now w1 a.lay.slots a.lay.points sd.aside.under m c.requires.1 in
          let fl = c.loop-head.invariant.3 m rep1 ti c.requires.3 in
          let po = popped w1 c.loop-head.w a.lay.slots a.lay.points c.loop-head.n c.loop-head.head m (quad_edges (new_quad a.a a.b a.c a.d)) (flood m.used m (quad_edges (new_quad a.a a.b a.c a.d)) [] (tri_live a.i ti.t ∷ [])) fl c.loop-head-test.true c.listed-j.result c.listed-j.ensures in
          let f = c.in_ok-n.ensures m po.done po.todo po.state po.tri in
          let fo = flood_on w1 c.loop-head.w a.lay.slots a.lay.points c.loop-head.n c.loop-head.head m (quad_edges (new_quad a.a a.b a.c a.d)) (flood m.used m (quad_edges (new_quad a.a a.b a.c a.d)) [] (tri_live a.i ti.t ∷ [])) fl c.loop-head-test.true c.listed-j.result c.listed-j.ensures c.visit_tri.new.w c.in_ok-n.n f in
          omega (arith, few fo.state.list, rep1.used)),
      c.loop-head.invariant.2,
      λ m rep1 ti u.
          let fl = c.loop-head.invariant.3 m rep1 ti u in
          let po = popped w1 c.loop-head.w a.lay.slots a.lay.points c.loop-head.n c.loop-head.head m (quad_edges (new_quad a.a a.b a.c a.d)) (flood m.used m (quad_edges (new_quad a.a a.b a.c a.d)) [] (tri_live a.i ti.t ∷ [])) fl c.loop-head-test.true c.listed-j.result c.listed-j.ensures in
          let f = c.in_ok-n.ensures m po.done po.todo po.state po.tri in
          flood_on w1 c.loop-head.w a.lay.slots a.lay.points c.loop-head.n c.loop-head.head m (quad_edges (new_quad a.a a.b a.c a.d)) (flood m.used m (quad_edges (new_quad a.a a.b a.c a.d)) [] (tri_live a.i ti.t ∷ [])) fl c.loop-head-test.true c.listed-j.result c.listed-j.ensures c.visit_tri.new.w c.in_ok-n.n f,
    )

pub shape_of-w : goal.shape_of-w
shape_of-w c =
    c.loop-head.invariant.0 ∙ c.start.auto.w

pub returns : goal.returns
returns c =
    λ m rep ti u.
    let a = c.args in
    let w1 = c.start.new.w in
    let sd = c.start.ensures in
    let rep1 = rep_under a.w.now w1 a.lay.slots a.lay.points sd.aside.under m rep in
    let fl = c.loop-head.invariant.3 m rep1 ti u in
    reached_from a.w.now w1 c.loop-head.w a.lay.slots a.lay.points m [] (flood m.used m (quad_edges (new_quad a.a a.b a.c a.d)) [] (tri_live a.i ti.t ∷ [])) (Some c.loop-head.n) sd.aside (flood_end w1 c.loop-head.w a.lay.slots a.lay.points c.loop-head.n c.loop-head.head m (quad_edges (new_quad a.a a.b a.c a.d)) (flood m.used m (quad_edges (new_quad a.a a.b a.c a.d)) [] (tri_live a.i ti.t ∷ [])) fl c.loop-head-test.false)
