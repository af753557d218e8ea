-- Where no edge of a node below `from` crosses, none of a node below a does; the memory stands for the same mesh.
use Rattle.std.specs.Prelude.{◌-◌, ◌≤◌}
use Rattle.laws.specs.Kit.{◌∙◌, arith, rules}
use Rattle.definition.specs.Cells.{Mesh}
use Rattle.laws.specs.Frames.{Keeps, keeps_refl, keeps_trans}
use Rattle.cells.specs.Layout.{mesh_end}
use Rattle.crossings.specs.Cross.{Known, NoneBelow}
use Rattle.crossings.proofs.Crosses.{none_more, first_at, first_none}
use Rattle.crossings.proofs.cross.first_crossing.Goals as goal

pub limits_of-l-requires : goal.limits_of-l-requires
limits_of-l-requires c =
    let k = c.requires.known.1 in
    (omega (arith, k.pts.fits, k.pts.few, k.count, c.requires.segment.first), omega (arith, k.pts.fits, k.pts.few, k.count, c.requires.segment.second))

pub loop-a-init : goal.loop-a-init
loop-a-init c =
    let a = c.args in
    (c.requires.from_le_n, keeps_refl a.w.now (mesh_end a.lay.slots a.lay.points), λ m k. (k, λ f. f))

pub least_near-b-requires : goal.least_near-b-requires
least_near-b-requires c =
    let y = c.requires.known in
    record { known = (y.0, (c.loop-a.invariant.2 y.0 y.1).0); segment = c.requires.segment; a_lt_n = c.loop-a-test.true; limits = c.limits_of-l.ensures }

pub shape_of-w-then-b-n : goal.shape_of-w-then-b-n
shape_of-w-then-b-n c =
    c.least_near-b.auto.w ∙ c.loop-a.invariant.1.len

pub returns-then-b-n : goal.returns-then-b-n
returns-then-b-n c =
    let a = c.args in record {
      keeps = keeps_trans a.w.now c.loop-a.w c.least_near-b.new.w (mesh_end a.lay.slots a.lay.points) c.loop-a.invariant.1 c.least_near-b.ensures.keeps;
      is = λ m k.
          let y = c.loop-a.invariant.2 m k in
          let z = c.least_near-b.ensures.is m y.0 in
          (z.0, λ f. first_at a.w.now a.lay.slots a.lay.points a.n a.u a.v m k.rep c.loop-a.a c.least_near-b.result (y.1 f) z.1 c.if-b-n.true);
    }

pub loop-a-preserved : goal.loop-a-preserved
loop-a-preserved c =
    let a = c.args in (
      omega (arith, c.loop-a-test.true),
      keeps_trans a.w.now c.loop-a.w c.least_near-b.new.w (mesh_end a.lay.slots a.lay.points) c.loop-a.invariant.1 c.least_near-b.ensures.keeps,
      λ m k.
          let y = c.loop-a.invariant.2 m k in
          let z = c.least_near-b.ensures.is m y.0 in
          (z.0, λ f. none_more a.w.now a.lay.slots a.lay.points a.n a.u a.v m k.rep c.loop-a.a c.least_near-b.result (y.1 f) k.count z.1 c.if-b-n.false),
    )

pub returns : goal.returns
returns c =
    let a = c.args in record {
      keeps = c.loop-a.invariant.1;
      is = λ m k.
          let y = c.loop-a.invariant.2 m k in
          (y.0, λ f. first_none a.w.now a.lay.slots a.lay.points a.n a.u a.v m k.rep c.loop-a.a (y.1 f) k.count c.loop-a-test.false);
    }

pub shape_of-w : goal.shape_of-w
shape_of-w c = c.loop-a.invariant.1.len
