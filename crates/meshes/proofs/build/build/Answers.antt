-- The loop's invariant: the memory stands for every mesh of the first i triangles. The measure is how many are left.
use Rattle.std.specs.Prelude.{◌≡◌}
use Rattle.laws.specs.Kit.{◌∙◌, arith}
use Rattle.laws.specs.Frames.{keeps_refl, keeps_trans}
use Rattle.cells.specs.Layout.{mesh_end}
use Rattle.meshes.proofs.Builds.{sample, sample_new, build_can, build_more, new_none}
use Rattle.meshes.proofs.build.build.Goals as goal

pub empty-requires : goal.empty-requires
empty-requires c =
    c.requires.room

pub loop-i-init : goal.loop-i-init
loop-i-init c =
    let a = c.args in (
      omega arith,
      keeps_refl _ (mesh_end a.lay.slots a.lay.points),
      λ m k.
          c.empty.ensures.rep m (omega (arith, k.used)) (omega (arith, k.points, c.requires.points)) (new_none m a.triangles.now a.g k),
    )

pub overflow_mul-i : goal.overflow_mul-i
overflow_mul-i c =
    omega (arith, c.requires.long, c.loop-i-test.true)

pub bounds-triangles-i : goal.bounds-triangles-i
bounds-triangles-i c =
    omega (arith, c.requires.long, c.loop-i-test.true)

pub overflow_mul-i-in-loop-i : goal.overflow_mul-i-in-loop-i
overflow_mul-i-in-loop-i c =
    omega (arith, c.requires.long, c.loop-i-test.true)

pub overflow_add-i : goal.overflow_add-i
overflow_add-i c =
    omega (arith, c.requires.long, c.loop-i-test.true)

pub bounds-triangles-i-in-loop-i : goal.bounds-triangles-i-in-loop-i
bounds-triangles-i-in-loop-i c =
    omega (arith, c.requires.long, c.loop-i-test.true)

pub overflow_mul-i-in-loop-i-2 : goal.overflow_mul-i-in-loop-i-2
overflow_mul-i-in-loop-i-2 c =
    omega (arith, c.requires.long, c.loop-i-test.true)

pub overflow_add-i-in-loop-i : goal.overflow_add-i-in-loop-i
overflow_add-i-in-loop-i c =
    omega (arith, c.requires.long, c.loop-i-test.true)

pub bounds-triangles-i-in-loop-i-2 : goal.bounds-triangles-i-in-loop-i-2
bounds-triangles-i-in-loop-i-2 c =
    omega (arith, c.requires.long, c.loop-i-test.true)

pub push_tri-requires : goal.push_tri-requires
push_tri-requires c =
    let a = c.args in
    let x = c.loop-i in
    let m = sample a.triangles.now x.i a.g in
    let k = sample_new a.triangles.now x.i a.g in
    (m, x.invariant.2 m k, build_can a.w.now a.lay.slots a.lay.points a.triangles.now a.n a.g x.i c.wide-a.result c.wide-b.result c.wide-c.result c.requires c.loop-i-test.true c.wide-a.ensures c.wide-b.ensures c.wide-c.ensures m k)

pub loop-i-preserved : goal.loop-i-preserved
loop-i-preserved c =
    let a = c.args in
    let x = c.loop-i in
    let q = c.push_tri in (
      omega (arith, c.loop-i-test.true),
      keeps_trans _ x.w q.new.w (mesh_end a.lay.slots a.lay.points) x.invariant.1 q.ensures.keeps,
      build_more a.w.now a.lay.slots a.lay.points a.triangles.now a.n a.g x.i c.wide-a.result c.wide-b.result c.wide-c.result c.requires c.loop-i-test.true c.wide-a.ensures c.wide-b.ensures c.wide-c.ensures x.w q.new.w x.invariant.2 q.ensures,
    )

pub shape_of-w : goal.shape_of-w
shape_of-w c =
    c.loop-i.invariant.1.len ∙ c.empty.ensures.keeps.len

pub returns : goal.returns
returns c =
    let a = c.args in
    let x = c.loop-i in
    let e : x.i ≡ a.n = omega (arith, c.loop-i-test.false, x.invariant.0) in
    record {
      rep = λ m k. x.invariant.2 m (rw e k);
      keeps = keeps_trans a.w.now c.empty.new.w x.w (mesh_end a.lay.slots a.lay.points) c.empty.ensures.keeps x.invariant.1;
    }
