-- The joints passed are in the table.
use Rattle.std.specs.Prelude.{◌≡◌}
use Rattle.laws.specs.Kit.{refl, ◌∙◌, arith, length-set}
use Rattle.definition.specs.Call.{joint_at}
use Rattle.joints.proofs.Puts.{begun_none, begun_more, begun_all}
use Rattle.joints.proofs.put_joints.Goals as goal

pub loop-i-init : goal.loop-i-init
loop-i-init c =
    let a = c.args in
    (omega arith, refl, begun_none a.j.now a.joints.now a.n c.requires.in_bounds)

pub put_joint-requires : goal.put_joint-requires
put_joint-requires c = omega (arith, c.loop-i.invariant.2.long)

pub loop-i-preserved : goal.loop-i-preserved
unfolding joint_at
loop-i-preserved c =
    let l = c.loop-i in
    let p = c.put_joint.ensures in
    (omega arith, p.len ∙ l.invariant.1, begun_more _ _ _ _ l.i l.invariant.2 p)

pub shape_of-j : goal.shape_of-j
shape_of-j c = c.loop-i.invariant.1 ∙ simp length-set

pub returns : goal.returns
returns c =
    let l = c.loop-i in
    let e : l.i ≡ c.args.n = omega arith in
    begun_all l.j c.args.joints.now c.args.n c.requires.n_bound (rw e at l.invariant.2)
