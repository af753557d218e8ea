-- The numbers passed are joined.
use Rattle.std.specs.Prelude.{◌-◌, ◌<◌}
use Rattle.laws.specs.Kit.{sym, subst, arith}
use mathlib.Core.Path.{subst₂}
use Rattle.groups.specs.Joins.{tri_of, Joined}
use Rattle.groups.proofs.Links.{run_start, run_next, run_end}
use Rattle.groups.proofs.forest.join_runs.Goals as goal

pub loop-i-init : goal.loop-i-init
loop-i-init c = run_start _ _ _ _ c.requires

pub join_equal-requires : goal.join_equal-requires
join_equal-requires c =
    let i = c.loop-i.i in (
      c.loop-i.invariant.forest,
      subst (λ z. tri_of z < c.args.n) (sym c.key_at.ensures) (c.requires.tris (i - 1) (omega arith)),
      subst (λ z. tri_of z < c.args.n) (sym c.key_at-in-loop-i.ensures) (c.requires.tris i (omega arith)),
    )

pub loop-i-preserved : goal.loop-i-preserved
loop-i-preserved c =
    run_next _ _ _ _ _ _ _ c.requires.tris c.loop-i-test.true c.loop-i.invariant
    (subst₂ (λ a b. Joined c.loop-i.parents c.join_equal.new.parents c.args.n a b) c.key_at.ensures c.key_at-in-loop-i.ensures c.join_equal.ensures)

pub returns : goal.returns
returns c = run_end _ _ _ _ _ _ c.loop-i-test.false c.loop-i.invariant
