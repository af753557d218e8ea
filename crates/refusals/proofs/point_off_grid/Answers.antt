-- Every point passed is on the grid; the first that is not answers.
use Rattle.std.specs.Prelude.{◌+◌, ◌*◌}
use Rattle.laws.specs.Kit.{refl, sym, ◌∙◌, ap, not, arith, not-suc-le-zero, [], get_or}
use borrow.Author.Count.{below_more}
use Rattle.definition.specs.Floats.{0·0}
use Rattle.definition.specs.Call.{Lent, outside, grid_node}
use Rattle.laws.specs.Bools.{never, holds}
use Rattle.refusals.specs.Stated.{asked}
use Rattle.refusals.specs.Passed.{near_each, grid_each, grid_pass}
use Rattle.refusals.proofs.Near.{read_point}
use Rattle.refusals.proofs.point_off_grid.Goals as goal

pub loop-i-init : goal.loop-i-init
loop-i-init c = (omega arith, λ k h. absurd (not-suc-le-zero h))

pub off_grid-requires : goal.off_grid-requires
unfolding outside
off_grid-requires c =
    λ z.
    let ps = c.args.points.now in
    let l : Lent = record { points = ps; triangles = []; joints = []; quads = []; triangles_out = []; components = []; work = []; float_work = []; trace = [] } in
    ap outside (read_point ps c.loop-i.i (omega arith)) ∙ near_each (asked c.args.a) l (c.requires.1 l refl) c.loop-i.i (omega arith)

pub returns-then-off_grid : goal.returns-then-off_grid
returns-then-off_grid c =
    λ l e.
    let ps = c.args.points.now in
    let i = c.loop-i.i in
    let o = c.off_grid.ensures (get_or ps (3 * i + 2) 0·0) ∙ ap (λ p. not (grid_node p)) (read_point ps i (omega arith)) in
    sym (holds _ (λ f. never _ (sym o ∙ c.if-off_grid.true) ((rw e at (grid_each (asked c.args.a) l f)) i (omega arith))))

pub loop-i-preserved : goal.loop-i-preserved
loop-i-preserved c =
    let ps = c.args.points.now in
    let i = c.loop-i.i in
    let o = c.off_grid.ensures (get_or ps (3 * i + 2) 0·0) ∙ ap (λ p. not (grid_node p)) (read_point ps i (omega arith)) in
    (omega arith, below_more _ _ c.loop-i.invariant.1 (sym o ∙ c.if-off_grid.false))

pub returns : goal.returns
returns c = λ l e. sym (grid_pass _ l (rw e (λ k h. c.loop-i.invariant.1 k (omega arith))))
