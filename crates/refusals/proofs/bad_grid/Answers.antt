-- Without the profile nothing is tested; in it the size, then the points.
use Rattle.std.specs.Prelude.{◌≡◌}
use Rattle.laws.specs.Kit.{true, false, not}
use Rattle.std.specs.Float.Ieee.{eq}
use Rattle.definition.specs.Floats.{0·0, f64}
use Rattle.definition.specs.Call.{given_points, bad_grid}
use Rattle.refusals.proofs.bad_grid.Goals as goal

pub returns-then-a-2 : goal.returns-then-a-2
unfolding bad_grid 0·0 f64 eq lib.Ieee.ne
returns-then-a-2 c = λ l e.
    let s : not (eq c.args.a.size 0·0) ≡ true = c.if-a-2.true in
    rw (c.if-a.true, s)

pub returns-else-a-2 : goal.returns-else-a-2
unfolding bad_grid given_points 0·0 f64 eq lib.Ieee.ne
returns-else-a-2 c = λ l e.
    let s : not (eq c.args.a.size 0·0) ≡ false = c.if-a-2.false in
    rw (c.if-a.true, s) (c.point_off_grid.ensures l e)

pub returns-else-a : goal.returns-else-a
unfolding bad_grid
returns-else-a c = λ l e. rw c.if-a.false
