use mathlib.Core.Path.{ap, sym, ◌∙◌}
use mathlib.Core.Bool.{true, false}
use lib.Ieee.{Float}
use Rattle.definition.specs.Floats.{◌≺◌}
use Rattle.plane.specs.Points.{node}
use Rattle.plane.specs.Vectors.{vec}
use Rattle.live_regions.specs.Squares.{square}
use Rattle.live_regions.proofs.Squares.{norm_root, square_fits, dist_is}
use Rattle.live_regions.proofs.reach.Reach.has.Goals as goal

pub returns-then-z-self : goal.returns-then-z-self
unfolding ◌≺◌
returns-then-z-self c =
    let a = c.args in
    let d = vec c.between-d.result in
    dist_is a.self.r (node a.o) (node a.self.at) d c.between-d.ensures false (a.self.near_within (square d) (square_fits d) (ap (λ (x : Float). x ≺ a.self.near) (sym c.square-z.ensures) ∙ c.if-z-self.true))

pub returns-then-z-self-2 : goal.returns-then-z-self-2
unfolding ◌≺◌
returns-then-z-self-2 c =
    let a = c.args in
    let d = vec c.between-d.result in
    dist_is a.self.r (node a.o) (node a.self.at) d c.between-d.ensures true (a.self.far_beyond (square d) (square_fits d) (ap (λ (x : Float). a.self.far ≺ x) (sym c.square-z.ensures) ∙ c.if-z-self-2.true))

pub returns : goal.returns
unfolding ◌≺◌
returns c =
    let a = c.args in
    let d = vec c.between-d.result in
    dist_is a.self.r (node a.o) (node a.self.at) d c.between-d.ensures (a.self.r ≺ c.norm.result) (ap (λ (x : Float). a.self.r ≺ x) (sym (norm_root d) ∙ sym c.norm.ensures))
