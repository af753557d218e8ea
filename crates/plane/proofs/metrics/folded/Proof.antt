use Rattle.std.specs.Prelude.{◌≡◌}
use Rattle.laws.specs.Kit.{sym, rules}
use Rattle.definition.specs.Floats.{◌≼◌}
use Rattle.definition.specs.Numbers.{tiny_cross}
use Rattle.definition.specs.Plane.{twice_area}
use Rattle.plane.specs.Measures.{folded}
use Rattle.plane.specs.Points.{node}
use Rattle.plane.proofs.metrics.folded.Statement.{statement}
use Rattle.plane.proofs.metrics.folded.Tie as tie

-- the area's test, in the definition's words
area_of : (c : tie.After-tiny)
    → (let args = c.args in twice_area (node args.a) (node args.b) (node args.c) (node args.d) ≼ tiny_cross) ≡ c.tiny.result
area_of c = rw (← c.twice_area.ensures) (sym c.tiny.ensures)

returns : tie.Need-returns-then-tiny
unfolding folded
returns c = rw (area_of c.before, c.if-tiny.true)

returns_2 : tie.Need-returns
unfolding folded
returns_2 c = let k = c in rw (area_of k.before.before, k.if-tiny.false) c.bent.ensures

pub folded_spec : {M : Type 1} → statement M
folded_spec =
    tie.close
    (tie.spec
    (λ c κs. search rules) (λ c κs. search rules) returns (λ c κs. search rules) returns_2)
