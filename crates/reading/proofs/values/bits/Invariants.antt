use Rattle.std.specs.Prelude.{◌≡◌, ◌-◌, ◌*◌, ◌<◌, ◌^◌}
use Rattle.laws.specs.Kit.{drop}
use Rattle.definition.specs.Text.{hex}
use Rattle.reading.proofs.Hexes.{hexes}
use Rattle.reading.proofs.values.bits.Given as goal

abbrev pub invariant-loop-c : goal.invariant-loop-c
invariant-loop-c l = (l.v < 2 ^ (4 * l.c-index)) × (hex l.s ≡ hexes (16 - l.c-index) l.v (drop l.c-index l.s))
