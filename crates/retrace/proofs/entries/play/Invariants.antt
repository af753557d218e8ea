use Rattle.std.specs.Prelude.{◌-◌, length, List, ℕ, Float}
use Rattle.definition.specs.Numbers.{Settings}
use Rattle.definition.specs.Cells.{Mesh}
use Rattle.rules.specs.Settings.{Suits}
use Rattle.retrace.specs.Plays.{state, Plays}
use Rattle.retrace.proofs.Reading.{Going}
use Rattle.retrace.proofs.entries.play.Given as goal

abbrev pub invariant-loop-g : goal.invariant-loop-g
invariant-loop-g l =
    (q₀ : List Float) (old : List ℕ) (m : Mesh) (t : Settings) → Suits t l.lay.slots l.lay.points → Plays l.fn.work l.fn.points l.fn.quads l.lay.slots l.lay.points q₀ old (state l.fn.start) m
    → Going l.fn.work l.work l.points l.quads l.lay.slots l.lay.points q₀ old (state l.g) l.trace t m

abbrev pub decreases-loop-g : goal.decreases-loop-g
decreases-loop-g l = length l.trace - l.g.at
