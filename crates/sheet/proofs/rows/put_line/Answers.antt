use native.Mathlib.Numerals.{add-one}
use Rattle.definition.specs.Floats.{0·0, f64}
use Rattle.definition.specs.Sheet.{line}
use Rattle.plane.specs.Measures.{metrics_of_enum}
use Rattle.sheet.proofs.rows.put_line.Goals as goal

pub returns-in-None : goal.returns-in-None
unfolding line metrics_of_enum 0·0 f64
returns-in-None c = rw c.in-None.is (rw add-one at c.put.ensures)

pub returns-in-Some : goal.returns-in-Some
unfolding line metrics_of_enum 0·0 f64
returns-in-Some c = rw c.in-Some.is (rw add-one at c.put-in-Some.ensures)
