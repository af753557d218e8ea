-- Of doubles within the limit the two tests are the definition's.
use Rattle.std.specs.Prelude.{◌≡◌, ◌&&◌}
use Rattle.laws.specs.Kit.{sym, ◌∙◌, ap, false, not, Float, binary64}
use Rattle.definition.specs.Floats.{finite}
use Rattle.definition.specs.Call.{grid_node}
use Rattle.laws.specs.Bools.{both, to_T}
use Rattle.exact.specs.GridTest.{is_whole_part}
use Rattle.exact.proofs.Values.{ok}
use Rattle.exact.proofs.Theorems.{within_finite, grid_tested}
use Rattle.refusals.specs.Stated.{spot}
use Rattle.refusals.proofs.off_grid.Goals.{Joined-whole_part, then-whole_part, else-whole_part}
use Rattle.refusals.proofs.off_grid.Goals as goal

-- both tests are those of the node
tested : (c : Joined-whole_part) (z : Float) → (is_whole_part c.args.x && is_whole_part c.args.y) ≡ grid_node (spot c.args.x c.args.y z)
unfolding finite
tested c z =
    let p = spot c.args.x c.args.y z in
    let f = both (finite c.args.x) (finite c.args.y) (within_finite p (c.requires z)) in
    grid_tested p (ok binary64 c.args.x (to_T c.well_formed.0.1) (to_T f.0)) (ok binary64 c.args.y (to_T c.well_formed.1.0.1) (to_T f.1)) (c.requires z)

pub returns : goal.returns
returns c = λ z. elim c.if-whole_part.branch [
  | then-whole_part w ↦
      let h : is_whole_part c.args.y ≡ grid_node (spot c.args.x c.args.y z) = rw (sym c.whole_part.ensures ∙ w.if-whole_part.true) at (tested c z) in
      ap not (w.result-is ∙ w.whole_part-then-whole_part.ensures ∙ h)
  | else-whole_part w ↦
      let h : false ≡ grid_node (spot c.args.x c.args.y z) = rw (sym c.whole_part.ensures ∙ w.if-whole_part.false) at (tested c z) in
      ap not (w.result-is ∙ w.if-whole_part.false ∙ h)
]
