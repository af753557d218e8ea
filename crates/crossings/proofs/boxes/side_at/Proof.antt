use Rattle.std.specs.Prelude.{◌≡◌, ◌+◌, ◌*◌}
use Rattle.laws.specs.Kit.{◌∙◌, ap, ℕ, rules, get_or}
use Rattle.plane.specs.Points.{ground}
use Rattle.definition.specs.Call.{point_at}
use Rattle.cells.specs.Notes.{bound}
use Rattle.crossings.proofs.boxes.side_at.Statement.{statement}
use Rattle.crossings.proofs.boxes.side_at.Tie as tie

-- the node that was read is the side
abbrev Read : tie.After-wide → Type 0
Read c =
    let a = c.args in
    c.wide.result ≡ bound a.w.now a.lay.slots a.lay.points a.a a.j

read : (c : tie.After-wide) → Read c
read c =
    let n = c in
    let a = n.args in
    c.wide.ensures ∙ ap (λ (i : ℕ). get_or a.w.now (i + 4 * a.a + a.j) 0) n.boxes_at.ensures

at_requires : tie.Need-at-requires
at_requires c κs = let t = c in rw (read c) (t.requires.0.sides t.args.j t.requires.1)

returns : tie.Need-returns
returns c =
    let a = c.args in
    c.at.ensures ∙ ap (λ (i : ℕ). ground (point_at a.q.now i)) (read c.before)

pub side_at_spec : {M : Type 1} → statement M
side_at_spec =
    tie.close
    (tie.spec
    (λ c κs. search rules) (λ c. search rules) (λ c. search rules) (λ c. search rules) (λ c. search rules) (λ c. search rules) (λ c κs. search rules) at_requires returns)
