-- The four sides one after the other.
use Rattle.std.specs.Prelude.{◌≡◌, ◌||◌}
use Rattle.laws.specs.Kit.{sym, ◌∙◌, false, ℕ, rules}
use Rattle.definition.specs.Call.{quad_at}
use Rattle.definition.specs.Cells.{key, same_edge, has_edge_in, quad_edges}
use Rattle.retrace.proofs.Flipping.{quad_sides, side_one, side_two, side_three, side_four}
use Rattle.retrace.proofs.turns.has_side.Statement.{statement}
use Rattle.retrace.proofs.turns.has_side.Tie as tie

-- after the four nodes were read
module _ (d : tie.After-wide-d) where
  abbrev top : tie.Start
  top = d.before.before.before.before.before.before.before.before.before

  abbrev n0 : ℕ
  n0 = d.wide-a.result

  abbrev n1 : ℕ
  n1 = d.wide-b.result

  abbrev n2 : ℕ
  n2 = d.wide-c.result

  abbrev n3 : ℕ
  n3 = d.wide-d.result

  sides : has_edge_in (quad_edges (quad_at top.args.quads.now top.args.i)) (top.args.u, top.args.v)
      ≡ (same_edge (top.args.u, top.args.v) (key n0 n1)
      || (same_edge (top.args.u, top.args.v) (key n1 n2)
      || (same_edge (top.args.u, top.args.v) (key n2 n3) || (same_edge (top.args.u, top.args.v) (key n3 n0) || false))))
  sides =
      let a = top.args in
      quad_sides a.quads.now a.i n0 n1 n2 n3 (a.u, a.v) d.wide-a.ensures d.wide-b.ensures d.wide-c.ensures d.wide-d.ensures

returns : tie.Need-returns-then-is_side
returns c =
    let r = c in
    let d = r in
    side_one (same_edge _ _) (same_edge _ _) (same_edge _ _) (same_edge _ _) (sym r.is_side.ensures ∙ c.if-is_side.true) ∙ sym (sides d.before.before)

returns_2 : tie.Need-returns-then-is_side-2
returns_2 c =
    let r2 = c in
    let e1 = r2 in
    let r = e1 in
    let d = r in
    side_two (same_edge _ _) (same_edge _ _) (same_edge _ _) (same_edge _ _) (sym r.is_side.ensures ∙ e1.if-is_side.false) (sym r2.is_side-2.ensures ∙ c.if-is_side-2.true) ∙ sym (sides d.before.before.before.before)

returns_3 : tie.Need-returns-then-is_side-3
returns_3 c =
    let r3 = c in
    let e2 = r3 in
    let r2 = e2 in
    let e1 = r2 in
    let r = e1 in
    let d = r in
    side_three (same_edge _ _) (same_edge _ _) (same_edge _ _) (same_edge _ _) (sym r.is_side.ensures ∙ e1.if-is_side.false) (sym r2.is_side-2.ensures ∙ e2.if-is_side-2.false)
    (sym r3.is_side-3.ensures ∙ c.if-is_side-3.true) ∙ sym (sides d.before.before.before.before.before.before)

returns_4 : tie.Need-returns
returns_4 c =
    let e3 = c in
    let r3 = e3 in
    let e2 = r3 in
    let r2 = e2 in
    let e1 = r2 in
    let r = e1 in
    let d = r in
    c.is_side-4.ensures
    ∙ side_four (same_edge _ _) (same_edge _ _) (same_edge _ _) (same_edge _ _) (sym r.is_side.ensures ∙ e1.if-is_side.false) (sym r2.is_side-2.ensures ∙ e2.if-is_side-2.false)
    (sym r3.is_side-3.ensures ∙ e3.if-is_side-3.false) ∙ sym (sides d.before.before.before.before.before.before.before)

pub has_side_spec : {M : Type 1} → statement M
has_side_spec =
    tie.close
    (tie.spec
    (λ c. search rules) (λ c. search rules) (λ c. search rules) (λ c κs. search rules) (λ c. search rules) (λ c. search rules) (λ c. search rules) (λ c κs. search rules) (λ c. search rules) (λ c. search rules) (λ c. search rules) (λ c κs. search rules) (λ c. search rules) (λ c. search rules) (λ c. search rules) (λ c κs. search rules) (λ c κs. search rules) returns (λ c κs. search rules) returns_2 (λ c κs. search rules) returns_3 (λ c κs. search rules) returns_4)
