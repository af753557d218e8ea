-- The smaller node comes first; a node twice is no edge.
use mathlib.Core.Path.{refl, ap, sym, ◌∙◌}
use native.Mathlib.Omega.{arith}
use borrow.Author.Rules.{rules}
use Rattle.definition.specs.Call.{Asked, settings}
use Rattle.definition.specs.Preview.{show_edge}
use Rattle.refusals.specs.Stated.{asked}
use Rattle.cells.proofs.Edges.{key_up, key_down}
use Rattle.mesher.specs.Showing.{first_of}
use Rattle.mesher.proofs.Showing.{shows_no_edge}
use Rattle.previews.proofs.show_edge.Statement.{statement}
use Rattle.previews.proofs.show_edge.Tie as tie

abbrev stated : tie.Start → Asked
stated t = asked t.args.stated

show_sorted_requires : tie.Need-show_sorted-requires
show_sorted_requires c κs =
    (c.requires, c.if-u-v.true)

returns : tie.Need-returns-then-u-v
returns c =
    let t = c in
    λ l h.
    let r = c.show_sorted.ensures l h in
    (r.0, r.1 ∙ ap (show_edge (settings (stated t.before.before.before.before.before.before.before.before.before.before.before.before)) (first_of (stated t.before.before.before.before.before.before.before.before.before.before.before.before) l)) (sym (key_up t.args.u t.args.v c.if-u-v.true)))

show_sorted_requires_2 : tie.Need-show_sorted-requires-then-v-u
show_sorted_requires_2 c κs =
    (c.requires, c.if-v-u.true)

returns_2 : tie.Need-returns-then-v-u
returns_2 c =
    let t = c in
    λ l h.
    let r = c.show_sorted-then-v-u.ensures l h in
    (r.0, r.1 ∙ ap (show_edge (settings (stated t.before.before.before.before.before.before.before.before.before.before.before.before.before)) (first_of (stated t.before.before.before.before.before.before.before.before.before.before.before.before.before) l)) (sym (key_down t.args.u t.args.v c.if-v-u.true)))

returns_3 : tie.Need-returns
returns_3 c =
    let t = c in
    λ l h. (refl, c.off_front.ensures ∙ shows_no_edge (stated t.before.before.before.before.before.before.before) l h.passed t.args.u t.args.v (omega (arith, c.if-v-u.false, c.if-u-v.false)))

pub show_edge_spec : {M : Type 1} → statement M
show_edge_spec =
    tie.close
    (tie.spec
    show_sorted_requires (λ c. search rules) (λ c. search rules) returns show_sorted_requires_2 (λ c. search rules) (λ c. search rules) returns_2 (λ c κs. search rules) returns_3)
