use Rattle.std.specs.Prelude.{◌*◌}
use Rattle.laws.specs.Kit.{sym, ◌∙◌, ap, subst, not, ℕ}
use Rattle.definition.specs.Cells.{has_edge_in}
use Rattle.laws.specs.Cells.{same_ends}
use Rattle.blocked_edges.specs.Records.{IsEdge}
use Rattle.blocked_edges.specs.Blocks.{Blocks}
use Rattle.loops.proofs.keep.is_open_at.Goals as goal

pub is_blocked-requires : goal.is_blocked-requires
is_blocked-requires c =
    let a = c.args in
    let k = c.requires.3 in record { by_index = (k.quads, k.ever, c.requires.0, subst (λ (z : ℕ). Blocks a.w.now z (3 * a.lay.slots) a.lay.points k.quads k.ever c.requires.0) (sym c.refused_at-b.ensures) k.blocks); edge = subst (IsEdge a.lay.points) (sym (same_ends c.first_on-u.ensures c.second_on-v.ensures)) c.requires.2 }

pub returns : goal.returns
returns c =
    let a = c.args in
    λ bl k.
    ap not (c.is_blocked.ensures k.quads k.ever bl (subst (λ (z : ℕ). Blocks a.w.now z (3 * a.lay.slots) a.lay.points k.quads k.ever bl) (sym c.refused_at-b.ensures) k.blocks)
    ∙ ap (has_edge_in bl) (same_ends c.first_on-u.ensures c.second_on-v.ensures))
