use Rattle.cells.specs.Layout.{refused_at}
use Rattle.blocked_edges.specs.Blocks.{CanBlock, BlockTo}
use Rattle.settling.specs.Standings.{Recorded}
use Rattle.std.specs.Prelude.{◌*◌}
use Rattle.laws.specs.Kit.{refl, sym, subst, ℕ}
use Rattle.settling.proofs.settle.put_record.Goals as goal

pub block-n-requires : goal.block-n-requires
block-n-requires c =
    let a = c.args in
    (c.requires.0, c.requires.1, subst (λ (b : ℕ). CanBlock a.w.now b (3 * a.lay.slots) a.lay.points a.h.records a.h.quads a.u a.v c.requires.0 c.requires.1) (sym c.refused_at-b.ensures) c.requires.2.can)

pub returns : goal.returns
returns c =
    let a = c.args in
    λ ever bl h.
    let to : BlockTo a.w.now c.block-n.new.w (refused_at a.lay.slots a.lay.points) (3 * a.lay.slots) a.lay.points a.h.records a.h.quads a.u a.v c.block-n.result =
    subst (λ (z : ℕ). BlockTo a.w.now c.block-n.new.w z (3 * a.lay.slots) a.lay.points a.h.records a.h.quads a.u a.v c.block-n.result) c.refused_at-b.ensures c.block-n.ensures in
    let r = to.to ever bl h.can.blocks h.can.count in
    record {
      kind = refl;
      standing = subst (λ (z : ℕ). Recorded a.h z c.recorded.result) r.count c.recorded.ensures;
      kept = to.kept;
      blocks = r.blocks;
    }
