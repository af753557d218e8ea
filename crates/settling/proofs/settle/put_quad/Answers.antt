use Rattle.std.specs.Prelude.{◌≡◌, ◌+◌, ◌*◌, ◌∷◌, ◌++◌}
use Rattle.laws.specs.Kit.{refl, sym, ◌∙◌, ap, subst, ℕ, suc, arith, rules, List, [], length, length-append}
use Rattle.cells.specs.Layout.{refused_at}
use Rattle.blocked_edges.specs.Blocks.{FreeTo, Blocks}
use Rattle.definition.specs.Plane.{Edge}
use Rattle.definition.specs.Front.{freed}
use Rattle.settling.specs.Settles.{next_quad}
use Rattle.settling.proofs.Texts.{put_text, edge_below, born_frees}
use Rattle.settling.proofs.settle.put_quad.Goals as goal

pub write_quad-requires : goal.write_quad-requires
write_quad-requires c =
    let h = c.requires.4 in
    let e = h.so_far.number in
    let below = edge_below c.args.lay.points c.args.z.n0 c.args.z.n1 c.args.u c.args.v h.fits.edge h.fits.node0 h.fits.node1 in record {
      in_bounds = search rules;
      words = record {
        node0 = omega (arith, h.fits.node0, h.small_points);
        node1 = omega (arith, h.fits.node1, h.small_points);
        node2 = omega (arith, h.fits.node2, h.small_points);
        node3 = omega (arith, h.fits.node3, h.small_points);
        first = omega (arith, below.0, h.small_points);
        second = omega (arith, below.1, h.small_points);
        round = omega (arith, e, h.fits.few, h.small_slots);
        replaced = omega (arith, h.fits.replaced);
      };
    }

pub free-requires : goal.free-requires
free-requires c =
    let a = c.args in
    let h = c.requires.4 in
    let e = h.so_far.number in (
      c.requires.0,
      c.requires.1,
      record {
        blocks = subst (λ (z : ℕ). Blocks a.w.now z (3 * a.lay.slots) a.lay.points a.g.quads c.requires.0 c.requires.1) (sym c.refused_at-b.ensures)
            (subst (λ (z : ℕ). Blocks a.w.now (refused_at a.lay.slots a.lay.points) (3 * a.lay.slots) a.lay.points z c.requires.0 c.requires.1) (sym e) h.so_far.blocks);
        more = omega (arith, e, h.fits.few, h.small_slots);
        node0 = h.fits.node0;
        node1 = h.fits.node1;
        node2 = h.fits.node2;
        node3 = h.fits.node3;
      },
    )

pub returns : goal.returns
returns c =
    let a = c.args in
    λ ever bl qs old h.
    let e = h.so_far.number in
    let to : FreeTo a.w.now c.free.new.w (refused_at a.lay.slots a.lay.points) (3 * a.lay.slots) a.lay.points a.g.quads a.z.n0 a.z.n1 a.z.n2 a.z.n3 =
    subst (λ (z : ℕ). FreeTo a.w.now c.free.new.w z (3 * a.lay.slots) a.lay.points a.g.quads a.z.n0 a.z.n1 a.z.n2 a.z.n3) c.refused_at-b.ensures c.free.ensures in
    let put = put_text qs old a.quads.now c.write_quad.new.quads (8 * a.g.quads) a.z a.u a.v (a.g.quads + 1) h.fits.edge (omega (arith, e)) h.so_far.text (ap (λ (z : ℕ). 8 * z) e) (omega (arith, e, h.fits.room)) c.write_quad.ensures in
    let quad = next_quad qs a.z in
    let more : length (qs ++ quad ∷ []) ≡ a.g.quads + 1 = length-append qs (quad ∷ []) ∙ ap (λ (z : ℕ). z + 1) (sym e) in
    let old_blocks = subst (λ (z : ℕ). Blocks a.w.now (refused_at a.lay.slots a.lay.points) (3 * a.lay.slots) a.lay.points z ever bl) (sym e) h.so_far.blocks in
    let frees : Blocks c.free.new.w (refused_at a.lay.slots a.lay.points) (3 * a.lay.slots) a.lay.points (a.g.quads + 1) ever (freed quad bl) =
    subst (λ (z : List Edge). Blocks c.free.new.w (refused_at a.lay.slots a.lay.points) (3 * a.lay.slots) a.lay.points (a.g.quads + 1) ever z) (sym (born_frees (suc (length qs)) a.z.replaced a.z.n0 a.z.n1 a.z.n2 a.z.n3 bl)) (to.to ever bl old_blocks) in
    record {
      kind = refl;
      standing = c.quadded.ensures;
      kept = to.kept;
      so_far = record {
        blocks = subst (λ (z : ℕ). Blocks c.free.new.w (refused_at a.lay.slots a.lay.points) (3 * a.lay.slots) a.lay.points z ever (freed quad bl)) (sym more) frees;
        records = c.quadded.ensures.records ∙ h.so_far.records;
        number = c.quadded.ensures.quads ∙ sym more;
        text = put;
      };
    }
