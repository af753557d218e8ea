-- The places passed have the numbers of their edges.
use Rattle.std.specs.Prelude.{◌/◌}
use Rattle.laws.specs.Kit.{refl, ◌∙◌, ap, arith, not-suc-le-zero, get_or}
use borrow.Author.Count.{below_more}
use Rattle.balance.specs.Codes.{next, side_at}
use Rattle.balance.proofs.Corners.{next_within}
use Rattle.groups.specs.Edges.{tagged}
use Rattle.groups.proofs.places.put_edges.Goals as goal

pub loop-j-init : goal.loop-j-init
loop-j-init c = (refl, λ i h. absurd (not-suc-le-zero h))

pub offset_bounds-triangles-next : goal.offset_bounds-triangles-next
offset_bounds-triangles-next c =
    omega (arith, next_within 3 c.loop-j.j c.args.n (omega arith) (omega arith) (omega arith), c.next.ensures)

pub bounds-triangles-next : goal.bounds-triangles-next
bounds-triangles-next c =
    omega (arith, next_within 3 c.loop-j.j c.args.n (omega arith) (omega arith) (omega arith), c.next.ensures)

pub put_edge-requires : goal.put_edge-requires
put_edge-requires c =
    let ts = c.args.triangles.now in
    let j = c.loop-j.j in
    let inside = next_within 3 j c.args.n (omega arith) (omega arith) (omega arith) in
    let e = ap (λ z. get_or ts z 0) c.next.ensures in
    (omega arith, c.requires.small j (omega arith), omega (arith, e, c.requires.small (next 3 j) inside), omega arith)

pub loop-j-preserved : goal.loop-j-preserved
unfolding side_at
loop-j-preserved c =
    let ts = c.args.triangles.now in
    let j = c.loop-j.j in
    let e = c.put_edge.ensures in
    let here = ap (λ z. tagged (get_or ts j 0, get_or ts z 0) (j / 3)) c.next.ensures in
    (e.size ∙ c.loop-j.invariant.0, below_more _ _ (λ i h. e.kept i (λ q. omega arith) ∙ c.loop-j.invariant.1 i h) (e.there ∙ here))

pub returns : goal.returns
returns c = let g = c in record { size = g.loop-j.invariant.0; there = λ j l. g.loop-j.invariant.1 j (omega arith) }
