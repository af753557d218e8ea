-- The places passed have the numbers of their sides.
use Rattle.std.specs.Prelude.{◌+◌}
use Rattle.laws.specs.Kit.{refl, ◌∙◌, ap, arith, not-suc-le-zero, get_or}
use borrow.Author.Count.{below_more}
use Rattle.balance.specs.Codes.{next, side_at, either, code}
use Rattle.balance.proofs.Corners.{next_within}
use Rattle.balance.proofs.places.put_sides.Goals as goal

pub loop-j-init : goal.loop-j-init
loop-j-init c = (refl, λ i h. absurd (not-suc-le-zero h), λ i h. refl)

pub next-requires : goal.next-requires
next-requires c = omega arith

pub bounds-cells-next : goal.bounds-cells-next
bounds-cells-next c =
    omega (arith, next_within c.args.c c.loop-j.j c.args.n c.requires.least c.requires.most (omega arith), c.next.ensures)

pub offset_bounds-cells-next : goal.offset_bounds-cells-next
offset_bounds-cells-next c =
    omega (arith, next_within c.args.c c.loop-j.j c.args.n c.requires.least c.requires.most (omega arith), c.next.ensures)

pub put_either-requires : goal.put_either-requires
put_either-requires c =
    let cells = c.args.cells.now in
    let j = c.loop-j.j in
    let inside = next_within c.args.c j c.args.n c.requires.least c.requires.most (omega arith) in
    let e = ap (λ z. get_or cells z 0) c.next.ensures in
    (omega arith, c.requires.small j (omega arith), omega (arith, e, c.requires.small (next c.args.c j) inside))

pub loop-j-preserved : goal.loop-j-preserved
unfolding side_at
loop-j-preserved c =
    let cells = c.args.cells.now in
    let j = c.loop-j.j in
    let e = c.put_either.ensures in
    let here = ap (λ z. code (either c.args.turned (get_or cells j 0, get_or cells z 0))) c.next.ensures in (
      e.size ∙ c.loop-j.invariant.0,
      below_more _ _ (λ i h. e.kept (c.args.at + i) (λ q. omega arith) ∙ c.loop-j.invariant.1 i h) (e.there ∙ here),
      λ i h. e.kept i (λ q. omega arith) ∙ c.loop-j.invariant.2 i h,
    )

pub returns : goal.returns
returns c =
    record { size = c.loop-j.invariant.0; there = λ j l. c.loop-j.invariant.1 j (omega arith); kept = c.loop-j.invariant.2 }
