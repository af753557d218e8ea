use native.Mathlib.Omega.{arith}
use Rattle.std.proofs.Common.{refl}
use Rattle.std.proofs.lemmas.List.{set-get_or}
use Rattle.side_candidates.proofs.Skipping.{boxed_more, boxed_end, boxed_full}
use Rattle.side_candidates.proofs.blocks.box_walls.Goals as goal

pub returns-then-k-n : goal.returns-then-k-n
returns-then-k-n c =
    let a = c.args in
    let x = c.loop-b in
    λ m g h. rw set-get_or (boxed_end x.h x.h a.size m g x.b-index x.k a.n x.invariant.place h.len c.if-k-n.true (x.invariant.boxed m g h))

pub loop-b-preserved : goal.loop-b-preserved
loop-b-preserved c =
    let a = c.args in
    let x = c.loop-b in
    record {
      place = omega (arith, x.invariant.place);
      boxed = λ m g h. boxed_more x.h _ a.size m g x.b-index x.k a.n x.invariant.place h.len c.box_from.result (omega arith) refl (c.box_from.ensures m g h) (x.invariant.boxed m g h);
    }

pub returns : goal.returns
returns c =
    let a = c.args in
    let x = c.loop-b in
    λ m g h. boxed_full x.h x.h a.size m g x.b-index x.k a.n x.invariant.place h.len (omega arith) (x.invariant.boxed m g h)
