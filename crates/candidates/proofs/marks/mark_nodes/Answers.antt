use mathlib.Core.Path.{◌∙◌}
use native.Mathlib.Omega.{arith}
use Rattle.edge_candidates.proofs.Givers.{rep_besides}
use Rattle.candidates.proofs.Lists.{hand_kept}
use Rattle.candidates.proofs.Words.{can_kept, marked_to}
use Rattle.candidates.proofs.marks.mark_nodes.Goals as goal

pub clear_span-requires : goal.clear_span-requires
clear_span-requires c =
    record { spare = c.requires.can_mark.spare; high_lt_p = omega (arith, c.requires.in_hand.5, c.requires.in_hand.3.rep.points) }

pub mark_region-requires : goal.mark_region-requires
mark_region-requires c =
    let a = c.args in
    let w1 = c.clear_span.new.w in record { can_mark = can_kept a.w.now w1 a.lay.slots a.lay.points a.b c.clear_span.auto.w c.requires.can_mark; in_hand = (c.requires.in_hand.0, c.requires.in_hand.1, c.requires.in_hand.2, hand_kept a.w.now w1 c.requires.in_hand.0 a.lay.slots a.lay.points a.k a.b a.lay.points c.requires.in_hand.1 c.requires.in_hand.2 c.requires.in_hand.3 c.requires.can_mark.from c.clear_span.ensures.besides) }

pub mark_ring-requires : goal.mark_ring-requires
mark_ring-requires c =
    let a = c.args in
    let w1 = c.clear_span.new.w in
    let w2 = c.mark_region.new.w in
    let q = c.requires.in_hand.0 in
    let m = c.requires.in_hand.1 in
    let g = c.requires.in_hand.2 in
    let h1 = hand_kept a.w.now w1 q a.lay.slots a.lay.points a.k a.b a.lay.points m g c.requires.in_hand.3 c.requires.can_mark.from c.clear_span.ensures.besides in
    let f : _ = c.mark_region.ensures q m g h1 in record { can_mark = can_kept a.w.now w2 a.lay.slots a.lay.points a.b (c.mark_region.auto.w ∙ c.clear_span.auto.w) c.requires.can_mark; rep = (m, rep_besides w1 w2 a.lay.slots a.lay.points a.b a.lay.points f.besides (omega (arith, c.requires.can_mark.from)) m h1.rep, c.requires.in_hand.4) }

pub shape_of-w : goal.shape_of-w
shape_of-w c =
    c.mark_ring.auto.w ∙ c.mark_region.auto.w ∙ c.clear_span.auto.w

pub returns : goal.returns
returns c =
    let a = c.args in
    let w1 = c.clear_span.new.w in
    let w2 = c.mark_region.new.w in
    λ q m g h an gn.
    let h1 = hand_kept a.w.now w1 q a.lay.slots a.lay.points a.k a.b a.lay.points m g h c.requires.can_mark.from c.clear_span.ensures.besides in
    let f = c.mark_region.ensures q m g h1 in
    marked_to a.w.now w1 w2 c.mark_ring.new.w a.lay.points a.b m a.a g a.g c.clear_span.ensures f
    (c.mark_ring.ensures m (rep_besides w1 w2 a.lay.slots a.lay.points a.b a.lay.points f.besides (omega (arith, c.requires.can_mark.from)) m h1.rep) an)
