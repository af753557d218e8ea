use Rattle.std.specs.Prelude.{Some}
use Rattle.definition.specs.Lists.{find}
use Rattle.laws.specs.Kit.{subst}
use Rattle.definition.specs.Plane.{flat}
use Rattle.definition.specs.Cells.{in_slot_order}
use Rattle.definition.specs.Candidates.{live_region}
use Rattle.side_candidates.proofs.Scans.{in_hand}
use Rattle.insertion.specs.Hold.{holds_at, Found}
use Rattle.insertion.proofs.Holders.{reach, holder_is, lent_after, found_sooner, found_later}
use Rattle.insertion.proofs.holder.find_holder.Goals as goal

pub first_listed-requires : goal.first_listed-requires
first_listed-requires c =
    let a = c.args in
    let w = a.w.now in
    let o = flat a.x a.y in
    let w1 = c.live_region-k.new.w in
    let m = c.requires.lent.0 in
    let l = c.requires.lent.1 in
    let region = live_region m a.seed o (reach a.bucket) in
    let h = c.live_region-k.ensures m l in
    let g = in_hand w w1 a.q.now a.lay.slots a.lay.points a.used c.live_region-k.result m region l h in
    (m, region, g)

pub returns-in-Some : goal.returns-in-Some
returns-in-Some c =
    let a = c.args in
    let w = a.w.now in
    let o = flat a.x a.y in
    let w1 = c.live_region-k.new.w in
    λ m l e.
    let region = live_region m a.seed o (reach a.bucket) in
    let h = c.live_region-k.ensures m l in
    let g = in_hand w w1 a.q.now a.lay.slots a.lay.points a.used c.live_region-k.result m region l h in
    record {
      found = subst (Found m a.lay.slots (Some c.in-Some.i)) (holder_is m a.seed o a.bucket e)
          (found_sooner m a.lay.slots (holds_at m o) region (in_slot_order m.live) c.in-Some.i (subst (λ r. Found m a.lay.slots r (find (holds_at m o) region)) c.in-Some.is (c.first_listed.ensures m region g)));
      scratch = h.scratch;
    }

pub first_in_order-requires : goal.first_in_order-requires
first_in_order-requires c =
    let a = c.args in
    let w = a.w.now in
    let o = flat a.x a.y in
    let w1 = c.live_region-k.new.w in
    let m = c.requires.lent.0 in
    let l = c.requires.lent.1 in
    (m, lent_after w w1 a.q.now a.lay.slots a.lay.points a.used m l (c.live_region-k.ensures m l).scratch)

pub returns-in-None : goal.returns-in-None
returns-in-None c =
    let a = c.args in
    let w = a.w.now in
    let o = flat a.x a.y in
    let w1 = c.live_region-k.new.w in
    λ m l e.
    let region = live_region m a.seed o (reach a.bucket) in
    let h = c.live_region-k.ensures m l in
    let g = in_hand w w1 a.q.now a.lay.slots a.lay.points a.used c.live_region-k.result m region l h in
    let k = c.first_in_order.ensures m (lent_after w w1 a.q.now a.lay.slots a.lay.points a.used m l h.scratch) in
    record {
      found = subst (Found m a.lay.slots c.first_in_order.result) (holder_is m a.seed o a.bucket e)
          (found_later m a.lay.slots (holds_at m o) region (in_slot_order m.live) c.first_in_order.result (subst (λ r. Found m a.lay.slots r (find (holds_at m o) region)) c.in-None.is (c.first_listed.ensures m region g)) k);
      scratch = h.scratch;
    }
