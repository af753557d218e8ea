use Rattle.laws.specs.Kit.{false≢true, arith, rules, not-false}
use Rattle.laws.specs.Frames.{keeps_refl}
use Rattle.cells.specs.Layout.{mesh_end}
use Rattle.crossings.proofs.Boxing.{near_known}
use Rattle.crossings.proofs.Noted.{small, known_noted, keeps_noted, more_noted}
use Rattle.crossings.proofs.boxes.make_box.Goals as goal

pub returns-then-not-all_fine : goal.returns-then-not-all_fine
returns-then-not-all_fine c =
    let a = c.args in
    record { keeps = keeps_refl a.w.now (mesh_end a.lay.slots a.lay.points); is = λ k m h. h; noted = λ e. absurd (false≢true e) }

pub put_box-requires : goal.put_box-requires
put_box-requires c =
    let a = c.args in
    let y = c.requires.known in
    record { can_note = c.requires.can_note; left_bound = small a.w.now a.q.now a.lay.slots a.lay.points a.n y.0 y.1 y.2 a.a c.box_of-b.result (c.box_of-b.ensures y.0 y.1 y.2) }

pub returns : goal.returns
returns c =
    let a = c.args in
    let b = c.box_of-b.result in
    let w' = c.put_box.new.w in record {
      keeps = keeps_noted a.w.now w' a.lay.slots a.lay.points a.a b.left.node b.right.node b.low.node b.high.node c.requires.can_note c.put_box.ensures;
      is = λ k m h. known_noted a.w.now w' a.q.now a.lay.slots a.lay.points a.n k m h a.a b c.requires.can_note c.put_box.ensures (c.box_of-b.ensures k m h)
          (c.all_fine.ensures c.if-not-all_fine.false) (near_known a.w.now a.lay.slots a.lay.points m h.rep a.a (omega (arith, h.count, c.requires.a_lt_n)));
      noted = λ e. more_noted a.w.now w' a.lay.slots a.lay.points a.a b.left.node b.right.node b.low.node b.high.node c.requires.can_note c.put_box.ensures;
    }
