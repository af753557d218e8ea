use mathlib.Core.Path.{subst}
use Rattle.definition.specs.Plane.{flat}
use Rattle.definition.specs.Cells.{Tri}
use Rattle.definition.specs.Insertion.{split_triangle}
use Rattle.cells.specs.Rep.{Rep}
use Rattle.flips.proofs.Splits.{split_read, pts_split}
use borrow.Author.Rules.{rules}
use Rattle.flips.proofs.split.split_triangle.Goals as goal

pub returns : goal.returns
returns c =
    let a = c.args in
    record {
      rep = λ m r k.
          subst (λ (x : Tri). Rep c.split_slot.new.w a.lay.slots a.lay.points (split_triangle m a.i x (flat a.x a.y)))
          (split_read a.w.now a.lay.slots a.lay.points m r a.i a.used a.n k) ((c.split_slot.ensures (flat a.x a.y)).rep m r k);
      pts = λ m r k.
          pts_split a.q.now c.put_point.new.q a.lay.points m a.i a.n k.in_slot.t a.x a.y r k.count c.requires.has_room.point c.put_point.ensures;
      text = c.put_point.ensures;
      keeps = (c.split_slot.ensures (flat a.x a.y)).keeps;
    }
