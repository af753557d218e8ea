-- Where the edge has a record its birth is written; else the record c is, first in the edge's list.
use Rattle.laws.specs.Kit.{sym, arith, length-set}
use Rattle.blocked_edges.proofs.Blocking.{kept_old, old_to, kept_new, new_to, room_new}
use Rattle.blocked_edges.proofs.block.Goals as goal

pub returns-in-Some : goal.returns-in-Some
returns-in-Some c =
    let a = c.args in
    let h = c.requires in
    let i = c.in-Some in
    let s = i.ensures h.0 h.2.blocks.lists in
    record {
      kept = kept_old a.w.now a.b a.n a.p a.k i.i (a.u, a.v) h.0 h.1 h.2.blocks s.0 s.1;
      to = λ ever bl r q. old_to a.w.now a.b a.n a.p a.c a.k a.u a.v i.i ever bl r q (i.ensures ever r.lists).0 s.1;
    }

pub returns : goal.returns
returns c =
    let a = c.args in
    let h = c.requires in
    let none = c.in_default.ensures in
    let room = room_new a.w.now a.b a.n a.p a.c a.k a.u a.v a.n h.0 h.1 h.2 (sym (none h.0 h.2.blocks.lists)) (omega arith) in
    let list = c.list_of-g.ensures in
    record {
      kept = kept_new a.w.now a.b a.n a.p a.c c.list_of-g.result _ _ _ _ room list.1;
      to = λ ever bl r q.
          new_to a.w.now a.b a.n a.p a.c a.k a.u a.v a.n c.list_of-g.result _ _ _ _ ever bl h.2.edge list.0 room (omega arith) (omega arith) r q
          (sym (none ever r.lists));
    }

pub bounds-w-b : goal.bounds-w-b
bounds-w-b c =
    let h = c.requires in
    let s = c.in-Some.ensures h.0 h.2.blocks.lists in
    let room = h.2.blocks.lists.room.fits in
    omega arith

pub bounds-w-b-5 : goal.bounds-w-b-5
bounds-w-b-5 c = simp length-set (omega arith)

pub bounds-w-b-6 : goal.bounds-w-b-6
bounds-w-b-6 c = simp length-set (omega arith)
