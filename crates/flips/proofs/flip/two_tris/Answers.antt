use Rattle.flips.proofs.Flips.{no_owner, one_owner, at2, three_owners, both_tris, other_kinds, answer}
use borrow.Author.Rules.{rules}
use Rattle.flips.proofs.flip.two_tris.Goals as goal

pub returns-then-a-lay : goal.returns-then-a-lay
returns-then-a-lay c = λ m r.
    let a = c.args in
    no_owner a.w.now a.lay.slots a.lay.points a.u a.v m c.first_owner-a.result (c.first_owner-a.ensures m r) c.if-a-lay.true

pub next_owner-b-requires : goal.next_owner-b-requires
next_owner-b-requires c =
    record { at = (_, c.first_owner-a.ensures c.requires.rep.0 c.requires.rep.1); edge = c.requires.edge; c_bound = c.if-a-lay.false }

pub returns-then-b-lay : goal.returns-then-b-lay
returns-then-b-lay c = λ m r.
    let a = c.args in
    one_owner a.w.now a.lay.slots a.lay.points a.u a.v m c.first_owner-a.result (c.first_owner-a.ensures m r) c.if-a-lay.false c.next_owner-b.result c.next_owner-b.ensures
    c.if-b-lay.true

pub next_owner-requires : goal.next_owner-requires
next_owner-requires c =
    let a = c.args in record {
      at = (
        _,
        at2 a.w.now a.lay.slots a.lay.points a.u a.v c.requires.rep.0 c.first_owner-a.result (c.first_owner-a.ensures c.requires.rep.0 c.requires.rep.1) c.if-a-lay.false
            c.next_owner-b.result c.next_owner-b.ensures,
      );
      edge = c.requires.edge;
      c_bound = c.if-b-lay.false;
    }

pub returns-then-next_owner-lay : goal.returns-then-next_owner-lay
returns-then-next_owner-lay c = λ m r.
    let a = c.args in
    three_owners a.w.now a.lay.slots a.lay.points a.u a.v m c.first_owner-a.result (c.first_owner-a.ensures m r) c.if-a-lay.false c.next_owner-b.result c.next_owner-b.ensures
    c.if-b-lay.false c.next_owner.result c.next_owner.ensures c.if-next_owner-lay.true

pub returns : goal.returns
returns c = λ m r.
    let a = c.args in
    answer a.w.now a.u a.v _ _ m c.tris.result c.tris.ensures
    (both_tris a.w.now a.lay.slots a.lay.points a.u a.v m c.first_owner-a.result (c.first_owner-a.ensures m r) c.if-a-lay.false c.next_owner-b.result c.next_owner-b.ensures
    c.if-b-lay.false c.next_owner.result c.next_owner.ensures c.if-next_owner-lay.false)
    (other_kinds a.w.now a.lay.slots a.lay.points a.u a.v m c.first_owner-a.result (c.first_owner-a.ensures m r) c.if-a-lay.false c.next_owner-b.result c.next_owner-b.ensures
    c.if-b-lay.false c.next_owner.result c.next_owner.ensures c.if-next_owner-lay.false)
