use Rattle.std.specs.Prelude.{◌≡◌}
use Rattle.laws.specs.Kit.{sym, ◌∙◌, ap, arith, rules, List, length}
use Rattle.leftovers.proofs.Orders.{tris_all, tris_below}
use Rattle.leftovers.proofs.Texts.{writing_none, writing_more}
use Rattle.definition.specs.Lists.{flat_map}
use Rattle.definition.specs.Cells.{Tri, tri_nodes}
use Rattle.definition.specs.Call.{onto}
use Rattle.leftovers.proofs.write_triangles.Goals as goal

pub loop-i-init : goal.loop-i-init
loop-i-init c = let a = c.args in writing_none a.w.now a.out.now a.lay.slots a.lay.points a.used

pub write_slot-n-requires : goal.write_slot-n-requires
write_slot-n-requires c =
    let r = c.requires.rep.1 in record {
      rep = (c.requires.rep.0, r);
      can_write = record {
        inside = omega (arith, c.loop-i-test.true, r.used, c.requires.rep.2);
        few = omega (arith, c.loop-i-test.true, c.loop-i.invariant.few, r.used, c.requires.rep.2);
        room = omega (arith, c.loop-i.invariant.len, c.requires.s_in_bounds);
      };
    }

pub loop-i-preserved : goal.loop-i-preserved
loop-i-preserved c =
    let a = c.args in
    writing_more a.w.now a.out.now c.loop-i.out _ a.lay.slots a.lay.points a.used c.loop-i.n c.write_slot-n.result c.loop-i.i
    c.requires.rep.0 c.requires.rep.1 c.loop-i.invariant c.loop-i-test.true (search rules) c.write_slot-n.ensures

pub returns : goal.returns
returns c =
    let a = c.args in
    λ m r u.
    let e : c.loop-i.i ≡ m.used = omega (arith, c.loop-i-test.false, c.loop-i.invariant.inside) in
    let all = ap (tris_below m) e ∙ sym (tris_all a.w.now a.lay.slots a.lay.points m r) in
    (c.loop-i.invariant.count m r ∙ ap length all, c.loop-i.invariant.is m r ∙ ap (λ (z : List Tri). onto (flat_map tri_nodes z) a.out.now) all)

pub shape_of-out : goal.shape_of-out
shape_of-out c = c.loop-i.invariant.len
