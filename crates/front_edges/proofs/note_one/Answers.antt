-- The other end, then the note's word.
use Rattle.std.specs.Prelude.{◌+◌, ◌*◌}
use Rattle.laws.specs.Kit.{◌∙◌, arith, get_or, length-set}
use Rattle.front_edges.proofs.Noting.{can_mark, one_written}
use Rattle.front_edges.proofs.note_one.Goals as goal

pub mark-requires : goal.mark-requires
mark-requires c =
    let a = c.args in record { can_mark = can_mark a.w.now a.lay.slots a.lay.points a.u (c.fronts_at.result + 2 * a.u) (get_or a.w.now (c.front_v_at.result + a.k) 0) c.requires.mark (omega (arith, c.fronts_at.ensures)); n_bound = omega arith }

pub shape_of-w : goal.shape_of-w
shape_of-w c = c.mark.auto.w ∙ (simp length-set)

pub returns : goal.returns
returns c =
    let a = c.args in
    one_written a.w.now a.lay.slots a.lay.points a.u a.k c.requires.mark c.requires.low c.fronts_at.result c.front_v_at.result c.fronts_at.ensures c.front_v_at.ensures c.mark.new.w
    c.mark.ensures
