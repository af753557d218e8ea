-- Both other ends, then the note's word.
use Rattle.std.specs.Prelude.{◌+◌, ◌*◌, ◌<◌}
use Rattle.laws.specs.Kit.{◌∙◌, arith, length, get_or, set, length-set}
use Rattle.front_edges.proofs.Noting.{can_mark, two_written}
use Rattle.front_edges.proofs.note_two.Goals as goal

pub bounds-w-i-2 : goal.bounds-w-i-2
bounds-w-i-2 c =
    let a = c.args in
    let h : c.fronts_at.result + 2 * a.u + 1 < length a.w.now = omega (arith, c.fronts_at.ensures, c.requires.low, c.requires.mark.room.fits) in
    simp length-set h

pub mark-requires : goal.mark-requires
mark-requires c =
    let a = c.args in
    let i = c.fronts_at.result + 2 * a.u in
    let j = c.front_v_at.result + a.k in record {
      can_mark = can_mark (set a.w.now i (get_or a.w.now j 0)) a.lay.slots a.lay.points a.u (i + 1) (get_or a.w.now (j + 1) 0)
          (can_mark a.w.now a.lay.slots a.lay.points a.u i (get_or a.w.now j 0) c.requires.mark (omega (arith, c.fronts_at.ensures))) (omega (arith, c.fronts_at.ensures));
      n_bound = omega arith;
    }

pub shape_of-w : goal.shape_of-w
shape_of-w c = c.mark.auto.w ∙ (simp length-set)

pub returns : goal.returns
returns c =
    let a = c.args in
    two_written a.w.now a.lay.slots a.lay.points a.u a.k c.requires.mark c.requires.low c.fronts_at.result c.front_v_at.result c.fronts_at.ensures c.front_v_at.ensures c.mark.new.w
    c.mark.ensures
