use Rattle.std.specs.Prelude.{◌≡◌, ◌+◌}
use Rattle.laws.specs.Kit.{ap, ℕ, arith, rules, get_or, length-set}
use Rattle.cells.specs.Notes.{note}
use Rattle.crossings.proofs.Noted.{put_is}
use Rattle.crossings.proofs.boxes.put_box.Goals as goal

pub overflow_add-w-2 : goal.overflow_add-w-2
overflow_add-w-2 c =
    let a = c.args in
    let z : get_or a.w.now (c.notes_at.result + a.a) 0 ≡ note a.w.now a.lay.slots a.lay.points a.a = ap (λ (i : ℕ). get_or a.w.now (i + a.a) 0) c.notes_at.ensures in
    omega (arith, z, c.requires.can_note.none)

pub bounds-w-k : goal.bounds-w-k
bounds-w-k c =
    simp length-set (omega (arith, c.boxes_at.ensures, c.requires.can_note.fits, c.requires.can_note.slot))

pub bounds-w-k-2 : goal.bounds-w-k-2
bounds-w-k-2 c =
    simp length-set (omega (arith, c.boxes_at.ensures, c.requires.can_note.fits, c.requires.can_note.slot))

pub bounds-w-k-3 : goal.bounds-w-k-3
bounds-w-k-3 c =
    simp length-set (omega (arith, c.boxes_at.ensures, c.requires.can_note.fits, c.requires.can_note.slot))

pub bounds-w-k-4 : goal.bounds-w-k-4
bounds-w-k-4 c =
    simp length-set (omega (arith, c.boxes_at.ensures, c.requires.can_note.fits, c.requires.can_note.slot))

pub returns : goal.returns
returns c =
    let a = c.args in
    put_is a.w.now a.lay.slots a.lay.points a.a a.left a.right a.low a.high c.notes_at.result c.boxes_at.result c.notes_at.ensures c.boxes_at.ensures
