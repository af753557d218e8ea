-- The word of the note is cleared.
use Rattle.meshes.proofs.Notes.{forget_done}
use Rattle.meshes.proofs.store.forget.Goals as goal

pub returns : goal.returns
returns c =
    let a = c.args in
    forget_done a.w.now a.lay.slots a.lay.points a.a c.notes_at.result c.notes_at.ensures c.requires.room.fits c.requires.node
