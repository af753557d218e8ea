-- By the note where it has a front part.
use Rattle.std.specs.Prelude.{◌≡◌, ◌+◌, ◌%◌}
use Rattle.laws.specs.Kit.{ap, subst, ℕ, get_or}
use Rattle.front_edges.proofs.node_fronts.Goals as goal

pub walk_and_note-requires : goal.walk_and_note-requires
walk_and_note-requires c =
    let a = c.args in
    (c.requires.0, record { walk = c.requires.1; free = subst (λ (i : ℕ). get_or a.w.now (i + a.u) 0 % 4 ≡ 0) c.notes_at.ensures c.if-x-eq0.true })

pub returns-then-x-eq0 : goal.returns-then-x-eq0
returns-then-x-eq0 c = λ m h.
    let a = c.args in
    c.walk_and_note.ensures m (record { walk = h; free = subst (λ (i : ℕ). get_or a.w.now (i + a.u) 0 % 4 ≡ 0) c.notes_at.ensures c.if-x-eq0.true })

pub copy_noted-requires : goal.copy_noted-requires
copy_noted-requires c =
    let a = c.args in
    (c.requires.0, record { walk = c.requires.1; is = ap (λ (i : ℕ). get_or a.w.now (i + a.u) 0 % 4) c.notes_at.ensures; some = c.if-x-eq0.false })

pub returns : goal.returns
returns c = λ m h.
    let a = c.args in
    c.copy_noted.ensures m (record { walk = h; is = ap (λ (i : ℕ). get_or a.w.now (i + a.u) 0 % 4) c.notes_at.ensures; some = c.if-x-eq0.false })
