-- The last two digits of the note are read; a walk is made where they say nothing. The edge is the same from both ends.
use mathlib.Core.Path.{ap, sym, ◌∙◌}
use Prim.Native.Nat.{ℕ, ◌+◌, ◌%◌}
use native.Mathlib.Omega.{arith}
use lib.ListN.{get_or}
use Rattle.definition.specs.Cells.{is_front}
use Rattle.cells.proofs.Edges.{key_swap}
use Rattle.cells.proofs.find.front_to.Goals as goal

pub front_by_note-requires : goal.front_by_note-requires
front_by_note-requires c =
    let a = c.args in
    let known = c.wide-known.ensures ∙ ap (λ (i : ℕ). get_or a.w.now (i + a.v) 0) c.notes_at.ensures in
    record { rep = c.requires.rep; edge = record { node = omega (arith, c.requires.edge.node, c.requires.v_lt_u); apart = λ e. c.requires.edge.apart (sym e) }; noted = record { above = c.requires.v_lt_u; is = ap (λ (i : ℕ). i % 4) known; some = omega (arith, c.if-known-eq0.false) } }

pub returns : goal.returns
returns c =
    let a = c.args in
    λ m r. c.front_by_note.ensures m r ∙ ap (is_front m) (key_swap a.v a.u)
