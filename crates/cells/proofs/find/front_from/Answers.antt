-- The last two digits of the note are read; a walk is made where they say nothing.
use mathlib.Core.Path.{ap, ◌∙◌}
use Prim.Native.Nat.{ℕ, ◌+◌, ◌%◌}
use native.Mathlib.Omega.{arith}
use lib.ListN.{get_or}
use Rattle.cells.proofs.find.front_from.Goals as goal

pub front_by_note-requires : goal.front_by_note-requires
front_by_note-requires c =
    let a = c.args in
    let known = c.wide-known.ensures ∙ ap (λ (i : ℕ). get_or a.w.now (i + a.u) 0) c.notes_at.ensures in
    record { rep = c.requires.rep; edge = c.requires.edge; noted = record { above = c.requires.u_lt_v; is = ap (λ (i : ℕ). i % 4) known; some = omega (arith, c.if-known-eq0.false) } }
