use Prim.Native.Nat.{◌≤◌}
use native.Mathlib.Omega.{arith}
use borrow.Author.Tests.{not-false}
use Rattle.flips.proofs.Evens.{turned_only, turned_noted}
use borrow.Author.Rules.{rules}
use Rattle.flips.proofs.flip.turn_evenly.Statement.{statement}
use Rattle.flips.proofs.flip.turn_evenly.Tie as tie

-- there is a slot
some_slot : (t : tie.Start) → 1 ≤ t.args.lay.slots
some_slot t = omega (arith, t.requires.2.can.i_given, t.requires.1.used)

-- the function's entry, from where the turn is made
abbrev top : tie.After-turn → tie.Start
top n = n.before.before.before.before

is_even_requires : tie.Need-is_even-even-requires
is_even_requires c κs =
    let t = c in
    (t.requires.1.room, some_slot t.before)

turn_requires : tie.Need-turn-requires
turn_requires c κs =
    let t = c in
    (t.requires.0, t.requires.1, t.requires.2.can)

returns : tie.Need-returns-then-not-even
returns c =
    let n = c in
    let a = (top n.before.before.before).args in
    turned_only a.w.now n.turn.new.w a.lay.slots a.lay.points a.u a.v a.i a.j a.x a.y n.turn.ensures

note_even_requires : tie.Need-note_even-requires
note_even_requires c κs =
    let n = c in
    let t = top n.before.before.before.before in
    ((n.turn.ensures.rep t.requires.0 t.requires.1 t.requires.2.can).room, some_slot t)

returns_2 : tie.Need-returns
returns_2 c =
    let z = c in
    let e = z in
    let n = e in
    let f = n in
    let a = (top n.before.before.before.before.before.before.before).args in
    turned_noted a.w.now n.turn.new.w a.lay.slots a.lay.points a.u a.v a.i a.j a.x a.y n.turn.ensures z.note_even.new.w (some_slot (top n.before.before.before.before.before.before.before))
    f.is_even-even.result f.is_even-even.ensures e.if-not-even.false z.note_even.ensures

pub turn_evenly_spec : {M : Type 1} → statement M
turn_evenly_spec =
    tie.close
    (tie.spec
    is_even_requires turn_requires (λ c. search rules) returns note_even_requires (λ c. search rules) returns_2)
