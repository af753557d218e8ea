-- The invariant: the loops before place i of the line have had their turns.
use mathlib.Core.Path.{◌≡◌, refl, ap, sym, ◌∙◌}
use mathlib.Core.List.{List, []}
use Prim.Native.Nat.{ℕ, ◌+◌}
use native.Mathlib.Omega.{arith}
use Rattle.laws.specs.Kit.{rules}
use lib.ListN.{get_or}
use Rattle.definition.specs.Plane.{Edge}
use Rattle.definition.specs.Front.{State}
use Rattle.joints.specs.Table.{Locks}
use Rattle.cells.specs.Layout.{done_at}
use Rattle.cells.proofs.Slots.{sizes}
use Rattle.attempts.specs.Runs.{Begun, setup}
use Rattle.rounds.specs.Rounds.{CanLoops}
use Rattle.settling.specs.declared.standing.Going.TheVariants as goings
use Rattle.settling.specs.Standings.{is_stuck}
use Rattle.rounds.proofs.Trying.{not_stuck}
use Rattle.rounds.proofs.Looping.{Looping, looping_start, loops_room, loops_number, none_left, can_start, can_take, ends_there, goes_on}
use Rattle.rounds.proofs.rounds.try_loops.Goals as goal

pub loop-i-init : goal.loop-i-init
loop-i-init c =
    let a = c.args in
    (refl, refl, refl, refl, λ z st n ls os can lk. looping_start a.w.now a.q.now a.quads.now a.t.now (setup a.rules z) a.k a.r a.before st n ls os can)

pub overflow_add-d : goal.overflow_add-d
overflow_add-d c =
    let a = c.args in
    let z = c.requires.0 in
    let st = c.requires.1 in
    let n = c.requires.2 in
    let ls = c.requires.3 in
    let os = c.requires.4 in
    let can = c.requires.5 in
    let lk = c.requires.6 in
    let x = setup a.rules z in
    let so = c.loop-i.invariant.4 z st n ls os can lk in
    omega (arith, c.done_at-d.ensures, c.loop-i-test.true, loops_number c.loop-i.w c.loop-i.q c.loop-i.quads c.loop-i.t x a.k a.r c.loop-i.g st n ls os c.loop-i.i so, (loops_room c.loop-i.w c.loop-i.q c.loop-i.quads c.loop-i.t x a.k a.r c.loop-i.g st n ls os c.loop-i.i so).small)

pub offset_bounds-w-d : goal.offset_bounds-w-d
offset_bounds-w-d c =
    let a = c.args in
    let z = c.requires.0 in
    let st = c.requires.1 in
    let n = c.requires.2 in
    let ls = c.requires.3 in
    let os = c.requires.4 in
    let can = c.requires.5 in
    let lk = c.requires.6 in
    let x = setup a.rules z in
    let so = c.loop-i.invariant.4 z st n ls os can lk in
    omega (arith, c.done_at-d.ensures, c.loop-i-test.true, loops_number c.loop-i.w c.loop-i.q c.loop-i.quads c.loop-i.t x a.k a.r c.loop-i.g st n ls os c.loop-i.i so, (loops_room c.loop-i.w c.loop-i.q c.loop-i.quads c.loop-i.t x a.k a.r c.loop-i.g st n ls os c.loop-i.i so).small)

pub bounds-w-d : goal.bounds-w-d
bounds-w-d c =
    let a = c.args in
    let z = c.requires.0 in
    let st = c.requires.1 in
    let n = c.requires.2 in
    let ls = c.requires.3 in
    let os = c.requires.4 in
    let can = c.requires.5 in
    let lk = c.requires.6 in
    let x = setup a.rules z in
    let so = c.loop-i.invariant.4 z st n ls os can lk in
    omega (arith, c.done_at-d.ensures, c.loop-i-test.true, loops_number c.loop-i.w c.loop-i.q c.loop-i.quads c.loop-i.t x a.k a.r c.loop-i.g st n ls os c.loop-i.i so, (loops_room c.loop-i.w c.loop-i.q c.loop-i.quads c.loop-i.t x a.k a.r c.loop-i.g st n ls os c.loop-i.i so).fits)

pub start_of-b-requires : goal.start_of-b-requires
start_of-b-requires c =
    let a = c.args in
    let z = c.requires.0 in
    let st = c.requires.1 in
    let n = c.requires.2 in
    let ls = c.requires.3 in
    let os = c.requires.4 in
    let can = c.requires.5 in
    let lk = c.requires.6 in
    let x = setup a.rules z in
    let so = c.loop-i.invariant.4 z st n ls os can lk in
    let low = c.loop-i-test.true in
    let at : c.wide-l.result ≡ get_or c.loop-i.w (done_at a.rules.lay.slots a.rules.lay.points + c.loop-i.i) 0 = c.wide-l.ensures ∙ ap (λ (y : ℕ). get_or c.loop-i.w (y + c.loop-i.i) 0) c.done_at-d.ensures in
    can_start c.loop-i.w c.loop-i.q c.loop-i.quads c.loop-i.t x a.k a.r c.loop-i.g st n ls os c.loop-i.i so low c.wide-l.result at

pub loop_end-e-requires : goal.loop_end-e-requires
loop_end-e-requires c =
    let a = c.args in
    let z = c.requires.0 in
    let st = c.requires.1 in
    let n = c.requires.2 in
    let ls = c.requires.3 in
    let os = c.requires.4 in
    let can = c.requires.5 in
    let lk = c.requires.6 in
    let x = setup a.rules z in
    let so = c.loop-i.invariant.4 z st n ls os can lk in
    let low = c.loop-i-test.true in
    let at : c.wide-l.result ≡ get_or c.loop-i.w (done_at a.rules.lay.slots a.rules.lay.points + c.loop-i.i) 0 = c.wide-l.ensures ∙ ap (λ (y : ℕ). get_or c.loop-i.w (y + c.loop-i.i) 0) c.done_at-d.ensures in
    record { mark = can_start c.loop-i.w c.loop-i.q c.loop-i.quads c.loop-i.t x a.k a.r c.loop-i.g st n ls os c.loop-i.i so low c.wide-l.result at; r_bound = loops_number c.loop-i.w c.loop-i.q c.loop-i.quads c.loop-i.t x a.k a.r c.loop-i.g st n ls os c.loop-i.i so }

pub take_turn-s-requires : goal.take_turn-s-requires
take_turn-s-requires c =
    let a = c.args in
    let z = c.requires.0 in
    let st = c.requires.1 in
    let n = c.requires.2 in
    let ls = c.requires.3 in
    let os = c.requires.4 in
    let can = c.requires.5 in
    let lk = c.requires.6 in
    let x = setup a.rules z in
    let so = c.loop-i.invariant.4 z st n ls os can lk in
    let low = c.loop-i-test.true in
    let at : c.wide-l.result ≡ get_or c.loop-i.w (done_at a.rules.lay.slots a.rules.lay.points + c.loop-i.i) 0 = c.wide-l.ensures ∙ ap (λ (y : ℕ). get_or c.loop-i.w (y + c.loop-i.i) 0) c.done_at-d.ensures in
    let b = c.start_of-b in
    let e = c.loop_end-e in
    (z, so.st, get_or ls c.wide-l.result [], can_take c.loop-i.w c.loop-i.q c.loop-i.quads c.loop-i.t x a.k a.r c.loop-i.g st n ls os c.loop-i.i so low c.wide-l.result at b.result e.result b.ensures e.ensures, lk)

pub returns-then-ne : goal.returns-then-ne
returns-then-ne c =
    let a = c.args in
    λ z st n ls os can lk.
    let x = setup a.rules z in
    let so = c.loop-i.invariant.4 z st n ls os can lk in
    let low = c.loop-i-test.true in
    let at : c.wide-l.result ≡ get_or c.loop-i.w (done_at a.rules.lay.slots a.rules.lay.points + c.loop-i.i) 0 = c.wide-l.ensures ∙ ap (λ (y : ℕ). get_or c.loop-i.w (y + c.loop-i.i) 0) c.done_at-d.ensures in
    let b = c.start_of-b in
    let e = c.loop_end-e in
    let turn = c.take_turn-s in
    let to = turn.ensures z so.st (get_or ls c.wide-l.result []) (can_take c.loop-i.w c.loop-i.q c.loop-i.quads c.loop-i.t x a.k a.r c.loop-i.g st n ls os c.loop-i.i so low c.wide-l.result at b.result e.result b.ensures e.ensures) lk in
    ends_there c.loop-i.w c.loop-i.q c.loop-i.quads c.loop-i.t x a.k a.r c.loop-i.g st n ls os c.loop-i.i so low c.wide-l.result at b.result e.result b.ensures e.ensures turn.new.w turn.new.q turn.new.quads turn.new.t turn.result to (not_stuck turn.result.kind (λ z. search rules))

pub loop-i-preserved : goal.loop-i-preserved
loop-i-preserved c =
    let a = c.args in
    let go : (z : Begun) (st : State) (n : ℕ) (ls os : List (List Edge)) → CanLoops a.w.now a.q.now a.quads.now a.t.now (setup a.rules z) a.k a.r a.before st n ls os → Locks a.j.now z.locked
    → Looping c.take_turn-s.new.w c.take_turn-s.new.q c.take_turn-s.new.quads c.take_turn-s.new.t (setup a.rules z) a.k a.r c.take_turn-s.result.standing st n ls os (c.loop-i.i + 1) =
    λ z st n ls os can lk.
    let x = setup a.rules z in
    let so = c.loop-i.invariant.4 z st n ls os can lk in
    let low = c.loop-i-test.true in
    let at : c.wide-l.result ≡ get_or c.loop-i.w (done_at a.rules.lay.slots a.rules.lay.points + c.loop-i.i) 0 = c.wide-l.ensures ∙ ap (λ (y : ℕ). get_or c.loop-i.w (y + c.loop-i.i) 0) c.done_at-d.ensures in
    let b = c.start_of-b in
    let e = c.loop_end-e in
    let turn = c.take_turn-s in
    let to = turn.ensures z so.st (get_or ls c.wide-l.result []) (can_take c.loop-i.w c.loop-i.q c.loop-i.quads c.loop-i.t x a.k a.r c.loop-i.g st n ls os c.loop-i.i so low c.wide-l.result at b.result e.result b.ensures e.ensures) lk in
    let stuck : turn.result.kind ≡ goings.Stuck = search rules in
    goes_on c.loop-i.w c.loop-i.q c.loop-i.quads c.loop-i.t x a.k a.r c.loop-i.g st n ls os c.loop-i.i so low c.wide-l.result at b.result e.result b.ensures e.ensures turn.new.w turn.new.q turn.new.quads turn.new.t turn.result to (ap is_stuck stuck) in (
      c.take_turn-s.auto.w ∙ c.loop-i.invariant.0,
      c.take_turn-s.auto.q ∙ c.loop-i.invariant.1,
      c.take_turn-s.auto.quads ∙ c.loop-i.invariant.2,
      c.take_turn-s.auto.t ∙ c.loop-i.invariant.3,
      go,
    )

pub returns : goal.returns
returns c =
    let a = c.args in
    λ z st n ls os can lk.
    let x = setup a.rules z in
    let so = c.loop-i.invariant.4 z st n ls os can lk in
    none_left c.loop-i.w c.loop-i.q c.loop-i.quads c.loop-i.t x a.k a.r c.loop-i.g st n ls os c.loop-i.i so (omega (arith, c.loop-i-test.false))
