-- The loop's invariant: the owners still to come, pushed onto the stack as it is now,
-- give what all give, and so does their tally.
-- The measure is how many links are left.
use mathlib.Core.Path.{◌≡◌, refl, ap, sym, ◌∙◌, subst}
use mathlib.Core.Logic.{◌≢◌}
use Rattle.live_regions.specs.declared.stack.Tally.{Tally}
use Rattle.live_regions.specs.declared.stack.Tally.TheVariants.{None, One, Two, Other}
use mathlib.Core.List.{foldl}
use Prim.Native.Nat.{ℕ, ◌/◌}
use native.Mathlib.Omega.{arith}
use Rattle.definition.specs.Cells.{key, owners}
use Rattle.definition.specs.Candidates.{on_top}
use Rattle.live_regions.proofs.Walking.{Going, going_start, going_wall, going_pair, going_both, going_here, going_met, going_at, going_less, going_on}
use Rattle.live_regions.specs.Walls.{number_of}
use Rattle.live_regions.proofs.stack.push_edge.Goals as goal

pub first_owner-first-requires : goal.first_owner-first-requires
first_owner-first-requires c =
    record { rep = (c.requires.can_push.0, c.requires.can_push.4.hold.rep); edge = c.requires.edge }

pub loop-c-init : goal.loop-c-init
loop-c-init c =
    let a = c.args in
    (refl, λ m out seen st h. going_start a.w.now a.lay.slots a.lay.points a.i a.u a.v c.first_owner-first.result m out seen st h.hold (c.first_owner-first.ensures m h.hold.rep))

pub tallied-k-requires : goal.tallied-k-requires
tallied-k-requires c =
    let x = c.loop-c in
    let a = c.args in
    let m = c.requires.can_push.0 in
    let out = c.requires.can_push.1 in
    let seen = c.requires.can_push.2 in
    let st = c.requires.can_push.3 in
    let g = x.invariant.1 m out seen st c.requires.can_push.4 in
    omega (arith, (going_met a.w.now x.w a.lay.slots a.lay.points a.i a.u a.v (number_of x.k) x.j x.c m out seen st g c.loop-c-test.true).inside, g.hold.fits)

pub push_one-requires : goal.push_one-requires
push_one-requires c =
    let x = c.loop-c in
    let a = c.args in
    let hh = c.loop-c-test.true in
    let m = c.requires.can_push.0 in
    let out = c.requires.can_push.1 in
    let seen = c.requires.can_push.2 in
    let st = c.requires.can_push.3 in
    let h = c.requires.can_push.4 in
    let g = x.invariant.1 m out seen st h in
    (m, out, seen, g.now, (going_here a.w.now x.w a.lay.slots a.lay.points a.i a.u a.v (number_of x.k) x.j x.c m out seen st g hh).x, going_met a.w.now x.w a.lay.slots a.lay.points a.i a.u a.v (number_of x.k) x.j x.c m out seen st g hh)

pub next_owner-c-requires : goal.next_owner-c-requires
next_owner-c-requires c =
    let x = c.loop-c in
    let a = c.args in
    let hh = c.loop-c-test.true in
    let m = c.requires.can_push.0 in
    let out = c.requires.can_push.1 in
    let seen = c.requires.can_push.2 in
    let st = c.requires.can_push.3 in
    let h = c.requires.can_push.4 in
    let g = x.invariant.1 m out seen st h in
    let f = c.push_one.ensures m out seen g.now (going_here a.w.now x.w a.lay.slots a.lay.points a.i a.u a.v (number_of x.k) x.j x.c m out seen st g hh).x (going_met a.w.now x.w a.lay.slots a.lay.points a.i a.u a.v (number_of x.k) x.j x.c m out seen st g hh) in
    record { at = (g.xs, going_at a.w.now x.w a.lay.slots a.lay.points a.i a.u a.v (number_of x.k) x.j x.c m out seen st g hh c.push_one.new.w f); edge = c.requires.edge; c_bound = hh }

pub loop-c-smaller : goal.loop-c-smaller
loop-c-smaller c =
    let x = c.loop-c in
    let a = c.args in
    let hh = c.loop-c-test.true in
    let m = c.requires.can_push.0 in
    let out = c.requires.can_push.1 in
    let seen = c.requires.can_push.2 in
    let st = c.requires.can_push.3 in
    let h = c.requires.can_push.4 in
    let g = x.invariant.1 m out seen st h in
    let f = c.push_one.ensures m out seen g.now (going_here a.w.now x.w a.lay.slots a.lay.points a.i a.u a.v (number_of x.k) x.j x.c m out seen st g hh).x (going_met a.w.now x.w a.lay.slots a.lay.points a.i a.u a.v (number_of x.k) x.j x.c m out seen st g hh) in
    going_less a.w.now x.w a.lay.slots a.lay.points a.i a.u a.v (number_of x.k) x.j x.c m out seen st g hh c.push_one.new.w f c.next_owner-c.result c.next_owner-c.ensures

pub loop-c-preserved : goal.loop-c-preserved
loop-c-preserved c =
    let x = c.loop-c in
    let a = c.args in
    let hh = c.loop-c-test.true in (
      c.push_one.auto.w ∙ x.invariant.0,
      λ m out seen st h.
          let g = x.invariant.1 m out seen st h in
          let f = c.push_one.ensures m out seen g.now (going_here a.w.now x.w a.lay.slots a.lay.points a.i a.u a.v (number_of x.k) x.j x.c m out seen st g hh).x (going_met a.w.now x.w a.lay.slots a.lay.points a.i a.u a.v (number_of x.k) x.j x.c m out seen st g hh) in
          subst (λ (n : ℕ). Going a.w.now c.push_one.new.w a.lay.slots a.lay.points a.i a.u a.v n (x.c / 4) c.next_owner-c.result m out seen st) (sym c.tallied-k.ensures)
          (going_on a.w.now x.w a.lay.slots a.lay.points a.i a.u a.v (number_of x.k) x.j x.c m out seen st g hh c.push_one.new.w f c.next_owner-c.result c.next_owner-c.ensures),
    )

two : (k : Tally) → (k ≡ Two → ⊥) → number_of k ≢ 2
two None n = λ e. absurd (omega arith)
two One n = λ e. absurd (omega arith)
two Two n = absurd (n refl)
two Other n = λ e. absurd (omega arith)

pub returns-in_default : goal.returns-in_default
returns-in_default c =
    let x = c.loop-c in
    let a = c.args in
    λ m out seen st h. going_wall a.w.now x.w a.lay.slots a.lay.points a.i a.u a.v (number_of x.k) x.j x.c m out seen st (x.invariant.1 m out seen st h) c.loop-c-test.false (two x.k c.in_default.not-Two)

pub note_other-requires : goal.note_other-requires
note_other-requires c =
    let x = c.loop-c in
    let a = c.args in
    let m = c.requires.can_push.0 in
    let out = c.requires.can_push.1 in
    let seen = c.requires.can_push.2 in
    let st = c.requires.can_push.3 in
    let h = c.requires.can_push.4 in (
      m,
      out,
      seen,
      foldl (on_top seen) st (owners m (key a.u a.v)),
      going_pair a.w.now x.w a.lay.slots a.lay.points a.i a.u a.v (number_of x.k) x.j x.c m out seen st (x.invariant.1 m out seen st h) c.loop-c-test.false c.first_owner-first.result
          (c.first_owner-first.ensures m h.hold.rep) h (ap number_of c.in-Two.is),
    )

pub shape_of-w : goal.shape_of-w
shape_of-w c =
    c.note_other.auto.w ∙ c.loop-c.invariant.0

pub returns : goal.returns
returns c =
    let x = c.loop-c in
    let a = c.args in
    λ m out seen st h.
    let g = x.invariant.1 m out seen st h in
    let st' = foldl (on_top seen) st (owners m (key a.u a.v)) in
    let q = going_pair a.w.now x.w a.lay.slots a.lay.points a.i a.u a.v (number_of x.k) x.j x.c m out seen st g c.loop-c-test.false c.first_owner-first.result
    (c.first_owner-first.ensures m h.hold.rep) h (ap number_of c.in-Two.is) in
    going_both a.w.now x.w a.lay.slots a.lay.points a.i a.u a.v (number_of x.k) x.j x.c m out seen st g c.loop-c-test.false (ap number_of c.in-Two.is) c.note_other.new.w
    (c.note_other.ensures m out seen st' q)
