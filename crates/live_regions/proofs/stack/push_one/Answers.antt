use mathlib.Core.Path.{sym, subst}
use Prim.Native.Nat.{ℕ, ◌+◌, ◌≤◌, ◌<◌}
use native.Mathlib.Omega.{arith}
use lib.ListN.{get_or, set, length-set}
use Rattle.rings.specs.Rings.{without, CanLink, CanUnlink, LinkedTo, UnlinkedFrom}
use Rattle.cells.specs.Layout.{marks_at, stack_at}
use Rattle.cells.specs.Rep.{slots}
use Rattle.live_regions.specs.Stack.{rev}
use Rattle.live_regions.proofs.Scratches.{can_link_in, can_unlink_in}
use Rattle.live_regions.proofs.Pushes.{on_stack, push_seen, push_other, push_again, push_first, ring_again, ring_first}
use Rattle.live_regions.proofs.stack.push_one.Goals as goal

pub unlink-requires : goal.unlink-requires
unlink-requires c =
    let a = c.args in
    let m = c.requires.0 in
    let out = c.requires.1 in
    let seen = c.requires.2 in
    let st = c.requires.3 in
    let e = c.requires.4 in
    let h = c.requires.5 in
    subst (λ (z : ℕ). CanUnlink a.w.now z (a.lay.slots + 1) a.j) (sym c.stack_at-stack.ensures)
    (can_unlink_in a.w.now a.lay.slots a.lay.points a.j (rev (slots st)) h.hold.fits h.inside h.hold.ring
    (on_stack a.w.now a.lay.slots a.lay.points a.j m out seen st e h (subst (λ (z : ℕ). 16 ≤ get_or a.w.now (z + a.j) 0) c.marks_at-marks.ensures c.if-m-ge16.true)))

pub link-requires : goal.link-requires
link-requires c =
    let a = c.args in
    let m = c.requires.0 in
    let out = c.requires.1 in
    let seen = c.requires.2 in
    let st = c.requires.3 in
    let e = c.requires.4 in
    let h = c.requires.5 in
    let w1 = c.unlink.new.w in
    subst (λ (z : ℕ). CanLink w1 z (a.lay.slots + 1) a.j a.lay.slots) (sym c.stack_at-stack.ensures)
    (can_link_in w1 a.lay.slots a.lay.points a.j (without a.j (rev (slots st))) (omega (arith, h.hold.fits, c.unlink.ensures.kept.len)) h.hold.rep.room.small h.inside
    (ring_again a.w.now a.lay.slots a.lay.points a.j m out seen st e h w1 (subst (λ (z : ℕ). UnlinkedFrom a.w.now w1 z (a.lay.slots + 1) a.j) c.stack_at-stack.ensures c.unlink.ensures)))

pub returns-then-m-ge16 : goal.returns-then-m-ge16
returns-then-m-ge16 c =
    let a = c.args in
    let w1 = c.unlink.new.w in
    let w2 = c.link.new.w in
    λ m out seen st e h.
    push_again a.w.now a.lay.slots a.lay.points a.j m out seen st e h (subst (λ (z : ℕ). 16 ≤ get_or a.w.now (z + a.j) 0) c.marks_at-marks.ensures c.if-m-ge16.true) w1 w2
    (subst (λ (z : ℕ). UnlinkedFrom a.w.now w1 z (a.lay.slots + 1) a.j) c.stack_at-stack.ensures c.unlink.ensures)
    (subst (λ (z : ℕ). LinkedTo w1 w2 z (a.lay.slots + 1) a.j a.lay.slots) c.stack_at-stack.ensures c.link.ensures)

pub returns-then-m-ge2 : goal.returns-then-m-ge2
returns-then-m-ge2 c =
    let a = c.args in
    λ m out seen st e h.
    push_seen a.w.now a.lay.slots a.lay.points a.j m out seen st e h (subst (λ (z : ℕ). 2 ≤ get_or a.w.now (z + a.j) 0) c.marks_at-marks.ensures c.if-m-ge2.true)
    (subst (λ (z : ℕ). get_or a.w.now (z + a.j) 0 < 16) c.marks_at-marks.ensures c.if-m-ge16.false)

pub returns-then-w-j-ne3 : goal.returns-then-w-j-ne3
returns-then-w-j-ne3 c =
    let a = c.args in
    λ m out seen st e h. push_other a.w.now a.lay.slots a.lay.points a.j m out seen st e h c.if-w-j-ne3.true

pub link-requires-2 : goal.link-requires-2
link-requires-2 c =
    let a = c.args in
    let m = c.requires.0 in
    let out = c.requires.1 in
    let seen = c.requires.2 in
    let st = c.requires.3 in
    let e = c.requires.4 in
    let h = c.requires.5 in
    let w1 = set a.w.now (marks_at a.lay.slots a.lay.points + a.j) 16 in
    subst (λ (z : ℕ). CanLink (set a.w.now (z + a.j) 16) c.stack_at-stack.result (a.lay.slots + 1) a.j a.lay.slots) (sym c.marks_at-marks.ensures)
    (subst (λ (z : ℕ). CanLink w1 z (a.lay.slots + 1) a.j a.lay.slots) (sym c.stack_at-stack.ensures)
    (can_link_in w1 a.lay.slots a.lay.points a.j (without a.j (rev (slots st))) (simp length-set h.hold.fits) h.hold.rep.room.small h.inside
    (ring_first a.w.now a.lay.slots a.lay.points a.j m out seen st e h (subst (λ (z : ℕ). get_or a.w.now (z + a.j) 0 < 2) c.marks_at-marks.ensures c.if-m-ge2.false))))

pub returns : goal.returns
returns c =
    let a = c.args in
    let w2 = c.link-2.new.w in
    λ m out seen st e h.
    push_first a.w.now a.lay.slots a.lay.points a.j m out seen st e h (subst (λ (z : ℕ). get_or a.w.now (z + a.j) 0 < 2) c.marks_at-marks.ensures c.if-m-ge2.false) c.if-w-j-ne3.false w2
    (subst (λ (z : ℕ). LinkedTo (set a.w.now (z + a.j) 16) w2 (stack_at a.lay.slots a.lay.points) (a.lay.slots + 1) a.j a.lay.slots) c.marks_at-marks.ensures
    (subst (λ (z : ℕ). LinkedTo (set a.w.now (c.marks_at-marks.result + a.j) 16) w2 z (a.lay.slots + 1) a.j a.lay.slots) c.stack_at-stack.ensures c.link-2.ensures))
