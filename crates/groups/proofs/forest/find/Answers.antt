-- The root stays that of i, on the way up.
use Rattle.laws.specs.Kit.{refl, arith}
use Rattle.groups.proofs.Roots.{find_start, find_down, find_next, find_less, find_end}
use Rattle.groups.proofs.forest.find.Goals as goal

pub loop-p-init : goal.loop-p-init
loop-p-init c = let s = c in find_start _ _ _ _ s.requires.0 s.requires.1 refl

pub halve-x-requires : goal.halve-x-requires
halve-x-requires c = let v = c.loop-p.invariant in (v.kept.forest, v.low)

pub offset_bounds-parents-x-in-loop-p : goal.offset_bounds-parents-x-in-loop-p
offset_bounds-parents-x-in-loop-p c =
    let v = c.loop-p.invariant in
    let e = c.halve-x.ensures in
    omega (arith, find_down _ _ _ _ _ _ _ _ 0 v e.0 e.1, v.low, e.0.kept.forest.room)

pub bounds-parents-x-in-loop-p : goal.bounds-parents-x-in-loop-p
bounds-parents-x-in-loop-p c =
    let v = c.loop-p.invariant in
    let e = c.halve-x.ensures in
    omega (arith, find_down _ _ _ _ _ _ _ _ 0 v e.0 e.1, v.low, e.0.kept.forest.room)

pub loop-p-smaller : goal.loop-p-smaller
loop-p-smaller c =
    let e = c.halve-x.ensures in
    find_less _ _ _ _ _ _ _ _ 0 c.loop-p.invariant e.0 e.1 c.loop-p-test.true

pub loop-p-preserved : goal.loop-p-preserved
loop-p-preserved c =
    let e = c.halve-x.ensures in
    find_next _ _ _ _ _ _ _ _ _ c.loop-p.invariant e.0 e.1 refl

pub returns : goal.returns
returns c = find_end _ _ _ _ _ _ c.loop-p.invariant c.loop-p-test.false
