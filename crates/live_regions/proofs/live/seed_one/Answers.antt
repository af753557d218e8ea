use mathlib.Core.Path.{sym, subst}
use mathlib.Core.List.{List, []}
use Rattle.definition.specs.Cells.{Live, tri, new_live}
use Rattle.cells.proofs.Slots.{tri_in}
use Rattle.live_regions.specs.Stack.{PushTo}
use Rattle.live_regions.proofs.Scratches.{scratch_refl}
use Rattle.live_regions.proofs.Steps.{seed_none, seed_some, seed_met}
use Rattle.live_regions.proofs.live.seed_one.Goals as goal

pub returns-else-w-i-eq3 : goal.returns-else-w-i-eq3
returns-else-w-i-eq3 c =
    let a = c.args in
    λ m h. subst (λ (l : List Live). PushTo a.w.now a.w.now a.lay.slots a.lay.points m [] [] l) (sym (seed_none a.w.now a.lay.slots a.lay.points a.i m h.rep c.requires.i_lt_s c.if-w-i-eq3.false))
    (record { hold = h; scratch = scratch_refl a.w.now a.lay.slots a.lay.points })

pub push_one-requires : goal.push_one-requires
push_one-requires c =
    let a = c.args in
    let m = c.requires.hold.0 in
    let h = c.requires.hold.1 in
    let k = tri_in a.w.now a.lay.slots a.lay.points m h.rep a.i c.requires.i_lt_s c.if-w-i-eq3.true in
    (m, [], [], [], new_live a.i (tri k.t), seed_met a.w.now a.lay.slots a.lay.points a.i m h k c.requires.i_lt_s)

pub returns-then-w-i-eq3 : goal.returns-then-w-i-eq3
returns-then-w-i-eq3 c =
    let a = c.args in
    λ m h.
    let k = tri_in a.w.now a.lay.slots a.lay.points m h.rep a.i c.requires.i_lt_s c.if-w-i-eq3.true in
    subst (λ (l : List Live). PushTo a.w.now c.push_one.new.w a.lay.slots a.lay.points m [] [] l) (sym (seed_some a.w.now a.lay.slots a.lay.points a.i m h.rep k))
    (c.push_one.ensures m [] [] [] (new_live a.i (tri k.t)) (seed_met a.w.now a.lay.slots a.lay.points a.i m h k c.requires.i_lt_s))
