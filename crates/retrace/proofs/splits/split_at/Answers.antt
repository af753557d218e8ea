-- The slot, the triangle that holds the point, the room, then the split.
use Rattle.std.specs.Prelude.{◌≡◌, ◌≤◌, Err}
use Rattle.laws.specs.Kit.{refl, ◌∙◌, arith}
use Rattle.definition.specs.Plane.{flat}
use Rattle.definition.specs.Cells.{cell_of}
use Rattle.insertion.specs.Hold.{slot_holds}
use Rattle.refusals.specs.declared.named.Refusal.TheVariants.{NoPoint, NoSlots, BadTrace}
use Rattle.retrace.specs.Stored.{stored}
use Rattle.retrace.specs.Plays.{state, played}
use Rattle.retrace.proofs.Flipping.{points_stored, numbers_fit}
use Rattle.retrace.proofs.Splitting.{held, slot_out, held_slot, entry_unheld, entry_points, entry_slots, can_split, entry_split}
use Rattle.retrace.proofs.splits.split_at.Goals as goal

pub returns-then-i-lay : goal.returns-then-i-lay
returns-then-i-lay c = λ quads q₀ old m t z k.
    let a = c.args in
    entry_unheld a.work.now a.points.now quads a.lay.slots a.lay.points q₀ old (state a.g) m k a.i a.x a.y t z
    (slot_out a.work.now a.points.now quads a.lay.slots a.lay.points q₀ old (state a.g) m k a.i a.x a.y c.if-i-lay.true) (played (Err BadTrace)) refl

pub holds-requires-clause-drawn : goal.holds-requires-clause-drawn
holds-requires-clause-drawn c =
    let a = c.args in
    let k = c.requires.by_index in
    (stored k.3, record { rep = k.4.rep; pts = points_stored a.work.now a.points.now k.0 a.lay.slots a.lay.points k.1 k.2 (state a.g) k.3 k.4 })

pub returns-then-not-holds : goal.returns-then-not-holds
returns-then-not-holds c = λ quads q₀ old m t z k.
    let a = c.args in
    let is : c.holds.result ≡ slot_holds (stored m) (flat a.x a.y) (cell_of (stored m) a.i) = c.holds.ensures (stored m) (record { rep = k.rep; pts = points_stored a.work.now a.points.now quads a.lay.slots a.lay.points q₀ old (state a.g) m k }) in
    let at = held_slot a.work.now a.points.now quads a.lay.slots a.lay.points q₀ old (state a.g) m k a.i a.x a.y c.holds.result is in
    entry_unheld a.work.now a.points.now quads a.lay.slots a.lay.points q₀ old (state a.g) m k a.i a.x a.y t z (at ∙ c.if-not-holds.true) (played (Err BadTrace)) refl

pub returns-then-g-lay : goal.returns-then-g-lay
returns-then-g-lay c = λ quads q₀ old m t z k.
    let a = c.args in
    let is : c.holds.result ≡ slot_holds (stored m) (flat a.x a.y) (cell_of (stored m) a.i) = c.holds.ensures (stored m) (record { rep = k.rep; pts = points_stored a.work.now a.points.now quads a.lay.slots a.lay.points q₀ old (state a.g) m k }) in
    let at = held_slot a.work.now a.points.now quads a.lay.slots a.lay.points q₀ old (state a.g) m k a.i a.x a.y c.holds.result is in
    entry_points a.work.now a.points.now quads a.lay.slots a.lay.points q₀ old (state a.g) m k a.i a.x a.y t z (held m (flat a.x a.y) a.i (at ∙ c.if-not-holds.false))
    c.if-g-lay.true (played (Err NoPoint)) refl

pub overflow_add-g : goal.overflow_add-g
overflow_add-g c =
    let a = c.args in
    let k = c.requires.by_index in
    let n : (a.g.used ≤ 16384) × (a.g.points ≤ 8192) × (a.g.quads ≤ 16384) = numbers_fit a.work.now a.points.now k.0 a.lay.slots a.lay.points k.1 k.2 (state a.g) k.3 k.4 k.5 in
    omega (arith, n.0)

pub returns-then-g-lay-2 : goal.returns-then-g-lay-2
returns-then-g-lay-2 c = λ quads q₀ old m t z k.
    let a = c.args in
    let is : c.holds.result ≡ slot_holds (stored m) (flat a.x a.y) (cell_of (stored m) a.i) = c.holds.ensures (stored m) (record { rep = k.rep; pts = points_stored a.work.now a.points.now quads a.lay.slots a.lay.points q₀ old (state a.g) m k }) in
    let at = held_slot a.work.now a.points.now quads a.lay.slots a.lay.points q₀ old (state a.g) m k a.i a.x a.y c.holds.result is in
    entry_slots a.work.now a.points.now quads a.lay.slots a.lay.points q₀ old (state a.g) m k a.i a.x a.y t z (held m (flat a.x a.y) a.i (at ∙ c.if-not-holds.false))
    c.if-g-lay.false c.if-g-lay-2.true (played (Err NoSlots)) refl

pub split_triangle-requires-clause-rep : goal.split_triangle-requires-clause-rep
split_triangle-requires-clause-rep c =
    let a = c.args in
    let b = c.requires.by_index in
    let quads = b.0 in
    let q₀ = b.1 in
    let old = b.2 in
    let m = b.3 in
    let k = b.4 in
    let is : c.holds.result ≡ slot_holds (stored m) (flat a.x a.y) (cell_of (stored m) a.i) = c.holds.ensures (stored m) (record { rep = k.rep; pts = points_stored a.work.now a.points.now quads a.lay.slots a.lay.points q₀ old (state a.g) m k }) in
    let at = held_slot a.work.now a.points.now quads a.lay.slots a.lay.points q₀ old (state a.g) m k a.i a.x a.y c.holds.result is in
    (stored m, k.rep, can_split a.work.now a.points.now quads a.lay.slots a.lay.points q₀ old (state a.g) m k a.i a.x a.y (held m (flat a.x a.y) a.i (at ∙ c.if-not-holds.false)))

pub returns : goal.returns
returns c = λ quads q₀ old m t z k.
    let a = c.args in
    let is : c.holds.result ≡ slot_holds (stored m) (flat a.x a.y) (cell_of (stored m) a.i) = c.holds.ensures (stored m) (record { rep = k.rep; pts = points_stored a.work.now a.points.now quads a.lay.slots a.lay.points q₀ old (state a.g) m k }) in
    let at = held_slot a.work.now a.points.now quads a.lay.slots a.lay.points q₀ old (state a.g) m k a.i a.x a.y c.holds.result is in
    entry_split a.work.now a.points.now quads a.lay.slots a.lay.points q₀ old (state a.g) m k a.i a.x a.y t z (held m (flat a.x a.y) a.i (at ∙ c.if-not-holds.false))
    c.split_triangle.new.w c.split_triangle.new.q c.split_triangle.ensures _ (record { at = refl; used = refl; points = refl; quads = refl; odd = refl; going = refl })
    c.if-g-lay.false c.if-g-lay-2.false
