use Rattle.laws.specs.Kit.{true, false}
use Rattle.definition.specs.Plane.{flat}
use Rattle.definition.specs.Cells.{cell_of}
use Rattle.definition.specs.Counts.{of_points, of_slots, of_trace}
use Rattle.definition.specs.Insertion.{slot_clear, holder, split_triangle, insert_near}
use Rattle.laws.specs.Frames.{stays_refl}
use Rattle.cells.specs.Layout.{refused_at, stack_at}
use Rattle.live_regions.proofs.Scratches.{scratch_rep}
use Rattle.insertion.specs.Hold.{Drawn}
use Rattle.insertion.proofs.Inserts.{space, found_tri, found_inside, found_none, clear_told, told, near_blocked, near_lost, near_tight, near_no_point, near_no_slots, near_no_trace, near_inserted, beyond_scratch, to_nowhere, to_full, can_split, room_told, enters, slot_word, to_inserted}
use Rattle.insertion.proofs.insert.insert_near.Goals as goal

pub is_clear-requires : goal.is_clear-requires
is_clear-requires c =
    let k = c.requires.2 in
    record { drawn = (c.requires.1, record { rep = k.lent.rep; pts = k.lent.pts }); i_lt_s = k.seeded }

pub returns-then-not-is_clear : goal.returns-then-not-is_clear
returns-then-not-is_clear c =
    let a = c.args in
    let w = a.w.now in
    let o = flat a.x a.y in
    λ base m settings suits k g.
    let d : Drawn w a.q.now a.lay.slots a.lay.points m = record { rep = k.lent.rep; pts = k.lent.pts } in
    let b = told false c.is_clear.result (slot_clear m o (space a.bucket) (cell_of m a.seed)) c.if-not-is_clear.true (c.is_clear.ensures m d) in
    to_nowhere w w a.q.now base a.t.now a.lay.slots a.lay.points a.used a.n a.bucket m (insert_near settings m a.seed o) (stays_refl w (refused_at a.lay.slots a.lay.points) (stack_at a.lay.slots a.lay.points)) k.lent.rep (near_blocked a.lay.slots a.lay.points settings suits m a.seed o a.bucket k.side b)

pub returns-in_default : goal.returns-in_default
returns-in_default c =
    let a = c.args in
    let w = a.w.now in
    let o = flat a.x a.y in
    let w1 = c.find_holder.new.w in
    λ base m settings suits k g.
    let d : Drawn w a.q.now a.lay.slots a.lay.points m = record { rep = k.lent.rep; pts = k.lent.pts } in
    let b = told true c.is_clear.result (slot_clear m o (space a.bucket) (cell_of m a.seed)) c.if-not-is_clear.false (c.is_clear.ensures m d) in
    let h = c.find_holder.ensures m k.lent k.side in
    let r1 = scratch_rep w w1 a.lay.slots a.lay.points m h.scratch k.lent.rep in
    to_nowhere w w1 a.q.now base a.t.now a.lay.slots a.lay.points a.used a.n a.bucket m (insert_near settings m a.seed o) (beyond_scratch w w1 a.lay.slots a.lay.points h.scratch) r1 (near_lost a.lay.slots a.lay.points settings suits m a.seed o a.bucket k.side b (found_none m a.lay.slots c.find_holder.result (holder m a.seed o) h.found c.in_default.is))

pub is_clear-requires-2 : goal.is_clear-requires-2
is_clear-requires-2 c =
    let a = c.args in
    let w = a.w.now in
    let o = flat a.x a.y in
    let i = c.in-Some.i in
    let w1 = c.find_holder.new.w in
    let k = c.requires.2 in
    let h = c.find_holder.ensures c.requires.1 k.lent k.side in
    record { drawn = (c.requires.1, record { rep = scratch_rep w w1 a.lay.slots a.lay.points c.requires.1 h.scratch k.lent.rep; pts = k.lent.pts }); i_lt_s = found_inside c.requires.1 a.lay.slots i c.find_holder.result (holder c.requires.1 a.seed o) h.found c.in-Some.is }

pub returns-then-not-is_clear-2 : goal.returns-then-not-is_clear-2
returns-then-not-is_clear-2 c =
    let a = c.args in
    let w = a.w.now in
    let o = flat a.x a.y in
    let i = c.in-Some.i in
    let w1 = c.find_holder.new.w in
    λ base m settings suits k g.
    let d : Drawn w a.q.now a.lay.slots a.lay.points m = record { rep = k.lent.rep; pts = k.lent.pts } in
    let b = told true c.is_clear.result (slot_clear m o (space a.bucket) (cell_of m a.seed)) c.if-not-is_clear.false (c.is_clear.ensures m d) in
    let h = c.find_holder.ensures m k.lent k.side in
    let r1 = scratch_rep w w1 a.lay.slots a.lay.points m h.scratch k.lent.rep in
    let x = found_tri m a.lay.slots i c.find_holder.result (holder m a.seed o) h.found c.in-Some.is in
    let u = clear_told w1 a.lay.slots a.lay.points m r1 o (space a.bucket) i x.t false c.is_clear-2.result c.if-not-is_clear-2.true (c.is_clear-2.ensures m (record { rep = r1; pts = k.lent.pts })) in
    to_nowhere w w1 a.q.now base a.t.now a.lay.slots a.lay.points a.used a.n a.bucket m (insert_near settings m a.seed o) (beyond_scratch w w1 a.lay.slots a.lay.points h.scratch) r1 (near_tight a.lay.slots a.lay.points settings suits m a.seed o a.bucket k.side b i x u)

pub returns-then-n-lay : goal.returns-then-n-lay
returns-then-n-lay c =
    let a = c.args in
    let w = a.w.now in
    let o = flat a.x a.y in
    let i = c.in-Some.i in
    let w1 = c.find_holder.new.w in
    λ base m settings suits k g.
    let d : Drawn w a.q.now a.lay.slots a.lay.points m = record { rep = k.lent.rep; pts = k.lent.pts } in
    let b = told true c.is_clear.result (slot_clear m o (space a.bucket) (cell_of m a.seed)) c.if-not-is_clear.false (c.is_clear.ensures m d) in
    let h = c.find_holder.ensures m k.lent k.side in
    let r1 = scratch_rep w w1 a.lay.slots a.lay.points m h.scratch k.lent.rep in
    let x = found_tri m a.lay.slots i c.find_holder.result (holder m a.seed o) h.found c.in-Some.is in
    let u = clear_told w1 a.lay.slots a.lay.points m r1 o (space a.bucket) i x.t true c.is_clear-2.result c.if-not-is_clear-2.false (c.is_clear-2.ensures m (record { rep = r1; pts = k.lent.pts })) in
    to_full w w1 a.q.now base a.t.now a.lay.slots a.lay.points a.used a.n a.bucket m (insert_near settings m a.seed o) (beyond_scratch w w1 a.lay.slots a.lay.points h.scratch) r1 of_points (near_no_point a.lay.slots a.lay.points settings suits m a.seed o a.bucket k.side b i x u a.n a.used k.count k.lent.given c.if-n-lay.true)

pub returns-then-used-lay : goal.returns-then-used-lay
returns-then-used-lay c =
    let a = c.args in
    let w = a.w.now in
    let o = flat a.x a.y in
    let i = c.in-Some.i in
    let w1 = c.find_holder.new.w in
    λ base m settings suits k g.
    let d : Drawn w a.q.now a.lay.slots a.lay.points m = record { rep = k.lent.rep; pts = k.lent.pts } in
    let b = told true c.is_clear.result (slot_clear m o (space a.bucket) (cell_of m a.seed)) c.if-not-is_clear.false (c.is_clear.ensures m d) in
    let h = c.find_holder.ensures m k.lent k.side in
    let r1 = scratch_rep w w1 a.lay.slots a.lay.points m h.scratch k.lent.rep in
    let x = found_tri m a.lay.slots i c.find_holder.result (holder m a.seed o) h.found c.in-Some.is in
    let u = clear_told w1 a.lay.slots a.lay.points m r1 o (space a.bucket) i x.t true c.is_clear-2.result c.if-not-is_clear-2.false (c.is_clear-2.ensures m (record { rep = r1; pts = k.lent.pts })) in
    to_full w w1 a.q.now base a.t.now a.lay.slots a.lay.points a.used a.n a.bucket m (insert_near settings m a.seed o) (beyond_scratch w w1 a.lay.slots a.lay.points h.scratch) r1 of_slots (near_no_slots a.lay.slots a.lay.points settings suits m a.seed o a.bucket k.side b i x u a.n a.used k.count k.lent.given c.if-n-lay.false c.if-used-lay.true)

pub returns-then-not-fits : goal.returns-then-not-fits
returns-then-not-fits c =
    let a = c.args in
    let w = a.w.now in
    let o = flat a.x a.y in
    let i = c.in-Some.i in
    let w1 = c.find_holder.new.w in
    λ base m settings suits k g.
    let d : Drawn w a.q.now a.lay.slots a.lay.points m = record { rep = k.lent.rep; pts = k.lent.pts } in
    let b = told true c.is_clear.result (slot_clear m o (space a.bucket) (cell_of m a.seed)) c.if-not-is_clear.false (c.is_clear.ensures m d) in
    let h = c.find_holder.ensures m k.lent k.side in
    let r1 = scratch_rep w w1 a.lay.slots a.lay.points m h.scratch k.lent.rep in
    let x = found_tri m a.lay.slots i c.find_holder.result (holder m a.seed o) h.found c.in-Some.is in
    let u = clear_told w1 a.lay.slots a.lay.points m r1 o (space a.bucket) i x.t true c.is_clear-2.result c.if-not-is_clear-2.false (c.is_clear-2.ensures m (record { rep = r1; pts = k.lent.pts })) in
    let f = room_told base a.t.now a.at m g i x.t o c.fits.result c.fits.ensures false c.if-not-fits.true in
    to_full w w1 a.q.now base a.t.now a.lay.slots a.lay.points a.used a.n a.bucket m (insert_near settings m a.seed o) (beyond_scratch w w1 a.lay.slots a.lay.points h.scratch) r1 of_trace (near_no_trace a.lay.slots a.lay.points settings suits m a.seed o a.bucket k.side b i x u a.n a.used k.count k.lent.given c.if-n-lay.false c.if-used-lay.false f)

pub split_triangle-requires : goal.split_triangle-requires
split_triangle-requires c =
    let a = c.args in
    let w = a.w.now in
    let o = flat a.x a.y in
    let i = c.in-Some.i in
    let w1 = c.find_holder.new.w in
    let m = c.requires.1 in
    let k = c.requires.2 in
    let h = c.find_holder.ensures m k.lent k.side in
    let x = found_tri m a.lay.slots i c.find_holder.result (holder m a.seed o) h.found c.in-Some.is in record { rep = (m, scratch_rep w w1 a.lay.slots a.lay.points m h.scratch k.lent.rep, can_split m i a.used a.n x.t k.lent.given k.count); has_room = record { point = c.if-n-lay.false; slots = c.if-used-lay.false }; p_in_bounds = k.lent.pts.fits }

pub note_split-requires : goal.note_split-requires
note_split-requires c =
    let a = c.args in
    let o = flat a.x a.y in
    let i = c.in-Some.i in
    let m = c.requires.1 in
    let k = c.requires.2 in
    let g = c.requires.3 in
    let h = c.find_holder.ensures m k.lent k.side in
    let x = found_tri m a.lay.slots i c.find_holder.result (holder m a.seed o) h.found c.in-Some.is in record { by_index = (c.requires.0, m, split_triangle m i x.t.t o, g, enters c.requires.0 a.t.now a.at m g i x.t o c.fits.result c.fits.ensures c.if-not-fits.false); i_bound = slot_word a.w.now a.lay.slots a.lay.points m k.lent.rep i (found_inside m a.lay.slots i c.find_holder.result (holder m a.seed o) h.found c.in-Some.is) }

pub returns : goal.returns
returns c =
    let a = c.args in
    let w = a.w.now in
    let o = flat a.x a.y in
    let i = c.in-Some.i in
    let w1 = c.find_holder.new.w in
    λ base m settings suits k g.
    let d : Drawn w a.q.now a.lay.slots a.lay.points m = record { rep = k.lent.rep; pts = k.lent.pts } in
    let b = told true c.is_clear.result (slot_clear m o (space a.bucket) (cell_of m a.seed)) c.if-not-is_clear.false (c.is_clear.ensures m d) in
    let h = c.find_holder.ensures m k.lent k.side in
    let r1 = scratch_rep w w1 a.lay.slots a.lay.points m h.scratch k.lent.rep in
    let x = found_tri m a.lay.slots i c.find_holder.result (holder m a.seed o) h.found c.in-Some.is in
    let u = clear_told w1 a.lay.slots a.lay.points m r1 o (space a.bucket) i x.t true c.is_clear-2.result c.if-not-is_clear-2.false (c.is_clear-2.ensures m (record { rep = r1; pts = k.lent.pts })) in
    let y = c.if-not-fits.false in
    let f = room_told base a.t.now a.at m g i x.t o c.fits.result c.fits.ensures true y in
    let l = c.note_split.ensures base m (split_triangle m i x.t.t o) g (enters base a.t.now a.at m g i x.t o c.fits.result c.fits.ensures y) in
    to_inserted w w1 c.split_triangle.new.w a.q.now c.split_triangle.new.q base a.t.now c.note_split.new.t a.lay.slots a.lay.points a.used a.n a.bucket a.seed a.a m i a.x a.y
    k x.t r1 c.split_triangle.ensures (insert_near settings m a.seed o) c.note_split.result h.scratch l
    (near_inserted a.lay.slots a.lay.points settings suits m a.seed o a.bucket k.side b i x u a.n a.used k.count k.lent.given c.if-n-lay.false c.if-used-lay.false f)
