use mathlib.Core.Path.{◌≡◌, refl, sym, ◌∙◌, subst}
use mathlib.Core.List.{List}
use Prim.Native.Nat.{ℕ, ◌+◌, ◌*◌, ◌/◌, ◌%◌, ◌<◌, ◌≤◌}
use native.Mathlib.Nat.{mul-le-mul_right}
use native.Mathlib.Omega.{arith}
use Rattle.std.proofs.Common.{min, true}
use Rattle.std.proofs.lemmas.Grind.{div_ceil_times}
use Rattle.definition.specs.Cells.{Live, Mesh}
use Rattle.definition.specs.Candidates.{walls, segment_inside}
use Rattle.side_candidates.specs.Hand.{Ends}
use Rattle.side_candidates.specs.Blocks.{Fence, Through, CanSkip}
use Rattle.side_candidates.proofs.Scans.{passing_start}
use Rattle.side_candidates.proofs.Skipping.{through_start, through_is, leads_at}
use Rattle.side_candidates.proofs.inside.blocks_open.Goals as goal
use Rattle.side_candidates.proofs.inside.blocks_open.Goals.{In-loop-j}

-- a block begins before the region's end
starts : (n size j e : ℕ) → 0 < size → e ≡ n / size + min 1 (n % size) → j < e → j * size < n
starts n size j e p z l =
    let t : e * size < n + size = subst (λ (x : ℕ). x * size < n + size) (sym z) (div_ceil_times n size p).1 in
    let u : (j + 1) * size ≤ e * size = mul-le-mul_right size (omega arith) in
    omega arith

-- and the last one ends there
ends : (n size j e : ℕ) → 0 < size → e ≡ n / size + min 1 (n % size) → e ≤ j → n ≤ j * size
ends n size j e p z l =
    let t : n ≤ e * size = subst (λ (x : ℕ). n ≤ x * size) (sym z) (div_ceil_times n size p).0 in
    let u : e * size ≤ j * size = mul-le-mul_right size l in
    omega arith

few : (j size : ℕ) → 0 < size → j ≤ j * size
few j size p = let t : 1 * j ≤ size * j = mul-le-mul_right j p in omega arith

-- what a block is gone through by
can_skip : (c : In-loop-j) (m : Mesh) (g : List Live) → Fence c.args.w.now c.args.q.now c.args.lay.slots c.args.lay.points c.args.n c.args.h.boxes.now c.args.h.size m g → Ends m c.args.a c.args.b
    → CanSkip c.args.w.now c.args.q.now c.args.lay.slots c.args.lay.points c.args.n (c.loop-j.j * c.args.h.size) c.args.h.boxes.now c.args.h.size c.loop-j.j c.through-o.result m g c.args.a c.args.b
can_skip c m g h e =
    let a = c.args in
    let l : c.loop-j.j * a.h.size ≤ a.n = let z = starts a.n a.h.size c.loop-j.j c.div_ceil-j-end.result h.boxes.some c.div_ceil-j-end.ensures c.loop-j-test.true in omega arith in
    record {
      boxes = h.boxes;
      pass = record { hand = h.hand; ends = e; from = (c.loop-j.invariant m g h e).on refl l };
      leads = leads_at a.q.now a.lay.points m h.hand.pts a.a a.b e c.through-o.result c.through-o.ensures;
      block = refl;
    }

pub loop-j-init : goal.loop-j-init
loop-j-init c =
    let a = c.args in
    λ m g h e.
    let z : 0 ≡ 0 * a.h.size = omega arith in
    subst (λ (k : ℕ). Through a.w.now a.lay.slots a.lay.points a.n k m a.a a.b (segment_inside m a.a a.b (walls m g)) true) z
    (through_start a.w.now a.lay.slots a.lay.points a.n 0 m a.a a.b (segment_inside m a.a a.b (walls m g)) (omega arith) (passing_start a.w.now a.q.now a.lay.slots a.lay.points a.n a.a a.b m g h.hand))

pub overflow_mul-j : goal.overflow_mul-j
overflow_mul-j c =
    let a = c.args in
    let z = starts a.n a.h.size c.loop-j.j c.div_ceil-j-end.result c.requires.2.boxes.some c.div_ceil-j-end.ensures c.loop-j-test.true in
    omega (arith, z)

pub block_open-requires : goal.block_open-requires
block_open-requires c =
    let a = c.args in
    let r = c.requires in
    let h = r.2 in
    let z = starts a.n a.h.size c.loop-j.j c.div_ceil-j-end.result h.boxes.some c.div_ceil-j-end.ensures c.loop-j-test.true in
    record { can_skip = (r.0, r.1, can_skip (goal.at.block_open-requires c).In-loop-j r.0 r.1 h r.3); k_lt_n = (z, omega (arith, z, few c.loop-j.j a.h.size h.boxes.some, h.hand.few, h.hand.rep.room.small)) }

pub returns-then-not-block_open : goal.returns-then-not-block_open
returns-then-not-block_open c = λ m g h e. (c.block_open.ensures m g (can_skip (goal.at.returns-then-not-block_open c).In-loop-j m g h e)).stop c.if-not-block_open.true

pub loop-j-preserved : goal.loop-j-preserved
loop-j-preserved c =
    let a = c.args in
    λ m g h e.
    let z = c.block_open.ensures m g (can_skip (goal.at.loop-j-preserved c).In-loop-j m g h e) in
    let f = c.if-not-block_open.false in
    let k : c.loop-j.j * a.h.size + a.h.size ≡ (c.loop-j.j + 1) * a.h.size = omega arith in
    subst (λ (k : ℕ). Through a.w.now a.lay.slots a.lay.points a.n k m a.a a.b (segment_inside m a.a a.b (walls m g)) true) k
    (record { on = λ r l. z.on f l; end = λ r l. z.end f l; stop = λ r. z.stop (f ∙ r) })

pub returns : goal.returns
returns c =
    let a = c.args in
    λ m g h e.
    through_is a.w.now a.lay.slots a.lay.points a.n (c.loop-j.j * a.h.size) m a.a a.b (segment_inside m a.a a.b (walls m g)) true
    (ends a.n a.h.size c.loop-j.j c.div_ceil-j-end.result h.boxes.some c.div_ceil-j-end.ensures c.loop-j-test.false) (c.loop-j.invariant m g h e)
