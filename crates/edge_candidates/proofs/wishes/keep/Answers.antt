use mathlib.Core.Path.{◌≡◌, subst}
use Prim.Native.Nat.{ℕ, ◌+◌, ◌<◌}
use native.Mathlib.Omega.{arith}
use Rattle.plane.specs.Vectors.{vec}
use Rattle.edge_candidates.specs.Wishes.{KeepTo}
use Rattle.edge_candidates.proofs.Keeping.{keep_done}
use Rattle.edge_candidates.proofs.wishes.keep.Goals as goal

pub returns : goal.returns
unfolding vec
returns c =
    let a = c.args in
    let f : a.i < a.s = omega (arith, c.if-i-s.false) in
    let k : a.i ≡ a.k = omega (arith, c.if-k-i.false, c.requires.some) in
    subst (λ (j : ℕ). KeepTo a.w.now c.put-2.new.w a.s a.b a.i j (vec a.x) (a.i + 1)) k
    (keep_done a.w.now c.put.new.w c.put-2.new.w a.s a.b a.i f (vec a.x) c.put.ensures c.put-2.ensures
    (c.is_number.ensures c.if-not-is_number.false) (c.is_number-2.ensures c.if-not-is_number-2.false))
