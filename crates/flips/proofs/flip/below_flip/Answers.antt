-- The two triangles, their third nodes, and the least of these and u.
use mathlib.Core.Path.{subst}
use native.Mathlib.Nat.{min-le_left, min-le_right}
use native.Mathlib.Omega.{arith}
use Rattle.flips.specs.Twins.{IsTwins}
use Rattle.flips.proofs.Found.{see1, see2, below}
use Rattle.flips.proofs.Resumes.{stays_below_0}
use Rattle.flips.proofs.flip.below_flip.Goals as goal

pub returns-in_default : goal.returns-in_default
returns-in_default c = let a = c.args in record { few = omega arith; is = λ m r. stays_below_0 m a.u a.v }

pub third-x-requires : goal.third-x-requires
third-x-requires c =
    let a = c.args in
    let t = c.requires.rep in
    see1 a.w.now a.lay.slots a.lay.points a.u a.v t.0 t.1 c.requires.up c.in-Some.two.0 c.in-Some.two.1 (subst (λ x. IsTwins t.0 a.u a.v x) c.in-Some.is (c.two_tris-t.ensures t.0 t.1))

pub third-y-requires : goal.third-y-requires
third-y-requires c =
    let a = c.args in
    let t = c.requires.rep in
    see2 a.w.now a.lay.slots a.lay.points a.u a.v t.0 t.1 c.requires.up c.in-Some.two.0 c.in-Some.two.1 (subst (λ x. IsTwins t.0 a.u a.v x) c.in-Some.is (c.two_tris-t.ensures t.0 t.1))

pub returns : goal.returns
returns c =
    let a = c.args in
    let x = c.third-x.result in
    let y = c.third-y.result in
    let least = c.min-2.ensures in
    let less = c.min.ensures in
    let on_left = min-le_left a.u c.min.result in
    let on_right = min-le_right a.u c.min.result in
    let first = min-le_left x y in
    let second = min-le_right x y in
    record {
      few = omega (arith, least, on_left);
      is = λ m r.
          below a.w.now a.lay.slots a.lay.points a.u a.v m r c.requires.up c.in-Some.two.0 c.in-Some.two.1 (subst (λ x. IsTwins m a.u a.v x) c.in-Some.is (c.two_tris-t.ensures m r))
          x y c.third-x.ensures c.third-y.ensures c.min-2.result
          (omega (arith, least, on_left)) (omega (arith, least, on_right, less, first)) (omega (arith, least, on_right, less, second));
    }
