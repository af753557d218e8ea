-- A state that 16 lets pass has room for its sums.
use Rattle.std.specs.Prelude.{◌≡◌, ◌+◌, ◌*◌, ◌/◌, ◌<◌, ◌≤◌}
use Rattle.laws.specs.Kit.{false, arith, mul-le-mul_right, eqb, ltb, leb, eqb-false, ltb-false, leb-false}
use native.Mathlib.Nat.{div-mul-le_self}
use Rattle.definition.specs.Job as defined
use Rattle.definition.specs.Job.{most_meshes, most_allowance, share, entitled, bad_job}
use Rattle.laws.specs.Bools.{or_none}

-- its numbers
pub record Good (j : defined.Job) : Type 0 where
  pub some : 0 < j.meshes
  pub few : j.meshes ≤ 16
  pub going : j.done < j.meshes
  pub fair : j.allowance ≤ 1000000
  pub left : j.left ≤ j.done * share j

pub good : (j : defined.Job) → bad_job j ≡ false → Good j
unfolding bad_job most_meshes most_allowance
good j h =
    let h5 = or_none _ (ltb (j.done * share j) j.left) h in
    let h4 = or_none _ (ltb 1000000 j.allowance) h5.0 in
    let h3 = or_none _ (eqb j.allowance 0) h4.0 in
    let h2 = or_none _ (leb j.meshes j.done) h3.0 in
    let h1 = or_none (eqb j.meshes 0) (ltb 16 j.meshes) h2.0 in
    let some = eqb-false j.meshes 0 h1.0 in
    record {
      some = omega arith;
      few = ltb-false 16 j.meshes h1.1;
      going = leb-false j.meshes j.done h2.1;
      fair = ltb-false 1000000 j.allowance h4.1;
      left = ltb-false (j.done * share j) j.left h5.1;
    }

-- no mesh is entitled to more than the allowance
pub entitled_few : (j : defined.Job) → Good j → entitled j ≤ 1000000
unfolding entitled share
entitled_few j g =
    let s = j.allowance / j.meshes in
    let more : (j.done + 1) * s ≤ j.meshes * s = mul-le-mul_right s (omega (arith, g.going)) in
    omega (arith, more, div-mul-le_self j.allowance j.meshes, g.left, g.fair)
