-- The two parts of the words.
use native.Mathlib.Omega.{arith}
use mathlib.Core.Path.{◌≡◌, sym, subst}
use mathlib.Core.List.{List}
use Prim.Native.Nat.{ℕ, ◌-◌}
use lib.ListN.{length, take, drop, length-drop}
use lib.Seq.{length-take-le, take_all}
use Rattle.definition.specs.Call.{joint_at}
use Rattle.sorting.specs.Places.{key_at}
use Rattle.lost_joints.specs.Promise.{stands_in, Searchable, Names}
use Rattle.lost_joints.proofs.lost_in.Goals as goal

-- the part up to the end is all of the rest
rest : (w : List ℕ) (at : ℕ) → take (length w - at) (drop at w) ≡ drop at w
rest w at = take_all (length w - at) (drop at w) (omega (arith, length-drop at w))

pub slice_bounds-first_lost-end : goal.slice_bounds-first_lost-end
slice_bounds-first_lost-end c = sym (length-take-le _ _ c.requires.1)

pub first_lost-requires : goal.first_lost-requires
first_lost-requires c =
    let w = c.args.w.now in
    subst (λ v. Searchable (take c.args.at w) c.args.g v c.args.m c.args.joints.now c.args.n) (sym (rest w c.args.at)) c.requires.0

pub returns : goal.returns
returns c =
    let w = c.args.w.now in
    subst (λ v. Names (λ i. stands_in (key_at (take c.args.at w)) c.args.g (key_at v) c.args.m (joint_at c.args.joints.now i)) c.args.n c.first_lost.result) (rest w c.args.at) c.first_lost.ensures
