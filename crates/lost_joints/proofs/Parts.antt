-- Words in two parts, each lent and back: the first `at` words, and the rest.
use mathlib.Core.Path.{◌≡◌, sym, ap, ◌∙◌, subst, subst₂}
use mathlib.Core.List.{List, ◌++◌, append-nil}
use Prim.Native.Nat.{ℕ, ◌+◌, ◌*◌, ◌-◌, ◌≤◌}
use native.Mathlib.Omega.{arith}
use lib.ListN.{length, take, drop, length-take, length-append}
use lib.Seq.{length-take-le, take_at, drop_at, drop-length}
use borrow.Rule.Slice.PartMut.{put_mid, post_of, take_put, Post-is}
use Rattle.definition.specs.Plane.{Edge}
use Rattle.definition.specs.Call.{joint_at}
use Rattle.sorting.specs.Places.{key_at}
use Rattle.balance.specs.Places.{Small}
use Rattle.std.specs.Prelude.{Option}
use Rattle.lost_joints.specs.Filed.{Filed}
use Rattle.lost_joints.specs.Promise.{stands_in, Searchable, Names}

-- no quads
pub alone : (es : List Edge) (n : ℕ) (w : List ℕ) → Filed es (4 * 0 + 3 * n) w → Filed es (3 * n) w
alone es n w h = let e : 4 * 0 + 3 * n ≡ 3 * n = omega arith in subst (λ z. Filed es z w) e h

module _ (w first new : List ℕ) (at : ℕ) (h : at ≤ length w) (l : length first ≡ length (take at w)) where
  abbrev lent : List ℕ
  lent = first ++ drop at w

  abbrev pub whole : List ℕ
  whole = put_mid at (length lent - at) lent new

  first_long : length first ≡ at
  first_long = l ∙ length-take-le at w h

  long : at ≤ length lent
  long = omega (arith, first_long, length-append first (drop at w))

  front : take at whole ≡ first
  front = take_put at (length lent - at) lent new long ∙ take_at first (drop at w) at first_long

  back : drop at whole ≡ new
  back =
      drop_at (take at lent) (new ++ post_of at (length lent - at) lent) at (length-take-le at lent long)
      ∙ ap (λ z. new ++ z) (Post-is at (length lent) lent long ∙ drop-length lent) ∙ append-nil new

  pub searchable : (es fs : List Edge) (g m : ℕ) (joints : List ℕ) (n : ℕ) → Filed es g first → Filed fs m new → 2 * n ≤ length joints → Small joints (2 * n)
      → Searchable (take at whole) g (drop at whole) m joints n × (at ≤ length whole)
  searchable es fs g m joints n one two s k = (
    subst₂ (λ a b. Searchable a g b m joints n) (sym front) (sym back) (record { given_in = one.ordered; result_in = two.ordered; sized = s; nodes = k }),
    omega (arith, ap length front, first_long, length-take at whole),
  )

  pub in_parts : (g m : ℕ) (joints : List ℕ) (n : ℕ) (r : Option ℕ)
      → Names (λ i. stands_in (key_at (take at whole)) g (key_at (drop at whole)) m (joint_at joints i)) n r
      → Names (λ i. stands_in (key_at first) g (key_at new) m (joint_at joints i)) n r
  in_parts g m joints n r = subst₂ (λ a b. Names (λ i. stands_in (key_at a) g (key_at b) m (joint_at joints i)) n r) front back
