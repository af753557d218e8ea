-- A limit is passed: that on attempts, or that on live triangles.
use mathlib.Core.Path.{◌≡◌, refl}
use mathlib.Core.Bool.{true, ◌||◌}
use Prim.Native.Nat.{ℕ, ◌+◌, ◌*◌, ◌<◌, ◌≤◌}
use lib.Dec.{ltb}
use borrow.Author.Tests.{lt-ltb, le-ltb}
use Rattle.definition.specs.Numbers.{max_triangles}

pub past_first : (most given tries live : ℕ) → most < tries → true ≡ (ltb most tries || ltb (max_triangles given) live)
past_first most given tries live h = rw (lt-ltb most tries h) refl

pub past_second : (most given tries live : ℕ) → tries ≤ most → ltb (4 * given + 100) live ≡ (ltb most tries || ltb (max_triangles given) live)
unfolding max_triangles
past_second most given tries live h = rw (le-ltb most tries h) refl
