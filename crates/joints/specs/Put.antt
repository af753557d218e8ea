-- What the making of the table gives.
use Rattle.std.specs.Prelude.{◌≡◌, ◌+◌, ◌*◌, ◌<◌, ◌≤◌}
use Rattle.laws.specs.Kit.{ℕ, List, length, get_or}
use Rattle.definition.specs.Plane.{Edge}
use Rattle.joints.specs.Table.{edge_in, Marked}

-- the table has joint i as e, and both marks; the joints before it, their number and all other marks stay
pub record Put (j j' : List ℕ) (i : ℕ) (e : Edge) : Type 0 where
  pub len : length j' ≡ length j
  pub is : edge_in j' i ≡ e
  pub marked : Marked j' e
  pub marks : (k : ℕ) → k < 1024 → (get_or j k 0 ≡ 0 → ⊥) → get_or j' k 0 ≡ 0 → ⊥
  pub same : (k : ℕ) → 1024 ≤ k → k < 1025 + 2 * i → get_or j' k 0 ≡ get_or j k 0
