-- Triangles as numbers in places of two words, and what the functions that fill and sort places promise.
use Rattle.std.specs.Prelude.{◌≡◌, ◌+◌, ◌*◌, ◌<◌, ◌≤◌}
use Rattle.laws.specs.Kit.{ℕ, List, map, length, get_or}
use Rattle.definition.specs.Cells.{Tri}
use Rattle.definition.specs.Call.{first_tris}
use Rattle.sorting.specs.Places.{key_at, keys}
use Rattle.filing.specs.Filing.{rotated, filed_tris}

-- a triangle of nodes below 4096 as a number: 12 binary digits a node
unfoldable pub key : Tri → ℕ
key t = (t.n0 * 4096 + t.n1) * 4096 + t.n2

-- triangles whose nodes are below 4096
abbrev pub Small : List ℕ → ℕ → Type 0
Small ts n = (i : ℕ) → i < 3 * n → get_or ts i 0 < 4096

-- ---- promises, of the work at entry and at exit
-- n triangles that fit the places of the work, their nodes below 4096
pub record Fileable (ts w : List ℕ) (n : ℕ) : Type 0 where
  pub triangles : 3 * n ≤ length ts
  pub work : 4 * n ≤ length w
  pub nodes : Small ts n

-- the first n places have the numbers of the first n triangles, each from its smallest node on
pub record Filled (ts w w' : List ℕ) (n : ℕ) : Type 0 where
  pub size : length w' ≡ length w
  pub there : keys w' 0 n ≡ map key (map rotated (first_tris n ts))
  pub small : (i : ℕ) → i < n → key_at w' i < 68719476736

-- the first n places have the numbers of the first n triangles as they are filed
pub record FiledPlaces (ts w w' : List ℕ) (n : ℕ) : Type 0 where
  pub size : length w' ≡ length w
  pub there : keys w' 0 n ≡ map key (filed_tris (first_tris n ts))
