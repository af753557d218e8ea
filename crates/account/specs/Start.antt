-- The mesh that a run starts from is valid.
use Rattle.std.specs.Prelude.{◌≡◌, ◌+◌, ◌<◌, ◌≤◌, ◌∷◌}
use Rattle.laws.specs.Kit.{refl, sym, ◌∙◌, ap, subst, inl, inr, Bool, ℕ, suc, arith, List, [], length}
use Rattle.definition.specs.Lists.{flat_map}
use Rattle.definition.specs.Numbers.{Settings}
use Rattle.definition.specs.Plane.{Edge, Node}
use Rattle.definition.specs.Cells.{Tri, tri, Live, new_live, tri_of, tris_of}
use Rattle.definition.specs.Front.{in_slots, new_mesh, start}
use Rattle.laws.specs.Lists.{In}
use Rattle.account.specs.Valid.{Slots, GoodTri, Valid}

-- every triangle has three different nodes of the points
abbrev pub Proper : List Node → List Tri → Type 0
Proper ps ts = (t : Tri) → In t ts → GoodTri (length ps) t
