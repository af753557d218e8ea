-- The mesh of a replay as it is stored: a quad that has a node twice is not among its cells.
use Rattle.std.specs.Prelude.{◌&&◌}
use Rattle.laws.specs.Kit.{Bool, true, not, eqb}
use Rattle.definition.specs.Lists.{filter}
use Rattle.definition.specs.Cells.{Quad, Cell, tri, quad, Live, Mesh, with_live}

-- the quad's four nodes differ
unfoldable pub four : Quad → Bool
four q =
    not (eqb q.n0 q.n1) && not (eqb q.n0 q.n2) && not (eqb q.n0 q.n3) && not (eqb q.n1 q.n2) && not (eqb q.n1 q.n3) && not (eqb q.n2 q.n3)

-- a cell that is stored
unfoldable pub plain : Cell → Bool
plain (tri t) = true
plain (quad q) = four q

-- a live cell that is
unfoldable pub kept : Live → Bool
kept x = plain x.cell

-- the mesh with those alone
unfoldable pub stored : Mesh → Mesh
stored m = with_live m m.used (filter kept m.live)
