-- The order by length does not change when points are added behind.
use Rattle.std.specs.Prelude.{◌≡◌, ◌∷◌, ◌++◌}
use Rattle.laws.specs.Kit.{refl, ap, ℕ, arith, List, [], map, length}
use Rattle.definition.specs.Account.{All}
use Rattle.definition.specs.Plane.{Node, Edge, edge_length}
use Rattle.definition.specs.Loops.{Ranked, ranked_edge, in_order, by_length}
use Rattle.definition.specs.Lists.{concat}
use Rattle.laws.specs.Cells.{point_stays}
use Rattle.edges.specs.Stored.{Edges}
use Rattle.edges.specs.Places.{Known}

-- an edge's length
pub length_behind : (ps more : List Node) (e : Edge) → Known (length ps) e → edge_length (ps ++ more) e ≡ edge_length ps e
unfolding edge_length
length_behind ps more e h = rw (point_stays ps more e.1 h.second, point_stays ps more e.0 h.first)

ranked_behind : (ps more : List Node) (es : List Edge) → All (Known (length ps)) es → map (ranked_edge (ps ++ more)) es ≡ map (ranked_edge ps) es
unfolding ranked_edge
ranked_behind ps more [] h = refl
ranked_behind ps more (e ∷ es) h = rw (length_behind ps more e h.0, ranked_behind ps more es h.1)

-- edges by length, with points added behind
pub by_length_behind : (ps more : List Node) (es : List Edge) → All (Known (length ps)) es → by_length (ps ++ more) es ≡ by_length ps es
unfolding by_length
by_length_behind ps more es h = ap (λ (l : List Ranked). concat (in_order l)) (ranked_behind ps more es h)

-- edges of the front are such
pub edges_known : (n : ℕ) (es : List Edge) → Edges n es → All (Known n) es
edges_known n [] h = tt
edges_known n (e ∷ es) h = (record { first = omega arith; second = h.1 }, edges_known n es h.3)
