-- What the loops' edges and places say of their parts.
use Rattle.std.specs.Prelude.{◌+◌, ◌≤◌, ◌∷◌, ◌++◌}
use Rattle.laws.specs.Kit.{ℕ, suc, arith, List, [], length}
use Rattle.definition.specs.Plane.{Edge}
use Rattle.definition.specs.Lists.{concat}
use Rattle.laws.specs.Lists.{concat_length}
use Rattle.edges.specs.Stored.{Edges, LoopsAt}

pub edges_right : (n : ℕ) (k l : List Edge) → Edges n (k ++ l) → Edges n l
edges_right n [] l h = h
edges_right n (x ∷ k) l h = edges_right n k l h.3

-- there are no more loops than edges
pub loops_few : (w : List ℕ) (s p j b : ℕ) (ls : List (List Edge)) → LoopsAt w s p j b ls → length ls ≤ length (concat ls)
loops_few w s p j b [] h = omega arith
loops_few w s p j b (y ∷ ls) h = let n = concat_length y ls in let r = loops_few w s p (suc j) (b + length y) ls h.3 in omega (arith, h.2)
