-- The sides of a quad.
use Rattle.std.specs.Prelude.{◌≡◌, ◌||◌}
use Rattle.laws.specs.Kit.{sym, ◌∙◌, Bool, true, false, ℕ}
use Rattle.definition.specs.Cells.{key, new_quad, quad_edges, has_edge_in, has_side}
use Rattle.cells.proofs.Edges.{joins, quad_side}

-- four tests, one after the other
any4 : ℕ → ℕ → ℕ → ℕ → ℕ → ℕ → Bool
any4 u v a b c d = joins u v a b || (joins u v b c || (joins u v c d || joins u v d a))

sides_are : (u v a b c d : ℕ) → has_edge_in (quad_edges (new_quad a b c d)) (key u v) ≡ any4 u v a b c d
unfolding has_side new_quad any4
sides_are u v a b c d = quad_side (new_quad a b c d) u v

module _ (u v a b c d : ℕ) (x : Bool) (e : x ≡ joins u v a b) where
  pub side_0 : x ≡ true → true ≡ has_edge_in (quad_edges (new_quad a b c d)) (key u v)
  unfolding any4
  side_0 t = rw (sides_are u v a b c d, sym e ∙ t)

  module _ (n : x ≡ false) (y : Bool) (f : y ≡ joins u v b c) where
    pub side_1 : y ≡ true → true ≡ has_edge_in (quad_edges (new_quad a b c d)) (key u v)
    unfolding any4
    side_1 t = rw (sides_are u v a b c d, sym e ∙ n, sym f ∙ t)

    module _ (k : y ≡ false) (z : Bool) (g : z ≡ joins u v c d) where
      pub side_2 : z ≡ true → true ≡ has_edge_in (quad_edges (new_quad a b c d)) (key u v)
      unfolding any4
      side_2 t = rw (sides_are u v a b c d, sym e ∙ n, sym f ∙ k, sym g ∙ t)

      pub side_3 : z ≡ false → (r : Bool) → r ≡ joins u v d a → r ≡ has_edge_in (quad_edges (new_quad a b c d)) (key u v)
      unfolding any4
      side_3 t r h = rw (sides_are u v a b c d, sym e ∙ n, sym f ∙ k, sym g ∙ t) h
