-- The verdict reads of a quad its four nodes and nothing of its birth:
use Rattle.std.specs.Prelude.{◌≡◌, ◌||◌, ◌∷◌, ◌++◌}
use Rattle.laws.specs.Kit.{refl, ap, ap₂, Bool, not, cond, some, ℕ, suc, eqb, List, [], map}
use Rattle.definition.specs.Lists.{filter, first, sort, flat_map}
use Rattle.definition.specs.Cells.{Quad, new_quad, key, edge_before, has_edge_in, tri_edges, quad_edges}
use Rattle.definition.specs.Account.{quad_corners}
use Rattle.accept.specs.Accept.{Judged, tri_sides, quad_sides, given_sides, cell_sides, walked, times, reversed, failing, is_convex, is_wide, is_blunt, is_level, uneven, stands, verdict}
use Rattle.accept.specs.Bare.{bare, bared}

-- ---- lists
pub failing_map : {A B : Type 0} (f : A → B) (p : B → Bool) (q : A → Bool) → ((x : A) → p (f x) ≡ q x) → (i : ℕ) (xs : List A) → failing p i (map f xs) ≡ failing q i xs
unfolding failing
failing_map f p q h i [] = refl
failing_map f p q h i (x ∷ xs) = ap₂ (λ b r. cond b r (some i)) (h x) (failing_map f p q h (suc i) xs)

failing_same : {A : Type 0} (p q : A → Bool) → ((x : A) → p x ≡ q x) → (i : ℕ) (xs : List A) → failing p i xs ≡ failing q i xs
unfolding failing
failing_same p q h i [] = refl
failing_same p q h i (x ∷ xs) = ap₂ (λ b r. cond b r (some i)) (h x) (failing_same p q h (suc i) xs)

flat_bare : {B : Type 0} (f : Quad → List B) → ((q : Quad) → f (bare q) ≡ f q) → (qs : List Quad) → flat_map f (map bare qs) ≡ flat_map f qs
unfolding flat_map
flat_bare f h [] = refl
flat_bare f h (q ∷ qs) = ap₂ (λ l r. l ++ r) (h q) (flat_bare f h qs)

-- ---- the verdict
module _ (j : Judged) where
  same_walk : walked (bared j) ≡ walked j
  unfolding walked given_sides cell_sides quad_sides new_quad
  same_walk = ap (λ l. flat_map tri_sides j.tris ++ map reversed (l ++ flat_map tri_sides j.left)) (flat_bare quad_sides (λ q. refl) j.quads)

  same_uneven : uneven (bared j) ≡ uneven j
  unfolding uneven is_level
  same_uneven = ap (λ w. first (sort edge_before (filter (λ e. not (eqb (times e w) (times (reversed e) w))) (map (λ s. key s.0 s.1) w)))) same_walk

  same_folded : failing (is_convex (bared j)) 0 (map bare j.quads) ≡ failing (is_convex j) 0 j.quads
  unfolding is_convex quad_corners new_quad
  same_folded = failing_map bare (is_convex (bared j)) (is_convex j) (λ q. refl) 0 j.quads

  same_sharp : failing (is_wide (bared j)) 0 (map bare j.quads) ≡ failing (is_wide j) 0 j.quads
  unfolding is_wide quad_corners new_quad
  same_sharp = failing_map bare (is_wide (bared j)) (is_wide j) (λ q. refl) 0 j.quads

  same_lost : failing (stands (bared j)) 0 j.joints ≡ failing (stands j) 0 j.joints
  unfolding stands quad_edges new_quad
  same_lost = failing_same (stands (bared j)) (stands j) (λ e. ap (λ l. not (has_edge_in (flat_map tri_edges j.tris) e) || has_edge_in (l ++ flat_map tri_edges j.left) e) (flat_bare quad_edges (λ q. refl) j.quads)) 0 j.joints

  pub nodes_only : verdict (bared j) ≡ verdict j
  unfolding verdict is_blunt
  nodes_only = λ i.
      record {
        moved = (verdict j).moved;
        added = (verdict j).added;
        folded = same_folded i;
        sharp = same_sharp i;
        given_turned = (verdict j).given_turned;
        left_turned = (verdict j).left_turned;
        thin = (verdict j).thin;
        uneven = same_uneven i;
        lost = same_lost i;
        sizes = (verdict j).sizes;
        odd = (verdict j).odd;
      }
