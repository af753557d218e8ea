-- A triangle turned over has the corners of the triangle, each with its two sides exchanged, and their cosines.
-- The clause on thin triangles asks the same of the leftover triangles as they are handed in
-- and of them turned upright.
use Rattle.laws.specs.Kit.{refl, sym, ap, ap₂, subst, inl, inr, Bool, true, false, not, ℕ, leb, ℤ, List, Float}
use Rattle.std.proofs.Common.{mul_comm}
use Rattle.std.specs.Prelude.{◌+ℤ◌, ◌≡◌, ◌&&◌, ◌||◌, ◌*◌, ◌^◌}
use Rattle.std.proofs.Math.IntN.{*ℤ_comm}
use Rattle.definition.specs.Lists.{all}
use Rattle.definition.specs.Floats.{◌≺◌, 1·0}
use Rattle.definition.specs.Plane.{Node, point}
use Rattle.definition.specs.Metrics.{corner_of}
use Rattle.definition.specs.Cells.{Tri, new_tri}
use Rattle.definition.specs.Exact.{Arrow, exact_dot, squared, squared_length, next_side, last_side}
use Rattle.laws.specs.Bools.{which}
use Rattle.accept.specs.Accept.{Judged, tri_corners, BluntAt, Blunt, turn, above, cosine_at_most, cosine_up_to, is_blunt, over, upright, uprights, verdict}
use Rattle.accept.proofs.Firsts.{NamesFirst}
use Rattle.accept.proofs.Bare.{failing_map}
use Rattle.accept.proofs.Theorems.{thin_means}

-- ---- a corner
dot_swap : (u v : Arrow) → exact_dot u v ≡ exact_dot v u
unfolding exact_dot
dot_swap u v = ap₂ (λ a b. a +ℤ b) (*ℤ_comm u.ax v.ax) (*ℤ_comm u.ay v.ay)

-- the cosine against a fraction, of the corner's sides in either order
mirror : (n d : ℕ) (a b c : Node) → cosine_at_most n d (corner_of a b c) ≡ cosine_at_most n d (corner_of c b a)
unfolding cosine_at_most next_side last_side corner_of
mirror n d a b c =
    let k = corner_of a b c in
    ap₂ (λ (z : ℤ) (l : ℕ). not (above z) || leb (d ^ 2 * squared z) (n ^ 2 * l)) (dot_swap (next_side k) (last_side k)) (mul_comm (squared_length (next_side k)) (squared_length (last_side k)))

up_to_mirror : (t : Float) (a b c : Node) → cosine_up_to t (corner_of a b c) ≡ cosine_up_to t (corner_of c b a)
unfolding cosine_up_to
up_to_mirror t a b c = mirror _ _ a b c

-- ---- a triangle
exchanged : (a b c : Bool) → (a && (b && (c && true))) ≡ (a && (c && (b && true)))
exchanged false b c = refl
exchanged true false false = refl
exchanged true false true = refl
exchanged true true false = refl
exchanged true true true = refl

over_corners : (t : Float) (ps : List Node) (r : Tri) → all (cosine_up_to t) (tri_corners ps (over r)) ≡ all (cosine_up_to t) (tri_corners ps r)
unfolding tri_corners all new_tri
over_corners t ps r =
    let a = point ps r.n0 in
    let b = point ps r.n1 in
    let c = point ps r.n2 in
    let p = cosine_up_to t in
    rw (up_to_mirror t b a c, up_to_mirror t a c b, up_to_mirror t c b a) (exchanged (p (corner_of c a b)) (p (corner_of b c a)) (p (corner_of a b c)))

upright_corners : (t : Float) (ps : List Node) (r : Tri) → all (cosine_up_to t) (tri_corners ps (upright ps r)) ≡ all (cosine_up_to t) (tri_corners ps r)
unfolding upright
upright_corners t ps r = elim (which (above (turn ps r))) [ inl e ↦ rw e refl | inr e ↦ rw e (over_corners t ps r) ]

-- ---- the clause
-- the verdict of the triangles turned upright names the triangle that it names of them as they are
pub same_thin : (j : Judged) → (verdict (uprights j)).thin ≡ (verdict j).thin
unfolding verdict is_blunt
same_thin j = failing_map (upright j.points) (is_blunt (uprights j)) (is_blunt j) (λ t. ap (λ b. not (j.thin ≺ 1·0) || b) (upright_corners j.thin j.points t)) 0 j.left

-- The test of the triangles turned upright means the clause of them as they are, both ways,
-- and names the first that offends.
pub thin_means_handed : (j : Judged) → NamesFirst (BluntAt j) j.left (verdict (uprights j)).thin
thin_means_handed j = subst (NamesFirst (BluntAt j) j.left) (sym (same_thin j)) (thin_means j)

pub as_handed : (j : Judged) → Blunt (uprights j) → Blunt j
as_handed j h = (thin_means_handed j).none_holds ((thin_means (uprights j)).holds_none h)

pub as_upright : (j : Judged) → Blunt j → Blunt (uprights j)
as_upright j h = (thin_means (uprights j)).none_holds ((thin_means_handed j).holds_none h)
