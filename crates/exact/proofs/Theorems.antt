-- What the definition's float tests mean in exact arithmetic.
use Rattle.laws.specs.Kit.{refl, sym, ap₂, subst, Bool, true, false, ℕ, zero, suc, pos, List, [], length, Float, binary64, fin, fits, eq}
use Rattle.std.specs.Prelude.{◌*ℤ◌, ◌≡◌, ◌&&◌, ◌+◌, ◌^◌, ◌≤◌, ◌∷◌}
use Rattle.definition.specs.Floats.{◌⊗◌, ◌≼◌, finite, 0·0, 0·5, 0·99, 1·0}
use Rattle.definition.specs.Floats as floats
use Rattle.definition.specs.Numbers.{Quality, Settings, base, insert_shares, tiny_length}
use Rattle.definition.specs.Plane.{Node, Edge, flat, point, cross, side, from_to, norm, dist, edge_length, size_mismatch, point_strictly_inside, segments_cross}
use Rattle.definition.specs.Plane as plane
use Rattle.definition.specs.Metrics.{Corner, corners, quad_metrics, passes, score}
use Rattle.definition.specs.Loops.{loop_perimeter, ranked_before}
use Rattle.definition.specs.Trials.{trial_before}
use Rattle.definition.specs.Cells.{Tri, Quad, tri, Live, Mesh, node_at, tris_of}
use Rattle.definition.specs.Flips.{apart}
use Rattle.definition.specs.Region.{region_area, area_agrees}
use Rattle.definition.specs.Insertion.{along, holds}
use Rattle.definition.specs.Attempt.{inward_normal, target_of}
use Rattle.definition.specs.Exact.{units, arrow, exact_cross, TurnsLeft, CosineUpTo, WideEnough, twice_tri, Finite}
use Rattle.definition.specs.Account.{All, ◌∈◌, quad_area, tris_area}
use Rattle.definition.specs.Call.{Asked, outside, bad_size, ranges, good_quality, grid_node}
use Rattle.laws.specs.Bools.{both}
use Rattle.exact.specs.Values.{Ok}
use Rattle.exact.specs.Sums.{Number}
use Rattle.exact.specs.Limits.{Limit}
use Rattle.exact.proofs.Limits.{limit_below, limit_range, up_to, base_limit, base_wide}
use Rattle.exact.proofs.Points.{within_8}
use Rattle.exact.proofs.Passing.{four_corners}
use Rattle.exact.proofs.Strict.{not_outside, strictly_inside}
use Rattle.exact.specs.Inserted.{Size}
use Rattle.exact.proofs.Inserted.{size_asked, share_small, tried}
use Rattle.exact.proofs.Finite.{within_point, length_ok, perimeter_ok, sides_ok, score_ok}
use Rattle.exact.specs.Ranks.{Total, FiniteRank, SameLead, FiniteScore, SameNodes}
use Rattle.exact.proofs.Ranks.{ranked_order, trial_order}
use Rattle.exact.specs.Grid.{GridPoint}
use Rattle.exact.proofs.Grid.{grid_node_says, zero_on, cross_exact}
use Rattle.exact.specs.GridTest.{is_whole_part}
use Rattle.exact.proofs.GridTest.{tested_so}
use Rattle.exact.specs.Sides.{SameAs}
use Rattle.exact.specs.Areas.{Placed}
use Rattle.exact.proofs.Diagonals.{flip_areas}
use Rattle.exact.proofs.Agrees.{region_exact, quad_exact, agrees_exactly}
use Rattle.exact.proofs.Unsized.{never_off, target_itself, zero_unsized}
use Rattle.exact.specs.Crossing.{StrictlyIn, TwoSides}
use Rattle.exact.proofs.Crossing.{inside_exactly, crossing_exactly}
use Rattle.exact.specs.Theorems.{FiniteDouble, Within}

all_map : {A : Type 0} (P Q : A → Type 0) → ((x : A) → P x → Q x) → (xs : List A) → All P xs → All Q xs
all_map P Q f [] u = tt
all_map P Q f (x ∷ xs) (p, ps) = (f x p, all_map P Q f xs ps)

-- ---- quads
-- A quad whose metrics pass turns left at its four nodes, so it is exactly convex and counterclockwise,
-- and the exact cosine of each of its corners is at most the limit plus 1e-9.
-- The limit is a double from 0 on, below 1 (`limit_range`: as those from 0.5 to 0.99 are).
pub passing_quad : (y : Quality) → Limit y.largest_cosine
    → (a b c d : Node) → Within a → Within b → Within c → Within d
    → passes y (quad_metrics a b c d) ≡ true
    → All TurnsLeft (corners a b c d) × All (CosineUpTo y.largest_cosine) (corners a b c d)
passing_quad y limit a b c d A B C D h =
    let l = limit_below y.largest_cosine limit in
    let p = four_corners y l a b c d (within_8 a A) (within_8 b B) (within_8 c C) (within_8 d D) h in
    (p.0, all_map _ (CosineUpTo y.largest_cosine) (λ k q. up_to y.largest_cosine k l q) (corners a b c d) p.1)

-- The largest cosine of a set that is in its ranges is such a limit, where it is a double.
pub permitted_limit : (y : Quality) → good_quality y ≡ true → fits binary64 y.largest_cosine ≡ true → Limit y.largest_cosine
unfolding good_quality ranges
permitted_limit y h f =
    let t = y.largest_cosine in
    let c = both (0·5 ≼ t) (t ≼ 0·99) (second (ranges 0·0 1·0 y.least_jacobian) (ranges 0·5 0·99 t) _ _ _ _ _ h) in
    limit_range t f c.0 c.1
  where
    second : (a b c d e f g : Bool) → (a && b && c && d && e && f && g) ≡ true → b ≡ true
    second a true c d e f g h = refl
    second true false c d e f g h = h
    second false false c d e f g h = h

-- With the cosine of the standard set no corner is under 24.99 degrees.
pub wide : (t : Float) → t ≡ base.largest_cosine → (k : Corner) → CosineUpTo t k → WideEnough k
unfolding base
wide t e k c = base_wide k (subst (λ z. CosineUpTo z k) e c)

-- A quad that passes the standard set is convex and counterclockwise, with no corner under 24.99 degrees.
pub passing : (a b c d : Node) → Within a → Within b → Within c → Within d
    → passes base (quad_metrics a b c d) ≡ true
    → All TurnsLeft (corners a b c d) × All WideEnough (corners a b c d)
unfolding base
passing a b c d A B C D h =
    let p = passing_quad base base_limit a b c d A B C D h in
    (p.0, all_map _ WideEnough (wide _ refl) (corners a b c d) p.1)

-- ---- insertion
-- The point that an insertion tries lies from o, an end of the edge a b (or any point within 8),
-- by a share of the target along the edge's inward normal; the target is the size,
-- or the edge's length where there is none.
-- Where a triangle t u v within 8 holds the point strictly inside by the float test, the point is within 8.
pub inside : (s : Settings) (asked : Asked) → s.size ≡ asked.size → bad_size asked ≡ false
    → (a b o t u v : Node) → Within a → Within b → Within o → Within t → Within u → Within v
    → (share : Float) → share ∈ insert_shares
    → (norm (from_to a b) ≼ tiny_length) ≡ false
    → (p : Node) → p ≡ along o (inward_normal (from_to a b) (norm (from_to a b))) (target_of s (dist b a)) share
    → point_strictly_inside t u v p ≡ true
    → Within p
unfolding dist
inside s asked same size a b o t u v wa wb wo wt wu wv share m far p e h =
    let q = along o (inward_normal (from_to a b) (norm (from_to a b))) (target_of s (norm (from_to a b))) share in
    let r = tried s (subst (Size 8) (sym same) (size_asked asked size)) a b (within_8 a wa) (within_8 b wb) far o share (within_8 o wo) (share_small share m) in
    let i = strictly_inside t u v q (within_8 t wt) (within_8 u wu) (within_8 v wv) r.1 (rw e at h) in
    rw e (not_outside q r.0 i.0 i.1)

-- In a mesh m whose points are within 8, a triangle that holds the point tried:
-- the edge a b was measured in an earlier mesh n, within 8 too.
pub held_within : (s : Settings) (asked : Asked) → s.size ≡ asked.size → bad_size asked ≡ false
    → (n m : Mesh) → All Within n.points → All Within m.points
    → (a b o : ℕ) (t : Tri) (share : Float) → share ∈ insert_shares
    → (norm (from_to (node_at n a) (node_at n b)) ≼ tiny_length) ≡ false
    → (p : Node)
    → p ≡ along (node_at m o) (inward_normal (from_to (node_at n a) (node_at n b)) (norm (from_to (node_at n a) (node_at n b)))) (target_of s (edge_length n.points (a, b))) share
    → holds m p (tri t) ≡ true
    → Within p
unfolding holds node_at edge_length
held_within s asked same size n m hn hm a b o t share k far p e h =
    inside s asked same size (node_at n a) (node_at n b) (node_at m o) (node_at m t.n0) (node_at m t.n1) (node_at m t.n2) (within_point n.points a hn) (within_point n.points b hn) (within_point m.points o hm)
    (within_point m.points t.n0 hm) (within_point m.points t.n1 hm) (within_point m.points t.n2 hm) share k far p e h

-- A point within 8 is finite.
pub within_finite : (p : Node) → Within p → Finite p
unfolding finite
within_finite p h = let a = within_8 p h in both p.x p.y a.0.0 a.1.0
  where
    both : (x y : Float) → Number x → Number y → (finite x && finite y) ≡ true
    both (fin s m e) (lib.Ieee.inf _) u v = elim v [ ]
    both (fin s m e) lib.Ieee.nan u v = elim v [ ]
    both (lib.Ieee.inf _) y u v = elim u [ ]
    both lib.Ieee.nan y u v = elim u [ ]
    both (fin s m e) (fin t n d) u v = refl

-- ---- finite numbers
-- The length of an edge of points within 8 is a finite double.
pub length_finite : (ps : List Node) (e : Edge) → All Within ps → FiniteDouble (edge_length ps e)
length_finite ps e h = (length_ok ps e h).0

-- The perimeter of a loop of up to 65,536 edges is a finite double (a run has at most three a slot, 49,152).
pub perimeter_finite : (ps : List Node) (es : List Edge) → All Within ps → length es ≤ 65536 → FiniteDouble (loop_perimeter ps es)
perimeter_finite ps es h l = perimeter_ok ps es h l

-- A product of two cross products that is compared with 0 is a finite double:
-- neither a NaN nor an infinity stands in a test for crossing segments or for a flip.
pub product_finite : (p q r s : Node) → Within p → Within q → Within r → Within s → FiniteDouble (side p q r ⊗ side p q s)
product_finite p q r s hp hq hr hs = sides_ok p q r s (within_8 p hp) (within_8 q hq) (within_8 r hr) (within_8 s hs)

-- The score of a quad that passes is a finite double, whatever its points.
pub score_finite : (y : Quality) (a b c d : Node) → passes y (quad_metrics a b c d) ≡ true → FiniteDouble (score (quad_metrics a b c d))
score_finite y a b c d h = score_ok y a b c d h

-- On records of finite doubles the orders by which a run takes its least are strict total orders: of loops and edges,
-- by rank and then the leading edge,
pub ranked_total : Total FiniteRank SameLead ranked_before
ranked_total = ranked_order

-- and of trials, the greater score first, then by node numbers.
pub trial_total : Total FiniteScore SameNodes trial_before
trial_total = trial_order

-- ---- the grid of 1 / 1024
-- On points within 8 whose coordinates are whole multiples of 1 / 1024,
-- the float cross product has no rounding error: its units, times 2 ^ 1074, are the exact one.
pub grid_cross : (a b c : Node) → Within a → Within b → Within c → GridPoint a → GridPoint b → GridPoint c
    → exact_cross (arrow a b) (arrow a c) ≡ units (cross a b c) *ℤ pos (2 ^ 1074)
grid_cross a b c wa wb wc ga gb gc = cross_exact a b c (within_8 a wa) (within_8 b wb) (within_8 c wc) ga gb gc

-- On the same points the strict-inside test says exactly that p lies strictly on one side of all three sides,
pub grid_inside : (a b c p : Node) → Within a → Within b → Within c → Within p → GridPoint a → GridPoint b → GridPoint c → GridPoint p
    → SameAs (point_strictly_inside a b c p ≡ true) (StrictlyIn a b c p)
grid_inside a b c p wa wb wc wp = inside_exactly a b c p (within_8 a wa) (within_8 b wb) (within_8 c wc) (within_8 p wp)

-- and the test for crossing segments exactly that each has the ends of the other strictly on two sides.
pub grid_crossing : (p q r s : Node) → Within p → Within q → Within r → Within s → GridPoint p → GridPoint q → GridPoint r → GridPoint s
    → SameAs (segments_cross p q r s ≡ true) (TwoSides p q r s × TwoSides r s p q)
grid_crossing p q r s wp wq wr ws = crossing_exactly p q r s (within_8 p wp) (within_8 q wq) (within_8 r wr) (within_8 s ws)

-- Of a point of doubles within 8 the definition's test of the grid is what f64 operations find:
-- 1024 times each coordinate is its own floor.
pub grid_tested : (p : Node) → FiniteDouble p.x → FiniteDouble p.y → Within p → (is_whole_part p.x && is_whole_part p.y) ≡ grid_node p
unfolding grid_node
grid_tested p a b w = let k = within_8 p w in ap₂ (λ c d. c && d) (tested_so p.x a k.0.1) (tested_so p.y b k.1.1)

-- A point that passes it is on the grid.
pub grid_passed : (p : Node) → grid_node p ≡ true → GridPoint p
grid_passed p h = grid_node_says p h

-- ---- areas on the grid: exact, doubled and without sign, in units of 2 ^ -2148
placed : (p : Node) → Within p → GridPoint p → Placed p
placed p w g = record { at = within_8 p w; on = g }

-- Every node of a mesh whose points are within 8 and on the grid is; a number beyond the list reads as the origin.
pub nodes_placed : (ps : List Node) → All Within ps → All GridPoint ps → (v : ℕ) → Placed (point ps v)
unfolding point flat
nodes_placed ps h k v = placed (point ps v) (within_point ps v h) (go ps v k)
  where
    go : (ps : List Node) (v : ℕ) → All GridPoint ps → GridPoint (point ps v)
    go [] v u = (zero_on, zero_on)
    go (p ∷ ps) zero (g, u) = g
    go (p ∷ ps) (suc v) (g, u) = go ps v u

-- The float sum of up to 2 ^ 20 triangles' areas has no rounding error: its units,
-- times 2 ^ 1075, are twice the exact sum.
pub grid_region : (m : Mesh) → All Within m.points → All GridPoint m.points → (cells : List Live) → length cells ≤ 2 ^ 20
    → pos (tris_area m.points (tris_of cells)) ≡ units (region_area m cells) *ℤ pos (2 ^ 1075)
unfolding node_at
grid_region m h k cells l = region_exact m (nodes_placed m.points h k) cells l

-- The float of the quad's area has no rounding error: its units, times 2 ^ 1075, are twice the exact area.
pub grid_quad_area : (m : Mesh) → All Within m.points → All GridPoint m.points → (q : Quad)
    → pos (quad_area m.points q) ≡ units (floats.abs (plane.quad_area (node_at m q.n0) (node_at m q.n1) (node_at m q.n2) (node_at m q.n3))) *ℤ pos (2 ^ 1075)
unfolding node_at
grid_quad_area m h k q = quad_exact m (nodes_placed m.points h k) q

-- Where the test of a region finds the areas in agreement they are equal.
-- Two that differ do so by 2 ^ -21, which is 1.8 times the slack, 1e-9 of at most 256.
pub grid_agrees : (m : Mesh) → All Within m.points → All GridPoint m.points
    → (q : Quad) (cells : List Live) → length cells ≤ 2 ^ 20 → area_agrees m q cells ≡ true → tris_area m.points (tris_of cells) ≡ quad_area m.points q
unfolding node_at
grid_agrees m h k q cells l e = agrees_exactly m (nodes_placed m.points h k) q cells l e

-- Where a flip's two tests pass, p and q lie on two sides of u v and u and v on two sides of p q:
-- the triangles on the one edge have together the area of those on the other, whatever their winding.
pub grid_flip : (m : Mesh) → All Within m.points → All GridPoint m.points → (u v p q : ℕ) → apart m u v p q ≡ true → apart m p q u v ≡ true
    → twice_tri (node_at m u) (node_at m v) (node_at m p) + twice_tri (node_at m u) (node_at m v) (node_at m q)
    ≡ twice_tri (node_at m p) (node_at m q) (node_at m u) + twice_tri (node_at m p) (node_at m q) (node_at m v)
unfolding apart node_at
grid_flip m h k u v p q a b = let g = nodes_placed m.points h k in flip_areas (point m.points u) (point m.points v) (point m.points p) (point m.points q) (g u) (g v) (g p) (g q) a b

-- ---- without a size
-- Without a size the target is the edge's own length,
-- and no length of points within 8 is off itself: nothing is inserted.
pub never_off_target : (s : Settings) → eq s.size 0·0 ≡ true → (ps : List Node) (e : Edge) → All Within ps → size_mismatch (edge_length ps e) (target_of s (edge_length ps e)) ≡ false
never_off_target s none ps e h = rw (target_itself s (zero_unsized s.size none) (edge_length ps e)) (never_off (edge_length ps e) (length_ok ps e h))
