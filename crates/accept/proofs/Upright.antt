-- Triangles wound either way: each is turned over where it runs clockwise,
use Rattle.std.specs.Prelude.{◌≡◌, ◌||◌, ◌+◌, ◌∷◌}
use Rattle.laws.specs.Kit.{refl, sym, ◌∙◌, ap, ap₂, subst, inl, inr, Bool, false, suc, arith, List, [], map, length}
use Rattle.definition.specs.Lists.{filter, all, flat_map}
use Rattle.definition.specs.Plane.{Node, Edge, point}
use Rattle.definition.specs.Cells.{Tri, new_tri, tri_edges}
use Rattle.definition.specs.Account.{All, ◌∈◌, sum, tri_area, tris_area, quads_area}
use Rattle.exact.proofs.Areas.{tri_turned, tri_swapped}
use Rattle.exact.specs.Near.{Whole, ◌⊕◌}
use Rattle.laws.specs.Bools.{which, fails, both, or-false}
use Rattle.laws.specs.Lists.{all_append, in_flat_map, flat_map_in, in_map, map_in}
use Rattle.laws.specs.Cells.{key_swap}
use Rattle.accept.specs.Accept.{Judged, tri_sides, quad_sides, given_sides, cell_sides, reversed, turn, above, Counterclockwise, Kept, Convex, Wide, Blunt, Stands, over, upright, uprights, Verdict, verdict}
use Rattle.accept.specs.Call.{Handed, judged, found, call}
use Rattle.accept.proofs.Balance.{split, all_flat, all_one}
use Rattle.accept.specs.Signs.{Up, Same, minus}
use Rattle.accept.proofs.Quadrangle as quadrangle
use Rattle.accept.specs.Places.{Place, toward, left, inside, OffSide, covering}
use Rattle.accept.proofs.Covered.{turned_left}
use Rattle.accept.specs.Crossings.{X, Y, laced}
use Rattle.accept.proofs.Crossings.{left_up, back, off, on_way}
use Rattle.accept.specs.Named.{Names, Named}
use Rattle.accept.specs.Moved.{Doubles}
use Rattle.accept.specs.Passed as passed
use Rattle.accept.proofs.Passed as passed_laws
use Rattle.accept.proofs.Thin.{as_handed}
use Rattle.accept.specs.Theorems.{Clean, Accepted}
use Rattle.accept.proofs.Theorems.{clean_says}
use Rattle.accept.specs.Upright.{AcceptedEither, within}

-- ---- turned over
-- what holds of a triangle whichever way it is walked holds of it turned upright
pub one_or_other : (P : Tri → Type 0) (ps : List Node) (t : Tri) → P t → P (over t) → P (upright ps t)
unfolding upright
one_or_other P ps t h k = elim (which (above (turn ps t))) [ inl e ↦ rw e h | inr e ↦ rw e k ]

-- ---- areas
over_area : (ps : List Node) (t : Tri) → tri_area ps (over t) ≡ tri_area ps t
unfolding tri_area new_tri
over_area ps t = tri_swapped (point ps t.n0) (point ps t.n2) (point ps t.n1) ∙ tri_turned (point ps t.n2) (point ps t.n0) (point ps t.n1)

pub upright_area : (ps : List Node) (ts : List Tri) → tris_area ps (map (upright ps) ts) ≡ tris_area ps ts
unfolding tris_area sum
upright_area ps [] = refl
upright_area ps (t ∷ ts) = ap₂ (λ m n. m + n) (one_or_other (λ u. tri_area ps u ≡ tri_area ps t) ps t refl (over_area ps t)) (upright_area ps ts)

module _ (s : Place) (ps : List Node) where
  -- a counterclockwise triangle has no place on the right of its sides
  not_over : (t : Tri) → Counterclockwise ps t → inside s ps (tri_sides (over t)) ≡ false
  unfolding inside tri_sides all new_tri turn
  not_over t h = fails (inside s ps (tri_sides (over t))) (λ e.
      let A = toward s (point ps t.n0) in
      let B = toward s (point ps t.n1) in
      let C = toward s (point ps t.n2) in
      let f = both (left A C) _ e in
      let g = both (left C B) _ f.1 in
      let k = both (left B A) _ g.1 in
      clash (laced A B) (laced B C) (laced C A) (laced A C) (laced C B) (laced B A) (back _ _ _ _) (back _ _ _ _) (back _ _ _ _)
      (left_up A C f.0) (left_up C B g.0) (left_up B A k.0) (turned_left s (point ps t.n0) (point ps t.n1) (point ps t.n2) h))
    where
      clash : (p q r r' q' p' : Whole) → Same p' (minus p) → Same q' (minus q) → Same r' (minus r) → Up r' → Up q' → Up p' → Up (p ⊕ q ⊕ r) → ⊥
      clash p q r r' q' p' e f g h k l m = omega arith

  upright_within : (t : Tri) → Counterclockwise ps (upright ps t) → inside s ps (tri_sides (upright ps t)) ≡ within s ps t
  unfolding upright within new_tri
  upright_within t h = elim (which (above (turn ps t))) [
    | inl e ↦ rw (e, upright) (rw (not_over t (rw (e, upright) at h)) (or-false (inside s ps (tri_sides t))))
    | inr e ↦ rw (e, upright) (rw (not_over (over t) (rw (e, upright) at h)) refl)
  ]

  pub upright_covering : (ts : List Tri) → All (Counterclockwise ps) (map (upright ps) ts) → covering s ps tri_sides (map (upright ps) ts) ≡ length (filter (within s ps) ts)
  unfolding covering filter
  upright_covering [] h = refl
  upright_covering (t ∷ ts) h = elim (which (within s ps t)) [
    | inl e ↦ rw (upright_within t h.0 ∙ e, e) (ap suc (upright_covering ts h.1))
    | inr e ↦ rw (upright_within t h.0 ∙ e, e) (upright_covering ts h.1)
  ]

  -- a place off a side is off it walked the other way
  off_back : (e : Edge) → OffSide s ps e → OffSide s ps (reversed e)
  off_back e h =
      let u = toward s (point ps e.0) in
      let v = toward s (point ps e.1) in
      on_way v u (quadrangle.off_back (X u) (Y u) (X v) (Y v) (off u v h))

  pub off_upright : (ts : List Tri) → All (λ t. All (OffSide s ps) (tri_sides t)) ts → All (λ t. All (OffSide s ps) (tri_sides t)) (map (upright ps) ts)
  unfolding tri_sides new_tri
  off_upright [] h = tt
  off_upright (t ∷ ts) h =
      let o = h.0 in
      (one_or_other (λ u. All (OffSide s ps) (tri_sides u)) ps t o (off_back (t.n2, t.n0) o.1.1.0, (off_back (t.n1, t.n2) o.1.0, (off_back (t.n0, t.n1) o.0, tt))), off_upright ts h.1)

-- ---- joints
edges_there : (ps : List Node) (e : Edge) (t : Tri) → e ∈ tri_edges t → e ∈ tri_edges (upright ps t)
unfolding tri_edges new_tri
edges_there ps e t i = one_or_other (λ u. e ∈ tri_edges u) ps t i (turned i)
  where
    turned : e ∈ tri_edges t → e ∈ tri_edges (over t)
    turned (inl f) = inr (inr (inl (f ∙ key_swap t.n0 t.n1)))
    turned (inr (inr (inr x3))) = elim x3 [ ]
    turned (inr (inl f)) = inr (inl (f ∙ key_swap t.n1 t.n2))
    turned (inr (inr (inl f))) = inl (f ∙ key_swap t.n2 t.n0)

edges_back : (ps : List Node) (e : Edge) (t : Tri) → e ∈ tri_edges (upright ps t) → e ∈ tri_edges t
unfolding tri_edges new_tri
edges_back ps e t = one_or_other (λ u. e ∈ tri_edges u → e ∈ tri_edges t) ps t (λ i. i) turned
  where
    turned : e ∈ tri_edges (over t) → e ∈ tri_edges t
    turned (inl f) = inr (inr (inl (f ∙ key_swap t.n0 t.n2)))
    turned (inr (inr (inr x3))) = elim x3 [ ]
    turned (inr (inl f)) = inr (inl (f ∙ key_swap t.n2 t.n1))
    turned (inr (inr (inl f))) = inl (f ∙ key_swap t.n1 t.n0)

all_there : (ps : List Node) (e : Edge) (ts : List Tri) → e ∈ flat_map tri_edges ts → e ∈ flat_map tri_edges (map (upright ps) ts)
all_there ps e ts i = let r = in_flat_map tri_edges e ts i in flat_map_in tri_edges (upright ps r.0) e (map (upright ps) ts) (map_in (upright ps) r.0 ts r.1) (edges_there ps e r.0 r.2)

all_back : (ps : List Node) (e : Edge) (ts : List Tri) → e ∈ flat_map tri_edges (map (upright ps) ts) → e ∈ flat_map tri_edges ts
all_back ps e ts i =
    let r = in_flat_map tri_edges e (map (upright ps) ts) i in
    let k = in_map (upright ps) r.0 ts r.1 in
    flat_map_in tri_edges k.0 e ts k.1 (edges_back ps e k.0 (subst (λ u. e ∈ tri_edges u) k.2 r.2))

pub upright_stands : (j : Judged) → Stands (uprights j) → Stands j
upright_stands j h =
    record {
      joints_found = all_one _ (λ e k i. elim (k (all_there j.given e j.tris i)) [ inl m ↦ inl m | inr m ↦ inr (all_back j.points e j.left m) ]) j.joints h.joints_found;
    }

pub stands_upright : (j : Judged) → Stands j → Stands (uprights j)
stands_upright j h =
    record {
      joints_found = all_one _ (λ e k i. elim (k (all_back j.given e j.tris i)) [ inl m ↦ inl m | inr m ↦ inr (all_there j.points e j.left m) ]) j.joints h.joints_found;
    }

-- What is accepted with its triangles turned upright holds of them as they are.
pub accepted_either : (j : Judged) → Accepted (uprights j) → AcceptedEither j
unfolding given_sides cell_sides flat_map
accepted_either j a =
    record {
      kept = a.kept;
      convex = a.convex;
      corners = a.corners;
      blunt = as_handed j a.blunt;
      joints = upright_stands j a.joints;
      area = ap (λ n. quads_area j.points j.quads + n) (sym (upright_area j.points j.left)) ∙ a.area ∙ upright_area j.given j.tris;
      covered = λ s g c.
          let r = split (OffSide s j.points) (flat_map quad_sides j.quads) (flat_map tri_sides j.left) c in
          let g' = flat_all _ tri_sides (map (upright j.given) j.tris) (off_upright s j.given j.tris (all_flat _ tri_sides j.tris g)) in
          let l' = flat_all _ tri_sides (map (upright j.points) j.left) (off_upright s j.points j.left (all_flat _ tri_sides j.left r.1)) in
          let e = a.covered s g' (all_append (OffSide s j.points) (flat_map quad_sides j.quads) (flat_map tri_sides (map (upright j.points) j.left)) r.0 l') in
          omega (arith, e, upright_covering s j.given j.tris a.cover.given_turn, upright_covering s j.points j.left a.cover.left_turn);
    }
  where
    flat_all : {A : Type 0} (P : Edge → Type 0) (f : A → List Edge) (xs : List A) → All (λ x. All P (f x)) xs → All P (flat_map f xs)
    flat_all P f [] h = tt
    flat_all P f (x ∷ xs) h = all_append P (f x) (flat_map f xs) h.0 (flat_all P f xs h.1)

named_upright : (j : Judged) → Named j → Named (uprights j)
unfolding new_tri
named_upright j h = go j.tris h
  where
    go : (ts : List Tri) → All (Names (length j.given)) ts → All (Names (length j.given)) (map (upright j.given) ts)
    go [] h = tt
    go (t ∷ ts) h = (one_or_other (Names (length j.given)) j.given t h.0 (h.0.0, h.0.2, h.0.1), go ts h.1)

-- A mesh is accepted where the verdict on its triangles turned upright names no offender.
pub clean_either : (j : Judged) → Named j → All Doubles j.given → All Doubles j.points → Clean (verdict (uprights j)) → AcceptedEither j
clean_either j named dg dp v = accepted_either j (clean_says (uprights j) (named_upright j named) dg dp v)

-- A call on slices of doubles that answers without an offender has accepted the mesh.
pub accepted : (h : Handed) (v : Verdict) → passed.InDoubles h.given_slice → passed.InDoubles h.point_slice → (call h).answer ≡ found v → Clean v → AcceptedEither (judged h)
unfolding judged
accepted h v dg dp e c =
    let a = passed_laws.answered h v e in
    clean_either (judged h) (passed_laws.named h a.0) (passed_laws.doubles h.given h.given_slice dg) (passed_laws.doubles h.points h.point_slice dp) (subst Clean a.1 c)
