-- A mesh without its trace: all that a run reads of a mesh is as it was.
use Rattle.std.specs.Prelude.{◌≡◌, ◌&&◌, ◌||◌, ◌∷◌, ◌++◌}
use Rattle.laws.specs.Kit.{refl, ◌∙◌, ap, inl, inr, Bool, true, not, cond, Option, none, some, ℕ, zero, suc, List, [], foldl, length, Float}
use Rattle.definition.specs.Lists.{all, filter, find, below}
use Rattle.definition.specs.Floats.{◌⊕◌, ◌⊖◌, ◌⊗◌, ◌≺◌, ◌≼◌, abs, greater, 0·0, 1·0}
use Rattle.definition.specs.Numbers.{Settings, Quality, Turn, area_slack, insert_reach, side_margin, tiny_length}
use Rattle.definition.specs.Plane.{Node, Edge, Vec, norm, over, quad_area}
use Rattle.definition.specs.Cells.{Tri, Quad, Cell, tri, quad, Live, Mesh, node_at, owners, tri_owners, tri_owner, is_front, has_edge, is_locked, all_edges, cells_at, cell_of, in_slot_order, quad_edges, triangles, front, front_at}
use Rattle.definition.specs.Trace.{words_in, traced, in_room}
use Rattle.definition.specs.Flips.{bucket_key, overlaps, is_crossing, first_crossing}
use Rattle.definition.specs.Candidates.{in_reach, neighbours, on_top, live_region_from, seed_stack, live_region, shared_by_tris, walls, passes_by, segment_inside, side_candidate, toward, ideal_by, ideals, edge_candidate, candidates}
use Rattle.definition.specs.Insertion.{holds, point_clear, slot_clear, holder}
use Rattle.definition.specs.Region.{across, reach_all, flood, area_of, region_area, cell_inside, area_agrees, fills, may_go, spares_locked, if_filled, region_from, region}
use Rattle.definition.specs.Trials.{metrics_of, trial, trials}
use Rattle.definition.specs.Attempt.{stance, lies_left}
use Rattle.laws.specs.Bools.{which}
use Rattle.laws.specs.Lists.{known}
use Rattle.consequences.specs.Quiet.{quiet}

-- every entry fits: none is written
pub quiet_room : (m : Mesh) → in_room (quiet m) ≡ true
unfolding in_room traced words_in quiet
quiet_room m = refl

module _ (m : Mesh) where
  -- ---- what reads the cells and the points

  pub quiet_front_edge : (e : Edge) → is_front (quiet m) e ≡ is_front m e
  unfolding quiet is_front owners
  quiet_front_edge e = refl

  pub quiet_owner : (e : Edge) → tri_owner (quiet m) e ≡ tri_owner m e
  unfolding quiet tri_owner tri_owners owners
  quiet_owner e = refl

  pub quiet_edge : (u v : ℕ) → has_edge (quiet m) u v ≡ has_edge m u v
  unfolding quiet has_edge
  quiet_edge u v = refl

  pub quiet_front : front (quiet m) ≡ front m
  unfolding quiet front front_at cells_at
  quiet_front = refl

  pub quiet_left : triangles (quiet m) ≡ triangles m
  unfolding quiet triangles
  quiet_left = refl

  pub quiet_crossing : (u v : ℕ) → first_crossing (quiet m) u v ≡ first_crossing m u v
  unfolding quiet first_crossing is_crossing overlaps bucket_key node_at all_edges
  quiet_crossing u v = refl

  -- ---- the live region

  quiet_reached : (n : ℕ) (o : Node) (r : Float) (out seen stack : List Live) → live_region_from n (quiet m) o r out seen stack ≡ live_region_from n m o r out seen stack
  unfolding live_region_from quiet in_reach neighbours owners node_at
  quiet_reached zero o r out seen stack = refl
  quiet_reached (suc n) o r out seen [] = refl
  quiet_reached (suc n) o r out seen (x ∷ stack) = elim (which (in_reach m o r x.cell)) [
    | inl e ↦ rw (e, live_region_from) (quiet_reached n o r (out ++ (x ∷ [])) (x ∷ seen) (foldl (on_top (x ∷ seen)) stack (neighbours m x)))
    | inr e ↦ rw (e, live_region_from) (quiet_reached n o r out (x ∷ seen) stack)
  ]

  quiet_region_of : (seed : ℕ) (o : Node) (r : Float) → live_region (quiet m) seed o r ≡ live_region m seed o r
  unfolding live_region quiet cell_of
  quiet_region_of seed o r = quiet_reached m.used o r [] [] (seed_stack (cell_of m seed))

  -- the candidates with the region given
  given_region : Quality → Turn → ℕ → ℕ → Vec → Float → List Live → List ℕ
  given_region y t p other n target region =
      let u = toward m p other in
      let un = norm u in
      let near = cells_at m p in
      let wanted = ideals t m p other (over u un) near in
      let fence = walls m region in
      let by_edge : ℕ → Bool = λ v. not (un ≼ tiny_length) && edge_candidate m p other target near wanted v in
      filter (λ v. by_edge v || side_candidate y m p other n target region fence v) (below (length m.points))

  pub quiet_candidates : (y : Quality) (t : Turn) (p other seed : ℕ) (n : Vec) (target : Float) → candidates y t (quiet m) p other seed n target ≡ candidates y t m p other seed n target
  unfolding given_region candidates quiet toward ideals ideal_by cells_at node_at walls shared_by_tris owners tri_owners edge_candidate side_candidate segment_inside passes_by
  quiet_candidates y t p other seed n target = ap (given_region y t p other n target) (quiet_region_of seed (node_at m p) ((y.side_high ⊕ side_margin) ⊗ target))

  quiet_holds : (p : Node) (c : Cell) → holds (quiet m) p c ≡ holds m p c
  unfolding holds quiet node_at
  quiet_holds p (tri t) = refl
  quiet_holds p (quad q) = refl

  pub quiet_holder : (seed : ℕ) (p : Node) → holder (quiet m) seed p ≡ holder m seed p
  unfolding holder quiet
  quiet_holder seed p i = find (λ x. quiet_holds p x.cell i) (quiet_region_of seed p (insert_reach ⊗ m.bucket) i ++ in_slot_order m.live)

  pub quiet_clear : (p : Node) (spacing : Float) (c : Cell) → point_clear (quiet m) p spacing c ≡ point_clear m p spacing c
  unfolding point_clear quiet node_at
  quiet_clear p spacing c = refl

  pub quiet_slot : (p : Node) (spacing : Float) (o : Option Live) → slot_clear (quiet m) p spacing o ≡ slot_clear m p spacing o
  unfolding slot_clear
  quiet_slot p spacing none = refl
  quiet_slot p spacing (some x) = quiet_clear p spacing x.cell

  pub quiet_stance : (s : Settings) (e : Edge) (seed a b : ℕ) → stance s (quiet m) e seed a b ≡ stance s m e seed a b
  unfolding stance quiet node_at
  quiet_stance s e seed a b = refl

  pub quiet_lies : (e : Edge) (t : Tri) → lies_left (quiet m) e t ≡ lies_left m e t
  unfolding lies_left quiet node_at
  quiet_lies e t = refl

  pub quiet_trials : (y : Quality) (a b : ℕ) (cs ds : List ℕ) → trials y (quiet m) a b cs ds ≡ trials y m a b cs ds
  unfolding trials trial metrics_of quiet node_at
  quiet_trials y a b cs ds = refl

  -- ---- the region of a quad

  quiet_flood : (n : ℕ) (sides : List Edge) (done todo : List Live) → flood n (quiet m) sides done todo ≡ flood n m sides done todo
  unfolding flood quiet across owners
  quiet_flood zero sides done todo = refl
  quiet_flood (suc n) sides done [] = refl
  quiet_flood (suc n) sides done (x ∷ todo) = elim (known (reach_all (done ++ (x ∷ [])) todo (across m sides x))) [
    | inl e ↦ rw (e, flood) refl
    | inr e ↦ rw (e.1, flood) (quiet_flood n sides (done ++ (x ∷ [])) e.0)
  ]

  quiet_area : (c : Cell) → area_of (quiet m) c ≡ area_of m c
  unfolding area_of quiet node_at
  quiet_area (tri t) = refl
  quiet_area (quad q) = refl

  quiet_sum : (cells : List Live) → region_area (quiet m) cells ≡ region_area m cells
  unfolding region_area
  quiet_sum cells i = foldl (λ sum x. sum ⊕ quiet_area x.cell i) 0·0 cells

  quiet_agrees : (q : Quad) (cells : List Live) → area_agrees (quiet m) q cells ≡ area_agrees m q cells
  unfolding area_agrees quiet node_at
  quiet_agrees q cells =
      let expected = abs (quad_area (node_at m q.n0) (node_at m q.n1) (node_at m q.n2) (node_at m q.n3)) in
      ap (λ a. not (area_slack ⊗ greater expected 1·0 ≺ abs (a ⊖ expected))) (quiet_sum cells)

  quiet_filled : (q : Quad) (o : Option (List Live)) → if_filled (quiet m) q o ≡ if_filled m q o
  unfolding if_filled quiet fills cell_inside spares_locked may_go is_locked node_at
  quiet_filled q none = refl
  quiet_filled q (some cells) = ap (λ a. cond ((all (cell_inside m q) cells && a) && spares_locked m q cells) (some cells) none) (quiet_agrees q cells)

  quiet_from : (q : Quad) (o : Option Live) → region_from (quiet m) q o ≡ region_from m q o
  unfolding region_from quiet
  quiet_from q none = refl
  quiet_from q (some x) = quiet_filled q _ ∙ ap (if_filled m q) (quiet_flood m.used (quad_edges q) [] (x ∷ []))

  pub quiet_region : (seed : ℕ) (q : Quad) → region (quiet m) seed q ≡ region m seed q
  unfolding region cell_of quiet
  quiet_region seed q = quiet_from q (cell_of m seed)
