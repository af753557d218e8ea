-- The edges that are tried are edges of the front.
use Rattle.std.specs.Prelude.{◌≡◌, ◌⊎◌, ◌<◌, ◌∷◌, ◌++◌}
use Rattle.laws.specs.Kit.{sym, ◌∙◌, ap, subst, inl, inr, true, not, ℕ, zero, suc, eqb, List, [], map, length}
use Rattle.definition.specs.Lists.{filter, find, sort, flat_map, concat, below}
use Rattle.definition.specs.Plane.{Node, Edge}
use Rattle.definition.specs.Cells.{Mesh, touches, tri_edges, tris_of, has_node, cells_at, front_from, front_at, front, is_front, edge_before}
use Rattle.definition.specs.Loops.{Walk, far_end, without_edge, walk, loops_of, Ranked, ranked_before, in_order, ranked_loop, front_loops, ranked_edge, by_length}
use Rattle.definition.specs.Front.{State, is_blocked, is_open, open_edges}
use Rattle.laws.specs.Bools.{which, both}
use Rattle.laws.specs.Lists.{In, in_either, in_filter, find_in, sort_in, in_map, known, in_flat_map}
use Rattle.account.specs.Valid.{Valid}
use Rattle.account.proofs.Valid.{in_tris, tris_in}
use Rattle.account.proofs.Ends.{tri_ends}
use Rattle.account.specs.Fronts.{Walked}

less : (f : Edge) (left : List Edge) (e : Edge) → In e (without_edge f left) → In e left
unfolding without_edge
less f left e i = (in_filter _ left i).0

walked : (n start here : ℕ) (path left : List Edge) → Walked path left (walk n start here path left)
unfolding walk
walked zero start here path left = record { path_in = λ e i. inl i; left_in = λ e i. i }
walked (suc n) start here path left = elim (known (find (λ e. touches e here) left)) [
  | inl f ↦ rw (f, walk) (record { path_in = λ e i. inl i; left_in = λ e i. i })
  | inr f ↦
      let g = f.0 in
      let at : In g left = (find_in (λ e. touches e here) g left f.1).0 in
      let step : (e : Edge) → In e (path ++ (g ∷ [])) → In e path ⊎ In e left = λ e i. elim (in_either e path (g ∷ []) i) [ inl j ↦ inl j | inr (inl h) ↦ inr (subst (λ z. In z left) (sym h) at) | inr (inr x3) ↦ elim x3 [ ] ] in
      elim (which (eqb (far_end g here) start)) [
        | inl h ↦ rw (f.1, walk, h) (record { path_in = step; left_in = less g left })
        | inr h ↦
            let r = walked n start (far_end g here) (path ++ (g ∷ [])) (without_edge g left) in
            rw (f.1, walk, h) (record { path_in = λ e i. elim (r.path_in e i) [ inl j ↦ step e j | inr j ↦ inr (less g left e j) ]; left_in = λ e i. less g left e (r.left_in e i) })
      ]
]

loops_of_in : (n : ℕ) (es l : List Edge) (e : Edge) → In l (loops_of n es) → In e l → In e es
unfolding loops_of
loops_of_in zero es l e i j = absurd i
loops_of_in (suc n) [] l e i j = absurd i
loops_of_in (suc n) (f ∷ es) l e (inl g) j =
    elim ((walked (length es) f.0 f.1 (f ∷ []) es).path_in e (subst (λ z. In e z) g j)) [ inl (inl h) ↦ inl h | inr h ↦ inr h | inl (inr x4) ↦ elim x4 [ ] ]
loops_of_in (suc n) (f ∷ es) l e (inr i) j =
    inr ((walked (length es) f.0 f.1 (f ∷ []) es).left_in e (loops_of_in n (walk (length es) f.0 f.1 (f ∷ []) es).left l e i j))

ranked_is : (ps : List Node) (k : List Edge) (r : Ranked) → In r (ranked_loop ps k) → r.ranked_edges ≡ k
unfolding ranked_loop
ranked_is ps (e ∷ es) r (inr x') = elim x' [ ]
ranked_is ps [] r i = absurd i
ranked_is ps (e ∷ es) r (inl f) = ap (λ z. z.ranked_edges) f

-- a loop's edges are among those it was made of
pub loops_in : (ps : List Node) (es l : List Edge) (e : Edge) → In l (front_loops ps es) → In e l → In e es
unfolding front_loops in_order
loops_in ps es l e i j =
    let rs = flat_map (ranked_loop ps) (loops_of (length es) es) in
    let r = in_map (λ (r : Ranked). r.ranked_edges) l (sort ranked_before rs) i in
    let k = in_flat_map (ranked_loop ps) r.0 (loops_of (length es) es) (sort_in ranked_before r.0 rs r.1) in
    loops_of_in (length es) es k.0 e k.1 (subst (λ z. In e z) (r.2 ∙ ranked_is ps k.0 r.0 k.2) j)

by_length_in : (ps : List Node) (es : List Edge) (e : Edge) → In e (by_length ps es) → In e es
unfolding by_length in_order ranked_edge concat
by_length_in ps es e i =
    let rs = map (ranked_edge ps) es in
    let k = in_flat_map (λ l. l) e (in_order rs) i in
    let r = in_map (λ (r : Ranked). r.ranked_edges) k.0 (sort ranked_before rs) k.1 in
    let f = in_map (ranked_edge ps) r.0 es (sort_in ranked_before r.0 rs r.1) in
    let j : In e (f.0 ∷ []) = subst (λ z. In e z) (r.2 ∙ ap (λ z. z.ranked_edges) f.2) k.2 in
    elim j [ inl h ↦ subst (λ z. In z es) (sym h) f.1 | inr x' ↦ elim x' [ ] ]

-- what is tried of a loop is on the front
pub open_in : (st : State) (l : List Edge) (e : Edge) → In e (open_edges st l) → In e l × (is_front st.mesh e ≡ true)
unfolding open_edges is_open
open_in st l e i =
    let r = in_filter (is_open st) l (by_length_in st.mesh.points (filter (is_open st) l) e i) in
    (r.0, (both (is_front st.mesh e) (not (is_blocked st e)) r.1).0)

-- a front edge has its smaller node first, and both are nodes of the points
pub front_in : (m : Mesh) (e : Edge) → Valid m → In e (front m) → (e.0 < e.1) × (e.1 < length m.points)
unfolding front front_at cells_at
front_in m e ok i =
    let a = in_flat_map (front_at m) e (below (length m.points)) i in
    let near = cells_at m a.0 in
    let all = flat_map tri_edges (tris_of near) in
    let b = in_filter (front_from a.0 near) all (sort_in edge_before e (filter (front_from a.0 near) all) a.2) in
    let c = in_flat_map tri_edges e (tris_of near) b.0 in
    let x = in_tris near c.0 c.1 in
    let g = ok.tris c.0 (tris_in m.live x.0 c.0 (in_filter (has_node a.0) m.live x.1).0 x.2) in
    let d = tri_ends c.0 e g.distinct c.2 in
    (d.order, g.below e.1 d.h1)
