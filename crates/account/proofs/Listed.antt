-- Every edge of the front is listed once, so the front has at most three edges for each slot in use.
use Rattle.std.specs.Prelude.{◌≡◌, ◌≢◌, ◌+◌, ◌*◌, ◌<◌, ◌≤◌, ◌∷◌, ◌++◌}
use Rattle.laws.specs.Kit.{refl, sym, ◌∙◌, ap, inl, inr, Bool, true, ℕ, zero, suc, min, max, arith, ℕ_discrete, eqb, leb, eqb-true, List, [], length}
use Rattle.definition.specs.Lists.{filter, flat_map, numbers, below}
use Rattle.definition.specs.Plane.{Edge}
use Rattle.definition.specs.Cells.{Tri, Cell, tri, quad, Live, Mesh, key, tri_edges, same_edge, edge_before, is_tri, live_tri, owns, has_node, cells_at, tri_of, tris_of, front_owners, front_from, front_at, front}
use Rattle.definition.specs.Account.{Pairwise}
use Rattle.laws.specs.Bools.{which, both}
use Rattle.laws.specs.Lists.{In, all_from, filter_no, in_filter, filter_in, sort_in, in_flat_map, flat_map_in, no_more}
use Rattle.laws.specs.Cells.{same_self, same_is}
use Rattle.account.proofs.Rearranged.{number, number_append, number_cons, sort_same}
use Rattle.account.specs.Triangles.{Distinct}
use Rattle.account.proofs.Ends.{tri_ends, owns_tri}
use Rattle.account.specs.Valid.{Valid}
use Rattle.account.proofs.Valid.{tris_in, in_tris}
use Rattle.account.proofs.Fits.{tris_number, live_number}
use Rattle.account.specs.Refused.{edges_of}
use Rattle.account.proofs.Refused.{edges_number}
use Rattle.account.specs.Listed.{triangle_owners}

-- ---- once in a list
-- how often the edge is listed
abbrev times : Edge → List Edge → ℕ
times e es = number (same_edge e) es

-- no edge of the list is there twice
abbrev Once : List Edge → Type 0
Once es = (e : Edge) → In e es → times e es ≤ 1

listed : (e : Edge) (es : List Edge) → In e es → 0 < times e es
listed e es i = at (filter (same_edge e) es) e (filter_in (same_edge e) es i (same_self e)) where
  at : (xs : List Edge) (x : Edge) → In x xs → 0 < length xs
  at [] x i = elim i [ ]
  at (y ∷ ys) x i = omega arith

absent : (e : Edge) (es : List Edge) → (In e es → ⊥) → times e es ≡ 0
unfolding filter
absent e [] h = refl
absent e (f ∷ es) h = elim (which (same_edge e f)) [
  | inl g ↦ absurd (h (inl (same_is e f g)))
  | inr g ↦ rw g (absent e es (λ i. h (inr i)))
]

found : (e : Edge) (es : List Edge) → times e es ≢ 0 → In e es
unfolding filter
found e [] n = absurd (n refl)
found e (f ∷ es) n = elim (which (same_edge e f)) [
  | inl g ↦ inl (same_is e f g)
  | inr g ↦ inr (found e es (λ z. n (ap length (filter_no (same_edge e) f es g) ∙ z)))
]

once_differ : (es : List Edge) → Once es → Pairwise (λ e f. e ≢ f) es
once_differ [] h = tt
once_differ (e ∷ es) h = (
  all_from es (λ f i z. let l = listed f es i in let k = h e (inl refl) in
      let one = listed e (e ∷ []) (inl refl) in
      let same : times e es ≡ times f es = ap (λ g. times g es) z in
      omega (arith, number_cons (same_edge e) e es)),
  once_differ es (λ f i. let k = h f (inr i) in omega (arith, number_cons (same_edge f) e es)),
)

filter_times : (p : Edge → Bool) (e : Edge) (es : List Edge) → times e (filter p es) ≤ times e es
unfolding filter
filter_times p e [] = omega arith
filter_times p e (f ∷ es) =
    let h = filter_times p e es in
    elim (which (p f)) [
      | inl g ↦ rw g (omega (arith, number_cons (same_edge e) f (filter p es), number_cons (same_edge e) f es))
      | inr g ↦ rw g (omega (arith, number_cons (same_edge e) f es))
    ]

-- ---- an edge is listed once for each triangle that has it
key_differ : (a b c : ℕ) → a ≢ c → key a b ≢ key b c
unfolding key
key_differ a b c n e =
    let f : min a b ≡ min b c = ap (λ z. z.0) e in
    let g : max a b ≡ max b c = ap (λ z. z.1) e in
    n (omega arith)

tri_times : (t : Tri) (e : Edge) → Distinct t → times e (tri_edges t) ≤ 1
unfolding filter tri_edges
tri_times t e d =
    let k0 = key t.n0 t.n1 in
    let k1 = key t.n1 t.n2 in
    let k2 = key t.n2 t.n0 in
    let apart : (f g : Edge) → f ≢ g → same_edge e f ≡ true → same_edge e g ≡ true → ⊥ = λ f g n x y. n (sym (same_is e f x) ∙ same_is e g y) in
    elim (which (same_edge e k0)) [
      | inl x ↦ elim (which (same_edge e k1)) [
        | inl y ↦ absurd (apart k0 k1 (key_differ t.n0 t.n1 t.n2 (λ z. d.d20 (sym z))) x y)
        | inr y ↦ elim (which (same_edge e k2)) [
          | inl z ↦ absurd (apart k2 k0 (key_differ t.n2 t.n0 t.n1 (λ w. d.d12 (sym w))) z x)
          | inr z ↦ rw (x, y, z) (omega arith)
        ]
      ]
      | inr x ↦ elim (which (same_edge e k1)) [
        | inl y ↦ elim (which (same_edge e k2)) [
          | inl z ↦ absurd (apart k1 k2 (key_differ t.n1 t.n2 t.n0 (λ w. d.d01 (sym w))) y z)
          | inr z ↦ rw (x, y, z) (omega arith)
        ]
        | inr y ↦ elim (which (same_edge e k2)) [ inl z ↦ rw (x, y, z) (omega arith) | inr z ↦ rw (x, y, z) (omega arith) ]
      ]
    ]

owners_more : (e : Edge) (x : Live) (xs : List Live) → length (triangle_owners e xs) ≤ length (triangle_owners e (x ∷ xs))
unfolding filter
owners_more e x xs = elim (which (owns e x)) [
  | inl f ↦ elim (which (live_tri x)) [ inl g ↦ rw (f, g) (omega arith) | inr g ↦ rw (f, g) (omega arith) ]
  | inr f ↦ rw f (omega arith)
]

owner_counts : (e : Edge) (x : Live) (t : Tri) (xs : List Live) → x.cell ≡ tri t → Distinct t → In e (tri_edges t)
    → length (triangle_owners e (x ∷ xs)) ≡ suc (length (triangle_owners e xs))
unfolding filter live_tri is_tri
owner_counts e x t xs c d i =
    let w = tri_ends t e d i in
    let f : owns e x ≡ true = owns_tri e x t c w.h0 w.h1 in
    let g : live_tri x ≡ true = ap is_tri c in
    rw (f, g) refl

times_by : (e : Edge) (x : Live) (c : Cell) (xs : List Live) → x.cell ≡ c → ((t : Tri) → c ≡ tri t → Distinct t)
    → times e (flat_map tri_edges (tris_of xs)) ≤ length (triangle_owners e xs)
    → times e (flat_map tri_edges (tris_of (x ∷ xs))) ≤ length (triangle_owners e (x ∷ xs))
unfolding tris_of flat_map tri_of
times_by e x (quad q) xs c g h =
    let same : flat_map tri_edges (tris_of (x ∷ xs)) ≡ flat_map tri_edges (tris_of xs) = ap (λ z. flat_map tri_edges (tri_of z ++ tris_of xs)) c in
    omega (arith, ap (times e) same, owners_more e x xs)
times_by e x (tri t) xs c g h =
    let d = g t refl in
    let rest = flat_map tri_edges (tris_of xs) in
    let same : flat_map tri_edges (tris_of (x ∷ xs)) ≡ tri_edges t ++ rest = ap (λ z. flat_map tri_edges (tri_of z ++ tris_of xs)) c in
    let sum : times e (flat_map tri_edges (tris_of (x ∷ xs))) ≡ times e (tri_edges t) + times e rest = ap (times e) same ∙ number_append (same_edge e) (tri_edges t) rest in
    let one = tri_times t e d in
    elim (ℕ_discrete (times e (tri_edges t)) 0) [
      | yes z ↦ omega (arith, owners_more e x xs)
      | no z ↦ omega (arith, owner_counts e x t xs c d (found e (tri_edges t) z))
    ]

edge_times : (e : Edge) (xs : List Live) → ((x : Live) (t : Tri) → In x xs → x.cell ≡ tri t → Distinct t)
    → times e (flat_map tri_edges (tris_of xs)) ≤ length (triangle_owners e xs)
unfolding tris_of flat_map filter
edge_times e [] g = omega arith
edge_times e (x ∷ xs) g = times_by e x x.cell xs refl (λ t c. g x t (inl refl) c) (edge_times e xs (λ y t i c. g y t (inr i) c))

-- ---- the front
module _ (m : Mesh) (ok : Valid m) where
  at_node : (u : ℕ) (e : Edge) → In e (front_at m u) → (e.0 ≡ u) × In e (flat_map tri_edges (tris_of m.live))
  unfolding front_at cells_at front_from
  at_node u e i =
      let near = cells_at m u in
      let all = flat_map tri_edges (tris_of near) in
      let b = in_filter (front_from u near) all (sort_in edge_before e (filter (front_from u near) all) i) in
      let c = in_flat_map tri_edges e (tris_of near) b.0 in
      let x = in_tris near c.0 c.1 in (
        eqb-true e.0 u (both (eqb e.0 u) (front_owners (filter (owns e) near)) b.1).0,
        flat_map_in tri_edges c.0 e (tris_of m.live) (tris_in m.live x.0 c.0 (in_filter (has_node u) m.live x.1).0 x.2) c.2,
      )

  front_at_once : (u : ℕ) → Once (front_at m u)
  unfolding front_at cells_at front_from front_owners
  front_at_once u e i =
      let near = cells_at m u in
      let all = flat_map tri_edges (tris_of near) in
      let b = in_filter (front_from u near) all (sort_in edge_before e (filter (front_from u near) all) i) in
      let o = (both (eqb e.0 u) (front_owners (filter (owns e) near)) b.1).1 in
      let one : length (triangle_owners e near) ≡ 1 = eqb-true (length (triangle_owners e near)) 1 (both (leb (length (filter (owns e) near)) 2) _ o).1 in
      let k = edge_times e near (λ x t j c. (ok.tris t (tris_in m.live x t (in_filter (has_node u) m.live j).0 c)).distinct) in
      omega (arith, sort_same edge_before (filter (front_from u near) all) (same_edge e), filter_times (front_from u near) e all)

  once_at : (e : Edge) (u : ℕ) → times e (front_at m u) ≤ 1
  once_at e u = elim (ℕ_discrete (times e (front_at m u)) 0) [ yes z ↦ omega arith | no z ↦ front_at_once u e (found e (front_at m u) z) ]

  later : (e : Edge) (a n : ℕ) → e.0 < a → times e (flat_map (front_at m) (numbers a n)) ≡ 0
  unfolding numbers flat_map filter
  later e a zero l = refl
  later e a (suc n) l =
      let h = absent e (front_at m a) (λ i. let z = (at_node a e i).0 in omega arith) in
      let k = later e (suc a) n (omega arith) in
      number_append (same_edge e) (front_at m a) (flat_map (front_at m) (numbers (suc a) n)) ∙ omega arith

  front_times : (e : Edge) (a n : ℕ) → times e (flat_map (front_at m) (numbers a n)) ≤ 1
  unfolding numbers flat_map filter
  front_times e a zero = omega arith
  front_times e a (suc n) =
      let sum = number_append (same_edge e) (front_at m a) (flat_map (front_at m) (numbers (suc a) n)) in
      elim (ℕ_discrete e.0 a) [
        | yes z ↦ let k = later e (suc a) n (omega arith) in let h = once_at e a in omega arith
        | no z ↦ let k = front_times e (suc a) n in let h = absent e (front_at m a) (λ i. z (at_node a e i).0) in omega arith
      ]

  -- the edges of the front differ
  pub front_differ : Pairwise (λ e f. e ≢ f) (front m)
  unfolding front below
  front_differ = once_differ (front m) (λ e i. front_times e 0 (length m.points))

  -- the edges of the front are at most three for each slot in use
  pub front_number : length (front m) ≤ 3 * m.used
  unfolding front edges_of
  front_number =
      let k = no_more (front m) (edges_of (tris_of m.live)) front_differ (λ e i. let a = in_flat_map (front_at m) e (below (length m.points)) i in (at_node a.0 e a.2).1) in
      omega (arith, k, edges_number (tris_of m.live), tris_number m.live, live_number m ok)
