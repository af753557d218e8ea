-- What `front_at` has: the front edges whose smaller node is u, by their second nodes.
use Rattle.std.specs.Prelude.{◌≡◌, ◌≢◌, ◌&&◌, ◌||◌, ◌+◌, ◌<◌, ◌≤◌, ◌∷◌, ◌++◌}
use Rattle.laws.specs.Kit.{refl, sym, ◌∙◌, ap, subst, inl, inr, Bool, true, false, cond, ℕ, zero, suc, arith, eqb, ltb, leb, eq-eqb, eqb-true, lt-ltb, ltb-true, ltb-false, List, [], map, length}
use Rattle.definition.specs.Lists.{filter, flat_map, insert, sort, numbers, below}
use Rattle.definition.specs.Plane.{Edge}
use Rattle.definition.specs.Cells.{Tri, Live, Mesh, key, tri_edges, edge_before, live_tri, owns, owners, has_node, cells_at, tris_of, front_owners, front_from, is_front, front_at, front}
use Rattle.definition.specs.Account.{Pairwise}
use Rattle.laws.specs.Bools.{both}
use Rattle.laws.specs.Lists.{In, all_from, all_at, in_left, in_either, in_filter, filter_in, insert_in, sort_in, in_sort, map_in, in_map, in_flat_map, flat_map_in, no_more, below_in}
use Rattle.cells.proofs.Near.{near_front}
use Rattle.account.proofs.Found.{is_a_tri}
use Rattle.account.specs.Triangles as triangles
use Rattle.account.proofs.Ends.{tri_ends, tri_owns}
use Rattle.account.specs.Valid.{Valid}
use Rattle.account.proofs.Valid.{tris_in, in_tris}
use Rattle.account.proofs.Listed.{front_differ}
use Rattle.cells.proofs.Edges.{key_up, key_down}
use Rattle.front_edges.specs.Rows.{Ascending, Distinct}
use Rattle.front_edges.specs.Runs.{pairs, Good, tris_on}
use Rattle.front_edges.proofs.Inserts.{ascending_same}

-- ---- edges of a triangle

edge_of : (t : Tri) (a b : ℕ) → a < b → triangles.Has t a → triangles.Has t b → In (a, b) (tri_edges t)
unfolding tri_edges
edge_of t a b h i j = go i j
  where
    forth : (x y : ℕ) → a ≡ x → b ≡ y → (a, b) ≡ key x y
    forth x y e f = sym (key_up a b h) ∙ (λ k. key (e k) (f k))

    back : (x y : ℕ) → b ≡ x → a ≡ y → (a, b) ≡ key x y
    back x y e f = sym (key_down b a h) ∙ (λ k. key (e k) (f k))

    go : triangles.Has t a → triangles.Has t b → In (a, b) (tri_edges t)
    go (inl e) (inl f) = absurd (omega arith)
    go (inl e) (inr (inl f)) = inl (forth t.n0 t.n1 e f)
    go (inl e) (inr (inr f)) = inr (inr (inl (back t.n2 t.n0 f e)))
    go (inr (inl e)) (inl f) = inl (back t.n0 t.n1 f e)
    go (inr (inl e)) (inr (inl f)) = absurd (omega arith)
    go (inr (inl e)) (inr (inr f)) = inr (inl (forth t.n1 t.n2 e f))
    go (inr (inr e)) (inl f) = inr (inr (inl (forth t.n2 t.n0 e f)))
    go (inr (inr e)) (inr (inl f)) = inr (inl (back t.n1 t.n2 f e))
    go (inr (inr e)) (inr (inr f)) = absurd (omega arith)

-- ---- the front edges of u

one_of : {A : Type 0} (l : List A) → length l ≡ 1 → (x : A) × In x l
one_of [] h = absurd (omega arith)
one_of (x ∷ l) h = (x, inl refl)

-- exactly one triangle has a front edge
pub good_one : (m : Mesh) (u v : ℕ) → Good m u v → tris_on u v m.live ≡ 1
unfolding is_front front_owners owners
good_one m u v g = eqb-true (tris_on u v m.live) 1 (both (leb (length (owners m (key u v))) 2) (eqb (tris_on u v m.live) 1) g.front).1

abbrev pub seconds : List Edge → List ℕ
seconds es = map (λ (e : Edge). e.1) es

module _ (m : Mesh) (ok : Valid m) (u : ℕ) where
  near : List Live
  near = cells_at m u

  pub at_of : (e : Edge) → In e (front_at m u) → (e ≡ (u, e.1)) × Good m u e.1
  unfolding front_at front_from near cells_at
  at_of e i =
      let all = flat_map tri_edges (tris_of near) in
      let b = in_filter (front_from u near) all (sort_in edge_before e (filter (front_from u near) all) i) in
      let f = both (eqb e.0 u) (front_owners (filter (owns e) near)) b.1 in
      let c = in_flat_map tri_edges e (tris_of near) b.0 in
      let x = in_tris near c.0 c.1 in
      let t = ok.tris c.0 (tris_in m.live x.0 c.0 (in_filter (has_node u) m.live x.1).0 x.2) in
      let o = tri_ends c.0 e t.distinct c.2 in
      let z : e.0 ≡ u = eqb-true e.0 u f.0 in
      let up : u < e.1 = omega (arith, o.order) in
      let q : e ≡ (u, e.1) = λ k. (z k, e.1) in
      let same : key u e.1 ≡ e = key_up u e.1 up ∙ sym q in
      (q, record { up = up; front = sym (near_front m u e.1) ∙ ap (λ (d : Edge). front_owners (filter (owns d) near)) same ∙ f.1 })

  pub at_in : (v : ℕ) → Good m u v → In (u, v) (front_at m u)
  unfolding front_at front_from near front_owners live_tri
  at_in v g =
      let e : Edge = (u, v) in
      let all = flat_map tri_edges (tris_of near) in
      let o : front_owners (filter (owns e) near) ≡ true = ap (λ (d : Edge). front_owners (filter (owns d) near)) (sym (key_up u v g.up)) ∙ near_front m u v ∙ g.front in
      let n : length (filter live_tri (filter (owns e) near)) ≡ 1 = eqb-true _ 1 (both (leb (length (filter (owns e) near)) 2) (eqb (length (filter live_tri (filter (owns e) near))) 1) o).1 in
      let x = one_of (filter live_tri (filter (owns e) near)) n in
      let i = in_filter live_tri (filter (owns e) near) x.1 in
      let j = in_filter (owns e) near i.0 in
      let t = is_a_tri x.0.cell i.1 in
      let h = tri_owns e x.0 t.0 t.1 j.1 in
      in_sort edge_before e (filter (front_from u near) all)
      (filter_in (front_from u near) all
      (flat_map_in tri_edges t.0 e (tris_of near) (tris_in near x.0 t.0 j.0 t.1) (edge_of t.0 u v g.up h.0 h.1))
      (rw (eq-eqb u u refl) o))

  -- the edges of one first node ascend by their second nodes
  before_at : (e f : Edge) → e.0 ≡ u → f.0 ≡ u → edge_before e f ≡ ltb e.1 f.1
  unfolding edge_before
  before_at e f a b = go (ltb e.0 f.0) refl
    where
      go : (t : Bool) → ltb e.0 f.0 ≡ t → (t || eqb e.0 f.0 && ltb e.1 f.1) ≡ ltb e.1 f.1
      go true h = absurd (let k : e.0 < f.0 = ltb-true e.0 f.0 h in omega arith)
      go false h = rw (eq-eqb e.0 f.0 (a ∙ sym b))

  abbrev Weak : List Edge → Type 0
  Weak l = Pairwise (λ (e f : Edge). e.1 ≤ f.1) l

  insert_weak : (e : Edge) (l : List Edge) → e.0 ≡ u → ((f : Edge) → In f l → f.0 ≡ u) → Weak l → Weak (insert edge_before e l)
  unfolding insert
  insert_weak e [] a b h = (tt, tt)
  insert_weak e (f ∷ l) a b h = go (edge_before f e) refl (insert_weak e l a (λ g i. b g (inr i)) h.1)
    where
      is : edge_before f e ≡ ltb f.1 e.1
      is = before_at f e (b f (inl refl)) a

      go : (t : Bool) → edge_before f e ≡ t → Weak (insert edge_before e l) → Weak (cond t (f ∷ insert edge_before e l) (e ∷ f ∷ l))
      go true q r =
          let k : f.1 < e.1 = ltb-true f.1 e.1 (sym is ∙ q) in (
            all_from (insert edge_before e l) (λ g i. elim (insert_in edge_before g e l i) [
              | inl z ↦ let y : g.1 ≡ e.1 = ap (λ (d : Edge). d.1) z in omega arith
              | inr j ↦ all_at (λ (d : Edge). f.1 ≤ d.1) l h.0 g j
            ]),
            r,
          )
      go false q r =
          let k : e.1 ≤ f.1 = ltb-false f.1 e.1 (sym is ∙ q) in
          ((k, all_from l (λ g i. let y = all_at (λ (d : Edge). f.1 ≤ d.1) l h.0 g i in omega arith)), h)

  sort_weak : (l : List Edge) → ((f : Edge) → In f l → f.0 ≡ u) → Weak (sort edge_before l)
  unfolding sort
  sort_weak [] b = tt
  sort_weak (e ∷ l) b = insert_weak e (sort edge_before l) (b e (inl refl)) (λ f i. b f (inr (sort_in edge_before f l i))) (sort_weak l (λ f i. b f (inr i)))

  at_weak : Weak (front_at m u)
  unfolding front_at front_from near
  at_weak =
      let all = flat_map tri_edges (tris_of near) in
      sort_weak (filter (front_from u near) all) (λ e i. let b = in_filter (front_from u near) all i in eqb-true e.0 u (both (eqb e.0 u) (front_owners (filter (owns e) near)) b.1).0)

  strict : (l : List Edge) → ((f : Edge) → In f l → f.0 ≡ u) → Weak l → Pairwise (λ e f. e ≢ f) l → Ascending (seconds l)
  strict [] b h d = tt
  strict (e ∷ l) b h d = (
    all_from (seconds l) (λ v i.
        let r = in_map (λ (f : Edge). f.1) v l i in
        let k = all_at (λ (f : Edge). e.1 ≤ f.1) l h.0 r.0 r.1 in
        let n = all_at (λ (f : Edge). e ≢ f) l d.0 r.0 r.1 in
        let z : e.0 ≡ r.0.0 = b e (inl refl) ∙ sym (b r.0 (inr r.1)) in
        let x : e.1 ≢ r.0.1 = λ y. n (λ j. (z j, y j)) in
        let q : v ≡ r.0.1 = r.2 in
        omega (arith, k, x, q)),
    strict l (λ f i. b f (inr i)) h.1 d.1,
  )

  are_pairs : (l : List Edge) → ((f : Edge) → In f l → f ≡ (u, f.1)) → pairs u (seconds l) ≡ l
  are_pairs [] b = refl
  are_pairs (e ∷ l) b = let q = b e (inl refl) in let r = are_pairs l (λ f i. b f (inr i)) in λ k. sym q k ∷ r k

  seconds_length : (l : List Edge) → length (seconds l) ≡ length l
  seconds_length [] = refl
  seconds_length (e ∷ l) = ap suc (seconds_length l)

  pairwise_left : (l k : List Edge) → Pairwise (λ e f. e ≢ f) (l ++ k) → Pairwise (λ e f. e ≢ f) l
  pairwise_left [] k h = tt
  pairwise_left (e ∷ l) k h = (all_from l (λ f i. all_at (λ g. e ≢ g) (l ++ k) h.0 f (in_left f l k i)), pairwise_left l k h.1)

  pairwise_right : (l k : List Edge) → Pairwise (λ e f. e ≢ f) (l ++ k) → Pairwise (λ e f. e ≢ f) k
  pairwise_right [] k h = h
  pairwise_right (e ∷ l) k h = pairwise_right l k h.1

  pairwise_part : (l : List ℕ) → In u l → Pairwise (λ e f. e ≢ f) (flat_map (front_at m) l) → Pairwise (λ e f. e ≢ f) (front_at m u)
  unfolding flat_map
  pairwise_part [] x'' h = elim x'' [ ]
  pairwise_part (x ∷ l) (inl q) h = subst (λ (y : ℕ). Pairwise (λ (e f : Edge). e ≢ f) (front_at m y)) (sym q) (pairwise_left (front_at m x) (flat_map (front_at m) l) h)
  pairwise_part (x ∷ l) (inr i) h = pairwise_part l i (pairwise_right (front_at m x) (flat_map (front_at m) l) h)

  module _ (known : u < length m.points) where
    ends : List ℕ
    ends = seconds (front_at m u)

    ends_up : Ascending ends
    unfolding ends front
    ends_up =
        strict (front_at m u) (λ f i. ap (λ (d : Edge). d.0) (at_of f i).0) at_weak
        (pairwise_part (below (length m.points)) (below_in (length m.points) u known) (front_differ m ok))

    ends_in : (v : ℕ) → Good m u v → In v ends
    unfolding ends
    ends_in v g = map_in (λ (e : Edge). e.1) (u, v) (front_at m u) (at_in v g)

    ends_of : (v : ℕ) → In v ends → Good m u v
    unfolding ends
    ends_of v i =
        let r = in_map (λ (e : Edge). e.1) v (front_at m u) i in
        subst (λ (x : ℕ). Good m u x) (sym r.2) (at_of r.0 r.1).1

    -- ascending numbers that are the second nodes of the front edges of u
    pub all_ends : (vs : List ℕ) → Ascending vs → ((v : ℕ) → In v vs → Good m u v) → ((v : ℕ) → Good m u v → In v vs) → pairs u vs ≡ front_at m u
    unfolding ends
    all_ends vs a f g =
        let same : vs ≡ ends = ascending_same vs ends a ends_up (λ v i. ends_in v (f v i)) (λ v i. g v (ends_of v i)) in
        ap (λ (l : List ℕ). pairs u l) same ∙ are_pairs (front_at m u) (λ e i. (at_of e i).0)

    -- some of them are no more than the front edges of u
    pub few_ends : (vs : List ℕ) → Distinct vs → ((v : ℕ) → In v vs → Good m u v) → length vs ≤ length (front_at m u)
    unfolding ends
    few_ends vs d f = omega (arith, no_more vs ends d (λ v i. ends_in v (f v i)), seconds_length (front_at m u))

    before_up : (l : List Edge) → ((f : Edge) → In f l → f.0 ≡ u) → Ascending (seconds l) → Pairwise (λ e f. edge_before e f ≡ true) l
    before_up [] b h = tt
    before_up (e ∷ l) b h = (
      all_from l (λ f i. before_at e f (b e (inl refl)) (b f (inr i)) ∙ lt-ltb e.1 f.1 (all_at (λ t. e.1 < t) (seconds l) h.0 f.1 (map_in (λ (g : Edge). g.1) f l i))),
      before_up l (λ f i. b f (inr i)) h.1,
    )

    -- they ascend
    pub at_ascending : Pairwise (λ e f. edge_before e f ≡ true) (front_at m u)
    unfolding ends
    at_ascending = before_up (front_at m u) (λ f i. ap (λ (d : Edge). d.0) (at_of f i).0) ends_up

  -- the front edges at u have u as their first node
  pub at_first : (e : Edge) → In e (front_at m u) → e.0 ≡ u
  at_first e i = ap (λ (d : Edge). d.0) (at_of e i).0

-- ---- the whole front

append_ascending : (l k : List Edge) → Pairwise (λ e f. edge_before e f ≡ true) l → Pairwise (λ e f. edge_before e f ≡ true) k
    → ((e f : Edge) → In e l → In f k → edge_before e f ≡ true) → Pairwise (λ e f. edge_before e f ≡ true) (l ++ k)
append_ascending [] k a b h = b
append_ascending (e ∷ l) k a b h = (
  all_from (l ++ k) (λ f i. elim (in_either f l k i) [ inl j ↦ all_at (λ g. edge_before e g ≡ true) l a.0 f j | inr j ↦ h e f (inl refl) j ]),
  append_ascending l k a.1 b (λ d f i j. h d f (inr i) j),
)

numbers_above : (a n v : ℕ) → In v (numbers a n) → a ≤ v
unfolding numbers
numbers_above a zero v i = absurd i
numbers_above a (suc n) v (inl e) = omega arith
numbers_above a (suc n) v (inr i) = let h = numbers_above (suc a) n v i in omega arith

first_before : (e f : Edge) → e.0 < f.0 → edge_before e f ≡ true
unfolding edge_before
first_before e f h = rw (lt-ltb e.0 f.0 h)

module _ (m : Mesh) (ok : Valid m) where
  from_ascending : (a n : ℕ) → a + n ≤ length m.points → Pairwise (λ e f. edge_before e f ≡ true) (flat_map (front_at m) (numbers a n))
  unfolding numbers flat_map
  from_ascending a zero h = tt
  from_ascending a (suc n) h =
      append_ascending (front_at m a) (flat_map (front_at m) (numbers (suc a) n)) (at_ascending m ok a (omega arith)) (from_ascending (suc a) n (omega arith))
      (λ e f i j.
      let g = in_flat_map (front_at m) f (numbers (suc a) n) j in
      first_before e f (omega (arith, at_first m ok a e i, at_first m ok g.0 f g.2, numbers_above (suc a) n g.0 g.1)))

  -- the front ascends
  pub front_ascending : Pairwise (λ e f. edge_before e f ≡ true) (front m)
  unfolding front below
  front_ascending = from_ascending 0 (length m.points) (omega arith)
