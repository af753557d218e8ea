-- An edge that is on the front when an attempt on it begins keeps an odd number of triangles
use Rattle.std.specs.Prelude.{◌≡◌, ◌≢◌, ◌&&◌, ◌+◌, ◌<◌, ◌∷◌, ◌++◌}
use Rattle.laws.specs.Kit.{refl, sym, subst, inl, inr, true, Option, none, some, ℕ, arith, ltb, List, [], length}
use Rattle.definition.specs.Lists.{filter, first}
use Rattle.definition.specs.Numbers.{Settings}
use Rattle.definition.specs.Counts.{Refusal, Placement, Shape, Recovery, Region, OddRegion, Spent, trying}
use Rattle.definition.specs.Plane.{Node, Edge}
use Rattle.definition.specs.Cells.{Tri, Quad, tri, Live, Mesh, live_tri, is_tri, has_side, owns, owners, tri_owners, tri_owner, all_edges, tris_of, is_front}
use Rattle.definition.specs.Flips.{third, flip}
use Rattle.definition.specs.Insertion.{split_triangle}
use Rattle.definition.specs.Components.{removing_leaves_odd_component}
use Rattle.definition.specs.Region.{region}
use Rattle.definition.specs.Trials.{Trial}
use Rattle.definition.specs.Trace.{in_room}
use Rattle.definition.specs.Attempt.{Tried, made, failed, orphaned, lacking, recover_all, replace, try_region, try_recovered, open_sides, try_pair, Attempt, placed, refused, ended, try_pairs, try_trials, try_quad}
use Rattle.laws.specs.Bools.{cond_ok}
use Rattle.laws.specs.Lists.{In, filter_in}
use Rattle.account.proofs.Rearranged.{same_path}
use Rattle.account.specs.Triangles.{Has}
use Rattle.account.proofs.Triangles.{corners, own_corners}
use Rattle.account.proofs.Flips.{flip_made, flip_points}
use Rattle.account.specs.Valid.{Valid}
use Rattle.account.proofs.Valid.{in_tris}
use Rattle.account.proofs.FlipKeeps.{rest, third_s, third_t, free, old_like, new_tris, in_order, flip_kept}
use Rattle.account.proofs.SplitKeeps.{left, t1, t2, t3, new_node, split_tris, good, at_new, old_split, split_kept}
use Rattle.account.specs.Steps.{FlipsKeep, SplitsKeep, AttemptOk}
use Rattle.account.proofs.Steps.{recover_all_ok, split_count, try_quad_ok}
use Rattle.account.specs.Roles.{side, Four}
use Rattle.account.specs.Refused.{Refused}
use Rattle.account.proofs.Refused.{refused_as, flip_refused, split_refused}
use Rattle.account.proofs.Tracked.{front_odd}
use Rattle.account.specs.Pairs.{pairs_of, turns, PairsRule}
use Rattle.account.proofs.Pairs.{attempt_pairs}
use Rattle.account.specs.Owners.{ByPair, Other}

-- an odd number of live triangles has the edge
pub record Fronted (m : Mesh) (e : Edge) : Type 0 where
  pub order : e.0 < e.1
  pub below : e.1 < length m.points
  pub kept : Refused [] (tris_of m.live) ⊥ e

-- a front edge has an odd number of live triangles
pub front_fronted : (m : Mesh) (e : Edge) → Valid m → e.0 < e.1 → is_front m e ≡ true → Fronted m e
front_fronted m e ok l h = let f = front_odd m e ok l h in record { order = l; below = f.0; kept = inr (f.1, inr f.2) }

-- a flip keeps it
pub flip_fronted : (m m' : Mesh) (e f : Edge) → Valid m → In e (all_edges m) → flip m e ≡ some m' → Fronted m f → Fronted m' f
flip_fronted m m' e f ok at g h =
    let w = flip_made m e m' g in
    let ts = third_s m e m' ok at w in
    let us = third_t m e m' ok at w in
    let o = in_order m e m' ok at w in
    let r = rest m e m' ok at w in
    let four : Four e.0 e.1 (third w.s e) (third w.t e) =
    record { uv = λ z. omega arith; up = λ z. ts.not_u (sym z); uq = λ z. us.not_u (sym z); vp = λ z. ts.not_v (sym z); vq = λ z. us.not_v (sym z); pq = w.differ } in
    let l = h.order in
    let a : Refused [] (r ++ (w.s ∷ w.t ∷ [])) ⊥ f = refused_as [] (tris_of m.live) _ ⊥ ⊥ f (old_like m e m' ok at w) (λ q. q) h.kept in
    let b : Refused [] (r ++ (w.s' ∷ w.t' ∷ [])) ⊥ f =
    flip_refused [] r e.0 e.1 (third w.s e) (third w.t e) w.s w.t w.s' w.t' four ts.nodes us.nodes w.corners_s w.corners_t
    (free m e m' ok at w) ⊥ f (λ z. omega arith) (λ c q. q) a in
    record {
      order = l;
      below = subst (λ ps. f.1 < length ps) (sym (flip_points m e m' g)) h.below;
      kept = refused_as [] (r ++ (w.s' ∷ w.t' ∷ [])) (tris_of m'.live) ⊥ ⊥ f (same_path _ _ (sym (new_tris m e m' ok at w))) (λ q. q) b;
    }

-- a split keeps the odd number of live triangles
pub split_fronted : (m : Mesh) (x : Live) (t : Tri) (p : Node) (f : Edge) → Valid m → In x m.live → x.cell ≡ tri t → Fronted m f → Fronted (split_triangle m x.slot t p) f
unfolding t1 t2 t3 new_node
split_fronted m x t p f ok at cell h =
    let v = new_node m x t p ok at cell in
    let g = (good m x t p ok at cell).distinct in
    let new : (a : ℕ) → Has t a → a ≢ v = at_new m x t p ok at cell in
    let l = h.order in
    let b = h.below in
    let r = tris_of (left m x t p ok at cell) in
    let four : Four t.n0 t.n1 t.n2 v =
    record { uv = g.d01; up = λ z. g.d20 (sym z); uq = new t.n0 (inl refl); vp = g.d12; vq = new t.n1 (inr (inl refl)); pq = new t.n2 (inr (inr refl)) } in
    let a : Refused [] (r ++ (t ∷ [])) ⊥ f = refused_as [] (tris_of m.live) _ ⊥ ⊥ f (old_split m x t p ok at cell) (λ q. q) h.kept in
    let c = split_refused [] r t.n0 t.n1 t.n2 v t (t1 m x t p ok at cell) (t2 m x t p ok at cell) (t3 m x t p ok at cell) four
    (own_corners t)
    (corners t.n0 t.n1 v) (corners t.n1 t.n2 v) (corners t.n2 t.n0 v) ⊥ f (λ z. omega arith) (λ z. omega arith) (λ z. omega arith) a in
    record {
      order = l;
      below = omega (arith, split_count m x.slot t p);
      kept = refused_as [] _ (tris_of (split_triangle m x.slot t p).live) ⊥ ⊥ f (same_path _ _ (sym (split_tris m x t p ok at cell))) (λ q. q) c;
    }

first_some : {A : Type 0} (x : A) (xs : List A) → In x xs → (y : A) × (first xs ≡ some y)
unfolding first
first_some {A = A} x [] i = elim i [ ]
first_some x (y ∷ ys) i = (y, refl)

-- a triangle owns the edge
pub owner_there : (m : Mesh) (e : Edge) → Fronted m e → (x : Live) × (tri_owner m e ≡ some x)
unfolding tri_owner tri_owners owners owns has_side live_tri is_tri side
owner_there m e h = elim h.kept [
  | inl d ↦ absurd d.1
  | inr k ↦
      let z = in_tris m.live k.0.0 k.0.1 in
      let has : owns e z.0 ≡ true = rw z.2 k.0.2 in
      let one : live_tri z.0 ≡ true = rw z.2 refl in
      first_some z.0 (filter live_tri (owners m e)) (filter_in live_tri (owners m e) (filter_in (owns e) m.live z.1 has) one)
]

other : (why : Refusal) → Other why → why ≢ Placement
other why h e = subst Other e h

-- where there was a pair
abbrev pub ByPairs : List Trial → Attempt → Type 0
ByPairs good a = good ≢ [] → ByPair a

module _ (s : Settings) (e : Edge) where
  -- the mesh is valid, and the edge keeps an odd number of triangles
  abbrev pub Owned : ℕ → Mesh → Type 0
  Owned n m = Valid m × Fronted m e

  pub owned_flips : FlipsKeep Owned
  owned_flips n m m' f h i w = ((flip_kept m f m' h.0 i (flip_made m f m' w)).valid, flip_fronted m m' f e h.0 i w h.1)

  pub owned_splits : (start : Mesh) → SplitsKeep s start Owned
  owned_splits start n m x t p h w = ((split_kept m x t p h.0 w.at w.cell).valid, split_fronted m x t p e h.0 w.at w.cell h.1)

  -- what a pair leaves
  abbrev Fine : Tried → Type 0
  Fine (made j q m) = Unit {0}
  Fine (failed j why m) = (why ≢ Placement) × Owned 0 m
  Fine orphaned = ⊥
  Fine (lacking w j m) = Unit {0}

  region_fine : (j : ℕ) (m : Mesh) (q : Quad) (o : Option (List Live)) → Owned 0 m → Fine (try_region s j m q o)
  unfolding try_region replace
  region_fine j m q none h = (other Region tt, h)
  region_fine j m q (some cells) h =
      cond_ok Fine (s.even && removing_leaves_odd_component m cells) _ _ (λ z. (other OddRegion tt, h))
      (λ z. cond_ok Fine (ltb s.slots (m.used + 1)) _ _ (λ y. tt) (λ y. cond_ok Fine (in_room _) _ _ (λ x. tt) (λ x. tt)))

  pair_fine : (m : Mesh) (q : Quad) → Owned 0 m → Fine (try_pair s m q (tri_owner m e))
  unfolding try_pair try_recovered
  pair_fine m q h =
      let o = owner_there m e h.1 in
      let r = recover_all m (open_sides q) in
      let k = recover_all_ok Owned owned_flips 0 m (open_sides q) h in
      rw o.1 (cond_ok Fine r.there _ _ (λ z. region_fine r.flips r.mesh q (region r.mesh o.0.slot q) k) (λ z. cond_ok Fine r.short _ _ (λ y. tt) (λ y. (other Recovery tt, k))))

  -- no pair finds the edge without an owner
  pub never_orphaned : (m : Mesh) (q : Quad) → Owned 0 m → try_pair s m q (tri_owner m e) ≢ orphaned
  never_orphaned m q h f = subst Fine f (pair_fine m q h)

  pairs_case : (n : Spent) (m : Mesh) (last : Refusal) (t : Trial) (ts : List Trial) (r : Tried) → try_pair s m t.nodes (tri_owner m e) ≡ r → Fine r
      → ((j : ℕ) (why : Refusal) (m' : Mesh) → why ≢ Placement → Owned 0 m' → ByPair (try_pairs s (trying j n) m' e why ts)) → ByPair (try_pairs s n m e last (t ∷ ts))
  unfolding try_pairs
  pairs_case n m last t ts (made j q m') f h next = rw (f, try_pairs) tt
  pairs_case n m last t ts (failed j why m') f h next = rw (f, try_pairs) (next j why m' h.0 h.1)
  pairs_case n m last t ts orphaned f h next = absurd h
  pairs_case n m last t ts (lacking w j m') f h next = rw (f, try_pairs) tt

  pairs_by : (n : Spent) (m : Mesh) (last : Refusal) (ts : List Trial) → last ≢ Placement → Owned 0 m → ByPair (try_pairs s n m e last ts)
  unfolding try_pairs
  pairs_by n m last [] l h = l
  pairs_by n m last (t ∷ ts) l h = pairs_case n m last t ts (try_pair s m t.nodes (tri_owner m e)) refl (pair_fine m t.nodes h) (λ j why m' l' h'. pairs_by (trying j n) m' why ts l' h')

  trials_by : (n : Spent) (m : Mesh) (ts : List Trial) → Owned 0 m → ByPair (try_trials s n m e ts)
  unfolding try_trials
  trials_by n m [] h = other Shape tt
  trials_by n m (t ∷ ts) h = pairs_by n m Recovery (t ∷ ts) (other Recovery tt) h

  by_rule : PairsRule s e Owned (λ n. Unit {0}) ByPairs
  by_rule = record {
    nothing = tt;
    inserts = λ n h. tt;
    refuses = λ n m h some. absurd (some refl);
    ends = λ w n m h some. tt;
    tries = λ n m good h own some. trials_by n m (turns s good) own;
  }

-- an attempt on a front edge that had an acceptable pair is not refused under placement: `orphaned` ends none
pub not_by_placement : (s : Settings) (m : Mesh) (e : Edge) → Valid m → e.0 < e.1 → is_front m e ≡ true → ByPairs (pairs_of s m e) (try_quad s m e)
not_by_placement s m e ok l h = attempt_pairs s e m (Owned s e) (owned_splits s e m) (λ n. Unit {0}) ByPairs (by_rule s e) (ok, front_fronted m e ok l h)

-- a refused attempt leaves its edge with an odd number of triangles
pub refused_fronted : (s : Settings) (m m' : Mesh) (e : Edge) (why : Refusal) (n : Spent) → Valid m → e.0 < e.1 → is_front m e ≡ true → try_quad s m e ≡ refused why n m' → Fronted m' e
refused_fronted s m m' e why n ok l h f =
    let w = try_quad_ok s m (Owned s e) (owned_flips s e) (owned_splits s e m) e (λ z. omega arith) ok (ok, front_fronted m e ok l h) in
    let k : Owned s e n.insertions m' = subst (λ a. AttemptOk s (Owned s e) a) f w in
    k.1
