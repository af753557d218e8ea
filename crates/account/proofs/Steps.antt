-- What an attempt does to the mesh: flips and splits, then at most one quad. Whatever those keep, an attempt keeps.
use Rattle.std.specs.Prelude.{◌≡◌, ◌≢◌, ◌&&◌, ◌||◌, ◌+◌, ◌<◌, ◌≤◌, ◌∷◌, ◌++◌}
use Rattle.laws.specs.Kit.{refl, sym, ◌∙◌, ap, subst, inl, inr, true, false, Option, none, some, ℕ, zero, suc, arith, ltb, leb, ltb-false, leb-false, List, [], length, length-append, Float}
use Rattle.definition.specs.Lists.{below}
use Rattle.definition.specs.Floats.{◌⊗◌, ◌≼◌}
use Rattle.definition.specs.Numbers.{Quality, Settings, Turn, first_turn, second_turn, insert_shares, node_spacing, tiny_length}
use Rattle.definition.specs.Counts.{Refusal, Recovery, Spent, nothing_spent, inserting, trying}
use Rattle.definition.specs.Plane.{Node, Vec, Edge, norm, from_to, edge_length, size_mismatch}
use Rattle.definition.specs.Cells.{Tri, Quad, Cell, tri, quad, Live, Mesh, quad_nodes, quad_edges, born, node_at, cell_of, tri_owner, this_round, has_edge, all_edges, with_live, noting, set_cell, push_cell}
use Rattle.definition.specs.Trace.{in_room}
use Rattle.definition.specs.Flips.{flip, flip_first, first_crossing, recover_in, recover}
use Rattle.definition.specs.Candidates.{candidates}
use Rattle.definition.specs.Insertion.{Inserted, nowhere, inserted, full, holds, holder, point_clear, slot_clear, with_point, split_triangle, split, split_clear, insert_near, along, insert_by, insert_along}
use Rattle.definition.specs.Components.{removing_leaves_odd_component}
use Rattle.definition.specs.Region.{cell_inside, area_agrees, fills, may_go, spares_locked, if_filled, region_from, region}
use Rattle.definition.specs.Trials.{Trial, trials}
use Rattle.definition.specs.Attempt.{Tried, made, failed, orphaned, lacking, flipping, recover_all, replaced, replace, try_region, try_recovered, open_sides, try_pair, Attempt, placed, refused, ended, try_pairs, try_trials, Stance, Sides, found, missing, overfull, sides_by, sides_from, side_nodes, try_both, try_first, target_of, inward_normal, stance, try_along, lies_left, try_seed, try_owner, try_quad}
use Rattle.definition.specs.Account.{measures}
use Rattle.laws.specs.Bools.{which, or_none, cond_ok}
use Rattle.laws.specs.Lists.{In, in_filter, known, in_below}
use Rattle.account.proofs.Ends.{tri_owns}
use Rattle.account.specs.Flips.{TriAt}
use Rattle.account.proofs.Flips.{flip_tri_at, flip_points}
use Rattle.account.specs.Valid.{Valid}
use Rattle.account.proofs.Valid.{tris_in}
use Rattle.account.specs.Found.{Owner}
use Rattle.account.proofs.Found.{holder_in, crossing_in, owner_in}
use Rattle.account.specs.Rated.{Rated, Below}
use Rattle.account.proofs.Rated.{trials_rated}
use Rattle.account.specs.Steps.{AttemptOk, FlipsKeep, InsertedOk, Made, OnNormal, SidesOk, SplitsKeep, TriedOk}

-- ---- recovery
module _ (P : ℕ → Mesh → Type 0) (flips : FlipsKeep P) where
  flip_first_ok : (k : ℕ) (m m' : Mesh) (o : Option Edge) → P k m → ((e : Edge) → o ≡ some e → In e (all_edges m)) → flip_first m o ≡ some m' → P k m'
  unfolding flip_first
  flip_first_ok k m m' none p i e = absurd (let z : ◌≡◌ {A = ℕ} 0 1 = cc in omega arith)
  flip_first_ok k m m' (some f) p i e = flips k m m' f p (i f refl) e

  recover_in_ok : (n i k : ℕ) (m : Mesh) (u v : ℕ) → P k m → P k (recover_in n i m u v).mesh
  unfolding recover_in
  recover_in_ok zero i k m u v p = p
  recover_in_ok (suc n) i k m u v p = elim (which (has_edge m u v)) [
    | inl e ↦ rw (e, recover_in) p
    | inr e ↦ elim (known (flip_first m (first_crossing m u v))) [
      | inl f ↦ rw (e, recover_in, f) p
      | inr g ↦ elim (which (in_room g.0)) [
        | inl r ↦ rw (e, recover_in, g.1, r) (recover_in_ok n (suc i) k g.0 u v (flip_first_ok k m g.0 (first_crossing m u v) p (crossing_in m u v) g.1))
        | inr r ↦ rw (e, recover_in, g.1, r) p
      ]
    ]
  ]

  -- recovery is flips
  pub recover_ok : (k : ℕ) (m : Mesh) (u v : ℕ) → P k m → P k (recover m u v).mesh
  unfolding recover
  recover_ok k m u v p = recover_in_ok m.used 0 k m u v p

  -- the recovery of several sides is flips, which keep P
  pub recover_all_ok : (k : ℕ) (m : Mesh) (es : List Edge) → P k m → P k (recover_all m es).mesh
  unfolding recover_all flipping
  recover_all_ok k m [] p = p
  recover_all_ok k m (e ∷ es) p =
      let r = recover m e.0 e.1 in
      let p' : P k r.mesh = recover_ok k m e.0 e.1 p in
      elim (which r.there) [ inl f ↦ rw (f, recover_all) (recover_all_ok k r.mesh es p') | inr f ↦ rw (f, recover_all) p' ]

-- ---- insertion
-- a split adds a point
pub split_grows : (m : Mesh) (id : ℕ) (t : Tri) (p : Node) → (split_triangle m id t p).points ≡ m.points ++ (p ∷ [])
unfolding split_triangle push_cell set_cell with_live noting with_point
split_grows m id t p = refl

-- exactly one
pub split_count : (m : Mesh) (id : ℕ) (t : Tri) (p : Node) → length (split_triangle m id t p).points ≡ suc (length m.points)
split_count m id t p = ap length (split_grows m id t p) ∙ length-append m.points (p ∷ []) ∙ omega arith

module _ (s : Settings) (start : Mesh) (P : ℕ → Mesh → Type 0) (splits : SplitsKeep s start P) where
  split_ok : (k : ℕ) (m : Mesh) (p : Node) (x : Live) (c : Cell) → P k m → OnNormal s start m p → In x m.live → x.cell ≡ c
      → holds m p c ≡ true → InsertedOk P k (split s m p x.slot c)
  unfolding split
  split_ok k m p x (quad q) h on i e f = tt
  split_ok k m p x (tri t) h on i e f =
      cond_ok (InsertedOk P k) (leb s.capacity (length m.points)) _ _ (λ z. tt) (λ z. cond_ok (InsertedOk P k) (ltb s.slots (m.used + 2)) _ _ (λ y. tt)
      (λ y. cond_ok (InsertedOk P k) (in_room (split_triangle m x.slot t p)) _ _ (λ r. (
        splits k m x t p h
            (record { at = i; cell = e; held = f; point_left = leb-false s.capacity (length m.points) z; slots_left = ltb-false s.slots (m.used + 2) y; normal = on }),
        omega (arith, split_count m x.slot t p),
      )) (λ r. tt)))

  split_clear_ok : (k : ℕ) (m : Mesh) (p : Node) (spacing : Float) (o : Option Live) → P k m → OnNormal s start m p
      → ((x : Live) → o ≡ some x → In x m.live × (holds m p x.cell ≡ true)) → InsertedOk P k (split_clear s m p spacing o)
  unfolding split_clear
  split_clear_ok k m p spacing none h on i = tt
  split_clear_ok k m p spacing (some x) h on i =
      cond_ok (InsertedOk P k) (point_clear m p spacing x.cell) _ _ (λ z. split_ok k m p x x.cell h on (i x refl).0 refl (i x refl).1) (λ z. tt)

  insert_near_ok : (k : ℕ) (m : Mesh) (seed : ℕ) (p : Node) → P k m → OnNormal s start m p → InsertedOk P k (insert_near s m seed p)
  unfolding insert_near
  insert_near_ok k m seed p h on =
      let spacing = node_spacing ⊗ m.bucket in
      cond_ok (InsertedOk P k) (slot_clear m p spacing (cell_of m seed)) (split_clear s m p spacing (holder m seed p)) nowhere
      (λ z. split_clear_ok k m p spacing (holder m seed p) h on (holder_in m seed p)) (λ z. tt)

  insert_case : (k : ℕ) (m : Mesh) (seed : ℕ) (o : Node) (n : Vec) (target share : Float) (shares : List Float) (r : Inserted)
      → insert_near s m seed (along o n target share) ≡ r
      → InsertedOk P k r → InsertedOk P k (insert_by s m seed o n target shares) → InsertedOk P k (insert_by s m seed o n target (share ∷ shares))
  unfolding insert_by
  insert_case k m seed o n target share shares nowhere f ok next = rw (f, insert_by) next
  insert_case k m seed o n target share shares (inserted v m') f ok next = rw (f, insert_by) ok
  insert_case k m seed o n target share shares (full w) f ok next = rw (f, insert_by) tt

  insert_by_ok : (k : ℕ) (m : Mesh) (seed : ℕ) (o : Node) (n : Vec) (target : Float) (shares : List Float) → P k m
      → ((c : Float) → In c shares → OnNormal s start m (along o n target c)) → InsertedOk P k (insert_by s m seed o n target shares)
  unfolding insert_by
  insert_by_ok k m seed o n target [] h on = tt
  insert_by_ok k m seed o n target (c ∷ cs) h on =
      insert_case k m seed o n target c cs (insert_near s m seed (along o n target c)) refl (insert_near_ok k m seed (along o n target c) h (on c (inl refl)))
      (insert_by_ok k m seed o n target cs h (λ d i. on d (inr i)))

  -- ---- side nodes

  -- a stance of this attempt: where the length is off the target,
  -- every share of the target along the normal is on the normal
  abbrev pub Standing : Stance → Type 0
  Standing f = (m : Mesh) (p : ℕ) (c : Float) → In c insert_shares → f.mismatch ≡ true → OnNormal s start m (along (node_at m p) f.normal f.target c)

  sides_by_ok : (k : Spent) (m : Mesh) (r : Inserted) → P k.insertions m → InsertedOk P k.insertions r → SidesOk P (sides_by k m r)
  unfolding sides_by inserting
  sides_by_ok k m nowhere h ok = h
  sides_by_ok k m (inserted v m') h ok = (ok.0, λ u i. elim i [ inl e ↦ subst (λ z. z < length m'.points) (sym e) ok.1 | inr x3 ↦ elim x3 [ ] ])
  sides_by_ok k m (full w) h ok = h

  sides_from_ok : (f : Stance) (k : Spent) (m : Mesh) (p : ℕ) (cs : List ℕ) → Standing f → P k.insertions m → Below cs m → SidesOk P (sides_from s f k m p cs)
  unfolding sides_from insert_along
  sides_from_ok f k m p (c ∷ cs) on h b = (h, b)
  sides_from_ok f k m p [] on h b =
      cond_ok (SidesOk P) f.mismatch _ _ (λ z. sides_by_ok k m (insert_along s m f.seed (node_at m p) f.normal f.target) h
      (insert_by_ok k.insertions m f.seed (node_at m p) f.normal f.target insert_shares h (λ c i. on m p c i z))) (λ z. h)

  -- the side nodes at one end
  pub side_nodes_ok : (t : Turn) (f : Stance) (k : Spent) (m : Mesh) (p other : ℕ) → Standing f → P k.insertions m → SidesOk P (side_nodes s t f k m p other)
  unfolding side_nodes candidates
  side_nodes_ok t f k m p other on h =
      sides_from_ok f k m p (candidates s.quality t m p other f.seed f.normal f.target) on h
      (λ v i. in_below (length m.points) v (in_filter _ (below (length m.points)) i).0)

-- ---- pairs
-- the birth changes neither the region nor what the quad was rated by
pub born_rated : (y : Quality) (ps : List Node) (r k : ℕ) (q : Quad) → Rated y ps q → Rated y ps (born r k q)
unfolding born quad_nodes measures
born_rated y ps r k q h = record { good = record { distinct = h.good.distinct; below = h.good.below }; passing = h.passing; grown = h.grown }

born_filled : (m : Mesh) (r k : ℕ) (q : Quad) (o : Option (List Live)) → if_filled m (born r k q) o ≡ if_filled m q o
unfolding born if_filled fills cell_inside area_agrees spares_locked may_go quad_edges
born_filled m r k q none = refl
born_filled m r k q (some cells) = refl

born_from : (m : Mesh) (r k : ℕ) (q : Quad) (o : Option Live) → region_from m (born r k q) o ≡ region_from m q o
unfolding born region_from quad_edges
born_from m r k q none = refl
born_from m r k q (some x) = born_filled m r k q _

pub born_region : (m : Mesh) (seed r k : ℕ) (q : Quad) → region m seed (born r k q) ≡ region m seed q
unfolding region
born_region m seed r k q = born_from m r k q (cell_of m seed)

module _ (s : Settings) (P : ℕ → Mesh → Type 0) (flips : FlipsKeep P) where
  replace_ok : (k j : ℕ) (m : Mesh) (q : Quad) (seed : ℕ) (cells : List Live) → P k m → TriAt m seed → Rated s.quality m.points q
      → region m seed q ≡ some cells
      → (s.even ≡ true → removing_leaves_odd_component m cells ≡ false) → TriedOk s P k m.points (replace s j m q cells)
  unfolding replace born
  replace_ok k j m q seed cells h sd r e f =
      cond_ok (TriedOk s P k m.points) (ltb s.slots (m.used + 1)) _ _ (λ z. h)
      (λ z. cond_ok (TriedOk s P k m.points) (in_room (replaced m (born (this_round m) (length cells) q) cells)) _ _ (λ y. record {
        mesh = m;
        before = h;
        seed = seed;
        seed_tri = sd;
        cells = cells;
        reached = born_region m seed (this_round m) (length cells) q ∙ e;
        none_odd = f;
        slot_left = ltb-false s.slots (m.used + 1) z;
        trial = born_rated s.quality m.points (this_round m) (length cells) q r;
        in_round = refl;
        in_place_of = refl;
        after = refl;
      }) (λ y. h))

  try_region_ok : (k j : ℕ) (m : Mesh) (q : Quad) (seed : ℕ) (o : Option (List Live)) → P k m → TriAt m seed → Rated s.quality m.points q
      → region m seed q ≡ o → TriedOk s P k m.points (try_region s j m q o)
  unfolding try_region
  try_region_ok k j m q seed none h sd r e = (h, refl)
  try_region_ok k j m q seed (some cells) h sd r e =
      cond_ok (TriedOk s P k m.points) (s.even && removing_leaves_odd_component m cells) _ _ (λ z. (h, refl))
      (λ z. replace_ok k j m q seed cells h sd r e (λ ev. rw ev at z))

  try_pair_ok : (k : ℕ) (m : Mesh) (q : Quad) (o : Option Live) → P k m → Rated s.quality m.points q → ((x : Live) → o ≡ some x → TriAt m x.slot)
      → TriedOk s P k m.points (try_pair s m q o)
  unfolding try_pair try_recovered
  try_pair_ok k m q none h r sd = tt
  try_pair_ok k m q (some x) h r sd =
      let w = recover_all m (open_sides q) in
      let kept : P k w.mesh × TriAt w.mesh x.slot × (w.mesh.points ≡ m.points) =
      recover_all_ok (λ n a. P n a × TriAt a x.slot × (a.points ≡ m.points))
      (λ n a b e h i f. (flips n a b e h.0 i f, flip_tri_at a e b x.slot f h.1, flip_points a e b f ∙ h.2)) k m (open_sides q) (h, sd x refl, refl) in
      let r' = subst (λ ps. Rated s.quality ps q) (sym kept.2) r in
      cond_ok (TriedOk s P k m.points) w.there _ _
      (λ z. subst (λ ps. TriedOk s P k ps (try_region s w.flips w.mesh q (region w.mesh x.slot q))) kept.2 (try_region_ok k w.flips w.mesh q x.slot (region w.mesh x.slot q) kept.0 kept.1 r' refl))
      (λ z. cond_ok (TriedOk s P k m.points) w.short _ _ (λ y. kept.0) (λ y. (kept.0, kept.2)))

  try_pairs_case : (k : Spent) (m : Mesh) (e : Edge) (last : Refusal) (t : Trial) (ts : List Trial) (r : Tried) → P k.insertions m
      → try_pair s m t.nodes (tri_owner m e) ≡ r → TriedOk s P k.insertions m.points r
      → ((j : ℕ) (why : Refusal) (m' : Mesh) → P k.insertions m' → m'.points ≡ m.points → AttemptOk s P (try_pairs s (trying j k) m' e why ts)) → AttemptOk s P (try_pairs s k m e last (t ∷ ts))
  unfolding try_pairs trying
  try_pairs_case k m e last t ts (made j q m') h f ok next = rw (f, try_pairs) ok
  try_pairs_case k m e last t ts (failed j why m') h f ok next = rw (f, try_pairs) (next j why m' ok.0 ok.1)
  try_pairs_case k m e last t ts orphaned h f ok next = rw (f, try_pairs) h
  try_pairs_case k m e last t ts (lacking w j m') h f ok next = rw (f, try_pairs) ok

  owner_at : (m : Mesh) (e : Edge) (x : Live) → tri_owner m e ≡ some x → TriAt m x.slot
  owner_at m e x f = let w = owner_in m e x f in record { x = x; at = w.at; slot_is = refl; is_one = w.is_one }

  try_pairs_ok : (k : Spent) (m : Mesh) (e : Edge) (last : Refusal) (ts : List Trial) → P k.insertions m → ((t : Trial) → In t ts → Rated s.quality m.points t.nodes)
      → AttemptOk s P (try_pairs s k m e last ts)
  unfolding try_pairs trying
  try_pairs_ok k m e last [] h r = h
  try_pairs_ok k m e last (t ∷ ts) h r =
      try_pairs_case k m e last t ts (try_pair s m t.nodes (tri_owner m e)) h refl (try_pair_ok k.insertions m t.nodes (tri_owner m e) h (r t (inl refl)) (owner_at m e))
      (λ j why m' h' same. try_pairs_ok (trying j k) m' e why ts h' (λ u i. subst (λ ps. Rated s.quality ps u.nodes) (sym same) (r u (inr i))))

  -- the pairs in their order
  pub try_trials_ok : (k : Spent) (m : Mesh) (e : Edge) (ts : List Trial) → P k.insertions m → ((t : Trial) → In t ts → Rated s.quality m.points t.nodes)
      → AttemptOk s P (try_trials s k m e ts)
  unfolding try_trials
  try_trials_ok k m e [] h r = h
  try_trials_ok k m e (t ∷ ts) h r = try_pairs_ok k m e Recovery (t ∷ ts) h r

-- ---- one attempt
-- P, and the numbers of the list are those of points: what flips and splits keep of P, they keep of both
module _ (s : Settings) (start : Mesh) (P : ℕ → Mesh → Type 0) (vs : List ℕ) where
  abbrev pub With : ℕ → Mesh → Type 0
  With n m = P n m × Below vs m

  with_flips : FlipsKeep P → FlipsKeep With
  with_flips flips n m m' e h i f = (flips n m m' e h.0 i f, λ v j. subst (λ ps. v < length ps) (sym (flip_points m e m' f)) (h.1 v j))

  with_splits : SplitsKeep s start P → SplitsKeep s start With
  with_splits splits n m x t p h w = (splits n m x t p h.0 w, λ v j. let l = h.1 v j in omega (arith, split_count m x.slot t p))

-- what holds with more holds
pub made_weaker : (s : Settings) (P R : ℕ → Mesh → Type 0) → ((n : ℕ) (m : Mesh) → P n m → R n m) → (n : ℕ) (m : Mesh) (q : Quad) → Made s P n m q → Made s R n m q
made_weaker s P R f n m q w =
    record { mesh = w.mesh; before = f n w.mesh w.before; seed = w.seed; seed_tri = w.seed_tri; cells = w.cells; reached = w.reached; none_odd = w.none_odd; slot_left = w.slot_left; trial = w.trial; in_round = w.in_round; in_place_of = w.in_place_of; after = w.after }

-- of an attempt
pub weaker : (s : Settings) (P R : ℕ → Mesh → Type 0) → ((n : ℕ) (m : Mesh) → P n m → R n m) → (a : Attempt) → AttemptOk s P a → AttemptOk s R a
weaker s P R f (placed n m q) ok = made_weaker s P R f n.insertions m q ok
weaker s P R f (refused why n m) ok = f n.insertions m ok
weaker s P R f (ended w n m) ok = f n.insertions m ok

module _ (s : Settings) (start : Mesh) (P : ℕ → Mesh → Type 0) (flips : FlipsKeep P) (splits : SplitsKeep s start P) where
  -- the ends a and b are nodes of the points, and cs are side nodes at a
  module _ (f : Stance) (two : f.a ≢ f.b) (on : Standing s start P splits f) where
    -- the ends of the edge
    abbrev ends : List ℕ
    ends = f.a ∷ f.b ∷ []

    try_both_ok : (cs : List ℕ) (r : Sides) → SidesOk (With s start (With s start P ends) cs) r → AttemptOk s P (try_both s f cs r)
    unfolding try_both
    try_both_ok cs (missing k m) h = h.0.0
    try_both_ok cs (overfull w k m) h = h.0.0
    try_both_ok cs (found ds k m) h = try_trials_ok s P flips k m f.edge (trials s.quality m f.a f.b cs ds) h.0.0.0
        (trials_rated s.quality m f.a f.b two h.0.0.1 cs ds h.0.1 h.1)

    try_first_ok : (r : Sides) → SidesOk (With s start P ends) r → AttemptOk s P (try_first s f r)
    unfolding try_first
    try_first_ok (missing k m) h = h.0
    try_first_ok (overfull w k m) h = h.0
    try_first_ok (found cs k m) h =
        let P₁ = With s start P ends in
        let s₁ = with_splits s start P ends splits in
        try_both_ok cs (side_nodes s second_turn f k m f.b f.a)
        (side_nodes_ok s start (With s start P₁ cs) (with_splits s start P₁ cs s₁) second_turn f k m f.b f.a on h)

  try_along_ok : (e : Edge) (seed a b : ℕ) → a ≢ b → Below (a ∷ b ∷ []) start → P 0 start → AttemptOk s P (try_along s start e seed a b)
  unfolding try_along stance nothing_spent
  try_along_ok e seed a b two near h =
      let f = stance s start e seed a b in
      let long = norm (from_to (node_at start a) (node_at start b)) in
      let short = f.target ≼ tiny_length in
      cond_ok (AttemptOk s P) (short || long ≼ tiny_length) _ _ (λ z. h)
      (λ z.
      let on : Standing s start P splits f = λ m p c i off. record { a = a; b = b; end = p; share = c; among = i; off = off; long = (or_none short (long ≼ tiny_length) z).1; place = refl } in
      try_first_ok f two on (side_nodes s first_turn f nothing_spent start a b)
      (side_nodes_ok s start (With s start P (a ∷ b ∷ [])) (with_splits s start P (a ∷ b ∷ []) splits) first_turn f nothing_spent start a b on (h, near)))

  try_seed_ok : (e : Edge) (seed : ℕ) (c : Cell) → e.0 ≢ e.1 → ((t : Tri) → c ≡ tri t → Below (e.0 ∷ e.1 ∷ []) start) → P 0 start
      → AttemptOk s P (try_seed s start e seed c)
  unfolding try_seed nothing_spent
  try_seed_ok e seed (quad q) two near h = h
  try_seed_ok e seed (tri t) two near h =
      elim (lies_left start e t) as (λ left. AttemptOk s P (elim left [ true ↦ try_along s start e seed e.0 e.1 | false ↦ try_along s start e seed e.1 e.0 ])) [
        | true ↦ try_along_ok e seed e.0 e.1 two (near t refl) h
        | false ↦ try_along_ok e seed e.1 e.0 (λ z. two (sym z)) (λ v i. near t refl v (elim i [ inl x ↦ inr (inl x) | inr (inl x) ↦ inl x | inr (inr x5) ↦ elim x5 [ ] ])) h
      ]

  owner_below : (e : Edge) (x : Live) → Valid start → Owner start e x → (t : Tri) → x.cell ≡ tri t → Below (e.0 ∷ e.1 ∷ []) start
  owner_below e x ok w t c v i =
      let g = ok.tris t (tris_in start.live x t w.at c) in
      let h = tri_owns e x t c w.owning in
      elim i [ inl z ↦ subst (λ n. n < length start.points) (sym z) (g.below e.0 h.0) | inr (inl z) ↦ subst (λ n. n < length start.points) (sym z) (g.below e.1 h.1) | inr (inr x3) ↦ elim x3 [ ] ]

  try_owner_ok : (e : Edge) (o : Option Live) → e.0 ≢ e.1 → Valid start → ((x : Live) → o ≡ some x → Owner start e x) → P 0 start
      → AttemptOk s P (try_owner s start e o)
  unfolding try_owner nothing_spent
  try_owner_ok e none two ok w h = h
  try_owner_ok e (some x) two ok w h = try_seed_ok e x.slot x.cell two (owner_below e x ok (w x refl)) h

  -- whatever flips and splits keep, an attempt keeps; a quad that it places was rated
  pub try_quad_ok : (e : Edge) → e.0 ≢ e.1 → Valid start → P 0 start → AttemptOk s P (try_quad s start e)
  unfolding try_quad
  try_quad_ok e two ok h = try_owner_ok e (tri_owner start e) two ok (owner_in start e) h
