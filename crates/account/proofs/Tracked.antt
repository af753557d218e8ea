-- Edges that were refused, or wait as candidates, over a mesh: what flips, splits and quads keep of them,
use Rattle.std.specs.Prelude.{◌≡◌, ◌≢◌, ◌+◌, ◌*◌, ◌<◌, ◌≤◌, ◌∷◌, ◌++◌}
use Rattle.laws.specs.Kit.{refl, sym, ◌∙◌, ap, subst, inl, inr, true, false, not, some, ℕ, arith, eqb, leb, eqb-true, List, [], length, length-append}
use Rattle.definition.specs.Lists.{filter, flat_map}
use Rattle.definition.specs.Numbers.{Settings}
use Rattle.definition.specs.Plane.{Node, Edge}
use Rattle.definition.specs.Cells.{Tri, Quad, Cell, tri, quad, Live, Mesh, live_tri, is_tri, has_side, owns, owners, all_edges, tri_of, tris_of, is_front, front_owners, with_live, noting, set_cell, among, without_all}
use Rattle.definition.specs.Flips.{third, set_tris, flip}
use Rattle.definition.specs.Insertion.{split_triangle}
use Rattle.definition.specs.Region.{region}
use Rattle.definition.specs.Attempt.{replaced}
use Rattle.definition.specs.Account.{Pairwise}
use Rattle.laws.specs.Bools.{which, both}
use Rattle.laws.specs.Lists.{In, in_left, filter_yes, filter_no, in_filter, filter_in}
use Rattle.account.proofs.Rearranged.{same_path, same_length}
use Rattle.account.specs.Triangles.{Has}
use Rattle.account.proofs.Triangles.{corners, own_corners}
use Rattle.account.specs.Even.{odd, xor, parity}
use Rattle.account.specs.Flips.{Flipped, TriAt}
use Rattle.account.proofs.Flips.{flip_made}
use Rattle.account.proofs.Ends.{tri_owns}
use Rattle.account.specs.Valid.{Valid}
use Rattle.account.proofs.Valid.{one_cell, parted, without_in, tris_in, not_both}
use Rattle.account.proofs.FlipKeeps.{rest, third_s, third_t, free, old_like, new_tris, own_x, own_y, owner, in_order, still_there}
use Rattle.account.proofs.SplitKeeps.{left, t1, t2, t3, l1, l2, l3, new_node, split_live, split_tris, good, at_new, old_split}
use Rattle.account.proofs.QuadKeeps.{remaining, replaced_live, replaced_used, replaced_points, quad_tris}
use Rattle.account.proofs.Found.{is_a_tri, region_slot_tri}
use Rattle.account.proofs.Steps.{split_count}
use Rattle.account.proofs.Rooms.{split_used}
use Rattle.account.specs.Roles.{side, Four}
use Rattle.account.specs.Refused.{Among, Refused}
use Rattle.account.proofs.Refused.{refused_as, flip_refused, split_refused, quad_refused, at_most_three}
use Rattle.account.specs.Tracked.{QuadHas}

-- e is on the front, or once was
pub record Ever (dead : List Tri) (m : Mesh) (e : Edge) : Type 0 where
  pub order : e.0 < e.1
  pub below : e.1 < length m.points
  pub kept : Refused dead (tris_of m.live) (QuadHas m e) e

-- a slot is that of a live triangle, of a dead one, or of none
abbrev pub Room : List Tri → Mesh → Type 0
Room dead m = length dead + length (tris_of m.live) ≤ m.used

-- ---- a flip
module _ (m : Mesh) (e : Edge) (m' : Mesh) (ok : Valid m) (at : In e (all_edges m)) (w : Flipped m e m') (dead : List Tri) where
  quad_stays : (f : Edge) → QuadHas m f → QuadHas m' f
  quad_stays f h = record {
    x = h.x;
    q = h.q;
    cell = h.cell;
    has = h.has;
    at = still_there m e m' ok at w h.x h.at
        (λ g. not_both h.q w.s (sym h.cell ∙ ap (λ l. l.cell) (one_cell m.live h.x w.x ok.slots h.at (own_x m e m' ok at w).0 g) ∙ w.cell_x))
        (λ g. not_both h.q w.t (sym h.cell ∙ ap (λ l. l.cell) (one_cell m.live h.x w.y ok.slots h.at (own_y m e m' ok at w).0 g) ∙ w.cell_y));
  }

  no_quad : QuadHas m e → ⊥
  unfolding owns
  no_quad h = elim (owner m e m' ok at w h.x h.at (rw h.cell h.has)) [
    | inl f ↦ not_both h.q w.s (sym h.cell ∙ ap (λ l. l.cell) f ∙ w.cell_x)
    | inr f ↦ not_both h.q w.t (sym h.cell ∙ ap (λ l. l.cell) f ∙ w.cell_y)
  ]

  flip_ever : (f : Edge) → Ever dead m f → Ever dead m' f
  unfolding set_tris set_cell with_live noting
  flip_ever f h =
      let ts = third_s m e m' ok at w in
      let tt' = third_t m e m' ok at w in
      let o = in_order m e m' ok at w in
      let r = rest m e m' ok at w in
      let four : Four e.0 e.1 (third w.s e) (third w.t e) =
      record { uv = λ g. omega arith; up = λ g. ts.not_u (sym g); uq = λ g. tt'.not_u (sym g); vp = λ g. ts.not_v (sym g); vq = λ g. tt'.not_v (sym g); pq = w.differ } in
      let l = h.order in
      let a : Refused dead (r ++ (w.s ∷ w.t ∷ [])) (QuadHas m f) f = refused_as dead (tris_of m.live) _ (QuadHas m f) (QuadHas m f) f (old_like m e m' ok at w) (λ q. q) h.kept in
      let b : Refused dead (r ++ (w.s' ∷ w.t' ∷ [])) (QuadHas m f) f =
      flip_refused dead r e.0 e.1 (third w.s e) (third w.t e) w.s w.t w.s' w.t' four ts.nodes tt'.nodes w.corners_s w.corners_t
      (free m e m' ok at w) (QuadHas m f) f (λ g. omega arith)
      (λ c q. elim c [
        | inl g ↦ no_quad (subst (λ z. QuadHas m z) (λ i. (g.0 i, g.1 i)) q)
        | inr g ↦ let g0 = g.0 in let g1 = g.1 in absurd (omega arith)
      ])
      a in
      record {
        order = l;
        below = subst (λ n. f.1 < length n.points) (sym w.after) h.below;
        kept = refused_as dead (r ++ (w.s' ∷ w.t' ∷ [])) (tris_of m'.live) (QuadHas m f) (QuadHas m' f) f (same_path _ _ (sym (new_tris m e m' ok at w))) (quad_stays f) b;
      }

  flip_room : Room dead m → Room dead m'
  unfolding set_tris set_cell with_live noting
  flip_room h =
      let r = rest m e m' ok at w in
      let a = same_length (tris_of m.live) (r ++ (w.s ∷ w.t ∷ [])) (old_like m e m' ok at w) in
      let b : length (tris_of m'.live) ≡ length (r ++ (w.s' ∷ w.t' ∷ [])) = ap length (new_tris m e m' ok at w) in
      let c = length-append r (w.s ∷ w.t ∷ []) in
      let d = length-append r (w.s' ∷ w.t' ∷ []) in
      let u : m'.used ≡ m.used = ap (λ n. n.used) w.after in
      omega arith

-- ---- a split
module _ (m : Mesh) (x : Live) (t : Tri) (p : Node) (ok : Valid m) (at : In x m.live) (cell : x.cell ≡ tri t) (dead : List Tri) where
  -- the mesh with the triangle split
  abbrev parts : Mesh
  parts = split_triangle m x.slot t p

  quad_stays_split : (f : Edge) → QuadHas m f → QuadHas parts f
  unfolding left
  quad_stays_split f h =
      let y = h.x in
      let other : y.slot ≢ x.slot = λ g. not_both h.q t (sym h.cell ∙ ap (λ l. l.cell) (one_cell m.live y x ok.slots h.at at g) ∙ cell) in
      let a = left m x t p ok at cell in
      let l = l1 m x t p ok at cell ∷ [] in
      let k = l2 m x t p ok at cell ∷ [] in
      record {
        x = y;
        q = h.q;
        cell = h.cell;
        has = h.has;
        at = subst (λ z. In y z) (sym (split_live m x t p ok at cell))
            (in_left y ((a ++ l) ++ k) (l3 m x t p ok at cell ∷ []) (in_left y (a ++ l) k (in_left y a l (without_in x.slot y m.live h.at other))));
      }

  split_ever : (f : Edge) → Ever dead m f → Ever dead parts f
  unfolding t1 t2 t3 new_node
  split_ever f h =
      let v = new_node m x t p ok at cell in
      let g = (good m x t p ok at cell).distinct in
      let new : (a : ℕ) → Has t a → a ≢ v = at_new m x t p ok at cell in
      let l = h.order in
      let b = h.below in
      let r = tris_of (left m x t p ok at cell) in
      let four : Four t.n0 t.n1 t.n2 v =
      record { uv = g.d01; up = λ z. g.d20 (sym z); uq = new t.n0 (inl refl); vp = g.d12; vq = new t.n1 (inr (inl refl)); pq = new t.n2 (inr (inr refl)) } in
      let a : Refused dead (r ++ (t ∷ [])) (QuadHas m f) f = refused_as dead (tris_of m.live) _ (QuadHas m f) (QuadHas m f) f (old_split m x t p ok at cell) (λ q. q) h.kept in
      let c = split_refused dead r t.n0 t.n1 t.n2 v t (t1 m x t p ok at cell) (t2 m x t p ok at cell) (t3 m x t p ok at cell) four
      (own_corners t)
      (corners t.n0 t.n1 v) (corners t.n1 t.n2 v) (corners t.n2 t.n0 v) (QuadHas m f) f (λ z. omega arith) (λ z. omega arith) (λ z. omega arith) a in
      record {
        order = l;
        below = omega (arith, split_count m x.slot t p);
        kept = refused_as dead _ (tris_of parts.live) (QuadHas m f) (QuadHas parts f) f (same_path _ _ (sym (split_tris m x t p ok at cell))) (quad_stays_split f) c;
      }

  split_room : Room dead m → Room dead parts
  split_room h =
      let r = tris_of (left m x t p ok at cell) in
      let news = t1 m x t p ok at cell ∷ t2 m x t p ok at cell ∷ t3 m x t p ok at cell ∷ [] in
      let a = same_length (tris_of m.live) (r ++ (t ∷ [])) (old_split m x t p ok at cell) in
      let b = ap length (split_tris m x t p ok at cell) in
      omega (arith, a, b, length-append r (t ∷ []), length-append r news, split_used m x.slot t p)

-- ---- a quad
module _ (m : Mesh) (q : Quad) (cells : List Live) (dead : List Tri)
    (only_tris : (x : Live) → In x m.live → among cells x ≡ true → (t : Tri) × (x.cell ≡ tri t)) where
  -- the region's triangles
  abbrev gone : List Tri
  gone = tris_of (filter (among cells) m.live)

  quad_stays_quad : (f : Edge) → QuadHas m f → QuadHas (replaced m q cells) f
  unfolding without_all
  quad_stays_quad f h =
      let y = h.x in
      let out : among cells y ≡ false = elim (which (among cells y)) [
        | inl e ↦ let r = only_tris y h.at e in not_both h.q r.0 (sym h.cell ∙ r.1)
        | inr e ↦ e
      ] in
      record {
        x = y;
        q = h.q;
        cell = h.cell;
        has = h.has;
        at = subst (λ l. In y l) (sym (replaced_live m q cells)) (in_left y (remaining m q cells) _ (filter_in (λ x. not (among cells x)) m.live h.at (ap not out)));
      }

  quad_ever : (f : Edge) → Ever dead m f → Ever (dead ++ gone) (replaced m q cells) f
  unfolding without_all
  quad_ever f h =
      let a = quad_refused dead (tris_of m.live) (tris_of (remaining m q cells)) gone (QuadHas m f) (QuadHas (replaced m q cells) f) f (parted (among cells) m.live) (quad_stays_quad f) h.kept in
      record {
        order = h.order;
        below = subst (λ l. f.1 < length l) (sym (replaced_points m q cells)) h.below;
        kept = subst (λ l. Refused (dead ++ gone) l (QuadHas (replaced m q cells) f) f) (sym (quad_tris m q cells)) a;
      }

  quad_room : Room dead m → Room (dead ++ gone) (replaced m q cells)
  unfolding without_all
  quad_room h =
      let a = same_length (tris_of m.live) (tris_of (remaining m q cells) ++ gone) (parted (among cells) m.live) in
      omega (arith, a, length-append (tris_of (remaining m q cells)) gone, length-append dead gone, ap length (quad_tris m q cells), replaced_used m q cells, h)

-- ---- a front edge has one triangle
odd_owners_by : (e : Edge) (x : Live) (c : Cell) (xs : List Live) → x.cell ≡ c → odd (side e) (tris_of xs) ≡ parity (length (filter live_tri (filter (owns e) xs)))
    → odd (side e) (tris_of (x ∷ xs)) ≡ parity (length (filter live_tri (filter (owns e) (x ∷ xs))))
unfolding odd tris_of flat_map tri_of parity live_tri is_tri owns has_side side
odd_owners_by e x (tri t) xs c h =
    let l : odd (side e) (tris_of (x ∷ xs)) ≡ xor (side e t) (odd (side e) (tris_of xs)) = ap (λ z. odd (side e) (tri_of z ++ tris_of xs)) c in
    elim (which (side e t)) [
      | inl f ↦ l ∙ ap (λ b. xor b (odd (side e) (tris_of xs))) f ∙ ap not h
          ∙ sym (ap (λ l. parity (length (filter live_tri l))) (filter_yes (owns e) x xs (ap (has_side e) c ∙ f)) ∙ ap (λ l. parity (length l)) (filter_yes live_tri x (filter (owns e) xs) (ap is_tri c)))
      | inr f ↦ l ∙ ap (λ b. xor b (odd (side e) (tris_of xs))) f ∙ h ∙ sym (ap (λ l. parity (length (filter live_tri l))) (filter_no (owns e) x xs (ap (has_side e) c ∙ f)))
    ]
odd_owners_by e x (quad q) xs c h =
    let l : odd (side e) (tris_of (x ∷ xs)) ≡ odd (side e) (tris_of xs) = ap (λ z. odd (side e) (tri_of z ++ tris_of xs)) c in
    elim (which (owns e x)) [
      | inl f ↦
          l ∙ h ∙ sym
          (ap (λ l. parity (length (filter live_tri l))) (filter_yes (owns e) x xs f) ∙ ap (λ l. parity (length l)) (filter_no live_tri x (filter (owns e) xs) (ap is_tri c)))
      | inr f ↦ l ∙ h ∙ sym (ap (λ l. parity (length (filter live_tri l))) (filter_no (owns e) x xs f))
    ]

odd_owners : (e : Edge) (xs : List Live) → odd (side e) (tris_of xs) ≡ parity (length (filter live_tri (filter (owns e) xs)))
unfolding odd tris_of flat_map parity filter
odd_owners e [] = refl
odd_owners e (x ∷ xs) = odd_owners_by e x x.cell xs refl (odd_owners e xs)

one_of : (xs : List Live) → length xs ≡ 1 → (x : Live) × In x xs
one_of [] h = absurd (let z : ◌≡◌ {A = ℕ} 0 1 = h in omega arith)
one_of (x ∷ xs) h = (x, inl refl)

-- an edge on the front has one triangle
pub front_odd : (m : Mesh) (e : Edge) → Valid m → e.0 < e.1 → is_front m e ≡ true → (e.1 < length m.points) × Among e (tris_of m.live) × (odd (side e) (tris_of m.live) ≡ true)
unfolding is_front front_owners owners live_tri owns has_side side parity
front_odd m e ok l h =
    let f = both (leb (length (owners m e)) 2) (eqb (length (filter live_tri (owners m e))) 1) h in
    let one : length (filter live_tri (owners m e)) ≡ 1 = eqb-true (length (filter live_tri (owners m e))) 1 f.1 in
    let o = one_of (filter live_tri (owners m e)) one in
    let i = in_filter live_tri (owners m e) o.1 in
    let j = in_filter (owns e) m.live i.0 in
    let t = is_a_tri o.0.cell i.1 in
    let there = tris_in m.live o.0 t.0 j.0 t.1 in
    ((ok.tris t.0 there).below e.1 (tri_owns e o.0 t.0 t.1 j.1).1, (t.0, there, sym (ap (has_side e) t.1) ∙ j.1), odd_owners e m.live ∙ ap parity one)

front_ever : (dead : List Tri) (m : Mesh) (e : Edge) → Valid m → e.0 < e.1 → is_front m e ≡ true → Ever dead m e
front_ever dead m e ok l h = let f = front_odd m e ok l h in record { order = l; below = f.0; kept = inr (f.1, inr f.2) }

-- ---- the edges of a list
-- every edge of the list was refused or waits; the dead triangles have slots of their own
pub record Tracked (m : Mesh) (es : List Edge) : Type 0 where
  pub dead : List Tri
  pub room : Room dead m
  pub each : (e : Edge) → In e es → Ever dead m e

-- three records a slot are room enough
pub tracked_room : (m : Mesh) (es : List Edge) → Tracked m es → Pairwise (λ e f. e ≢ f) es → length es ≤ 3 * m.used
tracked_room m es w d =
    let k = at_most_three w.dead (tris_of m.live) (QuadHas m) es d (λ e i. ((w.each e i).order, (w.each e i).kept)) in
    let r = w.room in omega arith

-- fewer edges
pub tracked_fewer : (m : Mesh) (es fs : List Edge) → ((f : Edge) → In f fs → In f es) → Tracked m es → Tracked m fs
tracked_fewer m es fs g w = record { dead = w.dead; room = w.room; each = λ f i. w.each f (g f i) }

-- a front edge may join
pub tracked_front : (m : Mesh) (e : Edge) (es : List Edge) → Valid m → e.0 < e.1 → is_front m e ≡ true → Tracked m es → Tracked m (e ∷ es)
tracked_front m e es ok l h w =
    record { dead = w.dead; room = w.room; each = λ f i. elim i [ inl g ↦ subst (λ z. Ever w.dead m z) (sym g) (front_ever w.dead m e ok l h) | inr j ↦ w.each f j ] }

-- a flip, a split and a quad keep every edge tracked
pub tracked_flip : (m m' : Mesh) (e : Edge) (es : List Edge) → Valid m → In e (all_edges m) → flip m e ≡ some m' → Tracked m es → Tracked m' es
tracked_flip m m' e es ok i f w =
    let k = flip_made m e m' f in
    record { dead = w.dead; room = flip_room m e m' ok i k w.dead w.room; each = λ g j. flip_ever m e m' ok i k w.dead g (w.each g j) }

pub tracked_split : (m : Mesh) (x : Live) (t : Tri) (p : Node) (es : List Edge) → Valid m → In x m.live → x.cell ≡ tri t → Tracked m es
    → Tracked (split_triangle m x.slot t p) es
tracked_split m x t p es ok at cell w =
    record { dead = w.dead; room = split_room m x t p ok at cell w.dead w.room; each = λ g j. split_ever m x t p ok at cell w.dead g (w.each g j) }

pub tracked_quad : (s : Settings) (m : Mesh) (seed : ℕ) (q : Quad) (cells : List Live) (es : List Edge) → Valid m → TriAt m seed
    → region m seed q ≡ some cells → Tracked m es → Tracked (replaced m q cells) es
tracked_quad s m seed q cells es ok sd e w =
    let only = region_slot_tri m seed q cells ok sd e in
    record { dead = w.dead ++ gone m q cells w.dead only; room = quad_room m q cells w.dead only w.room; each = λ g j. quad_ever m q cells w.dead only g (w.each g j) }
