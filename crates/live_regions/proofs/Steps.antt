-- One visit, and the visits one after the other.
use mathlib.Core.Path.{◌≡◌, refl, ap, sym, ◌∙◌, subst}
use mathlib.Core.Logic.{◌≢◌}
use mathlib.Core.Bool.{Bool, true, false, not, or-false, false≢true}
use mathlib.Core.List.{List, [], ◌∷◌, ◌++◌, foldl, foldl-append}
use mathlib.Core.Option.{none, some}
use Prim.Native.Nat.{ℕ, zero, suc, ◌+◌, ◌≤◌, ◌<◌}
use native.Mathlib.Omega.{arith}
use lib.Dec.{eqb}
use Rattle.std.proofs.Common.{Some, None, ◌⊎◌, inl, inr}
use lib.ListN.{length, get_or, length-append}
use borrow.Author.Tests.{ne_eqb}
use lib.Ieee.{Float}
use Rattle.rings.specs.Rings.{Out}
use Rattle.rings.proofs.Lists.{room}
use Rattle.definition.specs.Floats.{◌≺◌}
use Rattle.definition.specs.Lists.{any, flat_map, find}
use Rattle.definition.specs.Plane.{Node, flat, dist, from_to}
use Rattle.definition.specs.Cells.{Tri, Cell, tri, quad, Live, Mesh, new_live, nodes, tri_nodes, edges, tri_edges, key, owners, is_tri, live_tri, in_slot, cell_of, node_at}
use Rattle.definition.specs.Candidates.{in_reach, neighbours, on_top, live_region_from, seed_stack, live_region}
use Rattle.definition.specs.Call.{point_at}
use Rattle.laws.specs.Frames.{under_sym}
use Rattle.cells.specs.Rep.{Rep, Pts, Has, TriIn, slots}
use Rattle.cells.specs.Walk.{IsEdge}
use Rattle.cells.proofs.Slots.{ReadTri, rep_held, rep_cell, tri_held, slots_length}
use Rattle.cells.proofs.Fronts.{held_tri}
use Rattle.cells.specs.Layout.{mesh_end}
use Rattle.cells.proofs.Frames.{rep_under}
use Rattle.cells.proofs.Members.{Lookup, absent, present, lookup}
use Rattle.plane.specs.Points.{Within, node_of}
use Rattle.live_regions.specs.Walls.{wall_mark}
use Rattle.live_regions.specs.Stack.{listed, top_of, Scratch, Hold, Met, PushTo, CanPushAll, TakeTo, CanList, StepTo, StepFrom, LiveTo}
use Rattle.live_regions.specs.Visit.{out_after, stack_after}
use Rattle.live_regions.proofs.Lists.{listed_out, listed_first, visited_out, on_top_other}
use Rattle.live_regions.proofs.Scratches.{scratch_trans, scratch_under}
use Rattle.live_regions.proofs.Pushes.{few_out}

-- ---- the triangle in a slot

-- x is the triangle of slot i
pub record TopTri (m : Mesh) (i : ℕ) (x : Live) : Type 0 where
  pub t : TriIn m i
  pub is : x ≡ new_live i (tri t.t)

pub tri_top : (m : Mesh) (i : ℕ) (x : Live) → i ≡ x.slot → Has x m.live → live_tri x ≡ true → TopTri m i x
unfolding new_live live_tri is_tri
tri_top m i x e h l = go x.cell refl
  where
    go : (c : Cell) → x.cell ≡ c → TopTri m i x
    go (tri t) z =
        let g : x ≡ new_live i (tri t) = ap (λ (c : Cell). new_live x.slot c) z ∙ ap (λ (j : ℕ). new_live j (tri t)) (sym e) in
        record { t = record { t = t; has = subst (λ (v : Live). Has v m.live) g h }; is = g }
    go (quad q) z = absurd (false≢true (sym (ap is_tri z) ∙ l))

-- nodes a, b, c of slot i as they are read
pub record Corners (w : List ℕ) (s p n i : ℕ) (t : Tri) : Type 0 where
  pub read : ReadTri w s i t
  pub k0 : t.n0 < n
  pub k1 : t.n1 < n
  pub k2 : t.n2 < n
  pub d01 : t.n0 ≢ t.n1
  pub d12 : t.n1 ≢ t.n2
  pub d20 : t.n2 ≢ t.n0

pub corners_of : (w : List ℕ) (s p i : ℕ) (m : Mesh) → Rep w s p m → (t : TriIn m i) → Corners w s p (length m.points) i t.t
unfolding new_live nodes tri_nodes
corners_of w s p i m r t =
    let h = rep_held w s p m r t.has in
    let d = h.shape.distinct in
    let k = h.shape.known in
    record {
      read = tri_held w s p m r i t;
      k0 = k.0;
      k1 = k.1.0;
      k2 = k.1.1.0;
      d01 = λ e. d.0.0 (sym e);
      d12 = λ e. d.1.0.0 (sym e);
      d20 = d.0.1.0;
    }

-- the owners of the three edges, pushed one edge after the other
pub around : (m : Mesh) (i : ℕ) (x : Live) (t : TriIn m i) → x ≡ new_live i (tri t.t) → (seen st : List Live)
    → foldl (on_top seen) st (neighbours m x)
    ≡ foldl (on_top seen) (foldl (on_top seen) (foldl (on_top seen) st (owners m (key t.t.n0 t.t.n1))) (owners m (key t.t.n1 t.t.n2))) (owners m (key t.t.n2 t.t.n0))
unfolding neighbours edges tri_edges new_live flat_map
around m i x t e seen st =
    let a = owners m (key t.t.n0 t.t.n1) in
    let b = owners m (key t.t.n1 t.t.n2) in
    let c = owners m (key t.t.n2 t.t.n0) in
    ap (λ (y : Live). foldl (on_top seen) st (flat_map (owners m) (edges y.cell))) e
    ∙ foldl-append (on_top seen) st a (b ++ (c ++ [])) ∙ foldl-append (on_top seen) (foldl (on_top seen) st a) b (c ++ [])
    ∙ foldl-append (on_top seen) (foldl (on_top seen) (foldl (on_top seen) st a) b) c []

-- with the nodes as they were read
pub around_read : (m : Mesh) (i : ℕ) (x : Live) (t : TriIn m i) → x ≡ new_live i (tri t.t) → (seen st : List Live) (u v y : ℕ) → u ≡ t.t.n0 → v ≡ t.t.n1 → y ≡ t.t.n2
    → foldl (on_top seen) st (neighbours m x)
    ≡ foldl (on_top seen) (foldl (on_top seen) (foldl (on_top seen) st (owners m (key u v))) (owners m (key v y))) (owners m (key y u))
around_read m i x t e seen st u v y eu ev ey = rw (eu, ev, ey) (around m i x t e seen st)

-- an edge of two nodes as they were read
pub edge_is : (p n a b u v : ℕ) → u ≡ a → v ≡ b → a < n → n ≤ p → a ≢ b → IsEdge p u v
edge_is p n a b u v e f h k d = record { node = omega arith; apart = λ z. d (sym e ∙ z ∙ f) }

-- ---- a node in reach

-- the test of one node
abbrev pub near : Mesh → Float → Float → Float → ℕ → Bool
near m x y r v = not (r ≺ dist (node_at m v) (flat x y))

pub near_is : (q : List Float) (p : ℕ) (m : Mesh) → Pts q p m → (x y r : Float) (v a : ℕ) (b : Bool) → v ≡ a → a < length m.points
    → b ≡ not (r ≺ dist (point_at q v) (flat x y)) → b ≡ near m x y r a
near_is q p m k x y r v a b e h z = z ∙ ap (λ (c : ℕ). not (r ≺ dist (point_at q c) (flat x y))) e ∙ ap (λ (c : Node). not (r ≺ dist c (flat x y))) (sym (node_of m (length m.points) q k.are a h))

pub within : (q : List Float) (p : ℕ) (m : Mesh) → Pts q p m → (v a : ℕ) → v ≡ a → a < length m.points → Within q v
within q p m k v a e h = omega (arith, k.fits, k.few)

module _ (m : Mesh) (x y r : Float) (t : Tri) where
  pub reach_0 : true ≡ near m x y r t.n0 → true ≡ in_reach m (flat x y) r (tri t)
  unfolding in_reach any nodes tri_nodes
  reach_0 e = rw (← e)

  pub reach_1 : false ≡ near m x y r t.n0 → true ≡ near m x y r t.n1 → true ≡ in_reach m (flat x y) r (tri t)
  unfolding in_reach any nodes tri_nodes
  reach_1 e f = rw (← e, ← f)

  pub reach_2 : (b : Bool) → false ≡ near m x y r t.n0 → false ≡ near m x y r t.n1 → b ≡ near m x y r t.n2 → b ≡ in_reach m (flat x y) r (tri t)
  unfolding in_reach any nodes tri_nodes
  reach_2 b e f g = rw (← e, ← f, ← g) (sym (or-false b))

-- the point's z does not matter
reach_flat : (m : Mesh) (o : Node) (r : Float) (c : Cell) → in_reach m o r c ≡ in_reach m (flat o.x o.y) r c
unfolding in_reach dist from_to flat
reach_flat m o r c = refl

-- ---- one visit

pub push_trans : (w w1 w2 : List ℕ) (s p : ℕ) (m : Mesh) (out seen st : List Live) → Scratch w w1 s p → PushTo w1 w2 s p m out seen st → PushTo w w2 s p m out seen st
push_trans w w1 w2 s p m out seen st u f = record { hold = f.hold; scratch = scratch_trans w w1 w2 s p u f.scratch }

module _ (w : List ℕ) (s p n i : ℕ) (m : Mesh) (out seen st : List Live) (x : Live) (h : StepFrom w s p n i m out seen st x) where
  pub top_tri : TopTri m i x
  top_tri = tri_top m i x h.top.slot h.top.hold.stack.0 h.top.hold.stack.1

  pub seen_few : length seen < m.used
  seen_few =
      let o = h.top.hold in
      omega (arith, room m.used (slots (x ∷ seen)) ((listed_out x.slot seen o.fresh.0, o.distinct)) (((rep_held w s p m o.rep o.stack.0).inside, o.below)), slots_length seen)

  pub can_push_all : (w1 : List ℕ) (r : ℕ) → TakeTo w w1 s p i r m out seen st x → CanPushAll w1 s p i r m out (x ∷ seen) st top_tri.t.t
  can_push_all w1 r g =
      record { hold = g.to.hold; visited = ap (λ (k : ℕ). listed k (x ∷ seen)) h.top.slot ∙ listed_first x seen; told = g.told top_tri.t }

  pub can_list : (w1 : List ℕ) (st' : List Live) (f : ℕ) → PushTo w w1 s p m out (x ∷ seen) st' → f ≡ wall_mark m x → CanList w1 s p n i f m out (x ∷ seen) st' x
  can_list w1 st' f g e =
      record {
        hold = g.hold;
        slot = h.top.slot;
        has = h.top.hold.stack.0;
        tri = h.top.hold.stack.1;
        len = h.len;
        more = omega (arith, h.len, h.top.hold.few);
        visited = listed_first x seen;
        apart = visited_out i seen out (ap (λ (k : ℕ). listed k seen) h.top.slot ∙ h.top.hold.fresh.0) h.top.hold.visited;
        walls = e;
        inside = h.top.inside;
        room = omega (arith, h.len, h.top.hold.few, seen_few, h.top.hold.rep.used);
      }

  module _ (a b r : Float) (w3 : List ℕ) where
    reach_top : (q : Bool) → q ≡ in_reach m (flat a b) r (tri top_tri.t.t) → in_reach m (flat a b) r x.cell ≡ q
    unfolding new_live
    reach_top q e = ap (λ (z : Live). in_reach m (flat a b) r z.cell) top_tri.is ∙ sym e

    pub step_near : true ≡ in_reach m (flat a b) r (tri top_tri.t.t) → PushTo w w3 s p m (out ++ x ∷ []) (x ∷ seen) (foldl (on_top (x ∷ seen)) st (neighbours m x))
        → StepTo w w3 s p (n + 1) m (out_after (in_reach m (flat a b) r x.cell) out x) (x ∷ seen) (stack_after (in_reach m (flat a b) r x.cell) m seen st x)
    step_near e f =
        subst (λ (q : Bool). StepTo w w3 s p (n + 1) m (out_after q out x) (x ∷ seen) (stack_after q m seen st x)) (sym (reach_top true e))
        (record { to = f; len = omega (arith, length-append out (x ∷ []), h.len) })

    pub step_far : false ≡ in_reach m (flat a b) r (tri top_tri.t.t) → PushTo w w3 s p m out (x ∷ seen) st
        → StepTo w w3 s p n m (out_after (in_reach m (flat a b) r x.cell) out x) (x ∷ seen) (stack_after (in_reach m (flat a b) r x.cell) m seen st x)
    step_far e f =
        subst (λ (q : Bool). StepTo w w3 s p n m (out_after q out x) (x ∷ seen) (stack_after q m seen st x)) (sym (reach_top false e)) (record { to = f; len = h.len })

-- ---- all visits

one_visit : (n : ℕ) (m : Mesh) (o : Node) (r : Float) (out seen st : List Live) (x : Live)
    → live_region_from (suc n) m o r out seen (x ∷ st) ≡ live_region_from n m o r (out_after (in_reach m o r x.cell) out x) (x ∷ seen) (stack_after (in_reach m o r x.cell) m seen st x)
unfolding live_region_from
one_visit n m o r out seen st x = go (in_reach m o r x.cell) refl
  where
    go : (b : Bool) → in_reach m o r x.cell ≡ b
        → live_region_from (suc n) m o r out seen (x ∷ st) ≡ live_region_from n m o r (out_after (in_reach m o r x.cell) out x) (x ∷ seen) (stack_after (in_reach m o r x.cell) m seen st x)
    go true e = rw (e, live_region_from)
    go false e = rw (e, live_region_from)

from_flat : (n : ℕ) (m : Mesh) (o : Node) (r : Float) (out seen st : List Live) → live_region_from n m o r out seen st ≡ live_region_from n m (flat o.x o.y) r out seen st
unfolding live_region_from
from_flat zero m o r out seen st = refl
from_flat (suc n) m o r out seen [] = refl
from_flat (suc n) m o r out seen (x ∷ st) =
    let b = in_reach m o r x.cell in
    one_visit n m o r out seen st x ∙ from_flat n m o r (out_after b out x) (x ∷ seen) (stack_after b m seen st x)
    ∙ ap (λ (z : Bool). live_region_from n m (flat o.x o.y) r (out_after z out x) (x ∷ seen) (stack_after z m seen st x)) (reach_flat m o r x.cell)
    ∙ sym (one_visit n m (flat o.x o.y) r out seen st x)

-- the region around a point, whatever its z
pub region_flat : (m : Mesh) (seed : ℕ) (o : Node) (r : Float) → live_region m seed o r ≡ live_region m seed (flat o.x o.y) r
unfolding live_region
region_flat m seed o r = from_flat m.used m o r [] [] (seed_stack (cell_of m seed))

-- after k visits; `total` is what all visits give
pub record Living (w₀ w : List ℕ) (s p n k : ℕ) (m : Mesh) (o : Node) (r : Float) (total : List Live) : Type 0 where
  pub fuel : ℕ
  pub out : List Live
  pub seen : List Live
  pub st : List Live
  pub hold : Hold w s p m out seen st
  pub scratch : Scratch w₀ w s p
  pub len : n ≡ length out
  pub count : k ≡ length seen
  pub enough : fuel + k ≡ m.used
  pub same : total ≡ live_region_from fuel m o r out seen st

pub living_start : (w₀ w : List ℕ) (s p seed : ℕ) (m : Mesh) (o : Node) (r : Float) → PushTo w₀ w s p m [] [] (seed_stack (cell_of m seed)) → Living w₀ w s p 0 0 m o r (live_region m seed o r)
unfolding live_region
living_start w₀ w s p seed m o r h =
    record {
      fuel = m.used;
      out = [];
      seen = [];
      st = seed_stack (cell_of m seed);
      hold = h.hold;
      scratch = h.scratch;
      len = refl;
      count = refl;
      enough = omega arith;
      same = refl;
    }

-- y is on top, and what the visits after its own give
pub record Pop (w : List ℕ) (s p n k j : ℕ) (m : Mesh) (o : Node) (r : Float) (total : List Live) : Type 0 where
  pub fuel : ℕ
  pub out : List Live
  pub seen : List Live
  pub st : List Live
  pub y : Live
  pub from : StepFrom w s p n j m out seen st y
  pub count : k ≡ length seen
  pub enough : fuel + (k + 1) ≡ m.used
  pub same : total ≡ live_region_from fuel m o r (out_after (in_reach m o r y.cell) out y) (y ∷ seen) (stack_after (in_reach m o r y.cell) m seen st y)

module _ (w₀ w : List ℕ) (s p n k : ℕ) (m : Mesh) (o : Node) (r : Float) (total : List Live) where
  -- the slot on top is one of the mesh
  top_at : (j : ℕ) (out seen : List Live) (y : Live) (st : List Live) → Hold w s p m out seen (y ∷ st) → n ≡ length out → Some j ≡ top_of (y ∷ st) → StepFrom w s p n j m out seen st y
  top_at j out seen y st h l t =
      let e : j ≡ y.slot = cc in
      record { top = record { hold = h; slot = e; inside = omega (arith, (rep_held w s p m h.rep h.stack.0).inside, h.rep.used) }; len = l }

  pop_at : (j fuel : ℕ) (out seen st : List Live) → Hold w s p m out seen st → n ≡ length out → k ≡ length seen → Some j ≡ top_of st → fuel + k ≡ m.used
      → total ≡ live_region_from fuel m o r out seen st → Pop w s p n k j m o r total
  pop_at j fuel out seen [] h l c t e f = cc
  pop_at j zero out seen (y ∷ st) h l c t e f =
      absurd (omega (arith, seen_few w s p n j m out seen st y (top_at j out seen y st h l t)))
  pop_at j (suc u) out seen (y ∷ st) h l c t e f =
      record {
        fuel = u;
        out = out;
        seen = seen;
        st = st;
        y = y;
        from = top_at j out seen y st h l t;
        count = c;
        enough = omega arith;
        same = f ∙ one_visit u m o r out seen st y;
      }

  end_at : (fuel : ℕ) (out seen st : List Live) → Hold w s p m out seen st → Scratch w₀ w s p → n ≡ length out → (None ≡ top_of st) ⊎ (fuel ≡ 0)
      → total ≡ live_region_from fuel m o r out seen st → LiveTo w₀ w s p n m total
  unfolding live_region_from
  end_at zero out seen st h u l t f =
      subst (λ (z : List Live). LiveTo w₀ w s p n m z) (sym f) (record { len = l; few = omega (arith, l, few_out w s p m out seen st h); stored = h.stored; inner = h.inner; noted = h.noted; scratch = u })
  end_at (suc v) out seen [] h u l t f =
      subst (λ (z : List Live). LiveTo w₀ w s p n m z) (sym f) (record { len = l; few = omega (arith, l, few_out w s p m out seen [] h); stored = h.stored; inner = h.inner; noted = h.noted; scratch = u })
  end_at (suc v) out seen (y ∷ st) h u l (inl t) f = cc
  end_at (suc v) out seen (y ∷ st) h u l (inr t) f = cc

  module _ (g : Living w₀ w s p n k m o r total) where
    -- nothing is on the stack
    pub living_end : None ≡ top_of g.st → LiveTo w₀ w s p n m total
    living_end q = end_at g.fuel g.out g.seen g.st g.hold g.scratch g.len (inl q) g.same

    -- every slot was visited
    pub living_all : s ≤ k → LiveTo w₀ w s p n m total
    living_all q = end_at g.fuel g.out g.seen g.st g.hold g.scratch g.len (inr (omega (arith, g.enough, g.hold.rep.used))) g.same

    module _ (j : ℕ) (q : Some j ≡ top_of g.st) where
      pub living_pop : Pop w s p n k j m o r total
      living_pop = pop_at j g.fuel g.out g.seen g.st g.hold g.len g.count q g.enough g.same

      pub living_on : (w' : List ℕ) (n' : ℕ)
          → StepTo w w' s p n' m (out_after (in_reach m o r living_pop.y.cell) living_pop.out living_pop.y) (living_pop.y ∷ living_pop.seen)
          (stack_after (in_reach m o r living_pop.y.cell) m living_pop.seen living_pop.st living_pop.y) → Living w₀ w' s p n' (k + 1) m o r total
      living_on w' n' f =
          let o' = living_pop in
          record {
            fuel = o'.fuel;
            out = out_after (in_reach m o r o'.y.cell) o'.out o'.y;
            seen = o'.y ∷ o'.seen;
            st = stack_after (in_reach m o r o'.y.cell) m o'.seen o'.st o'.y;
            hold = f.to.hold;
            scratch = scratch_trans w₀ w w' s p g.scratch f.to.scratch;
            len = f.len;
            count = omega (arith, o'.count);
            enough = o'.enough;
            same = o'.same;
          }

-- what the mesh's words stood for before
pub scratch_back : (w w' : List ℕ) (s p : ℕ) (m : Mesh) → Scratch w w' s p → Rep w' s p m → Rep w s p m
scratch_back w w' s p m k r = rep_under w' w s p (under_sym w w' (mesh_end s p) (scratch_under w w' s p k)) m r

pub live_trans : (w w2 w3 : List ℕ) (s p r : ℕ) (m : Mesh) (out : List Live) → Scratch w w2 s p → LiveTo w2 w3 s p r m out → LiveTo w w3 s p r m out
live_trans w w2 w3 s p r m out u f = record { len = f.len; few = f.few; stored = f.stored; inner = f.inner; noted = f.noted; scratch = scratch_trans w w2 w3 s p u f.scratch }

-- ---- the seed

-- a slot whose kind is not 3 puts nothing onto the stack
pub seed_none : (w : List ℕ) (s p i : ℕ) (m : Mesh) → Rep w s p m → i < s → get_or w i 0 ≢ 3 → seed_stack (cell_of m i) ≡ []
unfolding seed_stack cell_of find in_slot
seed_none w s p i m r is k = go (lookup i m.live)
  where
    find_none : (l : List Live) → Out i (slots l) → find (in_slot i) l ≡ none
    find_none [] h = refl
    find_none (y ∷ l) h = rw (ne_eqb i y.slot (λ z. h.0 (sym z))) (find_none l h.1)

    go : Lookup i m.live → seed_stack (cell_of m i) ≡ []
    go (absent o) = ap seed_stack (find_none m.live o)
    go (present x q h) =
        let e : cell_of m i ≡ some x = ap (cell_of m) (sym q) ∙ rep_cell w s p m r h in
        let z : eqb (get_or w i 0) 3 ≡ live_tri x = rw (← q) (held_tri w s m.used (length m.points) x (rep_held w s p m r h)) in
        ap seed_stack e ∙ on_top_other [] [] x (sym z ∙ ne_eqb (get_or w i 0) 3 k)

-- the cell of a triangle's slot
pub seed_some : (w : List ℕ) (s p i : ℕ) (m : Mesh) → Rep w s p m → (t : TriIn m i) → seed_stack (cell_of m i) ≡ on_top [] [] (new_live i (tri t.t))
unfolding seed_stack new_live
seed_some w s p i m r t = ap seed_stack (rep_cell w s p m r t.has)

-- the seed's triangle is met
pub seed_met : (w : List ℕ) (s p i : ℕ) (m : Mesh) → Hold w s p m [] [] [] → (t : TriIn m i) → i < s → Met w s p i m [] [] [] (new_live i (tri t.t))
unfolding new_live
seed_met w s p i m h t is = record { hold = h; has = t.has; slot = refl; inside = is }
