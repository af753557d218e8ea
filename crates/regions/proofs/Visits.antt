-- The owners of an edge reached one after the other, and the edges of a triangle.
use Rattle.std.specs.Prelude.{◌≡◌, ◌*◌, ◌/◌, ◌<◌, ◌≤◌, ◌∷◌, ◌++◌}
use Rattle.std.specs.Prelude.{None, Some, Option as Answer}
use Rattle.laws.specs.Kit.{refl, sym, ◌∙◌, ap, subst, Bool, true, false, not, cond, Option, none, some, ℕ, arith, List, [], append-nil, length}
use Rattle.definition.specs.Lists.{filter, flat_map}
use Rattle.definition.specs.Plane.{Edge}
use Rattle.definition.specs.Cells.{Tri, tri, Live, Mesh, key, owners, edges, tri_edges, nodes, tri_nodes, has_edge_in, new_live}
use Rattle.definition.specs.Region.{reach, reach_all, across}
use Rattle.cells.specs.Rep.{Shape, Has, here, there, Rep, TriIn}
use Rattle.cells.specs.Walk.{left, At, Next, IsEdge}
use Rattle.cells.proofs.Slots.{owner_live, rep_held}
use Rattle.cells.proofs.Owners.{Here, at_here, at_end}
use Rattle.cells.proofs.Frames.{at_under, left_under}
use Rattle.regions.specs.Listing.{State, Seen, Aside, Reached}
use Rattle.regions.specs.Flood.{unless, beyond, tri_live}
use Rattle.regions.proofs.Listings.{aside_refl, aside_trans}

-- if there is one, with it
abbrev pub and_then : Option (List Live) → (List Live → Option (List Live)) → Option (List Live)
and_then none f = none
and_then (some t) f = f t

pub reach_one : (done todo : List Live) (y : Live) (l : List Live) → reach_all done todo (y ∷ l) ≡ and_then (reach done todo y) (λ t. reach_all done t l)
unfolding reach_all
reach_one done todo y l = go (reach done todo y)
  where
    go : (o : Option (List Live)) → elim o [ none ↦ none | some t ↦ reach_all done t l ] ≡ and_then o (λ t. reach_all done t l)
    go none = refl
    go (some t) = refl

pub reach_append : (done todo l k : List Live) → reach_all done todo (l ++ k) ≡ and_then (reach_all done todo l) (λ t. reach_all done t k)
unfolding reach_all
reach_append done todo [] k = refl
reach_append done todo (y ∷ l) k = reach_one done todo y (l ++ k) ∙ go (reach done todo y) (λ t. reach_append done t l k) ∙ sym (ap (λ o. and_then o (λ t. reach_all done t k)) (reach_one done todo y l))
  where
    go : (o : Option (List Live)) → ((t : List Live) → reach_all done t (l ++ k) ≡ and_then (reach_all done t l) (λ x. reach_all done x k))
        → and_then o (λ t. reach_all done t (l ++ k)) ≡ and_then (and_then o (λ t. reach_all done t l)) (λ t. reach_all done t k)
    go none h = refl
    go (some t) h = h t

pub reached_aside : (w w' : List ℕ) (s p : ℕ) (m : Mesh) (done : List Live) (o : Option (List Live)) (r : Answer ℕ) → Reached w w' s p m done o r → Aside w w' s p
reached_aside w w' s p m done none None h = h
reached_aside w w' s p m done none (Some r) h = absurd h
reached_aside w w' s p m done (some t) None h = absurd h
reached_aside w w' s p m done (some t) (Some r) h = h.aside

-- what was reached from a memory that came from another
pub reached_from : (w w1 w2 : List ℕ) (s p : ℕ) (m : Mesh) (done : List Live) (o : Option (List Live)) (r : Answer ℕ)
    → Aside w w1 s p → Reached w1 w2 s p m done o r → Reached w w2 s p m done o r
reached_from w w1 w2 s p m done none None u h = aside_trans w w1 w2 s p u h
reached_from w w1 w2 s p m done none (Some r) u h = absurd h
reached_from w w1 w2 s p m done (some t) None u h = absurd h
reached_from w w1 w2 s p m done (some t) (Some r) u h = record { state = h.state; aside = aside_trans w w1 w2 s p u h.aside }

-- what no number says of the cells, and what a number does
module _ (w w1 : List ℕ) (s p : ℕ) (m : Mesh) (done : List Live) where
  pub then_failed : (o : Option (List Live)) (k : List Live → Option (List Live)) → Reached w w1 s p m done o None → Reached w w1 s p m done (and_then o k) None
  then_failed none k h = h
  then_failed (some t) k h = absurd h

  pub record Mid (o : Option (List Live)) (r : ℕ) : Type 0 where
    pub now : List Live
    pub is : o ≡ some now
    pub state : State w1 s p r m (done ++ now)
    pub aside : Aside w w1 s p

  pub mid : (o : Option (List Live)) (r : ℕ) → Reached w w1 s p m done o (Some r) → Mid o r
  mid none r h = absurd h
  mid (some t) r h = record { now = t; is = refl; state = h.state; aside = h.aside }

-- reached up to the corner c
pub record Going (w₀ w : List ℕ) (s p u v k c : ℕ) (m : Mesh) (done todo : List Live) : Type 0 where
  pub rest : List Live
  pub now : List Live
  pub at : At w s p u v c rest
  pub live : (x : Live) → Has x rest → Has x m.live
  pub state : State w s p k m (done ++ now)
  pub aside : Aside w₀ w s p
  pub same : reach_all done todo (owners m (key u v)) ≡ reach_all done now rest

pub going_start : (w : List ℕ) (s p u v n c : ℕ) (m : Mesh) (done todo : List Live) → State w s p n m (done ++ todo) → At w s p u v c (owners m (key u v))
    → Going w w s p u v n c m done todo
going_start w s p u v n c m done todo h a =
    record { rest = owners m (key u v); now = todo; at = a; live = λ x k. owner_live m (key u v) k; state = h; aside = aside_refl w s p; same = refl }

module _ (w₀ w : List ℕ) (s p u v k c : ℕ) (m : Mesh) (done todo : List Live) (g : Going w₀ w s p u v k c m done todo) where
  pub going_end : 4 * s ≤ c → Reached w₀ w s p m done (reach_all done todo (owners m (key u v))) (Some k)
  unfolding reach_all
  going_end h = rw (g.same, at_end w s p u v c g.rest g.at h) (record { state = g.state; aside = g.aside })

  module _ (h : c < 4 * s) where
    pub going_here : Here w s p c g.rest
    going_here = at_here w s p u v c g.rest g.at h

    pub going_seen : Seen w s p k (c / 4) m (done ++ g.now) going_here.x
    going_seen =
        record { state = g.state; live = g.live going_here.x (subst (λ (l : List Live). Has going_here.x l) (sym going_here.is) here); slot = going_here.slot }

    after : reach_all done todo (owners m (key u v)) ≡ and_then (reach done g.now going_here.x) (λ t. reach_all done t going_here.more)
    after = g.same ∙ ap (reach_all done g.now) going_here.is ∙ reach_one done g.now going_here.x going_here.more

    pub going_failed : (w' : List ℕ) → Reached w w' s p m done (reach done g.now going_here.x) None → Reached w₀ w' s p m done (reach_all done todo (owners m (key u v))) None
    going_failed w' f =
        rw after (reached_from w₀ w w' s p m done (and_then (reach done g.now going_here.x) (λ t. reach_all done t going_here.more)) None g.aside
        (then_failed w w' s p m done (reach done g.now going_here.x) (λ t. reach_all done t going_here.more) f))

    module _ (w' : List ℕ) (r : ℕ) (f : Reached w w' s p m done (reach done g.now going_here.x) (Some r)) where
      kept : Aside w w' s p
      kept = reached_aside w w' s p m done (reach done g.now going_here.x) (Some r) f

      -- the walk stands where it stood
      pub going_at : At w' s p u v c g.rest
      going_at = at_under w w' s p kept.under u v c g.rest g.at

      module _ (c' : ℕ) (n : Next w' s p u v c c') where
        pub going_less : left w' s p c' < left w s p c
        going_less = omega (arith, n.fewer, left_under w w' s p kept.under c)

        pub going_on : Going w₀ w' s p u v r c' m done todo
        going_on =
            let d = mid w w' s p m done (reach done g.now going_here.x) r f in
            record {
              rest = going_here.more;
              now = d.now;
              at = n.at going_here.x going_here.more (subst (λ (l : List Live). At w' s p u v c l) going_here.is going_at);
              live = λ x k. g.live x (subst (λ (l : List Live). Has x l) (sym going_here.is) (there k));
              state = d.state;
              aside = aside_trans w₀ w w' s p g.aside kept;
              same = after ∙ ap (λ (o : Option (List Live)). and_then o (λ t. reach_all done t going_here.more)) d.is;
            }

-- ---- edge after edge

-- an edge, or a side of the quad
module _ (w : List ℕ) (s p : ℕ) (sides : List Edge) (e : Edge) (n : ℕ) (m : Mesh) (done todo : List Live) (x : Bool) (q : x ≡ has_edge_in sides e) where
  pub side_skipped : x ≡ true → State w s p n m (done ++ todo) → Reached w w s p m done (reach_all done todo (beyond m sides e)) (Some n)
  unfolding beyond reach_all
  side_skipped t h = rw (sym q ∙ t) (record { state = h; aside = aside_refl w s p })

  pub side_crossed : x ≡ false → (w' : List ℕ) (r : Answer ℕ) → Reached w w' s p m done (reach_all done todo (owners m e)) r
      → Reached w w' s p m done (reach_all done todo (beyond m sides e)) r
  unfolding beyond
  side_crossed t w' r h = rw (sym q ∙ t) h

-- the cells across the edges, edge after edge
across_edges : (m : Mesh) (sides es : List Edge) → flat_map (owners m) (filter (λ e. not (has_edge_in sides e)) es) ≡ flat_map (beyond m sides) es
unfolding flat_map filter beyond
across_edges m sides [] = refl
across_edges m sides (e ∷ es) = go (has_edge_in sides e) (across_edges m sides es)
  where
    go : (b : Bool) → flat_map (owners m) (filter (λ e. not (has_edge_in sides e)) es) ≡ flat_map (beyond m sides) es
        → flat_map (owners m) (cond (not b) (e ∷ filter (λ e. not (has_edge_in sides e)) es) (filter (λ e. not (has_edge_in sides e)) es))
        ≡ unless b (owners m e) ++ flat_map (beyond m sides) es
    go true h = h
    go false h = ap (λ l. owners m e ++ l) h

pub across_tri : (m : Mesh) (sides : List Edge) (i : ℕ) (t : Tri)
    → across m sides (tri_live i t) ≡ beyond m sides (key t.n0 t.n1) ++ (beyond m sides (key t.n1 t.n2) ++ beyond m sides (key t.n2 t.n0))
unfolding across flat_map edges tri_edges new_live
across_tri m sides i t =
    across_edges m sides (key t.n0 t.n1 ∷ key t.n1 t.n2 ∷ key t.n2 t.n0 ∷ [])
    ∙ ap (λ l. beyond m sides (key t.n0 t.n1) ++ (beyond m sides (key t.n1 t.n2) ++ l)) (append-nil (beyond m sides (key t.n2 t.n0)))

-- with the nodes as they were read
pub tri_across : (m : Mesh) (sides : List Edge) (i : ℕ) (t : Tri) (x y z : ℕ) → x ≡ t.n0 → y ≡ t.n1 → z ≡ t.n2
    → across m sides (tri_live i t) ≡ beyond m sides (key x y) ++ (beyond m sides (key y z) ++ beyond m sides (key z x))
tri_across m sides i t x y z ex ey ez = rw (ex, ey, ez) (across_tri m sides i t)

-- each pair of nodes read is an edge
pub record Corners (p x y z : ℕ) : Type 0 where
  pub xy : IsEdge p x y
  pub yz : IsEdge p y z
  pub zx : IsEdge p z x

corners_of : (p n : ℕ) (t : Tri) → n ≤ p → Shape n (tri t) → Corners p t.n0 t.n1 t.n2
unfolding nodes tri_nodes
corners_of p n t l h =
    record {
      xy = record { node = omega (arith, h.known.0); apart = λ e. h.distinct.0.0 (sym e) };
      yz = record { node = omega (arith, h.known.1.0); apart = λ e. h.distinct.1.0.0 (sym e) };
      zx = record { node = omega (arith, h.known.1.1.0); apart = λ e. h.distinct.0.1.0 e };
    }

module _ (w : List ℕ) (s p : ℕ) (m : Mesh) (r : Rep w s p m) (i : ℕ) (t : TriIn m i) where
  pub tri_inside : i < s
  unfolding new_live
  tri_inside = omega (arith, (rep_held w s p m r t.has).inside, r.used)

  pub tri_corners : {x y z : ℕ} → x ≡ t.t.n0 → y ≡ t.t.n1 → z ≡ t.t.n2 → Corners p x y z
  unfolding new_live
  tri_corners ex ey ez = rw (ex, ey, ez) (corners_of p (length m.points) t.t r.points (rep_held w s p m r t.has).shape)

-- one list reached after another
module _ (w w1 : List ℕ) (s p : ℕ) (m : Mesh) (done todo l : List Live) where
  pub seq_failed : Reached w w1 s p m done (reach_all done todo l) None → (k : List Live) → Reached w w1 s p m done (reach_all done todo (l ++ k)) None
  seq_failed f k = rw (reach_append done todo l k) (then_failed w w1 s p m done (reach_all done todo l) (λ t. reach_all done t k) f)

  pub seq_mid : (r : ℕ) → Reached w w1 s p m done (reach_all done todo l) (Some r) → Mid w w1 s p m done (reach_all done todo l) r
  seq_mid r f = mid w w1 s p m done (reach_all done todo l) r f

  pub seq_then : (r : ℕ) (d : Mid w w1 s p m done (reach_all done todo l) r) (k : List Live) (w2 : List ℕ) (r2 : Answer ℕ)
      → Reached w1 w2 s p m done (reach_all done d.now k) r2 → Reached w w2 s p m done (reach_all done todo (l ++ k)) r2
  seq_then r d k w2 r2 h = rw (reach_append done todo l k, d.is) (reached_from w w1 w2 s p m done (reach_all done d.now k) r2 d.aside h)
