-- Flips and splits place no quad: within an attempt the round stays.
use Rattle.std.specs.Prelude.{◌≡◌, ◌+◌, ◌∷◌}
use Rattle.laws.specs.Kit.{refl, sym, ◌∙◌, ap, cond, Option, none, some, ℕ, suc, ltb, leb, List, [], length, Float}
use Rattle.definition.specs.Floats.{◌⊗◌}
use Rattle.definition.specs.Numbers.{Settings, Turn, node_spacing, insert_shares}
use Rattle.definition.specs.Counts.{of_points, of_slots, of_trace, Spent}
use Rattle.definition.specs.Plane.{Node, Vec, Edge}
use Rattle.definition.specs.Cells.{Tri, Cell, tri, quad, Live, Mesh, node_at, cell_of, all_edges, this_round}
use Rattle.definition.specs.Trace.{in_room}
use Rattle.definition.specs.Flips.{flip, recover}
use Rattle.definition.specs.Candidates.{candidates}
use Rattle.definition.specs.Insertion.{Inserted, nowhere, inserted, full, point_clear, slot_clear, holder, split_triangle, split, split_clear, insert_near, along, insert_by, insert_along}
use Rattle.definition.specs.Attempt.{recover_all, Stance, Sides, found, missing, overfull, sides_by, sides_from, side_nodes}
use Rattle.laws.specs.Bools.{cond_ok}
use Rattle.laws.specs.Lists.{In}
use Rattle.account.specs.Valid.{Valid}
use Rattle.account.proofs.Found.{holder_in}
use Rattle.account.proofs.Meshes.{flip_valid}
use Rattle.account.proofs.Steps.{recover_ok, recover_all_ok}
use Rattle.account.specs.Placed.{live_quad, quad_cells}
use Rattle.account.proofs.Placed.{flip_quads, split_quads}
use Rattle.account.specs.SameRound.{Keeps, RoundAs}

-- the round by the live quads
round_of : (m : Mesh) → this_round m ≡ suc (length (quad_cells m))
unfolding this_round quad_cells live_quad
round_of m = refl

-- as many quads, the same round
same_quads : (m m' : Mesh) → quad_cells m' ≡ quad_cells m → this_round m' ≡ this_round m
same_quads m m' e = round_of m' ∙ ap (λ l. suc (length l)) e ∙ sym (round_of m)

-- ---- flips
pub flip_rounds : (m m' : Mesh) (e : Edge) → Valid m → In e (all_edges m) → flip m e ≡ some m' → this_round m' ≡ this_round m
flip_rounds m m' e ok i f = same_quads m m' (flip_quads m m' e ok i f)

pub recover_rounds : (m : Mesh) (u v : ℕ) → Valid m → this_round (recover m u v).mesh ≡ this_round m
recover_rounds m u v ok = (recover_ok (Keeps m) (λ n a b e h i f. (flip_valid a b e h.0 i f, flip_rounds a b e h.0 i f ∙ h.1)) 0 m u v (ok, refl)).1

pub recover_all_rounds : (m : Mesh) (es : List Edge) → Valid m → this_round (recover_all m es).mesh ≡ this_round m
recover_all_rounds m es ok = (recover_all_ok (Keeps m) (λ n a b e h i f. (flip_valid a b e h.0 i f, flip_rounds a b e h.0 i f ∙ h.1)) 0 m es (ok, refl)).1

-- ---- insertions
pub split_rounds : (m : Mesh) (x : Live) (t : Tri) (p : Node) → Valid m → In x m.live → x.cell ≡ tri t → this_round (split_triangle m x.slot t p) ≡ this_round m
split_rounds m x t p ok i c = same_quads m (split_triangle m x.slot t p) (split_quads m x t p ok i c)

module _ (s : Settings) (m : Mesh) (ok : Valid m) where
  split_round : (p : Node) (x : Live) (c : Cell) → In x m.live → x.cell ≡ c → RoundAs m (split s m p x.slot c)
  unfolding split
  split_round p x (quad q) i e = tt
  split_round p x (tri t) i e =
      cond_ok (RoundAs m) (leb s.capacity (length m.points)) _ _ (λ z. tt)
      (λ z. cond_ok (RoundAs m) (ltb s.slots (m.used + 2)) _ _ (λ y. tt)
      (λ y. cond_ok (RoundAs m) (in_room (split_triangle m x.slot t p)) _ _ (λ r. split_rounds m x t p ok i e) (λ r. tt)))

  clear_round : (p : Node) (spacing : Float) (o : Option Live) → ((x : Live) → o ≡ some x → In x m.live) → RoundAs m (split_clear s m p spacing o)
  unfolding split_clear
  clear_round p spacing none i = tt
  clear_round p spacing (some x) i = cond_ok (RoundAs m) (point_clear m p spacing x.cell) _ _ (λ z. split_round p x x.cell (i x refl) refl) (λ z. tt)

  near_round : (seed : ℕ) (p : Node) → RoundAs m (insert_near s m seed p)
  unfolding insert_near
  near_round seed p =
      let spacing = node_spacing ⊗ m.bucket in
      cond_ok (RoundAs m) (slot_clear m p spacing (cell_of m seed)) _ _ (λ z. clear_round p spacing (holder m seed p) (λ x e. (holder_in m seed p x e).0)) (λ z. tt)

  by_round : (seed : ℕ) (o : Node) (n : Vec) (target : Float) (shares : List Float) → RoundAs m (insert_by s m seed o n target shares)
  unfolding insert_by
  by_round seed o n target [] = tt
  by_round seed o n target (c ∷ cs) = go (insert_near s m seed (along o n target c)) refl (near_round seed (along o n target c)) (by_round seed o n target cs)
    where
      go : (r : Inserted) → insert_near s m seed (along o n target c) ≡ r → RoundAs m r → RoundAs m (insert_by s m seed o n target cs) → RoundAs m (insert_by s m seed o n target (c ∷ cs))
      go nowhere f h next = rw (f, insert_by) next
      go (inserted v m') f h next = rw (f, insert_by) h
      go (full w) f h next = rw (f, insert_by) tt

  pub insert_rounds : (seed : ℕ) (o : Node) (n : Vec) (target : Float) → RoundAs m (insert_along s m seed o n target)
  unfolding insert_along
  insert_rounds seed o n target = by_round seed o n target insert_shares

  -- the mesh that the search of side nodes leaves has the round of m
  abbrev pub SidesRound : Sides → Type 0
  SidesRound (found vs n a) = this_round a ≡ this_round m
  SidesRound (missing n a) = this_round a ≡ this_round m
  SidesRound (overfull w n a) = this_round a ≡ this_round m

  by_sides : (n : Spent) (r : Inserted) → RoundAs m r → SidesRound (sides_by n m r)
  unfolding sides_by
  by_sides n nowhere h = refl
  by_sides n (inserted v m') h = h
  by_sides n (full w) h = refl

  from_sides : (f : Stance) (n : Spent) (p : ℕ) (cs : List ℕ) → SidesRound (sides_from s f n m p cs)
  unfolding sides_from
  from_sides f n p (c ∷ cs) = refl
  from_sides f n p [] =
      cond_ok SidesRound f.mismatch _ _ (λ z. by_sides n (insert_along s m f.seed (node_at m p) f.normal f.target) (insert_rounds f.seed (node_at m p) f.normal f.target)) (λ z. refl)

  pub sides_rounds : (t : Turn) (f : Stance) (n : Spent) (p other : ℕ) → SidesRound (side_nodes s t f n m p other)
  unfolding side_nodes
  sides_rounds t f n p other = from_sides f n p (candidates s.quality t m p other f.seed f.normal f.target)
