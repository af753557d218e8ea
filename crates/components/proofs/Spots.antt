-- A place in the ring of a node: the triangles that have the node stand there one after the other.
use Rattle.std.specs.Prelude.{◌≡◌, ◌⊎◌, ◌+◌, ◌*◌, ◌/◌, ◌<◌, ◌≤◌, ◌∷◌}
use Rattle.laws.specs.Kit.{refl, sym, ◌∙◌, ap, subst, inl, inr, true, ℕ, suc, arith, List, [], length}
use Rattle.rings.specs.Rings.{nx}
use Rattle.definition.specs.Cells.{Live, live_tri}
use Rattle.laws.specs.Lists.{In}
use Rattle.account.specs.Triangles.{Has as Corner}
use Rattle.cells.specs.Layout.{rings_at}
use Rattle.cells.specs.Rep.{Cells, cell_corners, corners}
use Rattle.cells.specs.Walk.{From, Pos, left}
use Rattle.cells.proofs.Views.{View, off, on, view}
use Rattle.cells.proofs.Walks.{pos_walk}
use Rattle.components.specs.Flood.{body}
use Rattle.components.proofs.Members.{no_corner, its_corner}

-- the first of some cells that has a corner at u, with the triangles at u behind it
data Ahead (w : List ℕ) (s p u : ℕ) (rest : List Live) : Type 0 where
  end : corners rest u ≡ [] → ((y : Live) → In y rest → live_tri y ≡ true → Corner (body y) u → ⊥) → Ahead w s p u rest
  more : (e : Live) (l : List Live) (x : ℕ) → corners rest u ≡ x ∷ corners l u → x / 4 ≡ e.slot → x < 4 * s
      → In e rest → (live_tri e ≡ true → Corner (body e) u) → ((y : Live) → In y l → In y rest)
      → ((y : Live) → In y rest → live_tri y ≡ true → Corner (body y) u → (y ≡ e) ⊎ In y l) → Cells w s s p l → Ahead w s p u rest

ahead : (w : List ℕ) (s p u : ℕ) (rest : List Live) → Cells w s s p rest → Ahead w s p u rest
unfolding corners
ahead w s p u [] h = end refl (λ y i. absurd i)
ahead w s p u (e ∷ l) h = go (view w s p u e h.0) (ahead w s p u l h.1)
  where
    not_here : cell_corners u e.slot e.cell ≡ [] → (y : Live) → y ≡ e → live_tri y ≡ true → Corner (body y) u → ⊥
    not_here c y q t k = no_corner u e (ap live_tri (sym q) ∙ t) c (subst (λ (v : Live). Corner (body v) u) q k)

    skip : cell_corners u e.slot e.cell ≡ [] → Ahead w s p u l → Ahead w s p u (e ∷ l)
    skip c (end d g) = end (rw c d) (λ y i t k. elim i [ inl q ↦ not_here c y q t k | inr j ↦ g y j t k ])
    skip c (more a k x d q b i t f g hk) =
        more a k x (rw c d) q b (inr i) t (λ y j. inr (f y j)) (λ y j z n. elim j [ inl v ↦ absurd (not_here c y v z n) | inr v ↦ g y v z n ]) hk

    go : View w s u e.slot e.cell → Ahead w s p u l → Ahead w s p u (e ∷ l)
    go (off c f) n = skip c n
    go (on x c q b t) n = more e l x (rw c) q b (inl refl) (λ z. its_corner u e z x c) (λ y j. inr j) (λ y j z k. j) h.1

module _ (w : List ℕ) (s p u c : ℕ) (rest : List Live) (at : Pos w s p u c rest) where
  -- behind the last corner no triangle at u is left
  pub spot_end : 4 * s ≤ c → (y : Live) → In y rest → live_tri y ≡ true → Corner (body y) u → ⊥
  spot_end h y i t k = go (ahead w s p u rest at.cells)
    where
      go : Ahead w s p u rest → ⊥
      go (end d g) = g y i t k
      go (more e l x d q b j v f g hl) =
          let r : From (nx w (rings_at s)) c (x ∷ corners l u) (4 * s + u) = subst (λ (k : List ℕ). From (nx w (rings_at s)) c k (4 * s + u)) d at.from in
          absurd (omega (arith, r.0))

  -- the cell e at a corner, and those behind it
  pub record Spot : Type 0 where
    pub e : Live
    pub l : List Live
    pub slot : c / 4 ≡ e.slot
    pub has : In e rest
    pub corner : live_tri e ≡ true → Corner (body e) u
    pub part : (y : Live) → In y l → In y rest
    pub split : (y : Live) → In y rest → live_tri y ≡ true → Corner (body y) u → (y ≡ e) ⊎ In y l
    pub then : Pos w s p u (nx w (rings_at s) c) l
    pub less : left w s p (nx w (rings_at s) c) < left w s p c

  pub spot : c < 4 * s → Spot
  spot h = go (ahead w s p u rest at.cells)
    where
      go : Ahead w s p u rest → Spot
      go (end d g) =
          let r : c ≡ 4 * s + u = subst (λ (k : List ℕ). From (nx w (rings_at s)) c k (4 * s + u)) d at.from in
          absurd (omega arith)
      go (more e l x d q b i v f g hl) =
          let r : From (nx w (rings_at s)) c (x ∷ corners l u) (4 * s + u) = subst (λ (k : List ℕ). From (nx w (rings_at s)) c k (4 * s + u)) d at.from in
          let cx : c ≡ x = r.0 in
          let n : length (corners rest u) ≡ suc (length (corners l u)) = ap length d in
          let t : Pos w s p u (nx w (rings_at s) c) l = record { room = at.room; node = at.node; cells = hl; from = rw cx r.1; few = omega (arith, at.few) } in
          record {
            e = e;
            l = l;
            slot = rw cx q;
            has = i;
            corner = v;
            part = f;
            split = g;
            then = t;
            less = omega (arith, pos_walk w s p u c rest at, pos_walk w s p u (nx w (rings_at s) c) l t);
          }
