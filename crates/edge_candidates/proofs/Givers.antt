-- The nodes that give an ideal, listed while the ring of the end is walked; what a change elsewhere leaves.
use Rattle.std.specs.Prelude.{◌≡◌, ◌+◌, ◌-◌, ◌*◌, ◌/◌, ◌%◌, ◌<◌, ◌≤◌, ◌∷◌}
use Rattle.laws.specs.Kit.{refl, sym, ◌∙◌, ap, subst, Bool, true, false, cond, false≢true, ℕ, arith, eqb, List, [], length, get_or, set, length-set, Float}
use Rattle.rings.specs.Rings.{nx}
use Rattle.rings.proofs.Lists.{Same, same, differ, decide, room}
use Rattle.definition.specs.Plane.{Vec}
use Rattle.definition.specs.Cells.{Live, Mesh}
use Rattle.laws.specs.Frames.{off}
use Rattle.cells.specs.Layout.{rings_at, mesh_end}
use Rattle.cells.specs.Rep.{Rep, Cells, corners, slots}
use Rattle.cells.specs.Walk.{one_if, after, before, node_after, node_before, CanRead, left}
use Rattle.cells.proofs.Frames.{rep_under}
use Rattle.cells.proofs.Fronts.{one_most}
use Rattle.cells.proofs.Views as views
use Rattle.cells.proofs.Walks.{start, pos_walk}
use Rattle.cells.proofs.Slots.{slots_below}
use Rattle.edge_candidates.specs.Wanted.{every, gives}
use Rattle.edge_candidates.specs.Wishes.{Besides, Place, CanList, Kept, CanNode, NodeTo, ListedTo}
use Rattle.edge_candidates.specs.declared.wishes.Found.{Found}
use Rattle.edge_candidates.proofs.Around.{Around, around_start, around_read, around_after, around_before, around_more, around_end, around_less}
use Rattle.edge_candidates.proofs.Keeping.{keep_none}
use Rattle.edge_candidates.proofs.Halves.{by_same}
use Rattle.edge_candidates.proofs.Closes.{bare_fails}

-- ---- a node more

pub besides_refl : (w : List ℕ) (b p : ℕ) → Besides w w b p
besides_refl w b p = record { len = refl; before = λ i h. refl; behind = λ i h. refl }

pub besides_set : (w₀ w : List ℕ) (p b r v : ℕ) → r < p → Besides w₀ w b p → Besides w₀ (set w (b + r) v) b p
besides_set w₀ w p b r v h k =
    record {
      len = length-set w (b + r) v ∙ k.len;
      before = λ i a. off w (b + r) v i (omega arith) ∙ k.before i a;
      behind = λ i a. off w (b + r) v i (omega arith) ∙ k.behind i a;
    }

pub besides_trans : (w w1 w2 : List ℕ) (b p : ℕ) → Besides w w1 b p → Besides w1 w2 b p → Besides w w2 b p
besides_trans w w1 w2 b p f g = record { len = g.len ∙ f.len; before = λ i h. g.before i h ∙ f.before i h; behind = λ i h. g.behind i h ∙ f.behind i h }

module _ (w w' : List ℕ) (q : List Float) (s a other b : ℕ) (m : Mesh) (u : Vec) (g : Found) (v : ℕ) (h : Found) (n : NodeTo w w' q s a other b m u g v h) where
  node_most : h.count ≤ g.count + 1
  node_most = omega (arith, n.count, one_most (gives m a other u v))

  node_place : (x : ℕ) → Place w b g.count x → Place w' b h.count x
  node_place x z = record { i = z.i; inside = omega (arith, n.count, z.inside); is = n.same z.i z.inside ∙ z.is }

  node_new : gives m a other u v ≡ true → Place w' b h.count v
  node_new y = record { i = g.count; inside = omega (arith, n.count, ap one_if y); is = n.new y }

  -- what holds of the others and of v, if it counts, holds of all
  node_each : (P : ℕ → Type 0) → ((i : ℕ) → i < g.count → P (get_or w (b + i) 0)) → (gives m a other u v ≡ true → P v) → (i : ℕ) → i < h.count → P (get_or w' (b + i) 0)
  node_each P e y i l = go (gives m a other u v) refl (decide i g.count)
    where
      go : (k : Bool) → gives m a other u v ≡ k → Same i g.count → P (get_or w' (b + i) 0)
      go true k (same d) = subst (λ (j : ℕ). P (get_or w' (b + j) 0)) (sym d) (subst P (sym (n.new k)) (y k))
      go false k (same d) = absurd (omega (arith, n.count, ap one_if k, l, d))
      go k f (differ d) = let o : i < g.count = omega (arith, node_most, l, d) in subst P (sym (n.same i o)) (e i o)

-- ---- the mesh is read as before

after_few : (k n : ℕ) → k < 4 → after k n ≤ 4
unfolding after
after_few k n h = go (eqb (k + 1) n)
  where
    go : (y : Bool) → cond y 0 (k + 1) ≤ 4
    go true = omega arith
    go false = omega arith

before_few : (k n : ℕ) → k < 4 → n ≤ 4 → before k n ≤ 4
unfolding before
before_few k n h l = go (eqb k 0)
  where
    go : (y : Bool) → cond y (n - 1) (k - 1) ≤ 4
    go true = omega arith
    go false = omega arith

module _ (w w' : List ℕ) (s p b n : ℕ) (z : Besides w w' b n) (from : mesh_end s p ≤ b) where
  pub rep_besides : (m : Mesh) → Rep w s p m → Rep w' s p m
  rep_besides m r = rep_under w w' s p (record { len = z.len; low = λ i h. z.before i (omega arith) }) m r

  module _ (c : ℕ) (r : CanRead w s c) where
    kind_kept : get_or w' (c / 4) 0 ≡ get_or w (c / 4) 0
    kind_kept = z.before (c / 4) (omega (arith, r.inside))

    pub read_kept : CanRead w' s c
    read_kept = record { fits = omega (arith, r.fits, z.len); inside = r.inside; least = rw kind_kept r.least; most = rw kind_kept r.most }

    pub after_kept : node_after w' s c ≡ node_after w s c
    after_kept = rw kind_kept (z.before (s + 4 * (c / 4) + after (c % 4) (get_or w (c / 4) 0)) (omega (arith, r.inside, after_few (c % 4) (get_or w (c / 4) 0) (omega arith))))

    pub before_kept : node_before w' s c ≡ node_before w s c
    before_kept = rw kind_kept (z.before (s + 4 * (c / 4) + before (c % 4) (get_or w (c / 4) 0)) (omega (arith, r.inside, before_few (c % 4) (get_or w (c / 4) 0) (omega arith) r.most)))

-- ---- a cell has one corner at a node

corners_few : (w : List ℕ) (s n u : ℕ) (l : List Live) → Cells w s s n l → length (corners l u) ≤ length (slots l)
unfolding corners
corners_few w s n u [] h = omega arith
corners_few w s n u (x ∷ l) h = go (views.view w s n u x h.0) (corners_few w s n u l h.1)
  where
    go : views.View w s u x.slot x.cell → length (corners l u) ≤ length (slots l) → length (corners (x ∷ l) u) ≤ length (slots (x ∷ l))
    go (views.off c f) r = rw c (omega (arith, r))
    go (views.on y c q b t) r = rw c (omega (arith, r))

-- ---- the walk

-- v gives an ideal
pub record Giver (m : Mesh) (a other : ℕ) (u : Vec) (v : ℕ) : Type 0 where
  pub known : v < length m.points
  pub is : gives m a other u v ≡ true

-- if it does, it is listed
abbrev Met : List ℕ → ℕ → ℕ → Mesh → ℕ → ℕ → Vec → ℕ → Type 0
Met w b r m a other u v = gives m a other u v ≡ true → Place w b r v

-- at the place c of the ring of a, the nodes found are all whose edges with a none of the cells to come has
pub record Gather (w₀ w : List ℕ) (q : List Float) (s p b : ℕ) (g : Found) (c : ℕ) (m : Mesh) (a other : ℕ) (u : Vec) : Type 0 where
  pub around : Around w₀ s a c m (Met w b g.count m a other u)
  pub each : (i : ℕ) → i < g.count → Giver m a other u (get_or w (b + i) 0)
  pub room : g.count + 2 * left w₀ s p c ≤ 2 * s
  pub some : g.kept ≤ g.count
  pub kept : Kept w q s a u b g.kept
  pub besides : Besides w₀ w b (6 * s)

module _ (w : List ℕ) (q : List Float) (s p a other b : ℕ) (m : Mesh) (can : CanList w q s p a other b m) (u : Vec) where
  pub gather_start : Gather w w q s p b (record { count = 0; kept = 0 }) (nx w (rings_at s) (4 * s + a)) m a other u
  gather_start =
      let st = start w s p a m can.rep (omega (arith, can.ends.node, can.rep.points)) in
      let few = corners_few w s p a m.live st.cells in
      let most = room s (slots m.live) can.rep.distinct (slots_below w s s p m.live st.cells) in
      let here = pos_walk w s p a (nx w (rings_at s) (4 * s + a)) m.live st in
      record {
        around = around_start w s p a m (Met w b 0 m a other u) can.rep can.ends.node (λ v d o h. absurd (false≢true (sym (bare_fails every m a other u v d o) ∙ h)));
        each = λ i h. absurd (omega (arith, h));
        room = omega (arith, few, most, here);
        some = omega arith;
        kept = keep_none w q s a u b;
        besides = besides_refl w b (6 * s);
      }

  module _ (w' : List ℕ) (g : Found) (c : ℕ) (z : Gather w w' q s p b g c m a other u) (inside : c < 4 * s) where
    read₀ : CanRead w s c
    read₀ = around_read w s a c m (Met w' b g.count m a other u) z.around inside

    pub gather_read : CanRead w' s c
    gather_read = read_kept w w' s p b (6 * s) z.besides can.from c read₀

    can_list : (v : List ℕ) → Besides w v b (6 * s) → CanList v q s p a other b m
    can_list v k = record { rep = rep_besides w v s p b (6 * s) k can.from m can.rep; pts = can.pts; ends = can.ends; from = can.from; to = omega (arith, k.len, can.to) }

    module _ (x y d : ℕ) (ex : x ≡ node_after w' s c) (ey : y ≡ node_before w' s c) (ed : d ≡ nx w' (rings_at s) c) where
      x_is : x ≡ node_after w s c
      x_is = ex ∙ after_kept w w' s p b (6 * s) z.besides can.from c read₀

      y_is : y ≡ node_before w s c
      y_is = ey ∙ before_kept w w' s p b (6 * s) z.besides can.from c read₀

      d_is : d ≡ nx w (rings_at s) c
      d_is = ed ∙ z.besides.before (rings_at s + c) (omega (arith, can.from))

      gather_x : x < length m.points
      gather_x = around_after w s a c m (Met w' b g.count m a other u) z.around inside x x_is

      gather_y : y < length m.points
      gather_y = around_before w s a c m (Met w' b g.count m a other u) z.around inside y y_is

      pub gather_less : left w s p d < left w s p c
      gather_less = around_less w s a c m (Met w' b g.count m a other u) z.around p d can.rep inside d_is

      -- two more have room
      pub gather_one : CanNode w' q s p a other b m u g x
      gather_one = record { list = can_list w' z.besides; end = gather_x; room = omega (arith, z.room, gather_less); some = z.some; kept = z.kept }

      module _ (w1 : List ℕ) (g1 : Found) (n1 : NodeTo w' w1 q s a other b m u g x g1) where
        besides_one : Besides w w1 b (6 * s)
        besides_one = besides_trans w w' w1 b (6 * s) z.besides n1.besides

        pub gather_two : CanNode w1 q s p a other b m u g1 y
        gather_two =
            record {
              list = can_list w1 besides_one;
              end = gather_y;
              room = omega (arith, z.room, gather_less, node_most w' w1 q s a other b m u g x g1 n1);
              some = n1.some;
              kept = n1.kept;
            }

        pub gather_more : (w2 : List ℕ) (g2 : Found) → NodeTo w1 w2 q s a other b m u g1 y g2 → Gather w w2 q s p b g2 d m a other u
        gather_more w2 g2 n2 =
            let px : Met w2 b g2.count m a other u x = λ h. node_place w1 w2 q s a other b m u g1 y g2 n2 x (node_new w' w1 q s a other b m u g x g1 n1 h) in
            let py : Met w2 b g2.count m a other u y = λ h. node_new w1 w2 q s a other b m u g1 y g2 n2 h in
            let k = z.around in
            let f : Around w s a c m (Met w2 b g2.count m a other u) =
            record { rest = k.rest; pos = k.pos; holds = λ v e o h. node_place w1 w2 q s a other b m u g1 y g2 n2 v (node_place w' w1 q s a other b m u g x g1 n1 v (k.holds v e o h)) } in
            record {
              around = around_more w s a c m (Met w2 b g2.count m a other u) f inside x y d x_is y_is px py d_is;
              each = node_each w1 w2 q s a other b m u g1 y g2 n2 (Giver m a other u)
                  (node_each w' w1 q s a other b m u g x g1 n1 (Giver m a other u) z.each (λ h. record { known = gather_x; is = h })) (λ h. record { known = gather_y; is = h });
              room = omega (arith, z.room, gather_less, node_most w' w1 q s a other b m u g x g1 n1, node_most w1 w2 q s a other b m u g1 y g2 n2);
              some = n2.some;
              kept = n2.kept;
              besides = besides_trans w w1 w2 b (6 * s) besides_one n2.besides;
            }

  pub gather_end : (w' : List ℕ) (g : Found) (c : ℕ) → Gather w w' q s p b g c m a other u → 4 * s ≤ c → ListedTo w w' q s b g m a other u
  gather_end w' g c z h =
      record {
        listed = record { known = λ i l. (z.each i l).known; each = λ i l. (z.each i l).is; all = λ v e. go v e (decide v a) };
        few = omega (arith, z.room);
        some = z.some;
        kept = z.kept;
        besides = z.besides;
      }
    where
      go : (v : ℕ) → gives m a other u v ≡ true → Same v a → Place w' b g.count v
      go v e (same d) = absurd (false≢true (by_same every m a other u v d ∙ e))
      go v e (differ d) = around_end w s a c m (Met w' b g.count m a other u) z.around h v (λ y. d (sym y)) e
