-- The owners of an edge pushed one after the other.
use mathlib.Core.Path.{◌≡◌, refl, ap, sym, ◌∙◌, subst}
use mathlib.Core.Logic.{◌≢◌}
use mathlib.Core.List.{List, [], ◌∷◌, foldl}
use mathlib.Core.Bool.{Bool, true, false}
use Prim.Native.Nat.{ℕ, ◌*◌, ◌/◌, ◌≤◌, ◌<◌}
use native.Mathlib.Omega.{arith}
use lib.Dec.{eqb}
use lib.ListN.{get_or}
use borrow.Author.Tests.{eq-eqb, ne_eqb}
use Rattle.definition.specs.Cells.{Live, Mesh, live_tri, key, owners}
use Rattle.definition.specs.Candidates.{on_top, shared_by_tris}
use Rattle.cells.specs.Rep.{Has, here, there}
use Rattle.cells.specs.Walk.{At, Next, left}
use Rattle.cells.proofs.Owners.{Here, at_here, at_end, at_more}
use Rattle.cells.proofs.Frames.{at_under, left_under}
use Rattle.cells.proofs.Slots.{owner_live}
use Rattle.cells.proofs.Fronts.{held_tri}
use Rattle.live_regions.specs.Walls.{tally_with, tally}
use Rattle.live_regions.specs.Stack.{Scratch, Hold, Met, PushTo, CanPush, Pair, EdgeTo}
use Rattle.live_regions.proofs.Tallies.{shared_tally, two_of}
use Rattle.live_regions.proofs.Scratches.{scratch_refl, scratch_trans, scratch_under}

-- the slot of the last, or another number
abbrev pub last_of : ℕ → List Live → ℕ
last_of j [] = j
last_of j (x ∷ l) = last_of x.slot l

first_is : (x y : Live) (l k : List Live) → x ∷ l ≡ y ∷ k → x ≡ y
first_is x y l k e = cc

-- the owners xs are still to come; k is the tally of those before, and j the slot of the last of them
pub record Going (w₀ w : List ℕ) (s p i u v k j c : ℕ) (m : Mesh) (out seen st : List Live) : Type 0 where
  pub xs : List Live
  pub now : List Live
  pub at : At w s p u v c xs
  pub hold : Hold w s p m out seen now
  pub scratch : Scratch w₀ w s p
  pub live : (x : Live) → Has x xs → Has x m.live
  pub same : foldl (on_top seen) st (owners m (key u v)) ≡ foldl (on_top seen) now xs
  pub count : tally 0 (owners m (key u v)) ≡ tally k xs
  pub last : last_of i (owners m (key u v)) ≡ last_of j xs

pub going_start : (w : List ℕ) (s p i u v c : ℕ) (m : Mesh) (out seen st : List Live) → Hold w s p m out seen st → At w s p u v c (owners m (key u v))
    → Going w w s p i u v 0 i c m out seen st
going_start w s p i u v c m out seen st h k =
    record { xs = owners m (key u v); now = st; at = k; hold = h; scratch = scratch_refl w s p; live = λ x y. owner_live m (key u v) y; same = refl; count = refl; last = refl }

module _ (w₀ w : List ℕ) (s p i u v k j c : ℕ) (m : Mesh) (out seen st : List Live) (g : Going w₀ w s p i u v k j c m out seen st) where
  module _ (h : 4 * s ≤ c) where
    going_none : g.xs ≡ []
    going_none = at_end w s p u v c g.xs g.at h

    going_count : tally 0 (owners m (key u v)) ≡ k
    going_count = g.count ∙ ap (tally k) going_none

    pub going_pushed : PushTo w₀ w s p m out seen (foldl (on_top seen) st (owners m (key u v)))
    going_pushed =
        let e : foldl (on_top seen) st (owners m (key u v)) ≡ g.now = g.same ∙ ap (foldl (on_top seen) g.now) going_none in
        subst (λ (l : List Live). PushTo w₀ w s p m out seen l) (sym e) (record { hold = g.hold; scratch = g.scratch })

    pub going_shared : (b : Bool) → eqb k 2 ≡ b → b ≡ shared_by_tris m (key u v)
    going_shared b e = sym (shared_tally m (key u v) ∙ ap (λ (n : ℕ). eqb n 2) going_count ∙ e)

    pub going_wall : k ≢ 2 → EdgeTo w₀ w s p u v false m out seen st
    going_wall n = record { to = going_pushed; shared = going_shared false (ne_eqb k 2 n) }

    -- f: the corner of the first owner, as it was found
    pub going_pair : (f : ℕ) → At w₀ s p u v f (owners m (key u v)) → CanPush w₀ s p i u v m out seen st → k ≡ 2
        → Pair w s p i (f / 4) j u v m out seen (foldl (on_top seen) st (owners m (key u v)))
    going_pair f a d n =
        let t = two_of (owners m (key u v)) (going_count ∙ n) in
        let b = subst (λ (l : List Live). At w₀ s p u v f l) t.are a in
        let o = at_here w₀ s p u v f (t.x ∷ t.y ∷ []) b (at_more w₀ s p u v f t.x (t.y ∷ []) b) in
        let same : t.x ≡ o.x = first_is t.x o.x (t.y ∷ []) o.more o.is in
        record {
          can = record { hold = going_pushed.hold; visited = d.visited; owner = d.owner };
          x = t.x;
          y = t.y;
          are = t.are;
          tris = t.tris;
          first = o.slot ∙ ap (λ (z : Live). z.slot) (sym same);
          second = sym (sym (ap (last_of i) t.are) ∙ g.last ∙ ap (last_of j) going_none);
          shared = sym (going_shared true (eq-eqb k 2 n));
        }

    pub going_both : k ≡ 2 → (w' : List ℕ) → PushTo w w' s p m out seen (foldl (on_top seen) st (owners m (key u v))) → EdgeTo w₀ w' s p u v true m out seen st
    going_both n w' z =
        record {
          to = record { hold = z.hold; scratch = scratch_trans w₀ w w' s p g.scratch z.scratch };
          shared = going_shared true (eq-eqb k 2 n);
        }

  module _ (h : c < 4 * s) where
    pub going_here : Here w s p c g.xs
    going_here = at_here w s p u v c g.xs g.at h

    pub going_met : Met w s p (c / 4) m out seen g.now going_here.x
    going_met =
        record {
          hold = g.hold;
          has = g.live going_here.x (subst (Has going_here.x) (sym going_here.is) here);
          slot = going_here.slot;
          inside = omega (arith, going_here.slot, going_here.held.inside);
        }

    going_kind : eqb (get_or w (c / 4) 0) 3 ≡ live_tri going_here.x
    going_kind = ap (λ (n : ℕ). eqb (get_or w n 0) 3) going_here.slot ∙ held_tri w s s p going_here.x going_here.held

    module _ (w' : List ℕ) (f : PushTo w w' s p m out seen (on_top seen g.now going_here.x)) where
      pub going_at : At w' s p u v c g.xs
      going_at = at_under w w' s p (scratch_under w w' s p f.scratch) u v c g.xs g.at

      module _ (r : ℕ) (n : Next w' s p u v c r) where
        pub going_less : left w' s p r < left w s p c
        going_less = omega (arith, n.fewer, left_under w w' s p (scratch_under w w' s p f.scratch) c)

        pub going_on : Going w₀ w' s p i u v (tally_with (eqb (get_or w (c / 4) 0) 3) k) (c / 4) r m out seen st
        going_on =
            record {
              xs = going_here.more;
              now = on_top seen g.now going_here.x;
              at = n.at going_here.x going_here.more (subst (λ (l : List Live). At w' s p u v c l) going_here.is going_at);
              hold = f.hold;
              scratch = scratch_trans w₀ w w' s p g.scratch f.scratch;
              live = λ x y. g.live x (subst (Has x) (sym going_here.is) (there y));
              same = g.same ∙ ap (foldl (on_top seen) g.now) going_here.is;
              count = g.count ∙ ap (tally k) going_here.is ∙ ap (λ (b : Bool). tally (tally_with b k) going_here.more) (sym going_kind);
              last = g.last ∙ ap (last_of j) going_here.is ∙ ap (λ (z : ℕ). last_of z going_here.more) (sym going_here.slot);
            }
