-- Triangles met: those at one node, one after the other, and those that share an edge with a triangle.
use Rattle.std.specs.Prelude.{◌≡◌, ◌⊎◌, ◌+◌, ◌*◌, ◌/◌, ◌<◌, ◌≤◌, ◌∷◌, ◌++◌}
use Rattle.laws.specs.Kit.{sym, ◌∙◌, subst, inl, inr, true, ℕ, arith, List, [], append-nil, append_assoc}
use Rattle.definition.specs.Cells.{Tri, Live, Mesh, live_tri}
use Rattle.laws.specs.Lists.{In, in_left, in_either}
use Rattle.account.specs.Triangles.{Has as Corner}
use Rattle.cells.proofs.Frames.{pos_under}
use Rattle.regions.specs.Listing.{CanList, Aside}
use Rattle.regions.proofs.Listings.{aside_refl, aside_trans}
use Rattle.regions.proofs.Reaches.{appended}
use Rattle.components.specs.Flood.{body, Marked, Seen, Met, At, Beside}
use Rattle.components.specs.Seek.{Ring, Fresh, Sought}
use Rattle.components.proofs.Members.{Nodes, shares_at, first_shares, second_shares}
use Rattle.components.proofs.Grows.{few, more, seen_can, seen_room, Grown, grown}
use Rattle.components.proofs.Seeks.{sought_none, sought_seen}

-- ---- the ring of a node

-- met up to the corner c, where the next one is
pub record Going (w₀ w : List ℕ) (s p u y z k c : ℕ) (m : Mesh) (xs : List Live) : Type 0 where
  pub new : List Live
  pub rest : List Live
  pub sought : Sought w s p k u y z c m (xs ++ new) rest
  pub aside : Aside w₀ w s p
  pub from : (e : Live) → In e new → At u y z e
  pub all : (e : Live) → In e m.live → live_tri e ≡ true → At u y z e → In e (xs ++ new) ⊎ In e rest

pub going_start : {w : List ℕ} {s p u y z n c : ℕ} {m : Mesh} {xs : List Live} → Sought w s p n u y z c m xs m.live → Going w w s p u y z n c m xs
going_start {w} {s} {p} {m = m} {xs = xs} f =
    record { new = []; rest = m.live; sought = rw (append-nil xs) f; aside = aside_refl w s p; from = λ e i. absurd i; all = λ e i t o. inr i }

module _ {w₀ w : List ℕ} {s p u y z k c : ℕ} {m : Mesh} {xs : List Live} (g : Going w₀ w s p u y z k c m xs) where
  pub going_state : Marked w s p k m (xs ++ g.new)
  going_state = g.sought.passed.ring.state

  pub going_few : k ≤ s
  going_few = omega (arith, few going_state, going_state.rep.used)

  pub going_end : 4 * s ≤ c → Met w₀ w s p k m xs (At u y z)
  going_end h =
      record {
        new = g.new;
        state = going_state;
        aside = g.aside;
        from = g.from;
        all = λ e i t o. elim (g.all e i t o) [ inl j ↦ j | inr j ↦ sought_none g.sought h e j t o ];
      }

  module _ (h : c < 4 * s) where
    it : Fresh u y z (c / 4) m (xs ++ g.new)
    it = g.sought.here h

    seen : Seen w s p k (c / 4) m (xs ++ g.new) (g.sought.here h).x
    seen = sought_seen g.sought h

    pub going_can : CanList w s p k × CanList w s p (c / 4)
    unfolding it
    going_can = (seen_room w s p k (c / 4) m (xs ++ g.new) it.x seen it.out, seen_can w s p k (c / 4) m (xs ++ g.new) it.x seen)

    pub going_more : k < s
    unfolding it
    going_more = more w s p k (c / 4) m (xs ++ g.new) it.x seen it.out

    more_listed : Grown w s p k (c / 4) m (xs ++ g.new) (g.sought.here h).x seen
    unfolding it
    more_listed = grown w s p k (c / 4) m (xs ++ g.new) it.x seen it.out it.is_tri

    -- the cells listed, with it
    abbrev pub going_listed : List Live
    going_listed = (xs ++ g.new) ++ (g.sought.here h).x ∷ []

    module _ (w' : List ℕ) (a : w' ≡ appended w s p k (c / 4)) where
      kept : Aside w w' s p
      kept = subst (λ (v : List ℕ). Aside w v s p) (sym a) more_listed.aside

      -- the walk can be taken up at the same corner
      pub going_ring : Ring w' s p (k + 1) u c m going_listed g.sought.passed.ahead
      going_ring =
          let r = g.sought.passed.ring in
          record {
            state = subst (λ (v : List ℕ). Marked v s p (k + 1) m going_listed) (sym a) more_listed.state;
            pos = pos_under w w' s p kept.under u c g.sought.passed.ahead r.pos;
            part = r.part;
          }

      pub going_on : (c' : ℕ) → Sought w' s p (k + 1) u y z c' m going_listed g.sought.passed.ahead → Going w₀ w' s p u y z (k + 1) c' m xs
      unfolding it
      going_on c' f =
          record {
            new = g.new ++ it.x ∷ [];
            rest = g.sought.passed.ahead;
            sought = subst (λ (l : List Live). Sought w' s p (k + 1) u y z c' m l g.sought.passed.ahead) (append_assoc xs g.new (it.x ∷ [])) f;
            aside = aside_trans w₀ w w' s p g.aside kept;
            from = λ e i. elim (in_either e g.new (it.x ∷ []) i) [
              | inl j ↦ g.from e j
              | inr (inl q) ↦ subst (λ (v : Live). At u y z v) (sym q) it.at
              | inr (inr j) ↦ absurd j
            ];
            all = λ e i t o. elim (g.all e i t o) [
              | inl j ↦ inl (whole e j)
              | inr j ↦ elim (g.sought.passed.all e j t o) [ inl q ↦ inl (whole e q) | inr q ↦ inr q ]
            ];
          }
        where
          whole : (e : Live) → In e (xs ++ g.new) → In e (xs ++ (g.new ++ it.x ∷ []))
          whole e i = subst (λ (l : List Live). In e l) (append_assoc xs g.new (it.x ∷ [])) (in_left e (xs ++ g.new) (it.x ∷ []) i)

-- ---- a triangle's three edges

pub at_same : (e : Live) (u y z u' y' z' : ℕ) → u ≡ u' → y ≡ y' → z ≡ z' → At u y z e → At u' y' z' e
at_same e u y z u' y' z' a b c h =
    (subst (λ (v : ℕ). Corner (body e) v) a h.0, elim h.1 [ inl k ↦ inl (subst (λ (v : ℕ). Corner (body e) v) b k) | inr k ↦ inr (subst (λ (v : ℕ). Corner (body e) v) c k) ])

-- those at the first node, then those at the second that have the third; the nodes x, y,
-- z were read, u and v are the first two
pub met_both : (w w1 w2 : List ℕ) (s p r r2 : ℕ) (m : Mesh) (xs : List Live) (t : Tri) (x y z u v : ℕ) → Nodes p x y z t → u ≡ x → v ≡ y → (f : Met w w1 s p r m xs (At u y z))
    → Met w1 w2 s p r2 m (xs ++ f.new) (At v z z) → Met w w2 s p r2 m xs (Beside t)
met_both w w1 w2 s p r r2 m xs t x y z u v n eu ev f g =
    record {
      new = f.new ++ g.new;
      state = subst (λ (l : List Live). Marked w2 s p r2 m l) whole g.state;
      aside = aside_trans w w1 w2 s p f.aside g.aside;
      from = λ e i. elim (in_either e f.new g.new i) [
        | inl j ↦ first_shares t n.three e (at_same e u y z t.n0 t.n1 t.n2 a b c (f.from e j))
        | inr j ↦ second_shares t n.three e (at_same e v z z t.n1 t.n2 t.n2 d c c (g.from e j))
      ];
      all = λ e i h o. subst (λ (l : List Live). In e l) whole (elim (shares_at t e o) [
        | inl j ↦ in_left e (xs ++ f.new) g.new (f.all e i h (at_same e t.n0 t.n1 t.n2 u y z (sym a) (sym b) (sym c) j))
        | inr j ↦ g.all e i h (at_same e t.n1 t.n2 t.n2 v z z (sym d) (sym c) (sym c) j)
      ]);
    }
  where
    whole : (xs ++ f.new) ++ g.new ≡ xs ++ (f.new ++ g.new)
    whole = append_assoc xs f.new g.new

    a : u ≡ t.n0
    a = eu ∙ n.n0

    b : y ≡ t.n1
    b = n.n1

    c : z ≡ t.n2
    c = n.n2

    d : v ≡ t.n1
    d = ev ∙ n.n1
