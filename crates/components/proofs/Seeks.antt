-- One cell looked at, and the ring of a node walked past those listed.
use Rattle.std.specs.Prelude.{None, Some, ◌≡◌, ◌≢◌, ◌⊎◌, ◌||◌, ◌+◌, ◌*◌, ◌/◌, ◌<◌, ◌≤◌}
use Rattle.laws.specs.Kit.{ap, refl, sym, ◌∙◌, subst, inl, inr, Bool, true, false, false≢true, ℕ, arith, eq-eqb, ne_eqb, List, get_or}
use Rattle.rings.specs.Rings.{nx}
use Rattle.definition.specs.Cells.{Tri, Cell, tri, Live, Mesh, live_tri, tri_has}
use Rattle.laws.specs.Bools.{either, never}
use Rattle.laws.specs.Lists.{In}
use Rattle.account.specs.Triangles.{Has as Corner}
use Rattle.account.proofs.Triangles.{has_test, test_has}
use Rattle.cells.specs.Layout.{marks_at, rings_at}
use Rattle.cells.specs.Rep.{CellAt}
use Rattle.cells.specs.Walk.{left}
use Rattle.cells.proofs.Walks.{start}
use Rattle.cells.proofs.Slots.{rep_held, in_has}
use Rattle.components.specs.Flood.{body, Marked, Seen, At}
use Rattle.components.specs.Seek.{IsNew, Ring, Passed, Sought, Looked, nobody, somebody}
use Rattle.components.proofs.Members.{tri_is}
use Rattle.components.proofs.Grows.{inside, fresh, known, kind}
use Rattle.components.proofs.Spots.{Spot, spot, spot_end}

-- ---- one cell

or_has : (t : Tri) (y z : ℕ) → (tri_has t y || tri_has t z) ≡ true → Corner t y ⊎ Corner t z
or_has t y z h = elim (either (tri_has t y) (tri_has t z) h) [ inl e ↦ inl (test_has t y e) | inr e ↦ inr (test_has t z e) ]

has_or : (t : Tri) (y z : ℕ) → Corner t y ⊎ Corner t z → (tri_has t y || tri_has t z) ≡ true
has_or t y z (inl h) = rw (has_test t y h)
has_or t y z (inr h) = rw (has_test t z h) (last (tri_has t y))
  where
    last : (b : Bool) → (b || true) ≡ true
    last true = refl
    last false = refl

module _ {w : List ℕ} {s p k j : ℕ} {m : Mesh} {xs : List Live} {x : Live} (h : Seen w s p k j m xs x) (y z : ℕ) where
  pub new_other : get_or w j 0 ≢ 3 → IsNew xs x y z false
  new_other e = record { yes = λ q. absurd (false≢true q); no = λ q t o. never (live_tri x) t (sym (kind w s p k j m xs x h) ∙ ne_eqb (get_or w j 0) 3 e) }

  pub new_known : get_or w (marks_at s p + j) 0 ≢ 0 → IsNew xs x y z false
  new_known e = record { yes = λ q. absurd (false≢true q); no = λ q t o. known w s p k j m xs x h e }

  module _ (e : get_or w j 0 ≡ 3) where
    is_triangle : live_tri x ≡ true
    is_triangle = sym (kind w s p k j m xs x h) ∙ eq-eqb (get_or w j 0) 3 e

    -- the triangle that is read
    pub seen_cell : CellAt w s j (tri (body x))
    seen_cell =
        subst (λ (i : ℕ). CellAt w s i (tri (body x))) (sym h.slot)
        (subst (λ (c : Cell). CellAt w s x.slot c) (tri_is x is_triangle) (rep_held w s p m h.state.rep (in_has x m.live h.live)).at)

    pub new_read : get_or w (marks_at s p + j) 0 ≡ 0 → (r : Bool) → r ≡ (tri_has (body x) y || tri_has (body x) z) → IsNew xs x y z r
    new_read f r q =
        record {
          yes = λ a. (is_triangle, fresh w s p k j m xs x h f, or_has (body x) y z (sym q ∙ a));
          no = λ a t o. never r (q ∙ has_or (body x) y z o) a;
        }

-- ---- the ring of a node

pub ring_start : {w : List ℕ} {s p k : ℕ} {m : Mesh} {xs : List Live} (u : ℕ) → Marked w s p k m xs → u < p → Ring w s p k u (nx w (rings_at s) (4 * s + u)) m xs m.live
ring_start {w} {s} {p} {k} {m} {xs} u h l = record { state = h; pos = start w s p u m h.rep l; part = λ e i. i }

pub passed_start : {w : List ℕ} {s p k u c : ℕ} {m : Mesh} {xs rest : List Live} (y z : ℕ) → Ring w s p k u c m xs rest → Passed w s p k u y z c m xs rest
passed_start {rest = rest} y z g = record { ahead = rest; ring = g; all = λ e i t o. inr i }

module _ {w : List ℕ} {s p k u y z c : ℕ} {m : Mesh} {xs rest : List Live} (g : Passed w s p k u y z c m xs rest) where
  pub passed_end : 4 * s ≤ c → Sought w s p k u y z c m xs rest
  passed_end l = record { passed = g; here = λ q. absurd (omega (arith, l, q)) }

  module _ (h : c < 4 * s) where
    place : Spot w s p u c g.ahead g.ring.pos
    place = spot w s p u c g.ahead g.ring.pos h

    -- the cell at the corner
    pub passed_cell : Live
    passed_cell = place.e

    pub passed_seen : Seen w s p k (c / 4) m xs passed_cell
    unfolding passed_cell
    passed_seen = record { state = g.ring.state; live = g.ring.part place.e place.has; slot = place.slot }

    pub passed_less : left w s p (nx w (rings_at s) c) < left w s p c
    passed_less = place.less

    module _ (r : Bool) (f : IsNew xs passed_cell y z r) where
      pub passed_found : r ≡ true → Sought w s p k u y z c m xs rest
      unfolding passed_cell
      passed_found a =
          let n = f.yes a in
          record {
            passed = g;
            here = λ q. record { x = place.e; live = g.ring.part place.e place.has; slot = place.slot; is_tri = n.0; out = n.1; at = (place.corner n.0, n.2) };
          }

      pub passed_on : r ≡ false → Passed w s p k u y z (nx w (rings_at s) c) m xs rest
      unfolding passed_cell
      passed_on a =
          record {
            ahead = place.l;
            ring = record { state = g.ring.state; pos = place.then; part = λ e i. g.ring.part e (place.part e i) };
            all = λ e i t o. elim (g.all e i t o) [
              | inl j ↦ inl j
              | inr j ↦ elim (place.split e j t o.0) [ inl q ↦ inl (passed_by e q t o) | inr q ↦ inr q ]
            ];
          }
        where
          passed_by : (e : Live) → e ≡ place.e → live_tri e ≡ true → At u y z e → In e xs
          passed_by e q t o =
              subst (λ (v : Live). In v xs) (sym q) (f.no a (subst (λ (v : Live). live_tri v ≡ true) q t) (subst (λ (v : Live). At u y z v) q o).1)

module _ {w : List ℕ} {s p k u y z c : ℕ} {m : Mesh} {xs rest : List Live} (g : Sought w s p k u y z c m xs rest) where
  -- at the ring's end all are listed
  pub sought_none : 4 * s ≤ c → (e : Live) → In e rest → live_tri e ≡ true → At u y z e → In e xs
  sought_none l e i t o = elim (g.passed.all e i t o) [ inl j ↦ j | inr j ↦ absurd (spot_end w s p u c g.passed.ahead g.passed.ring.pos l e j t o.0) ]

  -- the one that is not
  pub sought_seen : (h : c < 4 * s) → Seen w s p k (c / 4) m xs (g.here h).x
  sought_seen h = record { state = g.passed.ring.state; live = (g.here h).live; slot = (g.here h).slot }

-- in the whole ring
module _ {w : List ℕ} {s p k u y z c : ℕ} {m : Mesh} {xs : List Live} (g : Sought w s p k u y z c m xs m.live) where
  pub sought_found : {P : Live → Type 0} → c < 4 * s → Looked s (Some (c / 4)) m xs P
  sought_found h =
      let f = g.here h in
      somebody f.x f.live f.is_tri (ap (λ (v : ℕ). Some v) f.slot) (let z = inside w s p k (c / 4) m xs f.x (sought_seen g h) in omega (arith, f.slot, z)) f.out

  pub sought_nobody : 4 * s ≤ c → Looked s None m xs (At u y z)
  sought_nobody l = nobody refl (sought_none g l)
