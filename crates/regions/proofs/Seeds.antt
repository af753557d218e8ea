-- The marks cleared, and the first triangle listed.
use Rattle.std.specs.Prelude.{◌≡◌, ◌≢◌, ◌+◌, ◌*◌, ◌<◌, ◌≤◌, ◌∷◌}
use Rattle.laws.specs.Kit.{refl, sym, ◌∙◌, ap, cond, ℕ, arith, eqb, eq-eqb, ne_eqb, List, [], length, get_or, set, length-set}
use mathlib.Core.Bool.{or-false}
use Rattle.rings.proofs.Lists.{Same, same, differ, decide}
use Rattle.definition.specs.Lists.{any}
use Rattle.definition.specs.Cells.{Live, Mesh, live_tri, is_tri, in_slot, new_live}
use Rattle.laws.specs.Frames.{on, off, Only, keeps_more}
use Rattle.cells.specs.Layout.{marks_at, list_at, refused_at}
use Rattle.cells.specs.Rep.{Has, here, Rep, TriIn}
use Rattle.cells.proofs.Frames.{rep_under}
use Rattle.regions.specs.Listing.{CanMark, State, Aside, Cleared}
use Rattle.regions.specs.Flood.{Seeded, tri_live}
use Rattle.regions.proofs.Listings.{aside_trans}
use Rattle.regions.proofs.Reaches.{appended}

-- a range from the marks on was cleared
pub marks_cleared : (w w' : List ℕ) (s p n from : ℕ) → from ≡ marks_at s p → CanMark w s p n → Only w w' from (from + n) → ((k : ℕ) → k < n → get_or w' (from + k) 0 ≡ 0)
    → Cleared w w' s p n
marks_cleared w w' s p n from e c o z =
    record {
      under = record { len = o.len; low = λ i l. o.low i (omega arith) };
      keeps = record { len = o.len; high = λ i l. o.high i (omega (arith, c.few)) };
      marks = λ i l. ap (λ (x : ℕ). get_or w' (x + i) 0) (sym e) ∙ z i l;
    }

pub cleared_aside : (w w' : List ℕ) (s p n : ℕ) → Cleared w w' s p n → Aside w w' s p
cleared_aside w w' s p n h = record { under = h.under; keeps = keeps_more w w' (list_at s p) (refused_at s p) (omega arith) h.keeps }

module _ (w₀ w : List ℕ) (s p n i : ℕ) (l : i < s) (r : CanMark w₀ s p n) (h : Cleared w₀ w s p n) where
  pub seeded : Seeded w₀ (appended w s p 0 i) s p n i
  unfolding any in_slot live_tri is_tri new_live
  seeded = record { aside = aside; alone = alone }
    where
      w1 : List ℕ
      w1 = set w (marks_at s p + i) 1

      w' : List ℕ
      w' = set w1 (list_at s p + 0) i

      fits : 22 * s + 3 * p ≤ length w
      fits = omega (arith, r.fits, h.under.len)

      len : length w' ≡ length w
      len = simp length-set

      other : (k : ℕ) → k ≢ list_at s p + 0 → k ≢ marks_at s p + i → get_or w' k 0 ≡ get_or w k 0
      other k a b = off w1 (list_at s p + 0) i k a ∙ off w (marks_at s p + i) 1 k b

      aside : Aside w₀ w' s p
      aside = aside_trans w₀ w w' s p (cleared_aside w₀ w s p n h)
          (record {
            under = record { len = len; low = λ k q. other k (λ e. omega arith) (λ e. omega arith) };
            keeps = record { len = len; high = λ k q. other k (λ e. omega (arith, l)) (λ e. omega (arith, l)) };
          })

      first : get_or w' (list_at s p + 0) 0 ≡ i
      first = on w1 (list_at s p + 0) i (simp length-set (omega (arith, fits, l)))

      marked : get_or w' (marks_at s p + i) 0 ≡ 1
      marked = off w1 (list_at s p + 0) i (marks_at s p + i) (λ q. omega (arith, l)) ∙ on w (marks_at s p + i) 1 (omega (arith, fits, l))

      go : (k : ℕ) → k < n → Same k i → get_or w' (marks_at s p + k) 0 ≡ cond (eqb k i) 1 0
      go k q (same e) = rw (eq-eqb k i e) (ap (λ (x : ℕ). get_or w' (marks_at s p + x) 0) e ∙ marked)
      go k q (differ e) = rw (ne_eqb k i e) (other (marks_at s p + k) (λ z. omega (arith, q, r.few)) (λ z. e (omega arith)) ∙ h.marks k q)

      only : (m : Mesh) (t : TriIn m i) (x : Live) → Has x (tri_live i t.t ∷ []) → Has x m.live
      only m t x (Rattle.cells.specs.Rep.there x4) = elim x4 [ ]
      only m t x here = t.has

      alone : (m : Mesh) → Rep w₀ s p m → m.used ≡ n → (t : TriIn m i) → State w' s p 1 m (tri_live i t.t ∷ [])
      alone m rep u t =
          record {
            list =
                record {
                  rep = rep_under w₀ w' s p aside.under m rep;
                  len = refl;
                  many = omega arith;
                  distinct = (tt, tt);
                  live = only m t;
                  tris = (refl, tt);
                  stored = (let z : list_at s p ≡ list_at s p + 0 = omega arith in ap (λ (x : ℕ). get_or w' x 0) z ∙ first, tt);
                };
            marks = λ k q. rw (or-false (eqb k i)) (go k (omega (arith, q, u)) (decide k i));
          }
