-- Which edges are locked stays: through the recovery of a side, and through a pair.
use Rattle.std.specs.Prelude.{◌≡◌, ◌&&◌, ◌+◌}
use Rattle.laws.specs.Kit.{refl, sym, ◌∙◌, subst, Bool, Option, none, some, ℕ, ltb, List, length}
use Rattle.definition.specs.Numbers.{Settings}
use Rattle.definition.specs.Counts.{Refusal}
use Rattle.definition.specs.Plane.{Edge}
use Rattle.definition.specs.Cells.{Quad, Live, Mesh, born, this_round}
use Rattle.definition.specs.Trace.{in_room}
use Rattle.definition.specs.Flips.{recover}
use Rattle.definition.specs.Components.{removing_leaves_odd_component}
use Rattle.definition.specs.Region.{region}
use Rattle.definition.specs.Attempt.{Tried, made, failed, orphaned, lacking, recover_all, replaced, replace, try_region, try_recovered, open_sides, try_pair}
use Rattle.laws.specs.Bools.{cond_ok}
use Rattle.account.proofs.Locks.{recover_locked, recover_all_locked, replaced_locked}
use Rattle.joints.specs.Table.{Locks}

-- ---- recovery

pub locks_stay : (j : List ℕ) (m : Mesh) (u v : ℕ) → Locks j m.locked → Locks j (recover m u v).mesh.locked
locks_stay j m u v l = subst (Locks j) (sym (recover_locked m u v)) l

pub all_locks_stay : (j : List ℕ) (m : Mesh) (es : List Edge) → Locks j m.locked → Locks j (recover_all m es).mesh.locked
all_locks_stay j m es l = subst (Locks j) (sym (recover_all_locked m es)) l

-- ---- a pair

-- the locked edges are k afterwards
abbrev Kept : (Edge → Bool) → Tried → Type 0
Kept k (made n q m) = m.locked ≡ k
Kept k (failed n why m) = m.locked ≡ k
Kept k orphaned = Unit {0}
Kept k (lacking w n m) = m.locked ≡ k

module _ (s : Settings) (q : Quad) (k : Edge → Bool) where
  region_kept : (n : ℕ) (m : Mesh) (o : Option (List Live)) → m.locked ≡ k → Kept k (try_region s n m q o)
  unfolding try_region replace
  region_kept n m none h = h
  region_kept n m (some xs) h =
      let b = born (this_round m) (length xs) q in
      cond_ok (Kept k) (s.even && removing_leaves_odd_component m xs) _ _ (λ z. h)
      (λ z. cond_ok (Kept k) (ltb s.slots (m.used + 1)) _ _ (λ y. h) (λ y. cond_ok (Kept k) (in_room (replaced m b xs)) _ _ (λ x. replaced_locked m b xs ∙ h) (λ x. h)))

  pair_kept : (m : Mesh) (o : Option Live) → m.locked ≡ k → Kept k (try_pair s m q o)
  unfolding try_pair try_recovered
  pair_kept m none h = tt
  pair_kept m (some x) h =
      let r = recover_all m (open_sides q) in
      let e : r.mesh.locked ≡ k = recover_all_locked m (open_sides q) ∙ h in
      cond_ok (Kept k) r.there _ _ (λ z. region_kept r.flips r.mesh (region r.mesh x.slot q) e) (λ z. cond_ok (Kept k) r.short _ _ (λ y. e) (λ y. e))

-- what a pair that failed leaves
pub failed_locked : (s : Settings) (m : Mesh) (q : Quad) (o : Option Live) (n : ℕ) (why : Refusal) (m' : Mesh) → try_pair s m q o ≡ failed n why m' → m'.locked ≡ m.locked
failed_locked s m q o n why m' e = subst (Kept m.locked) e (pair_kept s q m.locked m o refl)
