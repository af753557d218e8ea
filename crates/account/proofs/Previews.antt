-- Preview: it leaves every slice but the work; its edge has no order;
use Rattle.std.specs.Prelude.{◌≡◌, ◌⊎◌, ◌||◌, ◌+◌, ◌*◌, ◌<◌, ◌≤◌, ◌∷◌}
use Rattle.laws.specs.Kit.{refl, ◌∙◌, ap, inl, inr, true, false, Option, none, some, ℕ, suc, arith, ne_eqb, le-ltb, List, [], length}
use Rattle.definition.specs.Lists.{find}
use Rattle.definition.specs.Numbers.{Settings, Turn, first_turn, second_turn, max_attempts, max_triangles, tiny_length}
use Rattle.definition.specs.Counts.{◌⊞◌, tally, no_counts, one_attempt, Refusal, Recovery, Spent, nothing_spent, inserting, trying}
use Rattle.definition.specs.Plane.{Edge, norm, from_to}
use Rattle.definition.specs.Cells.{Cell, tri, quad, Live, Mesh, key, node_at, tri_owner, is_front, live_tris}
use Rattle.definition.specs.Floats.{◌≼◌}
use Rattle.definition.specs.Trials.{Trial, trials}
use Rattle.definition.specs.Insertion.{Inserted, nowhere, inserted, full}
use Rattle.definition.specs.Attempt.{Tried, made, failed, orphaned, lacking, try_pair, Attempt, placed, refused, ended, try_pairs, try_trials, Stance, Sides, found, missing, overfull, sides_by, sides_from, side_nodes, try_both, try_first, stance, try_along, lies_left, try_seed, try_owner, try_quad}
use Rattle.definition.specs.Front.{State, counting, after, make_attempt, past_limit, attempt, new_mesh, start}
use Rattle.definition.specs.Call.{Asked, Lent, given_points, given_tris, given_locks, conditions, settings_within, settings}
use Rattle.definition.specs.Preview.{shown, show_edge, cleared, preview}
use Rattle.laws.specs.Bools.{cond_ok}
use Rattle.laws.specs.Lists.{known}
use Rattle.laws.specs.Cells.{key_swap}
use Rattle.account.proofs.LiveTris.{live_tris_is}
use Rattle.account.proofs.Start.{start_tris}
use Rattle.account.specs.Previews.{Adds, Inserts, begun}

-- ---- the slices
-- a preview leaves the slices as they were, or the work is cleared and all else as it was
pub preview_leaves : (a : Asked) (l : Lent) (u v : ℕ) → ((preview a l u v).lent ≡ l) ⊎ ((preview a l u v).lent ≡ cleared l)
unfolding preview
preview_leaves a l u v = elim (known (find (λ c. c.1) (conditions a l))) [ inl f ↦ rw (f, preview) (inr refl) | inr f ↦ rw (f.1, preview) (inl refl) ]

-- ---- the edge has no order
pub either_order : (a : Asked) (l : Lent) (u v : ℕ) → preview a l u v ≡ preview a l v u
unfolding preview
either_order a l u v =
    elim (known (find (λ c. c.1) (conditions a l))) [
      | inl f ↦ rw (f, preview) (ap (λ e. record { shown = show_edge (settings a) (new_mesh (settings a) (given_locks a l) (given_tris a l) (given_points a l)) e; lent = cleared l }) (key_swap u v))
      | inr f ↦ rw (f.1, preview) refl
    ]

-- Of an edge on the front of the starting mesh, the preview shows how the attempt on it ends.
pub preview_shows : (a : Asked) (l : Lent) (u v : ℕ) → find (λ c. c.1) (conditions a l) ≡ none → (key u v).0 < (key u v).1 → is_front (begun a l).mesh (key u v) ≡ true
    → (preview a l u v).shown ≡ shown (try_quad (settings a) (begun a l).mesh (key u v))
unfolding preview show_edge start
preview_shows a l u v f less on = rw (f, preview, ne_eqb (key u v).0 (key u v).1 (λ z. omega arith), on) refl

-- The attempt that a preview shows is the run's first where the run begins with the edge:
-- no limit comes before it, and it is made on the same mesh.
pub first_attempt : (a : Asked) (l : Lent) (e : Edge) → length (given_tris a l) ≡ a.count → is_front (begun a l).mesh e ≡ true
    → attempt (settings a) (length (given_tris a l)) (begun a l) e ≡ after (counting (begun a l) one_attempt) e (try_quad (settings a) (begun a l).mesh e)
unfolding attempt make_attempt past_limit counting start settings settings_within max_attempts max_triangles ◌⊞◌ tally no_counts one_attempt
first_attempt a l e given on =
    let m = (begun a l).mesh in
    let live : live_tris m ≡ length (given_tris a l) = live_tris_is m ∙ ap length (start_tris (settings a) (given_locks a l) (given_tris a l) (given_points a l)) in
    rw (le-ltb (200 * a.count + 10000) 1 (omega arith), le-ltb (4 * length (given_tris a l) + 100) (live_tris m) (omega (arith, live)), on) refl

module _ (s : Settings) where
  pairs_case : (k : ℕ) (n : Spent) (m : Mesh) (e : Edge) (last : Refusal) (t : Trial) (ts : List Trial) (r : Tried) → try_pair s m t.nodes (tri_owner m e) ≡ r → n.insertions ≤ k
      → ((j : ℕ) (m' : Mesh) (why : Refusal) → Inserts k (try_pairs s (trying j n) m' e why ts)) → Inserts k (try_pairs s n m e last (t ∷ ts))
  unfolding try_pairs trying
  pairs_case k n m e last t ts (made j q m') f h next = rw (f, try_pairs) h
  pairs_case k n m e last t ts (failed j why m') f h next = rw (f, try_pairs) (next j m' why)
  pairs_case k n m e last t ts orphaned f h next = rw (f, try_pairs) h
  pairs_case k n m e last t ts (lacking w j m') f h next = rw (f, try_pairs) h

  pairs_insert : (k : ℕ) (n : Spent) (m : Mesh) (e : Edge) (last : Refusal) (ts : List Trial) → n.insertions ≤ k → Inserts k (try_pairs s n m e last ts)
  unfolding try_pairs trying
  pairs_insert k n m e last [] h = h
  pairs_insert k n m e last (t ∷ ts) h = pairs_case k n m e last t ts (try_pair s m t.nodes (tri_owner m e)) refl h (λ j m' why. pairs_insert k (trying j n) m' e why ts h)

  trials_insert : (k : ℕ) (n : Spent) (m : Mesh) (e : Edge) (ts : List Trial) → n.insertions ≤ k → Inserts k (try_trials s n m e ts)
  unfolding try_trials
  trials_insert k n m e [] h = h
  trials_insert k n m e (t ∷ ts) h = pairs_insert k n m e Recovery (t ∷ ts) h

  by_adds : (k : ℕ) (n : Spent) (m : Mesh) (r : Inserted) → n.insertions ≤ k → Adds (suc k) (sides_by n m r)
  unfolding sides_by inserting
  by_adds k n m nowhere h = omega arith
  by_adds k n m (inserted v m') h = omega arith
  by_adds k n m (full w) h = omega arith

  from_adds : (k : ℕ) (f : Stance) (n : Spent) (m : Mesh) (p : ℕ) (cs : List ℕ) → n.insertions ≤ k → Adds (suc k) (sides_from s f n m p cs)
  unfolding sides_from
  from_adds k f n m p (c ∷ cs) h = omega arith
  from_adds k f n m p [] h = cond_ok (Adds (suc k)) f.mismatch _ _ (λ z. by_adds k n m _ h) (λ z. omega arith)

  nodes_adds : (k : ℕ) (t : Turn) (f : Stance) (n : Spent) (m : Mesh) (p other : ℕ) → n.insertions ≤ k → Adds (suc k) (side_nodes s t f n m p other)
  unfolding side_nodes
  nodes_adds k t f n m p other h = from_adds k f n m p _ h

  both_insert : (k : ℕ) (f : Stance) (cs : List ℕ) (r : Sides) → Adds k r → Inserts k (try_both s f cs r)
  unfolding try_both
  both_insert k f cs (missing n m) h = h
  both_insert k f cs (overfull w n m) h = h
  both_insert k f cs (found ds n m) h = trials_insert k n m f.edge (trials s.quality m f.a f.b cs ds) h

  first_insert : (k : ℕ) (f : Stance) (r : Sides) → Adds k r → Inserts (suc k) (try_first s f r)
  unfolding try_first
  first_insert k f (missing n m) h = omega arith
  first_insert k f (overfull w n m) h = omega arith
  first_insert k f (found cs n m) h = both_insert (suc k) f cs (side_nodes s second_turn f n m f.b f.a) (nodes_adds k second_turn f n m f.b f.a h)

  along_insert : (m : Mesh) (e : Edge) (seed a b : ℕ) → Inserts 2 (try_along s m e seed a b)
  unfolding try_along nothing_spent
  along_insert m e seed a b =
      let f = stance s m e seed a b in
      cond_ok (Inserts 2) (f.target ≼ tiny_length || norm (from_to (node_at m a) (node_at m b)) ≼ tiny_length) _ _ (λ z. omega arith)
      (λ z. first_insert 1 f (side_nodes s first_turn f nothing_spent m a b) (nodes_adds 0 first_turn f nothing_spent m a b (omega arith)))

  seed_insert : (m : Mesh) (e : Edge) (seed : ℕ) (c : Cell) → Inserts 2 (try_seed s m e seed c)
  unfolding try_seed nothing_spent
  seed_insert m e seed (quad q) = omega arith
  seed_insert m e seed (tri t) =
      elim (lies_left m e t) as (λ left. Inserts 2 (elim left [ true ↦ try_along s m e seed e.0 e.1 | false ↦ try_along s m e seed e.1 e.0 ])) [
        | true ↦ along_insert m e seed e.0 e.1
        | false ↦ along_insert m e seed e.1 e.0
      ]

  owner_insert : (m : Mesh) (e : Edge) (o : Option Live) → Inserts 2 (try_owner s m e o)
  unfolding try_owner nothing_spent
  owner_insert m e none = omega arith
  owner_insert m e (some x) = seed_insert m e x.slot x.cell

  -- one at each end of the edge
  pub at_most_two : (m : Mesh) (e : Edge) → Inserts 2 (try_quad s m e)
  unfolding try_quad
  at_most_two m e = owner_insert m e (tri_owner m e)
