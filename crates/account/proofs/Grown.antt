-- Births: the quad that an attempt places grew from the edge of the attempt.
use Rattle.std.specs.Prelude.{◌≡◌, ◌&&◌, ◌||◌, ◌+◌, ◌<◌, ◌∷◌}
use Rattle.laws.specs.Kit.{refl, sym, ◌∙◌, ap, subst, inl, inr, true, false, Option, none, some, ℕ, min, max, arith, ltb, List, []}
use Rattle.definition.specs.Lists.{flat_map, contains}
use Rattle.definition.specs.Floats.{◌≼◌}
use Rattle.definition.specs.Numbers.{Settings, Quality, first_turn, second_turn, tiny_length}
use Rattle.definition.specs.Counts.{Refusal, Recovery, Spent, nothing_spent, trying}
use Rattle.definition.specs.Plane.{Edge, norm, from_to}
use Rattle.definition.specs.Metrics.{passes}
use Rattle.definition.specs.Cells.{Quad, Cell, tri, quad, Live, Mesh, key, new_quad, born, node_at, tri_owner}
use Rattle.definition.specs.Components.{removing_leaves_odd_component}
use Rattle.definition.specs.Region.{region}
use Rattle.definition.specs.Trials.{Trial, rated, metrics_of, trial, trial_before}
use Rattle.definition.specs.Trace.{in_room}
use Rattle.definition.specs.Attempt.{Tried, made, failed, orphaned, lacking, recover_all, replace, try_region, try_recovered, open_sides, try_pair, Attempt, placed, refused, ended, try_pairs, try_trials, Stance, Sides, found, missing, overfull, side_nodes, stance, lies_left, try_quad}
use Rattle.laws.specs.Bools.{which, cond_ok}
use Rattle.laws.specs.Lists.{In, sort_in, in_flat_map}
use Rattle.account.proofs.Rated.{take_in}
use Rattle.account.specs.Pairs.{acceptable, pairs_both, pairs_first, pairs_along, pairs_seed, pairs_owner, pairs_of, turns}
use Rattle.account.proofs.Pairs.{attempt_pairs}
use Rattle.account.specs.Grown.{From, Gave, Grown}

-- ---- the pairs in their turns
module _ (s : Settings) (e : Edge) where
  replace_gave : (j : ℕ) (m : Mesh) (q : Quad) (cells : List Live) → q.edge ≡ e → Gave e (replace s j m q cells)
  unfolding replace born
  replace_gave j m q cells h = cond_ok (Gave e) (ltb s.slots (m.used + 1)) _ _ (λ z. tt) (λ z. cond_ok (Gave e) (in_room _) _ _ (λ y. h) (λ y. tt))

  region_gave : (j : ℕ) (m : Mesh) (q : Quad) (o : Option (List Live)) → q.edge ≡ e → Gave e (try_region s j m q o)
  unfolding try_region
  region_gave j m q none h = tt
  region_gave j m q (some cells) h = cond_ok (Gave e) (s.even && removing_leaves_odd_component m cells) _ _ (λ z. tt) (λ z. replace_gave j m q cells h)

  pair_gave : (m : Mesh) (q : Quad) (o : Option Live) → q.edge ≡ e → Gave e (try_pair s m q o)
  unfolding try_pair try_recovered
  pair_gave m q none h = tt
  pair_gave m q (some x) h =
      let w = recover_all m (open_sides q) in
      cond_ok (Gave e) w.there _ _ (λ z. region_gave w.flips w.mesh q (region w.mesh x.slot q) h) (λ z. cond_ok (Gave e) w.short _ _ (λ y. tt) (λ y. tt))

  pairs_case : (n : Spent) (m : Mesh) (f : Edge) (last : Refusal) (t : Trial) (ts : List Trial) (r : Tried) → try_pair s m t.nodes (tri_owner m f) ≡ r → Gave e r
      → ((j : ℕ) (m' : Mesh) (why : Refusal) → Grown e (try_pairs s (trying j n) m' f why ts)) → Grown e (try_pairs s n m f last (t ∷ ts))
  unfolding try_pairs
  pairs_case n m f last t ts (made j q m') g h next = rw (g, try_pairs) h
  pairs_case n m f last t ts (failed j why m') g h next = rw (g, try_pairs) (next j m' why)
  pairs_case n m f last t ts orphaned g h next = rw (g, try_pairs) tt
  pairs_case n m f last t ts (lacking w j m') g h next = rw (g, try_pairs) tt

  pairs_grown : (n : Spent) (m : Mesh) (f : Edge) (last : Refusal) (ts : List Trial) → From e ts → Grown e (try_pairs s n m f last ts)
  unfolding try_pairs
  pairs_grown n m f last [] h = tt
  pairs_grown n m f last (t ∷ ts) h =
      pairs_case n m f last t ts (try_pair s m t.nodes (tri_owner m f)) refl (pair_gave m t.nodes (tri_owner m f) (h t (inl refl))) (λ j m' why. pairs_grown (trying j n) m' f why ts (λ u i. h u (inr i)))

  trials_grown : (n : Spent) (m : Mesh) (f : Edge) (ts : List Trial) → From e ts → Grown e (try_trials s n m f ts)
  unfolding try_trials
  trials_grown n m f [] h = tt
  trials_grown n m f (t ∷ ts) h = pairs_grown n m f Recovery (t ∷ ts) h

-- ---- the acceptable pairs
rated_from : (y : Quality) (m : Mesh) (a b c d : ℕ) → From (key a b) (rated y (new_quad a b d c) (metrics_of m (new_quad a b d c)))
unfolding rated new_quad
rated_from y m a b c d t i = elim (which (passes y (metrics_of m (new_quad a b d c)))) [
  | inr e ↦ absurd (rw e at i)
  | inl e ↦ elim (rw e at i) [ inl f ↦ ap (λ z. z.nodes.edge) f | inr x'' ↦ elim x'' [ ] ]
]

trial_from : (y : Quality) (m : Mesh) (a b c d : ℕ) → From (key a b) (trial y m a b c d)
unfolding trial
trial_from y m a b c d t i = elim (which (contains (a ∷ b ∷ []) c)) [
  | inl e ↦ absurd (rw e at i)
  | inr e ↦ elim (which (contains (a ∷ b ∷ c ∷ []) d)) [
    | inl f ↦ absurd (rw (e, f) at i)
    | inr f ↦ rated_from y m a b c d t (rw (e, f) at i)
  ]
]

acceptable_from : (y : Quality) (m : Mesh) (a b : ℕ) (cs ds : List ℕ) → From (key a b) (acceptable y m a b cs ds)
unfolding acceptable
acceptable_from y m a b cs ds t i =
    let r = in_flat_map (λ c. flat_map (λ d. trial y m a b c d) ds) t cs i in
    let k = in_flat_map (λ d. trial y m a b r.0 d) t ds r.2 in
    trial_from y m a b r.0 k.0 t k.2

both_from : (s : Settings) (f : Stance) (cs : List ℕ) (r : Sides) → From (key f.a f.b) (pairs_both s f cs r)
unfolding pairs_both
both_from s f cs (missing n m) t i = absurd i
both_from s f cs (overfull w n m) t i = absurd i
both_from s f cs (found ds n m) t i = acceptable_from s.quality m f.a f.b cs ds t i

first_from : (s : Settings) (f : Stance) (r : Sides) → From (key f.a f.b) (pairs_first s f r)
unfolding pairs_first
first_from s f (missing n m) t i = absurd i
first_from s f (overfull w n m) t i = absurd i
first_from s f (found cs n m) t i = both_from s f cs (side_nodes s second_turn f n m f.b f.a) t i

along_from : (s : Settings) (m : Mesh) (e : Edge) (seed a b : ℕ) → From (key a b) (pairs_along s m e seed a b)
unfolding pairs_along stance
along_from s m e seed a b =
    let f = stance s m e seed a b in
    cond_ok (From (key a b)) (f.target ≼ tiny_length || norm (from_to (node_at m a) (node_at m b)) ≼ tiny_length) _ _ (λ z t i. absurd i)
    (λ z. first_from s f (side_nodes s first_turn f nothing_spent m a b))

-- the smaller node first, in either order of the two
key_up : (e : Edge) → e.0 < e.1 → key e.0 e.1 ≡ e
unfolding key
key_up e l = let a : min e.0 e.1 ≡ e.0 = omega arith in let b : max e.0 e.1 ≡ e.1 = omega arith in λ i. (a i, b i)

key_down : (e : Edge) → e.0 < e.1 → key e.1 e.0 ≡ e
unfolding key
key_down e l = let a : min e.1 e.0 ≡ e.0 = omega arith in let b : max e.1 e.0 ≡ e.1 = omega arith in λ i. (a i, b i)

seed_from : (s : Settings) (m : Mesh) (e : Edge) (seed : ℕ) (c : Cell) → e.0 < e.1 → From e (pairs_seed s m e seed c)
unfolding pairs_seed
seed_from s m e seed (quad q) l = λ t i. absurd i
seed_from s m e seed (tri t) l =
    elim (lies_left m e t) as (λ left. From e (elim left [ true ↦ pairs_along s m e seed e.0 e.1 | false ↦ pairs_along s m e seed e.1 e.0 ])) [
      | true ↦ λ u i. along_from s m e seed e.0 e.1 u i ∙ key_up e l
      | false ↦ λ u i. along_from s m e seed e.1 e.0 u i ∙ key_down e l
    ]

owner_from : (s : Settings) (m : Mesh) (e : Edge) (o : Option Live) → e.0 < e.1 → From e (pairs_owner s m e o)
unfolding pairs_owner
owner_from s m e none l = λ t i. absurd i
owner_from s m e (some x) l = seed_from s m e x.slot x.cell l

pairs_from : (s : Settings) (m : Mesh) (e : Edge) → e.0 < e.1 → From e (pairs_of s m e)
unfolding pairs_of
pairs_from s m e l = owner_from s m e (tri_owner m e) l

turns_from : (s : Settings) (e : Edge) (good : List Trial) → From e good → From e (turns s good)
unfolding turns
turns_from s e good h t i = h t (sort_in trial_before t good (take_in s.quality.pairs t _ i))

-- ---- the attempt
-- A quad that the attempt on e places has e as its edge.
pub attempt_grown : (s : Settings) (m : Mesh) (e : Edge) → e.0 < e.1 → Grown e (try_quad s m e)
attempt_grown s m e l =
    attempt_pairs s e m (λ n x. Unit {0}) (λ n x y t p h w. tt) (λ n. Unit {0}) (λ good a. From e good → Grown e a)
    (record {
      nothing = tt;
      inserts = λ n h. tt;
      refuses = λ n x h f. tt;
      ends = λ w n x h f. tt;
      tries = λ n x good h p f. trials_grown s e n x e (turns s good) (turns_from s e good f);
    }) tt (pairs_from s m e l)
