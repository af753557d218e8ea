-- A mesh without its trace: flips, recoveries and pairs go as on the mesh with it,
use Rattle.std.specs.Prelude.{◌≡◌, ◌≢◌, ◌&&◌, ◌+◌, ◌∷◌}
use Rattle.laws.specs.Kit.{refl, sym, ◌∙◌, ap, inl, inr, Bool, true, false, cond, Option, none, some, ℕ, zero, suc, ltb, List, [], length}
use Rattle.definition.specs.Numbers.{Settings}
use Rattle.definition.specs.Counts.{Refusal, Recovery, Spent, trying, Want, of_slots, of_trace}
use Rattle.definition.specs.Plane.{Edge}
use Rattle.definition.specs.Cells.{Tri, Quad, Cell, tri, quad, Live, Mesh, born, node_at, owners, tri_owner, is_locked, this_round, has_edge, with_live, noting, set_cell, push_cell, remove_cells}
use Rattle.definition.specs.Trace.{in_room}
use Rattle.definition.specs.Flips.{third, apart, convex_pair, set_tris, flipped, flip_tris, flip_cells, flip_owners, flip, first_crossing, flip_first, Recovered, recover_in, recover}
use Rattle.definition.specs.Components.{removing_leaves_odd_component}
use Rattle.definition.specs.Region.{region}
use Rattle.definition.specs.Trials.{Trial}
use Rattle.definition.specs.Attempt.{Tried, made, failed, orphaned, lacking, flipping, recover_all, replaced, replace, try_region, try_recovered, open_sides, try_pair, Attempt, placed, refused, ended, try_pairs, try_trials}
use Rattle.laws.specs.Bools.{which, never}
use Rattle.laws.specs.Lists.{known}
use Rattle.consequences.specs.Quiet.{quiet}
use Rattle.consequences.proofs.Quiet.{quiet_room, quiet_owner, quiet_edge, quiet_crossing, quiet_region}
use Rattle.consequences.specs.Untraced.{Heard, HeardT, quiet_a, quiet_r, quiet_s, quiet_t, quietly}

some_if : (b : Bool) (m : Mesh) → cond b (some (quiet m)) none ≡ quietly (cond b (some m) none)
unfolding quietly
some_if true m = refl
some_if false m = refl

none_if : (b : Bool) (o : Option Mesh) → cond b none (quietly o) ≡ quietly (cond b none o)
unfolding quietly
none_if true o = refl
none_if false o = refl

tris_so : (m : Mesh) (e : Edge) (i : ℕ) (s : Tri) (j : ℕ) (t : Tri) → flip_tris (quiet m) e i s j t ≡ quietly (flip_tris m e i s j t)
unfolding flip_tris quiet convex_pair apart node_at flipped set_tris set_cell with_live noting
tris_so m e i s j t = some_if (convex_pair m e.0 e.1 (third s e) (third t e)) (flipped m e i s j (third s e) (third t e))

cells_so : (m : Mesh) (e : Edge) (i : ℕ) (c : Cell) (j : ℕ) (d : Cell) → flip_cells (quiet m) e i c j d ≡ quietly (flip_cells m e i c j d)
unfolding flip_cells quietly
cells_so m e i (tri s) j (tri t) = tris_so m e i s j t
cells_so m e i (tri s) j (quad q) = refl
cells_so m e i (quad q) j d = refl

owners_so : (m : Mesh) (e : Edge) (xs : List Live) → flip_owners (quiet m) e xs ≡ quietly (flip_owners m e xs)
unfolding flip_owners quietly
owners_so m e [] = refl
owners_so m e (x ∷ []) = refl
owners_so m e (x ∷ y ∷ []) = cells_so m e x.slot x.cell y.slot y.cell
owners_so m e (x ∷ y ∷ z ∷ more) = refl

flip_so : (m : Mesh) (e : Edge) → flip (quiet m) e ≡ quietly (flip m e)
unfolding flip is_locked owners quiet
flip_so m e = ap (cond (m.locked e) none) (owners_so m e (owners m e)) ∙ none_if (m.locked e) (flip_owners m e (owners m e))

first_so : (m : Mesh) (o : Option Edge) → flip_first (quiet m) o ≡ quietly (flip_first m o)
unfolding flip_first quietly
first_so m none = refl
first_so m (some e) = flip_so m e

-- the smallest crossing edge flipped
crossing_so : (m : Mesh) (u v : ℕ) → flip_first (quiet m) (first_crossing (quiet m) u v) ≡ quietly (flip_first m (first_crossing m u v))
crossing_so m u v = ap (flip_first (quiet m)) (quiet_crossing m u v) ∙ first_so m (first_crossing m u v)

-- where the edge is there, no trace was wanting
there_full : (n k : ℕ) (m : Mesh) (u v : ℕ) → (recover_in n k m u v).there ≡ true → (recover_in n k m u v).short ≡ false
unfolding recover_in
there_full zero k m u v h = refl
there_full (suc n) k m u v h = elim (which (has_edge m u v)) [
  | inl e ↦ rw (e, recover_in) refl
  | inr e ↦ elim (known (flip_first m (first_crossing m u v))) [
    | inl f ↦ rw (e, recover_in, f) refl
    | inr g ↦ elim (which (in_room g.0)) [
      | inl r ↦ rw (e, recover_in, g.1, r) (there_full n (suc k) g.0 u v (rw (e, recover_in, g.1, r) at h))
      | inr r ↦ never false (rw (e, recover_in, g.1, r) at h) refl
    ]
  ]
]

recover_so : (n k : ℕ) (m : Mesh) (u v : ℕ) → (recover_in n k m u v).short ≡ false → recover_in n k (quiet m) u v ≡ quiet_r (recover_in n k m u v)
unfolding recover_in quiet_r quietly
recover_so zero k m u v h = rw (quiet_edge m u v) refl
recover_so (suc n) k m u v h = elim (which (has_edge m u v)) [
  | inl e ↦ rw (quiet_edge m u v, e, recover_in) refl
  | inr e ↦ elim (known (flip_first m (first_crossing m u v))) [
    | inl f ↦ rw (quiet_edge m u v, e, recover_in, crossing_so m u v, f) refl
    | inr g ↦ elim (which (in_room g.0)) [
      | inl r ↦ rw (quiet_edge m u v, e, recover_in, crossing_so m u v, g.1, quiet_room g.0, r) (recover_so n (suc k) g.0 u v (rw (e, recover_in, g.1, r) at h))
      | inr r ↦ never true refl (rw (e, recover_in, g.1, r) at h)
    ]
  ]
]

all_there_full : (m : Mesh) (es : List Edge) → (recover_all m es).there ≡ true → (recover_all m es).short ≡ false
unfolding recover_all flipping recover
all_there_full m [] h = refl
all_there_full m (e ∷ es) h = elim (which (recover m e.0 e.1).there) [
  | inl f ↦ rw (f, recover_all) (all_there_full (recover m e.0 e.1).mesh es (rw (f, recover_all) at h))
  | inr f ↦ never false (sym f ∙ (rw (f, recover_all) at h)) refl
]

one_so : (m : Mesh) (u v : ℕ) → (recover m u v).short ≡ false → recover (quiet m) u v ≡ quiet_r (recover m u v)
unfolding recover quiet
one_so m u v h = recover_so m.used 0 m u v h

one_full : (m : Mesh) (u v : ℕ) → (recover m u v).there ≡ true → (recover m u v).short ≡ false
unfolding recover
one_full m u v h = there_full m.used 0 m u v h

-- a side, and those after it
then_all : Recovered → List Edge → Recovered
then_all r es = elim r.there [ true ↦ flipping r.flips (recover_all r.mesh es) | false ↦ r ]

then_so : (r : Recovered) (es : List Edge) (b : Bool) → r.there ≡ b → (b ≡ true → recover_all (quiet r.mesh) es ≡ quiet_r (recover_all r.mesh es)) → then_all (quiet_r r) es ≡ quiet_r (then_all r es)
unfolding then_all quiet_r flipping
then_so r es true f next = rw (f, next refl) refl
then_so r es false f next = rw f refl

all_so : (m : Mesh) (es : List Edge) → (recover_all m es).short ≡ false → recover_all (quiet m) es ≡ quiet_r (recover_all m es)
unfolding recover_all flipping quiet_r then_all
all_so m [] h = refl
all_so m (e ∷ es) h =
    let r = recover m e.0 e.1 in
    let first : r.short ≡ false = elim (which r.there) [ inl f ↦ one_full m e.0 e.1 f | inr f ↦ rw (f, recover_all) at h ] in
    ap (λ z. then_all z es) (one_so m e.0 e.1 first) ∙ then_so r es r.there refl (λ f. all_so r.mesh es (rw (f, recover_all) at h))

module _ (s : Settings) where
  replace_plain : (k : ℕ) (m : Mesh) (q : Quad) (cells : List Live) → let b = born (this_round m) (length cells) q in let done = replaced m b cells in
      replace (quiet_s s) k (quiet m) q cells ≡ cond (ltb s.slots (m.used + 1)) (lacking of_slots k (quiet m)) (cond (in_room (quiet done)) (made k b (quiet done)) (lacking of_trace k (quiet m)))
  unfolding replace replaced push_cell remove_cells with_live noting quiet this_round quiet_s
  replace_plain k m q cells = refl

  replace_so : (k : ℕ) (m : Mesh) (q : Quad) (cells : List Live) → HeardT (replace s k m q cells) → replace (quiet_s s) k (quiet m) q cells ≡ quiet_t (replace s k m q cells)
  unfolding replace quiet_t
  replace_so k m q cells h =
      let done = replaced m (born (this_round m) (length cells) q) cells in
      replace_plain k m q cells ∙ (elim (which (ltb s.slots (m.used + 1))) [
        | inl e ↦ rw e refl
        | inr e ↦ elim (which (in_room done)) [
          | inl f ↦ rw (e, f, quiet_room done) refl
          | inr f ↦ absurd ((rw (e, f) at h) refl)
        ]
      ])

  region_so : (k : ℕ) (m : Mesh) (q : Quad) (o : Option (List Live)) → HeardT (try_region s k m q o) → try_region (quiet_s s) k (quiet m) q o ≡ quiet_t (try_region s k m q o)
  unfolding try_region quiet_t quiet_s quiet removing_leaves_odd_component
  region_so k m q none h = refl
  region_so k m q (some cells) h = elim (which (s.even && removing_leaves_odd_component m cells)) [
    | inl e ↦ rw e refl
    | inr e ↦ rw e (replace_so k m q cells (rw e at h))
  ]

  recovered_so : (seed : ℕ) (q : Quad) (r : Recovered) → HeardT (try_recovered s seed q r) → try_recovered (quiet_s s) seed q (quiet_r r) ≡ quiet_t (try_recovered s seed q r)
  unfolding try_recovered quiet_r quiet_t
  recovered_so seed q r h = elim (which r.there) [
    | inl e ↦ rw (e, quiet_region r.mesh seed q) (region_so r.flips r.mesh q (region r.mesh seed q) (rw e at h))
    | inr e ↦ elim (which r.short) [
      | inl f ↦ absurd ((rw (e, f) at h) refl)
      | inr f ↦ rw (e, f) refl
    ]
  ]

  full_by : (seed : ℕ) (q : Quad) (r : Recovered) → (r.there ≡ true → r.short ≡ false) → HeardT (try_recovered s seed q r) → r.short ≡ false
  unfolding try_recovered
  full_by seed q r g h = elim (which r.there) [
    | inl e ↦ g e
    | inr e ↦ elim (which r.short) [ inl f ↦ absurd ((rw (e, f) at h) refl) | inr f ↦ f ]
  ]

  pair_so : (m : Mesh) (q : Quad) (o : Option Live) → HeardT (try_pair s m q o) → try_pair (quiet_s s) (quiet m) q o ≡ quiet_t (try_pair s m q o)
  unfolding try_pair quiet_t
  pair_so m q none h = refl
  pair_so m q (some x) h =
      let r = recover_all m (open_sides q) in
      ap (try_recovered (quiet_s s) x.slot q) (all_so m (open_sides q) (full_by x.slot q r (all_there_full m (open_sides q)) h)) ∙ recovered_so x.slot q r h

module _ (s : Settings) where
  pairs_case : (n : Spent) (m : Mesh) (e : Edge) (last : Refusal) (t : Trial) (ts : List Trial) (r : Tried) → try_pair s m t.nodes (tri_owner m e) ≡ r
      → try_pair (quiet_s s) (quiet m) t.nodes (tri_owner (quiet m) e) ≡ quiet_t r
      → ((k : ℕ) (why : Refusal) (m' : Mesh) → r ≡ failed k why m' → try_pairs (quiet_s s) (trying k n) (quiet m') e why ts ≡ quiet_a (try_pairs s (trying k n) m' e why ts))
      → try_pairs (quiet_s s) n (quiet m) e last (t ∷ ts) ≡ quiet_a (try_pairs s n m e last (t ∷ ts))
  unfolding try_pairs quiet_a quiet_t
  pairs_case n m e last t ts (made k q m') f g next = rw (f, g, try_pairs) refl
  pairs_case n m e last t ts (failed k why m') f g next = rw (f, g, try_pairs) (next k why m' refl)
  pairs_case n m e last t ts orphaned f g next = rw (f, g, try_pairs) refl
  pairs_case n m e last t ts (lacking w k m') f g next = rw (f, g, try_pairs) refl

  pair_heard : (n : Spent) (m : Mesh) (e : Edge) (last : Refusal) (t : Trial) (ts : List Trial) (r : Tried) → try_pair s m t.nodes (tri_owner m e) ≡ r → Heard (try_pairs s n m e last (t ∷ ts)) → HeardT r
  unfolding try_pairs
  pair_heard n m e last t ts (made k q m') f h = tt
  pair_heard n m e last t ts (failed k why m') f h = tt
  pair_heard n m e last t ts orphaned f h = tt
  pair_heard n m e last t ts (lacking w k m') f h = rw (f, try_pairs) at h

  rest_heard : (n : Spent) (m : Mesh) (e : Edge) (last : Refusal) (t : Trial) (ts : List Trial) (k : ℕ) (why : Refusal) (m' : Mesh) → try_pair s m t.nodes (tri_owner m e) ≡ failed k why m'
      → Heard (try_pairs s n m e last (t ∷ ts)) → Heard (try_pairs s (trying k n) m' e why ts)
  unfolding try_pairs
  rest_heard n m e last t ts k why m' f h = rw (f, try_pairs) at h

  pairs_so : (n : Spent) (m : Mesh) (e : Edge) (last : Refusal) (ts : List Trial) → Heard (try_pairs s n m e last ts) → try_pairs (quiet_s s) n (quiet m) e last ts ≡ quiet_a (try_pairs s n m e last ts)
  unfolding try_pairs quiet_a
  pairs_so n m e last [] h = refl
  pairs_so n m e last (t ∷ ts) h =
      let r = try_pair s m t.nodes (tri_owner m e) in
      pairs_case n m e last t ts r refl (ap (try_pair (quiet_s s) (quiet m) t.nodes) (quiet_owner m e) ∙ pair_so s m t.nodes (tri_owner m e) (pair_heard n m e last t ts r refl h))
      (λ k why m' f. pairs_so (trying k n) m' e why ts (rest_heard n m e last t ts k why m' f h))

  pub trials_so : (n : Spent) (m : Mesh) (e : Edge) (ts : List Trial) → Heard (try_trials s n m e ts) → try_trials (quiet_s s) n (quiet m) e ts ≡ quiet_a (try_trials s n m e ts)
  unfolding try_trials quiet_a
  trials_so n m e [] h = refl
  trials_so n m e (t ∷ ts) h = pairs_so n m e Recovery (t ∷ ts) h
