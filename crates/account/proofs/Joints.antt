-- The joints of a call: those that the given triangles have are found in what comes back.
use Rattle.std.specs.Prelude.{◌≡◌, ◌&&◌, ◌*◌, ◌≤◌, ◌∷◌}
use Rattle.laws.specs.Kit.{refl, ◌∙◌, ap, ap₂, inl, inr, Bool, true, false, not, cond, none, some, ℕ, le-ltb, List, [], length}
use Rattle.definition.specs.Lists.{any, all, find, table, numbers, below}
use Rattle.definition.specs.Plane.{Edge}
use Rattle.definition.specs.Cells.{Quad, Live, Mesh, key, same_edge, has_edge_in, tri_edges, quad_edges, edges, is_locked}
use Rattle.definition.specs.Region.{fills, may_go, spares_locked, if_filled}
use Rattle.definition.specs.Numbers.{max_attempts}
use Rattle.definition.specs.Front.{Progress, Outcome, ran, wanting, new_mesh, outcome, run_front}
use Rattle.definition.specs.Call.{Asked, Lent, Returned, given_points, given_tris, given_joints, given_locks, most_joints, over_limit, bad_size, bad_stop, bad_quality, too_short, unknown_node, repeated_node, far_point, bad_grid, bad_joint, bad_joints, conditions, settings_within, settings, written, untouched, after_run, call_within, call}
use Rattle.definition.specs.Job.{Job, charge, handed_on, job_limit, rounds_of, after_mesh, run_mesh, bad_job, job}
use Rattle.definition.specs.Preview.{show_edge, cleared, preview}
use Rattle.definition.specs.Account.{JointsSurvive, KeepsJoints}
use Rattle.laws.specs.Bools.{which, same_bool, or_second}
use Rattle.laws.specs.Lists.{In, in_any, any_in, all_from, in_flat_map, known}
use Rattle.laws.specs.Cells.{same_self}
use Rattle.account.proofs.Slices.{read_quads, read_triangles}
use Rattle.account.proofs.Finished.{behind, given_proper}
use Rattle.account.proofs.Locked.{locked_survives}
use Rattle.account.specs.Joints.{SameEdges, SameJoints, returned_with, with_joints, with_number}

-- ---- they survive
-- a listed edge is one that the run does not touch
pub listed_locked : (a : Asked) (l : Lent) (e : Edge) → In e (given_joints a l) → given_locks a l e ≡ true
unfolding given_locks has_edge_in
listed_locked a l e i = in_any (same_edge e) (given_joints a l) (e, i, same_self e)

-- every joint that the given triangles have is an edge of a quad or a leftover triangle that comes back
pub joints_survive : (most : ℕ) (a : Asked) (l : Lent) → KeepsJoints most a l
joints_survive most a l c n e =
    let b = behind most a l c n e in
    let exit = (call_within most a l).lent in
    let w : JointsSurvive (given_joints a l) (given_tris a l) b.run.quads b.run.triangles = record {
      joints_found = all_from (given_joints a l) (λ f i k.
          let t = in_flat_map tri_edges f (given_tris a l) k in
          locked_survives (settings_within most (length l.trace) a) (given_locks a l) (given_tris a l) (given_points a l) b.run (given_proper a l b.passed) b.ended f (listed_locked a l f i) t.0 t.1 t.2);
    } in
    rw (read_quads b.run l exit n b.lengths_are b.exit, read_triangles b.run l exit n b.lengths_are b.exit) w

-- whatever is asked of the edges of both
any_same : (p : Edge → Bool) (xs ys : List Edge) → SameEdges xs ys → any p xs ≡ any p ys
any_same p xs ys h = same_bool (any p xs) (any p ys) (one xs ys h.there) (one ys xs h.back)
  where
    one : (xs ys : List Edge) → ((e : Edge) → In e xs → In e ys) → any p xs ≡ true → any p ys ≡ true
    one xs ys f k = let r = any_in p xs k in in_any p ys (r.0, f r.0 r.1, r.2)

module _ (a : Asked) (l : Lent) (n : ℕ) (js : List ℕ) (h : SameJoints a l n js) where
  abbrev a' : Asked
  a' = with_number n a

  abbrev l' : Lent
  l' = with_joints js l

  locks_same : given_locks a' l' ≡ given_locks a l
  unfolding given_locks has_edge_in
  locks_same i e = any_same (same_edge e) (given_joints a' l') (given_joints a l) h.same i

  short_same : too_short a' l' ≡ too_short a l
  unfolding too_short with_number with_joints
  short_same = rw (le-ltb (length js) (2 * n) h.long', le-ltb (length l.joints) (2 * a.joints) h.long) refl

  bad_same : bad_joints a' l' ≡ bad_joints a l
  unfolding bad_joints with_number
  bad_same = rw (le-ltb most_joints n h.few', le-ltb most_joints a.joints h.few) (any_same (bad_joint a.given) (given_joints a' l') (given_joints a l) h.same)

  conditions_same : conditions a' l' ≡ conditions a l
  unfolding conditions with_number with_joints over_limit bad_size bad_stop bad_quality unknown_node repeated_node far_point bad_grid given_points given_tris
  conditions_same =
      ap₂ (λ short bad. (1, over_limit a) ∷ (2, bad_size a) ∷ (3, bad_stop a) ∷ (14, bad_quality a) ∷ (4, short) ∷ (5, unknown_node a l) ∷ (6, repeated_node a l) ∷ (7, far_point a l) ∷ (15, bad_grid a l) ∷ (13, bad) ∷ []) short_same bad_same

  -- they lead to the same run,
  pub same_run : (most : ℕ) → run_front (settings_within most (length l.trace) a') (given_locks a' l') (given_tris a' l') (given_points a' l') ≡ run_front (settings_within most (length l.trace) a) (given_locks a l) (given_tris a l) (given_points a l)
  unfolding with_number with_joints settings_within given_points given_tris
  same_run most = ap (λ k. run_front (settings_within most (length l.trace) a) k (given_tris a l) (given_points a l)) locks_same

  after_same : (o : Outcome) → after_run l' o ≡ returned_with js (after_run l o)
  unfolding after_run written with_joints returned_with
  after_same (ran r) = refl
  after_same (wanting w ps qs ws) = refl

  -- calls with the same joints return the same, whatever their limit on attempts
  pub same_joints_within : (most : ℕ) → call_within most a' l' ≡ returned_with js (call_within most a l)
  unfolding call_within returned_with untouched with_number with_joints
  same_joints_within most = elim (known (find (λ c. c.1) (conditions a l))) [
    | inl f ↦ rw (conditions_same, f, call_within) (ap (after_run l') (same_run most) ∙ after_same (run_front (settings_within most (length l.trace) a) (given_locks a l) (given_tris a l) (given_points a l)))
    | inr f ↦ rw (conditions_same, f.1, call_within) refl
  ]

  -- under the usual limit on attempts, calls with the same joints return the same
  pub same_joints : call a' l' ≡ returned_with js (call a l)
  unfolding call with_number
  same_joints = same_joints_within (max_attempts a.count)

  mesh_same : (j : Job) (p : Progress) → after_mesh j l' p ≡ record { returned = returned_with js (after_mesh j l p).returned; charged = (after_mesh j l p).charged; next = (after_mesh j l p).next }
  unfolding after_mesh
  mesh_same j p = ap (λ r. record { returned = r; charged = charge p; next = handed_on j (charge p) }) (after_same (outcome p))

  -- with the same joints a mesh of a job returns the same, is charged the same and hands on the same state
  pub same_joints_job : (j : Job) → job j a' l' ≡ record { returned = returned_with js (job j a l).returned; charged = (job j a l).charged; next = (job j a l).next }
  unfolding job run_mesh job_limit returned_with untouched with_number with_joints settings_within given_points given_tris
  same_joints_job j = elim (which (bad_job j)) [
    | inl b ↦ rw b refl
    | inr b ↦ elim (known (find (λ c. c.1) (conditions a l))) [
      | inl f ↦ rw (b, conditions_same, f, run_mesh) (ap (λ k. after_mesh j l' (rounds_of (settings_within (job_limit j a) (length l.trace) a) k (given_tris a l) (given_points a l))) locks_same ∙ mesh_same j _)
      | inr f ↦ rw (b, conditions_same, f.1, run_mesh) refl
    ]
  ]

  -- with the same joints a preview shows the same
  pub same_joints_preview : (u v : ℕ) → preview a' l' u v ≡ record { shown = (preview a l u v).shown; lent = with_joints js (preview a l u v).lent }
  unfolding preview cleared with_number with_joints settings settings_within given_points given_tris
  same_joints_preview u v = elim (known (find (λ c. c.1) (conditions a l))) [
    | inl f ↦ rw (conditions_same, f, preview) (ap (λ k. record { shown = show_edge (settings a) (new_mesh (settings a) k (given_tris a l) (given_points a l)) (key u v); lent = cleared l' }) locks_same)
    | inr f ↦ rw (conditions_same, f.1, preview) refl
  ]

-- ---- without a joint
-- without a joint nothing is locked, so every edge flips by its owners alone (`free_flip`)
pub no_joints : (a : Asked) (l : Lent) → a.joints ≡ 0 → (e : Edge) → given_locks a l e ≡ false
unfolding given_locks given_joints has_edge_in any table below numbers
no_joints a l h e = rw h refl

-- without a locked edge a region is refused only where it does not fill the quad
pub free_region : (m : Mesh) (q : Quad) (cells : List Live) → ((e : Edge) → is_locked m e ≡ false) → if_filled m q (some cells) ≡ cond (fills m q cells) (some cells) none
unfolding if_filled spares_locked may_go all
free_region m q cells h = rw (all_yes (λ x. all (may_go m q) (edges x.cell)) (λ x. all_yes (may_go m q) may (edges x.cell)) cells) (which_end (fills m q cells))
  where
    may : (e : Edge) → may_go m q e ≡ true
    may e = or_second (has_edge_in (quad_edges q) e) (not (is_locked m e)) (ap not (h e))

    all_yes : {A : Type 0} (p : A → Bool) → ((x : A) → p x ≡ true) → (xs : List A) → all p xs ≡ true
    all_yes p f [] = refl
    all_yes p f (x ∷ xs) = rw (f x) (all_yes p f xs)

    which_end : (b : Bool) → cond (b && true) (some cells) none ≡ cond b (some cells) none
    which_end true = refl
    which_end false = refl
