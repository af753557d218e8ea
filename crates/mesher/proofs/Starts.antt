-- A call that is not refused before its run has all that its run asks.
use mathlib.Core.Path.{◌≡◌, refl, ap, sym, ◌∙◌, subst}
use mathlib.Core.List.{List, [], ◌∷◌}
use Prim.Native.Nat.{ℕ, suc, ◌+◌, ◌*◌, ◌≤◌}
use native.Mathlib.Omega.{arith}
use lib.ListN.{length}
use lib.Ieee.{Float}
use Rattle.definition.specs.Lists.{filter, table, below}
use Rattle.definition.specs.Numbers.{max_attempts}
use Rattle.definition.specs.Cells.{Tri, Mesh, new_live, live_tri, is_tri, live_tris}
use Rattle.definition.specs.Front.{State, Progress, stuck, progressed, limited, stopped, in_slots, new_mesh, start, front_loop}
use Rattle.definition.specs.Job.{rounds_of}
use Rattle.definition.specs.Call.{Asked, Lent, joint_at, first_points, given_points, given_tris, given_joints, given_locks, bad_size, settings_within}
use Rattle.laws.specs.Lists.{all_from}
use Rattle.rules.specs.declared.Rules.{Rules}
use Rattle.rules.specs.Settings.{settings_of}
use Rattle.account.proofs.Finished.{given_proper, given_within, points_number, tris_number}
use Rattle.joints.specs.Table.{Kept, Locks, locks_of}
use mathlib.Core.HLevel.{is_prop→PathP}
use Rattle.std.proofs.Math.Bridge.{le_prop}
use Rattle.cells.specs.declared.layout.Layout.{Layout}
use Rattle.cells.specs.Layout.{Sizes}
use Rattle.cells.specs.Rep.{Rep, Pts}
use Rattle.cells.specs.declared.counters.Counters.{Counters}
use Rattle.meshes.specs.Build.{Given, IsNew, Builds, CanBuild}
use Rattle.refusals.specs.Refusals.{first_refusal, passed, none_holds}
use Rattle.outcomes.specs.Ready.{Small}
use Rattle.settling.specs.declared.standing.Run.{Run}
use Rattle.rounds.specs.Loop.{CanRun, LeftRun, RunTo}
use Rattle.meshes.proofs.Valid.{shape_at}
use Rattle.mesher.specs.Parts.{bucket_of, layout_of, sized, rules_with, rules_of, progress_of, CanMesh}

-- ---- the mesh of the given triangles

live_new : (n : ℕ) (ts : List Tri) → length (filter live_tri (in_slots n ts)) ≡ length ts
unfolding filter in_slots live_tri is_tri new_live
live_new n [] = refl
live_new n (t ∷ ts) = ap suc (live_new (suc n) ts)

-- ---- the layout

sizes_once : {s p : ℕ} (x y : Sizes s p) → x ≡ y
sizes_once x y = λ i. record { slots = le_prop x.slots y.slots i; points = le_prop x.points y.points i }

same_layout : (a : Asked) (x : Layout) (z : Sizes a.slots a.capacity) → x.slots ≡ a.slots → x.points ≡ a.capacity → x ≡ layout_of a z
same_layout a x z e f = λ i. record { slots = e i; points = f i; sizes = is_prop→PathP (λ j. Sizes (e j) (f j)) (λ j. sizes_once) x.sizes z i }

-- the rules over a layout of the call's slots and points are those of the call
pub same_rules : (most room : ℕ) (a : Asked) (x : Layout) (z : Sizes a.slots a.capacity) → x.slots ≡ a.slots → x.points ≡ a.capacity → rules_with most room a x (bucket_of a.size) ≡ rules_of most room a z
same_rules most room a x z e f = ap (λ y. rules_with most room a y (bucket_of a.size)) (same_layout a x z e f)

module _ (most room : ℕ) (a : Asked) (l : Lent) (h : first_refusal a l ≡ 0) where
  pub given_shapes : Given l.triangles a.count a.given
  given_shapes i k =
      let p = passed a l h in
      shape_at l.triangles a.given i (p.apart i k).d01 (p.apart i k).d02 (p.apart i k).d12 (p.known (3 * i) (omega arith)) (p.known (3 * i + 1) (omega arith)) (p.known (3 * i + 2) (omega arith))

  pub small : Small (rules_of most room a (sized a l h))
  small = let p = passed a l h in record { slots = p.limited.slots; points = p.limited.capacity; pairs = p.pairs }

  -- what building it asks
  pub can_build : CanBuild l.work a.slots a.capacity l.triangles a.count a.given
  can_build =
      let p = passed a l h in
      record {
        room = record { fits = p.roomy.work; small = omega (arith, p.limited.slots, p.limited.capacity) };
        slots = p.roomy.count;
        points = p.roomy.given;
        long = p.roomy.triangles;
        given = given_shapes;
      }

  -- the mesh that the run starts from
  abbrev pub first_mesh : Mesh
  first_mesh = (start (settings_of (rules_of most room a (sized a l h))) (given_locks a l) (given_tris a l) (given_points a l)).mesh

  pub is_new : IsNew first_mesh l.triangles a.count a.given
  unfolding start new_mesh given_tris
  is_new = record { points = points_number a l (none_holds a l h); used = tris_number a l (none_holds a l h); live = refl }

  -- the points slice stands for its points
  pub first_points_are : Pts l.points a.capacity first_mesh
  unfolding start new_mesh given_points
  first_points_are =
      let p = passed a l h in
      let n = points_number a l (none_holds a l h) in
      record {
        fits = p.roomy.points;
        few = omega (arith, n, p.roomy.given);
        are = ap (λ (k : ℕ). first_points k l.points) (sym n);
      }

  live_count : live_tris first_mesh ≡ a.count
  unfolding live_tris start new_mesh
  live_count = live_new 0 (given_tris a l) ∙ tris_number a l (none_holds a l h)

  side_is : first_mesh.bucket ≡ bucket_of a.size
  unfolding start new_mesh settings_of
  side_is = refl

  -- what `front_loop` asks
  pub can_run : most ≤ max_attempts a.count → (t : List ℕ) → room ≡ length t → (w' : List ℕ) (c : Counters) → Rep w' a.slots a.capacity first_mesh
      → (c.live ≡ a.count) × (c.used ≡ a.count) × (c.points ≡ a.given) × (c.attempts ≡ 0)
      → CanRun w' l.points l.float_work l.quads t (rules_of most room a (sized a l h)) c (given_locks a l) (given_tris a l) (given_points a l)
  unfolding bad_size
  can_run usual t long w' c r n =
      let p = passed a l h in
      let o = none_holds a l h in
      let live = n.0 in
      let used = n.1 in
      let attempts = n.3 in
      record {
        ready = record {
          rep = r;
          pts = first_points_are;
          side = side_is;
          counted = record { live = live ∙ sym live_count; used = used ∙ sym is_new.used; points = n.2 ∙ sym is_new.points };
          live = omega (arith, live, used);
          attempts = omega (arith, attempts);
          small = small;
        };
        proper = given_proper a l o;
        is_given = sym (tris_number a l o);
        few = p.limited.count;
        attempts = usual;
        points = omega (arith, points_number a l o, p.roomy.given);
        slots = omega (arith, tris_number a l o, p.roomy.count);
        fresh = attempts;
        within = all_from (given_points a l) (given_within a l o);
        sized = p.sized;
        floats = omega (arith, p.roomy.float_work);
        room = p.roomy.quads;
        trace = long;
      }

-- ---- by the slices of the call

left_from : (w₁ w w' : List ℕ) (q q' f f' : List Float) (quads quads' tr tr' : List ℕ) (rules : Rules) (st : State) (r : Run) → length w₁ ≡ length w
    → LeftRun w₁ w' q q' f f' quads quads' tr tr' rules st r → LeftRun w w' q q' f f' quads quads' tr tr' rules st r
left_from w₁ w w' q q' f f' quads quads' tr tr' rules st r e h =
    record { ready = h.ready; counts = h.counts; number = h.number; text = h.text; behind = h.behind; words = h.words ∙ e; reals = h.reals; log = h.log }

-- only the length of the memory at the start counts
run_from : (w₁ w w' : List ℕ) (q q' f f' : List Float) (quads quads' tr tr' : List ℕ) (rules : Rules) (pr : Progress) (r : Run) → length w₁ ≡ length w
    → RunTo w₁ w' q q' f f' quads quads' tr tr' rules pr r → RunTo w w' q q' f f' quads quads' tr tr' rules pr r
run_from w₁ w w' q q' f f' quads quads' tr tr' rules (stuck st) r e h = (h.0, left_from w₁ w w' q q' f f' quads quads' tr tr' rules st r e h.1)
run_from w₁ w w' q q' f f' quads quads' tr tr' rules (progressed st) r e h = (h.0, left_from w₁ w w' q q' f f' quads quads' tr tr' rules st r e h.1)
run_from w₁ w w' q q' f f' quads quads' tr tr' rules (limited st) r e h = (h.0, left_from w₁ w w' q q' f f' quads quads' tr tr' rules st r e h.1)
run_from w₁ w w' q q' f f' quads quads' tr tr' rules (stopped wt st) r e h = (h.0, left_from w₁ w w' q q' f f' quads quads' tr tr' rules st r e h.1)

module _ (q : List Float) (ts js qs w : List ℕ) (f : List Float) (tr : List ℕ) (most : ℕ) (a : Asked) (l : Lent) (h : CanMesh q ts js qs w f tr most a l) where
  pub mesh_build : CanBuild w a.slots a.capacity ts a.count a.given
  mesh_build =
      subst (λ (z : List ℕ). CanBuild z a.slots a.capacity ts a.count a.given) h.work
      (subst (λ (z : List ℕ). CanBuild l.work a.slots a.capacity z a.count a.given) h.triangles (can_build most (length l.trace) a l h.passed))

  -- the table of the joints has room, and it locks what is listed
  pub mesh_few : a.joints ≤ 256
  mesh_few = (passed a l h.passed).joints

  pub mesh_long : 2 * a.joints ≤ length js
  mesh_long = subst (λ (z : List ℕ). 2 * a.joints ≤ length z) h.joints (passed a l h.passed).roomy.joints

  pub mesh_locks : (j : List ℕ) → Kept j (table (joint_at js) (below a.joints)) → Locks j (given_locks a l)
  unfolding given_locks given_joints
  mesh_locks j k = locks_of j _ (subst (λ (z : List ℕ). Kept j (table (joint_at z) (below a.joints))) (sym h.joints) k)

  module _ (rules : Rules) (e : rules ≡ rules_of most (length tr) a (sized a l h.passed)) where
    pub mesh_run : (w' : List ℕ) (c : Counters) → Builds w w' a.slots a.capacity ts a.count a.given
        → (c.live ≡ a.count) × (c.used ≡ a.count) × (c.points ≡ a.given) × (c.attempts ≡ 0)
        → CanRun w' q f qs tr rules c (given_locks a l) (given_tris a l) (given_points a l)
    mesh_run w' c k n =
        let can : (q f : List Float) (qs t : List ℕ) (z : Rules) → Type 0 =
        λ q f qs t z. CanRun w' q f qs t z c (given_locks a l) (given_tris a l) (given_points a l) in
        let room = length l.trace in
        let new : IsNew (first_mesh most room a l h.passed) ts a.count a.given =
        subst (λ (z : List ℕ). IsNew (first_mesh most room a l h.passed) z a.count a.given) h.triangles (is_new most room a l h.passed) in
        subst (λ (z : Rules). can q f qs tr z) (sym e)
        (subst (λ (z : List ℕ). can q f qs z (rules_of most (length z) a (sized a l h.passed))) h.trace
        (subst (λ (z : List ℕ). can q f z l.trace (rules_of most room a (sized a l h.passed))) h.quads
        (subst (λ (z : List Float). can q z l.quads l.trace (rules_of most room a (sized a l h.passed))) h.floats
        (subst (λ (z : List Float). can z l.float_work l.quads l.trace (rules_of most room a (sized a l h.passed))) h.points
        (can_run most room a l h.passed h.usual l.trace refl w' c (k.rep (first_mesh most room a l h.passed) new) n)))))

    -- the memory in which the mesh was built is as long as that lent
    pub mesh_ran : (w₁ w' : List ℕ) (q' f' : List Float) (quads' tr' : List ℕ) (r : Run) → length w₁ ≡ length w
        → RunTo w₁ w' q q' f f' qs quads' tr tr' rules
        (front_loop (rules.attempts + 2) (settings_of rules) (length (given_tris a l))
        (start (settings_of rules) (given_locks a l) (given_tris a l) (given_points a l))) r
        → RunTo w w' q q' f f' qs quads' tr tr' (rules_of most (length tr) a (sized a l h.passed)) (progress_of most a l) r
    unfolding settings_within settings_of rounds_of
    mesh_ran w₁ w' q' f' quads' tr' r d k =
        run_from w₁ w w' q q' f f' qs quads' tr tr' (rules_of most (length tr) a (sized a l h.passed)) (progress_of most a l) r d
        (subst (λ (z : List ℕ). RunTo w₁ w' q q' f f' qs quads' tr tr' (rules_of most (length tr) a (sized a l h.passed))
        (rounds_of (settings_within most (length z) a) (given_locks a l) (given_tris a l) (given_points a l)) r) (sym h.trace)
        (subst (λ (z : Rules). RunTo w₁ w' q q' f f' qs quads' tr tr' z
        (front_loop (z.attempts + 2) (settings_of z) (length (given_tris a l)) (start (settings_of z) (given_locks a l) (given_tris a l) (given_points a l))) r) e k))
