-- The grid profile: every x and y is a whole multiple of 1 / 1024, and there is no size.
use Rattle.std.specs.Prelude.{◌≡◌, ◌+◌, ◌≤◌, ◌∷◌}
use Rattle.laws.specs.Kit.{refl, sym, ◌∙◌, ap, subst, Bool, true, false, ℕ, arith, List, [], length, eq}
use Rattle.definition.specs.Floats.{0·0}
use Rattle.definition.specs.Numbers.{Settings}
use Rattle.definition.specs.Counts.{Spent}
use Rattle.definition.specs.Plane.{Node, Edge, edge_length, size_mismatch}
use Rattle.definition.specs.Cells.{Tri, Quad, Mesh, tris_of, triangles}
use Rattle.definition.specs.Attempt.{replaced, Stance, missing, sides_from, target_of, stance}
use Rattle.definition.specs.Front.{State, counting, Result, ran, new_mesh, start, result, run_front}
use Rattle.definition.specs.Call.{Asked, Lent, given_points, given_tris, given_locks, most_slots, settings_within, outside, grid_node, call_within}
use Rattle.definition.specs.Account.{All, sum, tri_area, quad_area, tris_area, quads_area, SameArea, KeepsArea}
use Rattle.exact.proofs.Theorems.{grid_passed, nodes_placed, never_off_target}
use Rattle.laws.specs.Bools.{never}
use Rattle.laws.specs.Lists.{In, all_from, all_in}
use Rattle.account.proofs.Flips.{flip_made, flip_points}
use Rattle.account.proofs.QuadKeeps.{replaced_points}
use Rattle.account.proofs.Parity.{triangles_same}
use Rattle.account.specs.Rooms.{Fits}
use Rattle.account.proofs.Rooms.{fits_rule, start_fits}
use Rattle.account.specs.Start.{Proper}
use Rattle.account.proofs.Start.{start_valid, start_tris}
use Rattle.account.specs.Steps.{OnNormal}
use Rattle.account.proofs.Steps.{made_weaker}
use Rattle.account.specs.Run.{Rule}
use Rattle.account.proofs.Run.{run_ok}
use Rattle.account.proofs.Slices.{read_points, read_quads, read_triangles}
use Rattle.account.proofs.Finished.{behind, on_grid_so, given_fit, slots_fit, slots_limit, points_number, tris_number, given_proper, given_within}
use Rattle.account.proofs.Weights.{total_append, same_total}
use Rattle.account.specs.Areas.{AllPlaced}
use Rattle.account.proofs.Areas.{flip_area, quad_area_kept}
use Rattle.account.specs.Gridded.{OnTheGrid, Unsized}

all_within : (ps : List Node) → OnTheGrid ps → All (λ p. outside p ≡ false) ps
all_within ps h = all_from ps (λ p j. (h p j).0)

pub all_placed : (ps : List Node) → OnTheGrid ps → AllPlaced ps
all_placed ps h = nodes_placed ps (all_within ps h) (all_from ps (λ p j. grid_passed p (h p j).1))

-- ---- no insertion
module _ (s : Settings) (unsized : Unsized s) where
  on_target : (ps : List Node) (e : Edge) → All (λ p. outside p ≡ false) ps → size_mismatch (edge_length ps e) (target_of s (edge_length ps e)) ≡ false
  on_target = never_off_target s unsized.no_size

  -- no attempt finds its edge off the target, whatever its points within 8
  pub stance_on_target : (m : Mesh) (e : Edge) (seed a b : ℕ) → All (λ p. outside p ≡ false) m.points → (stance s m e seed a b).mismatch ≡ false
  unfolding stance
  stance_on_target m e seed a b h = on_target m.points (a, b) h

  -- an end without a candidate then stays without: a profile that forbids insertions changes no run
  pub nothing_tried : (f : Stance) (n : Spent) (m : Mesh) (p : ℕ) → f.mismatch ≡ false → sides_from s f n m p [] ≡ missing n m
  unfolding sides_from
  nothing_tried f n m p e = rw e refl

-- ---- nothing is inserted, on the grid or off it
module _ (s : Settings) (unsized : Unsized s) (ps : List Node) (near : All (λ p. outside p ≡ false) ps) where
  -- no edge is off its own length
  never_inserted : (begun m : Mesh) (p : Node) → begun.points ≡ ps → OnNormal s begun m p → ⊥
  never_inserted begun m p e on = never _ on.off (on_target s unsized begun.points (on.a, on.b) (subst (λ l. All (λ p. outside p ≡ false) l) (sym e) near))

  pub points_rule : Rule s (λ st es. st.mesh.points ≡ ps) (λ st es n m. (st.mesh.points ≡ ps) × (m.points ≡ ps)) (λ st. st.mesh.points ≡ ps)
  unfolding counting
  points_rule = record {
    opens = λ st es ok h o. h;
    begins = λ st es h. (h, h);
    flips = λ st es n m m' e ok h i f. (h.0, flip_points m e m' f ∙ h.1);
    splits = λ st es n m x t p ok h w. absurd (never_inserted st.mesh m p h.0 w.normal);
    refuses = λ st e es why n m h ok w. w.1;
    places = λ st e es n m q h w. ap (λ z. z.points) w.after ∙ replaced_points w.mesh q w.cells ∙ w.before.1.1;
    ends = λ st e es n m h ok w. w.1;
    limits = λ st es h. h;
    empties = λ st h. h;
  }

  -- the points of a finished run are the given ones
  pub nothing_inserted : (lk : Edge → Bool) (ts : List Tri) (r : Result) → Proper ps ts → run_front s lk ts ps ≡ ran r → r.points ≡ ps
  unfolding result start new_mesh
  nothing_inserted lk ts r proper e = let w = run_ok s _ _ _ points_rule lk ts ps r (start_valid s lk ts ps proper, refl) e in ap (λ x. x.points) w.2 ∙ w.1.1

-- ---- the area
module _ (s : Settings) (unsized : Unsized s) (ps : List Node) (h₀ : OnTheGrid ps) (K : ℕ) where
  -- the points are the given ones, and the triangles and quads have together the area K
  pub record KeptArea (m : Mesh) (quads : List Quad) : Type 0 where
    pub points_are : m.points ≡ ps
    pub fits : Fits s m
    pub area : tris_area ps (tris_of m.live) + quads_area ps quads ≡ K

  -- between attempts, in an attempt, and where want of lent memory ends the run
  abbrev Q : State → List Edge → Type 0
  Q st es = KeptArea st.mesh st.quads

  abbrev P : State → List Edge → ℕ → Mesh → Type 0
  P st es n m = (st.mesh.points ≡ ps) × KeptArea m st.quads

  abbrev R : State → Type 0
  R st = KeptArea st.mesh st.quads

  pub area_rule : Rule s Q P R
  unfolding counting quads_area sum
  area_rule =
      let fit = fits_rule s in
      record {
        opens = λ st es ok h o. h;
        begins = λ st es h. (h.points_are, h);
        flips = λ st es n m m' e ok h i f.
            let k = h.1 in
            let pts = k.points_are in
            let a = subst (λ l. tris_area l (tris_of m'.live) ≡ tris_area l (tris_of m.live)) pts (flip_area m e m' ok i (flip_made m e m' f) (subst (λ l. AllPlaced l) (sym pts) (all_placed ps h₀))) in
            (h.0, record { points_are = flip_points m e m' f ∙ pts; fits = fit.flips st es n m m' e ok k.fits i f; area = omega (arith, a, k.area) });
        splits = λ st es n m x t p ok h w. absurd (never_inserted s unsized ps (all_within ps h₀) st.mesh m p h.0 w.normal);
        refuses = λ st e es why n m h ok w. w.1;
        places = λ st e es n m q h w.
            let k = w.before.1.1 in
            let pts = k.points_are in
            let used = k.fits.slots in
            let room = unsized.room in
            let a = subst (λ l. tris_area l (tris_of (replaced w.mesh q w.cells).live) + quad_area l q ≡ tris_area l (tris_of w.mesh.live)) pts
            (quad_area_kept w.mesh w.seed q w.cells w.before.0 w.seed_tri w.reached (omega arith) (subst (λ l. AllPlaced l) (sym pts) (all_placed ps h₀))) in
            record {
              points_are = ap (λ z. z.points) w.after ∙ replaced_points w.mesh q w.cells ∙ pts;
              fits = fit.places st e es n m q h.fits (made_weaker s _ _ (λ n m k. (k.0, k.1.1.fits)) n.insertions m q w);
              area = omega (arith, a, k.area, ap (λ z. tris_area ps (tris_of z.live)) w.after, total_append (quad_area ps) st.quads (q ∷ []));
            };
        ends = λ st e es n m h ok w. w.1;
        limits = λ st es h. h;
        empties = λ st h. h;
      }

-- ---- the theorem
module _ (s : Settings) (unsized : Unsized s) (lk : Edge → Bool) (ts : List Tri) (ps : List Node) (grid : OnTheGrid ps) where
  starts : length ps ≤ s.capacity → length ts ≤ s.slots → KeptArea s unsized ps grid (tris_area ps ts) (start s lk ts ps).mesh []
  unfolding start new_mesh quads_area sum
  starts a b = record { points_are = refl; fits = start_fits s lk ts ps a b; area = omega (arith, ap (λ l. tris_area ps l) (start_tris s lk ts ps)) }

  state_area : (st : State) → KeptArea s unsized ps grid (tris_area ps ts) st.mesh st.quads → SameArea ps ts (result st).points (result st).quads (result st).triangles
  unfolding result tris_area
  state_area st k =
      let same = same_total (tri_area ps) (tris_of st.mesh.live) (triangles st.mesh) (triangles_same st.mesh) in
      let sums = k.area in
      let all : quads_area ps st.quads + tris_area ps (triangles st.mesh) ≡ tris_area ps ts = omega arith in
      record {
        points_are = k.points_are;
        areas = subst (λ l. quads_area l st.quads + tris_area l (triangles st.mesh) ≡ tris_area ps ts) (sym k.points_are) all;
      }

  pub area_kept : (r : Result) → Proper ps ts → length ps ≤ s.capacity → length ts ≤ s.slots → run_front s lk ts ps ≡ ran r → SameArea ps ts r.points r.quads r.triangles
  unfolding start
  area_kept r proper a b e =
      let K = tris_area ps ts in
      let w = run_ok s (Q s unsized ps grid K) (P s unsized ps grid K) (R s unsized ps grid K) (area_rule s unsized ps grid K) lk ts ps r (start_valid s lk ts ps proper, starts a b) e in
      subst (λ x. SameArea ps ts x.points x.quads x.triangles) (sym w.2) (state_area w.0 w.1.1)

-- In the grid profile a finished call keeps the area, as its slices stand at exit:
-- for whatever the caller hands in, with any joints and any quality set, and whatever the lent memory holds.
pub grid_call : (most : ℕ) (a : Asked) (l : Lent) → KeepsArea most a l
unfolding settings_within most_slots
grid_call most a l chosen c n e =
    let b = behind most a l c n e in
    let exit = (call_within most a l).lent in
    let fit = slots_limit a l b.passed in
    let on = on_grid_so a l b.passed chosen in
    let w = area_kept (settings_within most (length l.trace) a) (record { no_size = on.0; room = omega arith }) (given_locks a l) (given_tris a l) (given_points a l) (λ p i. (given_within a l b.passed p i, all_in grid_node (given_points a l) on.1 p i)) b.run (given_proper a l b.passed)
    (omega (arith, points_number a l b.passed, given_fit a l b.passed)) (omega (arith, tris_number a l b.passed, slots_fit a l b.passed)) b.ended in
    rw (read_points b.run l exit n b.lengths_are b.exit, read_quads b.run l exit n b.lengths_are b.exit, read_triangles b.run l exit n b.lengths_are b.exit) w
