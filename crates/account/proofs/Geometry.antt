-- What is asked of exact geometry, and what follows: every point of a run lies within the limit,
use Rattle.std.specs.Prelude.{◌≡◌, ◌<◌, ◌∷◌}
use Rattle.laws.specs.Kit.{refl, sym, ◌∙◌, ap, subst, inl, inr, Bool, true, false, ℕ, zero, suc, List, [], length, Float, binary64, of_bits, fits, le}
use Rattle.definition.specs.Floats.{◌≼◌, abs, f64, 0·0, 8·0}
use Rattle.definition.specs.Numbers.{Quality, Settings, base, insert_shares, tiny_length}
use Rattle.definition.specs.Plane.{Edge, Node, flat, point, point_strictly_inside, from_to, norm, dist, edge_length}
use Rattle.definition.specs.Metrics.{Corner, corners, quad_metrics, passes}
use Rattle.definition.specs.Cells.{Tri, Quad, tri, Mesh, node_at, quad_nodes}
use Rattle.definition.specs.Insertion.{holds, along}
use Rattle.definition.specs.Attempt.{inward_normal, target_of}
use Rattle.definition.specs.Front.{counting, Result, ran, new_mesh, start, result, run_front}
use Rattle.definition.specs.Call.{Asked, bad_size, good_quality, outside, most_coordinate}
use Rattle.definition.specs.Exact.{TurnsLeft, CosineUpTo, WideEnough}
use Rattle.definition.specs.Account.{All, ◌∈◌, quad_corners, measures, NamesPoint}
use Rattle.laws.specs.Lists.{In, all_from, all_at, in_either}
use Rattle.exact.specs.Limits.{Limit}
use Rattle.exact.specs.Theorems.{Within}
use Rattle.exact.proofs.Theorems.{within_finite}
use Rattle.account.proofs.Flips.{flip_points}
use Rattle.account.proofs.QuadKeeps.{replaced_points}
use Rattle.account.specs.Rated.{Rated}
use Rattle.account.specs.Start.{Proper}
use Rattle.account.proofs.Start.{start_valid}
use Rattle.account.specs.Steps.{OnNormal}
use Rattle.account.proofs.Steps.{split_grows}
use Rattle.account.specs.Run.{Rule}
use Rattle.account.proofs.Run.{run_ok}
use Rattle.account.specs.Geometry.{AllWithin, Geometry, SoundQuad}

origin_within : Within (flat 0·0 0·0)
unfolding outside flat most_coordinate 0·0 8·0 f64 abs ◌≼◌ of_bits le
origin_within = refl

-- a number beyond the list reads as the origin
pub point_within : (ps : List Node) → AllWithin ps → (i : ℕ) → Within (point ps i)
unfolding point
point_within [] h i = origin_within
point_within (p ∷ ps) h zero = h p (inl refl)
point_within (p ∷ ps) h (suc i) = point_within ps (λ q j. h q (inr j)) i

-- ---- the run
module _ (geometry : Geometry) (s : Settings) (asked : Asked) (same : s.size ≡ asked.size) (sized : bad_size asked ≡ false) where
  split_within : (start m : Mesh) (p : Node) (t : Tri) → AllWithin start.points → AllWithin m.points → OnNormal s start m p
      → holds m p (tri t) ≡ true → Within p
  unfolding holds node_at edge_length
  split_within start m p t h k on held =
      let at : (i : ℕ) → Within (point start.points i) = point_within start.points h in
      let here : (i : ℕ) → Within (point m.points i) = point_within m.points k in
      geometry.inside s asked same sized (node_at start on.a) (node_at start on.b) (node_at m on.end) (node_at m t.n0) (node_at m t.n1) (node_at m t.n2)
      (at on.a) (at on.b) (here on.end) (here t.n0) (here t.n1) (here t.n2) on.share on.among on.long p on.place held

  within_rule : Rule s (λ st es. AllWithin st.mesh.points) (λ st es n m. AllWithin st.mesh.points × AllWithin m.points) (λ st. AllWithin st.mesh.points)
  unfolding counting
  within_rule = record {
    opens = λ st es ok h f. h;
    begins = λ st es h. (h, h);
    flips = λ st es n m m' e ok h i f. (h.0, subst (λ ps. AllWithin ps) (sym (flip_points m e m' f)) h.1);
    splits = λ st es n m x t p ok h w. (
      h.0,
      subst (λ ps. AllWithin ps) (sym (split_grows m x.slot t p)) (λ q i. elim (in_either q m.points (p ∷ []) i) [
        | inl j ↦ h.1 q j
        | inr (inl e) ↦ subst (λ z. Within z) (sym e) (split_within st.mesh m p t h.0 h.1 w.normal w.held)
        | inr (inr x3) ↦ elim x3 [ ]
      ]),
    );
    refuses = λ st e es why n m h ok w. w.1;
    places = λ st e es n m q h w. subst (λ ps. AllWithin ps) (sym (ap (λ k. k.points) w.after ∙ replaced_points w.mesh q w.cells)) w.before.1.1;
    ends = λ st e es n m h ok w. w.1;
    limits = λ st es h. h;
    empties = λ st h. h;
  }

  -- the points of a finished run lie within the limit
  pub points_within : (lk : Edge → Bool) (ts : List Tri) (ps : List Node) (r : Result) → Proper ps ts → AllWithin ps → run_front s lk ts ps ≡ ran r → AllWithin r.points
  unfolding result start new_mesh
  points_within lk ts ps r h k e =
      let w = run_ok s _ _ _ within_rule lk ts ps r (start_valid s lk ts ps h, k) e in
      subst (λ x. AllWithin x.points) (sym w.2) w.1.1

-- it has four of the points, is exactly convex and counterclockwise, and its corners are wide enough
pub sound_quad : Geometry → (y : Quality) → Limit y.largest_cosine → (ps : List Node) (q : Quad) → AllWithin ps → Rated y ps q → SoundQuad y ps q
unfolding quad_corners measures
sound_quad geometry y limit ps q h r =
    let at : (i : ℕ) → Within (point ps i) = point_within ps h in
    let g = geometry.passing y limit (point ps q.n0) (point ps q.n1) (point ps q.n2) (point ps q.n3) (at q.n0) (at q.n1) (at q.n2) (at q.n3) r.passing in
    record {
      names = all_from (quad_nodes q) (λ v i. (all_at (λ a. a < length ps) (quad_nodes q) r.good.below v i, within_finite (point ps v) (at v)));
      passing = r.passing;
      convex = g.0;
      cosines = g.1;
      wide = λ e. all_from (quad_corners ps q) (λ k i. geometry.wide y.largest_cosine e k (all_at (CosineUpTo y.largest_cosine) (quad_corners ps q) g.1 k i));
    }
