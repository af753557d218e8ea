-- The verdict on the mesh of a finished run, by its account and its joints: only the clause of cover is left open.
use Rattle.std.specs.Prelude.{◌≡◌, ◌%◌, ◌<◌, ◌∷◌}
use Rattle.laws.specs.Kit.{refl, inl, inr, true, false, none, ℕ, arith, eqb, ne_eqb, eqb-false, List, [], length, take, binary64, of_bits, fits, lt}
use Rattle.definition.specs.Floats.{◌≺◌, f64, 1·0}
use Rattle.definition.specs.Lists.{filter}
use Rattle.definition.specs.Numbers.{Quality}
use Rattle.definition.specs.Counts.{Counts}
use Rattle.definition.specs.Plane.{Node, Edge}
use Rattle.definition.specs.Cells.{Tri, Quad}
use Rattle.definition.specs.Components.{component_sizes}
use Rattle.definition.specs.Call.{Asked, Lent, Lengths, finished, given_points, given_tris, given_joints, given_locks, first_points, first_quads, first_tris, settings_within, call_within}
use Rattle.definition.specs.Account.{All, Even, Account, JointsSurvive}
use Rattle.laws.specs.Bools.{which, never}
use Rattle.laws.specs.Lists.{all_from}
use Rattle.account.specs.Classes.{AllDistinct}
use Rattle.account.proofs.Sizes.{sizes_even, even_sizes}
use Rattle.account.proofs.Parity.{leftover}
use Rattle.account.proofs.Slices.{read_triangles}
use Rattle.account.proofs.Finished.{behind, given_proper}
use Rattle.account.proofs.Demand.{keeps_account}
use Rattle.account.proofs.Joints.{joints_survive}
use Rattle.accept.specs.Accept.{Judged, Verdict, verdict, is_convex, is_wide, is_blunt, stands, odd_ones}
use Rattle.accept.proofs.Moved.{kept_none}
use Rattle.accept.proofs.Firsts.{names_first}
use Rattle.accept.proofs.Tests.{convex_decides, wide_decides, blunt_decides, stands_decides}
use Rattle.accept.specs.Own.{OwnVerdict, own, own_call}

-- ---- how many are odd
pub even_none : (ns : List ℕ) → All Even ns → odd_ones ns ≡ 0
unfolding odd_ones filter
even_none [] h = refl
even_none (n ∷ ns) h = let k = h.0 in rw (ne_eqb (n % 2) 1 (omega arith)) (even_none ns h.1)

pub none_even : (ns : List ℕ) → odd_ones ns ≡ 0 → All Even ns
unfolding odd_ones filter
none_even [] e = tt
none_even (n ∷ ns) e = elim (which (eqb (n % 2) 1)) [
  | inl f ↦ absurd (let g = rw f at e in omega arith)
  | inr f ↦ let k = eqb-false (n % 2) 1 f in (small n k, none_even ns (rw f at e))
]
  where
    small : (n : ℕ) → (n % 2 ≡ 1 → ⊥) → n % 2 ≡ 0
    small n k = omega arith

-- 1 is not below 1
none_asked : (1·0 ≺ 1·0) ≡ false
unfolding ◌≺◌ 1·0 f64 of_bits lt
none_asked = refl

pub own_mesh : (given : List Node) (tris : List Tri) (stop : ℕ) (y : Quality) (most capacity slots : ℕ) (c : Counts) (points : List Node) (quads : List Quad) (left : List Tri) (sizes : List ℕ) (joints : List Edge)
    → Account given tris stop y most capacity slots c points quads left sizes → JointsSurvive joints tris quads left → AllDistinct left
    → OwnVerdict (verdict (own given tris y points quads left joints)) c stop (length quads)
unfolding verdict
own_mesh given tris stop y most capacity slots c points quads left sizes joints a s d =
    let j = own given tris y points quads left joints in
    record {
      moved = kept_none 0 given points a.points_given;
      added = let n = a.points_added in omega arith;
      folded = (names_first (is_convex j) _ (convex_decides j) quads).holds_none a.quads_convex;
      sharp = (names_first (is_wide j) _ (wide_decides j) quads).holds_none a.quads_cosines;
      thin = (names_first (is_blunt j) _ (blunt_decides j) left).holds_none (all_from left (λ t i e. never _ e none_asked));
      lost = (names_first (stands j) _ (stands_decides j) joints).holds_none s.joints_found;
      odd = λ e h. even_none (component_sizes left) (even_sizes left d (sizes_even left d (sizes, a.sizes_right, a.even e (inl h))));
    }

pub run_verdict : (most : ℕ) (a : Asked) (l : Lent) → fits binary64 a.quality.largest_cosine ≡ true → (c : Counts) (n : Lengths) → (call_within most a l).answer ≡ finished c n
    → OwnVerdict (verdict (own_call a l (call_within most a l).lent n)) c a.stop (length (first_quads n.quads (call_within most a l).lent.quads))
run_verdict most a l double c n e =
    let exit = (call_within most a l).lent in
    let b = behind most a l c n e in
    let s = settings_within most (length l.trace) a in
    let good = (leftover s (given_locks a l) (given_tris a l) (given_points a l) b.run (given_proper a l b.passed) b.ended).proper in
    let distinct : AllDistinct (first_tris n.triangles exit.triangles_out) = rw (read_triangles b.run l exit n b.lengths_are b.exit) (λ t i. (good t i).distinct) in
    own_mesh (given_points a l) (given_tris a l) a.stop a.quality most a.capacity a.slots c (first_points n.points exit.points) (first_quads n.quads exit.quads) (first_tris n.triangles exit.triangles_out)
    (take n.components exit.components) (given_joints a l) (keeps_account most a l double c n e) (joints_survive most a l c n e) distinct
