-- The leftover triangles of a finished run and their components.
use Rattle.std.specs.Prelude.{◌≡◌, ◌⊎◌, ◌<◌}
use Rattle.laws.specs.Kit.{sym, subst, inl, inr, Bool, true, false, ℕ, arith, ltb, List, [], length}
use Rattle.definition.specs.Numbers.{Settings}
use Rattle.definition.specs.Plane.{Node, Edge}
use Rattle.definition.specs.Cells.{Tri, Quad, Live, Mesh, tri_of, tris_of, in_slot_order, triangles}
use Rattle.definition.specs.Components.{removing_leaves_odd_component}
use Rattle.definition.specs.Attempt.{replaced}
use Rattle.definition.specs.Front.{State, counting, Result, ran, start, result, run_front}
use Rattle.definition.specs.Account.{All, Rearranged, Components, Even, EvenComponents, sum}
use Rattle.laws.specs.Lists.{In}
use Rattle.account.proofs.Rearranged.{sort_flat, same_back, same_in_tris}
use Rattle.account.specs.Even.{AllEven}
use Rattle.account.proofs.Even.{same_even}
use Rattle.account.specs.Classes.{AllDistinct}
use Rattle.account.proofs.Sizes.{sizes_even, even_sizes, none_odd, components_right, sizes_sum}
use Rattle.account.proofs.Flips.{flip_made}
use Rattle.account.specs.Valid.{GoodTri, Valid}
use Rattle.account.proofs.FlipKeeps.{flip_kept}
use Rattle.account.proofs.SplitKeeps.{split_kept}
use Rattle.account.proofs.QuadKeeps.{quad_tris, remaining_good}
use Rattle.account.specs.Start.{Proper}
use Rattle.account.proofs.Start.{start_tris, start_valid}
use Rattle.account.specs.Run.{Rule}
use Rattle.account.proofs.Run.{run_ok}
use Rattle.account.specs.Parity.{Leftover}

-- ---- the leftover triangles
-- by slots they are those of the live list, in another order
pub triangles_same : (m : Mesh) → Rearranged (tris_of m.live) (triangles m)
unfolding triangles tris_of in_slot_order
triangles_same m p = sort_flat (λ x. tri_of x.cell) (λ x y. ltb x.slot y.slot) p m.live

-- they have three different nodes of the points
pub triangles_good : (m : Mesh) → Valid m → (t : Tri) → In t (triangles m) → GoodTri (length m.points) t
triangles_good m ok t i = ok.tris t (same_in_tris (triangles m) (tris_of m.live) (same_back (tris_of m.live) (triangles m) (triangles_same m)) t i)

-- ---- evenness
module _ (s : Settings) (given : List Tri) where
  -- when all components must be even
  abbrev pub Must : List Quad → Type 0
  Must quads = (s.even ≡ true) × ((0 < length quads) ⊎ AllEven given)

  -- between attempts
  abbrev Q : State → List Edge → Type 0
  Q st es = Must st.quads → AllEven (tris_of st.mesh.live)

  -- in an attempt
  abbrev P : State → List Edge → ℕ → Mesh → Type 0
  P st es n m = Must st.quads → AllEven (tris_of m.live)

  placed_even : (m : Mesh) (q : Quad) (cells : List Live) → Valid m → removing_leaves_odd_component m cells ≡ false → AllEven (tris_of (replaced m q cells).live)
  unfolding removing_leaves_odd_component
  placed_even m q cells ok h =
      let d : AllDistinct (tris_of _) = λ t i. (remaining_good m q cells ok t i).distinct in
      subst (λ l. AllEven l) (sym (quad_tris m q cells)) (sizes_even _ d (none_odd _ d h))

  rule : Rule s Q P (λ st. Unit {0})
  unfolding counting
  rule = record {
    opens = λ st es ok h f. h;
    begins = λ st es h. h;
    flips = λ st es n m m' e ok h i f must. (flip_kept m e m' ok i (flip_made m e m' f)).even (h must);
    splits = λ st es n m x t p ok h w must. (split_kept m x t p ok w.at w.cell).even (h must);
    refuses = λ st e es why n m h ok w. w;
    places = λ st e es n m q h w must. subst (λ z. AllEven (tris_of z.live)) (sym w.after) (placed_even w.mesh q w.cells w.before.0 (w.none_odd must.0));
    ends = λ st e es n m h ok w. tt;
    limits = λ st es h. h;
    empties = λ st h. h;
  }

  starts : (lk : Edge → Bool) (ps : List Node) → Q (start s lk given ps) []
  unfolding start
  starts lk ps must = elim must.1 [ inl f ↦ absurd (omega arith) | inr f ↦ subst (λ l. AllEven l) (sym (start_tris s lk given ps)) f ]

leftover_of : (s : Settings) (ts : List Tri) → AllDistinct ts → (st : State) → Valid st.mesh → Q s ts st [] → Leftover s ts (result st)
unfolding result
leftover_of s ts d st ok h =
    let left = triangles st.mesh in
    let good = triangles_good st.mesh ok in
    let distinct : AllDistinct left = λ t i. (good t i).distinct in
    record {
      right = components_right left distinct;
      adds_up = sizes_sum left distinct;
      proper = good;
      even = λ e f. even_sizes left distinct (same_even (tris_of st.mesh.live) left (triangles_same st.mesh) (h (e, elim f [ inl g ↦ inl g | inr g ↦ inr (sizes_even ts d g) ])));
    }

-- what holds of the leftover triangles of a finished run
pub leftover : (s : Settings) (lk : Edge → Bool) (ts : List Tri) (ps : List Node) (r : Result) → Proper ps ts → run_front s lk ts ps ≡ ran r → Leftover s ts r
leftover s lk ts ps r h e =
    let w = run_ok s (Q s ts) (P s ts) (λ st. Unit {0}) (rule s ts) lk ts ps r (start_valid s lk ts ps h, starts s ts lk ps) e in
    subst (λ x. Leftover s ts x) (sym w.2) (leftover_of s ts (λ t i. (h t i).distinct) w.0 w.1.0 w.1.1)
