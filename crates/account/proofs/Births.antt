-- Births: the leftover triangles are the given ones and two for each insertion, less those that the quads replaced.
use Rattle.std.specs.Prelude.{◌≡◌, ◌+◌, ◌*◌, ◌∷◌, ◌++◌}
use Rattle.laws.specs.Kit.{sym, ap, subst, Bool, ℕ, arith, List, [], map, length}
use Rattle.definition.specs.Numbers.{Settings}
use Rattle.definition.specs.Counts.{Counts, tally, ◌⊞◌, no_counts, emptied, one_attempt, spending, at_limit}
use Rattle.definition.specs.Plane.{Node, Edge}
use Rattle.definition.specs.Cells.{Tri, Quad, Mesh, live_tris, tris_of, triangles}
use Rattle.definition.specs.Account.{sum}
use Rattle.definition.specs.Attempt.{replaced}
use Rattle.definition.specs.Front.{counting, Result, ran, start, result, run_front}
use Rattle.account.proofs.Rearranged.{same_length}
use Rattle.account.proofs.LiveTris.{live_tris_is, flip_live_tris, split_live_tris, quad_live_tris}
use Rattle.account.proofs.Parity.{triangles_same}
use Rattle.account.proofs.Counting.{added_refused}
use Rattle.account.specs.Start.{Proper}
use Rattle.account.proofs.Start.{start_tris, start_valid}
use Rattle.account.specs.Run.{Rule}
use Rattle.account.proofs.Run.{run_ok}
use Rattle.account.specs.Births.{Balanced, all_replaced}

replaced_last : (qs : List Quad) (q : Quad) → all_replaced (qs ++ (q ∷ [])) ≡ all_replaced qs + q.replaced
unfolding all_replaced sum
replaced_last [] q = omega arith
replaced_last (p ∷ qs) q = let h = replaced_last qs q in omega arith

-- every state is balanced
births_rule : (s : Settings) (given : ℕ) → Rule s (λ st es. Balanced given st.counts st.mesh st.quads 0) (λ st es n m. Balanced given st.counts m st.quads n)
    (λ st. Unit {0})
unfolding counting ◌⊞◌ tally one_attempt spending at_limit emptied
births_rule s given = record {
  opens = λ st es ok h f. h;
  begins = λ st es h. h;
  flips = λ st es n m m' e ok h i f. omega (arith, flip_live_tris m m' e ok i f, h);
  splits = λ st es n m x t p ok h w. omega (arith, split_live_tris m x t p ok w.at w.cell, h);
  refuses = λ st e es why n m h ok w. omega (arith, added_refused st.counts n why, w);
  places = λ st e es n m q h w.
      let a = quad_live_tris w.mesh w.seed q w.cells w.before.0 w.seed_tri w.reached in
      let b : live_tris m ≡ live_tris (replaced w.mesh q w.cells) = ap live_tris w.after in
      omega (arith, a, b, w.in_place_of, w.before.1, replaced_last st.quads q);
  ends = λ st e es n m h ok w. tt;
  limits = λ st es h. omega (arith, h);
  empties = λ st h. omega (arith, h);
}

-- leftover + replaced = given + 2 * insertions
pub left_number : (s : Settings) (lk : Edge → Bool) (ts : List Tri) (ps : List Node) (r : Result) → Proper ps ts → run_front s lk ts ps ≡ ran r
    → length r.triangles + all_replaced r.quads ≡ length ts + 2 * r.counts.mismatch_insertions
unfolding result start no_counts tally all_replaced sum
left_number s lk ts ps r h e =
    let m = (start s lk ts ps).mesh in
    let first : live_tris m + 0 ≡ length ts + 2 * (0 + 0) = omega (arith, live_tris_is m, ap length (start_tris s lk ts ps)) in
    let w = run_ok s _ _ _ (births_rule s (length ts)) lk ts ps r (start_valid s lk ts ps h, first) e in
    let n = w.0.mesh in
    let t = same_length (tris_of n.live) (triangles n) (triangles_same n) in
    subst (λ x. length x.triangles + all_replaced x.quads ≡ length ts + 2 * x.counts.mismatch_insertions) (sym w.2)
    (omega (arith, w.1.1, t, live_tris_is n))
