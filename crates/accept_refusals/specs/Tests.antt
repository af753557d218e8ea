-- A loop that looks for an entry that passes a test, and the conditions word by word. Assumes nothing.
use Rattle.std.specs.Prelude.{◌≡◌, Bool, true, List, ℕ, ◌+◌, ◌*◌, ◌/◌, ◌<◌, leb}
use Rattle.std.proofs.Common.{sym, subst, arith}
use Rattle.std.proofs.Math.Bool.{false}
use Rattle.std.proofs.Math.Decide.{ℕ_discrete}
use Rattle.std.proofs.Math.ListN.{get_or}
use borrow.Author.Tests.{leb-false, lt-leb}
use Rattle.definition.specs.Lists.{any, table, below}
use Rattle.definition.specs.Cells.{new_quad, quad_nodes, new_tri, tri_nodes}
use Rattle.definition.specs.Call.{tri_at, first_tris}
use Rattle.laws.specs.Bools.{never, holds, or_none}
use Rattle.laws.specs.Tables.{none_below, below_none}
use Rattle.refusals.specs.Tests.{by_thirds}
use Rattle.accept.specs.Call.{corners_at}
use Rattle.accept_refusals.specs.Stated.{tris_unknown, quads_unknown}

-- entry i passes
pub some_below : {A : Type 0} (p : A → Bool) (f : ℕ → A) (n i : ℕ) → i < n → p (f i) ≡ true → any p (table f (below n)) ≡ true
some_below p f n i l e = holds _ (λ g. never _ e (below_none p f n g i l))

-- what holds of four entries for each of n holds of all entries below 4 n
by_fourths : (P : ℕ → Type 0) (n : ℕ) → ((j : ℕ) → j < n → P (4 * j) × P (4 * j + 1) × P (4 * j + 2) × P (4 * j + 3)) → (i : ℕ) → i < 4 * n → P i
by_fourths P n h i l =
    let k = h (i / 4) (omega arith) in
    elim (ℕ_discrete i (4 * (i / 4))) [
      | yes e ↦ subst P (sym e) k.0
      | no d ↦ elim (ℕ_discrete i (4 * (i / 4) + 1)) [
        | yes e ↦ subst P (sym e) k.1
        | no e ↦ elim (ℕ_discrete i (4 * (i / 4) + 2)) [
          | yes f ↦ subst P (sym f) k.2
          | no f ↦ subst P (omega arith) k.3
        ]
      ]
    ]

module _ (m n : ℕ) (qs : List ℕ) where
  four_known : (j : ℕ) → any (leb m) (quad_nodes (corners_at qs j)) ≡ false
      → (get_or qs (4 * j) 0 < m) × (get_or qs (4 * j + 1) 0 < m) × (get_or qs (4 * j + 2) 0 < m) × (get_or qs (4 * j + 3) 0 < m)
  unfolding any quad_nodes corners_at new_quad
  four_known j e =
      let h0 = or_none (leb m (get_or qs (4 * j) 0)) _ e in
      let h1 = or_none (leb m (get_or qs (4 * j + 1) 0)) _ h0.1 in
      let h2 = or_none (leb m (get_or qs (4 * j + 2) 0)) _ h1.1 in
      let h3 = or_none (leb m (get_or qs (4 * j + 3) 0)) false h2.1 in
      (leb-false _ _ h0.0, leb-false _ _ h1.0, leb-false _ _ h2.0, leb-false _ _ h3.0)

  -- every word names a point
  pub quads_known : quads_unknown m n qs ≡ false → (i : ℕ) → i < 4 * n → get_or qs i 0 < m
  quads_known e = by_fourths (λ i. get_or qs i 0 < m) n (λ j k. four_known j (below_none (λ q. any (leb m) (quad_nodes q)) (corners_at qs) n e j k))

  pub quads_pass : ((i : ℕ) → i < 4 * n → get_or qs i 0 < m) → quads_unknown m n qs ≡ false
  unfolding any quad_nodes corners_at new_quad
  quads_pass h =
      none_below _ (corners_at qs) n
      (λ j k. rw (
        lt-leb m _ (h (4 * j) (omega arith)),
        lt-leb m _ (h (4 * j + 1) (omega arith)),
        lt-leb m _ (h (4 * j + 2) (omega arith)),
        lt-leb m _ (h (4 * j + 3) (omega arith)),
      ))

  three_known : (j : ℕ) → any (leb m) (tri_nodes (tri_at qs j)) ≡ false → (get_or qs (3 * j) 0 < m) × (get_or qs (3 * j + 1) 0 < m) × (get_or qs (3 * j + 2) 0 < m)
  unfolding any tri_nodes tri_at new_tri
  three_known j e =
      let h0 = or_none (leb m (get_or qs (3 * j) 0)) _ e in
      let h1 = or_none (leb m (get_or qs (3 * j + 1) 0)) _ h0.1 in
      let h2 = or_none (leb m (get_or qs (3 * j + 2) 0)) false h1.1 in
      (leb-false _ _ h0.0, leb-false _ _ h1.0, leb-false _ _ h2.0)

  pub tris_known : tris_unknown m n qs ≡ false → (i : ℕ) → i < 3 * n → get_or qs i 0 < m
  unfolding first_tris
  tris_known e = by_thirds (λ i. get_or qs i 0 < m) n (λ j k. three_known j (below_none (λ t. any (leb m) (tri_nodes t)) (tri_at qs) n e j k))
