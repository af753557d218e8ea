-- A trial was rated: its quad has four different nodes of the points, and its metrics pass.
use Rattle.std.specs.Prelude.{◌≡◌, ◌≢◌, ◌<◌, ◌∷◌, ◌++◌}
use Rattle.laws.specs.Kit.{refl, sym, subst, inl, inr, true, false, ℕ, zero, suc, arith, eqb, eq-eqb, List, [], length, take, length-append}
use Rattle.definition.specs.Lists.{any, flat_map, contains}
use Rattle.definition.specs.Numbers.{Quality}
use Rattle.definition.specs.Plane.{Node, point}
use Rattle.definition.specs.Metrics.{passes}
use Rattle.definition.specs.Cells.{Quad, Mesh, key, new_quad, quad_nodes, node_at}
use Rattle.definition.specs.Trials.{Trial, rated, metrics_of, trial, trial_before, trials}
use Rattle.definition.specs.Account.{measures}
use Rattle.laws.specs.Bools.{which, never}
use Rattle.laws.specs.Lists.{In, sort_in, in_any, in_flat_map}
use Rattle.laws.specs.Cells.{point_stays}
use Rattle.account.specs.Valid.{GoodQuad}
use Rattle.account.proofs.Valid.{quad_more}
use Rattle.account.specs.Rated.{Below, Rated}

-- ---- more points change nothing
-- a quad that was rated stays so
pub rated_more : (y : Quality) (ps more : List Node) (q : Quad) → Rated y ps q → Rated y (ps ++ more) q
unfolding quad_nodes measures
rated_more y ps more q r =
    let b = r.good.below in
    let e0 = point_stays ps more q.n0 b.0 in
    let e1 = point_stays ps more q.n1 b.1.0 in
    let e2 = point_stays ps more q.n2 b.1.1.0 in
    let e3 = point_stays ps more q.n3 b.1.1.1.0 in
    record {
      good = quad_more (length ps) (length (ps ++ more)) q (omega (arith, length-append ps more)) r.good;
      passing = rw (e0, e1, e2, e3) r.passing;
      grown = r.grown;
    }

-- ---- lists of node numbers
-- the first of a list are of the list
pub take_in : {A : Type 0} (n : ℕ) (x : A) (xs : List A) → In x (take n xs) → In x xs
take_in zero x xs i = absurd i
take_in (suc n) x [] i = absurd i
take_in (suc n) x (y ∷ ys) (inl e) = inl e
take_in (suc n) x (y ∷ ys) (inr i) = inr (take_in n x ys i)

contained : (xs : List ℕ) (n : ℕ) → contains xs n ≡ false → (x : ℕ) → In x xs → n ≢ x
unfolding contains
contained xs n h x i e = never (any (eqb n) xs) (in_any (eqb n) xs (x, i, eq-eqb n x e)) h

module _ (y : Quality) (m : Mesh) (a b : ℕ) (two : a ≢ b) (ends : Below (a ∷ b ∷ []) m) where
  rated_one : (c d : ℕ) → contains (a ∷ b ∷ []) c ≡ false → contains (a ∷ b ∷ c ∷ []) d ≡ false → c < length m.points → d < length m.points
      → (t : Trial) → In t (rated y (new_quad a b d c) (metrics_of m (new_quad a b d c))) → Rated y m.points t.nodes
  unfolding rated metrics_of node_at new_quad quad_nodes measures
  rated_one c d x z lc ld t i = elim (which (passes y (metrics_of m (new_quad a b d c)))) [
    | inr e ↦ absurd (rw e at i)
    | inl e ↦ elim (rw e at i) [
      | inl f ↦ subst (λ z. Rated y m.points z.nodes) (sym f) (record {
        good = record {
          distinct = (
            (two, (λ g. contained (a ∷ b ∷ c ∷ []) d z a (inl refl) (sym g), (λ g. contained (a ∷ b ∷ []) c x a (inl refl) (sym g), tt))),
            ((λ g. contained (a ∷ b ∷ c ∷ []) d z b (inr (inl refl)) (sym g), (λ g. contained (a ∷ b ∷ []) c x b (inr (inl refl)) (sym g), tt)), ((contained (a ∷ b ∷ c ∷ []) d z c (inr (inr (inl refl))), tt), (tt, tt))),
          );
          below = (ends a (inl refl), (ends b (inr (inl refl)), (ld, (lc, tt))));
        };
        passing = e;
        grown = refl;
      })
      | inr x3 ↦ elim x3 [ ]
    ]
  ]

  trial_rated : (c d : ℕ) → c < length m.points → d < length m.points → (t : Trial) → In t (trial y m a b c d) → Rated y m.points t.nodes
  unfolding trial
  trial_rated c d lc ld t i = elim (which (contains (a ∷ b ∷ []) c)) [
    | inl e ↦ absurd (rw e at i)
    | inr e ↦ elim (which (contains (a ∷ b ∷ c ∷ []) d)) [
      | inl f ↦ absurd (rw (e, f) at i)
      | inr f ↦ rated_one c d e f lc ld t (rw (e, f) at i)
    ]
  ]

  -- every trial of side nodes below the points was rated
  pub trials_rated : (cs ds : List ℕ) → Below cs m → Below ds m → (t : Trial) → In t (trials y m a b cs ds) → Rated y m.points t.nodes
  unfolding trials
  trials_rated cs ds hc hd t i =
      let r = in_flat_map (λ c. flat_map (λ d. trial y m a b c d) ds) t cs (sort_in trial_before t _ (take_in y.pairs t _ i)) in
      let k = in_flat_map (λ d. trial y m a b r.0 d) t ds r.2 in
      trial_rated r.0 k.0 (hc r.0 r.1) (hd k.0 k.1) t k.2
