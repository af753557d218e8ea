-- What one more corner of a ring adds to the edges met.
use Rattle.std.specs.Prelude.{◌≡◌, ◌≢◌, ◌||◌, ◌≤◌, ◌∷◌}
use Rattle.laws.specs.Kit.{refl, sym, ◌∙◌, ap, subst, inl, inr, Bool, true, false, ℕ, suc, arith, eqb, eq-eqb, eqb-true, List, [], length}
use Rattle.definition.specs.Lists.{filter}
use Rattle.definition.specs.Cells.{Live, Mesh, key, live_tri, owns}
use Rattle.laws.specs.Bools.{which, either, or_second}
use Rattle.laws.specs.Lists.{In, filter_yes, filter_no}
use Rattle.cells.specs.Walk.{own}
use Rattle.front_edges.specs.Runs.{Good, tris_on, Met}
use Rattle.front_edges.proofs.Members.{good_one}
use Rattle.front_edges.proofs.Puts.{Tries}

-- nothing was met
pub met_start : (m : Mesh) (u : ℕ) → Met m u m.live []
met_start m u = record { good = λ v i. absurd i; gone = λ v i. absurd i; all = λ v g h. absurd (omega (arith, h, good_one m u v g)); part = λ v d. omega arith }

or_left : (a b : Bool) → a ≡ true → (a || b) ≡ true
or_left true b h = refl
or_left false b h = absurd (let z : ◌≡◌ {A = ℕ} 0 1 = cc in omega arith)

module _ (m : Mesh) (u : ℕ) (rest : List Live) (vs : List ℕ) (k : Met m u rest vs) (e : Live) (l : List Live) (own_is : (v : ℕ) → u ≢ v → own u v rest ≡ own u v (e ∷ l)) where
  abbrev count : List Live → ℕ
  count r = length (filter live_tri r)

  apart : (v : ℕ) → Good m u v → u ≢ v
  apart v g z = omega (arith, g.up, z)

  tris_miss : (v : ℕ) → u ≢ v → owns (key u v) e ≡ false → tris_on u v rest ≡ tris_on u v l
  tris_miss v d h = ap count (own_is v d) ∙ ap count (filter_no (owns (key u v)) e l h)

  tris_hit : (v : ℕ) → u ≢ v → owns (key u v) e ≡ true → live_tri e ≡ true → tris_on u v rest ≡ suc (tris_on u v l)
  tris_hit v d h q = ap count (own_is v d) ∙ ap count (filter_yes (owns (key u v)) e l h) ∙ ap length (filter_yes live_tri e (own u v l) q)

  tris_quad : (v : ℕ) → u ≢ v → live_tri e ≡ false → tris_on u v rest ≡ tris_on u v l
  tris_quad v d q = elim (which (owns (key u v) e)) [
    | inl h ↦ ap count (own_is v d) ∙ ap count (filter_yes (owns (key u v)) e l h) ∙ ap length (filter_no live_tri e (own u v l) q)
    | inr h ↦ tris_miss v d h
  ]

  -- a quad adds nothing
  pub met_quad : live_tri e ≡ false → Met m u l vs
  met_quad q =
      record {
        good = k.good;
        gone = λ v i. sym (tris_quad v (apart v (k.good v i)) q) ∙ k.gone v i;
        all = λ v g h. k.all v g (tris_quad v (apart v g) q ∙ h);
        part = λ v d. omega (arith, tris_quad v d q, k.part v d);
      }

  module _ (q : live_tri e ≡ true) (x y : ℕ) (side : (v : ℕ) → u ≢ v → owns (key u v) e ≡ (eqb x v || eqb y v)) where
    hit_x : Good m u x → tris_on u x rest ≡ suc (tris_on u x l)
    hit_x g = tris_hit x (apart x g) (side x (apart x g) ∙ or_left (eqb x x) (eqb y x) (eq-eqb x x refl)) q

    hit_y : Good m u y → tris_on u y rest ≡ suc (tris_on u y l)
    hit_y g = tris_hit y (apart y g) (side y (apart y g) ∙ or_second (eqb x y) (eqb y y) (eq-eqb y y refl)) q

    -- the edges of its triangle were not met before
    pub fresh_x : Good m u x → In x vs → ⊥
    fresh_x g i = omega (arith, hit_x g, k.gone x i)

    pub fresh_y : (vs1 : List ℕ) → Tries m u x vs vs1 → (Good m u x → x ≢ y) → Good m u y → In y vs1 → ⊥
    fresh_y vs1 t d g i = elim (t.back y i) [ inl j ↦ omega (arith, hit_y g, k.gone y j) | inr j ↦ d j.1 (sym j.0) ]

    fewer : (v : ℕ) → u ≢ v → tris_on u v l ≤ tris_on u v rest
    fewer v d = elim (which (owns (key u v) e)) [ inl h ↦ omega (arith, tris_hit v d h q) | inr h ↦ omega (arith, tris_miss v d h) ]

    gone_x : Good m u x → tris_on u x l ≡ 0
    gone_x g = omega (arith, hit_x g, k.part x (apart x g), good_one m u x g)

    gone_y : Good m u y → tris_on u y l ≡ 0
    gone_y g = omega (arith, hit_y g, k.part y (apart y g), good_one m u y g)

    -- the source of a node that was met
    origin : (P : ℕ → Type 0) (vs1 vs2 : List ℕ) → Tries m u x vs vs1 → Tries m u y vs1 vs2 → ((v : ℕ) → In v vs → P v) → (Good m u x → P x) → (Good m u y → P y)
        → (v : ℕ) → In v vs2 → P v
    origin P vs1 vs2 a b f fx fy v i = elim (b.back v i) [
      | inl j ↦ elim (a.back v j) [ inl h ↦ f v h | inr h ↦ subst P (sym h.0) (fx h.1) ]
      | inr j ↦ subst P (sym j.0) (fy j.1)
    ]

    pub good_more : (vs1 : List ℕ) → Tries m u x vs vs1 → (v : ℕ) → In v vs1 → Good m u v
    good_more vs1 a v i = elim (a.back v i) [ inl j ↦ k.good v j | inr j ↦ subst (λ (z : ℕ). Good m u z) (sym j.0) j.1 ]

    pub met_tri : (vs1 vs2 : List ℕ) → Tries m u x vs vs1 → Tries m u y vs1 vs2 → Met m u l vs2
    met_tri vs1 vs2 a b =
        record {
          good = origin (λ v. Good m u v) vs1 vs2 a b k.good (λ g. g) (λ g. g);
          gone = origin (λ v. tris_on u v l ≡ 0) vs1 vs2 a b (λ v i. let d = apart v (k.good v i) in omega (arith, fewer v d, k.gone v i)) gone_x gone_y;
          all = λ v g h. elim (which (owns (key u v) e)) [
            | inl z ↦ elim (either (eqb x v) (eqb y v) (sym (side v (apart v g)) ∙ z)) [
              | inl o ↦ let c : x ≡ v = eqb-true x v o in b.kept v (subst (λ (t : ℕ). In t vs1) c (a.new (subst (λ (t : ℕ). Good m u t) (sym c) g)))
              | inr o ↦ let c : y ≡ v = eqb-true y v o in subst (λ (t : ℕ). In t vs2) c (b.new (subst (λ (t : ℕ). Good m u t) (sym c) g))
            ]
            | inr z ↦ b.kept v (a.kept v (k.all v g (tris_miss v (apart v g) z ∙ h)))
          ];
          part = λ v d. omega (arith, fewer v d, k.part v d);
        }
