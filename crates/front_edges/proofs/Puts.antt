-- One edge more among those of a node.
use Rattle.std.specs.Prelude.{◌≡◌, ◌≢◌, ◌⊎◌, ◌+◌, ◌*◌, ◌<◌, ◌≤◌, ◌∷◌, ◌++◌}
use Rattle.laws.specs.Kit.{refl, sym, ◌∙◌, ap, subst, inl, inr, ℕ, arith, List, [], length, get_or, set, length-set, length-append}
use Rattle.rings.proofs.Lists.{Same, same, differ, decide}
use Rattle.definition.specs.Cells.{Mesh}
use Rattle.laws.specs.Lists.{In, all_from, all_at, in_left, in_right, in_either, stored_kept, stored_snoc}
use Rattle.laws.specs.Frames.{on, off, Under}
use Rattle.cells.specs.Layout.{mesh_end, front_u_at, front_v_at}
use Rattle.cells.specs.Rep.{Room}
use Rattle.front_edges.specs.Rows.{Distinct}
use Rattle.front_edges.specs.Runs.{Row, Beyond, PutTo, Good, Tried, passed, taken}

-- ---- what stays

pub beyond_refl : (w : List ℕ) (s p from : ℕ) → Beyond w w s p from
beyond_refl w s p from = record { len = refl; firsts = λ i h. refl; seconds = λ i h k. refl; behind = λ i h. refl }

pub beyond_trans : (w w1 w2 : List ℕ) (s p a b : ℕ) → a ≤ b → Beyond w w1 s p a → Beyond w1 w2 s p b → Beyond w w2 s p a
beyond_trans w w1 w2 s p a b o f g =
    record {
      len = g.len ∙ f.len;
      firsts = λ i h. g.firsts i (omega arith) ∙ f.firsts i h;
      seconds = λ i h k. g.seconds i h (omega arith) ∙ f.seconds i h k;
      behind = λ i h. g.behind i h ∙ f.behind i h;
    }

pub beyond_under : (w w' : List ℕ) (s p from : ℕ) → Beyond w w' s p from → Under w w' (mesh_end s p)
beyond_under w w' s p from b = record { len = b.len; low = λ i h. b.firsts i (omega arith) }

-- ---- the edge comes in

pub put_done : (w : List ℕ) (s p u v k : ℕ) → Room w s p → k < 3 * s → PutTo w (set (set w (front_u_at s p + k) u) (front_v_at s p + k) v) s p u v k
put_done w s p u v k r c =
    let w1 = set w (front_u_at s p + k) u in
    let n : length w1 ≡ length w = simp length-set in
    let f = r.fits in
    record {
      first = off w1 (front_v_at s p + k) v (front_u_at s p + k) (omega arith) ∙ on w (front_u_at s p + k) u (omega arith);
      second = on w1 (front_v_at s p + k) v (omega arith);
      beyond = record {
        len = simp length-set;
        firsts = λ i h. off w1 (front_v_at s p + k) v i (omega arith) ∙ off w (front_u_at s p + k) u i (omega arith);
        seconds = λ i h l. off w1 (front_v_at s p + k) v i (omega arith) ∙ off w (front_u_at s p + k) u i (omega arith);
        behind = λ i h. off w1 (front_v_at s p + k) v i (omega arith) ∙ off w (front_u_at s p + k) u i (omega arith);
      };
    }

-- one more at the end of a list
pub snoc_apart : (x : ℕ) (l : List ℕ) → Distinct l → (In x l → ⊥) → Distinct (l ++ x ∷ [])
snoc_apart x [] d f = (tt, tt)
snoc_apart x (y ∷ l) d f = (
  all_from (l ++ x ∷ []) (λ z i. elim (in_either z l (x ∷ []) i) [
    | inl j ↦ all_at (λ t. y ≢ t) l d.0 z j
    | inr (inl e) ↦ λ q. f (inl (sym (q ∙ e)))
    | inr (inr j) ↦ absurd j
  ]),
  snoc_apart x l d.1 (λ i. f (inr i)),
)

module _ (w w1 : List ℕ) (s p u v from k : ℕ) (g : PutTo w w1 s p u v k) (vs : List ℕ) (r : Row w s p u from k vs) where
  row_more : (In v vs → ⊥) → Row w1 s p u from (k + 1) (vs ++ v ∷ [])
  row_more f =
      let n = r.len in
      let z : front_v_at s p + from + length vs ≡ front_v_at s p + k = omega arith in
      record {
        len = omega (arith, length-append vs (v ∷ []));
        firsts = λ i a b. go i a b (decide i k);
        seconds = stored_snoc w1 (front_v_at s p + from) v vs
            (stored_kept w w1 (front_v_at s p + from) vs (λ i a b. g.beyond.seconds i (omega arith) (omega arith)) r.seconds)
            (ap (λ (i : ℕ). get_or w1 i 0) z ∙ g.second);
        apart = snoc_apart v vs r.apart f;
      }
    where
      go : (i : ℕ) → from ≤ i → i < k + 1 → Same i k → get_or w1 (front_u_at s p + i) 0 ≡ u
      go i a b (same e) = ap (λ (j : ℕ). get_or w1 (front_u_at s p + j) 0) e ∙ g.first
      go i a b (differ e) = g.beyond.firsts (front_u_at s p + i) (omega (arith, e, b)) ∙ r.firsts i a (omega (arith, e, b))

-- ---- the edge was tried

-- vs1 has what vs has, and x where u-x is on the front
pub record Tries (m : Mesh) (u x : ℕ) (vs vs1 : List ℕ) : Type 0 where
  pub back : (v : ℕ) → In v vs1 → In v vs ⊎ ((v ≡ x) × Good m u x)
  pub kept : (v : ℕ) → In v vs → In v vs1
  pub new : Good m u x → In x vs1

-- the edges after a try
pub record Half (w w1 : List ℕ) (s p u x from k1 : ℕ) (m : Mesh) (vs : List ℕ) : Type 0 where
  pub vs1 : List ℕ
  pub row : Row w1 s p u from k1 vs1
  pub tries : Tries m u x vs vs1
  pub beyond : Beyond w w1 s p from

pub half : (w w1 : List ℕ) (s p u x from k k1 : ℕ) (m : Mesh) (vs : List ℕ) → Tried m w w1 s p u x k k1 → Row w s p u from k vs → (Good m u x → In x vs → ⊥)
    → Half w w1 s p u x from k1 m vs
half w w1 s p u x from k k1 m vs (passed q r n) row f =
    record {
      vs1 = vs;
      row = subst (λ (z : List ℕ). Row z s p u from k1 vs) (sym q) (subst (λ (j : ℕ). Row w s p u from j vs) (sym r) row);
      tries = record { back = λ v i. inl i; kept = λ v i. i; new = λ g. absurd (n g) };
      beyond = subst (λ (z : List ℕ). Beyond w z s p from) (sym q) (beyond_refl w s p from);
    }
half w w1 s p u x from k k1 m vs (taken r g d) row f =
    record {
      vs1 = vs ++ x ∷ [];
      row = subst (λ (j : ℕ). Row w1 s p u from j (vs ++ x ∷ [])) (sym r) (row_more w w1 s p u x from k d vs row (f g));
      tries = record {
        back = λ v i. elim (in_either v vs (x ∷ []) i) [ inl j ↦ inl j | inr (inl e) ↦ inr (e, g) | inr (inr j) ↦ absurd j ];
        kept = λ v i. in_left v vs (x ∷ []) i;
        new = λ z. in_right x vs (x ∷ []) (inl refl);
      };
      beyond = beyond_trans w w w1 s p from k (omega (arith, row.len)) (beyond_refl w s p from) d.beyond;
    }
