-- One ideal more is kept, and one node more is listed.
use Rattle.std.specs.Prelude.{◌≡◌, ◌+◌, ◌*◌, ◌<◌, ◌≤◌}
use Rattle.laws.specs.Kit.{refl, sym, ◌∙◌, ap, subst, true, false, false≢true, ℕ, arith, List, get_or, set, length-set, Float}
use lib.Ieee.{is_nan}
use Rattle.rings.proofs.Lists.{Same, same, differ, decide}
use Rattle.definition.specs.Plane.{Vec}
use Rattle.definition.specs.Cells.{Mesh}
use Rattle.laws.specs.Frames.{on, off}
use Rattle.cells.specs.Walk.{one_if}
use Rattle.edge_candidates.specs.Words.{float_at, vec_at, Numbers, PutTo}
use Rattle.edge_candidates.specs.Wanted.{gives}
use Rattle.edge_candidates.specs.Wishes.{ideal_from, Besides, Kept, KeepTo, CanNode, NodeTo}
use Rattle.edge_candidates.specs.declared.wishes.Found.{Found}
use Rattle.edge_candidates.proofs.Bits.{float_kept}

pub vec_kept : (w w' : List ℕ) (at : ℕ) → ((i : ℕ) → at ≤ i → i < at + 4 → get_or w' i 0 ≡ get_or w i 0) → vec_at w' at ≡ vec_at w at
vec_kept w w' at h =
    let x : float_at w' at ≡ float_at w at = float_kept w w' at (h at (omega arith) (omega arith)) (h (at + 1) (omega arith) (omega arith)) in
    let y : float_at w' (at + 2) ≡ float_at w (at + 2) = float_kept w w' (at + 2) (h (at + 2) (omega arith) (omega arith)) (h (at + 2 + 1) (omega arith) (omega arith)) in
    rw (x, y)

pub numbers_kept : (w w' : List ℕ) (at : ℕ) → ((i : ℕ) → at ≤ i → i < at + 4 → get_or w' i 0 ≡ get_or w i 0) → Numbers w at → Numbers w' at
numbers_kept w w' at h k =
    record {
      dx = ap is_nan (float_kept w w' at (h at (omega arith) (omega arith)) (h (at + 1) (omega arith) (omega arith))) ∙ k.dx;
      dy = ap is_nan (float_kept w w' (at + 2) (h (at + 2) (omega arith) (omega arith)) (h (at + 2 + 1) (omega arith) (omega arith))) ∙ k.dy;
    }

module _ (w w1 w2 : List ℕ) (s b i : ℕ) (room : i < s) (x : Vec) (p1 : PutTo w w1 (b + 2 * s + 4 * i) x.dx) (p2 : PutTo w1 w2 (b + 2 * s + 4 * i + 2) x.dy) where
  both_rest : (j : ℕ) → (b + 2 * s + 4 * i ≤ j → b + 2 * s + 4 * i + 4 ≤ j) → get_or w2 j 0 ≡ get_or w j 0
  both_rest j h = p2.rest j (λ e. omega (arith, h (omega (arith, e)), e)) (λ e. omega (arith, h (omega (arith, e)), e)) ∙ p1.rest j (λ e. omega (arith, h (omega (arith, e)), e)) (λ e. omega (arith, h (omega (arith, e)), e))

  both_dx : float_at w2 (b + 2 * s + 4 * i) ≡ x.dx
  both_dx =
      let at = b + 2 * s + 4 * i in
      float_kept w1 w2 at (p2.rest at (omega arith) (omega arith)) (p2.rest (at + 1) (omega arith) (omega arith)) ∙ p1.is

  both_is : vec_at w2 (b + 2 * s + 4 * i) ≡ x
  both_is = rw (both_dx, p2.is)

  keep_besides : Besides w w2 (b + 2 * s) (4 * s)
  keep_besides =
      record {
        len = p2.len ∙ p1.len;
        before = λ j h. both_rest j (λ k. omega (arith, h, k));
        behind = λ j h. both_rest j (λ k. omega (arith, h, room));
      }

  keep_more : (q : List Float) (a : ℕ) (u : Vec) → Kept w q s a u b i → x ≡ ideal_from q a u (get_or w (b + i) 0) → is_nan x.dx ≡ false → is_nan x.dy ≡ false → Kept w2 q s a u b (i + 1)
  keep_more q a u k e nx ny = record { few = omega arith; numbers = λ j h. number j h (decide j i); each = λ j h. go j h (decide j i) }
    where
      number : (j : ℕ) → j < i + 1 → Same j i → Numbers w2 (b + 2 * s + 4 * j)
      number j h (same d) = subst (λ (n : ℕ). Numbers w2 (b + 2 * s + 4 * n)) (sym d) (record { dx = ap is_nan both_dx ∙ nx; dy = ap is_nan p2.is ∙ ny })
      number j h (differ d) =
          let l : j < i = omega arith in
          numbers_kept w w2 (b + 2 * s + 4 * j) (λ n f g. both_rest n (λ y. omega (arith, y, g, l))) (k.numbers j l)

      go : (j : ℕ) → j < i + 1 → Same j i → vec_at w2 (b + 2 * s + 4 * j) ≡ ideal_from q a u (get_or w2 (b + j) 0)
      go j h (same d) =
          subst (λ (n : ℕ). vec_at w2 (b + 2 * s + 4 * n) ≡ ideal_from q a u (get_or w2 (b + n) 0)) (sym d)
          (both_is ∙ e ∙ ap (ideal_from q a u) (sym (both_rest (b + i) (λ l. omega (arith, l, room)))))
      go j h (differ d) =
          let l : j < i = omega arith in
          vec_kept w w2 (b + 2 * s + 4 * j) (λ n f g. both_rest n (λ y. omega (arith, y, g, l))) ∙ k.each j l ∙ ap (ideal_from q a u) (sym (both_rest (b + j) (λ y. omega (arith, y, l, room))))

  pub keep_done : is_nan x.dx ≡ false → is_nan x.dy ≡ false → KeepTo w w2 s b i i x (i + 1)
  keep_done nx ny = record { some = omega arith; besides = keep_besides; kept = λ q a u k e. keep_more q a u k e nx ny }

pub keep_none : (w : List ℕ) (q : List Float) (s a : ℕ) (u : Vec) (b : ℕ) → Kept w q s a u b 0
keep_none w q s a u b = record { few = omega arith; numbers = λ i h. absurd (omega (arith, h)); each = λ i h. absurd (omega (arith, h)) }

-- ---- a node more

pub node_none : (w : List ℕ) (q : List Float) (s p a other b : ℕ) (m : Mesh) (u : Vec) (g : Found) (v : ℕ) → CanNode w q s p a other b m u g v → false ≡ gives m a other u v
    → NodeTo w w q s a other b m u g v g
node_none w q s p a other b m u g v c h =
    record {
      besides = record { len = refl; before = λ j l. refl; behind = λ j l. refl };
      same = λ i l. refl;
      count = omega (arith, ap one_if h);
      new = λ y. absurd (false≢true (h ∙ y));
      some = c.some;
      kept = c.kept;
    }

module _ (w : List ℕ) (q : List Float) (s p a other b : ℕ) (m : Mesh) (u : Vec) (g : Found) (v : ℕ) (c : CanNode w q s p a other b m u g v) where
  listed_kept : Kept (set w (b + g.count) v) q s a u b g.kept
  listed_kept =
      let w1 = set w (b + g.count) v in
      let k = c.kept in
      record {
        few = k.few;
        numbers = λ i l. numbers_kept w w1 (b + 2 * s + 4 * i) (λ j d e. off w (b + g.count) v j (omega (arith, d, c.room))) (k.numbers i l);
        each = λ i l.
            vec_kept w w1 (b + 2 * s + 4 * i) (λ j d e. off w (b + g.count) v j (omega (arith, d, c.room)))
            ∙ k.each i l
            ∙ ap (ideal_from q a u) (sym (off w (b + g.count) v (b + i) (omega (arith, l, c.some))));
      }

  pub node_some : true ≡ gives m a other u v → (x : Vec) → x ≡ ideal_from q a u v → (w2 : List ℕ) (k : ℕ) → KeepTo (set w (b + g.count) v) w2 s b g.count g.kept x k
      → NodeTo w w2 q s a other b m u g v (record { count = g.count + 1; kept = k })
  node_some y x e w2 k z =
      let w1 = set w (b + g.count) v in
      let there : get_or w1 (b + g.count) 0 ≡ v = on w (b + g.count) v (omega (arith, c.room, c.list.to)) in
      record {
        besides = record {
          len = z.besides.len ∙ length-set w (b + g.count) v;
          before = λ j l. z.besides.before j (omega arith) ∙ off w (b + g.count) v j (omega arith);
          behind = λ j l. z.besides.behind j (omega arith) ∙ off w (b + g.count) v j (omega (arith, l, c.room));
        };
        same = λ i l. z.besides.before (b + i) (omega (arith, l, c.room)) ∙ off w (b + g.count) v (b + i) (omega (arith, l));
        count = omega (arith, ap one_if y);
        new = λ h. z.besides.before (b + g.count) (omega (arith, c.room)) ∙ there;
        some = z.some;
        kept = z.kept q a u listed_kept (e ∙ ap (ideal_from q a u) (sym there));
      }
