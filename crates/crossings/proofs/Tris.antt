-- The nodes of a triangle, and a node that is no end of an edge.
use Rattle.std.specs.Prelude.{◌≡◌, ◌≢◌, ◌||◌, ◌<◌}
use Rattle.laws.specs.Kit.{refl, sym, Bool, true, false, not, false≢true, ℕ, eqb, eq-eqb, ne_eqb, eqb-true}
use mathlib.Core.Bool.{and-false}
use Rattle.definition.specs.Cells.{Tri, tri, nodes, tri_nodes, tri_has}
use Rattle.definition.specs.Flips.{off_edge}
use Rattle.cells.specs.Rep.{Shape}

-- ---- a triangle

-- three nodes of a triangle
pub record TriOk (n a b c : ℕ) : Type 0 where
  pub a_known : a < n
  pub b_known : b < n
  pub c_known : c < n
  pub ab : a ≡ b → ⊥
  pub bc : b ≡ c → ⊥
  pub ca : c ≡ a → ⊥

pub tri_ok : (n : ℕ) (t : Tri) → Shape n (tri t) → TriOk n t.n0 t.n1 t.n2
unfolding nodes tri_nodes
tri_ok n t h =
    record {
      a_known = h.known.0;
      b_known = h.known.1.0;
      c_known = h.known.1.1.0;
      ab = λ e. h.distinct.0.0 (sym e);
      bc = λ e. h.distinct.1.0.0 (sym e);
      ca = h.distinct.0.1.0;
    }

-- which of its nodes it is
pub data Which (t : Tri) (n : ℕ) : Type 0 where
  is0 : t.n0 ≡ n → Which t n
  is1 : t.n1 ≡ n → Which t n
  is2 : t.n2 ≡ n → Which t n

pub which : (t : Tri) (n : ℕ) → tri_has t n ≡ true → Which t n
unfolding tri_has
which t n h = go (eqb t.n0 n) refl (eqb t.n1 n) refl (eqb t.n2 n) refl h
  where
    go : (a : Bool) → eqb t.n0 n ≡ a → (b : Bool) → eqb t.n1 n ≡ b → (c : Bool) → eqb t.n2 n ≡ c → (a || b || c) ≡ true → Which t n
    go true e b f c g k = is0 (eqb-true t.n0 n e)
    go false e true f c g k = is1 (eqb-true t.n1 n f)
    go false e false f true g k = is2 (eqb-true t.n2 n g)
    go false e false f false g k = absurd (false≢true k)

-- ---- off an edge

pub off_first : (u v n : ℕ) → n ≡ u → off_edge (u, v) n ≡ false
unfolding off_edge
off_first u v n e = rw (eq-eqb n u e)

pub off_second : (u v n : ℕ) → n ≡ v → off_edge (u, v) n ≡ false
unfolding off_edge
off_second u v n e = rw (eq-eqb n v e) (and-false (not (eqb n u)))

pub off_both : (u v n : ℕ) → n ≢ u → n ≢ v → off_edge (u, v) n ≡ true
unfolding off_edge
off_both u v n d e = rw (ne_eqb n u d, ne_eqb n v e)

pub off_same : (u v n : ℕ) → n ≡ u → false ≡ off_edge (u, v) n
off_same u v n e = sym (off_first u v n e)

pub off_rest : (u v n : ℕ) → n ≢ u → not (eqb n v) ≡ off_edge (u, v) n
unfolding off_edge
off_rest u v n e = rw (ne_eqb n u e)
