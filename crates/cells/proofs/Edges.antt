-- When a cell has the edge u-v, in the nodes' own order.
use mathlib.Core.Path.{◌≡◌, refl, sym, ◌∙◌}
use mathlib.Core.Bool.{Bool, true, false, ◌&&◌, ◌||◌, and_comm, or-false, false≢true}
use Prim.Native.Nat.{ℕ, min, max, ◌≤◌, ◌<◌}
use native.Mathlib.Omega.{arith}
use lib.Dec.{eqb}
use borrow.Author.Tests.{eq-eqb, ne_eqb, eqb-true}
use Rattle.rings.proofs.Lists.{Same, same, differ, decide}
use Rattle.definition.specs.Lists.{any}
use Rattle.definition.specs.Cells.{Tri, Quad, tri, quad, key, tri_has, has_side, has_edge_in, same_edge, quad_edges}
use Rattle.laws.specs.Bools.{and_left, and_right, fails}
pub use Rattle.laws.specs.Cells.{key_swap, key_up}

-- the edge a-b is the edge u-v
abbrev pub joins : ℕ → ℕ → ℕ → ℕ → Bool
joins u v a b = eqb a u && eqb b v || eqb a v && eqb b u

data Ends (u v a b : ℕ) : Type 0 where
  forth : a ≡ u → b ≡ v → Ends u v a b
  back : a ≡ v → b ≡ u → Ends u v a b

data Either (a b : Bool) : Type 0 where
  first : a ≡ true → Either a b
  second : b ≡ true → Either a b

either : (a b : Bool) → (a || b) ≡ true → Either a b
either true b h = first refl
either false b h = second h

ends : (u v a b : ℕ) → joins u v a b ≡ true → Ends u v a b
ends u v a b h = go (either (eqb a u && eqb b v) (eqb a v && eqb b u) h)
  where
    go : Either (eqb a u && eqb b v) (eqb a v && eqb b u) → Ends u v a b
    go (first k) = forth (eqb-true a u (and_left (eqb a u) (eqb b v) k)) (eqb-true b v (and_right (eqb a u) (eqb b v) k))
    go (second k) = back (eqb-true a v (and_left (eqb a v) (eqb b u) k)) (eqb-true b u (and_right (eqb a v) (eqb b u) k))

-- an edge with its smaller node first: the same test
pub keys : (u v a b : ℕ) → same_edge (key u v) (key a b) ≡ joins u v a b
unfolding same_edge key
keys u v a b = go (joins u v a b) refl
  where
    yes_key : Ends u v a b → (eqb (min u v) (min a b) && eqb (max u v) (max a b)) ≡ true
    yes_key (forth x y) = let p : min u v ≡ min a b = omega arith in let q : max u v ≡ max a b = omega arith in rw (eq-eqb (min u v) (min a b) p, eq-eqb (max u v) (max a b) q)
    yes_key (back x y) = let p : min u v ≡ min a b = omega arith in let q : max u v ≡ max a b = omega arith in rw (eq-eqb (min u v) (min a b) p, eq-eqb (max u v) (max a b) q)

    join : Same a u → min u v ≡ min a b → max u v ≡ max a b → joins u v a b ≡ true
    join (same e) p q = let f : b ≡ v = omega arith in rw (eq-eqb a u e, eq-eqb b v f)
    join (differ e) p q = let f : a ≡ v = omega arith in let g : b ≡ u = omega arith in rw (ne_eqb a u e, eq-eqb a v f, eq-eqb b u g)

    go : (r : Bool) → joins u v a b ≡ r → (eqb (min u v) (min a b) && eqb (max u v) (max a b)) ≡ r
    go true h = yes_key (ends u v a b h)
    go false h = fails (eqb (min u v) (min a b) && eqb (max u v) (max a b))
        (λ t. false≢true (sym h ∙ join (decide a u) (eqb-true (min u v) (min a b) (and_left (eqb (min u v) (min a b)) (eqb (max u v) (max a b)) t)) (eqb-true (max u v) (max a b) (and_right (eqb (min u v) (min a b)) (eqb (max u v) (max a b)) t))))

pub key_down : (u v : ℕ) → v < u → key u v ≡ (v, u)
unfolding key
key_down u v h = let p : min u v ≡ v = omega arith in let q : max u v ≡ u = omega arith in rw (p, q)

data Order (u v : ℕ) : Type 0 where
  up : u ≤ v → Order u v
  down : v < u → Order u v

order : (u v : ℕ) → Order u v
order u v = go (decide (min u v) u)
  where
    go : Same (min u v) u → Order u v
    go (same e) = up (omega arith)
    go (differ e) = down (omega arith)

-- a triangle has the edge when it has both nodes
pub tri_side : (t : Tri) (u v : ℕ) → has_side (key u v) (tri t) ≡ (tri_has t u && tri_has t v)
unfolding has_side key
tri_side t u v = go (order u v)
  where
    go : Order u v → (tri_has t (min u v) && tri_has t (max u v)) ≡ (tri_has t u && tri_has t v)
    go (up h) = let p : min u v ≡ u = omega arith in let q : max u v ≡ v = omega arith in rw (p, q)
    go (down h) = let p : min u v ≡ v = omega arith in let q : max u v ≡ u = omega arith in rw (p, q) (and_comm (tri_has t v) (tri_has t u))

-- a quad when two of its nodes that follow each other are its ends
pub quad_side : (q : Quad) (u v : ℕ)
    → has_side (key u v) (quad q) ≡ (joins u v q.n0 q.n1 || (joins u v q.n1 q.n2 || (joins u v q.n2 q.n3 || joins u v q.n3 q.n0)))
unfolding has_side has_edge_in any quad_edges
quad_side q u v = rw (keys u v q.n0 q.n1, keys u v q.n1 q.n2, keys u v q.n2 q.n3, keys u v q.n3 q.n0) (simp or-false)
