-- Two triangles by the tally of the owners, and the mark that tells walls.
use mathlib.Core.Path.{◌≡◌, refl, ap, sym, ◌∙◌}
use mathlib.Core.Bool.{Bool, true, false, ◌&&◌}
use mathlib.Core.List.{List, [], ◌∷◌}
use Prim.Native.Nat.{ℕ, ◌+◌, ◌≤◌, ◌<◌}
use native.Mathlib.Omega.{arith}
use lib.Dec.{eqb}
use lib.ListN.{length}
use borrow.Author.Tests.{ne_eqb}
use Rattle.definition.specs.Plane.{Edge}
use Rattle.definition.specs.Lists.{filter}
use Rattle.definition.specs.Cells.{Tri, tri, Live, Mesh, new_live, live_tri, edges, tri_edges, key, owners, tri_owners}
use Rattle.definition.specs.Candidates.{shared_by_tris}
use Rattle.live_regions.specs.Walls.{counted, wall_mark, tally_with, tally}

tally_over : (l : List Live) → tally 3 l ≡ 3
tally_over [] = refl
tally_over (x ∷ l) = go (live_tri x) (tally_over l)
  where
    go : (b : Bool) → tally 3 l ≡ 3 → tally (tally_with b 3) l ≡ 3
    go true r = r
    go false r = r

-- two, both triangles, of a list
tris_two : List Live → Bool
tris_two l = eqb (length l) 2 && eqb (length (filter live_tri l)) 2

two_tally : (l : List Live) → tris_two l ≡ eqb (tally 0 l) 2
unfolding tris_two filter
two_tally [] = refl
two_tally (x ∷ []) = go (live_tri x)
  where
    go : (b : Bool) → false ≡ eqb (tally_with b 0) 2
    go true = refl
    go false = refl
two_tally (x ∷ y ∷ []) = go (live_tri x) refl (live_tri y) refl
  where
    go : (a : Bool) → live_tri x ≡ a → (b : Bool) → live_tri y ≡ b → tris_two (x ∷ y ∷ []) ≡ eqb (tally 0 (x ∷ y ∷ [])) 2
    go true p true q = rw (p, q)
    go true p false q = rw (p, q)
    go false p true q = rw (p, q)
    go false p false q = rw (p, q)
two_tally (x ∷ y ∷ z ∷ l) = rw (ne_eqb (length (x ∷ y ∷ z ∷ l)) 2 (λ e. omega arith)) (go (live_tri x) (live_tri y) (live_tri z))
  where
    three : false ≡ eqb (tally 3 l) 2
    three = rw (tally_over l)

    go : (a b c : Bool) → false ≡ eqb (tally (tally_with c (tally_with b (tally_with a 0))) l) 2
    go true true true = three
    go true true false = three
    go true false true = three
    go true false false = three
    go false true true = three
    go false true false = three
    go false false true = three
    go false false false = three

pub shared_tally : (m : Mesh) (e : Edge) → shared_by_tris m e ≡ eqb (tally 0 (owners m e)) 2
unfolding shared_by_tris tri_owners tris_two
shared_tally m e = two_tally (owners m e)

pub counted_few : (b : Bool) (k : ℕ) → counted b k ≤ k
counted_few true k = omega arith
counted_few false k = omega arith

-- the mark of a triangle, by its edges
pub mark_is : (m : Mesh) (i : ℕ) (t : Tri)
    → wall_mark m (new_live i (tri t)) ≡ 8 + counted (shared_by_tris m (key t.n0 t.n1)) 1 + counted (shared_by_tris m (key t.n1 t.n2)) 2 + counted (shared_by_tris m (key t.n2 t.n0)) 4
unfolding wall_mark new_live edges tri_edges
mark_is m i t = omega arith

-- with the nodes as they were read, and what was found of the edges
pub mark_read : (m : Mesh) (i : ℕ) (t : Tri) (x : Live) → x ≡ new_live i (tri t) → (u v y a b c : ℕ) (p q r : Bool) → u ≡ t.n0 → v ≡ t.n1 → y ≡ t.n2
    → a ≡ counted p 1 → b ≡ counted q 2 → c ≡ counted r 4 → p ≡ shared_by_tris m (key u v) → q ≡ shared_by_tris m (key v y) → r ≡ shared_by_tris m (key y u) → 8 + a + b + c ≡ wall_mark m x
mark_read m i t x e u v y a b c p q r eu ev ey ea eb ec ep eq er =
    rw (ea, eb, ec, ep, eq, er, eu, ev, ey) (sym (mark_is m i t)) ∙ ap (wall_mark m) (sym e)

-- it is below 16
pub mark_few : (m : Mesh) (i : ℕ) (t : Tri) (x : Live) (f : ℕ) → x ≡ new_live i (tri t) → f ≡ wall_mark m x → (2 ≤ f) × (f < 16)
mark_few m i t x f e z =
    let p = shared_by_tris m (key t.n0 t.n1) in
    let q = shared_by_tris m (key t.n1 t.n2) in
    let r = shared_by_tris m (key t.n2 t.n0) in
    let y : f ≡ 8 + counted p 1 + counted q 2 + counted r 4 = z ∙ ap (wall_mark m) e ∙ mark_is m i t in
    (omega (arith, y), omega (arith, y, counted_few p 1, counted_few q 2, counted_few r 4))

-- two triangles
pub record Two (l : List Live) : Type 0 where
  pub x : Live
  pub y : Live
  pub are : l ≡ x ∷ y ∷ []
  pub tris : (live_tri x ≡ true) × (live_tri y ≡ true)

pub two_of : (l : List Live) → tally 0 l ≡ 2 → Two l
two_of [] h = absurd (omega arith)
two_of (x ∷ []) h = go (live_tri x) h
  where
    go : (b : Bool) → tally_with b 0 ≡ 2 → Two (x ∷ [])
    go true k = absurd (omega arith)
    go false k = absurd (omega arith)
two_of (x ∷ y ∷ []) h = go (live_tri x) refl (live_tri y) refl h
  where
    go : (a : Bool) → live_tri x ≡ a → (b : Bool) → live_tri y ≡ b → tally_with b (tally_with a 0) ≡ 2 → Two (x ∷ y ∷ [])
    go true p true q k = record { x = x; y = y; are = refl; tris = (p, q) }
    go true p false q k = absurd (omega arith)
    go false p true q k = absurd (omega arith)
    go false p false q k = absurd (omega arith)
two_of (x ∷ y ∷ z ∷ l) h = absurd (go (live_tri x) (live_tri y) (live_tri z) h)
  where
    three : tally 3 l ≡ 2 → ⊥
    three k = omega (arith, tally_over l)

    go : (a b c : Bool) → tally (tally_with c (tally_with b (tally_with a 0))) l ≡ 2 → ⊥
    go true true true = three
    go true true false = three
    go true false true = three
    go true false false = three
    go false true true = three
    go false true false = three
    go false false true = three
    go false false false = three
