-- Edges, live cells and points of the definition.
use Rattle.std.specs.Prelude.{◌≡◌, ◌&&◌, ◌||◌, ◌<◌, ◌≤◌, ◌∷◌, ◌++◌}
use Rattle.laws.specs.Kit.{refl, sym, ◌∙◌, ap, Bool, true, false, not, some, ℕ, min, max, arith, eqb, eq-eqb, eqb-true, List, [], length, Float}
use Rattle.std.proofs.Math.ListN.{get_or-append}
use Rattle.definition.specs.Lists.{filter, any, find, numbers, below}
use Rattle.definition.specs.Plane.{Node, Edge, point}
use Rattle.definition.specs.Cells.{Live, key, same_edge, in_slot, among, without, without_all}
use Rattle.definition.specs.Call.{point_at, first_points}
use Rattle.laws.specs.Bools.{both}
use Rattle.laws.specs.Numbers.{eqb_swap}
use Rattle.laws.specs.Lists.{find_in, filter_filter, table_length, table_at, numbers_length}

-- ---- edges

-- an edge is known by its nodes
pub same_ends : {a b c d : ℕ} → a ≡ b → c ≡ d → ◌≡◌ {A = Edge} (a, c) (b, d)
same_ends x y = cc

-- an edge is itself, and no other
pub same_self : (e : Edge) → same_edge e e ≡ true
unfolding same_edge
same_self e = rw (eq-eqb e.0 e.0 refl, eq-eqb e.1 e.1 refl)

pub same_is : (e f : Edge) → same_edge e f ≡ true → e ≡ f
unfolding same_edge
same_is e f h =
    let t = both (eqb e.0 f.0) (eqb e.1 f.1) h in
    same_ends (eqb-true e.0 f.0 t.0) (eqb-true e.1 f.1 t.1)

-- an edge is the same from both ends
pub key_swap : (u v : ℕ) → key u v ≡ key v u
unfolding key
key_swap u v = let p : min u v ≡ min v u = omega arith in let q : max u v ≡ max v u = omega arith in rw (p, q)

-- the smaller node is its first
pub key_up : (u v : ℕ) → u < v → key u v ≡ (u, v)
unfolding key
key_up u v h = let p : min u v ≡ u = omega arith in let q : max u v ≡ v = omega arith in rw (p, q)

pub key_back : (u v : ℕ) → v ≤ u → key u v ≡ (v, u)
unfolding key
key_back u v h = let p : min u v ≡ v = omega arith in let q : max u v ≡ u = omega arith in rw (p, q)

-- ---- live cells

pub none_gone : (l : List Live) → without_all [] l ≡ l
unfolding without_all filter among any
none_gone [] = refl
none_gone (y ∷ l) = ap (λ (k : List Live). y ∷ k) (none_gone l)

neither : (a b : Bool) → (not a && not b) ≡ not (a || b)
neither true b = refl
neither false b = refl

-- the first slot, and then the others
pub one_by_one : (c : Live) (cs xs : List Live) → without_all cs (without c.slot xs) ≡ without_all (c ∷ cs) xs
unfolding without_all without among in_slot any
one_by_one c cs xs =
    filter_filter (λ x. not (any (λ y. eqb x.slot y.slot) cs)) (λ x. not (eqb c.slot x.slot)) (λ x. not (eqb x.slot c.slot || any (λ y. eqb x.slot y.slot) cs)) xs
    (λ x. ap (λ b. not b && not (any (λ y. eqb x.slot y.slot) cs)) (eqb_swap c.slot x.slot) ∙ neither (eqb x.slot c.slot) (any (λ y. eqb x.slot y.slot) cs))

-- the cell that is found in a slot has it
pub found_slot : (i : ℕ) (xs : List Live) (x : Live) → find (in_slot i) xs ≡ some x → x.slot ≡ i
unfolding in_slot
found_slot i xs x e = sym (eqb-true i x.slot (find_in (in_slot i) x xs e).1)

-- ---- points

-- a point keeps its number
pub point_stays : (ps more : List Node) (i : ℕ) → i < length ps → point (ps ++ more) i ≡ point ps i
unfolding point
point_stays ps more i h = get_or-append ps more _ i h

pub points_length : (n : ℕ) (q : List Float) → length (first_points n q) ≡ n
unfolding first_points below
points_length n q = table_length _ (numbers 0 n) ∙ numbers_length 0 n

-- a node below n of the first n points
pub point_of : (n : ℕ) (q : List Float) (a : ℕ) → a < n → point (first_points n q) a ≡ point_at q a
unfolding point first_points below
point_of n q a h = table_at (point_at q) 0 n a _ h ∙ ap (point_at q) (omega arith)
