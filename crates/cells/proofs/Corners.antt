-- The corners of a list of nodes, and of cells.
use mathlib.Core.Path.{◌≡◌, refl, ap, sym, ◌∙◌}
use mathlib.Core.Logic.{◌≢◌}
use mathlib.Core.List.{List, [], ◌∷◌, ◌++◌, append-nil, append_assoc}
use Prim.Native.Nat.{ℕ, zero, suc, ◌+◌, ◌*◌, ◌/◌, ◌≤◌, ◌<◌}
use native.Mathlib.Omega.{arith}
use lib.Dec.{eqb}
use lib.ListN.{length, get_or}
use borrow.Author.Tests.{eq-eqb}
use Rattle.rings.specs.Rings.{Out, Below, pick}
use Rattle.rings.proofs.Lists.{out_append, below_append}
use Rattle.rings.proofs.Families.{pick_below, pick_out}
use Rattle.definition.specs.Cells.{Cell, tri, quad, Live, nodes, tri_nodes, quad_nodes}
use Rattle.cells.specs.Rep.{Shape, Held, Cells, slots, at_node, cell_corners, corners}

-- a cell has three or four nodes
pub node_count : (t : Cell) → (3 ≤ length (nodes t)) × (length (nodes t) ≤ 4)
unfolding nodes tri_nodes quad_nodes
node_count (tri t) = omega arith
node_count (quad q) = omega arith

pub at_node_snoc : (v c k : ℕ) (l : List ℕ) (a : ℕ) → at_node v c k (l ++ a ∷ []) ≡ at_node v c k l ++ pick (eqb a v) (c + (k + length l))
unfolding at_node
at_node_snoc v c k [] a = let e : k + 0 ≡ k = omega arith in rw (e, append-nil (pick (eqb a v) (c + k)))
at_node_snoc v c k (x ∷ l) a =
    let e : suc k + length l ≡ k + suc (length l) = omega arith in
    rw (at_node_snoc v c (suc k) l a, e) (sym (append_assoc (pick (eqb x v) (c + k)) (at_node v c (suc k) l) (pick (eqb a v) (c + (k + suc (length l))))))

pub at_node_below : (n v c k : ℕ) (l : List ℕ) → c + (k + length l) ≤ n → Below n (at_node v c k l)
unfolding at_node
at_node_below n v c k [] h = tt
at_node_below n v c k (x ∷ l) h =
    below_append n (pick (eqb x v) (c + k)) (at_node v c (suc k) l) (pick_below n (c + k) (eqb x v) (omega arith)) (at_node_below n v c (suc k) l (omega arith))

-- a number that is no code of the list
pub at_node_out : (y v c k : ℕ) (l : List ℕ) → ((j : ℕ) → k ≤ j → j < k + length l → c + j ≢ y) → Out y (at_node v c k l)
unfolding at_node
at_node_out y v c k [] h = tt
at_node_out y v c k (x ∷ l) h =
    out_append y (pick (eqb x v) (c + k)) (at_node v c (suc k) l) (pick_out y (c + k) (eqb x v) (h k (omega arith) (omega arith)))
    (at_node_out y v c (suc k) l (λ j a b. h j (omega arith) (omega arith)))

pub out_left : (x : ℕ) (l k : List ℕ) → Out x (l ++ k) → Out x l
out_left x [] k h = tt
out_left x (y ∷ l) k h = (h.0, out_left x l k h.1)

pub out_right : (x : ℕ) (l k : List ℕ) → Out x (l ++ k) → Out x k
out_right x [] k h = h
out_right x (y ∷ l) k h = out_right x l k h.1

-- the node in place j has its corner there
pub corner_in : (c k : ℕ) (l : List ℕ) (j : ℕ) → j < length l → Out (c + (k + j)) (at_node (get_or l j 0) c k l) → ⊥
unfolding at_node
corner_in c k [] j h o = omega arith
corner_in c k (x ∷ l) zero h o =
    let q : Out (c + (k + 0)) (pick (eqb x x) (c + k)) = out_left (c + (k + 0)) (pick (eqb x x) (c + k)) (at_node x c (suc k) l) o in
    let r : Out (c + (k + 0)) ((c + k) ∷ []) = rw (eq-eqb x x refl) at q in
    r.0 (omega arith)
corner_in c k (x ∷ l) (suc j) h o =
    let y = get_or l j 0 in
    let q : Out (c + (k + suc j)) (at_node y c (suc k) l) = out_right (c + (k + suc j)) (pick (eqb x y) (c + k)) (at_node y c (suc k) l) o in
    let e : c + (k + suc j) ≡ c + (suc k + j) = omega arith in
    corner_in c (suc k) l j (omega arith) (rw e at q)

-- ---- lists of cells

pub slots_append : (l k : List Live) → slots (l ++ k) ≡ slots l ++ slots k
slots_append [] k = refl
slots_append (e ∷ l) k = ap (λ (x : List ℕ). e.slot ∷ x) (slots_append l k)

pub corners_append : (v : ℕ) (l k : List Live) → corners (l ++ k) v ≡ corners l v ++ corners k v
unfolding corners
corners_append v [] k = refl
corners_append v (e ∷ l) k = rw (corners_append v l k, append_assoc (cell_corners v e.slot e.cell) (corners l v) (corners k v))

pub cells_append : (w : List ℕ) (s k n : ℕ) (l r : List Live) → Cells w s k n l → Cells w s k n r → Cells w s k n (l ++ r)
cells_append w s k n [] r h g = g
cells_append w s k n (e ∷ l) r h g = (h.0, cells_append w s k n l r h.1 g)

pub below_weaken : (m n : ℕ) (l : List ℕ) → m ≤ n → Below m l → Below n l
below_weaken m n [] h b = tt
below_weaken m n (x ∷ l) h b = (omega (arith, b.0), below_weaken m n l h b.1)

pub below_at : (n : ℕ) (l : List ℕ) (k : ℕ) → Below n l → k < length l → get_or l k 0 < n
below_at n [] k b h = absurd (omega (arith, h))
below_at n (x ∷ l) zero b h = b.0
below_at n (x ∷ l) (suc k) b h = below_at n l k b.1 (omega arith)

pub shape_weaken : (m n : ℕ) (t : Cell) → m ≤ n → Shape m t → Shape n t
shape_weaken m n t h r = record { distinct = r.distinct; known = below_weaken m n (nodes t) h r.known }

pub held_weaken : (w : List ℕ) (s k k' n n' : ℕ) (x : Live) → k ≤ k' → n ≤ n' → Held w s k n x → Held w s k' n' x
held_weaken w s k k' n n' x h g r = record { inside = omega (arith, r.inside); shape = shape_weaken n n' x.cell g r.shape; at = r.at }

pub cells_weaken : (w : List ℕ) (s k k' n n' : ℕ) (l : List Live) → k ≤ k' → n ≤ n' → Cells w s k n l → Cells w s k' n' l
cells_weaken w s k k' n n' [] h g r = tt
cells_weaken w s k k' n n' (x ∷ l) h g r = (held_weaken w s k k' n n' x h g r.0, cells_weaken w s k k' n n' l h g r.1)

pub cell_below : (s v i : ℕ) (t : Cell) → i < s → Below (4 * s) (cell_corners v i t)
cell_below s v i t h = at_node_below (4 * s) v (4 * i) 0 (nodes t) (omega (arith, node_count t))

pub corners_below : (w : List ℕ) (s k n u : ℕ) (l : List Live) → k ≤ s → Cells w s k n l → Below (4 * s) (corners l u)
unfolding corners
corners_below w s k n u [] g h = tt
corners_below w s k n u (e ∷ l) g h =
    below_append (4 * s) (cell_corners u e.slot e.cell) (corners l u) (cell_below s u e.slot e.cell (omega (arith, h.0.inside))) (corners_below w s k n u l g h.1)

-- a corner of slot i is no corner of a cell in another slot
pub cell_out : (x v i : ℕ) (t : Cell) → x / 4 ≢ i → Out x (cell_corners v i t)
cell_out x v i t h = at_node_out x v (4 * i) 0 (nodes t) (λ j a b. λ e. h (omega (arith, node_count t)))

pub corners_out : (i x v : ℕ) (l : List Live) → Out i (slots l) → x / 4 ≡ i → Out x (corners l v)
unfolding corners
corners_out i x v [] o e = tt
corners_out i x v (a ∷ l) o e =
    out_append x (cell_corners v a.slot a.cell) (corners l v) (cell_out x v a.slot a.cell (λ q. o.0 (sym q ∙ e))) (corners_out i x v l o.1 e)
