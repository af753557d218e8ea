-- Along the places of a loop: whether some edge is not blocked, and the sum of the lengths.
use Rattle.std.specs.Prelude.{◌≡◌, ◌||◌, ◌+◌, ◌<◌, ◌≤◌, ◌∷◌, ◌++◌}
use Rattle.laws.specs.Kit.{refl, sym, ◌∙◌, ap, subst, Bool, true, false, not, ℕ, zero, suc, arith, List, [], foldl, length, get_or, set, length-set, get_or-set_same, get_or-set_other, Float}
use native.Mathlib.Numerals.{add-one}
use Rattle.definition.specs.Lists.{any}
use Rattle.definition.specs.Floats.{◌⊕◌, 0·0}
use Rattle.definition.specs.Plane.{Node, Edge, edge_length}
use Rattle.definition.specs.Cells.{Mesh, has_edge_in}
use Rattle.definition.specs.Loops.{loop_perimeter}
use Rattle.blocked_edges.specs.Records.{IsEdge}
use Rattle.cells.specs.Layout.{perimeters_at}
use Rattle.edges.specs.Stored.{edge_on, edges_on, Perimeters, Measured}
use Rattle.edges.specs.Places.{OnPlaces}
use Rattle.edges.specs.Kept.{on_known}
use Rattle.loops.specs.Sift.{some_open}
use Rattle.loops.specs.Keep.{OpenLoop, CanMeasure}

pub open_edge : {w : List ℕ} {s p b e n : ℕ} {bl l : List Edge} → OpenLoop w s p b e n bl l → (i : ℕ) → b ≤ i → i < e → IsEdge p (edge_on w s p i)
open_edge o i u v = let k = on_known o.at i u v in record { order = k.0; below = omega (arith, k.1, o.nodes) }

-- ---- whether some edge is not blocked

some_cons : (bl : List Edge) (e : Edge) (l : List Edge) → some_open bl (e ∷ l) ≡ (not (has_edge_in bl e) || some_open bl l)
unfolding some_open any
some_cons bl e l = refl

some_none : (bl : List Edge) → some_open bl [] ≡ false
unfolding some_open any
some_none bl = refl

-- the edges from place i on tell
pub record Asking (w : List ℕ) (s p e i : ℕ) (bl l : List Edge) : Type 0 where
  pub left : ℕ
  pub count : i + left ≡ e
  pub tells : some_open bl l ≡ some_open bl (edges_on w s p i left)

pub asking_start : {w : List ℕ} {s p b e n : ℕ} {bl l : List Edge} → OpenLoop w s p b e n bl l → Asking w s p e b bl l
asking_start {bl = bl} {l} o = record { left = length l; count = sym o.at.len; tells = ap (some_open bl) (sym o.at.are) }

module _ {w : List ℕ} {s p e i : ℕ} {bl l : List Edge} (g : Asking w s p e i bl l) where
  pub asking_end : e ≤ i → false ≡ some_open bl l
  asking_end h = let z : g.left ≡ 0 = omega (arith, g.count) in sym (g.tells ∙ ap (λ (n : ℕ). some_open bl (edges_on w s p i n)) z ∙ some_none bl)

  module _ (h : i < e) (t : Bool) (q : t ≡ not (has_edge_in bl (edge_on w s p i))) where
    tells_now : (n : ℕ) → g.left ≡ suc n → some_open bl l ≡ (t || some_open bl (edges_on w s p (suc i) n))
    tells_now n z =
        g.tells ∙ ap (λ (n : ℕ). some_open bl (edges_on w s p i n)) z ∙ some_cons bl (edge_on w s p i) (edges_on w s p (suc i) n)
        ∙ ap (λ (x : Bool). x || some_open bl (edges_on w s p (suc i) n)) (sym q)

    -- it is not blocked
    pub asking_hit : t ≡ true → true ≡ some_open bl l
    asking_hit y = go g.left refl
      where
        go : (n : ℕ) → g.left ≡ n → true ≡ some_open bl l
        go zero z = absurd (omega (arith, z, g.count))
        go (suc n) z = sym (tells_now n z ∙ ap (λ (x : Bool). x || some_open bl (edges_on w s p (suc i) n)) y)

    -- it is
    pub asking_on : t ≡ false → Asking w s p e (i + 1) bl l
    asking_on y = go g.left refl
      where
        go : (n : ℕ) → g.left ≡ n → Asking w s p e (i + 1) bl l
        go zero z = absurd (omega (arith, z, g.count))
        go (suc n) z =
            record {
              left = n;
              count = omega (arith, z, g.count);
              tells = tells_now n z ∙ ap (λ (x : Bool). x || some_open bl (edges_on w s p (suc i) n)) y ∙ ap (λ (x : ℕ). some_open bl (edges_on w s p x n)) (sym (add-one i));
            }

-- ---- the perimeter

-- the edges from place i on, with the sum so far, give it
pub record Summing (w : List ℕ) (s p e i : ℕ) (sum : Float) (ps : List Node) (l : List Edge) : Type 0 where
  pub left : ℕ
  pub count : i + left ≡ e
  pub same : loop_perimeter ps l ≡ foldl (λ t d. t ⊕ edge_length ps d) sum (edges_on w s p i left)

pub summing_start : {w : List ℕ} {s p b e n : ℕ} {l : List Edge} (ps : List Node) → OnPlaces w s p b e n l → Summing w s p e b 0·0 ps l
unfolding loop_perimeter
summing_start {l = l} ps o = record { left = length l; count = sym o.len; same = ap (foldl (λ t d. t ⊕ edge_length ps d) 0·0) (sym o.are) }

module _ {w : List ℕ} {s p e i : ℕ} {sum : Float} {ps : List Node} {l : List Edge} (g : Summing w s p e i sum ps l) where
  pub summing_end : e ≤ i → sum ≡ loop_perimeter ps l
  summing_end h = let z : g.left ≡ 0 = omega (arith, g.count) in sym (g.same ∙ ap (λ (n : ℕ). foldl (λ t d. t ⊕ edge_length ps d) sum (edges_on w s p i n)) z)

  pub summing_on : i < e → (t : Float) → t ≡ edge_length ps (edge_on w s p i) → Summing w s p e (i + 1) (sum ⊕ t) ps l
  summing_on h t q = go g.left refl
    where
      go : (n : ℕ) → g.left ≡ n → Summing w s p e (i + 1) (sum ⊕ t) ps l
      go zero z = absurd (omega (arith, z, g.count))
      go (suc n) z =
          record {
            left = n;
            count = omega (arith, z, g.count);
            same = g.same ∙ ap (λ (n : ℕ). foldl (λ t d. t ⊕ edge_length ps d) sum (edges_on w s p i n)) z
                ∙ ap (λ (x : Float). foldl (λ t d. t ⊕ edge_length ps d) (sum ⊕ x) (edges_on w s p (suc i) n)) (sym q)
                ∙ ap (λ (x : ℕ). foldl (λ t d. t ⊕ edge_length ps d) (sum ⊕ t) (edges_on w s p x n)) (sym (add-one i));
          }

-- ---- all perimeters

perimeters_kept : (f : List Float) (x : ℕ) (v : Float) (s p : ℕ) (ps : List Node) (j : ℕ) (ls : List (List Edge)) → j + length ls ≤ x → Perimeters f s p ps j ls → Perimeters (set f x v) s p ps j ls
perimeters_kept f x v s p ps j [] h g = tt
perimeters_kept f x v s p ps j (l ∷ ls) h g =
    (get_or-set_other f x (perimeters_at s p + j) v 0·0 (omega (arith, h)) ∙ g.0, perimeters_kept f x v s p ps (suc j) ls (omega (arith, h)) g.1)

perimeters_last : (f : List Float) (s p : ℕ) (ps : List Node) (j x : ℕ) (ls : List (List Edge)) (l : List Edge) → x ≡ j + length ls → Perimeters f s p ps j ls
    → get_or f x 0·0 ≡ loop_perimeter ps l → Perimeters f s p ps j (ls ++ l ∷ [])
perimeters_last f s p ps j x [] l e h g = let z : perimeters_at s p + j ≡ x = omega (arith, e) in (ap (λ (i : ℕ). get_or f i 0·0) z ∙ g, tt)
perimeters_last f s p ps j x (k ∷ ls) l e h g = (h.0, perimeters_last f s p ps (suc j) x ls l (omega (arith, e)) h.1 g)

single : (ls : List (List Edge)) → length ls ≡ 1 → (k : List Edge) × (ls ≡ k ∷ [])
single [] e = absurd (omega arith)
single (k ∷ []) e = (k, refl)
single (k ∷ x ∷ ls) e = absurd (omega (arith, e))

module _ {w : List ℕ} {q f : List Float} {s p b e j : ℕ} {m : Mesh} {l : List Edge} {ls : List (List Edge)} (c : CanMeasure w q f s p b e j m l ls) where
  -- the only loop before
  pub first_is : j ≡ 1 → (k : List Edge) × (ls ≡ k ∷ [])
  first_is h = single ls (c.many ∙ h)

  -- two loops have their perimeters
  pub measured_two : (h : j ≡ 1) (v u : Float) → v ≡ loop_perimeter m.points (first_is h).0 → u ≡ loop_perimeter m.points l → Measured (set (set f 0 v) 1 u) s p (j + 1) m.points (ls ++ l ∷ [])
  measured_two h v u x y two =
      let k = (first_is h).0 in
      let one : Perimeters (set f 0 v) s p m.points 0 (k ∷ []) = perimeters_last (set f 0 v) s p m.points 0 0 [] k refl tt (get_or-set_same f 0 v 0·0 (omega (arith, c.inside)) ∙ x) in
      perimeters_last (set (set f 0 v) 1 u) s p m.points 0 1 ls l (omega (arith, c.many, h))
      (perimeters_kept (set f 0 v) 1 u s p m.points 0 ls (omega (arith, c.many, h)) (subst (Perimeters (set f 0 v) s p m.points 0) (sym (first_is h).1) one))
      (get_or-set_same (set f 0 v) 1 u 0·0 (simp length-set (omega (arith, c.inside, h))) ∙ y)

  -- one more
  pub measured_more : (j ≡ 0 → ⊥) → (j ≡ 1 → ⊥) → (u : Float) → u ≡ loop_perimeter m.points l → Measured (set f j u) s p (j + 1) m.points (ls ++ l ∷ [])
  measured_more n o u y two =
      perimeters_last (set f j u) s p m.points 0 j ls l (omega (arith, c.many))
      (perimeters_kept f j u s p m.points 0 ls (omega (arith, c.many)) (c.sums (omega arith))) (get_or-set_same f j u 0·0 c.inside ∙ y)
