-- Edges at places, one more at a time and where they stay; so the loops.
use Rattle.std.specs.Prelude.{◌≡◌, ◌+◌, ◌*◌, ◌<◌, ◌≤◌, ◌∷◌, ◌++◌}
use Rattle.laws.specs.Kit.{refl, sym, ◌∙◌, ap, subst, ℕ, zero, suc, arith, dec_lt, List, [], length, get_or}
use Rattle.definition.specs.Lists.{concat, flat_map}
use Rattle.definition.specs.Plane.{Edge}
use Rattle.laws.specs.Lists.{concat_length}
use Rattle.laws.specs.Cells.{same_ends}
use Rattle.cells.specs.Layout.{front_u_at, front_v_at, order_at, starts_at, done_at}
use Rattle.cells.specs.Rep.{Room}
use Rattle.edges.specs.Stored.{Edges, edge_on, edges_on, LoopsAt, LoopList}
use Rattle.edges.specs.Laws.{loops_few}
use Rattle.edges.specs.Places.{Place, Known, OnPlaces}

-- ---- the edges at places

pub edges_same : (w w' : List ℕ) (s p b n : ℕ) → ((i : ℕ) → b ≤ i → i < b + n → edge_on w' s p i ≡ edge_on w s p i) → edges_on w' s p b n ≡ edges_on w s p b n
edges_same w w' s p b zero h = refl
edges_same w w' s p b (suc n) h =
    let r = edges_same w w' s p (suc b) n (λ i x y. h i (omega arith) (omega arith)) in
    ap (λ (e : Edge). e ∷ edges_on w' s p (suc b) n) (h b (omega arith) (omega arith)) ∙ ap (λ (l : List Edge). edge_on w s p b ∷ l) r

pub edges_last : (w : List ℕ) (s p b n : ℕ) → edges_on w s p b (suc n) ≡ edges_on w s p b n ++ edge_on w s p (b + n) ∷ []
edges_last w s p b zero = let e : b + 0 ≡ b = omega arith in ap (λ (i : ℕ). edge_on w s p i ∷ []) (sym e)
edges_last w s p b (suc n) =
    let e : suc b + n ≡ b + suc n = omega arith in
    ap (λ (l : List Edge). edge_on w s p b ∷ l) (edges_last w s p (suc b) n ∙ ap (λ (i : ℕ). edges_on w s p (suc b) n ++ edge_on w s p i ∷ []) e)

pub head_same : (x y : Edge) (xs ys : List Edge) → (x ∷ xs) ≡ (y ∷ ys) → x ≡ y
head_same x y xs ys h = cc

tail_same : (x y : Edge) (xs ys : List Edge) → (x ∷ xs) ≡ (y ∷ ys) → xs ≡ ys
tail_same x y xs ys h = cc

-- each has its smaller node first and both among n
edge_known : (w : List ℕ) (s p n b : ℕ) (l : List Edge) → edges_on w s p b (length l) ≡ l → Edges n l → (i : ℕ) → b ≤ i → i < b + length l
    → ((edge_on w s p i).0 < (edge_on w s p i).1) × ((edge_on w s p i).1 < n)
edge_known w s p n b [] h e i u v = absurd (omega arith)
edge_known w s p n b (x ∷ l) h e i u v =
    elim (dec_lt b i) [
      | yes k ↦ edge_known w s p n (suc b) l (tail_same (edge_on w s p b) x (edges_on w s p (suc b) (length l)) l h) e.3 i k (omega arith)
      | no k ↦ here (omega arith)
    ]
  where
    here : i ≡ b → ((edge_on w s p i).0 < (edge_on w s p i).1) × ((edge_on w s p i).1 < n)
    here q =
        subst (λ (f : Edge). (f.0 < f.1) × (f.1 < n)) (sym (ap (edge_on w s p) q ∙ head_same (edge_on w s p b) x (edges_on w s p (suc b) (length l)) l h)) (e.0, e.1)

module _ {w : List ℕ} {s p b e n : ℕ} {l : List Edge} (o : OnPlaces w s p b e n l) where
  pub on_known : (i : ℕ) → b ≤ i → i < e → ((edge_on w s p i).0 < (edge_on w s p i).1) × ((edge_on w s p i).1 < n)
  on_known i x y = edge_known w s p n b l o.are o.edges i x (omega (arith, o.len))

  pub known_on : (i : ℕ) → b ≤ i → i < e → Known n (edge_on w s p i)
  known_on i x y = let k = on_known i x y in record { first = omega arith; second = k.1 }

  pub on_place : Room w s p → (i : ℕ) → b ≤ i → i < e → Place w s p i
  on_place r i x y = record { room = r; low = omega (arith, o.few); number = o.places i x y }

-- ---- the loops

pub loops_kept : (w w' : List ℕ) (s p j b : ℕ) (ls : List (List Edge)) → ((i : ℕ) → j ≤ i → i < j + length ls → get_or w' (starts_at s p + i) 0 ≡ get_or w (starts_at s p + i) 0)
    → ((i : ℕ) → b ≤ i → i < b + length (concat ls) → edge_on w' s p i ≡ edge_on w s p i) → LoopsAt w s p j b ls → LoopsAt w' s p j b ls
loops_kept w w' s p j b [] f g h = tt
loops_kept w w' s p j b (l ∷ ls) f g h =
    let z = concat_length l ls in (
      f j (omega arith) (omega arith) ∙ h.0,
      edges_same w w' s p b (length l) (λ i x y. g i x (omega arith)) ∙ h.1,
      h.2,
      loops_kept w w' s p (suc j) (b + length l) ls (λ i x y. f i (omega arith) (omega arith)) (λ i x y. g i (omega arith) (omega arith)) h.3,
    )

-- one loop more
pub loops_last : (w : List ℕ) (s p j b : ℕ) (ls : List (List Edge)) (l : List Edge) (i c : ℕ) → i ≡ j + length ls → c ≡ b + length (concat ls) → LoopsAt w s p j b ls
    → get_or w (starts_at s p + i) 0 ≡ c → edges_on w s p c (length l) ≡ l → 1 ≤ length l → LoopsAt w s p j b (ls ++ l ∷ [])
unfolding concat flat_map
loops_last w s p j b [] l i c e d h st ed m =
    let x : i ≡ j = omega (arith, e) in
    let y : c ≡ b = omega (arith, d) in
    (ap (λ (z : ℕ). get_or w (starts_at s p + z) 0) (sym x) ∙ st ∙ y, ap (λ (z : ℕ). edges_on w s p z (length l)) (sym y) ∙ ed, m, tt)
loops_last w s p j b (k ∷ ls) l i c e d h st ed m =
    let z = concat_length k ls in
    (h.0, h.1, h.2, loops_last w s p (suc j) (b + length k) ls l i c (omega (arith, e)) (omega (arith, d, z)) h.3 st ed m)

-- ---- where the words of the edges stay

-- the edge at a place is the same where its number and the words of its nodes are
pub edge_same : (w w' : List ℕ) (s p i : ℕ) → get_or w' (order_at s p + i) 0 ≡ get_or w (order_at s p + i) 0
    → ((j : ℕ) → front_u_at s p ≤ j → j < front_u_at s p + 6 * s → get_or w' j 0 ≡ get_or w j 0) → get_or w (order_at s p + i) 0 < 3 * s → edge_on w' s p i ≡ edge_on w s p i
edge_same w w' s p i e same h =
    let n = get_or w (order_at s p + i) 0 in
    same_ends
    (ap (λ (z : ℕ). get_or w' (front_u_at s p + z) 0) e ∙ same (front_u_at s p + n) (omega arith) (omega arith))
    (ap (λ (z : ℕ). get_or w' (front_v_at s p + z) 0) e ∙ same (front_v_at s p + n) (omega arith) (omega arith))

-- the words of the front's edges and of their order are the same
abbrev pub SameEdges : List ℕ → List ℕ → ℕ → ℕ → Type 0
SameEdges w w' s p = (j : ℕ) → front_u_at s p ≤ j → j < done_at s p → get_or w' j 0 ≡ get_or w j 0

module _ (w w' : List ℕ) (s p : ℕ) (same : SameEdges w w' s p) where
  pub number_same : (i : ℕ) → i < 3 * s → get_or w' (order_at s p + i) 0 ≡ get_or w (order_at s p + i) 0
  number_same i l = same (order_at s p + i) (omega arith) (omega arith)

  pub edge_on_same : (i : ℕ) → i < 3 * s → get_or w (order_at s p + i) 0 < 3 * s → edge_on w' s p i ≡ edge_on w s p i
  edge_on_same i l h = edge_same w w' s p i (number_same i l) (λ j a b. same j a (omega arith)) h

  pub edges_on_same : (b n : ℕ) → b + n ≤ 3 * s → ((i : ℕ) → b ≤ i → i < b + n → get_or w (order_at s p + i) 0 < 3 * s) → edges_on w' s p b n ≡ edges_on w s p b n
  edges_on_same b n l h = edges_same w w' s p b n (λ i x y. edge_on_same i (omega arith) (h i x y))

  pub loop_list_kept : (n k r : ℕ) (ls : List (List Edge)) → LoopList w s p n k r ls → LoopList w' s p n k r ls
  loop_list_kept n k r ls o =
      let few = o.few in
      let total = o.total in
      let many = loops_few w s p 0 0 ls o.at in
      record {
        len = o.len;
        total = o.total;
        few = o.few;
        edges = o.edges;
        places = λ i l. subst (λ (z : ℕ). z < 3 * s) (sym (number_same i (omega arith))) (o.places i l);
        at = loops_kept w w' s p 0 0 ls (λ i x y. same (starts_at s p + i) (omega arith) (omega arith)) (λ i x y. edge_on_same i (omega arith) (o.places i (omega arith))) o.at;
      }
