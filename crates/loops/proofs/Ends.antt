-- The ends of an edge, and the next edge at either.
use Rattle.std.specs.Prelude.{◌≡◌, ◌≢◌, ◌+◌, ◌*◌, ◌<◌}
use Rattle.laws.specs.Kit.{sym, ◌∙◌, ap, true, ℕ, suc, arith, eq-eqb, ne_eqb, eqb-true, List, length, get_or}
use Rattle.definition.specs.Plane.{Edge}
use Rattle.definition.specs.Cells.{touches}
use Rattle.definition.specs.Loops.{far_end}
use Rattle.cells.specs.Layout.{front_u_at, front_v_at, front_links_at}
use Rattle.edges.specs.Parts.{edge_of, edge_in_range}
use Rattle.loops.specs.Trace.{seek, AtNode, FarTo}

second_touched : (e : Edge) (v : ℕ) → touches e v ≡ true → e.0 ≢ v → e.1 ≡ v
unfolding touches
second_touched e v h d = eqb-true e.1 v (rw (ne_eqb e.0 v d) at h)

far_first : (e : Edge) (v : ℕ) → e.0 ≡ v → far_end e v ≡ e.1
unfolding far_end
far_first e v h = rw (eq-eqb e.0 v h)

far_second : (e : Edge) (v : ℕ) → e.0 ≢ v → far_end e v ≡ e.0
unfolding far_end
far_second e v h = rw (ne_eqb e.0 v h)

module _ {w : List ℕ} {s p n k c l v : ℕ} {es : List Edge} (a : AtNode w s p n k c l v es) where
  pub first_is : get_or w (front_u_at s p + c) 0 ≡ (edge_of es c).0
  first_is = ap (λ (e : Edge). e.0) (a.ready.front.at.each c (omega (arith, a.sum)))

  pub second_is : get_or w (front_v_at s p + c) 0 ≡ (edge_of es c).1
  second_is = ap (λ (e : Edge). e.1) (a.ready.front.at.each c (omega (arith, a.sum)))

  inside : c < length es
  inside = omega (arith, a.sum, a.ready.front.at.len)

  module _ {u : ℕ} (q : u ≡ get_or w (front_u_at s p + c) 0) where
    pub far_by_first : u ≡ v → {r : ℕ} → r ≡ get_or w (front_v_at s p + c) 0 → FarTo n c v r es
    far_by_first h {r} z =
        let i : (edge_of es c).0 ≡ v = sym first_is ∙ sym q ∙ h in
        let k : r ≡ (edge_of es c).1 = z ∙ second_is in
        record { is = k ∙ sym (far_first (edge_of es c) v i); known = omega (arith, (edge_in_range n es c a.ready.front.edges inside).1, k) }

    pub far_by_second : u ≢ v → FarTo n c v u es
    far_by_second h =
        let i : u ≡ (edge_of es c).0 = q ∙ first_is in
        record {
          is = i ∙ sym (far_second (edge_of es c) v (λ z. h (i ∙ z)));
          known = omega (arith, edge_in_range n es c a.ready.front.edges inside, i);
        }

    pub next_by_first : u ≡ v → {r : ℕ} → r ≡ get_or w (front_links_at s p + 2 * c) 0 → r ≡ seek es v (suc c) l
    next_by_first h z =
        let i : (edge_of es c).0 ≡ v = sym first_is ∙ sym q ∙ h in
        z ∙ a.ready.lists.firsts c l (omega arith) (omega (arith, a.sum)) ∙ ap (λ (x : ℕ). seek es x (suc c) l) i

    pub next_by_second : u ≢ v → {r : ℕ} → r ≡ get_or w (front_links_at s p + (2 * c + 1)) 0 → r ≡ seek es v (suc c) l
    next_by_second h z =
        let i : (edge_of es c).1 ≡ v = second_touched (edge_of es c) v a.end (λ y. h (q ∙ first_is ∙ y)) in
        z ∙ a.ready.lists.seconds c l (omega arith) (omega (arith, a.sum)) ∙ ap (λ (x : ℕ). seek es x (suc c) l) i
