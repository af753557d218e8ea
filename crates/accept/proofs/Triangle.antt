-- A triangle a b c seen from a place: which signs its three cross products p = a x b, q = b x c, r = c x a can have,
use Rattle.laws.specs.Kit.{arith, dec_le}
use Rattle.exact.specs.Near.{Whole, ◌⊕◌, ◌⊖◌, ◌⊗◌}
use Rattle.accept.specs.Signs.{Up, Low, Same, minus, lace, along}
use Rattle.accept.proofs.Signs.{up_up, low_low, low_up, down_up, null, nought, factor, weighed}
use Rattle.accept.specs.Triangle.{Off}

-- ---- by the identity of three vectors alone
module _ (p q r a b c : Whole) (sum : Same (p ⊗ c ⊕ q ⊗ a ⊕ r ⊗ b) (0, 0)) where
  all_up : Up p → Up q → Up r → Up a → Up b → Up c → ⊥
  all_up h k l ha hb hc = let u = up_up p c h hc in let v = up_up q a k ha in let w = up_up r b l hb in omega arith

  -- with one node above the place and the others not, where the place is on the left of the sides at that node,
  -- the third side may only pass through it
  third_side : Low a → Low b → Up c → Up q → Up r → Low p → Same p (0, 0) × Same a (0, 0) × Same b (0, 0)
  third_side ha hb hc k l h =
      let u = low_up p c h hc in
      let v = low_up a q ha k in
      let w = low_up b r hb l in
      (null p c h hc (omega arith), null a q ha k (omega arith), null b r hb l (omega arith))

  all_low : Up p → Up q → Up r → Low a → Low b → Low c → Same a (0, 0) × Same b (0, 0)
  all_low h k l ha hb hc =
      let u = low_up c p hc h in
      let v = low_up a q ha k in
      let w = low_up b r hb l in
      (null a q ha k (omega arith), null b r hb l (omega arith))

  third_up : Up a → Up b → Low c → Up q → Up r → Up p
  third_up ha hb hc k l = elim (dec_le p.0 p.1) [
    | yes h ↦ absurd (let u = low_low p c h hc in let v = up_up q a k ha in let w = up_up r b l hb in omega arith)
    | no h ↦ omega arith
  ]

  -- it can't be on the right of both sides at the node that is apart
  right_low : Low a → Low b → Up c → Up (p ⊕ q ⊕ r) → Up (minus q) → Up (minus r) → ⊥
  right_low ha hb hc d k l =
      let u = up_up p c (omega arith) hc in
      let v = low_up a (minus q) ha k in
      let w = low_up b (minus r) hb l in
      omega arith

  right_up : Up a → Up b → Low c → Up (p ⊕ q ⊕ r) → Up (minus q) → Up (minus r) → ⊥
  right_up ha hb hc d k l =
      let u = low_up c p hc (omega arith) in
      let v = up_up (minus q) a k ha in
      let w = up_up (minus r) b l hb in
      omega arith

-- two nodes at the place's height
flat : (x y x' y' : Whole) → Same y (0, 0) → Same y' (0, 0) → Same (lace x y x' y') (0, 0)
flat x y x' y' h k = let u = nought y x' h in let v = nought y' x k in omega arith

module _ (xa ya xb yb xc yc : Whole) where
  -- the place is not on the left of all sides of a triangle above it, or not above it
  pub none_above : Up (lace xa ya xb yb) → Up (lace xb yb xc yc) → Up (lace xc yc xa ya) → Up ya → Up yb → Up yc → ⊥
  none_above h k l = all_up (lace xa ya xb yb) (lace xb yb xc yc) (lace xc yc xa ya) ya yb yc (weighed xa ya xb yb xc yc) h k l

  pub none_below : Up (lace xa ya xb yb) → Up (lace xb yb xc yc) → Up (lace xc yc xa ya) → Low ya → Low yb → Low yc → ⊥
  none_below h k l ha hb hc =
      let z = all_low (lace xa ya xb yb) (lace xb yb xc yc) (lace xc yc xa ya) ya yb yc (weighed xa ya xb yb xc yc) h k l ha hb hc in
      clash (lace xa ya xb yb) h (flat xa ya xb yb z.0 z.1)
    where
      clash : (u : Whole) → Up u → Same u (0, 0) → ⊥
      clash u h e = omega arith

  -- on the left of the sides at the node that is apart, it is on the left of the third
  pub inside_low : Off xa ya xb yb → Low ya → Low yb → Up yc → Up (lace xb yb xc yc) → Up (lace xc yc xa ya) → Up (lace xa ya xb yb)
  inside_low off ha hb hc k l = elim (dec_le (lace xa ya xb yb).0 (lace xa ya xb yb).1) [
    | yes h ↦
        let z = third_side (lace xa ya xb yb) (lace xb yb xc yc) (lace xc yc xa ya) ya yb yc (weighed xa ya xb yb xc yc) ha hb hc k l h in
        absurd (between z.1 z.2 (off z.0))
    | no h ↦ strict (lace xa ya xb yb) h
  ]
    where
      strict : (u : Whole) → (Low u → ⊥) → Up u
      strict u h = omega arith

      first : (u v w : Whole) → Up (u ⊖ v) → Same v (0, 0) → Same w u → Up w
      first u v w h e f = omega arith

      second : (u v w : Whole) → Up (v ⊖ u) → Same v (0, 0) → Same w (minus u) → Up w
      second u v w h e f = omega arith

      itself : (u : Whole) → Same u u
      itself u = omega arith

      back : (u v : Whole) → Same (minus u ⊗ v) (minus (u ⊗ v))
      back u v = omega arith

      swapped : (u v : Whole) → Same (u ⊗ v) (0, 0) → Same (v ⊗ u) (0, 0)
      swapped u v h = omega arith

      clash : (u v : Whole) → Up (minus u) → Same v (0, 0) → Up (u ⊕ v) → ⊥
      clash u v h e k = omega arith

      between : Same ya (0, 0) → Same yb (0, 0) → Up (along xa ya xb yb) → ⊥
      between ea eb u =
          let b = factor xb yc hc (first (xb ⊗ yc) (xc ⊗ yb) (xb ⊗ yc) k (swapped yb xc (nought yb xc eb)) (itself (xb ⊗ yc))) in
          let a = factor (minus xa) yc hc (second (xa ⊗ yc) (xc ⊗ ya) (minus xa ⊗ yc) l (swapped ya xc (nought ya xc ea)) (back xa yc)) in
          clash (xa ⊗ xb) (ya ⊗ yb) (down_up xa xb a b) (nought ya yb ea) u

  pub inside_high : Up ya → Up yb → Low yc → Up (lace xb yb xc yc) → Up (lace xc yc xa ya) → Up (lace xa ya xb yb)
  inside_high ha hb hc k l = third_up (lace xa ya xb yb) (lace xb yb xc yc) (lace xc yc xa ya) ya yb yc (weighed xa ya xb yb xc yc) ha hb hc k l

  -- a place is not on the right of both sides at the node apart of a triangle that runs counterclockwise
  pub outside_low : Up (lace xa ya xb yb ⊕ lace xb yb xc yc ⊕ lace xc yc xa ya) → Low ya → Low yb → Up yc → Up (minus (lace xb yb xc yc)) → Up (minus (lace xc yc xa ya)) → ⊥
  outside_low d ha hb hc = right_low (lace xa ya xb yb) (lace xb yb xc yc) (lace xc yc xa ya) ya yb yc (weighed xa ya xb yb xc yc) ha hb hc d

  pub outside_high : Up (lace xa ya xb yb ⊕ lace xb yb xc yc ⊕ lace xc yc xa ya) → Up ya → Up yb → Low yc → Up (minus (lace xb yb xc yc)) → Up (minus (lace xc yc xa ya)) → ⊥
  outside_high d ha hb hc = right_up (lace xa ya xb yb) (lace xb yb xc yc) (lace xc yc xa ya) ya yb yc (weighed xa ya xb yb xc yc) ha hb hc d
