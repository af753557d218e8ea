-- `free`: `touched` of the quad's nodes is above every birth, so no edge at them stands;
-- every other edge stands as before.
use Rattle.std.specs.Prelude.{◌≡◌, ◌≢◌, ◌&&◌, ◌||◌, ◌+◌, ◌*◌, ◌^◌, ◌<◌, ◌≤◌, ◌∷◌}
use Rattle.laws.specs.Kit.{refl, sym, ◌∙◌, ap, inl, inr, Bool, true, false, not, cond, ℕ, arith, eqb, eqb-true, eqb-false, List, [], length, get_or, set, length-set}
use mathlib.Core.Bool.{and-true, and-false}
use Rattle.definition.specs.Plane.{Edge}
use Rattle.definition.specs.Lists.{any, filter, contains}
use Rattle.definition.specs.Cells.{Quad, quad_nodes, same_edge, has_edge_in}
use Rattle.definition.specs.Front.{clear_of, freed}
use Rattle.laws.specs.Bools.{which}
use Rattle.laws.specs.Cells.{same_is}
use Rattle.laws.specs.Frames.{on, off}
use Rattle.blocked_edges.specs.Records.{birth, touched, size, Kept, place, IsEdge, stands}
use Rattle.blocked_edges.specs.Blocks.{Blocks}
use Rattle.blocked_edges.proofs.Edges.{place_below}
use Rattle.blocked_edges.proofs.Framing.{lists_same, stands_same}
use Rattle.blocked_edges.proofs.Standing.{stands_first, stands_second}

-- ---- t stored at each of the nodes

abbrev pub stampedW : List ℕ → ℕ → ℕ → List ℕ → List ℕ
stampedW w at t [] = w
stampedW w at t (m ∷ ms) = stampedW (set w (at + m) t) at t ms

abbrev pub Below : ℕ → List ℕ → Type 0
Below p [] = Unit {0}
Below p (m ∷ ms) = (m < p) × Below p ms

stamped_len : (w : List ℕ) (at t : ℕ) (ms : List ℕ) → length (stampedW w at t ms) ≡ length w
stamped_len w at t [] = refl
stamped_len w at t (m ∷ ms) = stamped_len (set w (at + m) t) at t ms ∙ length-set w (at + m) t

-- other numbers stay
stamped_off : (w : List ℕ) (at t p j : ℕ) (ms : List ℕ) → Below p ms → ((x : ℕ) → x < p → j ≢ at + x) → get_or (stampedW w at t ms) j 0 ≡ get_or w j 0
stamped_off w at t p j [] h d = refl
stamped_off w at t p j (m ∷ ms) h d = stamped_off (set w (at + m) t) at t p j ms h.1 d ∙ off w (at + m) t j (d m h.0)

-- the numbers of other nodes stay
stamped_not : (w : List ℕ) (at t x : ℕ) (ms : List ℕ) → contains ms x ≡ false → get_or (stampedW w at t ms) (at + x) 0 ≡ get_or w (at + x) 0
unfolding contains any
stamped_not w at t x [] h = refl
stamped_not w at t x (m ∷ ms) h = go (eqb x m) refl h (stamped_not (set w (at + m) t) at t x ms)
  where
    go : (s : Bool) → eqb x m ≡ s → (s || contains ms x) ≡ false → (contains ms x ≡ false → get_or (stampedW (set w (at + m) t) at t ms) (at + x) 0 ≡ get_or (set w (at + m) t) (at + x) 0)
        → get_or (stampedW (set w (at + m) t) at t ms) (at + x) 0 ≡ get_or w (at + x) 0
    go true e f r = absurd (let z : ◌≡◌ {A = ℕ} 0 1 = cc in omega arith)
    go false e f r = let d = eqb-false x m e in r f ∙ off w (at + m) t (at + x) (omega arith)

stamped_on : (w : List ℕ) (at t p x : ℕ) (ms : List ℕ) → at + p ≤ length w → x < p → contains ms x ≡ true → get_or (stampedW w at t ms) (at + x) 0 ≡ t
unfolding contains any
stamped_on w at t p x [] l h c = absurd (let z : ◌≡◌ {A = ℕ} 0 1 = cc in omega arith)
stamped_on w at t p x (m ∷ ms) l h c = elim (which (contains ms x)) [
  | inl e ↦ let k = length-set w (at + m) t in stamped_on (set w (at + m) t) at t p x ms (omega arith) h e
  | inr e ↦ go (eqb x m) refl c e
]
  where
    go : (s : Bool) → eqb x m ≡ s → (s || contains ms x) ≡ true → contains ms x ≡ false → get_or (stampedW (set w (at + m) t) at t ms) (at + x) 0 ≡ t
    go true e f g = stamped_not (set w (at + m) t) at t x ms g ∙ ap (λ (y : ℕ). get_or (set w (at + m) t) (at + y) 0) (eqb-true x m e) ∙ on w (at + m) t (let z = eqb-true x m e in omega arith)
    go false e f g = absurd (let z : ◌≡◌ {A = ℕ} 0 1 = cc in omega arith)

-- ---- the definition's list: an edge is left where it was and the quad does not touch it

freed_has : (q : Quad) (e : Edge) (bl : List Edge) → has_edge_in (freed q bl) e ≡ (has_edge_in bl e && clear_of q e)
unfolding has_edge_in any freed filter
freed_has q e [] = refl
freed_has q e (x ∷ bl) = go (same_edge e x) (clear_of q x) refl refl (freed_has q e bl)
  where
    go : (s t : Bool) → same_edge e x ≡ s → clear_of q x ≡ t → has_edge_in (freed q bl) e ≡ (has_edge_in bl e && clear_of q e)
        → has_edge_in (cond t (x ∷ freed q bl) (freed q bl)) e ≡ ((s || has_edge_in bl e) && clear_of q e)
    go true true a c r = rw a (sym (ap (clear_of q) (same_is e x a) ∙ c))
    go true false a c r = let z : clear_of q e ≡ false = ap (clear_of q) (same_is e x a) ∙ c in rw (r, z) (and-false (has_edge_in bl e))
    go false true a c r = rw a r
    go false false a c r = r

-- ---- the area

-- t is what was stored
module _ (w w' : List ℕ) (b n p k t : ℕ) (q : Quad) (ever bl : List Edge) (h : Blocks w b n p k ever bl) (below : Below p (quad_nodes q))
    (is : w' ≡ stampedW w (b + 3 * n + p) t (quad_nodes q)) (late : t ≡ k + 1) where
  len : length w' ≡ length w
  len = ap (λ (x : List ℕ). length x) is ∙ stamped_len w (b + 3 * n + p) t (quad_nodes q)

  low : (j : ℕ) → j < b + 3 * n + p → get_or w' j 0 ≡ get_or w j 0
  low j l = ap (λ (x : List ℕ). get_or x j 0) is ∙ stamped_off w (b + 3 * n + p) t p j (quad_nodes q) below (λ x m. omega arith)

  high : (j : ℕ) → b + size n p ≤ j → get_or w' j 0 ≡ get_or w j 0
  high j l = ap (λ (x : List ℕ). get_or x j 0) is ∙ stamped_off w (b + 3 * n + p) t p j (quad_nodes q) below (λ x m. omega arith)

  touched_new : (x : ℕ) → x < p → contains (quad_nodes q) x ≡ true → touched w' b n p x ≡ k + 1
  touched_new x l c =
      let f = h.lists.room.fits in
      ap (λ (y : List ℕ). touched y b n p x) is ∙ stamped_on w (b + 3 * n + p) t p x (quad_nodes q) (omega arith) l c ∙ late

  touched_old : (x : ℕ) → contains (quad_nodes q) x ≡ false → touched w' b n p x ≡ touched w b n p x
  touched_old x c = ap (λ (y : List ℕ). touched y b n p x) is ∙ stamped_not w (b + 3 * n + p) t x (quad_nodes q) c

  born : (i : ℕ) → i < length ever → birth w' b n i ≡ birth w b n i
  born i l = let c = h.lists.count in low (b + n + i) (omega arith)

  -- a node of the quad is touched after every birth
  later : (e : Edge) (x : ℕ) → x < p → contains (quad_nodes q) x ≡ true → place n e ever < n → birth w' b n (place n e ever) < touched w' b n p x
  later e x l c m =
      let i = place_below n e ever m in
      let z = touched_new x l c in
      let y = born (place n e ever) i in
      let u = h.births (place n e ever) i in
      omega arith

  stands_free : (e : Edge) → IsEdge p e → (stands w b n p ever e && clear_of q e) ≡ stands w' b n p ever e
  unfolding clear_of
  stands_free e ie = go (contains (quad_nodes q) e.0) (contains (quad_nodes q) e.1) refl refl
    where
      go : (s t : Bool) → contains (quad_nodes q) e.0 ≡ s → contains (quad_nodes q) e.1 ≡ t → (stands w b n p ever e && (not s && not t)) ≡ stands w' b n p ever e
      go true t a c =
          let o = ie.order in
          let m = ie.below in
          and-false (stands w b n p ever e) ∙ sym (stands_first w' b n p ever e (place n e ever) refl (later e e.0 (omega arith) a))
      go false true a c = and-false (stands w b n p ever e) ∙ sym (stands_second w' b n p ever e (place n e ever) refl (later e e.1 ie.below c))
      go false false a c =
          and-true (stands w b n p ever e)
          ∙ sym (stands_same w w' b n p ever ever e refl (λ l. born (place n e ever) (place_below n e ever l)) (touched_old e.0 a) (touched_old e.1 c))

  touches_free : (x : ℕ) → x < p → touched w' b n p x ≤ k + 1
  touches_free x l = elim (which (contains (quad_nodes q) x)) [
    | inl c ↦ let z = touched_new x l c in omega arith
    | inr c ↦ let z = touched_old x c in let y = h.touches x l in omega arith
  ]

  pub free_kept : Kept w w' b (size n p)
  free_kept = record { len = len; low = λ j l. low j (omega arith); high = high }

  pub free_to : k + 1 < 2 ^ 32 → Blocks w' b n p (k + 1) ever (freed q bl)
  free_to m =
      let c = h.lists.count in
      record {
        lists = lists_same w w' b n p ever (record {
          len = len;
          others = λ i l. low (b + i) (omega arith);
          nexts = λ i l. low (b + 2 * n + i) (omega arith);
          heads = λ x l. low (b + 3 * n + x) (omega arith);
        }) h.lists;
        quads = m;
        births = λ i l. let y = born i l in let z = h.births i l in omega arith;
        touches = touches_free;
        blocked = λ e ie. freed_has q e bl ∙ ap (λ (t : Bool). t && clear_of q e) (h.blocked e ie) ∙ stands_free e ie;
      }
