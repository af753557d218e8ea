-- The number of a list's first refusal, and what the call is by it.
use Rattle.std.specs.Prelude.{◌≡◌, ◌≢◌, ◌||◌, ◌+◌, ◌*◌, ◌<◌}
use Rattle.laws.specs.Kit.{sym, ◌∙◌, ap, Bool, false, cond, none, ℕ, arith, ltb, leb, ltb-false, leb-false, List, length, get_or}
use Rattle.definition.specs.Lists.{any, find, flat_map}
use Rattle.definition.specs.Cells.{Quad, quad_nodes}
use Rattle.definition.specs.Call.{quad_at, first_quads, onto, most_slots, most_capacity}
use Rattle.definition.specs.Sheet.{Listed, filed, refusal, listed_quads, over_limit, too_short, unknown_corner, far_point, conditions, refused, sheet, line, all_metrics, call}
use Rattle.laws.specs.Bools.{or_none}
use Rattle.laws.specs.Tables.{none_below, below_none}
use Rattle.refusals.specs.Refusals.{number_of, turn, no_turn, not_taken, some_found}
use Rattle.sheet.specs.Promise.{Corners, Readable}

-- ---- 5

-- a corner of the quad is not below n
abbrev pub unknown : ℕ → Quad → Bool
unknown n q = any (λ v. leb n v) (quad_nodes q)

-- of quad i of a slice
unfoldable pub unknown_in : ℕ → List ℕ → ℕ → Bool
unknown_in n qs i = unknown n (quad_at qs i)

-- whatever the other slices hold
abbrev pub Unknown : ℕ → ℕ → List ℕ → Bool → Type 0
Unknown given count qs r = (l : Listed) → l.given ≡ given → l.count ≡ count → l.quads ≡ qs → r ≡ unknown_corner l

module _ (l : Listed) where
  pub corners_pass : ((i : ℕ) → i < l.count → unknown_in l.given l.quads i ≡ false) → unknown_corner l ≡ false
  unfolding unknown_corner unknown_in listed_quads first_quads
  corners_pass h = none_below (unknown l.given) (quad_at l.quads) l.count h

  pub corners_each : unknown_corner l ≡ false → (i : ℕ) → i < l.count → unknown_in l.given l.quads i ≡ false
  unfolding unknown_corner unknown_in listed_quads first_quads
  corners_each e = below_none (unknown l.given) (quad_at l.quads) l.count e

-- all four are below n
pub known : (n : ℕ) (qs : List ℕ) (i : ℕ) → unknown_in n qs i ≡ false → Corners n qs i
unfolding unknown_in any quad_nodes quad_at
known n qs i e =
    let h0 = or_none (leb n (get_or qs (8 * i) 0)) _ e in
    let h1 = or_none (leb n (get_or qs (8 * i + 1) 0)) _ h0.1 in
    let h2 = or_none (leb n (get_or qs (8 * i + 2) 0)) _ h1.1 in
    let h3 = or_none (leb n (get_or qs (8 * i + 3) 0)) false h2.1 in
    record { c0 = leb-false _ _ h0.0; c1 = leb-false _ _ h1.0; c2 = leb-false _ _ h2.0; c3 = leb-false _ _ h3.0 }

-- ---- the first

-- none of the conditions holds
pub record Clear (l : Listed) : Type 0 where
  pub c1 : over_limit l ≡ false
  pub c4 : too_short l ≡ false
  pub c5 : unknown_corner l ≡ false
  pub c7 : far_point l ≡ false

module _ (l : Listed) where
  -- one condition after the other
  pub in_turn : number_of (refused l) ≡ cond (over_limit l) 1 (cond (too_short l) 4 (cond (unknown_corner l) 5 (cond (far_point l) 7 0)))
  unfolding refused conditions
  in_turn = simp (turn, no_turn)

  pub clear : number_of (refused l) ≡ 0 → Clear l
  clear e =
      let h1 = not_taken (over_limit l) 1 _ (omega arith) (sym in_turn ∙ e) in
      let h4 = not_taken (too_short l) 4 _ (omega arith) h1.1 in
      let h5 = not_taken (unknown_corner l) 5 _ (omega arith) h4.1 in
      let h7 = not_taken (far_point l) 7 0 (omega arith) h5.1 in
      record { c1 = h1.0; c4 = h4.0; c5 = h5.0; c7 = h7.0 }

  pub none_holds : Clear l → refused l ≡ none
  unfolding refused find conditions
  none_holds h = rw (h.c1, h.c4, h.c5, h.c7)

  -- what the rows need
  pub readable : Clear l → Readable l
  unfolding over_limit too_short most_slots
  readable h =
      let f = or_none (ltb 16384 l.count) (ltb most_capacity l.given) h.c1 in
      let g = or_none (ltb (length l.points) (3 * l.given) || ltb (length l.quads) (8 * l.count)) (ltb (length l.out) (2 * l.count)) h.c4 in
      let k = or_none (ltb (length l.points) (3 * l.given)) (ltb (length l.quads) (8 * l.count)) g.0 in
      record {
        points = ltb-false _ _ k.0;
        quads = ltb-false _ _ k.1;
        out = ltb-false _ _ g.1;
        few = ltb-false _ _ f.0;
        corners = λ i a. known l.given l.quads i (corners_each l h.c5 i a);
      }

  -- ---- the call

  pub call_filed : Clear l → call l ≡ record { answer = filed (sheet (all_metrics l)); out = onto (flat_map line (all_metrics l)) l.out }
  unfolding call
  call_filed h = rw (none_holds h, call)

-- a refusal is the whole answer
pub call_refused : (l : Listed) (k : ℕ) → k ≡ number_of (refused l) → k ≢ 0 → call l ≡ record { answer = refusal k; out = l.out }
unfolding call number_of
call_refused l k e h =
    let f = some_found (refused l) (λ q. h (e ∙ q)) in
    let g : call l ≡ record { answer = refusal (number_of (refused l)); out = l.out } = rw (f.1, call) in
    g ∙ ap (λ (n : ℕ). record { answer = refusal n; out = l.out }) (sym e)
