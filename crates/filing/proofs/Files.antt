-- Triangles as numbers: the order of the numbers is the order of the triangles,
-- so that places sorted by number hold the triangles as they are filed.
use Rattle.std.specs.Ordering.{ordering_then, is_eq, is_lt}
use Rattle.std.specs.Prelude.{◌≡◌, ◌≢◌, ◌+◌, ◌*◌, ◌<◌, ◌∷◌}
use Rattle.laws.specs.Kit.{refl, sym, ◌∙◌, ap, subst, inl, inr, true, false, ℕ, arith, ltb, List, [], map, length, Float}
use Rattle.definition.specs.Lists.{sort, below}
use Rattle.definition.specs.Cells.{Tri, new_tri}
use Rattle.definition.specs.Call.{tri_at, first_points, first_tris, all_of}
use Rattle.definition.specs.Account.{All}
use Rattle.std.specs.declared.cmp.Ordering.{Ordering}
use Rattle.filing.specs.Filing.{earlier, order_numbers, order_points, order_tris, order_lists, rotated, filed_tris, filing_order}
use Rattle.filing.specs.Totals.{less, equal, more}
use Rattle.filing.proofs.Totals.{stand, less_is, equal_is, more_is}
use Rattle.filing.proofs.Sorting.{sort_alike, lists_alike, all_sorted}
use Rattle.filing.proofs.Rotations.{is_rotation}
use Rattle.sorting.specs.Places.{keys, Sorted}
use Rattle.sorting.specs.Rows.{row_map, row_length, all_row}
use Rattle.filing.specs.Places.{key, Small, Filled, FiledPlaces}
use Rattle.filing.specs.Promise.{read}
use Rattle.filing.proofs.Marks.{decides, passes_on, earlier_is, differ}

-- ---- the numbers

-- every node is below 4096
abbrev Low : Tri → Type 0
Low t = (t.n0 < 4096) × (t.n1 < 4096) × (t.n2 < 4096)

key_order : (s t : Tri) → Low s → Low t → order_tris s t ≡ order_numbers (key s) (key t)
unfolding order_tris key
key_order s t h k = elim (stand s.n0 t.n0) [
  | less a e ↦ rw e (sym (less_is _ _ (omega arith)))
  | more a e ↦ rw e (sym (more_is _ _ (omega arith)))
  | equal a e ↦ rw e (elim (stand s.n1 t.n1) [
    | less b f ↦ rw f (sym (less_is _ _ (omega arith)))
    | more b f ↦ rw f (sym (more_is _ _ (omega arith)))
    | equal b f ↦ rw f (elim (stand s.n2 t.n2) [
      | less c g ↦ rw g (sym (less_is _ _ (omega arith)))
      | more c g ↦ rw g (sym (more_is _ _ (omega arith)))
      | equal c g ↦ rw g (sym (equal_is _ _ (omega arith)))
    ])
  ])
]

low_rotated : (t : Tri) → Low t → Low (rotated t)
unfolding new_tri
low_rotated t h = elim (is_rotation t) [
  | inl e ↦ subst Low (sym e) h
  | inr (inl e) ↦ subst Low (sym e) (h.1, h.2, h.0)
  | inr (inr e) ↦ subst Low (sym e) (h.2, h.0, h.1)
]

all_low : (ts : List ℕ) (n : ℕ) → Small ts n → All Low (map rotated (first_tris n ts))
unfolding first_tris below tri_at new_tri
all_low ts n small =
    subst (All Low) (sym (row_map rotated (tri_at ts) 0 n))
    (all_row Low (λ j. rotated (tri_at ts j)) 0 n
    (λ j a b. low_rotated (tri_at ts j) (small (3 * j) (omega arith), small (3 * j + 1) (omega arith), small (3 * j + 2) (omega arith))))

-- a triangle's number has six digits to the base 64
key_small : (t : Tri) → Low t → key t < 68719476736
unfolding key
key_small t h = omega arith

pub small_key : (ts : List ℕ) (n : ℕ) → Small ts n → (j : ℕ) → j < n → key (rotated (tri_at ts j)) < 68719476736
unfolding tri_at new_tri
small_key ts n small j l =
    key_small (rotated (tri_at ts j)) (low_rotated (tri_at ts j) (small (3 * j) (omega arith), small (3 * j + 1) (omega arith), small (3 * j + 2) (omega arith)))

-- the earlier triangle has the lesser number
earlier_less : (s t : Tri) → Low s → Low t → earlier order_tris s t ≡ ltb (key s) (key t)
earlier_less s t h k = ap is_lt (key_order s t h k) ∙ sym (earlier_is (key s) (key t))

-- places filled and sorted hold the triangles as they are filed
pub filed_places : (ts w w₁ w₂ : List ℕ) (n : ℕ) → Small ts n → Filled ts w w₁ n → Sorted w₁ w₂ n → FiledPlaces ts w w₂ n
unfolding filed_tris
filed_places ts w w₁ w₂ n small f s =
    record {
      size = s.size ∙ f.size;
      there = s.there ∙ ap (sort ltb) f.there
          ∙ sym (sort_alike Low key (earlier order_tris) ltb earlier_less (map rotated (first_tris n ts)) (all_low ts n small));
    }

-- places filled and sorted are compared as the filed triangles are
pub places_order : (ts us v w : List ℕ) (n : ℕ) → Small ts n → Small us n → keys v 0 n ≡ map key (filed_tris (first_tris n ts)) → keys w 0 n ≡ map key (filed_tris (first_tris n us))
    → order_lists order_numbers (keys v 0 n) (keys w 0 n) ≡ order_lists order_tris (filed_tris (first_tris n ts)) (filed_tris (first_tris n us))
unfolding filed_tris
places_order ts us v w n small small' e f =
    (λ i. order_lists order_numbers (e i) (f i))
    ∙ sym (lists_alike Low key order_tris order_numbers key_order (filed_tris (first_tris n ts)) (filed_tris (first_tris n us)) (sorted ts small) (sorted us small'))
  where
    sorted : (xs : List ℕ) → Small xs n → All Low (sort (earlier order_tris) (map rotated (first_tris n xs)))
    sorted xs s = all_sorted Low (earlier order_tris) (map rotated (first_tris n xs)) (all_low xs n s)

-- ---- the order of two meshes, part by part

module _ (g c g' c' : ℕ) (ps qs : List Float) (ts us : List ℕ) where
  abbrev whole : Ordering
  whole = filing_order (read g c ps ts) (read g' c' qs us)

  abbrev by_points : ℕ → Ordering
  by_points n = order_lists order_points (first_points g ps) (first_points n qs)

  abbrev by_tris : ℕ → Ordering
  by_tris n = order_lists order_tris (filed_tris (first_tris c ts)) (filed_tris (first_tris n us))

  filing_is : whole ≡ ordering_then (order_numbers g g') (ordering_then (by_points g') (ordering_then (order_numbers c c') (by_tris c')))
  unfolding filing_order first_points first_tris below
  filing_is = rw (row_length, row_length, row_length, row_length)

  -- the point counts decide
  pub given_differ : g ≢ g' → order_numbers g g' ≡ whole
  given_differ d = decides (order_numbers g g') _ (differ g g' d) ∙ sym filing_is

  module _ (same_given : g ≡ g') where
    after_given : ordering_then (by_points g) (ordering_then (order_numbers c c') (by_tris c')) ≡ whole
    after_given =
        ap (λ n. ordering_then (by_points n) (ordering_then (order_numbers c c') (by_tris c'))) same_given
        ∙ ap (λ o. ordering_then o (ordering_then (by_points g') (ordering_then (order_numbers c c') (by_tris c')))) (sym (equal_is g g' same_given)) ∙ sym filing_is

    -- the points decide
    pub points_differ : is_eq (by_points g) ≡ false → by_points g ≡ whole
    points_differ h = decides (by_points g) _ h ∙ after_given

    module _ (same_points : is_eq (by_points g) ≡ true) where
      after_points : ordering_then (order_numbers c c') (by_tris c') ≡ whole
      after_points = passes_on (by_points g) _ same_points ∙ after_given

      -- the triangle counts decide
      pub count_differ : c ≢ c' → order_numbers c c' ≡ whole
      count_differ d = decides (order_numbers c c') _ (differ c c' d) ∙ after_points

      -- the triangles decide
      pub tris_decide : c ≡ c' → by_tris c ≡ whole
      tris_decide e = ap by_tris e ∙ ap (λ o. ordering_then o (by_tris c')) (sym (equal_is c c' e)) ∙ after_points

-- ---- cleared work

pub cleared : (xs ys : List ℕ) → length xs ≡ length ys → all_of 0 xs ≡ all_of 0 ys
unfolding all_of
cleared [] [] e = refl
cleared [] (y ∷ ys) e = absurd (omega arith)
cleared (x ∷ xs) [] e = absurd (omega arith)
cleared (x ∷ xs) (y ∷ ys) e = ap (λ l. 0 ∷ l) (cleared xs ys (omega arith))
