-- The sheet of the first quads, and one quad more.
use Rattle.std.specs.Prelude.{◌≡◌, ◌≢◌, ◌+◌, ◌*◌, ◌<◌, ◌≤◌, ◌∷◌, ◌++◌}
use Rattle.laws.specs.Kit.{refl, sym, ◌∙◌, ap, subst, Bool, cond, none, ℕ, suc, arith, ℕ_discrete, eqb, eq-eqb, ne_eqb, List, [], foldl, append-nil, append_assoc, length, get_or, set, drop, replicate, length-set, length-append, length-map, get_or-set_same, get_or-set_other, Float}
use mathlib.Core.List.{map-append, foldl-append}
use native.Mathlib.Numerals.{add-one}
use lib.ListN.{length-drop}
use lib.Seq.{sets, sets-eq, ext_get_or, take-append_seam, drop-append-add, drop-drop}
use Rattle.definition.specs.Lists.{filter, flat_map, table, numbers, below}
use Rattle.definition.specs.Floats.{◌≺◌}
use Rattle.definition.specs.Metrics.{Metrics, absent, measured}
use Rattle.definition.specs.Call.{quad_at, first_quads, onto}
use Rattle.definition.specs.Account.{measures}
use Rattle.definition.specs.Sheet.{Listed, place, places, counted, counts, values, worse, worst, worst_jacobian, worst_cosine, line, listed_points, listed_quads, all_metrics, sheet}
use Rattle.laws.specs.Lists.{filter_append, flat_map_append, numbers_length, numbers_snoc, table_length}
use Rattle.std.specs.Prelude as code
use Rattle.definition.specs.Sheet.{Value}
use Rattle.sheet_steps.specs.Counting.{counting, counting_none, place_small, counts_at, counts_length, counts_few}
use Rattle.sheet_steps.specs.Values.{worst_in}
use Rattle.sheet.specs.Promise.{listed, Fills}
use Rattle.sheet.specs.Standing.{lines_length}

-- ---- the metrics of the first i quads

table_append : {A B : Type 0} (f : A → B) (xs ys : List A) → table f (xs ++ ys) ≡ table f xs ++ table f ys
unfolding table
table_append f [] ys = refl
table_append f (x ∷ xs) ys = ap (λ l. f x ∷ l) (table_append f xs ys)

abbrev pub rows_to : Listed → ℕ → List Metrics
rows_to l i = all_metrics (listed l.given i l.points l.quads l.out)

quads_snoc : (qs : List ℕ) (i : ℕ) → first_quads (i + 1) qs ≡ first_quads i qs ++ quad_at qs i ∷ []
unfolding first_quads below table
quads_snoc qs i = let e : 0 + i ≡ i = omega arith in rw (add-one, numbers_snoc 0 i, e, table_append)

module _ (l : Listed) where
  rows_snoc : (i : ℕ) → rows_to l (i + 1) ≡ rows_to l i ++ measures (listed_points l) (quad_at l.quads i) ∷ []
  unfolding all_metrics listed_quads listed_points
  rows_snoc i = rw (quads_snoc, map-append)

  pub rows_length : (i : ℕ) → length (rows_to l i) ≡ i
  unfolding all_metrics listed_quads first_quads below
  rows_length i = rw (length-map, table_length, numbers_length)

-- ---- the counts

counted_snoc : (j : ℕ) (ms : List Metrics) (m : Metrics) → counted j (ms ++ m ∷ []) ≡ counted j ms + cond (eqb (place m) j) 1 0
unfolding counted
counted_snoc j ms m = rw (filter_append, length-append, counting, counting_none) (omega arith)

module _ (ms : List Metrics) (m : Metrics) where
  abbrev more : List ℕ
  more = set (counts ms) (place m) (get_or (counts ms) (place m) 0 + 1)

  more_length : length more ≡ 11
  more_length = length-set (counts ms) (place m) (get_or (counts ms) (place m) 0 + 1) ∙ counts_length ms

  at_place : get_or more (place m) 0 ≡ get_or (counts (ms ++ m ∷ [])) (place m) 0
  at_place =
      get_or-set_same (counts ms) (place m) (get_or (counts ms) (place m) 0 + 1) 0 (omega (arith, place_small m, counts_length ms))
      ∙ ap (λ n. n + 1) (counts_at ms (place m) (place_small m))
      ∙ (let e = eq-eqb (place m) (place m) refl in let s = rw e at (counted_snoc (place m) ms m) in omega arith)
      ∙ sym (counts_at (ms ++ m ∷ []) (place m) (place_small m))

  off_place : (j : ℕ) → j < 11 → j ≢ place m → get_or more j 0 ≡ get_or (counts (ms ++ m ∷ [])) j 0
  off_place j h d =
      get_or-set_other (counts ms) (place m) j (get_or (counts ms) (place m) 0 + 1) 0 d
      ∙ counts_at ms j h
      ∙ (let e = ne_eqb (place m) j (λ q. d (sym q)) in let s = rw e at (counted_snoc j ms m) in omega arith)
      ∙ sym (counts_at (ms ++ m ∷ []) j h)

  counts_snoc : more ≡ counts (ms ++ m ∷ [])
  counts_snoc =
      ext_get_or 0 more (counts (ms ++ m ∷ [])) (more_length ∙ sym (counts_length (ms ++ m ∷ [])))
      (λ j k. let h : j < 11 = omega (arith, more_length) in elim (ℕ_discrete j (place m)) [ yes e ↦ subst (λ k. get_or more k 0 ≡ get_or (counts (ms ++ m ∷ [])) k 0) (sym e) at_place | no d ↦ off_place j h d ])

-- ---- the worst

values_append : (f : Float → Float → Float) (i : ℕ) (ms ns : List Metrics) → values f i (ms ++ ns) ≡ values f i ms ++ values f (i + length ms) ns
unfolding values
values_append f i [] ns = ap (λ k. values f k ns) (omega arith)
values_append f i (absent ∷ ms) ns = values_append f (suc i) ms ns ∙ ap (λ k. values f (suc i) ms ++ values f k ns) (omega arith)
values_append f i (measured sj k ∷ ms) ns =
    ap (λ l. (i, f sj k) ∷ l) (values_append f (suc i) ms ns ∙ ap (λ k. values f (suc i) ms ++ values f k ns) (omega arith))

worst_snoc : (than : Float → Float → Bool) (f : Float → Float → Float) (i : ℕ) (ms : List Metrics) (m : Metrics) → length ms ≡ i
    → foldl (worse than) (worst than (values f 0 ms)) (values f i (m ∷ [])) ≡ worst than (values f 0 (ms ++ m ∷ []))
unfolding worst
worst_snoc than f i ms m e = rw (values_append, foldl-append) (ap (λ k. foldl (worse than) (foldl (worse than) none (values f 0 ms)) (values f k (m ∷ []))) (omega arith))

-- ---- the lines

line_length : (m : Metrics) → length (line m) ≡ 2
unfolding line
line_length absent = refl
line_length (measured sj k) = refl

lines_snoc : (ms : List Metrics) (m : Metrics) → flat_map line (ms ++ m ∷ []) ≡ flat_map line ms ++ line m
unfolding flat_map
lines_snoc ms m = flat_map_append line ms (m ∷ []) ∙ ap (λ z. flat_map line ms ++ z) (append-nil (line m))

-- a list more behind those at the front of a slice
onto_more : {A : Type 0} (xs ys old : List A) → length xs + length ys ≤ length old → sets (onto xs old) (length xs) ys ≡ onto (xs ++ ys) old
unfolding onto
onto_more xs ys old h =
    sets-eq ys (xs ++ drop (length xs) old) (length xs) (rw (length-append, length-drop) (omega arith))
    ∙ rw (take-append_seam, drop-append-add, drop-drop, length-append, append_assoc)

-- ---- the invariant

-- the sheet of the first i quads
pub record Filling (l : Listed) (i : ℕ) (cs : List ℕ) (a b : code.Option Value) (now : List Float) : Type 0 where
  pub upto : i ≤ l.count
  pub counts : cs ≡ counts (rows_to l i)
  pub jacobian : worst_in a ≡ worst_jacobian (rows_to l i)
  pub cosine : worst_in b ≡ worst_cosine (rows_to l i)
  pub lines : now ≡ onto (flat_map line (rows_to l i)) l.out

module _ (l : Listed) where
  pub filling_none : Filling l 0 (replicate 11 0) code.None code.None l.out
  unfolding all_metrics listed_quads first_quads below numbers table counts counted places filter worst_in worst_jacobian worst_cosine worst values onto flat_map
  filling_none = record { upto = omega arith; counts = refl; jacobian = refl; cosine = refl; lines = refl }

  module _ (i : ℕ) (cs : List ℕ) (a b : code.Option Value) (now : List Float) (f : Filling l i cs a b now) where
    -- a count stays small
    pub filling_few : (j : ℕ) → j < 11 → get_or cs j 0 ≤ i
    filling_few j h = rw f.counts (omega (arith, counts_few (rows_to l i) j h, rows_length l i))

    pub filling_length : length cs ≡ 11
    filling_length = ap length f.counts ∙ counts_length (rows_to l i)

    pub filling_end : l.count ≤ i → Fills l (record { counts = cs; jacobian = a; cosine = b }) now
    unfolding sheet
    filling_end h =
        let e : i ≡ l.count = omega (arith, f.upto) in
        let r : rows_to l i ≡ all_metrics l = ap (rows_to l) e in
        record {
          sheet = rw (f.counts, f.jacobian, f.cosine, r);
          out = f.lines ∙ ap (λ z. onto (flat_map line z) l.out) r;
        }

    module _ (room : 2 * l.count ≤ length l.out) where
      pub filling_size : length now ≡ length l.out
      unfolding onto
      filling_size = ap length f.lines ∙ rw (length-append, length-drop) (omega (arith, f.upto, lines_length (rows_to l i), rows_length l i))

      module _ (here : i < l.count) (m : Metrics) (m_is : m ≡ measures (listed_points l) (quad_at l.quads i)) where
        abbrev ms : List Metrics
        ms = rows_to l i

        snoc : rows_to l (i + 1) ≡ ms ++ m ∷ []
        snoc = rows_snoc l i ∙ ap (λ z. ms ++ z ∷ []) (sym m_is)

        pub filling_more : (cs' : List ℕ) (a' b' : code.Option Value) (now' : List Float)
            → cs' ≡ set cs (place m) (get_or cs (place m) 0 + 1)
            → worst_in a' ≡ foldl (worse (λ x y. x ≺ y)) (worst_in a) (values (λ sj k. sj) i (m ∷ []))
            → worst_in b' ≡ foldl (worse (λ x y. y ≺ x)) (worst_in b) (values (λ sj k. k) i (m ∷ []))
            → now' ≡ sets now (2 * i) (line m)
            → Filling l (i + 1) cs' a' b' now'
        unfolding worst_jacobian worst_cosine
        filling_more cs' a' b' now' c j k w =
            record {
              upto = omega arith;
              counts = c ∙ rw f.counts (counts_snoc ms m) ∙ ap counts (sym snoc);
              jacobian = j ∙ rw f.jacobian (worst_snoc (λ x y. x ≺ y) (λ sj k. sj) i ms m (rows_length l i)) ∙ ap worst_jacobian (sym snoc);
              cosine = k ∙ rw f.cosine (worst_snoc (λ x y. y ≺ x) (λ sj k. k) i ms m (rows_length l i)) ∙ ap worst_cosine (sym snoc);
              lines =
                  w
                  ∙ ap (λ z. sets z (2 * i) (line m)) f.lines
                  ∙ ap (λ z. sets (onto (flat_map line ms) l.out) z (line m)) (omega (arith, lines_length ms, rows_length l i))
                  ∙ onto_more (flat_map line ms) (line m) l.out (omega (arith, lines_length ms, rows_length l i, line_length m))
                  ∙ ap (λ z. onto z l.out) (sym (lines_snoc ms m) ∙ ap (flat_map line) (sym snoc));
            }
