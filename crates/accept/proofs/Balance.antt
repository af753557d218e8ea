-- Where the sides balance, every weight of sides has one sum over the given triangles and over the cells,
use Rattle.std.specs.Prelude.{◌≡◌, ◌&&◌, ◌+◌, ◌<◌, ◌∷◌, ◌++◌}
use Rattle.laws.specs.Kit.{refl, sym, ◌∙◌, ap, subst, inl, inr, Bool, true, false, ℕ, arith, eqb, List, [], map, length}
use Rattle.definition.specs.Lists.{filter, flat_map}
use Rattle.definition.specs.Plane.{Edge}
use Rattle.definition.specs.Cells.{Tri, Quad, same_edge}
use Rattle.definition.specs.Account.{All, Rearranged, sum}
use Rattle.laws.specs.Bools.{which}
use Rattle.laws.specs.Lists.{In, filter_yes, in_filter}
use Rattle.laws.specs.Cells.{same_self, same_is}
use Rattle.account.proofs.Rearranged.{number, number_append, number_cons, not_none}
use Rattle.account.proofs.Weights.{total, total_append, same_total}
use Rattle.accept.specs.Accept.{Judged, tri_sides, quad_sides, reversed, given_sides, cell_sides, walked, times, Level}
use Rattle.accept.specs.Balance.{Measured, back}

-- ---- what holds of every element
-- in a list of two parts, and what holds of an element by one fact of it, by two, by three
module _ {A : Type 0} where
  pub split : (P : A → Type 0) (xs ys : List A) → All P (xs ++ ys) → All P xs × All P ys
  split P [] ys h = (tt, h)
  split P (x ∷ xs) ys h = let r = split P xs ys h.1 in ((h.0, r.0), r.1)

  pub all_one : (P : A → Type 0) {Q : A → Type 0} → ((x : A) → P x → Q x) → (xs : List A) → All P xs → All Q xs
  all_one P f [] h = tt
  all_one P f (x ∷ xs) h = (f x h.0, all_one P f xs h.1)

  pub all_two : (P Q : A → Type 0) {R : A → Type 0} → ((x : A) → P x → Q x → R x) → (xs : List A) → All P xs → All Q xs → All R xs
  all_two P Q f [] h k = tt
  all_two P Q f (x ∷ xs) h k = (f x h.0 k.0, all_two P Q f xs h.1 k.1)

  pub all_three : (P Q R : A → Type 0) {S : A → Type 0} → ((x : A) → P x → Q x → R x → S x) → (xs : List A) → All P xs → All Q xs → All R xs → All S xs
  all_three P Q R f [] h k l = tt
  all_three P Q R f (x ∷ xs) h k l = (f x h.0 k.0 l.0, all_three P Q R f xs h.1 k.1 l.1)

pub all_flat : {A : Type 0} (P : Edge → Type 0) (f : A → List Edge) (xs : List A) → All P (flat_map f xs) → All (λ x. All P (f x)) xs
unfolding flat_map
all_flat P f [] h = tt
all_flat P f (x ∷ xs) h = let r = split P (f x) (flat_map f xs) h in (r.0, all_flat P f xs r.1)

-- ---- lists in which every edge is as often are rearranged
-- the lists before and after an element
parted : {A : Type 0} (x : A) (ys : List A) → In x ys → (l : List A) × (r : List A) × (ys ≡ l ++ x ∷ r)
parted {A = A} x [] x'' = elim x'' [ ]
parted x (y ∷ ys) (inl e) = ([], ys, ap (λ z. z ∷ ys) (sym e))
parted x (y ∷ ys) (inr i) = let r = parted x ys i in (y ∷ r.0, r.1, ap (λ l. y ∷ l) r.2)

once : (e : Edge) (xs : List Edge) → 0 < times e (e ∷ xs)
unfolding times
once e xs = subst (λ l. 0 < length l) (sym (filter_yes (same_edge e) e xs (same_self e))) (omega arith)

-- an edge that is counted is there
pub there : (e : Edge) (xs : List Edge) → 0 < times e xs → In e xs
unfolding times
there e xs h =
    let r = not_none (filter (same_edge e) xs) h in
    let i = in_filter (same_edge e) xs r.1 in
    subst (λ z. In z xs) (sym (same_is e r.0 i.1)) i.0

pub counted : (xs ys : List Edge) → ((e : Edge) → times e xs ≡ times e ys) → Rearranged xs ys
unfolding times filter
counted [] [] h p = refl
counted [] (y ∷ ys) h p = absurd (let n = h y in let k = once y ys in omega arith)
counted (x ∷ xs) ys h p =
    let r = parted x ys (there x ys (let n = h x in let k = once x xs in omega arith)) in
    let before = r.0 in
    let after = r.1 in
    let less : (p : Edge → Bool) → number p ys ≡ number p (x ∷ []) + number p (before ++ after) =
    λ p. ap (number p) r.2 ∙ omega (arith, number_append p before (x ∷ after), number_cons p x after, number_append p before after) in
    let rest = counted xs (before ++ after) (λ e. omega (arith, h e, number_cons (same_edge e) x xs, less (same_edge e))) p in
    omega (arith, number_cons p x xs, less p, rest)

-- ---- the sides the other way
flipped : (e s : Edge) → same_edge e (reversed s) ≡ same_edge (reversed e) s
unfolding same_edge
flipped e s = swap (eqb e.0 s.1) (eqb e.1 s.0)
  where
    swap : (a b : Bool) → (a && b) ≡ (b && a)
    swap true true = refl
    swap true false = refl
    swap false true = refl
    swap false false = refl

times_reversed : (e : Edge) (ss : List Edge) → times e (map reversed ss) ≡ times (reversed e) ss
unfolding times filter
times_reversed e [] = refl
times_reversed e (s ∷ ss) = elim (which (same_edge (reversed e) s)) [
  | inl f ↦ rw (flipped e s, f) (omega (arith, times_reversed e ss))
  | inr f ↦ rw (flipped e s, f) (times_reversed e ss)
]

-- a side is walked as often as the given triangles have it, and the cells the other way
pub times_walked : (j : Judged) (e : Edge) → times e (walked j) ≡ times e (given_sides j) + times (reversed e) (cell_sides j)
unfolding walked times
times_walked j e = number_append (same_edge e) (given_sides j) (map reversed (cell_sides j)) ∙ ap (λ n. number (same_edge e) (given_sides j) + n) (times_reversed e (cell_sides j))

total_reversed : (w : Edge → ℕ) (ss : List Edge) → total w (map reversed ss) ≡ total (back w) ss
unfolding sum
total_reversed w [] = refl
total_reversed w (s ∷ ss) = omega (arith, total_reversed w ss)

measured : {A : Type 0} (w : Edge → ℕ) (sides : A → List Edge) (h : A → ℕ) (xs : List A) → Measured w sides h xs
    → total w (flat_map sides xs) ≡ total h xs + total (back w) (flat_map sides xs)
unfolding flat_map sum
measured w sides h [] m = refl
measured w sides h (x ∷ xs) m =
    omega (arith, m.0, measured w sides h xs m.1, total_append w (sides x) (flat_map sides xs), total_append (back w) (sides x) (flat_map sides xs))

module _ (j : Judged) (level : (u v : ℕ) → Level j u v) where
  exchanged : (w : Edge → ℕ) → total w (walked j) ≡ total (back w) (walked j)
  exchanged w = same_total w (walked j) (map reversed (walked j)) (counted (walked j) (map reversed (walked j)) (λ e. level e.0 e.1 ∙ sym (times_reversed e (walked j)))) ∙ total_reversed w (walked j)

  -- the measures of the cells add up to those of the given triangles
  pub conserved : (w : Edge → ℕ) (g l : Tri → ℕ) (q : Quad → ℕ) → Measured w tri_sides g j.tris → Measured w quad_sides q j.quads → Measured w tri_sides l j.left
      → total q j.quads + total l j.left ≡ total g j.tris
  unfolding walked given_sides cell_sides
  conserved w g l q mg mq ml =
      let G = flat_map tri_sides j.tris in
      let Q = flat_map quad_sides j.quads in
      let L = flat_map tri_sides j.left in
      let forth = total_append w G (map reversed (Q ++ L)) ∙ ap (λ n. total w G + n) (total_reversed w (Q ++ L) ∙ total_append (back w) Q L) in
      let there_and_back = total_append (back w) G (map reversed (Q ++ L)) ∙ ap (λ n. total (back w) G + n) (total_reversed (back w) (Q ++ L) ∙ total_append w Q L) in
      omega (arith, exchanged w, forth, there_and_back, measured w tri_sides g j.tris mg, measured w quad_sides q j.quads mq, measured w tri_sides l j.left ml)
