-- What is promised of the filing order: it is a total order on the classes of meshes that are the
use Rattle.std.specs.Ordering.{ordering_then, ordering_reverse}
use Rattle.std.specs.Prelude.{◌≡◌, ◌∷◌}
use Rattle.laws.specs.Kit.{refl, sym, ◌∙◌, ap, subst, true, false, ℕ, suc, arith, ℤ, List, [], map, length, length-map, Float, nan, fin, inf, of_bits, eq, lt, le}
use Rattle.definition.specs.Lists.{filter, sort, below}
use Rattle.definition.specs.Floats.{◌≼◌, abs, 8·0, f64}
use Rattle.definition.specs.Plane.{Node}
use Rattle.definition.specs.Cells.{Tri}
use Rattle.definition.specs.Call.{point_at, first_points, most_coordinate}
use Rattle.definition.specs.Account.{All}
use Rattle.refusals.specs.Passed.{near}
use Rattle.account.proofs.Rearranged.{same_length, sort_same}
use Rattle.sorting.specs.Ascending.{sorts_same}
use Rattle.sorting.specs.Rows.{all_row}
use Rattle.std.specs.declared.cmp.Ordering.{Ordering}
use Rattle.std.specs.declared.cmp.Ordering.TheVariants.{Less, Equal, Greater}
use Rattle.filing.specs.Filing.{Filed}
use Rattle.filing.specs.Filing.{order_numbers, order_floats, order_lists, order_points, order_tris, earlier, rotated, filed_tris, Input, filing_order, Mesh, input, asked, lent, filed, call}
use Rattle.filing.specs.Totals.{Chained, Total, Any}
use Rattle.filing.proofs.Totals.{numbers, lists, along, in_turn, numbers_same, equal_is}
use Rattle.filing.specs.Coordinates.{Numeric}
use Rattle.filing.proofs.Coordinates.{floats, floats_same, same_floats}
use Rattle.filing.proofs.Sorting.{strict}
use Rattle.filing.proofs.Refusals.{clear, both_filed}
use Rattle.filing.specs.Theorems.{Accepted, Agree, Alike, Numbered, Placed}

points_total : Total Placed order_points
unfolding order_points
points_total =
    in_turn Placed (λ p q. order_floats p.x q.x) (λ p q. order_floats p.y q.y)
    (along Placed Numeric (λ p. p.x) order_floats (λ p h. h.0) floats)
    (along Placed Numeric (λ p. p.y) order_floats (λ p h. h.1) floats)

pub tris_total : Total {A = Tri} Any order_tris
unfolding order_tris
tris_total =
    in_turn Any (λ s t. order_numbers s.n0 t.n0) (λ s t. ordering_then (order_numbers s.n1 t.n1) (order_numbers s.n2 t.n2))
    (along Any Any (λ s. s.n0) order_numbers (λ s h. tt) numbers)
    (in_turn Any (λ s t. order_numbers s.n1 t.n1) (λ s t. order_numbers s.n2 t.n2)
    (along Any Any (λ s. s.n1) order_numbers (λ s h. tt) numbers)
    (along Any Any (λ s. s.n2) order_numbers (λ s h. tt) numbers))

-- ---- the same
then_same : (p q : Ordering) → ordering_then p q ≡ Equal → (p ≡ Equal) × (q ≡ Equal)
then_same Less q h = absurd (let z : ◌≡◌ {A = ℕ} 0 1 = cc in omega arith)
then_same Equal q h = (refl, h)
then_same Greater q h = absurd (let z : ◌≡◌ {A = ℕ} 0 1 = cc in omega arith)

same_then : (p q : Ordering) → p ≡ Equal → q ≡ Equal → ordering_then p q ≡ Equal
same_then p q e f = ap (λ o. ordering_then o q) e ∙ f

-- two triangles of the order are the same only where they are equal
pub tris_same : (s t : Tri) → order_tris s t ≡ Equal → s ≡ t
unfolding order_tris
tris_same s t h =
    let f = then_same (order_numbers s.n0 t.n0) _ h in
    let g = then_same (order_numbers s.n1 t.n1) (order_numbers s.n2 t.n2) f.1 in
    let e0 = numbers_same s.n0 t.n0 f.0 in
    let e1 = numbers_same s.n1 t.n1 g.0 in
    let e2 = numbers_same s.n2 t.n2 g.1 in
    λ i. record { n0 = e0 i; n1 = e1 i; n2 = e2 i }

lists_same : {A : Type 0} (o : A → A → Ordering) → ((x y : A) → o x y ≡ Equal → x ≡ y) → (xs ys : List A) → order_lists o xs ys ≡ Equal → xs ≡ ys
unfolding order_lists
lists_same o tells [] [] h = refl
lists_same o tells [] (y ∷ ys) h = absurd (let z : ◌≡◌ {A = ℕ} 0 1 = cc in omega arith)
lists_same o tells (x ∷ xs) [] h = absurd (let z : ◌≡◌ {A = ℕ} 0 1 = cc in omega arith)
lists_same o tells (x ∷ xs) (y ∷ ys) h =
    let f = then_same (o x y) (order_lists o xs ys) h in
    let e = tells x y f.0 in
    let g = lists_same o tells xs ys f.1 in
    λ i. e i ∷ g i

points_agree : (ps qs : List Node) → All Placed ps → All Placed qs → order_lists order_points ps qs ≡ Equal → Agree ps qs
unfolding order_lists order_points
points_agree [] [] h k e = tt
points_agree [] (q ∷ qs) h k e = absurd (let z : ◌≡◌ {A = ℕ} 0 1 = cc in omega arith)
points_agree (p ∷ ps) [] h k e = absurd (let z : ◌≡◌ {A = ℕ} 0 1 = cc in omega arith)
points_agree (p ∷ ps) (q ∷ qs) h k e =
    let f = then_same (ordering_then (order_floats p.x q.x) (order_floats p.y q.y)) (order_lists order_points ps qs) e in
    let g = then_same (order_floats p.x q.x) (order_floats p.y q.y) f.0 in
    ((floats_same p.x q.x h.0.0 k.0.0 g.0, floats_same p.y q.y h.0.1 k.0.1 g.1), points_agree ps qs h.1 k.1 f.1)

agree_points : (ps qs : List Node) → All Placed ps → All Placed qs → Agree ps qs → order_lists order_points ps qs ≡ Equal
unfolding order_lists order_points
agree_points (p ∷ ps) [] h k a = elim a [ ]
agree_points [] (q ∷ qs) h k a = elim a [ ]
agree_points [] [] h k a = refl
agree_points (p ∷ ps) (q ∷ qs) h k a =
    same_then (ordering_then (order_floats p.x q.x) (order_floats p.y q.y)) (order_lists order_points ps qs)
    (same_then (order_floats p.x q.x) (order_floats p.y q.y)
    (same_floats p.x q.x h.0.0 k.0.0 a.0.0)
    (same_floats p.y q.y h.0.1 k.0.1 a.0.1))
    (agree_points ps qs h.1 k.1 a.1)

agree_length : (ps qs : List Node) → Agree ps qs → length ps ≡ length qs
agree_length (p ∷ ps) [] a = elim a [ ]
agree_length [] (q ∷ qs) a = elim a [ ]
agree_length [] [] a = refl
agree_length (p ∷ ps) (q ∷ qs) a = ap suc (agree_length ps qs a.1)

-- ---- the order of two meshes
all_any : {A : Type 0} (xs : List A) → All Any xs
all_any [] = tt
all_any (x ∷ xs) = (tt, all_any xs)

-- The filing order is a total order: a mesh is the same as itself, the answer turns round with the two,
-- and of three meshes two answers decide the third (`Chained`: before and before is before;
-- the same stands alike to every third mesh).
pub filing_total : Total Numbered filing_order
unfolding filing_order
filing_total =
    in_turn Numbered (λ a b. order_numbers (length a.points) (length b.points)) _
    (along Numbered Any (λ a. length a.points) order_numbers (λ a h. tt) numbers)
    (in_turn Numbered (λ a b. order_lists order_points a.points b.points) _
    (along Numbered (All Placed) (λ a. a.points) (order_lists order_points) (λ a h. h) (lists Placed order_points points_total))
    (in_turn Numbered (λ a b. order_numbers (length a.tris) (length b.tris)) _
    (along Numbered Any (λ a. length a.tris) order_numbers (λ a h. tt) numbers)
    (along Numbered (All Any) (λ a. filed_tris a.tris) (order_lists order_tris) (λ a h. all_any (filed_tris a.tris)) (lists Any order_tris tris_total))))

module _ (a b : Input) (h : Numbered a) (k : Numbered b) where
  pub same_alike : filing_order a b ≡ Equal → Alike a b
  unfolding filing_order filed_tris
  same_alike e =
      let f = then_same (order_numbers (length a.points) (length b.points)) _ e in
      let g = then_same (order_lists order_points a.points b.points) _ f.1 in
      let l = then_same (order_numbers (length a.tris) (length b.tris)) _ g.1 in
      let s = lists_same order_tris tris_same (filed_tris a.tris) (filed_tris b.tris) l.1 in
      record {
        points = points_agree a.points b.points h k g.0;
        tris = λ p. sort_same (earlier order_tris) (map rotated a.tris) p ∙ ap (λ ts. length (filter p ts)) s ∙ sym (sort_same (earlier order_tris) (map rotated b.tris) p);
      }

  pub alike_same : Alike a b → filing_order a b ≡ Equal
  unfolding filing_order filed_tris
  alike_same e =
      let n : length a.tris ≡ length b.tris =
      sym (length-map a.tris rotated) ∙ same_length (map rotated a.tris) (map rotated b.tris) e.tris ∙ length-map b.tris rotated in
      let s = sorts_same (earlier order_tris) (strict order_tris tris_total tris_same) (map rotated a.tris) (map rotated b.tris) e.tris in
      same_then (order_numbers (length a.points) (length b.points)) _ (equal_is (length a.points) (length b.points) (agree_length a.points b.points e.points))
      (same_then (order_lists order_points a.points b.points) _ (agree_points a.points b.points h k e.points)
      (same_then (order_numbers (length a.tris) (length b.tris)) _ (equal_is (length a.tris) (length b.tris) n)
      (ap (λ ts. order_lists order_tris ts (sort (earlier order_tris) (map rotated b.tris))) s ∙ itself (sort (earlier order_tris) (map rotated b.tris)))))
    where
      itself : (xs : List Tri) → order_lists order_tris xs xs ≡ Equal
      itself xs = (lists Any order_tris tris_total).self xs (all_any xs)

-- ---- in words
module _ (a b c : Input) (h : Numbered a) (k : Numbered b) (l : Numbered c) where
  pub reflexive : filing_order a a ≡ Equal
  reflexive = filing_total.self a h

  pub reversed : filing_order b a ≡ ordering_reverse (filing_order a b)
  reversed = filing_total.back a b h k

  pub transitive : filing_order a b ≡ Less → filing_order b c ≡ Less → filing_order a c ≡ Less
  transitive e f = subst (λ o. Chained Less o (filing_order a c)) f (subst (λ o. Chained o (filing_order b c) (filing_order a c)) e (filing_total.chain a b c h k l))

  -- meshes that are the same stand alike to every third, and so does it to them (`reversed`)
  pub congruent : filing_order a b ≡ Equal → filing_order a c ≡ filing_order b c
  congruent e = subst (λ o. Chained o (filing_order b c) (filing_order a c)) e (filing_total.chain a b c h k l)

near_numeric : (x : Float) (n : ℕ) (d : ℤ) → le (abs x) (fin false n d) ≡ true → Numeric x
unfolding le lt eq abs
near_numeric nan n d h = absurd (let z : ◌≡◌ {A = ℕ} 0 1 = cc in omega arith)
near_numeric (inf s) n d h = absurd (let z : ◌≡◌ {A = ℕ} 0 1 = cc in omega arith)
near_numeric (fin s m e) n d h = tt

numeric : (x : Float) → (abs x ≼ most_coordinate) ≡ true → Numeric x
unfolding ◌≼◌ most_coordinate 8·0 f64 of_bits
numeric x h = near_numeric x _ _ h

-- 7 leaves only numbers
pub numbered : (m : Mesh) → Accepted m → Numbered (input m)
unfolding input first_points below point_at
numbered m h =
    let n = near (asked m) (lent m) (clear m h).c7 in
    all_row Placed (point_at m.points) 0 m.given (λ j a b. let p = n j (omega arith) in (numeric _ p.x, numeric _ p.y))

-- The order that the call answers is a total order of the meshes that pass.
pub answers_total : Total Accepted (λ a b. filing_order (input a) (input b))
answers_total = along Accepted Numbered input filing_order numbered filing_total

module _ (a b : Mesh) (h : Accepted a) (k : Accepted b) where
  pub answer_is : (call a b).answer ≡ Filed (filing_order (input a) (input b))
  unfolding filed
  answer_is = ap (λ r. r.answer) (both_filed a b h k)

  -- Equal is answered exactly where the points agree and the triangles agree up to rotation
  -- and list order, repeats counted.
  pub same_only : (call a b).answer ≡ Filed Equal → Alike (input a) (input b)
  same_only e = let f : Filed (filing_order (input a) (input b)) ≡ Filed Equal = sym answer_is ∙ e in same_alike (input a) (input b) (numbered a h) (numbered b k) (cc)

  pub same_where : Alike (input a) (input b) → (call a b).answer ≡ Filed Equal
  same_where e = answer_is ∙ ap Filed (alike_same (input a) (input b) (numbered a h) (numbered b k) e)
