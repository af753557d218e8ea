-- The first joint that fails, by the numbers and by the cells.
use mathlib.Core.Path.{◌≡◌, refl, sym, ap, ap₂, ◌∙◌}
use mathlib.Core.Bool.{Bool, true, false, not, ◌||◌}
use mathlib.Core.List.{List}
use mathlib.Core.Option.{none, some}
use Prim.{absurd}
use Prim.Native.Nat.{ℕ, zero, suc, ◌+◌, ◌*◌, ◌≤◌, ◌<◌}
use native.Mathlib.Omega.{arith}
use Rattle.definition.specs.Lists.{flat_map, table, numbers, below}
use Rattle.definition.specs.Plane.{Edge}
use Rattle.definition.specs.Cells.{key, tri_edges, has_edge_in}
use Rattle.definition.specs.Call.{first_tris, joint_at}
use Rattle.sorting.specs.Places.{key_at}
use Rattle.balance.specs.Codes.{edge}
use Rattle.balance.specs.Places.{Small}
use Rattle.balance.specs.Promise.{first_fours}
use Rattle.accept.specs.Accept.{failing}
use Rattle.std.specs.Prelude.{Option, None, Some}
use Rattle.lost_joints.specs.Filed.{has_key, cell_edges, Filed}
use Rattle.lost_joints.specs.Promise.{stands_in, Names, survives, option, Answers}

-- ---- the first of a table that fails

module _ {A : Type 0} (p : A → Bool) (f : ℕ → A) where
  none_fails : (a n : ℕ) → ((i : ℕ) → a ≤ i → i < a + n → p (f i) ≡ true) → failing p a (table f (numbers a n)) ≡ none
  unfolding failing table numbers
  none_fails a zero h = refl
  none_fails a (suc n) h = rw (h a (omega arith) (omega arith)) (none_fails (suc a) n (λ i l m. h i (omega arith) (omega arith)))

  first_fails : (a n r : ℕ) → r < n → ((i : ℕ) → a ≤ i → i < a + r → p (f i) ≡ true) → p (f (a + r)) ≡ false → failing p a (table f (numbers a n)) ≡ some (a + r)
  unfolding failing table numbers
  first_fails a zero r l h e = absurd (omega arith)
  first_fails a (suc n) zero l h e =
      let z : a + 0 ≡ a = omega arith in
      let k : p (f a) ≡ false = ap (λ x. p (f x)) (sym z) ∙ e in
      rw k (ap some (sym z))
  first_fails a (suc n) (suc r) l h e =
      let z : suc a + r ≡ a + suc r = omega arith in
      rw (h a (omega arith) (omega arith)) (first_fails (suc a) n r (omega arith) (λ i x y. h i (omega arith) (omega arith)) (ap (λ x. p (f x)) z ∙ e) ∙ ap some z)

  pub named : (n : ℕ) (r : Option ℕ) → Names (λ i. p (f i)) n r → failing p 0 (table f (below n)) ≡ option r
  unfolding below
  named n None h = none_fails 0 n (λ i l m. h i (omega arith))
  named n (Some r) h = first_fails 0 n r h.0 (λ i l m. h.2 i (omega arith)) (ap (λ x. p (f x)) (let z : 0 + r ≡ r = omega arith in z) ∙ h.1) ∙ ap some (let z : 0 + r ≡ r = omega arith in z)

-- ---- one joint

module _ (f : ℕ → ℕ) (g : ℕ) (h : ℕ → ℕ) (m : ℕ) (e : Edge) where
  pub stands_so : (r : Bool) → has_key f g (edge e.0 e.1) ≡ true → r ≡ has_key h m (edge e.0 e.1) → r ≡ stands_in f g h m e
  unfolding stands_in
  stands_so r a b = rw a b

  pub not_given : has_key f g (edge e.0 e.1) ≡ false → true ≡ stands_in f g h m e
  unfolding stands_in
  not_given a = rw a refl

-- ---- joint by joint

joint_in : (joints : List ℕ) (i n : ℕ) → Small joints (2 * n) → i < n → ((joint_at joints i).0 ≤ (joint_at joints i).1) × ((joint_at joints i).1 < 1048576)
unfolding joint_at key
joint_in joints i n small l =
    let a = small (2 * i) (omega arith) in
    let b = small (2 * i + 1) (omega arith) in
    (omega arith, omega arith)

same_names : (p q : ℕ → Bool) (n : ℕ) (r : Option ℕ) → ((i : ℕ) → i < n → p i ≡ q i) → Names p n r → Names q n r
same_names p q n None e h = λ i l. sym (e i l) ∙ h i l
same_names p q n (Some r) e h = (h.0, sym (e r h.0) ∙ h.1, λ i l. sym (e i (let k = h.0 in omega arith)) ∙ h.2 i l)

-- a triangle list without quads
no_quads : (xs : List ℕ) (ys : List ℕ) (t : ℕ) → cell_edges xs 0 ys t ≡ flat_map tri_edges (first_tris t ys)
unfolding cell_edges first_fours below numbers table flat_map
no_quads xs ys t = refl

module _ (given : List ℕ) (n : ℕ) (quads : List ℕ) (q : ℕ) (left : List ℕ) (t : ℕ) (joints : List ℕ) (k : ℕ) (small : Small joints (2 * k))
    (w v : List ℕ) (g m : ℕ) (one : Filed (cell_edges given 0 given n) g w) (two : Filed (cell_edges quads q left t) m v) where
  each : (i : ℕ) → i < k → stands_in (key_at w) g (key_at v) m (joint_at joints i) ≡ survives given n quads q left t (joint_at joints i)
  unfolding stands_in survives
  each i l =
      let e = joint_at joints i in
      let b = joint_in joints i k small l in
      ap₂ (λ x y. not x || y)
      (one.finds e.0 e.1 b.0 b.1 ∙ ap (λ es. has_edge_in es e) (no_quads given given n))
      (two.finds e.0 e.1 b.0 b.1)

  pub answers : (r : Option ℕ) → Names (λ i. stands_in (key_at w) g (key_at v) m (joint_at joints i)) k r → Answers given n quads q left t joints k r
  answers r h = named (survives given n quads q left t) (joint_at joints) k r (same_names _ (λ i. survives given n quads q left t (joint_at joints i)) k r each h)
