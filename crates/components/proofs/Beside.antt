-- Without a region of an even number of triangles no component is odd, where none is with it,
-- as soon as every triangle beside it is in a whole even component or in one other.
use Rattle.std.specs.Prelude.{◌≡◌, ◌⊎◌, ◌+◌, ◌%◌, ◌∷◌, ◌++◌}
use Rattle.laws.specs.Kit.{refl, sym, ◌∙◌, ap, subst, inl, inr, Bool, true, false, not, cond, ℕ, suc, arith, eqb, ltb, eqb-true, List, [], map, length, length-append}
use native.Mathlib.Nat.{suc-mod}
use Rattle.rings.specs.Rings.{Out, Distinct}
use Rattle.rings.proofs.Lists.{out_append}
use Rattle.definition.specs.Lists.{filter}
use Rattle.definition.specs.Cells.{Tri, Live, Mesh, live_tri, tris_of, without_all}
use Rattle.definition.specs.Components.{meets, classes, component_sizes, odd_one, removing_leaves_odd_component}
use Rattle.laws.specs.Bools.{which}
use Rattle.laws.specs.Lists.{In, in_left, in_right, in_either, filter_yes, filter_no, in_filter, filter_in, sort_in, any_in, map_in, in_map}
use Rattle.account.proofs.Rearranged.{number, number_append}
use Rattle.account.specs.Triangles.{Shares, Distinct as Three}
use Rattle.account.proofs.Triangles.{turned, shares_self}
use Rattle.account.specs.Even.{Closed, odd}
use Rattle.account.specs.Classes.{AllDistinct}
use Rattle.account.proofs.Classes.{meets_says, shares_meets}
use Rattle.account.proofs.Sizes.{none_odd, sizes_even}
use Rattle.cells.specs.Rep.{slots}
use Rattle.cells.proofs.Corners.{slots_append}
use Rattle.cells.proofs.Slots.{distinct_filter}
use Rattle.components.specs.Flood.{body, Whole}
use Rattle.components.specs.Near.{BesideOne}
use Rattle.components.proofs.Members.{out_from, same_slot}
use Rattle.components.proofs.Classes.{number_agree, number_none, number_all, count, classes_parted}
use Rattle.components.proofs.Sweeps.{joined, in_joined, joined_in, Piece, number_map, same_number, distinct_left, tris_body, left_over, left_tris, over_distinct, gone_or_left, in_left_over, left_over_in, over_tri, tri_over}

-- ---- even numbers of members

odd_number : (c : Tri → Bool) (ts : List Tri) → number c ts % 2 ≡ cond (odd c ts) 1 0
unfolding odd filter
odd_number c [] = refl
odd_number c (t ∷ ts) = elim (which (c t)) [
  | inl e ↦ rw (filter_yes c t ts e, e) (suc-mod (number c ts) 2 ∙ ap (λ (n : ℕ). (suc n) % 2) (odd_number c ts) ∙ turn (odd c ts))
  | inr e ↦ rw (filter_no c t ts e, e) (odd_number c ts)
]
  where
    turn : (b : Bool) → suc (cond b 1 0) % 2 ≡ cond (not b) 1 0
    turn true = refl
    turn false = refl

-- of triangles without an odd component a closed set has an even number
pub closed_even : (ts : List Tri) → AllDistinct ts → odd_one ts ≡ false → (c : Tri → Bool) → Closed c ts → number c ts % 2 ≡ 0
closed_even ts d e c h = odd_number c ts ∙ ap (λ (b : Bool). cond b 1 0) (sizes_even ts d (none_odd ts d e) c h)

-- where every closed set has an even number, no component is odd
pub even_closed : (ts : List Tri) → AllDistinct ts → ((c : Tri → Bool) → Closed c ts → number c ts % 2 ≡ 0) → odd_one ts ≡ false
unfolding odd_one component_sizes
even_closed ts d h = elim (which (odd_one ts)) [
  | inl e ↦
      let r = any_in (λ n. eqb (n % 2) 1) (component_sizes ts) e in
      let q = in_map length r.0 (classes ts) (sort_in (λ a b. ltb b a) r.0 (map length (classes ts)) r.1) in
      let w = classes_parted ts d in
      let a : length q.0 % 2 ≡ 0 = ap (λ (n : ℕ). n % 2) (sym (count ts (classes ts) d w q.0 q.1)) ∙ h (λ t. meets t q.0) (w.class q.0 q.1).closed in
      let b : r.0 % 2 ≡ 0 = ap (λ (n : ℕ). n % 2) q.2 ∙ a in
      let z : ◌≡◌ {A = ℕ} 0 1 = sym b ∙ eqb-true (r.0 % 2) 1 r.2 in
      absurd (omega arith)
  | inr e ↦ e
]

-- ---- cells taken out

distinct_append : (l k : List Live) → Distinct (slots l) → Distinct (slots k) → ((y : Live) → In y l → Out y.slot (slots k)) → Distinct (slots (l ++ k))
distinct_append [] k d e f = e
distinct_append (x ∷ l) k d e f =
    (rw (slots_append l k) (out_append x.slot (slots l) (slots k) d.0 (f x (inl refl))), distinct_append l k d.1 e (λ y i. f y (inr i)))

-- every live triangle has three nodes
abbrev pub Threes : Mesh → Type 0
Threes m = (y : Live) → In y m.live → live_tri y ≡ true → Three (body y)

tri_live_of : (m : Mesh) (t : Tri) → In t (tris_of m.live) → (y : Live) × In y m.live × (live_tri y ≡ true) × (t ≡ body y)
tri_live_of m t i =
    let r = in_map body t (filter live_tri m.live) (rw (tris_body m.live) at i) in
    let q = in_filter live_tri m.live r.1 in
    (r.0, q.0, q.1, r.2)

pub live_three : (m : Mesh) → Threes m → AllDistinct (tris_of m.live)
live_three m h t i = let r = tri_live_of m t i in rw r.3 (h r.0 r.1 r.2)

-- live triangles in slots that differ
pub record Some (m : Mesh) (xs : List Live) : Type 0 where
  pub slots_differ : Distinct (slots xs)
  pub live : (y : Live) → In y xs → In y m.live
  pub tris : (y : Live) → In y xs → live_tri y ≡ true

module _ (m : Mesh) (d : Distinct (slots m.live)) (xs : List Live) (h : Some m xs) where
  out_in : (y : Live) → In y (left_over m xs) → In y m.live × (live_tri y ≡ true) × (In y xs → ⊥)
  out_in = left_over_in m d xs h.live

  in_out : (y : Live) → In y m.live → live_tri y ≡ true → (In y xs → ⊥) → In y (left_over m xs)
  in_out = in_left_over m d xs h.live

  either_way : (y : Live) → In y m.live → live_tri y ≡ true → In y xs ⊎ In y (left_over m xs)
  either_way = gone_or_left m d xs h.live

  pub left_three : Threes m → AllDistinct (left_tris m xs)
  left_three three t i =
      let r = tri_over m xs t i in
      let o = out_in r.0 r.1 in
      rw r.2 (three r.0 o.0 o.1)

  -- what passes is among them or left
  pub split_number : (c : Tri → Bool) → number c (tris_of m.live) ≡ number c (map body xs) + number c (left_tris m xs)
  unfolding left_over
  split_number c =
      let f : Live → Bool = λ y. c (body y) in
      let ls = left_over m xs in
      let a : number c (tris_of m.live) ≡ number f (filter live_tri m.live) = ap (number c) (tris_body m.live) ∙ number_map body c (filter live_tri m.live) in
      let b : number c (left_tris m xs) ≡ number f ls = ap (number c) (tris_body (without_all xs m.live)) ∙ number_map body c ls in
      let e : number c (map body xs) ≡ number f xs = number_map body c xs in
      let g : number f (filter live_tri m.live) ≡ number f (xs ++ ls) = same_number f f (filter live_tri m.live) (xs ++ ls) (distinct_filter live_tri m.live d)
      (distinct_append xs ls h.slots_differ (over_distinct m xs d)
      (λ y i. out_from y.slot ls (λ z j q. (out_in z j).2 (subst (λ (v : Live). In v xs) (same_slot m.live y z d (h.live y i) (out_in z j).0 (sym q)) i))))
      (λ y i p. let r = in_filter live_tri m.live i in (elim (either_way y r.0 r.1) [ inl v ↦ in_left y xs ls v | inr v ↦ in_right y xs ls v ], p))
      (λ y i p. (elim (in_either y xs ls i) [ inl v ↦ filter_in live_tri m.live (h.live y v) (h.tris y v) | inr v ↦ filter_in live_tri m.live (out_in y v).0 (out_in y v).1 ], p)) in
      let k : number f (xs ++ ls) ≡ number f xs + number f ls = number_append f xs ls in
      omega (arith, a, b, e, g, k)

-- ---- evenness

two_even : (a b n : ℕ) → n ≡ a + b → a % 2 ≡ 0 → b % 2 ≡ 0 → n % 2 ≡ 0
two_even a b n e f g = omega (arith, e, f, g)

last_even : (a b n : ℕ) → n ≡ a + b → a % 2 ≡ 0 → n % 2 ≡ 0 → b % 2 ≡ 0
last_even a b n e f g = omega (arith, e, f, g)

-- a test with one value on an even number of cells
const_even : (c : Live → Bool) (v : Bool) (k : List Live) → ((y : Live) → In y k → c y ≡ v) → length k % 2 ≡ 0 → number c k % 2 ≡ 0
const_even c true k h e = ap (λ (n : ℕ). n % 2) (number_agree c (λ y. true) k h ∙ number_all k) ∙ e
const_even c false k h e = ap (λ (n : ℕ). n % 2) (number_none c k h)

-- a test with one value on each of some even lists
each_even : (c : Live → Bool) (ks : List (List Live)) → ((k : List Live) → In k ks → (y z : Live) → In y k → In z k → c y ≡ c z) → ((k : List Live) → In k ks → length k % 2 ≡ 0)
    → number c (joined ks) % 2 ≡ 0
unfolding filter
each_even c [] h e = refl
each_even c (k ∷ ks) h e =
    two_even (number c (joined ks)) (number c k) (number c (joined ks ++ k)) (number_append c (joined ks) k) (each_even c ks (λ l i. h l (inr i)) (λ l i. e l (inr i)))
    (one k (h k (inl refl)) (e k (inl refl)))
  where
    one : (k : List Live) → ((y z : Live) → In y k → In z k → c y ≡ c z) → length k % 2 ≡ 0 → number c k % 2 ≡ 0
    one [] f g = refl
    one (x ∷ k) f g = const_even c (c x) (x ∷ k) (λ y i. f y x i (inl refl)) g

joined_even : (ks : List (List Live)) → ((k : List Live) → In k ks → length k % 2 ≡ 0) → length (joined ks) % 2 ≡ 0
joined_even ks e = ap (λ (n : ℕ). n % 2) (sym (number_all (joined ks))) ∙ each_even (λ y. true) ks (λ k i y z a b. refl) e

-- ---- the law

-- the triangles of a region, an even number; whole even components of what is left without it;
-- and a part of one more: those beside the region are among them
pub record Cut (m : Mesh) (region : List Live) (ks : List (List Live)) (part : List Live) : Type 0 where
  pub differ : Distinct (slots m.live)
  pub three : Threes m
  pub some : Some m (region ++ joined ks)
  pub size : length region % 2 ≡ 0
  pub pieces : (k : List Live) → In k ks → Piece m region k
  pub even : (k : List Live) → In k ks → length k % 2 ≡ 0
  pub alike : (c : Tri → Bool) → Whole c m region → (v : Bool) × ((z : Live) → In z part → c (body z) ≡ v)
  pub near : (z : Live) → In z m.live → live_tri z ≡ true → BesideOne region z → In z (region ++ joined ks) ⊎ In z part

module _ (m : Mesh) (region : List Live) (ks : List (List Live)) (part : List Live) (g : Cut m region ks part) where
  gone : List Live
  gone = region ++ joined ks

  region_some : Some m region
  region_some =
      record {
        slots_differ = distinct_left region (joined ks) g.some.slots_differ;
        live = λ y i. g.some.live y (in_left y region (joined ks) i);
        tris = λ y i. g.some.tris y (in_left y region (joined ks) i);
      }

  module _ (c : Tri → Bool) (closed : Closed c (left_tris m region)) where
    whole : Whole c m region
    whole y z l1 l2 t1 t2 o1 o2 q =
        closed (body y) (body z) (over_tri m region y (in_out m g.differ region region_some y l1 t1 o1)) (over_tri m region z (in_out m g.differ region region_some z l2 t2 o2)) q

    value : Bool
    value = (g.alike c whole).0

    -- c outside the region and the components, and the part's value on them
    back : Tri → Bool
    back t = cond (meets t (map body gone)) value (c t)

    -- past the region comes the part
    past : (y z : Live) → In y gone → In z m.live → live_tri z ≡ true → (In z gone → ⊥) → Shares (body y) (body z) → c (body z) ≡ value
    unfolding value gone
    past y z i l t o q = elim (in_either y region (joined ks) i) [
      | inl j ↦ elim (g.near z l t (y, j, q)) [ inl e ↦ absurd (o e) | inr e ↦ (g.alike c whole).1 z e ]
      | inr j ↦
          let k = in_joined ks y j in
          elim ((g.pieces k.0 k.1).closed y z k.2 l t q) [
            | inl e ↦ absurd (o (in_left z region (joined ks) e))
            | inr e ↦ absurd (o (in_right z region (joined ks) (joined_in ks k.0 z k.1 e)))
          ]
    ]

    back_in : (y : Live) → In y gone → back (body y) ≡ value
    unfolding back gone
    back_in y i = rw (shares_meets (body y) (map body gone) (body y) (map_in body y gone i) (shares_self (body y) (g.three y (g.some.live y i) (g.some.tris y i)))) refl

    back_out : (y : Live) → In y m.live → live_tri y ≡ true → (In y gone → ⊥) → back (body y) ≡ c (body y)
    unfolding back
    back_out y l t o = elim (which (meets (body y) (map body gone))) [
      | inl e ↦
          let r = meets_says (body y) (map body gone) (g.three y l t) e in
          let u = in_map body r.0 gone r.1 in
          rw e (sym (past u.0 y u.1 l t o (turned (subst (λ (v : Tri). Shares (body y) v) u.2 r.2))))
      | inr e ↦ rw e refl
    ]

    gone_or : (y : Live) → In y m.live → live_tri y ≡ true → In y gone ⊎ (In y gone → ⊥)
    unfolding gone
    gone_or y l t = elim (either_way m g.differ gone g.some y l t) [ inl i ↦ inl i | inr i ↦ inr (out_in m g.differ gone g.some y i).2 ]

    back_same : (y z : Live) → In y m.live → In z m.live → live_tri y ≡ true → live_tri z ≡ true → Shares (body y) (body z) → back (body y) ≡ back (body z)
    unfolding gone
    back_same y z ly lz ty tz q = elim (gone_or y ly ty) [
      | inl i ↦ elim (gone_or z lz tz) [
        | inl j ↦ back_in y i ∙ sym (back_in z j)
        | inr j ↦ back_in y i ∙ sym (past y z i lz tz j q) ∙ sym (back_out z lz tz j)
      ]
      | inr i ↦ elim (gone_or z lz tz) [
        | inl j ↦ back_out y ly ty i ∙ past z y j ly ty i (turned q) ∙ sym (back_in z j)
        | inr j ↦
            back_out y ly ty i
            ∙ whole y z ly lz ty tz (λ e. i (in_left y region (joined ks) e)) (λ e. j (in_left z region (joined ks) e)) q
            ∙ sym (back_out z lz tz j)
      ]
    ]

    back_closed : Closed back (tris_of m.live)
    back_closed a b i j q =
        let u = tri_live_of m a i in
        let v = tri_live_of m b j in
        ap back u.3 ∙ back_same u.0 v.0 u.1 v.1 u.2 v.2 (subst (λ (z : Tri). Shares z (body v.0)) u.3 (subst (λ (z : Tri). Shares a z) v.3 q)) ∙ sym (ap back v.3)

    part_even : odd_one (tris_of m.live) ≡ false → number c (left_tris m region) % 2 ≡ 0
    unfolding gone
    part_even e =
        let rest = left_tris m gone in
        let a : number back (tris_of m.live) % 2 ≡ 0 = closed_even (tris_of m.live) (live_three m g.three) e back back_closed in
        let s : number back (tris_of m.live) ≡ number back (map body gone) + number back rest = split_number m g.differ gone g.some back in
        let f : number back (map body gone) % 2 ≡ 0 = ap (λ (n : ℕ). n % 2) (number_map body back gone) ∙ const_even (λ y. back (body y)) value gone back_in
        (two_even (length region) (length (joined ks)) (length gone) (length-append region (joined ks)) g.size (joined_even ks g.even)) in
        let h : number back rest ≡ number c rest = number_agree back c rest (λ t i.
        let r = tri_over m gone t i in
        let o = out_in m g.differ gone g.some r.0 r.1 in
        ap back r.2 ∙ back_out r.0 o.0 o.1 o.2 ∙ sym (ap c r.2)) in
        let b : number c rest % 2 ≡ 0 = ap (λ (n : ℕ). n % 2) (sym h) ∙ last_even (number back (map body gone)) (number back rest) (number back (tris_of m.live)) s f a in
        let k : number (λ y. c (body y)) (joined ks) % 2 ≡ 0 = each_even (λ y. c (body y)) ks (λ l i. (g.pieces l i).linked c whole) g.even in
        let s1 : number c (tris_of m.live) ≡ number c (map body region) + number c (left_tris m region) = split_number m g.differ region region_some c in
        let s2 : number c (tris_of m.live) ≡ number c (map body gone) + number c rest = split_number m g.differ gone g.some c in
        let n1 : number c (map body region) ≡ number (λ y. c (body y)) region = number_map body c region in
        let n2 : number c (map body gone) ≡ number (λ y. c (body y)) gone = number_map body c gone in
        let n3 : number (λ y. c (body y)) gone ≡ number (λ y. c (body y)) region + number (λ y. c (body y)) (joined ks) = number_append (λ y. c (body y)) region (joined ks) in
        two_even (number (λ y. c (body y)) (joined ks)) (number c rest) (number c (left_tris m region)) (omega (arith, s1, s2, n1, n2, n3)) k b

  pub cut_even : odd_one (tris_of m.live) ≡ false → removing_leaves_odd_component m region ≡ false
  unfolding removing_leaves_odd_component
  cut_even e = even_closed (left_tris m region) (left_three m g.differ region region_some g.three) (λ c h. part_even c h e)
