-- The sweep over the slots: the components taken so far, and what they say of the definition's.
use Rattle.std.specs.Prelude.{◌≡◌, ◌≢◌, ◌⊎◌, ◌+◌, ◌<◌, ◌≤◌, ◌∷◌, ◌++◌}
use Rattle.laws.specs.Kit.{refl, sym, ◌∙◌, ap, subst, inl, inr, Bool, true, not, ℕ, suc, arith, ℕ_discrete, eq-eqb, not-true, List, [], map, append_assoc, length, length-append, length-map}
use Rattle.rings.specs.Rings.{Distinct}
use Rattle.definition.specs.Lists.{filter, flat_map, concat}
use Rattle.definition.specs.Cells.{Tri, Cell, tri, quad, Live, Mesh, live_tri, is_tri, in_slot, tri_of, tris_of, among, without_all, new_live}
use Rattle.definition.specs.Components.{meets}
use Rattle.definition.specs.Account.{Pairwise}
use Rattle.laws.specs.Bools.{which, never, same_bool}
use Rattle.laws.specs.Lists.{In, all_from, in_left, in_right, in_either, filter_yes, filter_no, in_filter, filter_in, in_any, filter_all, map_in, in_map, no_more}
use Rattle.account.proofs.Rearranged.{number, number_append}
use Rattle.account.specs.Triangles.{Shares}
use Rattle.account.proofs.Triangles.{turned, shares_self}
use Rattle.account.specs.Classes.{AllApart, AllDistinct}
use Rattle.account.proofs.Classes.{meets_says, shares_meets}
use Rattle.cells.specs.Rep.{slots}
use Rattle.cells.proofs.Slots.{rep_held, in_has, distinct_filter}
use Rattle.regions.specs.Listing.{Aside}
use Rattle.regions.proofs.Listings.{aside_trans}
use Rattle.components.specs.Flood.{body, Marked, Whole, Flooded}
use Rattle.components.proofs.Members.{out_not, out_from, any_has, same_slot, parts_apart, tris_at, body_three}
use Rattle.components.proofs.Classes.{Class, Parted}

-- ---- the components taken, the latest first

-- their cells in the order of the list
abbrev pub joined : List (List Live) → List Live
joined [] = []
joined (k ∷ ks) = joined ks ++ k

-- a component of the live triangles without those of the region
pub record Piece (m : Mesh) (region k : List Live) : Type 0 where
  pub first : Live
  pub has : In first k
  pub linked : (c : Tri → Bool) → Whole c m region → (y z : Live) → In y k → In z k → c (body y) ≡ c (body z)
  pub closed : (y z : Live) → In y k → In z m.live → live_tri z ≡ true → Shares (body y) (body z) → In z region ⊎ In z k

-- the components of the slots below i are taken
pub record Sweeping (w₀ w : List ℕ) (s p n i : ℕ) (m : Mesh) (region : List Live) (ks : List (List Live)) : Type 0 where
  pub state : Marked w s p n m (region ++ joined ks)
  pub aside : Aside w₀ w s p
  pub pieces : (k : List Live) → In k ks → Piece m region k
  pub past : (y : Live) → In y m.live → live_tri y ≡ true → y.slot < i → In y (region ++ joined ks)

pub in_joined : (ks : List (List Live)) (y : Live) → In y (joined ks) → (k : List Live) × In k ks × In y k
in_joined [] y i = absurd i
in_joined (k ∷ ks) y i = elim (in_either y (joined ks) k i) [ inl j ↦ (let r = in_joined ks y j in (r.0, inr r.1, r.2)) | inr j ↦ (k, inl refl, j) ]

pub joined_in : (ks : List (List Live)) (k : List Live) (y : Live) → In k ks → In y k → In y (joined ks)
joined_in [] k y x'' j = elim x'' [ ]
joined_in (l ∷ ks) k y (inl e) j = in_right y (joined ks) l (subst (λ (z : List Live). In y z) e j)
joined_in (l ∷ ks) k y (inr i) j = in_left y (joined ks) l (joined_in ks k y i j)

-- ---- one slot more

module _ {w₀ w : List ℕ} {s p n i : ℕ} {m : Mesh} {region : List Live} {ks : List (List Live)} (g : Sweeping w₀ w s p n i m region ks) where
  -- nothing in slot i
  pub sweep_on : {w' : List ℕ} → Marked w' s p n m (region ++ joined ks) → Aside w w' s p
      → ((y : Live) → In y m.live → live_tri y ≡ true → y.slot ≡ i → In y (region ++ joined ks)) → Sweeping w₀ w' s p n (i + 1) m region ks
  sweep_on {w'} h a f =
      record {
        state = h;
        aside = aside_trans w₀ w w' s p g.aside a;
        pieces = g.pieces;
        past = λ y l t b. elim (ℕ_discrete y.slot i) [ yes e ↦ f y l t e | no e ↦ g.past y l t (omega arith) ];
      }

  module _ {w' : List ℕ} {r : ℕ} {x : Live} (f : Flooded w w' s p r m (region ++ joined ks) x) where
    sweep_parts : (region ++ joined ks) ++ f.new ≡ region ++ (joined ks ++ f.new)
    sweep_parts = append_assoc region (joined ks) f.new

    old_new : (y : Live) → In y (region ++ joined ks) → In y f.new → ⊥
    old_new y a b = parts_apart (region ++ joined ks) f.new y f.state.distinct a b

    new_live_in : (y : Live) → In y f.new → In y m.live × (live_tri y ≡ true)
    new_live_in y a = (f.state.live y (in_right y (region ++ joined ks) f.new a), tris_at ((region ++ joined ks) ++ f.new) f.state.tris y (in_right y (region ++ joined ks) f.new a))

    pub new_piece : Piece m region f.new
    new_piece =
        record {
          first = x;
          has = f.reach.first;
          linked = λ c h y z a b.
              let whole : Whole c m (region ++ joined ks) = λ u v p1 p2 t1 t2 o1 o2 q. h u v p1 p2 t1 t2 (λ l. o1 (in_left u region (joined ks) l)) (λ l. o2 (in_left v region (joined ks) l)) q in
              f.reach.linked c whole y a ∙ sym (f.reach.linked c whole z b);
          closed = λ y z a l t q. elim (in_either z (region ++ joined ks) f.new (f.reach.closed y z a l t q)) [
            | inl b ↦ elim (in_either z region (joined ks) b) [
              | inl v ↦ inl v
              | inr v ↦
                  let k = in_joined ks z v in
                  elim ((g.pieces k.0 k.1).closed z y k.2 (new_live_in y a).0 (new_live_in y a).1 (turned q)) [
                    | inl u ↦ absurd (old_new y (in_left y region (joined ks) u) a)
                    | inr u ↦ absurd (old_new y (in_right y region (joined ks) (joined_in ks k.0 y k.1 u)) a)
                  ]
            ]
            | inr b ↦ inr b
          ];
        }

  module _ {w' : List ℕ} {r : ℕ} {x : Live} (e : x.slot ≡ i) (f : Flooded w w' s p r m (region ++ joined ks) x) where
    pub sweep_new : Sweeping w₀ w' s p r (i + 1) m region (f.new ∷ ks)
    sweep_new =
        record {
          state = subst (λ (l : List Live). Marked w' s p r m l) (sweep_parts f) f.state;
          aside = aside_trans w₀ w w' s p g.aside f.aside;
          pieces = λ k a. elim a [ inl q ↦ subst (λ (v : List Live). Piece m region v) (sym q) (new_piece f) | inr b ↦ g.pieces k b ];
          past = λ y l t b. subst (λ (v : List Live). In y v) (sweep_parts f) (elim (ℕ_discrete y.slot i) [
            | yes q ↦
                let z : x ≡ y = same_slot m.live x y g.state.rep.distinct (new_live_in f x f.reach.first).0 l (e ∙ sym q) in
                in_right y (region ++ joined ks) f.new (subst (λ (v : Live). In v f.new) z f.reach.first)
            | no q ↦ in_left y (region ++ joined ks) f.new (g.past y l t (omega arith))
          ]);
        }

    -- how many came
    pub sweep_length : r ≡ n + length f.new
    sweep_length = omega (arith, f.state.len, g.state.len, length-append (region ++ joined ks) f.new)

-- ---- counting live cells

pub number_map : {A B : Type 0} (f : A → B) (c : B → Bool) (l : List A) → number c (map f l) ≡ number (λ x. c (f x)) l
unfolding filter
number_map f c [] = refl
number_map f c (x ∷ l) = elim (which (c (f x))) [
  | inl e ↦ rw (filter_yes c (f x) (map f l) e, filter_yes (λ x. c (f x)) x l e) (ap suc (number_map f c l))
  | inr e ↦ rw (filter_no c (f x) (map f l) e, filter_no (λ x. c (f x)) x l e) (number_map f c l)
]

different : (c : Live → Bool) (l : List Live) → Distinct (slots l) → Pairwise (λ x y. x ≢ y) (filter c l)
unfolding filter
different c [] d = tt
different c (x ∷ l) d = elim (which (c x)) [
  | inl e ↦ rw (filter_yes c x l e) (all_from (filter c l) (λ y i q. out_not x.slot y l d.0 (in_filter c l i).0 (ap (λ (v : Live). v.slot) (sym q))), different c l d.1)
  | inr e ↦ rw (filter_no c x l e) (different c l d.1)
]

-- lists with the same members that pass have as many of them
pub same_number : (a b : Live → Bool) (l k : List Live) → Distinct (slots l) → Distinct (slots k)
    → ((y : Live) → In y l → a y ≡ true → In y k × (b y ≡ true)) → ((y : Live) → In y k → b y ≡ true → In y l × (a y ≡ true)) → number a l ≡ number b k
same_number a b l k d e f g =
    let x = no_more (filter a l) (filter b k) (different a l d) (λ y i. let r = in_filter a l i in let q = f y r.0 r.1 in filter_in b k q.0 q.1) in
    let y = no_more (filter b k) (filter a l) (different b k e) (λ y i. let r = in_filter b k i in let q = g y r.0 r.1 in filter_in a l q.0 q.1) in
    omega arith

pub distinct_left : (l k : List Live) → Distinct (slots (l ++ k)) → Distinct (slots l)
distinct_left [] k d = tt
distinct_left (x ∷ l) k d = (out_from x.slot l (λ y i q. out_not x.slot y (l ++ k) d.0 (in_left y l k i) q), distinct_left l k d.1)

distinct_right : (l k : List Live) → Distinct (slots (l ++ k)) → Distinct (slots k)
distinct_right [] k d = d
distinct_right (x ∷ l) k d = distinct_right l k d.1

-- ---- the triangles that are left

pub tris_body : (l : List Live) → tris_of l ≡ map body (filter live_tri l)
unfolding tris_of flat_map filter live_tri is_tri tri_of new_live
tris_body [] = refl
tris_body (x ∷ l) = go x.cell (tris_body l)
  where
    go : (c : Cell) → tris_of l ≡ map body (filter live_tri l) → tris_of (new_live x.slot c ∷ l) ≡ map body (filter live_tri (new_live x.slot c ∷ l))
    go (tri t) h = ap (λ (k : List Tri). t ∷ k) h
    go (quad q) h = h

-- the live cells that are left
unfoldable pub left_over : Mesh → List Live → List Live
left_over m region = filter live_tri (without_all region m.live)

-- their triangles
abbrev pub left_tris : Mesh → List Live → List Tri
left_tris m region = tris_of (without_all region m.live)

pub over_distinct : (m : Mesh) (region : List Live) → Distinct (slots m.live) → Distinct (slots (left_over m region))
unfolding left_over without_all
over_distinct m region d = distinct_filter live_tri (filter (λ x. not (among region x)) m.live) (distinct_filter (λ x. not (among region x)) m.live d)

distinct_piece : (ks : List (List Live)) (k : List Live) → Distinct (slots (joined ks)) → In k ks → Distinct (slots k)
distinct_piece [] k d x'' = elim x'' [ ]
distinct_piece (l ∷ ks) k d (inl e) = subst (λ (v : List Live). Distinct (slots v)) (sym e) (distinct_right (joined ks) l d)
distinct_piece (l ∷ ks) k d (inr i) = distinct_piece ks k (distinct_left (joined ks) l d) i

number_joined : (c : Tri → Bool) (ks : List (List Live)) → number c (concat (map (map body) ks)) ≡ number (λ y. c (body y)) (joined ks)
unfolding concat flat_map filter
number_joined c [] = refl
number_joined c (k ∷ ks) =
    let h = number_joined c ks in
    let a = number_append c (map body k) (concat (map (map body) ks)) in
    let b = number_append (λ y. c (body y)) (joined ks) k in
    let e = number_map body c k in omega arith

-- of live cells xs: each is among them or left
module _ (m : Mesh) (d : Distinct (slots m.live)) (xs : List Live) (h : (y : Live) → In y xs → In y m.live) where
  among_gone : (y : Live) → In y m.live → among xs y ≡ true → In y xs
  unfolding among
  among_gone y l e =
      let r = any_has y.slot xs e in
      subst (λ (v : Live). In v xs) (same_slot m.live r.0 y d (h r.0 r.1) l r.2) r.1

  pub gone_or_left : (y : Live) → In y m.live → live_tri y ≡ true → In y xs ⊎ In y (left_over m xs)
  unfolding left_over without_all
  gone_or_left y l t = elim (which (among xs y)) [
    | inl e ↦ inl (among_gone y l e)
    | inr e ↦ inr (filter_in live_tri (filter (λ x. not (among xs x)) m.live) (filter_in (λ x. not (among xs x)) m.live l (rw e refl)) t)
  ]

  pub in_left_over : (y : Live) → In y m.live → live_tri y ≡ true → (In y xs → ⊥) → In y (left_over m xs)
  in_left_over y l t o = elim (gone_or_left y l t) [ inl i ↦ absurd (o i) | inr i ↦ i ]

  pub left_over_in : (y : Live) → In y (left_over m xs) → In y m.live × (live_tri y ≡ true) × (In y xs → ⊥)
  unfolding left_over without_all among in_slot
  left_over_in y i =
      let a = in_filter live_tri (filter (λ x. not (among xs x)) m.live) i in
      let b = in_filter (λ x. not (among xs x)) m.live a.0 in
      (b.0, a.1, λ r. never (among xs y) (in_any (in_slot y.slot) xs (y, r, eq-eqb y.slot y.slot refl)) (not-true (among xs y) b.1))

-- their triangles
pub over_tri : (m : Mesh) (xs : List Live) (y : Live) → In y (left_over m xs) → In (body y) (left_tris m xs)
unfolding left_over
over_tri m xs y i = rw (tris_body (without_all xs m.live)) (map_in body y (left_over m xs) i)

pub tri_over : (m : Mesh) (xs : List Live) (t : Tri) → In t (left_tris m xs) → (y : Live) × In y (left_over m xs) × (t ≡ body y)
unfolding left_over
tri_over m xs t i = in_map body t (left_over m xs) (rw (tris_body (without_all xs m.live)) at i)

module _ {w₀ w : List ℕ} {s p n stop : ℕ} {m : Mesh} {region : List Live} {ks : List (List Live)} (g : Sweeping w₀ w s p n stop m region ks) where
  region_live : (y : Live) → In y region → In y m.live
  region_live y i = g.state.live y (in_left y region (joined ks) i)

  in_over : (y : Live) → In y m.live → live_tri y ≡ true → (In y region → ⊥) → In y (left_over m region)
  in_over = in_left_over m g.state.rep.distinct region region_live

  over_in : (y : Live) → In y (left_over m region) → In y m.live × (live_tri y ≡ true) × (In y region → ⊥)
  over_in = left_over_in m g.state.rep.distinct region region_live

  piece_over : (k : List Live) (y : Live) → In k ks → In y k → In y (left_over m region)
  piece_over k y i j =
      let a = joined_in ks k y i j in
      let b = in_right y region (joined ks) a in
      in_over y (g.state.live y b) (tris_at (region ++ joined ks) g.state.tris y b) (λ r. parts_apart region (joined ks) y g.state.distinct r a)

  pub left_distinct : AllDistinct (left_tris m region)
  left_distinct t i =
      let r = tri_over m region t i in
      let o = over_in r.0 r.1 in
      rw r.2 (body_three w s p m g.state.rep r.0 o.0 o.1)

  module _ (k : List Live) (i : In k ks) where
    members : (y : Live) → In y (left_over m region) → meets (body y) (map body k) ≡ true → In y k
    members y j e =
        let o = over_in y j in
        let r = meets_says (body y) (map body k) (body_three w s p m g.state.rep y o.0 o.1) e in
        let v = in_map body r.0 k r.1 in
        elim ((g.pieces k i).closed v.0 y v.1 o.0 o.1 (turned (subst (λ (u : Tri). Shares (body y) u) v.2 r.2))) [
          | inl q ↦ absurd (o.2 q)
          | inr q ↦ q
        ]

    members_meet : (y : Live) → In y k → meets (body y) (map body k) ≡ true
    members_meet y j =
        let o = over_in y (piece_over k y i j) in
        shares_meets (body y) (map body k) (body y) (map_in body y k j) (shares_self (body y) (body_three w s p m g.state.rep y o.0 o.1))

    pass : (y z : Live) → In y (left_over m region) → In z (left_over m region) → Shares (body y) (body z) → meets (body y) (map body k) ≡ true → meets (body z) (map body k) ≡ true
    pass y z a b q e =
        let o = over_in z b in
        elim ((g.pieces k i).closed y z (members y a e) o.0 o.1 q) [
          | inl v ↦ absurd (o.2 v)
          | inr v ↦ members_meet z v
        ]

    pub piece_class : Class (left_tris m region) (map body k)
    piece_class =
        record {
          some = body (g.pieces k i).first;
          has = map_in body (g.pieces k i).first k (g.pieces k i).has;
          inside = λ t j. let r = in_map body t k j in rw r.2 (over_tri m region r.0 (piece_over k r.0 i r.1));
          solid = λ c h a b x y.
              let u = in_map body a k x in
              let v = in_map body b k y in
              let whole : Whole c m region = λ y z l1 l2 t1 t2 o1 o2 q. h (body y) (body z) (over_tri m region y (in_over y l1 t1 o1)) (over_tri m region z (in_over z l2 t2 o2)) q in
              ap c u.2 ∙ (g.pieces k i).linked c whole u.0 v.0 u.1 v.1 ∙ sym (ap c v.2);
          closed = λ a b x y q.
              let u = tri_over m region a x in
              let v = tri_over m region b y in
              let q' : Shares (body u.0) (body v.0) = subst (λ (z : Tri). Shares z (body v.0)) u.2 (subst (λ (z : Tri). Shares a z) v.2 q) in
              ap (λ (z : Tri). meets z (map body k)) u.2
              ∙ same_bool (meets (body u.0) (map body k)) (meets (body v.0) (map body k)) (pass u.0 v.0 u.1 v.1 q') (pass v.0 u.0 v.1 u.1 (turned q'))
              ∙ sym (ap (λ (z : Tri). meets z (map body k)) v.2);
        }

    pub piece_count : number (λ t. meets t (map body k)) (left_tris m region) ≡ length (map body k)
    unfolding left_over
    piece_count =
        ap (number (λ t. meets t (map body k))) (tris_body (without_all region m.live))
        ∙ number_map body (λ t. meets t (map body k)) (left_over m region)
        ∙ same_number (λ y. meets (body y) (map body k)) (λ y. true) (left_over m region) k (over_distinct m region g.state.rep.distinct) (distinct_piece ks k (distinct_right region (joined ks) g.state.distinct) i)
        (λ y j e. (members y j e, refl)) (λ y j e. (piece_over k y i j, members_meet y j))
        ∙ ap length (filter_all (λ y. true) k (λ y j. refl)) ∙ sym (length-map k body)

-- components with no edge in common
pieces_apart : (m : Mesh) (region : List Live) (ks : List (List Live)) → Distinct (slots (region ++ joined ks)) → ((y : Live) → In y (joined ks) → In y m.live × (live_tri y ≡ true))
    → ((k : List Live) → In k ks → Piece m region k) → AllApart (map (map body) ks)
pieces_apart m region [] d h f = tt
pieces_apart m region (k ∷ ks) d h f = (
  λ l i a b x y q.
      let r = in_map (map body) l ks i in
      let u = in_map body a k x in
      let v = in_map body b r.0 (subst (λ (z : List Tri). In b z) r.2 y) in
      let z = v.0 in
      let o = joined_in ks r.0 z r.1 v.1 in
      let g : Shares (body u.0) (body z) = subst (λ (e : Tri). Shares e (body z)) u.2 (subst (λ (e : Tri). Shares a e) v.2 q) in
      let t = h z (in_left z (joined ks) k o) in
      elim ((f k (inl refl)).closed u.0 z u.1 t.0 t.1 g) [
        | inl e ↦ parts_apart region (joined ks ++ k) z d e (in_left z (joined ks) k o)
        | inr e ↦ parts_apart (joined ks) k z (distinct_right region (joined ks ++ k) d) o e
      ],
  pieces_apart m region ks (distinct_left (region ++ joined ks) k (subst (λ (v : List Live). Distinct (slots v)) (sym (append_assoc region (joined ks) k)) d))
      (λ y i. h y (in_left y (joined ks) k i)) (λ l i. f l (inr i)),
)

-- when every slot was passed, they are the components of what is left
pub swept : {w₀ w : List ℕ} {s p n i : ℕ} {m : Mesh} {region : List Live} {ks : List (List Live)} → Sweeping w₀ w s p n i m region ks → m.used ≤ i
    → Parted (left_tris m region) (map (map body) ks)
unfolding left_over
swept {w₀} {w} {s} {p} {n} {i} {m} {region} {ks} g l =
    record {
      same = λ c.
          number_joined c ks
          ∙ same_number (λ y. c (body y)) (λ y. c (body y)) (joined ks) (left_over m region) (distinct_right region (joined ks) g.state.distinct) (over_distinct m region g.state.rep.distinct)
          (λ y j e. (let r = in_joined ks y j in piece_over g r.0 y r.1 r.2, e))
          (λ y j e. (back y (over_in g y j), e))
          ∙ sym (number_map body c (left_over m region)) ∙ sym (ap (number c) (tris_body (without_all region m.live)));
      apart = pieces_apart m region ks g.state.distinct (λ y j. (g.state.live y (in_right y region (joined ks) j), tris_at (region ++ joined ks) g.state.tris y (in_right y region (joined ks) j))) g.pieces;
      class = λ k j. let r = in_map (map body) k ks j in rw r.2 (piece_class g r.0 r.1);
    }
  where
    back : (y : Live) → In y m.live × (live_tri y ≡ true) × (In y region → ⊥) → In y (joined ks)
    back y o = elim (in_either y region (joined ks) (g.past y o.0 o.1 (omega (arith, (rep_held w s p m g.state.rep (in_has y m.live o.0)).inside)))) [
      | inl e ↦ absurd (o.2 e)
      | inr e ↦ e
    ]
