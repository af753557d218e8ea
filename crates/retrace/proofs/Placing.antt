-- A quad placed again: its nodes, its slots, its words.
use Rattle.std.specs.Prelude.{◌≡◌, ◌≢◌, ◌&&◌, ◌||◌, ◌+◌, ◌-◌, ◌<◌, ◌≤◌, ◌∷◌}
use Rattle.laws.specs.Kit.{refl, sym, ◌∙◌, ap, subst, Bool, true, false, not, Option, none, some, ℕ, suc, arith, eqb, ltb, eq-eqb, ne_eqb, lt-ltb, le-ltb, List, [], length, get_or, take, drop}
use lib.Seq.{drop-cons}
use Rattle.rings.specs.Rings.{Distinct}
use Rattle.definition.specs.Lists.{any, all, flat_map}
use Rattle.definition.specs.Plane.{Edge}
use Rattle.definition.specs.Cells.{Quad, Cell, tri, quad, Live, Mesh, new_quad, nodes, quad_nodes, is_tri, live_tri, cell_of, with_live, remove_cell, push_cell}
use Rattle.definition.specs.Replay.{cells_in}
use Rattle.laws.specs.Bools.{never, both}
use Rattle.cells.specs.Rep.{CellAt, Rep, Has}
use Rattle.cells.proofs.Members.{Lookup, absent, present, lookup}
use Rattle.cells.proofs.Slots.{read_tri, read_quad, rep_held, cell_none, cell_some}
use Rattle.cells.proofs.Frames.{rep_as}
use Rattle.cells.proofs.Notes.{grown_same}
use Rattle.meshes.specs.Changes.{born_of_nodes, quad_of_nodes, CanPush, Turns}
use Rattle.retrace.specs.Stored.{four, plain, stored}
use Rattle.retrace.specs.Takes.{has_tri, taking, TakesTo, TakesOut, CanPlace, Places}
use Rattle.retrace.proofs.Keeping.{stored_used, stored_points, stored_push, stored_skip}

-- ---- four nodes

module _ (n a b c d : ℕ) where
  pub known_0 : n ≤ a → false ≡ all (λ v. ltb v n) (a ∷ b ∷ c ∷ d ∷ [])
  unfolding all
  known_0 e = rw (le-ltb a n e) refl

  pub known_1 : a < n → n ≤ b → false ≡ all (λ v. ltb v n) (a ∷ b ∷ c ∷ d ∷ [])
  unfolding all
  known_1 e f = rw (lt-ltb a n e, le-ltb b n f) refl

  pub known_2 : a < n → b < n → n ≤ c → false ≡ all (λ v. ltb v n) (a ∷ b ∷ c ∷ d ∷ [])
  unfolding all
  known_2 e f g = rw (lt-ltb a n e, lt-ltb b n f, le-ltb c n g) refl

  pub known_3 : a < n → b < n → c < n → ltb d n ≡ all (λ v. ltb v n) (a ∷ b ∷ c ∷ d ∷ [])
  unfolding all
  known_3 e f g = rw (lt-ltb a n e, lt-ltb b n f, lt-ltb c n g) (last (ltb d n))
    where
      last : (x : Bool) → x ≡ (x && true)
      last true = refl
      last false = refl

module _ (e : Edge) (round gone a b c d : ℕ) where
  pub twice_01 : a ≡ b → true ≡ not (four (born_of_nodes e round gone a b c d))
  unfolding four
  twice_01 p = rw (eq-eqb a b p) refl

  pub twice_02 : a ≢ b → a ≡ c → true ≡ not (four (born_of_nodes e round gone a b c d))
  unfolding four
  twice_02 p q = rw (ne_eqb a b p, eq-eqb a c q) refl

  pub twice_03 : a ≢ b → a ≢ c → a ≡ d → true ≡ not (four (born_of_nodes e round gone a b c d))
  unfolding four
  twice_03 p q r = rw (ne_eqb a b p, ne_eqb a c q, eq-eqb a d r) refl

  pub twice_12 : a ≢ b → a ≢ c → a ≢ d → b ≡ c → true ≡ not (four (born_of_nodes e round gone a b c d))
  unfolding four
  twice_12 p q r s = rw (ne_eqb a b p, ne_eqb a c q, ne_eqb a d r, eq-eqb b c s) refl

  pub twice_13 : a ≢ b → a ≢ c → a ≢ d → b ≢ c → b ≡ d → true ≡ not (four (born_of_nodes e round gone a b c d))
  unfolding four
  twice_13 p q r s t = rw (ne_eqb a b p, ne_eqb a c q, ne_eqb a d r, ne_eqb b c s, eq-eqb b d t) refl

  pub twice_23 : a ≢ b → a ≢ c → a ≢ d → b ≢ c → b ≢ d → eqb c d ≡ not (four (born_of_nodes e round gone a b c d))
  unfolding four
  twice_23 p q r s t = rw (ne_eqb a b p, ne_eqb a c q, ne_eqb a d r, ne_eqb b c s, ne_eqb b d t) (last (eqb c d))
    where
      last : (x : Bool) → x ≡ not (not x)
      last true = refl
      last false = refl

  apart : (x y : ℕ) → not (eqb x y) ≡ true → x ≢ y
  apart x y h q = never (not (eqb x y)) h (rw (eq-eqb x y q) refl)

  -- the nodes of a quad that has none twice
  pub four_distinct : four (born_of_nodes e round gone a b c d) ≡ true → Distinct (a ∷ b ∷ c ∷ d ∷ [])
  unfolding four
  four_distinct h =
      let n01 = not (eqb a b) in
      let n02 = not (eqb a c) in
      let n03 = not (eqb a d) in
      let n12 = not (eqb b c) in
      let n13 = not (eqb b d) in
      let n23 = not (eqb c d) in
      let h5 = both (n01 && n02 && n03 && n12 && n13) n23 h in
      let h4 = both (n01 && n02 && n03 && n12) n13 h5.0 in
      let h3 = both (n01 && n02 && n03) n12 h4.0 in
      let h2 = both (n01 && n02) n03 h3.0 in
      let h1 = both n01 n02 h2.0 in
      let out : (x y : ℕ) → not (eqb x y) ≡ true → y ≡ x → ⊥ = λ x y k q. apart x y k (sym q) in
      ((out a b h1.0, (out a c h1.1, (out a d h2.1, tt))), ((out b c h3.1, (out b d h4.1, tt)), ((out c d h5.1, tt), (tt, tt))))

-- ---- the slots, one after the other

module _ (m : Mesh) (i : ℕ) where
  pub has_nothing : cell_of m i ≡ none → has_tri m i ≡ false
  unfolding has_tri cells_in flat_map any
  has_nothing e = rw e refl

  pub has_some : (x : Live) → cell_of m i ≡ some x → has_tri m i ≡ live_tri x
  unfolding has_tri cells_in flat_map any
  has_some x e = rw e (last (live_tri x))
    where
      last : (y : Bool) → (y || false) ≡ y
      last true = refl
      last false = refl

module _ (w : List ℕ) (s p : ℕ) (m : Mesh) (r : Rep w s p m) (i : ℕ) where
  at_slot : (x : Live) (c : Cell) → x.cell ≡ c → x.slot ≡ i → Has x m.live → CellAt w s i c
  at_slot x c e q h = subst (λ (j : ℕ). CellAt w s j c) q (subst (λ (y : Cell). CellAt w s x.slot y) e (rep_held w s p m r h).at)

  pub has_yes : i < s → get_or w i 0 ≡ 3 → has_tri m i ≡ true
  unfolding live_tri is_tri
  has_yes l k = go (lookup i m.live)
    where
      kind : (x : Live) (c : Cell) → x.cell ≡ c → x.slot ≡ i → Has x m.live → is_tri c ≡ true
      kind x (tri t) e q h = refl
      kind x (quad t) e q h = absurd (let z = (read_quad w s i t (at_slot x (quad t) e q h)).kind in omega arith)

      go : Lookup i m.live → has_tri m i ≡ true
      go (absent o) = absurd (let z = r.dead i l o in omega arith)
      go (present x q h) = has_some m i x (cell_some w s p m r i x q h) ∙ kind x x.cell refl q h

  pub has_no : get_or w i 0 ≢ 3 → has_tri m i ≡ false
  unfolding live_tri is_tri
  has_no k = go (lookup i m.live)
    where
      kind : (x : Live) (c : Cell) → x.cell ≡ c → x.slot ≡ i → Has x m.live → is_tri c ≡ false
      kind x (tri t) e q h = absurd (k (read_tri w s i t (at_slot x (tri t) e q h)).kind)
      kind x (quad t) e q h = refl

      go : Lookup i m.live → has_tri m i ≡ false
      go (absent o) = has_nothing m i (cell_none m i o)
      go (present x q h) = has_some m i x (cell_some w s p m r i x q h) ∙ kind x x.cell refl q h

  pub has_beyond : s ≤ i → has_tri m i ≡ false
  has_beyond l = go (lookup i m.live)
    where
      go : Lookup i m.live → has_tri m i ≡ false
      go (absent o) = has_nothing m i (cell_none m i o)
      go (present x q h) = absurd (omega (arith, (rep_held w s p m r h).inside, r.used))

taking_yes : (m : Mesh) (i : ℕ) (ids : List ℕ) → has_tri m i ≡ true → taking m (i ∷ ids) ≡ taking (remove_cell m i) ids
unfolding taking
taking_yes m i ids e = rw (e, taking) refl

taking_no : (m : Mesh) (i : ℕ) (ids : List ℕ) → has_tri m i ≡ false → taking m (i ∷ ids) ≡ none
unfolding taking
taking_no m i ids e = rw (e, taking) refl

taking_all : (m : Mesh) → taking m [] ≡ some m
unfolding taking
taking_all m = refl

-- after k of the n slots
pub record Going (w₀ w trace : List ℕ) (s p from n k : ℕ) : Type 0 where
  pub within : k ≤ n
  pub len : length w ≡ length w₀
  pub is : (m : Mesh) → Rep w₀ s p m → (m' : Mesh) × Rep w s p m' × (taking m (take n (drop from trace)) ≡ taking m' (take (n - k) (drop (from + k) trace)))

pub going_none : (w trace : List ℕ) (s p from n : ℕ) → Going w w trace s p from n 0
going_none w trace s p from n =
    let a : n ≡ n - 0 = omega arith in
    let b : from ≡ from + 0 = omega arith in
    record { within = omega arith; len = refl; is = λ m r. (m, r, λ i. taking m (take (a i) (drop (b i) trace))) }

module _ (w₀ w trace : List ℕ) (s p from n k : ℕ) (h : Going w₀ w trace s p from n k) (fits : from + n ≤ length trace) where
  pub going_all : n ≤ k → TakesOut w₀ w trace s p from n true
  going_all l =
      record {
        is = λ m r.
            let g = h.is m r in
            let z : n - k ≡ 0 = omega arith in
            let e : taking m (take n (drop from trace)) ≡ some g.0 = g.2 ∙ ap (λ (j : ℕ). taking g.0 (take j (drop (from + k) trace))) z ∙ taking_all g.0 in
            subst (λ (o : Option Mesh). TakesTo w s p o true) (sym e) ((refl, g.1));
        len = h.len;
      }

  module _ (l : k < n) (i : ℕ) (e : i ≡ get_or trace (from + k) 0) where
    next : (m : Mesh) → taking m (take (n - k) (drop (from + k) trace)) ≡ taking m (i ∷ take (n - (k + 1)) (drop (from + (k + 1)) trace))
    next m =
        let a : n - k ≡ suc (n - (k + 1)) = omega arith in
        let b : suc (from + k) ≡ from + (k + 1) = omega arith in
        ap (λ (j : ℕ). taking m (take j (drop (from + k) trace))) a
        ∙ ap (λ (z : List ℕ). taking m (take (suc (n - (k + 1))) z)) (drop-cons trace (from + k) 0 (omega arith))
        ∙ (λ j. taking m (sym e j ∷ take (n - (k + 1)) (drop (b j) trace)))

    pub going_no : ((m : Mesh) → Rep w s p m → has_tri m i ≡ false) → TakesOut w₀ w trace s p from n false
    going_no f =
        record {
          is = λ m r.
              let g = h.is m r in
              let z = g.2 ∙ next g.0 ∙ taking_no g.0 i (take (n - (k + 1)) (drop (from + (k + 1)) trace)) (f g.0 g.1) in
              subst (λ (o : Option Mesh). TakesTo w s p o false) (sym z) refl;
          len = h.len;
        }

    pub going_more : ((m : Mesh) → Rep w s p m → has_tri m i ≡ true) → (w' : List ℕ) → ((m : Mesh) → Rep w s p m → Rep w' s p (remove_cell m i)) → length w' ≡ length w
        → Going w₀ w' trace s p from n (k + 1)
    going_more f w' t q =
        record {
          within = omega arith;
          len = q ∙ h.len;
          is = λ m r.
              let g = h.is m r in
              (remove_cell g.0 i, t g.0 g.1, g.2 ∙ next g.0 ∙ taking_yes g.0 i (take (n - (k + 1)) (drop (from + (k + 1)) trace)) (f g.0 g.1));
        }

-- ---- the quad takes a slot

un_true : (x : Bool) → true ≡ not x → x ≡ false
un_true true q = never true refl q
un_true false q = refl

un_false : (x : Bool) → false ≡ not x → x ≡ true
un_false true q = refl
un_false false q = never true refl (sym q)

module _ (w : List ℕ) (s p i a b c d : ℕ) where
  module _ (e : Edge) (round gone : ℕ) where
    abbrev the_quad : Quad
    the_quad = born_of_nodes e round gone a b c d

    plain_is : plain (quad the_quad) ≡ four the_quad
    unfolding plain
    plain_is = refl

    -- one that is not stored
    skipped : (m : Mesh) → Rep w s p (stored m) → CanPlace m s i a b c d → four the_quad ≡ false → Rep w s p (stored (push_cell m (quad the_quad)))
    unfolding with_live
    skipped m r h f =
        let u : (stored m).used ≡ m.used = stored_used m in
        let after = with_live (stored m) (suc m.used) (stored m).live in
        subst (Rep w s p) (sym (stored_skip m (quad the_quad) (plain_is ∙ f)))
        (rep_as w s p (stored m) after r (omega (arith, u)) (omega (arith, h.next, h.free)) (grown_same (stored m) after refl) r.points refl)

  pub placed_odd : ((e : Edge) (round gone : ℕ) → true ≡ not (four (born_of_nodes e round gone a b c d))) → Places w w s p i a b c d true
  placed_odd h = record { rep = λ m r k e round gone. skipped e round gone m r k (un_true (four (the_quad e round gone)) (h e round gone)); odd = h; len = refl }

  module _ (h : (e : Edge) (round gone : ℕ) → false ≡ not (four (born_of_nodes e round gone a b c d))) where
    pub can_push : (m : Mesh) → CanPlace m s i a b c d → CanPush (stored m) s i (quad_of_nodes a b c d)
    unfolding nodes quad_nodes new_quad
    can_push m k =
        let n : length (stored m).points ≡ length m.points = ap length (stored_points m) in
        record {
          next = k.next ∙ sym (stored_used m);
          free = k.free;
          shape = record {
            distinct = four_distinct (0, 0) 0 0 a b c d (un_false (four (the_quad (0, 0) 0 0)) (h (0, 0) 0 0));
            known = (omega (arith, k.n0), (omega (arith, k.n1), (omega (arith, k.n2), (omega (arith, k.n3), tt))));
          };
        }

    pub placed_four : (w' : List ℕ)
        → ((e : Edge) (round gone : ℕ) → Turns w w' s p (λ m. CanPush m s i (quad_of_nodes a b c d)) (λ m. push_cell m (quad (born_of_nodes e round gone a b c d))))
        → Places w w' s p i a b c d false
    placed_four w' t =
        record {
          rep = λ m r k e round gone.
              subst (Rep w' s p) (sym (stored_push m (quad (the_quad e round gone)) (plain_is e round gone ∙ un_false (four (the_quad e round gone)) (h e round gone))))
              ((t e round gone).rep (stored m) r (can_push m k));
          odd = h;
          len = (t (0, 0) 0 0).keeps.len;
        }
