-- `block`: the edge's record has the birth k, so it stands; every other edge stands as before.
use Rattle.std.specs.Prelude.{◌≡◌, ◌||◌, ◌+◌, ◌*◌, ◌<◌, ◌≤◌, ◌∷◌}
use Rattle.laws.specs.Kit.{refl, sym, ◌∙◌, ap, subst, inl, inr, Bool, true, false, ℕ, suc, arith, eqb, eqb-true, eqb-false, lt-ltb, le-ltb, List, length, get_or, set, length-set}
use Rattle.definition.specs.Plane.{Edge}
use Rattle.definition.specs.Lists.{any}
use Rattle.definition.specs.Cells.{same_edge, has_edge_in}
use Rattle.laws.specs.Bools.{never, which}
use Rattle.laws.specs.Cells.{same_self, same_is}
use Rattle.laws.specs.Frames.{on, off}
use Rattle.blocked_edges.specs.Records.{other, birth, next, head, touched, size, Kept, list_of, newest, place, IsEdge, Lists, stands}
use Rattle.blocked_edges.specs.Blocks.{Blocks, CanBlock, Refused}
use Rattle.blocked_edges.proofs.Edges.{list_below, place_below, place_has, place_one, place_here, place_there, with_old, with_new}
use Rattle.blocked_edges.proofs.Framing.{written_same, lists_same, stands_same}
use Rattle.blocked_edges.proofs.Standing.{stands_true}

-- an edge other than x has its record where it was, with the birth that it had
record Other (w w' : List ℕ) (b n : ℕ) (ever ever' : List Edge) (e : Edge) : Type 0 where
  where_it_was : place n e ever' ≡ place n e ever
  as_it_was : place n e ever < n → birth w' b n (place n e ever) ≡ birth w b n (place n e ever)

-- one law for an edge that has a record and for a new one
refuse : (w w' : List ℕ) (b n p k : ℕ) (x : Edge) (ever ever' bl : List Edge) → Blocks w b n p k ever bl
    → ((v : ℕ) → v < p → touched w' b n p v ≡ touched w b n p v)
    → place n x ever' < n → birth w' b n (place n x ever') ≡ k
    → ((e : Edge) → same_edge e x ≡ false → Other w w' b n ever ever' e)
    → (e : Edge) → IsEdge p e → has_edge_in (x ∷ bl) e ≡ stands w' b n p ever' e
unfolding has_edge_in any
refuse w w' b n p k x ever ever' bl h at l born others e ie = go (same_edge e x) refl
  where
    go : (t : Bool) → same_edge e x ≡ t → (t || has_edge_in bl e) ≡ stands w' b n p ever' e
    go true s =
        let o = ie.order in
        let m = ie.below in
        let q : place n e ever' ≡ place n x ever' = ap (λ (f : Edge). place n f ever') (same_is e x s) in
        let y : birth w' b n (place n e ever') ≡ k = ap (λ (i : ℕ). birth w' b n i) q ∙ born in
        let t0 = h.touches e.0 (omega arith) in
        let t1 = h.touches e.1 m in
        let a0 = at e.0 (omega arith) in
        let a1 = at e.1 m in
        sym (stands_true w' b n p ever' e (place n e ever') refl (omega arith) (omega arith) (omega arith))
    go false s =
        let o = ie.order in
        let m = ie.below in
        let r = others e s in
        h.blocked e ie ∙ sym (stands_same w w' b n p ever ever' e r.where_it_was r.as_it_was (at e.0 (omega arith)) (at e.1 m))

-- ---- an edge that has a record

module _ (w : List ℕ) (b n p k i : ℕ) (x : Edge) (ever bl : List Edge) (h : Blocks w b n p k ever bl) (q : i ≡ place n x ever) (l : i < n) where
  long : b + 3 * n + 2 * p ≤ length w
  long = let f = h.lists.room.fits in omega arith

  births_old : (j : ℕ) → j < length ever → birth (set w (b + n + i) k) b n j ≤ k
  births_old j m = elim (which (eqb j i)) [
    | inl e ↦ let z = eqb-true j i e in let f = long in let y : birth (set w (b + n + i) k) b n j ≡ k = rw z (on w (b + n + i) k (omega arith)) in omega arith
    | inr e ↦ let d = eqb-false j i e in rw (off w (b + n + i) k (b + n + j) (omega arith)) (h.births j m)
  ]

  others_old : (e : Edge) → same_edge e x ≡ false → Other w (set w (b + n + i) k) b n ever ever e
  others_old e s =
      record {
        where_it_was = refl;
        as_it_was = λ m. off w (b + n + i) k (b + n + place n e ever)
            (λ z. let y : place n e ever ≡ place n x ever = omega arith in never (same_edge e x) (rw (place_one n e x ever m y) (same_self x)) s);
      }

  block_old : Blocks (set w (b + n + i) k) b n p k ever (x ∷ bl)
  block_old =
      let f = long in
      let c = h.lists.count in
      let at : (v : ℕ) → v < p → touched (set w (b + n + i) k) b n p v ≡ touched w b n p v = λ v m. off w (b + n + i) k (b + 3 * n + p + v) (omega arith) in
      record {
        lists = lists_same w (set w (b + n + i) k) b n p ever (record {
          len = simp length-set;
          others = λ j m. off w (b + n + i) k (b + j) (omega arith);
          nexts = λ j m. off w (b + n + i) k (b + 2 * n + j) (omega arith);
          heads = λ v m. off w (b + n + i) k (b + 3 * n + v) (omega arith);
        }) h.lists;
        quads = h.quads;
        births = births_old;
        touches = λ v m. rw (at v m) (h.touches v m);
        blocked = refuse w (set w (b + n + i) k) b n p k x ever ever bl h at (omega arith)
            (ap (λ (j : ℕ). birth (set w (b + n + i) k) b n j) (sym q) ∙ on w (b + n + i) k (omega arith)) others_old;
      }

  pub kept_old : Kept w (set w (b + n + i) k) b (size n p)
  kept_old = record { len = simp length-set; low = λ j m. off w (b + n + i) k j (omega arith); high = λ j m. off w (b + n + i) k j (omega arith) }

-- ---- a new edge

-- what `block` stores: larger node, birth and next of record c, and the head of list u
abbrev pub new_w : List ℕ → ℕ → ℕ → ℕ → ℕ → ℕ → ℕ → ℕ → ℕ → List ℕ
new_w w b n c u o t x h = set (set (set (set w (b + c) o) (b + n + c) t) (b + 2 * n + c) x) (b + 3 * n + u) h

-- the numbers stored are those of an edge with the larger node v after k quads, before what list u had
pub record Right (w : List ℕ) (b n c k u v o t x h : ℕ) : Type 0 where
  pub its_other : o ≡ v
  pub its_birth : t ≡ k
  pub its_next : x ≡ head w b n u
  pub its_head : h ≡ c

-- record c is that of an edge with the larger node v, first in list u; all else is the same
record New (w w' : List ℕ) (b n p c k u v : ℕ) : Type 0 where
  len : length w' ≡ length w
  its_other : other w' b c ≡ v
  its_birth : birth w' b n c ≡ k
  its_next : next w' b n c ≡ head w b n u
  its_head : head w' b n u ≡ c
  others : (i : ℕ) → i < c → other w' b i ≡ other w b i
  births : (i : ℕ) → i < c → birth w' b n i ≡ birth w b n i
  nexts : (i : ℕ) → i < c → next w' b n i ≡ next w b n i
  heads : (x : ℕ) → x < p → (x ≡ u → ⊥) → head w' b n x ≡ head w b n x
  touches : (x : ℕ) → x < p → touched w' b n p x ≡ touched w b n p x

module _ (w : List ℕ) (b n p c u o t x h : ℕ) (cn : c < n) (up : u < p) where
  apart : (j : ℕ) → (j ≡ b + c → ⊥) → (j ≡ b + n + c → ⊥) → (j ≡ b + 2 * n + c → ⊥) → (j ≡ b + 3 * n + u → ⊥) → get_or (new_w w b n c u o t x h) j 0 ≡ get_or w j 0
  apart j d0 d1 d2 d3 =
      let w1 = set w (b + c) o in
      let w2 = set w1 (b + n + c) t in
      let w3 = set w2 (b + 2 * n + c) x in
      off w3 (b + 3 * n + u) h j d3 ∙ off w2 (b + 2 * n + c) x j d2 ∙ off w1 (b + n + c) t j d1 ∙ off w (b + c) o j d0

  pub kept_new : Kept w (new_w w b n c u o t x h) b (size n p)
  kept_new =
      record {
        len = simp length-set;
        low = λ j m. apart j (omega arith) (omega arith) (omega arith) (omega arith);
        high = λ j m. apart j (omega arith) (omega arith) (omega arith) (omega arith);
      }

  new : (k v : ℕ) → b + 3 * n + 2 * p ≤ length w → Right w b n c k u v o t x h → New w (new_w w b n c u o t x h) b n p c k u v
  new k v fits r =
      let w1 = set w (b + c) o in
      let w2 = set w1 (b + n + c) t in
      let w3 = set w2 (b + 2 * n + c) x in
      let l1 : length w1 ≡ length w = simp length-set in
      let l2 : length w2 ≡ length w = simp length-set in
      let l3 : length w3 ≡ length w = simp length-set in
      record {
        len = simp length-set;
        its_other = off w3 (b + 3 * n + u) h (b + c) (omega arith) ∙ off w2 (b + 2 * n + c) x (b + c) (omega arith) ∙ off w1 (b + n + c) t (b + c) (omega arith) ∙ on w (b + c) o (omega arith) ∙ r.its_other;
        its_birth = off w3 (b + 3 * n + u) h (b + n + c) (omega arith) ∙ off w2 (b + 2 * n + c) x (b + n + c) (omega arith) ∙ on w1 (b + n + c) t (omega arith) ∙ r.its_birth;
        its_next = off w3 (b + 3 * n + u) h (b + 2 * n + c) (omega arith) ∙ on w2 (b + 2 * n + c) x (omega arith) ∙ r.its_next;
        its_head = on w3 (b + 3 * n + u) h (omega arith) ∙ r.its_head;
        others = λ i m. apart (b + i) (omega arith) (omega arith) (omega arith) (omega arith);
        births = λ i m. apart (b + n + i) (omega arith) (omega arith) (omega arith) (omega arith);
        nexts = λ i m. apart (b + 2 * n + i) (omega arith) (omega arith) (omega arith) (omega arith);
        heads = λ y m d. apart (b + 3 * n + y) (omega arith) (omega arith) (omega arith) (omega arith);
        touches = λ y m. apart (b + 3 * n + p + y) (omega arith) (omega arith) (omega arith) (omega arith);
      }

module _ (w w' : List ℕ) (b n p c k u v : ℕ) (ever bl : List Edge) (h : Blocks w b n p k ever bl) (q : c ≡ length ever) (ie : IsEdge p (u, v)) (cn : c < n)
    (no : has_edge_in ever (u, v) ≡ false) (d : New w w' b n p c k (list_of p (u, v)) v) where
  heads_new : (x : ℕ) → x < p → head w' b n x ≡ newest n p x ((u, v) ∷ ever)
  unfolding newest
  heads_new x m = elim (which (eqb (list_of p (u, v)) x)) [
    | inl e ↦ let z = eqb-true (list_of p (u, v)) x e in rw e (ap (λ (y : ℕ). head w' b n y) (sym z) ∙ d.its_head ∙ q)
    | inr e ↦ let z = eqb-false (list_of p (u, v)) x e in rw e (d.heads x m (λ y. z (sym y)) ∙ h.lists.heads x m)
  ]

  lists_new : Lists w' b n p ((u, v) ∷ ever)
  lists_new =
      let o = ie.order in
      let m = ie.below in
      let f = h.lists.room.fits in
      let len = d.len in
      record {
        room = record { fits = omega arith; few_records = h.lists.room.few_records; few_nodes = h.lists.room.few_nodes };
        count = omega arith;
        distinct = (ie, no, h.lists.distinct);
        heads = heads_new;
        written = (
          ap (λ (i : ℕ). other w' b i) (sym q) ∙ d.its_other,
          ap (λ (i : ℕ). next w' b n i) (sym q) ∙ d.its_next ∙ h.lists.heads (list_of p (u, v)) (list_below p (u, v) ie),
          written_same (other w b) (next w b n) (other w' b) (next w' b n) n p ever (λ i l. d.others i (omega arith)) (λ i l. d.nexts i (omega arith)) h.lists.written,
        );
      }

  births_new : (i : ℕ) → i < suc (length ever) → birth w' b n i ≤ k
  births_new i l = elim (which (eqb i c)) [
    | inl e ↦ let z = ap (λ (j : ℕ). birth w' b n j) (eqb-true i c e) ∙ d.its_birth in omega arith
    | inr e ↦ let z = eqb-false i c e in rw (d.births i (omega arith)) (h.births i (omega arith))
  ]

  block_new : Blocks w' b n p k ((u, v) ∷ ever) ((u, v) ∷ bl)
  block_new =
      let e = place_here n (u, v) ever in
      record {
        lists = lists_new;
        quads = h.quads;
        births = births_new;
        touches = λ x m. rw (d.touches x m) (h.touches x m);
        blocked = refuse w w' b n p k (u, v) ever ((u, v) ∷ ever) bl h d.touches (omega arith) (ap (λ (i : ℕ). birth w' b n i) (e ∙ sym q) ∙ d.its_birth)
            (λ f s. record {
              where_it_was = place_there n f (u, v) ever s;
              as_it_was = λ l. let y = place_below n f ever l in d.births (place n f ever) (omega arith);
            });
      }

-- ---- what the function's proof cites

-- the edge has a record: its birth is written
pub old_to : (w : List ℕ) (b n p c k u v i : ℕ) (ever bl : List Edge) → Blocks w b n p k ever bl → c ≡ length ever → i ≡ place n (u, v) ever → i < n
    → Refused (set w (b + n + i) k) b n p k u v c ever bl
old_to w b n p c k u v i ever bl h q at l =
    let yes : has_edge_in ever (u, v) ≡ true = place_has n (u, v) ever h.lists.count ∙ lt-ltb (place n (u, v) ever) n (omega arith) in
    record {
      count = rw (with_old (u, v) ever yes) q;
      blocks = rw (with_old (u, v) ever yes) (block_old w b n p k i (u, v) ever bl h at l);
    }

has_none : (n : ℕ) (e : Edge) (i : ℕ) (ever : List Edge) → length ever ≤ n → i ≡ place n e ever → n ≤ i → has_edge_in ever e ≡ false
has_none n e i ever c at l = place_has n e ever c ∙ le-ltb (place n e ever) n (omega arith)

-- there is room for a new record
pub room_new : (w : List ℕ) (b n p c k u v i : ℕ) (ever bl : List Edge) → CanBlock w b n p c k u v ever bl → i ≡ place n (u, v) ever → n ≤ i → c < n
room_new w b n p c k u v i ever bl h at l =
    let e = h.enough in
    let q = h.count in
    let z = ap (λ (x : List Edge). length x) (with_new (u, v) ever (has_none n (u, v) i ever h.blocks.lists.count at l)) in
    omega arith

-- the edge has none: record c is written
pub new_to : (w : List ℕ) (b n p c k u v i g o t x h : ℕ) (ever bl : List Edge) → IsEdge p (u, v) → g ≡ list_of p (u, v) → c < n → n ≤ i → Right w b n c k g v o t x h
    → Blocks w b n p k ever bl → c ≡ length ever → i ≡ place n (u, v) ever → Refused (new_w w b n c g o t x h) b n p k u v (c + 1) ever bl
new_to w b n p c k u v i g o t x h ever bl ie gl cn l right r q at =
    let no = has_none n (u, v) i ever r.lists.count at l in
    let lower = list_below p (u, v) ie in
    let fits = r.lists.room.fits in
    let made = new w b n p c g o t x h cn (omega arith) k v (omega arith) right in
    record {
      count = rw (with_new (u, v) ever no) (omega arith);
      blocks = rw (with_new (u, v) ever no)
          (block_new w (new_w w b n c g o t x h) b n p c k u v ever bl r q ie cn no (subst (λ (y : ℕ). New w (new_w w b n c g o t x h) b n p c k y v) gl made));
    }
