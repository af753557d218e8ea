-- The front edges of a node are noted after a walk.
use Rattle.std.specs.Prelude.{◌≡◌, ◌≢◌, ◌+◌, ◌*◌, ◌%◌, ◌<◌, ◌≤◌, ◌∷◌}
use Rattle.laws.specs.Kit.{refl, sym, ◌∙◌, ap, subst, inl, inr, true, ℕ, suc, arith, dec_le, eqb, eq-eqb, eqb-true, List, [], length, get_or, set, length-set}
use Rattle.definition.specs.Lists.{contains}
use Rattle.definition.specs.Plane.{Edge}
use Rattle.definition.specs.Cells.{Mesh, key, is_front, front_at}
use Rattle.laws.specs.Lists.{In, all_from, all_at, in_any, any_in, stored_kept}
use Rattle.laws.specs.Bools.{same_bool}
use Rattle.laws.specs.Frames.{on, off}
use Rattle.account.specs.Valid.{Valid}
use Rattle.cells.specs.Layout.{notes_at, fronts_at, boxes_at, even_at, front_u_at, front_v_at}
use Rattle.cells.specs.Notes.{note, ends, bound, Fronts, NoteAt}
use Rattle.cells.proofs.Frames.{rep_under}
use Rattle.meshes.proofs.Valid.{valid}
use Rattle.front_edges.specs.Rows.{Ascending}
use Rattle.front_edges.specs.Runs.{pairs, Run, Good, NodeTo}
use Rattle.front_edges.specs.Noting.{CanMark, Marked, CanNote, NoteTo, CanSearch, EdgesTo}
use Rattle.front_edges.proofs.Members.{at_of, at_in, all_ends}
use Rattle.front_edges.proofs.Puts.{beyond_under}
use Rattle.front_edges.proofs.Notes.{rep_noted}

-- ---- what a note says

contains_in : (vs : List ℕ) (v : ℕ) → contains vs v ≡ true → In v vs
unfolding contains
contains_in vs v h = let g = any_in (eqb v) vs h in subst (λ (x : ℕ). In x vs) (sym (eqb-true v g.0 g.2)) g.1

in_contains : (vs : List ℕ) (v : ℕ) → In v vs → contains vs v ≡ true
unfolding contains
in_contains vs v i = in_any (eqb v) vs (v, i, eq-eqb v v refl)

pairs_in : (u v : ℕ) (vs : List ℕ) → In v vs → In (u, v) (pairs u vs)
pairs_in u v [] x' = elim x' [ ]
pairs_in u v (x ∷ vs) (inl e) = inl (ap (λ (z : ℕ). (u, z)) e)
pairs_in u v (x ∷ vs) (inr i) = inr (pairs_in u v vs i)

in_pairs : (u v : ℕ) (vs : List ℕ) → In (u, v) (pairs u vs) → In v vs
in_pairs u v [] x' = elim x' [ ]
in_pairs u v (x ∷ vs) (inl e) = inl (ap (λ (d : Edge). d.1) e)
in_pairs u v (x ∷ vs) (inr i) = inr (in_pairs u v vs i)

pub pairs_length : (u : ℕ) (vs : List ℕ) → length (pairs u vs) ≡ length vs
pairs_length u [] = refl
pairs_length u (v ∷ vs) = ap suc (pairs_length u vs)

module _ (m : Mesh) (ok : Valid m) (u : ℕ) (vs : List ℕ) where
  -- the ends that a note has are those of the front edges
  pub fronts_are : u < length m.points → Fronts m u vs → pairs u vs ≡ front_at m u
  fronts_are known f =
      all_ends m ok u known vs f.up.1
      (λ v i. let h : u < v = all_at (λ t. u < t) vs f.up.0 v i in record { up = h; front = f.all v h ∙ in_contains vs v i })
      (λ v g. contains_in vs v (sym (f.all v g.up) ∙ g.front))

  -- ascending ends whose pairs are the front edges are those of the front edges
  pub are_fronts : Ascending vs → pairs u vs ≡ front_at m u → Fronts m u vs
  are_fronts a e =
      let good : (v : ℕ) → In v vs → Good m u v = λ v i. (at_of m ok u (u, v) (subst (λ (es : List Edge). In (u, v) es) e (pairs_in u v vs i))).1 in
      record {
        up = (all_from vs (λ v i. (good v i).up), a);
        all = λ v h.
            same_bool (is_front m (key u v)) (contains vs v)
            (λ y. in_contains vs v (in_pairs u v vs (subst (λ (es : List Edge). In (u, v) es) (sym e) (at_in m ok u v (record { up = h; front = y })))))
            (λ y. (good v (contains_in vs v y)).front);
      }

-- ---- the words of a note

-- only the places for the ends of u changed
pub record Written (w w1 : List ℕ) (s p u : ℕ) : Type 0 where
  pub len : length w1 ≡ length w
  pub low : (i : ℕ) → i < fronts_at s p → get_or w1 i 0 ≡ get_or w i 0
  pub others : (v : ℕ) → v < s → v ≢ u → (i : ℕ) → fronts_at s p + 2 * v ≤ i → i < fronts_at s p + 2 * v + 2 → get_or w1 i 0 ≡ get_or w i 0
  pub high : (i : ℕ) → boxes_at s p ≤ i → get_or w1 i 0 ≡ get_or w i 0

module _ (w w1 : List ℕ) (s p u : ℕ) (can : CanMark w s p u) (h : Written w w1 s p u) (vs : List ℕ) where
  abbrev first : List ℕ → ℕ
  first l = get_or l (fronts_at s p + 2 * u) 0

  abbrev second : List ℕ → ℕ
  second l = get_or l (fronts_at s p + 2 * u + 1) 0

  abbrev word : ℕ
  word = note w s p u + suc (length vs)

  abbrev w' : List ℕ
  w' = set w1 (notes_at s p + u) word

  kept : (i : ℕ) → i ≢ notes_at s p + u → get_or w' i 0 ≡ get_or w1 i 0
  kept i d = off w1 (notes_at s p + u) word i d

  marked : ends (word % 4) (first w1) (second w1) ≡ vs → Marked w w' s p u vs
  marked e =
      let up = can.known in
      let z : note w' s p u ≡ word = on w1 (notes_at s p + u) word (omega (arith, can.room.fits, h.len)) in
      let a : first w' ≡ first w1 = kept (fronts_at s p + 2 * u) (omega arith) in
      let b : second w' ≡ second w1 = kept (fronts_at s p + 2 * u + 1) (omega arith) in
      record {
        len = simp length-set h.len;
        below = λ i l. kept i (omega arith) ∙ h.low i (omega arith);
        even = kept (even_at s p) (omega arith) ∙ h.high (even_at s p) (omega arith);
        beyond = λ i l. kept i (omega arith) ∙ h.high i (omega arith);
        others = λ v l d. record {
          word = kept (notes_at s p + v) (omega arith) ∙ h.low (notes_at s p + v) (omega arith);
          fronts = λ q i x y. kept i (omega arith) ∙ h.others v q d i x y;
          boxes = λ q i x y. kept i (omega arith) ∙ h.high i (omega arith);
        };
        boxes = λ q i x y. kept i (omega arith) ∙ h.high i (omega arith);
        word = z;
        are = (λ t. ends (z t % 4) (a t) (b t)) ∙ e;
      }

module _ (w : List ℕ) (s p u : ℕ) (can : CanMark w s p u) where
  -- no front edge
  marked_none : Marked w (set w (notes_at s p + u) (note w s p u + 1)) s p u []
  marked_none =
      let z : (note w s p u + 1) % 4 ≡ 1 = omega (arith, can.free) in
      marked w w s p u can (record { len = refl; low = λ i l. refl; others = λ v l d i x y. refl; high = λ i l. refl }) []
      (ap (λ (t : ℕ). ends t (get_or w (fronts_at s p + 2 * u) 0) (get_or w (fronts_at s p + 2 * u + 1) 0)) z)

  module _ (us : u < s) (a : ℕ) where
    abbrev w1 : List ℕ
    w1 = set w (fronts_at s p + 2 * u) a

    -- one
    marked_one : Marked w (set w1 (notes_at s p + u) (note w s p u + 2)) s p u (a ∷ [])
    marked_one =
        let z : (note w s p u + 2) % 4 ≡ 2 = omega (arith, can.free) in
        let x : get_or w1 (fronts_at s p + 2 * u) 0 ≡ a = on w (fronts_at s p + 2 * u) a (omega (arith, can.room.fits)) in
        marked w w1 s p u can
        (record {
          len = simp length-set;
          low = λ i l. off w (fronts_at s p + 2 * u) a i (omega arith);
          others = λ v l d i x y. off w (fronts_at s p + 2 * u) a i (omega arith);
          high = λ i l. off w (fronts_at s p + 2 * u) a i (omega arith);
        })
        (a ∷ [])
        ((λ t. ends (z t) (x t) (get_or w1 (fronts_at s p + 2 * u + 1) 0)))

    module _ (b : ℕ) where
      abbrev w2 : List ℕ
      w2 = set w1 (fronts_at s p + 2 * u + 1) b

      -- two
      marked_two : Marked w (set w2 (notes_at s p + u) (note w s p u + 3)) s p u (a ∷ b ∷ [])
      marked_two =
          let z : (note w s p u + 3) % 4 ≡ 3 = omega (arith, can.free) in
          let n : length w1 ≡ length w = simp length-set in
          let x : get_or w2 (fronts_at s p + 2 * u) 0 ≡ a =
          off w1 (fronts_at s p + 2 * u + 1) b (fronts_at s p + 2 * u) (omega arith) ∙ on w (fronts_at s p + 2 * u) a (omega (arith, can.room.fits)) in
          let y : get_or w2 (fronts_at s p + 2 * u + 1) 0 ≡ b = on w1 (fronts_at s p + 2 * u + 1) b (omega (arith, can.room.fits, n)) in
          marked w w2 s p u can
          (record {
            len = simp length-set;
            low = λ i l. off w1 (fronts_at s p + 2 * u + 1) b i (omega arith) ∙ off w (fronts_at s p + 2 * u) a i (omega arith);
            others = λ v l d i x y. off w1 (fronts_at s p + 2 * u + 1) b i (omega arith) ∙ off w (fronts_at s p + 2 * u) a i (omega arith);
            high = λ i l. off w1 (fronts_at s p + 2 * u + 1) b i (omega arith) ∙ off w (fronts_at s p + 2 * u) a i (omega arith);
          })
          (a ∷ b ∷ [])
          (λ t. ends (z t) (x t) (y t))

-- the note's word is the same after a write behind the notes
pub can_mark : (w : List ℕ) (s p u j a : ℕ) → CanMark w s p u → fronts_at s p ≤ j → CanMark (set w j a) s p u
can_mark w s p u j a can h =
    let n : length (set w j a) ≡ length w = simp length-set in
    let z : note (set w j a) s p u ≡ note w s p u = off w j a (notes_at s p + u) (omega (arith, can.known)) in
    record { room = record { fits = omega (arith, n, can.room.fits); small = can.room.small }; known = can.known; free = omega (arith, z, can.free) }

pub none_written : (w w' : List ℕ) (s p u : ℕ) → CanMark w s p u → w' ≡ set w (notes_at s p + u) (note w s p u + 1) → Marked w w' s p u []
none_written w w' s p u can e = subst (λ (l : List ℕ). Marked w l s p u []) (sym e) (marked_none w s p u can)

module _ (w : List ℕ) (s p u k : ℕ) (can : CanMark w s p u) (us : u < s) (j v : ℕ) (ej : j ≡ fronts_at s p) (ev : v ≡ front_v_at s p) (w' : List ℕ) where
  abbrev with_one : ℕ → ℕ → List ℕ
  with_one x y = set w (x + 2 * u) (get_or w (y + k) 0)

  abbrev with_two : ℕ → ℕ → List ℕ
  with_two x y = set (with_one x y) (x + 2 * u + 1) (get_or w (y + k + 1) 0)

  pub one_written : w' ≡ set (with_one j v) (notes_at s p + u) (note (with_one j v) s p u + 2) → Marked w w' s p u (get_or w (front_v_at s p + k) 0 ∷ [])
  one_written e =
      let up = can.known in
      let z : note (with_one (fronts_at s p) (front_v_at s p)) s p u ≡ note w s p u = off w (fronts_at s p + 2 * u) (get_or w (front_v_at s p + k) 0) (notes_at s p + u) (omega arith) in
      subst (λ (l : List ℕ). Marked w l s p u (get_or w (front_v_at s p + k) 0 ∷ []))
      (sym (e ∙ (λ t. set (with_one (ej t) (ev t)) (notes_at s p + u) (note (with_one (ej t) (ev t)) s p u + 2)) ∙ ap (λ (n : ℕ). set (with_one (fronts_at s p) (front_v_at s p)) (notes_at s p + u) (n + 2)) z))
      (marked_one w s p u can us (get_or w (front_v_at s p + k) 0))

  pub two_written : w' ≡ set (with_two j v) (notes_at s p + u) (note (with_two j v) s p u + 3)
      → Marked w w' s p u (get_or w (front_v_at s p + k) 0 ∷ get_or w (front_v_at s p + k + 1) 0 ∷ [])
  two_written e =
      let up = can.known in
      let z : note (with_two (fronts_at s p) (front_v_at s p)) s p u ≡ note w s p u =
      off (with_one (fronts_at s p) (front_v_at s p)) (fronts_at s p + 2 * u + 1) (get_or w (front_v_at s p + k + 1) 0) (notes_at s p + u) (omega arith)
      ∙ off w (fronts_at s p + 2 * u) (get_or w (front_v_at s p + k) 0) (notes_at s p + u) (omega arith) in
      subst (λ (l : List ℕ). Marked w l s p u (get_or w (front_v_at s p + k) 0 ∷ get_or w (front_v_at s p + k + 1) 0 ∷ []))
      (sym (e ∙ (λ t. set (with_two (ej t) (ev t)) (notes_at s p + u) (note (with_two (ej t) (ev t)) s p u + 3)) ∙ ap (λ (n : ℕ). set (with_two (fronts_at s p) (front_v_at s p)) (notes_at s p + u) (n + 3)) z))
      (marked_two w s p u can us (get_or w (front_v_at s p + k) 0) (get_or w (front_v_at s p + k + 1) 0))

-- ---- the note is true

-- nothing is written
pub note_left : (w : List ℕ) (s p u from r : ℕ) (m : Mesh) → CanNote w s p u from r m → NoteTo w w s p m
note_left w s p u from r m can = record { len = refl; below = λ i h. refl; beyond = λ i h. refl; rep = can.rep }

module _ (w w' : List ℕ) (s p u from r : ℕ) (m : Mesh) (can : CanNote w s p u from r m) (vs : List ℕ) (is : can.vs ≡ vs) (few : length vs ≤ 2) (low : length vs ≢ 0 → u < s)
    (k : Marked w w' s p u vs) where
  note_true : NoteAt w' s p m u
  note_true =
      let n = can.rep.notes u (omega (arith, can.known, can.rep.points)) in
      let q = k.word in
      let f = can.free in
      record {
        inside = λ h. elim (dec_le 1 (length vs)) [ yes l ↦ low (omega arith) | no l ↦ n.inside (omega arith) ];
        fronts = λ h.
            subst (λ (l : List ℕ). Fronts m u l) (is ∙ sym k.are) (are_fronts m (valid w s p m can.rep) u can.vs can.run.up can.are);
        box = λ h.
            let h' : 4 ≤ note w s p u = omega arith in
            let us : u < s = n.inside (omega arith) in
            let same : (j : ℕ) → j < 4 → bound w' s p u j ≡ bound w s p u j = λ j l. k.boxes us (boxes_at s p + 4 * u + j) (omega arith) (omega arith) in
            rw (same 0 (omega arith), same 1 (omega arith), same 2 (omega arith), same 3 (omega arith)) (n.box h');
      }

  pub note_done : NoteTo w w' s p m
  note_done =
      record {
        len = k.len;
        below = k.below;
        beyond = k.beyond;
        rep = rep_noted w w' s p m can.rep (record { len = k.len; low = k.below }) k.even u k.others note_true;
      }

module _ (w : List ℕ) (s p u from r : ℕ) where
  pub none_is : (vs : List ℕ) → Run w s p u from r vs → r ≡ from → vs ≡ []
  none_is [] h e = refl
  none_is (v ∷ vs) h e = absurd (omega (arith, h.len))

  pub one_is : (vs : List ℕ) → Run w s p u from r vs → r ≡ from + 1 → vs ≡ get_or w (front_v_at s p + from) 0 ∷ []
  one_is [] h e = absurd (omega (arith, h.len))
  one_is (v ∷ []) h e = ap (λ (x : ℕ). x ∷ []) (sym h.seconds.0)
  one_is (v ∷ x ∷ vs) h e = absurd (omega (arith, h.len))

  pub two_is : (vs : List ℕ) → Run w s p u from r vs → r ≡ from + 2 → vs ≡ get_or w (front_v_at s p + from) 0 ∷ get_or w (front_v_at s p + from + 1) 0 ∷ []
  two_is [] h e = absurd (omega (arith, h.len))
  two_is (v ∷ []) h e = absurd (omega (arith, h.len))
  two_is (v ∷ x ∷ []) h e = λ t. sym h.seconds.0 t ∷ sym h.seconds.1.0 t ∷ []
  two_is (v ∷ x ∷ y ∷ vs) h e = absurd (omega (arith, h.len))

-- ---- after the walk

module _ (w w1 : List ℕ) (s p u from r : ℕ) (m : Mesh) (can : CanSearch w s p u from m) (g : NodeTo w w1 s p u from r m) where
  pub can_note : CanNote w1 s p u from r m
  can_note =
      let z : note w1 s p u ≡ note w s p u = g.beyond.firsts (notes_at s p + u) (omega (arith, can.walk.known, can.walk.rep.points)) in
      record {
        rep = rep_under w w1 s p (beyond_under w w1 s p from g.beyond) m can.walk.rep;
        known = can.walk.known;
        free = omega (arith, z, can.free);
        inside = omega (arith, g.run.len, pairs_length u g.vs, ap length g.are, can.walk.room);
        vs = g.vs;
        run = g.run;
        are = g.are;
      }

  pub walked : (w2 : List ℕ) → NoteTo w1 w2 s p m → EdgesTo w w2 s p u from r m
  walked w2 k =
      record {
        vs = g.vs;
        run = record {
          len = g.run.len;
          firsts = λ i a b. k.beyond (front_u_at s p + i) (omega arith) ∙ g.run.firsts i a b;
          seconds = stored_kept w1 w2 (front_v_at s p + from) g.vs (λ i a b. k.beyond i (omega arith)) g.run.seconds;
          up = g.run.up;
        };
        are = g.are;
        past = record {
          len = k.len ∙ g.beyond.len;
          below = λ i h. k.below i h ∙ g.beyond.firsts i (omega arith);
          firsts = λ i a b. k.beyond i a ∙ g.beyond.firsts i b;
          seconds = λ i a b. k.beyond i (omega arith) ∙ g.beyond.seconds i a b;
          behind = λ i a. k.beyond i (omega arith) ∙ g.beyond.behind i a;
        };
        rep = k.rep;
      }
