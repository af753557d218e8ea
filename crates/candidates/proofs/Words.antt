-- Words of nodes: put, raised, and what they tell then.
use mathlib.Core.Path.{◌≡◌, refl, ap, sym, ◌∙◌, subst}
use mathlib.Core.Logic.{◌≢◌}
use mathlib.Core.Bool.{Bool, true, false, not, cond, ◌||◌, or-false, false≢true}
use mathlib.Core.List.{List, [], ◌∷◌}
use Prim.Native.Nat.{ℕ, ◌+◌, ◌-◌, ◌*◌, ◌%◌, ◌≤◌, ◌<◌}
use native.Mathlib.Omega.{arith}
use lib.Dec.{eqb}
use lib.ListN.{length, get_or, set}
use lib.Ieee.{Float}
use borrow.Author.Tests.{eq-eqb, ne_eqb}
use Rattle.rings.specs.Rings.{nx}
use Rattle.rings.proofs.Lists.{Same, same, differ, decide}
use Rattle.definition.specs.Lists.{any}
use Rattle.definition.specs.Numbers.{Quality, Turn}
use Rattle.definition.specs.Plane.{Vec}
use Rattle.definition.specs.Cells.{Tri, Live, Mesh, has_node, tri_has, has_edge}
use Rattle.laws.specs.Frames.{on, off, Only}
use Rattle.cells.specs.Layout.{rings_at, list_at, near_at}
use Rattle.cells.specs.Rep.{Rep}
use Rattle.cells.specs.Walk.{node_after, node_before, CanRead, left}
use Rattle.side_candidates.specs.Hand.{InHand}
use Rattle.side_candidates.proofs.Scans.{Scan, Spot, scan_start, spot_has}
use Rattle.edge_candidates.specs.Wishes.{Besides}
use Rattle.edge_candidates.proofs.Around.{Around, around_start, around_after, around_before, around_read, around_more, around_end, around_less}
use Rattle.edge_candidates.proofs.Givers.{besides_refl, besides_set, rep_besides, read_kept, after_kept, before_kept, besides_trans}
use Rattle.candidates.specs.Words.{Spare, CanMark, Cleared, Put, of_region, Risen, Raised, RaisedBy, Told, MarkedTo}
use Rattle.candidates.specs.Choice.{is_choice}
use Rattle.candidates.specs.declared.spans.Span.{Span}
use Rattle.candidates.proofs.Growth.{bare, edge_none, choice_outer}

pub spare_kept : (w w' : List ℕ) (p b : ℕ) → length w' ≡ length w → Spare w p b → Spare w' p b
spare_kept w w' p b e h = record { fits = omega (arith, h.fits, e); small = h.small }

pub can_kept : (w w' : List ℕ) (s p b : ℕ) → length w' ≡ length w → CanMark w s p b → CanMark w' s p b
can_kept w w' s p b e h = record { spare = spare_kept w w' p b e h.spare; from = h.from }

-- ---- cleared

pub cleared_range : (w w' : List ℕ) (p b : ℕ) (g : Span) → g.low ≤ g.high → g.high < p → Only w w' (b + g.low) (b + g.low + (g.high - g.low + 1))
    → ((k : ℕ) → k < g.high - g.low + 1 → get_or w' (b + g.low + k) 0 ≡ 0) → Cleared w w' p b g
cleared_range w w' p b g h l o z =
    record {
      zero = λ u i.
          let d : b + g.low + (u - g.low) ≡ b + u = omega (arith, i.from) in
          subst (λ (x : ℕ). get_or w' x 0 ≡ 0) d (z (u - g.low) (omega (arith, i.from, i.to)));
      besides = record { len = o.len; before = λ i a. o.low i (omega arith); behind = λ i a. o.high i (omega (arith, a, l, h)) };
    }

-- ---- put

pub put_one : (w : List ℕ) (p b v : ℕ) → v < p → b + p ≤ length w → Put w (set w (b + v) 1) p b (eqb v)
put_one w p b v h l = record { word = λ u. go u (decide v u); besides = besides_set w w p b v 1 h (besides_refl w b p) }
  where
    go : (u : ℕ) → Same v u → get_or (set w (b + v) 1) (b + u) 0 ≡ cond (eqb v u) 1 (get_or w (b + u) 0)
    go u (same e) = rw (eq-eqb v u e) (ap (λ (z : ℕ). get_or (set w (b + v) 1) (b + z) 0) (sym e) ∙ on w (b + v) 1 (omega arith))
    go u (differ d) = rw (ne_eqb v u d) (off w (b + v) 1 (b + u) (λ e. d (omega arith)))

cond_or : (f g : Bool) (x : ℕ) → cond g 1 (cond f 1 x) ≡ cond (f || g) 1 x
cond_or true true x = refl
cond_or true false x = refl
cond_or false true x = refl
cond_or false false x = refl

pub put_trans : (w w1 w2 : List ℕ) (p b : ℕ) (f g : ℕ → Bool) → Put w w1 p b f → Put w1 w2 p b g → Put w w2 p b (λ v. f v || g v)
put_trans w w1 w2 p b f g h k =
    record {
      word = λ v. k.word v ∙ ap (cond (g v) 1) (h.word v) ∙ cond_or (f v) (g v) (get_or w (b + v) 0);
      besides = besides_trans w w1 w2 b p h.besides k.besides;
    }

pub put_same : (w w' : List ℕ) (p b : ℕ) (f g : ℕ → Bool) → ((v : ℕ) → f v ≡ g v) → Put w w' p b f → Put w w' p b g
put_same w w' p b f g e h = record { word = λ v. h.word v ∙ ap (λ (y : Bool). cond y 1 (get_or w (b + v) 0)) (e v); besides = h.besides }

-- the nodes of a triangle, as they were read
pub tri_is : (t : Tri) (x y z v : ℕ) → x ≡ t.n0 → y ≡ t.n1 → z ≡ t.n2 → ((eqb x v || eqb y v) || eqb z v) ≡ tri_has t v
unfolding tri_has
tri_is t x y z v ex ey ez = rw (ex, ey, ez)

-- the triangles from place i on are still to come; the words of the nodes of the others are put
pub record Marking (w₀ w : List ℕ) (s p k i b : ℕ) (m : Mesh) (region : List Live) : Type 0 where
  pub rest : List Live
  pub scan : Scan w₀ s p k i m rest
  pub done : ℕ → Bool
  pub whole : (v : ℕ) → of_region region v ≡ (done v || of_region rest v)
  pub put : Put w₀ w p b done

or_assoc : (a b c : Bool) → (a || (b || c)) ≡ ((a || b) || c)
or_assoc true b c = refl
or_assoc false b c = refl

module _ (w₀ : List ℕ) (q : List Float) (s p k b : ℕ) (m : Mesh) (region : List Live) (h : InHand w₀ q s p k m region) where
  pub marking_start : Marking w₀ w₀ s p k 0 b m region
  marking_start =
      record { rest = region; scan = scan_start w₀ q s p k m region h; done = λ v. false; whole = λ v. refl; put = record { word = λ v. refl; besides = besides_refl w₀ b p } }

  module _ (w : List ℕ) (i : ℕ) (g : Marking w₀ w s p k i b m region) where
    pub marking_word : near_at s p ≤ b → i < k → (j : ℕ) → j ≡ get_or w (list_at s p + i) 0 → j ≡ get_or w₀ (21 * s + 3 * p + i) 0
    marking_word f l j e = e ∙ g.put.besides.before (list_at s p + i) (omega (arith, h.few, f, l))

    pub marking_rep : near_at s p ≤ b → Rep w s p m
    marking_rep f = rep_besides w₀ w s p b p g.put.besides (omega arith) m h.rep

    pub marking_more : (w' : List ℕ) (j : ℕ) (z : Spot w₀ s p k i j m g.rest) → Put w w' p b (tri_has z.top.t.t) → Marking w₀ w' s p k (i + 1) b m region
    unfolding any
    marking_more w' j z f =
        record {
          rest = z.more;
          scan = z.next;
          done = λ v. g.done v || tri_has z.top.t.t v;
          whole = λ v. g.whole v ∙ ap (λ (l : List Live). g.done v || any (has_node v) l) z.is ∙ ap (λ (y : Bool). g.done v || (y || any (has_node v) z.more)) (spot_has m j v z.x z.top)
              ∙ or_assoc (g.done v) (tri_has z.top.t.t v) (any (has_node v) z.more);
          put = put_trans w₀ w w' p b g.done (tri_has z.top.t.t) g.put f;
        }

    pub marking_end : k ≤ i → Put w₀ w p b (of_region region)
    unfolding any
    marking_end l = put_same w₀ w p b g.done (of_region region) (λ v. go v g.rest g.scan.len (g.whole v)) g.put
      where
        go : (v : ℕ) (rest : List Live) → i + length rest ≡ k → of_region region v ≡ (g.done v || of_region rest v) → g.done v ≡ of_region region v
        go v [] e z = sym (or-false (g.done v)) ∙ sym z
        go v (x ∷ rest) e z = absurd (omega arith)

-- ---- raised

risen_refl : (w : List ℕ) (p b : ℕ) → Risen w w p b
risen_refl w p b = record { parity = λ v. refl; stays = λ v h. h; besides = besides_refl w b p }

pub risen_trans : (w w1 w2 : List ℕ) (p b : ℕ) → Risen w w1 p b → Risen w1 w2 p b → Risen w w2 p b
risen_trans w w1 w2 p b h k =
    record { parity = λ v. k.parity v ∙ h.parity v; stays = λ v a. k.stays v (h.stays v a); besides = besides_trans w w1 w2 b p h.besides k.besides }

pub raised_one : (w : List ℕ) (p b v : ℕ) → v < p → b + p ≤ length w → Raised w (set w (b + v) (get_or w (b + v) 0 % 2 + 2)) p b v
raised_one w p b v h l = record { risen = record { parity = λ u. par u (decide u v); stays = λ u a. up u a (decide u v); besides = besides_set w w p b v x h (besides_refl w b p) }; own = rw own (omega arith) }
  where
    x : ℕ
    x = get_or w (b + v) 0 % 2 + 2

    own : get_or (set w (b + v) x) (b + v) 0 ≡ x
    own = on w (b + v) x (omega arith)

    par : (u : ℕ) → Same u v → get_or (set w (b + v) x) (b + u) 0 % 2 ≡ get_or w (b + u) 0 % 2
    par u (same e) = rw (e, own) (omega arith)
    par u (differ d) = ap (λ (z : ℕ). z % 2) (off w (b + v) x (b + u) (λ e. d (omega arith)))

    up : (u : ℕ) → 2 ≤ get_or w (b + u) 0 → Same u v → 2 ≤ get_or (set w (b + v) x) (b + u) 0
    up u a (same e) = rw (e, own) (omega arith)
    up u a (differ d) = rw (off w (b + v) x (b + u) (λ e. d (omega arith))) a

-- a node that has an edge with a is raised
abbrev pub Up : List ℕ → ℕ → Mesh → ℕ → ℕ → Type 0
Up w b m a v = has_edge m a v ≡ true → 2 ≤ get_or w (b + v) 0

-- at the place c of the ring of a: so of an edge with a that none of the cells to come has
pub record Raising (w₀ w : List ℕ) (s p b a c : ℕ) (m : Mesh) : Type 0 where
  pub around : Around w₀ s a c m (Up w b m a)
  pub risen : Risen w₀ w p b

module _ (w₀ : List ℕ) (s p b a : ℕ) (m : Mesh) (rep : Rep w₀ s p m) (an : a < length m.points) where
  pub raising_start : Raising w₀ w₀ s p b a (nx w₀ (rings_at s) (4 * s + a)) m
  raising_start =
      record { around = around_start w₀ s p a m (Up w₀ b m a) rep an (λ v d h e. absurd (false≢true (sym (bare m a v h) ∙ e))); risen = risen_refl w₀ p b }

  module _ (w : List ℕ) (c : ℕ) (k : Raising w₀ w s p b a c m) (inside : c < 4 * s) (from : near_at s p ≤ b) where
    read₀ : CanRead w₀ s c
    read₀ = around_read w₀ s a c m (Up w b m a) k.around inside

    pub raising_less : (d : ℕ) → d ≡ nx w₀ (rings_at s) c → left w₀ s p d < left w₀ s p c
    raising_less d e = around_less w₀ s a c m (Up w b m a) k.around p d rep inside e

    -- the corner read, with more raised
    module _ (w1 : List ℕ) (f : Risen w w1 p b) where
      z : Besides w₀ w1 b p
      z = besides_trans w₀ w w1 b p k.risen.besides f.besides

      pub raising_read : CanRead w1 s c
      raising_read = read_kept w₀ w1 s p b p z (omega arith) c read₀

      pub raising_after : (x : ℕ) → x ≡ node_after w1 s c → x ≡ node_after w₀ s c
      raising_after x e = e ∙ after_kept w₀ w1 s p b p z (omega arith) c read₀

      pub raising_before : (x : ℕ) → x ≡ node_before w1 s c → x ≡ node_before w₀ s c
      raising_before x e = e ∙ before_kept w₀ w1 s p b p z (omega arith) c read₀

      pub raising_next : (d : ℕ) → d ≡ nx w1 (rings_at s) c → d ≡ nx w₀ (rings_at s) c
      raising_next d e = e ∙ z.before (rings_at s + c) (omega (arith, inside))

      pub raising_known : (x : ℕ) → x ≡ node_after w1 s c → x < p
      raising_known x e = let l = around_after w₀ s a c m (Up w b m a) k.around inside x (raising_after x e) in omega (arith, l, rep.points)

      pub raising_known_2 : (x : ℕ) → x ≡ node_before w1 s c → x < p
      raising_known_2 x e = let l = around_before w₀ s a c m (Up w b m a) k.around inside x (raising_before x e) in omega (arith, l, rep.points)

    pub raising_self : Risen w w p b
    raising_self = risen_refl w p b

    pub raising_more : (w1 w2 : List ℕ) (x y d : ℕ) → x ≡ node_after w₀ s c → y ≡ node_before w₀ s c → Raised w w1 p b x → Raised w1 w2 p b y → d ≡ nx w₀ (rings_at s) c → Raising w₀ w2 s p b a d m
    raising_more w1 w2 x y d ex ey f g ed =
        let o = risen_trans w w1 w2 p b f.risen g.risen in
        let r : Around w₀ s a c m (Up w2 b m a) = record { rest = k.around.rest; pos = k.around.pos; holds = λ v n l e. o.stays v (k.around.holds v n l e) } in
        record {
          around = around_more w₀ s a c m (Up w2 b m a) r inside x y d ex ey (λ e. g.risen.stays x f.own) (λ e. g.own) ed;
          risen = risen_trans w₀ w w2 p b k.risen o;
        }

  pub raising_end : (w : List ℕ) (c : ℕ) → Raising w₀ w s p b a c m → 4 * s ≤ c → RaisedBy w₀ w p b m a
  raising_end w c k l = record { risen = k.risen; beside = λ v e. around_end w₀ s a c m (Up w b m a) k.around l v e.0 e.1 }

-- ---- all three

parity_of : (y : Bool) (x : ℕ) → x % 2 ≡ cond y 1 0 % 2 → eqb (x % 2) 0 ≡ not y
parity_of true x e = ne_eqb (x % 2) 0 (λ z. omega arith)
parity_of false x e = eq-eqb (x % 2) 0 (omega arith)

pub marked_to : (w w1 w2 w3 : List ℕ) (p b : ℕ) (m : Mesh) (a : ℕ) (region : List Live) (g : Span) → Cleared w w1 p b g → Put w1 w2 p b (of_region region) → RaisedBy w2 w3 p b m a → MarkedTo w w3 p b m a region g
marked_to w w1 w2 w3 p b m a region g c f r =
    record {
      told = λ v h.
          let e : get_or w2 (b + v) 0 ≡ cond (of_region region v) 1 0 = f.word v ∙ ap (cond (of_region region v) 1) (c.zero v h) in
          record { inner = parity_of (of_region region v) (get_or w3 (b + v) 0) (r.risen.parity v ∙ ap (λ (z : ℕ). z % 2) e); beside = r.beside v };
      besides = besides_trans w w2 w3 b p (besides_trans w w1 w2 b p c.besides f.besides) r.risen.besides;
    }

-- what the word tells of the region
told_not : (y : Bool) (x : ℕ) → eqb (x % 2) 0 ≡ not y → x % 2 ≡ 0 → y ≡ false
told_not true x e h = absurd (false≢true (sym e ∙ eq-eqb (x % 2) 0 h))
told_not false x e h = refl

told_yes : (y : Bool) (x : ℕ) → eqb (x % 2) 0 ≡ not y → x % 2 ≢ 0 → y ≡ true
told_yes true x e h = refl
told_yes false x e h = absurd (false≢true (sym (ne_eqb (x % 2) 0 h) ∙ e))

module _ (m : Mesh) (a : ℕ) (region : List Live) (v x : ℕ) (h : Told m a region v x) where
  pub told_out : x % 2 ≡ 0 → any (has_node v) region ≡ false
  told_out e = told_not (of_region region v) x h.inner e

  pub told_in : x % 2 ≢ 0 → any (has_node v) region ≡ true
  told_in e = told_yes (of_region region v) x h.inner e

-- a node whose word is 0 is no side node
pub choice_untold : (y : Quality) (t : Turn) (m : Mesh) (a other : ℕ) (n : Vec) (target : Float) (region : List Live) (v x : ℕ) → Told m a region v x → x ≡ 0
    → is_choice y t m a other n target region v ≡ false
choice_untold y t m a other n target region v x h e =
    let z : x % 2 ≡ 0 = ap (λ (j : ℕ). j % 2) e in
    sym (choice_outer y t m a other n target region v (edge_none y t m a other n target region v (λ b. let l = h.beside b in omega (arith, l, e))) (told_out m a region v x h z))
