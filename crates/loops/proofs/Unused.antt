-- The edges in no loop, and the first edge at a node.
use Rattle.std.specs.Prelude.{None, Some, ◌≡◌, ◌≢◌, ◌+◌, ◌-◌, ◌<◌, ◌≤◌, ◌∷◌, ◌++◌}
use Rattle.laws.specs.Kit.{refl, sym, ◌∙◌, ap, subst, Bool, true, false, false≢true, ℕ, zero, suc, arith, List, [], append_assoc, length, length-append}
use native.Mathlib.Numerals.{add-one}
use lib.Seq.{get_or-append_seam}
use Rattle.rings.proofs.Lists.{Same, same, differ, decide}
use Rattle.definition.specs.Lists.{find}
use Rattle.definition.specs.Plane.{Edge}
use Rattle.definition.specs.Cells.{same_edge, touches}
use Rattle.definition.specs.Loops.{without_edge}
use Rattle.laws.specs.Cells.{same_self}
use Rattle.edges.specs.Stored.{Edges}
use Rattle.edges.specs.Parts.{edge_of, edges_apart}
use Rattle.loops.specs.Trace.{fresh, unused, seek, Ready, AtNode, IsLeft, Found}
use Rattle.loops.proofs.Lists.{drop_it, keep_it, without_nil, find_hit, find_miss, find_none}

-- ---- one edge

module _ (w : List ℕ) (s p : ℕ) (es : List Edge) (i m : ℕ) where
  pub unused_hit : fresh w s p i ≡ true → unused w s p es i (suc m) ≡ edge_of es i ∷ unused w s p es (suc i) m
  unfolding unused
  unused_hit h = rw h

  pub unused_miss : fresh w s p i ≡ false → unused w s p es i (suc m) ≡ unused w s p es (suc i) m
  unfolding unused
  unused_miss h = rw h

pub unused_none : (w : List ℕ) (s p : ℕ) (es : List Edge) (i : ℕ) → unused w s p es i 0 ≡ []
unfolding unused
unused_none w s p es i = refl

module _ (es : List Edge) (v i m : ℕ) where
  pub seek_hit : touches (edge_of es i) v ≡ true → seek es v i (suc m) ≡ i
  unfolding seek
  seek_hit h = rw h

  pub seek_miss : touches (edge_of es i) v ≡ false → seek es v i (suc m) ≡ seek es v (suc i) m
  unfolding seek
  seek_miss h = rw h

pub seek_end : (es : List Edge) (v i : ℕ) → seek es v i 0 ≡ i
unfolding seek
seek_end es v i = refl

-- ---- the same flags

pub unused_same : (w w' : List ℕ) (s p : ℕ) (es : List Edge) (i m : ℕ) → ((x : ℕ) → i ≤ x → x < i + m → fresh w' s p x ≡ fresh w s p x) → unused w' s p es i m ≡ unused w s p es i m
unfolding unused
unused_same w w' s p es i zero h = refl
unused_same w w' s p es i (suc m) h =
    let r = unused_same w w' s p es (suc i) m (λ x a b. h x (omega arith) (omega arith)) in
    rw (r, h i (omega arith) (omega arith))

-- all below i are in loops
pub unused_past : (w : List ℕ) (s p : ℕ) (es : List Edge) (a i m : ℕ) → ((x : ℕ) → a ≤ x → x < a + i → fresh w s p x ≡ false) → unused w s p es a (i + m) ≡ unused w s p es (a + i) m
unused_past w s p es a zero m h = let e : 0 + m ≡ m = omega arith in let d : a + 0 ≡ a = omega arith in rw (e, d)
unused_past w s p es a (suc i) m h =
    let e : suc i + m ≡ suc (i + m) = omega arith in
    let d : suc a + i ≡ a + suc i = omega arith in
    ap (unused w s p es a) e ∙ unused_miss w s p es a (i + m) (h a (omega arith) (omega arith))
    ∙ unused_past w s p es (suc a) i m (λ x y z. h x (omega arith) (omega arith))
    ∙ ap (λ (j : ℕ). unused w s p es j m) d

-- all are in no loop
pub unused_all : (w : List ℕ) (s p : ℕ) (es : List Edge) (done l : List Edge) → es ≡ done ++ l → ((x : ℕ) → x < length es → fresh w s p x ≡ true) → unused w s p es (length done) (length l) ≡ l
unused_all w s p es done [] e h = unused_none w s p es (length done)
unused_all w s p es done (f ∷ l) e h =
    let len : length es ≡ length done + suc (length l) = ap length e ∙ length-append done (f ∷ l) in
    let z : length (done ++ f ∷ []) ≡ suc (length done) = length-append done (f ∷ []) ∙ add-one (length done) in
    let r = unused_all w s p es (done ++ f ∷ []) l (e ∙ sym (append_assoc done (f ∷ []) l)) h in
    let x : edge_of es (length done) ≡ f = ap (λ (k : List Edge). edge_of k (length done)) e ∙ get_or-append_seam done f l (0, 0) in
    unused_hit w s p es (length done) (length l) (h (length done) (omega arith))
    ∙ ap (λ (g : Edge). g ∷ unused w s p es (suc (length done)) (length l)) x
    ∙ ap (λ (k : List Edge). f ∷ k) (ap (λ (j : ℕ). unused w s p es j (length l)) (sym z) ∙ r)

-- an edge in no loop is one of them
pub unused_some : (w : List ℕ) (s p : ℕ) (es : List Edge) (c i m : ℕ) → i ≤ c → c < i + m → fresh w s p c ≡ true → 1 ≤ length (unused w s p es i m)
unused_some w s p es c i zero a b f = absurd (omega (arith, a, b))
unused_some w s p es c i (suc m) a b f = go (fresh w s p i) refl (decide i c) (λ z. unused_some w s p es c (suc i) m (omega arith) (omega arith) f)
  where
    go : (b : Bool) → fresh w s p i ≡ b → Same i c → (i ≢ c → 1 ≤ length (unused w s p es (suc i) m)) → 1 ≤ length (unused w s p es i (suc m))
    go true g d r = let y : length (unused w s p es i (suc m)) ≡ suc (length (unused w s p es (suc i) m)) = ap length (unused_hit w s p es i m g) in omega arith
    go false g (same d) r = absurd (false≢true (sym g ∙ ap (fresh w s p) d ∙ f))
    go false g (differ d) r = let y : length (unused w s p es i (suc m)) ≡ length (unused w s p es (suc i) m) = ap length (unused_miss w s p es i m g) in omega (arith, r d)

-- ---- one edge comes to a loop

module _ (w w' : List ℕ) (s p n c : ℕ) (es : List Edge) (ed : Edges n es) (inside : c < length es) (flag : fresh w' s p c ≡ false) (rest : (x : ℕ) → x < length es → x ≢ c → fresh w' s p x ≡ fresh w s p x) where
  pub unused_less : (i m : ℕ) → i + m ≤ length es → unused w' s p es i m ≡ without_edge (edge_of es c) (unused w s p es i m)
  unused_less i zero h = unused_none w' s p es i ∙ sym (without_nil (edge_of es c)) ∙ ap (without_edge (edge_of es c)) (sym (unused_none w s p es i))
  unused_less i (suc m) h = go (decide i c) (fresh w s p i) refl (unused_less (suc i) m (omega arith))
    where
      go : Same i c → (b : Bool) → fresh w s p i ≡ b → unused w' s p es (suc i) m ≡ without_edge (edge_of es c) (unused w s p es (suc i) m)
          → unused w' s p es i (suc m) ≡ without_edge (edge_of es c) (unused w s p es i (suc m))
      go (same q) true f r =
          let g : fresh w' s p i ≡ false = ap (fresh w' s p) q ∙ flag in
          let d : same_edge (edge_of es c) (edge_of es i) ≡ true = subst (λ (j : ℕ). same_edge (edge_of es c) (edge_of es j) ≡ true) (sym q) (same_self (edge_of es c)) in
          unused_miss w' s p es i m g ∙ r ∙ sym (drop_it (edge_of es c) (edge_of es i) (unused w s p es (suc i) m) d)
          ∙ ap (without_edge (edge_of es c)) (sym (unused_hit w s p es i m f))
      go (same q) false f r =
          let g : fresh w' s p i ≡ false = ap (fresh w' s p) q ∙ flag in
          unused_miss w' s p es i m g ∙ r ∙ ap (without_edge (edge_of es c)) (sym (unused_miss w s p es i m f))
      go (differ q) true f r =
          let g : fresh w' s p i ≡ true = rest i (omega arith) q ∙ f in
          let d : same_edge (edge_of es c) (edge_of es i) ≡ false = edges_apart n es c i ed inside (omega arith) (λ z. q (sym z)) in
          unused_hit w' s p es i m g ∙ ap (λ (l : List Edge). edge_of es i ∷ l) r ∙ sym (keep_it (edge_of es c) (edge_of es i) (unused w s p es (suc i) m) d)
          ∙ ap (without_edge (edge_of es c)) (sym (unused_hit w s p es i m f))
      go (differ q) false f r =
          let g : fresh w' s p i ≡ false = rest i (omega arith) q ∙ f in
          unused_miss w' s p es i m g ∙ r ∙ ap (without_edge (edge_of es c)) (sym (unused_miss w s p es i m f))

  -- one edge less
  pub unused_count : (i m : ℕ) → i + m ≤ length es → i ≤ c → c < i + m → fresh w s p c ≡ true → length (unused w s p es i m) ≡ suc (length (unused w' s p es i m))
  unused_count i zero h a b f = absurd (omega (arith, a, b))
  unused_count i (suc m) h a b f = go (decide i c) (fresh w s p i) refl (λ z. unused_count (suc i) m (omega arith) (omega arith) (omega arith) f)
    where
      go : Same i c → (b : Bool) → fresh w s p i ≡ b → (i ≢ c → length (unused w s p es (suc i) m) ≡ suc (length (unused w' s p es (suc i) m)))
          → length (unused w s p es i (suc m)) ≡ suc (length (unused w' s p es i (suc m)))
      go (same q) true d r =
          let g : fresh w' s p i ≡ false = ap (fresh w' s p) q ∙ flag in
          let y : unused w' s p es (suc i) m ≡ unused w s p es (suc i) m = unused_same w w' s p es (suc i) m (λ x u v. rest x (omega arith) (λ z. let k : suc i ≤ c = subst (λ (j : ℕ). suc i ≤ j) z u in omega (arith, q, k))) in
          ap length (unused_hit w s p es i m d) ∙ ap (λ (l : List Edge). suc (length l)) (sym y ∙ sym (unused_miss w' s p es i m g))
      go (same q) false d r = absurd (false≢true (sym d ∙ ap (fresh w s p) q ∙ f))
      go (differ q) true d r =
          let g : fresh w' s p i ≡ true = rest i (omega arith) q ∙ d in
          ap length (unused_hit w s p es i m d) ∙ ap suc (r q) ∙ ap (λ (l : List Edge). suc (length l)) (sym (unused_hit w' s p es i m g))
      go (differ q) false d r =
          let g : fresh w' s p i ≡ false = rest i (omega arith) q ∙ d in
          ap length (unused_miss w s p es i m d) ∙ r q ∙ ap (λ (l : List Edge). suc (length l)) (sym (unused_miss w' s p es i m g))

-- ---- the first edge at a node

-- c is the first of the m edges from i on that touches v
pub record Sought (es : List Edge) (v i m c : ℕ) : Type 0 where
  pub more : ℕ
  pub sum : c + more ≡ i + m
  pub from : i ≤ c
  pub skip : (w : List ℕ) (s p : ℕ) → find (λ e. touches e v) (unused w s p es i m) ≡ find (λ e. touches e v) (unused w s p es c more)
  pub end : c < i + m → touches (edge_of es c) v ≡ true

pub sought : (es : List Edge) (v i m : ℕ) → Sought es v i m (seek es v i m)
unfolding seek
sought es v i zero = record { more = 0; sum = refl; from = omega arith; skip = λ w s p. refl; end = λ h. absurd (omega (arith, h)) }
sought es v i (suc m) = go (touches (edge_of es i) v) refl (sought es v (suc i) m)
  where
    pass : (w : List ℕ) (s p : ℕ) → touches (edge_of es i) v ≡ false → (b : Bool) → fresh w s p i ≡ b
        → find (λ e. touches e v) (unused w s p es i (suc m)) ≡ find (λ e. touches e v) (unused w s p es (suc i) m)
    pass w s p q true f = ap (find (λ e. touches e v)) (unused_hit w s p es i m f) ∙ find_miss (λ e. touches e v) (edge_of es i) (unused w s p es (suc i) m) q
    pass w s p q false f = ap (find (λ e. touches e v)) (unused_miss w s p es i m f)

    go : (b : Bool) → touches (edge_of es i) v ≡ b → Sought es v (suc i) m (seek es v (suc i) m) → Sought es v i (suc m) (seek es v i (suc m))
    go true q r =
        subst (Sought es v i (suc m)) (sym (seek_hit es v i m q))
        (record { more = suc m; sum = refl; from = omega arith; skip = λ w s p. refl; end = λ h. q })
    go false q r =
        subst (Sought es v i (suc m)) (sym (seek_miss es v i m q))
        (record {
          more = r.more;
          sum = omega (arith, r.sum);
          from = omega (arith, r.from);
          skip = λ w s p. pass w s p q (fresh w s p i) refl ∙ r.skip w s p;
          end = λ h. r.end (omega (arith, h));
        })

-- the edges at v from c on are still to come
pub record Seeking (w : List ℕ) (s p k v c : ℕ) (es : List Edge) : Type 0 where
  pub more : ℕ
  pub sum : c + more ≡ k
  pub same : find (λ e. touches e v) (unused w s p es 0 k) ≡ find (λ e. touches e v) (unused w s p es c more)
  pub end : c < k → touches (edge_of es c) v ≡ true

pub seeking_start : {w : List ℕ} {s p k v c : ℕ} {es : List Edge} → c ≡ seek es v 0 k → Seeking w s p k v c es
seeking_start {w} {s} {p} {k} {v} {c} {es} e =
    let r : Sought es v 0 k c = subst (Sought es v 0 k) (sym e) (sought es v 0 k) in
    record { more = r.more; sum = omega (arith, r.sum); same = r.skip w s p; end = λ h. r.end (omega (arith, h)) }

-- l edges stand behind c
pub record Behind (k c : ℕ) : Type 0 where
  pub l : ℕ
  pub sum : c + suc l ≡ k

pub behind : (k c : ℕ) → c < k → Behind k c
behind k c h = record { l = k - suc c; sum = omega arith }

module _ {w : List ℕ} {s p k v c : ℕ} {es : List Edge} (g : Seeking w s p k v c es) where
  pub seeking_end : k ≤ c → Found w s p k v None es
  seeking_end h =
      let e : g.more ≡ 0 = omega (arith, g.sum) in
      record {
        hit = λ y z. absurd (cc);
        miss = λ z. g.same ∙ ap (λ (j : ℕ). find (λ e. touches e v) (unused w s p es c j)) e ∙ ap (find (λ e. touches e v)) (unused_none w s p es c) ∙ find_none (λ e. touches e v);
      }

  module _ (h : c < k) where
    pub behind_more : g.more ≡ suc (behind k c h).l
    behind_more = omega (arith, g.sum, (behind k c h).sum)

    -- the edge c is at the node
    pub seeking_at : {n : ℕ} → Ready w s p n k es → AtNode w s p n k c (behind k c h).l v es
    seeking_at r = record { ready = r; sum = (behind k c h).sum; end = g.end h }

    pub seeking_found : fresh w s p c ≡ true → Found w s p k v (Some c) es
    seeking_found f =
        let here : IsLeft w s p k v c es = record {
          inside = h;
          hit = g.same ∙ ap (λ (j : ℕ). find (λ e. touches e v) (unused w s p es c j)) behind_more
              ∙ ap (find (λ e. touches e v)) (unused_hit w s p es c (behind k c h).l f)
              ∙ find_hit (λ e. touches e v) (edge_of es c) (unused w s p es (suc c) (behind k c h).l) (g.end h);
          free = f;
        } in
        record { hit = λ y z. let q : c ≡ y = cc in subst (λ (u : ℕ). IsLeft w s p k v u es) q here; miss = λ z. absurd (cc) }

    module _ {r : ℕ} (q : r ≡ seek es v (suc c) (behind k c h).l) where
      pub seeking_past : c < r
      seeking_past = omega (arith, (sought es v (suc c) (behind k c h).l).from, q)

      pub seeking_on : fresh w s p c ≡ false → Seeking w s p k v r es
      seeking_on f =
          let t : Sought es v (suc c) (behind k c h).l r = subst (Sought es v (suc c) (behind k c h).l) (sym q) (sought es v (suc c) (behind k c h).l) in
          record {
            more = t.more;
            sum = omega (arith, t.sum, (behind k c h).sum);
            same = g.same ∙ ap (λ (j : ℕ). find (λ e. touches e v) (unused w s p es c j)) behind_more
                ∙ ap (find (λ e. touches e v)) (unused_miss w s p es c (behind k c h).l f) ∙ t.skip w s p;
            end = λ z. t.end (omega (arith, z, (behind k c h).sum));
          }
