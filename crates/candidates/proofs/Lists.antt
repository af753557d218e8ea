-- The nodes listed so far, and what stays.
use mathlib.Core.Path.{◌≡◌, refl, ap, sym, ◌∙◌, subst}
use mathlib.Core.Bool.{Bool, true, false}
use mathlib.Core.List.{List, [], ◌∷◌, ◌++◌, append-nil}
use Prim.Native.Nat.{ℕ, zero, suc, ◌+◌, ◌-◌, ◌*◌, ◌≤◌, ◌<◌}
use native.Mathlib.Numerals.{add-one}
use native.Mathlib.Omega.{arith}
use lib.ListN.{length, get_or, set, take, drop, length-append}
use lib.Ieee.{Float}
use Rattle.rings.specs.Rings.{Below}
use Rattle.definition.specs.Lists.{filter, numbers, below}
use Rattle.definition.specs.Cells.{Live, Mesh}
use Rattle.laws.specs.Lists.{numbers_snoc, filter_yes, filter_no, Stored, stored_kept, stored_snoc, stored_take}
use Rattle.laws.specs.Frames.{on, off, Under}
use Rattle.side_candidates.proofs.Scans.{in_hand}
use Rattle.side_candidates.proofs.Keeping.{noted_same}
use Rattle.cells.proofs.Slots.{slots_length}
use Rattle.cells.specs.Layout.{mesh_end, list_at, near_at, stack_at}
use Rattle.cells.specs.Rep.{slots}
use Rattle.cells.proofs.Corners.{below_at}
use Rattle.cells.proofs.Frames.{rep_under}
use Rattle.live_regions.specs.Stack.{LiveTo}
use Rattle.live_regions.proofs.Scratches.{scratch_rep}
use Rattle.side_candidates.specs.Hand.{InHand, fenced, KeptTo}
use Rattle.edge_candidates.specs.Wishes.{Besides, AddedTo, CanList, Wished, WishedTo}
use Rattle.edge_candidates.specs.declared.wishes.Wish.{Wish}
use Rattle.edge_candidates.proofs.Givers.{besides_refl, besides_set}
use Rattle.edge_candidates.proofs.Nears.{wished_kept}
use Rattle.candidates.specs.Choice.{CanChoose, Spare, ChosenTo, CanScan, CanPick, ScannedTo}
use Rattle.candidates.specs.Spans.{Spans}
use Rattle.candidates.specs.Words.{Told, MarkedTo}
use Rattle.candidates.specs.declared.spans.Span.{Span}

-- ---- lists of numbers

filter_append : (f : ℕ → Bool) (l k : List ℕ) → filter f (l ++ k) ≡ filter f l ++ filter f k
unfolding filter
filter_append f [] k = refl
filter_append f (x ∷ l) k = go (f x) refl (filter_append f l k)
  where
    go : (b : Bool) → f x ≡ b → filter f (l ++ k) ≡ filter f l ++ filter f k → filter f (x ∷ (l ++ k)) ≡ filter f (x ∷ l) ++ filter f k
    go true e r = filter_yes f x (l ++ k) e ∙ ap (λ (z : List ℕ). x ∷ z) r ∙ ap (λ (z : List ℕ). z ++ filter f k) (sym (filter_yes f x l e))
    go false e r = filter_no f x (l ++ k) e ∙ r ∙ ap (λ (z : List ℕ). z ++ filter f k) (sym (filter_no f x l e))

filter_below : (n : ℕ) (f : ℕ → Bool) (l : List ℕ) → Below n l → Below n (filter f l)
unfolding filter
filter_below n f [] h = tt
filter_below n f (x ∷ l) h = go (f x) refl (filter_below n f l h.1)
  where
    go : (b : Bool) → f x ≡ b → Below n (filter f l) → Below n (filter f (x ∷ l))
    go true e r = subst (Below n) (sym (filter_yes f x l e)) ((h.0, r))
    go false e r = subst (Below n) (sym (filter_no f x l e)) r

numbers_below : (n a k : ℕ) → a + k ≤ n → Below n (numbers a k)
unfolding numbers
numbers_below n a zero h = tt
numbers_below n a (suc k) h = (omega arith, numbers_below n (suc a) k (omega arith))

next_numbers : (v : ℕ) → numbers 0 (v + 1) ≡ numbers 0 v ++ v ∷ []
next_numbers v = let e : 0 + v ≡ v = omega arith in ap (numbers 0) (add-one v) ∙ numbers_snoc 0 v ∙ ap (λ (j : ℕ). numbers 0 v ++ j ∷ []) e

-- the chosen ones below v and one more number
grow : (f : ℕ → Bool) (v : ℕ) → filter f (numbers 0 (v + 1)) ≡ filter f (numbers 0 v) ++ filter f (v ∷ [])
grow f v = ap (filter f) (next_numbers v) ∙ filter_append f (numbers 0 v) (v ∷ [])

grow_hit : (f : ℕ → Bool) (v : ℕ) → f v ≡ true → filter f (numbers 0 (v + 1)) ≡ filter f (numbers 0 v) ++ v ∷ []
unfolding filter
grow_hit f v h = grow f v ∙ ap (λ (l : List ℕ). filter f (numbers 0 v) ++ l) (filter_yes f v [] h)

grow_miss : (f : ℕ → Bool) (v : ℕ) → f v ≡ false → filter f (numbers 0 (v + 1)) ≡ filter f (numbers 0 v)
unfolding filter
grow_miss f v h = grow f v ∙ ap (λ (l : List ℕ). filter f (numbers 0 v) ++ l) (filter_no f v [] h) ∙ append-nil (filter f (numbers 0 v))

-- numbers from v on that are not chosen change nothing
grow_none : (f : ℕ → Bool) (v d : ℕ) → ((u : ℕ) → v ≤ u → u < v + d → f u ≡ false) → filter f (numbers 0 (v + d)) ≡ filter f (numbers 0 v)
grow_none f v zero h = let e : v + 0 ≡ v = omega arith in ap (λ (j : ℕ). filter f (numbers 0 j)) e
grow_none f v (suc d) h =
    let e : v + suc d ≡ v + d + 1 = omega arith in
    ap (λ (j : ℕ). filter f (numbers 0 j)) e ∙ grow_miss f (v + d) (h (v + d) (omega arith) (omega arith)) ∙ grow_none f v d (λ u a b. h u a (omega arith))

-- ---- the scan

spare_of : (w w' : List ℕ) (s p b : ℕ) → near_at s p ≤ b → Besides w w' b p → Spare w w' s p b
spare_of w w' s p b h z = record { len = z.len; mesh = λ i a. z.before i (omega arith); before = λ i a c. z.before i c; behind = λ i a c. z.behind i a }

-- those chosen below v stand from b on
pub record Listing (w₀ w : List ℕ) (p b v r : ℕ) (f : ℕ → Bool) : Type 0 where
  pub len : r ≡ length (filter f (numbers 0 v))
  pub stored : Stored w b (filter f (numbers 0 v))
  pub besides : Besides w₀ w b p

listing_start : (w : List ℕ) (p b : ℕ) (f : ℕ → Bool) → Listing w w p b 0 0 f
unfolding filter numbers
listing_start w p b f = record { len = refl; stored = tt; besides = besides_refl w b p }

-- up to n, where none is chosen from v on
pub listing_on : (w₀ w : List ℕ) (p b v r n : ℕ) (f : ℕ → Bool) → v ≤ n → ((u : ℕ) → v ≤ u → u < n → f u ≡ false) → Listing w₀ w p b v r f → Listing w₀ w p b n r f
listing_on w₀ w p b v r n f h none g =
    let e : v + (n - v) ≡ n = omega arith in
    let z : filter f (numbers 0 n) ≡ filter f (numbers 0 v) = ap (λ (j : ℕ). filter f (numbers 0 j)) (sym e) ∙ grow_none f v (n - v) (λ u a c. none u a (omega (arith, c, e))) in
    record { len = g.len ∙ sym (ap length z); stored = subst (Stored w b) (sym z) g.stored; besides = g.besides }

-- the scan starts at v, where none is chosen before
pub listing_from : (w : List ℕ) (p b v : ℕ) (f : ℕ → Bool) → ((u : ℕ) → u < v → f u ≡ false) → Listing w w p b v 0 f
listing_from w p b v f none = listing_on w w p b 0 0 v f (omega arith) (λ u a c. none u c) (listing_start w p b f)

module _ (w₀ w : List ℕ) (p b v r : ℕ) (f : ℕ → Bool) (g : Listing w₀ w p b v r f) (few : r ≤ v) (inside : v < p) (fits : b + p ≤ length w) where
  listing_hit : f v ≡ true → Listing w₀ (set w (b + r) v) p b (v + 1) (r + 1) f
  listing_hit e =
      let l = filter f (numbers 0 v) in
      let z : filter f (numbers 0 (v + 1)) ≡ l ++ v ∷ [] = grow_hit f v e in
      let n : r ≡ length l = g.len in
      let y : b + length l ≡ b + r = omega arith in
      record {
        len = ap (λ (j : ℕ). j + 1) n ∙ sym (ap length z ∙ length-append l (v ∷ []));
        stored = subst (Stored (set w (b + r) v) b) (sym z)
            (stored_snoc (set w (b + r) v) b v l (stored_kept w (set w (b + r) v) b l (λ i a c. off w (b + r) v i (omega arith)) g.stored) (ap (λ (i : ℕ). get_or (set w (b + r) v) i 0) y ∙ on w (b + r) v (omega arith)));
        besides = besides_set w₀ w p b r v (omega arith) g.besides;
      }

  listing_miss : f v ≡ false → Listing w₀ w p b (v + 1) (r + 0) f
  listing_miss e =
      let z : filter f (numbers 0 (v + 1)) ≡ filter f (numbers 0 v) = grow_miss f v e in
      let y : r + 0 ≡ r = omega arith in
      record { len = y ∙ g.len ∙ sym (ap length z); stored = subst (Stored w b) (sym z) g.stored; besides = g.besides }

  pub listing_more : (w' : List ℕ) (yes : Bool) (k : ℕ) → yes ≡ f v → AddedTo w w' b r v yes k → Listing w₀ w' p b (v + 1) k f
  listing_more w' true k e a = subst (λ (x : List ℕ). Listing w₀ x p b (v + 1) k f) (sym a.text) (subst (λ (j : ℕ). Listing w₀ (set w (b + r) v) p b (v + 1) j f) (sym a.count) (listing_hit (sym e)))
  listing_more w' false k e a = subst (λ (x : List ℕ). Listing w₀ x p b (v + 1) k f) (sym a.text) (subst (λ (j : ℕ). Listing w₀ w p b (v + 1) j f) (sym a.count) (listing_miss (sym e)))

-- it ends at v, where none is chosen from there on
pub listing_end : (w₀ w : List ℕ) (s p n b v r : ℕ) (f : ℕ → Bool) → near_at s p ≤ b → Listing w₀ w p b v r f → r ≤ v → v ≤ n → ((u : ℕ) → v ≤ u → f u ≡ false) → ScannedTo w₀ w s p n b r (filter f (below n))
unfolding below
listing_end w₀ w s p n b v r f a g few h none =
    let y = listing_on w₀ w p b v r n f h (λ u a c. none u a) g in
    record {
      len = y.len;
      few = omega arith;
      stored = y.stored;
      known = filter_below n f (numbers 0 n) (numbers_below n 0 n (omega arith));
      spare = spare_of w₀ w s p b a y.besides;
    }

-- the region in hand stays
pub hand_kept : (w w' : List ℕ) (q : List Float) (s p k b n : ℕ) (m : Mesh) (g : List Live) → InHand w q s p k m g → near_at s p ≤ b → Besides w w' b n → InHand w' q s p k m g
hand_kept w w' q s p k b n m g h f z =
    let e : length (slots g) ≡ k = slots_length g ∙ sym h.len in
    let u : Under w w' (mesh_end s p) = record { len = z.len; low = λ i a. z.before i (omega arith) } in
    record {
      rep = rep_under w w' s p u m h.rep;
      pts = h.pts;
      len = h.len;
      few = h.few;
      stored = stored_kept w w' (list_at s p) (slots g) (λ i a c. z.before i (omega (arith, h.few))) h.stored;
      inner = h.inner;
      noted = noted_same w w' s p m g h.rep h.inner (λ i a. z.before i (omega arith)) h.noted;
    }

-- what is wanted stays listed
wish_kept : (w w' : List ℕ) (q : List Float) (s p b i : ℕ) (o : Wish) (m : Mesh) (a other : ℕ) → b + p ≤ i → Besides w w' b p → Wished w q s i o m a other → Wished w' q s i o m a other
wish_kept w w' q s p b i o m a other h z = wished_kept w w' q s i o m a other z.len (λ j f. z.behind j (omega arith))

module _ (w w' : List ℕ) (q : List Float) (s p k b a other i : ℕ) (o : Wish) (g : Span) (m : Mesh) (region : List Live) (h : CanPick w q s p k b a other i o g m region) (z : Besides w w' b p) where
  pub pick_hand : InHand w' q s p k m (filter (fenced m) region)
  pick_hand = hand_kept w w' q s p k b p m (filter (fenced m) region) h.hand h.from z

  pub pick_wish : Wished w' q s i o m a other
  pick_wish = wish_kept w w' q s p b i o m a other h.to z h.wish

-- what the words told, with the triangles that have no wall gone from the list
module _ (w w1 w2 : List ℕ) (q : List Float) (s p k j n b a other i : ℕ) (o : Wish) (m : Mesh) (region : List Live) (h : CanScan w q s p k n b a other i o m region) (g : Span) (y : MarkedTo w w1 p b m a region g)
    (z : KeptTo w1 w2 q s p j m (filter (fenced m) region)) where
  pub can_pick : Spans m a region g → CanPick w2 q s p j b a other i o g m region
  can_pick f =
      record {
        hand = z.hand;
        end = omega (arith, h.first, h.count);
        from = h.from;
        to = h.to;
        wish = wished_kept w1 w2 q s i o m a other z.only.len (λ u c. z.only.high u (omega (arith, c, h.from, h.to))) (wish_kept w w1 q s p b i o m a other h.to y.besides h.wish);
        spans = f;
        told = λ v c. subst (Told m a region v) (sym (z.only.high (b + v) (omega (arith, h.from)))) (y.told v c);
      }

  pub scanned_from : (w3 : List ℕ) (r : ℕ) (cs : List ℕ) → ScannedTo w2 w3 s p n b r cs → ScannedTo w w3 s p n b r cs
  scanned_from w3 r cs c =
      let t = y.besides in
      let l = z.only in
      let d = c.spare in
      record {
        len = c.len;
        few = c.few;
        stored = c.stored;
        known = c.known;
        spare = record {
          len = d.len ∙ l.len ∙ t.len;
          mesh = λ u e. d.mesh u e ∙ l.low u (omega arith) ∙ t.before u (omega (arith, h.from));
          before = λ u e f. d.before u e f ∙ l.high u (omega arith) ∙ t.before u f;
          behind = λ u e f. d.behind u e f ∙ l.high u (omega (arith, h.from)) ∙ t.behind u e;
        };
      }

-- the words from v on stay where a node comes to place r
pub words_kept : (w₀ w w' : List ℕ) (b r v k : ℕ) (yes : Bool) → r ≤ v → AddedTo w w' b r v yes k → ((u : ℕ) → v ≤ u → get_or w (b + u) 0 ≡ get_or w₀ (b + u) 0) → (u : ℕ) → v + 1 ≤ u
    → get_or w' (b + u) 0 ≡ get_or w₀ (b + u) 0
words_kept w₀ w w' b r v k true h a f u l = ap (λ (x : List ℕ). get_or x (b + u) 0) a.text ∙ off w (b + r) v (b + u) (omega arith) ∙ f u (omega arith)
words_kept w₀ w w' b r v k false h a f u l = ap (λ (x : List ℕ). get_or x (b + u) 0) a.text ∙ f u (omega arith)

-- ---- the whole search

module _ (w w1 : List ℕ) (q : List Float) (s p used n at a other seed k : ℕ) (m : Mesh) (g : List Live) (c : CanChoose w q s p used n at a other seed m) (h : LiveTo w w1 s p k m g) (i : ℕ) (e : i ≡ stack_at s p) where
  -- what is wanted may be listed from the stack on
  pub can_wish : CanList w1 q s p a other i m
  can_wish =
      let l : length w1 ≡ length w = h.scratch.len in
      let f : 64 * s + 8 * p ≤ length w = c.lent.rep.room.fits in
      record {
        rep = scratch_rep w w1 s p m h.scratch c.lent.rep;
        pts = c.lent.pts;
        ends = record { node = omega (arith, c.first, c.count); end = omega (arith, c.second, c.count) };
        from = omega (arith, e);
        to = omega (arith, e, l, f);
      }

  pub can_scan : (w2 : List ℕ) (o : Wish) → WishedTo w1 w2 q s i o m a other → CanScan w2 q s p k n at a other i o m g
  can_scan w2 o z =
      record {
        hand = hand_kept w1 w2 q s p k i (6 * s) m g (in_hand w w1 q s p used k m g c.lent h) (omega (arith, e)) z.besides;
        count = c.count;
        first = c.first;
        second = c.second;
        from = c.from;
        to = omega (arith, e, c.to);
        wish = z.wished;
      }

stored_at : (w : List ℕ) (b : ℕ) (l : List ℕ) (i : ℕ) → i < length l → Stored w b l → get_or w (b + i) 0 ≡ get_or l i 0
stored_at w b [] i h z = absurd (omega (arith, h))
stored_at w b (x ∷ l) zero h z = let e : b + 0 ≡ b = omega arith in ap (λ (j : ℕ). get_or w j 0) e ∙ z.0
stored_at w b (x ∷ l) (suc i) h z = let e : b + suc i ≡ b + 1 + i = omega arith in ap (λ (j : ℕ). get_or w j 0) e ∙ stored_at w (b + 1) l i (omega arith) z.1

pub chosen_to : (w w1 v w2 : List ℕ) (q : List Float) (s p used n at a other seed k r : ℕ) (m : Mesh) (g : List Live) (cs : List ℕ)
    → CanChoose w q s p used n at a other seed m → LiveTo w w1 s p k m g → (i : ℕ) → i ≡ stack_at s p → Besides w1 v i (6 * s) → ScannedTo v w2 s p n at r cs → ChosenTo w w2 s p n at r cs
chosen_to w w1 v w2 q s p used n at a other seed k r m g cs c h j e y z =
    let b = z.spare in
    let l3 : length v ≡ length w1 = y.len in
    let sc = h.scratch in
    let l1 : length w1 ≡ length w = sc.len in
    let l2 : length w2 ≡ length v = b.len in
    let rn : r ≡ length cs = z.len in
    let np : n ≤ p = omega (arith, c.count, c.lent.rep.points) in
    let f : 64 * s + 8 * p ≤ length w = c.lent.rep.room.fits in
    let lo : near_at s p ≤ at = c.from in
    let hi : at + p ≤ stack_at s p = c.to in
    let fw : r ≤ n = z.few in
    record {
      len = rn;
      few = fw;
      are = ap (λ (j : ℕ). take j (drop at w2)) rn ∙ stored_take w2 at cs (omega arith) z.stored;
      below = λ i x. subst (λ (j : ℕ). j < n) (sym (stored_at w2 at cs i (omega arith) z.stored)) (below_at n cs i z.known (omega arith));
      spare = record {
        len = l2 ∙ l3 ∙ l1;
        mesh = λ i x. b.mesh i x ∙ y.before i (omega arith) ∙ sc.mesh i x;
        before = λ i x d. b.before i x d ∙ y.before i (omega arith) ∙ sc.rest i x (omega arith);
        behind = λ i x d. b.behind i x d ∙ y.before i (omega arith) ∙ sc.rest i (omega arith) d;
      };
    }
