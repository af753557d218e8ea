-- The ideals kept, and an end's candidates tested by them.
use Rattle.std.specs.Prelude.{◌≡◌, ◌+◌, ◌*◌, ◌<◌, ◌≤◌}
use Rattle.laws.specs.Kit.{refl, sym, ◌∙◌, ap, subst, Bool, true, false, false≢true, ℕ, arith, dec_le, List, length, get_or, Float}
use native.Mathlib.Nat.{lt_of_not-le}
use Rattle.rings.proofs.Lists.{Same, same, differ, decide}
use Rattle.definition.specs.Floats.{◌≼◌}
use Rattle.definition.specs.Numbers.{Turn, tiny_length}
use Rattle.definition.specs.Plane.{Vec, norm, over}
use Rattle.definition.specs.Cells.{Mesh}
use Rattle.definition.specs.Candidates.{toward, turned}
use Rattle.cells.proofs.Points.{node_within}
use Rattle.cells.specs.Rep.{Pts}
use Rattle.plane.specs.Vectors.{vec}
use Rattle.edge_candidates.specs.Wanted.{near, wanted_by, every, gives, near_ideal}
use Rattle.edge_candidates.specs.Wishes.{ideal_from, Listed, CanList, Kept, ListedTo, CanTest, Wished, WishedTo, Tested, kept_test, node_test}
use Rattle.edge_candidates.specs.declared.wishes.Wish.{Wish}
use Rattle.edge_candidates.specs.declared.wishes.Found.{Found}
use Rattle.edge_candidates.proofs.Keeping.{vec_kept, numbers_kept}
use Rattle.edge_candidates.proofs.Halves.{gives_passes, gives_none, ideal_read}
use Rattle.edge_candidates.proofs.Closes.{some_hit, some_none, near_some, near_other, near_turned}

-- ---- what stays

pub listed_kept : (w w' : List ℕ) (b r : ℕ) (m : Mesh) (a other : ℕ) (u : Vec) → ((i : ℕ) → i < r → get_or w' (b + i) 0 ≡ get_or w (b + i) 0) → Listed w b r m a other u → Listed w' b r m a other u
listed_kept w w' b r m a other u h k =
    record {
      known = λ i l. subst (λ (x : ℕ). x < length m.points) (sym (h i l)) (k.known i l);
      each = λ i l. subst (λ (x : ℕ). gives m a other u x ≡ true) (sym (h i l)) (k.each i l);
      all = λ v e. let z = k.all v e in record { i = z.i; inside = z.inside; is = h z.i z.inside ∙ z.is };
    }

-- the wish stays where the words from b on do
pub wished_kept : (w w' : List ℕ) (q : List Float) (s b : ℕ) (o : Wish) (m : Mesh) (a other : ℕ) → length w' ≡ length w → ((i : ℕ) → b ≤ i → get_or w' i 0 ≡ get_or w i 0)
    → Wished w q s b o m a other → Wished w' q s b o m a other
wished_kept w w' q s b o m a other l h z =
    record {
      ends = z.ends;
      near = z.near;
      unit = z.unit;
      to = omega (arith, l, z.to);
      few = z.few;
      some = z.some;
      listed = listed_kept w w' b o.count m a other (vec o.unit) (λ i e. h (b + i) (omega arith)) z.listed;
      kept = record {
        few = z.kept.few;
        numbers = λ i e. numbers_kept w w' (b + 2 * s + 4 * i) (λ j f g. h j (omega arith)) (z.kept.numbers i e);
        each = λ i e. vec_kept w w' (b + 2 * s + 4 * i) (λ j f g. h j (omega arith)) ∙ z.kept.each i e ∙ ap (ideal_from q a (vec o.unit)) (sym (h (b + i) (omega arith)));
      };
    }

-- ---- the wish

pub wished_to : (w w1 : List ℕ) (q : List Float) (s p a other b : ℕ) (m : Mesh) (o : Wish) (g : Found) → CanList w q s p a other b m
    → o.near ≡ (norm (toward m a other) ≼ tiny_length) → vec o.unit ≡ over (toward m a other) (norm (toward m a other))
    → o.count ≡ g.count → o.kept ≡ g.kept → ListedTo w w1 q s b g m a other (vec o.unit) → WishedTo w w1 q s b o m a other
wished_to w w1 q s p a other b m o g c n e eg ek l =
    record {
      wished = record {
        ends = c.ends;
        near = n;
        unit = e;
        to = omega (arith, l.besides.len, c.to);
        few = omega (arith, l.few, eg);
        some = omega (arith, l.some, eg, ek);
        listed = subst (λ (r : ℕ). Listed w1 b r m a other (vec o.unit)) (sym eg) l.listed;
        kept = subst (λ (r : ℕ). Kept w1 q s a (vec o.unit) b r) (sym ek) l.kept;
      };
      besides = l.besides;
    }

-- ---- a test of some

pub tested_hit : (f : ℕ → Bool) (k r i : ℕ) → k ≤ i → i < r → f i ≡ true → Tested f k r true
tested_hit f k r i a b e = record { hit = λ y. record { i = i; from = a; to = b; is = e }; miss = λ y. absurd (false≢true (sym y)) }

pub tested_miss : (f : ℕ → Bool) (k r : ℕ) → ((i : ℕ) → k ≤ i → i < r → f i ≡ false) → Tested f k r false
tested_miss f k r h = record { hit = λ y. absurd (false≢true y); miss = λ y. h }

-- one more that fails
pub fails_more : (f : ℕ → Bool) (k i : ℕ) → ((j : ℕ) → k ≤ j → j < i → f j ≡ false) → f i ≡ false → (j : ℕ) → k ≤ j → j < i + 1 → f j ≡ false
fails_more f k i h e j a b = go (decide j i)
  where
    go : Same j i → f j ≡ false
    go (same d) = ap f d ∙ e
    go (differ d) = h j a (omega arith)

-- ---- near an ideal

module _ (w : List ℕ) (q : List Float) (s p b : ℕ) (o : Wish) (m : Mesh) (a other : ℕ) (pts : Pts q p m) (z : Wished w q s b o m a other) where
  pub wish_test : CanTest w q a b o.count
  wish_test =
      record {
        fits = omega (arith, z.few, z.to);
        node = node_within q p m pts a z.ends.node;
        nodes = λ i h. node_within q p m pts (get_or w (b + i) 0) (z.listed.known i h);
      }

  module _ (t : Turn) (e : Vec) where
    passes : (i : ℕ) → i < o.count → wanted_by (near e) m a other (vec o.unit) (get_or w (b + i) 0) ≡ node_test w q a (vec o.unit) b e i
    passes i h =
        gives_passes m a other (vec o.unit) (get_or w (b + i) 0) (near e) (z.listed.each i h)
        ∙ ap (near e) (sym (ideal_read q p m pts a (get_or w (b + i) 0) (record { node = z.ends.node; end = z.listed.known i h }) (vec o.unit)))

    pub near_alone : o.count ≡ 0 → near_ideal t m a other (vec o.unit) e ≡ near e (turned t (vec o.unit))
    near_alone h = near_turned t m a other (vec o.unit) e (some_none every m a other (vec o.unit) (λ v. go v (gives m a other (vec o.unit) v) refl))
      where
        go : (v : ℕ) (y : Bool) → gives m a other (vec o.unit) v ≡ y → gives m a other (vec o.unit) v ≡ false
        go v true g = let k = z.listed.all v g in absurd (omega (arith, k.inside, h))
        go v false g = g

    hit : (i : ℕ) → i < o.count → node_test w q a (vec o.unit) b e i ≡ true → near_ideal t m a other (vec o.unit) e ≡ true
    hit i h y = near_some t m a other (vec o.unit) e (some_hit (near e) m a other (vec o.unit) (get_or w (b + i) 0) (z.listed.known i h) (passes i h ∙ y))

    miss : 0 < o.count → ((i : ℕ) → i < o.count → node_test w q a (vec o.unit) b e i ≡ false) → near_ideal t m a other (vec o.unit) e ≡ false
    miss h y =
        near_other t m a other (vec o.unit) e (some_none (near e) m a other (vec o.unit) (λ v. go v (gives m a other (vec o.unit) v) refl))
        (some_hit every m a other (vec o.unit) (get_or w (b + 0) 0) (z.listed.known 0 h) (z.listed.each 0 h))
      where
        go : (v : ℕ) (g : Bool) → gives m a other (vec o.unit) v ≡ g → wanted_by (near e) m a other (vec o.unit) v ≡ false
        go v true g =
            let k = z.listed.all v g in
            subst (λ (x : ℕ). wanted_by (near e) m a other (vec o.unit) x ≡ false) k.is (passes k.i k.inside ∙ y k.i k.inside)
        go v false g = gives_none m a other (vec o.unit) v (near e) g

    kept_is : (i : ℕ) → i < o.kept → kept_test w (b + 2 * s) e i ≡ node_test w q a (vec o.unit) b e i
    kept_is i h = ap (near e) (z.kept.each i h)

    pub near_kept : Tested (kept_test w (b + 2 * s) e) 0 o.kept true → true ≡ near_ideal t m a other (vec o.unit) e
    near_kept k = let y = k.hit refl in sym (hit y.i (omega (arith, y.to, z.some)) (sym (kept_is y.i y.to) ∙ y.is))

    pub near_rest : (y : Bool) → 0 < o.count → Tested (kept_test w (b + 2 * s) e) 0 o.kept false → Tested (node_test w q a (vec o.unit) b e) o.kept o.count y
        → y ≡ near_ideal t m a other (vec o.unit) e
    near_rest true h k r = let y = r.hit refl in sym (hit y.i y.to y.is)
    near_rest false h k r =
        sym (miss h (λ i l. elim (dec_le o.kept i) [
          | yes g ↦ r.miss refl i g l
          | no g ↦ let n : i < o.kept = lt_of_not-le g in sym (kept_is i n) ∙ k.miss refl i (omega arith) n
        ]))
