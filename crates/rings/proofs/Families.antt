-- All rings at once: a code comes into one of them, or goes.
use Rattle.std.specs.Prelude.{◌≡◌, ◌≢◌, ◌+◌, ◌<◌, ◌≤◌, ◌∷◌, ◌++◌}
use Rattle.laws.specs.Kit.{◌∙◌, subst, Bool, true, false, ℕ, arith, eqb, eq-eqb, ne_eqb, List, [], append-nil, length, get_or}
use Rattle.rings.specs.Rings.{nx, pv, Linked, Out, Below, Ring, LinkedTo, UnlinkedFrom, OpenedFrom, CanLink, CanUnlink, CanOpen, Family, pick, more, less}
use Rattle.rings.proofs.Lists.{Same, same, differ, decide, below_append, below_without, out_append}
use Rattle.rings.proofs.Chains.{both}
use Rattle.rings.proofs.Rings.{last_below}

pub below_out : (n t : ℕ) (l : List ℕ) → Below n l → n ≤ t → Out t l
below_out n t [] h k = tt
below_out n t (x ∷ l) h k = ((λ e. omega (arith, h.0)), below_out n t l h.1 k)

pub pick_below : (n c : ℕ) (b : Bool) → c < n → Below n (pick b c)
pick_below n c true h = (h, tt)
pick_below n c false h = tt

pub pick_out : (x c : ℕ) (b : Bool) → c ≢ x → Out x (pick b c)
pick_out x c true h = (h, tt)
pick_out x c false h = tt

pub more_out : (R : ℕ → List ℕ) (x c a : ℕ) → c ≢ x → ((v : ℕ) → Out x (R v)) → (v : ℕ) → Out x (more R c a v)
more_out R x c a h o v = out_append x (R v) (pick (eqb a v) c) (o v) (pick_out x c (eqb a v) h)

pub near : (f g : ℕ → ℕ) (n : ℕ) (l : List ℕ) (a z c : ℕ) → Linked f g a l z → a < n → z < n → Below n l → (Out c l → ⊥) → (f c < n) × (g c < n)
near f g n [] a z c h an zn b i = absurd (i tt)
near f g n (x ∷ l) a z c h an zn b i = go (decide x c) (λ j. near f g n l x z c h.2 b.0 zn b.1 j)
  where
    front : (k : List ℕ) → Linked f g x k z → Below n k → f x < n
    front [] r q = rw r.0 zn
    front (y ∷ k) r q = rw r.0 q.0

    go : Same x c → ((Out c l → ⊥) → (f c < n) × (g c < n)) → (f c < n) × (g c < n)
    go (same e) r = rw (← e) ((front l h.2 b.1, rw h.1 an))
    go (differ e) r = r (λ o. i (e, o))

pub opened : (w w' : List ℕ) (b n t : ℕ) → CanOpen w b n t → OpenedFrom w w' b n t → Family w' b n t (λ v. [])
opened w w' b n t h o =
    record {
      fits = omega (arith, h.fits, o.kept.len);
      small = h.small;
      rings = λ v vn. o.empty (t + v) (omega arith) vn;
      below = λ v. tt;
    }

-- the same rings, of lists that are equal
pub same_rings : (w : List ℕ) (b n t : ℕ) (R S : ℕ → List ℕ) → ((v : ℕ) → R v ≡ S v) → Family w b n t R → Family w b n t S
same_rings w b n t R S e k =
    record { fits = k.fits; small = k.small; rings = λ v h. rw (← e v) (k.rings v h); below = λ v. rw (← e v) (k.below v) }

module _ (w : List ℕ) (b n t : ℕ) (R : ℕ → List ℕ) (k : Family w b n t R) where
  pub can_link : (c a : ℕ) → c < t → t + a < n → CanLink w b n c (t + a)
  can_link c a h g =
      let r = k.rings a g in
      record {
        fits = k.fits;
        small = k.small;
        code = omega arith;
        sentinel = g;
        last = last_below (nx w b) (pv w b n) n (R a) (t + a) (t + a) r.linked r.here r.below;
      }

  pub linked : (w' : List ℕ) (c a : ℕ) → c < t → t + a < n → ((v : ℕ) → Out c (R v)) → LinkedTo w w' b n c (t + a) → Family w' b n t (more R c a)
  linked w' c a h g o q =
      record {
        fits = omega (arith, k.fits, q.kept.len);
        small = k.small;
        rings = λ v vp. go v vp (decide a v);
        below = λ v. below_append t (R v) (pick (eqb a v) c) (k.below v) (pick_below t c (eqb a v) h);
      }
    where
      go : (v : ℕ) → t + v < n → Same a v → Ring w' b n (t + v) (R v ++ pick (eqb a v) c)
      go v vp (same e) =
          rw (eq-eqb a v e) (subst (λ (x : ℕ). Ring w' b n (t + x) (R x ++ c ∷ [])) e (q.own (R a) (k.rings a g) (o a) (omega arith)))
      go v vp (differ e) =
          rw (ne_eqb a v e, append-nil (R v))
          (q.other (R a) (k.rings a g) (o a) (omega arith) (R v) (t + v) (k.rings v vp) (omega arith) (below_out t (t + a) (R v) (k.below v) (omega arith)) (o v) (omega arith))

  pub can_unlink : (c a : ℕ) → c < t → t + a < n → (Out c (R a) → ⊥) → CanUnlink w b n c
  can_unlink c a h g i =
      let r = k.rings a g in
      let f = nx w b in
      let q = pv w b n in
      let m = near f q n (R a) (t + a) (t + a) c r.linked r.here r.here r.below i in
      let d = both f q (R a) (t + a) (t + a) c r.linked i in
      record { fits = k.fits; code = omega arith; next = m.0; prev = m.1; back = d.0; forth = d.1 }

  pub unlinked : (w' : List ℕ) (c : ℕ) → c < t → UnlinkedFrom w w' b n c → Family w' b n t (less R c)
  unlinked w' c h q =
      record {
        fits = omega (arith, k.fits, q.kept.len);
        small = k.small;
        rings = λ v vp. q.rings (R v) (t + v) (k.rings v vp) (omega arith);
        below = λ v. below_without c t (R v) (k.below v);
      }

-- ---- what stays where only other words change

linked_kept : (f g f' g' : ℕ → ℕ) (n : ℕ) → ((i : ℕ) → i < n → f' i ≡ f i) → ((i : ℕ) → i < n → g' i ≡ g i)
    → (l : List ℕ) (a z : ℕ) → a < n → z < n → Below n l → Linked f g a l z → Linked f' g' a l z
linked_kept f g f' g' n p q [] a z ha hz b h = (p a ha ∙ h.0, q z hz ∙ h.1)
linked_kept f g f' g' n p q (x ∷ l) a z ha hz b h = (p a ha ∙ h.0, q x b.0 ∙ h.1, linked_kept f g f' g' n p q l x z b.0 hz b.1 h.2)

-- the words of the rings are the same
abbrev pub SameIn : List ℕ → List ℕ → ℕ → ℕ → Type 0
SameIn w w' b n = (i : ℕ) → b ≤ i → i < b + n + n → get_or w' i 0 ≡ get_or w i 0

pub ring_kept : (w w' : List ℕ) (b n t : ℕ) (l : List ℕ) → SameIn w w' b n → Ring w b n t l → Ring w' b n t l
ring_kept w w' b n t l k r =
    record {
      linked = linked_kept (nx w b) (pv w b n) (nx w' b) (pv w' b n) n (λ i h. k (b + i) (omega arith) (omega arith)) (λ i h. k (b + n + i) (omega arith) (omega arith))
          l t t r.here r.here r.below r.linked;
      distinct = r.distinct;
      below = r.below;
      apart = r.apart;
      here = r.here;
    }

pub family_kept : (w w' : List ℕ) (b n t : ℕ) (R : ℕ → List ℕ) → length w' ≡ length w → SameIn w w' b n → Family w b n t R → Family w' b n t R
family_kept w w' b n t R e k f =
    record {
      fits = omega (arith, f.fits);
      small = f.small;
      rings = λ v h. ring_kept w w' b n (t + v) (R v) k (f.rings v h);
      below = f.below;
    }
